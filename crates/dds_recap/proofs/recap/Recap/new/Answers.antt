use Rattle.dds_recap.proofs.Following.{opening_followed}
use Rattle.dds_recap.proofs.recap.Recap.new.Goals as goal

pub returns-clause-follows : goal.returns-clause-follows
returns-clause-follows c = λ net.
    opening_followed net (record { keys = c.new.result; places = c.new-2.result; by_key = c.new-3.result; in_all = c.new-4.result; taken = c.new-5.result; spent = c.new-6.result }) c.new.ensures.empty
    c.new-2.ensures.empty c.new-3.ensures.came c.new-3.ensures.gone c.new-4.ensures.came c.new-4.ensures.gone c.new-5.ensures c.new-6.ensures
