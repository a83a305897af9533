use Rattle.std.proofs.Common.{[], ◌∷◌}
use Rattle.dds_answers.specs.Opened.{OpensAll}
use Rattle.dds_tool.proofs.Ending.{if_answered, one_causes, one_opens}
use Rattle.dds_tool.proofs.commands.answer_of.Goals as goal

pub returns-in-One-clause-gives : goal.returns-in-One-clause-gives
returns-in-One-clause-gives g c = rw c.in-One.is c.answer_one.ensures.gives

pub returns-in-One-clause-causes : goal.returns-in-One-clause-causes
returns-in-One-clause-causes g c = one_causes (g.S.Sources.has_failed c.answer_one.new.files) c.args.request c.answer_one.result c.answer_one.ensures.causes

pub returns-in-One-clause-opened : goal.returns-in-One-clause-opened
returns-in-One-clause-opened g c =
    rw c.in-One.is (one_opens (g.S.Sources.opened c.args.files.now) (g.S.Sources.opened c.answer_one.new.files) c.in-One.deployment.now c.answer_one.ensures.opened)

pub returns-in-One-clause-all_opened : goal.returns-in-One-clause-all_opened
returns-in-One-clause-all_opened g c =
    rw c.in-One.is
    (if_answered (OpensAll (g.S.Sources.opened c.args.files.now) (g.S.Sources.opened c.answer_one.new.files) (c.in-One.deployment.now ∷ [])) c.answer_one.result c.answer_one.ensures.opened)

pub returns-in-Two-clause-gives : goal.returns-in-Two-clause-gives
returns-in-Two-clause-gives g c = rw c.in-Two.is c.answer_two.ensures.gives

pub returns-in-Two-clause-causes : goal.returns-in-Two-clause-causes
returns-in-Two-clause-causes g c = rw c.in-Two.is c.answer_two.ensures.causes

pub returns-in-Two-clause-opened : goal.returns-in-Two-clause-opened
returns-in-Two-clause-opened g c = rw c.in-Two.is c.answer_two.ensures.opened

pub returns-in-Two-clause-all_opened : goal.returns-in-Two-clause-all_opened
returns-in-Two-clause-all_opened g c = rw c.in-Two.is c.answer_two.ensures.all_opened
