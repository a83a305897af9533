use Rattle.std.proofs.Common.{◌≡◌, ◌++◌, map, take, drop}
use Rattle.dds_reader.specs.Notes.{pays_one}
use Rattle.test_forms.proofs.notes.pay_all.Given as goal

abbrev pub invariant-loop-proxy : goal.invariant-loop-proxy
invariant-loop-proxy l =
    l.proxies ≡ map (pays_one l.writer) (take l.proxy-index l.initial.proxies) ++ drop l.proxy-index l.initial.proxies
