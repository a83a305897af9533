use Rattle.std.proofs.Common.{◌≡◌, ◌++◌, map, take, drop}
use Rattle.dds_reader.specs.Notes.{hears_one}
use Rattle.test_forms.proofs.notes.hear_all.Given as goal

abbrev pub invariant-loop-proxy : goal.invariant-loop-proxy
invariant-loop-proxy l =
    l.proxies ≡ map (hears_one l.writer l.last) (take l.proxy-index l.initial.proxies) ++ drop l.proxy-index l.initial.proxies
