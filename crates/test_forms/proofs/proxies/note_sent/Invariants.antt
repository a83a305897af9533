use Rattle.std.proofs.Common.{◌≡◌, ◌++◌, map, take, drop}
use Rattle.dds_writer.specs.Proxies.{after_message}
use Rattle.dds_writer.specs.History.{is_silent_in}
use Rattle.test_forms.proofs.proxies.note_sent.Given as goal

abbrev pub invariant-loop-proxy : goal.invariant-loop-proxy
invariant-loop-proxy l =
    l.proxies ≡ map (after_message l.reader (is_silent_in l.kept l.me l.low l.written) l.sn) (take l.proxy-index l.initial.proxies) ++ drop l.proxy-index l.initial.proxies
