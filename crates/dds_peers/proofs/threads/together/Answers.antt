use denote.Param.Send.{sendable}
use Rattle.dds_peers.proofs.threads.together.Goals as goal

pub scoped-requires : goal.scoped-requires
scoped-requires g c =
    let p = c.requires.playing in
    let d = c.requires.done in record { at = λ s. ((p.0, p.1, d.0, d.1, c.requires.carrying, c.requires.players, c.requires.numbers), search sendable depth 20) }
