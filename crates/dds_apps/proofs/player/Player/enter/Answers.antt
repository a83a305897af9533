use Rattle.std.proofs.Common.{Some, ◌+◌, ap, sym, ◌∙◌, arith}
use Rattle.dds_apps.proofs.KeptLaws.{done_more, count_more, count_low}
use Rattle.dds_apps.proofs.player.Player.enter.Goals as goal

pub unreachable-requires : goal.unreachable-requires
unreachable-requires g c =
    let call = c.in_ok-reply.ensures in
    let low = count_low g.N.Name.plan c.args.self.now.seat c.call.new.seat c.args.event c.in_ok-reply.reply call.number call.call in
    let full = c.in_default.ensures.full in
    let is = c.requires.counted.count in
    omega arith

pub returns-clause-counted : goal.returns-clause-counted
returns-clause-counted g c =
    let call = c.in_ok-reply.ensures in
    let more = count_more g.N.Name.plan c.args.self.now.seat c.call.new.seat c.args.event c.in_ok-reply.reply call.number call.call in
    let seat = c.in-Ok.ensures.seat in
    let was = c.requires.counted in record {
      gauge = ap (λ s. s.table) seat ∙ was.gauge;
      owner = ap (λ s. s.owner) seat ∙ was.owner ∙ ap Some (sym call.number);
      count = ap (λ s. s.count) seat ∙ c.in-Ok.ensures.count ∙ ap (λ n. n + 1) was.count ∙ sym more;
    }

pub returns-clause-done : goal.returns-clause-done
returns-clause-done g c =
    let call = c.in_ok-reply.ensures in
    done_more g.N.Name.plan c.args.self.now.seat c.call.new.seat c.args.event c.in_ok-reply.reply call.number call.call
