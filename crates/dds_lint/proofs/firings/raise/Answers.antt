use Rattle.std.proofs.Common.{◌≡◌, ◌∙◌, ◌+◌, ◌-◌, ◌*◌, ap, ap₂, arith, slice_index, sym}
use Rattle.dds_match.specs.Plan.{network_of}
use Rattle.dds_lint.specs.Firings.{capped, rounds, sends}
use Rattle.dds_lint.proofs.FiringLaws.{raised_at, rounds_more}
use Rattle.dds_lint.proofs.firings.raise.Goals as goal

pub overflow_sub-times : goal.overflow_sub-times
overflow_sub-times c =
    let more = rounds_more (network_of c.args.plan.now) c.args.rule c.args.from c.args.to c.requires.more in
    let one = c.rounds-after.ensures in
    let two = c.rounds-before.ensures in
    omega (arith, more, one, two)

pub returns : goal.returns
returns c = λ old new was is others shows.
    let net = network_of c.args.plan.now in
    let times : c.rounds-after.result - c.rounds-before.result ≡ rounds net c.args.rule (new c.args.rule) - rounds net c.args.rule (old c.args.rule) =
    ap₂ (λ a b. a - b) (c.rounds-after.ensures ∙ ap (rounds net c.args.rule) (sym is)) (c.rounds-before.ensures ∙ ap (rounds net c.args.rule) (sym was)) in
    record {
      len = c.add.ensures.len;
      shown = λ r k inside low. raised_at net old new c.args.rule r k (slice_index c.add.new.cells (r * 64 + k)) (slice_index c.args.cells.now (r * 64 + k)) c.requires.rule
          (let more = c.requires.more in omega (arith, was, is, more)) others
          (c.add.ensures.added r k inside low ∙ ap (λ t. capped (slice_index c.args.cells.now (r * 64 + k) + sends net r k c.args.rule * t)) times) (shows.shown r k inside low);
    }
