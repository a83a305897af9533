use Rattle.std.proofs.Common.{◌≡◌, Some, min, sym, ap, ◌∙◌}
use Rattle.std.specs.Option.{option_map_or}
use Rattle.dds_match.specs.Plan.{network_of}
use Rattle.dds_propose.specs.Bounds.{least_counted}
use Rattle.dds_propose.specs.Tables.{cell}
use Rattle.dds_propose.specs.Targets.{counts, reader_of}
use Rattle.dds_propose.proofs.Least.{least_none, least_same, least_more}
use Rattle.dds_propose.proofs.bounds.least_sample.Goals as goal
use Rattle.dds_propose.proofs.bounds.least_sample.Goals.{then-counts, else-counts}

pub loop-k-init : goal.loop-k-init
loop-k-init c = sym (least_none _ _)

pub loop-k-preserved : goal.loop-k-preserved
loop-k-preserved c =
    let counted = counts (network_of c.args.plan.now) c.args.target.now in
    let weight = cell c.args.weights.now.samples (reader_of c.args.target.now) in
    let k = c.loop-k.k in
    let known : counted k ≡ c.counts.result = ap counted (sym c.new-key.ensures) ∙ sym c.counts.ensures in
    elim c.if-counts.branch [
      | then-counts w ↦
          let weighs : w.at.result ≡ weight k = w.at.ensures ∙ (ap (λ r. cell c.args.weights.now.samples r c.new-key.result) w.reader.ensures ∙ ap weight c.new-key.ensures) in
          w.least-is ∙ (ap Some (w.lesser.ensures ∙ (ap (λ o. option_map_or (λ other. min other w.at.result) o w.at.result) c.loop-k.invariant ∙ ap (λ n. option_map_or (λ other. min other n) (least_counted counted weight k) n) weighs))
          ∙ sym (least_more counted weight k (known ∙ w.if-counts.true)))
      | else-counts w ↦ w.least-is ∙ (c.loop-k.invariant ∙ sym (least_same counted weight k (known ∙ w.if-counts.false)))
    ]
