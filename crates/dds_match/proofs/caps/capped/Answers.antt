use Rattle.std.proofs.Common.{◌≡◌, length, ap, ◌∙◌, arith}
use Rattle.dds_match.specs.Network.{matched_writers}
use Rattle.dds_match.specs.Neighbours.{list_at}
use Rattle.dds_match.specs.Plan.{network_of}
use Rattle.dds_match.specs.Sums.{sum_of}
use Rattle.dds_match.proofs.Capped.{sum_matched, few_matched}
use Rattle.dds_match.proofs.caps.capped.Goals as goal

pub sum_of-requires-clause-few : goal.sum_of-requires-clause-few
sum_of-requires-clause-few c =
    let net = network_of c.args.lists.now in
    let listed : c.list_at-writers.result.now ≡ matched_writers net c.args.r = c.list_at-writers.ensures ∙ ap (λ ls. list_at ls c.number.result) c.deref.ensures.value ∙ c.requires.neighbours.writers_of c.number.result ∙ ap (matched_writers net) c.number.ensures in
    let few = few_matched net c.args.r in
    let same = ap length listed in
    let within = c.requires.well_formed.writers.few in
    omega (arith, same, few, within)

pub returns : goal.returns
returns c =
    let net = network_of c.args.lists.now in
    let listed : c.list_at-writers.result.now ≡ matched_writers net c.args.r = c.list_at-writers.ensures ∙ ap (λ ls. list_at ls c.number.result) c.deref.ensures.value ∙ c.requires.neighbours.writers_of c.number.result ∙ ap (matched_writers net) c.number.ensures in
    c.sum_of.ensures ∙ ap (sum_of (λ w. net.cap w c.args.r c.args.key)) listed ∙ sum_matched net c.args.r c.args.key
