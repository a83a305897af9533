use Rattle.std.proofs.Common.{◌≡◌, Vec, Global, length, sym, ap, ◌∙◌, arith}
use Rattle.dds_match.specs.Plan.{network_of}
use Rattle.dds_weights.specs.declared.certificate.Row.{Row as CodeRow}
use Rattle.dds_propose.specs.Tables.{row_of}
use Rattle.dds_propose.proofs.Proposals.{with_row}
use Rattle.dds_propose.proofs.proposer.add_target.Goals as goal

pub returns : goal.returns
returns c = λ e.
    let net = network_of c.args.plan.now in
    let old = c.args.certificate.now in
    let new = c.add_bound.new.certificate in
    let row = row_of c.in-Some.found.weights in
    let place : c.len-row.result ≡ length old.rows.items = omega arith in
    let pushed = ap (λ (v : Vec CodeRow Global). v.items) c.in_ok-add_bound.ensures.rows ∙ c.in_ok-push.ensures.items in
    record {
      row = row;
      number = c.in-Some.found.bound;
      found = rw c.in-Some.is at c.in_ok-found.ensures;
      added = with_row net c.args.target.now row c.in-Some.found.bound c.len-row.result old.rows.items new.rows.items c.in_ok-listed_row.field-0 old.bounds.items new.bounds.items old.totals.items new.totals.items
          place pushed c.in_ok-listed_row.ensures c.in_ok-add_bound.ensures.bounds c.in_ok-add_bound.ensures.totals;
    }
