use Rattle.std.proofs.Common.{◌+◌, ◌*◌, ◌^◌, ◌<◌, drop, get_or, length, not, None, refl, ◌∙◌, sym, ap, arith}
use Rattle.std.specs.Prelude.{◌==◌}
use Rattle.std.proofs.lemmas.List.{length-set}
use Rattle.dds_runs.specs.First.{is_empty}
use Rattle.dds_check.proofs.Permitted.{flipped, most_more, most_weaker, other_endpoint, past_key, portion_added, portion_next, portion_passed, with_portions, within_some}
use Rattle.dds_check.proofs.permits.add_rule.Goals as goal
use Rattle.dds_check.proofs.permits.add_rule.Goals.{then-eq+then-key-lt-KEYS, else-eq, else-eq-via-then-eq+else-key-lt-KEYS, else-eq-via-else-eq}

pub with_portion-requires : goal.with_portion-requires
with_portion-requires c =
    let size = ap length c.deref-portion-items.ensures.value in
    within_some c.loop-portion.cells c.number-key.result (2 ^ 44 + c.loop-portion.portion-index * 2 ^ 32) (2 ^ 45) (omega arith) (c.loop-portion.invariant.small (2 ^ 44) c.requires.small)

pub loop-portion-preserved : goal.loop-portion-preserved
loop-portion-preserved c =
    let takes = not (is_empty c.args.rule.now.takes.items) in
    let start = c.args.rule.now.start in
    let w = c.args.writer in
    let xs = c.args.rule.now.writes.items in
    let i = c.loop-portion.portion-index in
    let e = c.portion-item.result in
    let old = c.loop-portion.cells in
    let n = c.number-key.result in
    let size = ap length c.deref-portion-items.ensures.value in
    let whole = c.loop-portion.invariant.size in
    let next = portion_next xs i e (omega arith) (c.portion-item.is ∙ ap (λ ys. get_or ys i e) c.deref-portion-items.ensures.value) in
    elim c.if-eq.branch [
      | then-eq+then-key-lt-KEYS b ↦ (
          let below : n < 64 = b.if-key-lt-KEYS.true in
          let within : n < length old = omega arith in
          record {
            size = ap length b.cells-is ∙ length-set old n b.with_portion.result ∙ whole;
            each = λ k low. portion_added takes start w n k e (drop (i + 1) xs) old c.if-eq.cells b.with_portion.result (sym b.if-eq.ensures) c.number-key.ensures within b.cells-is
                (b.with_portion.ensures.value ∙ flipped (is_empty c.args.rule.now.takes.items) _)
                ∙ sym (ap (λ ys. with_portions takes start ys w k (get_or old k None)) next) ∙ c.loop-portion.invariant.each k low;
            small = λ most few. most_weaker c.if-eq.cells c.if-eq.cells (most + i * 2 ^ 32 + 2 ^ 32) (most + (i + 1) * 2 ^ 32) refl (omega arith)
                (most_more old c.if-eq.cells n (most + i * 2 ^ 32) (most + i * 2 ^ 32 + 2 ^ 32) b.with_portion.result within b.cells-is
                (b.with_portion.ensures.small (most + i * 2 ^ 32) (within_some old n (most + i * 2 ^ 32) (most + i * 2 ^ 32) (omega arith) (c.loop-portion.invariant.small most few)))
                (omega arith) (c.loop-portion.invariant.small most few));
          })
      | else-eq b ↦ record {
        size = ap length b.cells-is ∙ whole;
        each = λ k low. portion_passed takes start w k e (drop (i + 1) xs) old c.if-eq.cells b.cells-is
            (elim b.else-eq.branch [
              | else-eq-via-then-eq+else-key-lt-KEYS x ↦ past_key (e.endpoint == w) e.key k (let past = x.if-key-lt-KEYS.false in let number = c.number-key.ensures in omega arith) low
              | else-eq-via-else-eq x ↦ other_endpoint (e.endpoint == w) (e.key == k) (sym x.if-eq.ensures)
            ])
            ∙ sym (ap (λ ys. with_portions takes start ys w k (get_or old k None)) next) ∙ c.loop-portion.invariant.each k low;
        small = λ most few. most_weaker old c.if-eq.cells (most + i * 2 ^ 32) (most + (i + 1) * 2 ^ 32) b.cells-is (omega arith) (c.loop-portion.invariant.small most few);
      }
    ]

pub returns-clause-small : goal.returns-clause-small
returns-clause-small c = λ most few.
    let size = ap length c.deref-portion-items.ensures.value in
    most_weaker c.loop-portion.cells c.loop-portion.cells (most + c.loop-portion.portion-index * 2 ^ 32) (most + 2 ^ 36) refl (omega arith) (c.loop-portion.invariant.small most few)
