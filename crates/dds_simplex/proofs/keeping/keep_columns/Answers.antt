use Rattle.std.proofs.Common.{rules, ◌≡◌, ◌<◌, int_lt, pos, get_or, length, true, false, ap, sym, ◌∙◌}
use Rattle.dds_simplex.proofs.Kept.{below, not_below, kept_next, dropped_next, rest_after, rest_after_set}
use Rattle.dds_simplex.proofs.keeping.keep_columns.Goals as goal
use Rattle.dds_simplex.proofs.keeping.keep_columns.Goals.{then-number-ge0, else-number-ge0}

pub loop-column-preserved : goal.loop-column-preserved
loop-column-preserved g c =
    let sum = c.args.sum.now.numbers.items in
    let old = c.args.items.now.items in
    let now = c.loop-column.items.items in
    let column = c.loop-column.column in
    let kept = c.loop-column.kept in
    let before = c.loop-column.invariant in
    let within : column < length now = search rules in
    let inside : column < length old = search rules in
    let len : length now ≡ length old = search rules in
    elim c.if-number-ge0.branch [
      | then-number-ge0 w ↦
          let stays : int_lt (get_or sum column (pos 0)) (pos 0) ≡ false = ap (λ z. int_lt z (pos 0)) (sym c.number.ensures) ∙ not_below c.number.result (search rules) in
          let item = w.index.result.now in
          rw (w.items-is, w.kept-is) (record {
            place = search rules;
            len = search rules;
            first = kept_next sum old now kept column item before.place within len stays w.index.ensures before.first before.rest;
            rest = rest_after_set old now kept column item before.place before.rest;
          })
      | else-number-ge0 w ↦
          let falls : int_lt (get_or sum column (pos 0)) (pos 0) ≡ true = ap (λ z. int_lt z (pos 0)) (sym c.number.ensures) ∙ below c.number.result (search rules) in
          rw (w.items-is, w.kept-is) (record {
            place = search rules;
            len = before.len;
            first = dropped_next sum old now kept column inside falls before.first;
            rest = rest_after old now column before.rest;
          })
    ]
