use Rattle.std.proofs.Common.{sym, ◌∙◌, string_bytes}
use Rattle.std.specs.Str.{bytes_eq}
use Rattle.dds_weights.proofs.DistinctLaws.{distinct_more, distinct_twice, distinct_all}
use Rattle.dds_weights.proofs.FitLaws.{names_differ-view}
use Rattle.dds_weights.proofs.fit.names_differ.Goals as goal

pub returns-then-has_name : goal.returns-then-has_name
returns-then-has_name c =
    sym (names_differ-view c.args.rows.now
    ∙ distinct_twice (λ x y. bytes_eq (string_bytes y.name) (string_bytes x.name)) c.args.rows.now c.loop-i.i c.index-rows-i.result c.loop-i-test.true c.index-rows-i.is (rw c.as_str.ensures.value at (sym c.has_name.ensures ∙ c.if-has_name.true)))

pub loop-i-preserved : goal.loop-i-preserved
loop-i-preserved c =
    distinct_more (λ x y. bytes_eq (string_bytes y.name) (string_bytes x.name)) c.args.rows.now c.loop-i.i c.index-rows-i.result c.loop-i-test.true c.index-rows-i.is c.loop-i.invariant (rw c.as_str.ensures.value at (sym c.has_name.ensures ∙ c.if-has_name.false))

pub returns : goal.returns
returns c = sym (names_differ-view c.args.rows.now ∙ distinct_all (λ x y. bytes_eq (string_bytes y.name) (string_bytes x.name)) c.args.rows.now c.loop-i.i c.loop-i-test.false c.loop-i.invariant)
