use Rattle.std.proofs.Common.{arith, inl, inr}
use Rattle.std.proofs.lemmas.Bool.{false_from_ne_true}
use Rattle.dds_reader.proofs.HasLaws.{has_decides}
use Rattle.dds_reader.proofs.ranges.Ranges.base.Goals as goal

pub returns : goal.returns
returns c =
    let m = c.args.self.now in record {
      low = m.low;
      unmarked = false_from_ne_true _ (λ e. elim ((has_decides m.base m.above m.base m.apart.ordered).0 e) [
        | inl low ↦ omega (arith, low.1)
        | inr h ↦ let each = (m.apart.each h.0 h.1 h.2).0 in let le = h.3 in omega (arith, each, le)
      ]);
      least = λ k low lt. (has_decides m.base m.above k m.apart.ordered).1 (inl (low, lt));
    }
