use Rattle.std.proofs.Common.{◌≡◌, ℕ, ◌≤◌, ◌⊎◌, leb, ltb, not, ◌&&◌, false, get_or}
use Rattle.dds_base.specs.Words.{flags_in, AreWords}
use Rattle.dds_base.proofs.sets.SnSet.without.Given as goal

abbrev pub invariant-loop-k : goal.invariant-loop-k
invariant-loop-k l = record {
  words : AreWords l.words;
  low : l.initial.k ≤ l.k;
  top : (l.k ≡ l.initial.k) ⊎ (l.k ≤ l.end);
  flags : (j : ℕ) → get_or (flags_in l.words) j false ≡ (get_or (flags_in l.self-inside.words) j false && not (leb l.initial.k j && ltb j l.k));
}
