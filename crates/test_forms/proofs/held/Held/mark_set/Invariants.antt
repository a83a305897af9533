use Rattle.std.proofs.Common.{◌≡◌, ℕ, ◌+◌, ◌-◌, ◌≤◌, ◌&&◌, ◌||◌, ◌==◌, not, ltb, true, vec_len, vec_capacity}
use Rattle.dds_base.specs.Counts.{count_between}
use Rattle.dds_base.specs.Sets.{has}
use Rattle.dds_cache.specs.Released.{is_listed}
use Rattle.dds_reader.specs.Marks.{in_marks}
use Rattle.dds_reader.specs.Held.{SameCache}
use Rattle.test_forms.proofs.held.Held.mark_set.Given as goal

abbrev pub invariant-loop-i : goal.invariant-loop-i
invariant-loop-i l = record {
  room : vec_len l.self.marks + (256 - l.i) ≤ vec_capacity l.self.marks;
  listed : is_listed l.writer l.self.cache.writers ≡ true;
  cache : SameCache l.initial.self.cache l.self.cache;
  marks : (v m : ℕ) → in_marks l.self.marks.items v m ≡ (in_marks l.initial.self.marks.items v m || ((l.writer == v) && (has l.set m && ltb m (l.set.base + l.i))));
  count : l.count ≡ count_between (λ m. has l.set m && not (in_marks l.initial.self.marks.items l.writer m)) l.set.base (l.set.base + l.i);
  small : l.count ≤ l.i;
}
