-- Lines that a test leaves out, and permits that no rule gives.
use Rattle.std.proofs.Common.{ℕ, zero, suc, ◌≡◌, ◌+◌, ◌*◌, ◌||◌, Bool, true, false, cond, List, [], ◌∷◌, ap, refl, sym, ◌∙◌, ◌&&◌}
use Rattle.std.proofs.Math.Nat.{zero-mul}
use Rattle.std.specs.Prelude.{◌==◌}
use Rattle.dds_base.specs.Sums.{any_below, total}
use Rattle.dds_base.specs.declared.portion.Portion.{Portion}
use Rattle.dds_match.specs.Network.{Network, is_named, is_written, named}
use Rattle.dds_runs.specs.Accepted.{opening_permits}

-- what doesn't pass the test has its lines
pub otherwise : (test : Bool) (lines text : List ℕ) → test ≡ false → lines ≡ text → lines ≡ cond test [] text
otherwise test lines text fails same = rw fails same

-- ── what no rule writes has no permits
neither : (a b : Bool) → (a || b) ≡ false → (a ≡ false) × (b ≡ false)
neither true b h = cc
neither false b h = (refl, h)

none_named : (es : List (Portion ℕ)) (w k : ℕ) → is_named es w k ≡ false → named es w k ≡ 0
none_named [] w k h = refl
none_named (e ∷ es) w k h =
    let both = neither ((e.endpoint == w) && (e.key == k)) (is_named es w k) h in
    let rest : named es w k ≡ 0 = none_named es w k both.1 in
    ap (λ b. (cond b e.count 0) + named es w k) both.0 ∙ ap (λ (n : ℕ). 0 + n) rest

none_given : (net : Network) (w k n : ℕ) → any_below n (λ u. is_named (net.rule u).writes w k) ≡ false → total n (λ u. named (net.rule u).writes w k * (net.rule u).start) ≡ 0
unfolding any_below total
none_given net w k zero h = refl
none_given net w k (suc n) h =
    let both = neither (is_named (net.rule n).writes w k) (any_below n (λ u. is_named (net.rule u).writes w k)) h in
    let here : named (net.rule n).writes w k ≡ 0 = none_named (net.rule n).writes w k both.0 in
    let rest = none_given net w k n both.1 in
    rw (rest, here) (ap (λ (m : ℕ). 0 + m) (zero-mul ((net.rule n).start)))

pub unwritten_permits : (net : Network) (w k : ℕ) → is_written net w k ≡ false → 0 ≡ opening_permits net w k
unwritten_permits net w k h = sym (none_given net w k net.rules h)
