-- A pace has a period.
use Rattle.std.proofs.Common.{ℕ, ◌≡◌, ◌<◌, ◌≤◌, Option, Some, None, IfSome, length, slice_get, unwrap_or, refl}
use Rattle.dds_lists.specs.declared.lists.Pace.{Pace}
use Rattle.dds_lists.specs.Lists.{Lists, Rule}
use Rattle.dds_lists.specs.WellFormed.{IsConsistent, IsPace}
use Rattle.dds_match.specs.Words.{no_rule, rule_of}
use Rattle.dds_match.proofs.Known.{all_at}

pub some_period : (d : Lists) → IsConsistent d → (u : ℕ) → IfSome (rule_of d u).pace (λ (p : Pace). 1 ≤ p.period)
some_period d consistent u = go (slice_get d.rules.entries u) refl
  where
    go : (o : Option Rule) → slice_get d.rules.entries u ≡ o → IfSome (unwrap_or o no_rule).pace (λ (p : Pace). 1 ≤ p.period)
    go None e = tt
    go (Some rule) e = pace rule.pace refl
      where
        pace : (q : Option Pace) → rule.pace ≡ q → IfSome q (λ (p : Pace). 1 ≤ p.period)
        pace None h = tt
        pace (Some p) h = (all_at (λ (x : Rule). (y : Pace) → x.pace ≡ Some y → IsPace y) _ _ _ consistent.paces e p h).some_period
