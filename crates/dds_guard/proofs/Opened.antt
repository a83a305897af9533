-- A guard that is opened keeps what every guard keeps.
use Rattle.std.proofs.Common.{◌≡◌, ℕ, ◌<◌, All, length, map, get_or, slice_get, unwrap_or, Option, None, Some, option_map, refl, sym, ap, ◌∙◌, subst, inl, inr, arith}
use Rattle.std.specs.List.{range_with_len}
use Rattle.std.proofs.lemmas.Bool.{cases_lt}
use Rattle.std.proofs.lemmas.List.{length-map}
use Rattle.std.proofs.lemmas.List.FromFn.{get_or-map-range_with_len, length-map-range_with_len}
use Rattle.std.proofs.lemmas.Option.{slice_get-map, slice_get_past, unwrap_or-slice_get}
use Rattle.dds_lists.specs.Lists.{Lists, Rule}
use Rattle.dds_lists.specs.WellFormed.{IsConsistent, IsCounted, NamesOnce}
use Rattle.dds_match.specs.Network.{IsNetwork}
use Rattle.dds_match.specs.Plan.{network_of, no_rule, rule_of}
use Rattle.dds_rules.specs.Exchange.{IsAlone, IsExchange, exchange_of}
use Rattle.dds_rules.specs.Ledger.{IsLedgerOf}
use Rattle.dds_rules.proofs.Opening.{sound_rules}
use Rattle.dds_guard.specs.Guard.{AreCounted, GuardState, IsSound, RuleState, exchange_in, filters_of, no_rule_state, own_filter, rule_at, rule_state, rules_of}

-- what holds of each number holds of the list of what the numbers give
of_each : {A : Type 0} (P : A → Type 0) (f : ℕ → A) (n : ℕ) → ((u : ℕ) → u < n → P (f u)) → All P (map f (range_with_len 0 n))
of_each P f n each i d within =
    let size = length-map-range_with_len f 0 n in
    subst P (sym (get_or-map-range_with_len f 0 n i i d (omega arith) (omega arith))) (each i (omega arith))

-- the rule with a number that is there
rule_there : (d : Lists) (u : ℕ) → u < length d.rules.entries → get_or d.rules.entries u no_rule ≡ rule_of d u
rule_there d u within = sym (unwrap_or-slice_get d.rules.entries u no_rule)

-- the exchange of each rule is kept under its number
kept : (d : Lists) (a u : ℕ) → exchange_of (rule_of d u) ≡ exchange_in (rule_at (rules_of d a) u)
kept d a u = elim (cases_lt u (length d.rules.entries)) [
  | inl within ↦ sym (ap exchange_in (unwrap_or-slice_get (rules_of d a) u no_rule_state ∙ get_or-map-range_with_len (rule_state d a) 0 (length d.rules.entries) u u no_rule_state within (omega arith)))
  | inr past ↦ (
      let size = length-map-range_with_len (rule_state d a) 0 (length d.rules.entries) in
      ap (λ o. exchange_of (unwrap_or o no_rule)) (slice_get_past d.rules.entries u past)
      ∙ sym (ap (λ o. exchange_in (unwrap_or o no_rule_state)) (slice_get_past (rules_of d a) u (omega arith))))
]

pub sound : (d : Lists) (a : ℕ) → IsNetwork (network_of d) → NamesOnce d → IsConsistent d → (g : GuardState) → IsLedgerOf (network_of d) g.ledger → g.filters ≡ filters_of d a → g.rules ≡ rules_of d a → IsSound g
sound d a known once right g of filters rules = record {
  filters = ap length filters ∙ length-map-range_with_len (own_filter d a) 0 (length d.readers.entries) ∙ sym of.readers;
  rules = λ u. of.rules u ∙ kept d a u ∙ sym (ap (λ us. exchange_in (rule_at us u)) rules);
  takes_alone = subst (All (λ (u : RuleState). All (IsAlone u.takes) u.takes)) (sym rules) (of_each (λ (u : RuleState). All (IsAlone u.takes) u.takes) (rule_state d a) size (λ u within. (placed u within).takes.alone));
  writes_alone = subst (All (λ (u : RuleState). All (IsAlone u.writes) u.writes)) (sym rules) (of_each (λ (u : RuleState). All (IsAlone u.writes) u.writes) (rule_state d a) size (λ u within. (placed u within).writes.alone));
  counted = subst (All (λ (u : RuleState). AreCounted u.writes)) (sym rules) (of_each (λ (u : RuleState). AreCounted u.writes) (rule_state d a) size counts);
}
  where
    size : ℕ
    size = length d.rules.entries

    placed : (u : ℕ) → u < size → IsExchange (length d.writers.entries) (length d.readers.entries) (exchange_of (rule_of d u))
    placed u within =
        let all = sound_rules d known once (map exchange_of d.rules.entries) (length d.writers.entries) (length d.readers.entries) refl refl refl in
        let long = length-map d.rules.entries exchange_of in
        subst (IsExchange (length d.writers.entries) (length d.readers.entries)) (here u within) (all u (exchange_of no_rule) (omega arith))
      where
        here : (u : ℕ) → u < size → get_or (map exchange_of d.rules.entries) u (exchange_of no_rule) ≡ exchange_of (rule_of d u)
        here u within = sym (unwrap_or-slice_get (map exchange_of d.rules.entries) u (exchange_of no_rule)) ∙ ap (λ o. unwrap_or o (exchange_of no_rule)) (slice_get-map exchange_of d.rules.entries u) ∙ mapped (slice_get d.rules.entries u)
          where
            mapped : (o : Option Rule) → unwrap_or (option_map exchange_of o) (exchange_of no_rule) ≡ exchange_of (unwrap_or o no_rule)
            mapped None = refl
            mapped (Some x) = refl

    counts : (u : ℕ) → u < size → AreCounted (rule_of d u).writes
    counts u within =
        let all : All IsCounted (rule_of d u).writes = subst (λ (x : Rule). All IsCounted x.writes) (rule_there d u within) (right.writes u no_rule within) in
        λ n e inside. (all n e inside).0
