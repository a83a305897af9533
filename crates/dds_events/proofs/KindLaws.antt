-- Events found by kinds.
use Rattle.std.proofs.Common.{◌≡◌, ◌∙◌, ℕ, Bool, true, Option, None, Some, IfSome, IfNone, List, slice_get, refl, sym, ap}
use Rattle.std.specs.Option.{option_or}
use Rattle.std.specs.Str.{bytes_eq}
use Rattle.std.proofs.lemmas.Slice.Eq.{bytes_eq-Decides}
use Rattle.dds_base.specs.declared.events.Event.TheVariants.{Write, Fire, Take, SendData, SendGap, SendHeartbeat, SendAckNack, Deliver, Lose}
use Rattle.dds_lists.specs.Lists.{Lists, key_name}
use Rattle.dds_lists.specs.declared.lists.Origin.{Origin}
use Rattle.dds_text.specs.Names.{name_at, rule_text}
use Rattle.dds_text.specs.Texts.{two_words}
use Rattle.dds_events.specs.Reading.{IsUnsaidBy, SaysNoEvent}
use Rattle.dds_events.proofs.WordLaws.{one_after}

-- where a text goes on after the name of a rule for one key, it is that of the rule just where it goes on with the key
pub keyed_rule : (d : Lists) (u : ℕ) (o : Origin) (t k : ℕ) (rest text : List ℕ) (b : Bool) → slice_get d.rules.origins u ≡ Some o → o.key ≡ Some (t, k) →
    two_words (name_at d.rules.names o.name) rest ≡ text → b ≡ bytes_eq rest (key_name d.topics t k) → (b ≡ true → rule_text d u ≡ text) × (rule_text d u ≡ text → b ≡ true)
keyed_rule d u o t k rest text b at keyed cut same =
    let key = key_name d.topics t k in
    let whole : rule_text d u ≡ two_words (name_at d.rules.names o.name) key = rw (at, keyed) refl in (
      (λ yes. whole ∙ (ap (two_words (name_at d.rules.names o.name)) (sym ((bytes_eq-Decides rest key).0 (sym same ∙ yes))) ∙ cut)),
      (λ is. same ∙ (bytes_eq-Decides rest key).1 (sym (one_after (name_at d.rules.names o.name) rest text key cut (sym whole ∙ is)))),
    )

-- what holds of the event that each of two found holds of the one that is told
pub either_some : {A : Type 0} (a b r : Option A) (P : A → Type 0) → r ≡ option_or a b → IfSome a P → IfSome b P → IfSome r P
either_some None b r P is h k = rw is k
either_some (Some x) b r P is h k = rw is h

-- where none is told, neither of two found one
pub neither : {A : Type 0} (a b r : Option A) → r ≡ option_or a b → r ≡ None → (a ≡ None) × (b ≡ None)
neither (Some x) b r is none = absurd (cc)
neither None b r is none = (refl, sym is ∙ none)

-- what is known where none was found
pub where_none : {A : Type 0} (o : Option A) (P : Type 0) → (o ≡ None → P) → IfNone o P
where_none None P h = h refl
where_none (Some x) P h = tt

pub known_none : {A : Type 0} (o : Option A) (P : Type 0) → o ≡ None → IfNone o P → P
known_none None P none h = h
known_none (Some x) P none h = absurd (cc)

-- a text that says no event of any kind says none
pub of_no_kind : (d : Lists) (text : List ℕ) → ((w k : ℕ) (payload : List ℕ) → IsUnsaidBy d text (Write w k payload)) → ((u : ℕ) → IsUnsaidBy d text (Fire u)) → ((r k : ℕ) → IsUnsaidBy d text (Take r k)) →
    ((w r n : ℕ) → IsUnsaidBy d text (SendData w r n)) → ((w r n : ℕ) → IsUnsaidBy d text (SendGap w r n)) → ((w r : ℕ) → IsUnsaidBy d text (SendHeartbeat w r)) → ((r w : ℕ) → IsUnsaidBy d text (SendAckNack r w)) →
    ((d : Lists) (place : ℕ) (keep : Bool) → IsUnsaidBy d text (Deliver place keep)) → ((d : Lists) (place : ℕ) → IsUnsaidBy d text (Lose place)) → SaysNoEvent d text
of_no_kind d text write fire take send gap heartbeat acknack deliver lose (Write w k payload) = write w k payload
of_no_kind d text write fire take send gap heartbeat acknack deliver lose (Fire u) = fire u
of_no_kind d text write fire take send gap heartbeat acknack deliver lose (Take r k) = take r k
of_no_kind d text write fire take send gap heartbeat acknack deliver lose (SendData w r n) = send w r n
of_no_kind d text write fire take send gap heartbeat acknack deliver lose (SendGap w r n) = gap w r n
of_no_kind d text write fire take send gap heartbeat acknack deliver lose (SendHeartbeat w r) = heartbeat w r
of_no_kind d text write fire take send gap heartbeat acknack deliver lose (SendAckNack r w) = acknack r w
of_no_kind d text write fire take send gap heartbeat acknack deliver lose (Deliver place keep) = deliver d place keep
of_no_kind d text write fire take send gap heartbeat acknack deliver lose (Lose place) = lose d place
