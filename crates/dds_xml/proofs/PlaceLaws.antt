-- The text of what is at a place, under its name.
use Rattle.std.proofs.Common.{ℕ, ◌≡◌, ◌∙◌, ◌==◌, List, [], Some, ap, eq-eqb, if◌then◌else◌, refl, sym, slice_get}
use Rattle.std.specs.Option.{option_map_or}
use Rattle.dds_text.specs.Names.{name_at}
use Rattle.dds_text.proofs.TextLaws.{item_here}

-- the text of the entry at a place of its list, which is found by a number and whose name stands at that place of the names
pub named_here : {X : Type 0} (f : List ℕ → X → List ℕ) (names given : List (List ℕ)) (xs : List X) (i n : ℕ) (x : X) (name text : List ℕ)
    → given ≡ names → name ≡ name_at given i → n ≡ i → slice_get xs n ≡ Some x → text ≡ f name x → text ≡ option_map_or (f (name_at names i)) (slice_get xs i) []
named_here f names given xs i n x name text same is at found shown =
    shown ∙ (ap (λ t. f t x) (is ∙ ap (λ all. name_at all i) same) ∙ item_here (f (name_at names i)) xs i x (ap (λ k. slice_get xs k) (sym at) ∙ found))

chosen : (n p : ℕ) (text : List ℕ) → n ≡ p → text ≡ (if n == p then text else [])
chosen n p text same = rw (eq-eqb n p same) refl

-- the same of an entry that has a text only where it is at this participant, and is there
pub named_at : {X : Type 0} (participant_of : X → ℕ) (f : List ℕ → X → List ℕ) (names given : List (List ℕ)) (xs : List X) (i n p q : ℕ) (x : X) (name text : List ℕ)
    → given ≡ names → name ≡ name_at given i → n ≡ i → slice_get xs n ≡ Some x → participant_of x ≡ q → q ≡ p → text ≡ f name x
    → text ≡ option_map_or (λ y. if participant_of y == p then f (name_at names i) y else []) (slice_get xs i) []
named_at participant_of f names given xs i n p q x name text same is at found here there shown =
    named_here (λ own y. if participant_of y == p then f own y else []) names given xs i n x name text same is at found (shown ∙ chosen (participant_of x) p (f name x) (here ∙ there))
