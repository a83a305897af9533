use Rattle.std.proofs.Common.{◌≡◌, ℕ, List, ◌<◌, IfOk, string_bytes}
use Rattle.dds_text.specs.Texts.{each_below}
use Rattle.dds_text.proofs.texts.text_below.Given as goal

-- the texts so far
abbrev pub invariant-loop-i : goal.invariant-loop-i
invariant-loop-i g l =
    (f : ℕ → List ℕ) → ((i : ℕ) (r : _) → i < l.n → goal.F-post g l.piece i r → IfOk r (λ text. string_bytes text ≡ f i)) → string_bytes l.text ≡ each_below l.i f
