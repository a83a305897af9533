use Rattle.std.proofs.Common.{◌≡◌, ℕ, List, IfOk, flat_map, string_bytes, take}
use Rattle.dds_text.proofs.texts.text_of_each.Given as goal

-- the texts so far
abbrev pub invariant-loop-x : goal.invariant-loop-x
invariant-loop-x g l =
    (f : _ → List ℕ) → ((x : _) (r : _) → goal.F-post g l.piece x r → IfOk r (λ text. string_bytes text ≡ f x.now)) → string_bytes l.text ≡ flat_map f (take l.x-index l.xs)
