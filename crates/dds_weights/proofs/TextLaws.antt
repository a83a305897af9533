-- The parts of a certificate's text, and the lines of an endpoint.
use Rattle.std.proofs.Common.{ℕ, zero, suc, ◌≡◌, ◌+◌, ◌*◌, ◌<◌, ◌≤◌, ◌==◌, ◌&&◌, List, [], ◌∷◌, ◌++◌, cond, flat_map, map, length, refl, sym, ap, ◌∙◌, arith, slice_index, slice_get, Option, Some, None, unwrap_or, option_map}
use Rattle.std.specs.List.{range_with_len}
use Rattle.std.proofs.lemmas.List.Folds.{flat_map-map}
use Rattle.dds_lists.specs.Lists.{Lists, Reader, Writer, keys_at}
use Rattle.dds_lists.specs.WellFormed.{IsWellFormed}
use Rattle.dds_weights.specs.declared.certificate.Weight.{Weight}
use Rattle.dds_weights.specs.Lists.{weight_of}
use Rattle.dds_text.specs.Names.{name_at, reader_keys, writer_keys}
use Rattle.dds_weights.specs.Text.{weight_line, endpoint_lines}
use Rattle.dds_weights.specs.Weighing.{weight_by}
use Rattle.dds_weights.proofs.FitLaws.{keys_few}

-- three parts are added, the first over what the elements stand for
pub and_parts : {X Y : Type 0} (f : Y → List ℕ) (v : X → Y) (xs ys : List X) (head second third t1 t2 t3 t4 : List ℕ) → t1 ≡ head → ys ≡ xs → t2 ≡ t1 ++ flat_map (λ x. f (v x)) ys → t3 ≡ t2 ++ second → t4 ≡ t3 ++ third →
    t4 ≡ ((head ++ flat_map f (map v xs)) ++ second) ++ third
and_parts f v xs ys head second third t1 t2 t3 t4 e same e2 e3 e4 =
    e4 ∙ ap (λ t. t ++ third) (e3 ∙ ap (λ t. t ++ second) (e2 ∙ rw (e, same) (ap (λ t. head ++ t) (sym (flat_map-map f v xs)))))

same_from : (f g : ℕ → List ℕ) (a n : ℕ) → ((i : ℕ) → i < a + n → f i ≡ g i) → flat_map f (range_with_len a n) ≡ flat_map g (range_with_len a n)
same_from f g a zero same = refl
same_from f g a (suc n) same =
    let here : f a ≡ g a = same a (omega arith) in
    let rest = same_from f g (a + 1) n (λ i l. same i (omega arith)) in
    rw (here, rest)

weight_same : (xs : List (Weight ℕ)) (e k : ℕ) → weight_by (λ n. n) xs e k ≡ weight_of xs e k
weight_same [] e k = refl
weight_same (x ∷ xs) e k = ap (λ n. cond ((x.endpoint == e) && (x.key == k)) x.weight n) (weight_same xs e k)

-- the lines of an endpoint whose number is a number already
pub lines_same : (side name : List ℕ) (keys : List (List ℕ)) (xs : List (Weight ℕ)) (e : ℕ) → endpoint_lines side name keys (weight_by (λ n. n) xs e) ≡ endpoint_lines side name keys (weight_of xs e)
lines_same side name keys xs e =
    same_from (λ k. weight_line side name (name_at keys k) (weight_by (λ n. n) xs e k)) (λ k. weight_line side name (name_at keys k) (weight_of xs e k)) 0 (length keys)
    (λ k l. ap (weight_line side name (name_at keys k)) (weight_same xs e k))
