-- The lists of weights of a row.
use Rattle.std.specs.Prelude.{codes, ℕ, List, [], ◌∷◌, map}
use Rattle.toml.specs.Data.{Data, Members}
use Rattle.dds_base.specs.Grid.{most_places}
use Rattle.dds_fields.specs.Reading.{◌>>=◌, Read, a_number, field, entry, a_list_of}
use Rattle.dds_fields.specs.Document.{version}
use Rattle.dds_lists.specs.Lists.{Lists}
use Rattle.dds_weights.specs.declared.certificate.Weight.{Weight}
use Rattle.dds_cert.specs.Keys.{reader_and_keys, writer_and_keys}
use Rattle.dds_cert.specs.Adding.{and_more, any_stands}

-- 0 to 4,294,967,295
unfoldable pub weight_number : List ℕ → Members → Read ℕ
weight_number path ms = field (codes "weight") (a_number 0 4294967295) path ms

-- the endpoint, by its number, and the key
abbrev pub weight_place : {E : Type 0} → (E → ℕ) → Weight E → ℕ × ℕ
weight_place number_of x = (number_of x.endpoint, x.key)

-- the same weight for each of the keys
abbrev pub weights_of : {E : Type 0} → E × List ℕ → ℕ → List (Weight E)
weights_of e n = map (λ k. record { endpoint = e.0; key = k; weight = n }) e.1

-- more weights, of an endpoint and keys that these do not name
abbrev pub and_weights : {E : Type 0} → (E → ℕ) → (list : List ℕ) → List (Weight E) → (path : List ℕ) → E × List ℕ → ℕ → Read (List (Weight E))
and_weights number_of list before path e n = and_more list path (any_stands (map (weight_place number_of) before) (number_of e.0) e.1) before (weights_of e n)

-- the weights of one more entry, whose endpoint, which `word` names, and keys are read so
unfoldable pub weight : {E : Type 0} → (E → ℕ) → (word : List ℕ) → (List ℕ → Members → Read (E × List ℕ)) → (list : List ℕ) → List (Weight E) → List ℕ → Data → Read (List (Weight E))
weight number_of word endpoint_and_keys list before path x = do
  ms ← entry (word ∷ codes "key" ∷ codes "weight" ∷ []) path x
  e ← endpoint_and_keys path ms
  n ← weight_number path ms
  and_weights number_of list before path e n

abbrev pub weights : {E : Type 0} → (E → ℕ) → (word : List ℕ) → (List ℕ → Members → Read (E × List ℕ)) → List ℕ → Data → Read (List (Weight E))
weights number_of word endpoint_and_keys path = a_list_of most_places (weight number_of word endpoint_and_keys path) [] path

abbrev pub reader_weights : ℕ → Lists → List ℕ → Data → Read (List (Weight ℕ))
reader_weights version d = weights (λ r. r) (codes "reader") (reader_and_keys version d)

abbrev pub writer_weights : ℕ → Lists → List ℕ → Data → Read (List (Weight ℕ))
writer_weights version d = weights (λ w. w) (codes "writer") (writer_and_keys version d)
