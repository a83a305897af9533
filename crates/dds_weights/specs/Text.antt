-- The text of a certificate file. Endpoints stand in file order and keys in the order of their topic, whatever the order of a list.
use Rattle.std.specs.Prelude.{codes, ℕ, List, [], ◌++◌, ◌==◌, flat_map, length, if◌then◌else◌}
use Rattle.std.specs.Fmt.{decimal}
use Rattle.dds_lists.specs.Lists.{Lists}
use Rattle.dds_text.specs.Texts.{each_below}
use Rattle.dds_weights.specs.declared.certificate.Weight.{Weight}
use Rattle.dds_weights.specs.declared.certificate.Bound.{Bound}
use Rattle.dds_weights.specs.declared.certificate.Total.{Total}
use Rattle.dds_weights.specs.Lists.{Row, Certificate, weight_of}
use Rattle.dds_text.specs.Names.{name_at, reader_keys, writer_keys, reader_key}
use Rattle.dds_weights.specs.Naming.{row_name}

-- a line of a list of weights, whose endpoints are readers or writers. A weight of 0 is not written
abbrev pub weight_line : List ℕ → List ℕ → List ℕ → ℕ → List ℕ
weight_line side endpoint key n =
    if n == 0
    then []
    else codes "  { " ++ (side ++ (codes " = \"" ++ (endpoint ++ (codes "\", key = \"" ++ (key ++ (codes "\", weight = " ++ (decimal n ++ codes " },\n")))))))

-- the weights of the keys of an endpoint
abbrev pub endpoint_lines : List ℕ → List ℕ → List (List ℕ) → (ℕ → ℕ) → List ℕ
endpoint_lines side endpoint keys weight = each_below (length keys) (λ k. weight_line side endpoint (name_at keys k) (weight k))

-- the weights of the keys of readers
abbrev pub reader_lines : Lists → List (Weight ℕ) → List ℕ
reader_lines d xs = each_below (length d.readers.entries) (λ r. endpoint_lines (codes "reader") (name_at d.readers.names r) (reader_keys d r) (weight_of xs r))

-- the weights of the keys of writers
abbrev pub writer_lines : Lists → List (Weight ℕ) → List ℕ
writer_lines d xs = each_below (length d.writers.entries) (λ w. endpoint_lines (codes "writer") (name_at d.writers.names w) (writer_keys d w) (weight_of xs w))

-- a list of a row, from the lines of its weights
abbrev pub list_text : List ℕ → List ℕ
list_text lines = if length lines == 0 then codes "[]" else codes "[\n" ++ (lines ++ codes "]")

abbrev pub row_text : Lists → Row → List ℕ
row_text d r =
    codes "\n[[rows]]\nname = \""
    ++ (r.name
    ++ (codes "\"\nsamples = "
    ++ (list_text (reader_lines d r.samples)
    ++ (codes "\ntakes = " ++ (list_text (reader_lines d r.takes) ++ (codes "\npermits = " ++ (list_text (writer_lines d r.permits) ++ codes "\n")))))))

abbrev pub bound_text : Lists → Certificate → Bound → List ℕ
bound_text d c b =
    codes "\n[[bounds]]\nreader = \""
    ++ (name_at d.readers.names b.reader
    ++ (codes "\"\nkey = \""
    ++ (reader_key d b.reader b.key ++ (codes "\"\nrow = \"" ++ (row_name c b.row ++ (codes "\"\nbound = " ++ (decimal b.bound ++ codes "\n")))))))

abbrev pub total_text : Lists → Certificate → Total → List ℕ
total_text d c t =
    codes "\n[[totals]]\nreader = \"" ++ (name_at d.readers.names t.reader ++ (codes "\"\nrow = \"" ++ (row_name c t.row ++ (codes "\"\nbound = " ++ (decimal t.bound ++ codes "\n")))))

-- the version, all rows, all bounds, all totals
abbrev pub certificate_text : Lists → Certificate → List ℕ
certificate_text d c = ((codes "version = 1\n" ++ flat_map (row_text d) c.rows) ++ flat_map (bound_text d c) c.bounds) ++ flat_map (total_text d c) c.totals
