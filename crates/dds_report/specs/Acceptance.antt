-- The lines that report an acceptance.
use Rattle.std.specs.Prelude.{List, ◌++◌, codes, flat_map, ℕ}
use Rattle.std.specs.Fmt.{decimal}
use Rattle.dds_lists.specs.Lists.{Lists}
use Rattle.dds_weights.specs.Lists.{Certificate}
use Rattle.dds_weights.specs.declared.certificate.Bound.{Bound}
use Rattle.dds_weights.specs.declared.certificate.Total.{Total}
use Rattle.dds_text.specs.Names.{reader_key, reader_name}

-- the line of a bound
abbrev pub bound_line : Lists → Bound → List ℕ
bound_line d b =
    codes "bound " ++ (reader_name d b.reader ++ (codes " " ++ (reader_key d b.reader b.key ++ (codes " " ++ (decimal b.bound ++ codes "\n")))))

-- the line of a total
abbrev pub total_line : Lists → Total → List ℕ
total_line d t = codes "total " ++ (reader_name d t.reader ++ (codes " " ++ (decimal t.bound ++ codes "\n")))

-- the lines of an acceptance: yes, each bound, each total
abbrev pub acceptance_lines : Lists → Certificate → List ℕ
acceptance_lines d c = (codes "yes\n" ++ flat_map (bound_line d) c.bounds) ++ flat_map (total_line d) c.totals
