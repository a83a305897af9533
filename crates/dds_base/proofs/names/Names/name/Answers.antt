use Rattle.std.proofs.Common.{◌≡◌, Some, slice_get, length, sym, ap, ◌∙◌, string_bytes, position}
use Rattle.std.specs.String.{string_eq, string_eq_equiv}
use Rattle.std.specs.Str.{bytes_eq}
use Rattle.std.proofs.lemmas.Option.{slice_get_read}
use Rattle.dds_base.specs.Names.{number_of}
use Rattle.dds_base.proofs.Places.{position-map, position-own, length-mapped}
use Rattle.dds_base.proofs.names.Names.name.Goals as goal

pub returns-clause-own : goal.returns-clause-own
returns-clause-own c =
    let ks = c.self.inside.set.keys in
    let name = c.index-as_slice-number.result in
    let count : length c.args.self.now ≡ length ks = ap length (sym c.self.view_is) ∙ length-mapped string_bytes ks in
    let at : slice_get ks c.args.number ≡ Some name = slice_get_read ks (length c.args.self.now) c.args.number name count c.requires (rw c.as_slice.ensures.keys at c.index-as_slice-number.is) in
    let own : position (string_eq name) ks ≡ Some c.args.number = position-own string_eq string_eq_equiv ks c.args.number name c.as_slice.ensures.unique at in
    rw c.as_str.ensures.value (ap (λ ns. number_of ns (string_bytes name)) (sym c.self.view_is) ∙ position-map (bytes_eq (string_bytes name)) string_bytes ks ∙ own)
