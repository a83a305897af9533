-- What a certificate of the code stands for.
use Rattle.std.specs.Prelude.{map, string_bytes}
use Rattle.dds_weights.specs.declared.certificate.Row.{Row as CodeRow}
use Rattle.dds_weights.specs.declared.certificate.Certificate.{Certificate as CodeCertificate}
use Rattle.dds_weights.specs.Lists.{Row, Certificate}

abbrev pub row_view : CodeRow → Row
row_view r = record { name = string_bytes r.name; samples = r.samples.items; takes = r.takes.items; permits = r.permits.items }

abbrev pub certificate_view : CodeCertificate → Certificate
certificate_view c = record { rows = map row_view c.rows.items; bounds = c.bounds.items; totals = c.totals.items }
