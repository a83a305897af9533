-- A refusal without a certificate.
use Rattle.std.specs.Prelude.{[]}
use Rattle.dds_weights.specs.Lists.{Certificate}

-- the certificate without rows, bounds and totals
abbrev pub nothing : Certificate
nothing = record { rows = []; bounds = []; totals = [] }
