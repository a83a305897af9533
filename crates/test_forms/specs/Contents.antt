-- The stored samples of a plain cache.
use Rattle.std.specs.Prelude.{◌≡◌, false, List}
use Rattle.std.specs.List.{AllPairs}
use Rattle.dds_base.specs.declared.sample.Sample.{Sample}
use Rattle.dds_qos.specs.Samples.{is_same}

-- no two stored samples have one writer and one number
abbrev pub IsApart : List Sample → Type 0
IsApart stored = AllPairs (λ x y. is_same y x ≡ false) stored
