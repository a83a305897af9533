-- Up to which number the samples of each writer are available.
use Rattle.std.specs.Prelude.{ℕ, max, Bool, ◌==◌, List, [], ◌∷◌, map, if◌then◌else◌}
use Rattle.std.specs.List.{list_any}
use Rattle.dds_cache.specs.declared.released.Released.{Released}

-- the list has the writer
abbrev pub is_listed : ℕ → List Released → Bool
is_listed w rs = list_any (λ r. r.writer == w) rs

-- the number up to which the writer's samples are available, 0 for a writer that isn't listed
abbrev pub released_of : ℕ → List Released → ℕ
released_of w [] = 0
released_of w (r ∷ rs) = if r.writer == w then r.upto else released_of w rs

-- the writers when none of their samples is available
abbrev pub opened : List ℕ → List Released
opened ws = map (λ w. record { writer = w; upto = 0 }) ws

-- the greater of two numbers for one writer, the same number for all others
abbrev pub lifted : ℕ → ℕ → Released → Released
lifted w upto r = record { writer = r.writer; upto = if r.writer == w then max r.upto upto else r.upto }

-- the writers when one writer's samples up to a number are available too
abbrev pub raised : ℕ → ℕ → List Released → List Released
raised w upto rs = map (lifted w upto) rs
