-- What is printed in several parts.
use Rattle.std.proofs.Common.{ℕ, List, ◌++◌, Option, Some, None}
use Rattle.std.proofs.lemmas.List.{append_assoc}
use Rattle.std.specs.Io.KnownBytes.{Appends}

-- one text is printed, and then another
pub appends_both : (first then last : Option (List ℕ)) (one other : List ℕ) → Appends first then one → Appends then last other → Appends first last (one ++ other)
appends_both None then last one other ones others = tt
appends_both (Some first) None last one other ones others = absurd ones
appends_both (Some first) (Some then) None one other ones others = absurd others
appends_both (Some first) (Some then) (Some last) one other ones others = rw (others, ones) (append_assoc first one other)
