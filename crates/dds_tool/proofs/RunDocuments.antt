-- The document of a run.
use Rattle.std.proofs.Common.{◌≡◌, ℕ, Bool, false, List, Option, None, Some, length, refl}
use Rattle.std.specs.List.{range_with_len}
use Rattle.serde_json.specs.Written.{has_float}
use Rattle.dds_book.specs.declared.entry.Entry.{Entry}
use Rattle.dds_apps.specs.declared.player.AppEnd.{AppEnd}
use Rattle.dds_json.proofs.Documents.{no_fractions}
use Rattle.dds_tool.specs.RunDocument.{document_at, run_document}

-- it has no fraction
pub run_plain : (is_yes : Bool) (because : Option (List ℕ)) (names : List (List ℕ)) (journal : List Entry) (ends : List AppEnd) → has_float (run_document is_yes because names journal ends) ≡ false
run_plain is_yes None names journal ends = let none = no_fractions (document_at names journal ends) (λ app. refl) (range_with_len 0 (length names)) in rw none refl
run_plain is_yes (Some because) names journal ends = let none = no_fractions (document_at names journal ends) (λ app. refl) (range_with_len 0 (length names)) in rw none refl
