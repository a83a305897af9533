-- Which notes make an answer no.
use Rattle.std.specs.Prelude.{ℕ, Bool, false, not, ◌||◌, List}
use Rattle.dds_options.specs.Allowed.{is_allowed}
use Rattle.dds_options.specs.Kinds.{is_declared}
use Rattle.dds_options.specs.declared.deny.Deny.{Deny}
use Rattle.dds_options.specs.declared.deny.Deny.TheVariants as deny
use Rattle.dds_options.specs.declared.kinds.NoteKind.{NoteKind}

-- a note of this kind, about what has this name, makes the answer no
abbrev pub is_denied_note : Deny → NoteKind → (subject : List ℕ) → Bool
is_denied_note deny.Errors k subject = false
is_denied_note (deny.Notes allowed) k subject = not (is_declared k || is_allowed allowed k subject)
is_denied_note (deny.All allowed) k subject = not (is_allowed allowed k subject)

-- it would, and is let pass by its name
abbrev pub is_passed_note : Deny → NoteKind → (subject : List ℕ) → Bool
is_passed_note deny.Errors k subject = false
is_passed_note (deny.Notes allowed) k subject = is_allowed allowed k subject
is_passed_note (deny.All allowed) k subject = is_allowed allowed k subject
