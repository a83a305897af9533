-- What helps after a fault.
use Rattle.std.specs.Prelude.{Bool, true, false, List, [], ◌∷◌, ℕ, ◌++◌, codes, Option, if◌then◌else◌}
use Rattle.std.specs.List.{list_any}
use Rattle.std.specs.Option.{option_map_or}
use Rattle.std.specs.Str.{bytes_eq}
use Rattle.dds_answers.specs.declared.exit.Exit.{Exit}
use Rattle.dds_answers.specs.declared.exit.Exit.TheVariants.{BadFile, Device}
use Rattle.dds_options.specs.declared.detail.Detail.{Detail}
use Rattle.dds_options.specs.declared.detail.Detail.TheVariants.{Plain, Explained}

-- the commands after whose faults nothing stands but the line of the fault, unless a reason is asked for
abbrev pub is_fixed : (command : List ℕ) → Bool
is_fixed command = list_any (bytes_eq command) (codes "check" ∷ codes "match" ∷ codes "propose" ∷ codes "migrate" ∷ [])

-- the commands that read a deployment, and that don't say where a fault of it is
abbrev pub reads_deployment : (command : List ℕ) → Bool
reads_deployment command = list_any (bytes_eq command) (codes "limits" ∷ codes "refute" ∷ codes "show" ∷ codes "draw" ∷ codes "run" ∷ [])

-- nothing stands after the line of a fault
abbrev pub is_bare : (command : List ℕ) → Detail → Bool
is_bare command Plain = is_fixed command
is_bare command Explained = false

-- a line that refers to `lint` stands after that of a file's fault
abbrev pub refers_to_lint : (command : List ℕ) → Detail → Bool
refers_to_lint command Plain = reads_deployment command
refers_to_lint command Explained = true

-- which file couldn't be opened, if one couldn't
abbrev pub unopened_line : Option (List ℕ) → List ℕ
unopened_line unopened = option_map_or (λ path. codes "because " ++ (path ++ codes " can't be opened\n")) unopened []

abbrev pub lint_line : List ℕ
lint_line = codes "`ddscheck lint` shows each fault in its line, and what would be right\n"

-- what is printed after a command that ended so: which file couldn't be opened, or which command knows more of a fault of a file
abbrev pub advice : (command : List ℕ) → Detail → Exit → (unopened : Option (List ℕ)) → List ℕ
advice command detail Device unopened = if is_bare command detail then [] else unopened_line unopened
advice command detail BadFile unopened = if refers_to_lint command detail then lint_line else []
advice command detail other unopened = []
