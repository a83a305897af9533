-- The section of the participants.
use Rattle.std.specs.Prelude.{codes, ℕ, List, [], ◌∷◌, Ok, if◌then◌else◌}
use Rattle.toml.specs.Data.{Data, Members}
use Rattle.dds_base.specs.Limits.{most_participants}
use Rattle.dds_fields.specs.Reading.{◌>>=◌, Read, a_number, field, optional, a_section}
use Rattle.dds_fields.specs.Words.{a_word}
use Rattle.dds_base.specs.Section.{Listed, nothing}
use Rattle.dds_lists.specs.declared.lists.Joins.{Joins}
use Rattle.dds_lists.specs.declared.lists.Joins.TheVariants.{Before, Any}
use Rattle.dds_lists.specs.Lists.{Participant}
use Rattle.dds_deploy.specs.Versions.{since_fourth}
use Rattle.dds_deploy.specs.Entries.{one_more}

-- the keys of a participant's entry: since version 4 `joins` is one
abbrev pub participant_keys : ℕ → List (List ℕ)
participant_keys v =
    if since_fourth v then codes "joins" ∷ codes "name" ∷ codes "domain" ∷ []
    else codes "name" ∷ codes "domain" ∷ []

-- when a participant comes
unfoldable pub joins : List ℕ → Members → Read Joins
joins path ms = optional (codes "joins") Before (a_word ((codes "before", Before) ∷ (codes "any", Any) ∷ [])) path ms

unfoldable pub participant_fields : List ℕ → Members → Read Participant
participant_fields path ms = do
  domain ← field (codes "domain") (a_number 0 2147483647) path ms
  comes ← joins path ms
  Ok (record { domain = domain; joins = comes })

-- one more participant
abbrev pub participant : ℕ → Listed Participant → List ℕ → Data → Read (Listed Participant)
participant v = one_more (participant_keys v) (λ _. participant_fields)

abbrev pub participants : ℕ → Members → Read (Listed Participant)
participants v = a_section (codes "participants") most_participants (participant v) nothing
