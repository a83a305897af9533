-- A rule with `each`.
use Rattle.std.specs.Prelude.{codes, ℕ, Bool, List, [], ◌∷◌, ◌++◌, Option, Ok, not, ◌&&◌, ◌==◌, length}
use Rattle.std.specs.List.{list_any}
use Rattle.toml.specs.Data.{Data, Members}
use Rattle.dds_fields.specs.declared.fault.FaultKind.TheVariants.{RuleEntry}
use Rattle.dds_fields.specs.Reading.{◌>>=◌, Read, unless, a_number, a_known_name, field, optional, entry, a_list_of}
use Rattle.dds_base.specs.Section.{Listed}
use Rattle.dds_lists.specs.Lists.{Writer, Reader, Application, has, writers_at, readers_at}
use Rattle.dds_lists.specs.declared.lists.Pace.{Pace}
use Rattle.dds_deploy.specs.Paces.{how_often}
use Rattle.dds_deploy.specs.declared.each.EachRule.{EachRule as CodeEachRule}

-- a rule with `each` as it stands in the file: each element is an endpoint and a count, for every key
pub record EachRule : Type 0 where
  pub application : ℕ
  pub takes : List (ℕ × ℕ)
  pub writes : List (ℕ × ℕ)
  -- none where the rule is free
  pub start : Option ℕ
  pub pace : Option Pace

-- what such a rule of the code stands for
abbrev pub each_rule_view : CodeEachRule → EachRule
each_rule_view u = record { application = u.application; takes = u.takes.items; writes = u.writes.items; start = u.start; pace = u.pace }

-- what a rule with `each` takes or writes of every key: an endpoint of the application that no earlier element names
abbrev pub may_share : List ℕ → List (ℕ × ℕ) → ℕ → Bool
may_share own before e = has own e && not (list_any (λ x. x.0 == e) before)

-- one more element of a rule with `each`
unfoldable pub share : List ℕ → List (List ℕ) → List ℕ → List (ℕ × ℕ) → List ℕ → Data → Read (List (ℕ × ℕ))
share word names own before path d = do
  ms ← entry (word ∷ codes "count" ∷ []) path d
  e ← field word (a_known_name names) path ms
  n ← field (codes "count") (a_number 1 65535) path ms
  unless RuleEntry path (may_share own before e) (before ++ (e, n) ∷ [])

-- the takes of a rule of the application a with `each`, and its writes
abbrev pub each_takes : Listed Reader → Listed Application → ℕ → List ℕ → Data → Read (List (ℕ × ℕ))
each_takes rs apps a = a_list_of 16 (share (codes "reader") rs.names (readers_at apps a)) []

abbrev pub each_writes : Listed Writer → Listed Application → ℕ → List ℕ → Data → Read (List (ℕ × ℕ))
each_writes ws apps a = a_list_of 16 (share (codes "writer") ws.names (writers_at apps a)) []

unfoldable pub each_rule : ℕ → Listed Writer → Listed Reader → Listed Application → ℕ → List ℕ → Members → Read EachRule
each_rule v ws rs apps a path ms = do
  the_takes ← optional (codes "takes") [] (each_takes rs apps a) path ms
  the_writes ← optional (codes "writes") [] (each_writes ws apps a) path ms
  often ← how_often v (length the_takes == 0) path ms
  Ok (record { application = a; takes = the_takes; writes = the_writes; start = often.0; pace = often.1 })
