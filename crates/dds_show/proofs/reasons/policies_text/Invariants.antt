use Rattle.std.proofs.Common.{◌≡◌, filter, map, take}
use Rattle.dds_qos.specs.Compatibility.{contains, name_of, policies}
use Rattle.dds_show.proofs.reasons.policies_text.Given as goal

-- the names of the policies so far that are in the set
abbrev pub invariant-loop-policy : goal.invariant-loop-policy
invariant-loop-policy l = map (λ s. s.now) l.names.items ≡ map name_of (filter (contains l.set) (take l.policy-index policies))
