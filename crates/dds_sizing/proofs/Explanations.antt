-- Sizes that are explained, target by target.
use Rattle.std.proofs.Common.{ℕ, ◌≡◌, ◌+◌, ◌<◌, ◌≤◌, false, List, [], ◌∷◌, ◌++◌, All, Option, Some, None, get_or, length, map, take, refl, sym, ap, ◌∙◌, subst, add-one}
use Rattle.std.proofs.Math.Seq.{take-suc}
use Rattle.std.proofs.lemmas.List.{map_push, take_all}
use Rattle.std.proofs.lemmas.List.Elements.{All-push}
use Rattle.dds_lists.specs.Lists.{Lists}
use Rattle.dds_match.specs.Plan.{network_of}
use Rattle.dds_propose.specs.declared.targets.Target.{Target}
use Rattle.dds_search.specs.Sizes.{every_target}
use Rattle.dds_search.specs.declared.answer.Least.{Least}
use Rattle.dds_json.proofs.Documents.{no_fractions}
use Rattle.serde_json.specs.Data.{Data}
use Rattle.serde_json.specs.Written.{has_float}
use Rattle.dds_sizing.specs.Needs.{room_of}
use Rattle.dds_sizing.specs.LimitsDocument.{subject_document}
use Rattle.dds_sizing.specs.Reasons.{AreExplained, IsExplained, because_of}
use Rattle.dds_sizing.specs.ReasonsDocument.{explained_document, reason_document, reasons_document}
use Rattle.dds_sizing.specs.declared.needs.Limit.{Limit}
use Rattle.dds_sizing.specs.declared.needs.Need.{Need}
use Rattle.dds_sizing.specs.declared.reasons.Explained.{Explained}
use Rattle.dds_sizing.proofs.LimitEnds.{least_plain, subject_plain}

-- the sizes so far are of the first so many targets, each of them explained
abbrev pub AreFirst : Lists → List Target → ℕ → List Explained → Type 0
AreFirst d targets i es = (map (λ e. e.size.target) es ≡ take i targets) × All (IsExplained d) es

-- the size of the next target is added
pub next_explained : (d : Lists) (targets : List Target) (i : ℕ) (t : Target) (old new : List Explained) (e : Explained) → i < length targets → t ≡ get_or targets i t → AreFirst d targets i old
    → new ≡ old ++ e ∷ [] → e.size.target ≡ t → IsExplained d e → AreFirst d targets (i + 1) new
next_explained d targets i t old new e lt at before added same is = (
  ap (map (λ x. x.size.target)) added ∙ (map_push (λ x. x.size.target) old e ∙ ((λ j. before.0 j ++ (same ∙ at) j ∷ []) ∙ sym (rw (add-one, take-suc targets i t lt) refl))),
  subst (All (IsExplained d)) (sym added) (All-push (IsExplained d) old e before.1 is),
)

-- with the last target they are those of all
pub last_explained : (d : Lists) (targets : List Target) (i : ℕ) (es : List Explained) → length targets ≤ i → targets ≡ every_target (network_of d) → AreFirst d targets i es → AreExplained d es
last_explained d targets i es all are first = (first.0 ∙ (take_all i targets all ∙ are), first.1)

-- ── documents without fractions
explained_plain : (line : List ℕ) (subject : Data) (least : Least) (limit : Option Limit) → has_float subject ≡ false → has_float (explained_document line subject least limit) ≡ false
explained_plain line subject least None plain = rw (least_plain least, plain) refl
explained_plain line subject least (Some limit) plain = rw (least_plain least, plain) refl

reason_plain : (d : Lists) (es : List Explained) (one : Need) → has_float (reason_document d es one) ≡ false
reason_plain d es one = explained_plain (because_of d es one) (subject_document d one) (room_of one).least (room_of one).limit (subject_plain d one)

pub reasons_plain : (d : Lists) (es : List Explained) (needs : List Need) → has_float (reasons_document d es needs) ≡ false
reasons_plain d es needs = let none = no_fractions (reason_document d es) (reason_plain d es) needs in rw none refl
