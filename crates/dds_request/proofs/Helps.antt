-- What clap's error says of words that ask for help, or that it refuses.
use Rattle.std.proofs.Common.{◌≡◌, ◌⊎◌, ◌∙◌, true, List, [], ◌∷◌, inl, inr, ap, subst, sym}
use Rattle.clap.specs.Words.{App, HasKind, IsAmong, Kinds, Text, fault_of, is_simple_and_free, kind_of}
use Rattle.clap.specs.declared.error.Error.{Error}
use Rattle.clap.specs.declared.error.kind.ErrorKind.{ErrorKind}
use Rattle.clap.specs.declared.error.kind.ErrorKind.TheVariants as kind
use Rattle.dds_request.specs.Asking.{IsHelp, IsHelpKind}
use Rattle.dds_request.specs.Command.{whole}
use Rattle.dds_request.specs.declared.request.NoRequest.{NoRequest}
use Rattle.dds_request.specs.declared.request.NoRequest.TheVariants as none

-- the command's faults are those of its definition
pub of_whole : (words : List Text) (app : App) (P : Kinds → Type 0) → app ≡ whole → (is_simple_and_free app ≡ true → P (fault_of app words)) → P (fault_of whole words)
of_whole words app P is kinds = subst (λ (a : App). P (fault_of a words)) is (kinds (ap is_simple_and_free is))

-- one of these is the one that it is
only_kind : (k one : ErrorKind) → IsAmong k (one ∷ []) → k ≡ one
only_kind k one (inl is) = is
only_kind k one (inr none) = absurd none

-- words that clap takes don't ask for help
pub taken_no_help : (kinds : Kinds) → kinds ≡ [] → (kinds ≡ kind.DisplayHelp ∷ []) ⊎ (kinds ≡ kind.DisplayVersion ∷ []) → ⊥
taken_no_help kinds none (inl help) = let no : kind.DisplayHelp ∷ [] ≡ [] = sym help ∙ none in cc
taken_no_help kinds none (inr version) = let no : kind.DisplayVersion ∷ [] ≡ [] = sym version ∙ none in cc

-- words that ask for help are given it, or there is no memory
pub help_given : (kinds : Kinds) (e : Error) (r : NoRequest) → HasKind kinds e → (IsHelpKind (kind_of e) → IsHelp r ⊎ (r ≡ none.NoMemory)) → (kind_of e ≡ kind.OutOfMemory → r ≡ none.NoMemory)
    → (kinds ≡ kind.DisplayHelp ∷ []) ⊎ (kinds ≡ kind.DisplayVersion ∷ []) → IsHelp r ⊎ (r ≡ none.NoMemory)
help_given kinds e r (inl memory) help out asks = inr (out memory)
help_given kinds e r (inr among) help out (inl asks) = help (inl (only_kind (kind_of e) kind.DisplayHelp (subst (IsAmong (kind_of e)) asks among)))
help_given kinds e r (inr among) help out (inr asks) = help (inr (only_kind (kind_of e) kind.DisplayVersion (subst (IsAmong (kind_of e)) asks among)))

-- words that are refused are given no help
no_help_kind : (kinds : Kinds) (k : ErrorKind) → IsAmong k kinds → ¬ IsAmong kind.DisplayHelp kinds → ¬ IsAmong kind.DisplayVersion kinds → ¬ IsHelpKind k
no_help_kind kinds k among no_help no_version = λ help. elim help [
  | inl is ↦ no_help (subst (λ (x : ErrorKind). IsAmong x kinds) is among)
  | inr is ↦ no_version (subst (λ (x : ErrorKind). IsAmong x kinds) is among)
]

no_memory_kind : (k : ErrorKind) → k ≡ kind.OutOfMemory → ¬ IsHelpKind k
no_memory_kind k is = λ help. elim help [
  | inl same ↦ let no : kind.OutOfMemory ≡ kind.DisplayHelp = sym is ∙ same in cc
  | inr same ↦ let no : kind.OutOfMemory ≡ kind.DisplayVersion = sym is ∙ same in cc
]

pub refusal_given : (kinds : Kinds) (e : Error) (r : NoRequest) → HasKind kinds e → (¬ IsHelpKind (kind_of e) → ¬ IsHelp r)
    → ¬ IsAmong kind.DisplayHelp kinds → ¬ IsAmong kind.DisplayVersion kinds → ¬ IsHelp r
refusal_given kinds e r (inl memory) usage no_help no_version = usage (no_memory_kind (kind_of e) memory)
refusal_given kinds e r (inr among) usage no_help no_version = usage (no_help_kind kinds (kind_of e) among no_help no_version)
