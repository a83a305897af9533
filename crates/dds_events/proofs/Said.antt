-- What is said by one line more.
use Rattle.std.proofs.Common.{◌≡◌, ◌∙◌, ◌+◌, ◌-◌, ◌<◌, Some, ℕ, subst, slice_get, zero, suc, true, false, List, [], ◌∷◌, ◌++◌, length, map, get_or, take, refl, sym, ap, arith, add-one, append-nil, Result, Ok, Err, IfErr, IsErrAnd}
use Rattle.std.specs.List.{All, filter}
use Rattle.std.specs.Prelude.{IsUtf8}
use Rattle.std.specs.Str.Lines.{lines}
use Rattle.std.proofs.Math.Seq.{take-suc}
use Rattle.std.proofs.lemmas.List.{map-append}
use Rattle.std.proofs.lemmas.List.Elements.{All-append, filter-append}
use Rattle.std.proofs.lemmas.Option.{slice_get_read}
use Rattle.dds_base.specs.declared.events.Event.{Event}
use Rattle.dds_lists.specs.Lists.{Lists}
use Rattle.dds_events.specs.Events.{event_text}
use Rattle.dds_events.specs.Reading.{HasNoData, IsFaultOf, IsLineFaultOf, IsOfDeployment, SaysNoEvent, before_arrow, said_by, says_something}
use Rattle.dds_events.specs.declared.fault.EventsFault.{EventsFault}
use Rattle.dds_events.specs.declared.fault.EventsFault.TheVariants.{At, NoMemory}
use Rattle.dds_events.specs.declared.fault.EventsFaultKind.TheVariants.{NotAnEvent, NotText}

one_more : (all : List (List ℕ)) (n : ℕ) (line : List ℕ) → n < length all → line ≡ get_or all n line → said_by (take (n + 1) all) ≡ said_by (take n all) ++ said_by (line ∷ [])
one_more all n line lt at =
    rw (add-one, take-suc all n line lt, ← at) (ap (map before_arrow) (filter-append says_something (take n all) (line ∷ [])) ∙ map-append before_arrow (filter says_something (take n all)) _)

-- a line that says an event, and the events with it
pub and_event : (d : Lists) (all : List (List ℕ)) (n : ℕ) (line : List ℕ) (events new : List Event) (event : Event) → n < length all → line ≡ get_or all n line → says_something line ≡ true →
    event_text d event ≡ before_arrow line → new ≡ events ++ event ∷ [] → map (event_text d) events ≡ said_by (take n all) → map (event_text d) new ≡ said_by (take (n + 1) all)
and_event d all n line events new event lt at says is after before =
    let said : said_by (line ∷ []) ≡ before_arrow line ∷ [] = rw says refl in
    rw after (map-append (event_text d) events (event ∷ []) ∙ (rw (before, is) (sym (one_more all n line lt at ∙ ap (λ xs. said_by (take n all) ++ xs) said))))

-- a line that says nothing
pub and_nothing : (all : List (List ℕ)) (n : ℕ) (line : List ℕ) (said : List (List ℕ)) → n < length all → line ≡ get_or all n line → says_something line ≡ false →
    said ≡ said_by (take n all) → said ≡ said_by (take (n + 1) all)
and_nothing all n line said lt at says before =
    let none : said_by (line ∷ []) ≡ [] = rw says refl in
    before ∙ sym (one_more all n line lt at ∙ (ap (λ xs. said_by (take n all) ++ xs) none ∙ append-nil (said_by (take n all))))

only : {X : Type 0} (P : X → Type 0) (x : X) → P x → All P (x ∷ [])
only P x h zero d lt = h
only P x h (suc k) d lt = absurd (omega arith)

-- one more event with no data
pub and_none : (events new : List Event) (event : Event) → All HasNoData events → HasNoData event → new ≡ events ++ event ∷ [] → All HasNoData new
and_none events new event all one after = rw after (All-append HasNoData events (event ∷ []) all (only HasNoData event one))

-- one more event of the deployment
pub and_known : (d : Lists) (events new : List Event) (event : Event) → All (IsOfDeployment d) events → IsOfDeployment d event → new ≡ events ++ event ∷ [] → All (IsOfDeployment d) new
and_known d events new event all one after = rw after (All-append (IsOfDeployment d) events (event ∷ []) all (only (IsOfDeployment d) event one))

-- the fault of a line that says something but no event, after lines that say events
pub fault_of : (d : Lists) (bytes : List ℕ) (n number : ℕ) (line : List ℕ) (events : List Event) (fault : EventsFault) → n < length (lines bytes) → line ≡ get_or (lines bytes) n line →
    says_something line ≡ true → All (IsOfDeployment d) events → map (event_text d) events ≡ said_by (take n (lines bytes)) → SaysNoEvent d (before_arrow line) → number ≡ n → fault ≡ At NotAnEvent (number + 1) → IsLineFaultOf d bytes fault
fault_of d bytes n number line events fault lt at says known before none same is =
    let here : number + 1 - 1 ≡ n = omega arith in
    let there : slice_get (lines bytes) n ≡ Some line = slice_get_read (lines bytes) (length (lines bytes)) n line refl lt at in
    rw is ((omega arith, rw (here, there) (ap Some says)), (events, known, rw here before), rw (here, there) none)

-- what is known of an error holds of the result
pub of_error : {X E : Type 0} (r : Result X E) (Q P : E → Type 0) → ((e : E) → Q e → P e) → IsErrAnd r Q → IfErr r P
of_error (Ok x) Q P gives h = tt
of_error (Err e) Q P gives h = gives e h

-- the fault of the lines of bytes that are UTF-8
of_text : (d : Lists) (bytes : List ℕ) (fault : EventsFault) → IsUtf8 bytes → IsLineFaultOf d bytes fault → IsFaultOf d bytes fault
of_text d bytes (At NotText n) is fault = absurd fault
of_text d bytes (At NotAnEvent n) is fault = (is, fault)
of_text d bytes NoMemory is fault = tt

-- whatever was read of them
pub read_of_text : {X : Type 0} (d : Lists) (bytes text : List ℕ) (r : Result X EventsFault) → text ≡ bytes → IsUtf8 bytes → IfErr r (IsLineFaultOf d text) → IfErr r (IsFaultOf d bytes)
read_of_text d bytes text (Ok x) same is fault = tt
read_of_text d bytes text (Err e) same is fault = of_text d bytes e is (subst (λ (t : List ℕ). IsLineFaultOf d t e) same fault)
