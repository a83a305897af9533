-- What is said of a request whose answer was written, or that met a fault.
use Rattle.std.proofs.Common.{◌≡◌, ◌⊎◌, Bool, true, OnOk, subst, ℕ, List, [], Option, Some, None, Result, Ok, Err, IfOk, IfErr, inl, inr, refl, ap, sym, ◌∙◌, append-nil, arith}
use Rattle.std.specs.Io.KnownBytes.{Appends, Keeps}
use Rattle.dds_answers.specs.declared.answer.Answer.{Answer}
use Rattle.dds_answers.specs.declared.exit.Exit.{Exit}
use Rattle.dds_answers.specs.declared.fault.ToolFault.{ToolFault}
use Rattle.dds_answers.specs.declared.fault.ToolFault.TheVariants as fault
use Rattle.dds_answers.specs.Answers.{Gives, GivesOneOf}
use Rattle.dds_answers.specs.Exit.{exit_status}
use Rattle.dds_answers.specs.Fault.{fault_status}
use Rattle.dds_answers.specs.Outcome.{Outcome, file_outcome, too_large, unproposed}
use Rattle.dds_answers.specs.Report.{Ends, output_of, status_of}
use Rattle.dds_answers.proofs.FileEnds.{any_end}
use Rattle.dds_request.specs.declared.request.Request.{Request}
use Rattle.dds_request.specs.declared.request.Request.TheVariants as asked
use Rattle.dds_tool.specs.Commands.{Answers, GivesTo, MayBreakOff, MayEndFile, MayEndFiles, SaysOneOf}
use Rattle.dds_tool.specs.RunEnds.{GivesUnless}

-- known bytes that stay grow by nothing
appends_nothing : (old new : Option (List ℕ)) → Keeps old new → Appends old new []
appends_nothing None new h = tt
appends_nothing (Some xs) None h = absurd h
appends_nothing (Some xs) (Some ys) h = h ∙ sym (append-nil xs)

-- a status that is 3 either way
three : (status : ℕ) → (status ≡ 3) ⊎ (status ≡ 3) → status ≡ 3
three status (inl h) = h
three status (inr h) = h

-- a bad file writes nothing, and its status is 2
bad : (f : ToolFault) (status : ℕ) (old new : Option (List ℕ)) → (f ≡ fault.Write → ⊥) → (f ≡ fault.Write) ⊎ Keeps old new
    → (status ≡ 2) ⊎ (status ≡ 3) → ((status ≡ 2) × Appends old new []) ⊎ (status ≡ 3)
bad f status old new other (inl write) told = absurd (other write)
bad f status old new other (inr keeps) (inl two) = inl (two, appends_nothing old new keeps)
bad f status old new other (inr keeps) (inr h) = inr h

-- what is said of an end by its status
abbrev Said : Outcome → ℕ → Option (List ℕ) → Option (List ℕ) → Type 0
Said end status old new = (status ≡ status_of end) × Appends old new (output_of end)

fault_said : (end : Outcome) (f : ToolFault) (status : ℕ) (old new : Option (List ℕ)) → Ends f end → (f ≡ fault.Write) ⊎ Keeps old new
    → (status ≡ fault_status f) ⊎ (status ≡ 3) → Said end status old new ⊎ (status ≡ 3)
unfolding output_of status_of
fault_said end (fault.Deployment flaw syntax) status old new is nothing told = rw is (bad (fault.Deployment flaw syntax) status old new (λ e. cc) nothing told)
fault_said end (fault.Certificate flaw syntax) status old new is nothing told = rw is (bad (fault.Certificate flaw syntax) status old new (λ e. cc) nothing told)
fault_said end (fault.Events kind line) status old new is nothing told = rw is (bad (fault.Events kind line) status old new (λ e. cc) nothing told)
fault_said end (fault.Trace kind line) status old new is nothing told = rw is (bad (fault.Trace kind line) status old new (λ e. cc) nothing told)
fault_said end fault.TooLarge status old new is nothing told = rw is (bad fault.TooLarge status old new (λ e. cc) nothing told)
fault_said end fault.Read status old new is nothing told = inr (three status told)
fault_said end fault.Write status old new is nothing told = inr (three status told)
fault_said end fault.NoMemory status old new is nothing told = inr (three status told)
fault_said end (fault.Usage text) status old new is nothing told = absurd is
fault_said end fault.Run status old new is nothing told = absurd is

-- a fault that ends two ends of another status is one of memory or of a device
every_end : (f : ToolFault) → Ends f too_large → Ends f unproposed → fault_status f ≡ 3
every_end fault.Read a b = refl
every_end fault.Write a b = refl
every_end fault.NoMemory a b = refl
every_end (fault.Usage text) a b = absurd a
every_end (fault.Deployment flaw syntax) a b = absurd (let x : too_large ≡ unproposed = a ∙ sym b in cc)
every_end (fault.Certificate flaw syntax) a b = absurd (let x : too_large ≡ unproposed = a ∙ sym b in cc)
every_end (fault.Events kind line) a b = absurd (let x : too_large ≡ unproposed = a ∙ sym b in cc)
every_end (fault.Trace kind line) a b = absurd (let x : too_large ≡ unproposed = a ∙ sym b in cc)
every_end fault.TooLarge a b = absurd (let x : unproposed ≡ too_large = b in cc)
every_end fault.Run a b = absurd a

-- one of the ends that may be was said, or memory or a device failed
one_said : (May : Outcome → Type 0) (given : Result Answer ToolFault) (status : ℕ) (old new : Option (List ℕ)) → GivesOneOf May given
    → ((end : Outcome) → Gives given end → (status ≡ status_of end) × Appends old new (output_of end))
    → (status ≡ 3) ⊎ SaysOneOf May status old new
unfolding status_of
one_said May (Ok answer) status old new (end, may, is) written = let said = written end is in inr (end, may, said.0, said.1)
one_said May (Err e) status old new (inr (end, may, ends)) written = let said = written end ends in inr (end, may, said.0, said.1)
one_said May (Err e) status old new (inl failed) written =
    let two : status ≡ 2 = (written too_large (any_end e too_large failed)).0 in
    let one : status ≡ 1 = (written unproposed (any_end e unproposed failed)).0 in
    absurd (omega (arith, one, two))

-- a fault of an end that may be says so, or that memory or a device failed
end_faulted : (May : Outcome → Type 0) (end : Outcome) (f : ToolFault) (status : ℕ) (old new : Option (List ℕ)) → May end → Ends f end → (f ≡ fault.Write) ⊎ Keeps old new
    → (status ≡ fault_status f) ⊎ (status ≡ 3) → (status ≡ 3) ⊎ SaysOneOf May status old new
end_faulted May end f status old new may ends nothing told =
    elim (fault_said end f status old new ends nothing told) [ inl said ↦ inr (end, may, said.0, said.1) | inr three ↦ inl three ]

-- a fault is said of one of the ends that may be, or of memory or of a device
one_faulted : (May : Outcome → Type 0) (given : Result Answer ToolFault) (f : ToolFault) (status : ℕ) (old new : Option (List ℕ)) → GivesOneOf May given
    → ((end : Outcome) → Gives given end → Ends f end) → (f ≡ fault.Write) ⊎ Keeps old new → (status ≡ fault_status f) ⊎ (status ≡ 3)
    → (status ≡ 3) ⊎ SaysOneOf May status old new
one_faulted May (Ok answer) f status old new (end, may, is) ends nothing told = end_faulted May end f status old new may (ends end is) nothing told
one_faulted May (Err e) f status old new (inr (end, may, is)) ends nothing told = end_faulted May end f status old new may (ends end is) nothing told
one_faulted May (Err e) f status old new (inl failed) ends nothing told =
    let all = every_end f (ends too_large (any_end e too_large failed)) (ends unproposed (any_end e unproposed failed)) in
    inl (elim told [ inl h ↦ h ∙ all | inr h ↦ h ])

-- a fault is passed on
abbrev Passes : Result Answer ToolFault → Result Exit ToolFault → Type 0
Passes given r = IfErr given (λ e. r ≡ Err e)

-- the fault that was passed on is the same
same_fault : (given : Result Answer ToolFault) (f : ToolFault) → Passes given (Err f) → IfErr given (λ e. f ≡ e)
same_fault (Ok answer) f passed = tt
same_fault (Err e) f passed = cc

no_fault : (exit : Exit) (e : ToolFault) → Passes (Err e) (Ok exit) → ⊥
no_fault exit e passed = cc

-- the same where a run may be broken off, which isn't said with an answer
unless_said : (Breaks : Type 0) (May : Outcome → Type 0) (given : Result Answer ToolFault) (exit : Exit) (old new : Option (List ℕ)) → GivesUnless Breaks May given
    → ((end : Outcome) → Gives given end → (exit_status exit ≡ status_of end) × Appends old new (output_of end))
    → Passes given (Ok exit) → (exit_status exit ≡ 3) ⊎ SaysOneOf May (exit_status exit) old new
unless_said Breaks May (Ok answer) exit old new gives written passed = one_said May (Ok answer) (exit_status exit) old new gives written
unless_said Breaks May (Err e) exit old new gives written passed = absurd (no_fault exit e passed)

unless_faulted : (Breaks : Type 0) (May : Outcome → Type 0) (given : Result Answer ToolFault) (f : ToolFault) (status : ℕ) (old new : Option (List ℕ)) → GivesUnless Breaks May given
    → ((end : Outcome) → Gives given end → Ends f end) → (f ≡ fault.Write) ⊎ Keeps old new → IfErr given (λ e. f ≡ e)
    → (status ≡ fault_status f) ⊎ (status ≡ 3) → (status ≡ 3) ⊎ SaysOneOf May status old new
unless_faulted Breaks May (Ok answer) f status old new gives ends nothing passed told = one_faulted May (Ok answer) f status old new gives ends nothing told
unless_faulted Breaks May (Err e) f status old new (inr gives) ends nothing passed told = one_faulted May (Err e) f status old new gives ends nothing told
unless_faulted Breaks May (Err e) f status old new (inl run) ends nothing passed told = inl (elim told [ inl h ↦ h ∙ ap fault_status (passed ∙ run.1) | inr h ↦ h ])

-- an answer that was written is what is said of the request
pub answered : (holds : List ℕ → Option (List ℕ)) (request : Request) (given : Result Answer ToolFault) (r : Result Exit ToolFault) (old new : Option (List ℕ))
    → GivesTo holds request given
    → ((end : Outcome) → Gives given end → IfOk r (λ exit. (exit_status exit ≡ status_of end) × Appends old new (output_of end)))
    → Passes given r
    → IfOk r (λ exit. Answers holds request (exit_status exit) old new)
answered holds request given (Err f) old new gives written passed = tt
answered holds (asked.One d asks) given (Ok exit) old new gives written passed =
    λ x hx. one_said (MayEndFile asks d.now x) given (exit_status exit) old new (gives x hx) written
answered holds (asked.Two d s asks) given (Ok exit) old new gives written passed =
    λ x y hx hy. unless_said (MayBreakOff asks (file_outcome x y)) (MayEndFiles asks d.now s.now x y) given exit old new (gives x y hx hy).0 written passed

-- a fault is said of the request by its status, or by 3
pub faulted : (holds : List ℕ → Option (List ℕ)) (request : Request) (given : Result Answer ToolFault) (r : Result Exit ToolFault) (old new : Option (List ℕ))
    → GivesTo holds request given
    → ((end : Outcome) → Gives given end → IfErr r (λ f. Ends f end))
    → IfErr r (λ f. (f ≡ fault.Write) ⊎ Keeps old new)
    → Passes given r
    → IfErr r (λ f. (status : ℕ) → (status ≡ fault_status f) ⊎ (status ≡ 3) → Answers holds request status old new)
faulted holds request given (Ok exit) old new gives ends nothing passed = tt
faulted holds (asked.One d asks) given (Err f) old new gives ends nothing passed =
    λ status told x hx. one_faulted (MayEndFile asks d.now x) given f status old new (gives x hx) ends nothing told
faulted holds (asked.Two d s asks) given (Err f) old new gives ends nothing passed =
    λ status told x y hx hy.
    unless_faulted (MayBreakOff asks (file_outcome x y)) (MayEndFiles asks d.now s.now x y) given f status old new (gives x y hx hy).0 ends nothing (same_fault given f passed) told

-- a fault that is passed on is one with which the request may end
pub ends_given : (holds : List ℕ → Option (List ℕ)) (request : Request) (given : Result Answer ToolFault) (r : Result Exit ToolFault) (failed : Bool) → GivesTo holds request given
    → OnOk given (IfErr r (λ e. (e ≡ fault.Write) × (failed ≡ true))) → Passes given r → IfErr r (λ e. (e ≡ fault.Write) ⊎ GivesTo holds request (Err e))
ends_given holds request given (Ok exit) failed gives write passed = tt
ends_given holds request (Ok answer) (Err e) failed gives write passed = inl write.0
ends_given holds request (Err f) (Err e) failed gives write passed = inr (subst (λ (x : ToolFault). GivesTo holds request (Err x)) (sym (same_fault (Err f) e passed)) gives)
