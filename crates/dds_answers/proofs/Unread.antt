-- What is given of a deployment that could not be read.
use Rattle.std.proofs.Common.{◌≡◌, ◌∙◌, ℕ, List, Option, Result, Ok, Err, IfOk, IfErr, ap, inl, inr, refl, string_bytes}
use Rattle.std.specs.Result.{IsErrAnd}
use Rattle.dds_fields.specs.Reading.{Flaw, Read}
use Rattle.dds_fields.specs.Gives.{Fails}
use Rattle.dds_fields.specs.declared.fault.Fault.{Fault}
use Rattle.dds_fields.specs.declared.fault.ReadFault.{ReadFault}
use Rattle.dds_fields.specs.declared.fault.ReadFault.TheVariants as unread
use Rattle.dds_lists.specs.Lists.{Lists}
use Rattle.dds_answers.specs.declared.answer.Answer.{Answer}
use Rattle.dds_answers.specs.declared.fault.ToolFault.{ToolFault}
use Rattle.dds_answers.specs.declared.fault.ToolFault.TheVariants as fault
use Rattle.dds_answers.specs.declared.syntax.SyntaxError.{SyntaxError}
use Rattle.dds_answers.specs.Answers.{Gives, GivesOneOf}
use Rattle.dds_answers.specs.Outcome.{bad_deployment, Outcome, planned}
use Rattle.dds_answers.specs.Report.{Ends, IsDeploymentFault, IsUnread, Tells}

-- the fault of a deployment that could not be read is one of these
pub is_unread : (read : Read Lists) (f : ReadFault) (t : ToolFault) → Fails f read → IsDeploymentFault f t → IsUnread read t
is_unread read (unread.At flaw) t fails is = rw is (fails, refl)
is_unread read unread.NoMemory t fails is = rw is tt

-- what holds of a flaw of the deployment and of want of memory holds of each of them
pub by_fault : (read : Read Lists) (P : ToolFault → Type 0)
    → ((flaw : Fault) (syntax : Option SyntaxError) → read ≡ Err (flaw.kind, string_bytes flaw.path) → P (fault.Deployment flaw syntax)) → P fault.NoMemory
    → (f : ToolFault) → IsUnread read f → P f
by_fault read P flawed memory (fault.Deployment flaw syntax) is = flawed flaw syntax is.0
by_fault read P flawed memory fault.NoMemory is = memory
by_fault read P flawed memory (fault.Certificate flaw syntax) is = absurd is
by_fault read P flawed memory (fault.Events kind line) is = absurd is
by_fault read P flawed memory (fault.Trace kind line) is = absurd is
by_fault read P flawed memory fault.TooLarge is = absurd is
by_fault read P flawed memory fault.Read is = absurd is
by_fault read P flawed memory fault.Write is = absurd is
by_fault read P flawed memory (fault.Usage text) is = absurd is
by_fault read P flawed memory fault.Run is = absurd is

-- want of memory for a plan is one of them, and a plan that was made is one of the lists that were read
pub unplanned : (read : Read Lists) (r : Result Lists ToolFault) → IfErr r (λ e. e ≡ fault.NoMemory) → IfErr r (IsUnread read)
unplanned read (Ok plan) memory = tt
unplanned read (Err e) memory = rw memory tt

pub planned_of : (read : Read Lists) (lists : Lists) (r : Result Lists ToolFault) → read ≡ Ok lists → IfOk r (λ plan. plan ≡ lists) → IfOk r (λ plan. read ≡ Ok plan)
planned_of read lists (Ok plan) is same = rw same is
planned_of read lists (Err e) is same = tt

-- the fault is told of a check
pub unread_told : (read : Read Lists) (c : List ℕ) (f : ToolFault) → IsUnread read f → Tells (Err f) (planned read c)
unread_told read c f is = by_fault read (λ e. Tells (Err e) (planned read c)) (λ flaw syntax bad. ap (λ r. planned r c) bad) tt f is

-- it is one with which a command ends that tells a flaw of its deployment
pub unread_ends : (after : Read Lists → Outcome) → ((flaw : Flaw) → after (Err flaw) ≡ bad_deployment flaw) → (read : Read Lists) (f : ToolFault) → IsUnread read f → Ends f (after read)
unread_ends after flawed read f is =
    by_fault read (λ e. Ends e (after read)) (λ flaw syntax bad. ap after bad ∙ flawed (flaw.kind, string_bytes flaw.path)) tt f is

-- so it is where it is passed on
pub unread_gives : (after : Read Lists → Outcome) → ((flaw : Flaw) → after (Err flaw) ≡ bad_deployment flaw) → (read : Read Lists) (r : Result Answer ToolFault) (f : ToolFault)
    → IsErrAnd r (λ g. g ≡ f) → IsUnread read f → Gives r (after read)
unread_gives after flawed read (Ok answer) f same is = absurd same
unread_gives after flawed read (Err g) f same is = rw same (unread_ends after flawed read f is)

-- and where one of several ends may be
pub unread_one : (May : Read Lists → Outcome → Type 0) → ((flaw : Flaw) → May (Err flaw) (bad_deployment flaw)) → (read : Read Lists) (f : ToolFault) → IsUnread read f
    → GivesOneOf (May read) (Err f)
unread_one May flawed read f is =
    by_fault read (λ e. GivesOneOf (May read) (Err e))
    (λ flaw syntax bad. inr (bad_deployment (flaw.kind, string_bytes flaw.path), rw bad (flawed (flaw.kind, string_bytes flaw.path)), refl)) (inl tt) f is

pub unread_gives_one : (May : Read Lists → Outcome → Type 0) → ((flaw : Flaw) → May (Err flaw) (bad_deployment flaw)) → (read : Read Lists) (r : Result Answer ToolFault) (f : ToolFault)
    → IsErrAnd r (λ g. g ≡ f) → IsUnread read f → GivesOneOf (May read) r
unread_gives_one May flawed read (Ok answer) f same is = absurd same
unread_gives_one May flawed read (Err g) f same is = rw same (unread_one May flawed read f is)
