-- What is given of files that are too large, or could not be read.
use Rattle.std.proofs.Common.{◌≡◌, ◌≤◌, ◌<◌, ◌⊎◌, ◌&&◌, ℕ, Bool, true, false, List, Option, Some, length, nat_le, Result, Ok, Err, IfSome, refl, inl, inr, subst}
use Rattle.std.specs.Result.{IsErrAnd}
use Rattle.std.proofs.lemmas.Bool.{le-leb, lt-leb}
use Rattle.dds_answers.specs.declared.answer.Answer.{Answer}
use Rattle.dds_answers.specs.declared.fault.ToolFault.{ToolFault}
use Rattle.dds_answers.specs.declared.fault.ToolFault.TheVariants as fault
use Rattle.dds_answers.specs.Answers.{Gives, GivesOneOf, SaysNothing}
use Rattle.dds_answers.specs.Outcome.{MayIf, MayOfFile, MayOfFiles, Outcome, of_files, too_large}
use Rattle.dds_answers.specs.Reading.{IsReadingFault, most_bytes}
use Rattle.dds_answers.specs.Report.{Ends}

-- what is known of the bytes of a file holds of these, if it has these
pub held : (known : Option (List ℕ)) (d : List ℕ) (P : List ℕ → Type 0) → known ≡ Some d → IfSome known P → P d
held known d P is has = subst (λ (bytes : Option (List ℕ)). IfSome bytes P) is has

-- a fault of memory or of a device may come with every end
pub any_end : (e : ToolFault) (end : Outcome) → SaysNothing e → Ends e end
any_end fault.Read end h = tt
any_end fault.Write end h = tt
any_end fault.NoMemory end h = tt
any_end (fault.Usage text) end h = absurd h
any_end (fault.Deployment flaw syntax) end h = absurd h
any_end (fault.Certificate flaw syntax) end h = absurd h
any_end (fault.Events kind line) end h = absurd h
any_end (fault.Trace kind line) end h = absurd h
any_end fault.TooLarge end h = absurd h
any_end fault.Run end h = absurd h

-- the fault of a file that could not be read is that it is too large, or it says nothing of the end
pub reading_fault : (f : ToolFault) → IsReadingFault f → (f ≡ fault.TooLarge) ⊎ SaysNothing f
reading_fault fault.TooLarge is = inl refl
reading_fault fault.Read is = inr tt
reading_fault fault.NoMemory is = inr tt
reading_fault (fault.Usage text) is = absurd is
reading_fault (fault.Deployment flaw syntax) is = absurd is
reading_fault (fault.Certificate flaw syntax) is = absurd is
reading_fault (fault.Events kind line) is = absurd is
reading_fault (fault.Trace kind line) is = absurd is
reading_fault fault.Write is = absurd is
reading_fault fault.Run is = absurd is

-- the bytes of two files are few enough, or those of one aren't
pub few : (most : ℕ) (d c : List ℕ) → length d ≤ most_bytes → length c ≤ most → (nat_le (length d) most_bytes && nat_le (length c) most) ≡ true
few most d c one other = rw (le-leb (length d) most_bytes one, le-leb (length c) most other) refl

many : (most : ℕ) (d c : List ℕ) → (most_bytes < length d) ⊎ (most < length c) → (nat_le (length d) most_bytes && nat_le (length c) most) ≡ false
many most d c (inl more) = rw (lt-leb (length d) most_bytes more) refl
many most d c (inr more) = rw (lt-leb (length c) most more) (either (nat_le (length d) most_bytes))
  where
    either : (b : Bool) → (b && false) ≡ false
    either true = refl
    either false = refl

-- so a command on them ends as on their bytes, or since one is too large
pub few_of_files : (d c : List ℕ) (end : Outcome) → length d ≤ most_bytes → length c ≤ most_bytes → of_files d c end ≡ end
few_of_files d c end one other = rw (few most_bytes d c one other) refl

pub large_of_files : (d c : List ℕ) (end : Outcome) → (most_bytes < length d) ⊎ (most_bytes < length c) → of_files d c end ≡ too_large
large_of_files d c end more = rw (many most_bytes d c more) refl

pub ruleset ends = (few_of_files, large_of_files)

pub large_of_file : (May : Outcome → Type 0) (d : List ℕ) → most_bytes < length d → MayOfFile d May too_large
large_of_file May d more = rw (lt-leb (length d) most_bytes more) refl

pub large_of_two : (May : Outcome → Type 0) (most : ℕ) (d c : List ℕ) → (most_bytes < length d) ⊎ (most < length c) → MayOfFiles most d c May too_large
large_of_two May most d c more = rw (many most d c more) refl

-- one of the ends that may be of bytes that are few enough
pub few_gives : (b : Bool) (May : Outcome → Type 0) (r : Result Answer ToolFault) → b ≡ true → GivesOneOf May r → GivesOneOf (MayIf b May) r
few_gives b May (Ok answer) is (end, may, same) = (end, rw is may, same)
few_gives b May (Err e) is (inl nothing) = inl nothing
few_gives b May (Err e) is (inr (end, may, ends)) = inr (end, rw is may, ends)

pub file_gives : (May : Outcome → Type 0) (d : List ℕ) (r : Result Answer ToolFault) → length d ≤ most_bytes → GivesOneOf May r → GivesOneOf (MayOfFile d May) r
file_gives May d r small gives = few_gives (nat_le (length d) most_bytes) May r (le-leb (length d) most_bytes small) gives

-- what is given of an end that may be
pub one_of : (May : Outcome → Type 0) (end : Outcome) (r : Result Answer ToolFault) → May end → Gives r end → GivesOneOf May r
one_of May end (Ok answer) may is = (end, may, is)
one_of May end (Err e) may ends = inr (end, may, ends)

-- the fault of a file that could not be read is given, where the end of one that is too large is such an end
pub unread_ends : (end : Outcome) (f : ToolFault) → IsReadingFault f → (f ≡ fault.TooLarge → end ≡ too_large) → Ends f end
unread_ends end f is large = elim (reading_fault f is) [ inl same ↦ rw same (large same) | inr nothing ↦ any_end f end nothing ]

pub unread_gives : (end : Outcome) (r : Result Answer ToolFault) (f : ToolFault) → IsErrAnd r (λ g. g ≡ f) → IsReadingFault f → (f ≡ fault.TooLarge → end ≡ too_large) → Gives r end
unread_gives end (Ok answer) f same is large = absurd same
unread_gives end (Err g) f same is large = rw same (unread_ends end f is large)

pub unread_one : (May : Outcome → Type 0) (f : ToolFault) → IsReadingFault f → (f ≡ fault.TooLarge → May too_large) → GivesOneOf May (Err f)
unread_one May f is may = elim (reading_fault f is) [ inl same ↦ rw same (inr (too_large, may same, refl)) | inr nothing ↦ inl nothing ]

pub unread_gives_one : (May : Outcome → Type 0) (r : Result Answer ToolFault) (f : ToolFault) → IsErrAnd r (λ g. g ≡ f) → IsReadingFault f → (f ≡ fault.TooLarge → May too_large)
    → GivesOneOf May r
unread_gives_one May (Ok answer) f same is may = absurd same
unread_gives_one May (Err g) f same is may = rw same (unread_one May f is may)
