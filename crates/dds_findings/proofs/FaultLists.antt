-- Lists of nothing but faults.
use Rattle.std.proofs.Common.{◌≡◌, ◌<◌, ℕ, refl, sym, subst, arith, List, map, length, Result, Ok, Err, IfOk}
use Rattle.std.specs.List.{Any}
use Rattle.std.proofs.lemmas.List.{length-map}
use Rattle.std.proofs.lemmas.List.Elements.{All-map}
use Rattle.dds_faults.specs.declared.fault.FileFault.{FileFault}
use Rattle.dds_findings.specs.Findings.{AreFaults, Matter, fault_matter, matters}
use Rattle.dds_findings.specs.declared.finding.Finding.{Finding}

-- what is made of faults alone is faults
all_faults : (xs : List FileFault) (found : List Matter) → 0 < length xs → found ≡ map (λ (f : FileFault). fault_matter) xs → AreFaults found
all_faults xs found some same =
    subst AreFaults (sym same) (
      subst (λ (n : ℕ). 0 < n) (sym (length-map xs (λ (f : FileFault). fault_matter))) some,
      All-map (λ (m : Matter). m ≡ fault_matter) (λ (f : FileFault). fault_matter) xs (λ k d lt. refl),
    )

-- findings of faults, of which there is one at least, are nothing but faults
pub faults_found : {V E : Type 0} (items : V → List Finding) (xs : List FileFault) (r : Result V E) → 0 < length xs
    → IfOk r (λ v. matters (items v) ≡ map (λ (f : FileFault). fault_matter) xs) → IfOk r (λ v. AreFaults (matters (items v)))
faults_found items xs (Ok v) some same = all_faults xs (matters (items v)) some same
faults_found items xs (Err e) some same = tt

-- a list has an element where it has one of some kind
pub some_listed : (P : FileFault → Type 0) (xs : List FileFault) → Any P xs → 0 < length xs
some_listed P xs any = omega (arith, any.2)
