use Rattle.std.proofs.Common.{◌≡◌, ◌≤◌, ◌<◌, ◌⊎◌, ◌∙◌, ℕ, List, IfErr, ap, ap₂, Err, inr, length, subst, sym}
use Rattle.dds_answers.specs.Outcome.{Outcome, file_outcome, outcome}
use Rattle.dds_answers.specs.Reading.{most_bytes}
use Rattle.dds_answers.proofs.FileEnds.{held, large_of_two, unread_one}
use Rattle.dds_tool.specs.Commands.{IsToldOf, MayBreakOff, MayEndFiles, MayEndPair, most_of}
use Rattle.dds_tool.specs.RunEnds.{GivesUnless}
use Rattle.dds_tool.proofs.Ending.{files_give, most_of_run, pair_causes, read_told}
use Rattle.dds_tool.proofs.commands.answer_two.Goals as goal

pub returns-in-Ok-clause-gives : goal.returns-in-Ok-clause-gives
returns-in-Ok-clause-gives g c = λ x y is_x is_y.
    let asks = c.args.task in
    let name = c.args.deployment.now in
    let other = c.args.second.now in
    let most = c.most_of.ensures in
    let first = held _ x (λ xs. (c.in-Ok.given.items ≡ xs) × (length xs ≤ most_bytes)) is_x c.in-Ok.ensures.first in
    let second = held _ y (λ xs. (c.in-Ok.bytes.items ≡ xs) × (length xs ≤ c.most_of.result)) is_y c.in-Ok.ensures.second in
    let given = c.as_slice.ensures.value ∙ first.0 in
    let bytes = c.as_slice-in-Ok.ensures.value ∙ second.0 in
    let gives =
    subst (λ (d : List ℕ). GivesUnless (MayBreakOff asks (outcome d y)) (MayEndPair asks name other d y) c.answer_pair.result) given
    (subst (λ (s : List ℕ). GivesUnless (MayBreakOff asks (outcome c.as_slice.result.now s)) (MayEndPair asks name other c.as_slice.result.now s) c.answer_pair.result) bytes c.answer_pair.ensures.gives) in
    let told =
    subst (λ (d : List ℕ). IfErr c.answer_pair.result (IsToldOf asks d y)) given
    (subst (λ (s : List ℕ). IfErr c.answer_pair.result (IsToldOf asks c.as_slice.result.now s)) bytes c.answer_pair.ensures.told) in (
      files_give asks (most_of asks) (MayEndPair asks name other x y) x y c.answer_pair.result first.1 (subst (λ (n : ℕ). length y ≤ n) most second.1)
          (most_of_run asks (outcome x y)) gives,
      told,
    )

pub returns-in-Ok-clause-causes : goal.returns-in-Ok-clause-causes
returns-in-Ok-clause-causes g c = pair_causes c.args.task (g.S.Sources.has_failed c.read_files.new.files) c.answer_pair.result c.answer_pair.ensures.fault

pub returns-in-Err-clause-gives : goal.returns-in-Err-clause-gives
returns-in-Err-clause-gives g c = λ x y is_x is_y.
    let asks = c.args.task in
    let name = c.args.deployment.now in
    let other = c.args.second.now in (
      inr (unread_one (MayEndFiles asks name other x y) c.in-Err.fault c.in-Err.ensures.faults
          (λ same. large_of_two (MayEndPair asks name other x y) (most_of asks) x y
          (subst (λ (n : ℕ). (most_bytes < length x) ⊎ (n < length y)) c.most_of.ensures (c.in-Err.ensures.too_large x y is_x is_y (ap Err same))))),
      read_told asks x y c.in-Err.fault c.in-Err.ensures.faults,
    )
