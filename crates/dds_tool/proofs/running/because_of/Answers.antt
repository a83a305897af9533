use Rattle.std.proofs.Common.{◌≡◌, ◌∙◌, List, Option, Some, ℕ, ap, subst, sym}
use Rattle.dds_book.specs.declared.entry.Entry.{Entry}
use Rattle.dds_book.specs.Journal.{IsJournal}
use Rattle.dds_recap.specs.Explanation.{explanation}
use Rattle.dds_tool.proofs.running.because_of.Goals as goal

pub explain_run-requires-clause-journal : goal.explain_run-requires-clause-journal
explain_run-requires-clause-journal c = subst (λ (entries : List Entry). IsJournal c.args.plan.now entries) (sym c.entries.ensures) c.requires.journal

pub returns-in-Ok : goal.returns-in-Ok
returns-in-Ok c =
    rw c.in-Explained.is
    (ap (λ (text : List ℕ). Some text) (c.in-Ok.ensures ∙ ap (λ (entries : List Entry). explanation c.args.plan.now entries c.args.ends.now) c.entries.ensures))
