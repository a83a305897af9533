use Rattle.std.proofs.Common.{◌≡◌, ◌∙◌, ℕ, List, [], Option, Some, IfOk, ap, slice_get, string_bytes, subst, sym, true}
use Rattle.std.specs.Prelude.{option_map, unwrap_or}
use Rattle.dds_lists.specs.Lists.{Application, Lists, has, readers_at}
use Rattle.dds_lists.specs.Views.{application_view}
use Rattle.dds_recap.specs.Recap.{spare_at}
use Rattle.dds_recap.specs.Waits.{reader_waits}
use Rattle.dds_recap.proofs.waits.reader_waits.Goals as goal

pub returns-then-contains : goal.returns-then-contains
returns-then-contains c =
    let d = c.args.plan.now in
    let spare = spare_at c.args.recap.now in
    let there : slice_get d.applications.entries c.args.app ≡ Some (application_view c.application.result.now) =
    subst (λ (lists : Lists). slice_get lists.applications.entries c.args.app ≡ Some (application_view c.application.result.now)) c.lists.ensures.value c.application.ensures in
    let known : readers_at d.applications c.args.app ≡ c.deref.result.now =
    ap (λ (o : Option Application). unwrap_or (option_map (λ (x : Application). x.readers) o) []) there ∙ sym c.deref.ensures.value in
    let yes : has (readers_at d.applications c.args.app) c.new-reader.result ≡ true =
    ap (λ (ks : List ℕ). has ks c.new-reader.result) known ∙ (sym c.contains.ensures.value ∙ c.if-contains.true) in
    subst (λ (r : ℕ). IfOk c.keys_waits.result (λ text. string_bytes text ≡ reader_waits d spare c.args.app r)) c.new-reader.ensures (rw yes c.keys_waits.ensures)
