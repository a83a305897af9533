use Rattle.std.proofs.Common.{◌≡◌, ◌∙◌, [], List, ℕ, get_or, map, string_bytes, sym, ap, ap₂}
use Rattle.std.proofs.lemmas.List.{get_or-map}
use Rattle.serde_json.specs.View.{view}
use Rattle.dds_book.specs.declared.entry.Entry.{Entry}
use Rattle.dds_apps.specs.declared.player.AppEnd.TheVariants.{Stopped}
use Rattle.dds_apps.specs.Kept.{entries_of}
use Rattle.dds_json.proofs.Documents.{one_more}
use Rattle.dds_tool.specs.RunDocument.{app_document, document_at}
use Rattle.dds_tool.proofs.run_document.app_documents.Goals as goal

pub loop-app-preserved : goal.loop-app-preserved
loop-app-preserved c =
    let end = get_or c.args.ends.now c.loop-app.app Stopped in
    let name : c.as_str-name.result.now ≡ get_or (map string_bytes c.args.names.now) c.loop-app.app [] =
    c.as_str-name.ensures.value ∙ (ap string_bytes c.index-names-app.is ∙ sym (get_or-map string_bytes c.args.names.now c.loop-app.app c.index-names-app.result [] c.loop-app-test.true)) in
    let document : view c.in_ok-document.document ≡ document_at (map string_bytes c.args.names.now) c.args.journal.now c.args.ends.now c.loop-app.app =
    c.in_ok-document.ensures ∙ ap₂ (λ (name : List ℕ) (entries : List Entry). app_document name (entries_of c.loop-app.app entries) end) name c.entries.ensures in
    one_more view (document_at (map string_bytes c.args.names.now) c.args.journal.now c.args.ends.now) c.loop-app.app [] c.loop-app.documents.items c.push.new.self.items
    c.in_ok-document.document c.loop-app.invariant c.in_ok-push.ensures.items document
