use Rattle.std.proofs.Common.{◌≡◌, ◌∙◌, ◌++◌, [], List, ℕ, get_or, map, string_bytes, sym, ap, ap₂}
use Rattle.std.proofs.lemmas.List.{get_or-map}
use Rattle.dds_book.specs.declared.entry.Entry.{Entry}
use Rattle.dds_text.proofs.TextLaws.{and_next}
use Rattle.dds_apps.specs.declared.player.AppEnd.TheVariants.{Stopped}
use Rattle.dds_apps.specs.Kept.{entries_of}
use Rattle.dds_tool.specs.Running.{app_line, line_at}
use Rattle.dds_tool.proofs.running.run_text.Goals as goal

pub loop-app-preserved : goal.loop-app-preserved
loop-app-preserved c =
    let end = get_or c.args.ends.now c.loop-app.app Stopped in
    let name : c.as_str.result.now ≡ get_or (map string_bytes c.args.names.now) c.loop-app.app [] =
    c.as_str.ensures.value ∙ (ap string_bytes c.index-names-app.is ∙ sym (get_or-map string_bytes c.args.names.now c.loop-app.app c.index-names-app.result [] c.loop-app-test.true)) in
    let line : string_bytes c.in_ok-line.line ≡ line_at (map string_bytes c.args.names.now) c.args.journal.now c.args.ends.now c.loop-app.app =
    c.in_ok-line.ensures ∙ ap₂ (λ (name : List ℕ) (entries : List Entry). app_line name (entries_of c.loop-app.app entries) end) name c.entries.ensures in
    and_next (line_at (map string_bytes c.args.names.now) c.args.journal.now c.args.ends.now) c.loop-app.app [] (string_bytes c.loop-app.text) (string_bytes c.push_str.new.self)
    c.loop-app.invariant (c.in_ok-push_str.ensures.bytes ∙ ap (λ (bytes : List ℕ). string_bytes c.loop-app.text ++ bytes) (c.as_str-in-loop-app.ensures.value ∙ line))
