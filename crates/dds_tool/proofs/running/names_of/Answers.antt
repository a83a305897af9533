use Rattle.std.proofs.Common.{◌≡◌, ◌∙◌, map, ap, string_bytes, sym}
use Rattle.std.specs.List.{range_with_len}
use Rattle.dds_base.proofs.Ranges.{range_push}
use Rattle.dds_text.specs.Names.{name_at}
use Rattle.dds_peers.proofs.ListLaws.{map_both}
use Rattle.dds_tool.proofs.running.names_of.Goals as goal

pub loop-app-preserved : goal.loop-app-preserved
loop-app-preserved c =
    let name = name_at c.args.lists.now.applications.names in
    let is : string_bytes c.in_ok-from_str.field-0 ≡ name c.loop-app.app = c.in_ok-from_str.ensures.ok ∙ rw (c.name_at-name.ensures, c.application_names.ensures) in
    map_both string_bytes name c.loop-app.names.items c.push.new.self.items c.in_ok-from_str.field-0 (range_with_len 0 c.loop-app.app) c.loop-app.app c.loop-app.invariant c.in_ok-push.ensures.items is
    ∙ ap (map name) (sym (range_push c.loop-app.app))
