use Rattle.std.proofs.Common.{◌≡◌, drop}
use Rattle.toml.specs.View.{items_view}
use Rattle.dds_fields.specs.Places.{place_text}
use Rattle.dds_fields.specs.Reading.{each}
use Rattle.dds_fields.proofs.items.each.Given as goal

abbrev pub invariant-loop-i : goal.invariant-loop-i
invariant-loop-i g l =
    let read = g.I.Items.step l.items in
    each read (place_text l.path) l.i (g.I.Items.state l.all) (items_view (drop l.i l.values)) ≡ each read (place_text l.path) 0 (g.I.Items.state l.fn.all) (items_view l.values)
