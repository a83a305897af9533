use Rattle.std.proofs.Common.{◌≡◌, subst}
use Rattle.toml.specs.View.{table_view}
use Rattle.dds_fields.specs.Gives.{Gives}
use Rattle.dds_base.specs.Section.{nothing, listed}
use Rattle.dds_fields.specs.Reading.{a_section}
use Rattle.dds_deploy.specs.Entries.{one_more}
use Rattle.dds_deploy.proofs.entries.section.Goals as goal

pub returns : goal.returns
returns g c =
    let e : listed g.E.Entries.view c.new.result ≡ nothing = cc (c.new.ensures.names, c.new.ensures.entries) in
    let read = one_more (g.E.Entries.keys c.args.entries.now) (g.E.Entries.fields c.args.entries.now) in
    subst (λ s. Gives (listed g.E.Entries.view) c.section_of.result (a_section c.args.key.now c.args.limit read s (table_view c.args.table.now))) e c.section_of.ensures
