use Rattle.std.proofs.Common.{refl}
use Rattle.toml.specs.View.{table_view}
use Rattle.dds_fields.specs.Places.{place_text}
use Rattle.dds_cert.specs.Keys.{writer_and_keys}
use Rattle.dds_cert.proofs.KeyLaws.{writer_and_keys_are}
use Rattle.dds_cert.proofs.keys.WriterFieldsEndpointFields.endpoint_and_keys.Goals as goal

pub returns-clause-distinct : goal.returns-clause-distinct
unfolding writer_and_keys
returns-clause-distinct c = (writer_and_keys_are c.args.self.now.version c.args.self.now.lists.now (place_text c.args.path.now) (table_view c.args.table.now) (c.in_ok-writer.writer, c.in_ok-keys.keys.items) (rw (c.in_ok-writer.ensures.gives, ← c.keys_of_writer-names.ensures, c.in_ok-keys.ensures) refl)).differ
