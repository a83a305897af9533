use Rattle.std.proofs.Common.{refl}
use Rattle.toml.specs.View.{table_view}
use Rattle.dds_fields.specs.Places.{place_text}
use Rattle.dds_cert.specs.Keys.{reader_and_keys}
use Rattle.dds_cert.proofs.KeyLaws.{reader_and_keys_are}
use Rattle.dds_cert.proofs.keys.ReaderFieldsEndpointFields.endpoint_and_keys.Goals as goal

pub returns-clause-distinct : goal.returns-clause-distinct
unfolding reader_and_keys
returns-clause-distinct c = (reader_and_keys_are c.args.self.now.version c.args.self.now.lists.now (place_text c.args.path.now) (table_view c.args.table.now) (c.in_ok-reader.reader, c.in_ok-keys.keys.items) c.assert_well_formed.ensures.names_once (rw (c.in_ok-reader.ensures.gives, c.in_ok-keys.ensures) refl)).differ
