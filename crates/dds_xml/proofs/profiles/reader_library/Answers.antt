use Rattle.std.proofs.Common.{rules}
use Rattle.dds_xml.specs.Profiles.{reader_library, reader_profile_at}
use Rattle.dds_xml.proofs.profiles.reader_library.Goals as goal

pub returns : goal.returns
unfolding reader_library
returns c = rw c.readers.ensures.count at (c.library.ensures (reader_profile_at c.args.lists.now) (λ n text below post. search rules))
