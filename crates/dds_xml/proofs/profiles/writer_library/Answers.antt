use Rattle.std.proofs.Common.{rules}
use Rattle.dds_xml.specs.Profiles.{writer_library, writer_profile_at}
use Rattle.dds_xml.proofs.profiles.writer_library.Goals as goal

pub returns : goal.returns
unfolding writer_library
returns c = rw c.writers.ensures.count at (c.library.ensures (writer_profile_at c.args.lists.now) (λ n text below post. search rules))
