use Rattle.dds_match.specs.Plan.{network_of}
use Rattle.dds_domain.proofs.Opened.{writer_made}
use Rattle.dds_domain.proofs.opening.writer.Goals as goal

pub returns : goal.returns
returns c = writer_made (network_of c.args.plan.now) c.args.number c.writer_limits.result c.in_ok-proxies.proxies.items c.new.result c.writer_limits.ensures c.in_ok-proxies.ensures c.new.ensures
