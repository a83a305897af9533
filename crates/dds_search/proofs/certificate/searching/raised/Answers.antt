use Rattle.dds_search.proofs.certificate.searching.raised.Goals as goal

pub returns-then-is_ray : goal.returns-then-is_ray
returns-then-is_ray c = (c.args.ray.now, c.is_ray.ensures c.if-is_ray.true)
