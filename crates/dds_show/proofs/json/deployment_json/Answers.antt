use Rattle.dds_show.proofs.json.deployment_json.Goals as goal

pub returns : goal.returns
returns c = rw (c.in_ok-endpoints.ensures, c.in_ok-behaviour.ensures) at c.format.ensures.ok
