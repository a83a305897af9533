use Rattle.std.proofs.Common.{◌∙◌, ap}
use Rattle.std.proofs.lemmas.List.{map-append}
use Rattle.dds_findings.specs.Findings.{matter_of, matters}
use Rattle.dds_findings.proofs.linting.flawed_findings.Goals as goal

pub returns-clause-found : goal.returns-clause-found
returns-clause-found c = λ flaw. (
  matters c.in_ok-found.found.items,
  matters c.in_ok-rest.rest.items,
  c.in_ok-found.ensures,
  c.in_ok-rest.ensures.found,
  ap matters c.in_ok-append.ensures.items ∙ map-append matter_of c.in_ok-found.found.items c.in_ok-rest.rest.items,
)
