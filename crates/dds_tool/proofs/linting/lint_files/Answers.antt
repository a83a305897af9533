use Rattle.std.proofs.Common.{option_map, refl}
use Rattle.dds_tool.specs.Linting.{MayLint}
use Rattle.dds_tool.proofs.Outcomes.{memory_comes}
use Rattle.dds_tool.proofs.linting.lint_files.Goals as goal

pub returns-in-Ok-clause-comes : goal.returns-in-Ok-clause-comes
returns-in-Ok-clause-comes c = λ names style. (tt, (c.in-Ok.findings.items, c.in-Ok.ensures.found, refl))

pub returns-in-Err-clause-comes : goal.returns-in-Err-clause-comes
returns-in-Err-clause-comes c = λ names style.
    memory_comes ⊥ (MayLint c.args.form c.args.deny names c.args.deployment.now (option_map (λ x. x.now) c.args.certificate)) names style
