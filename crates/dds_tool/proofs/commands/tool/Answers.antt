use Rattle.std.proofs.Common.{◌≡◌, ◌∙◌, inl, inr, sym}
use Rattle.dds_answers.specs.declared.exit.Exit.TheVariants as exit
use Rattle.dds_tool.proofs.commands.tool.Goals as goal

pub returns-in-Ok-clause-nothing : goal.returns-in-Ok-clause-nothing
returns-in-Ok-clause-nothing g c = λ two other. elim (c.obey.ensures.nothing two other) [ inl keeps ↦ inl keeps | inr json ↦ inr (c.in-Ok.request, c.in-Ok.ensures.asked, json) ]

pub returns-in-Err-clause-no_usage : goal.returns-in-Err-clause-no_usage
returns-in-Err-clause-no_usage g c = λ taken r asks usage.
    let memory = c.explain.ensures.memory (c.in-Err.ensures.unasked taken r asks) in
    let no : exit.NoMemory ≡ exit.Usage = sym memory ∙ usage in
    cc
