use Rattle.std.proofs.Common.{◌∙◌, ap, length, string_bytes, sym}
use Rattle.dds_tool.specs.Running.{app_names}
use Rattle.dds_tool.proofs.RunGives.{names_len}
use Rattle.dds_tool.proofs.running.run_in_style.Goals as goal

pub explained_text-requires : goal.explained_text-requires
explained_text-requires c =
    let names = c.in_ok-names.ensures ∙ ap app_names c.lists.ensures.value in
    c.requires.ends ∙ (sym (names_len string_bytes c.in_ok-names.names.items c.args.plan.now names) ∙ ap length (sym c.deref.ensures.value))

pub run_line-requires : goal.run_line-requires
run_line-requires c =
    let names = c.in_ok-names.ensures ∙ ap app_names c.lists.ensures.value in
    c.requires.ends ∙ (sym (names_len string_bytes c.in_ok-names.names.items c.args.plan.now names) ∙ ap length (sym c.deref-in-Json.ensures.value))
