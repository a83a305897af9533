use Rattle.dds_explain.proofs.margin.margin_text.Goals as goal

pub returns : goal.returns
returns c =
    rw (c.as_str-row.ensures.value, c.in_ok-carried.ensures) at c.format.ensures.ok
