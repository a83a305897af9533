use Rattle.std.proofs.Common.{◌≡◌, ◌∙◌, ℕ, IfOk, string_bytes, subst, sym, true}
use Rattle.dds_match.specs.Plan.{network_of}
use Rattle.dds_recap.specs.Recap.{spare_at}
use Rattle.dds_recap.specs.Waits.{key_wait, waits}
use Rattle.dds_recap.proofs.waits.key_wait.Goals as goal

pub returns-then-waits : goal.returns-then-waits
returns-then-waits c =
    let spare = spare_at c.args.recap.now in
    let yes : waits (network_of c.args.plan.now) spare c.args.app c.args.reader c.new-key.result ≡ true = sym c.waits.ensures ∙ c.if-waits.true in
    subst (λ (k : ℕ). IfOk c.wait_line.result (λ text. string_bytes text ≡ key_wait c.args.plan.now spare c.args.app c.args.reader k)) c.new-key.ensures (rw yes c.wait_line.ensures)
