use Rattle.std.proofs.Common.{◌≡◌, ℕ, ◌==◌, ◌∙◌, sym, ap, position, Some, None}
use Rattle.dds_base.proofs.NumberedLaws.{changed_at, changed_nowhere}
use Rattle.dds_cache.specs.declared.released.Released.{Released}
use Rattle.dds_cache.specs.Released.{lifted}
use Rattle.dds_cache.proofs.ReleasedLaws.{lifted_other}
use Rattle.dds_cache.proofs.released.raise.Goals as goal

-- no two entries have one number, so the one that is found changes alone
pub returns-in-Some : goal.returns-in-Some
returns-in-Some c =
    let ws = c.args.writers.now in
    let found : position (λ (r : Released). r.writer == c.args.writer) ws ≡ Some c.in-Some.at =
    ap (λ (n : ℕ). position (λ (r : Released). r.writer == n) ws) (sym c.number.ensures) ∙ sym c.place_of.ensures ∙ c.in-Some.is in
    changed_at (λ (r : Released). r.writer) ws (c.requires c.if-not-rising.false) c.args.writer c.in-Some.at (lifted c.args.writer c.args.upto) c.index-writers-at.result c.lift.result
    found (lifted_other c.args.writer c.args.upto) c.index-writers-at.is c.lift.ensures

-- no entry has the number
pub returns-in_default : goal.returns-in_default
returns-in_default c =
    let ws = c.args.writers.now in
    let missing : position (λ (r : Released). r.writer == c.args.writer) ws ≡ None =
    ap (λ (n : ℕ). position (λ (r : Released). r.writer == n) ws) (sym c.number.ensures) ∙ sym c.place_of.ensures ∙ c.in_default.is in
    sym (changed_nowhere (λ (r : Released). r.writer) ws c.args.writer (lifted c.args.writer c.args.upto) missing (lifted_other c.args.writer c.args.upto))
