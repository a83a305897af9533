use Rattle.std.proofs.Common.{rules, arith, ◌≡◌, ◌≤◌, ◌+◌, eqb, length, sym, ap, ◌∙◌}
use Rattle.std.proofs.lemmas.List.Sums.{count_by-le-length}
use Rattle.dds_book.specs.Halves.{entries_by}
use Rattle.dds_book.proofs.PairSteps.{joins, grows, halves, two_both}
use Rattle.dds_book.proofs.halves.steps.change.Goals as goal

pub join_seat-requires : goal.join_seat-requires
join_seat-requires g c = (search rules, search rules, search rules, omega arith, joins g.E.Owned.owner c.args.table.now.key _ _ _ _ c.requires.parts.0 c.requires.parts.1)

pub fetch_add-requires : goal.fetch_add-requires
fetch_add-requires g c =
    let is = ap (λ m. m.0) c.join_seat.ensures.2 in
    let by = c.args.table.now.key in
    let owner = g.E.Owned.owner in
    let same : entries_by owner by g.F.Given.front ≡ entries_by owner by c.args.front.now = ap (entries_by owner by) (sym c.requires.front) in
    let most : entries_by owner by c.args.front.now ≤ length c.args.front.now = count_by-le-length (λ e. eqb (owner e) by) c.args.front.now in (
      search rules,
      omega arith,
      grows owner by _ _ _ g.F.Given.front (two_both c.args.mine.me.0 c.args.theirs.me.0 _ c.requires.parts.0 c.requires.parts.1 is)
          (same ∙ c.requires.more ∙ ap (λ v. entries_by owner by v.front + 1) (sym is))
          (omega arith),
    )

pub split_seat-theirs-requires : goal.split_seat-theirs-requires
split_seat-theirs-requires g c = (search rules, omega arith, halves g.E.Owned.owner c.args.table.now.key _ _ (ap (λ m. m.parts) c.fetch_add.ensures.2.1))
