use Rattle.std.proofs.Common.{subst}
use Rattle.dds_match.specs.Marks.{AddsMarks}
use Rattle.dds_match.specs.Network.{reach, is_written}
use Rattle.dds_match.specs.Plan.{hears, is_free, network_of}
use Rattle.dds_match.proofs.Marking.{only_added}
use Rattle.dds_match.proofs.tables.Tables.of.Goals as goal

pub mark_reached-requires-clause-hearing : goal.mark_reached-requires-clause-hearing
mark_reached-requires-clause-hearing c = record { each = only_added _ _ (hears c.args.lists.now) (subst (λ old. AddsMarks old c.mark_filters.new.hearing (hears c.args.lists.now)) c.in_ok-hearing.ensures c.mark_filters.ensures) }

pub capped_of-requires-clause-hearing : goal.capped_of-requires-clause-hearing
capped_of-requires-clause-hearing c = record { each = only_added _ _ (hears c.args.lists.now) (subst (λ old. AddsMarks old c.mark_filters.new.hearing (hears c.args.lists.now)) c.in_ok-hearing.ensures c.mark_filters.ensures) }

pub returns : goal.returns
returns c = record {
  reasons = c.in_ok-reasons.ensures;
  hearing = record { each = only_added _ _ (hears c.args.lists.now) (subst (λ old. AddsMarks old c.mark_filters.new.hearing (hears c.args.lists.now)) c.in_ok-hearing.ensures c.mark_filters.ensures) };
  reached = only_added _ _ (reach (network_of c.args.lists.now)) (subst (λ old. AddsMarks old c.mark_reached.new.reached (reach (network_of c.args.lists.now))) c.in_ok-reached.ensures c.mark_reached.ensures);
  written = only_added _ _ (is_written (network_of c.args.lists.now)) (subst (λ old. AddsMarks old c.mark_written.new.written (is_written (network_of c.args.lists.now))) c.in_ok-written.ensures c.mark_written.ensures);
  free = only_added _ _ (is_free c.args.lists.now) (subst (λ old. AddsMarks old c.mark_free.new.free (is_free c.args.lists.now)) c.in_ok-free.ensures c.mark_free.ensures);
  neighbours = c.in_ok-neighbours.ensures;
  writes = c.in_ok-writes.ensures;
  capped = c.in_ok-capped.ensures;
}
