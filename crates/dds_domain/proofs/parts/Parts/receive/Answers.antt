use Rattle.std.proofs.Common.{◌∙◌}
use Rattle.dds_domain.specs.View.{view_of}
use Rattle.dds_domain.proofs.Arrivals.{acknack_came, data_came, gap_came, heartbeat_came}
use Rattle.dds_domain.proofs.parts.Parts.receive.Goals as goal

pub returns-in-AckNack-clause-receives : goal.returns-in-AckNack-clause-receives
returns-in-AckNack-clause-receives c =
    acknack_came (view_of c.self.inside) _ _ c.in-AckNack.acknack _ _ _ c.self.view_is c.in-AckNack.is c.requires c.number-in-AckNack.ensures c.index_mut-in-AckNack.ensures.value c.on_acknack.ensures

pub returns-in_ok-arrival-in-Data-clause-receives : goal.returns-in_ok-arrival-in-Data-clause-receives
returns-in_ok-arrival-in-Data-clause-receives c =
    let e = c.in_ok-arrival-in-Data.ensures in
    data_came (view_of c.self.inside) _ _ _ _ _ _ c.self.view_is c.index_mut.ensures.value e.rest c.in-Data.data c.in-Data.is (c.number.ensures ∙ (λ i. (c.data.view_is i).reader)) e.answer e.marks e.samples e.notes e.idle

pub returns-in_ok-arrival-in-Gap-clause-receives : goal.returns-in_ok-arrival-in-Gap-clause-receives
returns-in_ok-arrival-in-Gap-clause-receives c =
    let e = c.in_ok-arrival-in-Gap.ensures in
    gap_came (view_of c.self.inside) _ _ _ _ _ _ c.self.view_is c.index_mut-in-Gap.ensures.value e.rest e.samples c.in-Gap.gap c.in-Gap.is (c.number-in-Gap.ensures ∙ (λ i. (c.gap.view_is i).reader)) e.answer e.marks e.notes

pub returns-in_ok-arrival-in-Heartbeat-clause-receives : goal.returns-in_ok-arrival-in-Heartbeat-clause-receives
returns-in_ok-arrival-in-Heartbeat-clause-receives c =
    let e = c.in_ok-arrival-in-Heartbeat.ensures in
    heartbeat_came (view_of c.self.inside) _ _ _ _ _ _ c.self.view_is c.index_mut-in-Heartbeat.ensures.value e.rest e.samples c.in-Heartbeat.heartbeat c.in-Heartbeat.is (c.number-in-Heartbeat.ensures ∙ (λ i. (c.heartbeat.view_is i).reader)) e.answer e.marks e.notes
