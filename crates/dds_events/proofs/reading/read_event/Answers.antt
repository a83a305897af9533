use Rattle.dds_events.proofs.KindLaws.{either_some, known_none, neither, of_no_kind, where_none}
use Rattle.dds_events.specs.Reading.{IsOfDeployment, IsSaidBy}
use Rattle.dds_events.proofs.reading.read_event.Goals as goal

pub returns-clause-known : goal.returns-clause-known
returns-clause-known c =
    let d = c.args.lists.now in
    let two = either_some _ _ _ (IsOfDeployment d) c.or.ensures c.write_of.ensures.known c.fire_of.ensures.known in
    let three = either_some _ _ _ (IsOfDeployment d) c.or-2.ensures two c.take_of.ensures.known in
    let four = either_some _ _ _ (IsOfDeployment d) c.or-3.ensures three c.data_of.ensures.known in
    let five = either_some _ _ _ (IsOfDeployment d) c.or-4.ensures four c.gap_of.ensures.known in
    let six = either_some _ _ _ (IsOfDeployment d) c.or-5.ensures five c.heartbeat_of.ensures.known in
    let seven = either_some _ _ _ (IsOfDeployment d) c.or-6.ensures six c.acknack_of.ensures.known in
    let eight = either_some _ _ _ (IsOfDeployment d) c.or-7.ensures seven (c.delivery_of.ensures.known d) in
    either_some _ _ _ (IsOfDeployment d) c.or-8.ensures eight (c.loss_of.ensures.known d)

pub returns-clause-some : goal.returns-clause-some
returns-clause-some c =
    let d = c.args.lists.now in
    let two = either_some _ _ _ (IsSaidBy d c.args.line.now) c.or.ensures c.write_of.ensures.some c.fire_of.ensures.some in
    let three = either_some _ _ _ (IsSaidBy d c.args.line.now) c.or-2.ensures two c.take_of.ensures.some in
    let four = either_some _ _ _ (IsSaidBy d c.args.line.now) c.or-3.ensures three c.data_of.ensures.some in
    let five = either_some _ _ _ (IsSaidBy d c.args.line.now) c.or-4.ensures four c.gap_of.ensures.some in
    let six = either_some _ _ _ (IsSaidBy d c.args.line.now) c.or-5.ensures five c.heartbeat_of.ensures.some in
    let seven = either_some _ _ _ (IsSaidBy d c.args.line.now) c.or-6.ensures six c.acknack_of.ensures.some in
    let eight = either_some _ _ _ (IsSaidBy d c.args.line.now) c.or-7.ensures seven (c.delivery_of.ensures.some d) in
    either_some _ _ _ (IsSaidBy d c.args.line.now) c.or-8.ensures eight (c.loss_of.ensures.some d)

pub returns-clause-none : goal.returns-clause-none
returns-clause-none c = where_none c.or-8.result _ (λ none.
    let eight = neither _ _ _ c.or-8.ensures none in
    let seven = neither _ _ _ c.or-7.ensures eight.0 in
    let six = neither _ _ _ c.or-6.ensures seven.0 in
    let five = neither _ _ _ c.or-5.ensures six.0 in
    let four = neither _ _ _ c.or-4.ensures five.0 in
    let three = neither _ _ _ c.or-3.ensures four.0 in
    let two = neither _ _ _ c.or-2.ensures three.0 in
    let one = neither _ _ _ c.or.ensures two.0 in
    of_no_kind c.args.lists.now c.args.line.now
    (known_none c.write_of.result _ one.0 c.write_of.ensures.none)
    (known_none c.fire_of.result _ one.1 c.fire_of.ensures.none)
    (known_none c.take_of.result _ two.1 c.take_of.ensures.none)
    (known_none c.data_of.result _ three.1 c.data_of.ensures.none)
    (known_none c.gap_of.result _ four.1 c.gap_of.ensures.none)
    (known_none c.heartbeat_of.result _ five.1 c.heartbeat_of.ensures.none)
    (known_none c.acknack_of.result _ six.1 c.acknack_of.ensures.none)
    (known_none c.delivery_of.result _ seven.1 c.delivery_of.ensures.none)
    (known_none c.loss_of.result _ eight.1 c.loss_of.ensures.none))
