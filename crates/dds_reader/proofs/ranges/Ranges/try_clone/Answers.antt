use Rattle.std.proofs.Common.{◌≡◌, ◌||◌, ap}
use Rattle.std.proofs.lemmas.Map.Entries.{entries_from_clone}
use Rattle.dds_reader.specs.Ranges.{holds, is_between}
use Rattle.dds_reader.proofs.RangeLaws.{apart_alike}
use Rattle.dds_reader.proofs.ranges.Ranges.try_clone.Goals as goal

pub invariant_of-result : goal.invariant_of-result
invariant_of-result c =
    let m = c.args.self.now in
    let n = c.in_ok-clone.field-0 in
    let same : n.entries ≡ m.above.entries = entries_from_clone _ _ (λ _ _ e. e) (λ _ _ e. e) m.above.entries n.entries c.in_ok-clone.ensures.cases in
    record {
      low = m.low;
      apart = apart_alike m.base m.above n same m.apart;
    }

pub returns : goal.returns
returns c =
    let m = c.args.self.now in
    let n = c.in_ok-clone.field-0 in
    let same : n.entries ≡ m.above.entries = entries_from_clone _ _ (λ _ _ e. e) (λ _ _ e. e) m.above.entries n.entries c.in_ok-clone.ensures.cases in
    λ k. ap (λ es. is_between 1 m.base k || holds es k) same
