use Rattle.std.proofs.Common.{◌≡◌, ◌≤◌, length}
use Rattle.std.specs.Vec.{vec_len, vec_capacity}
use Rattle.dds_domain.specs.Standing.{IsRunning, Runs, paired}
use Rattle.dds_domain.proofs.parts.Parts.run.Given as goal

-- the events so far lead to where the parts are, and each has its reply
abbrev pub invariant-loop-event : goal.invariant-loop-event
invariant-loop-event l = record {
  runs : Runs l.fn.self (paired l.fn.events l.replies.items) l.self;
  running : IsRunning l.self;
  count : vec_len l.replies ≡ l.event-index;
  room : length l.fn.events ≤ vec_capacity l.replies;
}
