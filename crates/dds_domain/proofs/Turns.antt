-- What a participant is to do in its turn isn't refused there.
use Rattle.std.proofs.Common.{◌≡◌, ℕ, ◌%◌, ◌==◌, Bool, true, false, cond, Option, Some, None, refl}
use Rattle.std.specs.Prelude.{IfSome}
use Rattle.dds_base.specs.declared.events.Fate.{Fate}
use Rattle.dds_runs.specs.World.{World}
use Rattle.dds_runs.specs.Steps.{Event, refusal}
use Rattle.dds_lists.specs.Lists.{Lists}
use Rattle.dds_match.specs.Plan.{network_of}
use Rattle.dds_domain.specs.Noted.{Noted}
use Rattle.dds_domain.specs.Schedule.{by_fate, due, is_bus_turn, send_due, sending_of}
use Rattle.dds_domain.specs.Standing.{AreReached}
use Rattle.dds_domain.proofs.BusTurns.{fate_lawful}
use Rattle.dds_domain.proofs.Lawful.{send_lawful}

pub due_lawful : (d : Lists) (v : World) (noted : Noted) (p turn : ℕ) (fate : Fate) → AreReached (network_of d) v noted → IfSome (due d v noted p turn fate) (λ e. refusal (network_of d) v e ≡ None)
due_lawful d v noted p turn fate reached = go (is_bus_turn v turn) refl (turn % 2 == 1)
  where
    sent : (o : Option Event) → send_due d v noted p (sending_of turn) ≡ o → IfSome o (λ e. refusal (network_of d) v e ≡ None)
    sent None h = tt
    sent (Some e) h = send_lawful d v noted p (sending_of turn) e reached h

    go : (bus : Bool) → is_bus_turn v turn ≡ bus → (odd : Bool) →
        IfSome (cond bus (Some (by_fate v fate)) (cond odd None (send_due d v noted p (sending_of turn)))) (λ e. refusal (network_of d) v e ≡ None)
    go true h odd = fate_lawful (network_of d) v turn fate h
    go false h true = tt
    go false h false = sent (send_due d v noted p (sending_of turn)) refl
