use Rattle.std.proofs.Common.{◌≡◌, ◌∙◌, sym, true≢false, Result, Ok, Err, IfOk, IsOk, OnOk, ap₂}
use Rattle.clap.specs.Words.{App, app_of, with_subcommand}
use Rattle.dds_request.specs.Command.{checking, conforming, drawing, limiting, linting, matching, migrating, refuting, replaying, running, searching, showing}
use Rattle.dds_request.proofs.command.whole_command.Goals as goal

abbrev joined : App → App → App
joined a b = with_subcommand a b.top

-- a command to which a subcommand was added that was made
added : {C E : Type 0} (of : C → App) (app command top inner : App) (below : Result C E) → IfOk below (λ b. app ≡ joined command (of b)) → IsOk below → IfOk below (λ b. of b ≡ inner) → command ≡ top
    → app ≡ joined top inner
added of app command top inner (Ok b) is made below at = is ∙ ap₂ joined at below
added of app command top inner (Err e) is made below at = absurd (true≢false (sym made))

-- the same, if there was memory for it
added_if : {C E F : Type 0} (of : C → App) (result : Result C E) (command top inner : App) (below : Result C F) → IfOk result (λ c. IfOk below (λ b. of c ≡ joined command (of b))) → OnOk result (IsOk below)
    → IfOk below (λ b. of b ≡ inner) → command ≡ top → IfOk result (λ c. of c ≡ joined top inner)
added_if of (Ok c) command top inner below is made below_is at = added of (of c) command top inner below is made below_is at
added_if of (Err e) command top inner below is made below_is at = tt

pub returns : goal.returns
returns c =
    let first = added app_of _ _ _ matching c.match_command.result c.in_ok-command.ensures.app c.in_ok-command.ensures.below c.match_command.ensures.app c.top_command.ensures in
    let second = added app_of _ _ _ checking c.check_command.result c.in_ok-command-2.ensures.app c.in_ok-command-2.ensures.below c.check_command.ensures.app first in
    let third = added app_of _ _ _ searching c.propose_command.result c.in_ok-command-3.ensures.app c.in_ok-command-3.ensures.below c.propose_command.ensures.app second in
    let fourth = added app_of _ _ _ running c.run_command.result c.in_ok-command-4.ensures.app c.in_ok-command-4.ensures.below c.run_command.ensures.app third in
    let fifth = added app_of _ _ _ migrating c.migrate_command.result c.in_ok-command-5.ensures.app c.in_ok-command-5.ensures.below c.migrate_command.ensures.app fourth in
    let sixth = added app_of _ _ _ showing c.show_command.result c.in_ok-command-6.ensures.app c.in_ok-command-6.ensures.below c.show_command.ensures.app fifth in
    let seventh = added app_of _ _ _ drawing c.draw_command.result c.in_ok-command-7.ensures.app c.in_ok-command-7.ensures.below c.draw_command.ensures.app sixth in
    let eighth = added app_of _ _ _ refuting c.refute_command.result c.in_ok-command-8.ensures.app c.in_ok-command-8.ensures.below c.refute_command.ensures.app seventh in
    let ninth = added app_of _ _ _ replaying c.replay_command.result c.in_ok-command-9.ensures.app c.in_ok-command-9.ensures.below c.replay_command.ensures.app eighth in
    let tenth = added app_of _ _ _ limiting c.limits_command.result c.in_ok-command-10.ensures.app c.in_ok-command-10.ensures.below c.limits_command.ensures.app ninth in
    let eleventh = added app_of _ _ _ conforming c.conform_command.result c.in_ok-command-11.ensures.app c.in_ok-command-11.ensures.below c.conform_command.ensures.app tenth in
    added_if app_of c.with_command-12.result _ _ linting c.lint_command.result c.with_command-12.ensures.app c.with_command-12.ensures.below c.lint_command.ensures.app eleventh
