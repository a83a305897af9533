use Rattle.std.proofs.Common.{◌≡◌, ◌≤◌, false, [], refl, sym, ◌∙◌, true, arith}
use Rattle.dds_match.specs.Plan.{network_of}
use Rattle.dds_propose.specs.declared.weights.Weights.{Weights}
use Rattle.dds_propose.specs.Following.{RaisesPermits, Follows}
use Rattle.dds_propose.specs.Relaxation.{by_permits, seen}
use Rattle.dds_propose.specs.Tables.{cell}
use Rattle.dds_propose.proofs.Followed.{follows_one, follows_capped}
use Rattle.dds_propose.proofs.Outcomes.{both_ok}
use Rattle.dds_propose.proofs.Seeing.{seen_known}
use Rattle.dds_propose.proofs.rounds.follow_samples.Goals as goal

pub returns-clause-followed : goal.returns-clause-followed
returns-clause-followed c =
    let net = seen c.args.carrying (network_of c.args.plan.now) in
    let well = c.assert_well_formed.ensures.well_formed in
    let old = c.args.weights.now in
    let r = c.args.reader in
    let k = c.args.key in
    let n = c.at-rise.result in
    let mid : Weights = record { samples = old.samples; risen = c.put.new.self; takes = old.takes; permits = old.permits } in
    let new = c.raise_permits.new.weights in
    let listed = c.writers_of.result.now in
    let some : 1 ≤ n = omega arith in
    let heard = c.requires r k (let at = c.at-rise.ensures in omega arith) in
    let uncapped : by_permits net r k ≡ true = sym c.by_permits.ensures ∙ c.if-not-by_permits.false in
    both_ok c.raise_permits.result (λ _. RaisesPermits listed k n mid new) (λ changed. changed ≡ false → listed ≡ []) (Follows net old new) c.raise_permits.ensures.raised c.raise_permits.ensures.none
    (λ changed raised none. (follows_one net (seen_known c.args.carrying (network_of c.args.plan.now) c.assert_well_formed.ensures.network) refl well.readers.few well.writers.few old mid new listed r k n changed heard uncapped (sym c.at-rise.ensures) some c.writers_of.ensures refl refl refl c.put.ensures raised none).0)

pub returns-clause-done : goal.returns-clause-done
returns-clause-done c =
    let net = seen c.args.carrying (network_of c.args.plan.now) in
    let well = c.assert_well_formed.ensures.well_formed in
    let old = c.args.weights.now in
    let r = c.args.reader in
    let k = c.args.key in
    let n = c.at-rise.result in
    let mid : Weights = record { samples = old.samples; risen = c.put.new.self; takes = old.takes; permits = old.permits } in
    let new = c.raise_permits.new.weights in
    let listed = c.writers_of.result.now in
    let some : 1 ≤ n = omega arith in
    let heard = c.requires r k (let at = c.at-rise.ensures in omega arith) in
    let uncapped : by_permits net r k ≡ true = sym c.by_permits.ensures ∙ c.if-not-by_permits.false in
    both_ok c.raise_permits.result (λ _. RaisesPermits listed k n mid new) (λ changed. changed ≡ false → listed ≡ []) (λ _. cell new.risen r k ≡ 0) c.raise_permits.ensures.raised c.raise_permits.ensures.none
    (λ changed raised none. (follows_one net (seen_known c.args.carrying (network_of c.args.plan.now) c.assert_well_formed.ensures.network) refl well.readers.few well.writers.few old mid new listed r k n changed heard uncapped (sym c.at-rise.ensures) some c.writers_of.ensures refl refl refl c.put.ensures raised none).1)

pub returns-then-not-by_permits-clause-followed : goal.returns-then-not-by_permits-clause-followed
returns-then-not-by_permits-clause-followed c =
    let net = seen c.args.carrying (network_of c.args.plan.now) in
    let well = c.assert_well_formed.ensures.well_formed in
    let old = c.args.weights.now in
    let r = c.args.reader in
    let k = c.args.key in
    let new : Weights = record { samples = old.samples; risen = c.put.new.self; takes = old.takes; permits = old.permits } in
    let some : 1 ≤ c.at-rise.result = omega arith in
    let heard = c.requires r k (let at = c.at-rise.ensures in omega arith) in
    let capped : by_permits net r k ≡ false = sym c.by_permits.ensures ∙ c.if-not-by_permits.true in
    (follows_capped net (seen_known c.args.carrying (network_of c.args.plan.now) c.assert_well_formed.ensures.network) refl well.readers.few old new r k heard capped refl refl refl c.put.ensures).0
