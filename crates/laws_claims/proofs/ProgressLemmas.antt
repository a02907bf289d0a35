-- What a worker claims is lawful, and a task that waits for no call goes on.
use Rattle.std.proofs.Common.{◌≡◌, ℕ, true, false, Option, Some, None, ap, refl}
use Rattle.bosh_base.specs.declared.failure.Failure.{Failure}
use Rattle.bosh_base.specs.declared.moves.Move.TheVariants as moves
use Rattle.bosh_history.specs.Claim.{Claimed, Noted, Over, Waits, claim_at}
use Rattle.bosh_history.specs.Moments.{Moment}
use Rattle.bosh_history.specs.Notes.{Outside}
use Rattle.bosh_history.specs.Permitted.{IsPermitted}
use Rattle.laws_claims.proofs.Premises.{CanEnd, CanGoOn, CanNote}
use Rattle.laws_claims.specs.Progress.{GoesOn, IsLawful, ending, noted_by}
use Rattle.laws_claims.specs.Quiet.{is_quiet}
use Rattle.laws_claims.proofs.EndLemmas.{over_is_done, over_is_failed}
use Rattle.laws_claims.proofs.NoteLemmas.{claims_are_permitted}
use Rattle.laws_claims.proofs.WaitLemmas.{never_waits, waits_by_call}

over_ends : (outside : Outside) (m : Moment) (t worker : ℕ) → CanEnd m t → m.halted ≡ false
    → claim_at m t worker ≡ Over → (failed : Option Failure) → (m.known.task t).failed ≡ failed
    → IsPermitted outside m (moves.Note (ending t failed))
over_ends outside m t worker can running over None is = over_is_done m t worker can outside running is over
over_ends outside m t worker can running over (Some cause) is =
    over_is_failed m t worker can outside cause running is over

pub lawful : (outside : Outside) (m : Moment) (t worker : ℕ) → CanGoOn m t → CanEnd m t → CanNote m t
    → m.halted ≡ false → IsLawful outside m t (claim_at m t worker)
lawful outside m t worker going ending_ noting running = by (claim_at m t worker) refl
  where
    by : (claimed : Claimed) → claim_at m t worker ≡ claimed → IsLawful outside m t claimed
    by (Noted entry) is = claims_are_permitted outside m t worker entry noting running is
    by Over is = over_ends outside m t worker ending_ running is (m.known.task t).failed refl
    by Waits is = waits_by_call m t worker going is

pub goes_on : (outside : Outside) (m : Moment) (t worker : ℕ) → CanGoOn m t → CanEnd m t → CanNote m t
    → m.halted ≡ false → is_quiet m t ≡ true → GoesOn outside m t worker
goes_on outside m t worker going ending_ noting running quiet = by (claim_at m t worker) refl
  where
    by : (claimed : Claimed) → claim_at m t worker ≡ claimed → GoesOn outside m t worker
    by (Noted entry) is = record {
      entry = entry;
      is_claimed = ap (noted_by t (m.known.task t).failed) is;
      is_permitted = claims_are_permitted outside m t worker entry noting running is;
    }
    by Over is = record {
      entry = ending t (m.known.task t).failed;
      is_claimed = ap (noted_by t (m.known.task t).failed) is;
      is_permitted = over_ends outside m t worker ending_ running is (m.known.task t).failed refl;
    }
    by Waits is = absurd (never_waits m t worker going quiet is)
