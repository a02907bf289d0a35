-- What workers claim at each moment of a permitted history, from its fit pair on.
use Rattle.std.proofs.Common.{◌≡◌, ℕ, true, false, List}
use Rattle.bosh_base.specs.declared.moves.Move.{Move}
use Rattle.bosh_history.specs.Claim.{Waits, claim_at}
use Rattle.bosh_history.specs.Fit.{IsFit}
use Rattle.bosh_history.specs.Moments.{Opening, moment}
use Rattle.bosh_history.specs.Notes.{Outside}
use Rattle.bosh_history.specs.Permitted.{IsRun}
use Rattle.laws_claims.proofs.MomentLemmas.{awaits_at, goes_on_at, lawful_at, quiet_at}
use Rattle.laws_claims.specs.Progress.{GoesOn, IsLawful}
use Rattle.laws_claims.specs.Quiet.{Awaits, is_quiet}
use Rattle.laws_facts.specs.Owners.{works}
use Rattle.laws_runs.proofs.ReadLemmas.{run_facts}

pub claims_are_lawful : (outside : Outside) (o : Opening) (moves : List Move) (t worker : ℕ) → IsFit outside o
    → IsRun outside o moves → works (moment o moves) t ≡ true → (moment o moves).halted ≡ false
    → IsLawful outside (moment o moves) t (claim_at (moment o moves) t worker)
claims_are_lawful outside o moves t worker fit run working running =
    lawful_at outside o moves t worker (run_facts outside o moves fit run) working running

pub waits_for_a_call : (outside : Outside) (o : Opening) (moves : List Move) (t worker : ℕ) → IsFit outside o
    → IsRun outside o moves → works (moment o moves) t ≡ true → claim_at (moment o moves) t worker ≡ Waits
    → Awaits (moment o moves) t
waits_for_a_call outside o moves t worker fit run working waits =
    awaits_at o moves t worker (run_facts outside o moves fit run) working waits

pub waits_never : (outside : Outside) (o : Opening) (moves : List Move) (t worker : ℕ) → IsFit outside o
    → IsRun outside o moves → works (moment o moves) t ≡ true → is_quiet (moment o moves) t ≡ true
    → claim_at (moment o moves) t worker ≡ Waits → ⊥
waits_never outside o moves t worker fit run working quiet waits =
    quiet_at o moves t worker (run_facts outside o moves fit run) working quiet waits

pub claims_go_on : (outside : Outside) (o : Opening) (moves : List Move) (t worker : ℕ) → IsFit outside o
    → IsRun outside o moves → works (moment o moves) t ≡ true → (moment o moves).halted ≡ false
    → is_quiet (moment o moves) t ≡ true → GoesOn outside (moment o moves) t worker
claims_go_on outside o moves t worker fit run working running quiet =
    goes_on_at outside o moves t worker (run_facts outside o moves fit run) working running quiet
