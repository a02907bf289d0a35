-- What a worker claims at a moment of a history, where the facts on what is known hold.
use Rattle.std.proofs.Common.{◌≡◌, ℕ, true, false, List}
use Rattle.bosh_base.specs.declared.moves.Move.{Move}
use Rattle.bosh_history.specs.Claim.{Waits, claim_at}
use Rattle.bosh_history.specs.Moments.{Opening, moment}
use Rattle.bosh_history.specs.Notes.{Outside}
use Rattle.laws_claims.proofs.FactLemmas as facts
use Rattle.laws_claims.proofs.FactLemmas.{IsWorking}
use Rattle.laws_claims.proofs.ProgressLemmas as progress
use Rattle.laws_claims.proofs.ProgressLemmas.{lawful}
use Rattle.laws_claims.proofs.ToldLemmas.{told_well}
use Rattle.laws_claims.proofs.WaitLemmas.{never_waits, waits_for}
use Rattle.laws_claims.specs.Progress.{GoesOn, IsLawful}
use Rattle.laws_claims.specs.Quiet.{Awaits, is_quiet}
use Rattle.laws_facts.specs.KnownFacts.{KnownFacts}
use Rattle.laws_facts.specs.Owners.{works}

working_at : (o : Opening) (moves : List Move) (t : ℕ) → KnownFacts (moment o moves)
    → works (moment o moves) t ≡ true → IsWorking (moment o moves) t
working_at o moves t holds working = record { holds = holds; works = working; told = told_well o moves t }

pub lawful_at : (outside : Outside) (o : Opening) (moves : List Move) (t worker : ℕ) → KnownFacts (moment o moves)
    → works (moment o moves) t ≡ true → (moment o moves).halted ≡ false
    → IsLawful outside (moment o moves) t (claim_at (moment o moves) t worker)
lawful_at outside o moves t worker holds working running =
    let it : IsWorking (moment o moves) t = working_at o moves t holds working in
    lawful outside (moment o moves) t worker (facts.goes_on (moment o moves) t it) (facts.ends (moment o moves) t it)
    (facts.notes (moment o moves) t it) running

pub awaits_at : (o : Opening) (moves : List Move) (t worker : ℕ) → KnownFacts (moment o moves)
    → works (moment o moves) t ≡ true → claim_at (moment o moves) t worker ≡ Waits → Awaits (moment o moves) t
awaits_at o moves t worker holds working waits =
    waits_for (moment o moves) t worker
    (facts.goes_on (moment o moves) t (working_at o moves t holds working)) waits

pub quiet_at : (o : Opening) (moves : List Move) (t worker : ℕ) → KnownFacts (moment o moves)
    → works (moment o moves) t ≡ true → is_quiet (moment o moves) t ≡ true
    → claim_at (moment o moves) t worker ≡ Waits → ⊥
quiet_at o moves t worker holds working quiet waits =
    never_waits (moment o moves) t worker
    (facts.goes_on (moment o moves) t (working_at o moves t holds working)) quiet waits

pub goes_on_at : (outside : Outside) (o : Opening) (moves : List Move) (t worker : ℕ) → KnownFacts (moment o moves)
    → works (moment o moves) t ≡ true → (moment o moves).halted ≡ false → is_quiet (moment o moves) t ≡ true
    → GoesOn outside (moment o moves) t worker
goes_on_at outside o moves t worker holds working running quiet =
    let it : IsWorking (moment o moves) t = working_at o moves t holds working in
    progress.goes_on outside (moment o moves) t worker (facts.goes_on (moment o moves) t it)
    (facts.ends (moment o moves) t it) (facts.notes (moment o moves) t it) running quiet
