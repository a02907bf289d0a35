-- What a refusal of a site says, and what it leaves.
use Rattle.std.specs.Prelude.{◌≡◌, ◌⊎◌, ℕ, true, false, All, List, Option, Some, None}
use Rattle.bosh_asks.specs.declared.fault.BookFault.{BookFault}
use Rattle.bosh_asks.specs.declared.fault.BookFault.TheVariants as book
use Rattle.bosh_base.specs.declared.entry.Entry.{Entry}
use Rattle.bosh_base.specs.declared.moves.Cause.{Cause}
use Rattle.bosh_base.specs.declared.moves.Cause.TheVariants as causes
use Rattle.bosh_book.specs.Claims as claims
use Rattle.bosh_book.specs.Faults.{MayEnd}
use Rattle.bosh_book.specs.Turns.{IsUpdate}
use Rattle.bosh_ports.specs.Faults.{Rose}
use Rattle.bosh_ports.specs.Rigged.{faults_of}
use Rattle.bosh_world.specs.Faults.{cause_of}
use Rattle.bosh_world.specs.Holds.{IsHeld}
use Rattle.bosh_ports.specs.declared.keeper.Keeper as keeper
use Rattle.bosh_world.specs.declared.site.Site.{Site}
use Rattle.bosh_world.specs.Steps.{Notes, bodies_of}
use Rattle.bosh_world.specs.declared.held.HeldCall.{HeldCall}
use Rattle.bosh_world.specs.declared.fault.SiteFault.{SiteFault}
use Rattle.bosh_world.specs.declared.fault.SiteFault.TheVariants.{Book, Memory}

-- entries were noted, and then the director's store failed: the site has halted, for a rig that stopped the director or
-- for the store
pub record FailsInStore {K L : Type 0} {k : keeper.Ghosts K} {l : keeper.Ghosts L}
    (bodies : K → Option (List (List ℕ))) (faults : K → ℕ) (was : Site K L k l) (noted : List Entry) (cause : Cause)
    (now : Site K L k l) : Type 0 where
  pub notes : Notes bodies faults was noted (Some cause) now
  pub rose : Rose (faults_of faults was.book.journal.store) (faults_of faults now.book.journal.store)
  pub by : cause_of now.book.journal.store.sprung ≡ cause

-- A site that has halted refuses, and nothing changes. One whose director's store fails in the call halts in it. Any other
-- refusal leaves the entries that were noted before it, and nothing else.
abbrev pub Refuses : {K L : Type 0} {k : keeper.Ghosts K} {l : keeper.Ghosts L} → (K → Option (List (List ℕ))) → (K →
    ℕ) → Site K L k l → List Entry → SiteFault →
    Site K L k l → Type 0
Refuses bodies faults was noted (Book book.Stopped) now =
    ((was.history.is_halted ≡ true) × (now ≡ was))
    ⊎ ((was.history.is_halted ≡ false) × FailsInStore bodies faults was noted causes.Stop now)
Refuses bodies faults was noted (Book book.StoreFault) now =
    (was.history.is_halted ≡ false) × FailsInStore bodies faults was noted causes.Store now
Refuses bodies faults was noted fault now =
    (was.history.is_halted ≡ false) × Notes bodies faults was noted None now

-- a refusal of the book, for a cause that is told apart; those that any call may meet are told above
abbrev pub IsBooks : (BookFault → Type 0) → SiteFault → Type 0
IsBooks may (Book book.Stopped) = Unit {0}
IsBooks may (Book book.Memory) = ⊥
IsBooks may (Book fault) = may fault
IsBooks may Memory = Unit {0}
IsBooks may fault = ⊥

-- turn by turn; where the site halted in it, the store failed
abbrev pub IsByTurns : {K L : Type 0} {k : keeper.Ghosts K} {l : keeper.Ghosts L} → (K → Option (List (List ℕ))) →
    (K → ℕ) → ℕ → ℕ → Site K L k l → Site K L k l → Type 0
IsByTurns bodies faults task worker was now =
    (refusal : BookFault)
    × claims.RefusesClaim (bodies_of bodies) (faults_of faults) task worker was.book refusal now.book
    × (was.history.is_halted ≡ false → now.history.is_halted ≡ true → refusal ≡ book.StoreFault)

-- a claim that is refused may have noted updates before, turn by turn
abbrev pub RefusesClaim : {K L : Type 0} {k : keeper.Ghosts K} {l : keeper.Ghosts L} → (K → Option (List (List ℕ))) →
    (K → ℕ) → ℕ → ℕ → Site K L k l → SiteFault →
    Site K L k l → Type 0
RefusesClaim bodies faults task worker was fault now =
    (updates : List Entry) × All IsUpdate updates × Refuses bodies faults was updates fault now
    × IsByTurns bodies faults task worker was now

-- a call is not settled that is not held, or whose answer is not of its kind; or for a cause that any call may meet
abbrev pub IsUnheld : {K L : Type 0} {k : keeper.Ghosts K} {l : keeper.Ghosts L} → Site K L k l → HeldCall → SiteFault → Type 0
IsUnheld was call (Book (book.Locked task)) =
    (task ≡ call.permit.task) × (¬ (IsHeld was call × MayEnd was.book call.permit call.answer))
IsUnheld was call (Book book.Stopped) = Unit {0}
IsUnheld was call (Book book.StoreFault) = Unit {0}
IsUnheld was call Memory = Unit {0}
IsUnheld was call fault = ⊥
