-- What a restart does.
use Rattle.std.specs.Prelude.{◌≡◌, ◌⊎◌, ◌-◌, ◌+◌, ℕ, Bool, true, false, nat_lt, is_some, List, [], ◌∷◌, ◌++◌, length, map}
use Rattle.std.specs.Prelude.{drop, min, Option, Some, None, Result, Ok, Err}
use Rattle.bosh_asks.specs.declared.fault.BookFault.{BookFault}
use Rattle.bosh_asks.specs.declared.fault.BookFault.TheVariants as book
use Rattle.bosh_base.specs.declared.moves.Cause.{Cause}
use Rattle.bosh_base.specs.declared.moves.Cause.TheVariants as causes
use Rattle.bosh_base.specs.declared.moves.Move.{Move}
use Rattle.bosh_base.specs.declared.moves.Move.TheVariants as moves
use Rattle.bosh_book.specs.Starts.{IsNotReloaded, StartsFrom}
use Rattle.bosh_book.specs.declared.book.Book.{Book}
use Rattle.bosh_cloud.specs.CloudView.{CloudView}
use Rattle.bosh_cloud.specs.Loading.{IsKept}
use Rattle.bosh_cloud.specs.Notes.{SameFates}
use Rattle.bosh_cloud.specs.Reads.{Reads, is_stale_after}
use Rattle.bosh_cloud.specs.declared.fault.CloudFault.{CloudFault}
use Rattle.bosh_moves.specs.Found.{kept_at, stop_of}
use Rattle.bosh_moves.specs.Story.{effects_told, halts, kept_count}
use Rattle.bosh_ports.specs.Rigged.{RigState, broken_of, faults_of}
use Rattle.bosh_ports.specs.declared.keeper.Keeper as keeper
use Rattle.bosh_ports.specs.declared.rig.Rig.{Rig}
use Rattle.bosh_world.specs.Faults.{cause_of, fault_as, of_book, of_cloud}
use Rattle.bosh_world.specs.declared.site.Site.{Site}
use Rattle.bosh_world.specs.Steps.{Comes, KeepsBooks, bodies_of}
use Rattle.bosh_world.specs.declared.fault.SiteFault.{SiteFault}
use Rattle.bosh_world.specs.declared.fault.SiteFault.TheVariants.{Memory}

-- a site that has not halted halts first
abbrev pub first_halt : Bool → List Move
first_halt true = []
first_halt false = moves.Halt causes.Stop ∷ []

-- how many entries there were before tasks were ended
abbrev pub read_count : {K : Type 0} → Book K → ℕ
read_count it = length it.journal.entries - ended it.mended
  where
    ended : Option ℕ → ℕ
    ended (Some count) = count
    ended None = 0

-- an entry was found that the director did not know
abbrev pub has_found_entry : {K L : Type 0} {k : keeper.Ghosts K} {l : keeper.Ghosts L} → Site K L k l → Book (RigState K) → Bool
has_found_entry was it = nat_lt (length was.book.journal.entries) (read_count it)

-- the moves of a restart: what was found, the entries after that, and a halt where it was refused
abbrev pub restart_moves : {K L : Type 0} {k : keeper.Ghosts K} {l : keeper.Ghosts L} → Site K L k l → Site K L k l →
    Option Cause → List Move
restart_moves was now halt =
    moves.Stop (stop_of (kept_at (has_found_entry was now.book) now.book.journal.entries (length was.book.journal.entries))
    (drop (effects_told was.history was.cloud.effects) now.cloud.effects))
    ∷ map moves.Note (drop (min (length was.book.journal.entries) (length now.book.journal.entries)
    + kept_count (Some (has_found_entry was now.book))) now.book.journal.entries)
    ++ halts halt

-- the cloud was read again: what its store tells was done to it, and the fates wait on
pub record Rereads {L : Type 0}
    (bodies : L → Option (List (List ℕ))) (faults : L → ℕ) (was now : CloudView L) : Type 0 where
  pub reads : Reads bodies faults was.store (Ok now.effects) now.store
  pub whole : now.is_stale ≡ false
  pub pending : now.pending ≡ None
  pub same_fates : SameFates was now
  pub kept : IsKept bodies was → IsKept bodies now

-- The cloud's store was not read: what was done is as before, and what is pending; and the cloud is to be reloaded, unless it
-- was not before and memory was short.
pub record IsCloudUnread {L : Type 0}
    (bodies : L → Option (List (List ℕ))) (faults : L → ℕ) (was : CloudView L) (fault : SiteFault) (now : CloudView L) :
    Type 0 where
  pub refusal : CloudFault
  pub reads : Reads bodies faults was.store (Err refusal) now.store
  pub told : fault ≡ of_cloud refusal
  pub effects : now.effects ≡ was.effects
  pub stale : now.is_stale ≡ is_stale_after {T = Unit {0}} (Err refusal) was.is_stale
  pub pending : now.pending ≡ was.pending

-- The director starts anew over its two stores, and no call is open.
pub record Restarts {K L : Type 0} {k : keeper.Ghosts K} {l : keeper.Ghosts L}
    (bodies : K → Option (List (List ℕ))) (faults : K → ℕ) (is_broken : K → Bool)
    (cloud_bodies : L → Option (List (List ℕ))) (cloud_faults : L → ℕ) (was : Site K L k l)
    (started : Result (Unit {0}) BookFault) (halt : Option Cause) (now : Site K L k l) : Type 0 where
  pub book : StartsFrom (bodies_of bodies) (faults_of faults) (broken_of is_broken) false was.book.journal.store started
      now.book
  pub cloud : Rereads cloud_bodies cloud_faults was.cloud now.cloud
  pub comes : Comes was (first_halt was.history.is_halted ++ restart_moves was now halt) now
  pub halted : now.history.is_halted ≡ is_some halt
  pub no_calls : now.calls.unsettled ≡ []
  pub same_armed : now.traps.items ≡ was.traps.items
  pub same_opening : now.opening ≡ was.opening

-- why a site halts again whose book was read and did not start: the director's store failed, or it stops
abbrev pub cause_again : Option Rig → BookFault → Cause
cause_again sprung book.StoreFault = cause_of sprung
cause_again sprung fault = causes.Stop

-- how a start of the book is refused, and why the site halts again; a start that was not refused was not told for want of
-- memory
abbrev pub HaltsAgain : Option Rig → Result (Unit {0}) BookFault → Cause → SiteFault → Type 0
HaltsAgain sprung (Ok value) cause fault = (cause ≡ causes.Stop) × (fault ≡ Memory)
HaltsAgain sprung (Err refusal) cause fault = (cause ≡ cause_again sprung refusal) × (fault ≡ fault_as sprung refusal)

-- the book's store was not read
abbrev pub IsBookUnread : {K : Type 0} → (K → Option (List (List ℕ))) → (K → ℕ) → (K → Bool) → Book (RigState K) →
    SiteFault → Book (RigState K) → Type 0
IsBookUnread bodies faults is_broken was fault now =
    (refusal : BookFault) × (IsNotReloaded {T = Unit {0}} (bodies_of bodies) (faults_of faults) (broken_of is_broken) was
    (Err refusal) now × (fault ≡ of_book refusal))

-- there was no memory to tell the halt; or the cloud's store was not read; or that was, and the book's was not
abbrev pub IsUnread : {K L : Type 0} {k : keeper.Ghosts K} {l : keeper.Ghosts L} →
    (K → Option (List (List ℕ))) → (K → ℕ) → (K → Bool) →
    (L → Option (List (List ℕ))) → (L → ℕ) → Site K L k l → SiteFault → Site K L k l → Type 0
IsUnread bodies faults is_broken cloud_bodies cloud_faults was fault now =
    ((fault ≡ Memory) × (now.cloud ≡ was.cloud) × (now.book ≡ was.book))
    ⊎ (IsCloudUnread cloud_bodies cloud_faults was.cloud fault now.cloud × (now.book ≡ was.book)
    ⊎ (Rereads cloud_bodies cloud_faults was.cloud now.cloud
    × IsBookUnread bodies faults is_broken was.book fault now.book))

-- the site has halted, and the entries were not read
pub record IsNotRead {K L : Type 0} {k : keeper.Ghosts K} {l : keeper.Ghosts L}
    (bodies : K → Option (List (List ℕ))) (faults : K → ℕ) (is_broken : K → Bool)
    (cloud_bodies : L → Option (List (List ℕ))) (cloud_faults : L → ℕ) (was : Site K L k l) (fault : SiteFault)
    (now : Site K L k l) : Type 0 where
  pub unread : IsUnread bodies faults is_broken cloud_bodies cloud_faults was fault now
  pub comes : Comes was (first_halt was.history.is_halted) now
  pub halted : now.history.is_halted ≡ true
  pub same_entries : now.book.journal.entries ≡ was.book.journal.entries
  pub same_fates : SameFates was.cloud now.cloud
  pub cloud_kept : IsKept cloud_bodies was.cloud → IsKept cloud_bodies now.cloud
  pub same_calls : now.calls ≡ was.calls
  pub same_armed : now.traps.items ≡ was.traps.items
  pub same_opening : now.opening ≡ was.opening

-- A restart is refused: there was no memory to tell what had happened; or the site has halted, and one of the two stores
-- was not read; or both were read, and the site has halted again.
abbrev pub RefusesRestart : {K L : Type 0} {k : keeper.Ghosts K} {l : keeper.Ghosts L} →
    (K → Option (List (List ℕ))) → (K → ℕ) → (K → Bool) →
    (L → Option (List (List ℕ))) → (L → ℕ) → Site K L k l → SiteFault → Site K L k l → Type 0
RefusesRestart bodies faults is_broken cloud_bodies cloud_faults was fault now =
    ((fault ≡ Memory) × Comes was [] now × KeepsBooks was now)
    ⊎ (IsNotRead bodies faults is_broken cloud_bodies cloud_faults was fault now
    ⊎ ((started : Result (Unit {0}) BookFault) × ((cause : Cause)
    × (HaltsAgain now.book.journal.store.sprung started cause fault
    × Restarts bodies faults is_broken cloud_bodies cloud_faults was started (Some cause) now))))
