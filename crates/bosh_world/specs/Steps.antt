-- What a call of a site has done: the entries of the book, the effects of the cloud, and the moves that tell of them.
use Rattle.std.specs.Prelude.{◌≡◌, ◌≤◌, ◌⊎◌, ℕ, false, is_some, All, List, [], ◌∷◌, ◌++◌, length, map, Option, Some, None}
use Rattle.std.specs.Prelude.{Result, Ok, Err}
use Rattle.bosh_asks.specs.declared.ask.Ask.{Ask}
use Rattle.bosh_base.specs.History.{Extends}
use Rattle.bosh_base.specs.declared.entry.Entry.{Entry}
use Rattle.bosh_base.specs.declared.entry.Entry.TheVariants as entries
use Rattle.bosh_base.specs.declared.entry.TaskOpen as task_open
use Rattle.bosh_base.specs.declared.moves.Cause.{Cause}
use Rattle.bosh_base.specs.declared.moves.Move.{Move}
use Rattle.bosh_base.specs.declared.moves.Move.TheVariants as moves
use Rattle.bosh_base.specs.declared.moves.Said as said
use Rattle.bosh_base.specs.declared.task.TaskEnd.{TaskEnd}
use Rattle.bosh_book.specs.Adds.{Adds}
use Rattle.bosh_book.specs.Ends.{closing, coming_end, end_of}
use Rattle.bosh_book.specs.Opens.{IsOpeningOf}
use Rattle.bosh_book.specs.Claims as claims
use Rattle.bosh_book.specs.Running.{is_full}
use Rattle.bosh_book.specs.Turns.{Gives, IsUpdate}
use Rattle.bosh_book.specs.declared.claim.Claim.{Claim}
use Rattle.bosh_book.specs.declared.claim.Claim.TheVariants as given
use Rattle.bosh_book.specs.declared.uploads.Added.{Added}
use Rattle.bosh_book.specs.declared.uploads.Added.TheVariants.{New, Same}
use Rattle.bosh_calls.specs.Calls.{with_begun, without}
use Rattle.bosh_calls.specs.declared.calls.OpenCall.{OpenCall}
use Rattle.bosh_ports.specs.Rigged.{RigState, faults_of}
use Rattle.bosh_ports.specs.declared.keeper.Keeper as keeper
use Rattle.bosh_world.specs.declared.site.Site.{Site}
use Rattle.bosh_world.specs.Told.{story_of}
use Rattle.bosh_moves.specs.Story.{IsTold, effects_after, effects_told, halts}

-- the bodies of the keeper below the rigs
abbrev pub bodies_of : {K : Type 0} → (K → Option (List (List ℕ))) → RigState K → Option (List (List ℕ))
bodies_of bodies rigged = bodies rigged.inner

-- these moves have come at the end; the moves that were told only grow, and effects are told as these moves tell them
pub record Comes {K L : Type 0} {k : keeper.Ghosts K} {l : keeper.Ghosts L} (was : Site K L k l) (more : List Move)
    (now : Site K L k l) : Type 0 where
  pub grows : Extends was.history.moves now.history.moves
  pub story : story_of now ≡ story_of was ++ more
  pub told : effects_told now.history now.cloud.effects
      ≡ effects_after more (length now.cloud.effects) (effects_told was.history was.cloud.effects)

-- nothing changed but what was told
pub record KeepsBooks {K L : Type 0} {k : keeper.Ghosts K} {l : keeper.Ghosts L} (was now : Site K L k l) : Type 0 where
  pub same_book : now.book ≡ was.book
  pub same_cloud : now.cloud ≡ was.cloud
  pub same_calls : now.calls ≡ was.calls
  pub same_armed : now.traps.items ≡ was.traps.items
  pub same_opening : now.opening ≡ was.opening
  pub same_halt : now.history.is_halted ≡ was.history.is_halted

-- nothing changed
pub record IsSame {K L : Type 0} {k : keeper.Ghosts K} {l : keeper.Ghosts L} (was now : Site K L k l) : Type 0 where
  pub same_book : now.book ≡ was.book
  pub same_cloud : now.cloud ≡ was.cloud
  pub same_history : now.history ≡ was.history
  pub same_calls : now.calls ≡ was.calls
  pub same_armed : now.traps.items ≡ was.traps.items
  pub same_opening : now.opening ≡ was.opening

-- all that has happened was told, and there is a place for a move, and one for a halt
pub record IsAllTold {K L : Type 0} {k : keeper.Ghosts K} {l : keeper.Ghosts L} (site : Site K L k l) : Type 0 where
  pub told : IsTold site.history
  pub entries : site.history.entries ≡ length site.book.journal.entries
  pub free : 2 ≤ site.history.free

-- a reply is noted
pub record Says {K L : Type 0} {k : keeper.Ghosts K} {l : keeper.Ghosts L} (was : Site K L k l) (reply : said.Said)
    (now : Site K L k l) : Type 0 where
  pub comes : Comes was (moves.Said reply ∷ []) now
  pub keeps : KeepsBooks was now

-- entries were noted in the book of a site that ran, and then it may have halted; the cloud stays as it was
pub record Notes {K L : Type 0} {k : keeper.Ghosts K} {l : keeper.Ghosts L}
    (bodies : K → Option (List (List ℕ))) (faults : K → ℕ) (was : Site K L k l) (noted : List Entry)
    (halt : Option Cause) (now : Site K L k l) : Type 0 where
  pub book : Adds (bodies_of bodies) (faults_of faults) was.book noted now.book
  pub comes : Comes was (map moves.Note noted ++ halts halt) now
  pub running : was.history.is_halted ≡ false
  pub halted : now.history.is_halted ≡ is_some halt
  pub same_cloud : now.cloud ≡ was.cloud
  pub same_armed : now.traps.items ≡ was.traps.items
  pub same_opening : now.opening ≡ was.opening

-- the task opens that does what is asked, in a book that has room
pub record OpensTask {K L : Type 0} {k : keeper.Ghosts K} {l : keeper.Ghosts L}
    (bodies : K → Option (List (List ℕ))) (faults : K → ℕ) (was : Site K L k l) (ask : Ask) (task : ℕ)
    (now : Site K L k l) : Type 0 where
  pub opening : task_open.TaskOpen
  pub is_opening : IsOpeningOf was.book.records ask opening
  pub notes : Notes bodies faults was (entries.TaskOpen opening ∷ []) None now
  pub told : task ≡ opening.task
  pub has_room : is_full was.book ≡ false

-- a task that had ended is only told; one that ends, as it comes to its end now, is noted
abbrev pub EndsTask : {K L : Type 0} {k : keeper.Ghosts K} {l : keeper.Ghosts L} → (K → Option (List (List ℕ))) → (K →
    ℕ) → Site K L k l → ℕ → TaskEnd →
    Site K L k l → Type 0
EndsTask bodies faults was task end now =
    ((end_of was.book.records task ≡ Some end) × Notes bodies faults was [] None now × (now.book ≡ was.book))
    ⊎ ((end_of was.book.records task ≡ None) × (coming_end was.book.records task ≡ Some end)
    × Notes bodies faults was (closing task end ∷ []) None now)

-- what is noted of an upload
abbrev pub entries_for : Added → Entry → List Entry
entries_for New entry = entry ∷ []
entries_for Same entry = []

-- Work of a task is claimed, of a book that has room: updates are noted, and then what the answer says.
pub record Claims {K L : Type 0} {k : keeper.Ghosts K} {l : keeper.Ghosts L}
    (bodies : K → Option (List (List ℕ))) (faults : K → ℕ) (was : Site K L k l) (task worker : ℕ) (claim : Claim)
    (now : Site K L k l) : Type 0 where
  pub updates : List Entry
  pub are_updates : All IsUpdate updates
  pub last : List Entry
  pub gives : Gives claim last
  pub notes : Notes bodies faults was (updates ++ last) None now
  pub by_turns : claims.Claims (bodies_of bodies) (faults_of faults) task worker was.book (Ok claim) now.book
  pub has_room : is_full was.book ≡ false

-- the open calls after a claim: one that was given can be performed
abbrev pub calls_claimed : {F : Type 0} → Result Claim F → List OpenCall → List OpenCall
calls_claimed (Ok (given.Work permit)) calls = with_begun permit.n calls
calls_claimed answer calls = calls

-- .. and after one was to be settled
abbrev pub calls_settled : {T F : Type 0} → Result T F → ℕ → List OpenCall → List OpenCall
calls_settled (Ok value) n calls = without n calls
calls_settled (Err fault) n calls = calls
