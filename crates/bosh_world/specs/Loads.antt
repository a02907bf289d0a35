-- What a site is that was loaded.
use Rattle.std.specs.Prelude.{◌≡◌, ◌⊎◌, ℕ, Bool, true, false, List, [], length, map, drop, IfSome, Option, None, Ok, Err}
use Rattle.bosh_asks.specs.declared.fault.BookFault.{BookFault}
use Rattle.bosh_base.specs.declared.entry.Entry.{Entry}
use Rattle.bosh_base.specs.declared.moves.Move.TheVariants as moves
use Rattle.bosh_book.specs.Starts.{IsNotLoaded, StartsFrom}
use Rattle.bosh_book.specs.declared.book.Book.{Book}
use Rattle.bosh_cloud.specs.CloudView.{CloudView}
use Rattle.bosh_cloud.specs.Loading.{IsKept}
use Rattle.bosh_cloud.specs.Reads.{Reads}
use Rattle.bosh_cloud.specs.declared.fault.CloudFault.{CloudFault}
use Rattle.bosh_journal.specs.Kept as journal
use Rattle.bosh_ports.specs.Rigged.{RigState, broken_of, faults_of}
use Rattle.bosh_world.specs.Faults.{of_book, of_cloud}
use Rattle.bosh_world.specs.Restarts.{read_count}
use Rattle.bosh_ports.specs.declared.keeper.Keeper as keeper
use Rattle.bosh_world.specs.declared.site.Site.{Site}
use Rattle.bosh_world.specs.Steps.{IsAllTold, bodies_of}
use Rattle.bosh_world.specs.declared.fault.SiteFault.{SiteFault}
use Rattle.bosh_world.specs.declared.fault.SiteFault.TheVariants.{Memory}

-- a keeper without rigs
abbrev pub without_rigs : {K : Type 0} → K → RigState K
without_rigs store = record { inner = store; armed = []; sprung = None; fired = 0 }

-- The book and the cloud are those that the two keepers spell; the entries that the book noted in its load are moves, and
-- those before are the opening.
pub record Loads {K L : Type 0} {k : keeper.Ghosts K} {l : keeper.Ghosts L}
    (bodies : K → Option (List (List ℕ))) (faults : K → ℕ) (is_broken : K → Bool)
    (cloud_bodies : L → Option (List (List ℕ))) (cloud_faults : L → ℕ) (store : K) (cloud : L) (site : Site K L k l) :
    Type 0 where
  pub book : StartsFrom {T = Unit {0}} (bodies_of bodies) (faults_of faults) (broken_of is_broken) true (without_rigs store)
      (Ok tt) site.book
  pub book_kept : IfSome (bodies store) (λ _. journal.IsKept (bodies_of bodies) site.book.journal)
  pub cloud_of : Reads cloud_bodies cloud_faults cloud (Ok site.cloud.effects) site.cloud.store
  pub cloud_kept : IfSome (cloud_bodies cloud) (λ _. IsKept cloud_bodies site.cloud)
  pub fresh : site.cloud ≡ record site.cloud { dooms = []; fired = 0; is_stale = false }
  pub opening : site.opening ≡ (read_count site.book, length site.cloud.effects)
  pub moves_of : site.history.moves ≡ map moves.Note (drop (read_count site.book) site.book.journal.entries)
  pub told : IsAllTold site
  pub effects_told : site.history.effects ≡ length site.cloud.effects
  pub running : site.history.is_halted ≡ false
  pub no_calls : site.calls.unsettled ≡ []
  pub no_traps : site.traps.items ≡ []

-- the book was not loaded
abbrev pub IsNoBook : {K : Type 0} → (K → Option (List (List ℕ))) → (K → ℕ) → (K → Bool) → K → K → SiteFault → Type 0
IsNoBook {K} bodies faults is_broken store store_now fault =
    (refusal : BookFault) × ((rigged : RigState K)
    × (IsNotLoaded (bodies_of bodies) (faults_of faults) (broken_of is_broken) (without_rigs store) rigged refusal
    × (store_now ≡ rigged.inner) × (fault ≡ of_book refusal)))

-- the book was loaded, and there was no memory to tell the ends of its tasks
abbrev pub IsUntold : {K : Type 0} → (K → Option (List (List ℕ))) → (K → ℕ) → (K → Bool) → K → K → SiteFault → Type 0
IsUntold {K} bodies faults is_broken store store_now fault =
    (fault ≡ Memory) × ((book : Book (RigState K))
    × (StartsFrom {T = Unit {0}} (bodies_of bodies) (faults_of faults) (broken_of is_broken) true (without_rigs store) (Ok tt)
    book
    × (store_now ≡ book.journal.store.inner)))

-- The keepers are given back: the cloud was not loaded, and the director's keeper is as it was; or the book was not; or
-- there was no memory for the moves.
abbrev pub IsNotSite : {K L : Type 0} → (K → Option (List (List ℕ))) → (K → ℕ) → (K → Bool) →
    (L → Option (List (List ℕ))) → (L → ℕ) → K → L → K → L → SiteFault → Type 0
IsNotSite bodies faults is_broken cloud_bodies cloud_faults store cloud store_now cloud_now fault =
    ((refusal : CloudFault) × (Reads cloud_bodies cloud_faults cloud (Err refusal) cloud_now × (store_now ≡ store)
    × (fault ≡ of_cloud refusal)))
    ⊎ ((effects : List Entry) × (Reads cloud_bodies cloud_faults cloud (Ok effects) cloud_now
    × (IsNoBook bodies faults is_broken store store_now fault ⊎ IsUntold bodies faults is_broken store store_now fault)))

-- a book and a cloud of which nothing is told
pub record IsJoined {K L : Type 0} {k : keeper.Ghosts K} {l : keeper.Ghosts L}
    (book : Book (RigState K)) (cloud : CloudView L) (site : Site K L k l) : Type 0 where
  pub same_book : site.book ≡ book
  pub same_cloud : site.cloud ≡ cloud
  pub history : site.history ≡ record {
    moves = [];
    free = site.history.free;
    entries = read_count book;
    effects = length cloud.effects;
    restart = None;
    halt = None;
    is_halted = false;
  }
  pub opening : site.opening ≡ (read_count book, length cloud.effects)
  pub no_calls : site.calls.unsettled ≡ []
  pub no_traps : site.traps.items ≡ []

-- the book of a store joins a cloud, and the moves tell the ends of its tasks
pub record Joins {K L : Type 0} {k : keeper.Ghosts K} {l : keeper.Ghosts L}
    (bodies : K → Option (List (List ℕ))) (faults : K → ℕ) (is_broken : K → Bool) (store : K) (cloud : CloudView L)
    (site : Site K L k l) : Type 0 where
  pub book : StartsFrom {T = Unit {0}} (bodies_of bodies) (faults_of faults) (broken_of is_broken) true (without_rigs store)
      (Ok tt) site.book
  pub book_kept : IfSome (bodies store) (λ _. journal.IsKept (bodies_of bodies) site.book.journal)
  pub same_cloud : site.cloud ≡ cloud
  pub opening : site.opening ≡ (read_count site.book, length cloud.effects)
  pub moves_of : site.history.moves ≡ map moves.Note (drop (read_count site.book) site.book.journal.entries)
  pub told : IsAllTold site
  pub effects_told : site.history.effects ≡ length site.cloud.effects
  pub running : site.history.is_halted ≡ false
  pub no_calls : site.calls.unsettled ≡ []
  pub no_traps : site.traps.items ≡ []
