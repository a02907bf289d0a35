-- What a site is that was loaded.
use Rattle.std.proofs.Common.{◌≡◌, ◌≤◌, ℕ, ◌-◌, Bool, true, false, Option, None, List, [], ◌++◌, sym, ◌∙◌, ap, subst, inr}
use Rattle.std.proofs.Common.{Result, Ok, Err, append-nil, arith, length, map, drop}
use Rattle.std.specs.Prelude.{◌⊎◌, IfErr, IfOk, IfSome}
use Rattle.bosh_base.specs.declared.moves.Move.TheVariants.{Note}
use Rattle.bosh_asks.specs.declared.fault.BookFault.{BookFault}
use Rattle.bosh_book.specs.Starts.{IsNotLoaded, StartsFrom}
use Rattle.bosh_book.specs.declared.book.Book.{Book}
use Rattle.bosh_cloud.specs.CloudView.{CloudView}
use Rattle.bosh_journal.specs.Kept.{IsKept}
use Rattle.bosh_moves.proofs.TellLemmas.{of_on, story_all, story_on, told_on}
use Rattle.bosh_moves.specs.Story.{HistoryView, halts, story}
use Rattle.bosh_ports.specs.Rigged.{RigState, broken_of, faults_of}
use Rattle.bosh_ports.specs.declared.keeper.Keeper as keeper
use Rattle.bosh_world.specs.IsSite.{IsSite}
use Rattle.bosh_world.specs.Loads.{IsJoined, IsNoBook, IsUntold, Joins, without_rigs}
use Rattle.bosh_world.specs.Restarts.{read_count}
use Rattle.bosh_world.specs.Steps.{Comes, IsAllTold, KeepsBooks, bodies_of}
use Rattle.bosh_world.specs.declared.site.Site.{Site}
use Rattle.bosh_world.specs.declared.unloaded.Unloaded as unloaded
use Rattle.bosh_world.specs.declared.fault.SiteFault.{SiteFault}
use Rattle.bosh_world.specs.declared.fault.SiteFault.TheVariants.{Memory}

ended_within : (count ended : ℕ) → count - ended ≤ count
ended_within count ended = omega arith

pub read_within : {K : Type 0} (book : Book K) → read_count book ≤ length book.journal.entries
read_within book = ended_within (length book.journal.entries) _

-- a history of nothing
pub begins : {K : Type 0} (book : Book K) (history : HistoryView) (count effects : ℕ) (stopped stale : Bool) →
    history ≡ record {
      moves = [];
      free = history.free;
      entries = count;
      effects = effects;
      restart = None;
      halt = None;
      is_halted = false;
    } → count ≡ read_count book → stopped ≡ false → stale ≡ false → IsSite book.journal.entries stopped stale history
begins book history count effects stopped stale is read running fresh = record {
  is_of = of_on history book.journal.entries (ap (λ h. h.restart) is)
      (subst (λ (n : ℕ). n ≤ length book.journal.entries) (sym (ap (λ h. h.entries) is ∙ read)) (read_within book))
      (λ off. ap (λ h. h.halt) is);
  book_runs = λ off. running;
  cloud_runs = λ off. fresh;
}

-- a book and a cloud of which nothing is told, and then the moves are told
pub joins : {K L : Type 0} {k : keeper.Ghosts K} {l : keeper.Ghosts L} (bodies : K → Option (List (List ℕ))) (faults : K → ℕ)
    (is_broken : K → Bool) (store : K) (cloud : CloudView L) (book : Book (RigState K)) (was site : Site K L k l) →
    StartsFrom {T = Unit {0}} (bodies_of bodies) (faults_of faults) (broken_of is_broken) true (without_rigs store) (Ok tt) book →
    IfSome (bodies store) (λ _. IsKept (bodies_of bodies) book.journal) →
    IsJoined book cloud was → Comes was [] site → KeepsBooks was site → IsAllTold site →
    Joins bodies faults is_broken store cloud site
joins bodies faults is_broken store cloud book was site starts kept joined comes keeps told =
    let same : site.book ≡ book = keeps.same_book ∙ joined.same_book in
    record {
      book =
          subst (λ (it : Book (RigState _)). StartsFrom {T = Unit {0}} (bodies_of bodies) (faults_of faults)
          (broken_of is_broken) true (without_rigs store) (Ok tt) it) (sym same) starts;
      book_kept =
          subst (λ (it : Book (RigState _)). IfSome (bodies store) (λ _. IsKept (bodies_of bodies) it.journal)) (sym same) kept;
      same_cloud = keeps.same_cloud ∙ joined.same_cloud;
      opening = keeps.same_opening ∙ joined.opening ∙ ap (λ it. (read_count it, length cloud.effects)) (sym same);
      moves_of =
          sym (story_all site.history site.book.journal.entries site.cloud.effects told.told.no_restart told.entries
          told.told.no_halt)
          ∙ comes.story
          ∙ append-nil (story was.history was.book.journal.entries was.cloud.effects)
          ∙ story_on was.history was.book.journal.entries was.cloud.effects (ap (λ h. h.restart) joined.history)
          ∙ ap (λ h. h.moves ++ (map Note (drop h.entries was.book.journal.entries) ++ halts h.halt)) joined.history
          ∙ append-nil (map Note (drop (read_count book) was.book.journal.entries))
          ∙ ap (λ it. map Note (drop (read_count book) it.journal.entries)) joined.same_book
          ∙ ap (λ it. map Note (drop (read_count it) it.journal.entries)) (sym same);
      told = told;
      effects_told =
          sym (told_on site.history site.cloud.effects told.told.no_restart)
          ∙ comes.told
          ∙ told_on was.history was.cloud.effects (ap (λ h. h.restart) joined.history)
          ∙ ap (λ h. h.effects) joined.history
          ∙ ap (λ it. length it.effects) (sym (keeps.same_cloud ∙ joined.same_cloud));
      running = keeps.same_halt ∙ ap (λ h. h.is_halted) joined.history;
      no_calls = ap (λ it. it.unsettled) keeps.same_calls ∙ joined.no_calls;
      no_traps = keeps.same_armed ∙ joined.no_traps;
    }

pub joins_if : {K L F : Type 0} {k : keeper.Ghosts K} {l : keeper.Ghosts L} (bodies : K → Option (List (List ℕ)))
    (faults : K → ℕ) (is_broken : K → Bool) (store : K) (cloud : CloudView L) (book : Book (RigState K))
    (was : Site K L k l) (result : Result (Site K L k l) F) →
    StartsFrom {T = Unit {0}} (bodies_of bodies) (faults_of faults) (broken_of is_broken) true (without_rigs store) (Ok tt) book →
    IfSome (bodies store) (λ _. IsKept (bodies_of bodies) book.journal) →
    IsJoined book cloud was → IfOk result (λ site. Comes was [] site × KeepsBooks was site × IsAllTold site) →
    IfOk result (Joins bodies faults is_broken store cloud)
joins_if bodies faults is_broken store cloud book was (Ok site) starts kept joined begun =
    joins bodies faults is_broken store cloud book was site starts kept joined begun.0 begun.1 begun.2
joins_if bodies faults is_broken store cloud book was (Err back) starts kept joined begun = tt

-- there was no memory to tell them
pub untold : {K L : Type 0} {k : keeper.Ghosts K} {l : keeper.Ghosts L} (bodies : K → Option (List (List ℕ)))
    (faults : K → ℕ) (is_broken : K → Bool) (store : K) (cloud : CloudView L) (book : Book (RigState K))
    (was : Site K L k l) (store_now : K) (cloud_now : L) (fault : SiteFault) →
    StartsFrom {T = Unit {0}} (bodies_of bodies) (faults_of faults) (broken_of is_broken) true (without_rigs store) (Ok tt) book →
    IsJoined book cloud was →
    (store_now ≡ was.book.journal.store.inner) × (cloud_now ≡ was.cloud.store) × (fault ≡ Memory) →
    (cloud_now ≡ cloud.store) × (IsNoBook bodies faults is_broken store store_now fault
    ⊎ IsUntold bodies faults is_broken store store_now fault)
untold bodies faults is_broken store cloud book was store_now cloud_now fault starts joined back = (
  back.1 ∙ ap (λ it. it.store) joined.same_cloud,
  inr (back.2, (book, (starts, back.0 ∙ ap (λ it. it.journal.store.inner) joined.same_book))),
)

pub untold_if : {K L : Type 0} {k : keeper.Ghosts K} {l : keeper.Ghosts L} (bodies : K → Option (List (List ℕ)))
    (faults : K → ℕ) (is_broken : K → Bool) (store : K) (cloud : CloudView L) (book : Book (RigState K))
    (was : Site K L k l) (result : Result (Site K L k l) (unloaded.Unloaded K L)) →
    StartsFrom {T = Unit {0}} (bodies_of bodies) (faults_of faults) (broken_of is_broken) true (without_rigs store) (Ok tt) book →
    IsJoined book cloud was →
    IfErr result (λ back. (back.store ≡ was.book.journal.store.inner) × (back.cloud ≡ was.cloud.store)
    × (back.fault ≡ Memory)) →
    IfErr result (λ back. (back.cloud ≡ cloud.store) × (IsNoBook bodies faults is_broken store back.store back.fault
    ⊎ IsUntold bodies faults is_broken store back.store back.fault))
untold_if bodies faults is_broken store cloud book was (Ok site) starts joined refused = tt
untold_if bodies faults is_broken store cloud book was (Err back) starts joined refused =
    untold bodies faults is_broken store cloud book was back.store back.cloud back.fault starts joined refused

-- the store of the load was without rigs
pub kept_unrigged : {K : Type 0} (bodies : K → Option (List (List ℕ))) (store : K) (rigged : RigState K)
    (book : Book (RigState K)) → rigged ≡ without_rigs store →
    IfSome (bodies_of bodies rigged) (λ _. IsKept (bodies_of bodies) book.journal) →
    IfSome (bodies store) (λ _. IsKept (bodies_of bodies) book.journal)
kept_unrigged bodies store rigged book is kept =
    subst (λ (it : RigState _). IfSome (bodies_of bodies it) (λ _. IsKept (bodies_of bodies) book.journal)) is kept

pub starts_unrigged : {K : Type 0} (bodies : K → Option (List (List ℕ))) (faults : K → ℕ) (is_broken : K → Bool) (store : K)
    (rigged : RigState K) (book : Book (RigState K)) → rigged ≡ without_rigs store →
    StartsFrom {T = Unit {0}} (bodies_of bodies) (faults_of faults) (broken_of is_broken) true rigged (Ok tt) book →
    StartsFrom {T = Unit {0}} (bodies_of bodies) (faults_of faults) (broken_of is_broken) true (without_rigs store) (Ok tt) book
starts_unrigged bodies faults is_broken store rigged book is starts =
    subst (λ (it : RigState _). StartsFrom {T = Unit {0}} (bodies_of bodies) (faults_of faults) (broken_of is_broken) true it
    (Ok tt) book) is starts

pub unloaded_unrigged : {K : Type 0} (bodies : K → Option (List (List ℕ))) (faults : K → ℕ) (is_broken : K → Bool)
    (store : K) (rigged now : RigState K) (fault : BookFault) → rigged ≡ without_rigs store →
    IsNotLoaded (bodies_of bodies) (faults_of faults) (broken_of is_broken) rigged now fault →
    IsNotLoaded (bodies_of bodies) (faults_of faults) (broken_of is_broken) (without_rigs store) now fault
unloaded_unrigged bodies faults is_broken store rigged now fault is refused =
    subst (λ (it : RigState _). IsNotLoaded (bodies_of bodies) (faults_of faults) (broken_of is_broken) it now fault) is
    refused
