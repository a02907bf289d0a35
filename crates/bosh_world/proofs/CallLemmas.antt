-- What a call of the book leaves of a site, where it was told.
use Rattle.std.proofs.Common.{◌≡◌, ◌⊎◌, ℕ, Bool, true, false, Option, Some, None, Result, Ok, Err, List, [], ◌∷◌, ◌++◌, inl, inr, refl, sym, ◌∙◌, ap, subst, append-nil, arith, not, ◌||◌}
use Rattle.std.specs.Prelude.{IfErr, IfOk, OnErr, OnOk}
use Rattle.std.specs.Result.{IsErrAnd}
use Rattle.std.proofs.lemmas.List.Elements.{All-nil}
use Rattle.std.proofs.lemmas.Bool.{false≢true}
use Rattle.bosh_asks.specs.declared.fault.BookFault.{BookFault}
use Rattle.bosh_asks.specs.declared.fault.BookFault.TheVariants as book
use Rattle.bosh_asks.specs.declared.ask.Ask.{Ask}
use Rattle.bosh_base.specs.declared.entry.Entry.{Entry}
use Rattle.bosh_base.specs.declared.entry.Entry.TheVariants as entries
use Rattle.bosh_base.specs.declared.moves.Cause.{Cause}
use Rattle.bosh_book.proofs.AddsLemmas.{nothing_added}
use Rattle.bosh_book.specs.Adds.{Adds}
use Rattle.bosh_base.specs.declared.task.TaskEnd.{TaskEnd}
use Rattle.bosh_book.specs.Claims as claims
use Rattle.bosh_book.specs.Ends as ends
use Rattle.bosh_book.specs.Ends.{IsTold, closing}
use Rattle.bosh_book.specs.Faults.{FailsAs, IsSettleFault}
use Rattle.bosh_book.specs.Opens as opens
use Rattle.bosh_book.specs.Running.{is_full, is_running, is_stopped}
use Rattle.bosh_book.specs.declared.standing.Standing.TheVariants.{Unread}
use Rattle.bosh_calls.proofs.CallLemmas.{begun_performable}
use Rattle.bosh_calls.specs.Calls.{is_performable}
use Rattle.bosh_calls.specs.declared.calls.OpenCall.{OpenCall}
use Rattle.bosh_book.specs.Turns as turns
use Rattle.bosh_book.specs.Turns.{IsUpdate, some}
use Rattle.bosh_book.specs.Appends.{unless_refused}
use Rattle.bosh_book.specs.Uploads.{if_new}
use Rattle.bosh_book.specs.declared.book.Book.{Book}
use Rattle.bosh_book.specs.declared.book.Book as books
use Rattle.bosh_book.specs.declared.claim.Claim.{Claim}
use Rattle.bosh_book.specs.declared.claim.Claim.TheVariants.{Over, Wait, Work}
use Rattle.bosh_book.specs.declared.uploads.Added.{Added}
use Rattle.bosh_book.specs.declared.uploads.Added.TheVariants.{New, Same}
use Rattle.bosh_moves.specs.Story.{Follows, HistoryView, effects_told, story}
use Rattle.bosh_ports.specs.declared.rig.Rig.{Rig}
use Rattle.bosh_ports.specs.declared.rig.Rig.TheVariants as rigs
use Rattle.bosh_world.specs.declared.held.HeldCall as held
use Rattle.bosh_ports.specs.Rigged.{RigState, faults_of}
use Rattle.bosh_ports.specs.declared.keeper.Keeper as keeper
use Rattle.bosh_world.proofs.BookLemmas.{books_if, runs_on}
use Rattle.bosh_world.proofs.PendLemmas.{halted_by}
use Rattle.bosh_world.proofs.SiteLemmas.{SameRest, noted, notes_if, refuses_if}
use Rattle.bosh_world.specs.Faults.{answered_as, fault_as, halt_by, halt_of}
use Rattle.bosh_world.specs.IsSite.{IsSite}
use Rattle.bosh_world.specs.Refuses.{IsBooks, IsUnheld, Refuses, RefusesClaim}
use Rattle.bosh_world.specs.Steps.{Claims, Comes, EndsTask, Notes, OpensTask, bodies_of, calls_claimed, entries_for}
use Rattle.bosh_world.specs.Told.{IsGivenBy, story_of}
use Rattle.bosh_world.specs.declared.fault.SiteFault.{SiteFault}
use Rattle.bosh_world.specs.declared.fault.SiteFault.TheVariants.{Book as Refusal, Memory}
use Rattle.bosh_world.specs.declared.site.Site.{Site}

-- what was told of the entries that there are
pub follows_at : (was now : HistoryView) (entries told effects seen : List Entry) (halt : Option Cause) → told ≡ entries →
    seen ≡ effects → Follows was told seen halt now → Follows was entries effects halt now
follows_at was now entries told effects seen halt same same_effects follows =
    subst (λ (es : List Entry). Follows was es effects halt now) same
    (subst (λ (fs : List Entry). Follows was told fs halt now) same_effects follows)

-- a site keeps what it keeps
pub site_stays : {K T : Type 0} (faults : K → ℕ) (was now : Book K) (answer : Result T BookFault) (sprung : Option Rig)
    (stale : Bool) (before after : HistoryView) (told effects : List Entry) → FailsAs faults answer was.journal now.journal →
    now.standing ≡ was.standing → is_stopped was ≡ false → stale ≡ false → told ≡ now.journal.entries →
    Follows before told effects (halt_of sprung answer) after →
    IsSite now.journal.entries (is_stopped now) stale after
site_stays faults was now answer sprung stale before after told effects fails standing runs whole same follows = record {
  is_of = (follows_at before after now.journal.entries told effects effects (halt_of sprung answer) same refl follows).is_of;
  book_runs = λ running. runs_on faults was now answer sprung after.is_halted fails standing runs follows.halted running;
  cloud_runs = λ running. whole;
}

-- an upload that is new was noted
pub new_ok : {K : Type 0} (bodies : K → Option (List (List ℕ))) (faults : K → ℕ) (was now : Book K)
    (answer : Result Added BookFault) (entry : Entry) → Adds bodies faults was (if_new answer entry) now →
    IfOk answer (λ added. Adds bodies faults was (entries_for added entry) now)
new_ok bodies faults was now (Ok New) entry adds = adds
new_ok bodies faults was now (Ok Same) entry adds = adds
new_ok bodies faults was now (Err fault) entry adds = tt

pub new_err : {K : Type 0} (bodies : K → Option (List (List ℕ))) (faults : K → ℕ) (was now : Book K)
    (answer : Result Added BookFault) (entry : Entry) → Adds bodies faults was (if_new answer entry) now →
    OnErr answer (Adds bodies faults was [] now)
new_err bodies faults was now (Ok added) entry adds = tt
new_err bodies faults was now (Err fault) entry adds = adds

pub set_ok : {K : Type 0} (bodies : K → Option (List (List ℕ))) (faults : K → ℕ) (was now : Book K)
    (answer : Result (Unit {0}) BookFault) (entry : Entry) → Adds bodies faults was (unless_refused answer entry) now →
    IfOk answer (λ value. Adds bodies faults was (entry ∷ []) now)
set_ok bodies faults was now (Ok value) entry adds = adds
set_ok bodies faults was now (Err fault) entry adds = tt

pub set_err : {K : Type 0} (bodies : K → Option (List (List ℕ))) (faults : K → ℕ) (was now : Book K)
    (answer : Result (Unit {0}) BookFault) (entry : Entry) → Adds bodies faults was (unless_refused answer entry) now →
    OnErr answer (Adds bodies faults was [] now)
set_err bodies faults was now (Ok value) entry adds = tt
set_err bodies faults was now (Err fault) entry adds = adds

-- whether the book goes on stays, whatever was noted
pub standing_if : {K T : Type 0} (bodies : K → Option (List (List ℕ))) (faults : K → ℕ) (was now : Book K)
    (answer : Result T BookFault) (entries : T → List Entry) → IfOk answer (λ value. Adds bodies faults was (entries value) now) →
    OnErr answer (Adds bodies faults was [] now) → now.standing ≡ was.standing
standing_if bodies faults was now (Ok value) entries adds none = adds.standing
standing_if bodies faults was now (Err fault) entries none adds = adds.standing

-- where the book was not refused, and where it was, as the site answers
pub notes_told : {K L T : Type 0} {k : keeper.Ghosts K} {l : keeper.Ghosts L} (bodies : K → Option (List (List ℕ)))
    (faults : K → ℕ) (was now : Site K L k l) (result : Result T SiteFault) (answer : Result T BookFault)
    (sprung : Option Rig) (entries : T → List Entry) → result ≡ answered_as sprung answer → SameRest was now →
    IfOk answer (λ value. Adds (bodies_of bodies) (faults_of faults) was.book (entries value) now.book) →
    Follows was.history now.book.journal.entries now.cloud.effects (halt_of sprung answer) now.history →
    IfOk result (λ value. Notes bodies faults was (entries value) None now)
notes_told {T = T} bodies faults was now result answer sprung entries is rest adds follows =
    subst (λ (r : Result T SiteFault). IfOk r (λ value. Notes bodies faults was (entries value) None now)) (sym is)
    (notes_if bodies faults was now answer sprung entries rest adds follows)

pub refuses_told : {K L T : Type 0} {k : keeper.Ghosts K} {l : keeper.Ghosts L} (bodies : K → Option (List (List ℕ)))
    (faults : K → ℕ) (was now : Site K L k l) (result : Result T SiteFault) (answer : Result T BookFault)
    (sprung : Option Rig) (entries : List Entry) → result ≡ answered_as sprung answer → SameRest was now →
    sprung ≡ now.book.journal.store.sprung →
    OnErr answer (Adds (bodies_of bodies) (faults_of faults) was.book entries now.book) →
    FailsAs (faults_of faults) answer was.book.journal now.book.journal →
    IfErr answer (λ fault. fault ≡ book.Stopped → ⊥) →
    Follows was.history now.book.journal.entries now.cloud.effects (halt_of sprung answer) now.history →
    IfErr result (λ fault. Refuses bodies faults was entries fault now)
refuses_told {T = T} bodies faults was now result answer sprung entries is rest by adds fails not follows =
    subst (λ (r : Result T SiteFault). IfErr r (λ fault. Refuses bodies faults was entries fault now)) (sym is)
    (refuses_if bodies faults was now answer sprung entries rest by adds fails not follows)

pub books_told : {T : Type 0} (may : BookFault → Type 0) (result : Result T SiteFault) (answer : Result T BookFault)
    (sprung : Option Rig) → result ≡ answered_as sprung answer → IfErr answer may → IfErr result (IsBooks may)
books_told {T = T} may result answer sprung is holds =
    subst (λ (r : Result T SiteFault). IfErr r (IsBooks may)) (sym is) (books_if may sprung answer holds)

-- a book that goes on does not refuse as one that is stopped
pub not_stopped : {K T : Type 0} (was : Book K) (may : BookFault → Type 0) (answer : Result T BookFault) →
    is_stopped was ≡ false → (may book.Stopped → is_stopped was ≡ true) → IfErr answer may →
    IfErr answer (λ fault. fault ≡ book.Stopped → ⊥)
not_stopped was may (Ok value) runs says holds = tt
not_stopped was may (Err fault) runs says holds = λ is. false≢true (sym runs ∙ says (subst may is holds))

-- ---- tasks

-- a task opens
pub opens_told : {K L : Type 0} {k : keeper.Ghosts K} {l : keeper.Ghosts L} (bodies : K → Option (List (List ℕ)))
    (faults : K → ℕ) (was now : Site K L k l) (ask : Ask) (result : Result ℕ SiteFault) (answer : Result ℕ BookFault)
    (sprung : Option Rig) → result ≡ answered_as sprung answer → SameRest was now →
    IfOk answer (λ task. opens.OpensTask (bodies_of bodies) (faults_of faults) was.book ask task now.book) →
    OnOk answer (is_full was.book ≡ false) →
    Follows was.history now.book.journal.entries now.cloud.effects (halt_of sprung answer) now.history →
    IfOk result (λ task. OpensTask bodies faults was ask task now)
opens_told {k = k} {l = l} bodies faults was now ask result answer sprung is rest opened room follows =
    subst (λ (r : Result ℕ SiteFault). IfOk r (λ task. OpensTask {k = k} {l = l} bodies faults was ask task now)) (sym is)
    (each answer opened room follows)
  where
    each : (a : Result ℕ BookFault) →
        IfOk a (λ task. opens.OpensTask (bodies_of bodies) (faults_of faults) was.book ask task now.book) →
        OnOk a (is_full was.book ≡ false) →
        Follows was.history now.book.journal.entries now.cloud.effects (halt_of sprung a) now.history →
        IfOk (answered_as sprung a) (λ task. OpensTask {k = k} {l = l} bodies faults was ask task now)
    each (Ok task) it room follows = record {
      opening = it.opening;
      is_opening = it.is_opening;
      notes = noted bodies faults was now (entries.TaskOpen it.opening ∷ []) None rest it.adds follows;
      told = it.told;
      has_room = room;
    }
    each (Err fault) it room follows = tt

pub standing_opens : {K : Type 0} (bodies : K → Option (List (List ℕ))) (faults : K → ℕ) (was now : Book K) (ask : Ask)
    (answer : Result ℕ BookFault) → IfOk answer (λ task. opens.OpensTask bodies faults was ask task now) →
    OnErr answer (Adds bodies faults was [] now) → now.standing ≡ was.standing
standing_opens bodies faults was now ask (Ok task) it none = it.adds.standing
standing_opens bodies faults was now ask (Err fault) none adds = adds.standing

adds_none : {K : Type 0} (bodies : K → Option (List (List ℕ))) (faults : K → ℕ) (was now : Book K) → now ≡ was →
    Adds bodies faults was [] now
adds_none bodies faults was now same =
    subst (λ (b : Book _). Adds bodies faults was [] b) (sym same) (nothing_added bodies faults was)

-- a task ends, or had ended
pub ends_told : {K L : Type 0} {k : keeper.Ghosts K} {l : keeper.Ghosts L} (bodies : K → Option (List (List ℕ)))
    (faults : K → ℕ) (was now : Site K L k l) (task : ℕ) (result : Result TaskEnd SiteFault)
    (answer : Result TaskEnd BookFault) (sprung : Option Rig) → result ≡ answered_as sprung answer → SameRest was now →
    IfOk answer (λ end. IsTold was.book task end now.book
    ⊎ ends.EndsTask (bodies_of bodies) (faults_of faults) was.book task end now.book) →
    Follows was.history now.book.journal.entries now.cloud.effects (halt_of sprung answer) now.history →
    IfOk result (λ end. EndsTask bodies faults was task end now)
ends_told {k = k} {l = l} bodies faults was now task result answer sprung is rest ended follows =
    subst (λ (r : Result TaskEnd SiteFault). IfOk r (λ end. EndsTask {k = k} {l = l} bodies faults was task end now)) (sym is)
    (each answer ended follows)
  where
    each : (a : Result TaskEnd BookFault) →
        IfOk a (λ end. IsTold was.book task end now.book
        ⊎ ends.EndsTask (bodies_of bodies) (faults_of faults) was.book task end now.book) →
        Follows was.history now.book.journal.entries now.cloud.effects (halt_of sprung a) now.history →
        IfOk (answered_as sprung a) (λ end. EndsTask {k = k} {l = l} bodies faults was task end now)
    each (Ok end) (inl (told, same)) follows =
        inl (told, noted bodies faults was now [] None rest (adds_none (bodies_of bodies) (faults_of faults) was.book now.book same) follows, same)
    each (Ok end) (inr it) follows =
        inr (it.is_open, it.comes, noted bodies faults was now (closing task end ∷ []) None rest it.adds follows)
    each (Err fault) it follows = tt

pub standing_ends : {K : Type 0} (bodies : K → Option (List (List ℕ))) (faults : K → ℕ) (was now : Book K) (task : ℕ)
    (answer : Result TaskEnd BookFault) →
    IfOk answer (λ end. IsTold was task end now ⊎ ends.EndsTask bodies faults was task end now) →
    OnErr answer (Adds bodies faults was [] now) → now.standing ≡ was.standing
standing_ends bodies faults was now task (Ok end) (inl (told, same)) none = ap (λ b. b.standing) same
standing_ends bodies faults was now task (Ok end) (inr it) none = it.adds.standing
standing_ends bodies faults was now task (Err fault) none adds = adds.standing

-- nothing has happened
pub comes_nothing : {K L : Type 0} {k : keeper.Ghosts K} {l : keeper.Ghosts L} (was now : Site K L k l) →
    now.book ≡ was.book → now.cloud ≡ was.cloud → now.history ≡ was.history → Comes was [] now
comes_nothing was now same_book same_cloud same_history = record {
  grows = ([], ap (λ h. h.moves) same_history ∙ sym (append-nil was.history.moves));
  story =
      ap (λ h. story h now.book.journal.entries now.cloud.effects) same_history
      ∙ ap (λ b. story was.history b.journal.entries now.cloud.effects) same_book
      ∙ ap (λ c. story was.history was.book.journal.entries c.effects) same_cloud
      ∙ sym (append-nil (story_of was));
  told = (λ i. effects_told (same_history i) (same_cloud i).effects);
}

-- ---- claims

-- work of a task is claimed
pub claims_told : {K L : Type 0} {k : keeper.Ghosts K} {l : keeper.Ghosts L} (bodies : K → Option (List (List ℕ)))
    (faults : K → ℕ) (was now : Site K L k l) (task worker : ℕ) (result : Result Claim SiteFault)
    (answer : Result Claim BookFault) (sprung : Option Rig) → result ≡ answered_as sprung answer → SameRest was now →
    turns.Notes (bodies_of bodies) (faults_of faults) was.book (some answer) now.book →
    (is_full was.book ≡ false →
    claims.Claims (bodies_of bodies) (faults_of faults) task worker was.book answer now.book) →
    OnOk answer (is_full was.book ≡ false) →
    Follows was.history now.book.journal.entries now.cloud.effects (halt_of sprung answer) now.history →
    IfOk result (λ claim. Claims bodies faults was task worker claim now)
claims_told {k = k} {l = l} bodies faults was now task worker result answer sprung is rest notes claimed room follows =
    subst (λ (r : Result Claim SiteFault). IfOk r (λ claim. Claims {k = k} {l = l} bodies faults was task worker claim now))
    (sym is) (each answer notes claimed room follows)
  where
    each : (a : Result Claim BookFault) → turns.Notes (bodies_of bodies) (faults_of faults) was.book (some a) now.book →
        (is_full was.book ≡ false → claims.Claims (bodies_of bodies) (faults_of faults) task worker was.book a now.book) →
        OnOk a (is_full was.book ≡ false) →
        Follows was.history now.book.journal.entries now.cloud.effects (halt_of sprung a) now.history →
        IfOk (answered_as sprung a) (λ claim. Claims {k = k} {l = l} bodies faults was task worker claim now)
    each (Ok claim) notes claimed room follows = record {
      updates = notes.updates;
      are_updates = notes.are_updates;
      last = notes.last;
      gives = notes.gives;
      notes = noted bodies faults was now (notes.updates ++ notes.last) None rest notes.adds follows;
      by_turns = claimed room;
      has_room = room;
    }
    each (Err fault) notes claimed room follows = tt

-- a book that goes on was read
read_runs : {K : Type 0} (book : Book K) → is_stopped book ≡ false → (book.standing ≡ Unread → ⊥)
read_runs book runs unread =
    by book.journal.is_broken ((λ i. book.journal.is_broken || not (is_running (sym unread i))) ∙ runs)
  where
    by : (broken : Bool) → (broken || not (is_running Unread)) ≡ false → ⊥
    by true is = false≢true (sym is)
    by false is = false≢true (sym is)

-- the call that was given can be performed: it is open by the records, and among the calls
pub given_told : {K L : Type 0} {k : keeper.Ghosts K} {l : keeper.Ghosts L} (bodies : K → Option (List (List ℕ)))
    (faults : K → ℕ) (was : Site K L k l) (now : books.Book (RigState K)) (unsettled : List OpenCall)
    (result : Result Claim SiteFault) (answer : Result Claim BookFault) (sprung : Option Rig) →
    result ≡ answered_as sprung answer → is_stopped was.book ≡ false →
    turns.Notes (bodies_of bodies) (faults_of faults) was.book (some answer) now →
    unsettled ≡ calls_claimed answer was.calls.unsettled → IfOk result (IsGivenBy now unsettled)
given_told {K} {L} {k} {l} bodies faults was now unsettled result answer sprung is runs notes calls =
    subst (λ (r : Result Claim SiteFault). IfOk r (IsGivenBy now unsettled)) (sym is) (each answer notes calls)
  where
    each : (a : Result Claim BookFault) → turns.Notes (bodies_of bodies) (faults_of faults) was.book (some a) now →
        unsettled ≡ calls_claimed a was.calls.unsettled → IfOk (answered_as sprung a) (IsGivenBy now unsettled)
    each (Ok (Work permit)) notes calls = (
      (
        λ unread. read_runs was.book runs (sym notes.adds.standing ∙ unread),
        notes.is_open,
      ),
      ap (λ (unsettled : List OpenCall). is_performable unsettled permit.n) calls
          ∙ begun_performable permit.n was.calls.unsettled,
    )
    each (Ok Wait) notes calls = tt
    each (Ok Over) notes calls = tt
    each (Err fault) notes calls = tt

-- a claim is refused
pub claim_refused : {K L : Type 0} {k : keeper.Ghosts K} {l : keeper.Ghosts L} (bodies : K → Option (List (List ℕ)))
    (faults : K → ℕ) (was now : Site K L k l) (task worker : ℕ) (result : Result Claim SiteFault)
    (answer : Result Claim BookFault) (sprung : Option Rig) → result ≡ answered_as sprung answer → SameRest was now →
    sprung ≡ now.book.journal.store.sprung →
    turns.Notes (bodies_of bodies) (faults_of faults) was.book (some answer) now.book →
    FailsAs (faults_of faults) answer was.book.journal now.book.journal →
    IfErr answer (λ fault. fault ≡ book.Stopped → ⊥) →
    IfErr answer (λ fault.
    claims.RefusesClaim (bodies_of bodies) (faults_of faults) task worker was.book fault now.book) →
    Follows was.history now.book.journal.entries now.cloud.effects (halt_of sprung answer) now.history →
    IfErr result (λ fault. RefusesClaim bodies faults task worker was fault now)
claim_refused {k = k} {l = l} bodies faults was now task worker result answer sprung is rest by notes fails not turned follows =
    subst (λ (r : Result Claim SiteFault). IfErr r (λ fault.
    RefusesClaim {k = k} {l = l} bodies faults task worker was fault now))
    (sym is) (each answer notes fails not turned follows)
  where
    each : (a : Result Claim BookFault) → turns.Notes (bodies_of bodies) (faults_of faults) was.book (some a) now.book →
        FailsAs (faults_of faults) a was.book.journal now.book.journal → IfErr a (λ fault. fault ≡ book.Stopped → ⊥) →
        IfErr a (λ fault.
        claims.RefusesClaim (bodies_of bodies) (faults_of faults) task worker was.book fault now.book) →
        Follows was.history now.book.journal.entries now.cloud.effects (halt_of sprung a) now.history →
        IfErr (answered_as sprung a) (λ fault. RefusesClaim {k = k} {l = l} bodies faults task worker was fault now)
    each (Ok claim) notes fails not turned follows = tt
    each (Err fault) notes fails not turned follows = (
      notes.updates,
      notes.are_updates,
      refuses_if {T = Claim} bodies faults was now (Err fault) sprung notes.updates rest by
          (subst (λ (es : List Entry). Adds (bodies_of bodies) (faults_of faults) was.book es now.book)
          (ap (λ (more : List Entry). notes.updates ++ more) notes.gives ∙ append-nil notes.updates) notes.adds)
          fails not follows,
      (fault, turned, λ running. halted_by sprung fault now.history.is_halted follows.halted),
    )

-- nothing was noted, and nothing has happened
pub notes_nothing : {K L : Type 0} {k : keeper.Ghosts K} {l : keeper.Ghosts L} (bodies : K → Option (List (List ℕ)))
    (faults : K → ℕ) (was now : Site K L k l) → was.history.is_halted ≡ false → now.book ≡ was.book →
    now.cloud ≡ was.cloud → now.history ≡ was.history → now.traps.items ≡ was.traps.items → now.opening ≡ was.opening →
    Notes bodies faults was [] None now
notes_nothing bodies faults was now running same_book same_cloud same_history same_armed same_opening = record {
  book = adds_none (bodies_of bodies) (faults_of faults) was.book now.book same_book;
  comes = comes_nothing was now same_book same_cloud same_history;
  running = running;
  halted = ap (λ h. h.is_halted) same_history ∙ running;
  same_cloud = same_cloud;
  same_armed = same_armed;
  same_opening = same_opening;
}

-- a claim that the book was not asked for is refused
pub claim_unasked : {K L : Type 0} {k : keeper.Ghosts K} {l : keeper.Ghosts L} (bodies : K → Option (List (List ℕ)))
    (faults : K → ℕ) (was now : Site K L k l) (task worker : ℕ) (result : Result Claim SiteFault) → now.book ≡ was.book →
    now.history ≡ was.history → IfErr result (λ fault. Refuses bodies faults was [] fault now) →
    IfErr result (λ fault. RefusesClaim bodies faults task worker was fault now)
claim_unasked bodies faults was now task worker (Ok claim) same same_history refuses = tt
claim_unasked bodies faults was now task worker (Err fault) same same_history refuses = (
  [],
  All-nil IsUpdate,
  refuses,
  (
    book.Memory,
    inl same,
    λ running halted. absurd (false≢true (sym running ∙ (λ i. (sym same_history i).is_halted) ∙ halted)),
  ),
)

-- .. on a site that has halted
pub claim_halted : {K L : Type 0} {k : keeper.Ghosts K} {l : keeper.Ghosts L} (bodies : K → Option (List (List ℕ)))
    (faults : K → ℕ) (was now : Site K L k l) (result : Result Claim SiteFault) (cause : SiteFault) →
    IsErrAnd result (λ fault. fault ≡ cause) → (cause ≡ Refusal book.Stopped) × (was.history.is_halted ≡ true) →
    now ≡ was → IfErr result (λ fault. Refuses bodies faults was [] fault now)
claim_halted bodies faults was now (Ok claim) cause is halted same = tt
claim_halted {k = k} {l = l} bodies faults was now (Err fault) cause is halted same =
    subst (λ (f : SiteFault). Refuses {k = k} {l = l} bodies faults was [] f now) (sym (is ∙ halted.0))
    (inl (halted.1, same))

-- .. for want of memory
pub claim_lost : {K L : Type 0} {k : keeper.Ghosts K} {l : keeper.Ghosts L} (bodies : K → Option (List (List ℕ)))
    (faults : K → ℕ) (was now : Site K L k l) (result : Result Claim SiteFault) (cause : SiteFault) →
    IsErrAnd result (λ fault. fault ≡ cause) → cause ≡ Memory → was.history.is_halted ≡ false →
    Notes bodies faults was [] None now → IfErr result (λ fault. Refuses bodies faults was [] fault now)
claim_lost bodies faults was now (Ok claim) cause is memory running notes = tt
claim_lost {k = k} {l = l} bodies faults was now (Err fault) cause is memory running notes =
    subst (λ (f : SiteFault). Refuses {k = k} {l = l} bodies faults was [] f now) (sym (is ∙ memory)) (running, notes)

-- ---- calls that are settled

-- the refusal of a call of the book, as the site tells it
pub refuses_as : {K L : Type 0} {k : keeper.Ghosts K} {l : keeper.Ghosts L} (T : Type 0)
    (bodies : K → Option (List (List ℕ))) (faults : K → ℕ) (was now : Site K L k l) (result : SiteFault)
    (fault : BookFault) (sprung : Option Rig) (entries : List Entry) → result ≡ fault_as sprung fault →
    SameRest was now → sprung ≡ now.book.journal.store.sprung →
    Adds (bodies_of bodies) (faults_of faults) was.book entries now.book →
    FailsAs {T = T} (faults_of faults) (Err fault) was.book.journal now.book.journal → (fault ≡ book.Stopped → ⊥) →
    Follows was.history now.book.journal.entries now.cloud.effects (halt_by sprung fault) now.history →
    Refuses bodies faults was entries result now
refuses_as {k = k} {l = l} T bodies faults was now result fault sprung entries is rest by adds fails not follows =
    subst (λ (f : SiteFault). Refuses {k = k} {l = l} bodies faults was entries f now) (sym is)
    (refuses_if {T = T} bodies faults was now (Err fault) sprung entries rest by adds fails not follows)

-- why a call is not settled
pub unheld_by : {K L : Type 0} {k : keeper.Ghosts K} {l : keeper.Ghosts L} (was : Site K L k l) (call : held.HeldCall)
    (sprung : Option Rig) (result : SiteFault) (fault : BookFault) → result ≡ fault_as sprung fault →
    IsSettleFault was.book call.permit call.answer fault → IsUnheld was call result
unheld_by {k = k} {l = l} was call sprung result fault is may =
    subst (λ (f : SiteFault). IsUnheld {k = k} {l = l} was call f) (sym is) (each sprung fault may)
  where
    each : (s : Option Rig) (f : BookFault) → IsSettleFault was.book call.permit call.answer f →
        IsUnheld {k = k} {l = l} was call (fault_as s f)
    each (Some rigs.StopBefore) book.StoreFault may = tt
    each (Some rigs.StopAfter) book.StoreFault may = tt
    each (Some rigs.FailLost) book.StoreFault may = tt
    each (Some rigs.FailKept) book.StoreFault may = tt
    each None book.StoreFault may = tt
    each s book.Stopped may = tt
    each s book.Memory may = tt
    each s (book.Locked task) (runs, holder, never) = (holder, λ both. never both.1)
    each s (book.Damaged place) may = absurd may
    each s (book.Differs name) may = absurd may
    each s (book.NoDeployment name) may = absurd may
    each s (book.NoInstance inst) may = absurd may
    each s (book.NoDisk disk) may = absurd may
    each s (book.NotOrphaned disk) may = absurd may
    each s (book.Goal other) may = absurd may
    each s book.Limit may = absurd may
    each s book.Full may = absurd may
    each s (book.Consumed by) may = absurd may
