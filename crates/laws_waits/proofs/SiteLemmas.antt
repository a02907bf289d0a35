-- On a good site a worker that has to wait waits for an open call.
use Rattle.std.proofs.Common.{◌≡◌, ◌∙◌, ◌<◌, ℕ, false, List, [], ◌++◌, Option, Some, None, Ok, ap, append-nil, arith, subst, sym}
use Rattle.std.specs.Prelude.{◌≢◌, All, find, fold, map}
use Rattle.std.proofs.lemmas.List.{append_cancel_left}
use Rattle.bosh_base.specs.declared.entry.Entry.{Entry}
use Rattle.bosh_base.specs.declared.moves.Move.{Move}
use Rattle.bosh_base.specs.declared.moves.Move.TheVariants as moves
use Rattle.bosh_book.specs.Adds.{Adds}
use Rattle.bosh_book.specs.Running.{is_full, room_left}
use Rattle.bosh_book.specs.Turns.{IsUpdate}
use Rattle.bosh_book.specs.declared.book.Book.{Book}
use Rattle.bosh_book.specs.declared.claim.Claim.TheVariants.{Wait}
use Rattle.bosh_calls.specs.Calls.{is_of}
use Rattle.bosh_calls.specs.declared.calls.OpenCall as site
use Rattle.bosh_history.specs.Fit.{IsFit}
use Rattle.bosh_history.specs.Moments.{Moment, OpenCall, Opening, later, moment}
use Rattle.bosh_history.specs.Notes.{Outside}
use Rattle.bosh_history.specs.Permitted.{IsRun, IsRunFrom}
use Rattle.bosh_history.specs.Recovered.{is_recovering}
use Rattle.bosh_ports.specs.Rigged.{faults_of}
use Rattle.bosh_ports.specs.declared.keeper.Keeper as keeper
use Rattle.bosh_records.specs.Arrivals.{Arrivals}
use Rattle.bosh_world.specs.Steps.{Claims, bodies_of}
use Rattle.bosh_world.specs.Told.{story_of}
use Rattle.bosh_world.specs.declared.site.Site.{Site}
use Rattle.laws_claims.specs.Quiet.{Awaits}
use Rattle.laws_held.proofs.HeldLemmas.{run_holds}
use Rattle.laws_sites.proofs.ClaimLemmas.{calls_updated, claim_turned, recovered_noted}
use Rattle.laws_sites.proofs.MomentLemmas.{later_on, run_on}
use Rattle.laws_sites.proofs.NoteLemmas.{OneMoreStands, halted_noted}
use Rattle.laws_sites.proofs.NumberLemmas.{numbers_left}
use Rattle.laws_sites.proofs.StepLemmas.{book_goes_on}
use Rattle.laws_sites.proofs.TurnLemmas.{HasNoted}
use Rattle.laws_sites.specs.Calls.{AreCalls, IsCall}
use Rattle.laws_sites.specs.Good.{GoesOn, IsGood, IsRecorded, moment_of}
use Rattle.laws_stands.specs.Agrees.{Agrees}
use Rattle.laws_stands.specs.Stands.{Stands}
use Rattle.laws_stands.specs.Told.{Told, telling}
use Rattle.laws_waits.proofs.AwaitLemmas.{awaits}
use Rattle.laws_waits.proofs.CameLemmas.{few_calls}
use Rattle.laws_waits.proofs.TurnLemmas.{waits_by}

-- where a call is open at the moment, one is on the site
pub not_none : (moves : List Move) (unsettled : List site.OpenCall) (calls : ℕ → Option OpenCall) (n : ℕ) (call : OpenCall)
    → AreCalls moves unsettled calls → calls n ≡ Some call → unsettled ≢ []
not_none moves unsettled calls n call are is = λ none.
    absurd (subst (IsCall moves None) is
    (subst (λ (list : List site.OpenCall). IsCall moves (find (is_of n) list) (calls n)) none (are n)))

-- where a book had room, calls have numbers still after updates
few_told : {K : Type 0} {bodies : K → Option (List (List ℕ))} {faults : K → ℕ} (was now : Book K) (m : Moment) (told : Told)
    (updates last : List Entry) → is_full was ≡ false → All IsUpdate updates → last ≡ []
    → Adds bodies faults was (updates ++ last) now → told.known ≡ m.known → Stands told now.records
    → m.known.last_call < 18446744073709551615
few_told was now m told updates last room are none adds known stands =
    few m.known.last_call now.records.last_call
    (sym (ap (λ (arrivals : Arrivals). arrivals.last_call) stands.uploads ∙ (λ i. (known i).last_call)))
    (few_calls was now updates last room are none adds)
  where
    few : (a b : ℕ) → a ≡ b → b < 4611686018427387904 → a < 18446744073709551615
    few a b one less = omega arith

-- ---- a site that is good now

module _ {K L : Type 0} {k : keeper.Ghosts K} {l : keeper.Ghosts L} (bodies : K → Option (List (List ℕ)))
    (cloud_bodies : L → Option (List (List ℕ))) (faults : K → ℕ) (outside : Outside) (o : Opening) (before now : Site K L k l)
    (task worker : ℕ) (fit : IsFit outside o) (good : IsGood outside bodies cloud_bodies o now)
    (claims : Claims bodies faults before task worker Wait now) where
  goes_there : GoesOn bodies cloud_bodies (moment_of o now) now
  goes_there = good.runs claims.notes.halted

  pub awaits_there : Awaits (moment_of o now) task
  awaits_there = awaits outside o (story_of now) it.told now.book.records task worker fit good.run
      (good.halted ∙ claims.notes.halted) goes_there.recovered it.whole.stands it.agrees
      (few_told before.book now.book (moment_of o now) it.told claims.updates claims.last claims.has_room claims.are_updates
      claims.gives claims.notes.book it.agrees.known_is it.whole.stands)
      (waits_by (bodies_of bodies) (faults_of faults) task worker (room_left before.book) before.book now.book
      claims.by_turns)
    where
      it : IsRecorded (moment_of o now) now
      it = good.recorded (book_goes_on now claims.notes.halted).1

  pub open_there : now.calls.unsettled ≢ []
  open_there = not_none (story_of now) now.calls.unsettled (moment_of o now).calls awaits_there.n awaits_there.call
      goes_there.calls awaits_there.is_open

-- ---- a site that was good before

module _ (one_more : OneMoreStands) {K L : Type 0} {k : keeper.Ghosts K} {l : keeper.Ghosts L}
    (bodies : K → Option (List (List ℕ))) (cloud_bodies : L → Option (List (List ℕ))) (faults : K → ℕ) (outside : Outside)
    (o : Opening) (was now : Site K L k l) (task worker : ℕ) (fit : IsFit outside o)
    (good : IsGood outside bodies cloud_bodies o was) (claims : Claims bodies faults was task worker Wait now) where
  abbrev m : Moment
  m = moment_of o was

  goes : GoesOn bodies cloud_bodies m was
  goes = good.runs claims.notes.running

  abbrev it : IsRecorded m was
  it = good.recorded (book_goes_on was claims.notes.running).1

  room : m.known.last_call < 4611686018427387904
  room = numbers_left outside bodies cloud_bodies o was good claims.notes.running claims.has_room

  noted : HasNoted one_more (bodies_of bodies) (faults_of faults) outside o fit task worker m it.told was.book now.book
  noted = (claim_turned one_more bodies cloud_bodies faults outside o was now task worker (Ok Wait) fit good
      claims.notes.running room claims.by_turns).notes

  -- what was noted are updates
  same : noted.noted ≡ claims.updates
  same = append_cancel_left was.book.journal.entries noted.noted claims.updates
      (sym noted.entries ∙ claims.notes.book.entries
      ∙ ap (λ es. was.book.journal.entries ++ es)
      (ap (λ es. claims.updates ++ es) claims.gives ∙ append-nil claims.updates))

  abbrev told : Told
  told = fold telling it.told noted.noted

  abbrev after : List Move
  after = story_of was ++ map moves.Note claims.updates

  may : IsRunFrom outside m (map moves.Note claims.updates)
  may = subst (λ (es : List Entry). IsRunFrom outside m (map moves.Note es)) same noted.may

  run : IsRun outside o after
  run = run_on outside o (story_of was) (map moves.Note claims.updates) good.run may

  -- the moment then
  abbrev updated : Moment
  updated = fold later m (map moves.Note claims.updates)

  next : moment o after ≡ updated
  next = later_on o (story_of was) (map moves.Note claims.updates)

  agrees : Agrees (moment o after) told
  agrees = subst (λ (it : Moment). Agrees it told) (sym next)
      (subst (λ (es : List Entry). Agrees (fold later m (map moves.Note es)) told) same noted.agrees)

  last : (moment o after).known.last_call < 18446744073709551615
  last = few_told was.book now.book (moment o after) told claims.updates claims.last claims.has_room claims.are_updates
      claims.gives claims.notes.book agrees.known_is noted.whole.stands

  running : (moment o after).halted ≡ false
  running = (λ i. (next i).halted) ∙ halted_noted m claims.updates ∙ good.halted ∙ claims.notes.running

  recovered : is_recovering (moment o after) ≡ false
  recovered = (λ i. is_recovering (next i))
      ∙ recovered_noted outside m claims.updates (run_holds outside o (story_of was) fit good.run) goes.recovered may

  awaits_after : Awaits (moment o after) task
  awaits_after = awaits outside o after told now.book.records task worker fit run running recovered
      noted.whole.stands agrees last
      (waits_by (bodies_of bodies) (faults_of faults) task worker (room_left was.book) was.book now.book claims.by_turns)

  pub awaits_now : Awaits (moment_of o now) task
  awaits_now = subst (λ (moves : List Move). Awaits (moment o moves) task) (sym story) awaits_after
    where
      story : story_of now ≡ after
      story = claims.notes.comes.story
          ∙ ap (λ more. story_of was ++ more)
          (append-nil (map moves.Note (claims.updates ++ claims.last))
          ∙ ap (map moves.Note) (ap (λ es. claims.updates ++ es) claims.gives ∙ append-nil claims.updates))

  pub were_open : was.calls.unsettled ≢ []
  were_open = not_none (story_of was) was.calls.unsettled m.calls awaits_after.n awaits_after.call goes.calls
      (sym (λ i. (calls i) awaits_after.n) ∙ awaits_after.is_open)
    where
      calls : (moment o after).calls ≡ m.calls
      calls = (λ i. (next i).calls) ∙ calls_updated m claims.updates claims.are_updates
