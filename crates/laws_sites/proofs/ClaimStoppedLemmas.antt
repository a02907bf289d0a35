-- A site stays good where a claim of work is refused on it.
use Rattle.std.proofs.Common.{◌≡◌, ◌∙◌, ◌<◌, ◌≤◌, ℕ, true, false, List, [], ◌++◌, Option, None, Err, append-nil, arith, inl, inr, subst, sym}
use Rattle.std.specs.Prelude.{All, fold, map}
use Rattle.std.proofs.lemmas.List.{append_cancel_left}
use Rattle.bosh_asks.specs.declared.fault.BookFault.{BookFault}
use Rattle.bosh_asks.specs.declared.fault.BookFault.TheVariants as book
use Rattle.bosh_base.specs.declared.entry.Entry.{Entry}
use Rattle.bosh_base.specs.declared.moves.Cause.{Cause}
use Rattle.bosh_base.specs.declared.moves.Move.{Move}
use Rattle.bosh_base.specs.declared.moves.Move.TheVariants as moves
use Rattle.bosh_book.specs.Claims as turns
use Rattle.bosh_book.specs.Turns.{IsUpdate}
use Rattle.bosh_calls.specs.declared.calls.OpenCall as site
use Rattle.bosh_history.specs.Fit.{IsFit, has_numbers}
use Rattle.bosh_history.specs.Moments.{Moment, Opening, later}
use Rattle.bosh_history.specs.Notes.{Outside}
use Rattle.bosh_history.specs.Permitted.{IsRunFrom}
use Rattle.bosh_ports.specs.Rigged.{faults_of}
use Rattle.bosh_ports.specs.declared.keeper.Keeper as keeper
use Rattle.bosh_world.specs.Refuses.{RefusesClaim}
use Rattle.bosh_world.specs.Steps.{Notes, bodies_of}
use Rattle.bosh_world.specs.Told.{story_of}
use Rattle.bosh_world.specs.declared.fault.SiteFault.{SiteFault}
use Rattle.bosh_world.specs.declared.site.Site.{Site}
use Rattle.laws_held.proofs.HeldLemmas.{run_holds}
use Rattle.laws_sites.proofs.CallLemmas.{calls_on}
use Rattle.laws_sites.proofs.ClaimLemmas.{calls_updated, claim_turned, count_updated, recovered_noted, numbered_updated, room_updated}
use Rattle.laws_sites.proofs.HaltLemmas.{may_pend_none}
use Rattle.laws_sites.proofs.NoteLemmas.{OneMoreStands, noted_good}
use Rattle.laws_sites.proofs.NotedHaltLemmas.{pending_stopped}
use Rattle.laws_sites.proofs.NumberLemmas.{numbers_left, room_left}
use Rattle.laws_sites.proofs.StepLemmas.{book_goes_on, stopped}
use Rattle.laws_sites.proofs.StoppedLemmas.{Left, recorded_still, refused_book_good, still_good}
use Rattle.laws_sites.proofs.TurnLemmas as turning
use Rattle.laws_sites.proofs.TurnLemmas.{HasTurned}
use Rattle.laws_sites.specs.Calls.{AreCalls, AreRising}
use Rattle.laws_sites.specs.Good.{GoesOn, IsGood, IsRecorded, moment_of}
use Rattle.laws_stands.specs.Told.{telling}
use Rattle.laws_sites.proofs.CountLemmas.{HasRoom, room_for}
use Rattle.laws_sites.proofs.ExplainLemmas.{MayPend}

module _ (one_more : OneMoreStands) {K L : Type 0} {k : keeper.Ghosts K} {l : keeper.Ghosts L}
    (bodies : K → Option (List (List ℕ))) (cloud_bodies : L → Option (List (List ℕ))) (faults : K → ℕ) (outside : Outside)
    (o : Opening) where
  module _ (was now : Site K L k l) (task worker : ℕ) (fit : IsFit outside o)
      (good : IsGood outside bodies cloud_bodies o was) (calls : now.calls.unsettled ≡ was.calls.unsettled)
      (updates : List Entry) (are : All IsUpdate updates) (refusal : BookFault)
      (halts : was.history.is_halted ≡ false → now.history.is_halted ≡ true → refusal ≡ book.StoreFault) where
    abbrev m : Moment
    m = moment_of o was

    -- the book was not asked, or it noted nothing
    unasked : now.book ≡ was.book → (halt : Option Cause) → Notes bodies faults was updates halt now
        → Left outside bodies cloud_bodies o faults was now updates halt
    unasked same halt notes =
        subst (λ (es : List Entry). Left outside bodies cloud_bodies o faults was now es halt) (sym none) (record {
          may = tt;
          recorded = recorded_still bodies cloud_bodies faults outside o was now halt good still;
          numbers = good.numbers;
          pends = λ halted. may_pend_none outside (stopped m) now.book.journal.is_broken now.book.journal.pending
              ((λ i. (same i).journal.is_broken) ∙ (book_goes_on was notes.running).0);
          goes_on = λ is.
              still_good bodies cloud_bodies faults outside o was now good
              (subst (λ (h : Option Cause). Notes bodies faults was [] h now) is still) calls;
        })
      where
        none : updates ≡ []
        none = append_cancel_left was.book.journal.entries updates []
            (sym notes.book.entries ∙ (λ i. (same i).journal.entries) ∙ sym (append-nil was.book.journal.entries))

        still : Notes bodies faults was [] halt now
        still = subst (λ (es : List Entry). Notes bodies faults was es halt now) none notes

    -- it noted updates, turn by turn
    turned : (was.history.is_halted ≡ false → HasRoom m)
        → turns.Claims (bodies_of bodies) (faults_of faults) task worker was.book (Err refusal) now.book
        → (halt : Option Cause) → Notes bodies faults was updates halt now
        → Left outside bodies cloud_bodies o faults was now updates halt
    turned room by_turns halt notes = record {
      may = may;
      recorded = recorded;
      numbers = numbers;
      pends = λ halted. pending (halts notes.running halted);
      goes_on = λ is. goes_on (subst (λ (h : Option Cause). Notes bodies faults was updates h now) is notes);
    }
      where
        goes : GoesOn bodies cloud_bodies m was
        goes = good.runs notes.running

        it : IsRecorded m was
        it = good.recorded (book_goes_on was notes.running).1

        few : m.known.last_call < 4611686018427387904
        few = (room notes.running).calls

        has : HasTurned one_more (bodies_of bodies) (faults_of faults) outside o fit task worker m it.told was.book
            (Err refusal) now.book
        has = claim_turned one_more bodies cloud_bodies faults outside o was now task worker (Err refusal) fit good
            notes.running few by_turns

        same : has.notes.noted ≡ updates
        same = append_cancel_left was.book.journal.entries has.notes.noted updates
            (sym has.notes.entries ∙ notes.book.entries)

        may : IsRunFrom outside m (map moves.Note updates)
        may = subst (λ (es : List Entry). IsRunFrom outside m (map moves.Note es)) same has.notes.may

        recorded : IsRecorded (fold later m (map moves.Note updates)) now
        recorded = subst (λ (es : List Entry). IsRecorded (fold later m (map moves.Note es)) now) same (record {
          told = fold telling it.told has.notes.noted;
          agrees = has.notes.agrees;
          whole = has.notes.whole;
        })

        numbers : has_numbers (fold later m (map moves.Note updates)).known ≡ true
        numbers = numbered_updated m updates are good.numbers

        pending : refusal ≡ book.StoreFault
            → MayPend outside (stopped (fold later m (map moves.Note updates))) now.book.journal.is_broken
            now.book.journal.pending
        pending is =
            subst (λ (es : List Entry). MayPend outside (stopped (fold later m (map moves.Note es)))
            now.book.journal.is_broken now.book.journal.pending) same (by refusal is has.pends)
          where
            by : (why : BookFault) → why ≡ book.StoreFault
                → turning.Pends one_more (bodies_of bodies) (faults_of faults) outside o fit task worker m has.notes.noted
                (Err why) now.book
                → MayPend outside (stopped (fold later m (map moves.Note has.notes.noted))) now.book.journal.is_broken
                now.book.journal.pending
            by book.StoreFault is (e, permitted, there, own) =
                pending_stopped outside (fold later m (map moves.Note has.notes.noted)) e now.book.journal.is_broken
                now.book.journal.pending permitted
                (room_for (fold later m (map moves.Note has.notes.noted)) e
                (subst (λ (es : List Entry). HasRoom (fold later m (map moves.Note es))) (sym same)
                (room_updated m updates are (room notes.running))))
                (subst (λ (es : List Entry). has_numbers (fold later m (map moves.Note es)).known ≡ true) (sym same)
                numbers) there
            by why is pends = absurd (let no = is in cc)

        goes_on : Notes bodies faults was updates None now → IsGood outside bodies cloud_bodies o now
        goes_on noted =
            noted_good outside bodies cloud_bodies faults o was now updates good noted may (λ read. recorded)
            (recovered_noted outside m updates (run_holds outside o (story_of was) fit good.run) goes.recovered may)
            numbers
            (subst (λ (all : List Move). AreCalls all now.calls.unsettled (fold later m (map moves.Note updates)).calls)
            (sym noted.comes.story)
            (calls_on (story_of was) (map moves.Note updates ++ []) now.calls.unsettled
            (fold later m (map moves.Note updates)).calls
            (subst (λ of_calls. AreCalls (story_of was) now.calls.unsettled of_calls) (sym (calls_updated m updates are))
            (subst (λ (these : List site.OpenCall). AreCalls (story_of was) these m.calls) (sym calls) goes.calls))))
            (subst (AreRising 0) (sym calls) goes.rising)

  pub claim_stopped_good : (was now : Site K L k l) (task worker : ℕ) (why : SiteFault) → IsFit outside o
      → IsGood outside bodies cloud_bodies o was → RefusesClaim bodies faults task worker was why now
      → now.calls.unsettled ≡ was.calls.unsettled → IsGood outside bodies cloud_bodies o now
  claim_stopped_good was now task worker why fit good (updates, are, refuses, (refusal, claims, halts)) calls =
      refused_book_good outside bodies cloud_bodies o faults was now updates why fit good (by claims) refuses
    where
      by : turns.RefusesClaim (bodies_of bodies) (faults_of faults) task worker was.book refusal now.book
          → (halt : Option Cause) → Notes bodies faults was updates halt now
          → Left outside bodies cloud_bodies o faults was now updates halt
      by (inl same) = unasked was now task worker fit good calls updates are refusal halts same
      by (inr (room, by_turns)) =
          turned was now task worker fit good calls updates are refusal halts
          (λ running. room_left outside bodies cloud_bodies o was good running room) by_turns
