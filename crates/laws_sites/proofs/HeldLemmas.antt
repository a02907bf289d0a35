-- A call that was performed, and is held, may be settled.
use Rattle.std.proofs.Common.{◌≡◌, ◌∙◌, ℕ, false, not, List, Option, Some, None, ap, refl, sym}
use Rattle.std.specs.Prelude.{◌||◌, find, slice_get}
use Rattle.std.specs.Option.{option_and_then}
use Rattle.bosh_base.specs.declared.answer.Answer.{Answer}
use Rattle.bosh_base.specs.declared.entry.Entry.{Entry}
use Rattle.bosh_base.specs.declared.entry.Entry.TheVariants as entries
use Rattle.bosh_base.specs.declared.moves.Did as did
use Rattle.bosh_base.specs.declared.moves.Move.{Move}
use Rattle.bosh_base.specs.declared.moves.Move.TheVariants as moves
use Rattle.bosh_calls.specs.Calls.{is_of}
use Rattle.bosh_calls.specs.declared.calls.OpenCall as site
use Rattle.bosh_history.specs.Moments.{OpenCall, Opening}
use Rattle.bosh_history.specs.Notes.{EndsCall, Outside}
use Rattle.bosh_history.specs.Permitted.{IsPermitted}
use Rattle.bosh_history.specs.Recovered.{is_interruption}
use Rattle.bosh_moves.specs.Story.{HistoryView, story, to_tell}
use Rattle.bosh_ports.specs.declared.keeper.Keeper as keeper
use Rattle.bosh_world.specs.Holds.{HasAnswered, IsDid, IsHeld}
use Rattle.bosh_world.specs.Told.{story_of}
use Rattle.bosh_world.specs.declared.held.HeldCall.{HeldCall}
use Rattle.bosh_world.specs.declared.site.Site.{Site}
use Rattle.laws_sites.proofs.CallLemmas.{front}
use Rattle.laws_sites.specs.Calls.{HasDone, IsCall}
use Rattle.laws_sites.specs.Good.{GoesOn, IsGood, moment_of}

-- what was told is the front of what has happened
told_first : (history : HistoryView) (noted effects : List Entry) (place : ℕ) (move : Move)
    → slice_get history.moves place ≡ Some move → slice_get (story history noted effects) place ≡ Some move
unfolding story
told_first history noted effects place move is = front history.moves (to_tell history noted effects) place move is

-- the answer of a call is the one that its move tells
answered : (told story : List Move) → ((place : ℕ) (move : Move) → slice_get told place ≡ Some move
    → slice_get story place ≡ Some move) → (n : ℕ) (answer : Answer) (it : Option site.OpenCall) (o : Option OpenCall)
    → IsCall story it o → HasAnswered told (option_and_then (λ (call : site.OpenCall). call.place) it) n answer
    → EndsCall (record { n = n; answer = answer }) o
answered told story first n answer None o at has = absurd has
answered told story first n answer (Some it) None at has = absurd at
answered told story first n answer (Some it) (Some call) at has = by it.place call.did at has
  where
    by : (place : Option ℕ) (d : Option did.Did) → HasDone story place d → HasAnswered told place n answer
        → EndsCall (record { n = n; answer = answer }) (Some (record call { did = d }))
    by None d at has = absurd has
    by (Some place) None at has = absurd at
    by (Some place) (Some d) at has = one (slice_get told place) refl has
      where
        one : (o : Option Move) → slice_get told place ≡ o → IsDid o n answer → d.answer ≡ answer
        one (Some (moves.Did e)) is has = ap (λ (it : did.Did). it.answer) same ∙ has.1
          where
            some_did : (a b : did.Did) → ◌≡◌ {A = Option Move} (Some (moves.Did a)) (Some (moves.Did b)) → a ≡ b
            some_did a b is = cc

            same : d ≡ e
            same = some_did d e (sym at ∙ first place (moves.Did e) is)
        one o is has = absurd has

pub held_may_end : {K L : Type 0} {k : keeper.Ghosts K} {l : keeper.Ghosts L} (outside : Outside)
    (bodies : K → Option (List (List ℕ))) (cloud_bodies : L → Option (List (List ℕ))) (o : Opening) (site : Site K L k l)
    (call : HeldCall) → IsGood outside bodies cloud_bodies o site → site.history.is_halted ≡ false → IsHeld site call
    → IsPermitted outside (moment_of o site)
    (moves.Note (entries.End (record { n = call.permit.n; answer = call.answer })))
held_may_end outside bodies cloud_bodies o site call good running held = (
  good.halted ∙ running,
  (λ i. not (goes.recovered i) || is_interruption (entries.End (record { n = call.permit.n; answer = call.answer }))),
  answered site.history.moves (story_of site)
      (told_first site.history site.book.journal.entries site.cloud.effects) call.permit.n call.answer
      (find (is_of call.permit.n) site.calls.unsettled) ((moment_of o site).calls call.permit.n)
      (goes.calls call.permit.n) held.1,
)
  where
    goes : GoesOn bodies cloud_bodies (moment_of o site) site
    goes = good.runs running
