-- The row of an instance at the beginning of a call and at its end, and once an update of it is done.
use Rattle.std.proofs.Common.{◌≡◌, ◌∙◌, Bool, true, false, Option, Some, None}
use Rattle.std.proofs.Common.{ap, refl, sym, subst, inr}
use Rattle.std.specs.Prelude.{if◌then◌else◌}
use Rattle.std.specs.Option.{option_map}
use Rattle.std.proofs.lemmas.Bool.{and_parts, false≢true}
use Rattle.bosh_base.specs.declared.answer.Answer.{Answer}
use Rattle.bosh_base.specs.declared.answer.Answer.TheVariants as answers
use Rattle.bosh_base.specs.declared.call.Call.{Call}
use Rattle.bosh_base.specs.declared.call.Call.TheVariants as calls
use Rattle.bosh_base.specs.declared.entry.Begin.{Begin}
use Rattle.bosh_base.specs.declared.entry.End.{End}
use Rattle.bosh_base.specs.declared.entry.Entry.TheVariants as entries
use Rattle.bosh_base.specs.declared.entry.Update.{Update}
use Rattle.bosh_base.specs.declared.goal.GoalRow.{GoalRow}
use Rattle.bosh_base.specs.declared.inst.Inst.{Inst}
use Rattle.bosh_base.specs.declared.moves.Did.{Did}
use Rattle.bosh_base.specs.declared.owner.Owner.{Owner}
use Rattle.bosh_base.specs.declared.owner.Owner.TheVariants.{Instance}
use Rattle.bosh_base.specs.declared.row.Row.{Row}
use Rattle.bosh_base.specs.declared.row.Vm.{Vm}
use Rattle.bosh_history.specs.Calls.{begins, call_ended}
use Rattle.bosh_history.specs.Items.{is_to_go, is_to_ping}
use Rattle.bosh_history.specs.Known.{want_in}
use Rattle.bosh_history.specs.Learn.{learn}
use Rattle.bosh_history.specs.Moments.{Moment, OpenCall}
use Rattle.bosh_history.specs.Notes.{Begins, EndsCall, EndsUpdate, Leaves, Outside, answers as is_answered}
use Rattle.bosh_history.specs.Recovered.{may_follow}
use Rattle.bosh_history.specs.Steps.{call_now, want_of}
use Rattle.bosh_history.specs.Updates.{update_done}
use Rattle.bosh_history.specs.Words.{is_among}
use Rattle.bosh_rows.specs.After.{after, bare, begun_row, updated_row}
use Rattle.bosh_rows.specs.CallOf.{next_call}
use Rattle.bosh_rows.specs.NextStep.{next_step}
use Rattle.bosh_rows.specs.Same.{same_inst}
use Rattle.laws_answered_rows.proofs.BeforeCases.{before_kept}
use Rattle.laws_answered_rows.proofs.FactCases.{facts_kept}
use Rattle.laws_cloud.proofs.NoteLemmas.{new_number}
use Rattle.laws_cloud.proofs.OwnerFrames.{row_doubt}
use Rattle.laws_facts.proofs.CurrentLemmas.{done_works}
use Rattle.laws_facts.specs.CallFacts.{IsOwnerKept}
use Rattle.laws_facts.specs.Facts.{Holds}
use Rattle.laws_items.proofs.RowFrames.{ended_own, row_itself}
use Rattle.laws_row_facts.specs.Calls.{row_before}
use Rattle.laws_row_facts.specs.Rows.{RowFacts}
use Rattle.laws_row_frames.proofs.DroppedCases.{dropped_kept}
use Rattle.laws_row_frames.proofs.UpdateCases.{updated_kept}
use Rattle.laws_standing.proofs.ThroughLemmas.{changed_in, gone_out}

one : {X : Type 0} (a b : X) → Some a ≡ Some b → a ≡ b
one a b same = cc

-- ---- a call begins

module _ (outside : Outside) (m : Moment) (h : Holds m) (b : Begin) (may : Begins m b) (i : Inst)
    (own : b.owner ≡ Instance i) where
  abbrev row : Row
  row = m.known.row i

  -- the row, once it began, and what it was before it
  pub record Begun : Type 0 where
    pub now : RowFacts m.effects (begun_row b.n b.call row)
    pub before : RowFacts m.effects (row_before b.call (begun_row b.n b.call row))

  pub begun_facts : Begun
  begun_facts =
      by (is_to_ping (m.known.task b.task) i) row.vm (sym (λ j. call_now m b.task (own j)) ∙ may.is_call)
    where
      asked : (it : Vm) (c : Call) → calls.Ping it.vm ≡ c
          → RowFacts m.effects (begun_row b.n c row) × RowFacts m.effects (row_before c (begun_row b.n c row))
      asked it c same =
          subst
          (λ (c : Call). RowFacts m.effects (begun_row b.n c row)
          × RowFacts m.effects (row_before c (begun_row b.n c row))) same
          (h.rows i, h.rows i)

      by : (ping : Bool) (vm : Option Vm)
          → (if ping then option_map (λ (it : Vm). calls.Ping it.vm) vm
          else next_call (want_of (m.known.task b.task) i) row) ≡ Some b.call
          → Begun
      by true (Some it) next =
          let both : RowFacts m.effects (begun_row b.n b.call row)
          × RowFacts m.effects (row_before b.call (begun_row b.n b.call row)) =
          asked it b.call (one (calls.Ping it.vm) b.call next) in
          record { now = both.0; before = both.1 }
      by true None next = absurd cc
      by false vm next = record {
        now =
            facts_kept outside.built (want_of (m.known.task b.task) i) m.effects row b.n b.call false answers.Failed
            (h.rows i) h.cloud.orderly h.cloud.held_by_own (row_doubt m h i) next (new_number outside m h b may)
            (inr (refl, λ on. absurd (false≢true on)));
        before = (before_kept m.effects (want_of (m.known.task b.task) i) b.n row b.call (h.rows i) next).0;
      }

  -- the row is recorded so
  pub begun_is : (learn m.known (entries.Begin b)).row i ≡ begun_row b.n b.call row
  begun_is = (λ j. (begins b (own j) m.known).row i) ∙ row_itself i (begun_row b.n b.call row) m.known.row

-- ---- a call ends

module _ (m : Moment) (h : Holds m) (e : End) (call : OpenCall) (is : m.calls e.n ≡ Some call)
    (may : EndsCall e (Some call)) (i : Inst) (own : call.begin.owner ≡ Instance i) where
  -- the row is what it was to be once the call is answered
  pub ended_facts : RowFacts m.effects ((learn m.known (entries.End e)).row i)
  ended_facts =
      subst (λ (row : Row). RowFacts m.effects row)
      (sym (ap (λ (b : Option Begin). (call_ended e.answer b m.known).row i) (h.known.calls e.n call is).begun
      ∙ ended_own e.answer call.begin m.known i own))
      (by call.did refl may)
    where
      kept : (did : Option Did) → call.did ≡ did → IsOwnerKept m call.begin did (Instance i)
      kept did same =
          subst (λ (owner : Owner). IsOwnerKept m call.begin did owner) own
          (subst (λ (it : Option Did). IsOwnerKept m call.begin it call.begin.owner) same
          (h.performed e.n call is).owner_kept)

      by : (did : Option Did) → call.did ≡ did → is_answered e.answer did
          → RowFacts m.effects (after call.begin.n call.begin.call e.answer (m.known.row i))
      by (Some told) same answer =
          subst (λ (a : Answer). RowFacts m.effects (after call.begin.n call.begin.call a (m.known.row i))) answer
          (kept (Some told) same)
      by None same answer = absurd answer

-- ---- an update is done

module _ (m : Moment) (h : Holds m) (u : Update) where
  pub updated_facts : may_follow m (entries.UpdDone u) ≡ true → EndsUpdate m u
      → RowFacts m.effects ((learn m.known (entries.UpdDone u)).row u.inst)
  updated_facts follows may = by (want_in (m.known.task u.task).goal u.inst) refl
    where
      changes : is_among same_inst u.inst (m.known.task u.task).changed ≡ true
      changes = (and_parts (is_among same_inst u.inst (m.known.task u.task).changed) _ may.is_changed).0

      stays : (b : Bool) → is_to_go (m.known.task u.task) u.inst ≡ b → b ≡ false
      stays false is = refl
      stays true is =
          absurd
          (gone_out m h.known u.task (done_works m u.task follows may.is_open) u.inst
          (and_parts (is_among same_inst u.inst (m.known.task u.task).obsolete) _ is).0
          (changed_in m h.known u.task (done_works m u.task follows may.is_open) u.inst changes))

      by : (want : Option GoalRow) → want_in (m.known.task u.task).goal u.inst ≡ want
          → RowFacts m.effects ((update_done want u.inst m.known).row u.inst)
      by (Some want) wants =
          subst (λ (row : Row). RowFacts m.effects row)
          (sym (row_itself u.inst (updated_row want (m.known.row u.inst)) m.known.row))
          (updated_kept m.effects want (m.known.row u.inst) (h.rows u.inst)
          (sym ((λ j. next_step
          (if stays (is_to_go (m.known.task u.task) u.inst) refl j then None
          else want_in (m.known.task u.task).goal u.inst) (m.known.row u.inst))
          ∙ (λ j. next_step (wants j) (m.known.row u.inst)))
          ∙ may.no_step))
      by None wants = h.rows u.inst

  pub gone_facts : Leaves m u → RowFacts m.effects ((learn m.known (entries.Gone u)).row u.inst)
  gone_facts may =
      subst (λ (row : Row). RowFacts m.effects row) (sym (row_itself u.inst (bare u.inst) m.known.row))
      (subst (λ (i : Inst). RowFacts m.effects (bare i)) (h.known.lists.own_row u.inst)
      (dropped_kept m.effects (m.known.row u.inst) (h.rows u.inst)
      (sym (λ j. next_step (if may.is_obsolete j then None else want_in (m.known.task u.task).goal u.inst)
      (m.known.row u.inst))
      ∙ may.no_step)))
