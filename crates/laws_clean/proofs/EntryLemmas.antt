-- Each entry leaves a task that is clean so far as it was: its rows, its open calls, and that none failed.
use Rattle.std.proofs.Common.{◌≡◌, ◌∙◌, ℕ, Bool, true, false, Option, Some, None, List}
use Rattle.std.proofs.Common.{ap, arith, refl, sym}
use Rattle.std.specs.Prelude.{◌&&◌, ◌||◌, ◌==◌, eqb, if◌then◌else◌, is_some, not}
use Rattle.std.specs.List.{list_any}
use Rattle.std.specs.Str.{bytes_eq}
use Rattle.std.proofs.lemmas.Bool.{and_from, and_parts, eq-eqb, eqb-true, false≢true, not-true, or_left}
use Rattle.std.proofs.lemmas.Slice.Eq.{bytes_eq-Decides}
use Rattle.bosh_base.specs.CallStep.{is_gone}
use Rattle.bosh_base.specs.declared.answer.Answer.{Answer}
use Rattle.bosh_base.specs.declared.call.Call.{Call}
use Rattle.bosh_base.specs.declared.call.Call.TheVariants as calls
use Rattle.bosh_base.specs.declared.entry.Begin.{Begin}
use Rattle.bosh_base.specs.declared.entry.End.{End}
use Rattle.bosh_base.specs.declared.entry.Entry.{Entry}
use Rattle.bosh_base.specs.declared.entry.Entry.TheVariants as entries
use Rattle.bosh_base.specs.declared.entry.Update.{Update}
use Rattle.bosh_base.specs.declared.goal.GoalRow.{GoalRow}
use Rattle.bosh_base.specs.declared.inst.Inst.{Inst}
use Rattle.bosh_base.specs.declared.moves.Did.{Did}
use Rattle.bosh_base.specs.declared.owner.Owner.TheVariants.{Instance}
use Rattle.bosh_base.specs.declared.row.Doubt.{Doubt}
use Rattle.bosh_base.specs.declared.row.Row.{Row}
use Rattle.bosh_history.specs.Calls.{call_ended, task_told}
use Rattle.bosh_history.specs.Items.{is_item, is_to_ping}
use Rattle.bosh_history.specs.Known.{Known, Task, want_in}
use Rattle.bosh_history.specs.Learn.{learn}
use Rattle.bosh_history.specs.Moments.{Moment, OpenCall, noting}
use Rattle.bosh_history.specs.Notes.{EndsCall, EndsUpdate, Leaves, MayNote, Outside}
use Rattle.bosh_history.specs.Notes as notes
use Rattle.bosh_history.specs.Openings.{deploys}
use Rattle.bosh_history.specs.Updates.{update_done}
use Rattle.bosh_history.specs.Words.{holds, is_among}
use Rattle.bosh_lawful.specs.Clean.{creates_silent, is_failed, is_silent_creation}
use Rattle.bosh_rows.proofs.SameLemmas.{same_inst_decides}
use Rattle.bosh_rows.specs.After.{after, bare, leaves_doubt, updated_row}
use Rattle.bosh_rows.specs.Same.{same_inst}
use Rattle.bosh_rows.specs.Tied.{is_named_lost, number_of}
use Rattle.laws_clean.proofs.CloudLemmas.{unspoiled_none}
use Rattle.laws_clean.proofs.NoteLemmas.{calls_noted, is_ending, so_far_note, still_none_failed, unmade}
use Rattle.laws_clean.specs.Unfailed.{UnfailedFacts}
use Rattle.laws_cloud.proofs.NoteLemmas.{new_number}
use Rattle.laws_disks_kept.proofs.AnswerNotes.{begun_apart}
use Rattle.laws_facts.proofs.LockLemmas.{is_opening}
use Rattle.laws_facts.specs.Clean.{is_answer_clean, is_call_clean, is_row_clean, is_unspoiled, leaves_unspoiled}
use Rattle.laws_facts.specs.Clean.{may_be_gone}
use Rattle.laws_facts.specs.Facts.{Holds}
use Rattle.laws_facts.specs.Owners.{works}
use Rattle.laws_heard.proofs.AnswerLemmas.{implied}
use Rattle.laws_heard.proofs.NoteLemmas.{implied_by}
use Rattle.laws_items.proofs.AskedLemmas.{item_dep}
use Rattle.laws_items.proofs.ListedLemmas.{one_lock}
use Rattle.laws_items.proofs.MarkLemmas.{IsMarked, Spares, mark_note}
use Rattle.laws_items.proofs.RowFrames.{SameMachine, ended_own, machine_note, row_note}
use Rattle.laws_kept_rows.proofs.BeginLemmas.{begun_is}
use Rattle.laws_kept_rows.proofs.NotedLemmas.{Tells, is_other, is_owner, tells}
use Rattle.laws_row_facts.specs.Words.{implies, where_any}
use Rattle.laws_tasks.proofs.TaskFrames.{OpenedAlike, opened_stays}

-- the doubt of a row, once a call of it is answered
doubt_after : (P : Option Doubt → Bool) → P None ≡ true → (n : ℕ) (call : Call) (answer : Answer) (row : Row)
    → P row.doubt ≡ true → P (after n call answer row).doubt ≡ true
doubt_after P none n call answer row is = grind (arith, is, none)

module _ (outside : Outside) (m : Moment) (h : Holds m) (t : ℕ) (working : works m t ≡ true)
    (u : UnfailedFacts m t) where
  abbrev task : Task
  task = m.known.task t

  abbrev IsMine : Inst → Type 0
  IsMine i = holds (bytes_eq i.dep) task.dep ≡ true

  dep_of_mine : (i : Inst) → IsMine i → task.dep ≡ Some i.dep
  dep_of_mine i mine = by task.dep refl mine
    where
      by : (dep : Option (List ℕ)) → task.dep ≡ dep → holds (bytes_eq i.dep) dep ≡ true → task.dep ≡ Some i.dep
      by (Some dep) is same = is ∙ ap Some (sym ((bytes_eq-Decides i.dep dep).0 same))
      by None is same = absurd (false≢true same)

  -- what was so of a row
  was_right : (i : Inst) → IsMine i
      → (is_unspoiled m.effects (m.known.row i) || is_to_ping task i) ≡ true
  was_right i mine =
      (and_parts (is_unspoiled m.effects (m.known.row i) || is_to_ping task i) _
      (implied (holds (bytes_eq i.dep) task.dep) _ (u.rows i) mine)).0

  was_loud : (i : Inst) → IsMine i → is_silent_creation m.effects (m.known.row i).doubt ≡ false
  was_loud i mine =
      not-true (is_silent_creation m.effects (m.known.row i).doubt)
      (and_parts (is_unspoiled m.effects (m.known.row i) || is_to_ping task i) _
      (implied (holds (bytes_eq i.dep) task.dep) _ (u.rows i) mine)).1

  -- ---- an entry that opens no task

  module _ (e : Entry) (may : MayNote outside m e) (none : is_opening e ≡ false) where
    abbrev new : Known
    new = learn m.known e

    alike : OpenedAlike task (new.task t)
    alike = opened_stays outside m e t may none

    row_by : (i : Inst)
        → (IsMine i → (is_unspoiled m.effects (new.row i) || is_to_ping (new.task t) i) ≡ true)
        → (IsMine i → is_silent_creation m.effects (new.row i).doubt ≡ false)
        → is_row_clean (noting m e) (new.task t) i ≡ true
    row_by i right loud =
        (λ j. implies (holds (bytes_eq i.dep) (alike.dep j))
        ((is_unspoiled m.effects (new.row i) || is_to_ping (new.task t) i)
        && not (is_silent_creation m.effects (new.row i).doubt)))
        ∙ implied_by (holds (bytes_eq i.dep) task.dep)
        ((is_unspoiled m.effects (new.row i) || is_to_ping (new.task t) i)
        && not (is_silent_creation m.effects (new.row i).doubt))
        (λ mine.
        and_from (is_unspoiled m.effects (new.row i) || is_to_ping (new.task t) i) _ (right mine)
        (λ j. not (loud mine j)))

    -- the row keeps its machine, and is to be asked as before
    right_same : (i : Inst) → (new.row i).vm ≡ (m.known.row i).vm → (new.row i).lost ≡ (m.known.row i).lost
        → is_to_ping (new.task t) i ≡ is_to_ping task i → IsMine i
        → (is_unspoiled m.effects (new.row i) || is_to_ping (new.task t) i) ≡ true
    right_same i vm lost ping mine =
        (λ j. unspoiled_as j || ping j) ∙ was_right i mine
      where
        unspoiled_as : is_unspoiled m.effects (new.row i) ≡ is_unspoiled m.effects (m.known.row i)
        unspoiled_as = λ j. lost j || not (list_any (is_named_lost m.effects) (number_of (vm j)))

    row_as : (i : Inst) → new.row i ≡ m.known.row i → is_to_ping (new.task t) i ≡ is_to_ping task i
        → is_row_clean (noting m e) (new.task t) i ≡ true
    row_as i same ping =
        row_by i (right_same i (λ j. (same j).vm) (λ j. (same j).lost) ping)
        (λ mine. (λ j. is_silent_creation m.effects (same j).doubt) ∙ was_loud i mine)

    -- unless it is an answer
    ping_same : is_ending e ≡ false → (i : Inst) → is_to_ping (new.task t) i ≡ is_to_ping task i
    ping_same other i =
        λ j. is_among same_inst i (alike.to_ping j) && not ((so_far_note outside m e t may none other).pinged j i)

    pub all_noted : ((i : Inst) → is_row_clean (noting m e) (new.task t) i ≡ true)
        → is_some (new.task t).failed ≡ false → UnfailedFacts (noting m e) t
    all_noted rows none_failed = record {
      deploy = (λ j. deploys (alike.kind j)) ∙ u.deploy;
      rows = rows;
      calls = calls_noted outside m h e may t u.calls;
      none_failed = none_failed;
    }

    pub still_unfailed : is_ending e ≡ false → is_some (new.task t).failed ≡ false
    still_unfailed other = (λ j. is_some ((so_far_note outside m e t may none other).failed j)) ∙ u.none_failed

  -- ---- a call begins

  begun_row_clean : (b : Begin) → (may : MayNote outside m (entries.Begin b)) → (i : Inst)
      → is_row_clean (noting m (entries.Begin b)) ((learn m.known (entries.Begin b)).task t) i ≡ true
  begun_row_clean b may i =
      row_by (entries.Begin b) may refl i
      (right_same (entries.Begin b) may refl i machine.vm machine.lost (ping_same (entries.Begin b) may refl refl i))
      (λ mine. loud (tells b.owner (Instance i)) (was_loud i mine))
    where
      machine : SameMachine (m.known.row i) ((learn m.known (entries.Begin b)).row i)
      machine = machine_note outside m (entries.Begin b) i may tt

      created : (call : Call) → b.call ≡ call → creates_silent m.effects b.n call ≡ false
      created (calls.CreateVm make disks) is = unmade m.effects b.n (new_number outside m h b may)
      created call is = refl

      doubted : (leaves : Bool) → is_silent_creation m.effects (m.known.row i).doubt ≡ false
          → is_silent_creation m.effects
          (if leaves then Some (record { n = b.n; call = b.call }) else (m.known.row i).doubt) ≡ false
      doubted true was = created b.call refl
      doubted false was = was

      loud : Tells b.owner (Instance i) → is_silent_creation m.effects (m.known.row i).doubt ≡ false
          → is_silent_creation m.effects ((learn m.known (entries.Begin b)).row i).doubt ≡ false
      loud (is_owner own) was =
          (λ j. is_silent_creation m.effects (begun_is outside m h b may i own j).doubt)
          ∙ doubted (leaves_doubt b.call) was
      loud (is_other other) was =
          (λ j. is_silent_creation m.effects (begun_apart b b.owner m.known i other j).doubt) ∙ was

  -- ---- a call is answered

  module _ (e : End) (may : EndsCall e (m.calls e.n)) (that : OpenCall) (open_now : m.calls e.n ≡ Some that)
      (says : notes.answers e.answer that.did) where
    abbrev b : Begin
    b = that.begin

    begun : m.known.begun e.n ≡ Some b
    begun = (h.known.calls e.n that open_now).begun

    -- a call of the task was answered cleanly
    clean : b.task ≡ t → is_answer_clean m b e.answer ≡ true
    clean mine =
        by that.did refl says
        (implied (b.task == t) _
        (sym (λ j. where_any (is_call_clean m t) (open_now j)) ∙ u.calls e.n) (eq-eqb b.task t mine))
      where
        by : (did : Option Did) → that.did ≡ did → notes.answers e.answer did
            → where_any (λ d. is_answer_clean m b d.answer) did ≡ true → is_answer_clean m b e.answer ≡ true
        by (Some d) told same was = (λ j. is_answer_clean m b (sym same j)) ∙ was
        by None told same was = absurd same

    new_row : (i : Inst) → b.owner ≡ Instance i
        → (learn m.known (entries.End e)).row i ≡ after b.n b.call e.answer (m.known.row i)
    new_row i own = (λ j. (call_ended e.answer (begun j) m.known).row i) ∙ ended_own e.answer b m.known i own

    own_task : (i : Inst) → b.owner ≡ Instance i → IsMine i → b.task ≡ t
    own_task i own mine =
        one_lock m b.task t h.known (h.known.calls e.n that open_now).works working
        (item_dep m h.known b.task (h.known.calls e.n that open_now).works i
        ((λ j. is_item m.known b.task (sym own j))
        ∙ (and_parts (is_item m.known b.task b.owner) _ (h.known.calls e.n that open_now).of_item).0)
        ∙ sym (dep_of_mine i mine))

    left : (i : Inst) → b.owner ≡ Instance i → IsMine i
        → is_unspoiled m.effects (after b.n b.call e.answer (m.known.row i)) ≡ true
    left i own mine =
        (λ j. leaves_unspoiled m b e.answer (sym own j))
        ∙ (and_parts (implies (is_gone e.answer) (may_be_gone m.known b.owner b.call)) _
        (and_parts (not (is_failed e.answer)) _ (clean (own_task i own mine))).1).1

    row_ended : (i : Inst) → is_row_clean (noting m (entries.End e)) ((learn m.known (entries.End e)).task t) i ≡ true
    row_ended i = by (tells b.owner (Instance i))
      where
        by : Tells b.owner (Instance i)
            → is_row_clean (noting m (entries.End e)) ((learn m.known (entries.End e)).task t) i ≡ true
        by (is_owner own) =
            row_by (entries.End e) may refl i
            (λ mine.
            or_left (is_unspoiled m.effects ((learn m.known (entries.End e)).row i)) _
            ((λ j. is_unspoiled m.effects (new_row i own j)) ∙ left i own mine))
            (λ mine.
            (λ j. is_silent_creation m.effects (new_row i own j).doubt)
            ∙ not-true (is_silent_creation m.effects (after b.n b.call e.answer (m.known.row i)).doubt)
            (doubt_after (λ doubt. not (is_silent_creation m.effects doubt)) refl b.n b.call e.answer (m.known.row i)
            (λ j. not (was_loud i mine j))))
        by (is_other other) =
            row_as (entries.End e) may refl i (row_note outside m (entries.End e) i may refl apart)
            (λ j. is_among same_inst i ((alike (entries.End e) may refl).to_ping j) && not (marks.pinged j))
          where
            one : (x y : Begin) → Some x ≡ Some y → x ≡ y
            one x y same = cc

            apart : Spares m (entries.End e) (Instance i)
            apart it told mine = other ((λ j. (one b it (sym begun ∙ told) j).owner) ∙ mine)

            marks : IsMarked task ((learn m.known (entries.End e)).task t) i
            marks = mark_note outside m (entries.End e) (Instance i) t may refl apart

    none_ended : is_some ((learn m.known (entries.End e)).task t).failed ≡ false
    none_ended =
        (λ j. is_some ((call_ended e.answer (begun j) m.known).task t).failed) ∙ by (eqb b.task t) refl
      where
        by : (own : Bool) → eqb b.task t ≡ own
            → is_some (if own then task_told m.known b e.answer (m.known.task b.task) else m.known.task t).failed
            ≡ false
        by true own =
            still_none_failed m b e.answer (m.known.task b.task).failed
            ((λ j. is_some (m.known.task (eqb-true b.task t own j)).failed) ∙ u.none_failed)
            (clean (eqb-true b.task t own))
        by false other = u.none_failed

    pub ended : UnfailedFacts (noting m (entries.End e)) t
    ended = all_noted (entries.End e) may refl row_ended none_ended

  -- ---- an update is done, or an instance is gone

  updated_row_clean : (up : Update) → (may : MayNote outside m (entries.UpdDone up)) → (i : Inst)
      → is_row_clean (noting m (entries.UpdDone up)) ((learn m.known (entries.UpdDone up)).task t) i ≡ true
  updated_row_clean up may i =
      row_by (entries.UpdDone up) may refl i
      (right_same (entries.UpdDone up) may refl i
      (stays (λ row. row.vm) (λ want row. refl) (want_in (m.known.task up.task).goal up.inst))
      (stays (λ row. row.lost) (λ want row. refl) (want_in (m.known.task up.task).goal up.inst))
      (ping_same (entries.UpdDone up) may refl refl i))
      (λ mine.
      (λ j. is_silent_creation m.effects
      (stays (λ row. row.doubt) (λ want row. refl) (want_in (m.known.task up.task).goal up.inst) j))
      ∙ was_loud i mine)
    where
      stays : {X : Type 0} (f : Row → X) → ((want : GoalRow) (row : Row) → f (updated_row want row) ≡ f row)
          → (want : Option GoalRow) → f ((update_done want up.inst m.known).row i) ≡ f (m.known.row i)
      stays f same None = refl
      stays f same (Some want) = by (same_inst up.inst i) refl
        where
          by : (own : Bool) → same_inst up.inst i ≡ own
              → f (if own then updated_row want (m.known.row up.inst) else m.known.row i) ≡ f (m.known.row i)
          by true own = same want (m.known.row up.inst) ∙ (λ j. f (m.known.row ((same_inst_decides up.inst i).0 own j)))
          by false other = refl

  gone_row_clean : (up : Update) → (may : MayNote outside m (entries.Gone up)) → (i : Inst)
      → is_row_clean (noting m (entries.Gone up)) ((learn m.known (entries.Gone up)).task t) i ≡ true
  gone_row_clean up may i = by (tells (Instance up.inst) (Instance i))
    where
      by : Tells (Instance up.inst) (Instance i)
          → is_row_clean (noting m (entries.Gone up)) ((learn m.known (entries.Gone up)).task t) i ≡ true
      by (is_owner own) =
          let one : up.inst ≡ i = cc in
          let bare_now : (learn m.known (entries.Gone up)).row i ≡ bare up.inst =
          λ j. if (same_inst_decides up.inst i).1 one j then bare up.inst else m.known.row i in
          row_by (entries.Gone up) may refl i
          (λ mine.
          or_left (is_unspoiled m.effects ((learn m.known (entries.Gone up)).row i)) _
          (unspoiled_none m.effects ((learn m.known (entries.Gone up)).row i) (λ j. (bare_now j).vm)))
          (λ mine j. is_silent_creation m.effects (bare_now j).doubt)
      by (is_other other) =
          row_as (entries.Gone up) may refl i (row_note outside m (entries.Gone up) i may refl other)
          (ping_same (entries.Gone up) may refl refl i)

  -- ---- each

  pub noted : (e : Entry) → MayNote outside m e → is_opening e ≡ false → UnfailedFacts (noting m e) t
  noted (entries.TaskOpen o) may none = absurd (false≢true (sym none))
  noted (entries.Begin b) may none =
      all_noted (entries.Begin b) may refl (begun_row_clean b may) (still_unfailed (entries.Begin b) may refl refl)
  noted (entries.End e) may none = by (m.calls e.n) refl may
    where
      by : (that : Option OpenCall) → m.calls e.n ≡ that → EndsCall e that → UnfailedFacts (noting m (entries.End e)) t
      by (Some that) is says = ended e may that is says
      by None is says = absurd says
  noted (entries.UpdDone up) may none =
      all_noted (entries.UpdDone up) may refl (updated_row_clean up may)
      (still_unfailed (entries.UpdDone up) may refl refl)
  noted (entries.Gone up) may none =
      all_noted (entries.Gone up) may refl (gone_row_clean up may) (still_unfailed (entries.Gone up) may refl refl)
  noted (entries.Snapshot s) may none = absurd may
  noted e may none =
      all_noted e may refl
      (λ i. row_as e may refl i (row_note outside m e i may refl tt) (ping_same e may refl refl i))
      (still_unfailed e may refl refl)
