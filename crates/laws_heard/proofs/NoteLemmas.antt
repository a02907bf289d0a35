-- An entry leaves a task what it has heard of the machines that it asks.
use Rattle.std.proofs.Common.{◌≡◌, ◌∙◌, ℕ, Bool, true, false, Option, Some, None, ap, refl, sym, inl, inr}
use Rattle.std.specs.Prelude.{◌⊎◌, ◌&&◌, ◌||◌, eqb, if◌then◌else◌, is_some, not}
use Rattle.std.proofs.lemmas.Bool.{and_from, and_parts, eq-eqb, false≢true, not-true, or_cases, or_left, or_right}
use Rattle.bosh_base.specs.declared.answer.Answer.{Answer}
use Rattle.bosh_base.specs.declared.answer.Answer.TheVariants as answers
use Rattle.bosh_base.specs.declared.entry.Begin.{Begin}
use Rattle.bosh_base.specs.declared.entry.End.{End}
use Rattle.bosh_base.specs.declared.entry.Entry.{Entry}
use Rattle.bosh_base.specs.declared.entry.Entry.TheVariants as entries
use Rattle.bosh_base.specs.declared.entry.Update.{Update}
use Rattle.bosh_base.specs.declared.goal.GoalRow.{GoalRow}
use Rattle.bosh_base.specs.declared.inst.Inst.{Inst}
use Rattle.bosh_base.specs.declared.moves.Did.{Did}
use Rattle.bosh_base.specs.declared.owner.Owner.{Owner}
use Rattle.bosh_base.specs.declared.owner.Owner.TheVariants.{Compile, Disk, Instance}
use Rattle.bosh_base.specs.declared.row.Row.{Row}
use Rattle.bosh_history.specs.Calls.{begins, call_ended, failure_of, task_told}
use Rattle.bosh_history.specs.Exact.{asks}
use Rattle.bosh_history.specs.Goals.{is_in}
use Rattle.bosh_history.specs.Items.{is_item, is_to_ping}
use Rattle.bosh_history.specs.Known.{Known, want_in}
use Rattle.bosh_history.specs.Learn.{learn}
use Rattle.bosh_history.specs.Moments.{Moment, noting, OpenCall}
use Rattle.bosh_history.specs.Notes.{EndsCall, EndsUpdate, Leaves, MayNote, Outside}
use Rattle.bosh_history.specs.Notes as notes
use Rattle.bosh_history.specs.Recovered.{may_follow}
use Rattle.bosh_history.specs.Updates.{update_done}
use Rattle.bosh_history.specs.Words.{at, is_among}
use Rattle.bosh_lawful.specs.Clean.{is_failed}
use Rattle.bosh_rows.proofs.SameLemmas.{same_inst_decides}
use Rattle.bosh_rows.specs.After.{after, bare, begun_row, updated_row}
use Rattle.bosh_rows.specs.Same.{same_inst, same_owner}
use Rattle.laws_addresses.proofs.WorkingLemmas.{wants_of}
use Rattle.laws_facts.proofs.CurrentLemmas.{done_works, worked}
use Rattle.laws_facts.proofs.LockLemmas.{is_opening, note_stays}
use Rattle.laws_facts.specs.CallFacts.{is_answer_heard_of}
use Rattle.laws_facts.specs.Facts.{Holds}
use Rattle.laws_facts.specs.Owners.{works}
use Rattle.laws_facts.specs.Tasks.{has_to_hear, is_heard_of, is_row_heard_of}
use Rattle.laws_heard.proofs.AnswerLemmas.{implied}
use Rattle.laws_heard.proofs.RowLemmas.{none_heard, same_heard}
use Rattle.laws_items.proofs.AskedLemmas.{item_dep}
use Rattle.laws_items.proofs.ListedLemmas.{one_lock}
use Rattle.laws_items.proofs.MarkLemmas.{IsMarked, mark_note, Spares}
use Rattle.laws_items.proofs.OwnerLemmas.{same_owner_is}
use Rattle.laws_items.proofs.RowFrames.{ended_own, row_note}
use Rattle.laws_machines.proofs.FailLemmas.{failed_note, least_new}
use Rattle.laws_row_facts.specs.Words.{implies, where_any}
use Rattle.laws_tasks.proofs.TaskFrames.{opened_stays, OpenedAlike}

pub implied_by : (a b : Bool) → (a ≡ true → b ≡ true) → implies a b ≡ true
implied_by true b is = is refl
implied_by false b is = refl

module _ (outside : Outside) (m : Moment) (h : Holds m) (t : ℕ) (i : Inst) where
  -- what was heard, or is still to be asked
  abbrev Told : Known → Type 0
  Told k = (is_to_ping (k.task t) i || is_row_heard_of m t (k.row i)) ≡ true

  -- ---- an entry that opens no task

  module _ (e : Entry) (may : MayNote outside m e) (none : is_opening e ≡ false)
      (working : works (noting m e) t ≡ true) where
    abbrev new : Known
    new = learn m.known e

    alike : OpenedAlike (m.known.task t) (new.task t)
    alike = opened_stays outside m e t may none

    worked_before : works m t ≡ true
    worked_before = worked m e t (note_stays outside m e may none t) working

    -- a task that has to hear had to before
    had_to_hear : has_to_hear (new.task t) i ≡ true → has_to_hear (m.known.task t) i ≡ true
    had_to_hear hears =
        let (kind, rest) = and_parts (asks (new.task t).kind i) _ hears in
        let (there, unfailed) = and_parts (is_in (new.task t).goal i) (not (is_some (new.task t).failed)) rest in
        and_from (asks (m.known.task t).kind i) _ (sym (λ j. asks (alike.kind j) i) ∙ kind)
        (and_from (is_in (m.known.task t).goal i) _ (sym (λ j. is_in (alike.goal j) i) ∙ there)
        (λ j. not (failed_note outside m e t may none (not-true (is_some (new.task t).failed) unfailed) j)))

    -- what it had heard
    was_told : has_to_hear (new.task t) i ≡ true → Told m.known
    was_told hears =
        implied (has_to_hear (m.known.task t) i)
        (is_to_ping (m.known.task t) i || is_row_heard_of m t (m.known.row i))
        ((h.outcomes t worked_before).is_heard_of i) (had_to_hear hears)

    -- no other task that works has the instance as an item
    one_task : has_to_hear (new.task t) i ≡ true → (u : ℕ) → works m u ≡ true → is_item m.known u (Instance i) ≡ true
        → t ≡ u
    one_task hears u other item =
        one_lock m t u h.known worked_before other (dep ∙ sym (item_dep m h.known u other i item))
      where
        wanted : (want : Option GoalRow) → want_in (m.known.task t).goal i ≡ want → is_some want ≡ true
            → (m.known.task t).dep ≡ Some i.dep
        wanted (Some want) wants some = (wants_of m t i want h.known worked_before wants).task_dep
        wanted None wants some = absurd (false≢true some)

        dep : (m.known.task t).dep ≡ Some i.dep
        dep =
            wanted (want_in (m.known.task t).goal i) refl
            (and_parts (is_in (m.known.task t).goal i) _
            (and_parts (asks (m.known.task t).kind i) _ (had_to_hear hears)).1).0

    -- whether it is to be asked, where the entry spares it
    ping_same : Spares m e (Instance i) → is_to_ping (new.task t) i ≡ is_to_ping (m.known.task t) i
    ping_same apart =
        let marks : IsMarked (m.known.task t) (new.task t) i = mark_note outside m e (Instance i) t may none apart in
        λ j. is_among same_inst i (alike.to_ping j) && not (marks.pinged j)

    -- the row keeps its machine and spec
    told_same : Spares m e (Instance i) → (new.row i).vm ≡ (m.known.row i).vm
        → (new.row i).lost ≡ (m.known.row i).lost → (new.row i).spec ≡ (m.known.row i).spec
        → is_heard_of (noting m e) t i ≡ true
    told_same apart vm lost spec =
        implied_by (has_to_hear (new.task t) i) (is_to_ping (new.task t) i || is_row_heard_of m t (new.row i))
        (λ hears. by (or_cases (is_to_ping (m.known.task t) i) (is_row_heard_of m t (m.known.row i)) (was_told hears)))
      where
        by : (is_to_ping (m.known.task t) i ≡ true) ⊎ (is_row_heard_of m t (m.known.row i) ≡ true) → Told new
        by (inl asked) = or_left (is_to_ping (new.task t) i) _ (ping_same apart ∙ asked)
        by (inr heard) =
            or_right (is_to_ping (new.task t) i) _
            (same_heard m m t (m.known.row i) (new.row i) (λ v was. (was, refl)) vm lost spec heard)

    pub row_told : Spares m e (Instance i) → new.row i ≡ m.known.row i → is_heard_of (noting m e) t i ≡ true
    row_told apart same =
        told_same apart (ap (λ (row : Row). row.vm) same) (ap (λ (row : Row). row.lost) same)
        (ap (λ (row : Row). row.spec) same)

    -- the row is heard of then, where it is the task's own
    heard_new : (has_to_hear (new.task t) i ≡ true → is_row_heard_of m t (new.row i) ≡ true)
        → is_heard_of (noting m e) t i ≡ true
    heard_new heard =
        implied_by (has_to_hear (new.task t) i) (is_to_ping (new.task t) i || is_row_heard_of m t (new.row i))
        (λ hears. or_right (is_to_ping (new.task t) i) _ (heard hears))

  -- ---- a call begins

  pub begun_heard : (b : Begin) → MayNote outside m (entries.Begin b) → works (noting m (entries.Begin b)) t ≡ true
      → is_heard_of (noting m (entries.Begin b)) t i ≡ true
  begun_heard b may working =
      told_same (entries.Begin b) may refl working tt (same (λ row. row.vm) (λ row. refl) b.owner)
      (same (λ row. row.lost) (λ row. refl) b.owner) (same (λ row. row.spec) (λ row. refl) b.owner)
    where
      same : {X : Type 0} (f : Row → X) → ((row : Row) → f (begun_row b.n b.call row) ≡ f row) → (owner : Owner)
          → f ((begins b owner m.known).row i) ≡ f (m.known.row i)
      same f stays (Instance k) = by (same_inst k i) refl
        where
          by : (c : Bool) → same_inst k i ≡ c
              → f (if same_inst k i then begun_row b.n b.call (m.known.row k) else m.known.row i) ≡ f (m.known.row i)
          by true one =
              (λ j. f (if one j then begun_row b.n b.call (m.known.row k) else m.known.row i))
              ∙ (stays (m.known.row k) ∙ (λ j. f (m.known.row ((same_inst_decides k i).0 one j))))
          by false other = λ j. f (if other j then begun_row b.n b.call (m.known.row k) else m.known.row i)
      same f stays (Compile task s) = refl
      same f stays (Disk d) = refl

  -- ---- a call is answered

  unfailed_answer : (k : Known) (b : Begin) (answer : Answer) → is_some (failure_of k b answer) ≡ false
      → is_failed answer ≡ false
  unfailed_answer k b answers.Failed none = absurd (false≢true (sym none))
  unfailed_answer k b answer none = refl

  module _ (e : End) (may : EndsCall e (m.calls e.n)) (working : works (noting m (entries.End e)) t ≡ true)
      (that : OpenCall) (open_now : m.calls e.n ≡ Some that) where
    abbrev b : Begin
    b = that.begin

    begun : m.known.begun e.n ≡ Some b
    begun = (h.known.calls e.n that open_now).begun

    -- of its own instance: the cloud told so
    own_heard : b.owner ≡ Instance i → notes.answers e.answer that.did
        → has_to_hear ((learn m.known (entries.End e)).task t) i ≡ true
        → is_row_heard_of m t ((learn m.known (entries.End e)).row i) ≡ true
    own_heard own says hears =
        (λ j. is_row_heard_of m t ((call_ended e.answer (begun j) m.known).row i))
        ∙ ((λ j. is_row_heard_of m t (ended_own e.answer b m.known i own j)) ∙ of that.did refl says)
      where
        task : t ≡ b.task
        task =
            one_task (entries.End e) may refl working hears b.task (h.known.calls e.n that open_now).works
            (sym (λ j. is_item m.known b.task (own j))
            ∙ (and_parts (is_item m.known b.task b.owner) _ (h.known.calls e.n that open_now).of_item).0)

        unfailed : is_some ((learn m.known (entries.End e)).task t).failed ≡ false
        unfailed =
            not-true (is_some ((learn m.known (entries.End e)).task t).failed)
            (and_parts (is_in ((learn m.known (entries.End e)).task t).goal i) _
            (and_parts (asks ((learn m.known (entries.End e)).task t).kind i) _ hears).1).1

        well : is_failed e.answer ≡ false
        well =
            unfailed_answer m.known b e.answer
            (least_new (m.known.task b.task).failed (failure_of m.known b e.answer)
            (sym ((λ j. is_some ((call_ended e.answer (begun j) m.known).task t).failed)
            ∙ (λ j. is_some (at eqb b.task (task_told m.known b e.answer (m.known.task b.task)) m.known.task
            (task j)).failed)
            ∙ (λ j. is_some (if eq-eqb b.task b.task refl j
            then task_told m.known b e.answer (m.known.task b.task) else m.known.task b.task).failed)) ∙ unfailed))

        had : has_to_hear (m.known.task b.task) i ≡ true
        had =
            sym (λ j. has_to_hear (m.known.task (task j)) i)
            ∙ had_to_hear (entries.End e) may refl working hears

        of : (did : Option Did) → that.did ≡ did → notes.answers e.answer did
            → is_row_heard_of m t (after b.n b.call e.answer (m.known.row i)) ≡ true
        of (Some d) told says =
            (λ j. is_row_heard_of m (task j) (after b.n b.call (sym says j) (m.known.row i)))
            ∙ implied (has_to_hear (m.known.task b.task) i && not (is_failed d.answer))
            (is_row_heard_of m b.task (after b.n b.call d.answer (m.known.row i)))
            (sym ((λ j. where_any (λ d. is_answer_heard_of m b d b.owner) (told j))
            ∙ (λ j. is_answer_heard_of m b d (own j))) ∙ (h.performed e.n that open_now).heard_of)
            (and_from (has_to_hear (m.known.task b.task) i) _ had
            (λ j. not (((λ l. is_failed (says l)) ∙ well) j)))
        of None told says = absurd says

    pub ended_heard : notes.answers e.answer that.did → is_heard_of (noting m (entries.End e)) t i ≡ true
    ended_heard says = by (same_owner b.owner (Instance i)) refl
      where
        by : (own : Bool) → same_owner b.owner (Instance i) ≡ own → is_heard_of (noting m (entries.End e)) t i ≡ true
        by true own =
            heard_new (entries.End e) may refl working (own_heard (same_owner_is b.owner (Instance i) own) says)
        by false other = row_told (entries.End e) may refl working apart
            (row_note outside m (entries.End e) i may refl apart)
          where
            apart : Spares m (entries.End e) (Instance i)
            apart it known own =
                let both : Some b ≡ Some it = sym begun ∙ known in
                let one : b ≡ it = cc in
                false≢true (sym other ∙ ((λ j. same_owner (((λ l. (one l).owner) ∙ own) j) (Instance i))
                ∙ (same_inst_decides i i).1 refl))

  -- ---- an update is done, and an instance is gone

  pub done_heard : (u : Update) → may_follow m (entries.UpdDone u) ≡ true → EndsUpdate m u
      → works (noting m (entries.UpdDone u)) t ≡ true → is_heard_of (noting m (entries.UpdDone u)) t i ≡ true
  done_heard u follows may working = by (same_inst u.inst i) refl
    where
      by : (own : Bool) → same_inst u.inst i ≡ own → is_heard_of (noting m (entries.UpdDone u)) t i ≡ true
      by false other =
          row_told (entries.UpdDone u) may refl working apart (row_note outside m (entries.UpdDone u) i may refl apart)
        where
          apart : Spares m (entries.UpdDone u) (Instance i)
          apart same =
              let one : u.inst ≡ i = cc in false≢true (sym other ∙ (same_inst_decides u.inst i).1 one)
      by true own =
          heard_new (entries.UpdDone u) may refl working
          (λ hears. same_heard m m t (m.known.row i) ((learn m.known (entries.UpdDone u)).row i) (λ v was. (was, refl))
          (stays (λ row. row.vm) (λ want row. refl) (want_in (m.known.task u.task).goal u.inst))
          (stays (λ row. row.lost) (λ want row. refl) (want_in (m.known.task u.task).goal u.inst))
          (stays (λ row. row.spec) (λ want row. refl) (want_in (m.known.task u.task).goal u.inst)) (was hears))
        where
          inst : u.inst ≡ i
          inst = (same_inst_decides u.inst i).0 own

          was : has_to_hear ((learn m.known (entries.UpdDone u)).task t) i ≡ true
              → is_row_heard_of m t (m.known.row i) ≡ true
          was hears =
              let task : t ≡ u.task =
              one_task (entries.UpdDone u) may refl working hears u.task (done_works m u.task follows may.is_open)
              (sym (λ j. is_item m.known u.task (Instance (inst j))) ∙ may.is_item) in
              sym (λ j. (((λ l. is_to_ping (m.known.task (task l)) (sym inst l)) ∙ may.is_asked) j)
              || is_row_heard_of m t (m.known.row i))
              ∙ was_told (entries.UpdDone u) may refl working hears

          stays : {X : Type 0} (f : Row → X) → ((want : GoalRow) (row : Row) → f (updated_row want row) ≡ f row)
              → (want : Option GoalRow) → f ((update_done want u.inst m.known).row i) ≡ f (m.known.row i)
          stays f same None = refl
          stays f same (Some want) =
              (λ j. f (if own j then updated_row want (m.known.row u.inst) else m.known.row i))
              ∙ (same want (m.known.row u.inst) ∙ (λ j. f (m.known.row (inst j))))

  pub gone_heard : (u : Update) → Leaves m u → works (noting m (entries.Gone u)) t ≡ true
      → is_heard_of (noting m (entries.Gone u)) t i ≡ true
  gone_heard u may working = by (same_inst u.inst i) refl
    where
      by : (own : Bool) → same_inst u.inst i ≡ own → is_heard_of (noting m (entries.Gone u)) t i ≡ true
      by false other =
          row_told (entries.Gone u) may refl working apart (row_note outside m (entries.Gone u) i may refl apart)
        where
          apart : Spares m (entries.Gone u) (Instance i)
          apart same =
              let one : u.inst ≡ i = cc in false≢true (sym other ∙ (same_inst_decides u.inst i).1 one)
      by true own =
          heard_new (entries.Gone u) may refl working
          (λ hears. none_heard m t ((learn m.known (entries.Gone u)).row i)
          (λ j. (if own j then bare u.inst else m.known.row i).vm))
