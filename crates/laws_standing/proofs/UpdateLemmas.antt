-- Only instances that change are updated.
use Rattle.std.proofs.Common.{◌≡◌, ◌∙◌, ℕ, ◌+◌, Bool, true, false, refl, sym, subst, inl, inr, arith}
use Rattle.std.specs.Prelude.{◌⊎◌, ◌≢◌, ◌==◌, ◌||◌, eqb, if◌then◌else◌}
use Rattle.std.proofs.lemmas.Bool.{and_parts, false≢true, or_right}
use Rattle.std.proofs.lemmas.Bool.Decides.{eqb_tells}
use Rattle.bosh_base.specs.declared.entry.Entry.{Entry}
use Rattle.bosh_base.specs.declared.entry.Entry.TheVariants as entries
use Rattle.bosh_base.specs.declared.entry.TaskOpen.{TaskOpen}
use Rattle.bosh_base.specs.declared.inst.Inst.{Inst}
use Rattle.bosh_base.specs.declared.moves.Move.{Move}
use Rattle.bosh_base.specs.declared.moves.Move.TheVariants as moves
use Rattle.bosh_history.specs.Goals.{is_waiting}
use Rattle.bosh_history.specs.Known.{Task, want_in}
use Rattle.bosh_history.specs.Learn.{learn}
use Rattle.bosh_history.specs.Moments.{Moment, later, noting}
use Rattle.bosh_history.specs.Notes.{MayNote, Outside}
use Rattle.bosh_history.specs.Openings.{MayOpen}
use Rattle.bosh_history.specs.Permitted.{IsPermitted}
use Rattle.bosh_history.specs.Tasks.{task_opened}
use Rattle.bosh_history.specs.Updates.{update_at}
use Rattle.bosh_history.specs.Words.{at, is_among}
use Rattle.bosh_roll.specs.declared.upd.Upd.{Upd}
use Rattle.bosh_roll.specs.declared.upd.Upd.TheVariants.{Busy, Finished}
use Rattle.bosh_rows.proofs.SameLemmas.{same_inst_decides}
use Rattle.bosh_rows.specs.Same.{same_inst}
use Rattle.laws_facts.proofs.CurrentLemmas.{none_works, worked}
use Rattle.laws_facts.proofs.DepLemmas.{dep_updated}
use Rattle.laws_facts.proofs.LockLemmas.{is_opening, note_stays}
use Rattle.laws_facts.proofs.WorkLemmas.{opens_next}
use Rattle.laws_facts.specs.KnownFacts.{KnownFacts}
use Rattle.laws_facts.specs.Owners.{works}
use Rattle.laws_facts.specs.Tasks.{is_update_listed}
use Rattle.laws_standing.specs.Standing.{AreUpdatesListed}
use Rattle.laws_tasks.proofs.TaskFrames.{SameUpdates, changed_at, same_updates}

-- the updates of the second task are listed where those of the first are
abbrev Listed : Task → Task → Type 0
Listed a b = ((i : Inst) → is_update_listed a i ≡ true) → (i : Inst) → is_update_listed b i ≡ true

itself : (a : Task) → Listed a a
itself a listed = listed

alike : (a b : Task) → SameUpdates a b → Listed a b
alike a b same listed i = (λ j. is_waiting (same.upd j i) || is_among same_inst i (same.changed j)) ∙ listed i

marked : (upd : Upd) (one : Inst) (t : Task) → is_among same_inst one t.changed ≡ true → Listed t (update_at upd one t)
marked upd one t among listed i = by (same_inst one i) refl
  where
    by : (b : Bool) → same_inst one i ≡ b → is_update_listed (update_at upd one t) i ≡ true
    by true same =
        or_right (is_waiting (if same_inst one i then upd else t.upd i)) (is_among same_inst i t.changed)
        ((λ j. is_among same_inst (sym ((same_inst_decides one i).0 same) j) t.changed) ∙ among)
    by false other =
        (λ j. is_waiting (if other j then upd else t.upd i) || is_among same_inst i t.changed) ∙ listed i

listed_note : (outside : Outside) (m : Moment) (e : Entry) (t : ℕ) → MayNote outside m e → is_opening e ≡ false
    → Listed (m.known.task t) ((learn m.known e).task t)
listed_note outside m (entries.TaskOpen o) t may none = absurd (false≢true (sym none))
listed_note outside m (entries.UpdBegin u) t may none =
    changed_at Listed itself u.task t (update_at Busy u.inst (m.known.task u.task)) m.known.task
    (marked Busy u.inst (m.known.task u.task) may.is_changed)
listed_note outside m (entries.UpdDone u) t may none =
    subst (λ (f : ℕ → Task). Listed (m.known.task t) (at eqb u.task (update_at Finished u.inst (f u.task)) f t))
    (sym (dep_updated (want_in (m.known.task u.task).goal u.inst) u.inst m.known))
    (changed_at Listed itself u.task t (update_at Finished u.inst (m.known.task u.task)) m.known.task
    (marked Finished u.inst (m.known.task u.task)
    (and_parts (is_among same_inst u.inst (m.known.task u.task).changed) _ may.is_changed).0))
listed_note outside m (entries.Snapshot s) t may none = absurd may
listed_note outside m entry t may none =
    alike (m.known.task t) ((learn m.known entry).task t) (same_updates outside m entry t may refl)

opened_listed : (m : Moment) → KnownFacts m → (o : TaskOpen) → MayOpen m.known o → (t : ℕ) (i : Inst)
    → works (noting m (entries.TaskOpen o)) t ≡ true
    → is_update_listed ((learn m.known (entries.TaskOpen o)).task t) i ≡ true
opened_listed m h o may t i working = by (eqb_tells o.task t)
  where
    number : o.task ≡ m.known.tasks + 1
    number = opens_next m.known o may

    by : ((o.task == t) ≡ true) × (o.task ≡ t) ⊎ ((o.task == t) ≡ false) × (o.task ≢ t)
        → is_update_listed ((learn m.known (entries.TaskOpen o)).task t) i ≡ true
    by (inl same) = λ j. is_update_listed (if same.0 j then task_opened m.known o else m.known.task t) i
    by (inr apart) =
        (λ j. is_update_listed (if apart.0 j then task_opened m.known o else m.known.task t) i)
        ∙ ((h.tasks t).working (grind (arith, apart, working, number))).update_listed i

listed_move : (outside : Outside) (m : Moment) (move : Move) → IsPermitted outside m move → KnownFacts m
    → AreUpdatesListed (later m move)
listed_move outside m (moves.Note (entries.TaskOpen o)) may h t i working = opened_listed m h o may.2.0 t i working
listed_move outside m (moves.Note e) may h t i working =
    listed_note outside m e t may.2 refl
    (((h.tasks t).working (worked m e t (note_stays outside m e may.2 refl t) working)).update_listed) i
listed_move outside m (moves.Stop s) may h t i working = absurd (false≢true (sym (none_works m s t) ∙ working))
listed_move outside m move may h t i working = ((h.tasks t).working working).update_listed i

pub listed_kept : (outside : Outside) (m : Moment) (move : Move) → IsPermitted outside m move → KnownFacts m
    → AreUpdatesListed (later m move)
listed_kept outside m move may h = listed_move outside m move may h
