-- Each entry leaves each task what it has heard of the machines that it asks.
use Rattle.std.proofs.Common.{◌≡◌, ◌∙◌, ℕ, ◌+◌, true, false, Option, Some, None, refl, sym, inl, inr, arith}
use Rattle.std.specs.Prelude.{◌⊎◌, ◌≢◌, ◌||◌, ◌==◌, if◌then◌else◌}
use Rattle.std.proofs.lemmas.Bool.Decides.{eqb_tells}
use Rattle.bosh_base.specs.declared.entry.End.{End}
use Rattle.bosh_base.specs.declared.entry.Entry.{Entry}
use Rattle.bosh_base.specs.declared.entry.Entry.TheVariants as entries
use Rattle.bosh_base.specs.declared.entry.TaskOpen.{TaskOpen}
use Rattle.bosh_base.specs.declared.inst.Inst.{Inst}
use Rattle.bosh_history.specs.Items.{is_to_ping}
use Rattle.bosh_history.specs.Moments.{Moment, noting, OpenCall}
use Rattle.bosh_history.specs.Notes.{EndsCall, MayNote, Outside}
use Rattle.bosh_history.specs.Openings.{MayOpen}
use Rattle.bosh_history.specs.Recovered.{may_follow}
use Rattle.bosh_history.specs.Sound.{IsSound}
use Rattle.bosh_history.specs.Tasks.{task_opened}
use Rattle.laws_facts.proofs.WorkLemmas.{opens_next}
use Rattle.laws_facts.specs.Facts.{Holds}
use Rattle.laws_facts.specs.Owners.{works}
use Rattle.laws_facts.specs.Tasks.{has_to_hear, is_heard_of, is_row_heard_of}
use Rattle.laws_heard.proofs.NoteLemmas.{begun_heard, done_heard, ended_heard, gone_heard, row_told}
use Rattle.laws_heard.proofs.OpenLemmas.{opened_heard}
use Rattle.laws_heard.specs.Heard.{AreHeardOf}
use Rattle.laws_items.proofs.RowFrames.{row_note}
use Rattle.laws_row_facts.specs.Words.{implies}

-- ---- entries

opened : (m : Moment) (h : Holds m) (o : TaskOpen) → MayOpen m.known o × IsSound m.known o → (t : ℕ) (i : Inst)
    → works (noting m (entries.TaskOpen o)) t ≡ true → is_heard_of (noting m (entries.TaskOpen o)) t i ≡ true
opened m h o may t i working = by (eqb_tells o.task t)
  where
    number : o.task ≡ m.known.tasks + 1
    number = opens_next m.known o may.0

    by : ((o.task == t) ≡ true) × (o.task ≡ t) ⊎ ((o.task == t) ≡ false) × (o.task ≢ t)
        → is_heard_of (noting m (entries.TaskOpen o)) t i ≡ true
    by (inl same) =
        (λ j. implies (has_to_hear (if same.0 j then task_opened m.known o else m.known.task t) i)
        (is_to_ping (if same.0 j then task_opened m.known o else m.known.task t) i
        || is_row_heard_of m (sym same.1 j) (m.known.row i)))
        ∙ opened_heard m h o may.0 may.1 i
    by (inr apart) =
        (λ j. implies (has_to_hear (if apart.0 j then task_opened m.known o else m.known.task t) i)
        (is_to_ping (if apart.0 j then task_opened m.known o else m.known.task t) i
        || is_row_heard_of m t (m.known.row i)))
        ∙ (h.outcomes t (grind (arith, apart, working, number))).is_heard_of i

ended : (outside : Outside) (m : Moment) (h : Holds m) (t : ℕ) (i : Inst) (e : End) → EndsCall e (m.calls e.n)
    → works (noting m (entries.End e)) t ≡ true → is_heard_of (noting m (entries.End e)) t i ≡ true
ended outside m h t i e may working = by (m.calls e.n) refl may
  where
    by : (that : Option OpenCall) → m.calls e.n ≡ that → EndsCall e that
        → is_heard_of (noting m (entries.End e)) t i ≡ true
    by (Some that) is ends = ended_heard outside m h t i e may working that is ends
    by None is ends = absurd ends

pub heard_noted : (outside : Outside) (m : Moment) (e : Entry) → may_follow m e ≡ true → MayNote outside m e → Holds m
    → AreHeardOf (noting m e)
heard_noted outside m (entries.TaskOpen o) follows may h t i working = opened m h o may t i working
heard_noted outside m (entries.Begin b) follows may h t i working = begun_heard outside m h t i b may working
heard_noted outside m (entries.End e) follows may h t i working = ended outside m h t i e may working
heard_noted outside m (entries.UpdDone u) follows may h t i working =
    done_heard outside m h t i u follows may working
heard_noted outside m (entries.Gone u) follows may h t i working = gone_heard outside m h t i u may working
heard_noted outside m (entries.Snapshot s) follows may h t i working = absurd may
heard_noted outside m entry follows may h t i working =
    row_told outside m h t i entry may refl working tt (row_note outside m entry i may refl tt)
