-- What is told once several tasks have ended as interrupted: each has its end, and nothing else of it changes.
use Rattle.std.proofs.Common.{◌≡◌, ◌∙◌, ℕ, Bool, true, false, List, [], ◌∷◌, Option, Some, None, ap, refl, sym}
use Rattle.std.specs.Prelude.{◌==◌, eqb, fold, if◌then◌else◌}
use Rattle.std.proofs.lemmas.Bool.{eqb-true}
use Rattle.bosh_base.specs.declared.entry.Begin.{Begin}
use Rattle.bosh_base.specs.declared.failure.Failure.{Failure}
use Rattle.bosh_base.specs.declared.inst.Inst.{Inst}
use Rattle.bosh_base.specs.declared.task.TaskEnd.TheVariants as ends
use Rattle.bosh_base.specs.declared.task.TaskKind.{TaskKind}
use Rattle.bosh_history.specs.Known.{Known, Task}
use Rattle.bosh_history.specs.Words.{at}
use Rattle.bosh_roll.specs.declared.upd.Upd.{Upd}
use Rattle.laws_stands.specs.Told.{Told, of_others, telling}
use Rattle.laws_recovery.specs.Interrupted.{interruption, interruptions}

-- a task that ended as interrupted
abbrev pub ended : Task → Task
ended it = record it { end = Some ends.Interrupted }

-- the tasks once these have ended
abbrev pub tasks_after : List ℕ → (ℕ → Task) → ℕ → Task
tasks_after [] task = task
tasks_after (t ∷ more) task = tasks_after more (at eqb t (ended (task t)) task)

-- the open calls then
abbrev pub calls_after : List ℕ → (ℕ → Option Begin) → ℕ → Option Begin
calls_after [] calls = calls
calls_after (t ∷ more) calls = calls_after more (λ n. of_others t (calls n))

-- what is told then
abbrev pub told_after : List ℕ → Told → Told
told_after tasks told = record {
  known = record told.known { task = tasks_after tasks told.known.task };
  calls = calls_after tasks told.calls;
  snapped = told.snapped;
}

pub told_ended : (tasks : List ℕ) (told : Told) → fold telling told (interruptions tasks) ≡ told_after tasks told
told_ended [] told = refl
told_ended (t ∷ more) told = told_ended more (telling told (interruption t))

-- where no call was open, none is
pub none_after : (tasks : List ℕ) → calls_after tasks (λ n. None) ≡ (λ n. None)
none_after [] = refl
none_after (t ∷ more) = none_after more

-- what of a task stays as it ends
pub record Stays (was now : Task) : Type 0 where
  pub kind : now.kind ≡ was.kind
  pub dep : now.dep ≡ was.dep
  pub source : now.source ≡ was.source
  pub calls : now.calls ≡ was.calls
  pub failed : now.failed ≡ was.failed
  pub disks : now.disks ≡ was.disks
  pub upd : now.upd ≡ was.upd

stays_itself : (it : Task) → Stays it it
stays_itself it =
    record { kind = refl; dep = refl; source = refl; calls = refl; failed = refl; disks = refl; upd = refl }

stays_ended : (a b : Task) → a ≡ b → Stays b (ended a)
stays_ended a b same = record {
  kind = ap (λ (it : Task). it.kind) same;
  dep = ap (λ (it : Task). it.dep) same;
  source = ap (λ (it : Task). it.source) same;
  calls = ap (λ (it : Task). it.calls) same;
  failed = ap (λ (it : Task). it.failed) same;
  disks = ap (λ (it : Task). it.disks) same;
  upd = ap (λ (it : Task). it.upd) same;
}

stays_on : (a b c : Task) → Stays a b → Stays b c → Stays a c
stays_on a b c one other = record {
  kind = other.kind ∙ one.kind;
  dep = other.dep ∙ one.dep;
  source = other.source ∙ one.source;
  calls = other.calls ∙ one.calls;
  failed = other.failed ∙ one.failed;
  disks = other.disks ∙ one.disks;
  upd = other.upd ∙ one.upd;
}

pub task_stays : (tasks : List ℕ) (task : ℕ → Task) (t : ℕ) → Stays (task t) (tasks_after tasks task t)
task_stays [] task t = stays_itself (task t)
task_stays (u ∷ more) task t =
    stays_on (task t) (at eqb u (ended (task u)) task t) (tasks_after more (at eqb u (ended (task u)) task) t)
    (by (eqb u t) refl) (task_stays more (at eqb u (ended (task u)) task) t)
  where
    by : (b : Bool) → eqb u t ≡ b → Stays (task t) (if b then ended (task u) else task t)
    by true same = stays_ended (task u) (task t) (ap task (eqb-true u t same))
    by false other = stays_itself (task t)

-- tasks with the same ends have the same then
pub ends_same : (tasks : List ℕ) (one other : ℕ → Task) (t : ℕ) → (one t).end ≡ (other t).end
    → (tasks_after tasks one t).end ≡ (tasks_after tasks other t).end
ends_same [] one other t same = same
ends_same (u ∷ more) one other t same =
    ends_same more (at eqb u (ended (one u)) one) (at eqb u (ended (other u)) other) t (by (eqb u t))
  where
    by : (b : Bool) → (if b then ended (one u) else one t).end ≡ (if b then ended (other u) else other t).end
    by true = refl
    by false = same
