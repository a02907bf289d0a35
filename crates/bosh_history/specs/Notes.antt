-- Which entry may be noted at a moment (this project's profile; bosh.io, "Deployment manifest", "update", for the
-- canaries and the limit). Each field is an equation that computes on a closed moment.
use Rattle.std.specs.Prelude.{◌≡◌, ℕ, ◌+◌, Bool, true, false, ◌&&◌, ◌||◌, ◌==◌, Option, Some, None, is_some, nat_le, List}
use Rattle.std.specs.List.{list_any, list_all}
use Rattle.std.specs.Str.{bytes_eq}
use Rattle.std.specs.declared.cmp.Ordering.{Ordering}
use Rattle.std.specs.declared.cmp.Ordering.TheVariants.{Equal}
use Rattle.bosh_base.specs.Cloud.{numbers_to}
use Rattle.bosh_base.specs.Version.{is_version, version_order}
use Rattle.bosh_base.specs.declared.answer.Answer.{Answer}
use Rattle.bosh_base.specs.declared.digest.Digest.{Digest}
use Rattle.bosh_base.specs.declared.entry.Begin.{Begin}
use Rattle.bosh_base.specs.declared.entry.End.{End}
use Rattle.bosh_base.specs.declared.entry.Entry.{Entry}
use Rattle.bosh_base.specs.declared.entry.Entry.TheVariants as entries
use Rattle.bosh_base.specs.declared.entry.TaskError.{TaskError}
use Rattle.bosh_base.specs.declared.entry.Update.{Update}
use Rattle.bosh_base.specs.declared.inst.Inst.{Inst}
use Rattle.bosh_base.specs.declared.failure.Failure.{Failure}
use Rattle.bosh_base.specs.declared.failure.Failure.TheVariants as failures
use Rattle.bosh_base.specs.declared.key.KeyWork.{KeyWork}
use Rattle.bosh_base.specs.declared.moves.Did.{Did}
use Rattle.bosh_base.specs.declared.owner.Owner.{Owner}
use Rattle.bosh_base.specs.declared.owner.Owner.TheVariants.{Instance}
use Rattle.bosh_base.specs.declared.release.Release.{Release}
use Rattle.bosh_base.specs.declared.stemcell.Stemcell.{Stemcell}
use Rattle.bosh_history.specs.Goals.{canaries_first, is_waiting, may_begin}
use Rattle.bosh_history.specs.Held.{is_open}
use Rattle.bosh_history.specs.Items.{is_to_ping, is_to_go, is_to_change, is_in_deployment, is_item, is_finished}
use Rattle.bosh_history.specs.Known.{Known, Task}
use Rattle.bosh_history.specs.Moments.{Moment, OpenCall}
use Rattle.bosh_history.specs.Openings.{MayOpen}
use Rattle.bosh_history.specs.Slots.{are_all_compiled}
use Rattle.bosh_history.specs.Sound.{IsSound}
use Rattle.bosh_history.specs.Steps.{is_idle, has_no_call, call_now, want_of}
use Rattle.bosh_history.specs.Words.{is_among}
use Rattle.bosh_roll.specs.Upd.{is_busy}
use Rattle.bosh_rows.specs.NextStep.{next_step}
use Rattle.bosh_rows.specs.Same.{same_inst}
use Rattle.bosh_rows.specs.declared.step.Step.{Step}

-- What is settled outside of histories: what a compilation gives, whether a file is a cloud config, and whether a
-- release goes with those that are recorded.
pub record Outside : Type 0 where
  pub built : KeyWork → List Digest → Digest
  pub is_config : List ℕ → Bool
  pub goes_with : List Release → Release → Bool

-- ---- uploads

abbrev pub is_equal : Option Ordering → Bool
is_equal (Some Equal) = true
is_equal ordering = false

-- two versions that compare equal are one version
abbrev pub same_version : List ℕ → List ℕ → Bool
same_version a b = is_equal (version_order a b)

pub record Uploads (outside : Outside) (k : Known) (r : Release) : Type 0 where
  pub is_version : is_version r.version ≡ true
  pub is_new : list_any (λ it. bytes_eq it.name r.name && same_version it.version r.version) k.releases ≡ false
  pub goes_with : outside.goes_with k.releases r ≡ true

pub record Adds (k : Known) (s : Stemcell) : Type 0 where
  pub is_version : is_version s.version ≡ true
  pub is_new : list_any (λ it. bytes_eq it.os s.os && same_version it.version s.version) k.stemcells ≡ false

-- ---- tasks

abbrev pub is_task_open : Known → ℕ → Bool
is_task_open k t = list_any (λ n. n == t) (numbers_to k.tasks) && is_open k t

-- a changed instance has begun its update, but for a ping
abbrev pub has_begun : Task → Owner → Bool
has_begun t (Instance i) = is_to_ping t i || (is_to_go t i || is_busy (t.upd i))
has_begun t owner = true

-- a call begins: it has the next number, and it is the one that is to be made for an item of the present phase
pub record Begins (m : Moment) (b : Begin) : Type 0 where
  pub is_open : is_task_open m.known b.task ≡ true
  pub none_failed : is_some (m.known.task b.task).failed ≡ false
  pub number : b.n ≡ m.known.last_call + 1
  pub is_idle : is_idle m b.owner ≡ true
  pub is_item : is_item m.known b.task b.owner ≡ true
  pub has_begun : has_begun (m.known.task b.task) b.owner ≡ true
  pub is_call : call_now m b.task b.owner ≡ Some b.call

-- a call ends: the cloud gave this answer
abbrev pub answers : Answer → Option Did → Type 0
answers answer (Some d) = d.answer ≡ answer
answers answer None = ⊥

abbrev pub EndsCall : End → Option OpenCall → Type 0
EndsCall e (Some call) = answers e.answer call.did
EndsCall e None = ⊥

-- the update of an instance begins, where canaries and limit allow it
pub record BeginsUpdate (m : Moment) (u : Update) : Type 0 where
  pub is_open : is_task_open m.known u.task ≡ true
  pub is_changed : is_among same_inst u.inst (m.known.task u.task).changed ≡ true
  pub waits : is_waiting ((m.known.task u.task).upd u.inst) ≡ true
  pub is_asked : is_to_ping (m.known.task u.task) u.inst ≡ false
  pub is_item : is_item m.known u.task (Instance u.inst) ≡ true
  pub may_begin : may_begin (m.known.task u.task) u.inst ≡ true

-- the next step of an instance, by what the task wants of it
abbrev pub step_now : Known → ℕ → Inst → Option Step
step_now k t i = next_step (want_of (k.task t) i) (k.row i)

-- it is done: the instance has no step
pub record EndsUpdate (m : Moment) (u : Update) : Type 0 where
  pub is_open : is_task_open m.known u.task ≡ true
  pub is_changed : is_to_change (m.known.task u.task) u.inst ≡ true
  pub is_asked : is_to_ping (m.known.task u.task) u.inst ≡ false
  pub is_idle : is_idle m (Instance u.inst) ≡ true
  pub no_step : step_now m.known u.task u.inst ≡ None
  pub is_item : is_item m.known u.task (Instance u.inst) ≡ true
  pub canaries_first : canaries_first (m.known.task u.task) u.inst ≡ true

-- an obsolete instance is gone: it has no step
pub record Leaves (m : Moment) (u : Update) : Type 0 where
  pub is_open : is_task_open m.known u.task ≡ true
  pub is_obsolete : is_to_go (m.known.task u.task) u.inst ≡ true
  pub is_asked : is_to_ping (m.known.task u.task) u.inst ≡ false
  pub is_idle : is_idle m (Instance u.inst) ≡ true
  pub no_step : step_now m.known u.task u.inst ≡ None
  pub is_item : is_item m.known u.task (Instance u.inst) ≡ true

-- a task is done: each of its instances is, and nothing else is left of it
pub record EndsTask (m : Moment) (t : ℕ) : Type 0 where
  pub is_open : is_task_open m.known t ≡ true
  pub none_failed : is_some (m.known.task t).failed ≡ false
  pub no_call : has_no_call m t ≡ true
  pub all_asked : list_any (is_to_ping (m.known.task t)) (m.known.task t).to_ping ≡ false
  pub all_changed : list_all (λ i. is_finished ((m.known.task t).upd i)) (m.known.task t).changed ≡ true
  pub all_gone : list_all (m.known.task t).gone (m.known.task t).obsolete ≡ true
  pub no_machine : list_any (is_in_deployment m.known (m.known.task t).dep) m.known.machines ≡ false
  pub all_compiled : are_all_compiled m.known (m.known.task t).goal ≡ true
  pub all_deleted : list_any (λ d. is_some (m.known.orphan d)) (m.known.task t).disks ≡ false

-- the cause of a failed task is its least failed call, or a stop since it was opened
abbrev pub IsCause : Moment → ℕ → Failure → Type 0
IsCause m t failures.Interrupted = nat_le t m.stopped ≡ true
IsCause m t cause = (m.known.task t).failed ≡ Some cause

pub record FailsTask (m : Moment) (e : TaskError) : Type 0 where
  pub is_open : is_task_open m.known e.task ≡ true
  pub no_call : has_no_call m e.task ≡ true
  pub cause : IsCause m e.task e.cause

-- ---- all

-- the entry may be noted; those of the cloud's store and snapshots are noted by nobody
abbrev pub MayNote : Outside → Moment → Entry → Type 0
MayNote outside m (entries.Release r) = Uploads outside m.known r
MayNote outside m (entries.Stemcell s) = Adds m.known s
MayNote outside m (entries.Config file) = outside.is_config file ≡ true
MayNote outside m (entries.TaskOpen o) = MayOpen m.known o × IsSound m.known o
MayNote outside m (entries.Begin b) = Begins m b
MayNote outside m (entries.End e) = EndsCall e (m.calls e.n)
MayNote outside m (entries.UpdBegin u) = BeginsUpdate m u
MayNote outside m (entries.UpdDone u) = EndsUpdate m u
MayNote outside m (entries.Gone u) = Leaves m u
MayNote outside m (entries.TaskDone t) = EndsTask m t
MayNote outside m (entries.TaskError e) = FailsTask m e
MayNote outside m entry = ⊥
