-- The phases of a task follow one another (this project's profile).
use Rattle.std.specs.Prelude.{ℕ, ◌+◌, Bool, true, ◌==◌, if◌then◌else◌, Option, Some, None}
use Rattle.bosh_base.specs.declared.call.Call.{Call}
use Rattle.bosh_base.specs.declared.call.Call.TheVariants.{Ping}
use Rattle.bosh_base.specs.declared.entry.Begin.{Begin}
use Rattle.bosh_base.specs.declared.entry.Entry.{Entry}
use Rattle.bosh_base.specs.declared.entry.Entry.TheVariants as entries
use Rattle.bosh_base.specs.declared.inst.Inst.{Inst}
use Rattle.bosh_base.specs.declared.owner.Owner.{Owner}
use Rattle.bosh_base.specs.declared.owner.Owner.TheVariants.{Instance, Compile, Disk}
use Rattle.bosh_history.specs.Items.{none_left_before, stage_of}
use Rattle.bosh_history.specs.Known.{Known, Task, plan_in}
use Rattle.bosh_history.specs.Words.{is_among}
use Rattle.bosh_rows.specs.Same.{same_inst}

-- the phase that a word on an instance belongs to
abbrev pub work_phase : Task → Inst → Option ℕ
work_phase t i =
    if is_among same_inst i t.obsolete then Some 3
    else (if is_among same_inst i t.changed then Some (4 + stage_of (plan_in t.goal i)) else None)

abbrev pub call_phase : Known → ℕ → Owner → Call → Option ℕ
call_phase k t (Instance i) (Ping vm) = Some 0
call_phase k t (Instance i) call = work_phase (k.task t) i
call_phase k t (Compile task slot) call = if task == t then Some 2 else Some 1
call_phase k t (Disk d) call = Some 0

-- where it belongs to a phase, nothing is left of the task in an earlier one
abbrev pub comes_in_phase : Known → ℕ → Option ℕ → Bool
comes_in_phase k t (Some phase) = none_left_before k t phase
comes_in_phase k t None = true

abbrev pub ends_in_phase : Known → Option Begin → Bool
ends_in_phase k (Some b) = comes_in_phase k b.task (call_phase k b.task b.owner b.call)
ends_in_phase k None = true

abbrev pub in_phase : Known → Entry → Bool
in_phase k (entries.Begin b) = comes_in_phase k b.task (call_phase k b.task b.owner b.call)
in_phase k (entries.End e) = ends_in_phase k (k.begun e.n)
in_phase k (entries.UpdBegin u) = comes_in_phase k u.task (work_phase (k.task u.task) u.inst)
in_phase k (entries.UpdDone u) = comes_in_phase k u.task (work_phase (k.task u.task) u.inst)
in_phase k (entries.Gone u) = comes_in_phase k u.task (work_phase (k.task u.task) u.inst)
in_phase k entry = true
