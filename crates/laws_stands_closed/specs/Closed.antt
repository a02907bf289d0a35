-- What the end of a task needs of what was told before it.
use Rattle.std.specs.Prelude.{◌≡◌, ℕ, None, Some, eqb, false, true}
use Rattle.bosh_base.specs.declared.entry.Begin.{Begin}
use Rattle.bosh_base.specs.declared.inst.Inst.{Inst}
use Rattle.bosh_base.specs.declared.task.TaskEnd.{TaskEnd}
use Rattle.bosh_history.specs.Known.{with_task}
use Rattle.bosh_history.specs.Words.{is_among}
use Rattle.bosh_rows.specs.Same.{same_inst}
use Rattle.laws_stands.specs.Told.{Told, is_going}

-- a task has ended
abbrev pub told_ended : ℕ → TaskEnd → Told → Told
told_ended t end told =
    record told { known = with_task t (λ it. record it { end = Some end }) told.known }

-- no call of the task is open, no other open task is of its deployment, or of none as it is, and what it lists is of its
-- deployment, or of none
pub record AllowsClose (told : Told) (t : ℕ) : Type 0 where
  pub none_open : (n : ℕ) (b : Begin) → told.calls n ≡ Some b → eqb t b.task ≡ false
  pub alone : (u : ℕ) → eqb t u ≡ false → is_going told.known u ≡ true →
      (told.known.task u).dep ≡ (told.known.task t).dep → ⊥
  pub asked : (i : Inst) → is_among same_inst i (told.known.task t).to_ping ≡ true →
      (told.known.task t).dep ≡ Some i.dep
  pub leaving : (i : Inst) → is_among same_inst i (told.known.task t).obsolete ≡ true →
      (told.known.task t).dep ≡ Some i.dep
  pub changing : (i : Inst) → is_among same_inst i (told.known.task t).changed ≡ true →
      (told.known.task t).dep ≡ Some i.dep
  pub deleting : (d : ℕ) → is_among eqb d (told.known.task t).disks ≡ true → (told.known.task t).dep ≡ None
