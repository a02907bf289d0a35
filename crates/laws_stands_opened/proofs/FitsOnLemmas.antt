-- What is recorded of open tasks fits once a task opens.
use Rattle.std.proofs.Common.{◌≡◌, ◌∙◌, ◌+◌, ◌<◌, ◌≤◌, ℕ, Bool, true, false, ◌&&◌, List, Option, Some, None, ap, arith, refl, subst}
use Rattle.std.proofs.Common.{sym}
use Rattle.std.specs.Prelude.{eqb, is_some, nat_le, if◌then◌else◌}
use Rattle.std.proofs.lemmas.Bool.{and_parts, eqb-true, leb-true, ne_eqb}
use Rattle.bosh_base.specs.declared.entry.TaskOpen.{TaskOpen}
use Rattle.bosh_history.specs.Held.{is_open}
use Rattle.bosh_history.specs.Known.{Known}
use Rattle.bosh_history.specs.Words.{is_among}
use Rattle.bosh_records.specs.Recorded.{Recorded}
use Rattle.bosh_records.specs.declared.machines.Machine.{Machine}
use Rattle.bosh_records.specs.declared.orphans.LooseDisk.{LooseDisk}
use Rattle.bosh_work.specs.declared.part.MachineName.{MachineName}
use Rattle.bosh_work.specs.declared.work.Work.{Work}
use Rattle.laws_stands.specs.Linked.{same_machine}
use Rattle.laws_stands.specs.Reading.{dep_of, machine_of, orphan_of, work_of}
use Rattle.laws_stands.specs.Told.{Told}
use Rattle.laws_stands_fits.specs.Fits.{Fits, HasNoWork, SweepsEnded}
use Rattle.laws_stands_opened.proofs.OpeningLemmas.{Opens, new, now, own_number, part_other, work_going}
use Rattle.laws_stands_opened.proofs.StandsLemmas.{past_it}
use Rattle.laws_stands_opened.proofs.TableLemmas.{deleting, deleting_at, deleting_dep, dep_now, going_other, leftover_dep}
use Rattle.laws_stands_opened.proofs.TableLemmas.{machine_now, orphan_now, sweep, swept_at, work_now}

module _ (told : Told) (it : Recorded) (o : TaskOpen) (work : Work) (opens : Opens told it o work) where
  -- what was known
  abbrev k : Known
  k = told.known

  -- what is told once the task opens
  abbrev told_now : Told
  told_now = new told it o work opens

  -- what is recorded once the task opens
  abbrev it_now : Recorded
  it_now = now told it o work opens

  -- a deployment of which no task is recorded as open is not that of this task, and none was before
  not_own : (dep : Option (List ℕ)) → HasNoWork it_now dep → o.dep ≡ dep → ⊥
  not_own dep none own =
      none o.task work
      (work_now told it o work opens o.task
      ∙ (λ j. if own_number told it o work opens j then Some work else work_of it o.task))
      (dep_now told it o work opens o.task
      ∙ (λ j. if own_number told it o work opens j then o.dep else dep_of it o.task) ∙ own)

  none_before : (dep : Option (List ℕ)) → HasNoWork it_now dep → HasNoWork it dep
  none_before dep none t w is dep_is = by (eqb o.task t) refl
    where
      by : (b : Bool) → eqb o.task t ≡ b → ⊥
      by true own = past_it told it o work opens t (work_going told it o work opens t w is) (eqb-true o.task t own)
      by false other =
          none t w
          (work_now told it o work opens t ∙ (λ j. if other j then Some work else work_of it t) ∙ is)
          (dep_now told it o work opens t ∙ (λ j. if other j then o.dep else dep_of it t) ∙ dep_is)

  -- what another task sweeps is of one that has ended
  swept_other : (t : ℕ) (w : Work) (name : MachineName) → work_of it t ≡ Some w
      → is_among same_machine name w.sweep.items ≡ true → SweepsEnded told_now t name
  swept_other t w name is among =
      let ended : SweepsEnded told t name = (opens.fits).swept t w name is among in
      let low : name.task < t = ended.0 in
      (low, going_other told it o work opens name.task (apart low) ∙ ended.1)
    where
      high : t ≤ k.tasks
      high =
          let (one, rest) = and_parts (nat_le 1 t) (nat_le t k.tasks && is_open k t) (work_going told it o work opens t w is) in
          leb-true t k.tasks (and_parts (nat_le t k.tasks) (is_open k t) rest).0

      apart : name.task < t → eqb o.task name.task ≡ false
      apart low = ne_eqb o.task name.task (λ same.
          let next : o.task ≡ k.tasks + 1 = (opens.allows).number in let past : t ≤ k.tasks = high in absurd (omega arith))

  sweeps : (name : MachineName) (machine : Machine) → machine_of it_now name ≡ Some machine
      → HasNoWork it_now (Some machine.row.dep) → machine.sweep ≡ None
  sweeps name machine there none =
      by (sweep told it o work opens name) refl (machine_of it name) refl
      (sym (machine_now told it o work opens name) ∙ there)
    where
      by : (place : Option ℕ) → sweep told it o work opens name ≡ place → (was : Option Machine)
          → machine_of it name ≡ was → swept_at place was ≡ Some machine → machine.sweep ≡ None
      by (Some p) placed (Some was) before there =
          let one : record was { sweep = Some p } ≡ machine = cc in
          absurd (not_own (Some machine.row.dep) none
          (leftover_dep told it o work opens name was (ap is_some placed) before
          ∙ ap (λ (machine : Machine). Some machine.row.dep) one))
      by None placed (Some was) before there =
          (opens.fits).sweeps name machine (before ∙ there) (none_before (Some machine.row.dep) none)
      by (Some p) placed None before there = absurd cc
      by None placed None before there = absurd cc

  deletions : (d : ℕ) (loose : LooseDisk) → orphan_of it_now d ≡ Some loose → HasNoWork it_now None
      → loose.deleting ≡ None
  deletions d loose there none =
      by (deleting told it o work opens d) refl (orphan_of it d) refl (sym (orphan_now told it o work opens d) ∙ there)
    where
      by : (place : Option ℕ) → deleting told it o work opens d ≡ place → (was : Option LooseDisk)
          → orphan_of it d ≡ was → deleting_at place was ≡ Some loose → loose.deleting ≡ None
      by (Some p) placed was before there =
          absurd (not_own None none (deleting_dep told it o work opens d (ap is_some placed)))
      by None placed was before there = (opens.fits).deletions d loose (before ∙ there) (none_before None none)

  -- where the machines that the task sweeps are of tasks that have ended
  pub opened_fits : ((name : MachineName) → is_among same_machine name work.sweep.items ≡ true
      → SweepsEnded told_now o.task name) → Fits told_now it_now
  opened_fits ended = record {
    swept = λ t w name is among. swept t w name among (eqb o.task t) refl (sym (work_now told it o work opens t) ∙ is);
    parts = λ i none. part_other told it o work opens i (not_own (Some i.dep) none)
        ∙ (opens.fits).parts i (none_before (Some i.dep) none);
    sweeps = sweeps;
    deletions = deletions;
    since = (opens.set).since;
  }
    where
      swept : (t : ℕ) (w : Work) (name : MachineName) → is_among same_machine name w.sweep.items ≡ true → (b : Bool)
          → eqb o.task t ≡ b → (if b then Some work else work_of it t) ≡ Some w → SweepsEnded told_now t name
      swept t w name among true own is =
          let same : work ≡ w = cc in
          subst (λ t. SweepsEnded told_now t name) (eqb-true o.task t own)
          (ended name (ap (λ (w : Work). is_among same_machine name w.sweep.items) same ∙ among))
      swept t w name among false other is = swept_other t w name is among
