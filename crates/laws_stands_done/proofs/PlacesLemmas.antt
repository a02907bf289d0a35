-- What is recorded of open tasks goes on to fit where the same places are told of the same works.
use Rattle.std.proofs.Common.{◌≡◌, ◌∙◌, ℕ, ◌+◌, Bool, ◌&&◌, not, List, Option, Some, None, ap, refl, subst, sym}
use Rattle.std.specs.Prelude.{eqb, is_some, nat_le}
use Rattle.std.specs.declared.cmp.Ordering.TheVariants.{Less}
use Rattle.bosh_base.specs.declared.inst.Inst.{Inst}
use Rattle.bosh_base.specs.declared.snapshot.CompileRow.{CompileRow}
use Rattle.bosh_base.specs.declared.snapshot.DepRow.{DepRow}
use Rattle.bosh_history.specs.Known.{Task}
use Rattle.bosh_history.specs.Words.{is_among}
use Rattle.bosh_records.specs.Changes.{since_cmp}
use Rattle.bosh_records.specs.Places.{part_of}
use Rattle.bosh_records.specs.Recorded.{Recorded}
use Rattle.bosh_records.specs.Table.{thing_in}
use Rattle.bosh_records.specs.declared.machines.Machine.{Machine}
use Rattle.bosh_records.specs.declared.orphans.LooseDisk.{LooseDisk}
use Rattle.bosh_records.specs.declared.records.Since.{Since}
use Rattle.bosh_records.specs.declared.records.Since.TheVariants as sinces
use Rattle.bosh_rows.specs.Same.{same_inst}
use Rattle.bosh_work.specs.declared.part.MachineName.{MachineName}
use Rattle.bosh_work.specs.declared.part.Part.{Part}
use Rattle.bosh_work.specs.declared.work.Work.{Work}
use Rattle.laws_stands.specs.GroupsStand.{change_place}
use Rattle.laws_stands.specs.Linked.{same_machine}
use Rattle.laws_stands.specs.LineStands.{place_of}
use Rattle.laws_stands.specs.Reading.{dep_of, machine_of, orphan_of, work_of}
use Rattle.laws_stands.specs.Told.{Told}
use Rattle.laws_stands_done.proofs.ClosedFitsLemmas.{AreListed}
use Rattle.laws_stands_fits.specs.Fits.{Fits, HasNoWork, SweepsEnded}
use Rattle.laws_stands_on.proofs.LinkLemmas.{WasWork}

-- ---- what is told

-- a task is open, by what is known of tasks
abbrev going_by : ℕ → (ℕ → Task) → ℕ → Bool
going_by tasks task t = nat_le 1 t && (nat_le t tasks && not (is_some (task t).end))

-- the same is told of tasks
pub fits_told : (told new : Told) (it : Recorded) → new.known.tasks ≡ told.known.tasks
    → new.known.task ≡ told.known.task → Fits told it → Fits new it
fits_told told new it tasks task fits = record {
  swept = λ t w name is among. ended t name (fits.swept t w name is among);
  parts = fits.parts;
  sweeps = fits.sweeps;
  deletions = fits.deletions;
  since = λ since row is. (λ j. since_cmp since (sinces.Task (tasks j + 1))) ∙ fits.since since row is;
}
  where
    ended : (t : ℕ) (name : MachineName) → SweepsEnded told t name → SweepsEnded new t name
    ended t name (before, was) = (before, (λ j. going_by (tasks j) (task j) name.task) ∙ was)

-- ---- what is recorded

-- a machine was recorded with the same row and place
pub record WasMachine (it : Recorded) (name : MachineName) (machine : Machine) : Type 0 where
  pub old : Machine
  pub is : machine_of it name ≡ Some old
  pub row : old.row ≡ machine.row
  pub sweep : old.sweep ≡ machine.sweep

-- .. so was a disk
pub record WasDisk (it : Recorded) (d : ℕ) (loose : LooseDisk) : Type 0 where
  pub old : LooseDisk
  pub is : orphan_of it d ≡ Some old
  pub deleting : old.deleting ≡ loose.deleting

-- the same tasks have works with the same lists, the places are the same, and no deployment is new
pub record SamePlaces (it new : Recorded) : Type 0 where
  pub works : (t : ℕ) (w : Work) → work_of new t ≡ Some w → WasWork it t w
  pub stay : (t : ℕ) (w : Work) → work_of it t ≡ Some w → (later : Work) × (work_of new t ≡ Some later)
  pub deps : (t : ℕ) → dep_of new t ≡ dep_of it t
  pub parts : (i : Inst) → part_of new i ≡ part_of it i
  pub machines : (name : MachineName) (machine : Machine) → machine_of new name ≡ Some machine →
      WasMachine it name machine
  pub orphans : (d : ℕ) (loose : LooseDisk) → orphan_of new d ≡ Some loose → WasDisk it d loose
  pub since : (since : Since) (row : DepRow) → thing_in since_cmp new.deployments since ≡ Some row →
      (old : DepRow) × (thing_in since_cmp it.deployments since ≡ Some old)

pub same_work : (it : Recorded) (t : ℕ) (w : Work) → work_of it t ≡ Some w → WasWork it t w
same_work it t w is = record {
  old = w;
  is = is;
  same = record { pings = refl; obsolete = refl; changed = refl; sweep = refl; disks = refl };
}

pub same_as_it_is : (it : Recorded) → SamePlaces it it
same_as_it_is it = record {
  works = same_work it;
  stay = λ t w is. (w, is);
  deps = λ t. refl;
  parts = λ i. refl;
  machines = λ name machine is. record { old = machine; is = is; row = refl; sweep = refl };
  orphans = λ d loose is. record { old = loose; is = is; deleting = refl };
  since = λ since row is. (row, is);
}

module _ (it new : Recorded) (same : SamePlaces it new) where
  pub same_listed : AreListed it → AreListed new
  same_listed listed = record {
    pings = λ t w i is dep. let was : WasWork it t w = same.works t w is in
        ap (λ (part : Part). part.ping) (same.parts i) ∙ listed.pings t was.old i was.is (sym (same.deps t) ∙ dep)
        ∙ ap (place_of same_inst i) (sym (was.same).pings);
    leaving = λ t w i is dep. let was : WasWork it t w = same.works t w is in
        ap (λ (part : Part). part.leaving) (same.parts i) ∙ listed.leaving t was.old i was.is (sym (same.deps t) ∙ dep)
        ∙ ap (place_of same_inst i) (sym (was.same).obsolete);
    changes = λ t w i is dep. let was : WasWork it t w = same.works t w is in
        ap (λ (part : Part). part.change) (same.parts i) ∙ listed.changes t was.old i was.is (sym (same.deps t) ∙ dep)
        ∙ ap (λ changed. change_place changed i) (sym (was.same).changed);
    sweeps = λ t w name machine is there dep. let was : WasWork it t w = same.works t w is in
        let had : WasMachine it name machine = same.machines name machine there in
        sym had.sweep
        ∙ listed.sweeps t was.old name had.old was.is had.is
        (sym (same.deps t) ∙ dep ∙ ap (λ (row : CompileRow). Some row.dep) (sym had.row))
        ∙ ap (place_of same_machine name) (sym (was.same).sweep);
    deletions = λ t w d loose is there dep. let was : WasWork it t w = same.works t w is in
        let had : WasDisk it d loose = same.orphans d loose there in
        sym had.deleting
        ∙ listed.deletions t was.old d had.old was.is had.is (sym (same.deps t) ∙ dep)
        ∙ ap (place_of eqb d) (sym (was.same).disks);
  }

  -- where nobody works on a deployment, nobody did
  nobody : (dep : Option (List ℕ)) → HasNoWork new dep → HasNoWork it dep
  nobody dep none t w is of_dep = by (same.stay t w is)
    where
      by : (later : Work) × (work_of new t ≡ Some later) → ⊥
      by (later, there) = none t later there (same.deps t ∙ of_dep)

  pub same_fits : (told : Told) → Fits told it → Fits told new
  same_fits told fits = record {
    swept = λ t w name is among. let was : WasWork it t w = same.works t w is in
        fits.swept t was.old name was.is (ap (is_among same_machine name) (sym (was.same).sweep) ∙ among);
    parts = λ i none. same.parts i ∙ fits.parts i (nobody (Some i.dep) none);
    sweeps = λ name machine there none. let had : WasMachine it name machine = same.machines name machine there in
        sym had.sweep
        ∙ fits.sweeps name had.old had.is
        (subst (λ (row : CompileRow). HasNoWork it (Some row.dep)) (sym had.row) (nobody (Some machine.row.dep) none));
    deletions = λ d loose there none. let had : WasDisk it d loose = same.orphans d loose there in
        sym had.deleting ∙ fits.deletions d had.old had.is (nobody None none);
    since = λ since row is. by since (same.since since row is);
  }
    where
      by : (since : Since) → (old : DepRow) × (thing_in since_cmp it.deployments since ≡ Some old)
          → since_cmp since (sinces.Task (told.known.tasks + 1)) ≡ Less
      by since (old, was) = fits.since since old was
