-- What fits goes on to fit where no work, place or deployment comes that was not there, and none goes that was.
use Rattle.std.proofs.Common.{◌≡◌, ◌∙◌, ◌⊎◌, ◌+◌, ℕ, true, false, List, Option, Some, None, ap, inl, inr, refl, subst, sym}
use Rattle.std.specs.Prelude.{is_some}
use Rattle.std.proofs.lemmas.Bool.{false≢true}
use Rattle.bosh_base.specs.declared.inst.Inst.{Inst}
use Rattle.bosh_history.specs.Words.{is_among}
use Rattle.bosh_records.specs.Changes.{since_cmp}
use Rattle.bosh_records.specs.Places.{part_of}
use Rattle.bosh_records.specs.Recorded.{Recorded}
use Rattle.bosh_records.specs.Table.{thing_in}
use Rattle.bosh_records.specs.declared.machines.Machine.{Machine}
use Rattle.bosh_records.specs.declared.orphans.LooseDisk.{LooseDisk}
use Rattle.bosh_records.specs.declared.records.Since.{Since}
use Rattle.bosh_records.specs.declared.records.Since.TheVariants as sinces
use Rattle.bosh_work.specs.declared.part.MachineName.{MachineName}
use Rattle.bosh_work.specs.declared.work.Work.{Work}
use Rattle.laws_stands.specs.Linked.{same_machine}
use Rattle.laws_stands.specs.Reading.{dep_of, machine_of, orphan_of, work_of}
use Rattle.laws_stands.specs.Told.{Told, is_going}
use Rattle.laws_stands_fits.specs.Fits.{Fits, HasNoWork, SweepsEnded}
use Rattle.laws_stands_on.proofs.LinkLemmas.{ListsSame, WasWork}

-- a machine was recorded, at its place among those that are swept, of its deployment
pub record WasMachine (it : Recorded) (name : MachineName) (machine : Machine) : Type 0 where
  pub old : Machine
  pub is : machine_of it name ≡ Some old
  pub sweep : machine.sweep ≡ old.sweep
  pub dep : machine.row.dep ≡ old.row.dep

-- a disk was recorded, at its place among those that are deleted
pub record WasLoose (it : Recorded) (d : ℕ) (loose : LooseDisk) : Type 0 where
  pub old : LooseDisk
  pub is : orphan_of it d ≡ Some old
  pub deleting : loose.deleting ≡ old.deleting

pub record Keeps (it now : Recorded) : Type 0 where
  pub works : (t : ℕ) (w : Work) → work_of now t ≡ Some w → WasWork it t w
  pub are_open : (t : ℕ) (w : Work) → work_of it t ≡ Some w → is_some (work_of now t) ≡ true
  pub deps : (t : ℕ) → dep_of now t ≡ dep_of it t
  pub parts : (i : Inst) → part_of now i ≡ part_of it i
  pub machines : (name : MachineName) (machine : Machine) → machine_of now name ≡ Some machine →
      (machine.sweep ≡ None) ⊎ WasMachine it name machine
  pub orphans : (d : ℕ) (loose : LooseDisk) → orphan_of now d ≡ Some loose →
      (loose.deleting ≡ None) ⊎ WasLoose it d loose
  pub deployments : (since : Since) →
      thing_in since_cmp now.deployments since ≡ thing_in since_cmp it.deployments since

-- ---- of the same, and one after another

pub lists_itself : (w : Work) → ListsSame w w
lists_itself w = record { pings = refl; obsolete = refl; changed = refl; sweep = refl; disks = refl }

pub lists_then : (a b c : Work) → ListsSame c b → ListsSame b a → ListsSame c a
lists_then a b c one other = record {
  pings = one.pings ∙ other.pings;
  obsolete = one.obsolete ∙ other.obsolete;
  changed = one.changed ∙ other.changed;
  sweep = one.sweep ∙ other.sweep;
  disks = one.disks ∙ other.disks;
}

pub keeps_itself : (it : Recorded) → Keeps it it
keeps_itself it = record {
  works = λ t w is. record { old = w; is = is; same = lists_itself w };
  are_open = λ t w is. ap is_some is;
  deps = λ t. refl;
  parts = λ i. refl;
  machines = λ name machine is. inr (record { old = machine; is = is; sweep = refl; dep = refl });
  orphans = λ d loose is. inr (record { old = loose; is = is; deleting = refl });
  deployments = λ since. refl;
}

pub keeps_then : (it mid now : Recorded) → Keeps it mid → Keeps mid now → Keeps it now
keeps_then it mid now one other = record {
  works = λ t w is. works t w (other.works t w is);
  are_open = λ t w is. opened t (work_of mid t) refl (one.are_open t w is);
  deps = λ t. other.deps t ∙ one.deps t;
  parts = λ i. other.parts i ∙ one.parts i;
  machines = λ name machine is. machines name machine (other.machines name machine is);
  orphans = λ d loose is. orphans d loose (other.orphans d loose is);
  deployments = λ since. other.deployments since ∙ one.deployments since;
}
  where
    works : (t : ℕ) (w : Work) → WasWork mid t w → WasWork it t w
    works t w was = let before : WasWork it t was.old = one.works t was.old was.is in
        record { old = before.old; is = before.is; same = lists_then before.old was.old w was.same before.same }

    opened : (t : ℕ) (o : Option Work) → work_of mid t ≡ o → is_some (work_of mid t) ≡ true
        → is_some (work_of now t) ≡ true
    opened t (Some w) is there = other.are_open t w is
    opened t None is there = absurd (false≢true (sym (ap is_some is) ∙ there))

    machine_was : (name : MachineName) (machine : Machine) (was : WasMachine mid name machine)
        → (was.old.sweep ≡ None) ⊎ WasMachine it name was.old
        → (machine.sweep ≡ None) ⊎ WasMachine it name machine
    machine_was name machine was (inl none) = inl (was.sweep ∙ none)
    machine_was name machine was (inr before) = inr (record {
      old = before.old;
      is = before.is;
      sweep = was.sweep ∙ before.sweep;
      dep = was.dep ∙ before.dep;
    })

    machines : (name : MachineName) (machine : Machine)
        → (machine.sweep ≡ None) ⊎ WasMachine mid name machine
        → (machine.sweep ≡ None) ⊎ WasMachine it name machine
    machines name machine (inl none) = inl none
    machines name machine (inr was) = machine_was name machine was (one.machines name was.old was.is)

    loose_was : (d : ℕ) (loose : LooseDisk) (was : WasLoose mid d loose)
        → (was.old.deleting ≡ None) ⊎ WasLoose it d was.old → (loose.deleting ≡ None) ⊎ WasLoose it d loose
    loose_was d loose was (inl none) = inl (was.deleting ∙ none)
    loose_was d loose was (inr before) =
        inr (record { old = before.old; is = before.is; deleting = was.deleting ∙ before.deleting })

    orphans : (d : ℕ) (loose : LooseDisk) → (loose.deleting ≡ None) ⊎ WasLoose mid d loose
        → (loose.deleting ≡ None) ⊎ WasLoose it d loose
    orphans d loose (inl none) = inl none
    orphans d loose (inr was) = loose_was d loose was (one.orphans d was.old was.is)

-- ---- it fits

module _ (told new : Told) (it now : Recorded) (keeps : Keeps it now) where
  none_worked : (dep : Option (List ℕ)) → HasNoWork now dep → HasNoWork it dep
  none_worked dep none t w is of = by (work_of now t) refl (keeps.are_open t w is)
    where
      by : (o : Option Work) → work_of now t ≡ o → is_some (work_of now t) ≡ true → ⊥
      by (Some w) there some = none t w there (keeps.deps t ∙ of)
      by None there some = false≢true (sym (ap is_some there) ∙ some)

  -- no task that was not going goes, and there are as many
  pub fits_on : ((t : ℕ) → is_going told.known t ≡ false → is_going new.known t ≡ false)
      → new.known.tasks ≡ told.known.tasks → Fits told it → Fits new now
  fits_on ended tasks fits = record {
    swept = λ t w name is listed. swept t w name listed (keeps.works t w is);
    parts = λ i none. keeps.parts i ∙ fits.parts i (none_worked (Some i.dep) none);
    sweeps = λ name machine is none. sweeps name machine none (keeps.machines name machine is);
    deletions = λ d loose is none. deletions d loose none (keeps.orphans d loose is);
    since = λ since row is.
        ap (λ tasks. since_cmp since (sinces.Task (tasks + 1))) tasks
        ∙ fits.since since row (sym (keeps.deployments since) ∙ is);
  }
    where
      swept : (t : ℕ) (w : Work) (name : MachineName) → is_among same_machine name w.sweep.items ≡ true
          → WasWork it t w → SweepsEnded new t name
      swept t w name listed was =
          let before : SweepsEnded told t name = fits.swept t was.old name was.is
          (sym (ap (is_among same_machine name) (was.same).sweep) ∙ listed) in
          (before.0, ended name.task before.1)

      sweeps : (name : MachineName) (machine : Machine) → HasNoWork now (Some machine.row.dep)
          → (machine.sweep ≡ None) ⊎ WasMachine it name machine → machine.sweep ≡ None
      sweeps name machine none (inl is) = is
      sweeps name machine none (inr was) =
          was.sweep ∙ fits.sweeps name was.old was.is
          (none_worked (Some was.old.row.dep) (subst (λ dep. HasNoWork now (Some dep)) was.dep none))

      deletions : (d : ℕ) (loose : LooseDisk) → HasNoWork now None
          → (loose.deleting ≡ None) ⊎ WasLoose it d loose → loose.deleting ≡ None
      deletions d loose none (inl is) = is
      deletions d loose none (inr was) =
          was.deleting ∙ fits.deletions d was.old was.is (none_worked None none)
