-- What changes in one table keeps works, places and deployments: one thing changed, put, or taken out.
use Rattle.std.proofs.Common.{◌≡◌, ◌∙◌, ◌⊎◌, ℕ, Bool, true, false, List, Option, Some, None, ap, inl, inr, refl, sym}
use Rattle.std.specs.Prelude.{eqb, is_some, option_map, if◌then◌else◌}
use Rattle.std.specs.BTreeMap.{is_at}
use Rattle.std.specs.Option.{option_and_then, option_map_or}
use Rattle.std.specs.Ordering.{nat_cmp}
use Rattle.bosh_base.specs.Inst.{inst_cmp}
use Rattle.bosh_base.specs.declared.inst.Inst.{Inst}
use Rattle.bosh_base.specs.declared.task.TaskRow.{TaskRow}
use Rattle.bosh_records.specs.Readers.{machine_cmp}
use Rattle.bosh_records.specs.Recorded.{Recorded}
use Rattle.bosh_records.specs.Table.{altered, changed, each_thing, found, put_at, thing_in, without}
use Rattle.bosh_records.specs.declared.instances.Instance.{Instance}
use Rattle.bosh_records.specs.declared.machines.Machine.{Machine}
use Rattle.bosh_records.specs.declared.orphans.LooseDisk.{LooseDisk}
use Rattle.bosh_work.specs.Part.{no_part}
use Rattle.bosh_work.specs.declared.part.MachineName.{MachineName}
use Rattle.bosh_work.specs.declared.work.Work.{Work}
use Rattle.laws_stands.specs.Once.{IsOnce}
use Rattle.laws_stands.specs.Reading.{instance_of, machine_of, orphan_of, work_of}
use Rattle.laws_stands_fits.proofs.KeepsLemmas.{Keeps, WasLoose, WasMachine, keeps_itself}
use Rattle.laws_stands_on.proofs.ChangedLemmas.{each_found, some_mapped, thing_at_key}
use Rattle.laws_stands_on.proofs.KeyLemmas.{inst_keys, machine_keys}
use Rattle.laws_stands_on.proofs.LinkLemmas.{ListsSame}
use Rattle.laws_stands_on.proofs.TableLemmas.{found_altered, found_without, nat_keys, thing_changed}
use Rattle.laws_stands_on.proofs.WorksLemmas.{of_task, of_task_is, of_task_same, works_were}

-- ---- works

module _ (it : Recorded) where
  -- works that list what they listed
  pub keeps_works : (works : List (ℕ × Option Work)) (change : ℕ → Work → Work)
      → ((t : ℕ) → thing_in nat_cmp works t ≡ option_map (change t) (work_of it t))
      → ((t : ℕ) (w : Work) → ListsSame (change t w) w) → Keeps it (record it { works = works })
  keeps_works works change are same = record {
    deps = (keeps_itself it).deps;
    parts = (keeps_itself it).parts;
    machines = (keeps_itself it).machines;
    orphans = (keeps_itself it).orphans;
    deployments = (keeps_itself it).deployments;
    works = works_were it (record it { works = works }) change are same;
    are_open = λ t w is. ap is_some (are t) ∙ some_mapped (change t) (work_of it t) ∙ ap is_some is;
  }

  -- that of one task
  pub keeps_work : (n : ℕ) (change : Work → Work) → ((w : Work) → ListsSame (change w) w)
      → Keeps it (record it { works = changed nat_cmp n change it.works })
  keeps_work n change same =
      keeps_works (changed nat_cmp n change it.works) (of_task n change)
      (λ t. thing_at_key n change it.works t ∙ of_task_is n change t (work_of it t))
      (of_task_same n change same)

  -- each of them
  pub keeps_each_work : (change : Work → Work) → ((w : Work) → ListsSame (change w) w)
      → Keeps it (record it { works = each_thing change it.works })
  keeps_each_work change same =
      keeps_works (each_thing change it.works) (λ t. change) (each_found change it.works) (λ t. same)

  -- ---- instances

  -- one that has the same part
  pub keeps_instance : (inst : Inst) (change : Instance → Instance)
      → ((known : Instance) → (change known).part ≡ known.part)
      → Keeps it (record it { instances = altered inst_cmp inst change it.instances })
  keeps_instance inst change same = record {
    works = (keeps_itself it).works;
    are_open = (keeps_itself it).are_open;
    deps = (keeps_itself it).deps;
    machines = (keeps_itself it).machines;
    orphans = (keeps_itself it).orphans;
    deployments = (keeps_itself it).deployments;
    parts = λ i.
        ap (λ (o : Option Instance). option_map_or (λ known. known.part) o no_part)
        (found_altered inst_cmp inst_keys inst change it.instances i)
        ∙ by (is_at (inst_cmp inst) i) (instance_of it i);
  }
    where
      by : (b : Bool) (o : Option Instance)
          → option_map_or (λ (known : Instance). known.part) (if b then option_map change o else o) no_part
          ≡ option_map_or (λ known. known.part) o no_part
      by true (Some known) = same known
      by true None = refl
      by false o = refl

  -- ---- compile machines

  -- one that is swept at the same place, of the same deployment
  pub keeps_machine : (name : MachineName) (change : Machine → Machine)
      → ((m : Machine) → (change m).sweep ≡ m.sweep) → ((m : Machine) → (change m).row.dep ≡ m.row.dep)
      → Keeps it (record it { machines = changed machine_cmp name change it.machines })
  keeps_machine name change sweep dep = record {
    works = (keeps_itself it).works;
    are_open = (keeps_itself it).are_open;
    deps = (keeps_itself it).deps;
    parts = (keeps_itself it).parts;
    orphans = (keeps_itself it).orphans;
    deployments = (keeps_itself it).deployments;
    machines = λ other machine is.
        inr (by other machine (is_at (machine_cmp name) other) (machine_of it other) refl
        (sym (thing_changed machine_cmp machine_keys name change it.machines other) ∙ is));
  }
    where
      by : (other : MachineName) (machine : Machine) (b : Bool) (o : Option Machine) → machine_of it other ≡ o
          → (if b then option_map change (machine_of it other) else machine_of it other) ≡ Some machine
          → WasMachine it other machine
      by other machine true (Some old) there is =
          let e : Some (change old) ≡ Some machine = (λ j. option_map change (sym there j)) ∙ is in
          let same : change old ≡ machine = cc in
          record {
            old = old;
            is = there;
            sweep = ap (λ (m : Machine). m.sweep) (sym same) ∙ sweep old;
            dep = ap (λ (m : Machine). m.row.dep) (sym same) ∙ dep old;
          }
      by other machine true None there is =
          absurd (let e : None ≡ Some machine = (λ j. option_map change (sym there j)) ∙ is in cc)
      by other machine false o there is = record { old = machine; is = is; sweep = refl; dep = refl }

  -- one that nobody sweeps is put
  pub keeps_made : (name : MachineName) (machine : Machine) → machine.sweep ≡ None
      → Keeps it (record it { machines = put_at machine_cmp name machine it.machines })
  keeps_made name made none = record {
    works = (keeps_itself it).works;
    are_open = (keeps_itself it).are_open;
    deps = (keeps_itself it).deps;
    parts = (keeps_itself it).parts;
    orphans = (keeps_itself it).orphans;
    deployments = (keeps_itself it).deployments;
    machines = λ other machine is.
        by other machine (is_at (machine_cmp name) other) (found machine_cmp it.machines other) refl
        (sym (ap (option_and_then (λ place. place))
        (found_altered machine_cmp machine_keys name (λ _. Some made) it.machines other)) ∙ is);
  }
    where
      by : (other : MachineName) (machine : Machine) (b : Bool) (o : Option (Option Machine))
          → found machine_cmp it.machines other ≡ o
          → option_and_then (λ place. place)
          (if b then option_map (λ _. Some made) (found machine_cmp it.machines other)
          else found machine_cmp it.machines other)
          ≡ Some machine
          → (machine.sweep ≡ None) ⊎ WasMachine it other machine
      by other machine true (Some old) there is =
          let e : Some made ≡ Some machine =
          (λ j. option_and_then (λ place. place) (option_map (λ (_ : Option Machine). Some made) (sym there j))) ∙ is in
          let same : made ≡ machine = cc in
          inl (ap (λ (m : Machine). m.sweep) (sym same) ∙ none)
      by other machine true None there is =
          absurd (let e : None ≡ Some machine =
          (λ j. option_and_then (λ place. place) (option_map (λ (_ : Option Machine). Some made) (sym there j))) ∙ is in
          cc)
      by other machine false o there is = inr (record { old = machine; is = is; sweep = refl; dep = refl })

  -- one is there no more
  pub keeps_dropped : (name : MachineName) → IsOnce machine_cmp it.machines
      → Keeps it (record it { machines = without machine_cmp name it.machines })
  keeps_dropped name once = record {
    works = (keeps_itself it).works;
    are_open = (keeps_itself it).are_open;
    deps = (keeps_itself it).deps;
    parts = (keeps_itself it).parts;
    orphans = (keeps_itself it).orphans;
    deployments = (keeps_itself it).deployments;
    machines = λ other machine is.
        inr (by other machine (is_at (machine_cmp name) other)
        (sym (ap (option_and_then (λ place. place))
        (found_without machine_cmp machine_keys name it.machines once other)) ∙ is));
  }
    where
      by : (other : MachineName) (machine : Machine) (b : Bool)
          → option_and_then (λ place. place) (if b then None else found machine_cmp it.machines other)
          ≡ Some machine
          → WasMachine it other machine
      by other machine true is = absurd (let e : None ≡ Some machine = is in cc)
      by other machine false is = record { old = machine; is = is; sweep = refl; dep = refl }

  -- ---- disks that belong to no instance

  -- one that is deleted at the same place
  pub keeps_disk : (disk : ℕ) (change : LooseDisk → LooseDisk)
      → ((loose : LooseDisk) → (change loose).deleting ≡ loose.deleting)
      → Keeps it (record it { orphans = changed nat_cmp disk change it.orphans })
  keeps_disk disk change same = record {
    works = (keeps_itself it).works;
    are_open = (keeps_itself it).are_open;
    deps = (keeps_itself it).deps;
    parts = (keeps_itself it).parts;
    machines = (keeps_itself it).machines;
    deployments = (keeps_itself it).deployments;
    orphans = λ d loose is.
        inr (by d loose (eqb disk d) (orphan_of it d) refl (sym (thing_at_key disk change it.orphans d) ∙ is));
  }
    where
      by : (d : ℕ) (loose : LooseDisk) (b : Bool) (o : Option LooseDisk) → orphan_of it d ≡ o
          → (if b then option_map change (orphan_of it d) else orphan_of it d) ≡ Some loose → WasLoose it d loose
      by d loose true (Some old) there is =
          let e : Some (change old) ≡ Some loose = (λ j. option_map change (sym there j)) ∙ is in
          let is_changed : change old ≡ loose = cc in
          record {
            old = old;
            is = there;
            deleting = ap (λ (it : LooseDisk). it.deleting) (sym is_changed) ∙ same old;
          }
      by d loose true None there is =
          absurd (let e : None ≡ Some loose = (λ j. option_map change (sym there j)) ∙ is in cc)
      by d loose false o there is = record { old = loose; is = is; deleting = refl }

  -- one that nobody deletes is put
  pub keeps_left : (disk : ℕ) (left : LooseDisk) → left.deleting ≡ None
      → Keeps it (record it { orphans = put_at nat_cmp disk left it.orphans })
  keeps_left disk left none = record {
    works = (keeps_itself it).works;
    are_open = (keeps_itself it).are_open;
    deps = (keeps_itself it).deps;
    parts = (keeps_itself it).parts;
    machines = (keeps_itself it).machines;
    deployments = (keeps_itself it).deployments;
    orphans = λ d loose is.
        by d loose (is_at (nat_cmp disk) d) (found nat_cmp it.orphans d) refl
        (sym (ap (option_and_then (λ place. place))
        (found_altered nat_cmp nat_keys disk (λ _. Some left) it.orphans d)) ∙ is);
  }
    where
      by : (d : ℕ) (loose : LooseDisk) (b : Bool) (o : Option (Option LooseDisk)) → found nat_cmp it.orphans d ≡ o
          → option_and_then (λ place. place)
          (if b then option_map (λ _. Some left) (found nat_cmp it.orphans d) else found nat_cmp it.orphans d)
          ≡ Some loose
          → (loose.deleting ≡ None) ⊎ WasLoose it d loose
      by d loose true (Some old) there is =
          let e : Some left ≡ Some loose =
          (λ j. option_and_then (λ place. place) (option_map (λ (_ : Option LooseDisk). Some left) (sym there j))) ∙ is in
          let same : left ≡ loose = cc in
          inl (ap (λ (it : LooseDisk). it.deleting) (sym same) ∙ none)
      by d loose true None there is =
          absurd (let e : None ≡ Some loose =
          (λ j. option_and_then (λ place. place) (option_map (λ (_ : Option LooseDisk). Some left) (sym there j))) ∙ is in
          cc)
      by d loose false o there is = inr (record { old = loose; is = is; deleting = refl })

  -- one is there no more
  pub keeps_deleted : (disk : ℕ) → IsOnce nat_cmp it.orphans
      → Keeps it (record it { orphans = without nat_cmp disk it.orphans })
  keeps_deleted disk once = record {
    works = (keeps_itself it).works;
    are_open = (keeps_itself it).are_open;
    deps = (keeps_itself it).deps;
    parts = (keeps_itself it).parts;
    machines = (keeps_itself it).machines;
    deployments = (keeps_itself it).deployments;
    orphans = λ d loose is.
        inr (by d loose (is_at (nat_cmp disk) d)
        (sym (ap (option_and_then (λ place. place)) (found_without nat_cmp nat_keys disk it.orphans once d)) ∙ is));
  }
    where
      by : (d : ℕ) (loose : LooseDisk) (b : Bool)
          → option_and_then (λ place. place) (if b then None else found nat_cmp it.orphans d) ≡ Some loose
          → WasLoose it d loose
      by d loose true is = absurd (let e : None ≡ Some loose = is in cc)
      by d loose false is = record { old = loose; is = is; deleting = refl }

  -- ---- tasks

  -- one that has the same deployment
  pub keeps_task : (n : ℕ) (change : TaskRow → TaskRow) → ((row : TaskRow) → (change row).dep ≡ row.dep)
      → Keeps it (record it { tasks = changed nat_cmp n change it.tasks })
  keeps_task n change same = record {
    works = (keeps_itself it).works;
    are_open = (keeps_itself it).are_open;
    parts = (keeps_itself it).parts;
    machines = (keeps_itself it).machines;
    orphans = (keeps_itself it).orphans;
    deployments = (keeps_itself it).deployments;
    deps = λ t.
        ap (option_and_then (λ (row : TaskRow). row.dep)) (thing_at_key n change it.tasks t)
        ∙ by (eqb n t) (thing_in nat_cmp it.tasks t);
  }
    where
      by : (b : Bool) (o : Option TaskRow)
          → option_and_then (λ (row : TaskRow). row.dep) (if b then option_map change o else o)
          ≡ option_and_then (λ row. row.dep) o
      by true (Some row) = same row
      by true None = refl
      by false o = refl
