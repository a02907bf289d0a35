-- What a job writes, and which machine is lost, by what is recorded: the history permits it.
use Rattle.std.proofs.Common.{◌≡◌, ◌∙◌, ℕ, zero, suc, Bool, true, false, not, List, [], ◌∷◌, Option, Some, None, ap, refl, subst, sym}
use Rattle.std.specs.Prelude.{◌&&◌, ◌||◌, ◌==◌, filter, find, map, option_map, slice_get, if◌then◌else◌}
use Rattle.std.specs.List.{list_any}
use Rattle.std.specs.Option.{option_and_then}
use Rattle.std.proofs.lemmas.Bool.{and_from, and_parts, eq-eqb, eqb-true, false≢true}
use Rattle.bosh_base.specs.CallStep.{is_attached, is_mounted_on}
use Rattle.bosh_base.specs.Cloud.{attached_to, disks_created, is_disk_mounted, is_disk_there, is_holder, is_running, is_silent, is_vm_there, machine_made, machine_of, make_of, mounted_on, numbers_to, vm_creation, vms_created}
use Rattle.bosh_base.specs.declared.entry.Effect.{Effect}
use Rattle.bosh_base.specs.declared.entry.Entry.{Entry}
use Rattle.bosh_base.specs.declared.inst.Inst.{Inst}
use Rattle.bosh_base.specs.declared.machine.Machine.{Machine}
use Rattle.bosh_base.specs.declared.make.Make.{Make}
use Rattle.bosh_base.specs.declared.owner.Owner.{Owner}
use Rattle.bosh_base.specs.declared.owner.Owner.TheVariants.{Compile, Disk, Instance}
use Rattle.bosh_base.specs.declared.row.DiskRow.{DiskRow}
use Rattle.bosh_base.specs.declared.row.Row.{Row}
use Rattle.bosh_base.specs.declared.row.Vm as vm
use Rattle.bosh_history.specs.Permitted.{is_instances}
use Rattle.bosh_history.specs.Permitted as history
use Rattle.bosh_holdings.specs.Finding.{first_of, is_its, is_of, is_owned, its_machine_of, job_disk_of, kept_if, lost_vm_of, machines_in, or_else, recorded_of, runs_with, thing_of, written_disk_of}
use Rattle.bosh_rows.specs.Disks.{active}
use Rattle.bosh_rows.specs.Same.{same_owner}
use Rattle.bosh_rows.specs.Tied.{is_made_for, vms_of}

-- ---- lists

some_is : {A : Type 0} (a b : A) → ◌≡◌ {A = Option A} (Some a) (Some b) → a ≡ b
some_is a b is = cc

-- a number of the list
abbrev IsIn : ℕ → List ℕ → Type 0
IsIn v xs = list_any (λ x. x == v) xs ≡ true

in_tail : (v x : ℕ) (xs : List ℕ) → IsIn v xs → IsIn v (x ∷ xs)
in_tail v x xs is = by (x == v) refl
  where
    by : (b : Bool) → (x == v) ≡ b → IsIn v (x ∷ xs)
    by true same = rw same refl
    by false other = rw other is

in_head : (v : ℕ) (xs : List ℕ) → IsIn v (v ∷ xs)
in_head v xs = rw (eq-eqb v v refl) refl

-- what a list tells of one of its numbers
record Told {A : Type 0} (row : ℕ → A) (xs : List ℕ) (it : A) : Type 0 where
  number : ℕ
  is_told : row number ≡ it
  is_in : IsIn number xs

told_at : {A : Type 0} (row : ℕ → A) (xs : List ℕ) (n : ℕ) (it : A) → slice_get (map row xs) n ≡ Some it
    → Told row xs it
told_at row [] n it is = absurd (let no : None ≡ Some it = is in cc)
told_at row (x ∷ xs) zero it is = record { number = x; is_told = some_is (row x) it is; is_in = in_head x xs }
told_at row (x ∷ xs) (suc n) it is = more (told_at row xs n it is)
  where
    more : Told row xs it → Told row (x ∷ xs) it
    more told = record { number = told.number; is_told = told.is_told; is_in = in_tail told.number x xs told.is_in }

told_first : {A : Type 0} (row : ℕ → A) (test : A → Bool) (xs : List ℕ) (it : A) → find test (map row xs) ≡ Some it
    → Told row xs it × (test it ≡ true)
told_first row test [] it is = absurd (let no : None ≡ Some it = is in cc)
told_first row test (x ∷ xs) it is = by (test (row x)) refl is (told_first row test xs it)
  where
    by : (b : Bool) → test (row x) ≡ b → (if b then Some (row x) else find test (map row xs)) ≡ Some it
        → (find test (map row xs) ≡ Some it → Told row xs it × (test it ≡ true))
        → Told row (x ∷ xs) it × (test it ≡ true)
    by true hit is more = (
      record { number = x; is_told = some_is (row x) it is; is_in = in_head x xs },
      sym (ap test (some_is (row x) it is)) ∙ hit,
    )
    by false miss is more =
        let rest : Told row xs it × (test it ≡ true) = more is in
        (record { number = rest.0.number; is_told = rest.0.is_told; is_in = in_tail rest.0.number x xs rest.0.is_in }, rest.1)

-- a number of the list that passes both tests
any_in : (p q : ℕ → Bool) (xs : List ℕ) (v : ℕ) → IsIn v xs → q v ≡ true → p v ≡ true → list_any p (filter q xs) ≡ true
any_in p q [] v is passes holds = absurd (false≢true is)
any_in p q (x ∷ xs) v is passes holds = by (x == v) (q x) refl refl is (λ there. any_in p q xs v there passes holds)
  where
    or_later : (b : Bool) → list_any p (filter q xs) ≡ true → (b || list_any p (filter q xs)) ≡ true
    or_later true is = refl
    or_later false is = is

    by : (b c : Bool) → (x == v) ≡ b → q x ≡ c → (b || list_any (λ x. x == v) xs) ≡ true
        → (IsIn v xs → list_any p (filter q xs) ≡ true) → list_any p (filter q (x ∷ xs)) ≡ true
    by true true same kept is more = rw kept (rw (ap p (eqb-true x v same) ∙ holds) refl)
    by true false same kept is more =
        absurd (false≢true (sym kept ∙ ap q (eqb-true x v same) ∙ passes))
    by false true other kept is more = rw kept (or_later (p x) (more is))
    by false false other kept is more = rw kept (more is)

-- a number of what passes a test passes it
any_kept : (p : ℕ → Bool) (d : ℕ) (xs : List ℕ) → IsIn d (filter p xs) → (p d ≡ true) × IsIn d xs
any_kept p d [] is = absurd (false≢true is)
any_kept p d (x ∷ xs) is = by (p x) (x == d) refl refl is (any_kept p d xs)
  where
    by : (b c : Bool) → p x ≡ b → (x == d) ≡ c → IsIn d (if b then x ∷ filter p xs else filter p xs)
        → (IsIn d (filter p xs) → (p d ≡ true) × IsIn d xs) → (p d ≡ true) × IsIn d (x ∷ xs)
    by true true kept same is more = (sym (ap p (eqb-true x d same)) ∙ kept, rw same refl)
    by true false kept other is more =
        let rest : (p d ≡ true) × IsIn d xs = more (sym (λ i. other i || list_any (λ y. y == d) (filter p xs)) ∙ is) in
        (rest.0, in_tail d x xs rest.1)
    by false c kept it is more = let rest : (p d ≡ true) × IsIn d xs = more is in (rest.0, in_tail d x xs rest.1)

-- ---- machines

-- what the cloud tells of a machine that is there
record IsMachine (effects : List Entry) (v : ℕ) (machine : Machine) : Type 0 where
  there : is_vm_there effects v ≡ true
  creation : Effect
  created : vm_creation effects v ≡ Some creation
  number : machine.vm ≡ v
  owner : machine.owner ≡ creation.owner
  running : machine.running ≡ is_running effects v
  silent : machine.silent ≡ is_silent effects v
  mounted : machine.mounted ≡ mounted_on effects v

machine_is : (effects : List Entry) (v : ℕ) (machine : Machine) → machine_of effects v ≡ Some machine
    → IsMachine effects v machine
machine_is effects v machine is = by (is_vm_there effects v) (vm_creation effects v) refl refl is
  where
    by : (b : Bool) (o : Option Effect) → is_vm_there effects v ≡ b → vm_creation effects v ≡ o
        → (if b then option_and_then (λ (e : Effect). option_map (machine_made effects v e) (make_of e.call)) o else None)
        ≡ Some machine → IsMachine effects v machine
    by false o there made is = absurd (let no : None ≡ Some machine = is in cc)
    by true None there made is = absurd (let no : None ≡ Some machine = is in cc)
    by true (Some e) there made is = of_make (make_of e.call) is
      where
        of_make : (make : Option Make) → option_map (machine_made effects v e) make ≡ Some machine
            → IsMachine effects v machine
        of_make None is = absurd (let no : None ≡ Some machine = is in cc)
        of_make (Some make) is =
            let same : machine_made effects v e make ≡ machine = some_is (machine_made effects v e make) machine is in
            record {
              there = there;
              creation = e;
              created = made;
              number = sym (ap (λ (it : Machine). it.vm) same);
              owner = sym (ap (λ (it : Machine). it.owner) same);
              running = sym (ap (λ (it : Machine). it.running) same);
              silent = sym (ap (λ (it : Machine). it.silent) same);
              mounted = sym (ap (λ (it : Machine). it.mounted) same);
            }

kept_is : {A : Type 0} (test : A → Bool) (o : Option A) (it : A) → kept_if test o ≡ Some it
    → (o ≡ Some it) × (test it ≡ true)
kept_is test None it is = absurd (let no : None ≡ Some it = is in cc)
kept_is test (Some a) it is = by (test a) refl is
  where
    by : (b : Bool) → test a ≡ b → (if b then Some a else None) ≡ Some it → (Some a ≡ Some it) × (test it ≡ true)
    by true hit is = (is, sym (ap test (some_is a it is)) ∙ hit)
    by false miss is = absurd (let none : None ≡ Some it = is in cc)

-- the machine that is an instance's own
record IsOwn (effects : List Entry) (inst : Inst) (machine : Machine) : Type 0 where
  number : ℕ
  is_machine : IsMachine effects number machine
  own : is_of inst machine ≡ true
  is_in : IsIn number (numbers_to (vms_created effects))

own_machine : (effects : List Entry) (row : Option Row) (inst : Inst) (machine : Machine)
    → its_machine_of row (machines_in effects) inst ≡ Some machine → IsOwn effects inst machine
own_machine effects row inst machine is = by (recorded_of row (machines_in effects) inst) refl is
  where
    told_so : (slot : Option Machine) → Told (machine_of effects) (numbers_to (vms_created effects)) slot
        → slot ≡ Some machine → is_of inst machine ≡ true → IsOwn effects inst machine
    told_so slot told same own = record {
      number = told.number;
      is_machine = machine_is effects told.number machine (told.is_told ∙ same);
      own = own;
      is_in = told.is_in;
    }

    at_number : (n : ℕ) → thing_of (machines_in effects) n ≡ Some machine → is_of inst machine ≡ true
        → IsOwn effects inst machine
    at_number zero is own = absurd (let no : None ≡ Some machine = is in cc)
    at_number (suc n) is own = slot (slice_get (machines_in effects) n) refl is
      where
        slot : (o : Option (Option Machine)) → slice_get (machines_in effects) n ≡ o
            → option_and_then (λ (it : Option Machine). it) o ≡ Some machine → IsOwn effects inst machine
        slot None at is = absurd (let no : None ≡ Some machine = is in cc)
        slot (Some it) at is =
            told_so it (told_at (machine_of effects) (numbers_to (vms_created effects)) n it at) is own

    by_vm : (o : Option vm.Vm)
        → option_and_then (λ (it : vm.Vm). kept_if (is_of inst) (thing_of (machines_in effects) it.vm)) o ≡ Some machine
        → IsOwn effects inst machine
    by_vm None is = absurd (let no : None ≡ Some machine = is in cc)
    by_vm (Some it) is =
        let kept : (thing_of (machines_in effects) it.vm ≡ Some machine) × (is_of inst machine ≡ true) =
        kept_is (is_of inst) (thing_of (machines_in effects) it.vm) machine is in
        at_number it.vm kept.0 kept.1

    by_row : (o : Option Row) → recorded_of o (machines_in effects) inst ≡ Some machine → IsOwn effects inst machine
    by_row None is = absurd (let no : None ≡ Some machine = is in cc)
    by_row (Some it) is = by_vm it.vm is

    first : (o : Option (Option Machine)) → find (is_its inst) (machines_in effects) ≡ o
        → option_and_then (λ (it : Option Machine). it) o ≡ Some machine → IsOwn effects inst machine
    first None at is = absurd (let no : None ≡ Some machine = is in cc)
    first (Some it) at is =
        let told : Told (machine_of effects) (numbers_to (vms_created effects)) it × (is_its inst it ≡ true) =
        told_first (machine_of effects) (is_its inst) (numbers_to (vms_created effects)) it at in
        told_so it told.0 is (sym (ap (is_its inst) is) ∙ told.1)

    by : (o : Option Machine) → recorded_of row (machines_in effects) inst ≡ o
        → or_else o (first_of (machines_in effects) inst) ≡ Some machine → IsOwn effects inst machine
    by (Some it) at is = by_row row (at ∙ is)
    by None at is = first (find (is_its inst) (machines_in effects)) refl is

-- an owner is the instance
owner_is : (inst : Inst) (owner : Owner) → is_owned inst owner ≡ same_owner owner (Instance inst)
owner_is inst (Instance whose) = refl
owner_is inst (Compile task slot) = refl
owner_is inst (Disk disk) = refl

-- ---- a write

-- the active disk of a row, which a job of its instance may write to
pub record Writes (effects : List Entry) (row : Option Row) (inst : Inst) (disk : ℕ) : Type 0 where
  pub it : Row
  pub is_row : row ≡ Some it
  pub active_one : DiskRow
  pub is_active : active it.disks ≡ Some active_one
  pub is_disk : active_one.disk ≡ disk
  pub runs : list_any (history.runs_with effects disk) (vms_of effects (Instance inst)) ≡ true

pub write_is : (effects : List Entry) (row : Option Row) (inst : Inst) (disk : ℕ)
    → written_disk_of row effects inst ≡ Some disk → Writes effects row inst disk
write_is effects row inst disk is = by row refl kept.0
  where
    kept : (job_disk_of row (machines_in effects) inst true ≡ Some disk) × (is_disk_there effects disk ≡ true)
    kept = kept_is (is_disk_there effects) (job_disk_of row (machines_in effects) inst true) disk is

    runs_on : (machine : Machine) → IsOwn effects inst machine
        → (runs_with disk machine && not machine.silent) ≡ true
        → list_any (history.runs_with effects disk) (vms_of effects (Instance inst)) ≡ true
    runs_on machine own runs =
        any_in (history.runs_with effects disk)
        (λ v. is_vm_there effects v && is_made_for (Instance inst) (vm_creation effects v))
        (numbers_to (vms_created effects)) own.number own.is_in
        (and_from (is_vm_there effects own.number) (is_made_for (Instance inst) (vm_creation effects own.number))
        own.is_machine.there
        (ap (is_made_for (Instance inst)) own.is_machine.created
        ∙ (λ i. same_owner (sym own.is_machine.owner i) (Instance inst))
        ∙ sym (owner_is inst machine.owner) ∙ own.own))
        (and_from (is_running effects own.number)
        (not (is_silent effects own.number) && is_mounted_on effects own.number disk)
        (sym own.is_machine.running ∙ run.0)
        (and_from (not (is_silent effects own.number)) (is_mounted_on effects own.number disk)
        (ap not (sym own.is_machine.silent) ∙ parts.1)
        (and_from (is_attached effects own.number disk) (is_disk_mounted effects disk)
        (and_from (is_disk_there effects disk) (is_holder effects own.number disk) kept.1 held.0) mounted.0)))
      where
        parts : (runs_with disk machine ≡ true) × (not machine.silent ≡ true)
        parts = and_parts (runs_with disk machine) (not machine.silent) runs

        run : (machine.running ≡ true) × IsIn disk machine.mounted
        run = and_parts machine.running (list_any (λ x. x == disk) machine.mounted) parts.0

        mounted : (is_disk_mounted effects disk ≡ true) × IsIn disk (attached_to effects own.number)
        mounted = any_kept (is_disk_mounted effects) disk (attached_to effects own.number)
            (subst (IsIn disk) own.is_machine.mounted run.1)

        held : (is_holder effects own.number disk ≡ true) × IsIn disk (numbers_to (disks_created effects))
        held = any_kept (is_holder effects own.number) disk (numbers_to (disks_created effects)) mounted.1

    by : (o : Option Row) → row ≡ o → job_disk_of o (machines_in effects) inst true ≡ Some disk
        → Writes effects row inst disk
    by None at is = absurd (let no : None ≡ Some disk = is in cc)
    by (Some it) at is = of_disk (active it.disks) refl is
      where
        of_disk : (o : Option DiskRow) → active it.disks ≡ o
            → option_and_then (λ (d : ℕ). option_map (λ (machine : Machine). d)
            (kept_if (λ (machine : Machine). runs_with d machine && not (true && machine.silent))
            (its_machine_of (Some it) (machines_in effects) inst)))
            (option_map (λ (d : DiskRow). d.disk) o) ≡ Some disk → Writes effects row inst disk
        of_disk None found is = absurd (let no : None ≡ Some disk = is in cc)
        of_disk (Some d) found is =
            of_machine (kept_if (λ (machine : Machine). runs_with d.disk machine && not (true && machine.silent))
            (its_machine_of (Some it) (machines_in effects) inst)) refl is
          where
            of_machine : (o : Option Machine)
                → kept_if (λ (machine : Machine). runs_with d.disk machine && not (true && machine.silent))
                (its_machine_of (Some it) (machines_in effects) inst) ≡ o
                → option_map (λ (machine : Machine). d.disk) o ≡ Some disk → Writes effects row inst disk
            of_machine None none is = absurd (let no : None ≡ Some disk = is in cc)
            of_machine (Some machine) some is =
                let passes : (its_machine_of (Some it) (machines_in effects) inst ≡ Some machine)
                × ((runs_with d.disk machine && not machine.silent) ≡ true) =
                kept_is (λ (machine : Machine). runs_with d.disk machine && not (true && machine.silent))
                (its_machine_of (Some it) (machines_in effects) inst) machine some in
                record {
                  it = it;
                  is_row = at;
                  active_one = d;
                  is_active = found;
                  is_disk = some_is d.disk disk is;
                  runs = runs_on machine (own_machine effects (Some it) inst machine passes.0)
                      (subst (λ (x : ℕ). (runs_with x machine && not machine.silent) ≡ true) (some_is d.disk disk is)
                      passes.1);
                }

-- ---- a loss

-- the machine that is lost is there, and an instance's
pub loss_is : (effects : List Entry) (row : Option Row) (inst : Inst) (v : ℕ) → lost_vm_of row effects inst ≡ Some v
    → (is_vm_there effects v && is_instances (vm_creation effects v)) ≡ true
loss_is effects row inst v is =
    and_from (is_vm_there effects v) (is_instances (vm_creation effects v)) kept.1
    (by (its_machine_of row (machines_in effects) inst) refl kept.0)
  where
    kept : (option_map (λ (machine : Machine). machine.vm) (its_machine_of row (machines_in effects) inst) ≡ Some v)
        × (is_vm_there effects v ≡ true)
    kept = kept_is (is_vm_there effects)
        (option_map (λ (machine : Machine). machine.vm) (its_machine_of row (machines_in effects) inst)) v is

    by : (o : Option Machine) → its_machine_of row (machines_in effects) inst ≡ o
        → option_map (λ (machine : Machine). machine.vm) o ≡ Some v → is_instances (vm_creation effects v) ≡ true
    by None at is = absurd (let no : None ≡ Some v = is in cc)
    by (Some machine) at is =
        subst (λ (x : ℕ). is_instances (vm_creation effects x) ≡ true)
        (sym own.is_machine.number ∙ some_is machine.vm v is)
        (ap is_instances own.is_machine.created
        ∙ of_owner own.is_machine.creation (sym (ap (is_owned inst) own.is_machine.owner) ∙ own.own))
      where
        own : IsOwn effects inst machine
        own = own_machine effects row inst machine at

        of_owner : (e : Effect) → is_owned inst e.owner ≡ true → is_instances (Some e) ≡ true
        of_owner e owned = by_kind e.owner refl owned
          where
            by_kind : (owner : Owner) → e.owner ≡ owner → is_owned inst owner ≡ true → is_instances (Some e) ≡ true
            by_kind (Instance i) same owned = rw same refl
            by_kind (Compile t s) same owned = absurd (false≢true owned)
            by_kind (Disk d) same owned = absurd (false≢true owned)
