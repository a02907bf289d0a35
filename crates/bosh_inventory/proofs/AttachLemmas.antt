-- What an attach and a detach leave.
use Rattle.std.proofs.Common.{◌≡◌, ℕ, ◌≤◌, Bool, true, false, Option, Some, None, List, [], ◌∷◌, ◌++◌, refl, sym, ◌∙◌, ap, subst, inl, inr}
use Rattle.std.specs.Prelude.{◌≢◌, ◌⊎◌, ◌==◌, ◌&&◌, ◌||◌, not, filter, is_some}
use Rattle.std.specs.Option.{option_and_then}
use Rattle.std.proofs.lemmas.Bool.{ne_eqb, eq-eqb}
use Rattle.bosh_agent.specs.Numbers.{with_number, without_number}
use Rattle.bosh_agent.specs.Slots.{with_slot}
use Rattle.bosh_base.specs.Cloud.{when, vms_created, is_vm_there, disks_created, is_disk_there, present, holder_of, is_disk_mounted, numbers_to, is_holder, attached_to, machine_of}
use Rattle.bosh_base.specs.declared.entry.Effect as effect
use Rattle.bosh_base.specs.declared.entry.Entry.{Entry}
use Rattle.bosh_base.specs.declared.entry.Entry.TheVariants.{Effect}
use Rattle.bosh_base.specs.declared.machine.Disk.{Disk}
use Rattle.bosh_base.specs.declared.machine.Machine.{Machine}
use Rattle.bosh_inventory.proofs.NumberLemmas.{PartsAt-numbers_to, filter-with_number, filter-without_number}
use Rattle.bosh_inventory.proofs.PresenceLemmas.{grown, is_held_by, disks_created-kept, contents_of-grown, is_disk_mounted-grown}
use Rattle.bosh_inventory.specs.Orderly.{IsOrderlyCloud}
use Rattle.bosh_inventory.specs.Rows.{AreTables}
use Rattle.bosh_base.specs.declared.call.Call.TheVariants.{AttachDisk, DetachDisk}
use Rattle.bosh_base.specs.declared.owner.Owner.{Owner}
use Rattle.bosh_inventory.proofs.AgentLemmas.{IsMachine, IsMachine-found, held_apart}
use Rattle.bosh_base.specs.CallStep.{is_movable}
use Rattle.bosh_inventory.proofs.ActLemmas.{some_same, sure}
use Rattle.bosh_inventory.proofs.MoveLemmas.{Moves, is_holder-moved, is_holder-apart, AreTables-moved}
use Rattle.bosh_registers.specs.Changes.{holding}

-- ---- a disk that may be moved

-- what `is_movable` says
pub record IsMovable (xs : List Entry) (v d : ℕ) : Type 0 where
  pub there : is_disk_there xs d ≡ true
  pub holder : (holder_of xs d ≡ None) ⊎ (is_holder xs v d ≡ true)
  pub unmounted : (u : ℕ) → (is_holder xs u d && is_disk_mounted xs d) ≡ false

movable : (v : ℕ) (there mounted : Bool) (o : Option ℕ) →
    (there && ((not (is_some o) || is_held_by v o) && not (is_some o && mounted))) ≡ true →
    (there ≡ true) × ((o ≡ None) ⊎ (is_held_by v o ≡ true)) × ((u : ℕ) → (is_held_by u o && mounted) ≡ false)
movable v false mounted o is = absurd cc
movable v true mounted None is = (refl, inl refl, λ u. refl)
movable v true true (Some w) is = absurd (never (w == v) is)
  where
    never : (b : Bool) → ((false || b) && not (true && true)) ≡ true → ⊥
    never true is = cc
    never false is = cc
movable v true false (Some w) is = (refl, inr (held (w == v) is), λ u. none (w == u))
  where
    held : (b : Bool) → ((false || b) && not (true && false)) ≡ true → b ≡ true
    held true is = refl
    held false is = is

    none : (b : Bool) → (b && false) ≡ false
    none true = refl
    none false = refl

pub IsMovable-shown : (xs : List Entry) (v d : ℕ) → is_movable xs v d ≡ true → IsMovable xs v d
IsMovable-shown xs v d is =
    let all : (is_disk_there xs d ≡ true) × ((holder_of xs d ≡ None) ⊎ (is_holder xs v d ≡ true)) ×
    ((u : ℕ) → (is_holder xs u d && is_disk_mounted xs d) ≡ false) =
    movable v (is_disk_there xs d) (is_disk_mounted xs d) (holder_of xs d) is in
    record { there = all.0; holder = all.1; unmounted = all.2 }

-- another machine does not have it
not_elsewhere : (xs : List Entry) (v d : ℕ) → IsMovable xs v d → (u : ℕ) → u ≢ v → is_holder xs u d ≡ false
not_elsewhere xs v d free u apart = elim free.holder [
  | inl none ↦ ap (is_held_by u) none
  | inr here ↦ held_apart v u (holder_of xs d) (λ same. apart (sym same)) here
]

and_none : (b : Bool) → (b && false) ≡ false
and_none true = refl
and_none false = refl

Moves-attach : (xs : List Entry) (n : ℕ) (owner : Owner) (dep : List ℕ) (vm d : ℕ) → is_vm_there xs vm ≡ true →
    vm ≤ vms_created xs → IsMovable xs vm d →
    Moves xs (Effect (record { n = n; owner = owner; dep = dep; call = AttachDisk vm d })) vm d (Some vm)
Moves-attach xs n owner dep vm d there made free =
    let x : Entry = Effect (record { n = n; owner = owner; dep = dep; call = AttachDisk vm d }) in
    record {
      vms = record { makes_none = refl; created = λ v. refl; stays = λ v. refl };
      disks = record { makes_none = refl; created = λ k. refl; stays = λ k. refl };
      untouched = λ v. record { spec = refl; running = refl; drained = refl; silent = refl };
      same = λ k. ap (λ f. f k) (contents_of-grown xs x);
      there = free.there;
      holders = λ k. refl;
      made = λ v is. subst (λ (n : ℕ). n ≤ vms_created xs) (some_same vm v is) made;
      unmounted = free.unmounted;
      hidden = λ v.
          ap (λ it. is_held_by v (option_and_then (present xs) (Some vm)) && it)
          (is_disk_mounted-grown xs x d ∙ sure d d refl false (is_disk_mounted xs d))
          ∙ and_none (is_held_by v (option_and_then (present xs) (Some vm)));
      mounts = λ k apart. ap (λ it. when it false) (ne_eqb d k (λ same. apart (sym same)));
      others = λ v apart.
          ap (λ it. is_held_by v (when it vm)) there
          ∙ ne_eqb vm v (λ same. apart (sym same))
          ∙ sym (not_elsewhere xs vm d free v apart);
    }

Moves-detach : (xs : List Entry) (n : ℕ) (owner : Owner) (dep : List ℕ) (vm d : ℕ) → IsMovable xs vm d →
    Moves xs (Effect (record { n = n; owner = owner; dep = dep; call = DetachDisk vm d })) vm d None
Moves-detach xs n owner dep vm d free =
    let x : Entry = Effect (record { n = n; owner = owner; dep = dep; call = DetachDisk vm d }) in
    record {
      vms = record { makes_none = refl; created = λ v. refl; stays = λ v. refl };
      disks = record { makes_none = refl; created = λ k. refl; stays = λ k. refl };
      untouched = λ v. record { spec = refl; running = refl; drained = refl; silent = refl };
      same = λ k. ap (λ f. f k) (contents_of-grown xs x);
      there = free.there;
      holders = λ k. refl;
      made = λ v is. absurd cc;
      unmounted = free.unmounted;
      hidden = λ v. refl;
      mounts = λ k apart. refl;
      others = λ v apart. sym (not_elsewhere xs vm d free v apart);
    }

-- ---- the tables after an attach, and after a detach

pub AreTables-attach : (xs : List Entry) (e : effect.Effect) (vm d : ℕ) (m : Machine) (vms : List (Option Machine))
    (volumes : List (Option Disk)) (holders : List (Option ℕ)) →
    e.call ≡ AttachDisk vm d → machine_of xs vm ≡ Some m → is_movable xs vm d ≡ true → AreTables xs vms volumes
    holders →
    AreTables (xs ++ Effect e ∷ []) (with_slot vms vm (Some (holding (with_number d m.attached) m))) volumes
    (with_slot holders d (Some vm))
AreTables-attach xs e vm d m vms volumes holders is found may tables =
    let machine : IsMachine xs vm m = IsMachine-found xs vm m found in
    let free : IsMovable xs vm d = IsMovable-shown xs vm d may in
    let orderly : IsOrderlyCloud xs = tables.are_orderly in
    let disk : (1 ≤ d) × (d ≤ disks_created xs) = (orderly.disks d).numbered free.there in
    let x : effect.Effect = record e { call = AttachDisk vm d } in
    let moves : Moves xs (Effect x) vm d (Some vm) =
    Moves-attach xs e.n e.owner e.dep vm d machine.there ((orderly.vms vm).numbered machine.there).1 free in
    let here : is_holder (grown xs (Effect x)) vm d ≡ true =
    is_holder-moved xs (Effect x) vm d (Some vm) moves vm ∙ ap (λ it. is_held_by vm (when it vm)) machine.there
    ∙ eq-eqb vm vm refl in
    let lists : attached_to (grown xs (Effect x)) vm ≡ with_number d m.attached =
    ap (λ n. filter (is_holder (grown xs (Effect x)) vm) (numbers_to n))
    (disks_created-kept xs (Effect x) moves.disks.makes_none)
    ∙ filter-with_number (is_holder xs vm) (is_holder (grown xs (Effect x)) vm) d (numbers_to (disks_created xs))
    (PartsAt-numbers_to d (disks_created xs) disk.0 disk.1) here
    (λ k apart. is_holder-apart xs (Effect x) vm d (Some vm) moves vm k apart)
    ∙ ap (λ it. with_number d it.attached) machine.made in
    let P : Entry → Type 0 =
    λ entry. AreTables (xs ++ entry ∷ []) (with_slot vms vm (Some (holding (with_number d m.attached) m))) volumes
    (with_slot holders d (Some vm)) in
    subst P (ap (λ call. Effect (record e { call = call })) (sym is))
    (AreTables-moved xs (Effect x) vm d (Some vm) m (with_number d m.attached) vms volumes holders found moves lists
    tables)

pub AreTables-detach : (xs : List Entry) (e : effect.Effect) (vm d : ℕ) (m : Machine) (vms : List (Option Machine))
    (volumes : List (Option Disk)) (holders : List (Option ℕ)) →
    e.call ≡ DetachDisk vm d → machine_of xs vm ≡ Some m → is_movable xs vm d ≡ true → AreTables xs vms volumes
    holders →
    AreTables (xs ++ Effect e ∷ []) (with_slot vms vm (Some (holding (without_number d m.attached) m))) volumes
    (with_slot holders d None)
AreTables-detach xs e vm d m vms volumes holders is found may tables =
    let machine : IsMachine xs vm m = IsMachine-found xs vm m found in
    let free : IsMovable xs vm d = IsMovable-shown xs vm d may in
    let x : effect.Effect = record e { call = DetachDisk vm d } in
    let moves : Moves xs (Effect x) vm d None = Moves-detach xs e.n e.owner e.dep vm d free in
    let lists : attached_to (grown xs (Effect x)) vm ≡ without_number d m.attached =
    ap (λ n. filter (is_holder (grown xs (Effect x)) vm) (numbers_to n))
    (disks_created-kept xs (Effect x) moves.disks.makes_none)
    ∙ filter-without_number (is_holder xs vm) (is_holder (grown xs (Effect x)) vm) d (numbers_to (disks_created xs))
    (is_holder-moved xs (Effect x) vm d None moves vm)
    (λ k apart. is_holder-apart xs (Effect x) vm d None moves vm k apart)
    ∙ ap (λ it. without_number d it.attached) machine.made in
    let P : Entry → Type 0 =
    λ entry. AreTables (xs ++ entry ∷ []) (with_slot vms vm (Some (holding (without_number d m.attached) m))) volumes
    (with_slot holders d None) in
    subst P (ap (λ call. Effect (record e { call = call })) (sym is))
    (AreTables-moved xs (Effect x) vm d None m (without_number d m.attached) vms volumes holders found moves lists
    tables)
