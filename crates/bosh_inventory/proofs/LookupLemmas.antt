-- What the tables say of a number.
use Prim.Native.Nat.{zero, suc}
use Rattle.std.proofs.Common.{◌≡◌, ℕ, ◌≤◌, ◌<◌, Bool, true, false, Option, Some, None, List, [], ◌∷◌, refl, sym, ◌∙◌, ap, arith, subst, inl, inr, Bor}
use Rattle.std.specs.Option.{option_copied, option_and_then}
use Rattle.std.specs.Prelude.{◌&&◌, is_some, length, map}
use Rattle.std.specs.List.{cons_option, filter_map}
use Rattle.bosh_agent.specs.Slots.{at}
use Rattle.bosh_base.specs.Cloud.{when, vms_created, is_vm_there, machine_of, disks_created, is_disk_there, disk_of, present, holder_of, is_disk_mounted, attached_to}
use Rattle.bosh_base.specs.declared.entry.Entry.{Entry}
use Rattle.bosh_base.specs.declared.machine.Disk.{Disk}
use Rattle.bosh_base.specs.declared.machine.Machine.{Machine}
use Rattle.bosh_agent.specs.Numbers.{has}
use Rattle.std.proofs.lemmas.Bool.{eq-eqb, cases_lt}
use Rattle.bosh_inventory.proofs.AgentLemmas.{IsHeld, IsHeld-holder, IsMachine, IsMachine-found, has-attached_to}
use Rattle.bosh_inventory.proofs.PresenceLemmas.{is_held_by}
use Rattle.bosh_inventory.proofs.NumberLemmas.{has-filter, and_true}
use Rattle.bosh_inventory.proofs.SlotLemmas.{at-slots, at-slots_past, length-slots}
use Rattle.bosh_inventory.specs.Orderly.{IsOrderlyCloud, last_holder}
use Rattle.bosh_inventory.specs.Rows.{slots, AreTables}

none_is : {A : Type 0} (o : Option A) → is_some o ≡ false → o ≡ None
none_is None is = refl
none_is (Some a) is = absurd cc

-- a row in range, or one of which nothing is there
row_at : {T : Type 0} (row : ℕ → Option T) (n : ℕ) (there : ℕ → Bool) → ((v : ℕ) → there v ≡ is_some (row v)) →
    ((v : ℕ) → there v ≡ true → (1 ≤ v) × (v ≤ n)) → (v : ℕ) → at (slots row n) v ≡ row v
row_at row n there made numbered zero =
    sym (none_is (row zero) (sym (made zero) ∙ never (there zero) (λ is. (numbered zero is).0)))
  where
    never : (b : Bool) → (b ≡ true → 1 ≤ 0) → b ≡ false
    never true low = absurd (omega (arith, low refl))
    never false low = refl
row_at {T} row n there made numbered (suc k) = elim (cases_lt n (suc k)) [
  | inl past ↦ at-slots_past row n (suc k) past
      ∙ sym (none_is (row (suc k)) (sym (made (suc k)) ∙ never (there (suc k)) (λ is. (numbered (suc k) is).1) past))
  | inr within ↦ at-slots row n (suc k) (omega arith) within
]
  where
    never : (b : Bool) → (b ≡ true → suc k ≤ n) → n < suc k → b ≡ false
    never true high past = absurd (omega (arith, high refl, past))
    never false high past = refl

pub at-vms : (xs : List Entry) (vms : List (Option Machine)) (volumes : List (Option Disk))
    (holders : List (Option ℕ)) → AreTables xs vms volumes holders → (v : ℕ) → at vms v ≡ machine_of xs v
at-vms xs vms volumes holders tables v =
    ap (λ t. at t v) tables.all_vms
    ∙ row_at (machine_of xs) (vms_created xs) (is_vm_there xs) (λ u. (tables.are_orderly.vms u).made)
    (λ u is. (tables.are_orderly.vms u).numbered is) v

pub at-disks : (xs : List Entry) (vms : List (Option Machine)) (volumes : List (Option Disk))
    (holders : List (Option ℕ)) → AreTables xs vms volumes holders → (d : ℕ) → at volumes d ≡ disk_of xs d
at-disks xs vms volumes holders tables d =
    ap (λ t. at t d) tables.all_disks
    ∙ row_at (disk_of xs) (disks_created xs) (is_disk_there xs) (λ k. (tables.are_orderly.disks k).made)
    (λ k is. (tables.are_orderly.disks k).numbered is) d

pub at-holders : (xs : List Entry) (vms : List (Option Machine)) (volumes : List (Option Disk))
    (holders : List (Option ℕ)) → AreTables xs vms volumes holders → (d : ℕ) → is_disk_there xs d ≡ true →
    at holders d ≡ last_holder xs d
at-holders xs vms volumes holders tables d there =
    let numbered : (1 ≤ d) × (d ≤ disks_created xs) = (tables.are_orderly.disks d).numbered there in
    ap (λ t. at t d) tables.all_holders ∙ at-slots (last_holder xs) (disks_created xs) d numbered.0 numbered.1

-- a disk is mounted where the machine that has it says so
pub mounted-is : (xs : List Entry) → IsOrderlyCloud xs → (v d : ℕ) (m : Machine) → machine_of xs v ≡ Some m →
    holder_of xs d ≡ Some v → has d m.mounted ≡ is_disk_mounted xs d
mounted-is xs orderly v d m found holder =
    let machine : IsMachine xs v m = IsMachine-found xs v m found in
    let held : IsHeld xs v d = IsHeld-holder xs orderly v d (ap (is_held_by v) holder ∙ eq-eqb v v refl) in
    ap (λ it. has d it.mounted) (sym machine.made)
    ∙ has-filter (is_disk_mounted xs) d (attached_to xs v)
    ∙ ap (λ it. is_disk_mounted xs d && it) (has-attached_to xs v d held)
    ∙ and_true (is_disk_mounted xs d)

-- the same of a cloud that is seen as what was done to it
pub seen : (now xs : List Entry) (vms : List (Option Machine)) (volumes : List (Option Disk))
    (holders : List (Option ℕ)) → xs ≡ now → AreTables xs vms volumes holders → AreTables now vms volumes holders
seen now xs vms volumes holders is tables = subst (λ (it : List Entry). AreTables it vms volumes holders) is tables

-- the same of disks that are told
pub seen_disks : (now : List Entry) (vms : List (Option Machine)) (volumes told : List (Option Disk))
    (holders : List (Option ℕ)) → told ≡ volumes → AreTables now vms volumes holders → AreTables now vms told holders
seen_disks now vms volumes told holders is tables =
    subst (λ (it : List (Option Disk)). AreTables now vms it holders) (sym is) tables

-- what a table says is there
pub vm_there : (xs : List Entry) → IsOrderlyCloud xs → (v : ℕ) (o : Option Machine) → o ≡ machine_of xs v →
    is_some o ≡ is_vm_there xs v
vm_there xs orderly v o is = ap is_some is ∙ sym (orderly.vms v).made

pub disk_there : (xs : List Entry) → IsOrderlyCloud xs → (d : ℕ) (o : Option Disk) → o ≡ disk_of xs d →
    is_some o ≡ is_disk_there xs d
disk_there xs orderly d o is = ap is_some is ∙ sym (orderly.disks d).made

pub some_copied : {A : Type 0} (o : Option (Bor A)) → is_some (option_copied o) ≡ is_some o
some_copied None = refl
some_copied (Some a) = refl

pub holder-is : (xs : List Entry) (vms : List (Option Machine)) (volumes : List (Option Disk))
    (holders : List (Option ℕ)) → AreTables xs vms volumes holders → (d : ℕ) → is_disk_there xs d ≡ true →
    (o : Option ℕ) → o ≡ at holders d → option_and_then (present xs) o ≡ holder_of xs d
holder-is xs vms volumes holders tables d there o is =
    ap (option_and_then (present xs)) (is ∙ at-holders xs vms volumes holders tables d there)

-- a machine that has a disk is there
pub holder_there : (xs : List Entry) (d v : ℕ) → holder_of xs d ≡ Some v → is_vm_there xs v ≡ true
holder_there xs d v is = found (last_holder xs d) is
  where
    found : (o : Option ℕ) → option_and_then (present xs) o ≡ Some v → is_vm_there xs v ≡ true
    found None is = absurd cc
    found (Some u) is = each (is_vm_there xs u) refl is
      where
        each : (there : Bool) → is_vm_there xs u ≡ there → when there u ≡ Some v → is_vm_there xs v ≡ true
        each true there is = let same : u ≡ v = cc in ap (is_vm_there xs) (sym same) ∙ there
        each false there is = absurd cc

pub not_none : {A : Type 0} (o : Option A) (b : Bool) → is_some o ≡ b → b ≡ true → o ≡ None → ⊥
not_none None b is there none = cc
not_none (Some a) b is there none = cc

pub vms_made : (xs : List Entry) (vms : List (Option Machine)) (volumes : List (Option Disk))
    (holders : List (Option ℕ)) → AreTables xs vms volumes holders → length vms ≡ vms_created xs
vms_made xs vms volumes holders tables = ap length tables.all_vms ∙ length-slots (machine_of xs) (vms_created xs)

pub disks_made : (xs : List Entry) (vms : List (Option Machine)) (volumes : List (Option Disk))
    (holders : List (Option ℕ)) → AreTables xs vms volumes holders → length volumes ≡ disks_created xs
disks_made xs vms volumes holders tables = ap length tables.all_disks ∙ length-slots (disk_of xs) (disks_created xs)

-- what is there, of the slots
pub filter_map-slots : {T : Type 0} (row : ℕ → Option T) (numbers : List ℕ) →
    filter_map (λ slot. slot) (map row numbers) ≡ filter_map row numbers
filter_map-slots row [] = refl
filter_map-slots row (n ∷ numbers) = ap (cons_option (row n)) (filter_map-slots row numbers)
