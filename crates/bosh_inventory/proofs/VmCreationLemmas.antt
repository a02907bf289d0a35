-- What the creation of a machine makes of machines and disks.
use Rattle.std.proofs.Common.{◌≡◌, ℕ, ◌+◌, true, false, Option, Some, None, List, [], refl, sym, ◌∙◌, ap, arith}
use Rattle.std.specs.Prelude.{◌≢◌, if◌then◌else◌, filter}
use Rattle.std.specs.Option.{option_map, option_and_then}
use Rattle.std.proofs.lemmas.Bool.{ne_eqb}
use Rattle.bosh_base.specs.Cloud.{when, vms_created, vm_creation, is_vm_there, disks_created, present, holder_of, is_disk_mounted, contents_of, numbers_to, make_of, is_holder, attached_to, mounted_on, machine_made, machine_of, vm_created, vm_presence}
use Rattle.bosh_base.specs.History.{chosen}
use Rattle.bosh_base.specs.declared.entry.Effect as effect
use Rattle.bosh_base.specs.declared.entry.Entry.{Entry}
use Rattle.bosh_base.specs.declared.entry.Entry.TheVariants.{Effect}
use Rattle.bosh_base.specs.declared.make.Make.{Make}
use Rattle.bosh_inventory.proofs.OrderlyLemmas.{Untouches, machine_made-kept}
use Rattle.bosh_inventory.proofs.PresenceLemmas.{KeepsDisks, grown, is_held_by, disks_created-kept, contents_of-grown, last_holder-kept, is_holder-kept, attached_to-kept, mounted_on-kept, is_disk_mounted-grown}
use Rattle.bosh_inventory.specs.Orderly.{IsOrderlyCloud, last_holder, IsUntouched}
use Rattle.bosh_base.specs.declared.call.Call.TheVariants.{CreateVm}
use Rattle.bosh_base.proofs.HistoryLemmas.{latest_seen_last}
use Rattle.std.proofs.lemmas.List.Sums.{sum_by-append}
use Rattle.bosh_inventory.proofs.NumberLemmas.{filter_none}
use Rattle.bosh_inventory.proofs.ActLemmas.{with_parts, sure}
use Rattle.bosh_inventory.specs.Made.{new_machine}

-- a creation: whose it is, and of what
pub record Creation : Type 0 where
  pub by : effect.Effect
  pub make : Make
  pub hint : List ℕ

abbrev creation_of : Creation → effect.Effect
creation_of c = record c.by { call = CreateVm c.make c.hint }

abbrev pub made_by : Creation → Entry
made_by c = Effect (creation_of c)

abbrev pub next_vm : List Entry → ℕ
next_vm xs = vms_created xs + 1

pub count-made : (xs : List Entry) (c : Creation) → vms_created (grown xs (made_by c)) ≡ vms_created xs + 1
count-made xs c = grind (arith, sum_by-append)

pub disks-made : (xs : List Entry) (c : Creation) → KeepsDisks xs (made_by c)
disks-made xs c = record { makes_none = refl; created = λ d. refl; stays = λ d. refl }

pub untouched-made : (c : Creation) (v : ℕ) → Untouches (made_by c) v
untouched-made c v = record { spec = refl; running = refl; drained = refl; silent = refl }

pub same-made : (xs : List Entry) (c : Creation) (d : ℕ) → contents_of (grown xs (made_by c)) d ≡ contents_of xs d
same-made xs c d = ap (λ f. f d) (contents_of-grown xs (made_by c))

-- another machine is there where it was, and was created as it was
pub there-made : (xs : List Entry) (c : Creation) (v : ℕ) → v ≢ next_vm xs →
    is_vm_there (grown xs (made_by c)) v ≡ is_vm_there xs v
there-made xs c v apart =
    latest_seen_last (vm_presence v) false [] xs (made_by c)
    ∙ ap (λ is. chosen (when is true) (is_vm_there xs v)) (ne_eqb (next_vm xs) v (λ is. apart (sym is)))

created-made : (xs : List Entry) (c : Creation) (v : ℕ) → v ≢ next_vm xs →
    vm_creation (grown xs (made_by c)) v ≡ vm_creation xs v
created-made xs c v apart =
    latest_seen_last (vm_created v) None [] xs (made_by c)
    ∙ ap (λ is. chosen (when is (Some (creation_of c))) (vm_creation xs v))
    (ne_eqb (next_vm xs) v (λ is. apart (sym is)))

-- no disk was attached to a machine that is not made yet, so each has the holder that it had
not_ahead : (xs : List Entry) → IsOrderlyCloud xs → (d v : ℕ) → last_holder xs d ≡ Some v → v ≢ next_vm xs
not_ahead xs orderly d v is same = omega (arith, (orderly.disks d).holder_made v is, same)

present-made : (xs : List Entry) (c : Creation) (o : Option ℕ) → ((v : ℕ) → o ≡ Some v → v ≢ next_vm xs) →
    option_and_then (present (grown xs (made_by c))) o ≡ option_and_then (present xs) o
present-made xs c None apart = refl
present-made xs c (Some v) apart = ap (λ there. when there v) (there-made xs c v (apart v refl))

pub holder-made : (xs : List Entry) → IsOrderlyCloud xs → (c : Creation) (d : ℕ) →
    holder_of (grown xs (made_by c)) d ≡ holder_of xs d
holder-made xs orderly c d =
    ap (option_and_then (present (grown xs (made_by c)))) (last_holder-kept xs (made_by c) d refl)
    ∙ present-made xs c (last_holder xs d) (not_ahead xs orderly d)

lists-made : (xs : List Entry) → IsOrderlyCloud xs → (c : Creation) (v : ℕ) →
    attached_to (grown xs (made_by c)) v ≡ attached_to xs v
lists-made xs orderly c v =
    attached_to-kept xs (grown xs (made_by c)) v (disks_created-kept xs (made_by c) refl)
    (λ d. is_holder-kept xs (grown xs (made_by c)) v d (holder-made xs orderly c d))

shows-made : (xs : List Entry) → IsOrderlyCloud xs → (c : Creation) (v : ℕ) →
    mounted_on (grown xs (made_by c)) v ≡ mounted_on xs v
shows-made xs orderly c v =
    mounted_on-kept xs (grown xs (made_by c)) v (lists-made xs orderly c v) (is_disk_mounted-grown xs (made_by c))

pub machine-apart : (xs : List Entry) → IsOrderlyCloud xs → (c : Creation) (v : ℕ) → v ≢ next_vm xs →
    machine_of (grown xs (made_by c)) v ≡ machine_of xs v
machine-apart xs orderly c v apart = λ i.
    if there-made xs c v apart i
    then option_and_then (λ e. option_map (λ make. machine_made-kept xs (made_by c) v (untouched-made c v)
    (lists-made xs orderly c v) (shows-made xs orderly c v) e make i) (make_of
    e.call)) (created-made xs c v apart i)
    else None

-- ---- the new machine

nothing_ahead : (xs : List Entry) → IsOrderlyCloud xs → attached_to xs (next_vm xs) ≡ []
nothing_ahead xs orderly =
    filter_none (is_holder xs (next_vm xs)) (numbers_to (disks_created xs))
    (λ d. none (last_holder xs d) (not_ahead xs orderly d))
  where
    none : (o : Option ℕ) → ((v : ℕ) → o ≡ Some v → v ≢ next_vm xs) →
        is_held_by (next_vm xs) (option_and_then (present xs) o) ≡ false
    none None apart = refl
    none (Some u) apart =
        elim (is_vm_there xs u) as (λ there. is_held_by (next_vm xs) (when there u) ≡ false)
        [ true ↦ ne_eqb u (next_vm xs) (apart u refl) | false ↦ refl ]

pub new-there : (xs : List Entry) (c : Creation) → is_vm_there (grown xs (made_by c)) (next_vm xs) ≡ true
new-there xs c =
    latest_seen_last (vm_presence (next_vm xs)) false [] xs (made_by c)
    ∙ sure (next_vm xs) (next_vm xs) refl true (is_vm_there xs (next_vm xs))

machine_made-new : (xs : List Entry) → IsOrderlyCloud xs → (c : Creation) →
    machine_made (grown xs (made_by c)) (next_vm xs) (creation_of c) c.make ≡ new_machine (next_vm xs) c.by c.make
machine_made-new xs orderly c =
    let before : IsUntouched xs (next_vm xs) = (orderly.vms (next_vm xs)).ahead (omega arith) in
    machine_made-kept xs (made_by c) (next_vm xs) (untouched-made c (next_vm xs)) (lists-made xs orderly c (next_vm xs))
    (shows-made xs orderly c (next_vm xs)) (creation_of c) c.make
    ∙ (λ i. with_parts (next_vm xs) c.by c.make (before.no_spec i) (before.not_running i) (before.not_drained i)
    (nothing_ahead xs orderly i) (filter (is_disk_mounted xs) (nothing_ahead xs orderly i)) (before.not_silent i))

pub machine-new : (xs : List Entry) → IsOrderlyCloud xs → (c : Creation) →
    machine_of (grown xs (made_by c)) (next_vm xs) ≡ Some (new_machine (next_vm xs) c.by c.make)
machine-new xs orderly c =
    let created : vm_creation (grown xs (made_by c)) (next_vm xs) ≡ Some (creation_of c) =
    latest_seen_last (vm_created (next_vm xs)) None [] xs (made_by c)
    ∙ sure (next_vm xs) (next_vm xs) refl (Some (creation_of c)) (vm_creation xs (next_vm xs)) in
    (λ i. if new-there xs c i then option_and_then (λ e. option_map (machine_made (grown xs (made_by c)) (next_vm xs) e)
    (make_of e.call)) (created i) else None)
    ∙ ap Some (machine_made-new xs orderly c)
