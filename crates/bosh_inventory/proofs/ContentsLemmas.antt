-- What a write or a migration leaves in the table of disks.
use Rattle.std.proofs.Common.{◌≡◌, ℕ, ◌≤◌, Bool, true, false, Option, Some, None, List, refl, sym, ◌∙◌, ap}
use Rattle.std.specs.Prelude.{◌≢◌, if◌then◌else◌}
use Rattle.std.specs.Option.{option_map, option_and_then}
use Rattle.bosh_agent.specs.Agent.{filled, with_contents}
use Rattle.bosh_agent.specs.Slots.{with_slot}
use Rattle.bosh_base.specs.Cloud.{contents_of, disks_created, disk_creation, is_disk_there, want_of, disk_made, disk_of}
use Rattle.bosh_base.specs.declared.disk_want.DiskWant.{DiskWant}
use Rattle.bosh_base.specs.declared.entry.Effect as effect
use Rattle.bosh_base.specs.declared.entry.Entry.{Entry}
use Rattle.bosh_base.specs.declared.machine.Disk.{Disk}
use Rattle.bosh_inventory.proofs.PresenceLemmas.{KeepsDisks, grown, disk_of-changed, disk_of-kept, disks_created-kept}
use Rattle.bosh_inventory.proofs.SlotLemmas.{at-slots, slots-with_slot, slots_same}
use Rattle.bosh_inventory.specs.Rows.{slots}

-- the contents of a disk that is there
made_contents : (text : List ℕ) (made : effect.Effect → DiskWant → Disk) →
    ((e : effect.Effect) (want : DiskWant) → (made e want).contents ≡ text) →
    (there : Bool) (e : Option effect.Effect) (disk : Disk) →
    (if there then option_and_then (λ e. option_map (made e) (want_of e.call)) e else None) ≡ Some
    disk → disk.contents ≡ text
made_contents text made is false e disk same = absurd cc
made_contents text made is true None disk same = absurd cc
made_contents text made is true (Some e) disk same = each (want_of e.call) same
  where
    each : (want : Option DiskWant) → option_map (made e) want ≡ Some disk → disk.contents ≡ text
    each None same = absurd cc
    each (Some want) same =
        let it : made e want ≡ disk = cc in
        ap (λ d. d.contents) (sym it) ∙ is e want

pub disk_of-contents : (xs : List Entry) (d : ℕ) (disk : Disk) → disk_of xs d ≡ Some disk →
    disk.contents ≡ contents_of xs d
disk_of-contents xs d disk is =
    made_contents (contents_of xs d) (disk_made xs d) (λ e want. refl) (is_disk_there xs d) (disk_creation xs d) disk is

-- an entry gives disk d these contents, and leaves those of the others
pub record Fills (xs : List Entry) (x : Entry) (d : ℕ) (text : List ℕ) : Type 0 where
  pub filled : contents_of (grown xs x) d ≡ text
  pub others : (other : ℕ) → other ≢ d → contents_of (grown xs x) other ≡ contents_of xs other

pub slots-filled : (xs : List Entry) (x : Entry) → KeepsDisks xs x → (d : ℕ) (text : List ℕ) → Fills xs x d text →
    1 ≤ d → d ≤ disks_created xs →
    with_contents (slots (disk_of xs) (disks_created xs)) d text ≡ slots (disk_of (grown xs x))
    (disks_created (grown xs x))
slots-filled xs x keeps d text fills low high =
    let made : (e : effect.Effect) (want : DiskWant) → disk_made (grown xs x) d e want ≡ filled text
    (disk_made xs d e want) =
    λ e want i. record { disk = d; tag = e.n; owner = e.owner; want = want; contents = fills.filled i } in
    let changed : disk_of (grown xs x) d ≡ option_map (filled text) (disk_of xs d) =
    disk_of-changed xs x keeps d (filled text) made in
    ap (λ o. with_slot (slots (disk_of xs) (disks_created xs)) d (option_map (filled text) o))
    (at-slots (disk_of xs) (disks_created xs) d low high)
    ∙ ap (λ o. with_slot (slots (disk_of xs) (disks_created xs)) d o) (sym changed)
    ∙ slots-with_slot (disk_of xs) (disk_of (grown xs x)) (disks_created xs) d low high
    (λ other apart. disk_of-kept xs x keeps other (fills.others other apart))
    ∙ ap (slots (disk_of (grown xs x))) (sym (disks_created-kept xs x keeps.makes_none))

-- the table stays where all contents do
pub slots-kept : (xs : List Entry) (x : Entry) → KeepsDisks xs x →
    ((d : ℕ) → contents_of (grown xs x) d ≡ contents_of xs d) →
    slots (disk_of xs) (disks_created xs) ≡ slots (disk_of (grown xs x)) (disks_created (grown xs x))
slots-kept xs x keeps same =
    sym (slots_same (disk_of xs) (disk_of (grown xs x)) (disks_created xs)
    (λ d below. disk_of-kept xs x keeps d (same d)))
    ∙ ap (slots (disk_of (grown xs x))) (sym (disks_created-kept xs x keeps.makes_none))
