-- What is left where a machine's agent falls silent, and where a running job writes.
use Rattle.std.proofs.Common.{◌≡◌, ℕ, ◌≤◌, true, false, Option, Some, List, [], ◌∷◌, ◌++◌, refl, sym, ◌∙◌, ap, arith}
use Rattle.std.specs.Prelude.{◌&&◌, if◌then◌else◌}
use Rattle.std.specs.Option.{option_map}
use Rattle.std.proofs.lemmas.Bool.{ne_eqb, eq-eqb}
use Rattle.bosh_agent.specs.Agent.{with_contents}
use Rattle.bosh_agent.specs.Slots.{with_slot}
use Rattle.bosh_base.specs.Cloud.{when, vms_created, is_silent, disks_created, is_disk_there, contents_of, is_holder, attached_to, mounted_on, machine_made, machine_of}
use Rattle.bosh_base.specs.declared.entry.Effect as effect
use Rattle.bosh_base.specs.declared.entry.Entry.{Entry}
use Rattle.bosh_base.specs.declared.machine.Disk.{Disk}
use Rattle.bosh_base.specs.declared.machine.Machine.{Machine}
use Rattle.bosh_base.specs.declared.make.Make.{Make}
use Rattle.bosh_inventory.proofs.ContentsLemmas.{Fills, slots-filled, slots-kept}
use Rattle.bosh_inventory.proofs.OrderlyLemmas.{Untouches, IsOrderlyVm-kept, IsOrderlyDisk-kept, machine_made-kept}
use Rattle.bosh_inventory.proofs.PresenceLemmas.{KeepsVms, KeepsDisks, grown, vms_created-kept, machine_of-changed, machine_of-kept, disks_created-kept, contents_of-grown, last_holder-kept, mounted_on-kept, is_disk_mounted-grown}
use Rattle.bosh_inventory.proofs.SlotLemmas.{slots_same}
use Rattle.bosh_inventory.specs.Orderly.{IsOrderlyCloud, last_holder}
use Rattle.bosh_inventory.specs.Rows.{slots, AreTables}
use Rattle.bosh_inventory.proofs.AgentLemmas.{IsMachine, IsMachine-found, ActsOn, AreTables-acted, attached_to-acted}
use Rattle.bosh_base.specs.declared.entry.Entry.TheVariants.{Lost, Write}
use Rattle.bosh_base.specs.declared.entry.Write as write
use Rattle.bosh_inventory.proofs.ActLemmas.{with_parts, sure, spec_then, running_then, drained_then, silent_then}
use Rattle.bosh_registers.specs.Changes.{silenced}

pub AreTables-silenced : (xs : List Entry) (vm : ℕ) (m : Machine) (vms : List (Option Machine))
    (volumes : List (Option Disk)) (holders : List (Option ℕ)) →
    machine_of xs vm ≡ Some m → AreTables xs vms volumes holders → AreTables
    (xs ++ Lost (record { vm = vm; whole = false }) ∷ []) (with_slot vms vm (Some (record m { silent = true })))
    volumes holders
AreTables-silenced xs vm m vms volumes holders found tables =
    let x : Entry = Lost (record { vm = vm; whole = false }) in
    let machine : IsMachine xs vm m = IsMachine-found xs vm m found in
    let keeps : KeepsVms xs x = record { makes_none = refl; created = λ v. refl; stays = λ v. refl } in
    let disks : KeepsDisks xs x = record { makes_none = refl; created = λ k. refl; stays = λ k. refl } in
    let same : (d : ℕ) → contents_of (grown xs x) d ≡ contents_of xs d = λ d. ap (λ f. f d) (contents_of-grown xs x) in
    let lists : attached_to (grown xs x) vm ≡ attached_to xs vm = attached_to-acted xs x keeps disks (λ d. refl) vm in
    let shows : mounted_on (grown xs x) vm ≡ mounted_on xs vm =
    mounted_on-kept xs (grown xs x) vm lists (is_disk_mounted-grown xs x) in
    let silent : is_silent (grown xs x) vm ≡ true = silent_then xs x vm ∙ sure vm vm refl true (is_silent xs vm) in
    let made : (e : effect.Effect) (make : Make) → machine_made (grown xs x) vm e make ≡ silenced
    (machine_made xs vm e make) =
    λ e make i. with_parts vm e make (spec_then xs x vm i) (running_then xs x vm i) (drained_then xs x vm i) (lists i)
    (shows i) (silent i) in
    let acts : ActsOn xs x vm (silenced m) volumes = record {
      vms = keeps;
      disks = disks;
      holders = λ d. refl;
      untouched =
          λ v apart. record {
            spec = refl;
            running = refl;
            drained = refl;
            silent = ap (λ it. when it true)
                (ne_eqb vm v (λ is. apart (sym is)));
          };
      mounted = λ v apart d. ap (λ it. is_holder xs v d && it) (is_disk_mounted-grown xs x d);
      machine = machine_of-changed xs x keeps vm silenced made ∙ ap (option_map silenced) found;
      empty = λ d past. same d;
      rows = tables.all_disks ∙ slots-kept xs x disks same;
    } in
    AreTables-acted xs x vm (silenced m) vms volumes volumes holders machine.there acts tables

pub AreTables-written : (xs : List Entry) (w : write.Write) (vms : List (Option Machine)) (volumes : List (Option Disk))
    (holders : List (Option ℕ)) →
    is_disk_there xs w.disk ≡ true → AreTables xs vms volumes holders → AreTables (xs ++ Write w ∷ []) vms
    (with_contents volumes w.disk w.text) holders
AreTables-written xs w vms volumes holders there tables =
    let x : Entry = Write w in
    let orderly : IsOrderlyCloud xs = tables.are_orderly in
    let disk : (1 ≤ w.disk) × (w.disk ≤ disks_created xs) = (orderly.disks w.disk).numbered there in
    let keeps : KeepsVms xs x = record { makes_none = refl; created = λ v. refl; stays = λ v. refl } in
    let disks : KeepsDisks xs x = record { makes_none = refl; created = λ k. refl; stays = λ k. refl } in
    let fills : Fills xs x w.disk w.text = record {
      filled =
          ap (λ f. f w.disk) (contents_of-grown xs x)
          ∙ ap (λ it. if it then w.text else contents_of xs w.disk) (eq-eqb w.disk w.disk refl);
      others =
          λ d apart. ap (λ f. f d) (contents_of-grown xs x)
          ∙ ap (λ it. if it then w.text else contents_of xs d) (ne_eqb d w.disk apart);
    } in
    let none : (v : ℕ) → Untouches x v = λ v. record { spec = refl; running = refl; drained = refl; silent = refl } in
    let lists : (v : ℕ) → attached_to (grown xs x) v ≡ attached_to xs v =
    λ v. attached_to-acted xs x keeps disks (λ d. refl) v in
    let machines : (v : ℕ) → machine_of (grown xs x) v ≡ machine_of xs v =
    λ v. machine_of-kept xs x keeps v (machine_made-kept xs x v (none v) (lists v)
    (mounted_on-kept xs (grown xs x) v (lists v) (is_disk_mounted-grown xs x))) in
    record {
      are_orderly = record {
        vms = λ v. IsOrderlyVm-kept xs x keeps v (λ past. none v) (orderly.vms v);
        disks =
            λ d. IsOrderlyDisk-kept xs x keeps disks d refl
            (λ past. fills.others d (λ same. omega (arith, past, same, disk.1))) (orderly.disks d);
      };
      all_vms =
          tables.all_vms
          ∙ sym (slots_same (machine_of xs) (machine_of (grown xs x)) (vms_created xs) (λ v below. machines v))
          ∙ ap (slots (machine_of (grown xs x))) (sym (vms_created-kept xs x keeps.makes_none));
      all_disks =
          ap (λ t. with_contents t w.disk w.text) tables.all_disks
          ∙ slots-filled xs x disks w.disk w.text fills disk.0 disk.1;
      all_holders =
          tables.all_holders
          ∙ sym (slots_same (last_holder xs) (last_holder (grown xs x)) (disks_created xs)
          (λ d below. last_holder-kept xs x d refl))
          ∙ ap (slots (last_holder (grown xs x))) (sym (disks_created-kept xs x disks.makes_none));
    }
