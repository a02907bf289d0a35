-- The choice among disks that are deleted, and among machines that are left over.
use Rattle.std.proofs.Common.{◌≡◌, ◌∙◌, ℕ, zero, suc, Bool, true, false, ◌&&◌, ◌||◌, not, List, [], ◌∷◌}
use Rattle.std.proofs.Common.{filter, Option, Some, None, ap, refl, sym}
use Rattle.std.specs.Prelude.{◌==◌, eqb, find, is_some, slice_get, if◌then◌else◌}
use Rattle.std.specs.Option.{option_and_then, option_map, option_or}
use Rattle.std.proofs.lemmas.Bool.{and_parts, eq-eqb, not-true, or_right}
use Rattle.bosh_base.specs.declared.call.Call.{Call}
use Rattle.bosh_base.specs.declared.call.Call.TheVariants as calls
use Rattle.bosh_base.specs.declared.entry.Entry.{Entry}
use Rattle.bosh_base.specs.declared.owner.Owner.{Owner}
use Rattle.bosh_base.specs.declared.owner.Owner.TheVariants.{Compile, Disk}
use Rattle.bosh_base.specs.declared.row.Doubt.{Doubt}
use Rattle.bosh_base.specs.declared.row.Vm.{Vm}
use Rattle.bosh_base.specs.declared.snapshot.Orphan.{Orphan}
use Rattle.bosh_claim.specs.Choice.{begun_by}
use Rattle.bosh_claim.specs.Noted.{beginning}
use Rattle.bosh_claim.specs.Sweep as sweeps
use Rattle.bosh_history.specs.Claim.{item, new_call}
use Rattle.bosh_history.specs.Items.{is_before, is_leftover}
use Rattle.bosh_history.specs.Known.{Known, Slot, SlotName, Task}
use Rattle.bosh_history.specs.Moments.{Moment}
use Rattle.bosh_history.specs.Steps.{disk_call, is_idle, own_slot, sweep_by, sweep_call}
use Rattle.bosh_history.specs.Words.{is_among}
use Rattle.bosh_records.specs.Readers as readers
use Rattle.bosh_records.specs.declared.machines.Machine.{Machine}
use Rattle.bosh_records.specs.declared.orphans.LooseDisk.{LooseDisk}
use Rattle.bosh_records.specs.declared.records.Records.{Records}
use Rattle.bosh_work.specs.declared.part.MachineName.{MachineName}
use Rattle.bosh_work.specs.declared.work.Work.{Work}
use Rattle.laws_stands.proofs.AnswerLemmas.{answers_filter, answers_find, answers_map, answers_same}
use Rattle.laws_stands.proofs.AnswerLemmas.{first_answer, gives}
use Rattle.laws_stands.proofs.LineLemmas.{first_is}
use Rattle.laws_stands.proofs.PhaseLemmas.{IsPresent, answer, is_phase, machine_owner}
use Rattle.laws_stands.proofs.PhaseLemmas.{of_disks, of_swept}
use Rattle.laws_stands.proofs.PremiseLemmas.{disk_phase, left_phase, never}
use Rattle.laws_stands.specs.Choosing.{CanChoose}
use Rattle.laws_stands.specs.Stands.{row_of_slot}
use Rattle.laws_stands.proofs.AskLemmas.{answer_at, answer_of_others, both, call_is, map_then, mapped_some}
use Rattle.laws_stands.proofs.AskLemmas.{then_same}

module _ (m : Moment) (n worker : ℕ) (records : Records) (swept : List MachineName) (work : Work)
    (can : CanChoose m n records swept work) where
  abbrev k : Known
  k = m.known

  abbrev t : Task
  t = m.known.task n

  -- ---- disks

  orphan_call : (d : ℕ) (o : Option LooseDisk) (it : Option Orphan) → option_map (λ it. it.orphan) o ≡ it
      → option_map (λ (it : Orphan). it.disk) it ≡ option_map (λ (it : Orphan). d) it
      → option_map (λ (loose : LooseDisk). new_call m n worker (Disk d) (sweeps.deletion loose)) o
      ≡ option_map (new_call m n worker (Disk d)) (option_map (disk_call d) it)
  orphan_call d (Some loose) (Some it) is number =
      let same : loose.orphan ≡ it = cc in
      let disk : it.disk ≡ d = cc in
      (λ j. Some (new_call m n worker (Disk d) (sweeps.deletion (record loose { orphan = same j }))))
      ∙ (λ j. Some (new_call m n worker (Disk d) (if is_some it.doubt then calls.HasDisk (disk j)
      else calls.DeleteDisk (disk j))))
  orphan_call d None None is number = refl
  orphan_call d (Some loose) None is number = absurd cc
  orphan_call d None (Some it) is number = absurd cc

  abbrev delete_of : ℕ → Option Entry
  delete_of d = option_map (new_call m n worker (Disk d)) (option_map (disk_call d) (k.orphan d))

  disk_gives : (d : ℕ) → gives m n worker (Disk d) ≡ (if is_idle m (Disk d) then delete_of d else None)
  disk_gives d = by (is_idle m (Disk d)) (option_map (disk_call d) (k.orphan d))
    where
      by : (b : Bool) (o : Option Call) → (if not b then None else item m n worker (Disk d) o)
          ≡ (if b then option_map (new_call m n worker (Disk d)) o else None)
      by true (Some call) = refl
      by true None = refl
      by false (Some call) = refl
      by false None = refl

  pub disks_are : IsPresent k n 0 → begun_by records work worker (sweeps.disk_call records work)
      ≡ of_disks k n (gives m n worker)
  disks_are present =
      ap (λ o. begun_by records work worker (option_and_then (sweeps.deletion_named records) o))
      (first_is t.disks (λ d. is_some (k.orphan d)) (λ d. is_idle m (Disk d)) work.disks can.disks)
      ∙ map_then (λ (it : Owner × Call). beginning records work worker it.0 it.1) (sweeps.deletion_named records)
      (find (λ d. is_some (k.orphan d) && is_idle m (Disk d)) t.disks)
      ∙ then_same (λ d. option_map (λ (it : Owner × Call). beginning records work worker it.0 it.1)
      (sweeps.deletion_named records d)) delete_of
      (find (λ d. is_some (k.orphan d) && is_idle m (Disk d)) t.disks) named
      ∙ sym (answers_same (λ d. answer k n (gives m n worker) (Disk d)) (λ d. if is_some (k.orphan d)
      && is_idle m (Disk d) then delete_of d else None) t.disks each
      ∙ answers_find (λ d. is_some (k.orphan d) && is_idle m (Disk d)) delete_of t.disks some)
    where
      named : (d : ℕ) → option_map (λ (it : Owner × Call). beginning records work worker it.0 it.1)
          (sweeps.deletion_named records d) ≡ delete_of d
      named d = of (readers.orphan_at records d) ∙ orphan_call d (readers.orphan_at records d) (k.orphan d)
          (can.orphans_are d) (can.orphan_numbers d)
        where
          of : (o : Option LooseDisk) → option_map (λ (it : Owner × Call). beginning records work worker it.0 it.1)
              (option_map (λ loose. (Disk d, sweeps.deletion loose)) o)
              ≡ option_map (λ (loose : LooseDisk). new_call m n worker (Disk d) (sweeps.deletion loose)) o
          of (Some loose) = ap Some (call_is m n worker records swept work can (Disk d) (sweeps.deletion loose))
          of None = refl

      number_among : (xs : List ℕ) (j d : ℕ) → slice_get xs j ≡ Some d → is_among eqb d xs ≡ true
      number_among [] j d is = absurd cc
      number_among (x ∷ xs) zero d is = let e : x ≡ d = cc in ap (λ b. b || is_among eqb d xs) (eq-eqb d x (sym e))
      number_among (x ∷ xs) (suc j) d is = or_right (eqb d x) (is_among eqb d xs) (number_among xs j d is)

      each : (j d : ℕ) → slice_get t.disks j ≡ Some d → answer k n (gives m n worker) (Disk d)
          ≡ (if is_some (k.orphan d) && is_idle m (Disk d) then delete_of d else None)
      each j d is = by (is_some (k.orphan d)) refl ∙ both (is_some (k.orphan d)) (is_idle m (Disk d)) (delete_of d)
        where
          among : is_among eqb d t.disks ≡ true
          among = number_among t.disks j d is

          by : (b : Bool) → is_some (k.orphan d) ≡ b → answer k n (gives m n worker) (Disk d)
              ≡ (if is_some (k.orphan d) then (if is_idle m (Disk d) then delete_of d else None) else None)
          by true there =
              answer_at m n worker records swept work can 0 present (Disk d) (never k n (Disk d))
              (disk_phase k n d among there) ∙ disk_gives d
              ∙ ap (λ b. if b then (if is_idle m (Disk d) then delete_of d else None) else None) (sym there)
          by false gone =
              answer_of_others m n worker records swept work can 0 present (Disk d) (never k n (Disk d))
              (λ i. is_phase k n 0 (if among i && gone i then Some 0 else None))
              ∙ ap (λ b. if b then (if is_idle m (Disk d) then delete_of d else None) else None) (sym gone)

      some : (j d : ℕ) → slice_get t.disks j ≡ Some d → (is_some (k.orphan d) && is_idle m (Disk d)) ≡ true
          → is_some (delete_of d) ≡ true
      some j d is passes =
          mapped_some (new_call m n worker (Disk d)) (option_map (disk_call d) (k.orphan d))
          (mapped_some (disk_call d) (k.orphan d) (and_parts (is_some (k.orphan d)) (is_idle m (Disk d)) passes).0)

  -- ---- machines that are left over

  same_sweep : (vm : Option Vm) (doubt : Option Doubt) → sweeps.sweep_by vm doubt ≡ sweep_by vm doubt
  same_sweep None None = refl
  same_sweep None (Some doubt) = refl
  same_sweep (Some vm) None = refl
  same_sweep (Some vm) (Some doubt) = refl

  abbrev sweep_of : MachineName → Option Entry
  sweep_of name = option_map (new_call m n worker (Compile name.task name.slot))
      (sweep_call (k.slot name.task name.slot))

  abbrev slot_name : MachineName → SlotName
  slot_name name = record { task = name.task; slot = name.slot }

  sweep_gives : (name : SlotName) → is_leftover k n name ≡ true → gives m n worker (machine_owner k n name)
      ≡ (if is_idle m (machine_owner k n name) then option_map (new_call m n worker (machine_owner k n name))
      (sweep_call (k.slot name.task name.slot)) else None)
  sweep_gives name left =
      ap (λ b. if not (is_idle m (machine_owner k n name)) then None else item m n worker (machine_owner k n name)
      (if b then own_slot m n name.slot (k.slot name.task name.slot)
      else sweep_call (k.slot name.task name.slot)))
      (not-true (name.task == n) (and_parts (not (name.task == n)) _ left).0)
      ∙ by (is_idle m (machine_owner k n name)) (sweep_call (k.slot name.task name.slot))
    where
      by : (b : Bool) (o : Option Call) → (if not b then None else item m n worker (machine_owner k n name) o)
          ≡ (if b then option_map (new_call m n worker (machine_owner k n name)) o else None)
      by true (Some call) = refl
      by true None = refl
      by false (Some call) = refl
      by false None = refl

  -- what is answered of a machine that is left over
  abbrev swept_of : SlotName → Option Entry
  swept_of name = if is_idle m (machine_owner k n name)
      then option_map (new_call m n worker (machine_owner k n name)) (sweep_call (k.slot name.task name.slot))
      else None

  -- one of them is left, and nobody works on it
  abbrev test : MachineName → Bool
  test name = is_some (k.slot name.task name.slot) && is_idle m (Compile name.task name.slot)

  pub sweep_is : IsPresent k n 1 → begun_by records work worker (sweeps.sweep_call records work)
      ≡ of_swept k n (gives m n worker)
  sweep_is present =
      ap (λ o. begun_by records work worker (option_and_then (sweeps.sweep_named records) o))
      (first_is swept (λ name. is_some (k.slot name.task name.slot))
      (λ name. is_idle m (Compile name.task name.slot)) work.sweep can.sweep)
      ∙ map_then (λ (it : Owner × Call). beginning records work worker it.0 it.1) (sweeps.sweep_named records)
      (find test swept)
      ∙ then_same (λ name. option_map (λ (it : Owner × Call). beginning records work worker it.0 it.1)
      (sweeps.sweep_named records name)) sweep_of (find test swept) named
      ∙ sym (in_list k.machines
      ∙ ap (first_answer swept_of) (sym can.are_swept)
      ∙ answers_map swept_of slot_name (filter (λ name. is_some (k.slot name.task name.slot)) swept)
      ∙ answers_filter (λ name. is_some (k.slot name.task name.slot)) (λ name. swept_of (slot_name name)) swept
      ∙ answers_same (λ name. if is_some (k.slot name.task name.slot) then swept_of (slot_name name) else None)
      (λ name. if test name then sweep_of name else None) swept
      (λ j name is. both (is_some (k.slot name.task name.slot)) (is_idle m (Compile name.task name.slot))
      (sweep_of name))
      ∙ answers_find test sweep_of swept some)
    where
      in_list : (xs : List SlotName) → first_answer (λ name. answer k n (gives m n worker) (machine_owner k n name))
          (filter (is_leftover k n) xs) ≡ first_answer swept_of (filter (is_leftover k n) xs)
      in_list [] = refl
      in_list (name ∷ xs) = by (is_leftover k n name) refl (in_list xs)
        where
          by : (b : Bool) → is_leftover k n name ≡ b
              → first_answer (λ name. answer k n (gives m n worker) (machine_owner k n name))
              (filter (is_leftover k n) xs) ≡ first_answer swept_of (filter (is_leftover k n) xs)
              → first_answer (λ name. answer k n (gives m n worker) (machine_owner k n name))
              (if b then name ∷ filter (is_leftover k n) xs else filter (is_leftover k n) xs)
              ≡ first_answer swept_of (if b then name ∷ filter (is_leftover k n) xs
              else filter (is_leftover k n) xs)
          by true left more =
              λ j. option_or
              ((answer_at m n worker records swept work can 1 present (machine_owner k n name)
              (ap (λ o. not (is_before 1 o)) (left_phase k n name left)) (left_phase k n name left)
              ∙ sweep_gives name left) j) (more j)
          by false left more = more

      named : (name : MachineName) → option_map (λ (it : Owner × Call). beginning records work worker it.0 it.1)
          (sweeps.sweep_named records name) ≡ sweep_of name
      named name =
          of (option_and_then sweeps.sweep_of (readers.machine_at records name))
          ∙ ap (option_map (new_call m n worker (Compile name.task name.slot)))
          (by (readers.machine_at records name) (k.slot name.task name.slot)
          (can.machine_rows name.task name.slot))
        where
          of : (o : Option Call) → option_map (λ (it : Owner × Call). beginning records work worker it.0 it.1)
              (option_map (λ call. (Compile name.task name.slot, call)) o)
              ≡ option_map (new_call m n worker (Compile name.task name.slot)) o
          of (Some call) = ap Some (call_is m n worker records swept work can (Compile name.task name.slot) call)
          of None = refl

          by : (o : Option Machine) (slot : Option Slot) → option_map (λ it. it.row) o
              ≡ option_map (row_of_slot name.task name.slot) slot
              → option_and_then sweeps.sweep_of o ≡ sweep_call slot
          by (Some machine) (Some it) row =
              let is : machine.row ≡ row_of_slot name.task name.slot it = cc in
              (λ j. sweeps.sweep_by (is j).vm (is j).doubt) ∙ same_sweep it.vm it.doubt
          by None None row = refl
          by (Some machine) None row = absurd cc
          by None (Some it) row = absurd cc

      some : (j : ℕ) (name : MachineName) → slice_get swept j ≡ Some name → test name ≡ true
          → is_some (sweep_of name) ≡ true
      some j name is passes =
          mapped_some (new_call m n worker (Compile name.task name.slot)) (sweep_call (k.slot name.task name.slot))
          (can.sweep_calls name.task name.slot (and_parts (is_some (k.slot name.task name.slot))
          (is_idle m (Compile name.task name.slot)) passes).0)
