-- The owner of a call that may begin has a deployment by the records.
use Rattle.std.proofs.Common.{◌≡◌, ◌∙◌, ◌<◌, ℕ, Bool, true, false, ◌&&◌, not, List, Option, Some, None, ap, arith, length, refl, sym}
use Rattle.std.specs.Prelude.{◌==◌, eqb, if◌then◌else◌, is_some, nat_le, nat_lt}
use Rattle.std.specs.Option.{option_and_then, option_eq, option_map}
use Rattle.std.specs.Str.{bytes_eq}
use Rattle.std.proofs.lemmas.Bool.{and_parts, eqb-true, false≢true, le-leb, ltb-true}
use Rattle.bosh_base.specs.declared.owner.Owner.{Owner}
use Rattle.bosh_base.specs.declared.owner.Owner.TheVariants.{Compile, Disk, Instance}
use Rattle.bosh_base.specs.declared.task.TaskRow.{TaskRow}
use Rattle.bosh_book.specs.Current.{dep_of}
use Rattle.bosh_history.specs.Items.{is_item, is_leftover, is_slot_left, slots_of}
use Rattle.bosh_history.specs.Known.{Slot, SlotName}
use Rattle.bosh_history.specs.Moments.{Moment}
use Rattle.bosh_history.specs.Snapshots.{task_row}
use Rattle.bosh_history.specs.Words.{is_among}
use Rattle.bosh_records.specs.Readers.{orphan_at}
use Rattle.bosh_records.specs.declared.orphans.LooseDisk.{LooseDisk}
use Rattle.bosh_records.specs.declared.records.Records.{Records}
use Rattle.laws_facts.specs.KnownFacts.{KnownFacts}
use Rattle.laws_facts.specs.Owners.{works}
use Rattle.laws_items.proofs.ItemFrames.{slot_dep}
use Rattle.laws_items.proofs.ListLemmas.{holds_some}
use Rattle.laws_items.proofs.ListedLemmas.{Lists, WorksAt, at_some, disks, instances, lists, works_at}
use Rattle.laws_items.proofs.PhaseLemmas.{IsLeft, of_item}
use Rattle.laws_stands.specs.Stands.{Stands}
use Rattle.laws_stands.specs.Told.{Told}

module _ (m : Moment) (told : Told) (records : Records) (facts : KnownFacts m) (known : told.known ≡ m.known)
    (stands : Stands told records) where
  -- it is that of the task of a compile machine
  of_task : (u s : ℕ) (dep : List ℕ) → nat_le 1 u ≡ true → nat_le u m.known.tasks ≡ true
      → (m.known.task u).dep ≡ Some dep → dep_of records (Compile u s) ≡ Some dep
  of_task u s dep low high is =
      ap (option_and_then (λ (row : TaskRow). row.dep)) (stands.tasks u)
      ∙ (λ i. option_and_then (λ (row : TaskRow). row.dep)
      (if low i && nat_le u (known i).tasks then Some (task_row (known i) u) else None))
      ∙ (λ i. option_and_then (λ (row : TaskRow). row.dep) (if high i then Some (task_row m.known u) else None)) ∙ is

  -- a machine that is recorded is of its task
  of_machine : (u s : ℕ) (row : Slot) → m.known.slot u s ≡ Some row → dep_of records (Compile u s) ≡ Some row.dep
  of_machine u s row there = of_task u s row.dep parts.0 more.0 (slot_dep m u s row facts there)
    where
      parts : (nat_le 1 u ≡ true)
          × ((nat_le u m.known.tasks && option_eq bytes_eq (Some row.dep) (m.known.task u).dep) ≡ true)
      parts = and_parts (nat_le 1 u) _
          (at_some (λ (it : Slot). nat_le 1 u && (nat_le u m.known.tasks
          && option_eq bytes_eq (Some it.dep) (m.known.task u).dep)) (m.known.slot u s) row (facts.numbers.of_tasks u s)
          there)

      more : (nat_le u m.known.tasks ≡ true) × (option_eq bytes_eq (Some row.dep) (m.known.task u).dep ≡ true)
      more = and_parts (nat_le u m.known.tasks) _ parts.1

  -- a slot of a task that works, whether it has a machine or not
  of_slot : (t s : ℕ) → works m t ≡ true → is_slot_left m.known t s ≡ true
      → (dep : List ℕ) × (dep_of records (Compile t s) ≡ Some dep)
  of_slot t s working left = by (lists m t facts working)
    where
      at : WorksAt m t
      at = works_at m t working

      within : nat_lt s (length (slots_of (m.known.task t).goal)) ≡ true
      within = (and_parts (nat_lt s (length (slots_of (m.known.task t).goal))) _ left).0

      none : s < 0 → ⊥
      none less = absurd (omega arith)

      by : Lists (m.known.task t) → (dep : List ℕ) × (dep_of records (Compile t s) ≡ Some dep)
      by (disks it) =
          absurd (none (ltb-true s 0 (sym (λ i. nat_lt s (length (slots_of (it.goal_is i)))) ∙ within)))
      by (instances it) =
          (it.dep, of_task t s it.dep (le-leb 1 t at.low) (le-leb t m.known.tasks at.high) it.dep_is)

  -- a disk that is recorded orphaned
  of_disk : (d : ℕ) → is_some (m.known.orphan d) ≡ true → (dep : List ℕ) × (dep_of records (Disk d) ≡ Some dep)
  of_disk d some = by (orphan_at records d) refl (stands.orphans d ∙ (λ i. (known i).orphan d))
    where
      by : (o : Option LooseDisk) → orphan_at records d ≡ o
          → option_map (λ (loose : LooseDisk). loose.orphan) (orphan_at records d) ≡ m.known.orphan d
          → (dep : List ℕ) × (dep_of records (Disk d) ≡ Some dep)
      by (Some loose) is same =
          (loose.orphan.inst.dep, ap (option_map (λ (it : LooseDisk). it.orphan.inst.dep)) is)
      by None is same =
          absurd (false≢true
          (ap (λ (o : Option LooseDisk). is_some (option_map (λ (loose : LooseDisk). loose.orphan) o)) (sym is)
          ∙ ap is_some same ∙ some))

  pub has_dep : (t : ℕ) (owner : Owner) → works m t ≡ true → is_item m.known t owner ≡ true
      → (dep : List ℕ) × (dep_of records owner ≡ Some dep)
  has_dep t (Instance i) working item = (i.dep, refl)
  has_dep t (Compile u s) working item =
      let left : (p : ℕ) × IsLeft m.known t (Compile u s) p = of_item m.known t (Compile u s) item in
      by (u == t) refl (is_slot_left m.known t s) refl (is_leftover m.known t name) refl left.0 left.1.phase
    where
      name : SlotName
      name = record { task = u; slot = s }

      by : (own : Bool) → (u == t) ≡ own → (left : Bool) → is_slot_left m.known t s ≡ left → (over : Bool)
          → is_leftover m.known t name ≡ over → (p : ℕ)
          → (if own then (if left then Some 2 else None) else (if over then Some 1 else None)) ≡ Some p
          → (dep : List ℕ) × (dep_of records (Compile u s) ≡ Some dep)
      by true own true left over is p at =
          let it : (dep : List ℕ) × (dep_of records (Compile t s) ≡ Some dep) = of_slot t s working left in
          (it.0, (λ i. dep_of records (Compile (eqb-true u t own i) s)) ∙ it.1)
      by true own false left over is p at = absurd cc
      by false own left is true over p at =
          let it : (row : Slot) × (m.known.slot u s ≡ Some row)
          × (option_eq bytes_eq (Some row.dep) (m.known.task t).dep ≡ true) =
          holds_some (λ (row : Slot). option_eq bytes_eq (Some row.dep) (m.known.task t).dep) (m.known.slot u s)
          (and_parts (not (u == t)) _ over).1 in
          (it.0.dep, of_machine u s it.0 it.1)
      by false own left is false over p at = absurd cc
  has_dep t (Disk d) working item =
      let left : (p : ℕ) × IsLeft m.known t (Disk d) p = of_item m.known t (Disk d) item in
      of_disk d (listed (is_among eqb d (m.known.task t).disks) (is_some (m.known.orphan d)) left.0 left.1.phase)
    where
      listed : (x y : Bool) (p : ℕ) → (if x && y then Some 0 else None) ≡ Some p → y ≡ true
      listed true true p is = refl
      listed true false p is = absurd cc
      listed false y p is = absurd cc
