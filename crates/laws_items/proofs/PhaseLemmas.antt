-- What is left of a task: its owners by their phases.
use Rattle.std.proofs.Common.{◌≡◌, ◌∙◌, ℕ, ◌+◌, ◌<◌, Bool, true, false, ◌&&◌, not, List, ◌++◌}
use Rattle.std.proofs.Common.{length, map, filter, Option, Some, None, ap, refl, sym, subst}
use Rattle.std.specs.Prelude.{◌==◌, eqb, is_some, nat_lt, if◌then◌else◌}
use Rattle.std.proofs.lemmas.Bool.{and_parts, eqb-true, ltb-true}
use Rattle.bosh_base.specs.declared.inst.Inst.{Inst}
use Rattle.bosh_base.specs.declared.owner.Owner.{Owner}
use Rattle.bosh_base.specs.declared.owner.Owner.TheVariants.{Instance, Compile, Disk}
use Rattle.bosh_history.specs.Items.{candidates, is_before, is_item, is_leftover, is_slot_left, is_to_change}
use Rattle.bosh_history.specs.Items.{is_to_go, is_to_ping, none_left_before, phase_of, slots_of, stage_of}
use Rattle.bosh_history.specs.Known.{Known, Slot, SlotName, Task, plan_in}
use Rattle.bosh_history.specs.Words.{holds, is_among, numbers_below}
use Rattle.bosh_rows.proofs.SameLemmas.{same_inst_decides}
use Rattle.bosh_rows.specs.Same.{same_inst}
use Rattle.laws_items.proofs.ListLemmas.{all_from, all_in, among_is, below_in, holds_some, in_back, in_filtered}
use Rattle.laws_items.proofs.ListLemmas.{in_front, in_mapped}
use Rattle.laws_items.specs.Lists.{IsIn}
use Rattle.laws_tasks.proofs.CountLemmas.{not_so}

-- ---- the owners of a task

module _ (k : Known) (t : ℕ) where
  abbrev T : Task
  T = k.task t

  abbrev pings : List Owner
  pings = map Instance (filter (is_to_ping (k.task t)) (k.task t).to_ping)

  abbrev swept : List Owner
  swept = map (λ name. Compile name.task name.slot) (filter (is_leftover k t) k.machines)

  abbrev slotted : List Owner
  slotted = map (Compile t) (numbers_below (length (slots_of (k.task t).goal)))

  abbrev leaving : List Owner
  leaving = map Instance (filter (is_to_go (k.task t)) (k.task t).obsolete)

  abbrev changing : List Owner
  changing = map Instance (k.task t).changed

  abbrev deleted : List Owner
  deleted = map Disk (k.task t).disks

  of_changing : (o : Owner) → IsIn o (pings ++ swept ++ slotted ++ leaving ++ changing) → IsIn o (candidates k t)
  of_changing o is = in_front o (pings ++ swept ++ slotted ++ leaving ++ changing) deleted is

  of_leaving : (o : Owner) → IsIn o (pings ++ swept ++ slotted ++ leaving) → IsIn o (candidates k t)
  of_leaving o is = of_changing o (in_front o (pings ++ swept ++ slotted ++ leaving) changing is)

  of_slotted : (o : Owner) → IsIn o (pings ++ swept ++ slotted) → IsIn o (candidates k t)
  of_slotted o is = of_leaving o (in_front o (pings ++ swept ++ slotted) leaving is)

  of_swept : (o : Owner) → IsIn o (pings ++ swept) → IsIn o (candidates k t)
  of_swept o is = of_slotted o (in_front o (pings ++ swept) slotted is)

  pub tried_ping : (i : Inst) → IsIn i (k.task t).to_ping → is_to_ping (k.task t) i ≡ true
      → IsIn (Instance i) (candidates k t)
  tried_ping i is asked =
      of_swept (Instance i)
      (in_front (Instance i) pings swept
      (in_mapped Instance i (filter (is_to_ping (k.task t)) (k.task t).to_ping)
      (in_filtered (is_to_ping (k.task t)) i (k.task t).to_ping is asked)))

  pub tried_left : (name : SlotName) → IsIn name k.machines → is_leftover k t name ≡ true
      → IsIn (Compile name.task name.slot) (candidates k t)
  tried_left name is left =
      of_swept (Compile name.task name.slot)
      (in_back (Compile name.task name.slot) pings swept
      (in_mapped (λ (name : SlotName). Compile name.task name.slot) name (filter (is_leftover k t) k.machines)
      (in_filtered (is_leftover k t) name k.machines is left)))

  pub tried_slot : (s : ℕ) → s < length (slots_of (k.task t).goal) → IsIn (Compile t s) (candidates k t)
  tried_slot s below =
      of_slotted (Compile t s)
      (in_back (Compile t s) (pings ++ swept) slotted
      (in_mapped (Compile t) s (numbers_below (length (slots_of (k.task t).goal)))
      (below_in s (length (slots_of (k.task t).goal)) below)))

  pub tried_gone : (i : Inst) → IsIn i (k.task t).obsolete → is_to_go (k.task t) i ≡ true
      → IsIn (Instance i) (candidates k t)
  tried_gone i is goes =
      of_leaving (Instance i)
      (in_back (Instance i) (pings ++ swept ++ slotted) leaving
      (in_mapped Instance i (filter (is_to_go (k.task t)) (k.task t).obsolete)
      (in_filtered (is_to_go (k.task t)) i (k.task t).obsolete is goes)))

  pub tried_change : (i : Inst) → IsIn i (k.task t).changed → IsIn (Instance i) (candidates k t)
  tried_change i is =
      of_changing (Instance i)
      (in_back (Instance i) (pings ++ swept ++ slotted ++ leaving) changing
      (in_mapped Instance i (k.task t).changed is))

  pub tried_disk : (d : ℕ) → IsIn d (k.task t).disks → IsIn (Disk d) (candidates k t)
  tried_disk d is =
      in_back (Disk d) (pings ++ swept ++ slotted ++ leaving ++ changing) deleted (in_mapped Disk d (k.task t).disks is)

  pub among_inst : (i : Inst) (xs : List Inst) → is_among same_inst i xs ≡ true → IsIn i xs
  among_inst i xs is = among_is same_inst (λ a b. (same_inst_decides a b).0) i xs is

  -- an owner of whom something is left is tried, where each recorded compile machine is listed
  pub tried : ((name : SlotName) → is_some (k.slot name.task name.slot) ≡ true → IsIn name k.machines) → (o : Owner)
      (p : ℕ) → phase_of k t o ≡ Some p → IsIn o (candidates k t)
  tried listed (Instance i) p at = by (is_to_ping T i) (is_to_go T i) (is_to_change T i) refl refl refl at
    where
      by : (ping go change : Bool) → is_to_ping T i ≡ ping → is_to_go T i ≡ go → is_to_change T i ≡ change
          → (if ping then Some 0 else (if go then Some 3
          else (if change then Some (4 + stage_of (plan_in T.goal i)) else None))) ≡ Some p
          → IsIn (Instance i) (candidates k t)
      by true go change asked leaves changes at =
          tried_ping i (among_inst i T.to_ping (and_parts (is_among same_inst i T.to_ping) _ asked).0) asked
      by false true change asked leaves changes at =
          tried_gone i (among_inst i T.obsolete (and_parts (is_among same_inst i T.obsolete) _ leaves).0) leaves
      by false false true asked leaves changes at =
          tried_change i (among_inst i T.changed (and_parts (is_among same_inst i T.changed) _ changes).0)
      by false false false asked leaves changes at = absurd cc
  tried listed (Compile task s) p at =
      by (task == t) refl (is_slot_left k t s) (is_leftover k t (record { task = task; slot = s })) refl refl at
    where
      by : (own : Bool) → (task == t) ≡ own → (left over : Bool) → is_slot_left k t s ≡ left
          → is_leftover k t (record { task = task; slot = s }) ≡ over
          → (if own then (if left then Some 2 else None) else (if over then Some 1 else None)) ≡ Some p
          → IsIn (Compile task s) (candidates k t)
      by true own true over left leftover at =
          subst (λ (n : ℕ). IsIn (Compile n s) (candidates k t)) (sym (eqb-true task t own))
          (tried_slot s (ltb-true s (length (slots_of (k.task t).goal)) (and_parts (nat_lt s _) _ left).0))
      by true own false over left leftover at = absurd cc
      by false own left true is leftover at =
          tried_left (record { task = task; slot = s })
          (listed (record { task = task; slot = s })
          (let it : (x : Slot) × (k.slot task s ≡ Some x) × _ = holds_some _ (k.slot task s)
          (and_parts (not (task == t)) _ leftover).1 in
          ap is_some it.1))
          leftover
      by false own left false is leftover at = absurd cc
  tried listed (Disk d) p at = by (is_among eqb d (k.task t).disks && is_some (k.orphan d)) refl at
    where
      by : (b : Bool) → (is_among eqb d (k.task t).disks && is_some (k.orphan d)) ≡ b
          → (if b then Some 0 else None) ≡ Some p → IsIn (Disk d) (candidates k t)
      by true is at =
          tried_disk d (among_is eqb eqb-true d (k.task t).disks (and_parts (is_among eqb d (k.task t).disks) _ is).0)
      by false is at = absurd cc

  -- ---- items

  -- an owner is an item of the present phase
  pub record IsLeft (o : Owner) (p : ℕ) : Type 0 where
    pub phase : phase_of k t o ≡ Some p
    pub present : none_left_before k t p ≡ true

  pub of_item : (o : Owner) → is_item k t o ≡ true → (p : ℕ) × IsLeft o p
  of_item o item =
      let it : (p : ℕ) × (phase_of k t o ≡ Some p) × (none_left_before k t p ≡ true) =
      holds_some (none_left_before k t) (phase_of k t o) item in
      (it.0, record { phase = it.1; present = it.2 })

  pub is_item_at : (o : Owner) (p : ℕ) → phase_of k t o ≡ Some p → none_left_before k t p ≡ true → is_item k t o ≡ true
  is_item_at o p at present = ap (holds (none_left_before k t)) at ∙ present

-- ---- nothing is left before a phase

-- nothing is left of any owner before the phase
abbrev pub NoneBefore : Known → ℕ → ℕ → Type 0
NoneBefore k t p = (owner : Owner) → is_before p (phase_of k t owner) ≡ false

-- each recorded compile machine is listed
abbrev pub AreListed : Known → Type 0
AreListed k = (name : SlotName) → is_some (k.slot name.task name.slot) ≡ true → IsIn name k.machines

pub none_before : (k : Known) (t p : ℕ) → AreListed k → none_left_before k t p ≡ true → NoneBefore k t p
none_before k t p listed none owner = by (phase_of k t owner) refl
  where
    by : (q : Option ℕ) → phase_of k t owner ≡ q → is_before p (phase_of k t owner) ≡ false
    by None at = ap (is_before p) at
    by (Some q) at =
        not_so (is_before p (phase_of k t owner))
        (all_in (λ o. not (is_before p (phase_of k t o))) owner (candidates k t) none (tried k t listed owner q at))

pub left_before : (k : Known) (t p : ℕ) → NoneBefore k t p → none_left_before k t p ≡ true
left_before k t p none =
    all_from (λ o. not (is_before p (phase_of k t o))) (candidates k t) (λ o there. ap not (none o))
