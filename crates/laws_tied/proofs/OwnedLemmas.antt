-- A machine that is there is the one that is recorded of its owner, or that a call in doubt made.
use Rattle.std.proofs.Common.{◌≡◌, ◌∙◌, ℕ, Bool, true, false, ◌&&◌, Option, Some, None, List, []}
use Rattle.std.proofs.Common.{refl, sym, subst, inl, inr}
use Rattle.std.specs.Prelude.{◌||◌, ◌==◌, if◌then◌else◌, is_some, nat_eq}
use Rattle.std.specs.Cmp.Lexicographic.{pointwise}
use Rattle.std.specs.List.{list_any}
use Rattle.std.proofs.lemmas.Bool.{and_parts, eq-eqb, false≢true, or_left}
use Rattle.bosh_base.specs.Cloud.{is_vm_there, numbers_to, vm_creation, vms_created}
use Rattle.bosh_base.specs.declared.entry.Effect as effect
use Rattle.bosh_base.specs.declared.entry.Entry.{Entry}
use Rattle.bosh_base.specs.declared.inst.Inst.{Inst}
use Rattle.bosh_base.specs.declared.owner.Owner.{Owner}
use Rattle.bosh_base.specs.declared.owner.Owner.TheVariants.{Instance, Compile, Disk}
use Rattle.bosh_base.specs.declared.row.Row.{Row}
use Rattle.bosh_base.specs.declared.row.Vm.{Vm}
use Rattle.bosh_history.specs.Known.{Slot}
use Rattle.bosh_history.specs.Moments.{Moment}
use Rattle.bosh_history.specs.Ties.{belongs_to, has_machine, is_number, is_owned, slot_as_done, slot_before}
use Rattle.bosh_history.specs.Words.{holds}
use Rattle.bosh_rows.specs.Tied.{as_done, is_made_for, is_spoiled, is_tied_to, is_tied_to_lost, number_of, vms_of, without_doubt}
use Rattle.laws_addresses.proofs.LiveLemmas.{equal_numbers}
use Rattle.laws_cloud.proofs.TellLemmas.{same_owner_itself}
use Rattle.laws_facts.specs.CallFacts.{named}
use Rattle.laws_facts.specs.Facts.{Holds}
use Rattle.laws_facts.specs.Makers.{is_in_deployment_of, is_made_in_its_deployment}
use Rattle.laws_items.proofs.ListLemmas.{all_in, in_filtered}
use Rattle.laws_items.specs.Lists.{IsIn}
use Rattle.laws_row_frames.proofs.FrameLemmas.{done_inst}
use Rattle.laws_slots.specs.Slots.{is_slot_tied}
use Rattle.laws_tied.proofs.MadeLemmas.{there_made}

or_right : (a b : Bool) → b ≡ true → (a || b) ≡ true
or_right true b is = refl
or_right false b is = is

-- ---- the number of a machine

in_number : (v : ℕ) (vm : Option Vm) → IsIn v (number_of vm) → is_number v vm ≡ true
in_number v (Some it) (inl same) = eq-eqb it.vm v same
in_number v (Some it) (inr never) = absurd never
in_number v None never = absurd never

any_number : (v : ℕ) (vm : Option Vm) → list_any (λ it. it == v) (number_of vm) ≡ true → is_number v vm ≡ true
any_number v (Some it) is = by (it.vm == v) refl is
  where
    by : (b : Bool) → (it.vm == v) ≡ b → (b || false) ≡ true → (it.vm == v) ≡ true
    by true same any = same
    by false other any = absurd (false≢true any)
any_number v None is = absurd (false≢true is)

only_number : (effects : List Entry) (owner : Owner) (v : ℕ) (vm : Option Vm)
    → pointwise nat_eq (vms_of effects owner) (number_of vm) ≡ true → IsIn v (vms_of effects owner)
    → is_number v vm ≡ true
only_number effects owner v vm equal there =
    in_number v vm (subst (λ (xs : List ℕ). IsIn v xs) (equal_numbers (vms_of effects owner) (number_of vm) equal) there)

none_number : (effects : List Entry) (owner : Owner) (v : ℕ) → pointwise nat_eq (vms_of effects owner) [] ≡ true
    → IsIn v (vms_of effects owner) → ⊥
none_number effects owner v equal there =
    subst (λ (xs : List ℕ). IsIn v xs) (equal_numbers (vms_of effects owner) [] equal) there

module _ (m : Moment) (h : Holds m) (v : ℕ) where
  -- of an instance
  row_owned : (i : Inst) → IsIn v (vms_of m.effects (Instance i)) → belongs_to m v (Instance i) ≡ true
  row_owned i there =
      by (row.lost || is_spoiled m.effects row) (is_tied_to m.effects (without_doubt row)) refl (h.rows i).tied
    where
      row : Row
      row = m.known.row i

      of : (inst : Inst) → inst ≡ i → IsIn v (vms_of m.effects (Instance inst))
      of inst same = subst (λ (j : Inst). IsIn v (vms_of m.effects (Instance j))) (sym same) there

      by : (lost before : Bool) → is_tied_to m.effects (without_doubt row) ≡ before
          → (if lost then is_tied_to_lost m.effects row else before || is_tied_to m.effects (as_done m.effects row))
          ≡ true
          → belongs_to m v (Instance i) ≡ true
      by true before is tied =
          or_left (is_number v row.vm) (is_number v (as_done m.effects row).vm)
          (any_number v row.vm
          (all_in (λ w. list_any (λ it. it == w) (number_of row.vm)) v (vms_of m.effects (Instance row.inst))
          (and_parts _ _ tied).0 (of row.inst (h.known.lists.own_row i))))
      by false true is tied =
          or_left (is_number v row.vm) (is_number v (as_done m.effects row).vm)
          (only_number m.effects (Instance row.inst) v row.vm
          (and_parts (pointwise nat_eq (vms_of m.effects (Instance row.inst)) (number_of row.vm)) _ is).0
          (of row.inst (h.known.lists.own_row i)))
      by false false is tied =
          or_right (is_number v row.vm) (is_number v (as_done m.effects row).vm)
          (only_number m.effects (Instance (as_done m.effects row).inst) v (as_done m.effects row).vm
          (and_parts
          (pointwise nat_eq (vms_of m.effects (Instance (as_done m.effects row).inst))
          (number_of (as_done m.effects row).vm)) _ tied).0
          (of (as_done m.effects row).inst (done_inst m.effects row ∙ h.known.lists.own_row i)))

  -- of a compile machine
  slot_owned : (t s : ℕ) → IsIn v (vms_of m.effects (Compile t s)) → belongs_to m v (Compile t s) ≡ true
  slot_owned t s there = by (m.known.slot t s) (h.slots t s).tied
    where
      left : (it : Slot) (done : Option Slot) → has_machine m.effects (Compile t s) done ≡ true
          → holds (λ that. is_number v that.vm) done ≡ true
      left it (Some that) tied =
          only_number m.effects (Compile t s) v that.vm
          (and_parts (pointwise nat_eq (vms_of m.effects (Compile t s)) (number_of that.vm)) _ tied).0 there
      left it None tied = absurd (none_number m.effects (Compile t s) v tied there)

      either : (it : Slot) (before : Bool) → has_machine m.effects (Compile t s) (Some (slot_before it)) ≡ before
          → (before || has_machine m.effects (Compile t s) (slot_as_done m.effects it)) ≡ true
          → (is_number v it.vm || holds (λ that. is_number v that.vm) (slot_as_done m.effects it)) ≡ true
      either it true is tied =
          or_left (is_number v it.vm) (holds (λ that. is_number v that.vm) (slot_as_done m.effects it))
          (only_number m.effects (Compile t s) v it.vm
          (and_parts (pointwise nat_eq (vms_of m.effects (Compile t s)) (number_of it.vm)) _ is).0 there)
      either it false is tied =
          or_right (is_number v it.vm) (holds (λ that. is_number v that.vm) (slot_as_done m.effects it))
          (left it (slot_as_done m.effects it) tied)

      by : (slot : Option Slot) → is_slot_tied m.effects (named t s) slot ≡ true
          → holds (λ it. is_number v it.vm || holds (λ that. is_number v that.vm) (slot_as_done m.effects it)) slot
          ≡ true
      by (Some it) tied = either it (has_machine m.effects (Compile t s) (Some (slot_before it))) refl tied
      by None tied = absurd (none_number m.effects (Compile t s) v tied there)

  -- of whomever it was made for
  pub machine_owned : IsIn v (numbers_to (vms_created m.effects)) → is_vm_there m.effects v ≡ true
      → is_owned m v (vm_creation m.effects v) ≡ true
  machine_owned is there = by (vm_creation m.effects v) refl (there_made m.effects v there) (h.known.makers v)
    where
      among : (e : effect.Effect) → vm_creation m.effects v ≡ Some e → IsIn v (vms_of m.effects e.owner)
      among e made =
          in_filtered (λ w. is_vm_there m.effects w && is_made_for e.owner (vm_creation m.effects w)) v
          (numbers_to (vms_created m.effects)) is
          ((λ j. there j && is_made_for e.owner (made j)) ∙ same_owner_itself e.owner)

      of : (e : effect.Effect) (owner : Owner) → is_in_deployment_of m.known e.dep owner ≡ true
          → IsIn v (vms_of m.effects owner) → belongs_to m v owner ≡ true
      of e (Instance i) makes here = row_owned i here
      of e (Compile t s) makes here = slot_owned t s here
      of e (Disk d) makes here = absurd (false≢true makes)

      by : (o : Option effect.Effect) → vm_creation m.effects v ≡ o → is_some o ≡ true
          → is_made_in_its_deployment m.known o ≡ true → is_owned m v o ≡ true
      by (Some e) made some makes = of e e.owner makes (among e made)
      by None made some makes = absurd (false≢true some)
