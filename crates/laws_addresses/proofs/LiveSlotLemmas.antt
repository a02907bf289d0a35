-- Compile machines that are there, and machines that open calls may be making.
use Rattle.std.proofs.Common.{◌≡◌, ℕ, Bool, true, false, ◌&&◌, Option, Some, None, List, [], refl, ap, sym, ◌∙◌, subst, arith}
use Rattle.std.specs.Prelude.{eqb, not, ◌||◌, is_some}
use Rattle.std.specs.Cmp.Lexicographic.{pointwise}
use Rattle.std.specs.Option.{option_eq, option_map}
use Rattle.std.proofs.lemmas.Bool.{and_parts, not-true}
use Rattle.bosh_base.specs.Cloud.{vm_creation}
use Rattle.bosh_base.specs.Exact.{Decides-option}
use Rattle.bosh_base.specs.ExactParts.{Decides-call, Decides-make}
use Rattle.bosh_base.specs.declared.call.Call.{Call}
use Rattle.bosh_base.specs.declared.call.Call.TheVariants as calls
use Rattle.bosh_base.specs.declared.entry.Entry.{Entry}
use Rattle.bosh_base.specs.declared.inst.Inst.{Inst}
use Rattle.bosh_base.specs.declared.make.Make.{Make}
use Rattle.bosh_base.specs.declared.owner.Owner.{Owner}
use Rattle.bosh_base.specs.declared.owner.Owner.TheVariants.{Instance, Compile, Disk}
use Rattle.bosh_base.specs.declared.row.Doubt.{Doubt}
use Rattle.bosh_base.specs.declared.row.Row.{Row}
use Rattle.bosh_base.specs.declared.row.Vm.{Vm}
use Rattle.laws_facts.specs.CallFacts.{CallFacts, IsOwnerKept, PerformedFacts, named}
use Rattle.laws_slots.specs.Slots.{SlotFacts, has_shape, is_creation_of}
use Rattle.laws_facts.specs.Facts.{Holds}
use Rattle.laws_facts.specs.OpenCalls.{call_of_row, fits_known, fits_row, fits_slot, slot_as_before}
use Rattle.laws_row_facts.specs.Calls.{row_before}
use Rattle.laws_facts.specs.Owners.{is_doubt}
use Rattle.laws_row_facts.specs.Calls.{is_ping}
use Rattle.laws_row_facts.specs.Rows.{RowFacts}
use Rattle.laws_row_facts.specs.Words.{implies, same_call, where_any}
use Rattle.bosh_history.specs.Known.{Slot, SlotName}
use Rattle.bosh_history.specs.Moments.{Moment, OpenCall}
use Rattle.bosh_history.specs.Slots.{slot_found}
use Rattle.bosh_history.specs.Ties.{has_machine, slot_as_done, slot_before, slot_by}
use Rattle.bosh_history.specs.Words.{holds, is_among}
use Rattle.laws_rows.specs.Rightful.{is_doubt_fit}
use Rattle.bosh_rows.specs.After.{leaves_doubt}
use Rattle.bosh_rows.specs.Same.{same_make}
use Rattle.bosh_rows.specs.Tied.{number_of, vms_of, was_made, without_doubt}
use Rattle.laws_addresses.proofs.LiveLemmas.{IsLive, IsOnly, equal_numbers, flip, found_as, numbered_only}

-- ---- compile machines

machine_made : (effects : List Entry) (owner : Owner) (it : Slot) → has_machine effects owner (Some it) ≡ true
    → where_any (λ vm. was_made owner vm.agent (Some it.make) (vm_creation effects vm.vm)) it.vm ≡ true
machine_made effects owner it is = by it.vm refl
  where
    by : (vm : Option Vm) → it.vm ≡ vm
        → where_any (λ vm. was_made owner vm.agent (Some it.make) (vm_creation effects vm.vm)) it.vm ≡ true
    by (Some vm) has = grind (arith, is, has)
    by None has = (λ l. where_any (λ vm. was_made owner vm.agent (Some it.make) (vm_creation effects vm.vm)) (has l))

machine_only : (effects : List Entry) (owner : Owner) (v : ℕ) (make : Make) (it : Slot)
    → has_machine effects owner (Some it) ≡ true → IsLive effects owner v make
    → IsOnly effects owner v make (Some it.make)
machine_only effects owner v make it is live =
    numbered_only effects owner v make it.vm (Some it.make) live
    (λ w there. flip w (number_of it.vm) ((λ l. is_among eqb w (same l)) ∙ there)) (machine_made effects owner it is)
  where
    same : number_of it.vm ≡ vms_of effects owner
    same = sym (equal_numbers (vms_of effects owner) (number_of it.vm) (grind (arith, is)))

none_there : (effects : List Entry) (owner : Owner) (v : ℕ) → pointwise eqb (vms_of effects owner) [] ≡ true
    → is_among eqb v (vms_of effects owner) ≡ true → ⊥
none_there effects owner v is there =
    absurd (grind (arith, sym (λ l. is_among eqb v (equal_numbers (vms_of effects owner) [] is l)) ∙ there))

-- what a call in doubt leaves has the make that is recorded
by_make : (effects : List Entry) (it : Slot) (n : ℕ) (call : Call) (found : Slot)
    → slot_by effects it n call ≡ Some found
    → found.make ≡ it.make
by_make effects it n (calls.CreateVm make disks) found is = by (found_as effects n) is
  where
    by : (vm : Option ℕ) → slot_found n vm it ≡ Some found → found.make ≡ it.make
    by (Some v) same = grind (arith, same)
    by None same = absurd cc
by_make effects it n (calls.DeleteVm vm) found is = absurd cc
by_make effects it n call found is = grind (arith, is)

done_make : (effects : List Entry) (it : Slot) (doubt : Option Doubt) (found : Slot)
    → slot_as_done effects (record it { doubt = doubt }) ≡ Some found → found.make ≡ it.make
done_make effects it (Some d) found is = by_make effects (record it { doubt = Some d }) d.n d.call found is
done_make effects it None found is = grind (arith, is)

pub slot_only : (effects : List Entry) (name : SlotName) (slot : Option Slot) (v : ℕ) (make : Make)
    → SlotFacts effects name slot → IsLive effects (Compile name.task name.slot) v make
    → IsOnly effects (Compile name.task name.slot) v make (option_map (λ it. it.make) slot)
slot_only effects name (Some it) v make facts live =
    by (has_machine effects (Compile name.task name.slot) (Some (slot_before it))) refl
    (slot_as_done effects it) refl facts.tied
  where
    by : (b : Bool) → has_machine effects (Compile name.task name.slot) (Some (slot_before it)) ≡ b
        → (left : Option Slot) → slot_as_done effects it ≡ left
        → (b || has_machine effects (Compile name.task name.slot) left) ≡ true
        → IsOnly effects (Compile name.task name.slot) v make (Some it.make)
    by true is left same tied =
        machine_only effects (Compile name.task name.slot) v make (slot_before it) is live
    by false is (Some found) same tied =
        let one : IsOnly effects (Compile name.task name.slot) v make (Some found.make) =
        machine_only effects (Compile name.task name.slot) v make found tied live in
        record {
          recorded_as = ap Some (sym (done_make effects it it.doubt found same)) ∙ one.recorded_as;
          only = one.only;
        }
    by false is None same tied = absurd (none_there effects (Compile name.task name.slot) v tied live.among)
slot_only effects name None v make facts live =
    absurd (none_there effects (Compile name.task name.slot) v facts.tied live.among)

-- ---- open calls

-- what a row in doubt of a call has
abbrev pub fits_call : Row → Call → Bool
fits_call row call = is_doubt_fit row (Some (record { n = 0; call = call }))

no_machine : (vm : Option Vm) → is_some vm ≡ false → vm ≡ None
no_machine (Some it) is = absurd cc
no_machine None is = refl

-- the call in doubt is the open one
doubted : (n : ℕ) (call : Call) (make : Make) (disks : List ℕ) (d : Doubt) → call ≡ calls.CreateVm make disks
    → is_doubt n call (Some d) ≡ true → d.call ≡ calls.CreateVm make disks
doubted n call make disks d is same = (Decides-call d.call call).0 (grind (arith, same)) ∙ is

-- a machine is being made: its make is recorded of its owner, of whom no machine is there
pub record IsMaking (effects : List Entry) (owner : Owner) (make : Make) (recorded : Option Make) : Type 0 where
  pub recorded_as : recorded ≡ Some make
  pub none : (v : ℕ) → is_among eqb v (vms_of effects owner) ≡ true → ⊥

row_none : (effects : List Entry) (row : Row) (v : ℕ) → RowFacts effects row → row.vm ≡ None → row.doubt ≡ None
    → is_among eqb v (vms_of effects (Instance row.inst)) ≡ true → ⊥
row_none effects row v facts none known there =
    none_there effects (Instance row.inst) v
    (grind (arith, facts.tied, facts.has_machine, none, known)) there

middle : (a b c : Bool) → (a && (b && c)) ≡ true → b ≡ true
middle true true c is = refl
middle true false c is = absurd cc
middle false b c is = absurd cc

row_making : (m : Moment) (n : ℕ) (call : OpenCall) (i : Inst) (make : Make) (disks : List ℕ) → Holds m
    → CallFacts m n call → PerformedFacts m call → call.begin.owner ≡ Instance i → call.did ≡ None
    → call.begin.call ≡ calls.CreateVm make disks → IsMaking m.effects (Instance i) make (m.known.row i).make
row_making m n call i make disks h facts performed own none called = by (m.known.row i).doubt refl
  where
    fits : fits_row (m.known.task call.begin.task) call.begin i (m.known.row i) ≡ true
    fits = subst (λ owner. fits_known m.known call.begin owner ≡ true) own facts.fits

    doubt : is_doubt call.begin.n call.begin.call (m.known.row i).doubt ≡ true
    doubt =
        sym (λ l. implies (leaves_doubt (called l)) (is_doubt call.begin.n call.begin.call (m.known.row i).doubt))
        ∙ middle
        (option_eq same_call
        (call_of_row (m.known.task call.begin.task) i (row_before call.begin.call (m.known.row i)))
        (Some call.begin.call))
        (implies (leaves_doubt call.begin.call) (is_doubt call.begin.n call.begin.call (m.known.row i).doubt))
        (implies (is_ping call.begin.call) (not (m.known.row i).lost)) fits

    before : RowFacts m.effects (without_doubt (m.known.row i))
    before =
        subst (λ it. RowFacts m.effects (row_before it (m.known.row i))) called
        (subst (λ owner. IsOwnerKept m call.begin None owner) own
        (subst (λ did. IsOwnerKept m call.begin did call.begin.owner) none performed.owner_kept))

    by : (doubt : Option Doubt) → (m.known.row i).doubt ≡ doubt
        → IsMaking m.effects (Instance i) make (m.known.row i).make
    by (Some d) is =
        let its : d.call ≡ calls.CreateVm make disks =
        doubted call.begin.n call.begin.call make disks d called
        (sym (λ l. is_doubt call.begin.n call.begin.call (is l)) ∙ doubt) in
        let fit : fits_call (m.known.row i) (calls.CreateVm make disks) ≡ true =
        sym ((λ l. is_doubt_fit (m.known.row i) (is l)) ∙ ap (fits_call (m.known.row i)) its) ∙ (h.rows i).doubt_fits in
        let parts : (not (is_some (m.known.row i).vm) ≡ true) ×
        (option_eq same_make (m.known.row i).make (Some make) ≡ true) =
        and_parts (not (is_some (m.known.row i).vm)) (option_eq same_make (m.known.row i).make (Some make)) fit in
        record {
          recorded_as = (Decides-option Decides-make (m.known.row i).make (Some make)).0 parts.1;
          none = λ v there.
              row_none m.effects (without_doubt (m.known.row i)) v before
              (no_machine (m.known.row i).vm (not-true (is_some (m.known.row i).vm) parts.0))
              refl
              ((λ l. is_among eqb v (vms_of m.effects (Instance (h.known.lists.own_row i l)))) ∙ there);
        }
    by None is = absurd (grind (arith, sym (λ l. is_doubt call.begin.n call.begin.call (is l)) ∙ doubt))

slot_making : (m : Moment) (n : ℕ) (call : OpenCall) (t s : ℕ) (make : Make) (disks : List ℕ) → Holds m
    → CallFacts m n call → PerformedFacts m call → call.begin.owner ≡ Compile t s → call.did ≡ None
    → call.begin.call ≡ calls.CreateVm make disks
    → IsMaking m.effects (Compile t s) make (option_map (λ it. it.make) (m.known.slot t s))
slot_making m n call t s make disks h facts performed own none called = by (m.known.slot t s) refl
  where
    fits : holds (fits_slot call.begin.n (calls.CreateVm make disks)) (m.known.slot t s) ≡ true
    fits =
        subst (λ it. holds (fits_slot call.begin.n it) (m.known.slot t s) ≡ true) called
        (subst (λ owner. fits_known m.known call.begin owner ≡ true) own facts.fits)

    before : SlotFacts m.effects (named t s) None
    before =
        subst (λ it. SlotFacts m.effects (named t s) (slot_as_before it (m.known.slot t s))) called
        (subst (λ owner. IsOwnerKept m call.begin None owner) own
        (subst (λ did. IsOwnerKept m call.begin did call.begin.owner) none performed.owner_kept))

    made : (it : Slot) → has_shape it ≡ true
        → fits_slot call.begin.n (calls.CreateVm make disks) it ≡ true
        → it.make ≡ make
    made it shaped fit = of it.vm refl it.doubt refl
      where
        of : (vm : Option Vm) → it.vm ≡ vm → (doubt : Option Doubt) → it.doubt ≡ doubt → it.make ≡ make
        of None no_vm (Some d) is =
            let its : d.call ≡ calls.CreateVm make disks =
            doubted call.begin.n (calls.CreateVm make disks) make disks d refl (grind (arith, fit, is)) in
            let same : is_creation_of it.make (calls.CreateVm make disks) ≡ true =
            sym (ap (is_creation_of it.make) its)
            ∙ sym (λ l. has_shape (record it { vm = no_vm l; doubt = is l })) ∙ shaped in
            sym ((Decides-make make it.make).0 same)
        of None no_vm None is = absurd (grind (arith, fit, is))
        of (Some vm) has doubt is = absurd (grind (arith, fit, has))

    by : (slot : Option Slot) → m.known.slot t s ≡ slot
        → IsMaking m.effects (Compile t s) make (option_map (λ it. it.make) (m.known.slot t s))
    by (Some it) is = record {
      recorded_as =
          ap (option_map (λ it. it.make)) is
          ∙ ap Some (made it (sym (λ l. where_any has_shape (is l)) ∙ (h.slots t s).shape)
          (sym (λ l. holds (fits_slot call.begin.n (calls.CreateVm make disks)) (is l)) ∙ fits));
      none = λ v there. none_there m.effects (Compile t s) v before.tied there;
    }
    by None is =
        absurd (grind (arith, sym (λ l. holds (fits_slot call.begin.n (calls.CreateVm make disks)) (is l)) ∙ fits))

-- ---- owners

-- the make that is recorded of an owner
abbrev pub recorded_of : Moment → Owner → Option Make
recorded_of m (Instance i) = (m.known.row i).make
recorded_of m (Compile t s) = option_map (λ it. it.make) (m.known.slot t s)
recorded_of m (Disk d) = None

pub making : (m : Moment) (n : ℕ) (call : OpenCall) (make : Make) (disks : List ℕ) → Holds m
    → m.calls n ≡ Some call → call.did ≡ None → call.begin.call ≡ calls.CreateVm make disks
    → IsMaking m.effects call.begin.owner make (recorded_of m call.begin.owner)
making m n call make disks h is none called = by call.begin.owner refl
  where
    by : (owner : Owner) → call.begin.owner ≡ owner
        → IsMaking m.effects call.begin.owner make (recorded_of m call.begin.owner)
    by (Instance i) own =
        subst (λ owner. IsMaking m.effects owner make (recorded_of m owner)) (sym own)
        (row_making m n call i make disks h (h.known.calls n call is) (h.performed n call is) own none called)
    by (Compile t s) own =
        subst (λ owner. IsMaking m.effects owner make (recorded_of m owner)) (sym own)
        (slot_making m n call t s make disks h (h.known.calls n call is) (h.performed n call is) own none called)
    by (Disk d) own =
        absurd (grind (
          arith,
          subst (λ it. fits_known m.known (record call.begin { call = it }) (Disk d) ≡ true) called
              (subst (λ owner. fits_known m.known call.begin owner ≡ true) own (h.known.calls n call is).fits),
        ))
