-- The facts of a compile machine and of an orphaned disk stay where something is done for another owner, a job writes
-- to a disk, or a machine of an instance is lost.
use Rattle.std.proofs.Common.{◌≡◌, ℕ, ◌+◌, ◌≤◌, Bool, true, false, Option, Some, None, List, [], ◌∷◌, ◌++◌, refl, sym, ◌∙◌, ap, arith}
use Rattle.std.specs.Prelude.{◌&&◌, ◌||◌, ◌==◌, nat_eq, filter, find}
use Rattle.std.specs.List.{list_all}
use Rattle.std.specs.Cmp.Lexicographic.{pointwise}
use Rattle.std.specs.Str.{bytes_eq}
use Rattle.std.proofs.lemmas.Bool.{and_from, and_parts, eq-eqb, eqb-true, ne_eqb}
use Rattle.bosh_base.specs.CallStep.{found_vm, has_number}
use Rattle.bosh_base.specs.Cloud.{is_vm_creation, is_vm_there, numbers_to, vm_creation, vm_presence, vm_stays, vms_created, when}
use Rattle.bosh_base.specs.History.{chosen}
use Rattle.bosh_base.specs.declared.call.Call.{Call}
use Rattle.bosh_base.specs.declared.call.Call.TheVariants as calls
use Rattle.bosh_base.specs.declared.entry.Effect as effect
use Rattle.bosh_base.specs.declared.entry.Entry.{Entry}
use Rattle.bosh_base.specs.declared.entry.Entry.TheVariants.{Effect, Write, Lost}
use Rattle.bosh_base.specs.declared.entry.Loss.{Loss}
use Rattle.bosh_base.specs.declared.entry.Write as write
use Rattle.bosh_base.specs.declared.owner.Owner.{Owner}
use Rattle.bosh_base.specs.declared.owner.Owner.TheVariants.{Instance, Compile, Disk}
use Rattle.bosh_base.specs.declared.row.Doubt.{Doubt}
use Rattle.bosh_base.specs.declared.row.Vm.{Vm}
use Rattle.laws_answered_rows.proofs.OwnLemmas.{effect_of}
use Rattle.laws_effects.proofs.CreationLemmas.{is_vm_there-grown, vm_creation_next, vm_creation_stays, vms-grown}
use Rattle.laws_effects.specs.Orderly.{vms_named_by}
use Rattle.bosh_history.specs.Known.{Slot, SlotName}
use Rattle.bosh_history.specs.Slots.{slot_found}
use Rattle.bosh_history.specs.Ties.{has_machine, slot_as_done, was_made_as}
use Rattle.laws_row_facts.specs.Cloud.{is_for_instance, is_instance}
use Rattle.laws_row_facts.specs.Numbers.{is_effect_of}
use Rattle.laws_row_facts.specs.Rows.{is_made_in}
use Rattle.laws_row_facts.specs.Words.{implies, same_call, where_any}
use Rattle.laws_row_frames.proofs.EntryFrames.{dull, filter_grown, find_grown}
use Rattle.laws_row_frames.proofs.OtherCases.{all_front, numbered_is}
use Rattle.laws_row_frames.proofs.WithinLemmas.{are_within}
use Rattle.laws_row_frames.specs.Others.{is_owned_by, names_own_machines}
use Rattle.laws_rows.proofs.FoundLemmas.{vm-among}
use Rattle.bosh_rows.specs.Same.{same_owner}
use Rattle.bosh_rows.specs.Tied.{is_made_for, number_of, vms_of, was_made}
use Rattle.laws_slots.specs.Slots.{SlotFacts, is_slot_doubt_its_own, owner_of}

-- ---- owners

same_compile : (o : Owner) (name : SlotName) → same_owner o (owner_of name) ≡ true → o ≡ owner_of name
same_compile (Compile t s) name is =
    let parts : ((t == name.task) ≡ true) × ((s == name.slot) ≡ true) = and_parts (t == name.task) _ is in
    λ i. Compile (eqb-true t name.task parts.0 i) (eqb-true s name.slot parts.1 i)
same_compile (Instance j) name is = absurd cc
same_compile (Disk d) name is = absurd cc

-- nothing was made for the compile machine and for another
apart : (name : SlotName) (owner : Owner) → same_owner owner (owner_of name) ≡ false → (o : Option effect.Effect) →
    is_made_for owner o ≡ true → is_made_for (owner_of name) o ≡ true → ⊥
apart name owner other None is also = cc
apart name owner other (Some e) is also =
    by_owner owner other (sym (ap (λ o. same_owner o owner) (same_compile e.owner name also)) ∙ is)
  where
    no : (b : Bool) → b ≡ false → b ≡ true → ⊥
    no true off on = cc
    no false off on = cc

    by_owner : (owner : Owner) → same_owner owner (owner_of name) ≡ false → same_owner (owner_of name) owner ≡ true → ⊥
    by_owner (Compile t s) other is =
        let parts : ((name.task == t) ≡ true) × ((name.slot == s) ≡ true) = and_parts (name.task == t) _ is in
        no (t == name.task && s == name.slot) other
        (and_from (t == name.task) _ (eq-eqb t name.task (sym (eqb-true name.task t parts.0)))
        (eq-eqb s name.slot (sym (eqb-true name.slot s parts.1))))
    by_owner (Instance j) other is = cc
    by_owner (Disk d) other is = cc

instance_apart : (name : SlotName) (o : Option effect.Effect) → is_for_instance o ≡ true →
    is_made_for (owner_of name) o ≡ true → ⊥
instance_apart name None is also = cc
instance_apart name (Some e) is also = by_owner e.owner is also
  where
    by_owner : (o : Owner) → is_instance o ≡ true → same_owner o (owner_of name) ≡ true → ⊥
    by_owner (Instance i) is also = cc
    by_owner (Compile t s) is also = cc
    by_owner (Disk d) is also = cc

-- ---- one more entry

-- it leaves the machines of the compile machine as they are, and makes none for it
record LeavesSlot (xs : List Entry) (x : Entry) (name : SlotName) : Type 0 where
  there : (v : ℕ) → is_made_for (owner_of name) (vm_creation xs v) ≡ true → v ≤ vms_created xs →
      vm_presence v xs x ≡ None
  new_vm : is_vm_creation x ≡ true →
      is_made_for (owner_of name) (vm_creation (xs ++ x ∷ []) (vms_created xs + 1)) ≡ false

-- .. nor has it the number of the call in doubt
abbrev LeavesNumber : List Entry → Entry → ℕ → Type 0
LeavesNumber xs x n =
    is_vm_creation x ≡ true → has_number n (vm_creation (xs ++ x ∷ []) (vms_created xs + 1)) ≡ false

module _ (xs : List Entry) (x : Entry) (name : SlotName) (leaves : LeavesSlot xs x name) where
  there_still : (v : ℕ) → v ≤ vms_created xs → is_made_for (owner_of name) (vm_creation xs v) ≡ true →
      is_vm_there (xs ++ x ∷ []) v ≡ is_vm_there xs v
  there_still v low of =
      is_vm_there-grown xs x v ∙ ap (λ a. chosen a (is_vm_there xs v)) (leaves.there v of low)

  ours_still : (v : ℕ) → v ≤ vms_created xs →
      (is_vm_there (xs ++ x ∷ []) v && is_made_for (owner_of name) (vm_creation (xs ++ x ∷ []) v))
      ≡ (is_vm_there xs v && is_made_for (owner_of name) (vm_creation xs v))
  ours_still v low = by_owner (is_made_for (owner_of name) (vm_creation xs v)) refl
    where
      made : is_made_for (owner_of name) (vm_creation (xs ++ x ∷ []) v)
          ≡ is_made_for (owner_of name) (vm_creation xs v)
      made = ap (is_made_for (owner_of name)) (vm_creation_stays xs x v low)

      by_owner : (b : Bool) → is_made_for (owner_of name) (vm_creation xs v) ≡ b →
          (is_vm_there (xs ++ x ∷ []) v && is_made_for (owner_of name) (vm_creation (xs ++ x ∷ []) v))
          ≡ (is_vm_there xs v && is_made_for (owner_of name) (vm_creation xs v))
      by_owner true of = λ i. there_still v low of i && made i
      by_owner false off =
          dull (is_vm_there (xs ++ x ∷ []) v) _ _ (made ∙ off)
          (dull (is_vm_there xs v) (is_made_for (owner_of name) (vm_creation xs v)) false off refl)

  vms_still : vms_of (xs ++ x ∷ []) (owner_of name) ≡ vms_of xs (owner_of name)
  vms_still =
      ap (λ n. filter (λ v. is_vm_there (xs ++ x ∷ []) v
      && is_made_for (owner_of name) (vm_creation (xs ++ x ∷ []) v)) (numbers_to n)) (vms-grown xs x)
      ∙ filter_grown (λ v. is_vm_there xs v && is_made_for (owner_of name) (vm_creation xs v))
      (λ v. is_vm_there (xs ++ x ∷ []) v && is_made_for (owner_of name) (vm_creation (xs ++ x ∷ []) v))
      (vms_created xs) (is_vm_creation x) ours_still
      (λ makes. dull (is_vm_there (xs ++ x ∷ []) (vms_created xs + 1)) _ false (leaves.new_vm makes) refl)

  created_low : (v : ℕ) → is_made_for (owner_of name) (vm_creation xs v) ≡ true → v ≤ vms_created xs
  created_low v of = by_creation (vm_creation xs v) refl of
    where
      by_creation : (o : Option effect.Effect) → vm_creation xs v ≡ o → is_made_for (owner_of name) o ≡ true →
          v ≤ vms_created xs
      by_creation (Some e) is of = (are_within xs).vms v e is
      by_creation None is of = absurd cc

  found_still : (n : ℕ) → LeavesNumber xs x n →
      ((v : ℕ) → has_number n (vm_creation xs v) ≡ true → is_made_for (owner_of name) (vm_creation xs v) ≡ true) →
      found_vm (xs ++ x ∷ []) n ≡ found_vm xs n
  found_still n number own =
      ap (λ m. find (λ v. is_vm_there (xs ++ x ∷ []) v && has_number n (vm_creation (xs ++ x ∷ []) v))
      (numbers_to m)) (vms-grown xs x)
      ∙ find_grown (λ v. is_vm_there xs v && has_number n (vm_creation xs v))
      (λ v. is_vm_there (xs ++ x ∷ []) v && has_number n (vm_creation (xs ++ x ∷ []) v)) (vms_created xs)
      (is_vm_creation x) (λ v low. by_number v low (has_number n (vm_creation xs v)) refl)
      (λ makes. dull (is_vm_there (xs ++ x ∷ []) (vms_created xs + 1)) _ false (number makes) refl)
    where
      by_number : (v : ℕ) → v ≤ vms_created xs → (b : Bool) → has_number n (vm_creation xs v) ≡ b →
          (is_vm_there (xs ++ x ∷ []) v && has_number n (vm_creation (xs ++ x ∷ []) v))
          ≡ (is_vm_there xs v && has_number n (vm_creation xs v))
      by_number v low true has =
          λ i. there_still v low (own v has) i && has_number n (vm_creation_stays xs x v low i)
      by_number v low false off =
          dull (is_vm_there (xs ++ x ∷ []) v) _ _ (ap (has_number n) (vm_creation_stays xs x v low) ∙ off)
          (dull (is_vm_there xs v) (has_number n (vm_creation xs v)) false off refl)

  -- its machine
  module _ (it : Slot) where
    made_of : (o : Option Vm) → was_made_as xs (owner_of name) it o ≡ true →
        where_any (λ vm. is_made_for (owner_of name) (vm_creation xs vm.vm)) o ≡ true
    made_of None was = refl
    made_of (Some m) was = by_creation (vm_creation xs m.vm) was
      where
        by_creation : (o : Option effect.Effect) → was_made (owner_of name) m.agent (Some it.make) o ≡ true →
            is_made_for (owner_of name) o ≡ true
        by_creation (Some e) was = (and_parts (same_owner e.owner (owner_of name)) _ was).0
        by_creation None was = absurd cc

    still_made : (o : Option Vm) → was_made_as xs (owner_of name) it o ≡ true →
        was_made_as (xs ++ x ∷ []) (owner_of name) it o ≡ true
    still_made None was = refl
    still_made (Some m) was =
        ap (was_made (owner_of name) m.agent (Some it.make))
        (vm_creation_stays xs x m.vm (created_low m.vm (made_of (Some m) was))) ∙ was

    still_in : (o : Option Vm) → was_made_as xs (owner_of name) it o ≡ true →
        where_any (λ vm. is_made_in it.dep (vm_creation xs vm.vm)) o ≡ true →
        where_any (λ vm. is_made_in it.dep (vm_creation (xs ++ x ∷ []) vm.vm)) o ≡ true
    still_in None was is = refl
    still_in (Some m) was is =
        ap (is_made_in it.dep) (vm_creation_stays xs x m.vm (created_low m.vm (made_of (Some m) was))) ∙ is

    still_machine : has_machine xs (owner_of name) (Some it) ≡ true →
        has_machine (xs ++ x ∷ []) (owner_of name) (Some it) ≡ true
    still_machine tied =
        let parts : (pointwise nat_eq (vms_of xs (owner_of name)) (number_of it.vm) ≡ true)
        × (was_made_as xs (owner_of name) it it.vm ≡ true) =
        and_parts (pointwise nat_eq (vms_of xs (owner_of name)) (number_of it.vm)) _ tied in
        and_from (pointwise nat_eq (vms_of (xs ++ x ∷ []) (owner_of name)) (number_of it.vm)) _
        (ap (λ vs. pointwise nat_eq vs (number_of it.vm)) vms_still ∙ parts.0) (still_made it.vm parts.1)

  machine_still : (o : Option Slot) → has_machine xs (owner_of name) o ≡ true →
      has_machine (xs ++ x ∷ []) (owner_of name) o ≡ true
  machine_still (Some it) tied = still_machine it tied
  machine_still None tied = ap (λ vs. pointwise nat_eq vs []) vms_still ∙ tied

  -- what the call in doubt leaves
  done_still : (it : Slot) → ((d : Doubt) → it.doubt ≡ Some d → found_vm (xs ++ x ∷ []) d.n ≡ found_vm xs d.n) →
      slot_as_done (xs ++ x ∷ []) it ≡ slot_as_done xs it
  done_still it found = by_doubt it.doubt refl
    where
      by_call : (n : ℕ) (c : Call) → it.doubt ≡ Some (record { n = n; call = c }) →
          slot_as_done (xs ++ x ∷ []) (record it { doubt = Some (record { n = n; call = c }) })
          ≡ slot_as_done xs (record it { doubt = Some (record { n = n; call = c }) })
      by_call n (calls.CreateVm make hint) is =
          ap (λ o. slot_found n o (record it { doubt = Some (record { n = n; call = calls.CreateVm make hint }) }))
          (found (record { n = n; call = calls.CreateVm make hint }) is)
      by_call n c is = refl

      by_doubt : (d : Option Doubt) → it.doubt ≡ d →
          slot_as_done (xs ++ x ∷ []) (record it { doubt = d }) ≡ slot_as_done xs (record it { doubt = d })
      by_doubt (Some d) is = by_call d.n d.call is
      by_doubt None is = refl

  -- all facts
  slot_still : (slot : Option Slot) → SlotFacts xs name slot →
      ((it : Slot) → slot ≡ Some it → (d : Doubt) → it.doubt ≡ Some d →
      found_vm (xs ++ x ∷ []) d.n ≡ found_vm xs d.n) → SlotFacts (xs ++ x ∷ []) name slot
  slot_still None facts found = record {
    shape = refl;
    created = refl;
    tied = ap (λ vs. pointwise nat_eq vs []) vms_still ∙ facts.tied;
  }
  slot_still (Some it) facts found = record {
    shape = facts.shape;
    created =
        and_from (was_made_as (xs ++ x ∷ []) (owner_of name) it it.vm) _ (still_made it it.vm parts.0)
        (still_in it it.vm parts.0 parts.1);
    tied =
        or_both (has_machine xs (owner_of name) (Some (record it { doubt = None }))) _ _ _
        (still_machine (record it { doubt = None }))
        (λ later. ap (has_machine (xs ++ x ∷ []) (owner_of name)) (done_still it (found it refl))
        ∙ machine_still (slot_as_done xs it) later) facts.tied;
  }
    where
      parts : (was_made_as xs (owner_of name) it it.vm ≡ true)
          × (where_any (λ vm. is_made_in it.dep (vm_creation xs vm.vm)) it.vm ≡ true)
      parts = and_parts (was_made_as xs (owner_of name) it it.vm) _ facts.created

      or_both : (a b c d : Bool) → (a ≡ true → c ≡ true) → (b ≡ true → d ≡ true) → (a || b) ≡ true → (c || d) ≡ true
      or_both true b c d first second is = ap (λ e. e || d) (first refl)
      or_both false true true d first second is = refl
      or_both false true false d first second is = second refl
      or_both false false c d first second is = absurd cc

-- ---- the entries

numbered : (xs : List Entry) (name : SlotName) (it : Slot) (d : Doubt) → it.doubt ≡ Some d →
    is_slot_doubt_its_own xs name it ≡ true → (v : ℕ) → has_number d.n (vm_creation xs v) ≡ true →
    is_made_for (owner_of name) (vm_creation xs v) ≡ true
numbered xs name it d is own v has =
    let e : (e : effect.Effect) × ((vm_creation xs v ≡ Some e) × (e.n ≡ d.n)) =
    numbered_is d.n (vm_creation xs v) has in
    ap (is_made_for (owner_of name)) e.1.0
    ∙ (effect_of d.n (owner_of name) it.dep d.call xs e.0
    (sym (λ i. is_slot_doubt_its_own xs name (record it { doubt = is i })) ∙ own)
    (vm-among xs v e.0 e.1.0) e.1.1).of_owner

-- what a call of another owner does
pub slot_other : (xs : List Entry) (name : SlotName) (slot : Option Slot) (e : effect.Effect) →
    SlotFacts xs name slot → where_any (is_slot_doubt_its_own (xs ++ Effect e ∷ []) name) slot ≡ true →
    same_owner e.owner (owner_of name) ≡ false → names_own_machines xs e ≡ true →
    SlotFacts (xs ++ Effect e ∷ []) name slot
slot_other xs name slot e facts own other named =
    slot_still xs (Effect e) name leaves slot facts
    (λ it has d is. found it (sym (ap (where_any (is_slot_doubt_its_own (xs ++ Effect e ∷ []) name)) has) ∙ own) d is)
  where
    by_call : (call : Call) → list_all (is_owned_by xs e.owner) (vms_named_by call) ≡ true → (v : ℕ) →
        is_made_for (owner_of name) (vm_creation xs v) ≡ true → v ≤ vms_created xs →
        vm_stays v (vms_created xs) call ≡ None
    by_call (calls.CreateVm make hint) named v of low =
        ap (λ b. when b true) (ne_eqb (vms_created xs + 1) v (λ same. absurd (omega arith)))
    by_call (calls.DeleteVm vm) named v of low = ap (λ b. when b false) (by_number (vm == v) refl)
      where
        by_number : (b : Bool) → (vm == v) ≡ b → b ≡ false
        by_number false is = refl
        by_number true same =
            absurd (apart name e.owner other (vm_creation xs vm)
            (and_parts (is_owned_by xs e.owner vm) true named).0
            (ap (λ k. is_made_for (owner_of name) (vm_creation xs k)) (eqb-true vm v same) ∙ of))
    by_call call named v of low = refl

    leaves : LeavesSlot xs (Effect e) name
    leaves = record {
      there = λ v of low. by_call e.call named v of low;
      new_vm = λ makes. ap (is_made_for (owner_of name)) (vm_creation_next xs e makes) ∙ other;
    }

    found : (it : Slot) → is_slot_doubt_its_own (xs ++ Effect e ∷ []) name it ≡ true → (d : Doubt) →
        it.doubt ≡ Some d → found_vm (xs ++ Effect e ∷ []) d.n ≡ found_vm xs d.n
    found it own d is =
        let parts : (list_all (is_effect_of d.n (owner_of name) it.dep d.call) xs ≡ true)
        × (is_effect_of d.n (owner_of name) it.dep d.call (Effect e) ≡ true) =
        all_front (is_effect_of d.n (owner_of name) it.dep d.call) xs (Effect e)
        (sym (λ i. is_slot_doubt_its_own (xs ++ Effect e ∷ []) name (record it { doubt = is i })) ∙ own) in
        found_still xs (Effect e) name leaves d.n
        (λ makes. ap (has_number d.n) (vm_creation_next xs e makes) ∙ by_number (e.n == d.n) parts.1)
        (numbered xs name it d is ((λ i. is_slot_doubt_its_own xs name (record it { doubt = is i })) ∙ parts.0))
      where
        by_number : (b : Bool) → implies b (same_owner e.owner (owner_of name)
            && (bytes_eq e.dep it.dep && same_call e.call d.call)) ≡ true → b ≡ false
        by_number true holds =
            absurd (no (same_owner e.owner (owner_of name)) other
            (and_parts (same_owner e.owner (owner_of name)) _ holds).0)
          where
            no : (b : Bool) → b ≡ false → b ≡ true → ⊥
            no true off on = cc
            no false off on = cc
        by_number false holds = refl

-- what a job writes, and a loss of an instance's machine
pub slot_write : (xs : List Entry) (name : SlotName) (slot : Option Slot) (w : write.Write) →
    SlotFacts xs name slot → where_any (is_slot_doubt_its_own xs name) slot ≡ true →
    SlotFacts (xs ++ Write w ∷ []) name slot
slot_write xs name slot w facts own =
    slot_still xs (Write w) name leaves slot facts
    (λ it has d is.
    found_still xs (Write w) name leaves d.n (λ makes. absurd cc)
    (numbered xs name it d is (sym (ap (where_any (is_slot_doubt_its_own xs name)) has) ∙ own)))
  where
    leaves : LeavesSlot xs (Write w) name
    leaves = record { there = λ v of low. refl; new_vm = λ makes. absurd cc }

pub slot_loss : (xs : List Entry) (name : SlotName) (slot : Option Slot) (loss : Loss) →
    SlotFacts xs name slot → where_any (is_slot_doubt_its_own xs name) slot ≡ true →
    is_for_instance (vm_creation xs loss.vm) ≡ true → SlotFacts (xs ++ Lost loss ∷ []) name slot
slot_loss xs name slot loss facts own instances =
    slot_still xs (Lost loss) name leaves slot facts
    (λ it has d is.
    found_still xs (Lost loss) name leaves d.n (λ makes. absurd cc)
    (numbered xs name it d is (sym (ap (where_any (is_slot_doubt_its_own xs name)) has) ∙ own)))
  where
    not_it : (v : ℕ) → is_made_for (owner_of name) (vm_creation xs v) ≡ true → (b : Bool) → (loss.vm == v) ≡ b →
        b ≡ false
    not_it v of false is = refl
    not_it v of true same =
        absurd (instance_apart name (vm_creation xs loss.vm) instances
        (ap (λ k. is_made_for (owner_of name) (vm_creation xs k)) (eqb-true loss.vm v same) ∙ of))

    both : (a b : Bool) → b ≡ false → (a && b) ≡ false
    both true b is = is
    both false b is = refl

    leaves : LeavesSlot xs (Lost loss) name
    leaves = record {
      there = λ v of low.
          ap (λ b. when b false) (both loss.whole (loss.vm == v) (not_it v of (loss.vm == v) refl));
      new_vm = λ makes. absurd cc;
    }
