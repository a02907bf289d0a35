-- No call of a compile machine is answered that something is gone: its machine is there, and it is never lost.
use Rattle.std.proofs.Common.{◌≡◌, ◌∙◌, ℕ, Bool, true, false, Option, Some, None, List, [], ◌∷◌}
use Rattle.std.proofs.Common.{inl, refl, subst, sym}
use Rattle.std.specs.Prelude.{◌&&◌, ◌||◌, ◌==◌, is_some, nat_eq, not}
use Rattle.std.specs.Cmp.Lexicographic.{pointwise}
use Rattle.std.specs.List.{list_any}
use Rattle.std.proofs.lemmas.Bool.{and_from, and_parts, eqb-true, false≢true, or_left}
use Rattle.bosh_base.specs.CallStep.{answer_of, has_agent, is_gone, unless_gone, yes_or_no}
use Rattle.bosh_base.specs.Cloud.{is_silent, is_vm_there, numbers_to, silence, vm_creation, vms_created, when}
use Rattle.bosh_base.specs.History.{chosen, latest}
use Rattle.bosh_base.specs.declared.answer.Answer.TheVariants as answers
use Rattle.bosh_base.specs.declared.call.Call.{Call}
use Rattle.bosh_base.specs.declared.call.Call.TheVariants as calls
use Rattle.bosh_base.specs.declared.digest.Digest.{Digest}
use Rattle.bosh_base.specs.declared.entry.Effect.{Effect}
use Rattle.bosh_base.specs.declared.entry.Entry.{Entry}
use Rattle.bosh_base.specs.declared.entry.Entry.TheVariants as entries
use Rattle.bosh_base.specs.declared.key.KeyWork.{KeyWork}
use Rattle.bosh_base.specs.declared.moves.Did.{Did}
use Rattle.bosh_base.specs.declared.owner.Owner.{Owner}
use Rattle.bosh_base.specs.declared.owner.Owner.TheVariants.{Compile}
use Rattle.bosh_base.specs.declared.row.Vm.{Vm}
use Rattle.bosh_history.specs.Known.{Slot, SlotName}
use Rattle.bosh_history.specs.Moments.{Moment, OpenCall}
use Rattle.bosh_history.specs.Ties.{has_machine, slot_as_done, slot_before, was_made_as}
use Rattle.bosh_rows.specs.Tied.{is_loss_of, is_made_for, is_named_lost, vms_of, was_made}
use Rattle.laws_addresses.proofs.LiveLemmas.{equal_numbers}
use Rattle.laws_claims.proofs.ListLemmas.{of_filtered}
use Rattle.laws_cloud.proofs.CallLemmas.{slot_some}
use Rattle.laws_facts.specs.CallFacts.{IsOwnerKept, named}
use Rattle.laws_facts.specs.Facts.{Holds}
use Rattle.laws_facts.specs.OpenCalls.{fits_slot, slot_as_before}
use Rattle.laws_heard.proofs.AnswerLemmas.{implied}
use Rattle.laws_items.proofs.OwnerLemmas.{same_owner_is}
use Rattle.laws_items.specs.Lists.{IsIn}
use Rattle.laws_row_facts.specs.Cloud.{is_for_instance, is_instance}
use Rattle.laws_row_facts.specs.Words.{where_any}
use Rattle.laws_rows.specs.Rightful.{is_machine}
use Rattle.laws_slots.specs.Slots.{SlotFacts, is_slot_created, is_slot_tied, owner_of}

-- ---- a silent machine is one that a loss named

silent_named_from : (v : ℕ) (was : Bool) (xs : List Entry) → latest (silence v) was xs ≡ true
    → (was || list_any (is_loss_of v) xs) ≡ true
silent_named_from v was [] is = or_left was false is
silent_named_from v was (entries.Lost loss ∷ xs) is =
    by loss.whole (loss.vm == v) was
    (silent_named_from v (chosen (when (not loss.whole && loss.vm == v) true) was) xs is)
  where
    by : (whole same was : Bool)
        → (chosen (when (not whole && same) true) was || list_any (is_loss_of v) xs) ≡ true
        → (was || (same || list_any (is_loss_of v) xs)) ≡ true
    by whole true true any = refl
    by whole true false any = refl
    by true false was any = any
    by false false was any = any
silent_named_from v was (x ∷ xs) is = silent_named_from v was xs is

silent_named : (xs : List Entry) (v : ℕ) → is_silent xs v ≡ true → is_named_lost xs v ≡ true
silent_named xs v is = silent_named_from v false xs is

-- ---- the machine of a record is there

tied_there : (xs : List Entry) (owner : Owner) (it : Slot) (vm : Vm) → it.vm ≡ Some vm
    → has_machine xs owner (Some it) ≡ true → is_vm_there xs vm.vm ≡ true
tied_there xs owner it vm has tied =
    let machines : pointwise nat_eq (vms_of xs owner) (vm.vm ∷ []) ≡ true =
    (and_parts (pointwise nat_eq (vms_of xs owner) (vm.vm ∷ [])) _
    (sym (λ j. has_machine xs owner (Some (record it { vm = has j }))) ∙ tied)).0 in
    let among : IsIn vm.vm (vms_of xs owner) =
    subst (λ (vms : List ℕ). IsIn vm.vm vms) (sym (equal_numbers (vms_of xs owner) (vm.vm ∷ []) machines)) (inl refl) in
    (and_parts (is_vm_there xs vm.vm) _
    (of_filtered (λ v. is_vm_there xs v && is_made_for owner (vm_creation xs v)) vm.vm
    (numbers_to (vms_created xs)) among).1).0

undoubted_there : (xs : List Entry) (name : SlotName) (it : Slot) (vm : Vm) → it.vm ≡ Some vm → it.doubt ≡ None
    → is_slot_tied xs name (Some it) ≡ true → is_vm_there xs vm.vm ≡ true
undoubted_there xs name it vm has none tied =
    by (has_machine xs (owner_of name) (Some (slot_before it))) refl tied
  where
    by : (before : Bool) → has_machine xs (owner_of name) (Some (slot_before it)) ≡ before
        → (before || has_machine xs (owner_of name) (slot_as_done xs it)) ≡ true → is_vm_there xs vm.vm ≡ true
    by true is any = tied_there xs (owner_of name) (slot_before it) vm has is
    by false is any =
        tied_there xs (owner_of name) (record it { doubt = None }) vm has
        (sym (λ j. has_machine xs (owner_of name) (slot_as_done xs (record it { doubt = none j }))) ∙ any)

-- ---- an open call of it

module _ (m : Moment) (h : Holds m) (n : ℕ) (call : OpenCall) (is : m.calls n ≡ Some call)
    (not_yet : is_some call.did ≡ false) (t s : ℕ) (own : call.begin.owner ≡ Compile t s)
    (built : KeyWork → List Digest → Digest) where
  abbrev xs : List Entry
  xs = m.effects

  facts_by : (did : Option Did) → call.did ≡ did → is_some did ≡ false
      → SlotFacts xs (named t s) (slot_as_before call.begin.call (m.known.slot t s))
  facts_by (Some d) told none = absurd (false≢true (sym none))
  facts_by None told none =
      subst (λ (o : Owner). IsOwnerKept m call.begin None o) own
      (subst (λ (did : Option Did). IsOwnerKept m call.begin did call.begin.owner) told
      (h.performed n call is).owner_kept)

  facts : SlotFacts xs (named t s) (slot_as_before call.begin.call (m.known.slot t s))
  facts = facts_by call.did refl not_yet

  none_of : {X : Type 0} (o : Option X) → not (is_some o) ≡ true → o ≡ None
  none_of None is = refl
  none_of (Some x) is = absurd (false≢true is)

  -- it is not silent: a machine that a loss names was made for an instance
  not_silent : (it : Slot) (vm : Vm) → it.vm ≡ Some vm → is_slot_created xs (Compile t s) it ≡ true
      → is_silent xs vm.vm ≡ false
  not_silent it vm has created = by (is_silent xs vm.vm) refl
    where
      made : was_made (Compile t s) vm.agent (Some it.make) (vm_creation xs vm.vm) ≡ true
      made =
          sym (λ j. was_made_as xs (Compile t s) it (has j))
          ∙ (and_parts (was_made_as xs (Compile t s) it it.vm) _ created).0

      of : (e : Option Effect) → was_made (Compile t s) vm.agent (Some it.make) e ≡ true → is_for_instance e ≡ true → ⊥
      of (Some e) was instance =
          false≢true
          ((λ j. is_instance (sym (same_owner_is e.owner (Compile t s) (and_parts _ _ was).0) j)) ∙ instance)
      of None was instance = false≢true was

      by : (silent : Bool) → is_silent xs vm.vm ≡ silent → silent ≡ false
      by false quiet = refl
      by true quiet =
          absurd (of (vm_creation xs vm.vm) made
          (implied (is_named_lost xs vm.vm) (is_for_instance (vm_creation xs vm.vm)) (h.cloud.lost_of_instances vm.vm)
          (silent_named xs vm.vm quiet)))

  -- the machine that is named is that of the record
  module _ (it : Slot) (at_slot : m.known.slot t s ≡ Some it) where
    of_machine : (v : ℕ) → is_machine it.vm v ≡ true → (P : ℕ → Type 0)
        → ((vm : Vm) → it.vm ≡ Some vm → P vm.vm) → P v
    of_machine v machine P each = by it.vm refl machine
      where
        by : (vm : Option Vm) → it.vm ≡ vm → is_machine vm v ≡ true → P v
        by (Some vm) has same = subst P (eqb-true vm.vm v same) (each vm has)
        by None has same = absurd (false≢true same)

    deleted_there : (v : ℕ) → call.begin.call ≡ calls.DeleteVm v → is_machine it.vm v ≡ true
        → is_vm_there xs v ≡ true
    deleted_there v deletes machine =
        of_machine v machine (λ v. is_vm_there xs v ≡ true)
        (λ vm has. undoubted_there xs (named t s) (slot_before it) vm has refl
        (subst (λ (o : Option Slot). is_slot_tied xs (named t s) o ≡ true)
        ((λ j. slot_as_before (deletes j) (m.known.slot t s)) ∙ (λ j. slot_as_before (calls.DeleteVm v) (at_slot j)))
        facts.tied))

    compiled_there : (v : ℕ) (work : KeyWork) (deps : List Digest)
        → call.begin.call ≡ calls.CompilePackage v work deps → is_machine it.vm v ≡ true
        → not (is_some it.doubt) ≡ true → has_agent xs v ≡ true
    compiled_there v work deps compiles machine none =
        of_machine v machine (λ v. has_agent xs v ≡ true)
        (λ vm has.
        and_from (is_vm_there xs vm.vm) _
        (undoubted_there xs (named t s) it vm has (none_of it.doubt none)
        (sym (λ j. is_slot_tied xs (named t s) (at_slot j)) ∙ (h.slots t s).tied))
        (λ j. not (not_silent it vm has
        (sym (λ j. where_any (is_slot_created xs (Compile t s)) (at_slot j)) ∙ (h.slots t s).created) j)))

    never_gone : (c : Call) → call.begin.call ≡ c → fits_slot call.begin.n c it ≡ true
        → is_gone (answer_of built xs c) ≡ false
    never_gone (calls.CreateVm make disks) called fits = refl
    never_gone (calls.FindVm agent) called fits = refl
    never_gone (calls.HasVm v) called fits = by (is_vm_there xs v)
      where
        by : (b : Bool) → is_gone (yes_or_no b) ≡ false
        by true = refl
        by false = refl
    never_gone (calls.DeleteVm v) called fits =
        λ j. is_gone (unless_gone (deleted_there v called (and_parts (is_machine it.vm v) _ fits).0 j) answers.Done)
    never_gone (calls.CompilePackage v work deps) called fits =
        let (machine, rest) = and_parts (is_machine it.vm v) _ fits in
        λ j. is_gone (unless_gone
        (compiled_there v work deps called machine (and_parts (not (is_some it.doubt)) _ rest).0 j)
        (answers.Built (built work deps)))
    never_gone c called fits = absurd (false≢true fits)

  pub machine_call_never_gone : is_gone (answer_of built xs call.begin.call) ≡ false
  machine_call_never_gone =
      let (it, at_slot, fits) = slot_some m h n call is t s own in never_gone it at_slot call.begin.call refl fits
