-- The facts of a compile machine are kept by each of its calls, however it is answered.
use Rattle.std.proofs.Common.{◌≡◌, ℕ, ◌+◌, Bool, true, false, Option, Some, None, List, [], ◌∷◌, ◌++◌, refl, sym, ◌∙◌, ap, subst, inl, inr}
use Rattle.std.specs.Prelude.{◌⊎◌, ◌&&◌, ◌||◌, ◌==◌, nat_eq, not, is_some}
use Rattle.std.specs.List.{list_all, list_any}
use Rattle.std.specs.Cmp.Lexicographic.{pointwise}
use Rattle.std.specs.Str.{bytes_eq}
use Rattle.std.proofs.lemmas.Bool.{and_from, and_parts, eq-eqb, eqb-true, or_cases, or_left, or_right}
use Rattle.std.proofs.lemmas.Bool.Decides.{Decides-eqb}
use Rattle.bosh_base.specs.Call.{method_of}
use Rattle.bosh_base.specs.CallStep.{answer_of, CallStep, found_vm, has_agent, is_gone, takes_effect, unless_gone, yes_or_no}
use Rattle.bosh_base.specs.Cloud.{is_vm_there, vm_creation, vms_created}
use Rattle.bosh_base.specs.Exact.{Decides-list}
use Rattle.bosh_base.specs.ExactParts.{Decides-make}
use Rattle.bosh_base.specs.Method.{is_changing}
use Rattle.bosh_base.specs.declared.answer.Answer.{Answer}
use Rattle.bosh_base.specs.declared.answer.Answer.TheVariants as answers
use Rattle.bosh_base.specs.declared.call.Call.{Call}
use Rattle.bosh_base.specs.declared.call.Call.TheVariants as calls
use Rattle.bosh_base.specs.declared.digest.Digest.{Digest}
use Rattle.bosh_base.specs.declared.entry.Effect as effect
use Rattle.bosh_base.specs.declared.entry.Entry.{Entry}
use Rattle.bosh_base.specs.declared.entry.Entry.TheVariants.{Effect}
use Rattle.bosh_base.specs.declared.key.Key.{Key}
use Rattle.bosh_base.specs.declared.key.KeyWork.{KeyWork}
use Rattle.bosh_base.specs.declared.make.Make.{Make}
use Rattle.bosh_base.specs.declared.row.Doubt.{Doubt}
use Rattle.bosh_base.specs.declared.row.Vm.{Vm}
use Rattle.laws_answered_rows.proofs.OwnLemmas.{IsEffectOf, effect_of}
use Rattle.laws_effects.proofs.CreationLemmas.{vm_creation_next}
use Rattle.laws_effects.specs.Orderly.{is_taken}
use Rattle.bosh_history.specs.Known.{Slot, SlotName}
use Rattle.bosh_history.specs.Slots.{slot_after, slot_begun, slot_found}
use Rattle.bosh_history.specs.Ties.{has_machine, was_made_as}
use Rattle.laws_row_facts.specs.Numbers.{is_effect_of}
use Rattle.laws_row_facts.specs.Rows.{is_made_in}
use Rattle.laws_row_facts.specs.Words.{is_some_with, where_any}
use Rattle.laws_rows.proofs.FilterLemmas.{none_listed}
use Rattle.laws_rows.proofs.FoundLemmas.{IsFoundVm, vm-among, vm-found}
use Rattle.laws_rows.proofs.WholeTieLemmas.{same_list}
use Rattle.laws_rows.specs.Rightful.{done_with, is_machine}
use Rattle.bosh_rows.specs.Same.{same_make, same_owner}
use Rattle.bosh_rows.specs.Tied.{is_made_for, vms_of, was_made}
use Rattle.laws_slots.proofs.SlotLemmas.{found_made, listed, made_still, of_owner, one_listed, only_there, vms_gone, vms_made}
use Rattle.laws_slots.specs.Slots.{SlotFacts, is_call_of_slot, is_creation_of, is_deletion_of, is_shaped_by, is_slot_doubt_its_own, owner_of}

same_self : (make : Make) → same_make make make ≡ true
same_self make = (Decides-make make make).1 refl

dep_self : (dep : List ℕ) → bytes_eq dep dep ≡ true
dep_self dep = (Decides-list Decides-eqb dep dep).1 refl

-- what is to be shown of a call
abbrev Kept : (KeyWork → List Digest → Digest) → List Entry → SlotName → Option Slot → ℕ → List ℕ → Option Key → Call →
    Type 0
Kept built xs name slot n dep key call =
    (b : Bool) (answer : Answer) → CallStep built xs call b answer →
    SlotFacts (done_with b xs (of_owner (owner_of name) n dep call)) name
    (slot_after n call answer (slot_begun n call dep key slot))

-- a call that only asks has no effect
asked : (built : KeyWork → List Digest → Digest) (xs : List Entry) (name : SlotName) (slot : Option Slot) (n : ℕ)
    (dep : List ℕ) (key : Option Key) (call : Call) → is_changing (method_of call) ≡ false →
    SlotFacts xs name (slot_after n call answers.Failed (slot_begun n call dep key slot)) →
    SlotFacts xs name (slot_after n call (answer_of built xs call) (slot_begun n call dep key slot)) →
    Kept built xs name slot n dep key call
asked built xs name slot n dep key call asks before told b answer (inl (says, has)) =
    subst (λ (c : Bool). SlotFacts (done_with c xs (of_owner (owner_of name) n dep call)) name
    (slot_after n call answer (slot_begun n call dep key slot)))
    (sym (has ∙ ap (λ c. c && not (is_gone (answer_of built xs call))) asks))
    (subst (λ (a : Answer). SlotFacts xs name (slot_after n call a (slot_begun n call dep key slot))) (sym says) told)
asked built xs name slot n dep key call asks before told b answer (inr (failed, may)) =
    subst (λ (a : Answer). SlotFacts (done_with b xs (of_owner (owner_of name) n dep call)) name
    (slot_after n call a (slot_begun n call dep key slot))) (sym failed) (by_effect b may)
  where
    no : (c : Bool) → c ≡ false → c ≡ true → ⊥
    no true off on = cc
    no false off on = cc

    by_effect : (c : Bool) → (c ≡ true → takes_effect built xs call ≡ true) →
        SlotFacts (done_with c xs (of_owner (owner_of name) n dep call)) name
        (slot_after n call answers.Failed (slot_begun n call dep key slot))
    by_effect true may =
        absurd (no (takes_effect built xs call)
        (ap (λ c. c && not (is_gone (answer_of built xs call))) asks) (may refl))
    by_effect false may = before

-- nothing is recorded
none_facts : (xs : List Entry) (name : SlotName) → vms_of xs (owner_of name) ≡ [] → SlotFacts xs name None
none_facts xs name none =
    record { shape = refl; created = refl; tied = ap (λ ks. pointwise nat_eq ks []) none }

module _ (built : KeyWork → List Digest → Digest) (xs : List Entry) (name : SlotName) (n : ℕ) (dep : List ℕ)
    (key : Option Key) (fresh : is_taken xs n ≡ false) where
  itself : same_owner (owner_of name) (owner_of name) ≡ true
  itself = and_from (name.task == name.task) _ (eq-eqb name.task name.task refl) (eq-eqb name.slot name.slot refl)

  -- ---- it is created

  module _ (make : Make) (hint : List ℕ) (none : vms_of xs (owner_of name) ≡ []) where
    abbrev creation : effect.Effect
    creation = of_owner (owner_of name) n dep (calls.CreateVm make hint)

    abbrev new : Slot
    new = record {
      dep = dep;
      make = make;
      vm = Some (record { vm = vms_created xs + 1; agent = n });
      doubt = None;
      key = key;
    }

    made_now : was_made (owner_of name) n (Some make) (vm_creation (xs ++ Effect creation ∷ []) (vms_created xs + 1))
        ≡ true
    made_now =
        ap (was_made (owner_of name) n (Some make)) (vm_creation_next xs creation refl)
        ∙ and_from (same_owner (owner_of name) (owner_of name)) _ itself
        (and_from (n == n) _ (eq-eqb n n refl) (same_self make))

    alone_now : has_machine (xs ++ Effect creation ∷ []) (owner_of name) (Some new) ≡ true
    alone_now =
        and_from (pointwise nat_eq (vms_of (xs ++ Effect creation ∷ []) (owner_of name)) ((vms_created xs + 1) ∷ [])) _
        (one_listed (vms_of (xs ++ Effect creation ∷ []) (owner_of name)) (vms_created xs + 1)
        (vms_made xs (owner_of name) n dep make hint itself ∙ ap (λ ks. ks ++ (vms_created xs + 1) ∷ []) none))
        made_now

    new_facts : SlotFacts (xs ++ Effect creation ∷ []) name (Some new)
    new_facts = record {
      shape = refl;
      created =
          and_from (was_made_as (xs ++ Effect creation ∷ []) (owner_of name) new new.vm) _ made_now
          (ap (is_made_in dep) (vm_creation_next xs creation refl) ∙ dep_self dep);
      tied = or_left (has_machine (xs ++ Effect creation ∷ []) (owner_of name) (Some new)) _ alone_now;
    }

    abbrev doubted : Slot
    doubted = record {
      dep = dep;
      make = make;
      vm = None;
      doubt = Some (record { n = n; call = calls.CreateVm make hint });
      key = key;
    }

    in_doubt : (b : Bool) → SlotFacts (done_with b xs creation) name (Some doubted)
    in_doubt true = record {
      shape = same_self make;
      created = refl;
      tied =
          or_right (has_machine (xs ++ Effect creation ∷ []) (owner_of name) (Some (record doubted { doubt = None }))) _
          (ap (λ o. has_machine (xs ++ Effect creation ∷ []) (owner_of name) (slot_found n o doubted))
          (found_made xs (owner_of name) n dep make hint itself fresh) ∙ alone_now);
    }
    in_doubt false = record {
      shape = same_self make;
      created = refl;
      tied =
          or_left (has_machine xs (owner_of name) (Some (record doubted { doubt = None }))) _
          (and_from (pointwise nat_eq (vms_of xs (owner_of name)) []) true
          (ap (λ ks. pointwise nat_eq ks []) none) refl);
    }

    pub creates : Kept built xs name None n dep key (calls.CreateVm make hint)
    creates b answer (inl (says, has)) =
        subst (λ (a : Answer). SlotFacts (done_with b xs creation) name
        (slot_after n (calls.CreateVm make hint) a (Some doubted))) (sym says)
        (subst (λ (c : Bool). SlotFacts (done_with c xs creation) name (Some new)) (sym has) new_facts)
    creates b answer (inr (failed, may)) =
        subst (λ (a : Answer). SlotFacts (done_with b xs creation) name
        (slot_after n (calls.CreateVm make hint) a (Some doubted))) (sym failed) (in_doubt b)

  -- ---- it has a machine, and nothing is in doubt

  module _ (it : Slot) (m : Vm) (facts : SlotFacts xs name (Some (record it { vm = Some m; doubt = None }))) where
    abbrev whole : Slot
    whole = record it { vm = Some m; doubt = None }

    tied_now : has_machine xs (owner_of name) (Some whole) ≡ true
    tied_now = by_either (has_machine xs (owner_of name) (Some whole)) facts.tied
      where
        by_either : (b : Bool) → (b || b) ≡ true → b ≡ true
        by_either true is = refl
        by_either false is = is

    alone : vms_of xs (owner_of name) ≡ m.vm ∷ []
    alone =
        same_list (vms_of xs (owner_of name)) (m.vm ∷ [])
        (and_parts (pointwise nat_eq (vms_of xs (owner_of name)) (m.vm ∷ [])) _ tied_now).0

    abbrev deletion : effect.Effect
    deletion = of_owner (owner_of name) n dep (calls.DeleteVm m.vm)

    abbrev deleting : Slot
    deleting = record it { vm = Some m; doubt = Some (record { n = n; call = calls.DeleteVm m.vm }) }

    gone_now : vms_of (xs ++ Effect deletion ∷ []) (owner_of name) ≡ []
    gone_now = vms_gone xs (owner_of name) n dep m.vm alone

    still_doubt : (b : Bool) → SlotFacts (done_with b xs deletion) name (Some deleting)
    still_doubt true = record {
      shape = eq-eqb m.vm m.vm refl;
      created =
          (λ i. was_made (owner_of name) m.agent (Some it.make) (made_still xs (owner_of name) n dep m.vm alone m.vm i)
          && is_made_in it.dep (made_still xs (owner_of name) n dep m.vm alone m.vm i)) ∙ facts.created;
      tied =
          or_right (has_machine (xs ++ Effect deletion ∷ []) (owner_of name) (Some whole)) _
          (ap (λ ks. pointwise nat_eq ks []) gone_now);
    }
    still_doubt false = record {
      shape = eq-eqb m.vm m.vm refl;
      created = facts.created;
      tied = or_left (has_machine xs (owner_of name) (Some whole)) _ tied_now;
    }

    pub deletes : Kept built xs name (Some whole) n dep key (calls.DeleteVm m.vm)
    deletes b answer (inl (says, has)) =
        subst (λ (a : Answer). SlotFacts (done_with b xs deletion) name
        (slot_after n (calls.DeleteVm m.vm) a (Some deleting))) (sym says)
        (subst (λ (c : Bool). SlotFacts (done_with c xs deletion) name
        (slot_after n (calls.DeleteVm m.vm) (answer_of built xs (calls.DeleteVm m.vm)) (Some deleting))) (sym has)
        (by_here (is_vm_there xs m.vm)))
      where
        by_here : (c : Bool) →
            SlotFacts (done_with (not (is_gone (unless_gone c answers.Done))) xs deletion) name
            (slot_after n (calls.DeleteVm m.vm) (unless_gone c answers.Done) (Some deleting))
        by_here true = none_facts (xs ++ Effect deletion ∷ []) name gone_now
        by_here false = facts
    deletes b answer (inr (failed, may)) =
        subst (λ (a : Answer). SlotFacts (done_with b xs deletion) name
        (slot_after n (calls.DeleteVm m.vm) a (Some deleting))) (sym failed) (still_doubt b)

    pub compiles : (work : KeyWork) (deps : List Digest) →
        Kept built xs name (Some whole) n dep key (calls.CompilePackage m.vm work deps)
    compiles work deps =
        asked built xs name (Some whole) n dep key (calls.CompilePackage m.vm work deps) refl facts
        (by_here (has_agent xs m.vm))
      where
        by_here : (c : Bool) → SlotFacts xs name
            (slot_after n (calls.CompilePackage m.vm work deps) (unless_gone c (answers.Built (built work deps)))
            (Some whole))
        by_here true = facts
        by_here false = facts

  -- ---- its creation is in doubt

  module _ (it : Slot) (m : ℕ) (make : Make) (hint : List ℕ)
      (facts : SlotFacts xs name
      (Some (record it { vm = None; doubt = Some (record { n = m; call = calls.CreateVm make hint }) })))
      (own : list_all (is_effect_of m (owner_of name) it.dep (calls.CreateVm make hint)) xs ≡ true) where
    abbrev unfound : Slot
    unfound = record it { vm = None; doubt = Some (record { n = m; call = calls.CreateVm make hint }) }

    ways : (pointwise nat_eq (vms_of xs (owner_of name)) [] ≡ true)
        ⊎ (has_machine xs (owner_of name) (slot_found m (found_vm xs m) unfound) ≡ true)
    ways =
        by_way (or_cases (pointwise nat_eq (vms_of xs (owner_of name)) [] && true)
        (has_machine xs (owner_of name) (slot_found m (found_vm xs m) unfound)) facts.tied)
      where
        by_way : ((pointwise nat_eq (vms_of xs (owner_of name)) [] && true) ≡ true)
            ⊎ (has_machine xs (owner_of name) (slot_found m (found_vm xs m) unfound) ≡ true) →
            (pointwise nat_eq (vms_of xs (owner_of name)) [] ≡ true)
            ⊎ (has_machine xs (owner_of name) (slot_found m (found_vm xs m) unfound) ≡ true)
        by_way (inl before) = inl (and_parts (pointwise nat_eq (vms_of xs (owner_of name)) []) true before).0
        by_way (inr later) = inr later

    found_facts : (o : Option ℕ) → found_vm xs m ≡ o → SlotFacts xs name (slot_found m o unfound)
    found_facts None is = record { shape = refl; created = refl; tied = by_way ways }
      where
        by_way : (pointwise nat_eq (vms_of xs (owner_of name)) [] ≡ true)
            ⊎ (has_machine xs (owner_of name) (slot_found m (found_vm xs m) unfound) ≡ true) →
            pointwise nat_eq (vms_of xs (owner_of name)) [] ≡ true
        by_way (inl before) = before
        by_way (inr later) =
            sym (ap (λ o. has_machine xs (owner_of name) (slot_found m o unfound)) is) ∙ later
    found_facts (Some v) is = by_way ways
      where
        found : IsFoundVm xs m v
        found = vm-found xs m v is

        made : IsEffectOf m (owner_of name) it.dep (calls.CreateVm make hint) found.e
        made =
            effect_of m (owner_of name) it.dep (calls.CreateVm make hint) xs found.e own
            (vm-among xs v found.e found.made) found.number

        by_way : (pointwise nat_eq (vms_of xs (owner_of name)) [] ≡ true)
            ⊎ (has_machine xs (owner_of name) (slot_found m (found_vm xs m) unfound) ≡ true) →
            SlotFacts xs name (slot_found m (Some v) unfound)
        by_way (inl before) =
            absurd (nothing (sym (ap (list_any (λ k. k == v)) (none_listed (vms_of xs (owner_of name)) before))
            ∙ listed xs (owner_of name) v (and_from (is_vm_there xs v) _ found.there
            (ap (is_made_for (owner_of name)) found.made ∙ made.of_owner))))
          where
            nothing : false ≡ true → ⊥
            nothing is = cc
        by_way (inr later) =
            let tied : has_machine xs (owner_of name) (slot_found m (Some v) unfound) ≡ true =
            sym (ap (λ o. has_machine xs (owner_of name) (slot_found m o unfound)) is) ∙ later in record {
              shape = refl;
              created =
                  and_from (was_made (owner_of name) m (Some it.make) (vm_creation xs v)) _
                  (and_parts (pointwise nat_eq (vms_of xs (owner_of name)) (v ∷ [])) _ tied).1
                  (ap (is_made_in it.dep) found.made ∙ made.of_dep);
              tied = or_left (has_machine xs (owner_of name) (slot_found m (Some v) unfound)) _ tied;
            }

    pub finds : Kept built xs name (Some unfound) n dep key (calls.FindVm m)
    finds =
        asked built xs name (Some unfound) n dep key (calls.FindVm m) refl facts (found_facts (found_vm xs m) refl)

  -- ---- its deletion is in doubt

  module _ (it : Slot) (k : Vm) (m v : ℕ)
      (facts : SlotFacts xs name
      (Some (record it { vm = Some k; doubt = Some (record { n = m; call = calls.DeleteVm v }) }))) where
    abbrev unknown : Slot
    unknown = record it { vm = Some k; doubt = Some (record { n = m; call = calls.DeleteVm v }) }

    abbrev known : Slot
    known = record it { vm = Some k; doubt = None }

    either : (has_machine xs (owner_of name) (Some known) ≡ true)
        ⊎ (pointwise nat_eq (vms_of xs (owner_of name)) [] ≡ true)
    either =
        or_cases (has_machine xs (owner_of name) (Some known)) (pointwise nat_eq (vms_of xs (owner_of name)) [])
        facts.tied

    made_for : is_made_for (owner_of name) (vm_creation xs k.vm) ≡ true
    made_for =
        by_creation (vm_creation xs k.vm)
        (and_parts (was_made (owner_of name) k.agent (Some it.make) (vm_creation xs k.vm)) _ facts.created).0
      where
        by_creation : (o : Option effect.Effect) → was_made (owner_of name) k.agent (Some it.make) o ≡ true →
            is_made_for (owner_of name) o ≡ true
        by_creation (Some e) was = (and_parts (same_owner e.owner (owner_of name)) _ was).0
        by_creation None was = absurd cc

    shown : (c : Bool) → is_vm_there xs k.vm ≡ c →
        SlotFacts xs name (slot_after n (calls.HasVm k.vm) (yes_or_no c) (Some unknown))
    shown true there = by_way either
      where
        by_way : (has_machine xs (owner_of name) (Some known) ≡ true)
            ⊎ (pointwise nat_eq (vms_of xs (owner_of name)) [] ≡ true) → SlotFacts xs name (Some known)
        by_way (inl before) =
            record {
              shape = refl;
              created = facts.created;
              tied = or_left (has_machine xs (owner_of name) (Some known)) _ before;
            }
        by_way (inr later) =
            absurd (nothing (sym (ap (list_any (λ j. j == k.vm)) (none_listed (vms_of xs (owner_of name)) later))
            ∙ listed xs (owner_of name) k.vm (and_from (is_vm_there xs k.vm) _ there made_for)))
          where
            nothing : false ≡ true → ⊥
            nothing is = cc
    shown false gone = by_way either
      where
        no : (b : Bool) → b ≡ false → b ≡ true → ⊥
        no true off on = cc
        no false off on = cc

        by_way : (has_machine xs (owner_of name) (Some known) ≡ true)
            ⊎ (pointwise nat_eq (vms_of xs (owner_of name)) [] ≡ true) → SlotFacts xs name None
        by_way (inl before) =
            absurd (no (is_vm_there xs k.vm) gone
            (and_parts (is_vm_there xs k.vm) _ (only_there xs (owner_of name) k.vm
            (same_list (vms_of xs (owner_of name)) (k.vm ∷ [])
            (and_parts (pointwise nat_eq (vms_of xs (owner_of name)) (k.vm ∷ [])) _ before).0))).0)
        by_way (inr later) = none_facts xs name (none_listed (vms_of xs (owner_of name)) later)

    pub shows : Kept built xs name (Some unknown) n dep key (calls.HasVm k.vm)
    shows =
        asked built xs name (Some unknown) n dep key (calls.HasVm k.vm) refl facts (shown (is_vm_there xs k.vm) refl)

-- ---- each of its calls

no_doubt : (o : Option Doubt) → not (is_some o) ≡ true → o ≡ None
no_doubt None is = refl
no_doubt (Some doubt) is = absurd cc

module _ (built : KeyWork → List Digest → Digest) (xs : List Entry) (name : SlotName) (n : ℕ) (dep : List ℕ)
    (key : Option Key) (fresh : is_taken xs n ≡ false) where
  -- as the record is written out
  at : (it : Slot) (vm : Option Vm) (doubt : Option Doubt) → it.vm ≡ vm → it.doubt ≡ doubt → (call : Call) →
      (SlotFacts xs name (Some (record it { vm = vm; doubt = doubt })) →
      Kept built xs name (Some (record it { vm = vm; doubt = doubt })) n dep key call) →
      SlotFacts xs name (Some it) → Kept built xs name (Some it) n dep key call
  at it vm doubt has is call shown facts =
      subst (λ (s : Slot). Kept built xs name (Some s) n dep key call)
      (λ i. record it { vm = sym has i; doubt = sym is i })
      (shown (subst (λ (s : Slot). SlotFacts xs name (Some s)) (λ i. record it { vm = has i; doubt = is i }) facts))

  -- on its machine
  on_vm : (it : Slot) (v : ℕ) (o : Option Vm) → it.vm ≡ o → is_machine o v ≡ true → (call : ℕ → Call) →
      ((m : Vm) → it.vm ≡ Some m → Kept built xs name (Some it) n dep key (call m.vm)) →
      Kept built xs name (Some it) n dep key (call v)
  on_vm it v None has is call shown = absurd cc
  on_vm it v (Some m) has is call shown =
      subst (λ (k : ℕ). Kept built xs name (Some it) n dep key (call k)) (eqb-true m.vm v is) (shown m has)

  finds_it : (it : Slot) (agent : ℕ) → SlotFacts xs name (Some it) → is_slot_doubt_its_own xs name it ≡ true →
      it.vm ≡ None → (o : Option Doubt) → it.doubt ≡ o → is_some_with (λ d. d.n == agent) o ≡ true →
      Kept built xs name (Some it) n dep key (calls.FindVm agent)
  finds_it it agent facts own none None is same = absurd cc
  finds_it it agent facts own none (Some d) is same =
      subst (λ (k : ℕ). Kept built xs name (Some it) n dep key (calls.FindVm k)) (eqb-true d.n agent same)
      (by_call d.n d.call is
      ((λ i. is_slot_doubt_its_own xs name (record it { doubt = sym is i })) ∙ own)
      ((λ i. is_shaped_by it.make (sym none i) (sym is i)) ∙ facts.shape))
    where
      by_call : (m : ℕ) (c : Call) → it.doubt ≡ Some (record { n = m; call = c }) →
          list_all (is_effect_of m (owner_of name) it.dep c) xs ≡ true → is_creation_of it.make c ≡ true →
          Kept built xs name (Some it) n dep key (calls.FindVm m)
      by_call m (calls.CreateVm make hint) is own shape =
          at it None (Some (record { n = m; call = calls.CreateVm make hint })) none is (calls.FindVm m)
          (λ facts. finds built xs name n dep key fresh it m make hint facts own) facts
      by_call m c is own shape = absurd cc

  shows_it : (it : Slot) (m : Vm) → SlotFacts xs name (Some it) → it.vm ≡ Some m → (o : Option Doubt) →
      it.doubt ≡ o → is_some o ≡ true → Kept built xs name (Some it) n dep key (calls.HasVm m.vm)
  shows_it it m facts has None is some = absurd cc
  shows_it it m facts has (Some d) is some =
      by_call d.n d.call is ((λ i. is_shaped_by it.make (sym has i) (sym is i)) ∙ facts.shape)
    where
      by_call : (k : ℕ) (c : Call) → it.doubt ≡ Some (record { n = k; call = c }) → is_deletion_of m.vm c ≡ true →
          Kept built xs name (Some it) n dep key (calls.HasVm m.vm)
      by_call k (calls.DeleteVm v) is shape =
          at it (Some m) (Some (record { n = k; call = calls.DeleteVm v })) has is (calls.HasVm m.vm)
          (λ facts. shows built xs name n dep key fresh it m k v facts) facts
      by_call k c is shape = absurd cc

  slot_by : (call : Call) (slot : Option Slot) → SlotFacts xs name slot →
      where_any (is_slot_doubt_its_own xs name) slot ≡ true → is_call_of_slot call slot ≡ true →
      Kept built xs name slot n dep key call
  slot_by (calls.CreateVm make hint) None facts own fits =
      creates built xs name n dep key fresh make hint (none_listed (vms_of xs (owner_of name)) facts.tied)
  slot_by (calls.DeleteVm v) (Some it) facts own fits =
      let parts : (is_machine it.vm v ≡ true) × (not (is_some it.doubt) ≡ true) =
      and_parts (is_machine it.vm v) _ fits in
      on_vm it v it.vm refl parts.0 calls.DeleteVm
      (λ m has. at it (Some m) None has (no_doubt it.doubt parts.1) (calls.DeleteVm m.vm)
      (λ facts. deletes built xs name n dep key fresh it m facts) facts)
  slot_by (calls.FindVm agent) (Some it) facts own fits =
      let parts : (not (is_some it.vm) ≡ true) × (is_some_with (λ d. d.n == agent) it.doubt ≡ true) =
      and_parts (not (is_some it.vm)) _ fits in
      finds_it it agent facts own (no_vm it.vm parts.0) it.doubt refl parts.1
    where
      no_vm : (o : Option Vm) → not (is_some o) ≡ true → o ≡ None
      no_vm None is = refl
      no_vm (Some m) is = absurd cc
  slot_by (calls.HasVm v) (Some it) facts own fits =
      let parts : (is_machine it.vm v ≡ true) × (is_some it.doubt ≡ true) = and_parts (is_machine it.vm v) _ fits in
      on_vm it v it.vm refl parts.0 calls.HasVm (λ m has. shows_it it m facts has it.doubt refl parts.1)
  slot_by (calls.CompilePackage v work deps) (Some it) facts own fits =
      let parts : (is_machine it.vm v ≡ true) × (not (is_some it.doubt) ≡ true) =
      and_parts (is_machine it.vm v) _ fits in
      on_vm it v it.vm refl parts.0 (λ v. calls.CompilePackage v work deps)
      (λ m has. at it (Some m) None has (no_doubt it.doubt parts.1) (calls.CompilePackage m.vm work deps)
      (λ facts. compiles built xs name n dep key fresh it m facts work deps) facts)
  slot_by call slot facts own fits = absurd cc

pub slot_kept : (built : KeyWork → List Digest → Digest) (xs : List Entry) (name : SlotName) (slot : Option Slot)
    (n : ℕ) (dep : List ℕ) (key : Option Key) (call : Call) (b : Bool) (answer : Answer) → SlotFacts xs name slot →
    where_any (is_slot_doubt_its_own xs name) slot ≡ true → is_call_of_slot call slot ≡ true →
    is_taken xs n ≡ false → CallStep built xs call b answer →
    SlotFacts (done_with b xs (of_owner (owner_of name) n dep call)) name
    (slot_after n call answer (slot_begun n call dep key slot))
slot_kept built xs name slot n dep key call b answer facts own fits fresh step =
    slot_by built xs name n dep key fresh call slot facts own fits b answer step
