-- What is done beside a compile machine leaves its facts, and those of what it was before its call and will be after it.
use Rattle.std.proofs.Common.{◌≡◌, ◌∙◌, ℕ, Bool, true, false, Option, Some, None, List, [], ◌∷◌, ◌++◌, ap, refl, sym}
use Rattle.std.proofs.Common.{subst}
use Rattle.std.specs.Prelude.{◌&&◌, ◌==◌, ◌≢◌}
use Rattle.std.specs.List.{list_all}
use Rattle.std.specs.Option.{option_and_then}
use Rattle.std.specs.Str.{bytes_eq}
use Rattle.std.proofs.lemmas.Bool.{and_from, and_parts}
use Rattle.std.proofs.lemmas.List.Folds.{list_all-append}
use Rattle.bosh_base.specs.Cloud.{is_vm_there, vm_creation}
use Rattle.bosh_base.specs.declared.answer.Answer.{Answer}
use Rattle.bosh_base.specs.declared.answer.Answer.TheVariants as answers
use Rattle.bosh_base.specs.declared.call.Call.{Call}
use Rattle.bosh_base.specs.declared.call.Call.TheVariants as calls
use Rattle.bosh_base.specs.declared.entry.Begin.{Begin}
use Rattle.bosh_base.specs.declared.entry.Effect.{Effect}
use Rattle.bosh_base.specs.declared.entry.Entry.{Entry}
use Rattle.bosh_base.specs.declared.entry.Entry.TheVariants as entries
use Rattle.bosh_base.specs.declared.entry.Loss.{Loss}
use Rattle.bosh_base.specs.declared.entry.Write.{Write}
use Rattle.bosh_base.specs.declared.moves.Did.{Did}
use Rattle.bosh_base.specs.declared.owner.Owner.{Owner}
use Rattle.bosh_base.specs.declared.owner.Owner.TheVariants.{Compile, Disk, Instance}
use Rattle.bosh_base.specs.declared.row.Doubt.{Doubt}
use Rattle.bosh_base.specs.declared.row.Vm.{Vm}
use Rattle.bosh_history.specs.Known.{dep_named, Slot, SlotName}
use Rattle.bosh_history.specs.Moments.{dep_of, Moment, OpenCall}
use Rattle.bosh_history.specs.Permitted.{can_lose, is_instances}
use Rattle.bosh_history.specs.Slots.{slot_after, slot_told}
use Rattle.bosh_rows.specs.Same.{same_owner}
use Rattle.laws_cloud.proofs.CallLemmas.{names_own}
use Rattle.laws_cloud.proofs.DoneLemmas.{made_by}
use Rattle.laws_compile_machines_kept.proofs.NamedLemmas.{other_number}
use Rattle.laws_facts.specs.CallFacts.{IsOwnerKept, named}
use Rattle.laws_facts.specs.Facts.{Holds}
use Rattle.laws_facts.specs.Numbers.{is_open_for}
use Rattle.laws_facts.specs.OpenCalls.{slot_as_before}
use Rattle.laws_items.proofs.ItemFrames.{slot_dep}
use Rattle.laws_items.proofs.OwnerLemmas.{same_owner_is}
use Rattle.laws_row_facts.specs.Cloud.{is_for_instance, is_instance}
use Rattle.laws_row_facts.specs.Numbers.{is_effect_of}
use Rattle.laws_row_facts.specs.Words.{implies, same_call, where_any}
use Rattle.laws_slots.proofs.SlotFrames.{slot_loss, slot_other, slot_write}
use Rattle.laws_slots.specs.Slots.{is_slot_doubt_its_own, owner_of, SlotFacts}

-- ---- what was before a call and what will be after it is in doubt of the same call, if of any

-- the record is in doubt of nothing but what the recorded one is in doubt of
abbrev pub DoubtsAs : Option Slot → Option Slot → Type 0
DoubtsAs slot x =
    (it : Slot) (d : Doubt) → x ≡ Some it → it.doubt ≡ Some d
    → (was : Slot) × (slot ≡ Some was) × (was.doubt ≡ Some d) × (was.dep ≡ it.dep)

pub doubts_itself : (slot : Option Slot) → DoubtsAs slot slot
doubts_itself slot it d is has = (it, is, has, refl)

-- one without a doubt
quiet : (was it : Slot) (vm : Option Vm) (d : Doubt) → Some (record was { vm = vm; doubt = None }) ≡ Some it
    → it.doubt ≡ Some d → ⊥
quiet was it vm d is has =
    let same : record was { vm = vm; doubt = None } ≡ it = cc in
    let none : None ≡ it.doubt = ap (λ (x : Slot). x.doubt) same in cc

pub doubts_before : (call : Call) (slot : Option Slot) → DoubtsAs slot (slot_as_before call slot)
doubts_before (calls.CreateVm make disks) slot it d is has = absurd cc
doubts_before (calls.DeleteVm v) (Some was) it d is has = absurd (quiet was it was.vm d is has)
doubts_before (calls.DeleteVm v) None it d is has = absurd cc
doubts_before call slot it d is has = (it, is, has, refl)

told : (n : ℕ) (call : Call) (answer : Answer) (was it : Slot) (d : Doubt) → slot_told n call answer was ≡ Some it
    → it.doubt ≡ Some d → (old : Slot) × (Some was ≡ Some old) × (old.doubt ≡ Some d) × (old.dep ≡ it.dep)
told n (calls.CreateVm make disks) (answers.Cid v) was it d is has =
    absurd (quiet was it (Some (record { vm = v; agent = n })) d is has)
told n (calls.FindVm agent) (answers.Found (Some v)) was it d is has =
    absurd (quiet was it (Some (record { vm = v; agent = agent })) d is has)
told n (calls.FindVm agent) (answers.Found None) was it d is has = absurd cc
told n (calls.DeleteVm vm) answers.Done was it d is has = absurd cc
told n (calls.DeleteVm vm) answers.Gone was it d is has = absurd (quiet was it was.vm d is has)
told n (calls.HasVm vm) answers.No was it d is has = absurd cc
told n (calls.HasVm vm) answers.Yes was it d is has = absurd (quiet was it was.vm d is has)
told n call answer was it d is has =
    let same : was ≡ it = cc in
    (was, refl, ap (λ (x : Slot). x.doubt) same ∙ has, ap (λ (x : Slot). x.dep) same)

doubts_after : (n : ℕ) (call : Call) (answer : Answer) (slot : Option Slot)
    → DoubtsAs slot (slot_after n call answer slot)
doubts_after n call answer (Some was) it d is has = told n call answer was it d is has
doubts_after n call answer None it d is has = absurd cc

-- so what has the number of its doubt is the call in doubt, where that is so of the recorded one
pub own_of : (xs : List Entry) (name : SlotName) (slot x : Option Slot) → DoubtsAs slot x
    → where_any (is_slot_doubt_its_own xs name) slot ≡ true → where_any (is_slot_doubt_its_own xs name) x ≡ true
own_of xs name slot None doubts own = refl
own_of xs name slot (Some it) doubts own = by it.doubt refl
  where
    by : (o : Option Doubt) → it.doubt ≡ o → is_slot_doubt_its_own xs name it ≡ true
    by None none = λ j. where_any (λ d. list_all (is_effect_of d.n (owner_of name) it.dep d.call) xs) (none j)
    by (Some d) has =
        let (was, is, had, dep) = doubts it d refl has in
        (λ j. where_any (λ d. list_all (is_effect_of d.n (owner_of name) (sym dep j) d.call) xs) (has j))
        ∙ (sym (λ j. where_any (λ d. list_all (is_effect_of d.n (owner_of name) was.dep d.call) xs) (had j))
        ∙ (sym (λ j. where_any (is_slot_doubt_its_own xs name) (is j)) ∙ own))

-- ---- at a moment

apart_owners : (a b : Owner) → a ≢ b → same_owner a b ≡ false
apart_owners a b apart = by (same_owner a b) refl
  where
    by : (same : Bool) → same_owner a b ≡ same → same ≡ false
    by true same = absurd (apart (same_owner_is a b same))
    by false same = refl

-- the facts stay from these effects to those, for each record that doubts as the recorded one
abbrev pub Leaves : List Entry → List Entry → SlotName → Option Slot → Type 0
Leaves xs ys name slot = (x : Option Slot) → DoubtsAs slot x → SlotFacts xs name x → SlotFacts ys name x

module _ (m : Moment) (h : Holds m) (t s : ℕ) where
  abbrev slot : Option Slot
  slot = m.known.slot t s

  -- what has the number of the call in doubt is that call
  doubt_own : (it : Slot) (d : Doubt) → slot ≡ Some it → it.doubt ≡ Some d
      → list_all (is_effect_of d.n (Compile t s) it.dep d.call) m.effects ≡ true
  doubt_own it d is has =
      (λ j. list_all
      (is_effect_of d.n (Compile t s) (dep_named (sym (slot_dep m t s it h.known is) j)) d.call) m.effects)
      ∙ (and_parts
      (list_all (is_effect_of d.n (Compile t s) (dep_of m.known (Compile t s)) d.call) m.effects) _
      (sym (λ j. where_any
      (λ (d : Doubt). list_all (is_effect_of d.n (Compile t s) (dep_of m.known (Compile t s)) d.call) m.effects
      && where_any (is_open_for (Compile t s) d.call) (m.calls d.n))
      (((λ k. option_and_then (λ (it : Slot). it.doubt) (is k)) ∙ has) j))
      ∙ h.effects.doubts_own (Compile t s))).0

  own_all : (xs : List Entry)
      → ((it : Slot) (d : Doubt) → slot ≡ Some it → it.doubt ≡ Some d
      → list_all (is_effect_of d.n (Compile t s) it.dep d.call) xs ≡ true)
      → where_any (is_slot_doubt_its_own xs (named t s)) slot ≡ true
  own_all xs all = by slot refl
    where
      of : (it : Slot) → slot ≡ Some it → (o : Option Doubt) → it.doubt ≡ o
          → is_slot_doubt_its_own xs (named t s) it ≡ true
      of it is None none =
          λ j. where_any (λ d. list_all (is_effect_of d.n (Compile t s) it.dep d.call) xs) (none j)
      of it is (Some d) has =
          (λ j. where_any (λ d. list_all (is_effect_of d.n (Compile t s) it.dep d.call) xs) (has j)) ∙ all it d is has

      by : (o : Option Slot) → slot ≡ o → where_any (is_slot_doubt_its_own xs (named t s)) slot ≡ true
      by None is = λ j. where_any (is_slot_doubt_its_own xs (named t s)) (is j)
      by (Some it) is = (λ j. where_any (is_slot_doubt_its_own xs (named t s)) (is j)) ∙ of it is it.doubt refl

  pub own_now : where_any (is_slot_doubt_its_own m.effects (named t s)) slot ≡ true
  own_now = own_all m.effects doubt_own

  pub written : (w : Write) → Leaves m.effects (m.effects ++ entries.Write w ∷ []) (named t s) slot
  written w x doubts facts =
      slot_write m.effects (named t s) x w facts (own_of m.effects (named t s) slot x doubts own_now)

  pub lost : (loss : Loss) → can_lose m.effects loss ≡ true
      → Leaves m.effects (m.effects ++ entries.Lost loss ∷ []) (named t s) slot
  lost loss can x doubts facts =
      slot_loss m.effects (named t s) x loss facts (own_of m.effects (named t s) slot x doubts own_now)
      (instances (vm_creation m.effects loss.vm) (and_parts (is_vm_there m.effects loss.vm) _ can).1)
    where
      instances : (o : Option Effect) → is_instances o ≡ true → is_for_instance o ≡ true
      instances (Some e) is = of e.owner is
        where
          of : (owner : Owner) → is_instances (Some (record e { owner = owner })) ≡ true → is_instance owner ≡ true
          of (Instance i) is = refl
          of (Compile t s) is = is
          of (Disk d) is = is
      instances None is = is

  -- an open call of another owner
  module _ (n : ℕ) (call : OpenCall) (is : m.calls n ≡ Some call) (apart : call.begin.owner ≢ Compile t s) where
    other : (it : Slot) (d : Doubt) → slot ≡ Some it → it.doubt ≡ Some d → (call.begin.n == d.n) ≡ false
    other it d at has =
        other_number m h n call is (Compile t s) d ((λ k. option_and_then (λ (it : Slot). it.doubt) (at k)) ∙ has)
        apart

    own_later : where_any
        (is_slot_doubt_its_own (m.effects ++ entries.Effect (made_by m.known call.begin) ∷ []) (named t s)) slot
        ≡ true
    own_later =
        own_all (m.effects ++ entries.Effect (made_by m.known call.begin) ∷ [])
        (λ it d at has.
        list_all-append (is_effect_of d.n (Compile t s) it.dep d.call) m.effects
        (entries.Effect (made_by m.known call.begin) ∷ [])
        ∙ and_from (list_all (is_effect_of d.n (Compile t s) it.dep d.call) m.effects) _ (doubt_own it d at has)
        (and_from
        (is_effect_of d.n (Compile t s) it.dep d.call (entries.Effect (made_by m.known call.begin))) true
        (λ j. implies (other it d at has j) (same_owner call.begin.owner (Compile t s)
        && (bytes_eq (dep_of m.known call.begin.owner) it.dep && same_call call.begin.call d.call))) refl))

    pub others : Leaves m.effects (m.effects ++ entries.Effect (made_by m.known call.begin) ∷ []) (named t s) slot
    others x doubts facts =
        slot_other m.effects (named t s) x (made_by m.known call.begin) facts
        (own_of (m.effects ++ entries.Effect (made_by m.known call.begin) ∷ []) (named t s) slot x doubts own_later)
        (apart_owners call.begin.owner (Compile t s) apart) (names_own m h n call is)

  -- what an open call of it was or will be
  pub owner_left : (b : Begin) (did : Option Did) (later : Moment) → later.known.slot t s ≡ slot
      → Leaves m.effects later.effects (named t s) slot → IsOwnerKept m b did (Compile t s)
      → IsOwnerKept later b did (Compile t s)
  owner_left b None later same leaves kept =
      subst (λ x. SlotFacts later.effects (named t s) (slot_as_before b.call x)) (sym same)
      (leaves (slot_as_before b.call slot) (doubts_before b.call slot) kept)
  owner_left b (Some d) later same leaves kept =
      subst (λ x. SlotFacts later.effects (named t s) (slot_after b.n b.call d.answer x)) (sym same)
      (leaves (slot_after b.n b.call d.answer slot) (doubts_after b.n b.call d.answer slot) kept)
