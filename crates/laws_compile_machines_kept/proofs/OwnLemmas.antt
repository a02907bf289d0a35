-- What the cloud does of the call of a compile machine keeps its facts.
use Rattle.std.proofs.Common.{◌≡◌, ◌∙◌, ℕ, Bool, true, false, Option, Some, None, List, refl, sym, subst, inl, inr}
use Rattle.std.proofs.Common.{◌+◌, ◌≤◌, arith}
use Rattle.std.specs.Prelude.{◌&&◌, ◌⊎◌, nat_le, not, is_some}
use Rattle.std.specs.List.{list_all}
use Rattle.std.proofs.lemmas.Bool.{and_parts, false≢true, leb-true, not-true, or_cases}
use Rattle.bosh_base.specs.CallStep.{CallStep}
use Rattle.bosh_base.specs.declared.answer.Answer.{Answer}
use Rattle.bosh_base.specs.declared.answer.Answer.TheVariants as answers
use Rattle.bosh_base.specs.declared.call.Call.{Call}
use Rattle.bosh_base.specs.declared.call.Call.TheVariants as calls
use Rattle.bosh_base.specs.declared.digest.Digest.{Digest}
use Rattle.bosh_base.specs.declared.entry.Effect.{Effect}
use Rattle.bosh_base.specs.declared.entry.Entry.{Entry}
use Rattle.bosh_base.specs.declared.key.KeyWork.{KeyWork}
use Rattle.bosh_base.specs.declared.owner.Owner.TheVariants.{Compile}
use Rattle.bosh_history.specs.Known.{dep_named, Slot}
use Rattle.bosh_history.specs.Moments.{dep_of, Moment, OpenCall}
use Rattle.bosh_history.specs.Slots.{slot_after}
use Rattle.bosh_history.specs.Words.{holds}
use Rattle.bosh_rows.specs.Standing.{same_truth}
use Rattle.laws_cloud.proofs.DoneLemmas.{made_by}
use Rattle.laws_compile_machines_kept.proofs.BeganLemmas.{Began, began}
use Rattle.laws_compile_machines_kept.proofs.FrameLemmas.{doubts_before, own_now, own_of}
use Rattle.laws_effects.specs.Orderly.{is_taken}
use Rattle.laws_facts.specs.CallFacts.{IsOwnerKept, named}
use Rattle.laws_facts.specs.Facts.{Holds}
use Rattle.laws_facts.specs.Numbers.{has_effect, is_done_as_told}
use Rattle.laws_facts.specs.OpenCalls.{fits_known, fits_slot, slot_as_before}
use Rattle.laws_items.proofs.ItemFrames.{slot_dep}
use Rattle.laws_row_facts.specs.Numbers.{is_effect_of}
use Rattle.laws_row_facts.specs.Words.{where_any}
use Rattle.laws_rows.specs.Rightful.{done_with}
use Rattle.laws_slots.proofs.SlotCases.{slot_kept}
use Rattle.laws_slots.specs.Slots.{has_shape, is_slot_doubt_its_own, SlotFacts}

-- ---- what the cloud does of a call

-- where it was answered, it might have failed instead
pub failed_instead : (built : KeyWork → List Digest → Digest) (xs : List Entry) (call : Call) (has : Bool)
    (answer : Answer) → CallStep built xs call has answer → CallStep built xs call has answers.Failed
failed_instead built xs call has answer (inl (says, takes)) = inr (refl, λ is. sym takes ∙ is)
failed_instead built xs call has answer (inr (failed, may)) = inr (refl, may)

-- a failed call changes nothing of the record
pub failed_slot : (n : ℕ) (call : Call) (slot : Option Slot) → slot_after n call answers.Failed slot ≡ slot
failed_slot n call None = refl
failed_slot n (calls.CreateVm make disks) (Some it) = refl
failed_slot n (calls.DeleteVm v) (Some it) = refl
failed_slot n (calls.FindVm agent) (Some it) = refl
failed_slot n (calls.HasVm v) (Some it) = refl
failed_slot n call (Some it) = refl

-- the next number is new
pub next_fresh : (m : Moment) → Holds m → (n : ℕ) → n ≡ m.known.last_call + 1 → is_taken m.effects n ≡ false
next_fresh m h n number =
    of (or_cases (nat_le 1 n && nat_le n m.known.last_call) (not (is_some (m.calls n)) && not (is_taken m.effects n))
    (h.known.numbers.past n))
  where
    of : ((nat_le 1 n && nat_le n m.known.last_call) ≡ true)
        ⊎ ((not (is_some (m.calls n)) && not (is_taken m.effects n)) ≡ true)
        → is_taken m.effects n ≡ false
    of (inl within) =
        let low : n ≤ m.known.last_call =
        leb-true n m.known.last_call (and_parts (nat_le 1 n) (nat_le n m.known.last_call) within).1 in
        absurd (omega arith)
    of (inr none) =
        not-true (is_taken m.effects n)
        (and_parts (not (is_some (m.calls n))) (not (is_taken m.effects n)) none).1

module _ (m : Moment) (h : Holds m) (n : ℕ) (call : OpenCall) (is : m.calls n ≡ Some call) where
  -- a call that was not performed had no effect
  pub not_taken : call.did ≡ None → is_taken m.effects call.begin.n ≡ false
  not_taken none =
      by (is_taken m.effects call.begin.n)
      ((λ j. same_truth (is_taken m.effects call.begin.n) (has_effect (sym none j))) ∙
      (and_parts
      (list_all
      (is_effect_of call.begin.n call.begin.owner (dep_of m.known call.begin.owner) call.begin.call) m.effects)
      (same_truth (is_taken m.effects call.begin.n) (has_effect call.did))
      (sym (λ j. where_any (is_done_as_told m) (is j)) ∙ h.effects.done_as_told n)).1)
    where
      by : (taken : Bool) → same_truth taken false ≡ true → taken ≡ false
      by true same = absurd (false≢true same)
      by false same = refl

  module _ (t s : ℕ) (own : call.begin.owner ≡ Compile t s) (none : call.did ≡ None) where
    -- what it was before the call
    before_facts : SlotFacts m.effects (named t s) (slot_as_before call.begin.call (m.known.slot t s))
    before_facts =
        subst (λ did. IsOwnerKept m call.begin did (Compile t s)) none
        (subst (λ owner. IsOwnerKept m call.begin call.did owner) own (h.performed n call is).owner_kept)

    pub own_done : (built : KeyWork → List Digest → Digest) (has : Bool) (answer : Answer)
        → CallStep built m.effects call.begin.call has answer
        → SlotFacts (done_with has m.effects (made_by m.known call.begin)) (named t s)
        (slot_after call.begin.n call.begin.call answer (m.known.slot t s))
    own_done built has answer step =
        by (m.known.slot t s) refl
        (subst (λ owner. fits_known m.known call.begin owner ≡ true) own (h.known.calls n call is).fits)
      where
        by : (slot : Option Slot) → m.known.slot t s ≡ slot
            → holds (fits_slot call.begin.n call.begin.call) slot ≡ true
            → SlotFacts (done_with has m.effects (made_by m.known call.begin)) (named t s)
            (slot_after call.begin.n call.begin.call answer (m.known.slot t s))
        by None at fits = absurd (false≢true fits)
        by (Some it) at fits =
            subst (λ e. SlotFacts (done_with has m.effects e) (named t s)
            (slot_after call.begin.n call.begin.call answer (m.known.slot t s))) same_effect
            (subst (λ slot. SlotFacts (done_with has m.effects made) (named t s)
            (slot_after call.begin.n call.begin.call answer slot)) (it_began.begun ∙ sym at)
            (slot_kept built m.effects (named t s) (slot_as_before call.begin.call (Some it)) call.begin.n it.dep it.key
            call.begin.call has answer
            (subst (λ slot. SlotFacts m.effects (named t s) (slot_as_before call.begin.call slot)) at before_facts)
            (own_of m.effects (named t s) (Some it) (slot_as_before call.begin.call (Some it))
            (doubts_before call.begin.call (Some it))
            (sym (λ j. where_any (is_slot_doubt_its_own m.effects (named t s)) (at j)) ∙ own_now m h t s))
            it_began.is_call (not_taken none) step))
          where
            shape : has_shape it ≡ true
            shape = sym (λ j. where_any has_shape (at j)) ∙ h.known.shapes t s

            it_began : Began call.begin.n call.begin.call it.dep it.key (Some it)
            it_began = began call.begin.n call.begin.call it fits shape

            made : Effect
            made = record { n = call.begin.n; owner = Compile t s; dep = it.dep; call = call.begin.call }

            dep_now : it.dep ≡ dep_of m.known call.begin.owner
            dep_now = sym ((λ j. dep_of m.known (own j)) ∙ (λ j. dep_named (slot_dep m t s it h.known at j)))

            same_effect : made ≡ made_by m.known call.begin
            same_effect = λ j. record {
              n = call.begin.n;
              owner = sym own j;
              dep = dep_now j;
              call = call.begin.call;
            }
