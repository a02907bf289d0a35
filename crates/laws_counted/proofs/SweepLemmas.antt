-- A machine that a task sweeps has two calls at most.
use Rattle.std.proofs.Common.{◌≡◌, ◌∙◌, ℕ, ◌+◌, ◌≤◌, Bool, true, false, Option, Some, None}
use Rattle.std.proofs.Common.{arith, refl, subst, sym}
use Rattle.std.specs.Prelude.{◌==◌, eqb, if◌then◌else◌, is_some, nat_le}
use Rattle.std.proofs.lemmas.Bool.{false≢true, le-leb, leb-true}
use Rattle.bosh_base.specs.Answer.{is_kind}
use Rattle.bosh_base.specs.Call.{method_of}
use Rattle.bosh_base.specs.CallStep.{is_gone}
use Rattle.bosh_base.specs.declared.answer.Answer.{Answer}
use Rattle.bosh_base.specs.declared.answer.Answer.TheVariants as answers
use Rattle.bosh_base.specs.declared.call.Call.{Call}
use Rattle.bosh_base.specs.declared.call.Call.TheVariants as calls
use Rattle.bosh_base.specs.declared.entry.Begin.{Begin}
use Rattle.bosh_base.specs.declared.entry.Entry.TheVariants as entries
use Rattle.bosh_base.specs.declared.owner.Owner.{Owner}
use Rattle.bosh_history.specs.Known.{Slot, SlotName}
use Rattle.bosh_history.specs.Moments.{Moment, OpenCall, noting}
use Rattle.bosh_history.specs.Notes.{Begins}
use Rattle.bosh_history.specs.Slots.{slot_after}
use Rattle.bosh_history.specs.Steps.{call_now, is_idle, is_owners}
use Rattle.bosh_lawful.specs.Clean.{is_failed}
use Rattle.laws_counted.proofs.CallFrames.{SameBegins, begun_now, idle_back}
use Rattle.laws_counted.proofs.OwnLemmas.{earlier_is}
use Rattle.laws_counts.specs.Counts.{SweepFacts, is_of_earlier, is_sweeping_in_two, owner_of}
use Rattle.laws_counts.specs.Counts.{to_come, to_come_after}
use Rattle.laws_counts.specs.Courses.{Account}
use Rattle.laws_facts.proofs.CallLemmas.{none_open}
use Rattle.laws_facts.specs.Kept.{AreNumbersPast}
use Rattle.laws_heard.proofs.AnswerLemmas.{implied}
use Rattle.laws_heard.proofs.NoteLemmas.{implied_by}
use Rattle.laws_items.proofs.OwnerLemmas.{same_owner_is}
use Rattle.laws_items.proofs.SlotCalls.{SlotCall, compiles, creates, deletes, finds, looks, slot_call}
use Rattle.laws_row_facts.specs.Words.{where_any}

-- ---- in numbers

-- the calls that began, and so many more, are two at most
abbrev Fits : ℕ → ℕ → Type 0
Fits made more = nat_le (made + more) 2 ≡ true

fewer : (made more less : ℕ) → less ≤ more → Fits made more → Fits made less
fewer made more less low is =
    let most : made + more ≤ 2 = leb-true (made + more) 2 is in le-leb (made + less) 2 (omega (arith, most, low))

one_begun : (made more less : ℕ) → less + 1 ≤ more → Fits made more → Fits (made + 1) less
one_begun made more less low is =
    let most : made + more ≤ 2 = leb-true (made + more) 2 is in le-leb (made + 1 + less) 2 (omega (arith, most, low))

-- ---- the facts, by what they say

module _ (m : Moment) (t : ℕ) (it : Account) (name : SlotName) where
  abbrev owner : Owner
  owner = owner_of name

  abbrev slot : Option Slot
  slot = m.known.slot name.task name.slot

  module _ (f : SweepFacts m t it name) where
    pub at_rest : is_idle m owner ≡ true → Fits (it.made owner) (to_come slot)
    at_rest idle = implied (is_idle m owner) (nat_le (it.made owner + to_come slot) 2) f.idle idle

    pub in_call : (n : ℕ) (call : OpenCall) → m.calls n ≡ Some call → call.begin.owner ≡ owner
        → Fits (it.made owner) (to_come_after call.begin.call)
    in_call n call is own =
        implied (is_owners owner call) (nat_le (it.made owner + to_come_after call.begin.call) 2)
        (sym (λ j. where_any (is_sweeping_in_two it name) (is j)) ∙ f.calling n) (own_is call own)
      where
        own_is : (call : OpenCall) → call.begin.owner ≡ owner → is_owners owner call ≡ true
        own_is call own = (λ j. is_owners owner (record call { begin = record call.begin { owner = own j } })) ∙ itself
          where
            itself : is_owners owner (record call { begin = record call.begin { owner = owner } }) ≡ true
            itself = grind (arith)

  pub sweep_from : is_of_earlier m.known t name ≡ true
      → (is_idle m owner ≡ true → Fits (it.made owner) (to_come slot))
      → ((n : ℕ) (call : OpenCall) → m.calls n ≡ Some call → call.begin.owner ≡ owner
      → Fits (it.made owner) (to_come_after call.begin.call))
      → SweepFacts m t it name
  sweep_from earlier rests calls = record {
    earlier = earlier;
    idle = implied_by (is_idle m owner) (nat_le (it.made owner + to_come slot) 2) rests;
    calling = λ n. by n (m.calls n) refl;
  }
    where
      by : (n : ℕ) (o : Option OpenCall) → m.calls n ≡ o → where_any (is_sweeping_in_two it name) o ≡ true
      by n (Some call) is =
          implied_by (is_owners owner call) (nat_le (it.made owner + to_come_after call.begin.call) 2)
          (λ own. calls n call is (sym (same_owner_is owner call.begin.owner own)))
      by n None is = refl

-- ---- another's moves

-- where its calls, its record and their count are the same
pub sweep_same : (m n : Moment) (t : ℕ) (a b : Account) (name : SlotName) → AreNumbersPast n
    → is_of_earlier n.known t name ≡ true → SameBegins m n (owner_of name)
    → n.known.slot name.task name.slot ≡ m.known.slot name.task name.slot
    → b.made (owner_of name) ≡ a.made (owner_of name) → SweepFacts m t a name → SweepFacts n t b name
sweep_same m n t a b name past earlier same slot made f =
    sweep_from n t b name earlier
    (λ idle.
    (λ j. nat_le (made j + to_come (slot j)) 2) ∙ at_rest m t a name f (idle_back m n (owner_of name) past same idle))
    (λ k call is own.
    let (was, at, begins) = same.back k call is own in
    (λ j. nat_le (made j + to_come_after (sym begins j).call) 2)
    ∙ in_call m t a name f k was at ((λ j. (begins j).owner) ∙ own))

-- ---- a task opens

most_to_come : (slot : Option Slot) → to_come slot ≤ 2
most_to_come (Some it) = by (is_some it.doubt)
  where
    by : (doubts : Bool) → (if doubts then 2 else 1) ≤ 2
    by true = omega arith
    by false = omega arith
most_to_come None = omega arith

most_after : (call : Call) → to_come_after call ≤ 2
most_after (calls.FindVm agent) = omega arith
most_after (calls.HasVm vm) = omega arith
most_after (calls.DeleteVm vm) = omega arith
most_after call = omega arith

pub sweep_opened : (m : Moment) (t : ℕ) (it : Account) (name : SlotName) → is_of_earlier m.known t name ≡ true
    → it.made (owner_of name) ≡ 0 → SweepFacts m t it name
sweep_opened m t it name earlier none =
    sweep_from m t it name earlier
    (λ idle.
    let most : to_come (m.known.slot name.task name.slot) ≤ 2 = most_to_come (m.known.slot name.task name.slot) in
    le-leb (it.made (owner_of name) + to_come (m.known.slot name.task name.slot)) 2 (omega (arith, none, most)))
    (λ n call is own.
    let most : to_come_after call.begin.call ≤ 2 = most_after call.begin.call in
    le-leb (it.made (owner_of name) + to_come_after call.begin.call) 2 (omega (arith, none, most)))

-- ---- its call begins

module _ (m : Moment) (b : Begin) (may : Begins m b) (t : ℕ) (a later : Account) (name : SlotName)
    (own : b.owner ≡ owner_of name) (mine : b.task ≡ t) (past : AreNumbersPast m)
    (new_past : AreNumbersPast (noting m (entries.Begin b)))
    (earlier : is_of_earlier (noting m (entries.Begin b)).known t name ≡ true)
    (made : later.made (owner_of name) ≡ a.made (owner_of name) + 1) (f : SweepFacts m t a name) where
  abbrev n : Moment
  n = noting m (entries.Begin b)

  the_call : SlotCall m t name.task name.slot b.call
  the_call =
      slot_call m t name.task name.slot b.call
      (sym (λ j. call_now m (mine j) (own j)) ∙ may.is_call)

  begun_fits : Fits (a.made (owner_of name) + 1) (to_come_after b.call)
  begun_fits = by the_call
    where
      rests : Fits (a.made (owner_of name)) (to_come (m.known.slot name.task name.slot))
      rests = at_rest m t a name f ((λ j. is_idle m (sym own j)) ∙ may.is_idle)

      apart : (name.task == t) ≡ true → ⊥
      apart same = false≢true (sym (earlier_is m t name f.earlier).other ∙ same)

      one : (call : Call) → call ≡ b.call → (it : Slot) → m.known.slot name.task name.slot ≡ Some it
          → to_come_after call + 1 ≤ to_come (Some it)
          → Fits (a.made (owner_of name) + 1) (to_come_after b.call)
      one call is it at low =
          subst (λ (c : Call). Fits (a.made (owner_of name) + 1) (to_come_after c)) is
          (one_begun (a.made (owner_of name)) (to_come (Some it)) (to_come_after call) low
          (subst (λ (s : Option Slot). Fits (a.made (owner_of name)) (to_come s)) at rests))

      doubted : (it : Slot) (call : Call) → is_some it.doubt ≡ true → to_come_after call ≤ 1
          → to_come_after call + 1 ≤ to_come (Some it)
      doubted it call some low =
          subst (λ (k : ℕ). to_come_after call + 1 ≤ k) (λ j. if sym some j then 2 else 1) (omega (arith, low))

      settled : (it : Slot) (call : Call) → is_some it.doubt ≡ false → to_come_after call ≤ 0
          → to_come_after call + 1 ≤ to_come (Some it)
      settled it call none low =
          subst (λ (k : ℕ). to_come_after call + 1 ≤ k) (λ j. if sym none j then 2 else 1) (omega (arith, low))

      by : SlotCall m t name.task name.slot b.call → Fits (a.made (owner_of name) + 1) (to_come_after b.call)
      by (creates work make same at next nth is) = absurd (apart same)
      by (compiles it vm key work same at has none keyed fresh free of is) = absurd (apart same)
      by (deletes it vm at has none done is) =
          one (calls.DeleteVm vm.vm) is it at
          (settled it (calls.DeleteVm vm.vm) (λ j. is_some (none j)) (omega arith))
      by (finds it doubt other at has doubted_by is) =
          one (calls.FindVm doubt.n) is it at
          (doubted it (calls.FindVm doubt.n) (λ j. is_some (doubted_by j)) (omega arith))
      by (looks it vm doubt other at has doubted_by is) =
          one (calls.HasVm vm.vm) is it at
          (doubted it (calls.HasVm vm.vm) (λ j. is_some (doubted_by j)) (omega arith))

  pub sweep_begun : SweepFacts n t later name
  sweep_begun =
      sweep_from n t later name earlier
      (λ idle.
      absurd (none_open n (owner_of name) new_past idle b.n (record { begin = b; did = None }) (begun_now m b) own))
      (λ k call is other. by k call other (eqb b.n k) is)
    where
      by : (k : ℕ) (call : OpenCall) → call.begin.owner ≡ owner_of name → (same : Bool)
          → (if same then Some (record { begin = b; did = None }) else m.calls k) ≡ Some call
          → Fits (later.made (owner_of name)) (to_come_after call.begin.call)
      by k call other true is =
          let new : record { begin = b; did = None } ≡ call = cc in
          (λ j. nat_le (made j + to_come_after ((sym new) j).begin.call) 2) ∙ begun_fits
      by k call other false is =
          absurd (none_open m (owner_of name) past ((λ j. is_idle m (sym own j)) ∙ may.is_idle) k call is other)

-- ---- its call is answered

told_less : (n : ℕ) (call : Call) (answer : Answer) (it : Slot) → is_failed answer ≡ false → is_gone answer ≡ false
    → is_kind (method_of call) answer ≡ true → to_come (slot_after n call answer (Some it)) ≤ to_come_after call
told_less n (calls.FindVm agent) answers.Failed it well here kind = absurd (false≢true (sym well))
told_less n (calls.FindVm agent) answers.Gone it well here kind = absurd (false≢true (sym here))
told_less n (calls.FindVm agent) (answers.Found (Some v)) it well here kind = omega arith
told_less n (calls.FindVm agent) (answers.Found None) it well here kind = omega arith
told_less n (calls.FindVm agent) answer it well here kind = absurd (false≢true kind)
told_less n (calls.HasVm vm) answers.Failed it well here kind = absurd (false≢true (sym well))
told_less n (calls.HasVm vm) answers.Gone it well here kind = absurd (false≢true (sym here))
told_less n (calls.HasVm vm) answers.Yes it well here kind = omega arith
told_less n (calls.HasVm vm) answers.No it well here kind = omega arith
told_less n (calls.HasVm vm) answer it well here kind = absurd (false≢true kind)
told_less n (calls.DeleteVm vm) answers.Failed it well here kind = absurd (false≢true (sym well))
told_less n (calls.DeleteVm vm) answers.Gone it well here kind = absurd (false≢true (sym here))
told_less n (calls.DeleteVm vm) answers.Done it well here kind = omega arith
told_less n (calls.DeleteVm vm) answer it well here kind = absurd (false≢true kind)
told_less n call answer it well here kind = most_to_come (slot_after n call answer (Some it))

pub slot_told_less : (n : ℕ) (call : Call) (answer : Answer) (slot : Option Slot) → is_failed answer ≡ false
    → is_gone answer ≡ false → is_kind (method_of call) answer ≡ true
    → to_come (slot_after n call answer slot) ≤ to_come_after call
slot_told_less n call answer (Some it) well here kind = told_less n call answer it well here kind
slot_told_less n call answer None well here kind = omega arith

-- the slot is what the answer leaves, and no call of it is open any more
pub sweep_ended : (m n : Moment) (t e : ℕ) (a later : Account) (name : SlotName) (that : OpenCall) (answer : Answer)
    → m.calls e ≡ Some that → that.begin.owner ≡ owner_of name
    → ((k : ℕ) (call : OpenCall) → n.calls k ≡ Some call → call.begin.owner ≡ owner_of name → ⊥)
    → is_of_earlier n.known t name ≡ true
    → n.known.slot name.task name.slot
    ≡ slot_after that.begin.n that.begin.call answer (m.known.slot name.task name.slot)
    → later.made (owner_of name) ≡ a.made (owner_of name) → is_failed answer ≡ false → is_gone answer ≡ false
    → is_kind (method_of that.begin.call) answer ≡ true → SweepFacts m t a name → SweepFacts n t later name
sweep_ended m n t e a later name that answer open_now own none earlier slot made well here kind f =
    sweep_from n t later name earlier
    (λ idle.
    (λ j. nat_le (made j + to_come (slot j)) 2)
    ∙ fewer (a.made (owner_of name)) (to_come_after that.begin.call)
    (to_come (slot_after that.begin.n that.begin.call answer (m.known.slot name.task name.slot)))
    (slot_told_less that.begin.n that.begin.call answer (m.known.slot name.task name.slot) well here kind)
    (in_call m t a name f e that open_now own))
    (λ k call is other. absurd (none k call is other))
