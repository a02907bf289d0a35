-- Which open calls of an owner a move leaves as they were.
use Rattle.std.proofs.Common.{◌≡◌, ◌≢◌, ◌∙◌, ℕ, ◌≤◌, Bool, true, false, Option, Some, None}
use Rattle.std.proofs.Common.{ap, arith, refl, sym}
use Rattle.std.specs.Prelude.{eqb, if◌then◌else◌, is_some, not}
use Rattle.std.proofs.lemmas.Bool.{eq-eqb, eqb-true}
use Rattle.bosh_base.specs.Cloud.{numbers_to}
use Rattle.bosh_base.specs.declared.entry.Begin.{Begin}
use Rattle.bosh_base.specs.declared.entry.End.{End}
use Rattle.bosh_base.specs.declared.entry.Entry.{Entry}
use Rattle.bosh_base.specs.declared.entry.Entry.TheVariants as entries
use Rattle.bosh_base.specs.declared.moves.Did.{Did}
use Rattle.bosh_base.specs.declared.owner.Owner.{Owner}
use Rattle.bosh_history.specs.Moments.{Moment, OpenCall, noting, performed_call, performing}
use Rattle.bosh_history.specs.Notes.{Begins, MayNote, Outside}
use Rattle.bosh_history.specs.Steps.{is_idle, is_owners}
use Rattle.bosh_history.specs.Words.{holds}
use Rattle.laws_facts.proofs.CallLemmas.{none_open}
use Rattle.laws_facts.specs.Kept.{AreNumbersPast}
use Rattle.laws_facts.specs.KnownFacts.{KnownFacts}
use Rattle.laws_items.proofs.ListLemmas.{all_from}
use Rattle.laws_items.proofs.OwnerLemmas.{same_owner_is}

-- an open call has a number from 1 to the last one
pub number_of : (m : Moment) → KnownFacts m → (n : ℕ) (call : OpenCall) → m.calls n ≡ Some call
    → (1 ≤ n) × (n ≤ m.known.last_call)
number_of m h n call is =
    let some : is_some (m.calls n) ≡ true = ap is_some is in
    (grind (arith, h.numbers.past n, some), grind (arith, h.numbers.past n, some))

-- the same calls of the owner are open at both moments
pub record SameCalls (m n : Moment) (owner : Owner) : Type 0 where
  pub back : (k : ℕ) (call : OpenCall) → n.calls k ≡ Some call → call.begin.owner ≡ owner → m.calls k ≡ Some call
  pub forth : (k : ℕ) (call : OpenCall) → m.calls k ≡ Some call → call.begin.owner ≡ owner → n.calls k ≡ Some call

pub still_same : (m n : Moment) (owner : Owner) → n.calls ≡ m.calls → SameCalls m n owner
still_same m n owner same = record {
  back = λ k call is own. (λ j. sym same j k) ∙ is;
  forth = λ k call is own. (λ j. same j k) ∙ is;
}

-- the call of this number is open, and began as this one
abbrev pub IsOpenAs : Moment → ℕ → OpenCall → Type 0
IsOpenAs m k call = (now : OpenCall) × (m.calls k ≡ Some now) × (now.begin ≡ call.begin)

-- .. as far as they began
pub record SameBegins (m n : Moment) (owner : Owner) : Type 0 where
  pub back : (k : ℕ) (call : OpenCall) → n.calls k ≡ Some call → call.begin.owner ≡ owner → IsOpenAs m k call
  pub forth : (k : ℕ) (call : OpenCall) → m.calls k ≡ Some call → call.begin.owner ≡ owner → IsOpenAs n k call

pub begins_of : (m n : Moment) (owner : Owner) → SameCalls m n owner → SameBegins m n owner
begins_of m n owner same = record {
  back = λ k call is own. (call, same.back k call is own, refl);
  forth = λ k call is own. (call, same.forth k call is own, refl);
}

-- ---- an owner without an open call

idle_of : (m : Moment) (owner : Owner)
    → ((k : ℕ) (call : OpenCall) → m.calls k ≡ Some call → call.begin.owner ≡ owner → ⊥)
    → (k : ℕ) → not (holds (is_owners owner) (m.calls k)) ≡ true
idle_of m owner none k = by (m.calls k) refl
  where
    of : (call : OpenCall) → m.calls k ≡ Some call → (own : Bool) → is_owners owner call ≡ own → not own ≡ true
    of call is true own = absurd (none k call is (sym (same_owner_is owner call.begin.owner own)))
    of call is false other = refl

    by : (o : Option OpenCall) → m.calls k ≡ o → not (holds (is_owners owner) o) ≡ true
    by (Some call) is = of call is (is_owners owner call) refl
    by None is = refl

pub idle_from : (m : Moment) (owner : Owner)
    → ((k : ℕ) (call : OpenCall) → m.calls k ≡ Some call → call.begin.owner ≡ owner → ⊥) → is_idle m owner ≡ true
idle_from m owner none =
    all_from (λ n. not (holds (is_owners owner) (m.calls n))) (numbers_to m.known.last_call)
    (λ n isin. idle_of m owner none n)

pub idle_back : (m n : Moment) (owner : Owner) → AreNumbersPast n → SameBegins m n owner → is_idle n owner ≡ true
    → is_idle m owner ≡ true
idle_back m n owner past same idle =
    idle_from m owner
    (λ k call is own.
    let (now, at, begins) = same.forth k call is own in
    none_open n owner past idle k now at ((λ j. (begins j).owner) ∙ own))

-- ---- another's call begins, ends, or is performed

pub begun_now : (m : Moment) (b : Begin)
    → (noting m (entries.Begin b)).calls b.n ≡ Some (record { begin = b; did = None })
begun_now m b = λ j. if eq-eqb b.n b.n refl j then Some (record { begin = b; did = None }) else m.calls b.n

-- each call that was open still is
pub begun_forth : (m : Moment) → KnownFacts m → (b : Begin) → Begins m b → (k : ℕ) (call : OpenCall)
    → m.calls k ≡ Some call → (noting m (entries.Begin b)).calls k ≡ Some call
begun_forth m h b may k call is = by (eqb b.n k) refl
  where
    by : (same : Bool) → eqb b.n k ≡ same
        → (if same then Some (record { begin = b; did = None }) else m.calls k) ≡ Some call
    by true same =
        let low : k ≤ m.known.last_call = (number_of m h k call is).1 in
        absurd (omega (arith, low, may.number, eqb-true b.n k same))
    by false other = is

pub begun_calls : (m : Moment) → KnownFacts m → (b : Begin) → Begins m b → (owner : Owner) → b.owner ≢ owner
    → SameCalls m (noting m (entries.Begin b)) owner
begun_calls m h b may owner apart = record {
  back = λ k call is own. before k call own (eqb b.n k) refl is;
  forth = λ k call is own. begun_forth m h b may k call is;
}
  where
    before : (k : ℕ) (call : OpenCall) → call.begin.owner ≡ owner → (same : Bool) → eqb b.n k ≡ same
        → (if same then Some (record { begin = b; did = None }) else m.calls k) ≡ Some call → m.calls k ≡ Some call
    before k call own true same is =
        let new : record { begin = b; did = None } ≡ call = cc in absurd (apart ((λ j. (new j).begin.owner) ∙ own))
    before k call own false other is = is

pub ended_calls : (m : Moment) (e : End) (that : OpenCall) → m.calls e.n ≡ Some that → (owner : Owner)
    → that.begin.owner ≢ owner → SameCalls m (noting m (entries.End e)) owner
ended_calls m e that open_now owner apart = record {
  back = λ k call is own. before k call (eqb e.n k) is;
  forth = λ k call is own. after k call is own (eqb e.n k) refl;
}
  where
    before : (k : ℕ) (call : OpenCall) (same : Bool) → (if same then None else m.calls k) ≡ Some call
        → m.calls k ≡ Some call
    before k call true is = absurd cc
    before k call false is = is

    after : (k : ℕ) (call : OpenCall) → m.calls k ≡ Some call → call.begin.owner ≡ owner → (same : Bool)
        → eqb e.n k ≡ same → (if same then None else m.calls k) ≡ Some call
    after k call is own true same =
        let at : m.calls e.n ≡ Some call = (λ j. m.calls (eqb-true e.n k same j)) ∙ is in
        let one : that ≡ call = cc in absurd (apart ((λ j. (one j).begin.owner) ∙ own))
    after k call is own false other = is

pub done_calls : (m : Moment) (d : Did) (that : OpenCall) → m.calls d.n ≡ Some that → (owner : Owner)
    → that.begin.owner ≢ owner → SameCalls m (performing m d) owner
done_calls m d that open_now owner apart = record {
  back = λ k call is own. before k call own (eqb d.n k) refl is;
  forth = λ k call is own. after k call is own (eqb d.n k) refl;
}
  where
    before : (k : ℕ) (call : OpenCall) → call.begin.owner ≡ owner → (same : Bool) → eqb d.n k ≡ same
        → (if same then performed_call d (m.calls d.n) else m.calls k) ≡ Some call → m.calls k ≡ Some call
    before k call own true same is =
        let told : Some (record that { did = Some d }) ≡ Some call = sym (λ j. performed_call d (open_now j)) ∙ is in
        let new : record that { did = Some d } ≡ call = cc in
        absurd (apart ((λ j. (new j).begin.owner) ∙ own))
    before k call own false other is = is

    after : (k : ℕ) (call : OpenCall) → m.calls k ≡ Some call → call.begin.owner ≡ owner → (same : Bool)
        → eqb d.n k ≡ same → (if same then performed_call d (m.calls d.n) else m.calls k) ≡ Some call
    after k call is own true same =
        let at : m.calls d.n ≡ Some call = (λ j. m.calls (eqb-true d.n k same j)) ∙ is in
        let one : that ≡ call = cc in absurd (apart ((λ j. (one j).begin.owner) ∙ own))
    after k call is own false other = is

-- a call that is performed began as it did
pub done_begins : (m : Moment) (d : Did) (that : OpenCall) → m.calls d.n ≡ Some that → (owner : Owner)
    → SameBegins m (performing m d) owner
done_begins m d that open_now owner = record {
  back = λ k call is own. before k call (eqb d.n k) refl is;
  forth = λ k call is own. after k call is (eqb d.n k) refl;
}
  where
    before : (k : ℕ) (call : OpenCall) (same : Bool) → eqb d.n k ≡ same
        → (if same then performed_call d (m.calls d.n) else m.calls k) ≡ Some call → IsOpenAs m k call
    before k call true same is =
        let told : Some (record that { did = Some d }) ≡ Some call = sym (λ j. performed_call d (open_now j)) ∙ is in
        let new : record that { did = Some d } ≡ call = cc in
        (that, (λ j. m.calls (sym (eqb-true d.n k same) j)) ∙ open_now, λ j. (new j).begin)
    before k call false other is = (call, is, refl)

    after : (k : ℕ) (call : OpenCall) → m.calls k ≡ Some call → (same : Bool) → eqb d.n k ≡ same
        → (now : OpenCall)
        × ((if same then performed_call d (m.calls d.n) else m.calls k) ≡ Some now) × (now.begin ≡ call.begin)
    after k call is true same =
        let at : m.calls d.n ≡ Some call = (λ j. m.calls (eqb-true d.n k same j)) ∙ is in
        (record call { did = Some d }, (λ j. performed_call d (at j)), refl)
    after k call is false other = (call, is, refl)

-- ---- an entry

-- the entry is of no call of the owner
abbrev pub SparesCalls : Moment → Entry → Owner → Type 0
SparesCalls m (entries.Begin b) owner = b.owner ≢ owner
SparesCalls m (entries.End e) owner = (that : OpenCall) → m.calls e.n ≡ Some that → that.begin.owner ≢ owner
SparesCalls m entry owner = Unit {0}

pub noted_calls : (outside : Outside) (m : Moment) → KnownFacts m → (e : Entry) → MayNote outside m e → (owner : Owner)
    → SparesCalls m e owner → SameCalls m (noting m e) owner
noted_calls outside m h (entries.Begin b) may owner apart = begun_calls m h b may owner apart
noted_calls outside m h (entries.End e) may owner apart = by (m.calls e.n) refl
  where
    by : (o : Option OpenCall) → m.calls e.n ≡ o → SameCalls m (noting m (entries.End e)) owner
    by (Some that) is = ended_calls m e that is owner (apart that is)
    by None is = record {
      back = λ k call at own. before k call (eqb e.n k) at;
      forth = λ k call at own. after k call at (eqb e.n k) refl;
    }
      where
        before : (k : ℕ) (call : OpenCall) (same : Bool) → (if same then None else m.calls k) ≡ Some call
            → m.calls k ≡ Some call
        before k call true at = absurd cc
        before k call false at = at

        after : (k : ℕ) (call : OpenCall) → m.calls k ≡ Some call → (same : Bool) → eqb e.n k ≡ same
            → (if same then None else m.calls k) ≡ Some call
        after k call at true same =
            let gone : m.calls e.n ≡ Some call = (λ j. m.calls (eqb-true e.n k same j)) ∙ at in absurd cc
        after k call at false other = at
noted_calls outside m h (entries.Snapshot s) may owner apart = absurd may
noted_calls outside m h entry may owner apart = record { back = λ k call is own. is; forth = λ k call is own. is }
