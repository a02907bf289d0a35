-- What the index of a register says of its things.
use Prim.Native.Nat.{zero, suc}
use Rattle.std.proofs.Common.{◌≡◌, ℕ, ◌-◌, ◌≤◌, ◌<◌, Bool, true, false, Option, Some, None, List, [], ◌∷◌, refl, sym, ◌∙◌, ap, arith, inl, inr, length, subst}
use Rattle.std.specs.Prelude.{◌≢◌, ◌==◌, find, slice_get, slice_set}
use Rattle.std.specs.Option.{option_flatten, option_map, option_or}
use Rattle.std.proofs.lemmas.Bool.{cases_eq, cases_lt}
use Rattle.std.proofs.lemmas.List.Folds.{find-append}
use Rattle.std.proofs.lemmas.Option.{slice_get_past}
use Rattle.std.proofs.lemmas.List.{set-set}
use Rattle.bosh_agent.specs.Agent.{filled}
use Rattle.bosh_agent.specs.Change.{disks_changed, IsIn, IsMade, machine_changed}
use Rattle.bosh_agent.specs.Slots.{at, with_slot}
use Rattle.bosh_agent.specs.declared.change.Change.{Change}
use Rattle.bosh_agent.specs.declared.change.Change.TheVariants.{Nothing, Spec, Started, Drained, Stopped, Mounted, Contents}
use Rattle.bosh_base.specs.Cloud.{numbers_to}
use Rattle.bosh_base.specs.declared.machine.Disk.{Disk}
use Rattle.bosh_base.specs.declared.machine.Machine.{Machine}
use Rattle.bosh_key_index.specs.Listed.{IsLeast, is_listed}
use Rattle.bosh_registers.specs.Created.{AreIndexed, is_created_by, least_created}

-- ---- slots

get-set_here : {A : Type 0} (xs : List A) (i : ℕ) (x : A) → i < length xs → slice_get (slice_set xs i x) i ≡ Some x
get-set_here [] i x below = absurd (omega (arith, below))
get-set_here (y ∷ ys) zero x below = refl
get-set_here (y ∷ ys) (suc i) x below = get-set_here ys i x (omega (arith, below))

get-set_other : {A : Type 0} (xs : List A) (i j : ℕ) (x : A) → j ≢ i → slice_get (slice_set xs i x) j ≡ slice_get xs j
get-set_other [] i j x other = refl
get-set_other (y ∷ ys) zero zero x other = absurd (other refl)
get-set_other (y ∷ ys) zero (suc j) x other = refl
get-set_other (y ∷ ys) (suc i) zero x other = refl
get-set_other (y ∷ ys) (suc i) (suc j) x other = get-set_other ys i j x (λ is. other (ap suc is))

less_one : (n : ℕ) → suc n - 1 ≡ n
less_one n = omega arith

pub at-with_slot_here : {T : Type 0} (things : List (Option T)) (number : ℕ) (thing : Option T) → IsMade things number →
    at (with_slot things number thing) number ≡ thing
at-with_slot_here things zero thing made = absurd (omega (arith, made.0))
at-with_slot_here things (suc n) thing made =
    ap (λ k. at (slice_set things k thing) (suc n)) (less_one n)
    ∙ ap option_flatten (get-set_here things n thing (omega (arith, made.1)))

pub at-with_slot_other : {T : Type 0} (things : List (Option T)) (number v : ℕ) (thing : Option T) → 1 ≤ number →
    v ≢ number → at (with_slot things number thing) v ≡ at things v
at-with_slot_other things zero v thing low other = absurd (omega (arith, low))
at-with_slot_other things (suc n) zero thing low other = refl
at-with_slot_other things (suc n) (suc v) thing low other =
    ap (λ k. at (slice_set things k thing) (suc v)) (less_one n)
    ∙ ap option_flatten (get-set_other things n v thing (λ is. other (ap suc is)))

pub at_past : {T : Type 0} (things : List (Option T)) (v : ℕ) → length things < v → at things v ≡ None
at_past things zero past = refl
at_past things (suc v) past = ap option_flatten (slice_get_past things v (omega (arith, past)))

-- ---- the index

-- a thing that changes stays one that its call created
pub AreIndexed-changed : {T : Type 0} (call : T → ℕ) (things : List (Option T)) (index : List (ℕ × ℕ)) (number : ℕ)
    (change : T → T) → IsMade things number → ((thing : T) → call (change thing) ≡ call thing) →
    AreIndexed call things index →
    AreIndexed call (with_slot things number (option_map change (at things number))) index
AreIndexed-changed {T} call things index number change made same is n v = elim (cases_eq v number) [
  | inl here ↦ is n v ∙ ap (λ k. is_created_by call n (at things k)) here
      ∙ sym (stays (at things number))
      ∙ sym (ap (λ k. is_created_by call n (at (with_slot things number (option_map change (at things number))) k)) here
      ∙ ap (is_created_by call n) (at-with_slot_here things number (option_map change (at things number)) made))
  | inr other ↦ is n v ∙ sym (ap (is_created_by call n) (at-with_slot_other things number v (option_map change (at things number)) made.0 other))
]
  where
    stays : (thing : Option T) → is_created_by call n (option_map change thing) ≡ is_created_by call n thing
    stays None = refl
    stays (Some thing) = ap (λ k. k == n) (same thing)

-- a thing that is taken out and put back changed
pub AreIndexed-put : {T : Type 0} (call : T → ℕ) (things mid next : List (Option T)) (index : List (ℕ × ℕ)) (number : ℕ)
    (was is : T) → IsMade things number → at things number ≡ Some was → mid ≡ with_slot things number None →
    next ≡ with_slot mid number (Some is) → call is ≡ call was → AreIndexed call things index → AreIndexed call next index
AreIndexed-put {T} call things mid next index number was is made found taken put same indexed =
    subst (λ (list : List (Option T)). AreIndexed call list index) (sym (put ∙ both)) kept
  where
    both : with_slot mid number (Some is) ≡ with_slot things number (Some is)
    both = ap (λ list. with_slot list number (Some is)) taken ∙ set-set things (number - 1) None (Some is)

    kept : AreIndexed call (with_slot things number (Some is)) index
    kept n v = elim (cases_eq v number) [
      | inl here ↦ indexed n v ∙ ap (λ k. is_created_by call n (at things k)) here
          ∙ ap (is_created_by call n) found ∙ sym (ap (λ k. k == n) same)
          ∙ sym (ap (λ k. is_created_by call n (at (with_slot things number (Some is)) k)) here
          ∙ ap (is_created_by call n) (at-with_slot_here things number (Some is) made))
      | inr other ↦ indexed n v
          ∙ sym (ap (is_created_by call n) (at-with_slot_other things number v (Some is) made.0 other))
    ]

-- what an agent does leaves which call created its machine, and which the disks
pub agent-changed : (machine : Machine) (change : Change) → (machine_changed machine change).agent ≡ machine.agent
agent-changed machine Nothing = refl
agent-changed machine (Spec spec) = refl
agent-changed machine Started = refl
agent-changed machine Drained = refl
agent-changed machine Stopped = refl
agent-changed machine (Mounted mounted) = refl
agent-changed machine (Contents disk text) = refl

pub AreIndexed-acted : (disks next : List (Option Disk)) (index : List (ℕ × ℕ)) (change : Change) → IsIn change disks →
    next ≡ disks_changed disks change → AreIndexed (λ (it : Disk). it.tag) disks index →
    AreIndexed (λ (it : Disk). it.tag) next index
AreIndexed-acted disks next index change fits is indexed =
    subst (λ (list : List (Option Disk)). AreIndexed (λ (it : Disk). it.tag) list index) (sym is) (each change fits)
  where
    each : (change : Change) → IsIn change disks → AreIndexed (λ (it : Disk). it.tag) (disks_changed disks change) index
    each Nothing fits = indexed
    each (Spec spec) fits = indexed
    each Started fits = indexed
    each Drained fits = indexed
    each Stopped fits = indexed
    each (Mounted mounted) fits = indexed
    each (Contents disk text) fits =
        AreIndexed-changed (λ (it : Disk). it.tag) disks index disk (filled text) fits (λ it. refl) indexed

-- ---- the least

last_fails : (p : ℕ → Bool) (n : ℕ) (b : Bool) → p n ≡ b → b ≡ false → find p (n ∷ []) ≡ None
last_fails p n b is fails = rw (is ∙ fails) refl

find_none : (p : ℕ → Bool) (n : ℕ) → ((v : ℕ) → v ≤ n → p v ≡ false) → find p (numbers_to n) ≡ None
find_none p zero fails = refl
find_none p (suc n) fails =
    find-append p (numbers_to n) (suc n ∷ [])
    ∙ (λ i. option_or (find_none p n (λ v within. fails v (omega (arith, within))) i)
    (last_fails p (suc n) (p (suc n)) refl (fails (suc n) (omega arith)) i))

find_least : (p : ℕ → Bool) (n k : ℕ) → 1 ≤ k → k ≤ n → p k ≡ true → ((v : ℕ) → v < k → p v ≡ false) →
    find p (numbers_to n) ≡ Some k
find_least p zero k low high passes fails = absurd (omega (arith, low, high))
find_least p (suc n) k low high passes fails = elim (cases_eq k (suc n)) [
  | inl last ↦ find-append p (numbers_to n) (suc n ∷ [])
      ∙ ap (λ o. option_or o (find p (suc n ∷ []))) (find_none p n (λ v within. fails v (omega (arith, within, last))))
      ∙ found (sym (ap p last) ∙ passes) ∙ ap Some (sym last)
  | inr other ↦ find-append p (numbers_to n) (suc n ∷ [])
      ∙ ap (λ o. option_or o (find p (suc n ∷ []))) (find_least p n k low (omega (arith, high, other)) passes fails)
]
  where
    found : p (suc n) ≡ true → find p (suc n ∷ []) ≡ Some (suc n)
    found is = rw is refl

made_is : {T : Type 0} (call : T → ℕ) (things : List (Option T)) (n number : ℕ) →
    is_created_by call n (at things number) ≡ true → IsMade things number
made_is call things n zero is = absurd cc
made_is call things n (suc v) is = elim (cases_lt v (length things)) [
  | inl below ↦ (omega arith, omega (arith, below))
  | inr past ↦ absurd (no (ap (is_created_by call n) (sym (at_past things (suc v) (omega (arith, past)))) ∙ is))
]
  where
    no : false ≡ true → ⊥
    no is = cc

pub least_created-is : {T : Type 0} (call : T → ℕ) (things : List (Option T)) (index : List (ℕ × ℕ)) (n : ℕ)
    (least : Option ℕ) → AreIndexed call things index → IsLeast index n least → least ≡ least_created call things n
least_created-is {T} call things index n (Some number) is least =
    sym (find_least (λ v. is_created_by call n (at things v)) (length things) number made.0 made.1 here
    (λ v before. fails v before (is_listed index n v) refl))
  where
    here : is_created_by call n (at things number) ≡ true
    here = sym (is n number) ∙ least.0

    made : IsMade things number
    made = made_is call things n number here

    fails : (v : ℕ) → v < number → (b : Bool) → is_listed index n v ≡ b → is_created_by call n (at things v) ≡ false
    fails v before true listed = absurd (omega (arith, least.1 v listed, before))
    fails v before false listed = sym (is n v) ∙ listed
least_created-is call things index n None is none =
    sym (find_none (λ v. is_created_by call n (at things v)) (length things) (λ v within. sym (is n v) ∙ none v))
