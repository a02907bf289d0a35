-- Items of lists, and phases of single owners.
use Rattle.std.proofs.Common.{◌≡◌, ◌∙◌, ℕ, ◌+◌, ◌<◌, ◌≤◌, zero, suc, Bool, true, false, ◌&&◌, ◌||◌, not, List, []}
use Rattle.std.proofs.Common.{◌∷◌, map, filter, Option, Some, None, ap, refl, sym, arith}
use Rattle.std.specs.Prelude.{◌==◌, eqb, is_some, slice_get, if◌then◌else◌}
use Rattle.std.specs.List.{list_all, list_any}
use Rattle.std.proofs.lemmas.Bool.{and_from, and_parts, eq-eqb, eqb-true, false≢true, le-ltb, not-true}
use Rattle.std.proofs.lemmas.Bool.{or_parts}
use Rattle.std.proofs.lemmas.Bool.Decides.{nat_tests}
use Rattle.std.proofs.lemmas.List.Folds.{list_all-append}
use Rattle.std.proofs.lemmas.List.{map-append}
use Rattle.bosh_base.specs.declared.inst.Inst.{Inst}
use Rattle.bosh_base.specs.declared.owner.Owner.{Owner}
use Rattle.bosh_base.specs.declared.owner.Owner.TheVariants.{Instance, Compile, Disk}
use Rattle.bosh_history.specs.Items.{is_before, is_leftover, is_slot_left, is_to_change, is_to_go}
use Rattle.bosh_history.specs.Items.{is_to_ping, phase_of, stage_of}
use Rattle.bosh_history.specs.Known.{Known, SlotName, Task, plan_in}
use Rattle.bosh_history.specs.Words.{is_among, numbers_below}
use Rattle.laws_stands.proofs.PhaseLemmas.{machine_owner, not_before}

-- ---- items of lists

pub any_at : {X : Type 0} (p : X → Bool) (xs : List X) → list_any p xs ≡ true → (k : ℕ) × (x : X)
    × (slice_get xs k ≡ Some x) × (p x ≡ true)
any_at p [] is = absurd (false≢true is)
any_at p (x ∷ xs) is = by (p x) refl is (λ is. any_at p xs is)
  where
    by : (b : Bool) → p x ≡ b → (b || list_any p xs) ≡ true
        → (list_any p xs ≡ true → (k : ℕ) × (y : _) × (slice_get xs k ≡ Some y) × (p y ≡ true))
        → (k : ℕ) × (y : _) × (slice_get (x ∷ xs) k ≡ Some y) × (p y ≡ true)
    by true here is more = (0, x, refl, here)
    by false here is more = let r : (k : ℕ) × (y : _) × (slice_get xs k ≡ Some y) × (p y ≡ true) =
        more is in (suc r.0, r.1, r.2, r.3)

pub none_at : {X : Type 0} (p : X → Bool) (xs : List X) (k : ℕ) (x : X) → list_any p xs ≡ false → slice_get xs k
    ≡ Some x → p x ≡ false
none_at p [] k x none is = absurd cc
none_at p (y ∷ xs) zero x none is = let e : y ≡ x = cc in ap p (sym e) ∙ (or_parts (p y) (list_any p xs) none).0
none_at p (y ∷ xs) (suc k) x none is = none_at p xs k x (or_parts (p y) (list_any p xs) none).1 is

pub passes_in : {X : Type 0} (p : Owner → Bool) (f : X → Owner) (xs : List X) (k : ℕ) (x : X)
    → list_all p (map f xs) ≡ true → slice_get xs k ≡ Some x → p (f x) ≡ true
passes_in p f [] k x all is = absurd cc
passes_in p f (y ∷ xs) zero x all is = let e : y ≡ x = cc in ap (λ z. p (f z)) (sym e)
    ∙ (and_parts (p (f y)) (list_all p (map f xs)) all).0
passes_in p f (y ∷ xs) (suc k) x all is = passes_in p f xs k x (and_parts (p (f y)) (list_all p (map f xs)) all).1
    is

pub passes_among : {X : Type 0} (p : Owner → Bool) (f : X → Owner) (q : X → Bool) (xs : List X) (k : ℕ) (x : X)
    → list_all p (map f (filter q xs)) ≡ true → slice_get xs k ≡ Some x → q x ≡ true → p (f x) ≡ true
passes_among p f q [] k x all is here = absurd cc
passes_among p f q (y ∷ xs) k x all is here =
    by (q y) refl all k is (λ k all is. passes_among p f q xs k x all is here)
  where
    by : (b : Bool) → q y ≡ b → list_all p (map f (if b then y ∷ filter q xs else filter q xs)) ≡ true → (k : ℕ)
        → slice_get (y ∷ xs) k ≡ Some x
        → ((k : ℕ) → list_all p (map f (filter q xs)) ≡ true → slice_get xs k ≡ Some x → p (f x) ≡ true) → p (f x)
        ≡ true
    by true own all zero is more = let e : y ≡ x = cc in ap (λ z. p (f z)) (sym e)
        ∙ (and_parts (p (f y)) (list_all p (map f (filter q xs))) all).0
    by true own all (suc k) is more = more k (and_parts (p (f y)) (list_all p (map f (filter q xs))) all).1 is
    by false own all zero is more = let e : y ≡ x = cc in absurd (false≢true (sym own ∙ ap q e ∙ here))
    by false own all (suc k) is more = more k all is

pub passes_below : (p : Owner → Bool) (f : ℕ → Owner) (count s : ℕ) → list_all p (map f (numbers_below count))
    ≡ true → s < count → p (f s) ≡ true
passes_below p f zero s all low = absurd (omega arith)
passes_below p f (suc count) s all low =
    let parts : (list_all p (map f (numbers_below count)) ≡ true) × ((p (f count) && true) ≡ true) =
    and_parts (list_all p (map f (numbers_below count))) (p (f count) && true)
    (sym (ap (list_all p) (map-append f (numbers_below count) (count ∷ []))
    ∙ list_all-append p (map f (numbers_below count)) (f count ∷ [])) ∙ all) in
    by (s == count) refl parts.0 parts.1 (λ more low. passes_below p f count s more low)
  where
    by : (b : Bool) → (s == count) ≡ b → list_all p (map f (numbers_below count)) ≡ true → (p (f count) && true)
        ≡ true
        → (list_all p (map f (numbers_below count)) ≡ true → s < count → p (f s) ≡ true) → p (f s) ≡ true
    by true same more here go = ap (λ c. p (f c)) (eq_of same) ∙ (and_parts (p (f count)) true here).0
      where
        eq_of : (s == count) ≡ true → s ≡ count
        eq_of is = eqb-true s count is
    by false differs more here go = go more (strict differs)
      where
        strict : (s == count) ≡ false → s < count
        strict is = grind (arith, nat_tests)

-- ---- phases of single owners

module _ (k : Known) (n : ℕ) where
  abbrev t : Task
  t = k.task n

  -- nothing is before the first phase
  pub never : (owner : Owner) → not_before k n 0 owner ≡ true
  never owner = by (phase_of k n owner)
    where
      by : (o : Option ℕ) → not (is_before 0 o) ≡ true
      by None = refl
      by (Some q) = ap not (le-ltb q 0 (omega arith))

  pub asked_phase : (i : Inst) → is_to_ping t i ≡ true → phase_of k n (Instance i) ≡ Some 0
  asked_phase i is = λ j. if is j then Some 0
      else (if is_to_go t i then Some 3 else (if is_to_change t i then Some (4 + stage_of (plan_in t.goal i))
      else None))

  pub going_phase : (i : Inst) → is_to_ping t i ≡ false → is_to_go t i ≡ true → phase_of k n (Instance i) ≡ Some 3
  going_phase i calm is = λ j. if calm j then Some 0
      else (if is j then Some 3 else (if is_to_change t i then Some (4 + stage_of (plan_in t.goal i)) else None))

  pub changing_phase : (i : Inst) → is_to_ping t i ≡ false → is_to_go t i ≡ false
      → phase_of k n (Instance i) ≡ (if is_to_change t i then Some (4 + stage_of (plan_in t.goal i)) else None)
  changing_phase i calm stays = λ j. if calm j then Some 0
      else (if stays j then Some 3 else (if is_to_change t i then Some (4 + stage_of (plan_in t.goal i)) else None))

  pub unasked_late : (p : ℕ) (i : Inst) → p ≤ 3 → is_to_ping t i ≡ false → not_before k n p (Instance i) ≡ true
  unasked_late p i low calm = by (is_to_go t i) refl
    where
      by : (b : Bool) → is_to_go t i ≡ b → not_before k n p (Instance i) ≡ true
      by true go = ap (λ o. not (is_before p o)) (going_phase i calm go) ∙ ap not (le-ltb 3 p low)
      by false stays = ap (λ o. not (is_before p o)) (changing_phase i calm stays) ∙ of (is_to_change t i)
        where
          of : (b : Bool) → not (is_before p (if b then Some (4 + stage_of (plan_in t.goal i)) else None)) ≡ true
          of true = ap not (le-ltb (4 + stage_of (plan_in t.goal i)) p (omega arith))
          of false = refl

  pub changing_late : (i : Inst) → is_to_ping t i ≡ false → is_to_go t i ≡ false → not_before k n 4 (Instance i)
      ≡ true
  changing_late i calm stays = ap (λ o. not (is_before 4 o)) (changing_phase i calm stays) ∙ by (is_to_change t i)
    where
      by : (b : Bool) → not (is_before 4 (if b then Some (4 + stage_of (plan_in t.goal i)) else None)) ≡ true
      by true = ap not (le-ltb (4 + stage_of (plan_in t.goal i)) 4 (omega arith))
      by false = refl

  pub own_phase : (s : ℕ) → phase_of k n (Compile n s) ≡ (if is_slot_left k n s then Some 2 else None)
  own_phase s = ap (λ b. if b then (if is_slot_left k n s then Some 2 else None)
      else (if is_leftover k n (record { task = n; slot = s }) then Some 1 else None)) (eq-eqb n n refl)

  pub own_late : (p s : ℕ) → p ≤ 2 → not_before k n p (Compile n s) ≡ true
  own_late p s low = ap (λ o. not (is_before p o)) (own_phase s) ∙ by (is_slot_left k n s)
    where
      by : (b : Bool) → not (is_before p (if b then Some 2 else None)) ≡ true
      by true = ap not (le-ltb 2 p low)
      by false = refl

  pub over_late : (p s : ℕ) → is_slot_left k n s ≡ false → not_before k n p (Compile n s) ≡ true
  over_late p s over = ap (λ o. not (is_before p o)) (own_phase s)
      ∙ ap (λ b. not (is_before p (if b then Some 2 else None))) over

  pub left_phase : (name : SlotName) → is_leftover k n name ≡ true → phase_of k n (machine_owner k n name) ≡ Some 1
  left_phase name is = ap (λ b. if b then (if is_slot_left k n name.slot then Some 2 else None)
      else (if is_leftover k n name then Some 1 else None)) other ∙ ap (λ b. if b then Some 1 else None) is
    where
      other : (name.task == n) ≡ false
      other = not-true (name.task == n) (and_parts (not (name.task == n)) _ is).0

  pub left_late : (p : ℕ) (xs : List SlotName) → p ≤ 1
      → list_all (not_before k n p) (map (machine_owner k n) (filter (is_leftover k n) xs)) ≡ true
  left_late p [] low = refl
  left_late p (name ∷ xs) low = by (is_leftover k n name) refl (left_late p xs low)
    where
      by : (b : Bool) → is_leftover k n name ≡ b
          → list_all (not_before k n p) (map (machine_owner k n) (filter (is_leftover k n) xs)) ≡ true
          → list_all (not_before k n p)
          (map (machine_owner k n) (if b then name ∷ filter (is_leftover k n) xs
          else filter (is_leftover k n) xs)) ≡ true
      by true is more = and_from (not_before k n p (machine_owner k n name)) _
          (ap (λ o. not (is_before p o)) (left_phase name is) ∙ ap not (le-ltb 1 p low)) more
      by false is more = more

  pub disk_phase : (d : ℕ) → is_among eqb d t.disks ≡ true → is_some (k.orphan d) ≡ true → phase_of k n (Disk d)
      ≡ Some 0
  disk_phase d among is = λ j. if among j && is j then Some 0 else None

  pub gone_late : (p d : ℕ) → (is_among eqb d t.disks && is_some (k.orphan d)) ≡ false → not_before k n p (Disk d)
      ≡ true
  gone_late p d none = ap (λ b. not (is_before p (if b then Some 0 else None))) none
