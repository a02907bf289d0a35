-- The first answer among those of a list, and what a claim is by it.
use Rattle.std.proofs.Common.{◌≡◌, ◌∙◌, ℕ, suc, Bool, true, false, List, [], ◌∷◌, ◌++◌, map}
use Rattle.std.proofs.Common.{filter, Option, Some, None, ap, refl}
use Rattle.std.specs.Prelude.{find, is_some, slice_get, if◌then◌else◌}
use Rattle.std.specs.Option.{option_and_then, option_or}
use Rattle.std.proofs.lemmas.Bool.{false≢true}
use Rattle.bosh_base.specs.declared.entry.Entry.{Entry}
use Rattle.bosh_base.specs.declared.owner.Owner.{Owner}
use Rattle.bosh_history.specs.Claim.{Claimed, Noted, Waits, by_items, first_item, is_passed, item, or_next}
use Rattle.bosh_history.specs.Moments.{Moment}
use Rattle.bosh_history.specs.Steps.{call_now}

-- the first answer that some item of a list has
abbrev pub first_answer : {A B : Type 0} → (A → Option B) → List A → Option B
first_answer f [] = None
first_answer f (x ∷ xs) = option_or (f x) (first_answer f xs)

or_assoc : {B : Type 0} (a b c : Option B) → option_or a (option_or b c) ≡ option_or (option_or a b) c
or_assoc (Some a) b c = refl
or_assoc None b c = refl

pub answers_append : {A B : Type 0} (f : A → Option B) (xs ys : List A)
    → first_answer f (xs ++ ys) ≡ option_or (first_answer f xs) (first_answer f ys)
answers_append f [] ys = refl
answers_append f (x ∷ xs) ys = ap (option_or (f x)) (answers_append f xs ys) ∙ or_assoc (f x) (first_answer f xs)
    (first_answer f ys)

pub answers_map : {X A B : Type 0} (f : A → Option B) (g : X → A) (xs : List X)
    → first_answer f (map g xs) ≡ first_answer (λ x. f (g x)) xs
answers_map f g [] = refl
answers_map f g (x ∷ xs) = ap (option_or (f (g x))) (answers_map f g xs)

pub answers_filter : {A B : Type 0} (p : A → Bool) (f : A → Option B) (xs : List A)
    → first_answer f (filter p xs) ≡ first_answer (λ x. if p x then f x else None) xs
answers_filter p f [] = refl
answers_filter p f (x ∷ xs) = by (p x) (answers_filter p f xs)
  where
    by : (b : Bool) → first_answer f (filter p xs) ≡ first_answer (λ x. if p x then f x else None) xs
        → first_answer f (if b then x ∷ filter p xs else filter p xs)
        ≡ option_or (if b then f x else None) (first_answer (λ x. if p x then f x else None) xs)
    by true more = ap (option_or (f x)) more
    by false more = more

pub answers_same : {A B : Type 0} (f g : A → Option B) (xs : List A)
    → ((k : ℕ) (x : A) → slice_get xs k ≡ Some x → f x ≡ g x) → first_answer f xs ≡ first_answer g xs
answers_same f g [] same = refl
answers_same f g (x ∷ xs) same =
    λ i. option_or (same 0 x refl i) (answers_same f g xs (λ k y is. same (suc k) y is) i)

pub answers_none : {A B : Type 0} (f : A → Option B) (xs : List A)
    → ((k : ℕ) (x : A) → slice_get xs k ≡ Some x → f x ≡ None) → first_answer f xs ≡ None
answers_none f [] none = refl
answers_none f (x ∷ xs) none =
    (λ i. option_or (none 0 x refl i) (first_answer f xs)) ∙ answers_none f xs (λ k y is. none (suc k) y is)

-- where each item that passes has an answer, the first is that of the first item that passes
pub answers_find : {A B : Type 0} (q : A → Bool) (f : A → Option B) (xs : List A)
    → ((k : ℕ) (x : A) → slice_get xs k ≡ Some x → q x ≡ true → is_some (f x) ≡ true)
    → first_answer (λ x. if q x then f x else None) xs ≡ option_and_then f (find q xs)
answers_find q f [] some = refl
answers_find q f (x ∷ xs) some = by (q x) refl (answers_find q f xs (λ k y is. some (suc k) y is))
  where
    first : (o : Option _) → is_some o ≡ true → option_or o (first_answer (λ x. if q x then f x else None) xs) ≡ o
    first (Some e) is = refl
    first None is = absurd (false≢true is)

    by : (b : Bool) → q x ≡ b → first_answer (λ x. if q x then f x else None) xs ≡ option_and_then f (find q xs)
        → option_or (if b then f x else None) (first_answer (λ x. if q x then f x else None) xs)
        ≡ option_and_then f (if b then Some x else find q xs)
    by true is more = first (f x) (some 0 x refl is)
    by false is more = more

-- ---- claims

-- what is noted, or that the worker waits
abbrev pub told_of : Option Entry → Claimed
told_of (Some entry) = Noted entry
told_of None = Waits

module _ (m : Moment) (n worker : ℕ) where
  -- what is noted of an owner that is not passed over
  abbrev pub gives : Owner → Option Entry
  gives owner = if is_passed m n owner then None else item m n worker owner (call_now m n owner)

  pub first_item_is : (owners : List Owner) → first_item m n worker owners ≡ told_of (first_answer gives owners)
  first_item_is [] = refl
  first_item_is (owner ∷ owners) = by (is_passed m n owner) (item m n worker owner (call_now m n owner))
      (first_item_is owners)
    where
      by : (b : Bool) (o : Option Entry) → first_item m n worker owners ≡ told_of (first_answer gives owners)
          → (if b then first_item m n worker owners else or_next (first_item m n worker owners) o)
          ≡ told_of (option_or (if b then None else o) (first_answer gives owners))
      by true o more = more
      by false (Some entry) more = refl
      by false None more = more

  pub by_items_is : (owners : List Owner) → (owners ≡ [] → ⊥) → by_items m n worker owners
      ≡ told_of (first_answer gives owners)
  by_items_is [] some = absurd (some refl)
  by_items_is (owner ∷ owners) some = first_item_is (owner ∷ owners)
