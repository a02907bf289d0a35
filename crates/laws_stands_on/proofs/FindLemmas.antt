-- Open calls after one more began.
use Rattle.std.proofs.Common.{◌≡◌, ◌∙◌, ℕ, ◌+◌, ◌≤◌, zero, suc, Bool, true, false, ◌||◌, not, List, [], ◌∷◌}
use Rattle.std.proofs.Common.{Option, Some, None, add-one, ap, refl, sym, arith}
use Rattle.std.specs.Prelude.{eqb, find, if◌then◌else◌}
use Rattle.std.specs.List.{list_all, list_any}
use Rattle.std.specs.Option.{option_or}
use Rattle.std.proofs.lemmas.Bool.{and_parts, eq-eqb, ne_eqb, not-true}
use Rattle.std.proofs.lemmas.List.Folds.{find-append, list_any-append}
use Rattle.bosh_base.specs.Cloud.{numbers_to}
use Rattle.bosh_base.specs.declared.entry.Begin.{Begin}
use Rattle.bosh_base.specs.declared.key.Key.{Key}
use Rattle.bosh_base.specs.declared.owner.Owner.{Owner}
use Rattle.bosh_history.specs.Steps.{compiles}
use Rattle.bosh_history.specs.Words.{at, holds}
use Rattle.bosh_rows.specs.Same.{same_owner}
use Rattle.laws_stands.specs.Stands.{call_of}
use Rattle.laws_stands.specs.Told.{Told}

pub find_within : (p q : ℕ → Bool) (n : ℕ) → ((c : ℕ) → c ≤ n → p c ≡ q c) → find p (numbers_to n)
    ≡ find q (numbers_to n)
find_within p q zero same = refl
find_within p q (suc n) same =
    find-append p (numbers_to n) (suc n ∷ [])
    ∙ (λ i. option_or (find_within p q n (λ c low. same c (omega arith)) i) (if same (suc n) (omega arith) i
    then Some (suc n) else None))
    ∙ sym (find-append q (numbers_to n) (suc n ∷ []))

pub any_within : (p q : ℕ → Bool) (n : ℕ) → ((c : ℕ) → c ≤ n → p c ≡ q c) → list_any p (numbers_to n)
    ≡ list_any q (numbers_to n)
any_within p q zero same = refl
any_within p q (suc n) same =
    list_any-append p (numbers_to n) (suc n ∷ [])
    ∙ (λ i. any_within p q n (λ c low. same c (omega arith)) i || (same (suc n) (omega arith) i || false))
    ∙ sym (list_any-append q (numbers_to n) (suc n ∷ []))

pub none_is_found : (p : ℕ → Bool) (xs : List ℕ) → list_all (λ n. not (p n)) xs ≡ true → find p xs ≡ None
none_is_found p [] none = refl
none_is_found p (x ∷ xs) none =
    let parts : (not (p x) ≡ true) × (list_all (λ n. not (p n)) xs ≡ true) =
    and_parts (not (p x)) (list_all (λ n. not (p n)) xs) none in
    (λ i. if not-true (p x) parts.0 i then Some x else find p xs) ∙ none_is_found p xs parts.1

module _ (told : Told) (b : Begin) (next : b.n ≡ told.known.last_call + 1) where
  -- the other calls are those that were open
  others : {X : Type 0} (f : Option Begin → X) (c : ℕ) → c ≤ told.known.last_call
      → f (at eqb b.n (Some b) told.calls c) ≡ f (told.calls c)
  others f c low = ap (λ t. f (if t then Some b else told.calls c)) (ne_eqb b.n c (λ e. absurd (omega arith)))

  here : {X : Type 0} (f : Option Begin → X) → f (at eqb b.n (Some b) told.calls (suc told.known.last_call))
      ≡ f (Some b)
  here f = ap (λ t. f (if t then Some b else told.calls (suc told.known.last_call)))
      (eq-eqb b.n (suc told.known.last_call) (omega arith))

  -- the open call of an owner
  pub found_begun : (owner : Owner)
      → find (λ c. holds (λ (d : Begin). same_owner owner d.owner) (at eqb b.n (Some b) told.calls c))
      (numbers_to b.n)
      ≡ option_or (call_of told owner) (if same_owner owner b.owner then Some b.n else None)
  found_begun owner =
      ap (λ m. find now (numbers_to m)) (next ∙ add-one told.known.last_call)
      ∙ find-append now (numbers_to told.known.last_call) (suc told.known.last_call ∷ [])
      ∙ (λ i. option_or (find_within now was told.known.last_call (others test) i)
      (if here test i then Some (number i) else None))
    where
      test : Option Begin → Bool
      test o = holds (λ (d : Begin). same_owner owner d.owner) o

      now : ℕ → Bool
      now c = holds (λ (d : Begin). same_owner owner d.owner) (at eqb b.n (Some b) told.calls c)

      was : ℕ → Bool
      was c = holds (λ (d : Begin). same_owner owner d.owner) (told.calls c)

      number : suc told.known.last_call ≡ b.n
      number = omega arith

  -- whether one compiles a key
  pub any_begun : (key : Key)
      → list_any (λ c. holds (λ (d : Begin). compiles key d.call) (at eqb b.n (Some b) told.calls c))
      (numbers_to b.n)
      ≡ (list_any (λ c. holds (λ (d : Begin). compiles key d.call) (told.calls c)) (numbers_to told.known.last_call)
      || compiles key b.call)
  any_begun key =
      ap (λ m. list_any now (numbers_to m)) (next ∙ add-one told.known.last_call)
      ∙ list_any-append now (numbers_to told.known.last_call) (suc told.known.last_call ∷ [])
      ∙ (λ i. any_within now was told.known.last_call (others test) i || (here test i || false))
      ∙ or_false (list_any was (numbers_to told.known.last_call)) (compiles key b.call)
    where
      test : Option Begin → Bool
      test o = holds (λ (d : Begin). compiles key d.call) o

      now : ℕ → Bool
      now c = holds (λ (d : Begin). compiles key d.call) (at eqb b.n (Some b) told.calls c)

      was : ℕ → Bool
      was c = holds (λ (d : Begin). compiles key d.call) (told.calls c)

      or_false : (a c : Bool) → (a || (c || false)) ≡ (a || c)
      or_false true c = refl
      or_false false true = refl
      or_false false false = refl

  pub compiling_begun : (key : Key) → compiles key b.call ≡ false
      → list_any (λ c. holds (λ (d : Begin). compiles key d.call) (at eqb b.n (Some b) told.calls c))
      (numbers_to b.n)
      ≡ list_any (λ c. holds (λ (d : Begin). compiles key d.call) (told.calls c)) (numbers_to told.known.last_call)
  compiling_begun key none = any_begun key ∙ by (compiles key b.call) none
    where
      was : Bool
      was = list_any (λ c. holds (λ (d : Begin). compiles key d.call) (told.calls c)) (numbers_to told.known.last_call)

      or_none : (a : Bool) → (a || false) ≡ a
      or_none true = refl
      or_none false = refl

      by : (u : Bool) → u ≡ false → (was || u) ≡ was
      by u is = (λ j. was || is j) ∙ or_none was
