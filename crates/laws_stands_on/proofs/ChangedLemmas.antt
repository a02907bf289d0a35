-- What stands at a number in a table in which something changed, and tests of options and numbers.
use Rattle.std.proofs.Common.{◌≡◌, ◌∙◌, ℕ, Bool, true, false, List, [], ◌∷◌, Option, Some, None, ap, refl, sym}
use Rattle.std.specs.Prelude.{cond, eqb, is_some, if◌then◌else◌}
use Rattle.std.specs.BTreeMap.{is_at}
use Rattle.std.specs.Map.{lookup, remove_entry, set_value}
use Rattle.std.specs.Option.{option_and_then, option_map, option_map_or}
use Rattle.std.specs.Ordering.{nat_cmp}
use Rattle.std.proofs.lemmas.Bool.{eq-eqb, eqb-true, true≢false}
use Rattle.bosh_records.specs.Table.{changed, each_thing, found, thing_in, without}
use Rattle.laws_stands_on.proofs.TableLemmas.{found_without, nat_at, nat_keys, thing_changed}
use Rattle.laws_stands.specs.Once.{IsOnce}

changed_twice : {V : Type 0} (f g : V → V) (b : Bool) (o : Option V)
    → (if b then option_map g (if b then option_map f o else o) else (if b then option_map f o else o))
    ≡ (if b then option_map (λ w. g (f w)) o else o)
changed_twice f g true (Some w) = refl
changed_twice f g true None = refl
changed_twice f g false o = refl

pub thing_at_key : {V : Type 0} (key : ℕ) (f : V → V) (places : List (ℕ × Option V)) (x : ℕ)
    → thing_in nat_cmp (changed nat_cmp key f places) x
    ≡ (if eqb key x then option_map f (thing_in nat_cmp places x) else thing_in nat_cmp places x)
thing_at_key key f places x = thing_changed nat_cmp nat_keys key f places x
    ∙ (λ j. if nat_at key x j then option_map f (thing_in nat_cmp places x) else thing_in nat_cmp places x)

-- one change after another at the same place
pub things_changed : {V : Type 0} (key : ℕ) (f g : V → V) (places : List (ℕ × Option V)) (x : ℕ)
    → thing_in nat_cmp (changed nat_cmp key g (changed nat_cmp key f places)) x
    ≡ (if eqb key x then option_map (λ w. g (f w)) (thing_in nat_cmp places x) else thing_in nat_cmp places x)
things_changed key f g places x =
    thing_at_key key g (changed nat_cmp key f places) x
    ∙ (λ j. if eqb key x then option_map g (thing_at_key key f places x j) else thing_at_key key f places x j)
    ∙ changed_twice f g (eqb key x) (thing_in nat_cmp places x)

-- ---- options and numbers

pub some_mapped : {A B : Type 0} (f : A → B) (o : Option A) → is_some (option_map f o) ≡ is_some o
some_mapped f (Some a) = refl
some_mapped f None = refl

pub eqb_flip : (a b : ℕ) → eqb a b ≡ eqb b a
eqb_flip a b = by (eqb a b) (eqb b a) refl refl
  where
    by : (t u : Bool) → eqb a b ≡ t → eqb b a ≡ u → eqb a b ≡ eqb b a
    by true true is too = is ∙ sym too
    by false false is too = is ∙ sym too
    by true false is too = absurd (true≢false (sym (eq-eqb b a (sym (eqb-true a b is))) ∙ too))
    by false true is too = absurd (true≢false (sym (eq-eqb a b (sym (eqb-true b a too))) ∙ is))

-- ---- what goes

-- something else at a key that goes makes no difference
without_set : {K X : Type 0} (p : K → Bool) (es : List (K × X)) (x : X)
    → remove_entry p (set_value p es x) ≡ remove_entry p es
without_set p [] x = refl
without_set p (e ∷ es) x = by (p e.0) refl (without_set p es x)
  where
    by : (u : Bool) → p e.0 ≡ u → remove_entry p (set_value p es x) ≡ remove_entry p es
        → remove_entry p (cond (p e.0) ((e.0, x) ∷ es) (e ∷ set_value p es x)) ≡ remove_entry p (e ∷ es)
    by true is more =
        (λ j. remove_entry p (cond (is j) ((e.0, x) ∷ es) (e ∷ set_value p es x)))
        ∙ (λ j. cond (is j) es ((e.0, x) ∷ remove_entry p es))
        ∙ (λ j. cond (sym is j) es (e ∷ remove_entry p es))
    by false is more =
        (λ j. remove_entry p (cond (is j) ((e.0, x) ∷ es) (e ∷ set_value p es x)))
        ∙ (λ j. cond (is j) (set_value p es x) (e ∷ more j))
        ∙ (λ j. cond (sym is j) es (e ∷ remove_entry p es))

without_changed : {V : Type 0} (key : ℕ) (f : V → V) (places : List (ℕ × Option V))
    → without nat_cmp key (changed nat_cmp key f places) ≡ without nat_cmp key places
without_changed {V} key f places = by (lookup (is_at (nat_cmp key)) places)
  where
    by : (o : Option (Option V)) → without nat_cmp key
        (option_map_or (λ it. set_value (is_at (nat_cmp key)) places (option_map f it)) o places)
        ≡ without nat_cmp key places
    by (Some it) = without_set (is_at (nat_cmp key)) places (option_map f it)
    by None = refl

-- a thing that changed and goes is not there any more
pub thing_gone : {V : Type 0} (key : ℕ) (f : V → V) (places : List (ℕ × Option V)) → IsOnce nat_cmp places
    → (x : ℕ) → thing_in nat_cmp (without nat_cmp key (changed nat_cmp key f places)) x
    ≡ (if eqb key x then None else thing_in nat_cmp places x)
thing_gone {V} key f places once x =
    (λ j. thing_in nat_cmp (without_changed key f places j) x)
    ∙ ap (option_and_then (λ place. place)) (found_without nat_cmp nat_keys key places once x)
    ∙ (λ j. option_and_then (λ place. place) (if nat_at key x j then None else found nat_cmp places x))
    ∙ by (eqb key x)
  where
    by : (u : Bool) → option_and_then (λ (place : Option V). place) (if u then None else found nat_cmp places x)
        ≡ (if u then None else thing_in nat_cmp places x)
    by true = refl
    by false = refl

-- ---- what changes everywhere

pub each_found : {V : Type 0} (f : V → V) (places : List (ℕ × Option V)) (x : ℕ)
    → thing_in nat_cmp (each_thing f places) x ≡ option_map f (thing_in nat_cmp places x)
each_found f [] x = refl
each_found {V} f (e ∷ places) x = by (is_at (nat_cmp x) e.0) e.1 (each_found f places x)
  where
    by : (u : Bool) (o : Option V) → thing_in nat_cmp (each_thing f places) x ≡ option_map f (thing_in nat_cmp places x)
        → option_and_then (λ (place : Option V). place)
        (cond u (Some (option_map f o)) (found nat_cmp (each_thing f places) x))
        ≡ option_map f (option_and_then (λ (place : Option V). place) (cond u (Some o) (found nat_cmp places x)))
    by true (Some v) more = refl
    by true None more = refl
    by false o more = more
