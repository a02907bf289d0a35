-- What a walk over numbered places does, one after another.
use Rattle.std.proofs.Common.{◌≡◌, ◌∙◌, ◌-◌, ℕ, Bool, true, false, cond, not, List, [], ◌∷◌, map, Option, Some, None, refl, sym, ap, subst, arith}
use Rattle.std.specs.Prelude.{find, is_none, option_map, if◌then◌else◌}
use Rattle.std.specs.BTreeMap.{is_at}
use Rattle.std.specs.List.{AllByRecursion}
use Rattle.std.specs.List.Sorted.{IsStrictlySortedBy}
use Rattle.std.specs.Map.{keys_of, lookup, set_value}
use Rattle.std.specs.Option.{option_map_or}
use Rattle.std.specs.Ordering.{nat_cmp}
use Rattle.std.specs.declared.cmp.Ordering.{Ordering}
use Rattle.std.specs.declared.cmp.Ordering.TheVariants.{Less}
use Rattle.std.proofs.lemmas.Bool.Decides.{nat_tests}
use Rattle.bosh_records.specs.Table.{altered, changed, each_thing, is_past, next_after}

-- how many numbers may come after the last one
abbrev pub left_after : Option ℕ → ℕ
left_after None = 18446744073709551616
left_after (Some last) = 18446744073709551615 - last

-- ---- numbers

later_is_not : (last : Option ℕ) (t y : ℕ) → is_past last t ≡ false → nat_cmp t y ≡ Less → is_past last y ≡ false
later_is_not None t y fresh less = refl
later_is_not (Some last) t y fresh less = grind (arith, nat_tests)

above_is_not : (t y : ℕ) → nat_cmp t y ≡ Less → is_past (Some t) y ≡ false
above_is_not t y less = grind (arith, nat_tests)

past_is_other : (last : Option ℕ) (x t : ℕ) → is_past last x ≡ true → is_past last t ≡ false → is_at (nat_cmp t) x ≡ false
past_is_other None x t past fresh = grind (arith, past)
past_is_other (Some last) x t past fresh = grind (arith, nat_tests)

past_stays : (last : Option ℕ) (x t : ℕ) → is_past last x ≡ true → is_past last t ≡ false → is_past (Some t) x ≡ true
past_stays None x t past fresh = grind (arith, past)
past_stays (Some last) x t past fresh = grind (arith, nat_tests)

is_there : (t : ℕ) → is_at (nat_cmp t) t ≡ true
is_there t = grind (arith, nat_tests)

is_looked_at : (t : ℕ) → is_past (Some t) t ≡ true
is_looked_at t = grind (arith, nat_tests)

-- ---- entries

-- an entry at another key stays
skip : {K X : Type 0} (cmp : K → K → Ordering) (key : K) (change : X → X) (e : K × X) (es : List (K × X))
    → is_at (cmp key) e.0 ≡ false → altered cmp key change (e ∷ es) ≡ e ∷ altered cmp key change es
skip {K} {X} cmp key change e es other =
    (λ i. option_map_or (λ it. cond (other i) ((e.0, change it) ∷ es) (e ∷ set_value (is_at (cmp key)) es (change it)))
    (cond (other i) (Some e.1) (lookup (is_at (cmp key)) es)) (e ∷ es))
    ∙ push (lookup (is_at (cmp key)) es)
  where
    push : (o : Option X) → option_map_or (λ it. e ∷ set_value (is_at (cmp key)) es (change it)) o (e ∷ es)
        ≡ e ∷ option_map_or (λ it. set_value (is_at (cmp key)) es (change it)) o es
    push None = refl
    push (Some x) = refl

-- the entry at the key changes
hit : {K X : Type 0} (cmp : K → K → Ordering) (key : K) (change : X → X) (e : K × X) (es : List (K × X))
    → is_at (cmp key) e.0 ≡ true → altered cmp key change (e ∷ es) ≡ (e.0, change e.1) ∷ es
hit cmp key change e es here =
    λ i. option_map_or (λ it. cond (here i) ((e.0, change it) ∷ es) (e ∷ set_value (is_at (cmp key)) es (change it)))
    (cond (here i) (Some e.1) (lookup (is_at (cmp key)) es)) (e ∷ es)

module _ {V : Type 0} (change : V → V) where
  -- what the walk leaves of a place
  abbrev pub walked : Option ℕ → ℕ × Option V → ℕ × Option V
  walked last e = (e.0, if is_past last e.0 then option_map change e.1 else e.1)

  -- once it has looked at the numbers up to one
  abbrev pub upto : Option ℕ → List (ℕ × Option V) → List (ℕ × Option V)
  upto last places = map (walked last) places

  untouched : (last : Option ℕ) (x : ℕ) (es : List (ℕ × Option V)) → ((y : ℕ) → nat_cmp x y ≡ Less → is_past last y ≡ false)
      → AllByRecursion (λ y. nat_cmp x y ≡ Less) (keys_of es) → upto last es ≡ es
  untouched last x [] fresh above = refl
  untouched last x (e ∷ es) fresh above =
      λ i. (e.0, if fresh e.0 above.0 i then option_map change e.1 else e.1) ∷ untouched last x es fresh above.1 i

  pub at_first : (es : List (ℕ × Option V)) → es ≡ upto None es
  at_first [] = refl
  at_first (e ∷ es) = λ i. e ∷ at_first es i

  -- the next one is looked at
  pub one_more : (last : Option ℕ) (t : ℕ) (es : List (ℕ × Option V)) → IsStrictlySortedBy nat_cmp (keys_of es)
      → next_after (upto last es) last ≡ Some t → is_past last t ≡ false
      → changed nat_cmp t change (upto last es) ≡ upto (Some t) es
  unfolding IsStrictlySortedBy
  one_more last t [] sorted next fresh = absurd (grind (arith, next))
  one_more last t (e ∷ es) sorted next fresh = by (is_past last e.0) refl (λ later. one_more last t es sorted.1 later fresh)
    where
      rest : Option (ℕ × Option V)
      rest = find (λ place. not (is_past last place.0)) (upto last es)

      told : (b : Bool) → is_past last e.0 ≡ b
          → option_map (λ place. place.0) (cond (not b) (Some (walked last e)) (find (λ place. not (is_past last place.0)) (upto last es))) ≡ Some t
      told b is = subst (λ c. option_map (λ place. place.0) (cond (not c) (Some (walked last e)) (find (λ place. not (is_past last place.0)) (upto last es))) ≡ Some t) is next

      same : (b : Bool) → is_past last e.0 ≡ b → (if is_past last e.0 then option_map change e.1 else e.1) ≡ (if b then option_map change e.1 else e.1)
      same b is = λ i. if is i then option_map change e.1 else e.1

      by : (b : Bool) → is_past last e.0 ≡ b
          → (next_after (upto last es) last ≡ Some t → changed nat_cmp t change (upto last es) ≡ upto (Some t) es)
          → changed nat_cmp t change (upto last (e ∷ es)) ≡ upto (Some t) (e ∷ es)
      by true is later = skip nat_cmp t (option_map change) (walked last e) (upto last es) (past_is_other last e.0 t is fresh)
          ∙ (λ i. (e.0, (same true is ∙ sym (λ j. if past_stays last e.0 t is fresh j then option_map change e.1 else e.1)) i)
          ∷ later (told true is) i)
      by false is later = at (grind (arith, told false is))
        where
          at : e.0 ≡ t → changed nat_cmp t change (upto last (e ∷ es)) ≡ upto (Some t) (e ∷ es)
          at here = subst (λ n. changed nat_cmp n change (upto last (e ∷ es)) ≡ upto (Some n) (e ∷ es)) here
              (hit nat_cmp e.0 (option_map change) (walked last e) (upto last es) (is_there e.0)
              ∙ (λ i. (e.0, (ap (option_map change) (same false is) ∙ sym (λ j. if is_looked_at e.0 j then option_map change e.1 else e.1)) i)
              ∷ (untouched last e.0 es (λ y less. later_is_not last e.0 y is less) sorted.0
              ∙ sym (untouched (Some e.0) e.0 es (λ y less. above_is_not e.0 y less) sorted.0)) i))

  -- none is left
  pub all_done : (last : Option ℕ) (es : List (ℕ × Option V)) → next_after (upto last es) last ≡ None
      → upto last es ≡ each_thing change es
  all_done last [] none = refl
  all_done last (e ∷ es) none = by (is_past last e.0) refl (all_done last es)
    where
      told : (b : Bool) → is_past last e.0 ≡ b
          → option_map (λ place. place.0) (cond (not b) (Some (walked last e)) (find (λ place. not (is_past last place.0)) (upto last es))) ≡ None
      told b is = subst (λ c. option_map (λ place. place.0) (cond (not c) (Some (walked last e)) (find (λ place. not (is_past last place.0)) (upto last es))) ≡ None) is none

      by : (b : Bool) → is_past last e.0 ≡ b → (next_after (upto last es) last ≡ None → upto last es ≡ each_thing change es)
          → upto last (e ∷ es) ≡ each_thing change (e ∷ es)
      by true is done = λ i. (e.0, if is i then option_map change e.1 else e.1) ∷ done (told true is) i
      by false is done = absurd (grind (arith, told false is))

  -- ---- of a loop

  same_keys : (last : Option ℕ) (es : List (ℕ × Option V)) → keys_of (upto last es) ≡ keys_of es
  same_keys last [] = refl
  same_keys last (e ∷ es) = λ i. e.0 ∷ same_keys last es i

  pub walked_on : (last : Option ℕ) (t : ℕ) (es now after : List (ℕ × Option V)) → now ≡ upto last es
      → IsStrictlySortedBy nat_cmp (keys_of now) → Some t ≡ next_after now last → is_past last t ≡ false
      → after ≡ changed nat_cmp t change now → after ≡ upto (Some t) es
  walked_on last t es now after is sorted next fresh done =
      done
      ∙ ap (changed nat_cmp t change) is
      ∙ one_more last t es (subst (IsStrictlySortedBy nat_cmp) (ap keys_of is ∙ same_keys last es) sorted)
      (sym (next ∙ ap (λ places. next_after places last) is)) fresh

  pub walked_all : (last : Option ℕ) (es now : List (ℕ × Option V)) → now ≡ upto last es → None ≡ next_after now last
      → now ≡ each_thing change es
  walked_all last es now is none = is ∙ all_done last es (sym (none ∙ ap (λ places. next_after places last) is))
