-- Two lists in order with the same members are one.
use Rattle.std.proofs.Common.{◌≡◌, ◌∙◌, Bool, true, false, ◌&&◌, ◌||◌, not, List, [], ◌∷◌, filter, map, Some}
use Rattle.std.proofs.Common.{None, ap, refl, sym}
use Rattle.std.specs.Prelude.{cond, if◌then◌else◌}
use Rattle.std.specs.BTreeMap.{is_at}
use Rattle.std.specs.Cmp.{IsTotalOrder}
use Rattle.std.specs.List.{AllByRecursion}
use Rattle.std.specs.List.Sorted.{IsStrictlySortedBy}
use Rattle.std.specs.Map.{keys_of}
use Rattle.std.specs.Option.{option_map_or}
use Rattle.std.specs.Ordering.{ordering_reverse}
use Rattle.std.specs.declared.cmp.Ordering.{Ordering}
use Rattle.std.specs.declared.cmp.Ordering.TheVariants.{Equal, Greater, Less}
use Rattle.std.proofs.lemmas.Bool.{and_parts, false≢true, not-true, true≢false}
use Rattle.bosh_history.specs.Words.{is_among}
use Rattle.bosh_records.specs.Ordered.{AreInOrder}
use Rattle.bosh_records.specs.Table.{found}
use Rattle.bosh_rows.specs.SoundSnapshot.{are_distinct}
use Rattle.laws_facts.proofs.ListLemmas.{Tells}
use Rattle.laws_facts.proofs.OrderLemmas.{distinct_ascending}
use Rattle.laws_row_facts.specs.Words.{are_ascending, is_before, is_below}
use Rattle.laws_stands.specs.Once.{IsOnce}
use Rattle.laws_stands_on.proofs.TableLemmas.{TellsKeys}

pub less_is : (o : Ordering) → is_before o ≡ true → o ≡ Less
less_is Less is = refl
less_is Equal is = absurd (false≢true is)
less_is Greater is = absurd (false≢true is)

module _ {A : Type 0} (cmp : A → A → Ordering) (total : IsTotalOrder cmp) (same : A → A → Bool)
    (tells : (a b : A) → Tells same a b) (equal : (a b : A) → cmp a b ≡ Equal → a ≡ b)
    (is : (a b : A) → same a b ≡ true → a ≡ b) (own : (a : A) → same a a ≡ true) where
  -- what stands behind the first of a list in order is above it
  above : (x y : A) (ys : List A) → are_ascending cmp (y ∷ ys) ≡ true → is_among same x ys ≡ true → cmp y x ≡ Less
  above x y [] order there = absurd (false≢true there)
  above x y (z ∷ ys) order there =
      let (first, rest) = and_parts (is_below cmp y (z ∷ ys)) (are_ascending cmp (z ∷ ys)) order in
      by (same x z) refl there first (above x z ys rest)
    where
      by : (b : Bool) → same x z ≡ b → (b || is_among same x ys) ≡ true → is_below cmp y (z ∷ ys) ≡ true
          → (is_among same x ys ≡ true → cmp z x ≡ Less) → cmp y x ≡ Less
      by true one there first more = ap (cmp y) (is x z one) ∙ less_is (cmp y z) first
      by false other there first more = total.trans y z x (less_is (cmp y z) first) (more there)

  never_both : (x y : A) → cmp x y ≡ Less → cmp y x ≡ Less → ⊥
  never_both x y one two =
      absurd (let e : Less ≡ ordering_reverse Less = sym one ∙ total.antisymm x y ∙ ap ordering_reverse two in cc)

  -- the first of a list in order stands once
  apart : (x : A) (xs : List A) → are_ascending cmp (x ∷ xs) ≡ true → is_among same x xs ≡ false
  apart x xs order = not-true (is_among same x xs) (and_parts (not (is_among same x xs)) (are_distinct same xs)
      (distinct_ascending cmp total same tells equal (x ∷ xs) order)).0

  pub same_in_order : (xs ys : List A) → are_ascending cmp xs ≡ true → are_ascending cmp ys ≡ true
      → ((a : A) → is_among same a xs ≡ is_among same a ys) → xs ≡ ys
  same_in_order [] [] up rise members = refl
  same_in_order [] (y ∷ ys) up rise members =
      absurd (false≢true (members y ∙ (λ i. own y i || is_among same y ys)))
  same_in_order (x ∷ xs) [] up rise members =
      absurd (false≢true (sym (members x) ∙ (λ i. own x i || is_among same x xs)))
  same_in_order (x ∷ xs) (y ∷ ys) up rise members =
      by (same x y) refl
      (same_in_order xs ys (and_parts (is_below cmp x xs) (are_ascending cmp xs) up).1
      (and_parts (is_below cmp y ys) (are_ascending cmp ys) rise).1)
    where
      by : (b : Bool) → same x y ≡ b → (((a : A) → is_among same a xs ≡ is_among same a ys) → xs ≡ ys)
          → x ∷ xs ≡ y ∷ ys
      by true one more = λ i. is x y one i ∷ more (λ a. tail a (same a x) refl) i
        where
          tail : (a : A) (b : Bool) → same a x ≡ b → is_among same a xs ≡ is_among same a ys
          tail a true here =
              ap (λ a. is_among same a xs) (is a x here) ∙ apart x xs up
              ∙ sym (ap (λ a. is_among same a ys) (is a x here ∙ is x y one) ∙ apart y ys rise)
          tail a false away =
              (λ i. sym away i || is_among same a xs) ∙ members a
              ∙ (λ i. (ap (same a) (sym (is x y one)) ∙ away) i || is_among same a ys)
      by false other more =
          absurd (never_both x y
          (above y x xs up ((λ i. sym (flipped (same y x) refl) i || is_among same y xs) ∙ members y
          ∙ (λ i. own y i || is_among same y ys)))
          (above x y ys rise ((λ i. sym other i || is_among same x ys) ∙ sym (members x)
          ∙ (λ i. own x i || is_among same x xs))))
        where
          flipped : (b : Bool) → same y x ≡ b → same y x ≡ false
          flipped false is_other = is_other
          flipped true one_is = absurd (true≢false (sym (ap (same x) (is y x one_is) ∙ own x) ∙ other))

-- ---- what is kept of a table

module _ {K X : Type 0} (cmp : K → K → Ordering) (tells : TellsKeys cmp) (same : K → K → Bool)
    (is : (a b : K) → is_at (cmp a) b ≡ same a b) (keep : K × X → Bool) where
  abbrev pub kept_keys : List (K × X) → List K
  kept_keys es = map (λ e. e.0) (filter keep es)

  none_kept : (es : List (K × X)) (k : K) → found cmp es k ≡ None → is_among same k (kept_keys es) ≡ false
  none_kept [] k none = refl
  none_kept (e ∷ es) k none = by (is_at (cmp k) e.0) refl (keep e) none (none_kept es k)
    where
      by : (b : Bool) → is_at (cmp k) e.0 ≡ b → (c : Bool) → cond b (Some e.1) (found cmp es k) ≡ None
          → (found cmp es k ≡ None → is_among same k (kept_keys es) ≡ false)
          → is_among same k (map (λ (e : K × X). e.0) (if c then e ∷ filter keep es else filter keep es)) ≡ false
      by true here c none more = absurd cc
      by false away true none more =
          (λ i. (sym (is k e.0) ∙ away) i || is_among same k (kept_keys es)) ∙ more none
      by false away false none more = more none

  -- a key is among them where what stands there is kept
  pub among_kept : (es : List (K × X)) → IsOnce cmp es → (k : K)
      → is_among same k (kept_keys es) ≡ option_map_or (λ x. keep (k, x)) (found cmp es k) false
  among_kept [] once k = refl
  among_kept (e ∷ es) (none, once) k = by (is_at (cmp k) e.0) refl (keep e) refl (among_kept es once k)
    where
      by : (b : Bool) → is_at (cmp k) e.0 ≡ b → (c : Bool) → keep e ≡ c
          → is_among same k (kept_keys es) ≡ option_map_or (λ x. keep (k, x)) (found cmp es k) false
          → is_among same k (map (λ (e : K × X). e.0) (if c then e ∷ filter keep es else filter keep es))
          ≡ option_map_or (λ x. keep (k, x)) (cond b (Some e.1) (found cmp es k)) false
      by true here true stays more =
          (λ i. (sym (is k e.0) ∙ here) i || is_among same k (kept_keys es))
          ∙ sym (ap (λ k. keep (k, e.1)) (tells k e.0 here) ∙ stays)
      by true here false goes more =
          none_kept es k (ap (found cmp es) (tells k e.0 here) ∙ none)
          ∙ sym (ap (λ k. keep (k, e.1)) (tells k e.0 here) ∙ goes)
      by false away true stays more =
          (λ i. (sym (is k e.0) ∙ away) i || is_among same k (kept_keys es)) ∙ more
      by false away false goes more = more

  -- they stand in order
  below_kept : (k : K) (es : List (K × X)) → AllByRecursion (λ y. cmp k y ≡ Less) (keys_of es)
      → is_below cmp k (kept_keys es) ≡ true
  below_kept k [] below = refl
  below_kept k (e ∷ es) (first, rest) = by (keep e) (below_kept k es rest)
    where
      by : (b : Bool) → is_below cmp k (kept_keys es) ≡ true
          → is_below cmp k (map (λ (e : K × X). e.0) (if b then e ∷ filter keep es else filter keep es)) ≡ true
      by true more = ap is_before first
      by false more = more

  pub kept_in_order : (es : List (K × X)) → AreInOrder cmp es → are_ascending cmp (kept_keys es) ≡ true
  unfolding IsStrictlySortedBy
  kept_in_order [] order = refl
  kept_in_order (e ∷ es) (below, order) = by (keep e) (kept_in_order es order)
    where
      by : (b : Bool) → are_ascending cmp (kept_keys es) ≡ true
          → are_ascending cmp (map (λ (e : K × X). e.0) (if b then e ∷ filter keep es else filter keep es)) ≡ true
      by true more = (λ i. below_kept e.0 es below i && are_ascending cmp (kept_keys es)) ∙ more
      by false more = more
