-- The compiled keys that a snapshot of the records tells, in their order, are those that are listed.
use Rattle.std.proofs.Common.{◌≡◌, ◌∙◌, ◌≤◌, ◌<◌, ℕ, suc, ◌+◌, Bool, true, false, ◌||◌, List, [], ◌∷◌, Option, Some}
use Rattle.std.proofs.Common.{None, ap, arith, get_or, length, refl, subst, sym}
use Rattle.std.specs.Prelude.{IsPermutation, cond, find, not, if◌then◌else◌}
use Rattle.std.specs.BTreeMap.{is_at}
use Rattle.std.specs.Cmp.{IsTotalOrder}
use Rattle.std.specs.Cmp.Lexicographic.{slice_cmp}
use Rattle.std.specs.List.{cons_option, list_any, sum_by}
use Rattle.std.specs.List.Sorted.{IsSorted}
use Rattle.std.specs.Option.{option_and_then, option_map, option_map_or}
use Rattle.std.specs.Ordering.{is_eq, is_lt, nat_cmp, ordering_reverse, ordering_then}
use Rattle.std.specs.declared.cmp.Ordering.{Ordering}
use Rattle.std.specs.declared.cmp.Ordering.TheVariants.{Equal, Greater, Less}
use Rattle.std.proofs.lemmas.Bool.{and_from, and_parts, not-true, true≢false}
use Rattle.std.proofs.lemmas.Cmp.{nat_list_cmp_total, on_total, then_total}
use Rattle.std.proofs.lemmas.List.Sorted.{list_any-IsPermutation, sum_by-IsPermutation}
use Rattle.std.proofs.lemmas.List.Sums.{sum_by-cons}
use Rattle.std.proofs.lemmas.Map.Lookups.{exact_bytes}
use Rattle.bosh_base.specs.declared.digest.Digest.{Digest}
use Rattle.bosh_base.specs.declared.key.Key.{Key}
use Rattle.bosh_base.specs.declared.snapshot.BuiltKey.{BuiltKey}
use Rattle.bosh_compile.specs.Readiness.{same_key}
use Rattle.bosh_history.specs.Words.{is_among}
use Rattle.bosh_records.specs.Keys.{built_key, built_of, key_cmp}
use Rattle.bosh_records.specs.Ordered.{AreInOrder}
use Rattle.bosh_records.specs.Recorded.{Recorded}
use Rattle.bosh_records.specs.Table.{found}
use Rattle.bosh_records.specs.declared.keys.KeyState.{KeyState}
use Rattle.bosh_rows.specs.SoundSnapshot.{are_distinct, built_cmp}
use Rattle.laws_facts.proofs.InstanceLemmas.{then_equal}
use Rattle.laws_row_facts.specs.Words.{are_ascending, is_before, is_below}
use Rattle.laws_stands.proofs.OrderLemmas.{once_in}
use Rattle.laws_stands.specs.Once.{IsOnce}
use Rattle.laws_stands_snapshots.proofs.FoldLemmas.{flipped, same_is}
use Rattle.laws_stands_snapshots.proofs.TableListLemmas.{TellsApart, equal, is_same, tells}
use Rattle.laws_stands_snapshots.proofs.OrderLemmas.{key_order}
use Rattle.laws_stands_snapshots.specs.Built.{BuiltStand}
use Rattle.laws_stands_snapshots.specs.Readable.{same_built}
use Rattle.laws_stands_works.proofs.InOrderLemmas.{same_in_order}

pub key_is : (a b : Key) → same_key a b ≡ true → a ≡ b
key_is = same_is key_cmp same_key key_order

pub key_flip : (a b : Key) → same_key a b ≡ same_key b a
key_flip = flipped key_cmp same_key key_order

-- what entries say of a compiled key
abbrev built_at : List (Key × KeyState) → Key → Option BuiltKey
built_at es key = option_and_then (λ state. option_map (built_key key state) state.digest) (found key_cmp es key)

-- ---- a test that holds of one key alone

module _ (p : BuiltKey → Bool) (key : Key) (own : (b : BuiltKey) → p b ≡ true → b.key ≡ key) where
  -- .. does not hold of another key
  other_key : (b : BuiltKey) → same_key b.key key ≡ false → p b ≡ false
  other_key b other = by (p b) refl
    where
      by : (c : Bool) → p b ≡ c → p b ≡ false
      by true is = absurd (true≢false (sym (ap (λ a. same_key a key) (own b is) ∙ key_order.own key) ∙ other))
      by false is = is

  none_after : (y : BuiltKey) (ys : List BuiltKey) → y.key ≡ key → list_any (same_built y) ys ≡ false
      → list_any p ys ≡ false
  none_after y [] is none = refl
  none_after y (z ∷ ys) is none = by (same_built y z) refl none (none_after y ys is)
    where
      by : (c : Bool) → same_built y z ≡ c → (c || list_any (same_built y) ys) ≡ false
          → (list_any (same_built y) ys ≡ false → list_any p ys ≡ false) → (p z || list_any p ys) ≡ false
      by true one none more = absurd (true≢false none)
      by false other none more =
          (λ j. other_key z (key_flip z.key key ∙ ap (λ a. same_key a z.key) (sym is) ∙ other) j || list_any p ys)
          ∙ more none

  any_listed : (ys : List BuiltKey) → are_distinct same_built ys ≡ true
      → list_any p ys ≡ option_map_or p (find (λ (b : BuiltKey). same_key b.key key) ys) false
  any_listed [] apart = refl
  any_listed (y ∷ ys) apart =
      let (alone, rest) = and_parts (not (list_any (same_built y) ys)) (are_distinct same_built ys) apart in
      by (same_key y.key key) refl (not-true (list_any (same_built y) ys) alone) (any_listed ys rest)
    where
      test : BuiltKey → Bool
      test b = same_key b.key key

      or_none : (b : Bool) → (b || false) ≡ b
      or_none true = refl
      or_none false = refl

      by : (c : Bool) → same_key y.key key ≡ c → list_any (same_built y) ys ≡ false
          → list_any p ys ≡ option_map_or p (find test ys) false
          → (p y || list_any p ys) ≡ option_map_or p (if same_key y.key key then Some y else find test ys) false
      by true one none more =
          (λ j. p y || none_after y ys (key_is y.key key one) none j) ∙ or_none (p y)
          ∙ (λ j. option_map_or p (if sym one j then Some y else find test ys) false)
      by false other none more =
          (λ j. other_key y other j || list_any p ys) ∙ more
          ∙ (λ j. option_map_or p (if sym other j then Some y else find test ys) false)

  any_recorded : (es : List (Key × KeyState)) → IsOnce key_cmp es
      → list_any p (built_of es) ≡ option_map_or p (built_at es key) false
  any_recorded [] once = refl
  any_recorded (e ∷ es) (none, once) = by (is_at (key_cmp key) e.0) refl e.1.digest refl (any_recorded es once)
    where
      -- by what stands at the key
      of : Option KeyState → Option BuiltKey
      of state = option_and_then (λ (state : KeyState). option_map (built_key key state) state.digest) state

      or_none : (b : Bool) → (b || false) ≡ b
      or_none true = refl
      or_none false = refl

      by : (c : Bool) → is_at (key_cmp key) e.0 ≡ c → (digest : Option Digest) → e.1.digest ≡ digest
          → list_any p (built_of es) ≡ option_map_or p (of (found key_cmp es key)) false
          → list_any p (cons_option (option_map (built_key e.0 e.1) e.1.digest) (built_of es))
          ≡ option_map_or p (of (cond (is_at (key_cmp key) e.0) (Some e.1) (found key_cmp es key))) false
      by true at (Some digest) is more =
          let nothing : found key_cmp es key ≡ None = ap (found key_cmp es) (key_order.keys key e.0 at) ∙ none in
          (λ j. list_any p (cons_option (option_map (built_key e.0 e.1) (is j)) (built_of es)))
          ∙ (λ j. p (built_key e.0 e.1 digest) || (more ∙ (λ i. option_map_or p (of (nothing i)) false)) j)
          ∙ or_none (p (built_key e.0 e.1 digest))
          ∙ (λ j. p (built_key (sym (key_order.keys key e.0 at) j) e.1 digest))
          ∙ (λ j. option_map_or p (option_map (built_key key e.1) (sym is j)) false)
          ∙ (λ j. option_map_or p (of (cond (sym at j) (Some e.1) (found key_cmp es key))) false)
      by true at None is more =
          let nothing : found key_cmp es key ≡ None = ap (found key_cmp es) (key_order.keys key e.0 at) ∙ none in
          (λ j. list_any p (cons_option (option_map (built_key e.0 e.1) (is j)) (built_of es)))
          ∙ more ∙ (λ j. option_map_or p (of (nothing j)) false)
          ∙ (λ j. option_map_or p (option_map (built_key key e.1) (sym is j)) false)
          ∙ (λ j. option_map_or p (of (cond (sym at j) (Some e.1) (found key_cmp es key))) false)
      by false away (Some digest) is more =
          (λ j. list_any p (cons_option (option_map (built_key e.0 e.1) (is j)) (built_of es)))
          ∙ (λ j. other_key (built_key e.0 e.1 digest)
          (key_flip e.0 key ∙ sym (key_order.at_is key e.0) ∙ away) j || list_any p (built_of es))
          ∙ more ∙ (λ j. option_map_or p (of (cond (sym away j) (Some e.1) (found key_cmp es key))) false)
      by false away None is more =
          (λ j. list_any p (cons_option (option_map (built_key e.0 e.1) (is j)) (built_of es)))
          ∙ more ∙ (λ j. option_map_or p (of (cond (sym away j) (Some e.1) (found key_cmp es key))) false)

-- ---- each key once

-- one, where it is of the key
abbrev ones : Key → BuiltKey → ℕ
ones key b = cond (same_key b.key key) 1 0

none_counted : (key : Key) (es : List (Key × KeyState)) → found key_cmp es key ≡ None
    → sum_by (ones key) (built_of es) ≡ 0
none_counted key [] none = refl
none_counted key (e ∷ es) none = by (is_at (key_cmp key) e.0) refl none e.1.digest (none_counted key es)
  where
    by : (c : Bool) → is_at (key_cmp key) e.0 ≡ c → cond c (Some e.1) (found key_cmp es key) ≡ None
        → (digest : Option Digest) → (found key_cmp es key ≡ None → sum_by (ones key) (built_of es) ≡ 0)
        → sum_by (ones key) (cons_option (option_map (built_key e.0 e.1) digest) (built_of es)) ≡ 0
    by true at none digest more = absurd cc
    by false away none (Some digest) more =
        sum_by-cons (ones key) (built_key e.0 e.1 digest) (built_of es)
        ∙ (λ j. cond ((key_flip e.0 key ∙ sym (key_order.at_is key e.0) ∙ away) j) 1 0
        + sum_by (ones key) (built_of es))
        ∙ (λ j. 0 + more none j)
    by false away none None more = more none

most_one : (key : Key) (es : List (Key × KeyState)) → IsOnce key_cmp es → sum_by (ones key) (built_of es) ≤ 1
most_one key [] once = let e : 0 ≤ 1 = omega arith in e
most_one key (e ∷ es) (none, once) = by (is_at (key_cmp key) e.0) refl e.1.digest (most_one key es once)
  where
    at_most : (b : Bool) → cond b 1 0 ≤ 1
    at_most true = omega arith
    at_most false = omega arith

    both : (a b : ℕ) → a ≤ 1 → b ≡ 0 → a + b ≤ 1
    both a b low none = omega arith

    by : (c : Bool) → is_at (key_cmp key) e.0 ≡ c → (digest : Option Digest) → sum_by (ones key) (built_of es) ≤ 1
        → sum_by (ones key) (cons_option (option_map (built_key e.0 e.1) digest) (built_of es)) ≤ 1
    by true at (Some digest) more =
        subst (λ n. n ≤ 1) (sym (sum_by-cons (ones key) (built_key e.0 e.1 digest) (built_of es)))
        (both (ones key (built_key e.0 e.1 digest)) (sum_by (ones key) (built_of es)) (at_most (same_key e.0 key))
        (none_counted key es (ap (found key_cmp es) (key_order.keys key e.0 at) ∙ none)))
    by false away (Some digest) more =
        subst (λ n. n ≤ 1) (sym (sum_by-cons (ones key) (built_key e.0 e.1 digest) (built_of es)
        ∙ (λ j. cond ((key_flip e.0 key ∙ sym (key_order.at_is key e.0) ∙ away) j) 1 0
        + sum_by (ones key) (built_of es))))
        (let e : 0 + sum_by (ones key) (built_of es) ≤ 1 = omega arith in e)
    by c at None more = more

-- ---- the order by name and key

pub built_total : IsTotalOrder built_cmp
built_total =
    then_total (on_total (λ (it : BuiltKey). it.name) nat_list_cmp_total) (on_total (λ (it : BuiltKey). it.key) key_order.total)

rises : (xs : List BuiltKey) → IsSorted built_cmp xs → ((key : Key) → sum_by (ones key) xs ≤ 1)
    → are_ascending built_cmp xs ≡ true
rises [] sorted few = refl
rises (x ∷ []) sorted few = refl
rises (x ∷ y ∷ xs) sorted few =
    and_from (is_before (built_cmp x y)) (are_ascending built_cmp (y ∷ xs))
    (by (built_cmp y x) refl (sorted 0 x (omega arith) (omega arith)))
    (rises (y ∷ xs) (λ k d low high. next k d high)
    (λ key. fewer key (few key) (sum_by-cons (ones key) x (y ∷ xs))))
  where
    next : (k : ℕ) (d : BuiltKey) → k + 1 < length (y ∷ xs)
        → is_lt (built_cmp (get_or (y ∷ xs) (k + 1) d) (get_or (y ∷ xs) k d)) ≡ false
    next k d high =
        let e : suc k + 1 ≡ suc (k + 1) = omega arith in
        subst (λ (n : ℕ). is_lt (built_cmp (get_or (x ∷ y ∷ xs) n d) (get_or (y ∷ xs) k d)) ≡ false) e
        (sorted (suc k) d (omega arith) (omega arith))

    fewer : (key : Key) → sum_by (ones key) (x ∷ y ∷ xs) ≤ 1
        → sum_by (ones key) (x ∷ y ∷ xs) ≡ ones key x + sum_by (ones key) (y ∷ xs) → sum_by (ones key) (y ∷ xs) ≤ 1
    fewer key low is = omega arith

    twice : (a b c d : ℕ) → d ≤ 1 → d ≡ a + (b + c) → a ≡ 1 → b ≡ 1 → ⊥
    twice a b c d low is one two = omega arith

    by : (o : Ordering) → built_cmp y x ≡ o → is_lt o ≡ false → is_before (built_cmp x y) ≡ true
    by Less is high = absurd (true≢false high)
    by Equal is high =
        let (name, tie) = then_equal (slice_cmp nat_cmp y.name x.name) (key_cmp y.key x.key) is in
        let same : y.key ≡ x.key = key_order.keys y.key x.key (ap is_eq tie) in
        absurd (twice (ones x.key x) (ones x.key y) (sum_by (ones x.key) xs) (sum_by (ones x.key) (x ∷ y ∷ xs))
        (few x.key)
        (sum_by-cons (ones x.key) x (y ∷ xs) ∙ ap (λ n. ones x.key x + n) (sum_by-cons (ones x.key) y xs))
        (λ j. cond (key_order.own x.key j) 1 0)
        (λ j. cond ((ap (λ a. same_key a x.key) same ∙ key_order.own x.key) j) 1 0))
    by Greater is high = ap is_before (built_total.antisymm x y ∙ ap ordering_reverse is)

-- ---- by the digest too, so that what is equal is one

abbrev whole_cmp : BuiltKey → BuiltKey → Ordering
whole_cmp a b = ordering_then (built_cmp a b) (slice_cmp nat_cmp a.digest.0 b.digest.0)

whole_total : IsTotalOrder whole_cmp
whole_total = then_total built_total (on_total (λ (it : BuiltKey). it.digest.0) nat_list_cmp_total)

is_equal : (o : Ordering) → is_eq o ≡ true → o ≡ Equal
is_equal Less is = absurd (true≢false (sym is))
is_equal Equal is = refl
is_equal Greater is = absurd (true≢false (sym is))

whole_is : (a b : BuiltKey) → is_eq (whole_cmp a b) ≡ true → a ≡ b
whole_is a b is =
    let (front, digest) = then_equal (built_cmp a b) (slice_cmp nat_cmp a.digest.0 b.digest.0)
    (is_equal (whole_cmp a b) is) in
    let (name, key) = then_equal (slice_cmp nat_cmp a.name b.name) (key_cmp a.key b.key) front in
    λ j. record {
      name = exact_bytes a.name b.name name j;
      key = key_order.keys a.key b.key (ap is_eq key) j;
      digest = record { 0 = exact_bytes a.digest.0 b.digest.0 digest j };
    }

itself : (a : BuiltKey) → is_eq (whole_cmp a a) ≡ true
itself a = by (whole_cmp a a) refl
  where
    by : (o : Ordering) → whole_cmp a a ≡ o → is_eq (whole_cmp a a) ≡ true
    by Less is = absurd (let e : Less ≡ ordering_reverse Less = sym is ∙ whole_total.antisymm a a ∙ ap ordering_reverse is in cc)
    by Equal is = ap is_eq is
    by Greater is =
        absurd (let e : Greater ≡ ordering_reverse Greater = sym is ∙ whole_total.antisymm a a ∙ ap ordering_reverse is in cc)

whole_order : TellsApart whole_cmp (λ a b. is_eq (whole_cmp a b))
whole_order = record { total = whole_total; keys = whole_is; at_is = λ a b. refl; own = itself }

-- what ascends by name and key ascends so too
rises_whole : (xs : List BuiltKey) → are_ascending built_cmp xs ≡ true → are_ascending whole_cmp xs ≡ true
rises_whole [] rise = refl
rises_whole (x ∷ xs) rise =
    let (first, rest) = and_parts (is_below built_cmp x xs) (are_ascending built_cmp xs) rise in
    and_from (is_below whole_cmp x xs) (are_ascending whole_cmp xs) (below xs first) (rises_whole xs rest)
  where
    less : (o more : Ordering) → is_before o ≡ true → is_before (ordering_then o more) ≡ true
    less Less more is = refl
    less Equal more is = absurd (true≢false (sym is))
    less Greater more is = absurd (true≢false (sym is))

    below : (ys : List BuiltKey) → is_below built_cmp x ys ≡ true → is_below whole_cmp x ys ≡ true
    below [] is = refl
    below (y ∷ ys) is = less (built_cmp x y) (slice_cmp nat_cmp x.digest.0 y.digest.0) is

-- ---- the law

pub built_are : (it : Recorded) (told listed : List BuiltKey) → AreInOrder key_cmp it.keys → BuiltStand listed it
    → IsPermutation (built_of it.keys) told → IsSorted built_cmp told → told ≡ listed
built_are it told listed ordered stand moved sorted =
    same_in_order whole_cmp whole_total same (tells whole_order) (equal whole_order) (is_same whole_order) itself told listed
    (rises_whole told (rises told sorted few)) (rises_whole listed stand.in_order.order) members
  where
    same : BuiltKey → BuiltKey → Bool
    same a b = is_eq (whole_cmp a b)

    once : IsOnce key_cmp it.keys
    once = once_in key_cmp it.keys ordered

    few : (key : Key) → sum_by (ones key) told ≤ 1
    few key = subst (λ n. n ≤ 1) (sym (sum_by-IsPermutation (ones key) (built_of it.keys) told moved))
        (most_one key it.keys once)

    members : (a : BuiltKey) → is_among same a told ≡ is_among same a listed
    members a =
        sym (list_any-IsPermutation (same a) (built_of it.keys) told moved)
        ∙ any_recorded (same a) a.key own it.keys once
        ∙ (λ j. option_map_or (same a) (stand.same a.key j) false)
        ∙ sym (any_listed (same a) a.key own listed stand.in_order.apart)
      where
        own : (b : BuiltKey) → same a b ≡ true → b.key ≡ a.key
        own b is = ap (λ (it : BuiltKey). it.key) (sym (whole_is a b is))
