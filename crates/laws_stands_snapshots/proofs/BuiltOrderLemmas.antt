-- The compiled keys that are listed stand in their order, each once, from a snapshot on: a key is compiled once.
use Rattle.std.proofs.Common.{◌≡◌, ◌∙◌, Bool, true, false, ◌||◌, List, [], ◌∷◌, Option, Some, None}
use Rattle.std.proofs.Common.{ap, refl, subst, sym}
use Rattle.std.specs.Prelude.{find, not, if◌then◌else◌}
use Rattle.std.specs.Cmp.Lexicographic.{slice_cmp}
use Rattle.std.specs.List.{list_any}
use Rattle.std.specs.Option.{option_and_then, option_map}
use Rattle.std.specs.Ordering.{is_eq, nat_cmp, ordering_reverse}
use Rattle.std.specs.declared.cmp.Ordering.{Ordering}
use Rattle.std.specs.declared.cmp.Ordering.TheVariants.{Equal, Greater, Less}
use Rattle.std.proofs.lemmas.Bool.{and_from, and_parts, not-true, true≢false}
use Rattle.bosh_base.specs.declared.key.Key.{Key}
use Rattle.bosh_base.specs.declared.snapshot.BuiltKey.{BuiltKey}
use Rattle.bosh_base.specs.declared.snapshot.Snapshot.{Snapshot}
use Rattle.bosh_compile.specs.Readiness.{same_key}
use Rattle.bosh_fold.specs.Anew.{anew}
use Rattle.bosh_history.specs.Words.{by_order, inserted}
use Rattle.bosh_records.specs.Keys.{built_key, key_cmp}
use Rattle.bosh_records.specs.declared.keys.KeyState.{KeyState}
use Rattle.bosh_rows.specs.SoundSnapshot.{are_distinct, built_cmp}
use Rattle.laws_facts.proofs.InstanceLemmas.{then_equal}
use Rattle.laws_facts.proofs.OrderLemmas.{any_inserted}
use Rattle.laws_row_facts.specs.Words.{are_ascending, is_before, is_below}
use Rattle.laws_stands_snapshots.proofs.AnewLemmas.{anew_is, compiled_state, found_meets, state_is}
use Rattle.laws_stands_snapshots.proofs.BuiltLemmas.{built_total, key_flip, key_is}
use Rattle.laws_stands_snapshots.proofs.OrderLemmas.{key_order}
use Rattle.laws_stands_snapshots.specs.Built.{AreBuiltInOrder, BuiltStand}
use Rattle.laws_stands_snapshots.specs.Readable.{IsReadable, same_built}

-- ---- one more key

-- what is equal in the order is of one key
tied : (a b : BuiltKey) → built_cmp a b ≡ Equal → a.key ≡ b.key
tied a b is =
    key_order.keys a.key b.key
    (ap is_eq (then_equal (slice_cmp nat_cmp a.name b.name) (key_cmp a.key b.key) is).1)

module _ (a : BuiltKey) where
  -- no key of these is that of the new one
  abbrev IsNew : List BuiltKey → Type 0
  IsNew items = list_any (same_built a) items ≡ false

  never_tied : (b : BuiltKey) → same_built a b ≡ false → built_cmp a b ≡ Equal → ⊥
  never_tied b other is =
      true≢false (sym (ap (same_key a.key) (sym (tied a b is)) ∙ key_order.own a.key) ∙ other)

  first_new : (b : BuiltKey) (items : List BuiltKey) → IsNew (b ∷ items) → (same_built a b ≡ false) × IsNew items
  first_new b items new = by (same_built a b) refl new
    where
      by : (c : Bool) → same_built a b ≡ c → (c || list_any (same_built a) items) ≡ false
          → (same_built a b ≡ false) × IsNew items
      by true is new = absurd (true≢false new)
      by false is new = (is, new)

  below_inserted : (b : BuiltKey) (items : List BuiltKey) → built_cmp b a ≡ Less → IsNew items
      → is_below built_cmp b items ≡ true → is_below built_cmp b (inserted built_cmp a items) ≡ true
  below_inserted b [] less new below = ap is_before less
  below_inserted b (c ∷ items) less new below = by (built_cmp a c) refl
    where
      by : (o : Ordering) → built_cmp a c ≡ o
          → is_below built_cmp b (by_order o (a ∷ c ∷ items) (a ∷ items) (c ∷ inserted built_cmp a items)) ≡ true
      by Less is = ap is_before less
      by Equal is = absurd (never_tied c (first_new c items new).0 is)
      by Greater is = below

  pub rises_inserted : (items : List BuiltKey) → IsNew items → are_ascending built_cmp items ≡ true
      → are_ascending built_cmp (inserted built_cmp a items) ≡ true
  rises_inserted [] new rise = refl
  rises_inserted (b ∷ items) new rise =
      let (first, rest) = first_new b items new in
      let (below, more) = and_parts (is_below built_cmp b items) (are_ascending built_cmp items) rise in
      by (built_cmp a b) refl first rest below (rises_inserted items rest more)
    where
      by : (o : Ordering) → built_cmp a b ≡ o → same_built a b ≡ false → IsNew items → is_below built_cmp b items ≡ true
          → are_ascending built_cmp (inserted built_cmp a items) ≡ true
          → are_ascending built_cmp (by_order o (a ∷ b ∷ items) (a ∷ items) (b ∷ inserted built_cmp a items)) ≡ true
      by Less is first rest below more =
          and_from (is_before (built_cmp a b)) (are_ascending built_cmp (b ∷ items)) (ap is_before is) rise
      by Equal is first rest below more = absurd (never_tied b first is)
      by Greater is first rest below more =
          and_from (is_below built_cmp b (inserted built_cmp a items))
          (are_ascending built_cmp (inserted built_cmp a items))
          (below_inserted b items (built_total.antisymm b a ∙ ap ordering_reverse is) rest below) more

  found_inserted : (test : BuiltKey → Bool) → ((x y : BuiltKey) → x.key ≡ y.key → test x ≡ test y) → (items : List BuiltKey)
      → list_any test (inserted built_cmp a items) ≡ (test a || list_any test items)
  found_inserted test alike items = any_inserted built_cmp test (λ x y is. alike x y (tied x y is)) a items

  pub apart_inserted : (items : List BuiltKey) → IsNew items → are_distinct same_built items ≡ true
      → are_distinct same_built (inserted built_cmp a items) ≡ true
  apart_inserted [] new apart = refl
  apart_inserted (b ∷ items) new apart =
      let (first, rest) = first_new b items new in
      let (alone, more) = and_parts (not (list_any (same_built b) items)) (are_distinct same_built items) apart in
      by (built_cmp a b) refl first (not-true (list_any (same_built b) items) alone) (apart_inserted items rest more)
    where
      by : (o : Ordering) → built_cmp a b ≡ o → same_built a b ≡ false → list_any (same_built b) items ≡ false
          → are_distinct same_built (inserted built_cmp a items) ≡ true
          → are_distinct same_built (by_order o (a ∷ b ∷ items) (a ∷ items) (b ∷ inserted built_cmp a items)) ≡ true
      by Less is first alone more =
          and_from (not (list_any (same_built a) (b ∷ items))) (are_distinct same_built (b ∷ items)) (ap not new) apart
      by Equal is first alone more = absurd (never_tied b first is)
      by Greater is first alone more =
          and_from (not (list_any (same_built b) (inserted built_cmp a items)))
          (are_distinct same_built (inserted built_cmp a items))
          (ap not (found_inserted (same_built b) (λ x y is. ap (same_key b.key) is) items
          ∙ (λ j. (key_flip b.key a.key ∙ first) j || list_any (same_built b) items) ∙ alone)) more

  -- what is found of a key
  pub find_inserted : (items : List BuiltKey) → IsNew items → (key : Key)
      → find (λ (b : BuiltKey). same_key b.key key) (inserted built_cmp a items)
      ≡ (if same_key a.key key then Some a else find (λ (b : BuiltKey). same_key b.key key) items)
  find_inserted [] new key = refl
  find_inserted (b ∷ items) new key =
      let (first, rest) = first_new b items new in
      by (built_cmp a b) refl first (find_inserted items rest key)
    where
      test : BuiltKey → Bool
      test x = same_key x.key key

      swapped : (c d : Bool) → same_key a.key key ≡ c → same_key b.key key ≡ d → same_built a b ≡ false
          → (if d then Some b else (if c then Some a else find test items))
          ≡ (if c then Some a else (if d then Some b else find test items))
      swapped true true one two first =
          absurd (true≢false (sym (ap (same_key a.key) (key_is b.key key two ∙ sym (key_is a.key key one))
          ∙ key_order.own a.key) ∙ first))
      swapped true false one two first = refl
      swapped false d one two first = refl

      by : (o : Ordering) → built_cmp a b ≡ o → same_built a b ≡ false
          → find test (inserted built_cmp a items) ≡ (if same_key a.key key then Some a else find test items)
          → find test (by_order o (a ∷ b ∷ items) (a ∷ items) (b ∷ inserted built_cmp a items))
          ≡ (if same_key a.key key then Some a else (if same_key b.key key then Some b else find test items))
      by Less is first more = refl
      by Equal is first more = absurd (never_tied b first is)
      by Greater is first more =
          (λ j. if same_key b.key key then Some b else more j)
          ∙ swapped (same_key a.key key) (same_key b.key key) refl refl first

pub one_more_in_order : (a : BuiltKey) (items : List BuiltKey) → list_any (same_built a) items ≡ false
    → AreBuiltInOrder items → AreBuiltInOrder (inserted built_cmp a items)
one_more_in_order a items new in_order =
    record { order = rises_inserted a items new in_order.order; apart = apart_inserted a items new in_order.apart }

-- ---- a snapshot is read

pub built_read : (s : Snapshot) → IsReadable s → AreBuiltInOrder s.built_keys → BuiltStand s.built_keys (anew s)
built_read s r in_order =
    subst (BuiltStand s.built_keys) (sym (anew_is s)) (record {
      in_order = in_order;
      same = λ key.
          ap (option_and_then (λ (state : KeyState). option_map (built_key key state) state.digest)) (state_is s r key)
          ∙ by key (find (λ (it : BuiltKey). same_key it.key key) s.built_keys) refl;
    })
  where
    by : (key : Key) (built : Option BuiltKey) → find (λ (it : BuiltKey). same_key it.key key) s.built_keys ≡ built
        → option_and_then (λ (state : KeyState). option_map (built_key key state) state.digest)
        (option_map (compiled_state s r) built)
        ≡ built
    by key (Some it) is =
        λ j. Some (record it {
          key = sym (key_is it.key key (found_meets (λ (it : BuiltKey). same_key it.key key) s.built_keys it is)) j;
        })
    by key None is = refl
