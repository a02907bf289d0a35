-- The numbers of keys tell the keys apart.
use Rattle.std.proofs.Common.{◌≡◌, ◌⊎◌, ◌∙◌, refl, sym, ap, subst, inl, inr, ⊎_elim, ℕ, ◌≤◌, ◌<◌, Bool, true, false, cond, ◌&&◌, ◌||◌, Option, None, Some, List, [], ◌∷◌, ◌++◌, length, take, get_or, append-nil, ◌+◌, arith}
use Rattle.std.specs.declared.cmp.Ordering.{Ordering}
use Rattle.std.specs.declared.cmp.Ordering.TheVariants.{Less, Equal, Greater}
use Rattle.std.specs.BTreeMap.{BTreeMap, UpdatesBy, get_by}
use Rattle.std.specs.Cmp.Lexicographic.{slice_cmp}
use Rattle.std.specs.List.{Contains, HoldsAt}
use Rattle.std.proofs.lemmas.List.Folds.{list_any-append}
use Rattle.std.specs.Option.{IsSome, is_some, option_to_list}
use Rattle.std.specs.Ordering.{nat_cmp, ordering_then, is_eq}
use Rattle.std.specs.Str.{bytes_eq}
use Rattle.std.proofs.lemmas.Bool.{cases_lt}
use Rattle.std.proofs.lemmas.List.{take_more}
use Rattle.std.proofs.lemmas.List.Concat.{flat_map-append}
use Rattle.std.proofs.lemmas.List.Elements.{All-contains, Contains-append_left, Contains-append_right, Contains-append_cases}
use Rattle.std.proofs.lemmas.Map.Text.{is_eq-slice_cmp}
use denote.Ref.{Bor}
use Rattle.bosh_base.specs.declared.key.Key.{Key}
use Rattle.bosh_base.specs.declared.key.KeyWork.{KeyWork}
use Rattle.bosh_compile.specs.CompileOrder.{key_cmp}
use Rattle.bosh_compile.specs.KeySet.{AreKeys, has_key}
use Rattle.bosh_compile.specs.Readiness.{is_among, same_key}
use Rattle.bosh_compile.specs.Table.{StandsAt, IsNumbering, numbers_by, place_in}
use Rattle.bosh_compile.proofs.KeyLemmas.{same_key_decides}
use Rattle.bosh_compile.proofs.GreatestLemmas.{here, there, contains_cases}

is_eq-then : (a b : Ordering) → is_eq (ordering_then a b) ≡ (is_eq a && is_eq b)
is_eq-then Less b = refl
is_eq-then Equal b = refl
is_eq-then Greater b = refl

is_eq-key_cmp : (a b : Key) → is_eq (key_cmp a b) ≡ same_key a b
is_eq-key_cmp a b =
    is_eq-then (slice_cmp nat_cmp a.fingerprint.0 b.fingerprint.0) (ordering_then (slice_cmp nat_cmp a.os b.os) (slice_cmp nat_cmp a.version b.version))
    ∙ ap (λ (t : Bool). is_eq (slice_cmp nat_cmp a.fingerprint.0 b.fingerprint.0) && t) (is_eq-then (slice_cmp nat_cmp a.os b.os) (slice_cmp nat_cmp a.version b.version))
    ∙ ap (λ (t : Bool). t && (is_eq (slice_cmp nat_cmp a.os b.os) && is_eq (slice_cmp nat_cmp a.version b.version))) (is_eq-slice_cmp a.fingerprint.0 b.fingerprint.0)
    ∙ ap (λ (t : Bool). bytes_eq a.fingerprint.0 b.fingerprint.0 && (t && is_eq (slice_cmp nat_cmp a.version b.version))) (is_eq-slice_cmp a.os b.os)
    ∙ ap (λ (t : Bool). bytes_eq a.fingerprint.0 b.fingerprint.0 && (bytes_eq a.os b.os && t)) (is_eq-slice_cmp a.version b.version)

module _ (number : Key → Option ℕ) where
  -- a number is that of one of the keys
  pub number_of_key : (keys : List Key) (n : ℕ) → Contains (numbers_by number keys) n → (key : Key) × Contains keys key × (number key ≡ Some n)
  number_of_key [] n c = absurd (omega (arith, c.1))
  number_of_key (key ∷ keys) n c = ⊎_elim
      (λ (first : Contains (option_to_list (number key)) n). (key, here key keys, from_option (number key) first))
      (λ (later : Contains (numbers_by number keys) n). let found = number_of_key keys n later in (found.0, there key keys found.0 found.1, found.2))
      (Contains-append_cases (option_to_list (number key)) (numbers_by number keys) n c)
    where
      from_option : (o : Option ℕ) → Contains (option_to_list o) n → o ≡ Some n
      from_option None c = absurd (omega (arith, c.1))
      from_option (Some m) c = ⊎_elim (λ (same : n ≡ m). ap Some (sym same)) (λ (none : Contains [] n). absurd (omega (arith, none.1))) (contains_cases m [] n c)

  -- each key that has a number has it among them
  pub number_among : (keys : List Key) (key : Key) (n : ℕ) → Contains keys key → number key ≡ Some n → Contains (numbers_by number keys) n
  number_among [] key n c is = absurd (omega (arith, c.1))
  number_among (first ∷ keys) key n c is = ⊎_elim
      (λ (same : key ≡ first). Contains-append_left (option_to_list (number first)) (numbers_by number keys) n
      (subst (λ (o : Option ℕ). Contains (option_to_list o) n) (sym is ∙ ap number same) (here n [])))
      (λ (later : Contains keys key). Contains-append_right (option_to_list (number first)) (numbers_by number keys) n (number_among keys key n later is))
      (contains_cases first keys key c)

  numbers_more : (keys : List Key) (i : ℕ) (x : Key) → i < length keys → x ≡ get_or keys i x → numbers_by number (take (i + 1) keys) ≡ numbers_by number (take i keys) ++ option_to_list (number x)
  numbers_more keys i x in' is =
      ap (numbers_by number) (take_more keys i x in') ∙ flat_map-append (λ key. option_to_list (number key)) (take i keys) (get_or keys i x ∷ [])
      ∙ ap (λ (zs : List ℕ). numbers_by number (take i keys) ++ zs) (append-nil (option_to_list (number (get_or keys i x))) ∙ ap (λ (key : Key). option_to_list (number key)) (sym is))

  pub numbers_more_some : (keys : List Key) (i : ℕ) (x : Key) (n : ℕ) → i < length keys → x ≡ get_or keys i x → number x ≡ Some n → numbers_by number (take (i + 1) keys) ≡ numbers_by number (take i keys) ++ n ∷ []
  numbers_more_some keys i x n in' is some = numbers_more keys i x in' is ∙ ap (λ (o : Option ℕ). numbers_by number (take i keys) ++ option_to_list o) some

  pub numbers_more_none : (keys : List Key) (i : ℕ) (x : Key) → i < length keys → x ≡ get_or keys i x → number x ≡ None → numbers_by number (take (i + 1) keys) ≡ numbers_by number (take i keys)
  numbers_more_none keys i x in' is none = numbers_more keys i x in' is ∙ ap (λ (o : Option ℕ). numbers_by number (take i keys) ++ option_to_list o) none ∙ append-nil (numbers_by number (take i keys))

module _ (works : List KeyWork) (number : Key → Option ℕ) (is : IsNumbering works number) where
  -- keys with one number are one key
  pub same_number : (a b : Key) (n : ℕ) → number a ≡ Some n → number b ≡ Some n → a ≡ b
  same_number a b n at_a at_b =
      let d : KeyWork = record { name = []; key = a; deps = [] } in
      sym ((is.right a n at_a).has_key d) ∙ (is.right b n at_b).has_key d

  pub has_number : (work : KeyWork) → Contains works work → (n : ℕ) × (number work.key ≡ Some n)
  has_number work c = some_of (number work.key) (All-contains (λ w. IsSome (number w.key)) works work is.listed c)
    where
      some_of : (o : Option ℕ) → IsSome o → (n : ℕ) × (o ≡ Some n)
      some_of None h = cc
      some_of (Some n) h = (n, refl)

-- the table after one more work
module _ (m n : BTreeMap (Bor Key) ℕ) (place : ℕ) (key : Key)
    (updates : UpdatesBy (λ a b. key_cmp a.now b.now) (λ k. key_cmp key k.now) m n (Some place)) where
  place_after : (other : Key) → place_in n other ≡ cond (is_eq (key_cmp key other)) (Some place) (place_in m other)
  place_after other = updates.0 (record { ref_ptr = (0, 0); now = other })

  pub some_here : IsSome (place_in n key)
  some_here =
      let same : is_eq (key_cmp key key) ≡ true = is_eq-key_cmp key key ∙ (same_key_decides key key).1 refl in
      subst (λ (o : Option ℕ). IsSome o) (sym (place_after key ∙ ap (λ (b : Bool). cond b (Some place) (place_in m key)) same)) refl

  pub some_after : (other : Key) → IsSome (place_in m other) → IsSome (place_in n other)
  some_after other some = subst (λ (o : Option ℕ). IsSome o) (sym (place_after other)) (either (is_eq (key_cmp key other)))
    where
      either : (b : Bool) → IsSome (cond b (Some place) (place_in m other))
      either true = refl
      either false = some

  pub place_cases : (other : Key) (k : ℕ) → place_in n other ≡ Some k → ((key ≡ other) × (place ≡ k)) ⊎ (place_in m other ≡ Some k)
  place_cases other k at = either (is_eq (key_cmp key other)) refl (sym (place_after other) ∙ at)
    where
      either : (b : Bool) → is_eq (key_cmp key other) ≡ b → cond b (Some place) (place_in m other) ≡ Some k → ((key ≡ other) × (place ≡ k)) ⊎ (place_in m other ≡ Some k)
      either true is e = inl ((same_key_decides key other).0 (sym (is_eq-key_cmp key other) ∙ is), cc)
      either false is e = inr e

  module _ (works : List KeyWork) (in' : place < length works) (at : HoldsAt (λ work. work.key ≡ key) works place) where
    pub listed_more : ((k : ℕ) (d : KeyWork) → k < place → IsSome (place_in m (get_or works k d).key)) → (k : ℕ) (d : KeyWork) → k < place + 1 → IsSome (place_in n (get_or works k d).key)
    listed_more listed k d low = ⊎_elim
        (λ (less : k < place). some_after (get_or works k d).key (listed k d less))
        (λ (more : place ≤ k).
        let same : place ≡ k = omega arith in
        let key_here : key ≡ (get_or works k d).key = subst (λ (j : ℕ). key ≡ (get_or works j d).key) same (sym (at d)) in
        subst (λ (other : Key). IsSome (place_in n other)) key_here some_here)
        (cases_lt k place)

    pub right_more : ((other : Key) (k : ℕ) → place_in m other ≡ Some k → StandsAt works other k) → (other : Key) (k : ℕ) → place_in n other ≡ Some k → StandsAt works other k
    right_more right other k found = ⊎_elim
        (λ (added : (key ≡ other) × (place ≡ k)).
        subst (λ (j : ℕ). StandsAt works other j) added.1 (record { in_range = in'; has_key = λ d. at d ∙ added.0 }))
        (λ (before : place_in m other ≡ Some k). right other k before)
        (place_cases other k found)

-- the table of keys after one more
pub keys_more :
    (m n : BTreeMap (Bor Key) (Unit {0})) (key : Key) (keys : List Key)
    → UpdatesBy (λ a b. key_cmp a.now b.now) (λ k. key_cmp key k.now) m n (Some tt) → AreKeys keys m → AreKeys (keys ++ key ∷ []) n
keys_more m n key keys updates are other =
    ap is_some (updates.0 (record { ref_ptr = (0, 0); now = other }))
    ∙ (either (is_eq (key_cmp key other)) (get_by (λ k. key_cmp other k.now) m)
    ∙ (ap (λ (b : Bool). b || has_key m other) (is_eq-key_cmp key other)
    ∙ (ap (λ (b : Bool). same_key key other || b) (are other)
    ∙ (swapped (same_key key other) (is_among other keys)
    ∙ sym (list_any-append (λ each. same_key each other) keys (key ∷ []))))))
  where
    either : (b : Bool) (found : Option (Unit {0})) → is_some (cond b (Some tt) found) ≡ (b || is_some found)
    either true found = refl
    either false found = refl

    swapped : (a b : Bool) → (a || b) ≡ (b || (a || false))
    swapped true true = refl
    swapped true false = refl
    swapped false true = refl
    swapped false false = refl
