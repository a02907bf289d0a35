-- What a table says of its keys, in their order, where the same is told of a list of keys in order.
use Rattle.std.proofs.Common.{◌≡◌, ◌∙◌, Bool, true, false, List, [], ◌∷◌, ◌++◌, Option, Some, None, ap, filter, map, refl}
use Rattle.std.proofs.Common.{inl, inr, sym}
use Rattle.std.specs.Prelude.{cond, is_some, if◌then◌else◌}
use Rattle.std.specs.BTreeMap.{is_at}
use Rattle.std.specs.Cmp.{IsTotalOrder}
use Rattle.std.specs.List.{cons_option, filter_map, flat_map}
use Rattle.std.specs.Option.{option_and_then, option_map, option_map_or}
use Rattle.std.specs.Ordering.{is_eq}
use Rattle.std.specs.declared.cmp.Ordering.{Ordering}
use Rattle.std.specs.declared.cmp.Ordering.TheVariants.{Equal}
use Rattle.std.proofs.lemmas.Bool.{true≢false}
use Rattle.bosh_history.specs.Words.{is_among}
use Rattle.bosh_records.specs.Ordered.{AreInOrder}
use Rattle.bosh_records.specs.Table.{found}
use Rattle.laws_facts.proofs.ListLemmas.{Tells}
use Rattle.laws_row_facts.specs.Words.{are_ascending}
use Rattle.laws_stands.specs.Once.{IsOnce}
use Rattle.laws_stands_on.proofs.TableLemmas.{TellsKeys}
use Rattle.laws_stands_works.proofs.InOrderLemmas.{among_kept, kept_in_order, same_in_order}

-- ---- pairs of a key and what is said of it

-- those of which something is said
abbrev pub pairs : {Z K Y : Type 0} → (Z → K) → (Z → Option Y) → List Z → List (K × Y)
pairs key val zs = filter_map (λ z. option_map (λ y. (key z, y)) (val z)) zs

-- what is made of each pair
pub filter_map_pairs : {Z K Y B : Type 0} (key : Z → K) (val : Z → Option Y) (g : K → Y → Option B) (zs : List Z)
    → filter_map (λ p. g p.0 p.1) (pairs key val zs) ≡ filter_map (λ z. option_and_then (g (key z)) (val z)) zs
filter_map_pairs key val g [] = refl
filter_map_pairs {Y = Y} {B = B} key val g (z ∷ zs) = by (val z) (filter_map_pairs key val g zs)
  where
    by : (o : Option Y)
        → filter_map (λ p. g p.0 p.1) (pairs key val zs) ≡ filter_map (λ z. option_and_then (g (key z)) (val z)) zs
        → filter_map (λ p. g p.0 p.1) (cons_option (option_map (λ y. (key z, y)) o) (pairs key val zs))
        ≡ cons_option (option_and_then (g (key z)) o) (filter_map (λ z. option_and_then (g (key z)) (val z)) zs)
    by (Some y) more = ap (cons_option (g (key z) y)) more
    by None more = more

-- what is made of each, one after another
pub flat_map_pairs : {Z K Y B : Type 0} (key : Z → K) (val : Z → Option Y) (h : K → Y → List B) (zs : List Z)
    → flat_map (λ p. h p.0 p.1) (pairs key val zs) ≡ flat_map (λ z. option_map_or (h (key z)) (val z) []) zs
flat_map_pairs key val h [] = refl
flat_map_pairs {Y = Y} {B = B} key val h (z ∷ zs) = by (val z) (flat_map_pairs key val h zs)
  where
    by : (o : Option Y)
        → flat_map (λ p. h p.0 p.1) (pairs key val zs) ≡ flat_map (λ z. option_map_or (h (key z)) (val z) []) zs
        → flat_map (λ p. h p.0 p.1) (cons_option (option_map (λ y. (key z, y)) o) (pairs key val zs))
        ≡ option_map_or (h (key z)) o [] ++ flat_map (λ z. option_map_or (h (key z)) (val z) []) zs
    by (Some y) more = ap (λ ys. h (key z) y ++ ys) more
    by None more = more

-- ---- a table

module _ {K X Y : Type 0} (cmp : K → K → Ordering) (total : IsTotalOrder cmp) (keys : TellsKeys cmp)
    (same : K → K → Bool) (own : (a : K) → same a a ≡ true) (at : (a b : K) → is_at (cmp a) b ≡ same a b)
    (read : X → Option Y) where
  equal : (a b : K) → cmp a b ≡ Equal → a ≡ b
  equal a b one = keys a b (ap is_eq one)

  is : (a b : K) → same a b ≡ true → a ≡ b
  is a b one = keys a b (at a b ∙ one)

  tells : (a b : K) → Tells same a b
  tells a b = by (same a b) refl
    where
      by : (c : Bool) → same a b ≡ c → Tells same a b
      by true one = inl (one, is a b one)
      by false other = inr (other, λ one. true≢false (sym (own a) ∙ ap (same a) one ∙ other))

  -- what is said of a key
  abbrev said_at : List (K × X) → K → Option Y
  said_at es k = option_and_then read (found cmp es k)

  -- the keys of which something is said
  abbrev pub said_keys : List (K × X) → List K
  said_keys es = map (λ e. e.0) (filter (λ e. is_some (read e.1)) es)

  -- .. are those that are told
  pub keys_are : (es : List (K × X)) → AreInOrder cmp es → IsOnce cmp es → (ks : List K)
      → are_ascending cmp ks ≡ true → ((k : K) → is_some (said_at es k) ≡ is_among same k ks) → said_keys es ≡ ks
  keys_are es order once ks up members =
      same_in_order cmp total same tells equal is own (said_keys es) ks
      (kept_in_order cmp keys same at (λ e. is_some (read e.1)) es order) up
      (λ k. among_kept cmp keys same at (λ e. is_some (read e.1)) es once k ∙ of (found cmp es k) ∙ members k)
    where
      of : (o : Option X) → option_map_or (λ x. is_some (read x)) o false ≡ is_some (option_and_then read o)
      of (Some x) = refl
      of None = refl

  -- each says what is told of its key
  told_pairs : (say : K → Option Y) (es : List (K × X)) → IsOnce cmp es
      → ((k : K) (y : Y) → said_at es k ≡ Some y → say k ≡ Some y)
      → pairs (λ e. e.0) (λ e. read e.1) es ≡ pairs (λ k. k) say (said_keys es)
  told_pairs say [] once told = refl
  told_pairs say (e ∷ es) (none, once) told = by (read e.1) refl (told_pairs say es once rest)
    where
      rest : (k : K) (y : Y) → said_at es k ≡ Some y → say k ≡ Some y
      rest k y there = of (is_at (cmp k) e.0) refl
        where
          of : (b : Bool) → is_at (cmp k) e.0 ≡ b → say k ≡ Some y
          of true here =
              absurd (let gone : None ≡ Some y = sym (ap (option_and_then read) (ap (found cmp es) (keys k e.0 here) ∙ none))
              ∙ there in cc)
          of false away = told k y ((λ i. option_and_then read (cond (away i) (Some e.1) (found cmp es k))) ∙ there)

      own_at : is_at (cmp e.0) e.0 ≡ true
      own_at = at e.0 e.0 ∙ own e.0

      by : (o : Option Y) → read e.1 ≡ o
          → pairs (λ e. e.0) (λ e. read e.1) es ≡ pairs (λ k. k) say (said_keys es)
          → cons_option (option_map (λ y. (e.0, y)) (read e.1)) (pairs (λ e. e.0) (λ e. read e.1) es)
          ≡ pairs (λ k. k) say (map (λ (e : K × X). e.0)
          (if is_some (read e.1) then e ∷ filter (λ e. is_some (read e.1)) es else filter (λ e. is_some (read e.1)) es))
      by (Some y) here more =
          (λ i. cons_option (option_map (λ y. (e.0, y)) (here i)) (pairs (λ e. e.0) (λ e. read e.1) es))
          ∙ ap (λ ps. (e.0, y) ∷ ps) more
          ∙ (λ i. cons_option (option_map (λ y. (e.0, y)) (sym (told e.0 y
          ((λ j. option_and_then read (cond (own_at j) (Some e.1) (found cmp es e.0))) ∙ here)) i))
          (pairs (λ k. k) say (said_keys es)))
          ∙ (λ i. pairs (λ k. k) say (map (λ (e : K × X). e.0)
          (if is_some (sym here i) then e ∷ filter (λ e. is_some (read e.1)) es else filter (λ e. is_some (read e.1)) es)))
      by None here more =
          (λ i. cons_option (option_map (λ y. (e.0, y)) (here i)) (pairs (λ e. e.0) (λ e. read e.1) es))
          ∙ more
          ∙ (λ i. pairs (λ k. k) say (map (λ (e : K × X). e.0)
          (if is_some (sym here i) then e ∷ filter (λ e. is_some (read e.1)) es else filter (λ e. is_some (read e.1)) es)))

  -- the table says of its keys, in order, what is told of the list
  pub pairs_are : (say : K → Option Y) (es : List (K × X)) → AreInOrder cmp es → IsOnce cmp es → (ks : List K)
      → are_ascending cmp ks ≡ true → ((k : K) → is_some (said_at es k) ≡ is_among same k ks)
      → ((k : K) (y : Y) → said_at es k ≡ Some y → say k ≡ Some y)
      → pairs (λ e. e.0) (λ e. read e.1) es ≡ pairs (λ k. k) say ks
  pairs_are say es order once ks up members told =
      told_pairs say es once told ∙ ap (pairs (λ k. k) say) (keys_are es order once ks up members)
