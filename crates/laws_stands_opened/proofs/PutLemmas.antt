-- A thing that comes to its place behind all others of a table.
use Rattle.std.proofs.Common.{◌≡◌, ◌∙◌, Bool, true, false, List, [], ◌∷◌, ◌++◌, Option, Some, None, ap, refl}
use Rattle.std.proofs.Common.{subst, sym}
use Rattle.std.specs.Prelude.{cond, is_some}
use Rattle.std.specs.BTreeMap.{is_at}
use Rattle.std.specs.List.{AllByRecursion}
use Rattle.std.specs.List.Sorted.{IsStrictlySortedBy}
use Rattle.std.specs.Map.{keys_of, lookup, set_value}
use Rattle.std.specs.Option.{option_map_or}
use Rattle.std.specs.declared.cmp.Ordering.{Ordering}
use Rattle.std.specs.declared.cmp.Ordering.TheVariants.{Less}
use Rattle.std.proofs.lemmas.Bool.{true≢false}
use Rattle.bosh_records.specs.Ordered.{AreInOrder}
use Rattle.bosh_records.specs.Table.{found, put_at, things}
use Rattle.laws_stands_on.proofs.TableLemmas.{TellsKeys}

-- there is a place, and it is not free
abbrev is_filled : {V : Type 0} → Option (Option V) → Bool
is_filled (Some (Some v)) = true
is_filled o = false

module _ {K V : Type 0} (cmp : K → K → Ordering) (tells : TellsKeys cmp)
    (never : (a b : K) → cmp a b ≡ Less → cmp b a ≡ Less → ⊥) (key : K) (v : V) where
  -- each place that is not free stands below the key
  abbrev pub IsLast : List (K × Option V) → Type 0
  IsLast es = AllByRecursion (λ e. is_some e.1 ≡ true → cmp e.0 key ≡ Less) es

  -- all places are free of a table whose keys stand above it
  none_above : (es : List (K × Option V)) → AllByRecursion (λ y. cmp key y ≡ Less) (keys_of es) → IsLast es
      → things es ≡ []
  none_above [] above last = refl
  none_above ((at, None) ∷ es) (first, rest) (one, last) = none_above es rest last
  none_above ((at, Some x) ∷ es) (first, rest) (one, last) = absurd (never key at first (one refl))

  skipped : (e : K × Option V) (es : List (K × Option V)) → is_at (cmp key) e.0 ≡ false
      → put_at cmp key v (e ∷ es) ≡ e ∷ put_at cmp key v es
  skipped e es away =
      (λ i. option_map_or (λ it. cond (away i) ((e.0, Some v) ∷ es) (e ∷ set_value (is_at (cmp key)) es (Some v)))
      (cond (away i) (Some e.1) (lookup (is_at (cmp key)) es)) (e ∷ es))
      ∙ by (lookup (is_at (cmp key)) es)
    where
      by : (o : Option (Option V)) → option_map_or (λ it. e ∷ set_value (is_at (cmp key)) es (Some v)) o (e ∷ es)
          ≡ e ∷ option_map_or (λ it. set_value (is_at (cmp key)) es (Some v)) o es
      by (Some it) = refl
      by None = refl

  here : (e : K × Option V) (es : List (K × Option V)) → is_at (cmp key) e.0 ≡ true
      → put_at cmp key v (e ∷ es) ≡ (e.0, Some v) ∷ es
  here e es own = λ i. option_map_or
      (λ it. cond (own i) ((e.0, Some v) ∷ es) (e ∷ set_value (is_at (cmp key)) es (Some v)))
      (cond (own i) (Some e.1) (lookup (is_at (cmp key)) es)) (e ∷ es)

  pub put_last : (es : List (K × Option V)) → AreInOrder cmp es → IsLast es → found cmp es key ≡ Some None
      → things (put_at cmp key v es) ≡ things es ++ v ∷ []
  unfolding IsStrictlySortedBy
  put_last [] order last there = absurd (true≢false (sym (ap is_some there)))
  put_last ((at, None) ∷ es) (below, order) (one, last) there =
      by (is_at (cmp key) at) refl there (put_last es order last)
    where
      by : (b : Bool) → is_at (cmp key) at ≡ b → cond b (Some None) (found cmp es key) ≡ Some None
          → (found cmp es key ≡ Some None → things (put_at cmp key v es) ≡ things es ++ v ∷ [])
          → things (put_at cmp key v ((at, None) ∷ es)) ≡ things es ++ v ∷ []
      by true own there more =
          ap things (here (at, None) es own)
          ∙ ap (λ all. v ∷ all) none ∙ ap (λ all. all ++ v ∷ []) (sym none)
        where
          none : things es ≡ []
          none = none_above es (subst (λ k. AllByRecursion (λ y. cmp k y ≡ Less) (keys_of es))
              (sym (tells key at own)) below) last
      by false away there more = ap things (skipped (at, None) es away) ∙ more there
  put_last ((at, Some x) ∷ es) (below, order) (one, last) there =
      by (is_at (cmp key) at) refl there (put_last es order last)
    where
      by : (b : Bool) → is_at (cmp key) at ≡ b → cond b (Some (Some x)) (found cmp es key) ≡ Some None
          → (found cmp es key ≡ Some None → things (put_at cmp key v es) ≡ things es ++ v ∷ [])
          → things (put_at cmp key v ((at, Some x) ∷ es)) ≡ x ∷ (things es ++ v ∷ [])
      by true own there more = absurd (true≢false (ap is_filled there))
      by false away there more = ap things (skipped (at, Some x) es away) ∙ ap (λ all. x ∷ all) (more there)
