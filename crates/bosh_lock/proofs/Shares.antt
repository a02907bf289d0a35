-- The shares of all views, added up.
use Rattle.std.proofs.Common.{◌≡◌, ◌≢◌, ℕ, zero, suc, ◌+◌, ◌≤◌, List, [], ◌∷◌, ◌++◌, set, sym, ap, ◌∙◌, arith}
use mathlib.Core.Option.{some, some-injective, some-ne-none}
use lib.ListN.{get_elem?}
use Rattle.atomic_table.proofs.Lists.{set_else}
use Rattle.bosh_lock.specs.Grows.{shares}
use Rattle.bosh_lock.specs.Steps.{spent_view}
use Rattle.bosh_lock.specs.declared.rule.View.{View}

module _ {I : Type 0} where
  pub shares_set : (l : List (View I)) (i : ℕ) (v w : View I) → get_elem? l i ≡ some v → shares (set l i w) + v.share ≡ shares l + w.share
  shares_set [] i v w e = absurd (some-ne-none v (sym e))
  shares_set (x ∷ xs) zero v w e = let is : x.share ≡ v.share = ap (λ (u : View I). u.share) (some-injective x v e) in omega arith
  shares_set (x ∷ xs) (suc i) v w e = let r = shares_set xs i v w e in omega arith

  pub shares_last : (l : List (View I)) (v : View I) → shares (l ++ v ∷ []) ≡ shares l + v.share
  shares_last [] v = omega arith
  shares_last (x ∷ xs) v = let r = shares_last xs v in omega arith

  pub share_within : (l : List (View I)) (i : ℕ) (v : View I) → get_elem? l i ≡ some v → v.share ≤ shares l
  share_within [] i v e = absurd (some-ne-none v (sym e))
  share_within (x ∷ xs) zero v e = let is : x.share ≡ v.share = ap (λ (u : View I). u.share) (some-injective x v e) in omega arith
  share_within (x ∷ xs) (suc i) v e = let r = share_within xs i v e in omega arith

  pub two_within : (l : List (View I)) (i j : ℕ) (v w : View I) → get_elem? l i ≡ some v → get_elem? l j ≡ some w → j ≢ i → v.share + w.share ≤ shares l
  two_within l i j v w at other apart =
      let without = shares_set l i v spent_view at in
      let there = share_within (set l i spent_view) j w (set_else l i j spent_view apart ∙ other) in
      omega arith
