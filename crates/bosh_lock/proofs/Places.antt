-- What all know and where the slot is, after one view has changed.
use Rattle.std.proofs.Common.{◌≡◌, ◌≢◌, ℕ, zero, suc, Bool, true, false, List, [], ◌∷◌, ◌++◌, set, sym, refl, ◌∙◌, subst, ⊎_elim, T}
use mathlib.Core.Option.{some, some-ne-none}
use lib.ListN.{get_elem?}
use Rattle.atomic_table.proofs.Lists.{at_set, at_snoc}
use Rattle.bosh_lock.specs.Extends.{Extends}
use Rattle.bosh_lock.specs.Grows.{Knows}
use Rattle.bosh_lock.specs.declared.rule.View.{View}
use Rattle.bosh_lock.proofs.Extending.{Extends_trans}

pub not_both : (b : Bool) → b ≡ true → b ≡ false → ⊥
not_both b is not_so = subst T (sym is ∙ not_so) tt

module _ {I : Type 0} where
  -- a fact of each view
  abbrev pub Each : (ℕ → View I → Type 0) → List (View I) → Type 0
  Each fact views = (j : ℕ) (v : View I) → get_elem? views j ≡ some v → fact j v

  pub each_set : (fact : ℕ → View I → Type 0) (views : List (View I)) (id : ℕ) (w : View I) → fact id w
      → ((j : ℕ) (v : View I) → j ≢ id → get_elem? views j ≡ some v → fact j v) → Each fact (set views id w)
  each_set fact views id w here others j v e = ⊎_elim
      (λ same. subst (λ (z : ℕ × View I). fact z.0 z.1) (λ i. (sym same.0 i, same.1 i)) here)
      (λ other. others j v other.0 other.1) (at_set views id j w v e)

  pub each_last : (fact : View I → Type 0) (views : List (View I)) (w : View I) → fact w
      → Each (λ _ v. fact v) views → Each (λ _ v. fact v) (views ++ w ∷ [])
  each_last fact views w here others j v e = ⊎_elim (others j v) (λ same. subst fact same here) (at_snoc views w v j e)

  pub seated_set : (views : List (View I)) (id : ℕ) (v w : View I) → get_elem? views id ≡ some v → get_elem? (set views id w) id ≡ some w
  seated_set [] id v w e = absurd (some-ne-none v (sym e))
  seated_set (x ∷ xs) zero v w e = refl
  seated_set (x ∷ xs) (suc id) v w e = seated_set xs id v w e

  -- what was known is known of a longer list
  pub knows_more : (items more : List I) → Extends items more → (v : View I) → Knows items v → Knows more v
  knows_more items more longer v k = (Extends_trans v.seen items more k.0 longer, Extends_trans v.joined items more k.1 longer)
