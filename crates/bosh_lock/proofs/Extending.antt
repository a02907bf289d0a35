-- Beginnings of lists.
use Rattle.std.proofs.Common.{◌≡◌, ◌≤◌, List, [], ◌∷◌, ◌++◌, length, drop, sym, refl, ap, ◌∙◌, append_assoc, append-nil, length-append, arith}
use mathlib.Core.Option.{some-injective}
use lib.ListN.{get_elem?}
use Rattle.bosh_lock.specs.Extends.{Extends}

module _ {X : Type 0} where
  pub Extends_refl : (xs : List X) → Extends xs xs
  Extends_refl xs = ([], sym (append-nil xs))

  pub Extends_same : (xs ys : List X) → xs ≡ ys → Extends xs ys
  Extends_same xs ys e = ([], sym e ∙ sym (append-nil xs))

  pub Extends_trans : (xs ys zs : List X) → Extends xs ys → Extends ys zs → Extends xs zs
  Extends_trans xs ys zs a b = (a.0 ++ b.0, b.1 ∙ ap (λ front. front ++ b.0) a.1 ∙ append_assoc xs a.0 b.0)

  pub Extends_length : (xs ys : List X) → Extends xs ys → length xs ≤ length ys
  Extends_length xs ys e = let same = ap length e.1 in omega (arith, same, length-append xs e.0)

  -- of two beginnings of one list the shorter begins the longer
  pub Extends_beside : (xs ys zs : List X) → Extends xs zs → Extends ys zs → length xs ≤ length ys → Extends xs ys
  Extends_beside [] ys zs a b le = (ys, refl)
  Extends_beside (x ∷ xs) [] zs a b le = absurd (omega arith)
  Extends_beside (x ∷ xs) (y ∷ ys) [] a b le = let long = ap length a.1 in absurd (omega arith)
  Extends_beside (x ∷ xs) (y ∷ ys) (z ∷ zs) a b le =
      let rest = Extends_beside xs ys zs (a.0, ap (drop 1) a.1) (b.0, ap (drop 1) b.1) (omega arith) in
      let same : y ≡ x = sym (some-injective z y (ap (λ (l : List X). get_elem? l 0) b.1)) ∙ some-injective z x (ap (λ (l : List X). get_elem? l 0) a.1) in
      (rest.0, λ i. same i ∷ rest.1 i)

  -- a list that is no longer than its beginning is that
  pub Extends_whole : (xs ys : List X) → Extends xs ys → length ys ≤ length xs → ys ≡ xs
  Extends_whole xs ys (rest, e) le = whole rest e
    where
      whole : (rest : List X) → ys ≡ xs ++ rest → ys ≡ xs
      whole [] e = e ∙ append-nil xs
      whole (z ∷ zs) e = let long = ap length e in absurd (omega (arith, long, length-append xs (z ∷ zs)))
