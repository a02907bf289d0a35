-- A lock that begins, and one that ends.
use Rattle.std.proofs.Common.{◌≡◌, ℕ, zero, suc, ◌^◌, false, List, [], ◌∷◌, length, Option, Some, sym, refl, ap, ◌∙◌, subst, inl}
use Rattle.std.specs.Option.{unwrap_or}
use mathlib.Core.Option.{some, some-injective, some-ne-none}
use lib.ListN.{get_elem?}
use Rattle.atomic_table.specs.Table.{opening, Final, Seen}
use Rattle.bosh_lock.specs.Extends.{Extends}
use Rattle.bosh_lock.specs.Grows.{Grows, Knows, first_view}
use Rattle.bosh_lock.specs.declared.rule.View.{View}
use Rattle.bosh_lock.proofs.Extending.{Extends_refl}
use Rattle.bosh_lock.proofs.Knowing.{closes_home}

module _ {S I : Type 0} (items_of : S → List I) where
  first_alone : (fact : View I → Type 0) (v : View I) → fact v → (j : ℕ) (u : View I) → get_elem? (v ∷ []) j ≡ some u → fact u
  first_alone fact v here zero u e = subst fact (some-injective v u e) here
  first_alone fact v here (suc j) u e = absurd (some-ne-none u (sym e))

  -- the slot is at home with the value, and the first view has seen its list
  pub begins : (value : S) (n : ℕ) → n ≡ length (items_of value)
      → Grows items_of (opening (0 ∷ n ∷ 0 ∷ []) (Some value ∷ []) (first_view (items_of value)))
  begins value n long =
      let first : View I = first_view (items_of value) in record {
        items = items_of value;
        wide = refl;
        counted = long;
        whole = refl;
        known = first_alone (Knows (items_of value)) first (Extends_refl (items_of value), (items_of value, refl));
        placed = inl record {
          value = value;
          lists = refl;
          free = refl;
          home = refl;
          unheld = first_alone (λ v. v.holds ≡ false) first refl;
        };
      }

  -- the slot that is left has a value whose list extends what was seen by who had all
  pub ends : (id : ℕ) (v : View I) (words : List ℕ) (slots : List (Option S)) (slot : Option S) → v.share ≡ 2 ^ 32 → v.holds ≡ false
      → Final (Seen (Grows items_of) id v) words slots → get_elem? slots 0 ≡ some slot
      → (value : S) × (slot ≡ Some value) × Extends v.seen (items_of value)
  ends id v words slots slot all idle final is =
      let found = closes_home items_of id v final.0 all idle final.1.0 final.1.1 in
      let there = final.4 0 (Some found.0) (ap (λ hs. get_elem? hs 0) found.1) in
      (found.0, some-injective slot (Some found.0) (sym is ∙ there), found.2)

  -- and no other value
  pub ends_with : (id : ℕ) (v : View I) (words : List ℕ) (slots : List (Option S)) (slot : Option S) (value : S) → v.share ≡ 2 ^ 32 → v.holds ≡ false
      → Final (Seen (Grows items_of) id v) words slots → get_elem? slots 0 ≡ some slot → slot ≡ Some value → Extends v.seen (items_of value)
  ends_with id v words slots slot value all idle final is value_is =
      let end = ends id v words slots slot all idle final is in
      subst (λ (x : S). Extends v.seen (items_of x)) (ap (λ (o : Option S). unwrap_or o value) (sym end.1 ∙ value_is)) end.2
