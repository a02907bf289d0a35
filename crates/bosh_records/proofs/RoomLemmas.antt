-- Room for a key says nothing.
use Rattle.std.proofs.Common.{◌≡◌, ◌∙◌, Bool, true, false, cond, List, [], ◌∷◌, Option, Some, None, refl, sym, ap, subst, arith}
use Rattle.std.specs.Prelude.{is_some, OnErr, OnOk, Result, Ok, Err, if◌then◌else◌}
use Rattle.std.specs.BTreeMap.{insert_entry, is_at}
use Rattle.std.specs.List.{filter}
use Rattle.std.specs.Map.{lookup}
use Rattle.std.specs.Ordering.{is_eq, match_ordering}
use Rattle.std.specs.declared.cmp.Ordering.{Ordering}
use Rattle.std.specs.declared.cmp.Ordering.TheVariants.{Equal, Greater, Less}
use Rattle.bosh_records.specs.Table.{with_room}

module _ {K X : Type 0} (cmp : K → K → Ordering) (key : K) (first : X) (test : K × X → Bool) (silent : test (key, first) ≡ false) where
  inserted : (entries : List (K × X)) → is_some (lookup (is_at (cmp key)) entries) ≡ false
      → filter test (insert_entry cmp entries key first) ≡ filter test entries
  inserted [] absent = λ i. cond (silent i) ((key, first) ∷ []) []
  inserted (e ∷ entries) absent = by (cmp key e.0) refl (inserted entries)
    where
      told : (o : Ordering) → cmp key e.0 ≡ o → is_some (cond (is_eq o) (Some e.1) (lookup (is_at (cmp key)) entries)) ≡ false
      told o is = subst (λ p. is_some (cond (is_eq p) (Some e.1) (lookup (is_at (cmp key)) entries)) ≡ false) is absent

      placed : Ordering → List (K × X)
      placed o = match_ordering o ((key, first) ∷ e ∷ entries) ((e.0, first) ∷ entries) (e ∷ insert_entry cmp entries key first)

      by : (o : Ordering) → cmp key e.0 ≡ o
          → (is_some (lookup (is_at (cmp key)) entries) ≡ false
          → filter test (insert_entry cmp entries key first) ≡ filter test entries)
          → filter test (insert_entry cmp (e ∷ entries) key first) ≡ filter test (e ∷ entries)
      by Less is later = (λ i. filter test (placed (is i))) ∙ (λ i. cond (silent i) ((key, first) ∷ filter test (e ∷ entries)) (filter test (e ∷ entries)))
      by Equal is later = absurd (grind (arith, told Equal is))
      by Greater is later = (λ i. filter test (placed (is i))) ∙ (λ i. cond (test e) (e ∷ later (told Greater is) i) (later (told Greater is) i))

  pub room_is_silent : (entries : List (K × X)) → filter test (with_room cmp key first entries) ≡ filter test entries
  room_is_silent entries = by (is_some (lookup (is_at (cmp key)) entries)) refl
    where
      by : (b : Bool) → is_some (lookup (is_at (cmp key)) entries) ≡ b → filter test (with_room cmp key first entries) ≡ filter test entries
      by true is = λ i. filter test (if is i then entries else insert_entry cmp entries key first)
      by false is = (λ i. filter test (if is i then entries else insert_entry cmp entries key first)) ∙ inserted entries is

  -- whether or not there was memory for it
  pub room_made : {A B : Type 0} (result : Result A B) (entries new : List (K × X))
      → OnOk result (new ≡ with_room cmp key first entries) → OnErr result (new ≡ entries)
      → filter test new ≡ filter test entries
  room_made (Ok done) entries new made same = ap (filter test) made ∙ room_is_silent entries
  room_made (Err fault) entries new made same = ap (filter test) same
