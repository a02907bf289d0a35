-- The least of several disks, and what becomes of each.
use Rattle.std.proofs.Common.{◌≡◌, ℕ, ◌+◌, ◌<◌, Bool, true, false, cond, Option, Some, None, List, [], ◌∷◌, ◌++◌, length, get_or, take, drop, map, fold, slice_set, refl, sym, ◌∙◌, arith}
use Rattle.std.specs.Prelude.{◌||◌, filter, find, is_some}
use Rattle.std.specs.List.{list_any, slice_get}
use Rattle.std.proofs.lemmas.Grind.{fold-append}
use Rattle.std.proofs.lemmas.List.{set-set}
use Rattle.std.proofs.lemmas.List.Edits.{map_over_more}
use Rattle.std.proofs.lemmas.List.Elements.{filter_more}
use Rattle.std.proofs.lemmas.Option.{get_or_from_slice_get}
use Rattle.bosh_base.specs.declared.row.DiskRow.{DiskRow}
use Rattle.bosh_rows.specs.Disks.{is_active, lesser}

-- the least of those that meet the test among the first disks
abbrev pub least_to : (DiskRow → Bool) → List DiskRow → ℕ → Option DiskRow
least_to p disks i = fold lesser None (filter p (take i disks))

-- .. and among one more
pub least_more : (p : DiskRow → Bool) (disks : List DiskRow) (i : ℕ) (d : DiskRow) → i < length disks
    → d ≡ get_or disks i d → least_to p disks (i + 1) ≡ cond (p d) (lesser (least_to p disks i) d) (least_to p disks i)
least_more p disks i d below is = by_test (p d) refl
  where
    by_test : (b : Bool) → p d ≡ b
        → least_to p disks (i + 1) ≡ cond b (lesser (least_to p disks i) d) (least_to p disks i)
    by_test true meets = grind (arith, filter_more p disks i d below, fold-append {A = DiskRow} {B = Option DiskRow})
    by_test false meets = grind (arith, filter_more p disks i d below, fold-append {A = DiskRow} {B = Option DiskRow})

-- one of two tests is met, where the one is or the other
pub list_any-or : (p q : DiskRow → Bool) (disks : List DiskRow)
    → list_any (λ d. p d || q d) disks ≡ (list_any p disks || list_any q disks)
list_any-or p q [] = refl
list_any-or p q (d ∷ disks) =
    let others : list_any (λ it. p it || q it) disks ≡ (list_any p disks || list_any q disks) = list_any-or p q disks in
    rw others (either (p d) (q d) (list_any p disks) (list_any q disks))
  where
    either : (a b c e : Bool) → ((a || b) || (c || e)) ≡ ((a || c) || (b || e))
    either true b c e = refl
    either false true true e = refl
    either false true false e = refl
    either false false c e = refl

-- one more disk of a list is taken out, changed and put back
pub changed_more : (f : DiskRow → DiskRow) (xs ys : List DiskRow) (i : ℕ) (blank d : DiskRow) → i < length xs
    → ys ≡ map f (take i xs) ++ drop i xs → slice_get ys i ≡ Some d
    → slice_set (slice_set ys i blank) i (f d) ≡ map f (take (i + 1) xs) ++ drop (i + 1) xs
changed_more f xs ys i blank d below so_far taken =
    set-set ys i blank (f d) ∙ map_over_more f xs ys i d below so_far (sym (get_or_from_slice_get ys i d d taken))

-- there is an active disk where some disk is active
pub has_active : (disks : List DiskRow) → list_any is_active disks ≡ is_some (find is_active disks)
has_active [] = refl
has_active (d ∷ disks) = by_role (is_active d) (has_active disks)
  where
    by_role : (b : Bool) → list_any is_active disks ≡ is_some (find is_active disks)
        → (b || list_any is_active disks) ≡ is_some (cond b (Some d) (find is_active disks))
    by_role true others = refl
    by_role false others = others
