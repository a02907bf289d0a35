-- Files that do not end with those that a block keeps are no files of its folder, and no shelf lists a file twice.
use Rattle.std.proofs.Common.{◌≡◌, List, [], ◌∷◌, ◌++◌, arith, subst}
use Rattle.std.specs.List.Sorted.{IsStrictlySortedBy}
use Rattle.std.specs.Prelude.{ℕ, codes, map}
use Rattle.std.specs.declared.cmp.Ordering.TheVariants.{Less}
use Rattle.bosh_due.specs.Files.{path_in}
use Rattle.bosh_ports.specs.Shelf.{byte_order}
use Rattle.bosh_release_files.specs.declared.folder.File.{File}
use Rattle.examples_replies.specs.Shelves.{folder_file}

pub ends_with : (one kept : File) → ¬ (one ≡ kept) → (shelved : List File) → one ∷ [] ≡ shelved ++ kept ∷ [] → ⊥
ends_with one kept differ [] is = grind (arith, is, differ)
ends_with one kept differ (it ∷ []) is = grind (arith, is)
ends_with one kept differ (it ∷ (other ∷ more)) is = grind (arith, is)

-- ---- in order

pub none_ordered : IsStrictlySortedBy byte_order []
unfolding IsStrictlySortedBy
none_ordered = tt

pub one_ordered : (path : List ℕ) → IsStrictlySortedBy byte_order (path ∷ [])
unfolding IsStrictlySortedBy
one_ordered path = (tt, tt)

below : (path other : List ℕ) (more : List (List ℕ)) → IsStrictlySortedBy byte_order (path ∷ (other ∷ more)) →
    byte_order path other ≡ Less
unfolding IsStrictlySortedBy
below path other more ordered = ordered.0.0

-- the file b of the folder d, which the shelf has
abbrev pub shelf_file : File
shelf_file = folder_file (codes "b") (codes "2")

-- .. is not listed twice
pub not_twice : (kept : File) (shelved : List File) → shelf_file ∷ shelf_file ∷ kept ∷ [] ≡ shelved ++ kept ∷ [] →
    IsStrictlySortedBy byte_order (map (path_in (codes "d")) shelved) → ⊥
not_twice kept [] is ordered = grind (arith, is)
not_twice kept (it ∷ []) is ordered = grind (arith, is)
not_twice kept (it ∷ (other ∷ more)) is ordered =
    let first : it ≡ shelf_file = grind (arith, is) in
    let second : other ≡ shelf_file = grind (arith, is) in
    let one : byte_order (path_in (codes "d") shelf_file) (path_in (codes "d") other) ≡ Less =
    subst (λ f. byte_order (path_in (codes "d") f) (path_in (codes "d") other) ≡ Less) first (below _ _ _ ordered)
    in
    let both : byte_order (path_in (codes "d") shelf_file) (path_in (codes "d") shelf_file) ≡ Less =
    subst (λ f. byte_order (path_in (codes "d") shelf_file) (path_in (codes "d") f) ≡ Less) second one
    in grind (arith, both)
