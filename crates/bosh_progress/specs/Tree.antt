-- Marks that stand in a tree, in order.
use Rattle.std.specs.Prelude.{◌≡◌, ℕ, ◌+◌, Bool, ◌&&◌, ◌==◌, List, [], ◌∷◌, ◌++◌, length, count_by, suc, true}
use Rattle.std.specs.Prelude.{false, Option, Some, None}
use Rattle.std.specs.Option.{option_map}
use Rattle.bosh_progress.specs.declared.tree.Tree.{Tree}
use Rattle.bosh_progress.specs.declared.tree.Tree.TheVariants.{Empty, Leaf, Fork'}

-- the marks by place (a definition by cases has each `Box` in two parts, and the tree is the second)
abbrev pub marks : Tree → List Bool
marks Empty = []
marks (Leaf mark) = mark ∷ []
marks (Fork' len marked p first q second) = marks first ++ marks second

-- how many are marked
abbrev pub marked_in : List Bool → ℕ
marked_in items = count_by (λ mark. mark) items

-- each fork has the number of its places, and of those that are marked
abbrev pub is_well : Tree → Bool
is_well Empty = true
is_well (Leaf mark) = true
is_well (Fork' len marked p first q second) =
    (len == length (marks first) + length (marks second)
    && marked == marked_in (marks first) + marked_in (marks second))
    && (is_well first && is_well second)

abbrev pub IsWell : Tree → Type 0
IsWell tree = is_well tree ≡ true

-- the first place that is marked
abbrev pub first_marked : List Bool → Option ℕ
first_marked [] = None
first_marked (true ∷ items) = Some 0
first_marked (false ∷ items) = option_map suc (first_marked items)
