-- What a node is, whatever memory holds it: a tree of lists and mappings. It may be of any depth, and a mapping may repeat a key (this project's profile of YAML 1.2, "Representation Graph").
use Rattle.std.specs.Prelude.{ℕ, ℤ, Bool, List, [], ◌∷◌}

mutual
  pub data Tree : Type 0 where
    null : Tree
    boolean : Bool → Tree
    integer : ℤ → Tree
    text : List ℕ → Tree
    list : Trees → Tree
    map : Fields → Tree

  pub data Trees : Type 0 where
    no_trees : Trees
    tree : Tree → Trees → Trees

  pub data Fields : Type 0 where
    no_fields : Fields
    field : List ℕ → Tree → Fields → Fields

-- the items of a list as the tree that holds them
abbrev pub trees_of : List Tree → Trees
trees_of [] = no_trees
trees_of (t ∷ ts) = tree t (trees_of ts)

-- the keys and values of a mapping as the tree that holds them
abbrev pub fields_of : List (List ℕ × Tree) → Fields
fields_of [] = no_fields
fields_of (p ∷ ps) = field p.0 p.1 (fields_of ps)
