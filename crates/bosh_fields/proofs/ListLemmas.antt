-- Values that are read one after the other.
use Rattle.std.proofs.Common.{◌≡◌, ℕ, suc, ◌+◌, ◌<◌, List, [], ◌∷◌, ◌++◌, Result, Ok, Err, length, get_or, drop, map, refl, sym, ap, append_assoc, add-one, drop-cons}
use Rattle.bosh_yaml.specs.Tree.{Tree, Trees, trees_of}
use Rattle.bosh_yaml.specs.View.{tree_of}
use Rattle.bosh_yaml.specs.declared.node.Node.{Node}
use Rattle.bosh_fields.specs.declared.fault.FieldFault.{FieldFault}
use Rattle.bosh_fields.specs.Answer.{◌>>=◌}
use Rattle.bosh_fields.specs.List.{each, count}

-- the trees of nodes
abbrev pub trees : List Node → Trees
trees nodes = trees_of (map tree_of nodes)

-- the values so far before those of the items that follow
abbrev pub after : {A : Type 0} → List A → Result (List A) FieldFault → Result (List A) FieldFault
after values others = others >>= λ more. Ok (values ++ more)

pub after-nil : {A : Type 0} (others : Result (List A) FieldFault) → after [] others ≡ others
after-nil (Ok more) = refl
after-nil (Err fault) = refl

-- one more value
pub after-more : {A : Type 0} (values : List A) (value : A) (others : Result (List A) FieldFault) → after values (others >>= λ more. Ok (value ∷ more)) ≡ after (values ++ value ∷ []) others
after-more values value (Ok more) = ap Ok (sym (append_assoc values (value ∷ []) more))
after-more values value (Err fault) = refl

-- what the nodes from one on are read as
pub each-next : {A : Type 0} (read : Tree → Result A FieldFault) (nodes : List Node) (i : ℕ) (node : Node) → i < length nodes → node ≡ get_or nodes i node
    → each read (trees (drop i nodes)) ≡ (read (tree_of node) >>= λ value. each read (trees (drop (i + 1) nodes)) >>= λ more. Ok (value ∷ more))
each-next read nodes i node within is =
    let e : drop i nodes ≡ node ∷ drop (i + 1) nodes = rw (add-one, drop-cons nodes i node, ← is) refl in
    ap (λ rest. each read (trees rest)) e

-- a list has as many trees as nodes
pub count_trees : (nodes : List Node) → count (trees nodes) ≡ length nodes
count_trees [] = refl
count_trees (node ∷ nodes) = ap suc (count_trees nodes)
