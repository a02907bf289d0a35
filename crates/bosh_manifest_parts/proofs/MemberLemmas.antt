-- An item that is refused.
use Rattle.std.proofs.Common.{◌≡◌, ℕ, ◌+◌, ◌<◌, List, ◌∷◌, Result, Ok, Err, length, get_or, drop, refl, ap, ◌∙◌, add-one, drop-cons}
use Rattle.bosh_yaml.specs.Tree.{Tree}
use Rattle.bosh_yaml.specs.View.{tree_of}
use Rattle.bosh_yaml.specs.declared.node.Node.{Node}
use Rattle.bosh_fields.specs.Answer.{◌>>=◌}
use Rattle.bosh_fields.specs.Distinct.{distinct, fresh_name, next_item}
use Rattle.bosh_fields.specs.declared.fault.FieldFault.{FieldFault}
use Rattle.bosh_fields.proofs.ListLemmas.{trees}

-- where two steps end with a fault, so do three
bind-err : {A B C : Type 0} (read : Result A FieldFault) (f : A → Result B FieldFault) (others : A → B → Result C FieldFault) (fault : FieldFault) → (read >>= f) ≡ Err fault → (read >>= λ a. f a >>= others a) ≡ Err fault
bind-err (Ok a) f others fault h = ap (λ step. step >>= others a) h
bind-err (Err found) f others fault h = let same : found ≡ fault = cc in ap Err same

-- the fault of an item is that of the items from it on
pub distinct-fault :
    {A : Type 0} (naming : Tree → Result (List ℕ) FieldFault) (item : List ℕ → Tree → Result A FieldFault) (before : List (List ℕ)) (nodes : List Node) (i : ℕ) (node : Node) (fault : FieldFault)
    → i < length nodes → node ≡ get_or nodes i node → next_item naming item before (tree_of node) ≡ Err fault
    → distinct naming item before (trees (drop i nodes)) ≡ Err fault
distinct-fault naming item before nodes i node fault within is refused =
    let e : drop i nodes ≡ node ∷ drop (i + 1) nodes = rw (add-one, drop-cons nodes i node, ← is) refl in
    ap (λ rest. distinct naming item before (trees rest)) e
    ∙ bind-err (fresh_name naming before (tree_of node)) (λ name. item name (tree_of node))
    (λ name first. distinct naming item (name ∷ before) (trees (drop (i + 1) nodes)) >>= λ others. Ok (first ∷ others)) fault refused
