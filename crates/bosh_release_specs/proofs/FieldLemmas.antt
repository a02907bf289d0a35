-- The fields of a mapping, one after another.
use Rattle.std.proofs.Common.{◌≡◌, ℕ, ◌+◌, ◌<◌, List, ◌∷◌, Ok, length, get_or, drop, map, refl, ap, add-one, drop-cons}
use Rattle.bosh_yaml.specs.Tree.{Fields, fields_of}
use Rattle.bosh_yaml.specs.View.{pair_of, tree_of}
use Rattle.bosh_yaml.specs.declared.node.Node.{Node}
use Rattle.bosh_fields.specs.Answer.{◌>>=◌}
use Rattle.bosh_fields.specs.Kind.{Kind}
use Rattle.bosh_release_specs.specs.JobSpec.{each_field}

-- keys with their nodes as fields
abbrev pub fields : List (List ℕ × Node) → Fields
fields pairs = fields_of (map pair_of pairs)

-- what the fields from one on are read as
pub each_field-next :
    {A : Type 0} (kind : Kind A) (pairs : List (List ℕ × Node)) (i : ℕ) (pair : List ℕ × Node)
    → i < length pairs → pair ≡ get_or pairs i pair
    → each_field kind (fields (drop i pairs))
    ≡ (kind pair.0 (tree_of pair.1) >>= λ value. each_field kind (fields (drop (i + 1) pairs))
    >>= λ more. Ok ((pair.0, value) ∷ more))
each_field-next kind pairs i pair within is =
    let e : drop i pairs ≡ pair ∷ drop (i + 1) pairs = rw (add-one, drop-cons pairs i pair, ← is) refl in
    ap (λ rest. each_field kind (fields rest)) e
