-- The links of a mapping, one after another.
use Rattle.std.proofs.Common.{◌≡◌, ℕ, ◌+◌, ◌<◌, List, [], ◌∷◌, ◌++◌, Option, Some, None, Result, Ok, Err, length, get_or, drop, map, refl, sym, ap, add-one, append-nil, append_assoc, drop-cons}
use Rattle.bosh_yaml.specs.Tree.{Tree, Fields, fields_of}
use Rattle.bosh_yaml.specs.View.{pair_of, tree_of}
use Rattle.bosh_yaml.specs.declared.node.Node.{Node}
use Rattle.bosh_fields.specs.Answer.{◌>>=◌}
use Rattle.bosh_fields.specs.declared.fault.FieldFault.{FieldFault}
use Rattle.bosh_fields.proofs.ListLemmas.{after}
use Rattle.bosh_manifest_parts.specs.Link.{a_link, before, each_link}

-- keys with their nodes as fields
abbrev pub fields : List (List ℕ × Node) → Fields
fields pairs = fields_of (map pair_of pairs)

-- what the fields from one on are read as
pub each_link-next :
    {A : Type 0} (item : List ℕ → Tree → Result A FieldFault) (key : List ℕ) (pairs : List (List ℕ × Node)) (i : ℕ) (pair : List ℕ × Node)
    → i < length pairs → pair ≡ get_or pairs i pair
    → each_link item key (fields (drop i pairs))
    ≡ (a_link item key pair.0 (tree_of pair.1) >>= λ first. each_link item key (fields (drop (i + 1) pairs))
    >>= λ others. Ok (before first others))
each_link-next item key pairs i pair within is =
    let e : drop i pairs ≡ pair ∷ drop (i + 1) pairs = rw (add-one, drop-cons pairs i pair, ← is) refl in
    ap (λ rest. each_link item key (fields rest)) e

before-append : {A : Type 0} (first : Option A) (values others : List A) → values ++ before first others ≡ (values ++ before first []) ++ others
before-append None values others = ap (λ all. all ++ others) (sym (append-nil values))
before-append (Some x) values others = sym (append_assoc values (x ∷ []) others)

-- one more link, or none
pub after-before :
    {A : Type 0} (values : List A) (first : Option A) (others : Result (List A) FieldFault)
    → after values (others >>= λ more. Ok (before first more)) ≡ after (values ++ before first []) others
after-before values first (Ok more) = ap Ok (before-append first values more)
after-before values first (Err fault) = refl
