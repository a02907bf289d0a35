-- Items whose names were seen so far.
use Rattle.std.proofs.Common.{◌≡◌, ℕ, ◌+◌, ◌<◌, Bool, true, false, List, [], ◌∷◌, ◌||◌, Result, Ok, Err, length, get_or, drop, refl, ap, ◌∙◌, cond, add-one, drop-cons}
use Rattle.std.specs.BTreeSet.{BTreeSet, contains, Updates, IsEmpty}
use Rattle.std.specs.Cmp.Lexicographic.{slice_cmp}
use Rattle.std.specs.Ordering.{nat_cmp}
use Rattle.std.specs.Str.{bytes_eq}
use Rattle.std.proofs.lemmas.Map.Text.{is_eq-slice_cmp}
use Rattle.bosh_yaml.specs.Tree.{Tree}
use Rattle.bosh_yaml.specs.View.{tree_of}
use Rattle.bosh_yaml.specs.declared.node.Node.{Node}
use Rattle.bosh_fields.specs.declared.fault.FieldFault.{FieldFault}
use Rattle.bosh_fields.specs.Answer.{◌>>=◌}
use Rattle.bosh_fields.specs.Distinct.{distinct, fresh_name, next_item}
use Rattle.bosh_fields.specs.Seen.{HasNames}
use Rattle.bosh_fields.proofs.ListLemmas.{trees}

-- where a step follows, there was a value
bind-ok : {A B : Type 0} (read : Result A FieldFault) (f : A → Result B FieldFault) (b : B) → (read >>= f) ≡ Ok b → (a : A) × (read ≡ Ok a) × (f a ≡ Ok b)
bind-ok (Ok a) f b h = (a, refl, h)
bind-ok (Err fault) f b h = absurd (cc)

-- the set without names
pub HasNames-empty : (seen : BTreeSet (List ℕ)) → IsEmpty seen → HasNames [] seen
HasNames-empty seen empty = λ name. rw empty refl

cond_or : (b c : Bool) → cond b true c ≡ (b || c)
cond_or true c = refl
cond_or false c = refl

-- the set with one more name
pub HasNames-more : (names : List (List ℕ)) (name : List ℕ) (old new : BTreeSet (List ℕ)) → HasNames names old → Updates (slice_cmp nat_cmp) old new name true → HasNames (name ∷ names) new
HasNames-more names name old new has updates = λ q.
    updates.0 q ∙ ap (λ b. cond b true (contains (slice_cmp nat_cmp) old q)) (is_eq-slice_cmp name q) ∙ cond_or (bytes_eq name q) (contains (slice_cmp nat_cmp) old q) ∙ ap (λ c. bytes_eq name q || c) (has q)

-- an item that was read has a name
pub next_item-name :
    {A : Type 0} (naming : Tree → Result (List ℕ) FieldFault) (item : List ℕ → Tree → Result A FieldFault) (before : List (List ℕ)) (t : Tree) (first : A)
    → next_item naming item before t ≡ Ok first → (name : List ℕ) × (fresh_name naming before t ≡ Ok name) × (item name t ≡ Ok first)
next_item-name naming item before t first read = bind-ok (fresh_name naming before t) (λ name. item name t) first read

-- one more item, whose name is new
pub distinct-more :
    {A : Type 0} (naming : Tree → Result (List ℕ) FieldFault) (item : List ℕ → Tree → Result A FieldFault) (before : List (List ℕ)) (nodes : List Node) (i : ℕ) (node : Node) (name : List ℕ) (first : A)
    → i < length nodes → node ≡ get_or nodes i node → fresh_name naming before (tree_of node) ≡ Ok name → item name (tree_of node) ≡ Ok first
    → distinct naming item before (trees (drop i nodes)) ≡ (distinct naming item (name ∷ before) (trees (drop (i + 1) nodes)) >>= λ others. Ok (first ∷ others))
distinct-more naming item before nodes i node name first within is named read =
    let e : drop i nodes ≡ node ∷ drop (i + 1) nodes = rw (add-one, drop-cons nodes i node, ← is) refl in
    let next : distinct naming item before (trees (drop i nodes)) ≡ (fresh_name naming before (tree_of node) >>= λ name. item name (tree_of node) >>= λ first. distinct naming item (name ∷ before) (trees (drop (i + 1) nodes)) >>= λ others. Ok (first ∷ others)) =
    ap (λ rest. distinct naming item before (trees rest)) e in
    next ∙ rw (named, read) refl
