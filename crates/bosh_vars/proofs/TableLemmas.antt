-- One more variable goes into a table of values.
use Rattle.std.proofs.Common.{◌≡◌, ℕ, Bool, true, false, cond, List, [], ◌∷◌, ◌++◌, Option, Some, None, ap, sym, ◌∙◌, refl}
use Rattle.std.specs.BTreeMap.{BTreeMap, UpdatesBy}
use Rattle.std.specs.Cmp.Lexicographic.{slice_cmp}
use Rattle.std.specs.Option.{option_map, option_or}
use Rattle.std.specs.Ordering.{nat_cmp}
use Rattle.std.specs.Str.{bytes_eq}
use Rattle.std.proofs.lemmas.Map.Text.{btree_map_updates_str}
use denote.Ref.{Bor}
use Rattle.bosh_yaml.specs.Tree.{Tree}
use Rattle.bosh_yaml.specs.View.{tree_of}
use Rattle.bosh_yaml.specs.declared.node.Node.{Node}
use Rattle.bosh_vars.specs.declared.var.Var.{Var}
use Rattle.bosh_vars.specs.Filled.{values_of, value_if}
use Rattle.bosh_vars.specs.Table.{found_in}

option_or-assoc : (a b c : Option Tree) → option_or (option_or a b) c ≡ option_or a (option_or b c)
option_or-assoc None b c = refl
option_or-assoc (Some x) b c = refl

option_or-none : (a : Option Tree) → option_or a None ≡ a
option_or-none None = refl
option_or-none (Some x) = refl

-- the last variable counts first
values_of-push : (vs : List Var) (v : Var) (name : List ℕ) → values_of (vs ++ v ∷ []) name ≡ option_or (value_if (bytes_eq v.name name) (tree_of v.value)) (values_of vs name)
values_of-push [] v name = sym (option_or-none (value_if (bytes_eq v.name name) (tree_of v.value)))
values_of-push (w ∷ vs) v name =
    ap (λ o. option_or o (value_if (bytes_eq w.name name) (tree_of w.value))) (values_of-push vs v name)
    ∙ option_or-assoc (value_if (bytes_eq v.name name) (tree_of v.value)) (values_of vs name) (value_if (bytes_eq w.name name) (tree_of w.value))

chosen : (b : Bool) (n : Bor Node) (old : Option (Bor Node)) → option_map (λ n. tree_of n.now) (cond b (Some n) old) ≡ option_or (value_if b (tree_of n.now)) (option_map (λ n. tree_of n.now) old)
chosen true n old = refl
chosen false n old = refl

-- a table of these variables, with the value of one more under its name, is one of them all
pub table-push : (vs : List Var) (v : Var) (m m' : BTreeMap (Bor (List ℕ)) (Bor Node)) (key : List ℕ) (n : Bor Node)
    → UpdatesBy (λ x y. slice_cmp nat_cmp x.now y.now) (λ k. slice_cmp nat_cmp key k.now) m m' (Some n)
    → ((name : List ℕ) → found_in m name ≡ values_of vs name) → key ≡ v.name → n.now ≡ v.value → (name : List ℕ) → found_in m' name ≡ values_of (vs ++ v ∷ []) name
table-push vs v m m' key n updates table same value = λ name.
    ap (λ o. option_map (λ n. tree_of n.now) o) (btree_map_updates_str key m m' (Some n) updates name)
    ∙ (chosen (bytes_eq key name) n _
    ∙ (ap (λ o. option_or (value_if (bytes_eq key name) (tree_of n.now)) o) (table name)
    ∙ (ap (λ k. option_or (value_if (bytes_eq k name) (tree_of n.now)) (values_of vs name)) same
    ∙ (ap (λ x. option_or (value_if (bytes_eq v.name name) (tree_of x)) (values_of vs name)) value
    ∙ sym (values_of-push vs v name)))))
