-- How flow forms are spelled on one line (this project's profile of YAML 1.2): values between `[` and `]` or entries between `{` and `}`, separated by `,`, one of which may stand behind the last; spaces may stand before and after each sign.
use Rattle.std.specs.Prelude.{◌≡◌, ℕ, false, List, [], ◌∷◌}
use Rattle.bosh_yaml.specs.declared.bare.Place.TheVariants.{Flow}
use Rattle.bosh_yaml.specs.declared.word.Word.{Word}
use Rattle.bosh_yaml.specs.Lines.{begins, skip_spaces}
use Rattle.bosh_yaml.specs.Scalar.{leaf_tree}
use Rattle.bosh_yaml.specs.SpelledWord.{SpellsScalar, IsKey}
use Rattle.bosh_yaml.specs.Tree.{Tree, null, list, map, trees_of, fields_of}
use Rattle.bosh_yaml.specs.Word.{leaf_of}

mutual
  -- a value at the front of the bytes, and what follows it
  pub data SpellsFlow : List ℕ → Tree → List ℕ → Type 0 where
    scalar : (bytes rest : List ℕ) (word : Word) → SpellsScalar Flow bytes word rest → begins 58 rest ≡ false → SpellsFlow bytes (leaf_tree (leaf_of word)) rest
    sequence : (bs rest : List ℕ) (ts : List Tree) → SpellsFlowItems bs ts rest → SpellsFlow (91 ∷ bs) (list (trees_of ts)) rest
    mapping : (bs rest : List ℕ) (ps : List (List ℕ × Tree)) → SpellsFlowEntries bs ps rest → SpellsFlow (123 ∷ bs) (map (fields_of ps)) rest

  -- behind the `[` or a `,`
  pub data SpellsFlowItems : List ℕ → List Tree → List ℕ → Type 0 where
    no_item : (bs rest : List ℕ) → skip_spaces bs ≡ 93 ∷ rest → SpellsFlowItems bs [] rest
    last_item : (bs after rest : List ℕ) (t : Tree) → SpellsFlow (skip_spaces bs) t after → skip_spaces after ≡ 93 ∷ rest → SpellsFlowItems bs (t ∷ []) rest
    item : (bs after more rest : List ℕ) (t : Tree) (ts : List Tree) → SpellsFlow (skip_spaces bs) t after → skip_spaces after ≡ 44 ∷ more → SpellsFlowItems more ts rest → SpellsFlowItems bs (t ∷ ts) rest

  -- behind the `{` or a `,`
  pub data SpellsFlowEntries : List ℕ → List (List ℕ × Tree) → List ℕ → Type 0 where
    no_entry : (bs rest : List ℕ) → skip_spaces bs ≡ 125 ∷ rest → SpellsFlowEntries bs [] rest
    last_entry : (bs value after rest : List ℕ) (word : Word) (key : List ℕ) (t : Tree) → SpellsScalar Flow (skip_spaces bs) word (58 ∷ value) → IsKey word key → SpellsFlowEntry value t after → skip_spaces after ≡ 125 ∷ rest → SpellsFlowEntries bs ((key, t) ∷ []) rest
    entry : (bs value after more rest : List ℕ) (word : Word) (key : List ℕ) (t : Tree) (ps : List (List ℕ × Tree)) → SpellsScalar Flow (skip_spaces bs) word (58 ∷ value) → IsKey word key → SpellsFlowEntry value t after → skip_spaces after ≡ 44 ∷ more → SpellsFlowEntries more ps rest → SpellsFlowEntries bs ((key, t) ∷ ps) rest

  -- behind a key and its `:`: nothing, or a space and a value
  pub data SpellsFlowEntry : List ℕ → Tree → List ℕ → Type 0 where
    bare_key : (bs : List ℕ) → SpellsFlowEntry bs null bs
    valued_key : (bs after : List ℕ) (t : Tree) → SpellsFlow (skip_spaces bs) t after → SpellsFlowEntry (32 ∷ bs) t after
