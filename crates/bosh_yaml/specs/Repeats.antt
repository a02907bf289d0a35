-- Lines that spell a tree in which some mapping repeats a key, and lines that spell one in which none does.
use Rattle.std.specs.Prelude.{ℕ, List}
use Rattle.bosh_yaml.specs.Limits.{HasEachKeyOnce}
use Rattle.bosh_yaml.specs.Spelling.{SpellsLines}
use Rattle.bosh_yaml.specs.Tree.{Tree}

-- some mapping of what the lines spell has a key twice
abbrev pub RepeatsKey : List (List ℕ) → Type 0
RepeatsKey lines = (t : Tree) × SpellsLines lines t × ¬ HasEachKeyOnce t

-- no mapping of what the lines spell has a key twice
abbrev pub RepeatsNoKey : List (List ℕ) → Type 0
RepeatsNoKey lines = (t : Tree) × SpellsLines lines t × HasEachKeyOnce t
