-- What a table of values finds.
use Rattle.std.specs.Prelude.{ℕ, List}
use Rattle.std.specs.BTreeMap.{BTreeMap, get_by}
use Rattle.std.specs.Cmp.Lexicographic.{slice_cmp}
use Rattle.std.specs.Option.{option_map}
use Rattle.std.specs.Ordering.{nat_cmp}
use denote.Ref.{Bor}
use Rattle.bosh_yaml.specs.declared.node.Node.{Node}
use Rattle.bosh_yaml.specs.View.{tree_of}
use Rattle.bosh_vars.specs.Filled.{Values}

-- the value under a name
abbrev pub found_in : BTreeMap (Bor (List ℕ)) (Bor Node) → Values
found_in table name = option_map (λ n. tree_of n.now) (get_by (λ k. slice_cmp nat_cmp name k.now) table)
