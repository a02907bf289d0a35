use Rattle.std.proofs.Common.{◌≡◌, ◌++◌, drop, option_map}
use Rattle.serde_json.specs.View.{items_view}
use Rattle.cpi_wire.specs.List.{each_from}
use Rattle.cpi_wire.proofs.list.read_each.Given as goal

-- the items so far, and what is still to be read, are all
abbrev pub invariant-loop-value : goal.invariant-loop-value
invariant-loop-value g l =
    option_map (λ rest. l.items.items ++ rest) (each_from g.T.Wired.reading (items_view (drop l.value-index l.values))) ≡ each_from g.T.Wired.reading (items_view l.values)
