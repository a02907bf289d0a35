use Rattle.std.proofs.Common.{◌≡◌, ◌++◌, true, take, drop}
use Rattle.serde_json.specs.Written.{items_text}
use Rattle.cpi_wire.specs.List.{is_list, items_data}
use Rattle.cpi_wire.proofs.list.write_others.Given as goal

-- the items so far are written, and each is one of its type
abbrev pub invariant-loop-item : goal.invariant-loop-item
invariant-loop-item g l =
    (l.out.items ++ items_text true (items_data g.T.Wired.image (drop l.item-index l.items)) ≡ l.fn.out.items ++ items_text true (items_data g.T.Wired.image l.items))
    × (is_list g.T.Wired.fits (take l.item-index l.items) ≡ true)
