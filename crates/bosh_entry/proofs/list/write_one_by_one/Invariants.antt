use Rattle.std.proofs.Common.{◌≡◌, ◌++◌, true, take}
use Rattle.std.specs.List.{flat_map, list_all}
use Rattle.bosh_entry.specs.declared.format.Format.TheVariants.{Present}
use Rattle.bosh_entry.proofs.list.write_one_by_one.Given as goal

-- the items so far are written, and these have spellings
abbrev pub invariant-loop-item : goal.invariant-loop-item
invariant-loop-item g l = (l.out.items ≡ l.fn.out.items ++ flat_map (g.T.Coded.spelling Present) (take l.item-index l.items)) × (list_all (g.T.Coded.fits Present) (take l.item-index l.items) ≡ true)
