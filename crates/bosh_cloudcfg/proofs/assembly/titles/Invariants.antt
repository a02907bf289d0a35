use Rattle.std.proofs.Common.{◌≡◌, map, take}
use Rattle.bosh_cloudcfg.proofs.assembly.titles.Given as goal

abbrev pub invariant-loop-item : goal.invariant-loop-item
invariant-loop-item g l = l.names.items ≡ map g.T.Titled.title (take l.item-index l.items)
