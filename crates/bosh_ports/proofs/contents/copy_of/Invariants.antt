use Rattle.std.proofs.Common.{◌≡◌, take}
use Rattle.bosh_ports.specs.Contents.{contents}
use Rattle.bosh_ports.proofs.contents.copy_of.Given as goal

abbrev pub invariant-loop-item : goal.invariant-loop-item
invariant-loop-item l = contents l.copies.items ≡ contents (take l.item-index l.items)
