use Rattle.std.proofs.Common.{take}
use Rattle.bosh_sound.specs.Places.{IsGraphOf, texts_of}
use Rattle.bosh_sound.proofs.needs.graph_of.Given as goal

-- the needs of the packages so far
abbrev pub invariant-loop-package : goal.invariant-loop-package
invariant-loop-package l = IsGraphOf (texts_of l.names) (take l.package-index l.packages) l.graph.items
