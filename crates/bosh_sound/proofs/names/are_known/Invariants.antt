use Rattle.std.proofs.Common.{take}
use Rattle.std.specs.List.{All, Contains}
use Rattle.bosh_sound.specs.Places.{texts_of}
use Rattle.bosh_sound.proofs.names.are_known.Given as goal

-- those so far are known
abbrev pub invariant-loop-name : goal.invariant-loop-name
invariant-loop-name l = All (Contains (texts_of l.names)) (take l.name-index l.wanted)
