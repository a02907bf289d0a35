use Rattle.std.proofs.Common.{take}
use Rattle.bosh_sound.specs.Places.{ArePlaces, texts_of}
use Rattle.bosh_sound.proofs.needs.places_of.Given as goal

-- the places so far
abbrev pub invariant-loop-name : goal.invariant-loop-name
invariant-loop-name l = ArePlaces (texts_of l.names) (take l.name-index l.wanted) l.places.items
