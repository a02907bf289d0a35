-- Lists that grow at their end.
use Rattle.std.specs.Prelude.{◌≡◌, List, ◌++◌, length, if◌then◌else◌, ltb}

module _ {X : Type 0} where
  -- the new list begins with the old one
  abbrev pub Extends : List X → List X → Type 0
  Extends old new = (more : List X) × (new ≡ old ++ more)

  -- the longer of two lists, and the first where neither is
  abbrev pub longer : List X → List X → List X
  longer xs ys = if ltb (length xs) (length ys) then ys else xs

  -- the other one
  abbrev pub shorter : List X → List X → List X
  shorter xs ys = if ltb (length xs) (length ys) then xs else ys
