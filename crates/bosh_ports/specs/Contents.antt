-- Lists of byte strings, each string kept in a `Vec`.
use Rattle.std.specs.Prelude.{ℕ, List, map, Vec}
use Rattle.std.specs.declared.alloc.Global.{Global}

-- the bytes of each item
abbrev pub contents : List (Vec ℕ Global) → List (List ℕ)
contents items = map (λ item. item.items) items
