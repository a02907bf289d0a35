-- Outputs of children, each kept in a `Vec` or missing.
use Rattle.std.specs.Prelude.{ℕ, List, map, Option, option_map, Vec}
use Rattle.std.specs.declared.alloc.Global.{Global}

-- the bytes of an output that is there
abbrev pub bytes_of : Option (Vec ℕ Global) → Option (List ℕ)
bytes_of output = option_map (λ bytes. bytes.items) output

-- the bytes of each
abbrev pub outputs : List (Option (Vec ℕ Global)) → List (Option (List ℕ))
outputs items = map bytes_of items
