-- Several lists one after another, unless one of them has a fault.
use Rattle.std.specs.Prelude.{List, [], ◌∷◌, ◌++◌, Result, Ok, Err}

-- a list before another: a fault of that one decides
abbrev pub after : {A F : Type 0} → List A → Result (List A) F → Result (List A) F
after first (Ok others) = Ok (first ++ others)
after first (Err fault) = Err fault

-- a list before another: the first fault decides
abbrev pub joined_lists : {A F : Type 0} → Result (List A) F → Result (List A) F → Result (List A) F
joined_lists (Ok first) others = after first others
joined_lists (Err fault) others = Err fault

-- what comes of each of several, or the fault of the first that has one
abbrev pub gather : {A B F : Type 0} → (A → Result (List B) F) → List A → Result (List B) F
gather of [] = Ok []
gather of (a ∷ more) = joined_lists (of a) (gather of more)
