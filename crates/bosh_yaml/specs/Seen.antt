-- The keys that a set holds, as a test.
use Rattle.std.specs.Prelude.{ℕ, Bool, List, Option, Some, None}
use Rattle.std.specs.List.{list_any}
use Rattle.std.specs.Ordering.{nat_cmp, is_eq, ordering_then}
use Rattle.std.specs.Cmp.Lexicographic.{slice_cmp}
use Rattle.std.specs.declared.collections.BTreeSet.{BTreeSet}
use Rattle.std.proofs.Common.{Bor, Global}
use Rattle.bosh_yaml.specs.Hash.{hash}

-- a key is held with its hash before it
abbrev pub keys_in : List (ℕ × Bor (List ℕ)) → List ℕ → Bool
keys_in held key =
    list_any (λ k. is_eq (ordering_then (nat_cmp (hash key) k.0) (slice_cmp nat_cmp key k.1.now))) held

abbrev pub keys_of_set : BTreeSet (ℕ × Bor (List ℕ)) Global → List ℕ → Bool
keys_of_set set = keys_in set.keys

abbrev pub line_or_else : Option ℕ → Option ℕ → Option ℕ
line_or_else None rest = rest
line_or_else (Some line) rest = Some line
