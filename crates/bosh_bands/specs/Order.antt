-- Bands in the order of their first addresses.
use Rattle.std.specs.Prelude.{ℕ, List}
use Rattle.std.specs.List.Sorted.{IsNonDecreasingBy}
use Rattle.bosh_base.specs.declared.addr.Band.{Band}

abbrev pub first_number : Band → ℕ
first_number band = band.first.0

abbrev pub IsInOrder : List Band → Type 0
IsInOrder bands = IsNonDecreasingBy first_number bands
