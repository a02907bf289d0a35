-- The rows of a keeper's table (this project's profile).
use Rattle.std.specs.Prelude.{◌≡◌, ◌≢◌, ℕ, pos, suc, List, [], ◌∷◌, ◌++◌, length}
use Rattle.bosh_keep_sql.specs.declared.fault.LoadFault.{LoadFault}
use Rattle.bosh_keep_sql.specs.declared.fault.LoadFault.TheVariants.{Failed, Foreign, Gap, NotABody, Memory}
use Rattle.sqlite.specs.declared.types.Value.TheVariants.{Int, Blob}
use Rattle.sqlite.specs.Order.{Row, column}

-- a row of a body
abbrev pub row_of : ℕ → List ℕ → Row
row_of position body = Int (pos position) ∷ Blob body ∷ []

-- the rows of bodies in order, the first at this position
abbrev pub rows_from : ℕ → List (List ℕ) → List Row
rows_from position [] = []
rows_from position (body ∷ bodies) = row_of position body ∷ rows_from (suc position) bodies

-- What is wrong with the row at a place: it has another position, or it has that position and is no row of a body.
abbrev pub IsFaultyRow : ℕ → Row → LoadFault → Type 0
IsFaultyRow place row (Gap at) = (at ≡ place) × (column row 0 ≢ Int (pos place))
IsFaultyRow place row (NotABody at) =
    (at ≡ place) × (column row 0 ≡ Int (pos place)) × ((body : List ℕ) → row ≢ row_of place body)
IsFaultyRow place row Memory = ⊥
IsFaultyRow place row Failed = ⊥
IsFaultyRow place row Foreign = ⊥

-- what is wrong with the first row that is not that of a body at its place
abbrev pub AreFaulty : List Row → LoadFault → Type 0
AreFaulty rows fault =
    (before : List (List ℕ)) × (row : Row) × (rest : List Row) × (rows ≡ rows_from 0 before ++ row ∷ rest)
    × IsFaultyRow (length before) row fault
