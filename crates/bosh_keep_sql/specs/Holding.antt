-- What the table of a keeper holds, by the statements that were run: the rows of just these bodies.
use Rattle.std.specs.Prelude.{◌≡◌, ◌⊎◌, ℕ, suc, false, List, [], ◌∷◌, ◌++◌, length, IsTrue}
use Rattle.bosh_keep_sql.specs.Rewrites.{delete_text}
use Rattle.bosh_keep_sql.specs.Rows.{row_of, rows_from}
use Rattle.bosh_keep_sql.specs.Statements.{insert_text, list_text, Runs}
use Rattle.sqlite.specs.Effect.{Database}
use Rattle.sqlite.specs.Held.{Held, state}
use Rattle.sqlite.specs.Order.{Row}
use Rattle.sqlite.specs.State.{HasCleanDisk, Shown, State}
use Rattle.sqlite.specs.Store.{Ghosts}

-- no transaction is open, and what a connection shows is what the last commit left
abbrev pub IsSettled : State → Type 0
IsSettled s = (s.in_transaction ≡ false) × (IsTrue s.is_open → s.committed ≡ s.now)

-- nothing was written: while the connection is open, it shows what it showed
abbrev pub IsUnwritten : State → State → Type 0
IsUnwritten old new = IsSettled new × (IsTrue new.is_open → IsTrue old.is_open × (new.now ≡ old.now))

module _ {S : Type 0} (g : Ghosts S) where
  -- the statement, run over a database, makes another
  abbrev pub Makes : List ℕ → Row → Database → Database → Type 0
  Makes sql params db after =
      (old : Held S) × (new : Held S) × ((state g old).now ≡ db) × ((state g new).now ≡ after)
      × Runs sql params (state g old) (state g new)

  -- the rows of bodies are inserted one after the other, the first at this position
  abbrev pub Adds : ℕ → List (List ℕ) → Database → Database → Type 0
  Adds first [] db after = after ≡ db
  Adds first (body ∷ bodies) db after =
      (mid : Database) × Makes insert_text (row_of first body) db mid × Adds (suc first) bodies mid after

  -- a database lists the rows of these bodies
  abbrev pub IsListed : List (List ℕ) → Database → Type 0
  IsListed bodies db =
      (old : Held S) × (new : Held S) × ((state g old).now ≡ db)
      × Shown list_text [] (state g old) (state g new) (rows_from 0 bodies)

  -- all rows were deleted
  abbrev pub IsCleared : Database → Type 0
  IsCleared db = (before : Database) × Makes delete_text [] before db

  -- The table holds the rows of just these bodies: it listed those of the first ones, or was cleared, and from then on just
  -- the rows of those that came after were inserted, each at its position.
  abbrev pub Holds : List (List ℕ) → Database → Type 0
  Holds bodies db =
      (base : Database) × (before : List (List ℕ)) × (added : List (List ℕ)) × (bodies ≡ before ++ added)
      × (IsListed before base ⊎ ((before ≡ []) × IsCleared base)) × Adds (length before) added base db

  -- While the disk returns what was written, the table of a connection holds just these bodies, and that is committed.
  abbrev pub IsTied : Held S → List (List ℕ) → Type 0
  IsTied connection bodies =
      HasCleanDisk (state g connection) → IsSettled (state g connection)
      × (IsTrue (state g connection).is_open → Holds bodies (state g connection).now)
