-- What a load finds in a database, by what its statements answered, one after the other.
use Rattle.std.specs.Prelude.{◌≡◌, ◌≢◌, ◌⊎◌, ℕ, List, [], ◌∷◌, Err, IsTrue}
use Rattle.bosh_keep_sql.specs.declared.fault.LoadFault.{LoadFault}
use Rattle.bosh_keep_sql.specs.declared.fault.LoadFault.TheVariants.{Foreign, Memory}
use Rattle.bosh_keep_sql.specs.declared.fault.LoadFault.TheVariants as load
use Rattle.bosh_keep_sql.specs.declared.table.Contents.{Contents}
use Rattle.bosh_keep_sql.specs.declared.table.Contents.TheVariants.{Nothing, Table, Other}
use Rattle.bosh_keep_sql.specs.Faults.{fault_of, load_fault_of}
use Rattle.bosh_keep_sql.specs.Rows.{AreFaulty, rows_from}
use Rattle.bosh_keep_sql.specs.Statements.{list_text, make_text, Runs, schema_text}
use Rattle.bosh_ports.specs.declared.keeper.KeepFault.TheVariants.{Failed}
use Rattle.sqlite.specs.declared.error.Error.{Error}
use Rattle.sqlite.specs.declared.types.Value.TheVariants.{Text}
use Rattle.sqlite.specs.Order.{Row, column}
use Rattle.sqlite.specs.State.{Executes, FailsToQuery, Shown}
use Rattle.sqlite.specs.Store.{Ghosts}
use Rattle.sqlite.specs.Held.{Held, state}

-- the row of the schema that makes the table
abbrev pub IsOurs : Row → Type 0
IsOurs row = column row 0 ≡ Text make_text

-- What a database has, by the rows of its schema: nothing, the keeper's table alone, or anything else.
abbrev pub IsSchema : List Row → Contents → Type 0
IsSchema rows Nothing = rows ≡ []
IsSchema rows Table = (row : Row) × (rows ≡ row ∷ []) × IsOurs row
IsSchema rows Other = (rows ≢ []) × ((row : Row) → rows ≡ row ∷ [] → ¬ IsOurs row)

module _ {S : Type 0} (g : Ghosts S) where
  -- the database shows that it has this
  abbrev pub Shows : Held S → Held S → Contents → Type 0
  Shows old new has = (rows : List Row) × Shown schema_text [] (state g old) (state g new) rows × IsSchema rows has

  -- the database refuses a query, or fails at it, and that is told so
  abbrev pub RefusesQuery : List ℕ → Held S → Held S → LoadFault → Type 0
  RefusesQuery sql old new fault =
      (e : Error) × (fault ≡ load_fault_of e) × FailsToQuery sql [] (state g old) (state g new) e

  -- the table cannot be made, and that is told so
  abbrev pub RefusesTable : Held S → Held S → LoadFault → Type 0
  RefusesTable old new fault =
      (e : Error) × (fault ≡ load_fault_of e) × Executes make_text [] (state g old) (state g new) (Err e)

  -- the table is there, or it was made where there was nothing
  abbrev pub IsPrepared : Held S → Held S → Type 0
  IsPrepared old new =
      Shows old new Table
      ⊎ ((mid : Held S) × Shows old mid Nothing × Runs make_text [] (state g mid) (state g new))

  -- there is anything else than the table, or a statement was refused
  abbrev pub FailsToPrepare : Held S → Held S → LoadFault → Type 0
  FailsToPrepare old new fault =
      ((fault ≡ Foreign) × Shows old new Other) ⊎ (RefusesQuery schema_text old new fault
      ⊎ ((mid : Held S) × Shows old mid Nothing × RefusesTable mid new fault))

  -- the database lists the rows of these bodies
  abbrev pub ListsBodies : Held S → Held S → List (List ℕ) → Type 0
  ListsBodies old new bodies = Shown list_text [] (state g old) (state g new) (rows_from 0 bodies)

  -- a row that it lists is not that of a body at its place, or the statement was refused, or there is no memory
  abbrev pub FailsToRead : Held S → Held S → LoadFault → Type 0
  FailsToRead old new fault =
      ((rows : List Row) × Shown list_text [] (state g old) (state g new) rows × AreFaulty rows fault)
      ⊎ (RefusesQuery list_text old new fault ⊎ (fault ≡ Memory))

  -- what a load finds
  abbrev pub Finds : Held S → Held S → List (List ℕ) → Type 0
  Finds old new bodies = (mid : Held S) × IsPrepared old mid × ListsBodies mid new bodies

  -- the table cannot be prepared, or its rows cannot be read
  abbrev pub FailsToFind : Held S → Held S → LoadFault → Type 0
  FailsToFind old new fault =
      FailsToPrepare old new fault ⊎ ((mid : Held S) × IsPrepared old mid × FailsToRead mid new fault)

  -- why a load is refused: a transaction is open already, and no statement was run; or there is no table to be read
  abbrev pub FailsToLoad : Held S → Held S → LoadFault → Type 0
  FailsToLoad old new fault =
      (IsTrue old.in_transaction × (fault ≡ load.Failed) × (new ≡ old)) ⊎ FailsToFind old new fault

  -- the rows that the database lists are not those of these bodies, or the statement was refused
  abbrev pub DiffersFrom : Held S → Held S → List (List ℕ) → Type 0
  DiffersFrom old new bodies =
      ((rows : List Row) × Shown list_text [] (state g old) (state g new) rows × (rows ≢ rows_from 0 bodies))
      ⊎ ((e : Error) × (fault_of e ≡ Failed) × FailsToQuery list_text [] (state g old) (state g new) e)
