-- The statements of a keeper, and that one was carried out or refused (this project's profile).
use Rattle.std.specs.Prelude.{◌≡◌, ◌⊎◌, ℕ, ◌≤◌, ◌^◌, codes, List, Ok, Err}
use Rattle.bosh_keep_sql.specs.Faults.{fault_of}
use Rattle.bosh_keep_sql.specs.Rows.{row_of}
use Rattle.bosh_ports.specs.declared.keeper.KeepFault.{KeepFault}
use Rattle.sqlite.specs.declared.error.Error.{Error}
use Rattle.sqlite.specs.Order.{Row}
use Rattle.sqlite.specs.Tree.{Trees}
use Rattle.sqlite.specs.State.{Executes, State, Survives}

-- makes the table
abbrev pub make_text : List ℕ
make_text = codes "CREATE TABLE bodies (position INTEGER PRIMARY KEY, body BLOB NOT NULL) STRICT"

-- lists all rows by position
abbrev pub list_text : List ℕ
list_text = codes "SELECT position, body FROM bodies ORDER BY position"

-- lists what makes the tables, indexes and views
abbrev pub schema_text : List ℕ
schema_text = codes "SELECT sql FROM sqlite_schema"

-- inserts a row
abbrev pub insert_text : List ℕ
insert_text = codes "INSERT INTO bodies (position, body) VALUES (?1, ?2)"

-- the database runs the statement, whole
abbrev pub Runs : List ℕ → Row → State → State → Type 0
Runs sql params old new = (count : ℕ) × Executes sql params old new (Ok count)

-- the database refuses the statement, or fails at it, and that is told so
abbrev pub RefusesRun : List ℕ → Row → State → State → KeepFault → Type 0
RefusesRun sql params old new fault = (e : Error) × (fault ≡ fault_of e) × Executes sql params old new (Err e)

-- A body cannot be stored at a position: there is none past 32 bits, or its row was refused.
abbrev pub RefusesBody : ℕ → List ℕ → State → State → KeepFault → Type 0
RefusesBody position body old new fault =
    (2 ^ 32 ≤ position) ⊎ RefusesRun insert_text (row_of position body) old new fault

-- A crash leaves what it could leave before, or one other database: all of a change, or nothing of it.
abbrev pub IsOneCommit : State → State → Type 0
IsOneCommit old new = (after : Trees) × Survives old new (λ trees. trees ≡ after)
