-- What a replacement of the list runs, in one transaction, and what it fails at.
use Rattle.std.specs.Prelude.{◌≡◌, ◌⊎◌, ℕ, suc, ◌≤◌, ◌^◌, true, codes, List, [], ◌∷◌, ◌++◌, length, IsTrue, Err}
use Rattle.bosh_keep_sql.specs.Faults.{fault_of}
use Rattle.bosh_keep_sql.specs.Rows.{row_of}
use Rattle.bosh_keep_sql.specs.Statements.{insert_text, Runs}
use Rattle.bosh_ports.specs.declared.keeper.KeepFault.{KeepFault}
use Rattle.bosh_ports.specs.declared.keeper.KeepFault.TheVariants.{Failed}
use Rattle.sqlite.specs.declared.error.Error.{Error}
use Rattle.sqlite.specs.Order.{Row}
use Rattle.sqlite.specs.State.{ExecutesInside}
use Rattle.sqlite.specs.Steps.{FailsToCommit}
use Rattle.sqlite.specs.Store.{Ghosts}
use Rattle.sqlite.specs.Held.{Held, state}

-- deletes all rows
abbrev pub delete_text : List ℕ
delete_text = codes "DELETE FROM bodies"

module _ {S : Type 0} (g : Ghosts S) where
  -- the database runs the statement in a transaction, which goes on
  abbrev pub RunsInside : List ℕ → Row → Held S → Held S → Type 0
  RunsInside sql params old new = Runs sql params (state g old) (state g new) × IsTrue new.in_transaction

  -- it inserts the rows of bodies one after the other, the first at this position
  abbrev pub Inserts : ℕ → List (List ℕ) → Held S → Held S → Type 0
  Inserts first [] old new = new ≡ old
  Inserts first (body ∷ bodies) old new =
      (mid : Held S) × Runs insert_text (row_of first body) (state g old) (state g mid)
      × Inserts (suc first) bodies mid new

  -- .. in a transaction, which goes on
  abbrev pub InsertsInside : List (List ℕ) → Held S → Held S → Type 0
  InsertsInside bodies old new = Inserts 0 bodies old new × IsTrue new.in_transaction

  -- In a transaction of its own all rows are deleted and those of the bodies inserted, and that is what is committed.
  abbrev pub Rewrites : List (List ℕ) → Held S → Held S → Type 0
  Rewrites bodies old new =
      (cleared : Held S) × (filled : Held S)
      × Runs delete_text [] (state g (record old { in_transaction = true })) (state g cleared)
      × Inserts 0 bodies cleared filled
      × ((state g new).now ≡ (state g filled).now) × ((state g new).committed ≡ (state g filled).now)

  -- a statement inside of the transaction was refused, and that is told so
  abbrev pub RefusesInside : List ℕ → Row → Held S → Held S → KeepFault → Type 0
  RefusesInside sql params old new fault =
      (e : Error) × (fault ≡ fault_of e) × ExecutesInside 0 sql params (state g old) (state g new) (Err e)

  -- the row of a body cannot be inserted at a position: there is none past 32 bits, or its insertion was refused
  abbrev pub RefusesRow : ℕ → List ℕ → Held S → Held S → KeepFault → Type 0
  RefusesRow position body old new fault =
      ((fault ≡ Failed) × (2 ^ 32 ≤ position)) ⊎ RefusesInside insert_text (row_of position body) old new fault

  -- the rows of the first bodies were inserted, and that of the next one cannot be
  abbrev pub FailsToInsert : List (List ℕ) → Held S → Held S → KeepFault → Type 0
  FailsToInsert bodies old new fault =
      (before : List (List ℕ)) × (body : List ℕ) × (after : List (List ℕ)) × (bodies ≡ before ++ body ∷ after)
      × (mid : Held S) × InsertsInside before old mid × RefusesRow (length before) body mid new fault

  -- Why a list is not rewritten: a transaction is open already; or in one of its own the deletion of all rows, or the row of
  -- one of the bodies, or the commit was refused.
  abbrev pub RefusesRewrite : List (List ℕ) → Held S → Held S → KeepFault → Type 0
  RefusesRewrite bodies old new fault =
      (IsTrue old.in_transaction × (fault ≡ Failed))
      ⊎ ((cleared : Held S) × RefusesInside delete_text [] (record old { in_transaction = true }) cleared fault)
      ⊎ ((cleared : Held S) × (last : Held S) × RunsInside delete_text [] (record old { in_transaction = true }) cleared
      × FailsToInsert bodies cleared last fault)
      ⊎ ((cleared : Held S) × (filled : Held S) × RunsInside delete_text [] (record old { in_transaction = true }) cleared
      × InsertsInside bodies cleared filled × (e : Error) × (fault ≡ fault_of e)
      × FailsToCommit (state g filled) (state g new) e)
