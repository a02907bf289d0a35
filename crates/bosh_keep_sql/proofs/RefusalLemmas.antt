-- Why a list is not rewritten.
use Rattle.std.proofs.Common.{◌≡◌, ℕ, ◌+◌, ◌<◌, true, false, refl, Bool, List, [], ◌∷◌, Result, Ok, Err, inl, inr, sym, ◌∙◌, ap, subst, take, drop, get_or}
use Rattle.std.specs.Prelude.{length, not, IfErr, IsTrue, Vec}
use Rattle.std.specs.declared.alloc.Global.{Global}
use Rattle.std.proofs.lemmas.List.{map-append}
use Rattle.bosh_keep_sql.specs.Faults.{fault_of}
use Rattle.bosh_keep_sql.specs.Rewrites.{delete_text, FailsToInsert, InsertsInside, RefusesInside, RefusesRewrite, RefusesRow, RunsInside}
use Rattle.bosh_keep_sql.specs.Rows.{row_of}
use Rattle.bosh_keep_sql.specs.Statements.{insert_text}
use Rattle.bosh_keep_sql.proofs.RewriteLemmas.{clean_before}
use Rattle.bosh_keep_sql.proofs.RowLemmas.{split}
use Rattle.bosh_ports.specs.Contents.{contents}
use Rattle.bosh_ports.specs.declared.keeper.KeepFault.{KeepFault}
use Rattle.sqlite.specs.declared.error.Error.{Error}
use Rattle.sqlite.specs.Held.{Held, state}
use Rattle.sqlite.specs.State.{HasCleanDisk, Survives}
use Rattle.sqlite.specs.Steps.{FailsToCommit}
use Rattle.sqlite.specs.Store.{Ghosts}
use Rattle.sqlite.specs.Tree.{Trees}

-- a connection that is not in autocommit is in a transaction
pub is_inside : (in_transaction autocommit : Bool) → autocommit ≡ not in_transaction → autocommit ≡ false → IsTrue in_transaction
is_inside true autocommit is off = refl
is_inside false autocommit is off = absurd (let bad : true ≡ false = sym is ∙ off in cc)

module _ {S : Type 0} (g : Ghosts S) where
  pub refuses_row : {T : Type 0} (position place : ℕ) (body : List ℕ) (old new : Held S) (result : Result T KeepFault) →
      position ≡ place → IfErr result (RefusesInside g insert_text (row_of position body) old new) →
      IfErr result (RefusesRow g place body old new)
  refuses_row position place body old new (Ok done) is refuses = tt
  refuses_row position place body old new (Err fault) is refuses =
      inr (subst (λ n. RefusesInside g insert_text (row_of n body) old new fault) is refuses)

  pub fails_insert : (bodies : List (Vec ℕ Global)) (place : ℕ) (item : Vec ℕ Global) (old mid new : Held S) (fault : KeepFault) →
      place < length bodies → item ≡ get_or bodies place item → length (contents (take place bodies)) ≡ place →
      InsertsInside g (contents (take place bodies)) old mid → RefusesRow g place item.items mid new fault →
      FailsToInsert g (contents bodies) old new fault
  fails_insert bodies place item old mid new fault within at size inserts refuses = (
    contents (take place bodies),
    item.items,
    contents (drop (place + 1) bodies),
    ap contents (split bodies place item within at) ∙ map-append (λ v. v.items) (take place bodies) (item ∷ drop (place + 1) bodies),
    mid,
    inserts,
    subst (λ n. RefusesRow g n item.items mid new fault) (sym size) refuses,
  )

  module _ (old first : Held S) (bodies : List (List ℕ)) (fault : KeepFault) (begun : first ≡ record old { in_transaction = true }) where
    inside : IsTrue first.in_transaction
    inside = subst (λ (h : Held S). IsTrue h.in_transaction) (sym begun) refl

    runs_begun : (cleared : Held S) → RunsInside g delete_text [] first cleared →
        RunsInside g delete_text [] (record old { in_transaction = true }) cleared
    runs_begun cleared = subst (λ (h : Held S). RunsInside g delete_text [] h cleared) begun

    module _ (cleared end given : Held S) (same : end ≡ given) where
      clean_end : HasCleanDisk (state g given) → HasCleanDisk (state g end)
      clean_end clean = subst (λ (h : Held S). HasCleanDisk (state g h)) (sym same) clean

      -- the deletion was refused, and the transaction rolled back
      pub clear_refused : (P : Trees → Type 0) → Survives (state g cleared) (state g end) P →
          (HasCleanDisk (state g cleared) → IsTrue first.in_transaction → RefusesInside g delete_text [] first cleared fault) →
          HasCleanDisk (state g given) → RefusesRewrite g bodies old given fault
      clear_refused P two refuses clean =
          inr (inl (
            cleared,
            subst (λ (h : Held S). RefusesInside g delete_text [] h cleared fault) begun
                (refuses (clean_before (state g cleared) (state g end) P two (clean_end clean)) inside),
          ))

      module _ (filled : Held S) (P Q : Trees → Type 0) (one : Survives (state g cleared) (state g filled) P)
          (two : Survives (state g filled) (state g end) Q)
          (clears : HasCleanDisk (state g cleared) → IsTrue first.in_transaction → RunsInside g delete_text [] first cleared)
          (clean : HasCleanDisk (state g given)) where
        clean_filled : HasCleanDisk (state g filled)
        clean_filled = clean_before (state g filled) (state g end) Q two (clean_end clean)

        cleared_so : RunsInside g delete_text [] first cleared
        cleared_so = clears (clean_before (state g cleared) (state g filled) P one clean_filled) inside

        -- a row was
        pub row_refused : (HasCleanDisk (state g filled) → IsTrue cleared.in_transaction →
            FailsToInsert g bodies cleared filled fault) → RefusesRewrite g bodies old given fault
        row_refused fails =
            inr (inr (inl (cleared, filled, runs_begun cleared cleared_so, fails clean_filled cleared_so.1)))

        -- the commit was
        pub commit_refused : (e : Error) → fault ≡ fault_of e →
            (HasCleanDisk (state g filled) → IsTrue cleared.in_transaction → InsertsInside g bodies cleared filled) →
            (HasCleanDisk (state g end) → FailsToCommit (state g filled) (state g end) e) →
            RefusesRewrite g bodies old given fault
        commit_refused e is fills fails =
            inr (inr (inr (
              cleared,
              filled,
              runs_begun cleared cleared_so,
              fills clean_filled cleared_so.1,
              e,
              is,
              subst (λ (h : Held S). FailsToCommit (state g filled) (state g h) e) same (fails (clean_end clean)),
            )))
