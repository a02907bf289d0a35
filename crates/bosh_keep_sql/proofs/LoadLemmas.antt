-- What a load has found after statements in turn.
use Rattle.std.proofs.Common.{◌≡◌, ℕ, List, [], Result, Ok, Err, inr, subst, sym, ◌∙◌}
use Rattle.std.specs.Prelude.{IfErr, IfOk, IsErrAnd, OnErr, OnOk}
use Rattle.bosh_keep_sql.specs.declared.fault.LoadFault.{LoadFault}
use Rattle.bosh_keep_sql.specs.declared.table.Contents.{Contents}
use Rattle.bosh_keep_sql.specs.declared.table.Contents.TheVariants.{Nothing}
use Rattle.bosh_keep_sql.specs.Loads.{FailsToFind, FailsToPrepare, FailsToRead, Finds, IsPrepared, ListsBodies, RefusesTable, Shows}
use Rattle.bosh_keep_sql.specs.Statements.{make_text, Runs}
use Rattle.bosh_ports.specs.declared.keeper.KeepFault.{KeepFault}
use Rattle.bosh_ports.specs.declared.keeper.KeepFault.TheVariants.{Failed}
use Rattle.sqlite.specs.Held.{Held, state}
use Rattle.sqlite.specs.Store.{Ghosts}

-- a fault that was passed on
pub passed : {T F : Type 0} (P : F → Type 0) (answer : Result T F) (fault : F) →
    IsErrAnd answer (λ given. given ≡ fault) → P fault → IfErr answer P
passed P (Ok value) fault is p = tt
passed P (Err given) fault is p = subst P (sym is) p

-- what holds where a fault was passed on
pub passed_on : {T F : Type 0} (P : Type 0) (answer : Result T F) (fault : F) → IsErrAnd answer (λ given. given ≡ fault) →
    P → OnErr answer P
passed_on P (Ok value) fault is p = tt
passed_on P (Err given) fault is p = p

-- a fault that was passed on, where it is known which
pub passed_failed : {T : Type 0} (P : KeepFault → Type 0) (answer : Result T KeepFault) (fault : KeepFault) →
    IsErrAnd answer (λ given. given ≡ fault) → answer ≡ Err Failed → P fault → P Failed
passed_failed P (Ok value) fault is told p = absurd is
passed_failed P (Err given) fault is told p = let known : given ≡ Failed = cc in subst P (sym is ∙ known) p

module _ {S T : Type 0} (g : Ghosts S) (old mid new : Held S) (has : Contents) (is : has ≡ Nothing)
    (shows : Shows g old mid has) where
  -- the table that was made where there was nothing
  pub made : (result : Result T LoadFault) → OnOk result (Runs make_text [] (state g mid) (state g new)) →
      OnOk result (IsPrepared g old new)
  made (Ok done) runs = inr (mid, subst (Shows g old mid) is shows, runs)
  made (Err fault) runs = tt

  pub not_made : (result : Result T LoadFault) → IfErr result (RefusesTable g mid new) →
      IfErr result (FailsToPrepare g old new)
  not_made (Ok done) refused = tt
  not_made (Err fault) refused = inr (inr (mid, subst (Shows g old mid) is shows, refused))

module _ {S : Type 0} (g : Ghosts S) (old mid new : Held S) where
  -- what is read of a database that was prepared
  pub found_in : {B : Type 0} (bodies_in : B → List (List ℕ)) (result : Result B LoadFault) → IsPrepared g old mid →
      IfOk result (λ bodies. ListsBodies g mid new (bodies_in bodies)) →
      IfOk result (λ bodies. Finds g old new (bodies_in bodies))
  found_in bodies_in (Ok bodies) prepared lists = (mid, prepared, lists)
  found_in bodies_in (Err fault) prepared lists = tt

  pub unread : {B : Type 0} (result : Result B LoadFault) → IsPrepared g old mid →
      IfErr result (FailsToRead g mid new) → IfErr result (FailsToFind g old new)
  unread (Ok bodies) prepared refused = tt
  unread (Err fault) prepared refused = inr (mid, prepared, refused)
