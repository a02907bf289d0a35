-- The table of a keeper holds just its bodies, statement after statement.
use Rattle.std.proofs.Common.{◌≡◌, ℕ, ◌+◌, suc, true, false, refl, List, [], ◌∷◌, ◌++◌, Result, Ok, Err, inl, inr, sym, ◌∙◌, ap, subst, arith, append_assoc, append-nil, length-append}
use Rattle.std.specs.Prelude.{length, not, Bool, IfOk, IsTrue}
use Rattle.bosh_keep_sql.specs.declared.fault.LoadFault.{LoadFault}
use Rattle.bosh_keep_sql.specs.Ending.{StandsAlone}
use Rattle.bosh_keep_sql.specs.Holding.{Adds, Holds, IsSettled, IsTied, IsUnwritten, Makes}
use Rattle.bosh_keep_sql.specs.Loads.{ListsBodies}
use Rattle.bosh_keep_sql.specs.Rewrites.{Inserts, Rewrites}
use Rattle.bosh_keep_sql.specs.Rows.{row_of}
use Rattle.bosh_keep_sql.specs.Statements.{insert_text, Runs}
use Rattle.sqlite.specs.Effect.{Database}
use Rattle.sqlite.specs.Held.{Held, state}
use Rattle.sqlite.specs.State.{HasCleanDisk, State}
use Rattle.sqlite.specs.Closing.{IsCopied}
use Rattle.sqlite.specs.Files.{over_files}
use Rattle.sqlite.specs.Store.{Ghosts}
use Rattle.sqlite_disk.specs.declared.Disk as disk
use Rattle.sqlite_disk.specs.declared.Files.{Files}
use Rattle.sqlite_store.specs.declared.store.FileStore.{FileStore}

module _ {S : Type 0} (g : Ghosts S) where
  -- one row more
  adds_more : (first : ℕ) (bodies : List (List ℕ)) (body : List ℕ) (db mid after : Database) → Adds g first bodies db mid →
      Makes g insert_text (row_of (length bodies + first) body) mid after → Adds g first (bodies ++ body ∷ []) db after
  adds_more first [] body db mid after is makes =
      let e : 0 + first ≡ first = omega arith in (
        after,
        subst (λ d. Makes g insert_text (row_of first body) d after) is
            (subst (λ n. Makes g insert_text (row_of n body) mid after) e makes),
        refl,
      )
  adds_more first (b ∷ bodies) body db mid after is makes =
      let e : length (b ∷ bodies) + first ≡ length bodies + suc first = omega arith in (
        is.0,
        is.1,
        adds_more (suc first) bodies body is.0 mid after is.2
            (subst (λ n. Makes g insert_text (row_of n body) mid after) e makes),
      )

  -- rows that a transaction inserted
  adds_of : (first : ℕ) (bodies : List (List ℕ)) (old new : Held S) → Inserts g first bodies old new →
      Adds g first bodies (state g old).now (state g new).now
  adds_of first [] old new is = ap (λ (h : Held S). (state g h).now) is
  adds_of first (body ∷ bodies) old new is =
      ((state g is.0).now, (old, is.0, refl, refl, is.1), adds_of (suc first) bodies is.0 new is.2)

  -- what was listed
  pub holds_listed : (bodies : List (List ℕ)) (old new : Held S) → ListsBodies g old new bodies →
      Holds g bodies (state g old).now
  holds_listed bodies old new lists =
      ((state g old).now, bodies, [], sym (append-nil bodies), inl (old, new, refl, lists), refl)

  holds_more : (bodies : List (List ℕ)) (body : List ℕ) (db after : Database) → Holds g bodies db →
      Makes g insert_text (row_of (length bodies) body) db after → Holds g (bodies ++ body ∷ []) after
  holds_more bodies body db after h makes =
      let e : length bodies ≡ length h.2 + length h.1 = ap length h.3 ∙ length-append h.1 h.2 ∙ omega arith in (
        h.0,
        h.1,
        h.2 ++ body ∷ [],
        ap (λ xs. xs ++ body ∷ []) h.3 ∙ append_assoc h.1 h.2 (body ∷ []),
        h.4,
        adds_more (length h.1) h.2 body h.0 db after h.5
            (subst (λ n. Makes g insert_text (row_of n body) db after) e makes),
      )

  holds_rewritten : (bodies : List (List ℕ)) (old new : Held S) → Rewrites g bodies old new → Holds g bodies (state g new).now
  holds_rewritten bodies old new r = (
    (state g r.0).now,
    [],
    bodies,
    refl,
    inr (
      refl,
      (
        (state g (record old { in_transaction = true })).now,
        (record old { in_transaction = true }, r.0, refl, refl, r.2),
      ),
    ),
    subst (λ d. Adds g 0 bodies (state g r.0).now d) (sym r.4) (adds_of 0 bodies r.0 r.1 r.3),
  )

  -- a call that wrote nothing
  pub tied_unwritten : (bodies : List (List ℕ)) (old new : Held S) → IsTied g old bodies →
      (HasCleanDisk (state g new) → HasCleanDisk (state g old)) →
      (HasCleanDisk (state g new) → IsSettled (state g old) → IsUnwritten (state g old) (state g new)) → IsTied g new bodies
  tied_unwritten bodies old new tied before unwritten = λ clean.
      let was = tied (before clean) in
      let now = unwritten clean was.0 in
      (now.0, λ still. let same = now.1 still in subst (Holds g bodies) (sym same.1) (was.1 same.0))

  -- one that inserted the row of a body
  pub tied_written : (bodies : List (List ℕ)) (body : List ℕ) (old new : Held S) → IsTied g old bodies →
      (HasCleanDisk (state g new) → HasCleanDisk (state g old)) →
      (HasCleanDisk (state g new) → IsSettled (state g old) → IsSettled (state g new) × IsTrue (state g old).is_open) →
      (HasCleanDisk (state g new) → Runs insert_text (row_of (length bodies) body) (state g old) (state g new)) →
      IsTied g new (bodies ++ body ∷ [])
  tied_written bodies body old new tied before written runs = λ clean.
      let was = tied (before clean) in
      let now = written clean was.0 in
      (now.0, λ still. holds_more bodies body (state g old).now (state g new).now (was.1 now.1) (old, new, refl, refl, runs clean))

  -- one that rewrote all
  pub tied_rewritten : (bodies : List (List ℕ)) (old new : Held S) → new.in_transaction ≡ false →
      (HasCleanDisk (state g new) → Rewrites g bodies old new) → IsTied g new bodies
  tied_rewritten bodies old new ended rewrites = λ clean.
      let r = rewrites clean in
      ((ended, λ still. r.5 ∙ sym r.4), λ still. holds_rewritten bodies old new r)

  -- what a load listed
  pub tied_listed : {B : Type 0} (bodies_in : B → List (List ℕ)) (result : Result B LoadFault) (mid new : Held S) →
      (HasCleanDisk (state g new) → IsSettled (state g mid)) →
      (HasCleanDisk (state g new) → IsSettled (state g mid) → IsUnwritten (state g mid) (state g new)) →
      (HasCleanDisk (state g new) → IfOk result (λ bodies. ListsBodies g mid new (bodies_in bodies))) →
      IfOk result (λ bodies. IsTied g new (bodies_in bodies))
  tied_listed bodies_in (Ok found) mid new settled unwritten lists = λ clean.
      let now = unwritten clean (settled clean) in (
        now.0,
        λ still. subst (Holds g (bodies_in found)) (sym (now.1 still).1)
            (holds_listed (bodies_in found) mid new (lists clean)),
      )
  tied_listed bodies_in (Err fault) mid new settled unwritten lists = tt

-- a connection that tells that it is in no transaction
pub settled_of : (s : State) (autocommit : Bool) → autocommit ≡ not s.in_transaction →
    (IsTrue autocommit → IsTrue s.is_open → s.now ≡ s.committed) → IsTrue autocommit → IsSettled s
settled_of s autocommit told same is =
    (outside s.in_transaction (sym told ∙ is), λ still. sym (same is still))
  where
    outside : (b : Bool) → not b ≡ true → b ≡ false
    outside true is_off = absurd cc
    outside false is_off = refl

-- a database file that has all of it alone
pub stands_alone : {D : Type 0} {g : disk.Ghosts D} (bodies : List (List ℕ)) (connection : Held (FileStore D g)) (files : Files D) →
    IsTied (over_files {D = D} {g = g}) connection bodies → IsCopied connection files → StandsAlone bodies connection files
stands_alone {D} {g} bodies connection files tied copied =
    let is = tied copied.was_clean in (
      copied,
      subst (Holds (over_files {D = D} {g = g}) bodies) (sym (is.0.1 copied.was_open)) (is.1 copied.was_open),
    )
