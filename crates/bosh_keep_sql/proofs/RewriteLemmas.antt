-- What statements of a transaction have done in turn.
use Rattle.std.proofs.Common.{◌≡◌, ℕ, ◌+◌, ◌<◌, suc, true, false, refl, List, [], ◌∷◌, ◌++◌, Ok, sym, ◌∙◌, ap, subst, arith, take, get_or, length-append}
use Rattle.std.specs.Prelude.{length, IsTrue, Vec}
use Rattle.std.specs.declared.alloc.Global.{Global}
use Rattle.std.proofs.lemmas.List.{take_more}
use Rattle.bosh_ports.specs.Contents.{contents}
use Rattle.bosh_ports.proofs.ContentsLemmas.{contents-push}
use Rattle.bosh_keep_sql.specs.Rewrites.{delete_text, Inserts, InsertsInside, Rewrites, RunsInside}
use Rattle.bosh_keep_sql.specs.Rows.{row_of}
use Rattle.bosh_keep_sql.specs.Statements.{insert_text, Runs}
use Rattle.sqlite.specs.Held.{Held, state}
use Rattle.sqlite.specs.Order.{Row}
use Rattle.sqlite.specs.State.{ExecutesInside, HasCleanDisk, Shows, State, Survives}
use Rattle.sqlite.specs.Store.{Ghosts}
use Rattle.sqlite.specs.Tree.{Trees}

-- a disk that is clean after a call was so before it
pub clean_before : (a b : State) (P : Trees → Type 0) → Survives a b P → HasCleanDisk b → HasCleanDisk a
clean_before a b P one clean = let falls = one.clean in omega (arith, falls, clean)

module _ {S : Type 0} (g : Ghosts S) where
  -- a statement that a transaction ran
  pub ran_inside : (sql : List ℕ) (params : Row) (old new : Held S) (count : ℕ) →
      ExecutesInside 0 sql params (state g old) (state g new) (Ok count) → RunsInside g sql params old new
  ran_inside sql params old new count ran = ((count, ran.0), ran.1.mode)

  -- one row more
  inserts_more : (first : ℕ) (bodies : List (List ℕ)) (body : List ℕ) (old mid new : Held S) →
      Inserts g first bodies old mid → Runs insert_text (row_of (length bodies + first) body) (state g mid) (state g new) →
      Inserts g first (bodies ++ body ∷ []) old new
  inserts_more first [] body old mid new is runs =
      let e : 0 + first ≡ first = omega arith in (
        new,
        subst (λ (h : Held S). Runs insert_text (row_of first body) (state g h) (state g new)) is
            (subst (λ n. Runs insert_text (row_of n body) (state g mid) (state g new)) e runs),
        refl,
      )
  inserts_more first (b ∷ bodies) body old mid new is runs =
      let e : length (b ∷ bodies) + first ≡ length bodies + suc first = omega arith in (
        is.0,
        is.1,
        inserts_more (suc first) bodies body is.0 mid new is.2
            (subst (λ n. Runs insert_text (row_of n body) (state g mid) (state g new)) e runs),
      )

  -- the next row of a list of bodies
  pub inserts_step : (bodies : List (Vec ℕ Global)) (place : ℕ) (item : Vec ℕ Global) (old mid new : Held S) →
      place < length bodies → item ≡ get_or bodies place item → length (contents (take place bodies)) ≡ place →
      Inserts g 0 (contents (take place bodies)) old mid →
      Runs insert_text (row_of place item.items) (state g mid) (state g new) →
      Inserts g 0 (contents (take (place + 1) bodies)) old new
  inserts_step bodies place item old mid new within at size is runs =
      let next : contents (take (place + 1) bodies) ≡ contents (take place bodies) ++ item.items ∷ [] =
      ap contents (take_more bodies place item within)
      ∙ contents-push (take place bodies) (get_or bodies place item)
      ∙ ap (λ (v : Vec ℕ Global). contents (take place bodies) ++ v.items ∷ []) (sym at) in
      let e : place ≡ length (contents (take place bodies)) + 0 = omega (arith, size) in
      subst (λ xs. Inserts g 0 xs old new) (sym next)
      (inserts_more 0 (contents (take place bodies)) item.items old mid new is
      (subst (λ n. Runs insert_text (row_of n item.items) (state g mid) (state g new)) e runs))

  pub inserts_size : (bodies : List (Vec ℕ Global)) (place : ℕ) (item : Vec ℕ Global) → place < length bodies →
      length (contents (take place bodies)) ≡ place → length (contents (take (place + 1) bodies)) ≡ place + 1
  inserts_size bodies place item within size =
      let next : contents (take (place + 1) bodies) ≡ contents (take place bodies) ++ (get_or bodies place item).items ∷ [] =
      ap contents (take_more bodies place item within) ∙ contents-push (take place bodies) (get_or bodies place item) in
      ap length next ∙ length-append (contents (take place bodies)) ((get_or bodies place item).items ∷ [])
      ∙ omega (arith, size)

  -- all statements of a replacement, and its commit
  pub rewritten : (old first cleared filled end given : Held S) (bodies : List (List ℕ)) (P : Trees → Type 0) →
      first ≡ record old { in_transaction = true } → end ≡ given →
      (HasCleanDisk (state g cleared) → IsTrue first.in_transaction → RunsInside g delete_text [] first cleared) →
      (HasCleanDisk (state g filled) → IsTrue cleared.in_transaction → InsertsInside g bodies cleared filled) →
      Survives (state g cleared) (state g filled) (λ _. ⊥) → Survives (state g filled) (state g end) P →
      (HasCleanDisk (state g end) →
      Shows (state g filled) (state g end) (state g filled).now (state g filled).now false) →
      HasCleanDisk (state g given) → Rewrites g bodies old given
  rewritten old first cleared filled end given bodies P begun same clears fills one two shows clean =
      let clean_end : HasCleanDisk (state g end) = subst (λ (h : Held S). HasCleanDisk (state g h)) (sym same) clean in
      let clean_filled : HasCleanDisk (state g filled) = clean_before (state g filled) (state g end) P two clean_end in
      let clean_cleared : HasCleanDisk (state g cleared) =
      clean_before (state g cleared) (state g filled) (λ _. ⊥) one clean_filled in
      let is_begun : IsTrue first.in_transaction =
      subst (λ (h : Held S). IsTrue h.in_transaction) (sym begun) refl in
      let cleared_so = clears clean_cleared is_begun in
      let filled_so = fills clean_filled cleared_so.1 in
      let shown = shows clean_end in (
        cleared,
        filled,
        subst (λ (h : Held S). Runs delete_text [] (state g h) (state g cleared)) begun cleared_so.0,
        filled_so.0,
        subst (λ (h : Held S). (state g h).now ≡ (state g filled).now) same shown.now_is,
        subst (λ (h : Held S). (state g h).committed ≡ (state g filled).now) same shown.committed_is,
      )
