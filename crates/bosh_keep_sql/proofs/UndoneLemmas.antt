-- What a transaction that was not committed leaves.
use Rattle.std.proofs.Common.{◌≡◌, ℕ, true, false, refl, List, Result, Ok, Err, inl, inr, sym, ◌∙◌, subst}
use Rattle.std.specs.Prelude.{IsTrue}
use Rattle.bosh_keep_sql.specs.Holding.{IsSettled, IsUnwritten}
use Rattle.sqlite.specs.declared.error.Error.{Error}
use Rattle.sqlite.specs.Held.{Held, state}
use Rattle.sqlite.specs.Order.{Row}
use Rattle.sqlite.specs.State.{ExecutesInside, HasCleanDisk, IsRolledBack, KeepsCommit, State, Survives}
use Rattle.sqlite.specs.Steps.{FailsToCommit}
use Rattle.bosh_keep_sql.proofs.RewriteLemmas.{clean_before}
use Rattle.sqlite.specs.Store.{Ghosts}
use Rattle.sqlite.specs.Tree.{Trees}

pub keeps_same : (s : State) → KeepsCommit s s
keeps_same s = record { was_open = λ still. still; committed = λ still. refl }

pub keeps_both : (a b c : State) → KeepsCommit a b → KeepsCommit b c → KeepsCommit a c
keeps_both a b c one two = record {
  was_open = λ still. one.was_open (two.was_open still);
  committed = λ still. two.committed still ∙ one.committed (two.was_open still);
}

-- a statement inside of a transaction commits nothing
pub inside_keeps : (sql : List ℕ) (params : Row) (old new : State) (result : Result ℕ Error) →
    ExecutesInside 0 sql params old new result → KeepsCommit old new
inside_keeps sql params old new (Ok count) is = record { was_open = λ still. is.1.was_open; committed = λ still. is.1.committed_is }
inside_keeps sql params old new (Err e) (inl (ran, inl same)) =
    record { was_open = λ still. same.0.was_open; committed = λ still. same.0.committed_is }
inside_keeps sql params old new (Err e) (inl (ran, inr undone)) =
    record { was_open = undone.was_open; committed = λ still. (undone.undone still).1 }
inside_keeps sql params old new (Err e) (inr ended) =
    record { was_open = λ still. ended.2.0.was_open; committed = λ still. ended.2.0.committed_is }

module _ {S : Type 0} (g : Ghosts S) (old first mid end given : Held S) (begun : first ≡ record old { in_transaction = true })
    (same : end ≡ given) where
  -- a transaction that was rolled back
  undone : KeepsCommit (state g first) (state g mid) → IsSettled (state g old) →
      IsRolledBack (state g mid) (state g end) → IsUnwritten (state g old) (state g given)
  undone keeps was back =
      let kept : KeepsCommit (state g (record old { in_transaction = true })) (state g mid) =
      subst (λ (h : Held S). KeepsCommit (state g h) (state g mid)) begun keeps in
      subst (λ (h : Held S). IsUnwritten (state g old) (state g h)) same (
        (back.autocommit, λ still. (back.undone still).1 ∙ sym (back.undone still).0),
        λ still.
            let was_open = kept.was_open (back.was_open still) in
            (was_open, (back.undone still).0 ∙ kept.committed (back.was_open still) ∙ was.1 was_open),
      )

  module _ (P : Trees → Type 0) (two : Survives (state g mid) (state g end) P)
      (keeps : HasCleanDisk (state g mid) → IsTrue first.in_transaction → KeepsCommit (state g first) (state g mid))
      (was : IsSettled (state g old)) where
    kept_so : HasCleanDisk (state g end) → KeepsCommit (state g first) (state g mid)
    kept_so clean =
        keeps (clean_before (state g mid) (state g end) P two clean)
        (subst (λ (h : Held S). IsTrue h.in_transaction) (sym begun) refl)

    clean_end : HasCleanDisk (state g given) → HasCleanDisk (state g end)
    clean_end clean = subst (λ (h : Held S). HasCleanDisk (state g h)) (sym same) clean

    pub undone_if : (HasCleanDisk (state g end) → IsRolledBack (state g mid) (state g end)) →
        HasCleanDisk (state g given) → IsUnwritten (state g old) (state g given)
    undone_if back clean = undone (kept_so (clean_end clean)) was (back (clean_end clean))

    -- one whose commit was refused
    pub uncommitted_if : (e : Error) →
        (HasCleanDisk (state g mid) → IsTrue first.in_transaction → IsTrue mid.in_transaction) →
        (HasCleanDisk (state g end) → FailsToCommit (state g mid) (state g end) e) →
        HasCleanDisk (state g given) → IsUnwritten (state g old) (state g given)
    uncommitted_if e inside fails clean = elim (fails (clean_end clean)) [
      | inl fault ↦ undone (kept_so (clean_end clean)) was fault.3
      | inr ended ↦ absurd (
          let in_one =
          inside (clean_before (state g mid) (state g end) P two (clean_end clean))
          (subst (λ (h : Held S). IsTrue h.in_transaction) (sym begun) refl) in
          let bad : true ≡ false = sym in_one ∙ ended.1 in
          cc
          )
    ]

module _ {S : Type 0} (g : Ghosts S) where
  -- two steps of a transaction commit nothing
  pub keeps_through : (first cleared filled : Held S) (P : Trees → Type 0) → Survives (state g cleared) (state g filled) P →
      (HasCleanDisk (state g cleared) → IsTrue first.in_transaction → KeepsCommit (state g first) (state g cleared)) →
      (HasCleanDisk (state g cleared) → IsTrue first.in_transaction → IsTrue cleared.in_transaction) →
      (HasCleanDisk (state g filled) → IsTrue cleared.in_transaction → KeepsCommit (state g cleared) (state g filled)) →
      HasCleanDisk (state g filled) → IsTrue first.in_transaction → KeepsCommit (state g first) (state g filled)
  keeps_through first cleared filled P one clears inside fills clean begun =
      let before = clean_before (state g cleared) (state g filled) P one clean in
      keeps_both (state g first) (state g cleared) (state g filled) (clears before begun) (fills clean (inside before begun))

  pub ended_given : (end given : Held S) → end ≡ given → end.in_transaction ≡ false → given.in_transaction ≡ false
  ended_given end given same ended = subst (λ (h : Held S). h.in_transaction ≡ false) same ended
