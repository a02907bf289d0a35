-- What a crash leaves after calls in turn.
use Rattle.std.proofs.Common.{◌≡◌, true, refl, subst, inl, arith}
use Rattle.bosh_keep_sql.specs.Statements.{IsOneCommit}
use Rattle.sqlite.proofs.Callers.{survives_begin}
use Rattle.sqlite.proofs.StateLemmas.{survives_then, survives_weaker}
use Rattle.sqlite.specs.Held.{Held, state}
use Rattle.sqlite.specs.State.{HasCleanDisk, State, Survives}
use Rattle.sqlite.specs.Store.{Ghosts}
use Rattle.sqlite.specs.Tree.{Trees}

-- a call that does nothing
pub survives_same : (s : State) (P : Trees → Type 0) → Survives s s P
survives_same s P = record {
  clean = omega arith;
  shield = λ shielded. shielded;
  counts = omega arith;
  limit = refl;
  closes = λ clean is. inl is;
  crash = λ clean db may. inl may;
}

-- two calls that commit nothing
pub survives_both : (a b c : State) → Survives a b (λ _. ⊥) → Survives b c (λ _. ⊥) → Survives a c (λ _. ⊥)
survives_both a b c one two = survives_then a b c _ _ (λ _. ⊥) (λ _ db none. none) (λ _ db none. none) one two

-- one that commits nothing, and one that commits its own, are one commit
pub one_commit : (a b c : State) (after : Trees) → Survives a b (λ _. ⊥) → Survives b c (λ db. db ≡ after) → IsOneCommit a c
one_commit a b c after one two =
    (after, survives_then a b c _ _ (λ db. db ≡ after) (λ _ db none. absurd none) (λ _ db is. is) one two)

-- calls that commit nothing are no more than one commit
pub no_commit : (a b : State) → Survives a b (λ _. ⊥) → IsOneCommit a b
no_commit a b one = (a.now.trees, survives_weaker a b _ _ (λ _ db none. absurd none) one)

-- a call that changes nothing is no more than one commit
pub same_commit : (s : State) → IsOneCommit s s
same_commit s = (s.now.trees, survives_same s _)

-- a transaction that began, and ended as its last call says
begun : {S : Type 0} (g : Ghosts S) (old first mid : Held S) → first ≡ record old { in_transaction = true } →
    Survives (state g first) (state g mid) (λ _. ⊥) → Survives (state g old) (state g mid) (λ _. ⊥)
begun {S} g old first mid is one =
    survives_begin g old (state g mid) _
    (subst (λ (h : Held S). Survives (state g h) (state g mid) (λ _. ⊥)) is one)

pub begun_undone : {S : Type 0} (g : Ghosts S) (old first mid end given : Held S) →
    first ≡ record old { in_transaction = true } → end ≡ given → Survives (state g first) (state g mid) (λ _. ⊥) →
    Survives (state g mid) (state g end) (λ _. ⊥) → IsOneCommit (state g old) (state g given)
begun_undone {S} g old first mid end given is same one two =
    subst (λ (h : Held S). IsOneCommit (state g old) (state g h)) same
    (no_commit (state g old) (state g end)
    (survives_both (state g old) (state g mid) (state g end) (begun g old first mid is one) two))

pub begun_committed : {S : Type 0} (g : Ghosts S) (old first mid end given : Held S) →
    first ≡ record old { in_transaction = true } → end ≡ given → Survives (state g first) (state g mid) (λ _. ⊥) →
    Survives (state g mid) (state g end) (λ db. db ≡ (state g mid).now.trees) →
    IsOneCommit (state g old) (state g given)
begun_committed {S} g old first mid end given is same one two =
    subst (λ (h : Held S). IsOneCommit (state g old) (state g h)) same
    (one_commit (state g old) (state g mid) (state g end) (state g mid).now.trees (begun g old first mid is one) two)

-- a disk that is clean after one commit was so before it
pub clean_commit : (a b : State) → IsOneCommit a b → HasCleanDisk b → HasCleanDisk a
clean_commit a b one clean = let falls = one.1.clean in omega (arith, falls, clean)
