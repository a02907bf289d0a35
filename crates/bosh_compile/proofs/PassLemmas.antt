-- One work more in a pass over the works.
use Rattle.std.proofs.Common.{◌≡◌, ◌≢◌, ◌∙◌, sym, ap, subst, ⊎_elim, ℕ, ◌+◌, ◌≤◌, ◌<◌, Bool, true, false, List, length, get_or, set, arith}
use Rattle.std.proofs.lemmas.Bool.{cases_lt, cases_eq}
use Rattle.std.proofs.lemmas.List.{get_or_default, get_or-set_same, get_or-set_other}
use Rattle.bosh_compile.specs.declared.level.Progress.{Progress}
use Rattle.bosh_compile.specs.declared.table.Node.{Node}
use Rattle.bosh_compile.specs.Rounds.{Advances}

-- the keys at which one of the first works stands that came as far as the round
pub record IsPendingSoFar (nodes : List Node) (progress : List Progress) (round so_far : ℕ) (pending : List Bool) : Type 0 where
  pub same_length : length pending ≡ length nodes
  pub marked : (place : ℕ) (d : Node) (e : Progress) → place < so_far → (get_or progress place e).level ≡ round → get_or pending (get_or nodes place d).key false ≡ true
  pub only : (key : ℕ) (d : Node) (e : Progress) → get_or pending key false ≡ true → (place : ℕ) × (place < so_far) × ((get_or nodes place d).key ≡ key) × ((get_or progress place e).level ≡ round)

set_true_keeps : (xs : List Bool) (i k : ℕ) → i < length xs → get_or xs k false ≡ true → get_or (set xs i true) k false ≡ true
set_true_keeps xs i k in' is = ⊎_elim
    (λ (same : k ≡ i). subst (λ (j : ℕ). get_or (set xs i true) j false ≡ true) (sym same) (get_or-set_same xs i true false in'))
    (λ (other : k ≢ i). get_or-set_other xs i k true false other ∙ is)
    (cases_eq k i)

module _ (nodes : List Node) (progress : List Progress) (round i : ℕ) (pending : List Bool) (before : IsPendingSoFar nodes progress round i pending)
    (node : Node) (is_node : node ≡ get_or nodes i node) (in_nodes : i < length nodes) (in_progress : i < length progress) (p : Progress) where
  at_node : (d : Node) → (get_or nodes i d).key ≡ node.key
  at_node d = ap (λ (n : Node). n.key) (get_or_default nodes i d node in_nodes ∙ sym is_node)

  level_at : (e : Progress) → (get_or progress i e).level ≡ (get_or progress i p).level
  level_at e = ap (λ (q : Progress). q.level) (get_or_default progress i e p in_progress)

  pub one_more_marked : node.key < length pending → (get_or progress i p).level ≡ round → length (set pending node.key true) ≡ length pending → IsPendingSoFar nodes progress round (i + 1) (set pending node.key true)
  one_more_marked in' came same = record {
    same_length = same ∙ before.same_length;
    marked = λ place d e low is. ⊎_elim
        (λ (less : place < i). set_true_keeps pending node.key (get_or nodes place d).key in' (before.marked place d e less is))
        (λ (more : i ≤ place).
        let here : i ≡ place = omega arith in
        subst (λ (j : ℕ). get_or (set pending node.key true) (get_or nodes j d).key false ≡ true) here
        (subst (λ (k : ℕ). get_or (set pending node.key true) k false ≡ true) (sym (at_node d)) (get_or-set_same pending node.key true false in')))
        (cases_lt place i);
    only = λ key d e is. ⊎_elim
        (λ (same : key ≡ node.key). (i, omega arith, at_node d ∙ sym same, level_at e ∙ came))
        (λ (other : key ≢ node.key).
        let found = before.only key d e (sym (get_or-set_other pending node.key key true false other) ∙ is) in
        (found.0, omega (arith, found.1), found.2, found.3))
        (cases_eq key node.key);
  }

  pub one_more_other : (get_or progress i p).level ≢ round → IsPendingSoFar nodes progress round (i + 1) pending
  one_more_other other = record {
    same_length = before.same_length;
    marked = λ place d e low is. ⊎_elim
        (λ (less : place < i). before.marked place d e less is)
        (λ (more : i ≤ place).
        let here : i ≡ place = omega arith in
        absurd (other (sym (level_at e) ∙ ap (λ (j : ℕ). (get_or progress j e).level) here ∙ is)))
        (cases_lt place i);
    only = λ key d e is. let found = before.only key d e is in (found.0, omega (arith, found.1), found.2, found.3);
  }

-- the first works went on, and the others are as they were
pub record AdvanceSoFar (round : ℕ) (nodes : List Node) (pending : List Bool) (so_far : ℕ) (old new : List Progress) : Type 0 where
  pub done : (place : ℕ) (d : Node) (e : Progress) → place < so_far → Advances round (get_or nodes place d).needs pending (get_or old place e) (get_or new place e)
  pub rest : (place : ℕ) (e : Progress) → so_far ≤ place → get_or new place e ≡ get_or old place e

module _ (round : ℕ) (nodes : List Node) (pending : List Bool) (i : ℕ) (old new : List Progress) (before : AdvanceSoFar round nodes pending i old new) where
  pub one_more_advanced : (node : Node) → node ≡ get_or nodes i node → i < length nodes → i < length new → (needs : List ℕ) → needs ≡ node.needs → (p v : Progress) → Advances round needs pending (get_or new i p) v
      → AdvanceSoFar round nodes pending (i + 1) old (set new i v)
  one_more_advanced node is_node in_nodes in_new needs is_needs p v advances = record {
    done = λ place d e low. ⊎_elim
        (λ (less : place < i).
        let other : place ≢ i = omega arith in
        subst (λ (q : Progress). Advances round (get_or nodes place d).needs pending (get_or old place e) q) (sym (get_or-set_other new i place v e other)) (before.done place d e less))
        (λ (more : i ≤ place).
        let here : i ≡ place = omega arith in
        let needs_here : needs ≡ (get_or nodes i d).needs = is_needs ∙ ap (λ (n : Node). n.needs) (is_node ∙ get_or_default nodes i node d in_nodes) in
        let old_here : get_or new i p ≡ get_or old i e = get_or_default new i p e in_new ∙ before.rest i e (omega arith) in
        let at_i : Advances round (get_or nodes i d).needs pending (get_or old i e) (get_or (set new i v) i e) =
        subst (λ (q : Progress). Advances round (get_or nodes i d).needs pending (get_or old i e) q) (sym (get_or-set_same new i v e in_new))
        (subst (λ (q : Progress). Advances round (get_or nodes i d).needs pending q v) old_here
        (subst (λ (ns : List ℕ). Advances round ns pending (get_or new i p) v) needs_here advances)) in
        subst (λ (j : ℕ). Advances round (get_or nodes j d).needs pending (get_or old j e) (get_or (set new i v) j e)) here at_i)
        (cases_lt place i);
    rest = λ place e low.
        let other : place ≢ i = omega arith in
        get_or-set_other new i place v e other ∙ before.rest place e (omega arith);
  }
