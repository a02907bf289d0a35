-- The first of the groups' instances that may be worked on, with one more group.
use Rattle.std.proofs.Common.{◌≡◌, ◌∙◌, ℕ, ◌+◌, ◌<◌, ◌≤◌, List, Option, None, ap, arith, get_or, length, subst, sym, take}
use Rattle.std.specs.Prelude.{fold}
use Rattle.std.specs.List.{enumerate_from}
use Rattle.std.proofs.lemmas.List.{take_all}
use Rattle.std.proofs.lemmas.List.FromFn.{get_or-enumerate_from, length-enumerate_from}
use Rattle.std.proofs.lemmas.List.Sums.{fold_more}
use Rattle.bosh_work.specs.declared.part.GroupPlace.{GroupPlace}
use Rattle.bosh_work.specs.declared.groups.GroupWork.{GroupWork}
use Rattle.bosh_claim.specs.Updated.{first_place, with_claimable}

pub first_more : (stage : ℕ) (groups : List GroupWork) (k : ℕ) (it : GroupWork) → k < length groups
    → it ≡ get_or groups k it
    → fold (with_claimable stage) None (take (k + 1) (enumerate_from 0 groups))
    ≡ with_claimable stage (fold (with_claimable stage) None (take k (enumerate_from 0 groups))) (k, it)
first_more stage groups k it below is =
    let entries : List (ℕ × GroupWork) = enumerate_from 0 groups in
    let more : Option (ℕ × GroupPlace) → ℕ × GroupWork → Option (ℕ × GroupPlace) = with_claimable stage in
    let inside : k < length entries = subst (λ n. k < n) (sym (length-enumerate_from 0 groups)) below in
    let number : 0 + k ≡ k = omega arith in
    fold_more more None entries k (k, it) inside
    ∙ ap (more (fold more None (take k entries)))
    (get_or-enumerate_from 0 groups k (k, it) below ∙ (λ i. (number i, sym is i)))

pub first_all : (stage : ℕ) (groups : List GroupWork) (k : ℕ) → length groups ≤ k
    → fold (with_claimable stage) None (take k (enumerate_from 0 groups)) ≡ first_place groups stage
first_all stage groups k all =
    ap (fold (with_claimable stage) None) (take_all k (enumerate_from 0 groups)
    (subst (λ n. n ≤ k) (sym (length-enumerate_from 0 groups)) all))
