-- The level of a work: without a cycle it is one more than the greatest level of a listed dependency.
use Rattle.std.proofs.Common.{◌≡◌, ◌⊎◌, ◌∙◌, refl, ap, inl, inr, ⊎_elim, ℕ, zero, suc, ◌+◌, ◌≤◌, ◌<◌, Bool, true, false, cond, leb, List, length, arith}
use Rattle.std.specs.List.{All, Contains}
use Rattle.std.specs.List.Sorted.{IsPermutation}
use Rattle.std.proofs.lemmas.Bool.{cases_lt}
use Rattle.std.proofs.lemmas.Bool.Decides.{nat_tests}
use Rattle.std.proofs.lemmas.List.Elements.{All-contains, All-weaker}
use Rattle.std.proofs.lemmas.List.Sorted.{IsPermutation-sym, Contains-permutation, All-permutation}
use Rattle.bosh_base.specs.declared.key.KeyWork.{KeyWork}
use Rattle.bosh_compile.specs.Level.{needs, one_above, IsLevel, IsGrounded, grounded, IsAcyclic, Falls}
use Rattle.bosh_compile.specs.Rounds.{level_within, last_level}
use Rattle.bosh_compile.proofs.KeyLemmas.{is_among_decides}
use Rattle.bosh_compile.proofs.GreatestLemmas.{All-from_Contains, greatest-le, le-greatest, greatest_reached, how_many, how_many-le-length, how_many_some, how_many_none, how_many-lt}

cond-le : (test : Bool) (m b : ℕ) → (test ≡ true → m ≤ b) → cond test m 0 ≤ b
cond-le true m b h = h refl
cond-le false m b h = omega arith

le-cond : (test : Bool) (m : ℕ) → test ≡ true → m ≤ cond test m 0
le-cond true m h = omega arith
le-cond false m h = cc

cond_reached : (test : Bool) (m n : ℕ) → n < cond test m 0 → (test ≡ true) × (n < m)
cond_reached true m n h = (refl, h)
cond_reached false m n h = absurd (omega arith)

module _ (works : List KeyWork) where
  module _ (number : KeyWork → ℕ) (work : KeyWork) where
    pub one_above-le : (b : ℕ) → ((other : KeyWork) → Contains works other → needs work other ≡ true → suc (number other) ≤ b) → one_above works number work ≤ b
    one_above-le b h = greatest-le (λ other. cond (needs work other) (suc (number other)) 0) works b
        (All-from_Contains (λ other. cond (needs work other) (suc (number other)) 0 ≤ b) works (λ other c. cond-le (needs work other) (suc (number other)) b (h other c)))

    pub le-one_above : (other : KeyWork) → Contains works other → needs work other ≡ true → suc (number other) ≤ one_above works number work
    le-one_above other c needed =
        let a = le-greatest (λ other. cond (needs work other) (suc (number other)) 0) works other c in
        let b = le-cond (needs work other) (suc (number other)) needed in
        omega arith

    one_above_reached : (n : ℕ) → n < one_above works number work → (other : KeyWork) × Contains works other × (needs work other ≡ true) × (n ≤ number other)
    one_above_reached n h =
        let found = greatest_reached (λ other. cond (needs work other) (suc (number other)) 0) works n h in
        let at = cond_reached (needs work found.0) (suc (number found.0)) n found.2 in
        (found.0, found.1, at.0, omega (arith, at.1))

  pub within-le : (n : ℕ) (work : KeyWork) → level_within works n work ≤ n
  within-le zero work = omega arith
  within-le (suc n) work = one_above-le (level_within works n) work (suc n) (λ other c needed. let h = within-le n other in omega arith)

  -- a chain that ends before the n-th dependency does not go on later
  pub within_settled : (n : ℕ) (work : KeyWork) → level_within works n work < n → level_within works (suc n) work ≤ level_within works n work
  within_settled zero work h = absurd (omega arith)
  within_settled (suc n) work h = one_above-le (level_within works (suc n)) work (level_within works (suc n) work) (λ other c needed.
      let a = le-one_above (level_within works n) work other c needed in
      let b = within_settled n other (omega arith) in
      omega arith)

  shallower : (n : ℕ) (work : KeyWork) → suc n ≤ level_within works (suc n) work → n ≤ level_within works n work
  shallower n work deep = ⊎_elim
      (λ (less : level_within works n work < n). let settled = within_settled n work less in absurd (omega arith))
      (λ (more : n ≤ level_within works n work). more)
      (cases_lt (level_within works n work) n)

  -- among the works with a chain of n dependencies, some work has no longer one
  last_deep : (n : ℕ) {work : KeyWork} → IsGrounded works work → Contains works work → n ≤ level_within works n work
      → (last : KeyWork) × Contains works last × (n ≤ level_within works n last) × (level_within works (suc n) last < suc n)
  last_deep n (grounded work below) c deep = ⊎_elim
      (λ (ends : level_within works (suc n) work < suc n). (work, c, deep, ends))
      (λ (goes_on : suc n ≤ level_within works (suc n) work).
      let next = one_above_reached (level_within works n) work n (omega arith) in
      last_deep n (below next.0 next.1 ((is_among_decides next.0.key work.deps).0 next.2)) next.1 next.3)
      (cases_lt (level_within works (suc n) work) (suc n))

  -- whether a chain of n dependencies begins with the work
  abbrev deep : ℕ → KeyWork → Bool
  deep n work = leb n (level_within works n work)

  deep_from : (n : ℕ) (work : KeyWork) → n ≤ level_within works n work → deep n work ≡ true
  deep_from n work h = grind (arith, nat_tests)

  is_deep : (n : ℕ) (work : KeyWork) → deep n work ≡ true → n ≤ level_within works n work
  is_deep n work h = grind (arith, nat_tests)

  not_deep : (n : ℕ) (work : KeyWork) → level_within works n work < n → deep n work ≡ false
  not_deep n work h = grind (arith, nat_tests)

  is_shallow : (n : ℕ) (work : KeyWork) → deep n work ≡ false → level_within works n work < n
  is_shallow n work h = grind (arith, nat_tests)

  module _ (acyclic : IsAcyclic works) where
    fewer_deep : (n : ℕ) (work : KeyWork) → Contains works work → deep n work ≡ true → how_many (deep (suc n)) works < how_many (deep n) works
    fewer_deep n work c h =
        let last = last_deep n (All-contains (IsGrounded works) works work acyclic c) c (is_deep n work h) in
        how_many-lt (deep (suc n)) (deep n) (λ each passes. deep_from n each (shallower n each (is_deep (suc n) each passes)))
        works last.0 last.1 (not_deep (suc n) last.0 last.3) (deep_from n last.0 last.2)

    -- one work at least drops out with each dependency more
    deep_works : (n : ℕ) → (how_many (deep n) works + n ≤ length works) ⊎ (how_many (deep n) works ≡ 0)
    deep_works zero = let h = how_many-le-length (deep 0) works in inl (omega arith)
    deep_works (suc n) = ⊎_elim
        (λ (none : how_many (deep (suc n)) works < 1). inr (omega arith))
        (λ (some : 1 ≤ how_many (deep (suc n)) works).
        let found = how_many_some (deep (suc n)) works (omega arith) in
        let deep_before = deep_from n found.0 (shallower n found.0 (is_deep (suc n) found.0 found.2)) in
        let fewer = fewer_deep n found.0 found.1 deep_before in
        ⊎_elim
        (λ (room : how_many (deep n) works + n ≤ length works). inl (omega arith))
        (λ (none : how_many (deep n) works ≡ 0). absurd (omega arith))
        (deep_works n))
        (cases_lt (how_many (deep (suc n)) works) 1)

    level-lt-length : (work : KeyWork) → Contains works work → level_within works (length works) work < length works
    level-lt-length work c =
        let none : how_many (deep (length works)) works ≡ 0 = ⊎_elim
        (λ (room : how_many (deep (length works)) works + length works ≤ length works). omega arith)
        (λ (none : how_many (deep (length works)) works ≡ 0). none)
        (deep_works (length works)) in
        is_shallow (length works) work (how_many_none (deep (length works)) works none work c)

    -- a work stands a level above each listed dependency
    pub last_level-lt-last_level : (work other : KeyWork) → Contains works work → Contains works other → needs work other ≡ true → last_level works other < last_level works work
    unfolding last_level
    last_level-lt-last_level work other in_work in_other needed =
        let a = le-one_above (level_within works (length works)) work other in_other needed in
        let b = within_settled (length works) work (level-lt-length work in_work) in
        omega arith

  pub within-mono : (n : ℕ) (work : KeyWork) → level_within works n work ≤ level_within works (suc n) work
  within-mono zero work = omega arith
  within-mono (suc n) work = one_above-le (level_within works n) work (level_within works (suc (suc n)) work) (λ other c needed.
      let a = within-mono n other in
      let b = le-one_above (level_within works (suc n)) work other c needed in
      omega arith)

  -- and stands where it ended after any further dependencies
  pub settled-later :
      (more n : ℕ) (work : KeyWork) → level_within works n work < n
      → level_within works (n + more) work ≡ level_within works n work
  settled-later zero n work h =
      let none : n + 0 ≡ n = omega arith in
      ap (λ (rounds : ℕ). level_within works rounds work) none
  settled-later (suc more) n work h =
      let before = settled-later more n work h in
      let settled = within_settled (n + more) work (omega arith) in
      let mono = within-mono (n + more) work in
      let next : level_within works (suc (n + more)) work ≡ level_within works n work = omega arith in
      let count : n + suc more ≡ suc (n + more) = omega arith in
      ap (λ (rounds : ℕ). level_within works rounds work) count ∙ next

  last_level-one_above : IsAcyclic works → (work : KeyWork) → Contains works work → last_level works work ≡ one_above works (last_level works) work
  unfolding last_level
  last_level-one_above acyclic work c =
      let a = within-mono (length works) work in
      let b = within_settled (length works) work (level-lt-length acyclic work c) in
      omega arith

  pub last_levels_are_levels : IsAcyclic works → IsLevel works (last_level works)
  last_levels_are_levels acyclic =
      All-from_Contains (λ work. last_level works work ≡ one_above works (last_level works) work) works (last_level-one_above acyclic)

  -- along a chain that ends, the levels are determined
  module _ (one other : KeyWork → ℕ) (is_one : IsLevel works one) (is_other : IsLevel works other) where
    same_at : {work : KeyWork} → IsGrounded works work → Contains works work → one work ≡ other work
    same_at (grounded work below) c =
        let at_one = All-contains (λ w. one w ≡ one_above works one w) works work is_one c in
        let at_other = All-contains (λ w. other w ≡ one_above works other w) works work is_other c in
        let up = one_above-le one work (one_above works other work) (λ dep listed needed.
        let same = same_at (below dep listed ((is_among_decides dep.key work.deps).0 needed)) listed in
        let le = le-one_above other work dep listed needed in
        omega arith) in
        let down = one_above-le other work (one_above works one work) (λ dep listed needed.
        let same = same_at (below dep listed ((is_among_decides dep.key work.deps).0 needed)) listed in
        let le = le-one_above one work dep listed needed in
        omega arith) in
        omega arith

  pub levels_agree : IsAcyclic works → (one other : KeyWork → ℕ) → IsLevel works one → IsLevel works other → All (λ work. one work ≡ other work) works
  levels_agree acyclic one other is_one is_other =
      All-from_Contains (λ work. one work ≡ other work) works (λ work c. same_at one other is_one is_other (All-contains (IsGrounded works) works work acyclic c) c)

  -- where a rank falls from each work to those that it needs, no chain goes on for ever
  module _ (rank : KeyWork → ℕ) (falls : Falls rank works) where
    grounded_below : (n : ℕ) (work : KeyWork) → Contains works work → rank work < n → IsGrounded works work
    grounded_below zero work c low = absurd (omega arith)
    grounded_below (suc n) work c low = grounded work (λ other listed needed.
        let fall = falls work other c listed needed in
        grounded_below n other listed (omega arith))

    pub acyclic_by_rank : IsAcyclic works
    acyclic_by_rank = All-from_Contains (IsGrounded works) works (λ work c. grounded_below (suc (rank work)) work c (omega arith))

-- the order of the list does not matter
one_above-le-one_above : (xs ys : List KeyWork) → IsPermutation xs ys → (level : KeyWork → ℕ) (work : KeyWork) → one_above xs level work ≤ one_above ys level work
one_above-le-one_above xs ys same level work =
    one_above-le xs level work (one_above ys level work) (λ other c needed. le-one_above ys level work other (Contains-permutation xs ys other same c) needed)

pub one_above-permutation : (xs ys : List KeyWork) → IsPermutation xs ys → (level : KeyWork → ℕ) (work : KeyWork) → one_above xs level work ≡ one_above ys level work
one_above-permutation xs ys same level work =
    let up = one_above-le-one_above xs ys same level work in
    let down = one_above-le-one_above ys xs (IsPermutation-sym xs ys same) level work in
    omega arith

pub levels_moved : (xs ys : List KeyWork) → IsPermutation xs ys → (level : KeyWork → ℕ) → IsLevel xs level → IsLevel ys level
levels_moved xs ys same level is =
    All-permutation (λ work. level work ≡ one_above ys level work) xs ys same
    (All-weaker (λ work. level work ≡ one_above xs level work) (λ work. level work ≡ one_above ys level work)
    (λ work e. e ∙ one_above-permutation xs ys same level work) xs is)
