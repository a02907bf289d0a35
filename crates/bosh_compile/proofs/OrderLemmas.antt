-- Works sorted beside their levels are in the order of compilation.
use Rattle.std.proofs.Common.{◌≡◌, ap, refl, sym, subst, ℕ, ◌+◌, ◌≤◌, ◌<◌, false, List, [], ◌∷◌, map, length, get_or, arith}
use Rattle.std.specs.declared.cmp.Ordering.{Ordering}
use Rattle.std.specs.declared.cmp.Ordering.TheVariants.{Less, Equal, Greater}
use Rattle.std.specs.Ordering.{nat_cmp, ordering_then, is_lt}
use Rattle.std.specs.Cmp.Lexicographic.{slice_cmp}
use Rattle.std.specs.List.{All}
use Rattle.std.specs.List.Sorted.{IsPermutation, IsSorted, IsNonDecreasingBy}
use Rattle.std.proofs.Math.ListN.{get_or-map}
use Rattle.std.proofs.lemmas.Bool.Decides.{nat_tests}
use Rattle.std.proofs.lemmas.List.{length-map}
use Rattle.std.proofs.lemmas.List.Elements.{All-map, Contains-get_or}
use Rattle.std.proofs.lemmas.List.Sorted.{IsPermutation-map, IsPermutation-sym, Contains-permutation, All-permutation, IsNonDecreasingBy-from_all_adjacent}
use Rattle.bosh_base.specs.declared.key.Key.{Key}
use Rattle.bosh_base.specs.declared.key.KeyWork.{KeyWork}
use Rattle.bosh_compile.specs.declared.order.Leveled.{Leveled}
use Rattle.bosh_compile.specs.CompileOrder.{key_cmp, compile_cmp, IsInCompileOrder}
use Rattle.bosh_compile.specs.Level.{IsAcyclic}
use Rattle.bosh_compile.specs.Rounds.{last_level}
use Rattle.bosh_compile.specs.Leveled.{with_level, work_of}
use Rattle.bosh_compile.proofs.KeyLemmas.{is_among_decides}
use Rattle.bosh_compile.proofs.LevelLemmas.{last_levels_are_levels, last_level-lt-last_level, levels_moved}

map-work_of : (level_of : KeyWork → ℕ) (works : List KeyWork) → map work_of (map (with_level level_of) works) ≡ works
map-work_of level_of [] = refl
map-work_of level_of (work ∷ works) = ap (λ (rest : List KeyWork). work ∷ rest) (map-work_of level_of works)

pub same_works : (works : List KeyWork) (sorted : List Leveled) → IsPermutation (map (with_level (last_level works)) works) sorted → IsPermutation works (map work_of sorted)
same_works works sorted moved =
    subst (λ (xs : List KeyWork). IsPermutation xs (map work_of sorted)) (map-work_of (last_level works) works)
    (IsPermutation-map work_of (map (with_level (last_level works)) works) sorted moved)

-- what a last test decides between equals does not matter
before_ties : (a b c d : Ordering) → is_lt (ordering_then a (ordering_then b (ordering_then c d))) ≡ false → is_lt (ordering_then a (ordering_then b c)) ≡ false
before_ties Less b c d h = h
before_ties Greater b c d h = refl
before_ties Equal Less c d h = h
before_ties Equal Greater c d h = refl
before_ties Equal Equal Less d h = h
before_ties Equal Equal Equal d h = refl
before_ties Equal Equal Greater d h = refl

not_less : (m n : ℕ) (o : Ordering) → is_lt (ordering_then (nat_cmp m n) o) ≡ false → n ≤ m
not_less m n o h = grind (arith, nat_tests)

module _ (works : List KeyWork) (sorted : List Leveled) (deps_cmp : List Key → List Key → Ordering)
    (moved : IsPermutation (map (with_level (last_level works)) works) sorted)
    (in_order : IsSorted (λ a b. ordering_then (nat_cmp a.level b.level) (ordering_then (slice_cmp nat_cmp a.name b.name) (ordering_then (key_cmp a.key b.key) (deps_cmp a.deps b.deps)))) sorted) where
  levels_stand : All (λ item. item.level ≡ last_level works (work_of item)) sorted
  levels_stand =
      All-permutation (λ item. item.level ≡ last_level works (work_of item)) (map (with_level (last_level works)) works) sorted moved
      (All-map (λ item. item.level ≡ last_level works (work_of item)) (with_level (last_level works)) works (λ k d in'. refl))

  by_compile_cmp : IsSorted (compile_cmp (last_level works)) (map work_of sorted)
  by_compile_cmp = λ k d low in'.
      let e : Leveled = with_level (λ _. 0) d in
      let short : k + 1 < length sorted = subst (λ (n : ℕ). k + 1 < n) (length-map sorted work_of) in' in
      let later = get_or sorted (k + 1) e in
      let earlier = get_or sorted k e in
      let here = before_ties (nat_cmp later.level earlier.level) (slice_cmp nat_cmp later.name earlier.name) (key_cmp later.key earlier.key) (deps_cmp later.deps earlier.deps) (in_order k e low short) in
      let in_levels : is_lt (compile_cmp (last_level works) (work_of later) (work_of earlier)) ≡ false =
      subst (λ (n : ℕ). is_lt (ordering_then (nat_cmp n (last_level works (work_of earlier))) (ordering_then (slice_cmp nat_cmp later.name earlier.name) (key_cmp later.key earlier.key))) ≡ false)
      (levels_stand (k + 1) e short)
      (subst (λ (n : ℕ). is_lt (ordering_then (nat_cmp later.level n) (ordering_then (slice_cmp nat_cmp later.name earlier.name) (key_cmp later.key earlier.key))) ≡ false)
      (levels_stand k e (omega arith)) here) in
      subst (λ (x : KeyWork). is_lt (compile_cmp (last_level works) x (get_or (map work_of sorted) k d)) ≡ false) (sym (get_or-map work_of sorted (k + 1) e))
      (subst (λ (x : KeyWork). is_lt (compile_cmp (last_level works) (work_of later) x) ≡ false) (sym (get_or-map work_of sorted k e)) in_levels)

  levels_rise : IsNonDecreasingBy (last_level works) (map work_of sorted)
  levels_rise = IsNonDecreasingBy-from_all_adjacent (last_level works) (map work_of sorted) (λ k d in'.
      let later = get_or (map work_of sorted) (k + 1) d in
      let earlier = get_or (map work_of sorted) k d in
      not_less (last_level works later) (last_level works earlier) (ordering_then (slice_cmp nat_cmp later.name earlier.name) (key_cmp later.key earlier.key)) (by_compile_cmp k d (omega arith) in'))

  pub is_in_compile_order : IsAcyclic works → IsInCompileOrder (map work_of sorted)
  is_in_compile_order acyclic = record {
    level = last_level works;
    is_level = levels_moved works (map work_of sorted) (same_works works sorted moved) (last_level works) (last_levels_are_levels works acyclic);
    ordered = by_compile_cmp;
    after_dependencies = λ i j d before in' needed.
        let ordered = map work_of sorted in
        let back = IsPermutation-sym works ordered (same_works works sorted moved) in
        let work = get_or ordered i d in
        let other = get_or ordered j d in
        let work_listed = Contains-permutation ordered works work back (Contains-get_or ordered i d (omega arith)) in
        let other_listed = Contains-permutation ordered works other back (Contains-get_or ordered j d in') in
        let below = last_level-lt-last_level works acyclic work other work_listed other_listed ((is_among_decides other.key work.deps).1 needed) in
        let rise = levels_rise i j d before in' in
        omega (arith, below, rise);
  }
