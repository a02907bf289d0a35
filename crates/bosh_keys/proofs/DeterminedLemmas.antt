-- The keys of a deployment are determined: the same works, by the same levels, in one order.
use Rattle.std.proofs.Common.{◌≡◌, ◌≢◌, ◌⊎◌, ◌∙◌, ℕ, suc, ◌≤◌, ◌<◌, Bool, false, cond, List, [], ◌∷◌, length, get_or, arith, refl, sym, subst, ap, inl, inr, true≢false}
use Rattle.std.specs.Prelude.{All, Contains}
use Rattle.std.specs.Cmp.{IsTotalOrder}
use Rattle.std.specs.List.Sorted.{IsSorted}
use Rattle.std.specs.Ordering.{is_eq, is_lt, nat_cmp, ordering_reverse, ordering_then}
use Rattle.std.specs.Cmp.Lexicographic.{slice_cmp}
use Rattle.std.specs.declared.cmp.Ordering.{Ordering}
use Rattle.std.specs.declared.cmp.Ordering.TheVariants.{Less, Equal, Greater}
use Rattle.std.proofs.lemmas.Cmp.{nat_cmp_total, nat_list_cmp_total, on_total, then_total}
use Rattle.std.proofs.lemmas.List.Elements.{All-contains, Contains-get_or}
use Rattle.std.proofs.lemmas.List.Sorted.{ranks_by, sorted_far}
use Rattle.std.proofs.lemmas.List.Sums.{get_or-le-sum_by, sum_by-cons}
use Rattle.bosh_alike.specs.Alike.{AreAlike}
use Rattle.bosh_alike.proofs.ElementLemmas.{first_or_other, here, none_in, there}
use Rattle.bosh_base.specs.declared.key.Key.{Key}
use Rattle.bosh_base.specs.declared.key.KeyWork.{KeyWork}
use Rattle.bosh_compile.specs.CompileOrder.{compile_cmp, key_cmp}
use Rattle.bosh_compile.specs.Level.{IsLevel, one_above}
use Rattle.bosh_compile.specs.Readiness.{same_key}
use Rattle.bosh_compile.proofs.GreatestLemmas.{All-from_Contains}
use Rattle.bosh_compile.proofs.KeyLemmas.{same_key_decides}
use Rattle.bosh_compile.proofs.LevelLemmas.{le-one_above, levels_agree, one_above-le}
use Rattle.bosh_needed.specs.Needed.{StandOnce, how_many}
use Rattle.bosh_release.specs.Sound.{IsSound}
use Rattle.bosh_manifest_names.specs.Used.{UsedGroup}
use Rattle.bosh_keys.specs.Works.{AreKeys, releases_of}
use Rattle.bosh_keys.proofs.GroundLemmas.{works_acyclic}
use Rattle.bosh_keys.proofs.KeyLemmas.{is_eq-key_cmp, key_cmp_total}
use Rattle.bosh_keys.proofs.WorkLemmas.{IsOneOf, one_of_key, works_are_of}

-- ---- lists in an order, each element once

abbrev Within : List KeyWork → List KeyWork → Type 0
Within xs ys = (work : KeyWork) → Contains xs work → Contains ys work

-- no later element is less than the first, nor is it that one
abbrev IsListed : (KeyWork → KeyWork → Bool) → List KeyWork → Type 0
IsListed lt [] = Unit {0}
IsListed lt (x ∷ xs) = ((y : KeyWork) → Contains xs y → (lt y x ≡ false) × (x ≢ y)) × IsListed lt xs

one_list :
    (lt : KeyWork → KeyWork → Bool) (P : KeyWork → Type 0) → ((x y : KeyWork) → P x → P y → lt x y ≡ false → lt y x ≡ false → x ≡ y)
    → (xs ys : List KeyWork) → IsListed lt xs → IsListed lt ys → ((x : KeyWork) → Contains xs x → P x) → Within xs ys → Within ys xs → xs ≡ ys
one_list lt P tells [] [] h k p to from = refl
one_list lt P tells [] (y ∷ ys) h k p to from = absurd (none_in y (from y (here y ys)))
one_list lt P tells (x ∷ xs) [] h k p to from = absurd (none_in x (to x (here x xs)))
one_list lt P tells (x ∷ xs) (y ∷ ys) h k p to from =
    let first : x ≡ y = heads (first_or_other y x ys (to x (here x xs))) (first_or_other x y xs (from y (here y ys))) in
    let rest : xs ≡ ys = one_list lt P tells xs ys h.1 k.1 (λ n c. p n (there x n xs c))
    (λ n c. onward first n c (first_or_other y n ys (to n (there x n xs c))))
    (λ n c. back first n c (first_or_other x n xs (from n (there y n ys c)))) in
    λ i. first i ∷ rest i
  where
    heads : (y ≡ x) ⊎ Contains ys x → (x ≡ y) ⊎ Contains xs y → x ≡ y
    heads (inl e) d = sym e
    heads (inr c) (inl e) = e
    heads (inr c) (inr d) = tells x y (p x (here x xs)) (p y (there x y xs d)) (k.0 x c).0 (h.0 y d).0

    onward : x ≡ y → (n : KeyWork) → Contains xs n → (y ≡ n) ⊎ Contains ys n → Contains ys n
    onward first n c (inl e) = absurd ((h.0 n c).1 (first ∙ e))
    onward first n c (inr d) = d

    back : x ≡ y → (n : KeyWork) → Contains ys n → (x ≡ n) ⊎ Contains xs n → Contains xs n
    back first n c (inl e) = absurd ((k.0 n c).1 (sym first ∙ e))
    back first n c (inr d) = d

-- ---- works that are sorted and stand once

abbrev counts : Key → KeyWork → ℕ
counts key work = cond (same_key work.key key) 1 0

counted_itself : (work : KeyWork) → counts work.key work ≡ 1
counted_itself work = ap (λ (b : Bool). cond {A = ℕ} b 1 0) ((same_key_decides work.key work.key).1 refl)

counted_some : (works : List KeyWork) (work : KeyWork) → Contains works work → 1 ≤ how_many work.key works
counted_some works work (k, lt, is) =
    let at : counts work.key (get_or works k work) ≡ 1 = ap (counts work.key) is ∙ counted_itself work in
    let le = get_or-le-sum_by (counts work.key) works k work in
    omega arith

once_tail : (work : KeyWork) (works : List KeyWork) → StandOnce (work ∷ works) → StandOnce works
once_tail work works once = λ key.
    let all = once key in
    let split = sum_by-cons (counts key) work works in
    omega arith

listed :
    (lt : KeyWork → KeyWork → Bool) (works : List KeyWork)
    → ((i j : ℕ) (d : KeyWork) → i ≤ j → j < length works → lt (get_or works j d) (get_or works i d) ≡ false)
    → StandOnce works → IsListed lt works
listed lt [] up once = tt
listed lt (x ∷ xs) up once = (
  λ y (k, low, is). (
    subst (λ (z : KeyWork). lt z x ≡ false) is (up 0 (suc k) y (omega arith) (omega arith)),
    λ (same : x ≡ y).
        let some = counted_some xs x (k, low, ap (get_or xs k) same ∙ (is ∙ sym same)) in
        let one = counted_itself x in
        let all = once x.key in
        let split = sum_by-cons (counts x.key) x xs in
        omega arith,
  ),
  listed lt xs (λ i j d le low. up (suc i) (suc j) d (omega arith) (omega arith)) (once_tail x xs once),
)

-- ---- the order of compilation

compile_cmp_total : (level : KeyWork → ℕ) → IsTotalOrder (compile_cmp level)
compile_cmp_total level =
    then_total (on_total level nat_cmp_total)
    (then_total (on_total (λ (work : KeyWork). work.name) nat_list_cmp_total) (on_total (λ (work : KeyWork). work.key) key_cmp_total))

compile_lt : (KeyWork → ℕ) → KeyWork → KeyWork → Bool
compile_lt level a b = is_lt (compile_cmp level a b)

sorted_up :
    (level : KeyWork → ℕ) (works : List KeyWork) → IsSorted (compile_cmp level) works
    → (i j : ℕ) (d : KeyWork) → i ≤ j → j < length works → compile_lt level (get_or works j d) (get_or works i d) ≡ false
unfolding compile_lt
sorted_up level works sorted =
    sorted_far (λ x y. is_lt (compile_cmp level x y)) (ranks_by (compile_cmp_total level) (λ x. x)) works sorted

-- levels that are the same at both works compare them alike
same_levels :
    (one other : KeyWork → ℕ) (a b : KeyWork) → one a ≡ other a → one b ≡ other b → compile_lt other a b ≡ false → compile_lt one a b ≡ false
unfolding compile_lt
same_levels one other a b p q h =
    subst (λ n. is_lt (ordering_then (nat_cmp n (one b)) (ordering_then (slice_cmp nat_cmp a.name b.name) (key_cmp a.key b.key))) ≡ false) (sym p)
    (subst (λ n. is_lt (ordering_then (nat_cmp (other a) n) (ordering_then (slice_cmp nat_cmp a.name b.name) (key_cmp a.key b.key))) ≡ false) (sym q) h)

last_equal : (a b : Ordering) → ordering_then a b ≡ Equal → b ≡ Equal
last_equal Less b h = cc
last_equal Equal b h = h
last_equal Greater b h = cc

neither : (a b : Ordering) → a ≡ ordering_reverse b → is_lt a ≡ false → is_lt b ≡ false → a ≡ Equal
neither Less b is h k = absurd (true≢false h)
neither Equal b is h k = refl
neither Greater Less is h k = absurd (true≢false k)
neither Greater Equal is h k = is
neither Greater Greater is h k = cc

neither_key : (level : KeyWork → ℕ) (x y : KeyWork) → compile_lt level x y ≡ false → compile_lt level y x ≡ false → x.key ≡ y.key
unfolding compile_lt
neither_key level x y h k =
    let equal = neither (compile_cmp level x y) (compile_cmp level y x) ((compile_cmp_total level).antisymm x y) h k in
    let keys : key_cmp x.key y.key ≡ Equal =
    last_equal (slice_cmp nat_cmp x.name y.name) (key_cmp x.key y.key)
    (last_equal (nat_cmp (level x) (level y)) (ordering_then (slice_cmp nat_cmp x.name y.name) (key_cmp x.key y.key)) equal) in
    (same_key_decides x.key y.key).0 (sym (is_eq-key_cmp x.key y.key) ∙ ap is_eq keys)

-- ---- levels among the same works

one_above_within : (xs ys : List KeyWork) (level : KeyWork → ℕ) (work : KeyWork) → Within xs ys → one_above xs level work ≤ one_above ys level work
one_above_within xs ys level work to =
    one_above-le xs level work (one_above ys level work) (λ other c needed. le-one_above ys level work other (to other c) needed)

level_within : (xs ys : List KeyWork) (level : KeyWork → ℕ) → Within xs ys → Within ys xs → IsLevel ys level → IsLevel xs level
level_within xs ys level to from is = All-from_Contains (λ work. level work ≡ one_above xs level work) xs (λ work c.
    let at = All-contains (λ (w : KeyWork). level w ≡ one_above ys level w) ys work is (to work c) in
    let up = one_above_within xs ys level work to in
    let down = one_above_within ys xs level work from in
    omega arith)

-- ---- all

module _ (groups : List UsedGroup) (sound : All IsSound (releases_of groups)) (alike : AreAlike (releases_of groups)) (compiled : List Key) where
  keys_within : (one other : List KeyWork) → AreKeys groups compiled one → AreKeys groups compiled other → Within one other
  keys_within one other a b work c = b.all work (a.from_works work c) (a.needed work c) (a.uncompiled work c)

  pub one_answer : (one other : List KeyWork) → AreKeys groups compiled one → AreKeys groups compiled other → one ≡ other
  one_answer one other a b =
      one_list (compile_lt a.ordered.level) (IsOneOf (releases_of groups))
      (λ x y p q h k. one_of_key (releases_of groups) alike sound x y p q (neither_key a.ordered.level x y h k)) one other
      (listed (compile_lt a.ordered.level) one (sorted_up a.ordered.level one a.ordered.ordered) a.once)
      (listed (compile_lt a.ordered.level) other up b.once)
      are (keys_within one other a b) (keys_within other one b a)
    where
      are : (work : KeyWork) → Contains one work → IsOneOf (releases_of groups) work
      are work c = works_are_of groups work (a.from_works work c)

      same : (work : KeyWork) → Contains other work → a.ordered.level work ≡ b.ordered.level work
      same work c =
          All-contains (λ (w : KeyWork). a.ordered.level w ≡ b.ordered.level w) one work
          (levels_agree one (works_acyclic (releases_of groups) alike sound one (λ w c. works_are_of groups w (a.from_works w c))) a.ordered.level b.ordered.level a.ordered.is_level
          (level_within one other b.ordered.level (keys_within one other a b) (keys_within other one b a) b.ordered.is_level))
          (keys_within other one b a work c)

      up : (i j : ℕ) (d : KeyWork) → i ≤ j → j < length other → compile_lt a.ordered.level (get_or other j d) (get_or other i d) ≡ false
      up i j d le low =
          same_levels a.ordered.level b.ordered.level (get_or other j d) (get_or other i d)
          (same (get_or other j d) (Contains-get_or other j d low)) (same (get_or other i d) (Contains-get_or other i d (omega arith)))
          (sorted_up b.ordered.level other b.ordered.ordered i j d le low)
