-- Keys that are in compile order are so when they are looked at one after another.
use Rattle.std.proofs.Common.{◌≡◌, ◌∙◌, ℕ, suc, ◌+◌, ◌<◌, ◌≤◌, Bool, true, false, true≢false, cond, List, [], ◌∷◌, length, get_or, ap, refl, sym, subst, arith}
use Rattle.std.specs.Cmp.{IsTotalOrder}
use Rattle.std.specs.Cmp.Lexicographic.{slice_cmp}
use Rattle.std.specs.List.{AllByRecursion}
use Rattle.std.specs.List.Sorted.{IsSorted}
use Rattle.std.specs.Ordering.{is_eq, is_lt, nat_cmp, ordering_reverse, ordering_then}
use Rattle.std.specs.declared.cmp.Ordering.{Ordering}
use Rattle.std.specs.declared.cmp.Ordering.TheVariants.{Less, Equal, Greater}
use Rattle.std.proofs.lemmas.Bool.{false_from_ne_true}
use Rattle.std.proofs.lemmas.Cmp.{nat_cmp_total, nat_list_cmp_total, on_total, then_total}
use Rattle.std.proofs.lemmas.List.Sums.{sum_by-cons}
use Rattle.bosh_base.specs.declared.key.Key.{Key}
use Rattle.bosh_base.specs.declared.key.KeyWork.{KeyWork}
use Rattle.bosh_compile.specs.CompileOrder.{AfterDependencies, compile_cmp, key_cmp}
use Rattle.bosh_compile.specs.Level.{needs}
use Rattle.bosh_compile.specs.Readiness.{same_key}
use Rattle.bosh_compile.proofs.KeyLemmas.{is_among_decides, same_key_decides}
use Rattle.bosh_keys.proofs.KeyLemmas.{is_eq-key_cmp, key_cmp_total}
use Rattle.bosh_needed.specs.Needed.{StandOnce, how_many}
use Rattle.bosh_pool.proofs.ListLemmas.{Pairs}
use Rattle.laws_goals.proofs.ListLemmas.{all_from_index}

-- ---- each key once

pub key-flip : (a b : Key) → same_key a b ≡ true → same_key b a ≡ true
key-flip a b h = (same_key_decides b a).1 (sym ((same_key_decides a b).0 h))

abbrev pub OtherKey : KeyWork → KeyWork → Type 0
OtherKey a b = same_key b.key a.key ≡ false

none-more : (key : Key) (works : List KeyWork) → how_many key works ≡ 0 → AllByRecursion (λ work. same_key work.key key ≡ false) works
none-more key [] none = tt
none-more key (work ∷ works) none =
    by (same_key work.key key) refl (sym (sum_by-cons (λ (w : KeyWork). cond (same_key w.key key) 1 0) work works) ∙ none) (none-more key works)
  where
    by : (b : Bool) → same_key work.key key ≡ b → cond b 1 0 + how_many key works ≡ 0 → (how_many key works ≡ 0 → AllByRecursion (λ w. same_key w.key key ≡ false) works)
        → AllByRecursion (λ w. same_key w.key key ≡ false) (work ∷ works)
    by true e nought rest = absurd (omega arith)
    by false e nought rest = (e, rest (omega arith))

fewer : (work : KeyWork) (works : List KeyWork) → StandOnce (work ∷ works) → (key : Key) → how_many key works ≤ 1
fewer work works once key =
    let whole : how_many key (work ∷ works) ≤ 1 = once key in
    let split : how_many key (work ∷ works) ≡ cond (same_key work.key key) 1 0 + how_many key works = sum_by-cons (λ (w : KeyWork). cond (same_key w.key key) 1 0) work works in
    omega arith

none-after : (work : KeyWork) (works : List KeyWork) → StandOnce (work ∷ works) → how_many work.key works ≡ 0
none-after work works once =
    let whole : how_many work.key (work ∷ works) ≤ 1 = once work.key in
    let split : how_many work.key (work ∷ works) ≡ cond (same_key work.key work.key) 1 0 + how_many work.key works =
    sum_by-cons (λ (w : KeyWork). cond (same_key w.key work.key) 1 0) work works in
    let here : cond {A = ℕ} (same_key work.key work.key) 1 0 ≡ 1 = ap (λ (b : Bool). cond {A = ℕ} b 1 0) ((same_key_decides work.key work.key).1 refl) in
    omega arith

pub once-pairs : (works : List KeyWork) → StandOnce works → Pairs OtherKey works
once-pairs [] once = tt
once-pairs (work ∷ works) once = (none-more work.key works (none-after work works once), once-pairs works (fewer work works once))

-- ---- none needs itself or a later one

abbrev pub Unneeded : KeyWork → List KeyWork → Type 0
Unneeded work works = AllByRecursion (λ other. needs work other ≡ false) works

abbrev pub NoLater : List KeyWork → Type 0
NoLater [] = Unit {0}
NoLater (work ∷ works) = Unneeded work (work ∷ works) × NoLater works

pub no-later : (works : List KeyWork) → AfterDependencies works → NoLater works
no-later [] after = tt
no-later (work ∷ works) after = (
  all_from_index (λ other. needs work other ≡ false) (work ∷ works)
      (λ k d within. false_from_ne_true (needs work (get_or (work ∷ works) k d)) (λ h. after 0 k d (omega arith) within ((is_among_decides (get_or (work ∷ works) k d).key work.deps).0 h))),
  no-later works (λ i j d le within. after (suc i) (suc j) d (omega arith) (omega arith)),
)

-- ---- each comes after the one before it

compile-total : (level : KeyWork → ℕ) → IsTotalOrder (compile_cmp level)
compile-total level =
    then_total (on_total level nat_cmp_total)
    (then_total (on_total (λ (work : KeyWork). work.name) nat_list_cmp_total) (on_total (λ (work : KeyWork). work.key) key_cmp_total))

last-tie : (a b c : Ordering) → ordering_then a (ordering_then b c) ≡ Equal → is_eq c ≡ true
last-tie Less b c e = absurd (cc)
last-tie Equal Less c e = absurd (cc)
last-tie Equal Equal c e = ap is_eq e
last-tie Equal Greater c e = absurd (cc)
last-tie Greater b c e = absurd (cc)

less-from : (level : KeyWork → ℕ) (a b : KeyWork) → OtherKey a b → is_lt (compile_cmp level b a) ≡ false → compile_cmp level a b ≡ Less
less-from level a b other h = by (compile_cmp level b a) refl h
  where
    by : (o : Ordering) → compile_cmp level b a ≡ o → is_lt o ≡ false → compile_cmp level a b ≡ Less
    by Less e h = absurd (true≢false h)
    by Equal e h =
        let tie : is_eq (key_cmp b.key a.key) ≡ true = last-tie (nat_cmp (level b) (level a)) (slice_cmp nat_cmp b.name a.name) (key_cmp b.key a.key) e in
        absurd (true≢false (sym tie ∙ (is_eq-key_cmp b.key a.key ∙ other)))
    by Greater e h = (compile-total level).antisymm a b ∙ ap ordering_reverse e

abbrev pub Rises : (KeyWork → ℕ) → KeyWork → List KeyWork → Type 0
Rises level last [] = Unit {0}
Rises level last (work ∷ works) = (compile_cmp level last work ≡ Less) × Rises level work works

pub rises : (level : KeyWork → ℕ) (last : KeyWork) (works : List KeyWork) → Pairs OtherKey (last ∷ works) → IsSorted (compile_cmp level) (last ∷ works) → Rises level last works
rises level last [] pairs sorted = tt
rises level last (work ∷ works) (here, more) sorted =
    (less-from level last work here.0 (sorted 0 last (omega arith) (omega arith)), rises level work works more (λ k d low high. next k d high))
  where
    next : (k : ℕ) (d : KeyWork) → k + 1 < length (work ∷ works) → is_lt (compile_cmp level (get_or (work ∷ works) (k + 1) d) (get_or (work ∷ works) k d)) ≡ false
    next k d high =
        let e : suc k + 1 ≡ suc (k + 1) = omega arith in
        subst (λ (n : ℕ). is_lt (compile_cmp level (get_or (last ∷ work ∷ works) n d) (get_or (work ∷ works) k d)) ≡ false) e (sorted (suc k) d (omega arith) (omega arith))
