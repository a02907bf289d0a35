-- How marks grow.
use Rattle.std.proofs.Common.{◌≡◌, ◌⊎◌, ◌∙◌, ℕ, ◌+◌, ◌≤◌, ◌<◌, List, length, get_or, inl, inr, ⊎_elim, true≢false, sym, subst, arith, Bool, true, false, ◌&&◌, ◌||◌, Option, Some, cond, ap, refl}
use Rattle.std.specs.BTreeMap.{UpdatesBy, get_by}
use Rattle.std.specs.Option.{is_some}
use Rattle.std.specs.Ordering.{is_eq, nat_cmp, ordering_then}
use Rattle.std.specs.Cmp.Lexicographic.{slice_cmp}
use Rattle.std.specs.declared.cmp.Ordering.{Ordering}
use Rattle.std.specs.declared.cmp.Ordering.TheVariants.{Less, Equal, Greater}
use Rattle.std.proofs.lemmas.Map.Text.{is_eq-slice_cmp}
use Rattle.std.specs.List.{Contains}
use Rattle.std.proofs.lemmas.Bool.{cases_lt}
use Rattle.std.proofs.lemmas.List.{get_or_default}
use Rattle.std.proofs.lemmas.List.Elements.{Contains-get_or}
use Rattle.bosh_base.specs.declared.key.Key.{Key}
use Rattle.bosh_base.specs.declared.key.KeyWork.{KeyWork}
use Rattle.bosh_compile.specs.CompileOrder.{AfterDependencies, key_cmp}
use Rattle.bosh_compile.specs.KeySet.{has_key}
use Rattle.bosh_compile.specs.Level.{Needs}
use Rattle.bosh_compile.specs.Readiness.{is_among, same_key}
use Rattle.bosh_compile.proofs.KeyLemmas.{is_among_decides}
use Rattle.bosh_needed.specs.Marks.{AreMarked, IsFollowed, Marks}
use Rattle.bosh_needed.specs.Needed.{IsNeeded, at_once, by}

is_eq-then : (a b : Ordering) → is_eq (ordering_then a b) ≡ (is_eq a && is_eq b)
is_eq-then Less b = refl
is_eq-then Equal b = refl
is_eq-then Greater b = refl

is_eq-key : (a b : Key) → is_eq (key_cmp a b) ≡ same_key a b
is_eq-key a b =
    is_eq-then (slice_cmp nat_cmp a.fingerprint.0 b.fingerprint.0) (ordering_then (slice_cmp nat_cmp a.os b.os) (slice_cmp nat_cmp a.version b.version))
    ∙ (ap (λ (t : Bool). is_eq (slice_cmp nat_cmp a.fingerprint.0 b.fingerprint.0) && t) (is_eq-then (slice_cmp nat_cmp a.os b.os) (slice_cmp nat_cmp a.version b.version))
    ∙ (λ i. is_eq-slice_cmp a.fingerprint.0 b.fingerprint.0 i && (is_eq-slice_cmp a.os b.os i && is_eq-slice_cmp a.version b.version i)))

-- one more key is marked
pub marked-more :
    (old new : Marks) (key : Key)
    → UpdatesBy (λ a b. key_cmp a.now b.now) (λ k. key_cmp key k.now) old new (Some tt)
    → (other : Key) → has_key new other ≡ (same_key key other || has_key old other)
marked-more old new key updates other =
    ap is_some (updates.0 (record { ref_ptr = (0, 0); now = other }))
    ∙ (either (is_eq (key_cmp key other)) (get_by (λ k. key_cmp other k.now) old)
    ∙ ap (λ (b : Bool). b || has_key old other) (is_eq-key key other))
  where
    either : (b : Bool) (found : Option (Unit {0})) → is_some (cond b (Some tt) found) ≡ (b || is_some found)
    either true found = refl
    either false found = refl

or_cases : (a b : Bool) → (a || b) ≡ true → (a ≡ true) ⊎ (b ≡ true)
or_cases true b h = inl refl
or_cases false b h = inr h

both : (a b : Bool) → (a && b) ≡ true → (a ≡ true) × (b ≡ true)
both true true h = (refl, refl)
both true false h = absurd (true≢false (sym h))
both false b h = absurd (true≢false (sym h))

together : (a b : Bool) → a ≡ true → b ≡ true → (a && b) ≡ true
together a b h k = rw (h, k) refl

or_first : (a b : Bool) → a ≡ true → (a || b) ≡ true
or_first a b h = rw h refl

or_second : (a b : Bool) → b ≡ true → (a || b) ≡ true
or_second true b h = refl
or_second false b h = h

-- those that are asked for are marked, and no others
pub marked-asked :
    (works : List KeyWork) (asked : List Key) (marks : Marks) (from : ℕ)
    → ((other : Key) → has_key marks other ≡ is_among other asked) → length works ≤ from → AreMarked works asked marks from
marked-asked works asked marks from are past = record {
  needed = λ key marked. at_once key ((is_among_decides key asked).0 (sym (are key) ∙ marked));
  asked_for = λ key there. are key ∙ (is_among_decides key asked).1 there;
  followed = λ place d low high. absurd (omega arith);
}

-- one more work is followed
pub marked-followed :
    (works : List KeyWork) (asked : List Key) (old new : Marks) (place : ℕ) (work : KeyWork)
    → AfterDependencies works → place < length works → work ≡ get_or works place work
    → AreMarked works asked old (place + 1)
    → ((other : Key) → has_key new other ≡ ((has_key old work.key && is_among other work.deps) || has_key old other))
    → AreMarked works asked new place
marked-followed works asked old new place work after within is are grown = record {
  needed = λ key marked. needed key marked;
  asked_for = λ key there. stays key (are.asked_for key there);
  followed = λ p d low high. followed p d low high;
}
  where
    stays : (key : Key) → has_key old key ≡ true → has_key new key ≡ true
    stays key h = grown key ∙ or_second (has_key old work.key && is_among key work.deps) (has_key old key) h

    in_works : Contains works work
    in_works = subst (Contains works) (sym is) (Contains-get_or works place work within)

    needed : (key : Key) → has_key new key ≡ true → IsNeeded works asked key
    needed key marked = ⊎_elim
        (λ (h : (has_key old work.key && is_among key work.deps) ≡ true).
        let parts = both (has_key old work.key) (is_among key work.deps) h in
        by work key in_works (are.needed work.key parts.0) ((is_among_decides key work.deps).0 parts.1))
        (λ (h : has_key old key ≡ true). are.needed key h)
        (or_cases (has_key old work.key && is_among key work.deps) (has_key old key) (sym (grown key) ∙ marked))

    here : has_key new work.key ≡ true → (key : Key) → Contains work.deps key → has_key new key ≡ true
    here marked key there = ⊎_elim
        (λ (h : (has_key old work.key && is_among work.key work.deps) ≡ true).
        let parts = both (has_key old work.key) (is_among work.key work.deps) h in
        grown key ∙ or_first (has_key old work.key && is_among key work.deps) (has_key old key)
        (together (has_key old work.key) (is_among key work.deps) parts.0 ((is_among_decides key work.deps).1 there)))
        (λ (h : has_key old work.key ≡ true).
        grown key ∙ or_first (has_key old work.key && is_among key work.deps) (has_key old key)
        (together (has_key old work.key) (is_among key work.deps) h ((is_among_decides key work.deps).1 there)))
        (or_cases (has_key old work.key && is_among work.key work.deps) (has_key old work.key) (sym (grown work.key) ∙ marked))

    later : (p : ℕ) (d : KeyWork) → place + 1 ≤ p → p < length works → IsFollowed new (get_or works p d)
    later p d low high = λ marked key there. ⊎_elim
        (λ (h : (has_key old work.key && is_among (get_or works p d).key work.deps) ≡ true).
        let parts = both (has_key old work.key) (is_among (get_or works p d).key work.deps) h in
        let needs : Needs work (get_or works p d) = (is_among_decides (get_or works p d).key work.deps).0 parts.1 in
        let never = after place p d (omega arith) high in
        let same : get_or works place d ≡ work = get_or_default works place d work within ∙ sym is in
        absurd (never (subst (λ (w : KeyWork). Needs w (get_or works p d)) (sym same) needs)))
        (λ (h : has_key old (get_or works p d).key ≡ true). stays key (are.followed p d low high h key there))
        (or_cases (has_key old work.key && is_among (get_or works p d).key work.deps) (has_key old (get_or works p d).key) (sym (grown (get_or works p d).key) ∙ marked))

    followed : (p : ℕ) (d : KeyWork) → place ≤ p → p < length works → IsFollowed new (get_or works p d)
    followed p d low high = ⊎_elim
        (λ (less : place < p). later p d (omega arith) high)
        (λ (more : p ≤ place).
        let same : place ≡ p = omega arith in
        let found : work ≡ get_or works p d = is ∙ (get_or_default works place work d within ∙ ap (λ (n : ℕ). get_or works n d) same) in
        subst (IsFollowed new) found here)
        (cases_lt place p)
