-- What is wanted of works is what is needed of them.
use Rattle.std.proofs.Common.{◌≡◌, ◌∙◌, ℕ, ◌≤◌, Bool, true, false, ◌&&◌, not, List, [], ◌∷◌, cond, filter, sum_by, ⊎_elim, true≢false, refl, sym, ap, subst, arith}
use Rattle.std.specs.List.{Contains}
use Rattle.std.specs.List.Sorted.{IsPermutation}
use Rattle.std.proofs.lemmas.List.Elements.{All-contains, at_from_Contains}
use Rattle.std.proofs.lemmas.List.Filters.{sum_by-filter_both}
use Rattle.std.proofs.lemmas.List.Sorted.{Contains-permutation, IsPermutation-sym, sum_by-IsPermutation}
use Rattle.bosh_base.specs.declared.key.Key.{Key}
use Rattle.bosh_base.specs.declared.key.KeyWork.{KeyWork}
use Rattle.bosh_compile.specs.CompileOrder.{IsInCompileOrder}
use Rattle.bosh_compile.specs.KeySet.{has_key}
use Rattle.bosh_compile.specs.Level.{IsAcyclic, IsGrounded, grounded}
use Rattle.bosh_compile.specs.Readiness.{is_among, same_key}
use Rattle.bosh_compile.proofs.GreatestLemmas.{All-from_Contains, here, there, contains_cases}
use Rattle.bosh_needed.specs.Marks.{AreMarked, IsFollowed, IsWanted, Marks, is_wanted}
use Rattle.bosh_needed.specs.Needed.{AreNeeded, IsNeeded, StandOnce, at_once, by}

and_parts : (a b : Bool) → (a && b) ≡ true → (a ≡ true) × (b ≡ true)
and_parts true true h = (refl, refl)
and_parts true false h = absurd (true≢false (sym h))
and_parts false b h = absurd (true≢false (sym h))

not_true : (a : Bool) → not a ≡ true → a ≡ false
not_true true h = absurd (true≢false (sym h))
not_true false h = refl

in_filter_cons :
    (p : KeyWork → Bool) (y : KeyWork) (ys : List KeyWork) (x : KeyWork)
    → (Contains (filter p ys) x → Contains ys x × (p x ≡ true))
    → (b : Bool) → p y ≡ b → Contains (cond b (y ∷ filter p ys) (filter p ys)) x → Contains (y ∷ ys) x × (p x ≡ true)
in_filter_cons p y ys x rest false is c = let r = rest c in (there y ys x r.0, r.1)
in_filter_cons p y ys x rest true is c = ⊎_elim
    (λ (same : x ≡ y). (subst (Contains (y ∷ ys)) (sym same) (here y ys), ap p same ∙ is))
    (λ (later : Contains (filter p ys) x). let r = rest later in (there y ys x r.0, r.1))
    (contains_cases y (filter p ys) x c)

in_filter : (p : KeyWork → Bool) (xs : List KeyWork) (x : KeyWork) → Contains (filter p xs) x → Contains xs x × (p x ≡ true)
in_filter p [] x c = absurd (omega (arith, c.1))
in_filter p (y ∷ ys) x c = in_filter_cons p y ys x (in_filter p ys x) (p y) refl c

into_filter_cons :
    (p : KeyWork → Bool) (y : KeyWork) (ys : List KeyWork) (x : KeyWork) → p x ≡ true
    → (Contains ys x → Contains (filter p ys) x)
    → (b : Bool) → p y ≡ b → Contains (y ∷ ys) x → Contains (cond b (y ∷ filter p ys) (filter p ys)) x
into_filter_cons p y ys x passes rest true is c = ⊎_elim
    (λ (same : x ≡ y). subst (Contains (y ∷ filter p ys)) (sym same) (here y (filter p ys)))
    (λ (later : Contains ys x). there y (filter p ys) x (rest later))
    (contains_cases y ys x c)
into_filter_cons p y ys x passes rest false is c = ⊎_elim
    (λ (same : x ≡ y). absurd (true≢false (sym passes ∙ (ap p same ∙ is))))
    (λ (later : Contains ys x). rest later)
    (contains_cases y ys x c)

into_filter : (p : KeyWork → Bool) (xs : List KeyWork) (x : KeyWork) → p x ≡ true → Contains xs x → Contains (filter p xs) x
into_filter p [] x passes c = absurd (omega (arith, c.1))
into_filter p (y ∷ ys) x passes c = into_filter_cons p y ys x passes (into_filter p ys x passes) (p y) refl c

-- fewer works have no cycle either
grounded_part :
    (works part : List KeyWork) → ((work : KeyWork) → Contains part work → Contains works work)
    → (work : KeyWork) → IsGrounded works work → IsGrounded part work
grounded_part works part into work (grounded w f) =
    grounded w (λ other c n. grounded_part works part into other (f other (into other c) n))

pub acyclic_part :
    (works part : List KeyWork) → ((work : KeyWork) → Contains part work → Contains works work) → IsAcyclic works → IsAcyclic part
acyclic_part works part into acyclic =
    All-from_Contains (IsGrounded part) part
    (λ work c. grounded_part works part into work (All-contains (IsGrounded works) works work acyclic (into work c)))

needed_part :
    (works part : List KeyWork) (asked : List Key) → ((work : KeyWork) → Contains part work → Contains works work)
    → (key : Key) → IsNeeded part asked key → IsNeeded works asked key
needed_part works part asked into key (at_once k c) = at_once k c
needed_part works part asked into key (by work k c n dep) = by work k (into work c) (needed_part works part asked into work.key n) dep

-- each needed key is marked
marked_all :
    (works ordered : List KeyWork) (asked : List Key) (marks : Marks) → ((work : KeyWork) → Contains works work → Contains ordered work)
    → AreMarked ordered asked marks 0 → (key : Key) → IsNeeded works asked key → has_key marks key ≡ true
marked_all works ordered asked marks into are key (at_once k c) = are.asked_for k c
marked_all works ordered asked marks into are key (by work k c n dep) =
    let marked = marked_all works ordered asked marks into are work.key n in
    let at = at_from_Contains ordered work (into work c) in
    let followed : IsFollowed marks work = subst (IsFollowed marks) (at.2 work) (are.followed at.0 work (omega arith) at.1) in
    followed marked k dep

sum_filter : (f : KeyWork → ℕ) (p : KeyWork → Bool) (xs : List KeyWork) → sum_by f (filter p xs) ≤ sum_by f xs
sum_filter f p xs = let both = sum_by-filter_both p (λ x. not (p x)) (λ x. refl) f xs in omega arith

-- what is wanted is of the works
pub wanted_in :
    (works ordered : List KeyWork) (asked compiled : List Key) (all : List KeyWork)
    → IsPermutation works ordered → IsWanted ordered asked compiled all
    → (work : KeyWork) → Contains all work → Contains works work
wanted_in works ordered asked compiled all same is work c =
    Contains-permutation ordered works work (IsPermutation-sym works ordered same)
    (in_filter (is_wanted is.marks compiled) ordered work (subst (λ (xs : List KeyWork). Contains xs work) is.is_all c)).0

pub wanted_are_needed :
    (works ordered : List KeyWork) (asked compiled : List Key) (all keys : List KeyWork)
    → StandOnce works → IsPermutation works ordered → IsWanted ordered asked compiled all
    → IsPermutation all keys → IsInCompileOrder keys → AreNeeded works asked compiled keys
wanted_are_needed works ordered asked compiled all keys once same is moved in_order = record {
  from_works = λ work c. from_works work c;
  needed = λ work c.
      needed_part works ordered asked from_ordered work.key (is.are_marked.needed work.key (and_parts _ _ (passes work c)).0);
  uncompiled = λ work c. not_true (is_among work.key compiled) (and_parts (has_key is.marks work.key) (not (is_among work.key compiled)) (passes work c)).1;
  all = λ work c needed fresh.
      let marked = marked_all works ordered asked is.marks into_ordered is.are_marked work.key needed in
      let test : is_wanted is.marks compiled work ≡ true = rw (marked, fresh) refl in
      into_keys work (subst (λ (xs : List KeyWork). Contains xs work) (sym is.is_all) (into_filter (is_wanted is.marks compiled) ordered work test (into_ordered work c)));
  once = λ key.
      let count : KeyWork → ℕ = λ work. cond (same_key work.key key) 1 0 in
      let a = once key in
      let b = sum_by-IsPermutation count works ordered same in
      let c = sum_filter count (is_wanted is.marks compiled) ordered in
      let d : sum_by count all ≡ sum_by count (filter (is_wanted is.marks compiled) ordered) = ap (sum_by count) is.is_all in
      let e = sum_by-IsPermutation count all keys moved in
      omega arith;
  ordered = in_order;
}
  where
    into_ordered : (work : KeyWork) → Contains works work → Contains ordered work
    into_ordered work c = Contains-permutation works ordered work same c

    from_ordered : (work : KeyWork) → Contains ordered work → Contains works work
    from_ordered work c = Contains-permutation ordered works work (IsPermutation-sym works ordered same) c

    in_all : (work : KeyWork) → Contains keys work → Contains all work
    in_all work c = Contains-permutation keys all work (IsPermutation-sym all keys moved) c

    into_keys : (work : KeyWork) → Contains all work → Contains keys work
    into_keys work c = Contains-permutation all keys work moved c

    passes : (work : KeyWork) → Contains keys work → is_wanted is.marks compiled work ≡ true
    passes work c = (in_filter (is_wanted is.marks compiled) ordered work (subst (λ (xs : List KeyWork). Contains xs work) is.is_all (in_all work c))).1

    from_works : (work : KeyWork) → Contains keys work → Contains works work
    from_works work c = from_ordered work (in_filter (is_wanted is.marks compiled) ordered work (subst (λ (xs : List KeyWork). Contains xs work) is.is_all (in_all work c))).0
