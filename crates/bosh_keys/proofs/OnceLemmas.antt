-- Works that are gathered, each key once.
use Rattle.std.proofs.Common.{◌≡◌, ◌⊎◌, ◌∙◌, ℕ, ◌≤◌, ◌+◌, Bool, true, false, ◌||◌, cond, List, [], ◌∷◌, ◌++◌, arith, refl, sym, subst, ap, inl, inr, true≢false}
use Rattle.std.specs.Prelude.{Contains}
use Rattle.std.proofs.lemmas.List.Sums.{sum_by-cons, sum_by_push}
use Rattle.bosh_alike.proofs.ElementLemmas.{at_end, before_or_last, first_or_other, in_front, none_in, some_at, there}
use Rattle.bosh_base.specs.declared.key.Key.{Key}
use Rattle.bosh_base.specs.declared.key.KeyWork.{KeyWork}
use Rattle.bosh_compile.specs.Readiness.{same_key}
use Rattle.bosh_compile.proofs.KeyLemmas.{same_key_decides}
use Rattle.bosh_needed.specs.Needed.{AreNeeded, IsNeeded, StandOnce, at_once, by, how_many}
use Rattle.bosh_keys.specs.Once.{each_once, has_work, with_work, with_works}
use Rattle.bosh_keys.proofs.ListLemmas.{is_first}

-- ---- counts

abbrev counts : Key → KeyWork → ℕ
counts key work = cond (same_key work.key key) 1 0

none_counted : (key : Key) (works : List KeyWork) → has_work key works ≡ false → how_many key works ≡ 0
none_counted key [] h = refl
none_counted key (work ∷ works) h =
    sum_by-cons (counts key) work works ∙ at (same_key work.key key) (none_counted key works) h
  where
    at : (b : Bool) → (has_work key works ≡ false → how_many key works ≡ 0) → (b || has_work key works) ≡ false → cond b 1 0 + how_many key works ≡ 0
    at true more h = absurd (true≢false h)
    at false more h = let e = more h in omega arith

once_with : (works : List KeyWork) (work : KeyWork) → StandOnce works → StandOnce (with_work works work)
once_with works work once = at (has_work work.key works) refl
  where
    count : (key : Key) (b : Bool) → same_key work.key key ≡ b → has_work work.key works ≡ false → how_many key works + cond b 1 0 ≤ 1
    count key true same none =
        let is : work.key ≡ key = (same_key_decides work.key key).0 same in
        let e = none_counted key works (subst (λ k. has_work k works ≡ false) is none) in
        omega arith
    count key false same none = let e = once key in omega arith

    at : (b : Bool) → has_work work.key works ≡ b → StandOnce (cond b works (works ++ work ∷ []))
    at true is = once
    at false is = λ key.
        subst (λ n. n ≤ 1) (sym (sum_by_push (counts key) works work))
        (count key (same_key work.key key) refl is)

once_more : (works more : List KeyWork) → StandOnce works → StandOnce (with_works works more)
once_more works [] once = once
once_more works (work ∷ more) once = once_more (with_work works work) more (once_with works work once)

pub stand_once : (works : List KeyWork) → StandOnce (each_once works)
stand_once works = once_more [] works (λ key. omega arith)

-- ---- what is gathered

with_from : (works : List KeyWork) (work w : KeyWork) → Contains (with_work works work) w → Contains works w ⊎ (work ≡ w)
with_from works work w c = at (has_work work.key works) c
  where
    at : (b : Bool) → Contains (cond b works (works ++ work ∷ [])) w → Contains works w ⊎ (work ≡ w)
    at true c = inl c
    at false c = before_or_last works work w c

more_from : (works more : List KeyWork) (w : KeyWork) → Contains (with_works works more) w → Contains works w ⊎ Contains more w
more_from works [] w c = inl c
more_from works (work ∷ more) w c = at (more_from (with_work works work) more w c)
  where
    first : Contains works w ⊎ (work ≡ w) → Contains works w ⊎ Contains (work ∷ more) w
    first (inl c) = inl c
    first (inr e) = inr (is_first work w more e)

    at : Contains (with_work works work) w ⊎ Contains more w → Contains works w ⊎ Contains (work ∷ more) w
    at (inl c) = first (with_from works work w c)
    at (inr c) = inr (there work w more c)

pub gathered_from : (works : List KeyWork) (w : KeyWork) → Contains (each_once works) w → Contains works w
gathered_from works w c = at (more_from [] works w c)
  where
    at : Contains [] w ⊎ Contains works w → Contains works w
    at (inl c) = absurd (none_in w c)
    at (inr c) = c

with_kept : (works : List KeyWork) (work w : KeyWork) → Contains works w → Contains (with_work works work) w
with_kept works work w c = at (has_work work.key works)
  where
    at : (b : Bool) → Contains (cond b works (works ++ work ∷ [])) w
    at true = c
    at false = in_front works (work ∷ []) w c

with_key : (works : List KeyWork) (work : KeyWork) → (w : KeyWork) × Contains (with_work works work) w × (w.key ≡ work.key)
with_key works work = at (has_work work.key works) refl
  where
    at : (b : Bool) → has_work work.key works ≡ b → (w : KeyWork) × Contains (cond b works (works ++ work ∷ [])) w × (w.key ≡ work.key)
    at true is =
        let found = some_at (λ (w : KeyWork). same_key w.key work.key) works is in
        (found.0, found.1, (same_key_decides found.0.key work.key).0 found.2)
    at false is = (work, at_end works work, refl)

more_kept : (works more : List KeyWork) (w : KeyWork) → Contains works w → Contains (with_works works more) w
more_kept works [] w c = c
more_kept works (work ∷ more) w c = more_kept (with_work works work) more w (with_kept works work w c)

more_key : (works more : List KeyWork) (work : KeyWork) → Contains more work → (w : KeyWork) × Contains (with_works works more) w × (w.key ≡ work.key)
more_key works [] work c = absurd (none_in work c)
more_key works (first ∷ more) work c = at (more_key (with_work works first) more work) (first_or_other first work more c)
  where
    at :
        (Contains more work → (w : KeyWork) × Contains (with_works (with_work works first) more) w × (w.key ≡ work.key)) → (first ≡ work) ⊎ Contains more work → (w : KeyWork) × Contains (with_works (with_work works first) more) w × (w.key ≡ work.key)
    at later (inl e) =
        let found = with_key works first in
        (found.0, more_kept (with_work works first) more found.0 found.1, found.2 ∙ ap (λ (w : KeyWork). w.key) e)
    at later (inr c) = later c

-- each work's key is gathered
pub gathered_key : (works : List KeyWork) (work : KeyWork) → Contains works work → (w : KeyWork) × Contains (each_once works) w × (w.key ≡ work.key)
gathered_key works work c = more_key [] works work c

-- ---- what is needed of the same works is the same

needed_within :
    (works more : List KeyWork) (asked : List Key) → ((work : KeyWork) → Contains works work → Contains more work)
    → (key : Key) → IsNeeded works asked key → IsNeeded more asked key
needed_within works more asked into key (at_once k c) = at_once k c
needed_within works more asked into key (by work k c n dep) = by work k (into work c) (needed_within works more asked into work.key n) dep

pub needed_same :
    (works others : List KeyWork) (asked compiled : List Key) (keys : List KeyWork)
    → ((work : KeyWork) → Contains works work → Contains others work) → ((work : KeyWork) → Contains others work → Contains works work)
    → AreNeeded works asked compiled keys → AreNeeded others asked compiled keys
needed_same works others asked compiled keys to from are = record {
  from_works = λ work c. to work (are.from_works work c);
  needed = λ work c. needed_within works others asked to work.key (are.needed work c);
  uncompiled = are.uncompiled;
  all = λ work c needed fresh. are.all work (from work c) (needed_within others works asked from work.key needed) fresh;
  once = are.once;
  ordered = are.ordered;
}
