-- The calls of a task are forgotten one after another.
use Rattle.std.proofs.Common.{◌≡◌, ◌∙◌, ◌<◌, ℕ, Bool, true, false, cond, not, List, [], ◌∷◌, length, Option, Some, None, refl, sym, ap, subst, arith}
use Rattle.std.specs.Prelude.{fold, find, option_map}
use Rattle.std.specs.BTreeMap.{is_at}
use Rattle.std.specs.List.{AllByRecursion, filter}
use Rattle.std.specs.List.Sorted.{IsStrictlySortedBy}
use Rattle.std.specs.Option.{option_and_then}
use Rattle.std.specs.Map.{keys_of, lookup}
use Rattle.std.specs.Ordering.{nat_cmp}
use Rattle.std.specs.declared.cmp.Ordering.TheVariants.{Less}
use Rattle.std.proofs.lemmas.Bool.Decides.{nat_tests}
use Rattle.bosh_base.specs.declared.call.Call.{Call}
use Rattle.bosh_base.specs.declared.call.Call.TheVariants as calls
use Rattle.bosh_base.specs.declared.entry.Begin.{Begin}
use Rattle.bosh_base.specs.declared.owner.Owner.{Owner}
use Rattle.bosh_base.specs.declared.owner.Owner.TheVariants as owners
use Rattle.bosh_records.specs.Recorded.{Recorded}
use Rattle.bosh_records.specs.Table.{thing_in, without}
use Rattle.bosh_fold.specs.Calls.{closed_call, with_call, with_compiling}
use Rattle.bosh_fold.specs.Tasks.{calls_of, closed_where, first_call, forgotten_call, forgotten_in, is_call_of, without_call}

abbrev Calls : Type 0
Calls = List (ℕ × Option Begin)

abbrev others_of : ℕ → Calls → Calls
others_of task es = filter (λ place. not (is_call_of task place.1)) es

-- ---- the first call of a task

record IsFirst (task n : ℕ) (es : Calls) : Type 0 where
  begin : Begin
  there : thing_in nat_cmp es n ≡ Some begin
  calls : calls_of task es ≡ begin ∷ calls_of task (without nat_cmp n es)
  others : others_of task (without nat_cmp n es) ≡ others_of task es
  fewer : length (without nat_cmp n es) < length es

key_above : (task x n : ℕ) (es : Calls) → AllByRecursion (λ y. nat_cmp x y ≡ Less) (keys_of es) → first_call task es ≡ Some n
    → nat_cmp x n ≡ Less
key_above task x n [] above first = absurd (grind (arith, first))
key_above task x n (e ∷ es) above first = by (is_call_of task e.1) refl (key_above task x n es above.1)
  where
    told : (b : Bool) → is_call_of task e.1 ≡ b
        → option_map (λ place. place.0) (cond b (Some e) (find (λ place. is_call_of task place.1) es)) ≡ Some n
    told b is = subst (λ c. option_map (λ place. place.0) (cond c (Some e) (find (λ place. is_call_of task place.1) es)) ≡ Some n) is first

    by : (b : Bool) → is_call_of task e.1 ≡ b → (first_call task es ≡ Some n → nat_cmp x n ≡ Less) → nat_cmp x n ≡ Less
    by true is later = at (grind (arith, told true is))
      where
        at : e.0 ≡ n → nat_cmp x n ≡ Less
        at here = subst (λ k. nat_cmp x k ≡ Less) here above.0
    by false is later = later (told false is)

is_other : (x n : ℕ) → nat_cmp x n ≡ Less → is_at (nat_cmp n) x ≡ false
is_other x n less = grind (arith, nat_tests)

is_same : (n : ℕ) → is_at (nat_cmp n) n ≡ true
is_same n = grind (arith, nat_tests)

longer : (a b : Calls) (e : ℕ × Option Begin) → length a < length b → length (e ∷ a) < length (e ∷ b)
longer a b e less = omega arith

one_longer : (a : Calls) (e : ℕ × Option Begin) → length a < length (e ∷ a)
one_longer a e = omega arith

first_is : (task n : ℕ) (es : Calls) → IsStrictlySortedBy nat_cmp (keys_of es) → first_call task es ≡ Some n → IsFirst task n es
unfolding IsStrictlySortedBy
first_is task n [] sorted first = absurd (grind (arith, first))
first_is task n ((k, None) ∷ es) sorted first = after (first_is task n es sorted.1 first)
  where
    apart : is_at (nat_cmp n) k ≡ false
    apart = is_other k n (key_above task k n es sorted.0 first)

    after : IsFirst task n es → IsFirst task n ((k, None) ∷ es)
    after it = record {
      begin = it.begin;
      there = (λ i. option_and_then (λ place. place) (cond (apart i) (Some None) (lookup (is_at (nat_cmp n)) es))) ∙ it.there;
      calls = it.calls ∙ (λ i. it.begin ∷ calls_of task (cond (sym apart i) es ((k, None) ∷ without nat_cmp n es)));
      others = (λ i. others_of task (cond (apart i) es ((k, None) ∷ without nat_cmp n es))) ∙ (λ i. (k, None) ∷ it.others i);
      fewer = subst (λ b. length (cond b es ((k, None) ∷ without nat_cmp n es)) < length ((k, None) ∷ es)) (sym apart) (longer (without nat_cmp n es) es (k, None) it.fewer);
    }
first_is task n ((k, Some b) ∷ es) sorted first = by (is_call_of task (Some b)) refl (first_is task n es sorted.1)
  where
    told : (c : Bool) → is_call_of task (Some b) ≡ c
        → option_map (λ place. place.0) (cond c (Some (k, Some b)) (find (λ place. is_call_of task place.1) es)) ≡ Some n
    told c is = subst (λ d. option_map (λ place. place.0) (cond d (Some (k, Some b)) (find (λ place. is_call_of task place.1) es)) ≡ Some n) is first

    by : (c : Bool) → is_call_of task (Some b) ≡ c → (first_call task es ≡ Some n → IsFirst task n es) → IsFirst task n ((k, Some b) ∷ es)
    by true is later = at (grind (arith, told true is))
      where
        at : k ≡ n → IsFirst task n ((k, Some b) ∷ es)
        at here = subst (λ m. IsFirst task m ((k, Some b) ∷ es)) here (record {
          begin = b;
          there = λ i. option_and_then (λ place. place) (cond (is_same k i) (Some (Some b)) (lookup (is_at (nat_cmp k)) es));
          calls = (λ i. cond (is i) (b ∷ calls_of task es) (calls_of task es))
              ∙ (λ i. b ∷ calls_of task (cond (sym (is_same k) i) es ((k, Some b) ∷ without nat_cmp k es)));
          others = (λ i. others_of task (cond (is_same k i) es ((k, Some b) ∷ without nat_cmp k es)))
              ∙ sym (λ i. cond (not (is i)) ((k, Some b) ∷ others_of task es) (others_of task es));
          fewer = subst (λ c. length (cond c es ((k, Some b) ∷ without nat_cmp k es)) < length ((k, Some b) ∷ es)) (sym (is_same k)) (one_longer es (k, Some b));
        })
    by false is later = after (later (told false is))
      where
        apart : is_at (nat_cmp n) k ≡ false
        apart = is_other k n (key_above task k n es sorted.0 (told false is))

        after : IsFirst task n es → IsFirst task n ((k, Some b) ∷ es)
        after it = record {
          begin = it.begin;
          there = (λ i. option_and_then (λ place. place) (cond (apart i) (Some (Some b)) (lookup (is_at (nat_cmp n)) es))) ∙ it.there;
          calls = (λ i. cond (is i) (b ∷ calls_of task es) (calls_of task es)) ∙ it.calls
              ∙ (λ i. it.begin ∷ cond (sym is i) (b ∷ calls_of task (without nat_cmp n es)) (calls_of task (without nat_cmp n es)))
              ∙ (λ i. it.begin ∷ calls_of task (cond (sym apart i) es ((k, Some b) ∷ without nat_cmp n es)));
          others = (λ i. others_of task (cond (apart i) es ((k, Some b) ∷ without nat_cmp n es)))
              ∙ (λ i. cond (not (is i)) ((k, Some b) ∷ others_of task (without nat_cmp n es)) (others_of task (without nat_cmp n es)))
              ∙ (λ i. (k, Some b) ∷ it.others i)
              ∙ sym (λ i. cond (not (is i)) ((k, Some b) ∷ others_of task es) (others_of task es));
          fewer = subst (λ c. length (cond c es ((k, Some b) ∷ without nat_cmp n es)) < length ((k, Some b) ∷ es)) (sym apart) (longer (without nat_cmp n es) es (k, Some b) it.fewer);
        }

-- ---- what is left of the others

beside_owner : (owner : Owner) («open» : Option ℕ) (it : Recorded) (es : Calls)
    → with_call owner «open» (record it { calls = es }) ≡ record (with_call owner «open» it) { calls = es }
beside_owner (owners.Instance inst) «open» it es = refl
beside_owner (owners.Compile task slot) «open» it es = refl
beside_owner (owners.Disk disk) «open» it es = refl

-- what a call leaves is the same beside all calls
beside : (begin : Begin) (it : Recorded) (es : Calls)
    → closed_call begin (record it { calls = es }) ≡ record (closed_call begin it) { calls = es }
beside begin it es =
    ap (with_compiling begin.call None) (beside_owner begin.owner None it es)
    ∙ compiling begin.call (with_call begin.owner None it)
  where
    compiling : (call : Call) (now : Recorded)
        → with_compiling call None (record now { calls = es }) ≡ record (with_compiling call None now) { calls = es }
    compiling (calls.CompilePackage vm work deps) now = refl
    compiling call now = refl

all_beside : (begins : List Begin) (it : Recorded) (es : Calls)
    → fold forgotten_call (record it { calls = es }) begins ≡ record (fold forgotten_call it begins) { calls = es }
all_beside [] it es = refl
all_beside (begin ∷ begins) it es =
    ap (λ now. fold forgotten_call now begins) (beside begin it es) ∙ all_beside begins (closed_call begin it) es

left_is : (task n : ℕ) (it : Recorded) (is : IsFirst task n it.calls)
    → without_call n it ≡ record (closed_call is.begin it) { calls = without nat_cmp n it.calls }
left_is task n it is =
    (λ i. closed_where (is.there i) (record it { calls = without nat_cmp n it.calls }))
    ∙ beside is.begin it (without nat_cmp n it.calls)

pub forget_first : (task n : ℕ) (it : Recorded) → IsStrictlySortedBy nat_cmp (keys_of it.calls) → first_call task it.calls ≡ Some n
    → forgotten_in task (without_call n it) ≡ forgotten_in task it
forget_first task n it sorted first = by (first_is task n it.calls sorted first)
  where
    by : IsFirst task n it.calls → forgotten_in task (without_call n it) ≡ forgotten_in task it
    by is =
        ap (forgotten_in task) (left_is task n it is)
        ∙ (λ i. record (all_beside (calls_of task (without nat_cmp n it.calls)) (closed_call is.begin it) (without nat_cmp n it.calls) i) {
          calls = others_of task (without nat_cmp n it.calls);
        })
        ∙ (λ i. record (fold forgotten_call it (sym is.calls i)) { calls = is.others i })

pub fewer : (task n : ℕ) (it now : Recorded) → now ≡ without_call n it → IsStrictlySortedBy nat_cmp (keys_of it.calls)
    → first_call task it.calls ≡ Some n → length now.calls < length it.calls
fewer task n it now is sorted first = by (first_is task n it.calls sorted first)
  where
    by : IsFirst task n it.calls → length now.calls < length it.calls
    by one = subst (λ es. length es < length it.calls) (sym (ap (λ left. left.calls) (is ∙ left_is task n it one))) one.fewer

-- ---- none is left

record IsNone (task : ℕ) (es : Calls) : Type 0 where
  calls : calls_of task es ≡ []
  others : others_of task es ≡ es

none_is : (task : ℕ) (es : Calls) → first_call task es ≡ None → IsNone task es
none_is task [] none = record { calls = refl; others = refl }
none_is task ((k, None) ∷ es) none = after (none_is task es none)
  where
    after : IsNone task es → IsNone task ((k, None) ∷ es)
    after it = record { calls = it.calls; others = λ i. (k, None) ∷ it.others i }
none_is task ((k, Some b) ∷ es) none = by (is_call_of task (Some b)) refl (none_is task es)
  where
    told : (c : Bool) → is_call_of task (Some b) ≡ c
        → option_map (λ place. place.0) (cond c (Some (k, Some b)) (find (λ place. is_call_of task place.1) es)) ≡ None
    told c is = subst (λ d. option_map (λ place. place.0) (cond d (Some (k, Some b)) (find (λ place. is_call_of task place.1) es)) ≡ None) is none

    by : (c : Bool) → is_call_of task (Some b) ≡ c → (first_call task es ≡ None → IsNone task es) → IsNone task ((k, Some b) ∷ es)
    by true is later = absurd (grind (arith, told true is))
    by false is later = after (later (told false is))
      where
        after : IsNone task es → IsNone task ((k, Some b) ∷ es)
        after it = record {
          calls = (λ i. cond (is i) (b ∷ calls_of task es) (calls_of task es)) ∙ it.calls;
          others = (λ i. cond (not (is i)) ((k, Some b) ∷ others_of task es) (others_of task es)) ∙ (λ i. (k, Some b) ∷ it.others i);
        }

pub forget_none : (task : ℕ) (it : Recorded) → first_call task it.calls ≡ None → it ≡ forgotten_in task it
forget_none task it none = by (none_is task it.calls none)
  where
    by : IsNone task it.calls → it ≡ forgotten_in task it
    by is = λ i. record (fold forgotten_call it (sym is.calls i)) { calls = sym is.others i }
