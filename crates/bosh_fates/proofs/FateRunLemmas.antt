-- Which calls fates meet when many are made.
use Rattle.std.proofs.Common.{◌≡◌, ℕ, ◌+◌, ◌-◌, Bool, true, false, Option, Some, None, List, [], ◌∷◌, refl, sym, ◌∙◌, ap, arith, cond, map}
use Rattle.std.specs.Prelude.{◌==◌, ◌&&◌, not, filter, find, count_by, if◌then◌else◌}
use Rattle.std.specs.Option.{option_map}
use Rattle.std.proofs.lemmas.List.Sums.{sum_by-cons}
use Rattle.bosh_base.specs.declared.method.Method.{Method}
use Rattle.bosh_base.specs.declared.owner.Owner.{Owner}
use Rattle.bosh_fates.specs.Fates.{decision, due_count, fates_after, is_due, is_waiting, matches, nearer}
use Rattle.bosh_fates.specs.FateRuns.{fates_after_all, is_its_call, matching}
use Rattle.bosh_fates.specs.declared.fate.Doom.{Doom}

-- ---- what is kept of a list, where all that passes a test is kept

find-kept : {A : Type 0} (f : A → A) (p kept : A → Bool) (xs : List A) → ((x : A) → p x ≡ true → kept x ≡ true) →
    find p (filter kept (map f xs)) ≡ option_map f (find (λ x. p (f x)) xs)
find-kept f p kept [] fits = refl
find-kept f p kept (x ∷ xs) fits = each (p (f x)) (kept (f x)) refl refl (find-kept f p kept xs fits)
  where
    each : (passes stays : Bool) → p (f x) ≡ passes → kept (f x) ≡ stays →
        find p (filter kept (map f xs)) ≡ option_map f (find (λ y. p (f y)) xs) →
        find p (filter kept (map f (x ∷ xs))) ≡ option_map f (find (λ y. p (f y)) (x ∷ xs))
    each true true passes stays rest = rw (stays, passes) refl
    each true false passes stays rest = absurd (let is : kept (f x) ≡ true = fits (f x) passes in cc)
    each false true passes stays rest = rw (stays, passes) rest
    each false false passes stays rest = rw (stays, passes) rest

counted : {A : Type 0} (p : A → Bool) (x : A) (xs : List A) → count_by p (x ∷ xs) ≡ cond (p x) 1 0 + count_by p xs
counted p x xs = sum_by-cons (λ y. cond (p y) 1 0) x xs

uncounted : {A : Type 0} (p : A → Bool) (x : A) (xs : List A) → p x ≡ false → count_by p (x ∷ xs) ≡ count_by p xs
uncounted p x xs fails = counted p x xs ∙ ap (λ test. cond test 1 0 + count_by p xs) fails ∙ omega arith

count-kept : {A : Type 0} (f : A → A) (p kept : A → Bool) (xs : List A) → ((x : A) → p x ≡ true → kept x ≡ true) →
    count_by p (filter kept (map f xs)) ≡ count_by (λ x. p (f x)) xs
count-kept f p kept [] fits = refl
count-kept f p kept (x ∷ xs) fits = each (p (f x)) (kept (f x)) refl refl (count-kept f p kept xs fits)
  where
    each : (passes stays : Bool) → p (f x) ≡ passes → kept (f x) ≡ stays →
        count_by p (filter kept (map f xs)) ≡ count_by (λ y. p (f y)) xs →
        count_by p (filter kept (map f (x ∷ xs))) ≡ count_by (λ y. p (f y)) (x ∷ xs)
    each passes true is stays rest =
        rw stays (counted p (f x) (filter kept (map f xs)) ∙ ap (λ n. cond (p (f x)) 1 0 + n) rest
        ∙ sym (counted (λ y. p (f y)) x xs))
    each true false is stays rest = absurd (let kept_too : kept (f x) ≡ true = fits (f x) is in cc)
    each false false is stays rest = rw stays (rest ∙ sym (uncounted (λ y. p (f y)) x xs is))

-- ---- one fate

-- the first call is the one of a fate that waits for the first
due-is : (method : Method) (owner : Owner) (doom : Doom) → is_due method owner doom ≡ is_its_call [] method owner doom
due-is method owner doom = turned doom.calls (matches method owner doom)
  where
    turned : (calls : ℕ) (test : Bool) → (calls == 1 && test) ≡ (test && 0 + 1 == calls)
    turned calls true = grind (arith)
    turned calls false = grind (arith)

-- a call later, one call fewer is to come
its_call-next : (method : Method) (owner : Owner) (calls : List (Method × Owner)) (last : Method) (by : Owner)
    (doom : Doom) → is_its_call calls last by (nearer method owner doom) ≡ is_its_call ((method, owner) ∷ calls) last by doom
its_call-next method owner calls last by doom =
    each (matches method owner doom)
    ∙ sym (ap (λ n. matches last by doom && n + 1 == doom.calls)
    (counted (λ call. matches call.0 call.1 doom) (method, owner) calls))
  where
    fewer : (n calls : ℕ) → (n + 1 == calls - 1) ≡ (1 + n + 1 == calls)
    fewer n calls = grind (arith)

    as_many : (n calls : ℕ) → (n + 1 == calls) ≡ (0 + n + 1 == calls)
    as_many n calls = grind (arith)

    after : Bool → Doom
    after test = if test then record doom { calls = doom.calls - 1 } else doom

    each : (test : Bool) →
        is_its_call calls last by (after test)
        ≡ (matches last by doom && (cond test 1 0 + matching calls doom) + 1 == doom.calls)
    each true = ap (λ test. matches last by doom && test) (fewer (matching calls doom) doom.calls)
    each false = ap (λ test. matches last by doom && test) (as_many (matching calls doom) doom.calls)

-- one whose call is to come waits
waits : (calls : List (Method × Owner)) (method : Method) (owner : Owner) (doom : Doom) →
    is_its_call calls method owner doom ≡ true → is_waiting doom ≡ true
waits calls method owner doom is = go (matches method owner doom) (matching calls doom) doom.calls is
  where
    go : (test : Bool) (n calls : ℕ) → (test && n + 1 == calls) ≡ true → not (calls == 0) ≡ true
    go true n calls is = grind (arith, is)
    go false n calls is = absurd cc

-- ---- all fates

-- a call brings none nearer that was set otherwise
same_fate : (method : Method) (owner : Owner) (found : Option Doom) →
    option_map (λ doom. doom.fate) (option_map (nearer method owner) found) ≡ option_map (λ doom. doom.fate) found
same_fate method owner None = refl
same_fate method owner (Some doom) = ap Some (go (matches method owner doom))
  where
    go : (test : Bool) → (if test then record doom { calls = doom.calls - 1 } else doom).fate ≡ doom.fate
    go true = refl
    go false = refl

pub decided-after : (calls : List (Method × Owner)) (dooms : List Doom) (method : Method) (owner : Owner) →
    decision method owner (fates_after_all calls dooms)
    ≡ option_map (λ doom. doom.fate) (find (is_its_call calls method owner) dooms)
decided-after [] dooms method owner =
    ap (λ (test : Doom → Bool). option_map (λ doom. doom.fate) (find test dooms)) (λ i doom. due-is method owner doom i)
decided-after (call ∷ calls) dooms method owner =
    decided-after calls (fates_after call.0 call.1 dooms) method owner
    ∙ ap (option_map (λ doom. doom.fate))
    (find-kept (nearer call.0 call.1) (is_its_call calls method owner) is_waiting dooms (waits calls method owner))
    ∙ same_fate call.0 call.1 (find (λ doom. is_its_call calls method owner (nearer call.0 call.1 doom)) dooms)
    ∙ ap (λ (test : Doom → Bool). option_map (λ doom. doom.fate) (find test dooms))
    (λ i doom. its_call-next call.0 call.1 calls method owner doom i)

pub met-after : (calls : List (Method × Owner)) (dooms : List Doom) (method : Method) (owner : Owner) →
    due_count method owner (fates_after_all calls dooms) ≡ count_by (is_its_call calls method owner) dooms
met-after [] dooms method owner = ap (λ (test : Doom → Bool). count_by test dooms) (λ i doom. due-is method owner doom i)
met-after (call ∷ calls) dooms method owner =
    met-after calls (fates_after call.0 call.1 dooms) method owner
    ∙ count-kept (nearer call.0 call.1) (is_its_call calls method owner) is_waiting dooms (waits calls method owner)
    ∙ ap (λ (test : Doom → Bool). count_by test dooms) (λ i doom. its_call-next call.0 call.1 calls method owner doom i)
