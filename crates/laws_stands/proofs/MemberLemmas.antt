-- Members of lists: those of a group with their places, canaries, and the names of groups.
use Rattle.std.proofs.Common.{◌≡◌, ◌∙◌, ℕ, ◌+◌, ◌≤◌, zero, suc, Bool, true, false, ◌&&◌, ◌||◌, not, List, [], ◌∷◌}
use Rattle.std.proofs.Common.{map, take, filter, Option, Some, None, ap, refl, sym, arith, inl, inr}
use Rattle.std.specs.Prelude.{nat_lt, slice_get, if◌then◌else◌}
use Rattle.std.specs.List.{list_all, list_any}
use Rattle.std.specs.Option.{option_map}
use Rattle.std.specs.Str.{bytes_eq}
use Rattle.std.proofs.lemmas.Bool.{and_from, and_parts, false≢true, not-true, or_cases, or_left}
use Rattle.std.proofs.lemmas.Bool.{or_parts, or_right}
use Rattle.std.proofs.lemmas.Bool.Decides.{nat_tests}
use Rattle.std.proofs.lemmas.Slice.Eq.{bytes_eq-Decides}
use Rattle.bosh_base.specs.declared.inst.Inst.{Inst}
use Rattle.bosh_history.specs.Words.{is_among}
use Rattle.bosh_rows.specs.SoundSnapshot.{are_distinct}
use Rattle.bosh_progress.specs.Rolling.{are_past, is_none_below}
use Rattle.bosh_progress.specs.Tree.{first_marked}
use Rattle.bosh_rows.specs.Same.{same_inst}
use Rattle.bosh_rows.proofs.SameLemmas.{itself, same_inst_decides}
use Rattle.laws_stands.specs.GroupsStand.{names_of, once}
use Rattle.laws_stands.specs.GroupsStand.{numbered}

pub bytes_same : (a : List ℕ) → bytes_eq a a ≡ true
bytes_same a = (bytes_eq-Decides a a).1 refl

pub bytes_is : (a b : List ℕ) → bytes_eq a b ≡ true → a ≡ b
bytes_is a b is = (bytes_eq-Decides a b).0 is

pub inst_is : (a b : Inst) → same_inst a b ≡ true → a ≡ b
inst_is a b is = (same_inst_decides a b).0 is

-- ---- members, and their places

pub member_out : {A : Type 0} (p : A → Bool) (k : ℕ) (xs : List A) (j : ℕ) (e : ℕ × A)
    → slice_get (filter (λ e. p e.1) (numbered k xs)) j ≡ Some e
    → (n : ℕ) × (e.0 ≡ k + n) × (slice_get xs n ≡ Some e.1) × (p e.1 ≡ true)
member_out p k [] j e is = absurd cc
member_out p k (x ∷ xs) j e is = by (p x) refl j is (λ j is. member_out p (suc k) xs j e is)
  where
    further : (n : ℕ) × (e.0 ≡ suc k + n) × (slice_get xs n ≡ Some e.1) × (p e.1 ≡ true) → (n : ℕ) × (e.0 ≡ k + n)
        × (slice_get (x ∷ xs) n ≡ Some e.1) × (p e.1 ≡ true)
    further r = (suc r.0, r.1 ∙ omega arith, r.2, r.3)

    by : (b : Bool) → p x ≡ b → (j : ℕ) → slice_get (if b then (k, x) ∷ filter (λ e. p e.1) (numbered (suc k) xs)
        else filter (λ e. p e.1) (numbered (suc k) xs)) j ≡ Some e
        → ((j : ℕ) → slice_get (filter (λ e. p e.1) (numbered (suc k) xs)) j ≡ Some e → (n : ℕ) × (e.0 ≡ suc k + n)
        × (slice_get xs n ≡ Some e.1) × (p e.1 ≡ true))
        → (n : ℕ) × (e.0 ≡ k + n) × (slice_get (x ∷ xs) n ≡ Some e.1) × (p e.1 ≡ true)
    by true passes zero is more = let here : (k, x) ≡ e =
        cc in (
          0,
          ap (λ e. e.0) (sym here) ∙ omega arith,
          ap (λ e. Some e.1) here,
          ap (λ e. p e.1) (sym here)
              ∙ passes,
        )
    by true passes (suc j) is more = further (more j is)
    by false passes j is more = further (more j is)

pub member_in : {A : Type 0} (p : A → Bool) (k : ℕ) (xs : List A) (n m : ℕ) (x : A) → m ≡ k + n → slice_get xs n
    ≡ Some x → p x ≡ true
    → (j : ℕ) × (slice_get (filter (λ e. p e.1) (numbered k xs)) j ≡ Some (m, x))
member_in p k [] n m x at is passes = absurd cc
member_in p k (y ∷ xs) zero m x at is passes =
    let here : y ≡ x = cc in
    let e : (k, y) ≡ (m, x) = (λ i. (omega-is i, here i)) in (
      0,
      (λ i. slice_get (if (ap p here ∙ passes) i then (k, y) ∷ filter (λ e. p e.1) (numbered (suc k) xs)
          else filter (λ e. p e.1) (numbered (suc k) xs)) 0) ∙ ap Some e,
    )
  where
    omega-is : k ≡ m
    omega-is = omega arith
member_in p k (y ∷ xs) (suc n) m x at is passes =
    by (p y) (member_in p (suc k) xs n m x (at ∙ omega arith) is passes)
  where
    by : (b : Bool) → (j : ℕ) × (slice_get (filter (λ e. p e.1) (numbered (suc k) xs)) j ≡ Some (m, x))
        → (j : ℕ)
        × (slice_get (if b then (k, y) ∷ filter (λ e. p e.1) (numbered (suc k) xs) else filter (λ e. p e.1)
        (numbered (suc k) xs)) j ≡ Some (m, x))
    by true r = (suc r.0, r.1)
    by false r = r

pub members_rise : {A : Type 0} (p : A → Bool) (k : ℕ) (xs : List A) (i j : ℕ) (d e : ℕ × A) → i ≤ j
    → slice_get (filter (λ e. p e.1) (numbered k xs)) i ≡ Some d → slice_get (filter (λ e. p e.1) (numbered k xs)) j
    ≡ Some e → d.0 ≤ e.0
members_rise p k [] i j d e low is there = absurd cc
members_rise p k (x ∷ xs) i j d e low is there =
    by (p x) refl i j low is there (λ i j low is there. members_rise p (suc k) xs i j d e low is there)
  where
    by : (b : Bool) → p x ≡ b → (i j : ℕ) → i ≤ j
        → slice_get (if b then (k, x) ∷ filter (λ e. p e.1) (numbered (suc k) xs) else filter (λ e. p e.1)
        (numbered (suc k) xs)) i ≡ Some d
        → slice_get (if b then (k, x) ∷ filter (λ e. p e.1) (numbered (suc k) xs) else filter (λ e. p e.1)
        (numbered (suc k) xs)) j ≡ Some e
        → ((i j : ℕ) → i ≤ j → slice_get (filter (λ e. p e.1) (numbered (suc k) xs)) i ≡ Some d
        → slice_get (filter (λ e. p e.1) (numbered (suc k) xs)) j ≡ Some e → d.0 ≤ e.0)
        → d.0 ≤ e.0
    by true passes zero zero low is there more = let same : d ≡ e = cc in let n : d.0 ≡ e.0 = ap (λ e. e.0) same
        in omega arith
    by true passes zero (suc j) low is there more =
        let here : (k, x) ≡ d = cc in let n : k ≡ d.0 = ap (λ e. e.0) here in
        let r : (n : ℕ) × (e.0 ≡ suc k + n) × (slice_get xs n ≡ Some e.1) × (p e.1 ≡ true) =
        member_out p (suc k) xs j e there in
        let m : e.0 ≡ suc k + r.0 = r.1 in omega arith
    by true passes (suc i) zero low is there more = absurd (omega arith)
    by true passes (suc i) (suc j) low is there more = more i j (omega arith) is there
    by false passes i j low is there more = more i j low is there

pub members_are : {A : Type 0} (p : A → Bool) (k : ℕ) (xs : List A)
    → map (λ e. e.1) (filter (λ e. p e.1) (numbered k xs)) ≡ filter p xs
members_are p k [] = refl
members_are p k (x ∷ xs) = by (p x) (members_are p (suc k) xs)
  where
    by : (b : Bool) → map (λ e. e.1) (filter (λ e. p e.1) (numbered (suc k) xs)) ≡ filter p xs
        → map (λ e. e.1) (if b then (k, x) ∷ filter (λ e. p e.1) (numbered (suc k) xs) else filter (λ e. p e.1)
        (numbered (suc k) xs)) ≡ (if b then x ∷ filter p xs else filter p xs)
    by true more = ap (λ rest. x ∷ rest) more
    by false more = more

-- ---- canaries

pub past_as : {A : Type 0} (f : A → Bool) (c : ℕ) (xs : List A) → are_past c (map f xs)
    ≡ not (list_any f (take c xs))
past_as f zero [] = refl
past_as f (suc c) [] = refl
past_as f zero (x ∷ xs) = none (first_marked (map f (x ∷ xs)))
  where
    none : (k : Option ℕ) → is_none_below 0 k ≡ true
    none (Some k) = grind (arith, nat_tests)
    none None = refl
past_as f (suc c) (x ∷ xs) = by (f x) (past_as f c xs)
  where
    later : (k : Option ℕ) → is_none_below (suc c) (option_map suc k) ≡ is_none_below c k
    later (Some k) = grind (arith, nat_tests)
    later None = refl

    by : (b : Bool) → are_past c (map f xs) ≡ not (list_any f (take c xs))
        → is_none_below (suc c) (first_marked (b ∷ map f xs)) ≡ not (b || list_any f (take c xs))
    by true more = grind (arith, nat_tests)
    by false more = later (first_marked (map f xs)) ∙ more

pub quiet_as : {A : Type 0} (f g h : A → Bool) (xs : List A) → ((x : A) → f x ≡ (not (g x) && not (h x)))
    → list_all f xs ≡ (not (list_any g xs) && not (list_any h xs))
quiet_as f g h [] is = refl
quiet_as f g h (x ∷ xs) is = (λ i. is x i && quiet_as f g h xs is i)
    ∙ four (g x) (h x) (list_any g xs) (list_any h xs)
  where
    four : (a b c d : Bool) → ((not a && not b) && (not c && not d)) ≡ (not (a || c) && not (b || d))
    four true b c d = refl
    four false true true d = refl
    four false true false d = refl
    four false false c d = refl

pub not_same : (same : Inst → Inst → Bool) (i y : Inst) (ys : List Inst) (j : ℕ)
    → ((a b : Inst) → same a b ≡ true → a ≡ b) → ((a : Inst) → same a a ≡ true)
    → is_among same y ys ≡ false → slice_get ys j ≡ Some i → same i y ≡ false
not_same same i y [] j decides refls none there = absurd cc
not_same same i y (z ∷ ys) zero decides refls none there =
    let here : z ≡ i = cc in
    let other : same y z ≡ false = (or_parts (same y z) (is_among same y ys) none).0 in
    by (same i y) refl (ap (same y) (sym here) ∙ other)
  where
    by : (b : Bool) → same i y ≡ b → same y i ≡ false → same i y ≡ false
    by true is other =
        absurd (let e : i ≡ y = decides i y is in false≢true (sym other ∙ (λ k. same y (e k)) ∙ refls y))
    by false is other = is
not_same same i y (z ∷ ys) (suc j) decides refls none there = not_same same i y ys j decides refls
    (or_parts (same y z) (is_among same y ys) none).1 there

pub among_first : (same : Inst → Inst → Bool) (xs : List Inst) (c j : ℕ) (i : Inst)
    → ((a b : Inst) → same a b ≡ true → a ≡ b) → ((a : Inst) → same a a ≡ true)
    → are_distinct same xs ≡ true → slice_get xs j ≡ Some i → is_among same i (take c xs) ≡ nat_lt j c
among_first same [] c j i decides refls apart there = absurd cc
among_first same (y ∷ ys) zero j i decides refls apart there = grind (arith, nat_tests)
among_first same (y ∷ ys) (suc c) zero i decides refls apart there =
    let here : y ≡ i = cc in ap (λ b. b || is_among same i (take c ys)) (ap (same i) here ∙ refls i)
    ∙ grind (arith, nat_tests)
among_first same (y ∷ ys) (suc c) (suc j) i decides refls apart there =
    let parts : (not (is_among same y ys) ≡ true) × (are_distinct same ys ≡ true) =
    and_parts (not (is_among same y ys)) (are_distinct same ys) apart in
    let other : same i y ≡ false = not_same same i y ys j decides refls (not-true (is_among same y ys) parts.0)
    there in
    ap (λ b. b || is_among same i (take c ys)) other ∙ among_first same ys c j i decides refls parts.1 there
    ∙ grind (arith, nat_tests)

pub none_filtered : {A : Type 0} (q p : A → Bool) (xs : List A) → list_any q xs ≡ false → list_any q (filter p xs)
    ≡ false
none_filtered q p [] none = refl
none_filtered q p (x ∷ xs) none = let parts : (q x ≡ false) × (list_any q xs ≡ false) =
    or_parts (q x) (list_any q xs) none in by (p x) parts.0 (none_filtered q p xs parts.1)
  where
    by : (b : Bool) → q x ≡ false → list_any q (filter p xs) ≡ false
        → list_any q (if b then x ∷ filter p xs else filter p xs) ≡ false
    by true here more = λ i. here i || more i
    by false here more = more

pub apart_filtered : {A : Type 0} (same : A → A → Bool) (p : A → Bool) (xs : List A) → are_distinct same xs ≡ true
    → are_distinct same (filter p xs) ≡ true
apart_filtered same p [] apart = refl
apart_filtered same p (x ∷ xs) apart =
    let parts : (not (is_among same x xs) ≡ true) × (are_distinct same xs ≡ true) =
    and_parts (not (is_among same x xs)) (are_distinct same xs) apart in
    by (p x) (not-true (is_among same x xs) parts.0) (apart_filtered same p xs parts.1)
  where
    by : (b : Bool) → is_among same x xs ≡ false → are_distinct same (filter p xs) ≡ true
        → are_distinct same (if b then x ∷ filter p xs else filter p xs) ≡ true
    by true none more = λ i. not (none_filtered (same x) p xs none i) && more i
    by false none more = more

-- ---- items of a list

pub among_from : (i : Inst) (xs : List Inst) (q : ℕ) → slice_get xs q ≡ Some i → is_among same_inst i xs ≡ true
among_from i [] q is = absurd cc
among_from i (x ∷ xs) zero is = let e : x ≡ i = cc in or_left (same_inst i x) (is_among same_inst i xs)
    (ap (same_inst i) e ∙ itself i)
among_from i (x ∷ xs) (suc q) is = or_right (same_inst i x) (is_among same_inst i xs) (among_from i xs q is)

pub all_at : (p : Inst → Bool) (xs : List Inst) (q : ℕ) (i : Inst) → list_all p xs ≡ true → slice_get xs q ≡ Some i
    → p i ≡ true
all_at p [] q i all is = absurd cc
all_at p (x ∷ xs) zero i all is = let e : x ≡ i = cc in ap p (sym e) ∙ (and_parts (p x) (list_all p xs) all).0
all_at p (x ∷ xs) (suc q) i all is = all_at p xs q i (and_parts (p x) (list_all p xs) all).1 is

-- ---- the names of groups

pub none_same : (name : List ℕ) (names : List (List ℕ))
    → is_among bytes_eq name (filter (λ it. not (bytes_eq name it)) names) ≡ false
none_same name [] = refl
none_same name (it ∷ names) = by (bytes_eq name it) refl (none_same name names)
  where
    by : (b : Bool) → bytes_eq name it ≡ b → is_among bytes_eq name (filter (λ it. not (bytes_eq name it)) names)
        ≡ false
        → is_among bytes_eq name (if not b then it ∷ filter (λ it. not (bytes_eq name it)) names
        else filter (λ it. not (bytes_eq name it)) names) ≡ false
    by true is more = more
    by false is more = λ j. is j || more j

pub once_apart : (names : List (List ℕ)) → are_distinct bytes_eq (once names) ≡ true
once_apart [] = refl
once_apart (name ∷ names) =
    and_from (not (is_among bytes_eq name (filter (λ it. not (bytes_eq name it)) (once names))))
    (are_distinct bytes_eq (filter (λ it. not (bytes_eq name it)) (once names)))
    (ap not (none_same name (once names))) (apart_filtered bytes_eq (λ it. not (bytes_eq name it)) (once names)
    (once_apart names))

pub still_there : (name other : List ℕ) (names : List (List ℕ)) → bytes_eq name other ≡ false
    → is_among bytes_eq name names ≡ true
    → is_among bytes_eq name (filter (λ it. not (bytes_eq other it)) names) ≡ true
still_there name other [] differs is = absurd (false≢true is)
still_there name other (it ∷ names) differs is = by (bytes_eq other it) (bytes_eq name it) refl refl is
    (λ is. still_there name other names differs is)
  where
    by : (a b : Bool) → bytes_eq other it ≡ a → bytes_eq name it ≡ b → (b || is_among bytes_eq name names) ≡ true
        → (is_among bytes_eq name names ≡ true
        → is_among bytes_eq name (filter (λ it. not (bytes_eq other it)) names) ≡ true)
        → is_among bytes_eq name (if not a then it ∷ filter (λ it. not (bytes_eq other it)) names
        else filter (λ it. not (bytes_eq other it)) names) ≡ true
    by true true e f is more = absurd (false≢true (sym differs ∙ ap (bytes_eq name) (bytes_is other it e) ∙ f))
    by true false e f is more = more is
    by false b e f is more =
        elim (or_cases (bytes_eq name it) (is_among bytes_eq name names)
        (ap (λ t. t || is_among bytes_eq name names) f ∙ is)) [
          | inl here ↦ or_left (bytes_eq name it)
              (is_among bytes_eq name (filter (λ it. not (bytes_eq other it)) names)) here
          | inr rest ↦ or_right (bytes_eq name it)
              (is_among bytes_eq name (filter (λ it. not (bytes_eq other it)) names)) (more rest)
        ]

pub once_has : (name : List ℕ) (names : List (List ℕ)) → is_among bytes_eq name names ≡ true
    → is_among bytes_eq name (once names) ≡ true
once_has name [] is = is
once_has name (other ∷ names) is = by (bytes_eq name other) refl is (λ is. once_has name names is)
  where
    by : (b : Bool) → bytes_eq name other ≡ b → (b || is_among bytes_eq name names) ≡ true
        → (is_among bytes_eq name names ≡ true → is_among bytes_eq name (once names) ≡ true)
        → (bytes_eq name other || is_among bytes_eq name (filter (λ it. not (bytes_eq other it)) (once names)))
        ≡ true
    by true e is more =
        or_left (bytes_eq name other) (is_among bytes_eq name (filter (λ it. not (bytes_eq other it)) (once names)))
        e
    by false e is more =
        or_right (bytes_eq name other)
        (is_among bytes_eq name (filter (λ it. not (bytes_eq other it)) (once names)))
        (still_there name other (once names) e (more is))

pub named_at : (changed : List Inst) (q : ℕ) (i : Inst) → slice_get changed q ≡ Some i
    → is_among bytes_eq i.group (names_of changed) ≡ true
named_at changed q i is = once_has i.group (map (λ i. i.group) changed) (listed changed q is)
  where
    listed : (xs : List Inst) (q : ℕ) → slice_get xs q ≡ Some i → is_among bytes_eq i.group (map (λ i. i.group) xs)
        ≡ true
    listed [] q is = absurd cc
    listed (x ∷ xs) zero is = let e : x ≡ i = cc in or_left (bytes_eq i.group x.group)
        (is_among bytes_eq i.group (map (λ i. i.group) xs)) (ap (λ y. bytes_eq i.group y.group) e
        ∙ bytes_same i.group)
    listed (x ∷ xs) (suc q) is = or_right (bytes_eq i.group x.group)
        (is_among bytes_eq i.group (map (λ i. i.group) xs)) (listed xs q is)
