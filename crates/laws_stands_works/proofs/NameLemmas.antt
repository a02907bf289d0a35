-- Instances one after another: their names of groups, each once, and the members of each group.
use Rattle.std.proofs.Common.{◌≡◌, ◌∙◌, ℕ, ◌+◌, Bool, true, false, ◌||◌, not, List, [], ◌∷◌, ◌++◌, filter, map, ap}
use Rattle.std.proofs.Common.{arith, refl, sym}
use Rattle.std.specs.Prelude.{length, suc, if◌then◌else◌}
use Rattle.std.specs.Str.{bytes_eq}
use Rattle.std.proofs.lemmas.Bool.{false≢true, true≢false}
use Rattle.std.proofs.lemmas.Map.Views.{any-filter_same}
use Rattle.std.proofs.lemmas.List.{append-nil, length-map}
use Rattle.std.proofs.lemmas.List.Elements.{filter-append}
use Rattle.bosh_base.specs.declared.inst.Inst.{Inst}
use Rattle.bosh_history.specs.Words.{is_among}
use Rattle.laws_stands.proofs.MemberLemmas.{members_are, once_has}
use Rattle.laws_stands.proofs.DeploymentLemmas.{bytes_flip, bytes_is}
use Rattle.laws_stands.specs.GroupsStand.{numbered, once}

-- ---- names, each once

-- one more name, where it is a new one
abbrev pub with_name : List ℕ → List (List ℕ) → List (List ℕ)
with_name x names = if is_among bytes_eq x names then names else names ++ x ∷ []

-- another name is among those that are left
among_rest : (y x : List ℕ) (names : List (List ℕ)) → bytes_eq x y ≡ false
    → is_among bytes_eq x (filter (λ it. not (bytes_eq y it)) names) ≡ is_among bytes_eq x names
among_rest y x names other = any-filter_same (bytes_eq x) (λ it. not (bytes_eq y it)) true apart names
  where
    apart : (z : List ℕ) → bytes_eq x z ≡ true → not (bytes_eq y z) ≡ true
    apart z same = ap not (bytes_flip y z ∙ ap (λ z. bytes_eq z y) (sym (bytes_is x z same)) ∙ other)

pub once_snoc : (names : List (List ℕ)) (x : List ℕ) → once (names ++ x ∷ []) ≡ with_name x (once names)
once_snoc [] x = refl
once_snoc (y ∷ names) x = ap (λ all. y ∷ filter (λ it. not (bytes_eq y it)) all) (once_snoc names x)
    ∙ by (bytes_eq x y) refl (is_among bytes_eq x (once names)) refl
  where
    rest : List (List ℕ) → List (List ℕ)
    rest all = filter (λ it. not (bytes_eq y it)) all

    by : (a : Bool) → bytes_eq x y ≡ a → (b : Bool) → is_among bytes_eq x (once names) ≡ b
        → y ∷ filter (λ it. not (bytes_eq y it)) (if is_among bytes_eq x (once names) then once names
        else once names ++ x ∷ [])
        ≡ (if bytes_eq x y || is_among bytes_eq x (filter (λ it. not (bytes_eq y it)) (once names))
        then y ∷ filter (λ it. not (bytes_eq y it)) (once names)
        else (y ∷ filter (λ it. not (bytes_eq y it)) (once names)) ++ x ∷ [])
    by true same true is =
        (λ j. y ∷ rest (if is j then once names else once names ++ x ∷ []))
        ∙ (λ j. if sym same j || is_among bytes_eq x (rest (once names)) then y ∷ rest (once names)
        else (y ∷ rest (once names)) ++ x ∷ [])
    by true same false is =
        (λ j. y ∷ rest (if is j then once names else once names ++ x ∷ []))
        ∙ ap (λ all. y ∷ all) (filter-append (λ it. not (bytes_eq y it)) (once names) (x ∷ []))
        ∙ (λ j. y ∷ (rest (once names) ++ (if not ((bytes_flip y x ∙ same) j) then x ∷ [] else [])))
        ∙ ap (λ all. y ∷ all) (append-nil (rest (once names)))
        ∙ (λ j. if sym same j || is_among bytes_eq x (rest (once names)) then y ∷ rest (once names)
        else (y ∷ rest (once names)) ++ x ∷ [])
    by false other true is =
        (λ j. y ∷ rest (if is j then once names else once names ++ x ∷ []))
        ∙ (λ j. if sym other j || (sym is ∙ sym (among_rest y x (once names) other)) j then y ∷ rest (once names)
        else (y ∷ rest (once names)) ++ x ∷ [])
    by false other false is =
        (λ j. y ∷ rest (if is j then once names else once names ++ x ∷ []))
        ∙ ap (λ all. y ∷ all) (filter-append (λ it. not (bytes_eq y it)) (once names) (x ∷ []))
        ∙ (λ j. y ∷ (rest (once names) ++ (if not ((bytes_flip y x ∙ other) j) then x ∷ [] else [])))
        ∙ (λ j. if sym other j || (sym is ∙ sym (among_rest y x (once names) other)) j then y ∷ rest (once names)
        else (y ∷ rest (once names)) ++ x ∷ [])

-- a name that is not among those that stand once is not among all
none_once : (x : List ℕ) (names : List (List ℕ)) → is_among bytes_eq x (once names) ≡ false
    → is_among bytes_eq x names ≡ false
none_once x names none = by (is_among bytes_eq x names) refl
  where
    by : (b : Bool) → is_among bytes_eq x names ≡ b → is_among bytes_eq x names ≡ false
    by false is = is
    by true is = absurd (false≢true (sym none ∙ once_has x names is))

-- ---- members

abbrev pub members_of : List Inst → List ℕ → List (ℕ × Inst)
members_of before group = filter (λ e. bytes_eq e.1.group group) (numbered 0 before)

numbered_snoc : (n : ℕ) (before : List Inst) (x : Inst)
    → numbered n (before ++ x ∷ []) ≡ numbered n before ++ (n + length before, x) ∷ []
numbered_snoc n [] x = λ j. (none j, x) ∷ []
  where
    none : n ≡ n + 0
    none = omega arith
numbered_snoc n (y ∷ before) x = ap (λ all. (n, y) ∷ all) (numbered_snoc (suc n) before x)
    ∙ (λ j. (n, y) ∷ (numbered (suc n) before ++ (moved j, x) ∷ []))
  where
    moved : suc n + length before ≡ n + suc (length before)
    moved = omega arith

pub members_snoc : (before : List Inst) (x : Inst) (group : List ℕ)
    → members_of (before ++ x ∷ []) group
    ≡ members_of before group ++ (if bytes_eq x.group group then (length before, x) ∷ [] else [])
members_snoc before x group =
    ap (filter (λ (e : ℕ × Inst). bytes_eq e.1.group group))
    (numbered_snoc 0 before x ∙ (λ j. numbered 0 before ++ (zero j, x) ∷ []))
    ∙ filter-append (λ (e : ℕ × Inst). bytes_eq e.1.group group) (numbered 0 before) ((length before, x) ∷ [])
  where
    zero : 0 + length before ≡ length before
    zero = omega arith

-- none is of a group that is not among the names
none_numbered : (n : ℕ) (before : List Inst) (group : List ℕ)
    → is_among bytes_eq group (map (λ i. i.group) before) ≡ false
    → filter (λ e. bytes_eq e.1.group group) (numbered n before) ≡ []
none_numbered n [] group none = refl
none_numbered n (y ∷ before) group none =
    by (bytes_eq group y.group) refl none (none_numbered (suc n) before group)
  where
    by : (b : Bool) → bytes_eq group y.group ≡ b
        → (b || is_among bytes_eq group (map (λ (i : Inst). i.group) before)) ≡ false
        → (is_among bytes_eq group (map (λ (i : Inst). i.group) before) ≡ false
        → filter (λ (e : ℕ × Inst). bytes_eq e.1.group group) (numbered (suc n) before) ≡ [])
        → filter (λ e. bytes_eq e.1.group group) (numbered n (y ∷ before)) ≡ []
    by true same none more = absurd (true≢false none)
    by false other none more =
        (λ j. if (bytes_flip y.group group ∙ other) j
        then (n, y) ∷ filter (λ (e : ℕ × Inst). bytes_eq e.1.group group) (numbered (suc n) before)
        else filter (λ (e : ℕ × Inst). bytes_eq e.1.group group) (numbered (suc n) before))
        ∙ more none

pub none_of_group : (before : List Inst) (group : List ℕ)
    → is_among bytes_eq group (once (map (λ i. i.group) before)) ≡ false → members_of before group ≡ []
none_of_group before group none = none_numbered 0 before group (none_once group (map (λ i. i.group) before) none)

-- as many as change in the group
pub as_many : (n : ℕ) (xs : List Inst) (group : List ℕ)
    → length (map (λ (e : ℕ × Inst). e.0) (filter (λ e. bytes_eq e.1.group group) (numbered n xs)))
    ≡ length (filter (λ i. bytes_eq i.group group) xs)
as_many n xs group =
    length-map all (λ (e : ℕ × Inst). e.0) ∙ sym (length-map all (λ (e : ℕ × Inst). e.1))
    ∙ ap length (members_are (λ (i : Inst). bytes_eq i.group group) n xs)
  where
    all : List (ℕ × Inst)
    all = filter (λ e. bytes_eq e.1.group group) (numbered n xs)
