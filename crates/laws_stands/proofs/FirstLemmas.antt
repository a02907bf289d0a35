-- The first of the numbers, and of the places, of which something holds.
use Rattle.std.proofs.Common.{◌≡◌, ◌∙◌, ℕ, ◌+◌, ◌<◌, ◌≤◌, zero, suc, Bool, true, false, ◌&&◌, ◌||◌, List, [], ◌∷◌}
use Rattle.std.proofs.Common.{Option, Some, None, ap, refl, sym, subst, arith, inl, inr}
use Rattle.std.specs.Prelude.{◌⊎◌, ◌==◌, fold, min, nat_lt, slice_get, slice_index_or, if◌then◌else◌}
use Rattle.std.specs.List.{enumerate_from}
use Rattle.std.specs.Option.{option_and_then, option_map}
use Rattle.std.proofs.lemmas.Bool.{and_from, and_parts, eq-eqb, eqb-true, false≢true, ltb-false, ltb-true, lt-ltb}
use Rattle.std.proofs.lemmas.Bool.{or_cases, or_left, or_right}
use Rattle.bosh_progress.specs.Rolling.{allowed, are_past, first_claimable, is_allowed, least}
use Rattle.bosh_progress.specs.Tree.{first_marked, marked_in}
use Rattle.bosh_progress.specs.declared.rolling.Rolling.{Rolling}
use Rattle.bosh_work.specs.declared.part.GroupPlace.{GroupPlace}
use Rattle.bosh_work.specs.declared.groups.GroupWork.{GroupWork}
use Rattle.bosh_claim.specs.Updated.{among_all, claimable, earlier, with_claimable}

abbrev pub IsFirst : (ℕ → Type 0) → Option ℕ → Type 0
IsFirst P None = (q : ℕ) → P q → ⊥
IsFirst P (Some p) = P p × ((q : ℕ) → P q → p ≤ q)

pub same_first : (P : ℕ → Type 0) (a b : Option ℕ) → IsFirst P a → IsFirst P b → a ≡ b
same_first P (Some p) (Some q) (here, low) (there, lowest) =
    let l : p ≤ q = low q there in let m : q ≤ p = lowest p here in ap Some (omega arith)
same_first P (Some p) None (here, low) none = absurd (none p here)
same_first P None (Some q) none (there, lowest) = absurd (none q there)
same_first P None None none nothing = refl

pub first_marked_is : (marks : List Bool) → IsFirst (λ q. slice_index_or marks q false ≡ true) (first_marked marks)
first_marked_is [] = λ q is. false≢true is
first_marked_is (true ∷ marks) = (refl, λ q is. omega arith)
first_marked_is (false ∷ marks) = by (first_marked marks) (first_marked_is marks)
  where
    by : (k : Option ℕ) → IsFirst (λ q. slice_index_or marks q false ≡ true) k
        → IsFirst (λ q. slice_index_or (false ∷ marks) q false ≡ true) (option_map suc k)
    by (Some k) (here, low) = (here, λ q. low_at q)
      where
        low_at : (q : ℕ) → slice_index_or (false ∷ marks) q false ≡ true → suc k ≤ q
        low_at zero is = absurd (false≢true is)
        low_at (suc q) is = let l : k ≤ q = low q is in omega arith
    by None none = λ q. none_at q
      where
        none_at : (q : ℕ) → slice_index_or (false ∷ marks) q false ≡ true → ⊥
        none_at zero is = false≢true is
        none_at (suc q) is = none q is

pub least_is : (P Q : ℕ → Type 0) (a b : Option ℕ) → IsFirst P a → IsFirst Q b
    → IsFirst (λ q. P q ⊎ Q q) (least a b)
least_is P Q (Some p) (Some q) (here, low) (there, lowest) = (by (nat_lt p q) refl, λ r. both r)
  where
    by : (t : Bool) → nat_lt p q ≡ t → P (min p q) ⊎ Q (min p q)
    by true is = let l : p < q = ltb-true p q is in inl (subst P (omega arith) here)
    by false is = let l : q ≤ p = ltb-false p q is in inr (subst Q (omega arith) there)

    both : (r : ℕ) → P r ⊎ Q r → min p q ≤ r
    both r (inl it) = let l : p ≤ r = low r it in omega arith
    both r (inr it) = let l : q ≤ r = lowest r it in omega arith
least_is P Q (Some p) None (here, low) none = (inl here, λ r. both r)
  where
    both : (r : ℕ) → P r ⊎ Q r → p ≤ r
    both r (inl it) = low r it
    both r (inr it) = absurd (none r it)
least_is P Q None (Some q) none (there, lowest) = (inr there, λ r. both r)
  where
    both : (r : ℕ) → P r ⊎ Q r → q ≤ r
    both r (inl it) = absurd (none r it)
    both r (inr it) = lowest r it
least_is P Q None None none nothing = λ r. both r
  where
    both : (r : ℕ) → P r ⊎ Q r → ⊥
    both r (inl it) = none r it
    both r (inr it) = nothing r it

-- ---- a group

-- an instance of a group may be worked on: it is idle, or it waits and may begin
abbrev pub CanClaim : Rolling → ℕ → Type 0
CanClaim roll place =
    (slice_index_or roll.idle place false ≡ true)
    ⊎ ((slice_index_or roll.waiting place false ≡ true) × (is_allowed roll place ≡ true))

-- where one is allowed, so is an earlier one
earlier_allowed : (roll : Rolling) (p q : ℕ) → p ≤ q → is_allowed roll q ≡ true → is_allowed roll p ≡ true
earlier_allowed roll p q low is =
    let parts : (nat_lt (marked_in roll.busy) roll.limit ≡ true)
    × ((nat_lt q roll.canaries || (are_past roll.canaries roll.waiting && are_past roll.canaries roll.busy))
    ≡ true) =
    and_parts (nat_lt (marked_in roll.busy) roll.limit) _ is in
    and_from (nat_lt (marked_in roll.busy) roll.limit) _ parts.0
    (elim (or_cases (nat_lt q roll.canaries) (are_past roll.canaries roll.waiting
    && are_past roll.canaries roll.busy) parts.1) [
      | inl first ↦ let l : q < roll.canaries = ltb-true q roll.canaries first in or_left (nat_lt p roll.canaries) _
          (lt-ltb p roll.canaries (omega arith))
      | inr past ↦ or_right (nat_lt p roll.canaries) _ past
    ])

allowed_is : (roll : Rolling) (W : ℕ → Type 0) (k : Option ℕ) → IsFirst W k
    → IsFirst (λ q. W q × (is_allowed roll q ≡ true)) (allowed roll k)
allowed_is roll W None none = λ q it. none q it.0
allowed_is roll W (Some p) (here, low) = by (is_allowed roll p) refl
  where
    by : (b : Bool) → is_allowed roll p ≡ b → IsFirst (λ q. W q × (is_allowed roll q ≡ true))
        (if b then Some p else None)
    by true is = ((here, is), λ q it. low q it.0)
    by false is = λ q it. false≢true (sym is ∙ earlier_allowed roll p q (low q it.0) it.1)

pub first_claimable_is : (roll : Rolling) → IsFirst (CanClaim roll) (first_claimable roll)
first_claimable_is roll =
    least_is (λ q. slice_index_or roll.idle q false ≡ true) (λ q. (slice_index_or roll.waiting q false ≡ true)
    × (is_allowed roll q ≡ true))
    (first_marked roll.idle) (allowed roll (first_marked roll.waiting)) (first_marked_is roll.idle)
    (allowed_is roll (λ q. slice_index_or roll.waiting q false ≡ true) (first_marked roll.waiting)
    (first_marked_is roll.waiting))

-- ---- several groups

-- a place of a group of a stage, with its place among all that change
pub record IsHere (stage group : ℕ) (it : GroupWork) (q : ℕ) (at : GroupPlace) : Type 0 where
  pub group_is : at.group ≡ group
  pub stage_is : it.stage ≡ stage
  pub place_is : slice_get it.places at.place ≡ Some q
  pub can : CanClaim it.roll at.place

-- the places of a group rise, and there is one for each that may be worked on
pub record HasPlaces (it : GroupWork) : Type 0 where
  pub rise : (i j p q : ℕ) → i ≤ j → slice_get it.places i ≡ Some p → slice_get it.places j ≡ Some q → p ≤ q
  pub all : (j : ℕ) → CanClaim it.roll j → (q : ℕ) × (slice_get it.places j ≡ Some q)

abbrev pub IsFirstPlace : (ℕ → GroupPlace → Type 0) → Option (ℕ × GroupPlace) → Type 0
IsFirstPlace P None = (q : ℕ) (at : GroupPlace) → P q at → ⊥
IsFirstPlace P (Some e) = P e.0 e.1 × ((q : ℕ) (at : GroupPlace) → P q at → e.0 ≤ q)

first_as : (P Q : ℕ → GroupPlace → Type 0) (e : Option (ℕ × GroupPlace))
    → ((q : ℕ) (at : GroupPlace) → P q at → Q q at)
    → ((q : ℕ) (at : GroupPlace) → Q q at → P q at) → IsFirstPlace P e → IsFirstPlace Q e
first_as P Q (Some e) to from (here, low) = (to e.0 e.1 here, λ q at it. low q at (from q at it))
first_as P Q None to from none = λ q at it. none q at (from q at it)

claimable_is : (stage group : ℕ) (it : GroupWork) → HasPlaces it → it.stage ≡ stage
    → IsFirstPlace (IsHere stage group it) (claimable group it)
claimable_is stage group it has is = by (first_claimable it.roll) (first_claimable_is it.roll)
  where
    at_mark : (k : ℕ) → CanClaim it.roll k → ((j : ℕ) → CanClaim it.roll j → k ≤ j) → (o : Option ℕ)
        → slice_get it.places k ≡ o
        → IsFirstPlace (IsHere stage group it) (option_map (λ at. (at, record { group = group; place = k })) o)
    at_mark k can low (Some q) there = (
      record { group_is = refl; stage_is = is; place_is = there; can = can },
      λ r at here. has.rise k at.place q r (low at.place here.can) there here.place_is,
    )
    at_mark k can low None there = absurd (let one : (q : ℕ) × (slice_get it.places k ≡ Some q) =
        has.all k can in let e : slice_get it.places k ≡ Some one.0 = one.1 in cc)

    by : (k : Option ℕ) → IsFirst (CanClaim it.roll) k → IsFirstPlace (IsHere stage group it)
        (option_and_then (among_all group it) k)
    by None none = λ q at here. none at.place here.can
    by (Some k) (can, low) = at_mark k can low (slice_get it.places k) refl

earlier_is : (P Q : ℕ → GroupPlace → Type 0) (a b : Option (ℕ × GroupPlace)) → IsFirstPlace P a → IsFirstPlace Q b
    → IsFirstPlace (λ q at. P q at ⊎ Q q at) (earlier a b)
earlier_is P Q (Some a) (Some b) (here, low) (there, lowest) = by (nat_lt b.0 a.0) refl
  where
    by : (t : Bool) → nat_lt b.0 a.0 ≡ t → IsFirstPlace (λ q at. P q at ⊎ Q q at) (if t then Some b else Some a)
    by true is = (inr there, λ q at. both q at)
      where
        both : (q : ℕ) (at : GroupPlace) → P q at ⊎ Q q at → b.0 ≤ q
        both q at (inl it) = let l : a.0 ≤ q = low q at it in let m : b.0 < a.0 = ltb-true b.0 a.0 is in omega arith
        both q at (inr it) = lowest q at it
    by false is = (inl here, λ q at. both q at)
      where
        both : (q : ℕ) (at : GroupPlace) → P q at ⊎ Q q at → a.0 ≤ q
        both q at (inl it) = low q at it
        both q at (inr it) = let l : b.0 ≤ q = lowest q at it in let m : a.0 ≤ b.0 = ltb-false b.0 a.0 is
            in omega arith
earlier_is P Q (Some a) None (here, low) none = (inl here, λ q at. both q at)
  where
    both : (q : ℕ) (at : GroupPlace) → P q at ⊎ Q q at → a.0 ≤ q
    both q at (inl it) = low q at it
    both q at (inr it) = absurd (none q at it)
earlier_is P Q None b none first = first_as Q (λ q at. P q at ⊎ Q q at) b (λ q at it. inr it)
    (λ q at. only q at) first
  where
    only : (q : ℕ) (at : GroupPlace) → P q at ⊎ Q q at → Q q at
    only q at (inl it) = absurd (none q at it)
    only q at (inr it) = it

-- one of some groups of a stage
abbrev pub Among : ℕ → List (ℕ × GroupWork) → ℕ → GroupPlace → Type 0
Among stage [] q at = ⊥
Among stage (e ∷ es) q at = IsHere stage e.0 e.1 q at ⊎ Among stage es q at

abbrev pub HaveAll : List (ℕ × GroupWork) → Type 0
HaveAll [] = Unit {0}
HaveAll (e ∷ es) = HasPlaces e.1 × HaveAll es

one_group : (stage : ℕ) (P : ℕ → GroupPlace → Type 0) (e : ℕ × GroupWork) (found : Option (ℕ × GroupPlace))
    → HasPlaces e.1 → IsFirstPlace P found
    → IsFirstPlace (λ q at. P q at ⊎ IsHere stage e.0 e.1 q at) (with_claimable stage found e)
one_group stage P e found has first = by (e.1.stage == stage) refl
  where
    by : (b : Bool) → (e.1.stage == stage) ≡ b
        → IsFirstPlace (λ q at. P q at ⊎ IsHere stage e.0 e.1 q at) (if b then earlier found (claimable e.0 e.1)
        else found)
    by true is = earlier_is P (IsHere stage e.0 e.1) found (claimable e.0 e.1) first
        (claimable_is stage e.0 e.1 has (eqb-true e.1.stage stage is))
    by false is = first_as P (λ q at. P q at ⊎ IsHere stage e.0 e.1 q at) found (λ q at it. inl it)
        (λ q at. only q at) first
      where
        only : (q : ℕ) (at : GroupPlace) → P q at ⊎ IsHere stage e.0 e.1 q at → P q at
        only q at (inl it) = it
        only q at (inr here) = absurd (false≢true (sym is ∙ eq-eqb e.1.stage stage here.stage_is))

pub first_among : (stage : ℕ) (P : ℕ → GroupPlace → Type 0) (es : List (ℕ × GroupWork))
    (found : Option (ℕ × GroupPlace)) → HaveAll es → IsFirstPlace P found
    → IsFirstPlace (λ q at. P q at ⊎ Among stage es q at) (fold (with_claimable stage) found es)
first_among stage P [] found has first = first_as P (λ q at. P q at ⊎ ⊥) found (λ q at it. inl it)
    (λ q at. only q at) first
  where
    only : (q : ℕ) (at : GroupPlace) → P q at ⊎ ⊥ → P q at
    only q at (inl it) = it
    only q at (inr it) = absurd it
first_among stage P (e ∷ es) found (here, more) first =
    first_as (λ q at. (P q at ⊎ IsHere stage e.0 e.1 q at) ⊎ Among stage es q at) (λ q at. P q at
    ⊎ (IsHere stage e.0 e.1 q at ⊎ Among stage es q at))
    (fold (with_claimable stage) (with_claimable stage found e) es) (λ q at. to q at) (λ q at. from q at)
    (first_among stage (λ q at. P q at ⊎ IsHere stage e.0 e.1 q at) es (with_claimable stage found e) more
    (one_group stage P e found here first))
  where
    to : (q : ℕ) (at : GroupPlace) → (P q at ⊎ IsHere stage e.0 e.1 q at) ⊎ Among stage es q at → P q at
        ⊎ (IsHere stage e.0 e.1 q at ⊎ Among stage es q at)
    to q at (inl (inl it)) = inl it
    to q at (inl (inr it)) = inr (inl it)
    to q at (inr it) = inr (inr it)

    from : (q : ℕ) (at : GroupPlace) → P q at ⊎ (IsHere stage e.0 e.1 q at ⊎ Among stage es q at)
        → (P q at ⊎ IsHere stage e.0 e.1 q at) ⊎ Among stage es q at
    from q at (inl it) = inl (inl it)
    from q at (inr (inl it)) = inl (inr it)
    from q at (inr (inr it)) = inr it

-- ---- by the place of the group

pub among_out : (stage k : ℕ) (groups : List GroupWork) (q : ℕ) (at : GroupPlace)
    → Among stage (enumerate_from k groups) q at
    → (n : ℕ) × (it : GroupWork) × (at.group ≡ k + n) × (slice_get groups n ≡ Some it)
    × IsHere stage at.group it q at
among_out stage k [] q at none = absurd none
among_out stage k (it ∷ groups) q at (inl here) = (
  0,
  it,
  here.group_is ∙ omega arith,
  refl,
  record {
    group_is = refl;
    stage_is = here.stage_is;
    place_is =
        here.place_is;
    can = here.can;
  },
)
among_out stage k (it ∷ groups) q at (inr more) =
    let r : (n : ℕ) × (it : GroupWork) × (at.group ≡ (k + 1) + n) × (slice_get groups n ≡ Some it)
    × IsHere stage at.group it q at = among_out stage (k + 1) groups q at more in
    (suc r.0, r.1, r.2 ∙ omega arith, r.3, r.4)

pub among_in : (stage k : ℕ) (groups : List GroupWork) (q : ℕ) (at : GroupPlace) (n : ℕ) (it : GroupWork) → at.group
    ≡ k + n → slice_get groups n ≡ Some it
    → IsHere stage at.group it q at → Among stage (enumerate_from k groups) q at
among_in stage k [] q at n it is there here = absurd cc
among_in stage k (one ∷ groups) q at zero it is there here =
    let e : one ≡ it = cc in
    inl (subst (λ w. IsHere stage k w q at) (sym e) (record {
      group_is = is ∙ omega arith;
      stage_is = here.stage_is;
      place_is = here.place_is;
      can = here.can;
    }))
among_in stage k (one ∷ groups) q at (suc n) it is there here =
    inr (among_in stage (k + 1) groups q at n it (is ∙ omega arith) there here)
