-- Packages of which none is left need none themselves, and the other way round.
use Rattle.std.proofs.Common.{◌≡◌, ◌⊎◌, ⊎_elim, inl, inr, refl, sym, subst, arith, ℕ, zero, suc, ◌≤◌, Bool, true, false, List, [], ◌∷◌, length}
use Rattle.std.specs.Prelude.{Contains}
use Rattle.std.specs.List.{list_all}
use Rattle.bosh_alike.proofs.ElementLemmas.{all_at, first_or_other, here, none_in, some_at, some_from, there}
use Rattle.bosh_base.specs.declared.release.PackageSpec.{PackageSpec}
use Rattle.bosh_release.specs.Sound.{Depends, Lists, at_once, by, names_of}
use Rattle.laws_outside.specs.Packages.{are_none, has_no_cycle, is_one_of, left_after, lists_one, waiting}
use Rattle.laws_outside.proofs.ListLemmas.{kept_from, kept_into, less, name_in, named, of_one, one_of}

depends_then : {packages : List PackageSpec} {one next : List ℕ} → Depends packages one next → (last : List ℕ) → Depends packages next last → Depends packages one last
depends_then (at_once one next l) last more = by one next last l more
depends_then (by one between next l r) last more = by one between last l (depends_then r last more)

-- ---- where none is left, none needs itself

module _ (packages : List PackageSpec) where
  -- a package lists one that needs itself
  abbrev IsEndless : PackageSpec → Type 0
  IsEndless pack = (name : List ℕ) × Contains pack.deps name × Depends packages name name

  first_step : {one last : List ℕ} → Depends packages one last
      → (next : List ℕ) × Lists packages one next × ((next ≡ last) ⊎ Depends packages next last)
  first_step (at_once one last l) = (last, l, inl refl)
  first_step (by one next last l r) = (next, l, inr r)

  -- what needs itself is the name of a package that lists one that needs itself
  next_endless : (name : List ℕ) → Depends packages name name
      → (pack : PackageSpec) × Contains packages pack × (pack.name ≡ name) × IsEndless pack
  next_endless name round =
      let (next, l, more) = first_step round in
      let again : Depends packages next next = ⊎_elim
      (λ (same : next ≡ name). subst (λ n. Depends packages n n) (sym same) round)
      (λ (r : Depends packages next name). depends_then r next (at_once name next l))
      more in
      let (pack, within, is, listed) = l in
      (pack, within, is, (next, listed, again))

  -- those that are endless are among these
  abbrev HasEndless : List PackageSpec → Type 0
  HasEndless left = (pack : PackageSpec) → Contains packages pack → IsEndless pack → Contains left pack

  endless_stay : (left : List PackageSpec) → HasEndless left → HasEndless (waiting left)
  endless_stay left has pack within (name, listed, round) =
      let (other, there', is, endless) = next_endless name round in
      let among : Contains (names_of left) name = subst (λ n. Contains (names_of left) n) is (name_in left other (has other there' endless)) in
      let lists : lists_one left pack ≡ true = some_from (is_one_of (names_of left)) pack.deps name listed (of_one (names_of left) name among) in
      kept_into (lists_one left) left pack (has pack within (name, listed, round)) lists

  endless_are_left : (rounds : ℕ) (left : List PackageSpec) → HasEndless left → HasEndless (left_after rounds left)
  endless_are_left zero left has = has
  endless_are_left (suc rounds) left has = endless_are_left rounds (waiting left) (endless_stay left has)

  none_there : (left : List PackageSpec) (pack : PackageSpec) → are_none left ≡ true → Contains left pack → ⊥
  none_there [] pack h c = none_in pack c
  none_there (first ∷ left) pack h c = absurd cc

  pub none_needs_itself : has_no_cycle packages ≡ true → (name : List ℕ) → Depends packages name name → ⊥
  none_needs_itself h name round =
      let (pack, within, is, endless) = next_endless name round in
      none_there (left_after (length packages) packages) pack h
      (endless_are_left (length packages) packages (λ p c e. c) pack within endless)

-- ---- where none needs itself, none is left

-- where each has a next one, some comes back to itself
comes_back :
    {X : Type 0} (R : X → X → Type 0) → ((x y z : X) → R x y → R y z → R x z) → (xs : List X)
    → ((x : X) → Contains xs x → (y : X) × Contains xs y × R x y) → (x : X) → Contains xs x → (y : X) × R y y
comes_back R then [] next x c = absurd (none_in x c)
comes_back R then (first ∷ xs) next x c =
    let (second, within, r) = next first (here first xs) in
    ⊎_elim
    (λ (same : first ≡ second). (first, subst (R first) (sym same) r))
    (λ (later : Contains xs second).
    comes_back R then xs
    (λ z z_in.
    let (after, among, s) = next z (there first z xs z_in) in
    ⊎_elim
    (λ (back : first ≡ after). (second, later, then z first second (subst (R z) (sym back) s) r))
    (λ (on : Contains xs after). (after, on, s))
    (first_or_other first after xs among))
    second later)
    (first_or_other first second xs within)

module _ (packages : List PackageSpec) (free : (name : List ℕ) → Depends packages name name → ⊥) where
  abbrev Needs : PackageSpec → PackageSpec → Type 0
  Needs one other = Depends packages one.name other.name

  -- not all of some packages list one of them
  not_all : (first : PackageSpec) (left : List PackageSpec) → ((pack : PackageSpec) → Contains (first ∷ left) pack → Contains packages pack)
      → list_all (lists_one (first ∷ left)) (first ∷ left) ≡ true → ⊥
  not_all first left among h =
      let (back, round) = comes_back Needs (λ x y z r s. depends_then r z.name s) (first ∷ left) next first (here first left) in
      free back.name round
    where
      next : (pack : PackageSpec) → Contains (first ∷ left) pack → (other : PackageSpec) × Contains (first ∷ left) other × Needs pack other
      next pack c =
          let lists : lists_one (first ∷ left) pack ≡ true = all_at (lists_one (first ∷ left)) (first ∷ left) pack h c in
          let (name, listed, is) = some_at (is_one_of (names_of (first ∷ left))) pack.deps lists in
          let (other, within, named_so) = named (first ∷ left) name (one_of (names_of (first ∷ left)) name is) in
          (other, within, subst (λ n. Depends packages pack.name n) (sym named_so) (at_once pack.name name (pack, among pack c, refl, listed)))

  fewer : (left : List PackageSpec) (rounds : ℕ) → length left ≤ suc rounds
      → ((pack : PackageSpec) → Contains left pack → Contains packages pack) → length (waiting left) ≤ rounds
  fewer [] rounds le among = omega arith
  fewer (first ∷ left) rounds le among = at (list_all (lists_one (first ∷ left)) (first ∷ left)) refl
    where
      at : (b : Bool) → list_all (lists_one (first ∷ left)) (first ∷ left) ≡ b → length (waiting (first ∷ left)) ≤ rounds
      at true h = absurd (not_all first left among h)
      at false h = let lt = less (lists_one (first ∷ left)) (first ∷ left) h in omega (arith, lt, le)

  none_left : (rounds : ℕ) (left : List PackageSpec) → length left ≤ rounds
      → ((pack : PackageSpec) → Contains left pack → Contains packages pack) → are_none (left_after rounds left) ≡ true
  none_left zero [] le among = refl
  none_left zero (first ∷ left) le among = absurd (omega (arith, le))
  none_left (suc rounds) left le among =
      none_left rounds (waiting left) (fewer left rounds le among)
      (λ pack c. among pack (kept_from (lists_one left) left pack c).0)

  pub none_is_left : has_no_cycle packages ≡ true
  none_is_left = none_left (length packages) packages (omega arith) (λ pack c. c)
