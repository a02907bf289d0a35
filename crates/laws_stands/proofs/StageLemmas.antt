-- The least stage of which an update is left.
use Rattle.std.proofs.Common.{◌≡◌, ◌∙◌, ℕ, zero, suc, Bool, true, false, ◌&&◌, not, List, []}
use Rattle.std.proofs.Common.{◌∷◌, filter, Option, Some, None, ap, refl, sym, subst}
use Rattle.std.proofs.Common.{arith, inl, inr}
use Rattle.std.specs.Prelude.{◌⊎◌, ◌==◌, fold, slice_get, if◌then◌else◌}
use Rattle.std.specs.List.{list_all}
use Rattle.std.specs.Str.{bytes_eq}
use Rattle.std.proofs.lemmas.Bool.{true≢false}
use Rattle.bosh_base.specs.declared.inst.Inst.{Inst}
use Rattle.bosh_history.specs.Goals.{changed_in, is_waiting}
use Rattle.bosh_history.specs.Items.{is_finished}
use Rattle.bosh_history.specs.Items.{stage_of}
use Rattle.bosh_history.specs.Known.{Task, plan_in}
use Rattle.bosh_history.specs.Words.{is_among}
use Rattle.bosh_progress.specs.Tree.{marked_in}
use Rattle.bosh_roll.specs.Upd.{is_busy}
use Rattle.bosh_work.specs.declared.groups.GroupWork.{GroupWork}
use Rattle.laws_stands.specs.GroupsStand.{CanUpdate, GroupStands, GroupsStand, plan_named, names_of}
use Rattle.bosh_claim.specs.Phase.{is_updated, least_stage, lesser, with_group}
use Rattle.laws_stands.proofs.FirstLemmas.{IsFirst, least_is}
use Rattle.laws_stands.proofs.GroupLemmas.{at_name, at_number}
use Rattle.laws_stands.proofs.MemberLemmas.{all_at, bytes_is, bytes_same, quiet_as, named_at}
use Rattle.laws_stands.proofs.MarkLemmas.{zero_as}

-- ---- the least stage that is left

-- a group has something left
abbrev pub IsLeftAt : GroupWork → ℕ → Type 0
IsLeftAt it stage = (it.stage ≡ stage) × (is_updated it.roll ≡ false)

abbrev pub IsLeftAmong : List GroupWork → ℕ → Type 0
IsLeftAmong [] stage = ⊥
IsLeftAmong (it ∷ groups) stage = IsLeftAt it stage ⊎ IsLeftAmong groups stage

pub first_to : (P Q : ℕ → Type 0) (k : Option ℕ) → ((q : ℕ) → P q → Q q) → ((q : ℕ) → Q q → P q) → IsFirst P k
    → IsFirst Q k
first_to P Q (Some p) to from (here, low) = (to p here, λ q it. low q (from q it))
first_to P Q None to from none = λ q it. none q (from q it)

pub with_one : (P : ℕ → Type 0) (k : Option ℕ) (it : GroupWork) → IsFirst P k → IsFirst (λ q. P q ⊎ IsLeftAt it q)
    (with_group k it)
with_one P k it first = by (is_updated it.roll) refl
  where
    some : (k : Option ℕ) → IsFirst P k → is_updated it.roll ≡ false → IsFirst (λ q. P q ⊎ IsLeftAt it q)
        (Some (lesser k it.stage))
    some (Some p) first left = least_is P (IsLeftAt it) (Some p) (Some it.stage) first
        ((refl, left), λ q at. let e : it.stage ≡ q = at.0 in omega arith)
    some None first left = least_is P (IsLeftAt it) None (Some it.stage) first
        ((refl, left), λ q at. let e : it.stage ≡ q = at.0 in omega arith)

    by : (b : Bool) → is_updated it.roll ≡ b → IsFirst (λ q. P q ⊎ IsLeftAt it q)
        (if b then k else Some (lesser k it.stage))
    by true done = first_to P (λ q. P q ⊎ IsLeftAt it q) k (λ q at. inl at) (λ q. only q) first
      where
        only : (q : ℕ) → P q ⊎ IsLeftAt it q → P q
        only q (inl at) = at
        only q (inr at) = absurd (true≢false (sym done ∙ at.1))
    by false left = some k first left

pub with_all : (P : ℕ → Type 0) (k : Option ℕ) (groups : List GroupWork) → IsFirst P k
    → IsFirst (λ q. P q ⊎ IsLeftAmong groups q) (fold with_group k groups)
with_all P k [] first = first_to P (λ q. P q ⊎ ⊥) k (λ q at. inl at) (λ q. only q) first
  where
    only : (q : ℕ) → P q ⊎ ⊥ → P q
    only q (inl at) = at
    only q (inr none) = absurd none
with_all P k (it ∷ groups) first =
    first_to (λ q. (P q ⊎ IsLeftAt it q) ⊎ IsLeftAmong groups q) (λ q. P q ⊎ (IsLeftAt it q ⊎ IsLeftAmong groups q))
    (fold with_group (with_group k it) groups) (λ q. to q) (λ q. from q)
    (with_all (λ q. P q ⊎ IsLeftAt it q) (with_group k it) groups (with_one P k it first))
  where
    to : (q : ℕ) → (P q ⊎ IsLeftAt it q) ⊎ IsLeftAmong groups q → P q ⊎ (IsLeftAt it q ⊎ IsLeftAmong groups q)
    to q (inl (inl at)) = inl at
    to q (inl (inr at)) = inr (inl at)
    to q (inr at) = inr (inr at)

    from : (q : ℕ) → P q ⊎ (IsLeftAt it q ⊎ IsLeftAmong groups q) → (P q ⊎ IsLeftAt it q) ⊎ IsLeftAmong groups q
    from q (inl at) = inl (inl at)
    from q (inr (inl at)) = inl (inr at)
    from q (inr (inr at)) = inr at

pub left_out : (groups : List GroupWork) (stage : ℕ) → IsLeftAmong groups stage → (n : ℕ) × (it : GroupWork)
    × (slice_get groups n ≡ Some it) × IsLeftAt it stage
left_out [] stage none = absurd none
left_out (it ∷ groups) stage (inl here) = (0, it, refl, here)
left_out (it ∷ groups) stage (inr more) = let r : (n : ℕ) × (it : GroupWork) × (slice_get groups n ≡ Some it)
    × IsLeftAt it stage = left_out groups stage more in (suc r.0, r.1, r.2, r.3)

pub left_in : (groups : List GroupWork) (stage n : ℕ) (it : GroupWork) → slice_get groups n ≡ Some it
    → IsLeftAt it stage → IsLeftAmong groups stage
left_in [] stage n it is at = absurd cc
left_in (one ∷ groups) stage zero it is at = let e : one ≡ it = cc in inl (subst (λ g. IsLeftAt g stage) (sym e) at)
left_in (one ∷ groups) stage (suc n) it is at = inr (left_in groups stage n it is at)

-- not all pass
pub fails : (p : Inst → Bool) (xs : List Inst) → list_all p xs ≡ false → (q : ℕ) × (i : Inst)
    × (slice_get xs q ≡ Some i) × (p i ≡ false)
fails p [] is = absurd (true≢false is)
fails p (x ∷ xs) is = by (p x) refl is (λ is. fails p xs is)
  where
    by : (b : Bool) → p x ≡ b → (b && list_all p xs) ≡ false → (list_all p xs ≡ false → (q : ℕ) × (i : Inst)
        × (slice_get xs q ≡ Some i) × (p i ≡ false))
        → (q : ℕ) × (i : Inst) × (slice_get (x ∷ xs) q ≡ Some i) × (p i ≡ false)
    by false here is more = (0, x, refl, here)
    by true here is more = let r : (q : ℕ) × (i : Inst) × (slice_get xs q ≡ Some i) × (p i ≡ false) =
        more is in (suc r.0, r.1, r.2, r.3)

pub all_but : (p : Inst → Bool) (xs : List Inst) (q : ℕ) (i : Inst) → slice_get xs q ≡ Some i → p i ≡ false
    → list_all p xs ≡ false
all_but p xs q i is fails = by (list_all p xs) refl
  where
    by : (b : Bool) → list_all p xs ≡ b → list_all p xs ≡ false
    by true all = absurd (true≢false (sym (all_at p xs q i all is) ∙ fails))
    by false all = all

pub filtered_out : (p : Inst → Bool) (xs : List Inst) (j : ℕ) (i : Inst) → slice_get (filter p xs) j ≡ Some i
    → (q : ℕ) × (slice_get xs q ≡ Some i) × (p i ≡ true)
filtered_out p [] j i is = absurd cc
filtered_out p (x ∷ xs) j i is = by (p x) refl j is (λ j is. filtered_out p xs j i is)
  where
    by : (b : Bool) → p x ≡ b → (j : ℕ) → slice_get (if b then x ∷ filter p xs else filter p xs) j ≡ Some i
        → ((j : ℕ) → slice_get (filter p xs) j ≡ Some i → (q : ℕ) × (slice_get xs q ≡ Some i) × (p i ≡ true))
        → (q : ℕ) × (slice_get (x ∷ xs) q ≡ Some i) × (p i ≡ true)
    by true here zero is more = let e : x ≡ i = cc in (0, ap Some e, ap p (sym e) ∙ here)
    by true here (suc j) is more = let r : (q : ℕ) × (slice_get xs q ≡ Some i) × (p i ≡ true) =
        more j is in (suc r.0, r.1, r.2)
    by false here j is more = let r : (q : ℕ) × (slice_get xs q ≡ Some i) × (p i ≡ true) =
        more j is in (suc r.0, r.1, r.2)

pub filtered_in : (p : Inst → Bool) (xs : List Inst) (q : ℕ) (i : Inst) → slice_get xs q ≡ Some i → p i ≡ true
    → (j : ℕ) × (slice_get (filter p xs) j ≡ Some i)
filtered_in p [] q i is here = absurd cc
filtered_in p (x ∷ xs) zero i is here = let e : x ≡ i =
    cc in (0, (λ k. slice_get (if (ap p e ∙ here) k then x ∷ filter p xs else filter p xs) 0) ∙ ap Some e)
filtered_in p (x ∷ xs) (suc q) i is here = by (p x) (filtered_in p xs q i is here)
  where
    by : (b : Bool) → (j : ℕ) × (slice_get (filter p xs) j ≡ Some i) → (j : ℕ)
        × (slice_get (if b then x ∷ filter p xs else filter p xs) j ≡ Some i)
    by true r = (suc r.0, r.1)
    by false r = r

-- the update of an instance of a stage is left
abbrev pub is_left_in : Task → ℕ → Inst → Bool
is_left_in t stage i = not (is_finished (t.upd i)) && stage_of (plan_in t.goal i) == stage

-- .. of one of those that change
pub record HasLeft (t : Task) (stage : ℕ) : Type 0 where
  pub q : ℕ
  pub i : Inst
  pub among_changed : slice_get t.changed q ≡ Some i
  pub left : is_finished (t.upd i) ≡ false
  pub stage_is : stage_of (plan_in t.goal i) ≡ stage

module _ (t : Task) (idle : Inst → Bool) (can : CanUpdate t idle) (groups : List GroupWork)
    (stands : GroupsStand t idle groups) where
  updated_as : (group : List ℕ) (it : GroupWork) → GroupStands t idle group it → is_updated it.roll
      ≡ list_all (λ i. is_finished (t.upd i)) (changed_in t group)
  updated_as group it g =
      (λ i. (marked_in (g.waiting_are i) == 0) && (marked_in (g.busy_are i) == 0))
      ∙ (λ i. zero_as (λ i. is_waiting (t.upd i)) (changed_in t group) i && zero_as (λ i. is_busy (t.upd i))
      (changed_in t group) i)
      ∙ sym (quiet_as (λ i. is_finished (t.upd i)) (λ i. is_waiting (t.upd i)) (λ i. is_busy (t.upd i))
      (changed_in t group) can.are_told)

  has_left : (stage : ℕ) → IsLeftAmong groups stage → HasLeft t stage
  has_left stage among =
      let r : (n : ℕ) × (it : GroupWork) × (slice_get groups n ≡ Some it) × IsLeftAt it stage =
      left_out groups stage among in
      let g : (group : List ℕ) × GroupStands t idle group r.1 =
      at_number t idle can (names_of t.changed) groups r.0 r.1 stands r.2 in
      let f : (q : ℕ) × (i : Inst) × (slice_get (changed_in t g.0) q ≡ Some i) × (is_finished (t.upd i) ≡ false) =
      fails (λ i. is_finished (t.upd i)) (changed_in t g.0) (sym (updated_as g.0 r.1 g.1) ∙ r.3.1) in
      let o : (q : ℕ) × (slice_get t.changed q ≡ Some f.1) × (bytes_eq (f.1).group g.0 ≡ true) =
      filtered_out (λ i. bytes_eq i.group g.0) t.changed f.0 f.1 f.2 in
      record {
        q = o.0;
        i = f.1;
        among_changed = o.1;
        left = f.3;
        stage_is = ap (λ n. stage_of (plan_named t.goal n)) (bytes_is (f.1).group g.0 o.2) ∙ sym g.1.stage_is
            ∙ r.3.0;
      }

  is_left : (stage : ℕ) → HasLeft t stage → IsLeftAmong groups stage
  is_left stage has =
      let named : is_among bytes_eq (has.i).group (names_of t.changed) ≡ true =
      named_at t.changed has.q has.i has.among_changed in
      let g : (n : ℕ) × (it : GroupWork) × (slice_get groups n ≡ Some it) × GroupStands t idle (has.i).group it =
      at_name t idle can (names_of t.changed) groups (has.i).group stands named in
      let j : (j : ℕ) × (slice_get (changed_in t (has.i).group) j ≡ Some has.i) =
      filtered_in (λ i. bytes_eq i.group (has.i).group) t.changed has.q has.i has.among_changed
      (bytes_same (has.i).group) in
      left_in groups stage g.0 g.1 g.2 (
        g.3.stage_is ∙ has.stage_is,
        updated_as (has.i).group g.1 g.3 ∙ all_but (λ i. is_finished (t.upd i))
            (changed_in t (has.i).group) j.0 has.i j.1 has.left,
      )

  -- the least stage of the groups is the least of an instance whose update is left
  pub least_is_left : IsFirst (HasLeft t) (least_stage groups)
  least_is_left =
      first_to (λ q. ⊥ ⊎ IsLeftAmong groups q) (HasLeft t) (least_stage groups) (λ q. to q)
      (λ q has. inr (is_left q has)) (with_all (λ q. ⊥) None groups (λ q none. none))
    where
      to : (q : ℕ) → ⊥ ⊎ IsLeftAmong groups q → HasLeft t q
      to q (inl none) = absurd none
      to q (inr among) = has_left q among
