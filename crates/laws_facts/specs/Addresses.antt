-- Facts on addresses: who holds one, and which two may hold the same.
use Rattle.std.specs.Prelude.{◌≡◌, ℕ, Bool, true, false, eqb, not, ◌&&◌, ◌||◌, ◌==◌, if◌then◌else◌, Option, Some, None, List, [], ◌++◌, length, map, codes}
use Rattle.std.specs.List.{list_any, list_all, flat_map}
use Rattle.std.specs.Option.{option_map}
use Rattle.std.specs.Str.{bytes_eq}
use Rattle.bosh_base.specs.Cloud.{numbers_to}
use Rattle.bosh_base.specs.declared.inst.Inst.{Inst}
use Rattle.bosh_base.specs.declared.make.Make.{Make}
use Rattle.laws_facts.specs.Owners.{works}
use Rattle.laws_facts.specs.Words.{unless}
use Rattle.laws_row_facts.specs.Words.{implies, where_any}
use Rattle.bosh_history.specs.Goals.{instances_of, is_in}
use Rattle.bosh_history.specs.Items.{slots_of}
use Rattle.bosh_history.specs.Known.{Known, Slot, dep_of_task, want_in}
use Rattle.bosh_history.specs.Moments.{Moment}
use Rattle.bosh_history.specs.Sound.{addrs, has_addr}
use Rattle.bosh_history.specs.Steps.{nth}
use Rattle.bosh_history.specs.Words.{numbers_below}
use Rattle.bosh_rows.specs.SoundSnapshot.{are_distinct}
use Rattle.bosh_rows.specs.Same.{same_inst}

-- Addresses are held by a recorded row, by a recorded compile machine, by a row of a current goal, and by a slot of
-- a task that works.
pub data Holder : Type 0 where
  Recorded : Inst → Holder
  Machine : ℕ → ℕ → Holder
  Wanted : Inst → Holder
  Free : ℕ → ℕ → Holder

-- what a holder has its addresses by
abbrev pub make_held : Moment → Holder → Option Make
make_held m (Recorded i) = (m.known.row i).make
make_held m (Machine t s) = option_map (λ it. it.make) (m.known.slot t s)
make_held m (Wanted i) = option_map (λ want. want.make) (want_in (m.known.goal i.dep) i)
make_held m (Free t s) = if works m t then nth s (slots_of (m.known.task t).goal) else None

-- the holder has the address
abbrev pub holds_address : Moment → Holder → ℕ → Bool
holds_address m holder a = has_addr a (make_held m holder)

-- the deployment of a compile machine
abbrev pub dep_of_slot : Option Slot → List ℕ
dep_of_slot (Some it) = it.dep
dep_of_slot None = []

-- the deployment of a holder
abbrev pub dep_of_holder : Known → Holder → List ℕ
dep_of_holder k (Recorded i) = i.dep
dep_of_holder k (Machine t s) = dep_of_slot (k.slot t s)
dep_of_holder k (Wanted i) = i.dep
dep_of_holder k (Free t s) = dep_of_task k t

-- ---- a make has no address twice

-- its make has each address once
abbrev pub has_each_once : Moment → Holder → Bool
has_each_once m holder = where_any (λ make. are_distinct eqb (addrs make)) (make_held m holder)

-- ---- those that hold one address are of one deployment

-- both are of one deployment
abbrev pub is_of_one_deployment : Known → Holder → Holder → Bool
is_of_one_deployment k x y = bytes_eq (dep_of_holder k x) (dep_of_holder k y)

-- ---- one at most is recorded

-- where both are recorded, they are one
abbrev pub is_one_recorded : Holder → Holder → Bool
is_one_recorded (Recorded i) (Recorded j) = same_inst i j
is_one_recorded (Machine t s) (Machine other slot) = t == other && s == slot
is_one_recorded (Recorded i) (Machine t s) = false
is_one_recorded (Machine t s) (Recorded i) = false
is_one_recorded x y = true

-- ---- one at most is wanted

-- where both are wanted, they are one
abbrev pub is_one_wanted : Holder → Holder → Bool
is_one_wanted (Wanted i) (Wanted j) = same_inst i j
is_one_wanted (Free t s) (Free other slot) = t == other && s == slot
is_one_wanted (Wanted i) (Free t s) = false
is_one_wanted (Free t s) (Wanted i) = false
is_one_wanted x y = true

-- ---- A recorded row and a wanted one are of one instance, unless the recorded one is not of the current goal; a
-- compile machine and a slot are of one slot; and one may have the address of a wanted row while its task does not
-- work.

-- a recorded holder and a wanted one may have the same address
abbrev pub may_take_over : Moment → Holder → Holder → Bool
may_take_over m (Recorded i) (Wanted j) = same_inst i j || not (is_in (m.known.goal i.dep) i)
may_take_over m (Recorded i) (Free t s) = false
may_take_over m (Machine t s) (Free other slot) = t == other && s == slot
may_take_over m (Machine t s) (Wanted j) = not (works m t)
may_take_over m x y = true

-- ---- all

-- the facts on addresses
pub record AddressFacts (m : Moment) : Type 0 where
  -- no holder has an address twice
  pub each_once : (x : Holder) → has_each_once m x ≡ true
  -- two holders of one address are of one deployment
  pub one_deployment : (a : ℕ) (x y : Holder) → holds_address m x a ≡ true → holds_address m y a ≡ true →
      is_of_one_deployment m.known x y ≡ true
  -- two that are recorded have no address in common
  pub one_recorded : (a : ℕ) (x y : Holder) → holds_address m x a ≡ true → holds_address m y a ≡ true →
      is_one_recorded x y ≡ true
  -- two that are wanted have none
  pub one_wanted : (a : ℕ) (x y : Holder) → holds_address m x a ≡ true → holds_address m y a ≡ true →
      is_one_wanted x y ≡ true
  -- a holder takes an address over only from one that goes before it
  pub take_over : (a : ℕ) (x y : Holder) → holds_address m x a ≡ true → holds_address m y a ≡ true →
      may_take_over m x y ≡ true

-- ---- the tests

-- the holders that a moment tells of
abbrev pub holders : Moment → List Holder
holders m =
    map Recorded m.known.instances
    ++ map (λ name. Machine name.task name.slot) m.known.machines
    ++ flat_map (λ dep. map Wanted (instances_of (m.known.goal dep))) m.known.deployments
    ++ flat_map (λ t. map (Free t) (numbers_below (length (slots_of (m.known.task t).goal)))) (numbers_to m.known.tasks)

-- the addresses of a make, where there is one
abbrev pub addresses_of : Option Make → List ℕ
addresses_of (Some make) = addrs make
addresses_of None = []

-- the two have an address in common
abbrev pub share_address : Moment → Holder → Holder → Bool
share_address m x y = list_any (holds_address m y) (addresses_of (make_held m x))

-- the test holds of each two that hold one address
abbrev pub each_two : Moment → (Holder → Holder → Bool) → Bool
each_two m test = list_all (λ x. list_all (λ y. implies (share_address m x y) (test x y)) (holders m)) (holders m)

-- the tags of those that do not hold
abbrev pub addresses_broken : Moment → List (List ℕ)
addresses_broken m =
    unless (codes "each address once") (list_all (has_each_once m) (holders m))
    ++ unless (codes "one deployment") (each_two m (is_of_one_deployment m.known))
    ++ unless (codes "one recorded") (each_two m is_one_recorded)
    ++ unless (codes "one wanted") (each_two m is_one_wanted)
    ++ unless (codes "take over") (each_two m (may_take_over m))
