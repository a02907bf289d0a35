-- No instance of a checked manifest stands twice, and none asks for two addresses on one network.
use Rattle.std.proofs.Common.{◌≡◌, ℕ, zero, suc, ◌<◌, false, ◌&&◌, eqb, List, [], ◌∷◌, ◌++◌, map, arith}
use Rattle.std.specs.List.{AllByRecursion, flat_map}
use Rattle.std.specs.Str.{bytes_eq}
use Rattle.std.proofs.lemmas.Bool.{and_left, and_right, ne_eqb}
use Rattle.bosh_base.specs.declared.inst.Inst.{Inst}
use Rattle.bosh_base.specs.declared.row.Row.{Row}
use Rattle.bosh_goal.specs.Instances.{group_instances}
use Rattle.bosh_manifest.specs.Sound.{AreDistinct, AreNew, group_name, network_name}
use Rattle.bosh_manifest.specs.declared.group.Group.{Group}
use Rattle.bosh_wants.specs.Wants.{below, group_wants, instance_wants, want_of, wants}
use Rattle.bosh_wants.specs.Zones.{inst_of}
use Rattle.bosh_pool.specs.Fixed.{same_inst}
use Rattle.bosh_pool.specs.declared.want.Want.{Want}
use Rattle.bosh_pool.proofs.ListLemmas.{Pairs}
use Rattle.laws_goals.proofs.ListLemmas.{all_everywhere, all_flat, all_map, all_mapped, pairs_append, pairs_flat, pairs_map, pairs_mapped, pairs_unmapped, none_passes}

abbrev pub Apart : List ℕ → List ℕ → Type 0
Apart one other = bytes_eq one other ≡ false

-- a name that is new is none of those before it
new-apart : (before names : List (List ℕ)) → AreNew before names → AllByRecursion (λ name. AllByRecursion (λ earlier. Apart earlier name) before) names
new-apart before [] new = tt
new-apart before (name ∷ names) (here, later) = (
  none_passes (λ earlier. bytes_eq earlier name) before here,
  all_map (λ other. AllByRecursion (λ earlier. Apart earlier other) (name ∷ before)) (λ other. AllByRecursion (λ earlier. Apart earlier other) before) names (λ other all. all.1) (new-apart (name ∷ before) names later),
)

new-pairs : (before names : List (List ℕ)) → AreNew before names → Pairs Apart names
new-pairs before [] new = tt
new-pairs before (name ∷ names) (here, later) = (
  all_map (λ other. AllByRecursion (λ earlier. Apart earlier other) (name ∷ before)) (λ other. Apart name other) names (λ other all. all.0) (new-apart (name ∷ before) names later),
  new-pairs (name ∷ before) names later,
)

pub distinct-pairs : {X : Type 0} (name_of : X → List ℕ) (xs : List X) → AreDistinct (map name_of xs) → Pairs (λ one other. Apart (name_of one) (name_of other)) xs
distinct-pairs name_of xs new = pairs_unmapped Apart name_of xs (new-pairs [] (map name_of xs) new)

-- indexes differ
pub below-pairs : (n : ℕ) → Pairs (λ i j. eqb i j ≡ false) (below n)
below-pairs zero = tt
below-pairs (suc n) = pairs_append (λ i j. eqb i j ≡ false) (below n) (n ∷ []) (below-pairs n) (tt, tt) (across n n (omega arith))
  where
    push : (P : ℕ → Type 0) (is : List ℕ) (i : ℕ) → AllByRecursion P is → P i → AllByRecursion P (is ++ i ∷ [])
    push P [] i all here = (here, tt)
    push P (j ∷ is) i (first, more) here = (first, push P is i more here)

    across : (m n : ℕ) → m < suc n → AllByRecursion (λ i. AllByRecursion (λ j. eqb i j ≡ false) (n ∷ [])) (below m)
    across zero n h = tt
    across (suc m) n h = push (λ i. AllByRecursion (λ j. eqb i j ≡ false) (n ∷ [])) (below m) m (across m n (omega arith)) (ne_eqb m n (λ e. omega arith), tt)

-- ---- instances

abbrev pub Differ : Inst → Inst → Type 0
Differ one other = same_inst one other ≡ false

module _ (dep : List ℕ) where
  groups-differ : (g h : Group) → Apart (group_name g) (group_name h) → (i j : ℕ) → Differ (inst_of dep g i) (inst_of dep h j)
  groups-differ g h apart i j = and_right (bytes_eq dep dep) _ (and_left (bytes_eq g.name h.name) (eqb i j) apart)

  indexes-differ : (g : Group) (i j : ℕ) → eqb i j ≡ false → Differ (inst_of dep g i) (inst_of dep g j)
  indexes-differ g i j apart = and_right (bytes_eq dep dep) _ (and_right (bytes_eq g.name g.name) (eqb i j) apart)

  pub instances-differ : (groups : List Group) → AreDistinct (map group_name groups) → Pairs Differ (flat_map (group_instances dep) groups)
  instances-differ groups distinct =
      pairs_flat Differ (λ g h. Apart (group_name g) (group_name h)) (group_instances dep) groups across
      (all_everywhere (λ g. Pairs Differ (group_instances dep g)) groups (λ g. pairs_mapped Differ (inst_of dep g) (below g.instances) (pairs_map (λ i j. eqb i j ≡ false) (λ i j. Differ (inst_of dep g i) (inst_of dep g j)) (below g.instances) (indexes-differ g) (below-pairs g.instances))))
      (distinct-pairs group_name groups distinct)
    where
      across : (g h : Group) → Apart (group_name g) (group_name h) → AllByRecursion (λ a. AllByRecursion (Differ a) (group_instances dep h)) (group_instances dep g)
      across g h apart =
          all_mapped (λ a. AllByRecursion (Differ a) (group_instances dep h)) (inst_of dep g) (below g.instances)
          (all_everywhere (λ i. AllByRecursion (Differ (inst_of dep g i)) (group_instances dep h)) (below g.instances)
          (λ i. all_mapped (Differ (inst_of dep g i)) (inst_of dep h) (below h.instances)
          (all_everywhere (λ j. Differ (inst_of dep g i) (inst_of dep h j)) (below h.instances) (λ j. groups-differ g h apart i j))))

-- ---- wants

abbrev pub OnceWanted : Want → Want → Type 0
OnceWanted one other = (same_inst one.inst other.inst && bytes_eq one.net other.net) ≡ false

module _ (dep : List ℕ) (rows : List Row) where
  apart-insts : (g h : Group) (i j : ℕ) → Differ (inst_of dep g i) (inst_of dep h j)
      → AllByRecursion (λ a. AllByRecursion (OnceWanted a) (instance_wants dep rows h j)) (instance_wants dep rows g i)
  apart-insts g h i j differ =
      all_mapped (λ a. AllByRecursion (OnceWanted a) (instance_wants dep rows h j)) (want_of dep rows g i) g.networks
      (all_everywhere (λ m. AllByRecursion (OnceWanted (want_of dep rows g i m)) (instance_wants dep rows h j)) g.networks
      (λ m. all_mapped (OnceWanted (want_of dep rows g i m)) (want_of dep rows h j) h.networks
      (all_everywhere (λ n. OnceWanted (want_of dep rows g i m) (want_of dep rows h j n)) h.networks
      (λ n. and_left (same_inst (inst_of dep g i) (inst_of dep h j)) (bytes_eq m.net n.net) differ))))

  one-instance : (g : Group) → AreDistinct (map network_name g.networks) → (i : ℕ) → Pairs OnceWanted (instance_wants dep rows g i)
  one-instance g distinct i =
      pairs_mapped OnceWanted (want_of dep rows g i) g.networks
      (pairs_map (λ m n. Apart (network_name m) (network_name n)) (λ m n. OnceWanted (want_of dep rows g i m) (want_of dep rows g i n)) g.networks
      (λ m n apart. and_right (same_inst (inst_of dep g i) (inst_of dep g i)) (bytes_eq m.net n.net) apart) (distinct-pairs network_name g.networks distinct))

  one-group : (g : Group) → AreDistinct (map network_name g.networks) → Pairs OnceWanted (group_wants dep rows g)
  one-group g distinct =
      pairs_flat OnceWanted (λ i j. eqb i j ≡ false) (instance_wants dep rows g) (below g.instances)
      (λ i j apart. apart-insts g g i j (indexes-differ dep g i j apart))
      (all_everywhere (λ i. Pairs OnceWanted (instance_wants dep rows g i)) (below g.instances) (one-instance g distinct)) (below-pairs g.instances)

  two-groups : (g h : Group) → Apart (group_name g) (group_name h) → AllByRecursion (λ a. AllByRecursion (OnceWanted a) (group_wants dep rows h)) (group_wants dep rows g)
  two-groups g h apart =
      all_flat (λ a. AllByRecursion (OnceWanted a) (group_wants dep rows h)) (instance_wants dep rows g) (below g.instances)
      (all_everywhere (λ i. AllByRecursion (λ a. AllByRecursion (OnceWanted a) (group_wants dep rows h)) (instance_wants dep rows g i)) (below g.instances)
      (λ i. all_mapped (λ a. AllByRecursion (OnceWanted a) (group_wants dep rows h)) (want_of dep rows g i) g.networks
      (all_everywhere (λ m. AllByRecursion (OnceWanted (want_of dep rows g i m)) (group_wants dep rows h)) g.networks
      (λ m. all_flat (OnceWanted (want_of dep rows g i m)) (instance_wants dep rows h) (below h.instances)
      (all_everywhere (λ j. AllByRecursion (OnceWanted (want_of dep rows g i m)) (instance_wants dep rows h j)) (below h.instances)
      (λ j. all_mapped (OnceWanted (want_of dep rows g i m)) (want_of dep rows h j) h.networks
      (all_everywhere (λ n. OnceWanted (want_of dep rows g i m) (want_of dep rows h j n)) h.networks
      (λ n. and_left (same_inst (inst_of dep g i) (inst_of dep h j)) (bytes_eq m.net n.net) (groups-differ dep g h apart i j)))))))))

  pub wanted-once : (groups : List Group) → AreDistinct (map group_name groups) → AllByRecursion (λ g. AreDistinct (map network_name g.networks)) groups
      → Pairs OnceWanted (wants dep rows groups)
  wanted-once groups distinct networks =
      pairs_flat OnceWanted (λ g h. Apart (group_name g) (group_name h)) (group_wants dep rows) groups two-groups
      (all_map (λ g. AreDistinct (map network_name g.networks)) (λ g. Pairs OnceWanted (group_wants dep rows g)) groups one-group networks)
      (distinct-pairs group_name groups distinct)
