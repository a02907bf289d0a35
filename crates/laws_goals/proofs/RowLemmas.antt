-- The rows of a goal have the addresses that their instances asked for, in their order.
use Rattle.std.proofs.Common.{◌≡◌, ◌∙◌, ℕ, ◌<◌, List, [], ◌∷◌, ◌++◌, length, map, take, ap, refl, sym, subst, append_assoc}
use Rattle.std.specs.List.{AllByRecursion, AllZip, Contains, flat_map}
use Rattle.std.proofs.lemmas.List.{length-map}
use Rattle.bosh_base.specs.declared.addr.Addr.{Addr}
use Rattle.bosh_base.specs.declared.addr.NetAddr.{NetAddr}
use Rattle.bosh_base.specs.declared.goal.GoalRow.{GoalRow}
use Rattle.bosh_base.specs.declared.row.Row.{Row}
use Rattle.bosh_instances.specs.Machines.{net_addrs, own_addrs}
use Rattle.bosh_instances.specs.Rows.{Scene}
use Rattle.bosh_manifest.specs.Sound.{network_name}
use Rattle.bosh_manifest.specs.declared.group.Group.{Group}
use Rattle.bosh_manifest_parts.specs.declared.network.NetUse.{NetUse}
use Rattle.bosh_offers.specs.Sited.{after_group, beyond, site, sites}
use Rattle.bosh_wants.specs.Wants.{below, instance_wants, want_of, wants}
use Rattle.bosh_wants.specs.Zones.{inst_of, zone_of}
use Rattle.bosh_pool.specs.declared.want.Want.{Want}
use Rattle.bosh_pool.proofs.ListLemmas.{contains_here, contains_there}
use Rattle.bosh_slots.specs.Slots.{goal_row_addrs}
use Rattle.bosh_manifest_names.specs.Used.{UsedGroup}
use Rattle.laws_goals.proofs.ListLemmas.{all_append, all_map}
use Rattle.laws_goals.proofs.PartLemmas.{AreRowsOf, IsRowAt}
use Rattle.laws_goals.proofs.PlaceLemmas.{all_below, flat_append, own_at, own_nets, parts_are, zip_at, zip_beyond}

abbrev pub groups_of : List UsedGroup → List Group
groups_of used = map (λ it. it.group) used

-- ---- all addresses

zip-flat : {X Y A : Type 0} (P : X → Type 0) (R : X → Y → Type 0) (f : X → List A) (g : Y → List A) (xs : List X) (ys : List Y)
    → ((x : X) (y : Y) → P x → R x y → g y ≡ f x) → AllByRecursion P xs → AllZip R xs ys → flat_map g ys ≡ flat_map f xs
zip-flat P R f g [] [] each all zip = refl
zip-flat P R f g [] (y ∷ ys) each all zip = absurd zip
zip-flat P R f g (x ∷ xs) [] each all zip = absurd zip
zip-flat P R f g (x ∷ xs) (y ∷ ys) each (p, ps) (r, rs) = λ i. each x y p r i ++ zip-flat P R f g xs ys each ps rs i

module _ (scene : Scene) where
  group-addrs : (used : UsedGroup) (addrs : List Addr) (some : List GoalRow) → AllZip (IsRowAt scene (site used addrs)) (below used.group.instances) some
      → flat_map goal_row_addrs some ++ after_group used addrs ≡ addrs
  group-addrs used addrs some zip =
      let w : ℕ = length used.group.networks in
      ap (λ front. front ++ after_group used addrs)
      (zip-flat (λ i. i < used.group.instances) (IsRowAt scene (site used addrs)) (λ i. take w (beyond i w addrs)) goal_row_addrs (below used.group.instances) some
      (λ i row within at. ap goal_row_addrs at.is ∙ own_nets used addrs i within) (all_below used.group.instances) zip)
      ∙ parts_are used.group.instances w addrs

  -- they are the first of those that were given
  pub rows-addrs : (used : List UsedGroup) (addrs : List Addr) (all : List GoalRow) → AreRowsOf scene (sites used addrs) all
      → (rest : List Addr) × (flat_map goal_row_addrs all ++ rest ≡ addrs)
  rows-addrs [] addrs all none = (addrs, ap (λ (rows : List GoalRow). flat_map goal_row_addrs rows ++ addrs) none)
  rows-addrs (it ∷ used) addrs all (some, more, zip, others, whole) =
      let (rest, e) = rows-addrs used (after_group it addrs) more others in (
        rest,
        ap (λ (rows : List GoalRow). flat_map goal_row_addrs rows ++ rest) (sym whole)
            ∙ (ap (λ front. front ++ rest) (flat_append goal_row_addrs some more)
            ∙ (append_assoc (flat_map goal_row_addrs some) (flat_map goal_row_addrs more) rest
            ∙ (ap (λ back. flat_map goal_row_addrs some ++ back) e
            ∙ group-addrs it addrs some zip))),
      )

-- ---- each row

abbrev pub net_name : NetAddr → List ℕ
net_name net = net.net

-- the address of a machine on a network is the one that was given for it
pub record IsOwn (Q : Want → Addr → Type 0) (want_for : NetUse → Want) (networks : List NetUse) (net : NetAddr) : Type 0 where
  pub network : NetUse
  pub there : Contains networks network
  pub name : net.net ≡ network.net
  pub given : Q (want_for network) net.addr

-- a row is that of an instance, in its zone, with the addresses that were given for it
pub record HasPlace (Q : Want → Addr → Type 0) (dep : List ℕ) (rows : List Row) (groups : List Group) (row : GoalRow) : Type 0 where
  pub group : Group
  pub there : Contains groups group
  pub index : ℕ
  pub within : index < group.instances
  pub inst : row.inst ≡ inst_of dep group index
  pub zone : row.make.az ≡ zone_of dep rows group index
  pub names : map net_name row.make.nets ≡ map network_name group.networks
  pub nets : AllByRecursion (IsOwn Q (want_of dep rows group index) group.networks) row.make.nets

own-names : (Q : Want → Addr → Type 0) (want_for : NetUse → Want) (networks : List NetUse) (own : List Addr) → AllZip Q (map want_for networks) own
    → map net_name (net_addrs networks own) ≡ map network_name networks
own-names Q want_for [] own zip = refl
own-names Q want_for (network ∷ networks) [] zip = absurd zip
own-names Q want_for (network ∷ networks) (addr ∷ own) (here, more) = ap (λ names. network.net ∷ names) (own-names Q want_for networks own more)

own-nets : (Q : Want → Addr → Type 0) (want_for : NetUse → Want) (networks : List NetUse) (own : List Addr) → AllZip Q (map want_for networks) own
    → AllByRecursion (IsOwn Q want_for networks) (net_addrs networks own)
own-nets Q want_for [] own zip = tt
own-nets Q want_for (network ∷ networks) [] zip = tt
own-nets Q want_for (network ∷ networks) (addr ∷ own) (here, more) = (
  record { network = network; there = contains_here network networks; name = refl; given = here },
  all_map (IsOwn Q want_for networks) (IsOwn Q want_for (network ∷ networks)) (net_addrs networks own)
      (λ net it. record { network = it.network; there = contains_there network networks it.network it.there; name = it.name; given = it.given }) (own-nets Q want_for networks own more),
)

module _ (Q : Want → Addr → Type 0) (scene : Scene) where
  abbrev Placed : List Group → GoalRow → Type 0
  Placed groups = HasPlace Q scene.dep scene.view.rows groups

  placed-at : (it : UsedGroup) (groups : List Group) (addrs : List Addr) (index : ℕ) (row : GoalRow) → index < it.group.instances
      → AllZip Q (instance_wants scene.dep scene.view.rows it.group index) (own_addrs (site it addrs) index)
      → IsRowAt scene (site it addrs) index row → Placed (it.group ∷ groups) row
  placed-at it groups addrs index row within zip at =
      subst (Placed (it.group ∷ groups)) (sym at.is) (record {
        group = it.group;
        there = contains_here it.group groups;
        index = index;
        within = within;
        inst = refl;
        zone = refl;
        names = own-names Q (want_of scene.dep scene.view.rows it.group index) it.group.networks (own_addrs (site it addrs) index) zip;
        nets = own-nets Q (want_of scene.dep scene.view.rows it.group index) it.group.networks (own_addrs (site it addrs) index) zip;
      })

  placed-all : (it : UsedGroup) (groups : List Group) (addrs : List Addr) (numbers : List ℕ) (some : List GoalRow)
      → ((index : ℕ) → index < it.group.instances → AllZip Q (instance_wants scene.dep scene.view.rows it.group index) (own_addrs (site it addrs) index))
      → AllByRecursion (λ index. index < it.group.instances) numbers → AllZip (IsRowAt scene (site it addrs)) numbers some → AllByRecursion (Placed (it.group ∷ groups)) some
  placed-all it groups addrs [] [] each within zip = tt
  placed-all it groups addrs [] (row ∷ some) each within zip = absurd zip
  placed-all it groups addrs (index ∷ numbers) [] each within zip = absurd zip
  placed-all it groups addrs (index ∷ numbers) (row ∷ some) each (here, within) (at, zip) =
      (placed-at it groups addrs index row here (each index here) at, placed-all it groups addrs numbers some each within zip)

  -- what holds of each want and its address holds of each row and its addresses
  pub rows-placed : (used : List UsedGroup) (addrs : List Addr) (all : List GoalRow) → AllZip Q (wants scene.dep scene.view.rows (groups_of used)) addrs
      → AreRowsOf scene (sites used addrs) all → AllByRecursion (Placed (groups_of used)) all
  rows-placed [] addrs all zip none = subst (AllByRecursion (Placed [])) (sym none) tt
  rows-placed (it ∷ used) addrs all zip (some, more, rows, others, whole) =
      let w : ℕ = length it.group.networks in
      let ask : ℕ → List Want = instance_wants scene.dep scene.view.rows it.group in
      let each : (index : ℕ) → length (ask index) ≡ w = λ index. length-map it.group.networks (want_of scene.dep scene.view.rows it.group index) in
      let later : List Want = wants scene.dep scene.view.rows (groups_of used) in
      let rest : AllZip Q later (after_group it addrs) = zip_beyond Q ask w each it.group.instances later addrs zip in
      let own : (index : ℕ) → index < it.group.instances → AllZip Q (ask index) (own_addrs (site it addrs) index) =
      λ index within. subst (AllZip Q (ask index)) (sym (own_at it addrs index within)) (zip_at Q ask w each it.group.instances later addrs index within zip) in
      let back : AllByRecursion (Placed (it.group ∷ groups_of used)) more =
      all_map (Placed (groups_of used)) (Placed (it.group ∷ groups_of used)) more
      (λ row p. record { group = p.group; there = contains_there it.group (groups_of used) p.group p.there; index = p.index; within = p.within; inst = p.inst; zone = p.zone; names = p.names; nets = p.nets })
      (rows-placed used (after_group it addrs) more rest others) in
      subst (AllByRecursion (Placed (it.group ∷ groups_of used))) whole
      (all_append (Placed (it.group ∷ groups_of used)) some more (placed-all it (groups_of used) addrs (below it.group.instances) some own (all_below it.group.instances) rows) back)
