-- A recorded instance keeps its zone and its addresses in a goal.
use Rattle.std.proofs.Common.{◌≡◌, ◌∙◌, ℕ, zero, suc, Bool, true, false, true≢false, ◌&&◌, ◌||◌, cond, nat_lt, List, [], ◌∷◌, ◌++◌, Option, Some, None, Ok, find, filter, map, ap, refl, sym, subst, inl, inr, ◌⊎◌, arith}
use Rattle.std.specs.List.{AllByRecursion, AllZip, Contains, flat_map, list_any}
use Rattle.std.specs.Option.{option_map}
use Rattle.std.specs.Str.{bytes_eq}
use Rattle.std.proofs.lemmas.Bool.{and_from, lt-ltb}
use Rattle.bosh_base.specs.Plan.{is_listed}
use Rattle.bosh_base.specs.declared.addr.Addr.{Addr}
use Rattle.bosh_base.specs.declared.addr.NetAddr.{NetAddr}
use Rattle.bosh_base.specs.declared.goal.Goal.{Goal}
use Rattle.bosh_base.specs.declared.goal.GoalRow.{GoalRow}
use Rattle.bosh_base.specs.declared.inst.Inst.{Inst}
use Rattle.bosh_base.specs.declared.make.Make.{Make}
use Rattle.bosh_base.specs.declared.plan.NetPlan.{NetPlan}
use Rattle.bosh_base.specs.declared.release.Release.{Release}
use Rattle.bosh_base.specs.declared.row.Row.{Row}
use Rattle.bosh_base.specs.declared.stemcell.Stemcell.{Stemcell}
use Rattle.bosh_base.specs.declared.view.Held.{Held}
use Rattle.bosh_base.specs.declared.view.View.{View}
use Rattle.bosh_cloudcfg.specs.declared.config.Config.{Config}
use Rattle.bosh_goal.proofs.UsedLemmas.{uses-groups}
use Rattle.bosh_goal.specs.Goal.{IsGoal, scene_of}
use Rattle.bosh_instances.specs.Rows.{Scene}
use Rattle.bosh_keys.proofs.ListLemmas.{mapped_from, mapped_into}
use Rattle.bosh_manifest.specs.Sound.{IsSound, IsSoundGroup, group_name, network_name}
use Rattle.bosh_manifest.specs.declared.group.Group.{Group}
use Rattle.bosh_manifest.specs.declared.manifest.Contents.{Contents}
use Rattle.bosh_manifest_parts.specs.declared.network.NetUse.{NetUse}
use Rattle.bosh_offers.specs.Sited.{sites}
use Rattle.bosh_wants.specs.Statics.{addr_in}
use Rattle.bosh_wants.specs.Wants.{held_by, held_of, is_in, kept, row_holds, stays, want_of, wants}
use Rattle.bosh_wants.specs.Zones.{inst_of, new_zone, recorded_zone, zone_by}
use Rattle.bosh_pool.proofs.AssignedLemmas.{given-assigned}
use Rattle.bosh_pool.proofs.ListLemmas.{AllPairs-from, Pairs, any_from, one_place, recursion_from_contains}
use Rattle.bosh_pool.specs.Assigned.{ArePlaced, IsPlaced}
use Rattle.bosh_pool.specs.Assignment.{is_held}
use Rattle.bosh_pool.specs.Fixed.{same_addr}
use Rattle.bosh_pool.specs.Kept.{is_kept}
use Rattle.bosh_pool.specs.declared.want.Want.{Want}
use Rattle.bosh_rows.specs.Same.{same_inst}
use Rattle.laws_goals.specs.Kept.{AreRecordedOnce, KeepsAddresses, KeepsPlace, KeepsZone, inst_in, may_keep}
use Rattle.laws_goals.proofs.ListLemmas.{all_at, all_from_index, pairs_of_distinct, pairs_unmapped}
use Rattle.laws_goals.proofs.PartLemmas.{IsMade, are-rows, is-made}
use Rattle.laws_goals.proofs.RowLemmas.{HasPlace, IsOwn, groups_of, net_name, rows-placed}
use Rattle.laws_goals.proofs.SameLemmas.{bytes-same, inst-is, inst-same}
use Rattle.laws_goals.proofs.WantLemmas.{Apart, distinct-pairs}

-- ---- what is assigned

-- a want that the manifest gives no address keeps the one of the entry that it may keep
abbrev KeepsOwn : NetPlan → List Held → List Held → Want → Addr → Type 0
KeepsOwn plan taken kept want addr = (held : Held) → want.fixed ≡ None → find (is_kept plan taken want) kept ≡ Some held → addr ≡ held.addr

module _ (plan : NetPlan) (taken kept : List Held) where
  keeps-own : (used : Addr → Bool) (want : Want) (addr : Addr) (fixed : Option Addr) (entry : Option Held) → IsPlaced plan used want addr fixed entry
      → (held : Held) → fixed ≡ None → entry ≡ Some held → addr ≡ held.addr
  keeps-own used want addr (Some fixed) entry placed held e f = absurd (cc)
  keeps-own used want addr None (Some other) placed held e f = let same : other ≡ held = cc in placed ∙ ap (λ (h : Held). h.addr) same
  keeps-own used want addr None None placed held e f = absurd (cc)

  all-keep : (used : Addr → Bool) (wants : List Want) (addrs : List Addr) → ArePlaced plan taken kept used wants addrs → AllZip (KeepsOwn plan taken kept) wants addrs
  all-keep used [] [] placed = tt
  all-keep used [] (addr ∷ addrs) placed = placed
  all-keep used (want ∷ wants) [] placed = placed
  all-keep used (want ∷ wants) (addr ∷ addrs) (here, more) =
      (keeps-own used want addr want.fixed (find (is_kept plan taken want) kept) here, all-keep (λ other. used other || same_addr other addr) wants addrs more)

-- ---- what is found in lists

find-front : {X : Type 0} (p : X → Bool) (xs ys : List X) (x : X) → find p xs ≡ Some x → find p (xs ++ ys) ≡ Some x
find-front p [] ys x e = absurd (cc)
find-front p (z ∷ xs) ys x e = by p z xs ys x (p z) e (find-front p xs ys x)
  where
    by : {X : Type 0} (p : X → Bool) (z : X) (xs ys : List X) (x : X) (b : Bool) → cond b (Some z) (find p xs) ≡ Some x → (find p xs ≡ Some x → find p (xs ++ ys) ≡ Some x)
        → cond b (Some z) (find p (xs ++ ys)) ≡ Some x
    by p z xs ys x true e later = e
    by p z xs ys x false e later = later e

find-back : {X : Type 0} (p : X → Bool) (xs ys : List X) → find p xs ≡ None → find p (xs ++ ys) ≡ find p ys
find-back p [] ys e = refl
find-back p (z ∷ xs) ys e = by p z xs ys (p z) e (find-back p xs ys)
  where
    by : {X : Type 0} (p : X → Bool) (z : X) (xs ys : List X) (b : Bool) → cond b (Some z) (find p xs) ≡ None → (find p xs ≡ None → find p (xs ++ ys) ≡ find p ys)
        → cond b (Some z) (find p (xs ++ ys)) ≡ find p ys
    by p z xs ys true e later = absurd (cc)
    by p z xs ys false e later = later e

find-map : {X Y : Type 0} (p : Y → Bool) (f : X → Y) (xs : List X) → find p (map f xs) ≡ option_map f (find (λ x. p (f x)) xs)
find-map p f [] = refl
find-map p f (x ∷ xs) = by p f x xs (p (f x)) (find-map p f xs)
  where
    by : {X Y : Type 0} (p : Y → Bool) (f : X → Y) (x : X) (xs : List X) (b : Bool) → find p (map f xs) ≡ option_map f (find (λ x. p (f x)) xs)
        → cond b (Some (f x)) (find p (map f xs)) ≡ option_map f (cond b (Some x) (find (λ x. p (f x)) xs))
    by p f x xs true h = refl
    by p f x xs false h = h

find-never : {X : Type 0} (q : X → Bool) (xs : List X) → find (λ x. false && q x) xs ≡ None
find-never q [] = refl
find-never q (x ∷ xs) = find-never q xs

-- what is found in the part of one element, where those of the others have none
find-part : {X Y : Type 0} (p : Y → Bool) (f : X → List Y) (q : X → Bool) (xs : List X) (x : X) (y : Y) → Contains xs x → q x ≡ true → find p (f x) ≡ Some y
    → AllByRecursion (λ z. (z ≡ x) ⊎ (find p (f z) ≡ None)) xs → find p (flat_map f (filter q xs)) ≡ Some y
find-part p f q [] x y (k, within, is) stays e all = absurd (omega arith)
find-part {X} {Y} p f q (z ∷ xs) x y there stays e (here, more) = first there here (λ within. find-part p f q xs x y within stays e more)
  where
    found : z ≡ x → find p (flat_map f (cond (q z) (z ∷ filter q xs) (filter q xs))) ≡ Some y
    found same =
        ap (λ b. find p (flat_map f (cond b (z ∷ filter q xs) (filter q xs)))) (ap q same ∙ stays)
        ∙ find-front p (f z) (flat_map f (filter q xs)) y (ap (λ (w : X). find p (f w)) same ∙ e)

    later : (b : Bool) → find p (f z) ≡ None → find p (flat_map f (filter q xs)) ≡ Some y → find p (flat_map f (cond b (z ∷ filter q xs) (filter q xs))) ≡ Some y
    later true none rest = find-back p (f z) (flat_map f (filter q xs)) none ∙ rest
    later false none rest = rest

    first : Contains (z ∷ xs) x → (z ≡ x) ⊎ (find p (f z) ≡ None) → (Contains xs x → find p (flat_map f (filter q xs)) ≡ Some y)
        → find p (flat_map f (cond (q z) (z ∷ filter q xs) (filter q xs))) ≡ Some y
    first (zero, within, is) other rest = found is
    first (suc k, within, is) (inl same) rest = found same
    first (suc k, within, is) (inr none) rest = later (q z) none (rest (k, omega arith, is))

-- ---- what an instance held

module _ (plan : NetPlan) (taken : List Held) (dep : List ℕ) (groups : List Group) (recorded : List Row) (once : Pairs (λ one other. same_inst (inst_in one) (inst_in other) ≡ false) recorded) where
  -- the entries of an instance, for a want of an instance
  entries : (want : Want) (inst : Inst) (b : Bool) → same_inst inst want.inst ≡ b → (make : Make)
      → find (is_kept plan taken want) (map (held_of inst) make.nets) ≡ option_map (held_of inst) (find (λ net. b && may_keep plan taken want.net want.az net) make.nets)
  entries want inst b same make =
      find-map (is_kept plan taken want) (held_of inst) make.nets
      ∙ ap (λ (own : Bool). option_map (held_of inst) (find (λ net. own && may_keep plan taken want.net want.az net) make.nets)) same

  none-of-others : (want : Want) (row : Row) (make : Option Make) → same_inst row.inst want.inst ≡ false → find (is_kept plan taken want) (held_by row.inst make) ≡ None
  none-of-others want row None other = refl
  none-of-others want row (Some make) other =
      entries want row.inst false other make ∙ ap (option_map (held_of row.inst)) (find-never (may_keep plan taken want.net want.az) make.nets)

  one-row : (row other : Row) → Contains recorded row → Contains recorded other → other.inst ≡ row.inst → other ≡ row
  one-row row other in_one in_two same =
      one_place (λ (a b : Row). same_inst (inst_in a) (inst_in b) ≡ false) recorded other row (AllPairs-from (λ (a b : Row). same_inst (inst_in a) (inst_in b) ≡ false) recorded once) in_two in_one
      (λ none. true≢false (sym (inst-same other.inst row.inst same) ∙ none)) (λ none. true≢false (sym (inst-same row.inst other.inst (sym same)) ∙ none))

  -- the entry that a want may keep is the first of its instance's
  kept-entry : (want : Want) (row : Row) (make : Make) (net : NetAddr) → Contains recorded row → stays dep groups row ≡ true → row.inst ≡ want.inst → row.make ≡ Some make
      → find (may_keep plan taken want.net want.az) make.nets ≡ Some net → find (is_kept plan taken want) (kept dep groups recorded) ≡ Some (held_of row.inst net)
  kept-entry want row make net there stay same made found =
      find-part (is_kept plan taken want) row_holds (stays dep groups) recorded row (held_of row.inst net) there stay
      (ap (λ (m : Option Make). find (is_kept plan taken want) (held_by row.inst m)) made
      ∙ (entries want row.inst true (inst-same row.inst want.inst same) make ∙ ap (option_map (held_of row.inst)) found))
      (recursion_from_contains (λ other. (other ≡ row) ⊎ (find (is_kept plan taken want) (row_holds other) ≡ None)) recorded
      (λ other within. by other within (same_inst other.inst want.inst) refl))
    where
      by : (other : Row) → Contains recorded other → (b : Bool) → same_inst other.inst want.inst ≡ b → (other ≡ row) ⊎ (find (is_kept plan taken want) (row_holds other) ≡ None)
      by other within true e = inl (one-row row other there within (inst-is other.inst want.inst e ∙ sym same))
      by other within false e = inr (none-of-others want other other.make e)

-- ---- a row of a goal

-- names tell apart what they name
one-named : {X : Type 0} (name_of : X → List ℕ) (xs : List X) (x y : X) → Pairs (λ one other. Apart (name_of one) (name_of other)) xs → Contains xs x → Contains xs y → name_of x ≡ name_of y → x ≡ y
one-named name_of xs x y pairs in_x in_y same =
    one_place (λ one other. Apart (name_of one) (name_of other)) xs x y (AllPairs-from (λ one other. Apart (name_of one) (name_of other)) xs pairs) in_x in_y
    (λ none. true≢false (sym (bytes-same (name_of x) (name_of y) same) ∙ none)) (λ none. true≢false (sym (bytes-same (name_of y) (name_of x) (sym same)) ∙ none))

module _ (plan : NetPlan) (view : View) (manifest : Contents) (sound : IsSound manifest) (once : AreRecordedOnce view.rows) where
  abbrev entries_kept : List Held
  entries_kept = kept manifest.name manifest.groups view.rows

  abbrev Q : Want → Addr → Type 0
  Q = KeepsOwn plan view.taken entries_kept

  rows-once : Pairs (λ one other. same_inst (inst_in one) (inst_in other) ≡ false) view.rows
  rows-once = pairs_unmapped (λ i j. same_inst i j ≡ false) inst_in view.rows (pairs_of_distinct same_inst (map inst_in view.rows) once)

  module _ (want : GoalRow) (p : HasPlace Q manifest.name view.rows manifest.groups want) where
    own-group : (group : Group) → Contains manifest.groups group → group.name ≡ want.inst.group → group ≡ p.group
    own-group group there name =
        one-named group_name manifest.groups group p.group (distinct-pairs group_name manifest.groups sound.groups) there p.there (name ∙ ap (λ (i : Inst). i.group) p.inst)

    keeps-zone : KeepsZone view.rows manifest.groups want
    keeps-zone group az there name recorded listed =
        let same : group ≡ p.group = own-group group there name in
        let zone : recorded_zone view.rows (inst_of manifest.name p.group p.index) ≡ Some az = ap (recorded_zone view.rows) (sym p.inst) ∙ recorded in
        p.zone
        ∙ (ap (zone_by p.group p.index) zone
        ∙ ap (λ b. cond b az (new_zone p.group p.index)) (ap (λ (g : Group). is_listed az g.azs) (sym same) ∙ listed))

    stays-here : (row : Row) → row.inst ≡ want.inst → stays manifest.name manifest.groups row ≡ true
    stays-here row same =
        let is : row.inst ≡ inst_of manifest.name p.group p.index = same ∙ p.inst in
        and_from (bytes_eq row.inst.dep manifest.name) (list_any (is_in row.inst) manifest.groups) (bytes-same row.inst.dep manifest.name (ap (λ (i : Inst). i.dep) is))
        (any_from (is_in row.inst) manifest.groups p.group p.there
        (and_from (bytes_eq p.group.name row.inst.group) (nat_lt row.inst.index p.group.instances) (bytes-same p.group.name row.inst.group (sym (ap (λ (i : Inst). i.group) is)))
        (ap (λ (i : Inst). nat_lt i.index p.group.instances) is ∙ lt-ltb p.index p.group.instances p.within)))

    keeps-addresses : KeepsAddresses plan view manifest.groups want
    keeps-addresses group network row make it there name in_group unfixed recorded same made found =
        let is : group ≡ p.group = own-group group there name in
        let in_own : Contains p.group.networks network = subst (λ (g : Group). Contains g.networks network) is in_group in
        let named : Contains (map net_name want.make.nets) network.net = subst (λ names. Contains names network.net) (sym p.names) (mapped_into network_name p.group.networks network in_own) in
        let (net, within, net_is) = mapped_from net_name want.make.nets network.net named in
        let own : IsOwn Q (want_of manifest.name view.rows p.group p.index) p.group.networks net = all_at (IsOwn Q (want_of manifest.name view.rows p.group p.index) p.group.networks) want.make.nets net p.nets within in
        let networks = distinct-pairs network_name p.group.networks (all_at IsSoundGroup manifest.groups p.group (all_from_index IsSoundGroup manifest.groups sound.each_group) p.there).networks in
        let network_is : own.network ≡ network = one-named network_name p.group.networks own.network network networks own.there in_own (sym own.name ∙ net_is) in
        let asked : Want = want_of manifest.name view.rows p.group p.index network in
        let given : Q asked net.addr = subst (λ (n : NetUse). Q (want_of manifest.name view.rows p.group p.index n) net.addr) network_is own.given in
        let may : find (may_keep plan view.taken asked.net asked.az) make.nets ≡ Some it = ap (λ az. find (may_keep plan view.taken network.net az) make.nets) (sym p.zone) ∙ found in
        let entry : find (is_kept plan view.taken asked) entries_kept ≡ Some (held_of row.inst it) =
        kept-entry plan view.taken manifest.name manifest.groups view.rows rows-once asked row make it recorded (stays-here row same) (same ∙ p.inst) made may in
        let addr_is : net.addr ≡ it.addr = given (held_of row.inst it) (ap (λ bands. addr_in bands p.index) unfixed) entry in
        let net_same : net ≡ record { net = network.net; addr = it.addr } = λ i. record { net = net_is i; addr = addr_is i } in
        subst (Contains want.make.nets) net_same within

pub keeps-place :
    (manifest : Contents) (config : Config) (releases : List Release) (stemcells : List Stemcell) (view : View) (recreate : Bool) (it : Goal) (want : GoalRow)
    → IsSound manifest → AreRecordedOnce view.rows → IsGoal manifest (Some config) releases stemcells view recreate (Ok it)
    → Contains it.rows want → KeepsPlace config.plan view manifest.groups want
keeps-place manifest config releases stemcells view recreate it want sound once told there =
    let made : IsMade manifest config releases stemcells view recreate it = is-made manifest config releases stemcells view recreate it told in
    let asked : List Want = wants manifest.name view.rows manifest.groups in
    let held : List Held = kept manifest.name manifest.groups view.rows in
    let Own : Want → Addr → Type 0 = KeepsOwn config.plan view.taken held in
    let groups : groups_of made.used ≡ manifest.groups = uses-groups manifest config releases stemcells made.used made.uses_are in
    let scene : Scene = scene_of manifest.name (sites made.used made.addrs) it.ties recreate view in
    let rows = are-rows scene (sites made.used made.addrs) it.rows made.rows_are in
    let own : AllZip Own asked made.addrs =
    all-keep config.plan view.taken held (is_held config.plan view.taken held asked) asked made.addrs (given-assigned asked config.plan view.taken held made.addrs made.addrs_are) in
    let zip : AllZip Own (wants manifest.name view.rows (groups_of made.used)) made.addrs = subst (λ gs. AllZip Own (wants manifest.name view.rows gs) made.addrs) (sym groups) own in
    let placed : AllByRecursion (HasPlace Own manifest.name view.rows manifest.groups) it.rows =
    subst (λ gs. AllByRecursion (HasPlace Own manifest.name view.rows gs) it.rows) groups (rows-placed Own scene made.used made.addrs it.rows zip rows) in
    let p : HasPlace Own manifest.name view.rows manifest.groups want = all_at (HasPlace Own manifest.name view.rows manifest.groups) it.rows want placed there in
    record { zone = keeps-zone config.plan view manifest sound once want p; addresses = keeps-addresses config.plan view manifest sound once want p }
