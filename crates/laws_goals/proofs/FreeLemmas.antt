-- The addresses of a goal that is given are free.
use Rattle.std.proofs.Common.{◌≡◌, ◌∙◌, ℕ, Bool, true, false, true≢false, ◌&&◌, ◌==◌, not, eqb, nat_lt, List, [], ◌∷◌, ◌++◌, Option, Some, None, Ok, find, map, ap, refl, sym, subst}
use Rattle.std.specs.List.{AllByRecursion, AllZip, flat_map, list_all, list_any}
use Rattle.std.specs.Option.{is_some, option_map}
use Rattle.std.specs.Str.{bytes_eq}
use Rattle.std.proofs.lemmas.Bool.{and_from, and_left, and_right, lt-ltb, not-false, or_parts}
use Rattle.std.proofs.lemmas.List.{map-append}
use Rattle.bosh_bands.specs.Apart.{AreApart}
use Rattle.bosh_base.specs.declared.addr.Addr.{Addr}
use Rattle.bosh_base.specs.declared.addr.NetAddr.{NetAddr}
use Rattle.bosh_base.specs.declared.goal.Goal.{Goal}
use Rattle.bosh_base.specs.declared.goal.GoalRow.{GoalRow}
use Rattle.bosh_base.specs.declared.inst.Inst.{Inst}
use Rattle.bosh_base.specs.declared.make.Make.{Make}
use Rattle.bosh_base.specs.declared.release.Release.{Release}
use Rattle.bosh_base.specs.declared.row.Row.{Row}
use Rattle.bosh_base.specs.declared.stemcell.Stemcell.{Stemcell}
use Rattle.bosh_base.specs.declared.view.Held.{Held}
use Rattle.bosh_base.specs.declared.view.View.{View}
use Rattle.bosh_cloudcfg.specs.declared.config.Config.{Config}
use Rattle.bosh_goal.proofs.UsedLemmas.{uses-groups}
use Rattle.bosh_goal.specs.Goal.{IsGoal, scene_of}
use Rattle.bosh_history.specs.Goals as goals
use Rattle.bosh_history.specs.Sound.{addrs, has_addr, is_held, row_addrs, slot_addrs}
use Rattle.bosh_rows.specs.SoundSnapshot.{are_distinct}
use Rattle.bosh_instances.specs.Rows.{Scene}
use Rattle.bosh_manifest.specs.Sound.{AreDistinct, IsSound, IsSoundGroup, network_name}
use Rattle.bosh_manifest.specs.declared.group.Group.{Group}
use Rattle.bosh_manifest.specs.declared.manifest.Contents.{Contents}
use Rattle.bosh_offers.specs.Sited.{sites}
use Rattle.bosh_wants.specs.Wants.{held_by, held_of, is_in, kept, row_holds, stays, want_of, wants}
use Rattle.bosh_wants.specs.Zones.{inst_of}
use Rattle.bosh_pool.proofs.ListLemmas.{AllPairs-from, Pairs, Pairs-from, any_from, find_none, find_some, recursion_from_contains}
use Rattle.bosh_pool.proofs.SafeLemmas.{all_different, all_unshared, all_untaken}
use Rattle.bosh_pool.specs.Fixed.{holds, is_owner, owner_of, same_addr, same_inst}
use Rattle.bosh_pool.specs.Safe.{AreHeldOnce, AreWantedOnce, IsUnshared, IsUntaken}
use Rattle.bosh_pool.specs.declared.want.Want.{Want}
use Rattle.bosh_slots.specs.Slots.{goal_row_addrs, net_addr}
use Rattle.laws_goals.specs.Free.{HasFreeAddresses, HoldOnce, another_keeps, are_rows_free, is_used}
use Rattle.laws_goals.proofs.ListLemmas.{across_swap, all_append, all_at, all_front, all_from_index, all_map, all_mapped, all_pass, any_and, any_append, any_map, distinct_from, eqb_flip, none_filtered, none_pass, none_passes, pairs_append, pairs_filtered, pairs_front, pairs_mapped}
use Rattle.laws_goals.proofs.PartLemmas.{IsMade, are-rows, is-made}
use Rattle.laws_goals.proofs.RowLemmas.{HasPlace, IsOwn, groups_of, rows-addrs, rows-placed}
use Rattle.laws_goals.proofs.SameLemmas.{bytes-same, inst-is, inst-same}
use Rattle.laws_goals.proofs.SlotLemmas.{AreSpare, are-spare, number}
use Rattle.laws_goals.proofs.WantLemmas.{wanted-once}

abbrev Apart : Addr → Addr → Type 0
Apart one other = same_addr one other ≡ false

-- ---- numbers of addresses

nets-numbers : (nets : List NetAddr) → map (λ it. it.addr.0) nets ≡ map number (map net_addr nets)
nets-numbers [] = refl
nets-numbers (net ∷ nets) = ap (λ more. net.addr.0 ∷ more) (nets-numbers nets)

pub rows-numbers : (rows : List GoalRow) → flat_map (λ want. addrs want.make) rows ≡ map number (flat_map goal_row_addrs rows)
rows-numbers [] = refl
rows-numbers (want ∷ rows) =
    (λ i. nets-numbers want.make.nets i ++ rows-numbers rows i) ∙ sym (map-append number (goal_row_addrs want) (flat_map goal_row_addrs rows))

mapped-none : {A B : Type 0} (f : A → B) (o : Option A) → option_map f o ≡ None → o ≡ None
mapped-none f None h = refl
mapped-none f (Some a) h = absurd (cc)

none-found : {X : Type 0} (p : X → Bool) (xs : List X) → find p xs ≡ None → list_any p xs ≡ false
none-found p xs h = none_pass p xs (recursion_from_contains (λ x. p x ≡ false) xs (λ x there. find_none p xs h x there))

untaken-number : (taken : List Held) (a : Addr) → IsUntaken taken a → is_held taken a.0 ≡ false
untaken-number taken a h = none-found (holds a) taken (mapped-none owner_of (find (holds a) taken) h)

-- ---- addresses of rows and slots, from those that were given

module _ (view : View) (own front rest : List Addr) (makes : List Make) (whole : front ++ rest ≡ own) (differ : Pairs Apart own) (spare : AreSpare view own makes) where
  abbrev taken-numbers : List ℕ
  taken-numbers = map number (front ++ spare.spare)

  pub numbers-are : map number front ++ flat_map addrs makes ≡ taken-numbers
  numbers-are = ap (λ back. map number front ++ back) spare.numbers ∙ sym (map-append number front spare.spare)

  apart-from-front : AllByRecursion (λ a. AllByRecursion (λ b. same_addr b a ≡ false) spare.spare) front
  apart-from-front =
      across_swap (λ b a. same_addr b a ≡ false) front spare.spare
      (all_map (λ b. list_any (same_addr b) own ≡ false) (λ b. AllByRecursion (λ a. same_addr b a ≡ false) front) spare.spare
      (λ b none. none_passes (same_addr b) front (or_parts (list_any (same_addr b) front) (list_any (same_addr b) rest)
      (sym (any_append (same_addr b) front rest) ∙ (ap (list_any (same_addr b)) whole ∙ none))).0) spare.others)

  pub all-distinct : are_distinct eqb taken-numbers ≡ true
  all-distinct =
      distinct_from eqb taken-numbers (pairs_mapped (λ m n. eqb m n ≡ false) number (front ++ spare.spare)
      (pairs_append Apart front spare.spare (pairs_front Apart front rest (subst (Pairs Apart) (sym whole) differ)) spare.differ
      (all_map (λ a. AllByRecursion (λ b. same_addr b a ≡ false) spare.spare) (λ a. AllByRecursion (Apart a) spare.spare) front
      (λ a all. all_map (λ b. same_addr b a ≡ false) (Apart a) spare.spare (λ b h. eqb_flip a.0 b.0 ∙ h) all) apart-from-front)))

  pub all-untaken : AllByRecursion (λ a. is_held view.taken a.0 ≡ false) own → list_all (λ n. not (is_held view.taken n)) taken-numbers ≡ true
  all-untaken untaken =
      all_pass (λ n. not (is_held view.taken n)) taken-numbers (all_mapped (λ n. not (is_held view.taken n) ≡ true) number (front ++ spare.spare)
      (all_map (λ a. is_held view.taken a.0 ≡ false) (λ a. not (is_held view.taken a.0) ≡ true) (front ++ spare.spare) (λ a h. ap not h)
      (all_append (λ a. is_held view.taken a.0 ≡ false) front spare.spare
      (all_front (λ a. is_held view.taken a.0 ≡ false) front rest (subst (AllByRecursion (λ a. is_held view.taken a.0 ≡ false)) (sym whole) untaken))
      (all_map (λ a. is_used view a.0 ≡ false) (λ a. is_held view.taken a.0 ≡ false) spare.spare (λ a h. (or_parts (is_held view.taken a.0) _ h).0) spare.unused))))

  pub all-spare : list_all (λ n. not (is_used view n)) (flat_map addrs makes) ≡ true
  all-spare =
      ap (list_all (λ n. not (is_used view n))) spare.numbers
      ∙ all_pass (λ n. not (is_used view n)) (map number spare.spare) (all_mapped (λ n. not (is_used view n) ≡ true) number spare.spare
      (all_map (λ a. is_used view a.0 ≡ false) (λ a. not (is_used view a.0) ≡ true) spare.spare (λ a h. ap not h) spare.unused))

-- ---- addresses of recorded rows that stay

module _ (dep : List ℕ) (groups : List Group) (recorded : List Row) where
  -- one that stays and has the address of a want is of the same instance
  unshared-row : (want : Want) (addr : Addr) → IsUnshared (kept dep groups recorded) want addr
      → AllByRecursion (λ row. stays dep groups row ≡ true → has_addr addr.0 row.make ≡ true → same_inst row.inst want.inst ≡ true) recorded
  unshared-row want addr none =
      all_map (λ row. stays dep groups row ≡ true → list_any beside (row_holds row) ≡ false)
      (λ row. stays dep groups row ≡ true → has_addr addr.0 row.make ≡ true → same_inst row.inst want.inst ≡ true) recorded
      (λ row free stays has. of-make row row.make refl (free stays) has)
      (none_filtered beside row_holds (stays dep groups) recorded (none-found beside (kept dep groups recorded) (mapped-none owner_of (find beside (kept dep groups recorded)) none)))
    where
      beside : Held → Bool
      beside held = holds addr held && not (is_owner want.inst held.owner)

      of-make : (row : Row) (make : Option Make) → row.make ≡ make → list_any beside (held_by row.inst row.make) ≡ false → has_addr addr.0 row.make ≡ true → same_inst row.inst want.inst ≡ true
      of-make row None e free has = absurd (true≢false (sym has ∙ ap (has_addr addr.0) e))
      of-make row (Some make) e free has =
          let c : Bool = not (same_inst row.inst want.inst) in
          let here : list_any (λ (net : NetAddr). net.addr.0 == addr.0) make.nets ≡ true =
          sym (any_map (λ b. b == addr.0) (λ it. it.addr.0) make.nets) ∙ (sym (ap (has_addr addr.0) e) ∙ has) in
          let none : (list_any (λ (net : NetAddr). net.addr.0 == addr.0) make.nets && c) ≡ false =
          sym (any_and (λ (net : NetAddr). net.addr.0 == addr.0) c make.nets)
          ∙ (sym (any_map beside (held_of row.inst) make.nets) ∙ (sym (ap (λ (m : Option Make). list_any beside (held_by row.inst m)) e) ∙ free)) in
          not-false (same_inst row.inst want.inst) (sym (ap (λ b. b && c) here) ∙ none)

module _ (Q : Want → Addr → Type 0) (dep : List ℕ) (recorded : List Row) (groups : List Group) (it : Goal) (placed : AllByRecursion (HasPlace Q dep recorded groups) it.rows) where
  -- an instance of the goal is one of a group
  stays-in : (row : Row) → goals.is_in (Some it) row.inst ≡ true → stays dep groups row ≡ true
  stays-in row h = by (find (λ want. same_inst row.inst want.inst) it.rows) refl h
    where
      by : (found : Option GoalRow) → find (λ want. same_inst row.inst want.inst) it.rows ≡ found → is_some found ≡ true → stays dep groups row ≡ true
      by None e some = absurd (true≢false (sym some))
      by (Some want) e some =
          let (same, there) = find_some (λ (w : GoalRow). same_inst row.inst w.inst) it.rows want e in
          let p : HasPlace Q dep recorded groups want = all_at (HasPlace Q dep recorded groups) it.rows want placed there in
          let is : row.inst ≡ inst_of dep p.group p.index = inst-is row.inst want.inst same ∙ p.inst in
          let name : bytes_eq p.group.name row.inst.group ≡ true = bytes-same p.group.name row.inst.group (sym (ap (λ (i : Inst). i.group) is)) in
          let index : nat_lt row.inst.index p.group.instances ≡ true = ap (λ (i : Inst). nat_lt i.index p.group.instances) is ∙ lt-ltb p.index p.group.instances p.within in
          and_from (bytes_eq row.inst.dep dep) (list_any (is_in row.inst) groups) (bytes-same row.inst.dep dep (ap (λ (i : Inst). i.dep) is))
          (any_from (is_in row.inst) groups p.group p.there (and_from (bytes_eq p.group.name row.inst.group) (nat_lt row.inst.index p.group.instances) name index))

-- no row has the address of another recorded one that stays
module _ (dep : List ℕ) (recorded : List Row) (groups : List Group) (it : Goal) (placed : AllByRecursion (HasPlace (IsUnshared (kept dep groups recorded)) dep recorded groups) it.rows) where
  abbrev Q : Want → Addr → Type 0
  Q = IsUnshared (kept dep groups recorded)

  not-kept : (i : Inst) (want : Want) (a : Addr) → want.inst ≡ i → Q want a → another_keeps recorded it i a.0 ≡ false
  not-kept i want a same q =
      none_pass (λ row. not (same_inst i row.inst) && (goals.is_in (Some it) row.inst && has_addr a.0 row.make)) recorded
      (all_map (λ row. stays dep groups row ≡ true → has_addr a.0 row.make ≡ true → same_inst row.inst want.inst ≡ true)
      (λ row. (not (same_inst i row.inst) && (goals.is_in (Some it) row.inst && has_addr a.0 row.make)) ≡ false) recorded
      (λ row one. by row one (goals.is_in (Some it) row.inst) (has_addr a.0 row.make) refl refl) (unshared-row dep groups recorded want a q))
    where
      by : (row : Row) → (stays dep groups row ≡ true → has_addr a.0 row.make ≡ true → same_inst row.inst want.inst ≡ true)
          → (inside has : Bool) → goals.is_in (Some it) row.inst ≡ inside → has_addr a.0 row.make ≡ has → (not (same_inst i row.inst) && (inside && has)) ≡ false
      by row one false has e f = and_right (not (same_inst i row.inst)) false refl
      by row one true false e f = and_right (not (same_inst i row.inst)) false refl
      by row one true true e f =
          let is : row.inst ≡ i = inst-is row.inst want.inst (one (stays-in Q dep recorded groups it placed row e) f) ∙ same in
          and_left (not (same_inst i row.inst)) true (ap not (inst-same i row.inst (sym is)))

  pub rows-are-free : are_rows_free recorded it ≡ true
  rows-are-free =
      all_pass (λ want. list_all (λ a. not (another_keeps recorded it want.inst a)) (addrs want.make)) it.rows
      (all_map (HasPlace Q dep recorded groups) (λ want. list_all (λ a. not (another_keeps recorded it want.inst a)) (addrs want.make) ≡ true) it.rows
      (λ want p. all_pass (λ a. not (another_keeps recorded it want.inst a)) (addrs want.make)
      (all_mapped (λ a. not (another_keeps recorded it want.inst a) ≡ true) (λ net. net.addr.0) want.make.nets
      (all_map (IsOwn Q (want_of dep recorded p.group p.index) p.group.networks) (λ net. not (another_keeps recorded it want.inst net.addr.0) ≡ true) want.make.nets
      (λ net own. ap not (not-kept want.inst (want_of dep recorded p.group p.index own.network) net.addr (sym p.inst) own.given)) p.nets))) placed)

-- ---- all

pub has-free-addresses :
    (manifest : Contents) (config : Config) (releases : List Release) (stemcells : List Stemcell) (view : View) (recreate : Bool) (it : Goal)
    → IsSound manifest → AreApart config.plan.subnets → HoldOnce view.rows
    → IsGoal manifest (Some config) releases stemcells view recreate (Ok it) → HasFreeAddresses view it
has-free-addresses manifest config releases stemcells view recreate it sound apart once told =
    let made : IsMade manifest config releases stemcells view recreate it = is-made manifest config releases stemcells view recreate it told in
    let asked : List Want = wants manifest.name view.rows manifest.groups in
    let held : List Held = kept manifest.name manifest.groups view.rows in
    let own : List Addr = made.addrs in
    let held_once : AreHeldOnce held = AllPairs-from (λ (one other : Held). same_addr one.addr other.addr ≡ false) held
    (pairs_filtered (λ (one other : Held). same_addr one.addr other.addr ≡ false) row_holds (stays manifest.name manifest.groups) view.rows
    (Pairs-from (λ (one other : Held). same_addr one.addr other.addr ≡ false) (flat_map row_holds view.rows) once)) in
    let networks : AllByRecursion (λ g. AreDistinct (map network_name g.networks)) manifest.groups =
    all_map IsSoundGroup (λ g. AreDistinct (map network_name g.networks)) manifest.groups (λ g s. s.networks) (all_from_index IsSoundGroup manifest.groups sound.each_group) in
    let wanted : AreWantedOnce asked = AllPairs-from _ asked (wanted-once manifest.name view.rows manifest.groups sound.groups networks) in
    let differ : Pairs Apart own = Pairs-from Apart own (all_different asked config.plan view.taken held own made.addrs_are wanted apart held_once) in
    let untaken : AllByRecursion (λ a. is_held view.taken a.0 ≡ false) own =
    all_map (IsUntaken view.taken) (λ a. is_held view.taken a.0 ≡ false) own (untaken-number view.taken) (all_from_index (IsUntaken view.taken) own (all_untaken asked config.plan view.taken held own made.addrs_are)) in
    let groups : groups_of made.used ≡ manifest.groups = uses-groups manifest config releases stemcells made.used made.uses_are in
    let scene : Scene = scene_of manifest.name (sites made.used own) it.ties recreate view in
    let rows = are-rows scene (sites made.used own) it.rows made.rows_are in
    let zip : AllZip (IsUnshared held) (wants manifest.name view.rows (groups_of made.used)) own =
    subst (λ gs. AllZip (IsUnshared held) (wants manifest.name view.rows gs) own) (sym groups) (all_unshared asked config.plan view.taken held own made.addrs_are held_once) in
    let placed : AllByRecursion (HasPlace (IsUnshared held) manifest.name view.rows manifest.groups) it.rows =
    subst (λ gs. AllByRecursion (HasPlace (IsUnshared held) manifest.name view.rows gs) it.rows) groups (rows-placed (IsUnshared held) scene made.used own it.rows zip rows) in
    let (rest, whole) = rows-addrs scene made.used own it.rows rows in
    let front : List Addr = flat_map goal_row_addrs it.rows in
    let spare : AreSpare view own it.slots = are-spare config _ own view it.slots made.slots_are in
    let numbers : row_addrs it ++ slot_addrs it ≡ map number (front ++ spare.spare) =
    ap (λ ns. ns ++ slot_addrs it) (rows-numbers it.rows) ∙ numbers-are view own front rest it.slots whole differ spare in
    record {
      distinct = ap (are_distinct eqb) numbers ∙ all-distinct view own front rest it.slots whole differ spare;
      untaken = ap (list_all (λ n. not (is_held view.taken n))) numbers ∙ all-untaken view own front rest it.slots whole differ spare untaken;
      unshared = rows-are-free manifest.name view.rows manifest.groups it placed;
      spare = all-spare view own front rest it.slots whole differ spare;
    }
