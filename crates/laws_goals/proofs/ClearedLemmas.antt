-- The named row of a goal that is made anew is to be detached, or has no address of an instance that is not in the goal.
use Rattle.std.proofs.Common.{◌≡◌, ◌∙◌, ℕ, Bool, true, false, true≢false, ◌&&◌, ◌||◌, not, cond, List, [], ◌∷◌, Option, Some, None, Ok, find, map, ap, refl, sym}
use Rattle.std.specs.List.{AllByRecursion, Contains, list_all, list_any}
use Rattle.std.specs.Option.{is_some}
use Rattle.std.proofs.lemmas.Bool.{or_left, or_right}
use Rattle.bosh_base.specs.declared.addr.Addr.{Addr}
use Rattle.bosh_base.specs.declared.addr.NetAddr.{NetAddr}
use Rattle.bosh_base.specs.declared.goal.Goal.{Goal}
use Rattle.bosh_base.specs.declared.goal.GoalRow.{GoalRow}
use Rattle.bosh_base.specs.declared.inst.Inst.{Inst}
use Rattle.bosh_base.specs.declared.make.Make.{Make}
use Rattle.bosh_base.specs.declared.owner.Owner.TheVariants.{Instance}
use Rattle.bosh_base.specs.declared.row.Row.{Row}
use Rattle.bosh_base.specs.declared.state.State.TheVariants.{Detached, Running, Stopped}
use Rattle.bosh_base.specs.declared.view.View.{View}
use Rattle.bosh_cloudcfg.specs.declared.config.Config.{Config}
use Rattle.bosh_goal.proofs.InstanceLemmas.{both-steps, never}
use Rattle.bosh_goal.specs.Anew.{addresses_free, addrs_of, all_free, anew, changed_row, is_row_of, keeps, needs_addrs, refusal_at, row_anew}
use Rattle.bosh_goal.specs.Anew as words
use Rattle.bosh_goal.specs.declared.change.Change.{Change}
use Rattle.bosh_goal.specs.declared.change.Change.TheVariants.{Fresh, To, Same}
use Rattle.bosh_history.specs.Goals.{inst_of, is_in}
use Rattle.bosh_history.specs.Sound.{addrs, has_addr}
use Rattle.bosh_rows.specs.SoundSnapshot.{are_distinct}
use Rattle.bosh_pool.proofs.ListLemmas.{AllPairs-from, find_none, find_some, one_place, recursion_from_contains}
use Rattle.bosh_pool.specs.Fixed.{same_addr}
use Rattle.bosh_pool.specs.declared.fault.PoolFault.TheVariants.{Taken}
use Rattle.bosh_rows.specs.Disks.{is_detached}
use Rattle.bosh_rows.specs.Same.{same_inst}
use Rattle.bosh_slots.specs.Slots as slot_words
use Rattle.bosh_slots.specs.Slots.{goal_row_addrs, net_addr}
use Rattle.bosh_manifest_names.specs.declared.fault.GoalFault.TheVariants.{Pool}
use Rattle.laws_goals.specs.Renewed.{is_cleared, is_cleared_for}
use Rattle.laws_goals.proofs.AnewLemmas.{IsAnew, anew-inst, anew-make, is-anew}
use Rattle.laws_goals.proofs.ListLemmas.{all_map, all_mapped, all_pass, all_unmapped, none_pass, pairs_of_distinct, pairs_unmapped}
use Rattle.laws_goals.proofs.RenewalLemmas.{in-same}
use Rattle.laws_goals.proofs.SameLemmas.{inst-flip, inst-is, inst-same}
use Rattle.laws_goals.proofs.SlotLemmas.{any-make}

-- ---- what is free

none-keeps : (addr : Addr) (keeper : Option Row) (free : Bool) → refusal_at addr keeper ≡ Ok free → keeper ≡ None
none-keeps addr None free e = refl
none-keeps addr (Some row) free e = never (◌≡◌ {A = Option Row} (Some row) None) (Pool (Taken addr (Instance row.inst))) free e

each-free : (rows : List GoalRow) (recorded : List Row) (all : List Addr) (was : Bool) → all_free rows recorded all ≡ Ok was
    → AllByRecursion (λ addr. find (keeps rows addr) recorded ≡ None) all
each-free rows recorded [] was e = tt
each-free rows recorded (addr ∷ all) was e =
    both-steps (AllByRecursion (λ a. find (keeps rows a) recorded ≡ None) (addr ∷ all)) (refusal_at addr (find (keeps rows addr) recorded)) _ was e
    (λ free f rest. (none-keeps addr (find (keeps rows addr) recorded) free f, each-free rows recorded all was rest))

-- an instance is in the goal, told in two ways
in-goal : (i : Inst) (rows : List GoalRow) → list_any (is_row_of i) rows ≡ is_some (find (λ want. same_inst i want.inst) rows)
in-goal i [] = refl
in-goal i (want ∷ rows) = ap (λ b. b || list_any (is_row_of i) rows) (inst-flip want.inst i) ∙ by (same_inst i want.inst) (in-goal i rows)
  where
    by : (b : Bool) → list_any (is_row_of i) rows ≡ is_some (find (λ want. same_inst i want.inst) rows)
        → (b || list_any (is_row_of i) rows) ≡ is_some (cond b (Some want) (find (λ want. same_inst i want.inst) rows))
    by true h = refl
    by false h = h

-- the row of an instance is the one that is found
found-row : (inst : Inst) (rows : List GoalRow) (row : GoalRow) → are_distinct same_inst (map inst_of rows) ≡ true → Contains rows row → is_row_of inst row ≡ true → find (is_row_of inst) rows ≡ Some row
found-row inst rows row distinct there same = by (find (is_row_of inst) rows) refl
  where
    by : (found : Option GoalRow) → find (is_row_of inst) rows ≡ found → found ≡ Some row
    by None e = absurd (true≢false (sym same ∙ find_none (is_row_of inst) rows e row there))
    by (Some other) e =
        let (passes, within) = find_some (is_row_of inst) rows other e in
        let one : row.inst ≡ other.inst = inst-is row.inst inst same ∙ sym (inst-is other.inst inst passes) in
        let is : other ≡ row =
        one_place (λ (a b : GoalRow). same_inst a.inst b.inst ≡ false) rows other row
        (AllPairs-from (λ (a b : GoalRow). same_inst a.inst b.inst ≡ false) rows (pairs_unmapped (λ i j. same_inst i j ≡ false) inst_of rows (pairs_of_distinct same_inst (map inst_of rows) distinct)))
        within there
        (λ none. true≢false (sym (inst-same other.inst row.inst (sym one)) ∙ none)) (λ none. true≢false (sym (inst-same row.inst other.inst one) ∙ none)) in
        ap Some is

-- ---- the named row

module _ (inst : Inst) (change : Change) (last : ℕ) (recorded : List Row) (goal it : Goal) (was : Bool) (free : addresses_free inst change goal.rows recorded ≡ Ok was)
    (rows_are : it.rows ≡ map (row_anew inst change last) goal.rows) (distinct : are_distinct same_inst (map inst_of goal.rows) ≡ true) where
  abbrev renewed : GoalRow → GoalRow
  renewed = row_anew inst change last

  none-taken : (row : GoalRow) → find (is_row_of inst) goal.rows ≡ Some row → needs_addrs change ≡ true → AllByRecursion (λ addr. find (keeps goal.rows addr) recorded ≡ None) (goal_row_addrs row)
  none-taken row found needs =
      each-free goal.rows recorded (goal_row_addrs row) was
      (sym (ap (λ (o : Option GoalRow). all_free goal.rows recorded (addrs_of o)) found)
      ∙ (sym (ap (λ b. cond b (all_free goal.rows recorded (addrs_of (find (is_row_of inst) goal.rows))) (Ok true)) needs) ∙ free))

  no-address : (row : GoalRow) → AllByRecursion (λ addr. find (keeps goal.rows addr) recorded ≡ None) (goal_row_addrs row) → (other : Row) → Contains recorded other → is_in (Some it) other.inst ≡ false
      → list_any (λ a. has_addr a other.make) (addrs row.make) ≡ false
  no-address row none other there out =
      none_pass (λ a. has_addr a other.make) (addrs row.make) (all_mapped (λ a. has_addr a other.make ≡ false) (λ (net : NetAddr). net.addr.0) row.make.nets
      (all_map (λ (net : NetAddr). find (keeps goal.rows net.addr) recorded ≡ None) (λ net. has_addr net.addr.0 other.make ≡ false) row.make.nets
      (λ net e.
      let outside : words.is_in goal.rows other ≡ false = in-goal other.inst goal.rows ∙ (sym (in-same inst change last goal it rows_are other.inst) ∙ out) in
      let kept : (not (words.is_in goal.rows other) && list_any (same_addr net.addr) (slot_words.row_addrs other)) ≡ false = find_none (keeps goal.rows net.addr) recorded e other there in
      sym (any-make net.addr other other.make refl) ∙ (sym (ap (λ b. not b && list_any (same_addr net.addr) (slot_words.row_addrs other)) outside) ∙ kept))
      (all_unmapped (λ addr. find (keeps goal.rows addr) recorded ≡ None) net_addr row.make.nets none)))

  cleared : (row : GoalRow) → Contains goal.rows row → is_row_of inst row ≡ true → needs_addrs change ≡ true → is_cleared recorded it (renewed row) ≡ true
  cleared row there same needs =
      all_pass (λ (other : Row). is_in (Some it) other.inst || not (list_any (λ a. has_addr a other.make) (addrs (renewed row).make))) recorded
      (recursion_from_contains (λ (other : Row). (is_in (Some it) other.inst || not (list_any (λ a. has_addr a other.make) (addrs (renewed row).make))) ≡ true) recorded
      (λ other within. by other within (is_in (Some it) other.inst) refl))
    where
      by : (other : Row) → Contains recorded other → (inside : Bool) → is_in (Some it) other.inst ≡ inside → (inside || not (list_any (λ a. has_addr a other.make) (addrs (renewed row).make))) ≡ true
      by other within true e = refl
      by other within false e =
          ap (λ (make : Make). not (list_any (λ a. has_addr a other.make) (addrs make))) (anew-make inst change last row)
          ∙ ap not (no-address row (none-taken row (found-row inst goal.rows row distinct there same) needs) other within e)

  detached-or-cleared : (row : GoalRow) → Contains goal.rows row → is_row_of inst row ≡ true → (is_detached (renewed row).state || is_cleared recorded it (renewed row)) ≡ true
  detached-or-cleared row there same = by change refl
    where
      by : (c : Change) → change ≡ c → (is_detached (renewed row).state || is_cleared recorded it (renewed row)) ≡ true
      by (To Detached) e =
          or_left (is_detached (renewed row).state) (is_cleared recorded it (renewed row))
          (ap (λ b. is_detached (cond b (changed_row change last row) row).state) same ∙ ap (λ (c : Change). is_detached (changed_row c last row).state) e)
      by (To Running) e = or_right (is_detached (renewed row).state) (is_cleared recorded it (renewed row)) (cleared row there same (ap needs_addrs e))
      by (To Stopped) e = or_right (is_detached (renewed row).state) (is_cleared recorded it (renewed row)) (cleared row there same (ap needs_addrs e))
      by Fresh e = or_right (is_detached (renewed row).state) (is_cleared recorded it (renewed row)) (cleared row there same (ap needs_addrs e))
      by Same e = or_right (is_detached (renewed row).state) (is_cleared recorded it (renewed row)) (cleared row there same (ap needs_addrs e))

  pub all-cleared : is_cleared_for recorded it inst ≡ true
  all-cleared =
      ap (list_all (λ want. not (same_inst want.inst inst) || (is_detached want.state || is_cleared recorded it want))) rows_are
      ∙ all_pass (λ want. not (same_inst want.inst inst) || (is_detached want.state || is_cleared recorded it want)) (map renewed goal.rows)
      (all_mapped (λ want. (not (same_inst want.inst inst) || (is_detached want.state || is_cleared recorded it want)) ≡ true) renewed goal.rows
      (recursion_from_contains (λ row. (not (same_inst (renewed row).inst inst) || (is_detached (renewed row).state || is_cleared recorded it (renewed row))) ≡ true) goal.rows
      (λ row there. ap (λ (i : Inst). not (same_inst i inst) || (is_detached (renewed row).state || is_cleared recorded it (renewed row))) (anew-inst inst change last row)
      ∙ by row there (same_inst row.inst inst) refl)))
    where
      by : (row : GoalRow) → Contains goal.rows row → (b : Bool) → same_inst row.inst inst ≡ b → (not b || (is_detached (renewed row).state || is_cleared recorded it (renewed row))) ≡ true
      by row there true e = detached-or-cleared row there e
      by row there false e = refl

pub is-cleared-for :
    (inst : Inst) (change : Change) (config : Config) (view : View) (goal it : Goal) → are_distinct same_inst (map inst_of goal.rows) ≡ true
    → anew inst change (Some config) view goal ≡ Ok it → is_cleared_for view.rows it inst ≡ true
is-cleared-for inst change config view goal it distinct told =
    let made : IsAnew inst change config view goal it = is-anew inst change config view goal it told in
    all-cleared inst change view.last_call view.rows goal it made.was made.free (ap (λ (g : Goal). g.rows) made.is) distinct
