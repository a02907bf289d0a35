-- The addresses of a goal that is made anew are free, where those of the current one are.
use Rattle.std.proofs.Common.{◌≡◌, ◌∙◌, ℕ, Bool, true, false, ◌&&◌, ◌||◌, not, eqb, cond, List, [], ◌∷◌, ◌++◌, Option, Some, Ok, find, map, ap, refl, sym}
use Rattle.std.specs.List.{AllByRecursion, flat_map, list_all, list_any}
use Rattle.std.specs.Option.{is_some}
use Rattle.std.proofs.lemmas.Bool.{or_parts}
use Rattle.bosh_base.specs.declared.addr.Addr.{Addr}
use Rattle.bosh_base.specs.declared.goal.Goal.{Goal}
use Rattle.bosh_base.specs.declared.goal.GoalRow.{GoalRow}
use Rattle.bosh_base.specs.declared.inst.Inst.{Inst}
use Rattle.bosh_base.specs.declared.make.Make.{Make}
use Rattle.bosh_base.specs.declared.row.Row.{Row}
use Rattle.bosh_base.specs.declared.view.View.{View}
use Rattle.bosh_cloudcfg.specs.declared.config.Config.{Config}
use Rattle.bosh_goal.specs.Anew.{anew, row_anew}
use Rattle.bosh_goal.specs.declared.change.Change.{Change}
use Rattle.bosh_history.specs.Goals.{is_in}
use Rattle.bosh_history.specs.Sound.{addrs, has_addr, is_held, row_addrs, slot_addrs}
use Rattle.bosh_history.specs.Words.{holds, is_among}
use Rattle.bosh_rows.specs.SoundSnapshot.{are_distinct}
use Rattle.bosh_rows.specs.Same.{same_inst}
use Rattle.laws_goals.specs.Free.{HasFreeAddresses, another_keeps, are_rows_free, is_own, is_used}
use Rattle.laws_goals.specs.Renewed.{HasFreeRows}
use Rattle.laws_goals.proofs.AnewLemmas.{IsAnew, anew-inst, anew-make, is-anew}
use Rattle.laws_goals.proofs.FreeLemmas.{all-spare}
use Rattle.laws_goals.proofs.ListLemmas.{across_swap, all_append, all_map, all_mapped, all_pass, distinct_from, eqb_flip, none_passes, pairs_append, pairs_mapped, pairs_of_distinct, passes}
use Rattle.laws_goals.proofs.SlotLemmas.{AreSpare, are-spare, number}

-- ---- rows that are made anew

module _ (inst : Inst) (change : Change) (last : ℕ) where
  abbrev renewed : GoalRow → GoalRow
  renewed = row_anew inst change last

  renewed-addrs : (rows : List GoalRow) → flat_map (λ want. addrs want.make) (map renewed rows) ≡ flat_map (λ want. addrs want.make) rows
  renewed-addrs [] = refl
  renewed-addrs (row ∷ rows) = λ i. addrs (anew-make inst change last row i) ++ renewed-addrs rows i

  -- a test of instances and makes sees no difference
  renewed-all : (test : Inst → Make → Bool) (rows : List GoalRow) → list_all (λ want. test want.inst want.make) (map renewed rows) ≡ list_all (λ want. test want.inst want.make) rows
  renewed-all test [] = refl
  renewed-all test (row ∷ rows) = λ i. test (anew-inst inst change last row i) (anew-make inst change last row i) && renewed-all test rows i

  renewed-in : (i : Inst) (rows : List GoalRow) → is_some (find (λ want. same_inst i want.inst) (map renewed rows)) ≡ is_some (find (λ want. same_inst i want.inst) rows)
  renewed-in i [] = refl
  renewed-in i (row ∷ rows) =
      ap (λ (j : Inst). is_some (cond (same_inst i j) (Some (renewed row)) (find (λ want. same_inst i want.inst) (map renewed rows)))) (anew-inst inst change last row)
      ∙ by (same_inst i row.inst) (renewed-in i rows)
    where
      by : (b : Bool) → is_some (find (λ want. same_inst i want.inst) (map renewed rows)) ≡ is_some (find (λ want. same_inst i want.inst) rows)
          → is_some (cond b (Some (renewed row)) (find (λ want. same_inst i want.inst) (map renewed rows))) ≡ is_some (cond b (Some row) (find (λ want. same_inst i want.inst) rows))
      by true h = refl
      by false h = h

  module _ (goal it : Goal) (rows_are : it.rows ≡ map renewed goal.rows) where
    pub in-same : (i : Inst) → is_in (Some it) i ≡ is_in (Some goal) i
    in-same i = ap (λ (rows : List GoalRow). is_some (find (λ want. same_inst i want.inst) rows)) rows_are ∙ renewed-in i goal.rows

    pub addrs-same : row_addrs it ≡ row_addrs goal
    addrs-same = ap (λ (rows : List GoalRow). flat_map (λ want. addrs want.make) rows) rows_are ∙ renewed-addrs goal.rows

    keeps-same : (recorded : List Row) (i : Inst) (a : ℕ) → another_keeps recorded it i a ≡ another_keeps recorded goal i a
    keeps-same recorded i a = λ j. list_any (λ (row : Row). not (same_inst i row.inst) && (in-same row.inst j && has_addr a row.make)) recorded

    pub free-same : (recorded : List Row) → are_rows_free recorded it ≡ are_rows_free recorded goal
    free-same recorded =
        ap (λ (rows : List GoalRow). list_all (λ want. list_all (λ a. not (another_keeps recorded it want.inst a)) (addrs want.make)) rows) rows_are
        ∙ ((λ j. list_all (λ (want : GoalRow). list_all (λ a. not (keeps-same recorded want.inst a j)) (addrs want.make)) (map renewed goal.rows))
        ∙ renewed-all (λ i make. list_all (λ a. not (another_keeps recorded goal i a)) (addrs make)) goal.rows)

-- ---- all addresses

not-wanted : (view : View) (goal : Goal) (a : ℕ) → view.goal ≡ Some goal → is_used view a ≡ false → is_among eqb a (row_addrs goal) ≡ false
not-wanted view goal a current none =
    let own : is_own view a ≡ false = (or_parts (is_held view.leftover a) (is_own view a) (or_parts (is_held view.taken a) (is_held view.leftover a || is_own view a) none).1).1 in
    let wanted : holds (λ current. is_among eqb a (row_addrs current)) view.goal ≡ false = (or_parts (list_any (λ row. has_addr a row.make) view.rows) _ own).1 in
    sym (ap (λ (o : Option Goal). holds (λ current. is_among eqb a (row_addrs current)) o) current) ∙ wanted

module _ (view : View) (goal : Goal) (makes : List Make) (current : view.goal ≡ Some goal) (rows : HasFreeRows view goal) (spare : AreSpare view [] makes) where
  abbrev all-numbers : List ℕ
  all-numbers = row_addrs goal ++ map number spare.spare

  apart : AllByRecursion (λ n. AllByRecursion (λ m. eqb n m ≡ false) (map number spare.spare)) (row_addrs goal)
  apart =
      all_map (λ n. AllByRecursion (λ (a : Addr). eqb a.0 n ≡ false) spare.spare) (λ n. AllByRecursion (λ m. eqb n m ≡ false) (map number spare.spare)) (row_addrs goal)
      (λ n all. all_mapped (λ m. eqb n m ≡ false) number spare.spare (all_map (λ (a : Addr). eqb a.0 n ≡ false) (λ a. eqb n a.0 ≡ false) spare.spare (λ a h. eqb_flip n a.0 ∙ h) all))
      (across_swap (λ (a : Addr) n. eqb a.0 n ≡ false) (row_addrs goal) spare.spare
      (all_map (λ a. is_used view a.0 ≡ false) (λ a. AllByRecursion (λ n. eqb a.0 n ≡ false) (row_addrs goal)) spare.spare
      (λ a none. none_passes (eqb a.0) (row_addrs goal) (not-wanted view goal a.0 current none)) spare.unused))

  pub renewed-distinct : are_distinct eqb all-numbers ≡ true
  renewed-distinct =
      distinct_from eqb all-numbers (pairs_append (λ m n. eqb m n ≡ false) (row_addrs goal) (map number spare.spare) (pairs_of_distinct eqb (row_addrs goal) rows.distinct)
      (pairs_mapped (λ m n. eqb m n ≡ false) number spare.spare spare.differ) apart)

  pub renewed-untaken : list_all (λ a. not (is_held view.taken a)) all-numbers ≡ true
  renewed-untaken =
      all_pass (λ a. not (is_held view.taken a)) all-numbers (all_append (λ a. not (is_held view.taken a) ≡ true) (row_addrs goal) (map number spare.spare)
      (passes (λ a. not (is_held view.taken a)) (row_addrs goal) rows.untaken)
      (all_mapped (λ a. not (is_held view.taken a) ≡ true) number spare.spare
      (all_map (λ a. is_used view a.0 ≡ false) (λ a. not (is_held view.taken a.0) ≡ true) spare.spare (λ a h. ap not (or_parts (is_held view.taken a.0) _ h).0) spare.unused)))

pub renewed-addresses-free :
    (inst : Inst) (change : Change) (config : Config) (view : View) (goal it : Goal) → view.goal ≡ Some goal → HasFreeRows view goal
    → anew inst change (Some config) view goal ≡ Ok it → HasFreeAddresses view it
renewed-addresses-free inst change config view goal it current rows told =
    let made : IsAnew inst change config view goal it = is-anew inst change config view goal it told in
    let spare : AreSpare view [] made.makes = are-spare config _ [] view made.makes made.slots_are in
    let rows_are : it.rows ≡ map (row_anew inst change view.last_call) goal.rows = ap (λ (g : Goal). g.rows) made.is in
    let slots_are : slot_addrs it ≡ map number spare.spare = ap slot_addrs made.is ∙ spare.numbers in
    let numbers : row_addrs it ++ slot_addrs it ≡ row_addrs goal ++ map number spare.spare = λ i. addrs-same inst change view.last_call goal it rows_are i ++ slots_are i in
    record {
      distinct = ap (are_distinct eqb) numbers ∙ renewed-distinct view goal made.makes current rows spare;
      untaken = ap (list_all (λ a. not (is_held view.taken a))) numbers ∙ renewed-untaken view goal made.makes current rows spare;
      unshared = free-same inst change view.last_call goal it rows_are view.rows ∙ rows.unshared;
      spare = ap (λ (g : Goal). list_all (λ a. not (is_used view a)) (slot_addrs g)) made.is ∙ all-spare view [] [] [] made.makes refl tt spare;
    }
