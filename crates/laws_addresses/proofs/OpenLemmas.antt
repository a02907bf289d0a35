-- A task opens with a sound goal: who holds an address then, held it before or is of the goal.
use Rattle.std.proofs.Common.{◌≡◌, ℕ, ◌+◌, true, false, ◌==◌, Some, None, List, ◌++◌, ap, sym, ◌∙◌, inl, inr, arith, Bool, Option, refl}
use Rattle.std.specs.Prelude.{◌≢◌, eqb, not, ◌||◌, if◌then◌else◌}
use Rattle.std.specs.List.{list_all}
use Rattle.std.specs.Option.{option_map}
use Rattle.std.specs.Str.{bytes_eq}
use Rattle.std.proofs.lemmas.Bool.Decides.{eqb_tells}
use Rattle.bosh_base.specs.declared.entry.Entry.TheVariants as entries
use Rattle.bosh_base.specs.declared.entry.TaskOpen.{TaskOpen}
use Rattle.bosh_base.specs.declared.goal.Goal.{Goal}
use Rattle.bosh_base.specs.declared.goal.GoalRow.{GoalRow}
use Rattle.bosh_base.specs.declared.inst.Inst.{Inst}
use Rattle.bosh_base.specs.declared.make.Make.{Make}
use Rattle.laws_facts.proofs.ListLemmas.{Tells, bytes_tells}
use Rattle.laws_facts.proofs.LockLemmas.{no_other}
use Rattle.laws_facts.proofs.WorkLemmas.{opens_next}
use Rattle.laws_facts.specs.Addresses.{Recorded, Wanted, Free, holds_address}
use Rattle.laws_facts.specs.Addresses.{has_each_once}
use Rattle.laws_row_facts.specs.Words.{where_any}
use Rattle.bosh_rows.specs.SoundSnapshot.{are_distinct}
use Rattle.laws_addresses.proofs.ListLemmas.{once_of, row_once, slot_once}
use Rattle.laws_facts.specs.KnownFacts.{KnownFacts}
use Rattle.laws_facts.specs.Owners.{works}
use Rattle.bosh_history.specs.Goals.{is_in}
use Rattle.bosh_history.specs.Held.{held_elsewhere}
use Rattle.bosh_history.specs.Items.{slots_of}
use Rattle.bosh_history.specs.Known.{dep_of_task, want_in}
use Rattle.bosh_history.specs.Moments.{Moment, noting}
use Rattle.bosh_history.specs.Openings.{MayOpen}
use Rattle.bosh_history.specs.Sound.{addrs, another_keeps, has_addr, has_addresses, is_held, is_used, is_wanted, row_addrs, slot_addrs}
use Rattle.bosh_history.specs.Steps.{nth}
use Rattle.bosh_history.specs.Tasks.{goal_set}
use Rattle.bosh_history.specs.Words.{at}
use Rattle.bosh_rows.proofs.SameLemmas.{same_inst_tells}
use Rattle.bosh_rows.specs.Same.{same_inst}
use Rattle.laws_addresses.proofs.FreeLemmas.{row_recorded}
use Rattle.laws_addresses.proofs.HeldLemmas as held
use Rattle.laws_addresses.proofs.HeldLemmas.{IsFree, dep_as, is_free}
use Rattle.laws_addresses.proofs.ListLemmas.{Apart, all_has, any_in, any_left, any_right, apart_of, has, row_has, slot_has}
use Rattle.laws_addresses.proofs.WorkingLemmas.{IsRow, WorksOn, found_row, works_on}

-- a task opens well: in good order, with a goal whose addresses are free
pub record OpensWell (m : Moment) (o : TaskOpen) (goal : Goal) : Type 0 where
  pub holds : KnownFacts m
  pub may : MayOpen m.known o
  pub dep_is : o.dep ≡ Some goal.dep
  pub goal_is : o.goal ≡ Some goal
  pub sound : has_addresses m.known goal ≡ true

module _ (m : Moment) (o : TaskOpen) (goal : Goal) (well : OpensWell m o goal) where
  abbrev pub new : Moment
  new = noting m (entries.TaskOpen o)

  pub number : o.task ≡ m.known.tasks + 1
  number = opens_next m.known o well.may

  goal_now : (dep : List ℕ) → new.known.goal dep ≡ at bytes_eq goal.dep (Some goal) m.known.goal dep
  goal_now dep = λ i. goal_set (well.dep_is i) (well.goal_is i) m.known.goal dep

  -- ---- the goal

  abbrev pub all : List ℕ
  all = row_addrs goal ++ slot_addrs goal

  pub parts : Apart (row_addrs goal) (slot_addrs goal)
  parts = apart_of (row_addrs goal) (slot_addrs goal) (grind (arith, well.sound))

  pub free_elsewhere : (a : ℕ) → has a all ≡ true → is_held (held_elsewhere m.known goal.dep) a ≡ false
  free_elsewhere a there =
      grind (
        arith,
        all_has (λ a. not (is_held (held_elsewhere m.known goal.dep) a)) a all (grind (arith, well.sound)) there,
      )

  pub unused : (a : ℕ) → has a (slot_addrs goal) ≡ true → is_used m.known a ≡ false
  unused a there =
      grind (
        arith,
        all_has (λ a. not (is_used m.known a || is_wanted m.known goal a)) a (slot_addrs goal)
            (grind (arith, well.sound)) there,
      )

  -- another row with the address of a wanted one does not stay
  pub leaves : (i j : Inst) (row : GoalRow) (a : ℕ) → want_in (Some goal) j ≡ Some row → has a (addrs row.make) ≡ true
      → holds_address m (Recorded i) a ≡ true → same_inst j i ≡ false → is_in (Some goal) i ≡ true → false ≡ true
  leaves i j row a wanted there here apart stays =
      let it : IsRow (λ want. list_all (λ a. not (another_keeps m.known goal want.inst a)) (addrs want.make)) j row =
      found_row (λ want. list_all (λ a. not (another_keeps m.known goal want.inst a)) (addrs want.make)) j goal.rows row
      (grind (arith, well.sound)) wanted in
      let none : not (another_keeps m.known goal row.inst a) ≡ true =
      all_has (λ a. not (another_keeps m.known goal row.inst a)) a (addrs row.make) it.meets there in
      let keeps : another_keeps m.known goal j a ≡ true =
      any_in same_inst same_inst_tells _ i m.known.instances (row_recorded m i a well.holds here)
      (grind (arith, apart, stays, here)) in
      sym (ap not ((λ l. another_keeps m.known goal (it.inst l) a) ∙ keeps)) ∙ none

  -- ---- who wants what

  pub data WantedMake (i : Inst) : Type 0 where
    was_wanted : i.dep ≢ goal.dep → new.known.goal i.dep ≡ m.known.goal i.dep → WantedMake i
    now_wanted : i.dep ≡ goal.dep → new.known.goal i.dep ≡ Some goal → WantedMake i

  pub wanted_make : (i : Inst) → WantedMake i
  wanted_make i = by (bytes_tells goal.dep i.dep)
    where
      by : Tells bytes_eq goal.dep i.dep → WantedMake i
      by (inl same) =
          now_wanted (sym same.1) (goal_now i.dep ∙ (λ l. if same.0 l then Some goal else m.known.goal i.dep))
      by (inr apart) =
          was_wanted (λ same. apart.1 (sym same))
          (goal_now i.dep ∙ (λ l. if apart.0 l then Some goal else m.known.goal i.dep))

  -- a row of the goal, or of the goal of another deployment
  pub data WantedFrom (i : Inst) (a : ℕ) : Type 0 where
    was_row : i.dep ≢ goal.dep → holds_address m (Wanted i) a ≡ true → new.known.goal i.dep ≡ m.known.goal i.dep
        → WantedFrom i a
    now_row : (row : GoalRow) → i.dep ≡ goal.dep → new.known.goal i.dep ≡ Some goal → want_in (Some goal) i ≡ Some row
        → has a (addrs row.make) ≡ true → WantedFrom i a

  pub wanted_from : (i : Inst) (a : ℕ) → holds_address new (Wanted i) a ≡ true → WantedFrom i a
  wanted_from i a is = by (wanted_make i)
    where
      by : WantedMake i → WantedFrom i a
      by (was_wanted apart same) =
          was_row apart (sym (λ l. has_addr a (option_map (λ want. want.make) (want_in (same l) i))) ∙ is) same
      by (now_wanted dep same) =
          let it : held.IsWanted new i a = held.is_wanted new i a is in
          let its : it.goal ≡ goal = grind (arith, same, it.current) in
          now_row it.row dep same (sym (λ l. want_in (Some (its l)) i) ∙ it.wanted) it.has

  pub row_all : (i : Inst) (row : GoalRow) (a : ℕ) → want_in (Some goal) i ≡ Some row → has a (addrs row.make) ≡ true
      → has a all ≡ true
  row_all i row a wanted there =
      any_left (λ b. b == a) (row_addrs goal) (slot_addrs goal) (row_has i goal.rows row a wanted there)

  pub slot_all : (s : ℕ) (make : Make) (a : ℕ) → nth s goal.slots ≡ Some make → has a (addrs make) ≡ true
      → has a all ≡ true
  slot_all s make a is there =
      any_right (λ b. b == a) (row_addrs goal) (slot_addrs goal) (slot_has s goal.slots make a is there)

  -- ---- who works

  pub old_works : (t : ℕ) → (o.task == t) ≡ false → works new t ≡ true → works m t ≡ true
  old_works t apart is = grind (arith, apart, is, number, eqb_tells o.task t)

  -- a task that works and was there is of another deployment
  pub other_dep : (t : ℕ) → works m t ≡ true → (m.known.task t).dep ≢ Some goal.dep
  other_dep t working same = no_other m.known o t well.may (grind (arith, working)) (same ∙ sym well.dep_is)

  -- a slot of the new task, or of another one
  pub data FreeFrom (t s a : ℕ) : Type 0 where
    was_slot : holds_address m (Free t s) a ≡ true → dep_of_task m.known t ≢ goal.dep
        → dep_of_task new.known t ≡ dep_of_task m.known t → FreeFrom t s a
    now_slot : (make : Make) → t ≡ o.task → nth s goal.slots ≡ Some make → has a (addrs make) ≡ true
        → dep_of_task new.known t ≡ goal.dep → FreeFrom t s a

  pub free_from : (t s a : ℕ) → holds_address new (Free t s) a ≡ true → FreeFrom t s a
  free_from t s a is = by (eqb_tells o.task t)
    where
      it : IsFree new t s a
      it = is_free new t s a is

      by : Tells eqb o.task t → FreeFrom t s a
      by (inl same) =
          let its : it.goal ≡ goal = grind (arith, same, it.has_goal, well.goal_is) in
          now_slot it.make (sym same.1) (sym (λ l. nth s (its l).slots) ∙ it.slot) it.has
          (dep_as new.known t goal.dep (grind (arith, same, well.dep_is)))
      by (inr apart) =
          let own : (m.known.task t).goal ≡ Some it.goal = grind (arith, apart, it.has_goal) in
          let working : works m t ≡ true = old_works t apart.0 it.works in
          let on : WorksOn m t it.goal = works_on m t it.goal well.holds working own in
          was_slot
          ((λ l. has_addr a (if working l then nth s (slots_of (own l)) else None))
          ∙ (λ l. has_addr a (it.slot l))
          ∙ it.has)
          (λ same. other_dep t working
          (on.dep ∙ ap Some (sym (dep_as m.known t it.goal.dep on.dep) ∙ same)))
          (dep_as new.known t it.goal.dep (grind (arith, apart, on.dep))
          ∙ sym (dep_as m.known t it.goal.dep on.dep))

  -- ---- no address twice, of what is wanted

  pub wanted_once : (i : Inst) → has_each_once new (Wanted i) ≡ true
  wanted_once i = by (wanted_make i)
    where
      by : WantedMake i → has_each_once new (Wanted i) ≡ true
      by (was_wanted apart same) =
          (λ l. where_any (λ it. are_distinct eqb (addrs it)) (option_map (λ want. want.make) (want_in (same l) i)))
          ∙ well.holds.addresses.each_once (Wanted i)
      by (now_wanted dep same) =
          (λ l. where_any (λ it. are_distinct eqb (addrs it)) (option_map (λ want. want.make) (want_in (same l) i)))
          ∙ of (want_in (Some goal) i) refl
        where
          of : (row : Option GoalRow) → want_in (Some goal) i ≡ row
              → where_any (λ it. are_distinct eqb (addrs it)) (option_map (λ want. want.make) row) ≡ true
          of (Some row) is = row_once i goal.rows row is parts.left
          of None is = refl

  pub free_once : (t s : ℕ) → has_each_once new (Free t s) ≡ true
  free_once t s = by (works new t) refl (eqb_tells o.task t)
    where
      by : (b : Bool) → works new t ≡ b → Tells eqb o.task t → has_each_once new (Free t s) ≡ true
      by true is (inl same) =
          let own : (new.known.task t).goal ≡ Some goal = grind (arith, same, well.goal_is) in
          (λ l. where_any (λ it. are_distinct eqb (addrs it)) (if is l then nth s (slots_of (own l)) else None))
          ∙ once_of (nth s goal.slots) (λ make slot. slot_once s goal.slots make slot parts.right)
      by true is (inr apart) =
          let own : (new.known.task t).goal ≡ (m.known.task t).goal = grind (arith, apart) in
          (λ l. where_any (λ it. are_distinct eqb (addrs it)) (if is l then nth s (slots_of (own l)) else None))
          ∙ sym (λ l. where_any (λ it. are_distinct eqb (addrs it))
          (if old_works t apart.0 is l then nth s (slots_of (m.known.task t).goal) else None))
          ∙ well.holds.addresses.each_once (Free t s)
      by false is tells =
          (λ l. where_any (λ it. are_distinct eqb (addrs it))
          (if is l then nth s (slots_of (new.known.task t).goal) else None))
