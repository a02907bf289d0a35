-- A task opens with a sound goal: the facts on addresses are kept.
use Rattle.std.proofs.Common.{◌≡◌, ℕ, Bool, true, false, ◌==◌, ◌&&◌, Some, List, ◌++◌, refl, ap, sym, ◌∙◌, inl, inr, arith}
use Rattle.std.specs.Prelude.{eqb, not, ◌||◌}
use Rattle.std.specs.List.{list_any}
use Rattle.std.specs.Str.{bytes_eq}
use Rattle.std.proofs.lemmas.Bool.Decides.{eqb_tells}
use Rattle.bosh_base.specs.declared.entry.Entry.TheVariants as entries
use Rattle.bosh_base.specs.declared.entry.TaskOpen.{TaskOpen}
use Rattle.bosh_base.specs.declared.goal.Goal.{Goal}
use Rattle.bosh_base.specs.declared.inst.Inst.{Inst}
use Rattle.laws_facts.proofs.ListLemmas.{Tells, bytes_tells}
use Rattle.laws_facts.specs.Addresses.{AddressFacts, Holder, Recorded, Machine, Wanted, Free, dep_of_holder, has_each_once, holds_address, is_of_one_deployment, is_one_recorded, is_one_wanted, may_take_over}
use Rattle.laws_facts.specs.Owners.{works}
use Rattle.bosh_history.specs.Goals.{is_in}
use Rattle.bosh_history.specs.Held.{held_by_machines}
use Rattle.bosh_history.specs.Known.{Slot}
use Rattle.bosh_history.specs.Moments.{Moment, noting}
use Rattle.bosh_history.specs.Sound.{has_addr, is_held, is_used, row_addrs, slot_addrs}
use Rattle.bosh_rows.proofs.SameLemmas.{same_inst_tells}
use Rattle.bosh_rows.specs.Same.{same_inst}
use Rattle.laws_addresses.proofs.FreeLemmas.{IsMachine, machine_recorded, row_recorded}
use Rattle.laws_addresses.proofs.HeldLemmas as held
use Rattle.laws_addresses.proofs.HeldLemmas.{held_of, dep_as, machine_dep, of_this, slot_held}
use Rattle.laws_addresses.proofs.ListLemmas.{any_in, has, row_has, rows_one, slot_has, slots_one}
use Rattle.laws_addresses.proofs.OpenLemmas.{free_once, wanted_once, FreeFrom, OpensWell, WantedFrom, free_elsewhere, free_from, leaves, now_row, now_slot, number, old_works, other_dep, parts, row_all, slot_all, unused, wanted_from, was_row, was_slot}

module _ (m : Moment) (o : TaskOpen) (goal : Goal) (well : OpensWell m o goal) where
  abbrev pub new : Moment
  new = noting m (entries.TaskOpen o)

  abbrev pub all : List ℕ
  all = row_addrs goal ++ slot_addrs goal

  -- ---- no address twice

  once_opened : (x : Holder) → has_each_once new x ≡ true
  once_opened (Recorded i) = well.holds.addresses.each_once (Recorded i)
  once_opened (Machine t s) = well.holds.addresses.each_once (Machine t s)
  once_opened (Wanted i) = wanted_once m o goal well i
  once_opened (Free t s) = free_once m o goal well t s

  -- ---- one deployment

  -- it held the address, or it is of the goal
  pub data From (x : Holder) (a : ℕ) : Type 0 where
    held_before : holds_address m x a ≡ true → dep_of_holder new.known x ≡ dep_of_holder m.known x → From x a
    held_now : has a all ≡ true → dep_of_holder new.known x ≡ goal.dep → From x a

  from : (x : Holder) (a : ℕ) → holds_address new x a ≡ true → From x a
  from (Recorded i) a is = held_before is refl
  from (Machine t s) a is = held_before is refl
  from (Wanted i) a is = by (wanted_from m o goal well i a is)
    where
      by : WantedFrom m o goal well i a → From (Wanted i) a
      by (was_row apart here same) = held_before here refl
      by (now_row row dep same wanted there) = held_now (row_all m o goal well i row a wanted there) dep
  from (Free t s) a is = by (free_from m o goal well t s a is)
    where
      by : FreeFrom m o goal well t s a → From (Free t s) a
      by (was_slot here apart same) = held_before here same
      by (now_slot make same slot there dep) = held_now (slot_all m o goal well s make a slot there) dep

  deployment_opened : (a : ℕ) (x y : Holder) → holds_address new x a ≡ true → holds_address new y a ≡ true
      → is_of_one_deployment new.known x y ≡ true
  deployment_opened a x y here there = by (from x a here) (from y a there)
    where
      by : From x a → From y a → is_of_one_deployment new.known x y ≡ true
      by (held_before one dep) (held_before two also) =
          (λ i. bytes_eq (dep i) (also i)) ∙ well.holds.addresses.one_deployment a x y one two
      by (held_before one dep) (held_now two also) =
          held.same_dep (dep_of_holder new.known x) (dep_of_holder new.known y)
          (dep ∙ of_this m x a goal.dep well.holds one (free_elsewhere m o goal well a two) ∙ sym also)
      by (held_now one dep) (held_before two also) =
          held.same_dep (dep_of_holder new.known x) (dep_of_holder new.known y)
          (dep ∙ sym (also ∙ of_this m y a goal.dep well.holds two (free_elsewhere m o goal well a one)))
      by (held_now one dep) (held_now two also) =
          held.same_dep (dep_of_holder new.known x) (dep_of_holder new.known y) (dep ∙ sym also)

  -- ---- one recorded

  recorded_opened : (a : ℕ) (x y : Holder) → holds_address new x a ≡ true → holds_address new y a ≡ true
      → is_one_recorded x y ≡ true
  recorded_opened a (Recorded i) (Recorded j) here there =
      well.holds.addresses.one_recorded a (Recorded i) (Recorded j) here there
  recorded_opened a (Recorded i) (Machine t s) here there =
      well.holds.addresses.one_recorded a (Recorded i) (Machine t s) here there
  recorded_opened a (Recorded i) (Wanted j) here there = refl
  recorded_opened a (Recorded i) (Free t s) here there = refl
  recorded_opened a (Machine t s) (Recorded i) here there =
      well.holds.addresses.one_recorded a (Machine t s) (Recorded i) here there
  recorded_opened a (Machine t s) (Machine other slot) here there =
      well.holds.addresses.one_recorded a (Machine t s) (Machine other slot) here there
  recorded_opened a (Machine t s) (Wanted j) here there = refl
  recorded_opened a (Machine t s) (Free other slot) here there = refl
  recorded_opened a (Wanted i) y here there = refl
  recorded_opened a (Free t s) y here there = refl

  -- ---- one wanted

  two_rows : (a : ℕ) (i j : Inst) → WantedFrom m o goal well i a → WantedFrom m o goal well j a → same_inst i j ≡ true
  two_rows a i j (was_row apart here same) (was_row other there too) =
      well.holds.addresses.one_wanted a (Wanted i) (Wanted j) here there
  two_rows a i j (was_row apart here same) (now_row row dep same_goal wanted there) =
      absurd (apart (of_this m (Wanted i) a goal.dep well.holds here (free_elsewhere m o goal well a
      (row_all m o goal well j row a wanted there))))
  two_rows a i j (now_row row dep same_goal wanted there) (was_row apart here same) =
      absurd (apart (of_this m (Wanted j) a goal.dep well.holds here (free_elsewhere m o goal well a
      (row_all m o goal well i row a wanted there))))
  two_rows a i j (now_row row dep same_goal wanted there) (now_row other dep_too goal_too wanted_too there_too) =
      rows_one i j goal.rows row other a wanted wanted_too (parts m o goal well).left there there_too

  row_and_free : (a : ℕ) (i : Inst) (t s : ℕ) → WantedFrom m o goal well i a → FreeFrom m o goal well t s a
      → false ≡ true
  row_and_free a i t s (was_row apart here same) (was_slot there other too) =
      well.holds.addresses.one_wanted a (Wanted i) (Free t s) here there
  row_and_free a i t s (was_row apart here same) (now_slot make task slot there dep) =
      absurd (apart (of_this m (Wanted i) a goal.dep well.holds here (free_elsewhere m o goal well a
      (slot_all m o goal well s make a slot there))))
  row_and_free a i t s (now_row row dep same_goal wanted there) (was_slot here apart same) =
      absurd (apart (of_this m (Free t s) a goal.dep well.holds here (free_elsewhere m o goal well a
      (row_all m o goal well i row a wanted there))))
  row_and_free a i t s (now_row row dep same_goal wanted there) (now_slot make task slot there_too dep_too) =
      sym ((parts m o goal well).none a (row_has i goal.rows row a wanted there))
      ∙ slot_has s goal.slots make a slot there_too

  two_slots : (a t s other slot : ℕ) → FreeFrom m o goal well t s a → FreeFrom m o goal well other slot a →
      (t == other && s == slot) ≡ true
  two_slots a t s other slot (was_slot here apart same) (was_slot there apart_too too) =
      well.holds.addresses.one_wanted a (Free t s) (Free other slot) here there
  two_slots a t s other slot (was_slot here apart same) (now_slot make task is there dep) =
      absurd (apart (of_this m (Free t s) a goal.dep well.holds here (free_elsewhere m o goal well a
      (slot_all m o goal well slot make a is there))))
  two_slots a t s other slot (now_slot make task is there dep) (was_slot here apart same) =
      absurd (apart (of_this m (Free other slot) a goal.dep well.holds here (free_elsewhere m o goal well a
      (slot_all m o goal well s make a is there))))
  two_slots a t s other slot (now_slot make task is there dep) (now_slot more task_too is_too there_too dep_too) =
      grind (
        arith,
        eqb_tells t other,
        eqb_tells s slot,
        task ∙ sym task_too,
        slots_one s slot goal.slots make more a is is_too (parts m o goal well).right there there_too,
      )

  wanted_opened : (a : ℕ) (x y : Holder) → holds_address new x a ≡ true → holds_address new y a ≡ true
      → is_one_wanted x y ≡ true
  wanted_opened a (Wanted i) (Wanted j) here there = two_rows a i j (wanted_from m o goal well i a here)
      (wanted_from m o goal well j a there)
  wanted_opened a (Wanted i) (Free t s) here there = row_and_free a i t s (wanted_from m o goal well i a here)
      (free_from m o goal well t s a there)
  wanted_opened a (Free t s) (Wanted i) here there = row_and_free a i t s
      (wanted_from m o goal well i a there) (free_from m o goal well t s a here)
  wanted_opened a (Free t s) (Free other slot) here there =
      two_slots a t s other slot (free_from m o goal well t s a here) (free_from m o goal well other slot a there)
  wanted_opened a (Wanted i) (Recorded j) here there = refl
  wanted_opened a (Wanted i) (Machine t s) here there = refl
  wanted_opened a (Free t s) (Recorded j) here there = refl
  wanted_opened a (Free t s) (Machine other slot) here there = refl
  wanted_opened a (Recorded i) y here there = refl
  wanted_opened a (Machine t s) y here there = refl

  -- ---- what is taken over

  row_takes : (a : ℕ) (i j : Inst) → holds_address m (Recorded i) a ≡ true → WantedFrom m o goal well j a
      → (same_inst i j || not (is_in (new.known.goal i.dep) i)) ≡ true
  row_takes a i j here (was_row apart there same) =
      (λ l. same_inst i j || not (is_in (kept l) i)) ∙ well.holds.addresses.take_over a (Recorded i)
      (Wanted j) here there
    where
      dep : i.dep ≡ j.dep
      dep = grind (
        arith,
        well.holds.addresses.one_deployment a (Recorded i)
            (Wanted j) here there,
        bytes_tells i.dep j.dep,
      )

      kept : new.known.goal i.dep ≡ m.known.goal i.dep
      kept = ap new.known.goal dep ∙ same ∙ sym (ap m.known.goal dep)
  row_takes a i j here (now_row row dep same wanted there) =
      (λ l. same_inst i j || not (is_in (now l) i))
      ∙ by (same_inst_tells i j) (same_inst_tells j i) (is_in (Some goal) i) refl
    where
      now : new.known.goal i.dep ≡ Some goal
      now =
          ap new.known.goal
          (of_this m (Recorded i) a goal.dep well.holds here (free_elsewhere m o goal well a
          (row_all m o goal well j row a wanted there)) ∙ sym dep)
          ∙ same

      by : Tells same_inst i j → Tells same_inst j i → (b : Bool) → is_in (Some goal) i ≡ b
          → (same_inst i j || not (is_in (Some goal) i)) ≡ true
      by (inl equal) flipped b is = grind (arith, equal)
      by (inr other) flipped false is = grind (arith, is)
      by (inr other) (inl equal) true is = absurd (other.1 (sym equal.1))
      by (inr other) (inr apart) true is = absurd (grind (
        arith,
        leaves m o goal well i j row a wanted there
            here apart.0 is,
      ))

  row_used : (a : ℕ) (i : Inst) → holds_address m (Recorded i) a ≡ true → is_used m.known a ≡ true
  row_used a i here =
      let there : list_any (λ i. has_addr a (m.known.row i).make) m.known.instances ≡ true =
      any_in same_inst same_inst_tells (λ i. has_addr a (m.known.row i).make) i m.known.instances
      (row_recorded m i a well.holds here) here in
      grind (arith, there)

  slot_used : (a t s : ℕ) → holds_address m (Machine t s) a ≡ true → is_used m.known a ≡ true
  slot_used a t s here =
      let there : is_held (held_by_machines m.known) a ≡ true =
      held_of m.known (dep_of_holder m.known (Machine t s)) a (held_by_machines m.known)
      (slot_held m t s a well.holds here) in
      grind (arith, there)

  row_no_slot : (a : ℕ) (i : Inst) (t s : ℕ) → holds_address m (Recorded i) a ≡ true
      → FreeFrom m o goal well t s a → false ≡ true
  row_no_slot a i t s here (was_slot there apart same) = well.holds.addresses.take_over a (Recorded i)
      (Free t s) here there
  row_no_slot a i t s here (now_slot make task slot there dep) =
      sym (unused m o goal well a (slot_has s goal.slots make a slot there)) ∙ row_used a i here

  slot_takes : (a t s other slot : ℕ) → holds_address m (Machine t s) a ≡ true → FreeFrom m o goal well other slot a
      → (t == other && s == slot) ≡ true
  slot_takes a t s other slot here (was_slot there apart same) =
      well.holds.addresses.take_over a (Machine t s) (Free other slot) here there
  slot_takes a t s other slot here (now_slot make task is there dep) =
      absurd (grind (
        arith,
        sym (unused m o goal well a (slot_has slot goal.slots make a is there))
            ∙ slot_used a t s here,
      ))

  -- a machine is of a task that was there
  machine_old : (a t s : ℕ) → holds_address m (Machine t s) a ≡ true → works new t ≡ true → works m t ≡ true
  machine_old a t s here working = by (machine_recorded m t s a well.holds here) (eqb_tells o.task t)
    where
      by : (it : Slot) × IsMachine m t s it a → Tells eqb o.task t → works m t ≡ true
      by (it, found) (inl same) = absurd (grind (
        arith,
        well.holds.numbers.of_tasks t s,
        found.slot,
        same,
        number m o goal well,
      ))
      by (it, found) (inr apart) = old_works m o goal well t apart.0 working

  slot_rests : (a t s : ℕ) (j : Inst) → holds_address m (Machine t s) a ≡ true → WantedFrom m o goal well j a
      → not (works new t) ≡ true
  slot_rests a t s j here wanted = by (works new t) refl wanted
    where
      by : (b : Bool) → works new t ≡ b → WantedFrom m o goal well j a → not (works new t) ≡ true
      by false is from = ap not is
      by true is (was_row apart there same) =
          absurd (grind (
            arith,
            well.holds.addresses.take_over a (Machine t s) (Wanted j) here there,
            machine_old a t s here is,
          ))
      by true is (now_row row dep same wanted there) = absurd (of (machine_recorded m t s a well.holds here))
        where
          of : (it : Slot) × IsMachine m t s it a → ⊥
          of (it, found) =
              other_dep m o goal well t (machine_old a t s here is)
              (machine_dep m t s it well.holds found.slot
              ∙ ap Some (sym (dep_as m.known t it.dep (machine_dep m t s it well.holds found.slot))
              ∙ dep_as m.known t it.dep (machine_dep m t s it well.holds found.slot)
              ∙ sym (grind (arith, found.slot))
              ∙ of_this m (Machine t s) a goal.dep well.holds here (free_elsewhere m o goal well a
              (row_all m o goal well j row a wanted there))))

  take_opened : (a : ℕ) (x y : Holder) → holds_address new x a ≡ true → holds_address new y a ≡ true
      → may_take_over new x y ≡ true
  take_opened a (Recorded i) (Wanted j) here there = row_takes a i j here (wanted_from m o goal well j a there)
  take_opened a (Recorded i) (Free t s) here there = row_no_slot a i t s here (free_from m o goal well t s a there)
  take_opened a (Machine t s) (Free other slot) here there = slot_takes a t s other slot here
      (free_from m o goal well other slot a there)
  take_opened a (Machine t s) (Wanted j) here there = slot_rests a t s j here (wanted_from m o goal well j a there)
  take_opened a (Recorded i) (Recorded j) here there = refl
  take_opened a (Recorded i) (Machine t s) here there = refl
  take_opened a (Machine t s) (Recorded j) here there = refl
  take_opened a (Machine t s) (Machine other slot) here there = refl
  take_opened a (Wanted i) y here there = refl
  take_opened a (Free t s) y here there = refl

  pub opened_goal : AddressFacts (noting m (entries.TaskOpen o))
  opened_goal = record {
    each_once = once_opened;
    one_deployment = deployment_opened;
    one_recorded = recorded_opened;
    one_wanted = wanted_opened;
    take_over = take_opened;
  }
