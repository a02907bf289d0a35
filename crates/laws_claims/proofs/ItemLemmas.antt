-- An item that is not held up gives an entry, or another of its group does.
use Rattle.std.proofs.Common.{◌≡◌, ◌∙◌, ℕ, ◌+◌, Bool, true, false, ◌&&◌, ◌||◌, not, List, [], ◌∷◌, Option, Some, None}
use Rattle.std.proofs.Common.{ap, refl, sym, subst, arith, inl, inr}
use Rattle.std.specs.Prelude.{◌==◌, eqb, is_some, if◌then◌else◌}
use Rattle.std.specs.List.{list_all}
use Rattle.std.specs.Option.{option_map}
use Rattle.std.proofs.lemmas.Bool.{and_from, and_parts, eqb-true, false≢true, not-true}
use Rattle.bosh_base.specs.declared.call.Call.{Call}
use Rattle.bosh_base.specs.declared.entry.Entry.{Entry}
use Rattle.bosh_base.specs.declared.inst.Inst.{Inst}
use Rattle.bosh_base.specs.declared.owner.Owner.{Owner}
use Rattle.bosh_base.specs.declared.owner.Owner.TheVariants.{Instance, Compile, Disk}
use Rattle.bosh_base.specs.declared.snapshot.Orphan.{Orphan}
use Rattle.bosh_history.specs.Claim.{by_items, first_item, has_to_begin, is_passed, item, or_next}
use Rattle.bosh_history.specs.Goals.{is_waiting, may_begin}
use Rattle.bosh_history.specs.Items.{candidates, is_finished, is_item, is_leftover, is_slot_left, is_to_change}
use Rattle.bosh_history.specs.Items.{is_to_go}
use Rattle.bosh_history.specs.Items.{is_to_ping, items, phase_of, stage_of}
use Rattle.bosh_history.specs.Known.{Task, plan_in}
use Rattle.bosh_history.specs.Moments.{Moment}
use Rattle.bosh_history.specs.Steps.{call_now, disk_call, has_no_call, is_idle, own_slot, sweep_call}
use Rattle.bosh_history.specs.Words.{holds, is_among}
use Rattle.bosh_rows.proofs.SameLemmas.{itself}
use Rattle.bosh_rows.specs.Same.{same_inst}
use Rattle.laws_claims.proofs.Premises.{CanGoOn}
use Rattle.laws_items.specs.Lists.{IsIn}
use Rattle.laws_claims.specs.Quiet.{are_held_up, is_given, is_held_up, is_in_the_making, key_of}
use Rattle.laws_claims.proofs.FirstLemmas.{Gives, entry_of, first_gives}
use Rattle.laws_claims.proofs.IdleLemmas.{idle_item}
use Rattle.laws_items.proofs.ListLemmas.{Meets, in_filtered, is_among_in, some_fails}
use Rattle.laws_claims.proofs.ListLemmas.{of_filtered}
use Rattle.laws_items.proofs.PhaseLemmas.{IsLeft, among_inst, is_item_at, of_item, tried_change}
use Rattle.laws_claims.proofs.PhaseLemmas.{calm}
use Rattle.laws_claims.proofs.SlotLemmas.{held_up_has_none, left_has_call, own_has_call}
use Rattle.laws_claims.proofs.StageLemmas.{MayGoOn, one_goes_on, plan_of}

-- an owner other than an instance gives an entry where it has a call
machine_gives : (m : Moment) (t worker task s : ℕ) (call : Option Call) → is_some call ≡ true
    → is_some (item m t worker (Compile task s) call) ≡ true
machine_gives m t worker task s (Some call) is = refl
machine_gives m t worker task s None is = absurd (false≢true is)

abbrev machine_entry : (m : Moment) (t worker task s : ℕ) (call : Option Call) → Option Entry
machine_entry m t worker task s call = item m t worker (Compile task s) call

disk_gives : (m : Moment) (t worker d : ℕ) (orphan : Option Orphan) → is_some orphan ≡ true
    → is_some (item m t worker (Disk d) (option_map (disk_call d) orphan)) ≡ true
disk_gives m t worker d (Some orphan) is = refl
disk_gives m t worker d None is = absurd (false≢true is)

module _ (m : Moment) (t worker : ℕ) (can : CanGoOn m t) (good : (m.known.task t).failed ≡ None)
    (own_rest : has_no_call m t ≡ true) where
  abbrev T : Task
  T = m.known.task t

  -- an item that gives an entry
  record GivenBy : Type 0 where
    owner : Owner
    is_in : IsIn owner (items m.known t)
    gives : Gives m t worker owner

  idle : (o : Owner) → is_item m.known t o ≡ true → is_idle m o ≡ true
  idle o item = idle_item m t can.calls_are_own own_rest o item

  -- ---- instances

  unpassed : (i : Inst) → is_item m.known t (Instance i) ≡ true
      → (has_to_begin T (Instance i) && not (may_begin T i)) ≡ false → is_passed m t (Instance i) ≡ false
  unpassed i item goes_on =
      (λ j. not (idle (Instance i) item j) || (has_to_begin T (Instance i) && not (may_begin T i))) ∙ goes_on

  instance_gives : (i : Inst) → IsIn (Instance i) (items m.known t)
      → (has_to_begin T (Instance i) && not (may_begin T i)) ≡ false → GivenBy
  instance_gives i is goes_on = record {
    owner = Instance i;
    is_in = is;
    gives = record {
      unpassed =
          unpassed i (of_filtered (is_item m.known t) (Instance i) (candidates m.known t) is).1 goes_on;
      entry = refl;
    };
  }

  -- of a stage another instance of the group may go on
  stage_gives : (i : Inst) (p : ℕ) → IsLeft m.known t (Instance i) p → is_to_ping T i ≡ false → is_to_go T i ≡ false
      → is_to_change T i ≡ true → GivenBy
  stage_gives i p left asked leaves changes =
      let both : (is_among same_inst i T.changed ≡ true) × (not (is_finished (T.upd i)) ≡ true) =
      and_parts (is_among same_inst i T.changed) (not (is_finished (T.upd i))) changes in
      let stage : 4 + stage_of (plan_in T.goal i) ≡ p =
      (let e : Some (4 + stage_of (plan_in T.goal i)) ≡ Some p = sym (phase_at i asked leaves changes)
      ∙ left.phase in cc) in
      let one : MayGoOn T i.group =
      one_goes_on T i (among_inst m.known t i T.changed both.0) (not-true (is_finished (T.upd i)) both.1)
      (ap is_some good)
      (can.groups_have_room i both.0) in
      let rests : (is_to_ping T one.i ≡ false) × (is_to_go T one.i ≡ false) =
      calm m.known t p one.i (omega arith) left.present one.is_changed in
      let change : is_to_change T one.i ≡ true =
      and_from (is_among same_inst one.i T.changed) (not (is_finished (T.upd one.i)))
      (is_among_in same_inst one.i T.changed (itself one.i) one.is_changed) (ap not one.is_left) in
      let at : phase_of m.known t (Instance one.i) ≡ Some p =
      phase_at one.i rests.0 rests.1 change
      ∙ ap (λ group. Some (4 + stage_of (plan_of T.goal group))) one.group_is ∙ ap Some stage in
      instance_gives one.i
      (in_filtered (is_item m.known t) (Instance one.i) (candidates m.known t)
      (tried_change m.known t one.i one.is_changed)
      (is_item_at m.known t (Instance one.i) p at left.present))
      ((λ j. (not (rests.0 j) && (not (rests.1 j) && is_waiting (T.upd one.i))) && not (may_begin T one.i))
      ∙ one.goes_on)
    where
      phase_at : (i : Inst) → is_to_ping T i ≡ false → is_to_go T i ≡ false → is_to_change T i ≡ true
          → phase_of m.known t (Instance i) ≡ Some (4 + stage_of (plan_in T.goal i))
      phase_at i asked leaves changes =
          λ j. if asked j then Some 0 else (if leaves j then Some 3 else (if changes j
          then Some (4 + stage_of (plan_in T.goal i)) else None))

  -- ---- all items

  item_gives : (o : Owner) → IsIn o (items m.known t) → is_held_up m t o ≡ false → GivenBy
  item_gives (Instance i) is free =
      by (is_to_ping T i) (is_to_go T i) (is_to_change T i) refl refl refl
    where
      item : is_item m.known t (Instance i) ≡ true
      item = (of_filtered (is_item m.known t) (Instance i) (candidates m.known t) is).1

      left : (p : ℕ) × IsLeft m.known t (Instance i) p
      left = of_item m.known t (Instance i) item

      by : (ping go change : Bool) → is_to_ping T i ≡ ping → is_to_go T i ≡ go → is_to_change T i ≡ change → GivenBy
      by true go change asked leaves changes =
          instance_gives i is
          (λ j. (not (asked j) && (not (is_to_go T i) && is_waiting (T.upd i))) && not (may_begin T i))
      by false true change asked leaves changes =
          instance_gives i is
          (λ j. (not (asked j) && (not (leaves j) && is_waiting (T.upd i))) && not (may_begin T i))
      by false false true asked leaves changes = stage_gives i left.0 left.1 asked leaves changes
      by false false false asked leaves changes =
          absurd
          (let none : phase_of m.known t (Instance i) ≡ None =
          λ j. if asked j then Some 0 else (if leaves j then Some 3 else (if changes j
          then Some (4 + stage_of (plan_in T.goal i)) else None)) in
          let some : phase_of m.known t (Instance i) ≡ Some left.0 = left.1.phase in cc)
  item_gives (Compile task s) is free =
      by (task == t) refl (is_slot_left m.known t s)
      (is_leftover m.known t (record { task = task; slot = s })) refl refl
    where
      item : is_item m.known t (Compile task s) ≡ true
      item = (of_filtered (is_item m.known t) (Compile task s) (candidates m.known t) is).1

      left : (p : ℕ) × IsLeft m.known t (Compile task s) p
      left = of_item m.known t (Compile task s) item

      given : is_some (call_now m t (Compile task s)) ≡ true → GivenBy
      given has = record {
        owner = Compile task s;
        is_in = is;
        gives = record {
          unpassed = ap not (idle (Compile task s) item);
          entry = machine_gives m t worker task s (call_now m t (Compile task s)) has;
        };
      }

      no_phase : phase_of m.known t (Compile task s) ≡ None → GivenBy
      no_phase none = absurd (let some : phase_of m.known t (Compile task s) ≡ Some left.0 = left.1.phase in cc)

      by : (own : Bool) → (task == t) ≡ own → (left over : Bool) → is_slot_left m.known t s ≡ left
          → is_leftover m.known t (record { task = task; slot = s }) ≡ over → GivenBy
      by true own true over left leftover =
          let same : task ≡ t = eqb-true task t own in
          let rests : holds (is_in_the_making m) (key_of m t s) ≡ false =
          (λ j. sym own j && holds (is_in_the_making m) (key_of m t s)) ∙ free in
          given
          ((λ j. is_some (if own j then own_slot m t s (m.known.slot task s) else sweep_call (m.known.slot task s)))
          ∙ (λ j. is_some (own_slot m t s (m.known.slot (same j) s)))
          ∙ own_has_call m t can good s rests
          (subst (λ (n : ℕ). is_idle m (Compile n s) ≡ true) same (idle (Compile task s) item)) left)
      by true own false over left leftover =
          no_phase
          (λ j. if own j then (if left j then Some 2 else None)
          else (if is_leftover m.known t (record { task = task; slot = s }) then Some 1 else None))
      by false own left true is leftover =
          given
          ((λ j. is_some (if own j then own_slot m t s (m.known.slot task s) else sweep_call (m.known.slot task s)))
          ∙ left_has_call m t can (record { task = task; slot = s }) leftover)
      by false own left false is leftover =
          no_phase
          (λ j. if own j then (if is_slot_left m.known t s then Some 2 else None)
          else (if leftover j then Some 1 else None))
  item_gives (Disk d) is free = by (is_among eqb d T.disks && is_some (m.known.orphan d)) refl
    where
      item : is_item m.known t (Disk d) ≡ true
      item = (of_filtered (is_item m.known t) (Disk d) (candidates m.known t) is).1

      left : (p : ℕ) × IsLeft m.known t (Disk d) p
      left = of_item m.known t (Disk d) item

      given : is_some (m.known.orphan d) ≡ true → GivenBy
      given has = record {
        owner = Disk d;
        is_in = is;
        gives = record {
          unpassed = ap not (idle (Disk d) item);
          entry = disk_gives m t worker d (m.known.orphan d) has;
        };
      }

      by : (b : Bool) → (is_among eqb d T.disks && is_some (m.known.orphan d)) ≡ b → GivenBy
      by true is = given (and_parts (is_among eqb d T.disks) (is_some (m.known.orphan d)) is).1
      by false is =
          absurd
          (let none : phase_of m.known t (Disk d) ≡ None = λ j. if is j then Some 0 else None in
          let some : phase_of m.known t (Disk d) ≡ Some left.0 = left.1.phase in cc)

  -- .. and where all are held up none is given
  held_up_waits : (o : Owner) → IsIn o (items m.known t) → is_held_up m t o ≡ true → entry_of m t worker o ≡ None
  held_up_waits (Instance i) is held = absurd (false≢true held)
  held_up_waits (Disk d) is held = absurd (false≢true held)
  held_up_waits (Compile task s) is held =
      let (own, busy) = and_parts (task == t) _ held in
      let same : task ≡ t = eqb-true task t own in
      let item : is_item m.known t (Compile task s) ≡ true =
      (of_filtered (is_item m.known t) (Compile task s) (candidates m.known t) is).1 in
      let none : own_slot m t s (m.known.slot t s) ≡ None =
      held_up_has_none m t can good s busy
      (subst (λ (n : ℕ). is_idle m (Compile n s) ≡ true) same (idle (Compile task s) item)) in
      (λ j. machine_entry m t worker task s
      (if own j then own_slot m t s (m.known.slot task s) else sweep_call (m.known.slot task s)))
      ∙ (λ j. machine_entry m t worker task s (own_slot m t s (m.known.slot (same j) s)))
      ∙ ap (machine_entry m t worker task s) none

  none_given : (owners : List Owner) → ((o : Owner) → IsIn o owners → IsIn o (items m.known t))
      → list_all (is_held_up m t) owners ≡ true → is_given (first_item m t worker owners) ≡ false
  none_given [] among held = refl
  none_given (o ∷ owners) among held =
      let (here, more) = and_parts (is_held_up m t o) (list_all (is_held_up m t) owners) held in
      passes (is_passed m t o) (entry_of m t worker o) (held_up_waits o (among o (inl refl)) here)
      (none_given owners (λ p is. among p (inr is)) more)
    where
      passes : (b : Bool) (entry : Option Entry) → entry ≡ None → is_given (first_item m t worker owners) ≡ false
          → is_given (if b then first_item m t worker owners else or_next (first_item m t worker owners) entry) ≡ false
      passes true entry none rest = rest
      passes false None none rest = rest
      passes false (Some entry) none rest = absurd cc

  -- a claim is given unless all that is left is held up
  pub items_give : (owners : List Owner) → items m.known t ≡ owners
      → is_given (by_items m t worker owners) ≡ not (are_held_up m t owners)
  items_give [] is = refl
  items_give (o ∷ owners) is = by (list_all (is_held_up m t) (o ∷ owners)) refl
    where
      among : (p : Owner) → IsIn p (o ∷ owners) → IsIn p (items m.known t)
      among p here = subst (λ (xs : List Owner). IsIn p xs) (sym is) here

      by : (b : Bool) → list_all (is_held_up m t) (o ∷ owners) ≡ b
          → is_given (first_item m t worker (o ∷ owners)) ≡ not b
      by true all = none_given (o ∷ owners) among all
      by false some =
          let free : Meets (λ p. not (is_held_up m t p)) (o ∷ owners) = some_fails (is_held_up m t) (o ∷ owners) some in
          let first : GivenBy =
          item_gives free.x (among free.x free.is_in) (not-true (is_held_up m t free.x) free.meets) in
          first_gives m t worker first.owner (o ∷ owners)
          (subst (λ (xs : List Owner). IsIn first.owner xs) is first.is_in) first.gives
