-- A task that is over may end: nothing is left of it, or a call of it failed and none is open.
use Rattle.std.proofs.Common.{◌≡◌, ◌∙◌, ℕ, ◌+◌, Bool, true, false, ◌&&◌, ◌||◌, not, List, [], ◌∷◌, length, Option}
use Rattle.std.proofs.Common.{Some, None}
use Rattle.std.proofs.Common.{ap, refl, sym, subst}
use Rattle.std.specs.Prelude.{◌==◌, eqb, is_some, nat_lt, if◌then◌else◌}
use Rattle.std.specs.List.{list_all, list_any}
use Rattle.std.specs.Option.{option_and_then, option_eq}
use Rattle.std.specs.Str.{bytes_eq}
use Rattle.std.proofs.lemmas.Bool.{and_from, and_parts, eq-eqb, eqb-true, false≢true, ltb-true, not-true, or_right}
use Rattle.bosh_base.specs.Cloud.{numbers_to}
use Rattle.bosh_base.specs.declared.entry.Entry.{Entry}
use Rattle.bosh_base.specs.declared.entry.Entry.TheVariants as entries
use Rattle.bosh_base.specs.declared.failure.Failure.{Failure}
use Rattle.bosh_base.specs.declared.failure.Failure.TheVariants as failures
use Rattle.bosh_base.specs.declared.inst.Inst.{Inst}
use Rattle.bosh_base.specs.declared.moves.Move.TheVariants as moves
use Rattle.bosh_base.specs.declared.owner.Owner.{Owner}
use Rattle.bosh_base.specs.declared.owner.Owner.TheVariants.{Instance, Compile, Disk}
use Rattle.bosh_compile.specs.Readiness.{same_key}
use Rattle.bosh_history.specs.Claim.{Over, Waits, by_items, claim_at}
use Rattle.bosh_history.specs.Items.{is_finished, is_in_deployment, is_leftover, is_slot_left, is_to_change, is_to_go, is_to_ping}
use Rattle.bosh_history.specs.Items.{candidates, items, phase_of, slots_of, stage_of}
use Rattle.bosh_history.specs.Known.{Slot, SlotName, Task, plan_in}
use Rattle.bosh_history.specs.Moments.{Moment, OpenCall}
use Rattle.bosh_history.specs.Notes.{EndsTask, FailsTask, IsCause, Outside}
use Rattle.bosh_history.specs.Permitted.{IsPermitted}
use Rattle.bosh_history.specs.Recovered.{is_interruption, may_follow}
use Rattle.bosh_history.specs.Slots.{is_compiled, is_ready, is_taken, keys_of, next_key}
use Rattle.bosh_history.specs.Steps.{has_no_call}
use Rattle.bosh_history.specs.Words.{holds, is_among}
use Rattle.bosh_rows.proofs.SameLemmas.{itself}
use Rattle.bosh_rows.specs.Same.{same_inst}
use Rattle.laws_claims.proofs.Premises.{CanEnd}
use Rattle.laws_items.specs.Lists.{IsIn}
use Rattle.laws_claims.proofs.FirstLemmas.{not_over}
use Rattle.laws_items.proofs.KeyLemmas.{is_next, one_is_next}
use Rattle.laws_items.proofs.ListLemmas.{Meets, all_from, found, is_among_in, none_from, not_false}
use Rattle.laws_claims.proofs.PhaseLemmas.{none_left}
use Rattle.laws_items.proofs.PhaseLemmas.{tried_change, tried_disk, tried_gone, tried_left}
use Rattle.laws_items.proofs.PhaseLemmas.{tried_ping, tried_slot}

-- ---- nothing is left

and_false : (a b : Bool) → (a && b) ≡ false → a ≡ true → b ≡ false
and_false true b is here = is
and_false false b is here = absurd (false≢true here)

nothing_more : (a b : Bool) → (a && (b && false)) ≡ false
nothing_more true true = refl
nothing_more true false = refl
nothing_more false b = refl

abbrev phase_if : ℕ → Bool → Option ℕ
phase_if phase left = if left then Some phase else None

none_if : (phase : ℕ) (left : Bool) → phase_if phase left ≡ None → left ≡ false
none_if phase true is = absurd cc
none_if phase false is = refl

module _ (m : Moment) (t : ℕ) (can : CanEnd m t) (none : items m.known t ≡ []) where
  abbrev T : Task
  T = m.known.task t

  nothing : (o : Owner) → IsIn o (candidates m.known t) → phase_of m.known t o ≡ None
  nothing o is = none_left m.known t none o is

  not_asked : (i : Inst) → IsIn i T.to_ping → is_to_ping T i ≡ false
  not_asked i is = by (is_to_ping T i) refl
    where
      by : (b : Bool) → is_to_ping T i ≡ b → b ≡ false
      by false asked = refl
      by true asked =
          let some : phase_of m.known t (Instance i) ≡ Some 0 =
          (λ j. if asked j then Some 0 else (if is_to_go T i then Some 3 else (if is_to_change T i
          then Some (4 + stage_of (plan_in T.goal i)) else None))) in
          absurd
          (let no : phase_of m.known t (Instance i) ≡ None = nothing (Instance i)
          (tried_ping m.known t i is asked) in cc)

  not_leaving : (i : Inst) → IsIn i T.obsolete → is_to_go T i ≡ false
  not_leaving i is = by (is_to_go T i) refl
    where
      none_at : (ping : Bool)
          → (if ping then Some 0 else phase_if 3 true) ≡ None → ⊥
      none_at true rest = cc
      none_at false rest = cc

      by : (b : Bool) → is_to_go T i ≡ b → b ≡ false
      by false goes = refl
      by true goes =
          absurd
          (none_at (is_to_ping T i)
          ((λ j. if is_to_ping T i then Some 0 else (if sym goes j then Some 3 else (if is_to_change T i
          then Some (4 + stage_of (plan_in T.goal i)) else None)))
          ∙ nothing (Instance i) (tried_gone m.known t i is goes)))

  not_changing : (i : Inst) → IsIn i T.changed → is_to_change T i ≡ false
  not_changing i is =
      by (is_to_ping T i) (is_to_go T i) (is_to_change T i) (nothing (Instance i) (tried_change m.known t i is))
    where
      by : (ping go change : Bool)
          → (if ping then Some 0 else (if go then Some 3
          else (if change then Some (4 + stage_of (plan_in T.goal i)) else None))) ≡ None
          → change ≡ false
      by true go change rest = absurd cc
      by false true change rest = absurd cc
      by false false true rest = absurd cc
      by false false false rest = refl

  no_slot : (s : ℕ) → m.known.slot t s ≡ None
  no_slot s = by (m.known.slot t s) refl
    where
      by : (slot : Option Slot) → m.known.slot t s ≡ slot → slot ≡ None
      by None is = refl
      by (Some it) is =
          let here : is_some (m.known.slot t s) ≡ true = ap is_some is in
          let left : is_slot_left m.known t s ≡ true =
          (λ j. can.slots_are_wanted s here j && (here j || is_some (next_key m.known t s))) in
          let some : phase_of m.known t (Compile t s) ≡ Some 2 =
          (λ j. if eq-eqb t t refl j then (if left j then Some 2 else None)
          else (if is_leftover m.known t (record { task = t; slot = s }) then Some 1 else None)) in
          absurd
          (let no : phase_of m.known t (Compile t s) ≡ None =
          nothing (Compile t s)
          (tried_slot m.known t s (ltb-true s (length (slots_of T.goal)) (can.slots_are_wanted s here))) in
          cc)

  no_machine : (name : SlotName) → IsIn name m.known.machines → is_in_deployment m.known T.dep name ≡ false
  no_machine name is = by (name.task == t) refl (is_leftover m.known t name) refl
    where
      by : (own : Bool) → (name.task == t) ≡ own → (over : Bool) → is_leftover m.known t name ≡ over
          → is_in_deployment m.known T.dep name ≡ false
      by true own over left =
          let same : name.task ≡ t = eqb-true name.task t own in
          (λ j. holds (λ it. option_eq bytes_eq (Some it.dep) T.dep) (m.known.slot (same j) name.slot))
          ∙ (λ j. holds (λ (it : Slot). option_eq bytes_eq (Some it.dep) T.dep) (no_slot name.slot j))
      by false own false left = (λ j. not (sym own j) && is_in_deployment m.known T.dep name) ∙ left
      by false own true left =
          let some : phase_of m.known t (Compile name.task name.slot) ≡ Some 1 =
          (λ j. if own j then (if is_slot_left m.known t name.slot then Some 2 else None)
          else (if left j then Some 1 else None)) in
          absurd
          (let no : phase_of m.known t (Compile name.task name.slot) ≡ None =
          nothing (Compile name.task name.slot) (tried_left m.known t name is left) in
          cc)

  no_call : has_no_call m t ≡ true
  no_call =
      all_from (λ n. not (holds (λ call. call.begin.task == t) (m.calls n))) (numbers_to m.known.last_call)
      (λ n is. by n (m.calls n) refl)
    where
      others : (n : ℕ) (call : OpenCall) → m.calls n ≡ Some call → (b : Bool) → (call.begin.task == t) ≡ b
          → not b ≡ true
      others n call is false other = refl
      others n call is true own =
          let item : IsIn call.begin.owner (items m.known t) =
          can.calls_are_of_items n call is (eqb-true call.begin.task t own) in
          absurd (subst (λ (xs : List Owner). IsIn call.begin.owner xs) none item)

      by : (n : ℕ) (call : Option OpenCall) → m.calls n ≡ call → not (holds (λ call. call.begin.task == t) call) ≡ true
      by n (Some call) is = others n call is (call.begin.task == t) refl
      by n None is = refl

  -- a key that may be compiled next would have a slot
  all_compiled : list_all (λ work. is_compiled m.known work.key) (keys_of T.goal) ≡ true
  all_compiled = by (list_all (λ work. is_compiled m.known work.key) (keys_of T.goal)) refl
    where
      by : (b : Bool) → list_all (λ work. is_compiled m.known work.key) (keys_of T.goal) ≡ b → b ≡ true
      by true all = refl
      by false some =
          let one : Meets (is_next (is_compiled m.known)) (keys_of T.goal) =
          one_is_next (is_compiled m.known) [] (keys_of T.goal)
          (λ key is. absurd (false≢true is)) can.keys_can_be_compiled some in
          let parts : (is_ready m.known one.x ≡ true) × (not (is_compiled m.known (one.x).key) ≡ true) =
          and_parts (is_ready m.known one.x) (not (is_compiled m.known (one.x).key)) one.meets in
          let untaken : is_taken m.known t 0 (one.x).key ≡ false =
          none_from _ m.known.machines
          (λ name is.
          (λ j. (name.task == t) && (not (name.slot == 0) && holds (same_key (one.x).key)
          (option_and_then (λ (it : Slot). it.key) (no_slot name.slot j))))
          ∙ nothing_more (name.task == t) (not (name.slot == 0))) in
          let next : is_some (next_key m.known t 0) ≡ true =
          found _ one.x (keys_of T.goal) one.is_in
          (and_from (is_ready m.known one.x) _ parts.0
          (and_from (not (is_compiled m.known (one.x).key)) _ parts.1 (ap not untaken))) in
          let left : is_slot_left m.known t 0 ≡ true =
          and_from (nat_lt 0 (length (slots_of T.goal))) _ (can.keys_have_slots some)
          (or_right (is_some (m.known.slot t 0)) _ next) in
          let at : phase_of m.known t (Compile t 0) ≡ Some 2 =
          (λ j. if eq-eqb t t refl j then (if left j then Some 2 else None)
          else (if is_leftover m.known t (record { task = t; slot = 0 }) then Some 1 else None)) in
          absurd
          (let no : phase_of m.known t (Compile t 0) ≡ None =
          nothing (Compile t 0)
          (tried_slot m.known t 0 (ltb-true 0 (length (slots_of T.goal)) (can.keys_have_slots some))) in
          cc)

  pub ends : is_some T.failed ≡ false → EndsTask m t
  ends good = record {
    is_open = can.is_open;
    none_failed = good;
    no_call = no_call;
    all_asked = none_from (is_to_ping T) T.to_ping not_asked;
    all_changed =
        all_from (λ i. is_finished (T.upd i)) T.changed
        (λ i is. not_false (is_finished (T.upd i))
        (and_false (is_among same_inst i T.changed) (not (is_finished (T.upd i)))
        (not_changing i is) (is_among_in same_inst i T.changed (itself i) is)));
    all_gone =
        all_from T.gone T.obsolete
        (λ i is. not_false (T.gone i) (and_false (is_among same_inst i T.obsolete) (not (T.gone i)) (not_leaving i is)
        (is_among_in same_inst i T.obsolete (itself i) is)));
    no_machine = none_from (is_in_deployment m.known T.dep) m.known.machines no_machine;
    all_compiled = all_compiled;
    all_deleted = none_from (λ d. is_some (m.known.orphan d)) T.disks (λ d is. kept d is);
  }
    where
      kept : (d : ℕ) → IsIn d T.disks → is_some (m.known.orphan d) ≡ false
      kept d is =
          and_false (is_among eqb d T.disks) (is_some (m.known.orphan d))
          (none_if 0 (is_among eqb d T.disks && is_some (m.known.orphan d))
          (nothing (Disk d) (tried_disk m.known t d is)))
          (is_among_in eqb d T.disks (eq-eqb d d refl) is)

-- ---- what is over

module _ (m : Moment) (t worker : ℕ) (can : CanEnd m t) where
  not_ended : is_some (m.known.task t).end ≡ false
  not_ended =
      not-true (is_some (m.known.task t).end)
      (and_parts (list_any (λ n. n == t) (numbers_to m.known.tasks)) _ can.is_open).1

  over_is : claim_at m t worker ≡ Over
      → (if is_some (m.known.task t).failed then (if has_no_call m t then Over else Waits)
      else by_items m t worker (items m.known t)) ≡ Over
  over_is over =
      (λ j. if sym not_ended j then Over else
      (if is_some (m.known.task t).failed then (if has_no_call m t then Over else Waits)
      else by_items m t worker (items m.known t)))
      ∙ over

  none_of : (owners : List Owner) → by_items m t worker owners ≡ Over → owners ≡ []
  none_of [] over = refl
  none_of (o ∷ owners) over = absurd (not_over m t worker (o ∷ owners) over)

  pub over_ends : (m.known.task t).failed ≡ None → claim_at m t worker ≡ Over → EndsTask m t
  over_ends good over =
      let items_over : by_items m t worker (items m.known t) ≡ Over =
      (λ j. if is_some (sym good j) then (if has_no_call m t then Over else Waits) else by_items m t worker
      (items m.known t)) ∙ over_is over in
      ends m t can (none_of (items m.known t) items_over) (ap is_some good)

  pub over_fails : (cause : Failure) → (m.known.task t).failed ≡ Some cause → claim_at m t worker ≡ Over
      → FailsTask m (record { task = t; cause = cause })
  over_fails cause is over = record {
    is_open = can.is_open;
    no_call =
        rested (has_no_call m t)
        ((λ j. if is_some (sym is j) then (if has_no_call m t then Over else Waits) else by_items m t worker
        (items m.known t)) ∙ over_is over);
    cause = caused cause is;
  }
    where
      rested : (b : Bool) → (if b then Over else Waits) ≡ Over → b ≡ true
      rested true is = refl
      rested false is = absurd cc

      caused : (cause : Failure) → (m.known.task t).failed ≡ Some cause → IsCause m t cause
      caused failures.Interrupted is = absurd (can.failures_are_calls is)
      caused (failures.Call n) is = is
      caused (failures.Gone n) is = is

  -- ---- permitted

  follows : (entry : Entry) → may_follow m entry ≡ true
  follows entry = λ j. not (can.is_recovered j) || is_interruption entry

  pub over_is_done : (outside : Outside) → m.halted ≡ false → (m.known.task t).failed ≡ None
      → claim_at m t worker ≡ Over
      → IsPermitted outside m (moves.Note (entries.TaskDone t))
  over_is_done outside goes good over = (goes, follows (entries.TaskDone t), over_ends good over)

  pub over_is_failed : (outside : Outside) (cause : Failure) → m.halted ≡ false → (m.known.task t).failed ≡ Some cause
      → claim_at m t worker ≡ Over
      → IsPermitted outside m (moves.Note (entries.TaskError (record { task = t; cause = cause })))
  over_is_failed outside cause goes is over =
      (goes, follows (entries.TaskError (record { task = t; cause = cause })), over_fails cause is over)
