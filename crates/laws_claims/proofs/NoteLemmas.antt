-- What is claimed may be noted.
use Rattle.std.proofs.Common.{◌≡◌, ◌∙◌, ℕ, ◌+◌, Bool, true, false, ◌&&◌, ◌||◌, not, List, [], ◌∷◌, Option, Some, None}
use Rattle.std.proofs.Common.{ap, refl, sym, subst}
use Rattle.std.specs.Prelude.{is_some, if◌then◌else◌}
use Rattle.std.specs.Option.{option_map}
use Rattle.std.proofs.lemmas.Bool.{and_parts, false≢true, not-true, or_parts}
use Rattle.bosh_base.specs.declared.call.Call.{Call}
use Rattle.bosh_base.specs.declared.call.Call.TheVariants as calls
use Rattle.bosh_base.specs.declared.entry.Entry.{Entry}
use Rattle.bosh_base.specs.declared.entry.Entry.TheVariants as entries
use Rattle.bosh_base.specs.declared.failure.Failure.{Failure}
use Rattle.bosh_base.specs.declared.inst.Inst.{Inst}
use Rattle.bosh_base.specs.declared.moves.Move.TheVariants as moves
use Rattle.bosh_base.specs.declared.owner.Owner.{Owner}
use Rattle.bosh_base.specs.declared.owner.Owner.TheVariants.{Instance, Compile, Disk}
use Rattle.bosh_base.specs.declared.row.Vm.{Vm}
use Rattle.bosh_history.specs.Claim.{Noted, Over, Waits, by_items, claim_at, has_to_begin, instance_item, is_passed}
use Rattle.bosh_history.specs.Claim.{item, new_call}
use Rattle.bosh_history.specs.Goals.{canaries_first, is_waiting, may_begin}
use Rattle.bosh_history.specs.Items.{candidates, is_finished, is_item, is_to_change, is_to_go, is_to_ping, items}
use Rattle.bosh_history.specs.Items.{stage_of}
use Rattle.bosh_history.specs.Known.{Task, plan_in}
use Rattle.bosh_history.specs.Moments.{Moment}
use Rattle.bosh_history.specs.Notes.{MayNote, Outside, has_begun}
use Rattle.bosh_history.specs.Permitted.{IsPermitted}
use Rattle.bosh_history.specs.Recovered.{is_interruption}
use Rattle.bosh_history.specs.Steps.{call_now, has_no_call, is_idle, want_of}
use Rattle.bosh_history.specs.Words.{is_among}
use Rattle.bosh_roll.specs.Upd.{is_busy}
use Rattle.bosh_roll.specs.declared.upd.Upd.{Upd}
use Rattle.bosh_roll.specs.declared.upd.Upd.TheVariants.{Busy, Failed, Finished, Todo}
use Rattle.bosh_rows.specs.CallOf.{next_call}
use Rattle.bosh_rows.specs.Same.{same_inst}
use Rattle.laws_claims.proofs.Premises.{CanNote}
use Rattle.laws_items.specs.Lists.{IsIn}
use Rattle.laws_claims.proofs.FirstLemmas.{GaveBy, entry_of, first_gave}
use Rattle.laws_items.proofs.ListLemmas.{not_false}
use Rattle.laws_claims.proofs.ListLemmas.{of_filtered}
use Rattle.laws_items.proofs.PhaseLemmas.{IsLeft, of_item}
use Rattle.laws_claims.proofs.StepLemmas.{no_step}

-- an update that neither waits nor is finished began
goes : (upd : Upd) → (upd ≡ Failed → ⊥) → is_waiting upd ≡ false → is_finished upd ≡ false → is_busy upd ≡ true
goes Todo good waits left = absurd (false≢true (sym waits))
goes Busy good waits left = refl
goes Finished good waits left = absurd (false≢true (sym left))
goes Failed good waits left = absurd (good refl)

-- in which way something is left for an instance
data Left (t : Task) (i : Inst) : Type 0 where
  asked : is_to_ping t i ≡ true → Left t i
  leaves : is_to_ping t i ≡ false → is_to_go t i ≡ true → Left t i
  changes : is_to_ping t i ≡ false → is_to_go t i ≡ false → is_to_change t i ≡ true → Left t i

module _ (outside : Outside) (m : Moment) (t worker : ℕ) (can : CanNote m t)
    (good : is_some (m.known.task t).failed ≡ false) where
  abbrev T : Task
  T = m.known.task t

  call_begins : (o : Owner) (call : Call) → is_item m.known t o ≡ true → is_idle m o ≡ true → has_begun T o ≡ true
      → call_now m t o ≡ Some call → MayNote outside m (new_call m t worker o call)
  call_begins o call item idle begun is = record {
    is_open = can.is_open;
    none_failed = good;
    number = refl;
    is_idle = idle;
    is_item = item;
    has_begun = begun;
    is_call = is;
  }

  left_in : (i : Inst) → is_item m.known t (Instance i) ≡ true → Left T i
  left_in i item = by (is_to_ping T i) (is_to_go T i) (is_to_change T i) refl refl refl left.1.phase
    where
      left : (p : ℕ) × IsLeft m.known t (Instance i) p
      left = of_item m.known t (Instance i) item

      by : (ping go change : Bool) → is_to_ping T i ≡ ping → is_to_go T i ≡ go → is_to_change T i ≡ change
          → (if ping then Some 0 else (if go then Some 3
          else (if change then Some (4 + stage_of (plan_in T.goal i)) else None))) ≡ Some left.0
          → Left T i
      by true go change asks goes_ changes_ is = asked asks
      by false true change asks goes_ changes_ is = leaves asks goes_
      by false false true asks goes_ changes_ is = changes asks goes_ changes_
      by false false false asks goes_ changes_ is = absurd cc

  -- an instance that is asked has a call
  asked_calls : (i : Inst) → is_to_ping T i ≡ true → is_some (call_now m t (Instance i)) ≡ true
  asked_calls i asks =
      (λ j. is_some (if asks j then option_map (λ it. calls.Ping it.vm) (m.known.row i).vm
      else next_call (want_of T i) (m.known.row i)))
      ∙ by (m.known.row i).vm (can.asked_have_machines i asks)
    where
      by : (vm : Option Vm) → is_some vm ≡ true → is_some (option_map (λ (it : Vm). calls.Ping it.vm) vm) ≡ true
      by (Some vm) is = refl
      by None is = absurd (false≢true is)

  unasked : (i : Inst) → call_now m t (Instance i) ≡ None → is_to_ping T i ≡ false
  unasked i none = by (is_to_ping T i) refl
    where
      by : (b : Bool) → is_to_ping T i ≡ b → b ≡ false
      by false asks = refl
      by true asks = absurd (false≢true (sym (ap is_some none) ∙ asked_calls i asks))

  -- where its update waits and need not begin before the call, it is asked or leaves; else it began
  begun : (i : Inst) → Left T i → has_to_begin T (Instance i) ≡ false → has_begun T (Instance i) ≡ true
  begun i (asked asks) free = λ j. asks j || (is_to_go T i || is_busy (T.upd i))
  begun i (leaves asks goes_) free = λ j. asks j || (goes_ j || is_busy (T.upd i))
  begun i (changes asks stays changes_) free =
      let waits : is_waiting (T.upd i) ≡ false =
      (λ j. not (sym asks j) && (not (sym stays j) && is_waiting (T.upd i))) ∙ free in
      let left : is_finished (T.upd i) ≡ false =
      not-true (is_finished (T.upd i))
      (and_parts (is_among same_inst i T.changed) (not (is_finished (T.upd i))) changes_).1 in
      (λ j. asks j || (stays j || is_busy (T.upd i))) ∙ goes (T.upd i) (can.updates_go_on i) waits left

  -- .. so what is done comes in turn
  in_turn : (i : Inst) → Left T i → is_to_ping T i ≡ false → is_to_go T i ≡ false
      → (has_to_begin T (Instance i) && not (may_begin T i)) ≡ false → canaries_first T i ≡ true
  in_turn i (asked asks) unasked_ stays free = absurd (false≢true (sym unasked_ ∙ asks))
  in_turn i (leaves asks goes_) unasked_ stays free = absurd (false≢true (sym stays ∙ goes_))
  in_turn i (changes asks stays_ changes_) unasked_ stays free = by (is_waiting (T.upd i)) refl
    where
      may : (b : Bool) → may_begin T i ≡ b → not b ≡ false → canaries_first T i ≡ true
      may true is none = (and_parts _ (canaries_first T i) (and_parts (not (is_some T.failed)) _ is).1).1
      may false is none = absurd (false≢true (sym none))

      by : (b : Bool) → is_waiting (T.upd i) ≡ b → canaries_first T i ≡ true
      by true waits =
          may (may_begin T i) refl
          ((λ j. (not (sym asks j) && (not (sym stays_ j) && sym waits j)) && not (may_begin T i)) ∙ free)
      by false waits =
          let left : is_finished (T.upd i) ≡ false =
          not-true (is_finished (T.upd i))
          (and_parts (is_among same_inst i T.changed) (not (is_finished (T.upd i))) changes_).1 in
          can.updates_are_in_turn i (goes (T.upd i) (can.updates_go_on i) waits left)

  -- ---- instances

  change_of : (i : Inst) → Left T i → is_to_ping T i ≡ false → is_to_go T i ≡ false → is_to_change T i ≡ true
  change_of i (asked asks) unasked_ stays = absurd (false≢true (sym unasked_ ∙ asks))
  change_of i (leaves asks goes_) unasked_ stays = absurd (false≢true (sym stays ∙ goes_))
  change_of i (changes asks stays_ changes_) unasked_ stays = changes_

  instance_notes : (i : Inst) → is_item m.known t (Instance i) ≡ true → is_idle m (Instance i) ≡ true
      → (has_to_begin T (Instance i) && not (may_begin T i)) ≡ false → (call : Option Call)
      → call_now m t (Instance i) ≡ call → MayNote outside m (instance_item m t worker i call)
  instance_notes i item idle free (Some call) is = by (has_to_begin T (Instance i)) refl free
    where
      begins_update : has_to_begin T (Instance i) ≡ true → may_begin T i ≡ true → Left T i
          → MayNote outside m (entries.UpdBegin (record { task = t; inst = i }))
      begins_update begins may (asked asks) =
          absurd (false≢true ((λ j. not (sym asks j) && (not (is_to_go T i) && is_waiting (T.upd i))) ∙ begins))
      begins_update begins may (leaves asks goes_) =
          absurd (false≢true ((λ j. not (sym asks j) && (not (sym goes_ j) && is_waiting (T.upd i))) ∙ begins))
      begins_update begins may (changes asks stays changes_) = record {
        is_open = can.is_open;
        is_changed = (and_parts (is_among same_inst i T.changed) (not (is_finished (T.upd i))) changes_).0;
        waits = (λ j. not (sym asks j) && (not (sym stays j) && is_waiting (T.upd i))) ∙ begins;
        is_asked = asks;
        is_item = item;
        may_begin = may;
      }

      may : (b : Bool) → may_begin T i ≡ b → not b ≡ false → may_begin T i ≡ true
      may true is none = is
      may false is none = absurd (false≢true (sym none))

      by : (b : Bool) → has_to_begin T (Instance i) ≡ b → (b && not (may_begin T i)) ≡ false
          → MayNote outside m (if b then entries.UpdBegin (record { task = t; inst = i }) else new_call m t worker
          (Instance i) call)
      by true begins free = begins_update begins (may (may_begin T i) refl free) (left_in i item)
      by false begins free = call_begins (Instance i) call item idle (begun i (left_in i item) begins) is
  instance_notes i item idle free None is = by (is_to_go T i) refl
    where
      by : (b : Bool) → is_to_go T i ≡ b
          → MayNote outside m (if b then entries.Gone (record { task = t; inst = i }) else entries.UpdDone
          (record { task = t; inst = i }))
      by true goes_ = record {
        is_open = can.is_open;
        is_obsolete = goes_;
        is_asked = unasked i is;
        is_idle = idle;
        no_step = no_step m t i (unasked i is) (can.rows_have_machines i) is;
        is_item = item;
      }
      by false stays = record {
        is_open = can.is_open;
        is_changed = change_of i (left_in i item) (unasked i is) stays;
        is_asked = unasked i is;
        is_idle = idle;
        no_step = no_step m t i (unasked i is) (can.rows_have_machines i) is;
        is_item = item;
        canaries_first = in_turn i (left_in i item) (unasked i is) stays free;
      }

  -- ---- all items

  owner_notes : (o : Owner) (entry : Entry) → is_item m.known t o ≡ true → is_passed m t o ≡ false
      → entry_of m t worker o ≡ Some entry → MayNote outside m entry
  owner_notes (Instance i) entry is_one unpassed gave =
      let (busy, free) = or_parts (not (is_idle m (Instance i))) _ unpassed in
      let same : instance_item m t worker i (call_now m t (Instance i)) ≡ entry = cc in
      subst (λ (e : Entry). MayNote outside m e) same
      (instance_notes i is_one (not_false (is_idle m (Instance i)) busy) free (call_now m t (Instance i)) refl)
  owner_notes (Compile task s) entry is_one unpassed gave = by (call_now m t (Compile task s)) refl gave
    where
      by : (call : Option Call) → call_now m t (Compile task s) ≡ call
          → item m t worker (Compile task s) call ≡ Some entry → MayNote outside m entry
      by (Some call) is gave =
          let same : new_call m t worker (Compile task s) call ≡ entry = cc in
          subst (λ (e : Entry). MayNote outside m e) same
          (call_begins (Compile task s) call is_one (not_false (is_idle m (Compile task s)) unpassed) refl is)
      by None is gave = absurd cc
  owner_notes (Disk d) entry is_one unpassed gave = by (call_now m t (Disk d)) refl gave
    where
      by : (call : Option Call) → call_now m t (Disk d) ≡ call
          → item m t worker (Disk d) call ≡ Some entry → MayNote outside m entry
      by (Some call) is gave =
          let same : new_call m t worker (Disk d) call ≡ entry = cc in
          subst (λ (e : Entry). MayNote outside m e) same
          (call_begins (Disk d) call is_one (not_false (is_idle m (Disk d)) unpassed) refl is)
      by None is gave = absurd cc

  pub items_note : (entry : Entry) (owners : List Owner) → items m.known t ≡ owners
      → by_items m t worker owners ≡ Noted entry → MayNote outside m entry
  items_note entry [] is noted = absurd cc
  items_note entry (o ∷ owners) is noted =
      let it : GaveBy m t worker (o ∷ owners) entry = first_gave m t worker (o ∷ owners) entry noted in
      let among : IsIn it.owner (items m.known t) = subst (λ (xs : List Owner). IsIn it.owner xs) (sym is) it.is_in in
      owner_notes it.owner entry
      (of_filtered (is_item m.known t) it.owner (candidates m.known t) among).1 it.unpassed it.gave

-- ---- the law

pub claims_note : (outside : Outside) (m : Moment) (t worker : ℕ) (entry : Entry) → CanNote m t
    → claim_at m t worker ≡ Noted entry → MayNote outside m entry
claims_note outside m t worker entry can noted = by (is_some (m.known.task t).end) (m.known.task t).failed refl noted
  where
    waits : (b : Bool) → (if b then Over else Waits) ≡ Noted entry → ⊥
    waits true is = cc
    waits false is = cc

    by : (ended : Bool) (failed : Option Failure) → (m.known.task t).failed ≡ failed
        → (if ended then Over else (if is_some failed then (if has_no_call m t then Over else Waits)
        else by_items m t worker (items m.known t))) ≡ Noted entry
        → MayNote outside m entry
    by true failed is noted = absurd cc
    by false (Some cause) is noted = absurd (waits (has_no_call m t) noted)
    by false None is noted = items_note outside m t worker can (ap is_some is) entry (items m.known t) refl noted

pub claims_are_permitted : (outside : Outside) (m : Moment) (t worker : ℕ) (entry : Entry) → CanNote m t
    → m.halted ≡ false → claim_at m t worker ≡ Noted entry → IsPermitted outside m (moves.Note entry)
claims_are_permitted outside m t worker entry can goes noted =
    (goes, (λ j. not (can.is_recovered j) || is_interruption entry), claims_note outside m t worker entry can noted)
