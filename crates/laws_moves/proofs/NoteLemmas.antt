-- What may be noted may be noted as well once the cloud performed calls that it had not performed, and whatever else was
-- done, halted or not: so the entry that a stop keeps may be noted after what the cloud did.
use Rattle.std.proofs.Common.{◌≡◌, ◌∙◌, ℕ, Bool, true, false, Option, Some, None, List, refl, sym, ap, subst, arith}
use Rattle.std.specs.Prelude.{eqb, not, ◌==◌, if◌then◌else◌, is_some}
use Rattle.std.specs.List.{list_all, list_any}
use Rattle.std.specs.Option.{option_and_then, option_map}
use Rattle.std.proofs.lemmas.Bool.{false≢true}
use Rattle.std.proofs.lemmas.Bool.Decides.{eqb_tells}
use Rattle.bosh_base.specs.Cloud.{numbers_to}
use Rattle.bosh_base.specs.declared.call.Call.TheVariants.{DeleteVm}
use Rattle.bosh_base.specs.declared.entry.Begin.{Begin}
use Rattle.bosh_base.specs.declared.entry.End.{End}
use Rattle.bosh_base.specs.declared.entry.Entry.{Entry}
use Rattle.bosh_base.specs.declared.entry.Entry.TheVariants as entries
use Rattle.bosh_base.specs.declared.failure.Failure.{Failure}
use Rattle.bosh_base.specs.declared.failure.Failure.TheVariants as failures
use Rattle.bosh_base.specs.declared.key.Key.{Key}
use Rattle.bosh_base.specs.declared.moves.Did.{Did}
use Rattle.bosh_base.specs.declared.owner.Owner.{Owner}
use Rattle.bosh_base.specs.declared.owner.Owner.TheVariants.{Instance, Compile, Disk}
use Rattle.bosh_base.specs.declared.row.Doubt.{Doubt}
use Rattle.bosh_base.specs.declared.row.Vm.{Vm}
use Rattle.bosh_history.specs.Known.{Slot}
use Rattle.bosh_history.specs.Moments.{Moment, OpenCall, performed_call, performing}
use Rattle.bosh_history.specs.Notes.{EndsCall, IsCause, MayNote, Outside, answers}
use Rattle.bosh_history.specs.Permitted.{MayKeep, PerformsOpen}
use Rattle.bosh_history.specs.Slots.{is_compiled}
use Rattle.bosh_history.specs.Steps.{call_now, compiles, compiling, has_no_call, is_compiling, is_idle, key_call, own_slot}
use Rattle.bosh_history.specs.Steps.{slot_by, sweep_call, work_for}
use Rattle.bosh_history.specs.Words.{holds}
use Rattle.bosh_rows.specs.Same.{same_owner}

-- the same calls are open, and those that were performed stay as they are
pub record OnlyPerformed (old new : ℕ → Option OpenCall) : Type 0 where
  pub begins : (n : ℕ) → option_map (λ call. call.begin) (new n) ≡ option_map (λ call. call.begin) (old n)
  pub answered : (n : ℕ) (call : OpenCall) (d : Did) → old n ≡ Some call → call.did ≡ Some d → new n ≡ Some call

-- what is asked of how an open call began
by_begin : (test : Begin → Bool) (call : Option OpenCall)
    → holds (λ it. test it.begin) call ≡ holds test (option_map (λ it. it.begin) call)
by_begin test (Some call) = refl
by_begin test None = refl

module _ (m : Moment) (effects : List Entry) (calls : ℕ → Option OpenCall) (heard early : (t v : ℕ) → Bool)
    (is_halted : Bool) (only : OnlyPerformed m.calls calls) where
  -- the moment once the cloud did something
  abbrev now : Moment
  now = record m { effects = effects; calls = calls; heard = heard; early = early; halted = is_halted }

  asked : (test : Begin → Bool) (n : ℕ) → holds (λ it. test it.begin) (calls n) ≡ holds (λ it. test it.begin) (m.calls n)
  asked test n = by_begin test (calls n) ∙ ap (holds test) (only.begins n) ∙ sym (by_begin test (m.calls n))

  idle_same : (owner : Owner) → is_idle now owner ≡ is_idle m owner
  idle_same owner =
      λ j. list_all (λ n. not (asked (λ b. same_owner owner b.owner) n j)) (numbers_to m.known.last_call)

  no_call_same : (t : ℕ) → has_no_call now t ≡ has_no_call m t
  no_call_same t = λ j. list_all (λ n. not (asked (λ b. b.task == t) n j)) (numbers_to m.known.last_call)

  compiling_same : (key : Key) → is_compiling now key ≡ is_compiling m key
  compiling_same key = λ j. list_any (λ n. asked (λ b. compiles key b.call) n j) (numbers_to m.known.last_call)

  key_same : (t v : ℕ) (key : Key) → key_call now t v key ≡ key_call m t v key
  key_same t v key =
      λ j. if is_compiled m.known key
      then Some (DeleteVm v)
      else (if compiling_same key j then None else option_map (compiling m.known v) (work_for (m.known.task t).goal key))

  slot_same : (t : ℕ) (slot : Slot) (vm : Option Vm) (doubt : Option Doubt)
      → slot_by now t slot vm doubt ≡ slot_by m t slot vm doubt
  slot_same t slot (Some it) None = λ j. option_and_then (λ key. key_same t it.vm key j) slot.key
  slot_same t slot (Some it) (Some doubt) = refl
  slot_same t slot None doubt = refl

  own_same : (t s : ℕ) (slot : Option Slot) → own_slot now t s slot ≡ own_slot m t s slot
  own_same t s (Some slot) = slot_same t slot slot.vm slot.doubt
  own_same t s None = refl

  call_same : (t : ℕ) (owner : Owner) → call_now now t owner ≡ call_now m t owner
  call_same t (Instance i) = refl
  call_same t (Compile task slot) =
      λ j. if task == t
      then own_same t slot (m.known.slot task slot) j
      else sweep_call (m.known.slot task slot)
  call_same t (Disk d) = refl

  ends_still : (e : End) → EndsCall e (m.calls e.n) → EndsCall e (calls e.n)
  ends_still e ends = by (m.calls e.n) refl ends
    where
      told : (call : OpenCall) (did : Option Did) → m.calls e.n ≡ Some call → call.did ≡ did → answers e.answer did
          → EndsCall e (calls e.n)
      told call (Some d) is did_is was =
          subst (λ (it : Option OpenCall). EndsCall e it) (sym (only.answered e.n call d is did_is))
          (subst (λ (it : Option Did). answers e.answer it) (sym did_is) was)
      told call None is did_is was = absurd was

      by : (call : Option OpenCall) → m.calls e.n ≡ call → EndsCall e call → EndsCall e (calls e.n)
      by (Some call) is was = told call call.did is refl was
      by None is was = absurd was

  cause_still : (t : ℕ) (cause : Failure) → IsCause m t cause → IsCause now t cause
  cause_still t failures.Interrupted is = is
  cause_still t (failures.Call n) is = is
  cause_still t (failures.Gone n) is = is

  pub note_stays : (outside : Outside) (e : Entry) → MayNote outside m e → MayNote outside now e
  note_stays outside (entries.Begin b) may = record {
    is_open = may.is_open;
    none_failed = may.none_failed;
    number = may.number;
    is_idle = idle_same b.owner ∙ may.is_idle;
    is_item = may.is_item;
    has_begun = may.has_begun;
    is_call = call_same b.task b.owner ∙ may.is_call;
  }
  note_stays outside (entries.End e) may = ends_still e may
  note_stays outside (entries.UpdBegin u) may = record {
    is_open = may.is_open;
    is_changed = may.is_changed;
    waits = may.waits;
    is_asked = may.is_asked;
    is_item = may.is_item;
    may_begin = may.may_begin;
  }
  note_stays outside (entries.UpdDone u) may = record {
    is_open = may.is_open;
    is_changed = may.is_changed;
    is_asked = may.is_asked;
    is_idle = idle_same (Instance u.inst) ∙ may.is_idle;
    no_step = may.no_step;
    is_item = may.is_item;
    canaries_first = may.canaries_first;
  }
  note_stays outside (entries.Gone u) may = record {
    is_open = may.is_open;
    is_obsolete = may.is_obsolete;
    is_asked = may.is_asked;
    is_idle = idle_same (Instance u.inst) ∙ may.is_idle;
    no_step = may.no_step;
    is_item = may.is_item;
  }
  note_stays outside (entries.TaskDone t) may = record {
    is_open = may.is_open;
    none_failed = may.none_failed;
    no_call = no_call_same t ∙ may.no_call;
    all_asked = may.all_asked;
    all_changed = may.all_changed;
    all_gone = may.all_gone;
    no_machine = may.no_machine;
    all_compiled = may.all_compiled;
    all_deleted = may.all_deleted;
  }
  note_stays outside (entries.TaskError e) may = record {
    is_open = may.is_open;
    no_call = no_call_same e.task ∙ may.no_call;
    cause = cause_still e.task e.cause may.cause;
  }
  note_stays outside (entries.Release r) may = may
  note_stays outside (entries.Stemcell s) may = may
  note_stays outside (entries.Config file) may = may
  note_stays outside (entries.TaskOpen o) may = may
  note_stays outside entry may = absurd may

  -- .. the entry that is kept
  pub kept_stays : (outside : Outside) (kept : Option Entry) → MayKeep outside m kept → MayKeep outside now kept
  kept_stays outside (Some e) may = (note_stays outside e may.0, may.1)
  kept_stays outside None may = may

-- nothing was performed
pub none_performed : (calls : ℕ → Option OpenCall) → OnlyPerformed calls calls
none_performed calls = record { begins = λ n. refl; answered = λ n call d is did. is }

-- a call was performed that was not
pub one_performed : (outside : Outside) (m : Moment) (d : Did) → PerformsOpen outside m.effects d (m.calls d.n)
    → OnlyPerformed m.calls (performing m d).calls
one_performed outside m d may = record { begins = λ n. begins n (eqb d.n n) refl; answered = answered }
  where
    same_begin : (call : Option OpenCall)
        → option_map (λ (it : OpenCall). it.begin) (performed_call d call)
        ≡ option_map (λ (it : OpenCall). it.begin) call
    same_begin (Some call) = refl
    same_begin None = refl

    begins : (n : ℕ) (same : Bool) → eqb d.n n ≡ same
        → option_map (λ (it : OpenCall). it.begin) (if same then performed_call d (m.calls d.n) else m.calls n)
        ≡ option_map (λ (it : OpenCall). it.begin) (m.calls n)
    begins n true same =
        same_begin (m.calls d.n) ∙ ap (λ k. option_map (λ (it : OpenCall). it.begin) (m.calls k)) (equal same)
      where
        equal : eqb d.n n ≡ true → d.n ≡ n
        equal is = grind (arith, is, eqb_tells d.n n)
    begins n false other = refl

    open_not : (call : Option OpenCall) → PerformsOpen outside m.effects d call → (it : OpenCall) (was : Did)
        → call ≡ Some it → it.did ≡ Some was → ⊥
    open_not (Some call) performs it was is did =
        false≢true (sym performs.not_yet ∙ ap is_some (ap (λ (c : OpenCall). c.did) (same is) ∙ did))
      where
        same : Some call ≡ Some it → call ≡ it
        same eq = cc
    open_not None performs it was is did = absurd performs

    answered : (n : ℕ) (call : OpenCall) (was : Did) → m.calls n ≡ Some call → call.did ≡ Some was
        → (performing m d).calls n ≡ Some call
    answered n call was is did = by (eqb d.n n) refl
      where
        by : (same : Bool) → eqb d.n n ≡ same
            → (if same then performed_call d (m.calls d.n) else m.calls n) ≡ Some call
        by true same =
            absurd (open_not (m.calls d.n) may call was (ap m.calls (equal same) ∙ is) did)
          where
            equal : eqb d.n n ≡ true → d.n ≡ n
            equal it = grind (arith, it, eqb_tells d.n n)
        by false other = is
