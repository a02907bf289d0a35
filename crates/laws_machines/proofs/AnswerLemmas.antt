-- An answer that is no failure leaves no doubt of a compile machine.
use Rattle.std.proofs.Common.{◌≡◌, ◌∙◌, ℕ, Bool, true, false, ◌&&◌, ◌||◌, not, Option, Some, None}
use Rattle.std.proofs.Common.{ap, refl, sym, subst, inl, inr}
use Rattle.std.specs.Prelude.{if◌then◌else◌, ◌⊎◌, ◌==◌, eqb, is_some}
use Rattle.std.specs.Option.{option_eq}
use Rattle.std.specs.Str.{bytes_eq}
use Rattle.std.proofs.lemmas.Bool.{and_parts, eq-eqb, eqb-true, false≢true, or_cases}
use Rattle.bosh_base.specs.Answer.{is_kind}
use Rattle.bosh_base.specs.Call.{method_of}
use Rattle.bosh_base.specs.CallStep.{is_gone}
use Rattle.bosh_base.specs.Method.{is_changing}
use Rattle.bosh_base.specs.declared.answer.Answer.{Answer}
use Rattle.bosh_base.specs.declared.answer.Answer.TheVariants as told_as
use Rattle.bosh_base.specs.declared.call.Call.{Call}
use Rattle.bosh_base.specs.declared.call.Call.TheVariants as calls
use Rattle.bosh_base.specs.declared.entry.Begin.{Begin}
use Rattle.bosh_base.specs.declared.entry.End.{End}
use Rattle.bosh_base.specs.declared.entry.Entry.TheVariants as entries
use Rattle.bosh_base.specs.declared.moves.Did.{Did}
use Rattle.bosh_base.specs.declared.owner.Owner.{Owner}
use Rattle.bosh_base.specs.declared.owner.Owner.TheVariants.{Instance, Compile, Disk}
use Rattle.bosh_base.specs.declared.failure.Failure.TheVariants as failures
use Rattle.bosh_base.specs.declared.row.Doubt.{Doubt}
use Rattle.bosh_history.specs.Calls.{call_ended, fails_gone, failure_of, is_lost, task_told}
use Rattle.bosh_history.specs.Items.{is_item, is_leftover, is_slot_left, phase_of}
use Rattle.bosh_history.specs.Known.{Known, Slot}
use Rattle.bosh_history.specs.Learn.{learn}
use Rattle.bosh_history.specs.Moments.{Moment, OpenCall}
use Rattle.bosh_history.specs.Notes.{EndsCall, answers}
use Rattle.bosh_history.specs.Slots.{slot_after, slot_told}
use Rattle.bosh_history.specs.Words.{at, holds}
use Rattle.bosh_lawful.specs.Clean.{is_failed}
use Rattle.bosh_rows.specs.Standing.{same_truth}
use Rattle.laws_facts.specs.CompileMachines.{is_open_for_slot}
use Rattle.laws_facts.specs.KnownFacts.{KnownFacts}
use Rattle.laws_facts.specs.OpenCalls.{fits_known, fits_slot, is_never_gone, is_told_in_kind}
use Rattle.laws_facts.specs.Owners.{works}
use Rattle.laws_items.proofs.ItemFrames.{same_dep_is, slot_dep}
use Rattle.laws_items.proofs.ListLemmas.{holds_some}
use Rattle.laws_items.proofs.ListedLemmas.{one_lock}
use Rattle.laws_items.proofs.OnwardLemmas.{slot_by}
use Rattle.laws_items.proofs.PhaseLemmas.{IsLeft, of_item}
use Rattle.laws_items.proofs.SlotFrames.{slots_ended, slots_told}
use Rattle.laws_machines.proofs.FailLemmas.{least_new}
use Rattle.laws_row_facts.specs.Words.{where_any}
use Rattle.laws_rows.specs.Rightful.{is_machine}
use Rattle.laws_machines.proofs.DoubtLemmas.{IsOpenFor, others_open}

-- ---- one answer

-- after an answer that is no failure there is no doubt
quiet : (b : ℕ) (n : ℕ) (call : Call) (answer : Answer) (it : Slot) → fits_slot b call it ≡ true
    → is_kind (method_of call) answer ≡ true → is_failed answer ≡ false → is_gone answer ≡ false → (now : Slot)
    → slot_told n call answer it ≡ Some now → now.doubt ≡ None
quiet b n call told_as.Failed it fits kind told there now is = absurd (false≢true (sym told))
quiet b n call told_as.Gone it fits kind told there now is = absurd (false≢true (sym there))
quiet b n (calls.CreateVm make disks) (told_as.Cid v) it fits kind told there now is =
    let same : record it { vm = Some (record { vm = v; agent = n }); doubt = None } ≡ now = cc in
    ap (λ (x : Slot). x.doubt) (sym same)
quiet b n (calls.CreateVm make disks) answer it fits kind told there now is = absurd (false≢true kind)
quiet b n (calls.FindVm agent) (told_as.Found (Some v)) it fits kind told there now is =
    let same : record it { vm = Some (record { vm = v; agent = agent }); doubt = None } ≡ now = cc in
    ap (λ (x : Slot). x.doubt) (sym same)
quiet b n (calls.FindVm agent) (told_as.Found None) it fits kind told there now is = absurd cc
quiet b n (calls.FindVm agent) answer it fits kind told there now is = absurd (false≢true kind)
quiet b n (calls.DeleteVm vm) told_as.Done it fits kind told there now is = absurd cc
quiet b n (calls.DeleteVm vm) answer it fits kind told there now is = absurd (false≢true kind)
quiet b n (calls.HasVm vm) told_as.No it fits kind told there now is = absurd cc
quiet b n (calls.HasVm vm) told_as.Yes it fits kind told there now is =
    let same : record it { doubt = None } ≡ now = cc in
    ap (λ (x : Slot). x.doubt) (sym same)
quiet b n (calls.HasVm vm) answer it fits kind told there now is = absurd (false≢true kind)
quiet b n (calls.CompilePackage vm work deps) answer it fits kind told there now is =
    let same : it ≡ now = cc in
    let parts : (not (is_some it.doubt) ≡ true) × _ =
    and_parts (not (is_some it.doubt)) _ (and_parts (is_machine it.vm vm) _ fits).1 in
    ap (λ (x : Slot). x.doubt) (sym same) ∙ none_of it.doubt parts.0
  where
    none_of : (doubt : Option Doubt) → not (is_some doubt) ≡ true → doubt ≡ None
    none_of None is = refl
    none_of (Some d) is = absurd (false≢true is)
quiet b n call answer it fits kind told there now is = absurd (false≢true fits)

-- an answer of it that is no failure of the task is told, and nothing was gone
not_gone : (k : Known) (b : Begin) (t s : ℕ) (it : Slot) (answer : Answer) → b.owner ≡ Compile t s
    → fits_slot b.n b.call it ≡ true → is_some (failure_of k b answer) ≡ false
    → (is_failed answer ≡ false) × (is_gone answer ≡ false)
not_gone k b t s it told_as.Failed own fits unfailed = absurd (false≢true (sym unfailed))
not_gone k b t s it told_as.Gone own fits unfailed = absurd (by b.call fits (fails_gone k b b.call) refl unfailed)
  where
    gone : (call : Call) → fits_slot b.n call it ≡ true → fails_gone k b call ≡ true
    gone (calls.Ping vm) fits = absurd (false≢true fits)
    gone (calls.DeleteVm vm) fits = λ j. not (is_lost k (own j))
    gone call fits = refl

    by : (call : Call) → fits_slot b.n call it ≡ true → (fails : Bool) → fails_gone k b call ≡ fails
        → is_some (if fails then Some (failures.Gone b.n) else None) ≡ false → ⊥
    by call fits true is none = false≢true (sym none)
    by call fits false is none = false≢true (sym is ∙ gone call fits)
not_gone k b t s it answer own fits unfailed = (refl, refl)

-- a task that works and has something to do for a compile machine of a task that works is that one
pub task_of_item : (m : Moment) → KnownFacts m → (t s : ℕ) → works m t ≡ true → (u : ℕ) → works m u ≡ true
    → is_item m.known u (Compile t s) ≡ true → u ≡ t
task_of_item m h t s working u also item = by (t == u) refl
  where
    left : (over : Bool) → is_leftover m.known u (record { task = t; slot = s }) ≡ over → (t == u) ≡ false
        → (p : ℕ) × IsLeft m.known u (Compile t s) p → u ≡ t
    left true over other it =
        let held : (x : Slot) × (m.known.slot t s ≡ Some x) ×
        (option_eq bytes_eq (Some x.dep) (m.known.task u).dep ≡ true) =
        holds_some (λ x. option_eq bytes_eq (Some x.dep) (m.known.task u).dep) (m.known.slot t s)
        (and_parts (not (t == u)) _ over).1 in
        one_lock m u t h also working
        (same_dep_is held.0.dep (m.known.task u).dep held.2 ∙ sym (slot_dep m t s held.0 h held.1))
    left false over other it =
        let none : phase_of m.known u (Compile t s) ≡ None =
        (λ j. slot_by (other j) (is_slot_left m.known u s) (over j)) in
        let some : phase_of m.known u (Compile t s) ≡ Some it.0 = it.1.phase in absurd cc

    by : (c : Bool) → (t == u) ≡ c → u ≡ t
    by true same = sym (eqb-true t u same)
    by false other =
        left (is_leftover m.known u (record { task = t; slot = s })) refl other (of_item m.known u (Compile t s) item)

-- so is the task of an open call of it
own_task : (m : Moment) → KnownFacts m → (t s : ℕ) → works m t ≡ true → (n : ℕ) (call : OpenCall) → m.calls n ≡ Some call
    → call.begin.owner ≡ Compile t s → call.begin.task ≡ t
own_task m h t s working n call is own =
    task_of_item m h t s working call.begin.task (h.calls n call is).works
    (sym (λ j. is_item m.known call.begin.task (own j))
    ∙ (and_parts (is_item m.known call.begin.task call.begin.owner) _ (h.calls n call is).of_item).0)

module _ (m : Moment) (h : KnownFacts m) (t s : ℕ) (working : works m t ≡ true) (e : End) (that : OpenCall)
    (open_now : m.calls e.n ≡ Some that) (own : that.begin.owner ≡ Compile t s) (d : Did) (did : that.did ≡ Some d)
    (told : d.answer ≡ e.answer) (unfailed : is_some ((learn m.known (entries.End e)).task t).failed ≡ false) where
  begun : m.known.begun e.n ≡ Some that.begin
  begun = (h.calls e.n that open_now).begun

  task : that.begin.task ≡ t
  task = own_task m h t s working e.n that open_now own

  -- the answer is no failure
  no_failure : is_some (failure_of m.known that.begin e.answer) ≡ false
  no_failure =
      least_new (m.known.task t).failed (failure_of m.known that.begin e.answer)
      (sym ((λ j. is_some ((call_ended e.answer (begun j) m.known).task t).failed)
      ∙ (λ j. is_some (at eqb (task j) (task_told m.known that.begin e.answer (m.known.task (task j))) m.known.task
      t).failed)
      ∙ (λ j. is_some
      (if eq-eqb t t refl j then task_told m.known that.begin e.answer (m.known.task t) else m.known.task t).failed))
      ∙ unfailed)

  -- it is of the kind of the call
  in_kind : is_failed e.answer ≡ false → is_kind (method_of that.begin.call) e.answer ≡ true
  in_kind answered =
      by
      (or_cases (is_failed e.answer) (is_kind (method_of that.begin.call) e.answer
      && (same_truth d.effect (is_changing (method_of that.begin.call) && not (is_gone e.answer))
      && not (is_never_gone that.begin.call && is_gone e.answer))) kind)
    where
      kind : (is_failed e.answer || (is_kind (method_of that.begin.call) e.answer
          && (same_truth d.effect (is_changing (method_of that.begin.call) && not (is_gone e.answer))
          && not (is_never_gone that.begin.call && is_gone e.answer)))) ≡ true
      kind =
          sym ((λ j. where_any (is_told_in_kind that.begin.call) (did j))
          ∙ (λ j. is_failed (told j) || (is_kind (method_of that.begin.call) (told j)
          && (same_truth d.effect (is_changing (method_of that.begin.call) && not (is_gone (told j)))
          && not (is_never_gone that.begin.call && is_gone (told j))))))
          ∙ (h.calls e.n that open_now).in_kind

      by : (is_failed e.answer ≡ true) ⊎ ((is_kind (method_of that.begin.call) e.answer
          && (same_truth d.effect (is_changing (method_of that.begin.call) && not (is_gone e.answer))
          && not (is_never_gone that.begin.call && is_gone e.answer))) ≡ true)
          → is_kind (method_of that.begin.call) e.answer ≡ true
      by (inl failed) = absurd (false≢true (sym answered ∙ failed))
      by (inr rest) = (and_parts (is_kind (method_of that.begin.call) e.answer) _ rest).0

  -- so the machine is in no doubt
  own_open : IsOpenFor (learn m.known (entries.End e)) (at eqb e.n None m.calls) t s
  own_open it doubt is has = by (m.known.slot t s) refl fits
    where
      fits : holds (fits_slot that.begin.n that.begin.call) (m.known.slot t s) ≡ true
      fits = subst (λ owner. fits_known m.known that.begin owner ≡ true) own (h.calls e.n that open_now).fits

      now_is : (learn m.known (entries.End e)).slot t s
          ≡ slot_after that.begin.n that.begin.call e.answer (m.known.slot t s)
      now_is =
          (λ j. (call_ended e.answer (begun j) m.known).slot t s)
          ∙ (λ j. slots_ended e.answer that.begin m.known j t s)
          ∙ (λ j. slots_told that.begin e.answer (own j) m.known.slot t s)
          ∙ (λ j. (if eq-eqb t t refl j
          then at eqb s (slot_after that.begin.n that.begin.call e.answer (m.known.slot t s)) (m.known.slot t)
          else m.known.slot t) s)
          ∙ (λ j. if eq-eqb s s refl j
          then slot_after that.begin.n that.begin.call e.answer (m.known.slot t s) else m.known.slot t s)

      by : (slot : Option Slot) → m.known.slot t s ≡ slot → holds (fits_slot that.begin.n that.begin.call) slot ≡ true
          → is_open_for_slot t s (at eqb e.n None m.calls doubt.n) ≡ true
      by (Some was) was_is fits =
          let good : (is_failed e.answer ≡ false) × (is_gone e.answer ≡ false) =
          not_gone m.known that.begin t s was e.answer own fits no_failure in
          let after_is : slot_told that.begin.n that.begin.call e.answer was ≡ Some it =
          sym (now_is ∙ (λ j. slot_after that.begin.n that.begin.call e.answer (was_is j))) ∙ is in
          let none : it.doubt ≡ None =
          quiet that.begin.n that.begin.n that.begin.call e.answer was fits
          (in_kind good.0) good.0 good.1 it after_is in
          absurd cc
      by None was_is fits = absurd (false≢true fits)

-- ---- an answer to a call

pub answered_open : (m : Moment) → KnownFacts m → (e : End) → EndsCall e (m.calls e.n) → (t s : ℕ) → works m t ≡ true
    → is_some (m.known.task t).failed ≡ false
    → is_some ((learn m.known (entries.End e)).task t).failed ≡ false
    → IsOpenFor (learn m.known (entries.End e)) (at eqb e.n None m.calls) t s
answered_open m h e may t s working was unfailed = by (m.calls e.n) refl may
  where
    performed : (that : OpenCall) → m.calls e.n ≡ Some that → (did : Option Did) → that.did ≡ did
        → answers e.answer did → that.begin.owner ≡ Compile t s
        → IsOpenFor (learn m.known (entries.End e)) (at eqb e.n None m.calls) t s
    performed that open_now (Some d) did told own = own_open m h t s working e that open_now own d did told unfailed
    performed that open_now None did told own = absurd told

    here : (that : OpenCall) → m.calls e.n ≡ Some that → answers e.answer that.did → (task k : ℕ)
        → that.begin.owner ≡ Compile task k → (c : Bool) → eqb task t ≡ c → (d : Bool) → eqb k s ≡ d
        → IsOpenFor (learn m.known (entries.End e)) (at eqb e.n None m.calls) t s
    here that open_now ends task k own true one true two =
        performed that open_now that.did refl ends
        (own ∙ (λ j. Compile (eqb-true task t one j) (eqb-true k s two j)))
    here that open_now ends task k own true one false two =
        others_open m h t s working was e that open_now
        (λ same. let both : Compile task k ≡ Compile t s = sym own ∙ same in
        let slot : k ≡ s = cc in false≢true (sym two ∙ eq-eqb k s slot))
    here that open_now ends task k own false one d two =
        others_open m h t s working was e that open_now
        (λ same. let both : Compile task k ≡ Compile t s = sym own ∙ same in
        let equal : task ≡ t = cc in false≢true (sym one ∙ eq-eqb task t equal))

    of_owner : (that : OpenCall) → m.calls e.n ≡ Some that → answers e.answer that.did → (owner : Owner)
        → that.begin.owner ≡ owner
        → IsOpenFor (learn m.known (entries.End e)) (at eqb e.n None m.calls) t s
    of_owner that open_now ends (Instance i) own =
        others_open m h t s working was e that open_now
        (λ same. let both : Instance i ≡ Compile t s = sym own ∙ same in absurd cc)
    of_owner that open_now ends (Compile task k) own =
        here that open_now ends task k own (eqb task t) refl (eqb k s) refl
    of_owner that open_now ends (Disk d) own =
        others_open m h t s working was e that open_now
        (λ same. let both : Disk d ≡ Compile t s = sym own ∙ same in absurd cc)

    by : (that : Option OpenCall) → m.calls e.n ≡ that → EndsCall e that
        → IsOpenFor (learn m.known (entries.End e)) (at eqb e.n None m.calls) t s
    by (Some that) open_now ends = of_owner that open_now ends that.begin.owner refl
    by None open_now ends = absurd ends
