-- The slots of a task have few calls, when one of them is answered.
use Rattle.std.proofs.Common.{◌≡◌, ◌∙◌, ℕ, ◌+◌, ◌≤◌, ◌<◌, Bool, true, false, Option, Some, None, List}
use Rattle.std.proofs.Common.{arith, refl, subst, sym}
use Rattle.std.specs.Prelude.{◌&&◌, ◌==◌, count_by, eqb, if◌then◌else◌, is_some, length, not}
use Rattle.std.specs.Option.{option_eq}
use Rattle.std.proofs.lemmas.Bool.{and_from, and_parts, eq-eqb, eqb-true, false≢true, not-true, or_left}
use Rattle.bosh_base.specs.Answer.{is_kind}
use Rattle.bosh_base.specs.Call.{method_of}
use Rattle.bosh_base.specs.CallStep.{is_gone}
use Rattle.bosh_base.specs.declared.answer.Answer.{Answer}
use Rattle.bosh_base.specs.declared.answer.Answer.TheVariants as answers
use Rattle.bosh_base.specs.declared.call.Call.{Call}
use Rattle.bosh_base.specs.declared.call.Call.TheVariants as calls
use Rattle.bosh_base.specs.declared.digest.Digest.{Digest}
use Rattle.bosh_base.specs.declared.entry.Begin.{Begin}
use Rattle.bosh_base.specs.declared.entry.End.{End}
use Rattle.bosh_base.specs.declared.entry.Entry.TheVariants as entries
use Rattle.bosh_base.specs.declared.key.Key.{Key}
use Rattle.bosh_base.specs.declared.key.KeyWork.{KeyWork}
use Rattle.bosh_base.specs.declared.make.Make.{Make}
use Rattle.bosh_base.specs.declared.owner.Owner.{Owner}
use Rattle.bosh_base.specs.declared.owner.Owner.TheVariants.{Compile}
use Rattle.bosh_base.specs.declared.row.Doubt.{Doubt}
use Rattle.bosh_compile.proofs.KeyLemmas.{same_key_decides}
use Rattle.bosh_compile.specs.Readiness.{same_key}
use Rattle.bosh_history.specs.Calls.{call_ended, compiles, ends_of}
use Rattle.bosh_history.specs.Items.{slots_of}
use Rattle.bosh_history.specs.Known.{Known, Slot, Task}
use Rattle.bosh_history.specs.Moments.{Moment, OpenCall, noting}
use Rattle.bosh_history.specs.Slots.{is_compiled, is_ready, keys_of, slot_after}
use Rattle.bosh_history.specs.Steps.{is_owners, work_for}
use Rattle.bosh_history.specs.Words.{at, holds, numbers_below}
use Rattle.bosh_lawful.specs.Clean.{is_failed}
use Rattle.laws_cloud.proofs.CallLemmas.{doubt_is}
use Rattle.laws_counted.proofs.SlotFacts.{Grows, KeepsCompilations, compiles_on, held_by_slots, most, most_any, most_as}
use Rattle.laws_counted.proofs.SlotFacts.{most_compiled, most_kept, most_same, past_grows, past_low, slots_step}
use Rattle.laws_counted.proofs.SlotMoves.{other_slot}
use Rattle.laws_counted.proofs.SumLemmas.{count_grows}
use Rattle.laws_counts.specs.Counts.{are_slots_few, compiles_now, compiles_package}
use Rattle.laws_counts.specs.Counts.{is_key_held, is_past, makes_or_deletes}
use Rattle.laws_counts.specs.Courses.{Account}
use Rattle.laws_facts.specs.CompileMachines.{is_being_deleted, is_for, is_slot_of_goal}
use Rattle.laws_facts.specs.KnownFacts.{KnownFacts}
use Rattle.laws_facts.specs.OpenCalls.{fits_slot}
use Rattle.laws_facts.specs.Owners.{works}
use Rattle.laws_heard.proofs.AnswerLemmas.{implied}
use Rattle.laws_items.proofs.ListLemmas.{any_in, below_in, find_in, holds_some, none_from}
use Rattle.laws_items.proofs.OwnerLemmas.{same_owner_is}
use Rattle.laws_items.proofs.SlotFrames.{answered_apart, slots_ended, slots_told}
use Rattle.laws_row_facts.specs.Words.{implies, where_any}
use Rattle.laws_rows.specs.Rightful.{is_machine}

-- the slot, once a call of it is answered
pub ended_slot : (k : Known) (b : Begin) (answer : Answer) (t s : ℕ) → b.owner ≡ Compile t s
    → (call_ended answer (Some b) k).slot t s ≡ slot_after b.n b.call answer (k.slot t s)
ended_slot k b answer t s own =
    (λ j. slots_ended answer b k j t s) ∙ (λ j. slots_told b answer (own j) k.slot t s)
    ∙ (λ j. (if eq-eqb t t refl j then at eqb s now (k.slot t) else k.slot t) s)
    ∙ (λ j. if eq-eqb s s refl j then now else k.slot t s)
  where
    now : Option Slot
    now = slot_after b.n b.call answer (k.slot t s)

pub and_no : (b c : Bool) → c ≡ false → (b && c) ≡ false
and_no true c none = none
and_no false c none = refl

module _ (m : Moment) (h : KnownFacts m) (e : End) (that : OpenCall) (open_now : m.calls e.n ≡ Some that) (t s : ℕ)
    (own : that.begin.owner ≡ Compile t s) (working : works m t ≡ true)
    (below : s < length (slots_of (m.known.task t).goal)) (later : KnownFacts (noting m (entries.End e)))
    (a after : Account) (made : (k : ℕ) → after.made (Compile t k) ≡ a.made (Compile t k))
    (grows : Grows m.known (noting m (entries.End e)).known) (well : is_failed e.answer ≡ false)
    (here : is_gone e.answer ≡ false) (kind : is_kind (method_of that.begin.call) e.answer ≡ true) (it : Slot)
    (there : m.known.slot t s ≡ Some it) (fits : fits_slot that.begin.n that.begin.call it ≡ true) where
  abbrev n : Moment
  n = noting m (entries.End e)

  abbrev task : Task
  task = m.known.task t

  abbrev b : Begin
  b = that.begin

  begun : m.known.begun e.n ≡ Some b
  begun = (h.calls e.n that open_now).begun

  slot_now : n.known.slot t s ≡ slot_after b.n b.call e.answer (Some it)
  slot_now =
      (λ j. (call_ended e.answer (begun j) m.known).slot t s)
      ∙ (ended_slot m.known b e.answer t s own ∙ (λ j. slot_after b.n b.call e.answer (there j)))

  slot_other : (k : ℕ) → (s == k) ≡ false → n.known.slot t k ≡ m.known.slot t k
  slot_other k other =
      answered_apart e.answer (m.known.begun e.n) m.known t k
      (λ x is same.
      let one : b ≡ x = let two : Some b ≡ Some x = sym begun ∙ is in cc in
      other_slot t s k other (sym own ∙ ((λ j. (one j).owner) ∙ same)))

  -- a compilation that is open is another call, unless this one compiles
  keeps : compiles_package b.call ≡ false → (owner : Owner) → KeepsCompilations m n owner
  keeps none owner k call is compiles = (call, by (eqb e.n k) refl, refl)
    where
      by : (same : Bool) → eqb e.n k ≡ same → (if same then None else m.calls k) ≡ Some call
      by true same =
          let at : m.calls e.n ≡ Some call = (λ j. m.calls (eqb-true e.n k same j)) ∙ is in
          let one : that ≡ call = let two : Some that ≡ Some call = sym open_now ∙ at in cc in
          absurd (false≢true
          (sym none ∙ ((λ j. compiles_package (one j).begin.call)
          ∙ (and_parts (is_owners owner call) (compiles_package call.begin.call) compiles).1)))
      by false other = is

  -- .. or is of another slot
  keeps_other : (k : ℕ) → (s == k) ≡ false → KeepsCompilations m n (Compile t k)
  keeps_other k other x call is compiles = (call, by (eqb e.n x) refl, refl)
    where
      by : (same : Bool) → eqb e.n x ≡ same → (if same then None else m.calls x) ≡ Some call
      by true same =
          let at : m.calls e.n ≡ Some call = (λ j. m.calls (eqb-true e.n x same j)) ∙ is in
          let one : that ≡ call = let two : Some that ≡ Some call = sym open_now ∙ at in cc in
          absurd (other_slot t s k other
          (sym own ∙ ((λ j. (one j).begin.owner)
          ∙ sym (same_owner_is (Compile t k) call.begin.owner
          (and_parts (is_owners (Compile t k) call) (compiles_package call.begin.call) compiles).0))))
      by false other = is

  most_other : (k : ℕ) → (s == k) ≡ false → most m t k (m.known.slot t k) ≤ most n t k (n.known.slot t k)
  most_other k other = most_as m n t k grows (slot_other k other) (compiles_on m n later (Compile t k)
      (keeps_other k other))

  -- the machine stays, for the same key
  stayed : (now : Slot) → n.known.slot t s ≡ Some now → now.key ≡ it.key
      → most m t s (Some it) ≤ most n t s (Some now) → are_slots_few m t task a ≡ true
      → are_slots_few n t task after ≡ true
  stayed now new key low is =
      slots_step m n t task a after s 0 0 0 0 below
      (λ k other. subst (λ (x : ℕ). x ≤ a.made (Compile t k)) (sym (made k)) (omega arith))
      (subst (λ (x : ℕ). x ≤ a.made (Compile t s) + 0) (sym (made s)) (omega arith))
      most_other
      (subst (λ (slot : Option Slot). most m t s slot + 0 ≤ most n t s (n.known.slot t s) + 0) (sym there)
      (subst (λ (slot : Option Slot). most m t s (Some it) + 0 ≤ most n t s slot + 0) (sym new) (omega (arith, low))))
      (let keys : count_by (is_past m.known t task) (keys_of task.goal)
      ≤ count_by (is_past n.known t task) (keys_of task.goal) =
      past_low m n t task grows (held_by_slots m n t task by_slot) in
      omega (arith, keys))
      (omega arith) is
    where
      by_slot : (key : Key) (k : ℕ) → is_compiled m.known key ≡ true
          → holds (is_for (Some key)) (n.known.slot t k) ≡ true → holds (is_for (Some key)) (m.known.slot t k) ≡ true
      by_slot wanted k compiled held = at_slot (s == k) refl
        where
          own_key : holds (is_for (Some wanted)) (n.known.slot t s) ≡ true
              → holds (is_for (Some wanted)) (m.known.slot t s) ≡ true
          own_key held =
              (λ j. holds (is_for (Some wanted)) (there j))
              ∙ (sym (λ j. option_eq same_key (Some wanted) (key j))
              ∙ (sym (λ j. holds (is_for (Some wanted)) (new j)) ∙ held))

          at_slot : (same : Bool) → (s == k) ≡ same → holds (is_for (Some wanted)) (m.known.slot t k) ≡ true
          at_slot true same =
              subst (λ (x : ℕ). holds (is_for (Some wanted)) (m.known.slot t x) ≡ true) (eqb-true s k same)
              (own_key
              (subst (λ (x : ℕ). holds (is_for (Some wanted)) (n.known.slot t x) ≡ true) (sym (eqb-true s k same))
              held))
          at_slot false other = sym (λ j. holds (is_for (Some wanted)) (slot_other k other j)) ∙ held

  -- ---- the machine was deleted

  -- the work of its key, which is compiled
  module _ (deleted : is_being_deleted it ≡ true) (none : n.known.slot t s ≡ None) where
    compiled : holds (is_compiled m.known) it.key ≡ true
    compiled =
        implied (is_being_deleted it) (holds (is_compiled m.known) it.key)
        (sym (λ j. where_any (λ it. implies (is_being_deleted it) (holds (is_compiled m.known) it.key)) (there j))
        ∙ implied (works m t) _ (h.slots_work t s).compiled working) deleted

    for_work : holds (λ key. holds (is_ready m.known) (work_for task.goal key)) it.key ≡ true
    for_work =
        (and_parts (holds (λ key. holds (is_ready m.known) (work_for task.goal key)) it.key) _
        (sym (λ j. where_any (is_slot_of_goal m t s) (there j))
        ∙ implied (works m t) _ (h.slots_work t s).of_goal working)).0

    pub slot_gone : are_slots_few m t task a ≡ true → are_slots_few n t task after ≡ true
    slot_gone is = of (holds_some (is_compiled m.known) it.key compiled)
      where
        of : (key : Key) × (it.key ≡ Some key) × (is_compiled m.known key ≡ true) → are_slots_few n t task after ≡ true
        of (key, keyed, done) = over (holds_some (is_ready m.known) (work_for task.goal key) ready)
          where
            ready : holds (is_ready m.known) (work_for task.goal key) ≡ true
            ready =
                sym (λ j. holds (λ key. holds (is_ready m.known) (work_for task.goal key)) (keyed j)) ∙ for_work

            over : (work : KeyWork) × (work_for task.goal key ≡ Some work) × (is_ready m.known work ≡ true)
                → are_slots_few n t task after ≡ true
            over (work, found, needs) =
                slots_step m n t task a after s 0 0 3 1 below
                (λ k other. subst (λ (x : ℕ). x ≤ a.made (Compile t k)) (sym (made k)) (omega arith))
                (subst (λ (x : ℕ). x ≤ a.made (Compile t s) + 0) (sym (made s)) (omega arith))
                most_other
                (let low : most m t s (m.known.slot t s) ≤ 3 = most_any m t s (m.known.slot t s) in omega (arith, low))
                (count_grows (is_past m.known t task) (is_past n.known t task) work (keys_of task.goal)
                (find_in (λ work. same_key work.key key) work (keys_of task.goal) found).0
                (λ other isin past. past_grows m n t task grows (held_by_slots m n t task by_slot) other past)
                (and_no (is_compiled m.known work.key) (not (is_key_held m.known t task work.key)) (λ j. not
                (held_now j)))
                passed)
                (omega arith) is
              where
                same : work.key ≡ key
                same =
                    (same_key_decides work.key key).0
                    (find_in (λ work. same_key work.key key) work (keys_of task.goal) found).1

                at_none : (k : ℕ) → (s == k) ≡ true → n.known.slot t k ≡ None
                at_none k one = subst (λ (x : ℕ). n.known.slot t x ≡ None) (eqb-true s k one) none

                by_slot : (wanted : Key) (k : ℕ) → is_compiled m.known wanted ≡ true
                    → holds (is_for (Some wanted)) (n.known.slot t k) ≡ true
                    → holds (is_for (Some wanted)) (m.known.slot t k) ≡ true
                by_slot wanted k compiled held = at_slot (s == k) refl
                  where
                    at_slot : (same : Bool) → (s == k) ≡ same → holds (is_for (Some wanted)) (m.known.slot t k) ≡ true
                    at_slot true same =
                        absurd (false≢true (sym (λ j. holds (is_for (Some wanted)) (at_none k same j)) ∙ held))
                    at_slot false other = sym (λ j. holds (is_for (Some wanted)) (slot_other k other j)) ∙ held

                held_now : is_key_held m.known t task work.key ≡ true
                held_now =
                    any_in (λ s. holds (is_for (Some work.key)) (m.known.slot t s)) s
                    (numbers_below (length (slots_of task.goal))) (below_in s (length (slots_of task.goal)) below)
                    ((λ j. holds (is_for (Some work.key)) (there j))
                    ∙ ((λ j. option_eq same_key (Some work.key) (keyed j)) ∙ (same_key_decides work.key key).1 same))

                alone : (k : ℕ) → (s == k) ≡ false → not (holds (is_for it.key) (m.known.slot t k)) ≡ true
                alone k other =
                    sym (λ j. where_any (λ it. not (holds (is_for it.key) (m.known.slot t k))) (there j))
                    ∙ implied (works m t && not (s == k)) _ ((h.slots_work t s).alone k)
                    (and_from (works m t) (not (s == k)) working (λ j. not (other j)))

                free : is_key_held n.known t task work.key ≡ false
                free =
                    none_from (λ s. holds (is_for (Some work.key)) (n.known.slot t s))
                    (numbers_below (length (slots_of task.goal))) (λ k isin. each k (s == k) refl)
                  where
                    each : (k : ℕ) (own : Bool) → (s == k) ≡ own
                        → holds (is_for (Some work.key)) (n.known.slot t k) ≡ false
                    each k true one = λ j. holds (is_for (Some work.key)) ((at_none k one) j)
                    each k false other =
                        (λ j. holds (is_for (Some work.key)) (slot_other k other j))
                        ∙ ((λ j. holds (is_for (Some (same j))) (m.known.slot t k))
                        ∙ ((λ j. holds (is_for (sym keyed j)) (m.known.slot t k)) ∙ not-true _ (alone k other)))

                passed : is_past n.known t task work ≡ true
                passed =
                    and_from (is_compiled n.known work.key) (not (is_key_held n.known t task work.key))
                    (grows work.key ((λ j. is_compiled m.known (same j)) ∙ done)) (λ j. not (free j))

  -- ---- by its call

  pub few_ended : makes_or_deletes b.call ≡ true → are_slots_few m t task a ≡ true
      → are_slots_few n t task after ≡ true
  few_ended makes is = by b.call refl e.answer refl
    where
      call_now_is : (c : Call) → b.call ≡ c → (answer : Answer) → e.answer ≡ answer
          → n.known.slot t s ≡ slot_after b.n c answer (Some it)
      call_now_is c asks answer says = slot_now ∙ (λ j. slot_after b.n (asks j) (says j) (Some it))

      fits_as : (c : Call) → b.call ≡ c → fits_slot b.n c it ≡ true
      fits_as c asks = sym (λ j. fits_slot b.n (asks j) it) ∙ fits

      kind_as : (c : Call) → b.call ≡ c → (answer : Answer) → e.answer ≡ answer → is_kind (method_of c) answer ≡ true
      kind_as c asks answer says = sym (λ j. is_kind (method_of (asks j)) (says j)) ∙ kind

      makes_as : (c : Call) → b.call ≡ c → makes_or_deletes c ≡ true
      makes_as c asks = sym (λ j. makes_or_deletes (asks j)) ∙ makes

      failed : e.answer ≡ answers.Failed → ⊥
      failed says = false≢true (sym well ∙ (λ j. is_failed (says j)))

      gone : e.answer ≡ answers.Gone → ⊥
      gone says = false≢true (sym here ∙ (λ j. is_gone (says j)))

      doubt_made : (make : Make) (disks : List ℕ) → b.call ≡ calls.CreateVm make disks
          → it.doubt ≡ Some (record { n = b.n; call = calls.CreateVm make disks })
      doubt_made make disks asks =
          doubt_is b.n (calls.CreateVm make disks) it.doubt
          (and_parts (not (is_some it.vm)) _ (fits_as (calls.CreateVm make disks) asks)).1

      doubt_deleted : (v : ℕ) → b.call ≡ calls.DeleteVm v
          → it.doubt ≡ Some (record { n = b.n; call = calls.DeleteVm v })
      doubt_deleted v asks =
          doubt_is b.n (calls.DeleteVm v) it.doubt
          (and_parts (is_machine it.vm v) _ (fits_as (calls.DeleteVm v) asks)).1

      -- a key that is compiled
      compiled_most : (v : ℕ) (work : KeyWork) (deps : List Digest) → b.call ≡ calls.CompilePackage v work deps
          → (digest : Digest) → e.answer ≡ answers.Built digest → most m t s (Some it) ≤ most n t s (Some it)
      compiled_most v work deps asks digest says =
          let (machine, rest) = and_parts (is_machine it.vm v) _ (fits_as (calls.CompilePackage v work deps) asks) in
          let (settled, keyed) = and_parts (not (is_some it.doubt)) (holds (same_key work.key) it.key) rest in
          let kept : is_being_deleted it ≡ false = undoubted it.doubt refl settled in
          let low : most m t s (Some it) ≤ 2 = most_kept m t s it kept in
          subst (λ (x : ℕ). most m t s (Some it) ≤ x)
          (sym (most_compiled n t s it kept
          (or_left (holds (is_compiled n.known) it.key) (compiles_now n (Compile t s)) (of_key it.key keyed)))) low
        where
          undoubted : (doubt : Option Doubt) → it.doubt ≡ doubt → not (is_some doubt) ≡ true
              → is_being_deleted it ≡ false
          undoubted (Some d) is none = absurd (false≢true none)
          undoubted None is none = λ j. is_being_deleted (record it { doubt = is j })

          of_key : (key : Option Key) → holds (same_key work.key) key ≡ true → holds (is_compiled n.known) key ≡ true
          of_key None same = same
          of_key (Some key) same =
              (λ j. is_some ((call_ended e.answer (begun j) m.known).digest key))
              ∙ ((λ j. is_some ((compiles (asks j) (says j) (ends_of b e.answer b.owner m.known)).digest key))
              ∙ (λ j. is_some (if same j then Some digest
              else (ends_of b e.answer b.owner m.known).digest key)))

      by : (c : Call) → b.call ≡ c → (answer : Answer) → e.answer ≡ answer → are_slots_few n t task after ≡ true
      by c asks answers.Failed says = absurd (failed says)
      by c asks answers.Gone says = absurd (gone says)
      by (calls.CreateVm make disks) asks (answers.Cid v) says =
          stayed (record it { vm = Some (record { vm = v; agent = b.n }); doubt = None })
          (call_now_is (calls.CreateVm make disks) asks (answers.Cid v) says) refl
          (most_same m n t s it (record it { vm = Some (record { vm = v; agent = b.n }); doubt = None }) grows refl
          (compiles_on m n later (Compile t s) (keeps (λ j. compiles_package (asks j)) (Compile t s)))
          (λ deleted.
          absurd (false≢true
          (sym (λ j. is_being_deleted (record it { doubt = doubt_made make disks asks j })) ∙ deleted))))
          is
      by (calls.CreateVm make disks) asks answer says =
          absurd (false≢true (kind_as (calls.CreateVm make disks) asks answer says))
      by (calls.DeleteVm v) asks answers.Done says =
          slot_gone (λ j. is_being_deleted (record it { doubt = doubt_deleted v asks j }))
          (call_now_is (calls.DeleteVm v) asks answers.Done says) is
      by (calls.DeleteVm v) asks answer says =
          absurd (false≢true (kind_as (calls.DeleteVm v) asks answer says))
      by (calls.CompilePackage v work deps) asks (answers.Built digest) says =
          stayed it (call_now_is (calls.CompilePackage v work deps) asks (answers.Built digest) says) refl
          (compiled_most v work deps asks digest says) is
      by (calls.CompilePackage v work deps) asks answer says =
          absurd (false≢true (kind_as (calls.CompilePackage v work deps) asks answer says))
      by c asks answer says = absurd (false≢true (makes_as c asks))
