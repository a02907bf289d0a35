-- The choice among those that are asked, and among those that leave.
use Rattle.std.proofs.Common.{◌≡◌, ◌∙◌, ℕ, Bool, true, false, ◌&&◌, ◌||◌, not, List}
use Rattle.std.proofs.Common.{Option, Some, None, ap, refl, sym, arith}
use Rattle.std.specs.Prelude.{◌==◌, find, is_some, slice_get, if◌then◌else◌}
use Rattle.std.specs.Option.{option_and_then, option_map, unwrap_or}
use Rattle.std.proofs.lemmas.Bool.{and_parts, false≢true}
use Rattle.bosh_base.specs.declared.call.Call.{Call}
use Rattle.bosh_base.specs.declared.call.Call.TheVariants as calls
use Rattle.bosh_base.specs.declared.entry.Entry.{Entry}
use Rattle.bosh_base.specs.declared.entry.Entry.TheVariants as entries
use Rattle.bosh_base.specs.declared.goal.GoalRow.{GoalRow}
use Rattle.bosh_base.specs.declared.inst.Inst.{Inst}
use Rattle.bosh_base.specs.declared.owner.Owner.{Owner}
use Rattle.bosh_base.specs.declared.owner.Owner.TheVariants.{Instance}
use Rattle.bosh_base.specs.declared.row.Row.{Row}
use Rattle.bosh_base.specs.declared.row.Vm.{Vm}
use Rattle.bosh_claim.specs.Noted.{beginning, leaving, leaving_entry, ping, ping_at}
use Rattle.bosh_claim.specs.Step.{step_of, step_on}
use Rattle.bosh_history.specs.Claim.{instance_item, new_call}
use Rattle.bosh_history.specs.Goals.{is_waiting, may_begin}
use Rattle.bosh_history.specs.Items.{is_before, is_to_go, is_to_ping, phase_of}
use Rattle.bosh_history.specs.Known.{Known, Task, want_in}
use Rattle.bosh_history.specs.Moments.{Moment}
use Rattle.bosh_history.specs.Steps.{is_idle, want_of}
use Rattle.bosh_records.specs.Readers as readers
use Rattle.bosh_records.specs.declared.records.Records.{Records}
use Rattle.bosh_rows.specs.After.{bare}
use Rattle.bosh_rows.specs.CallOf.{next_call}
use Rattle.bosh_work.specs.declared.part.MachineName.{MachineName}
use Rattle.bosh_work.specs.declared.work.Work.{Work}
use Rattle.laws_stands.proofs.AnswerLemmas.{answers_filter, answers_find, answers_same}
use Rattle.laws_stands.proofs.AnswerLemmas.{gives}
use Rattle.laws_stands.proofs.MemberLemmas.{among_from}
use Rattle.laws_stands.proofs.LineLemmas.{first_is}
use Rattle.laws_stands.proofs.PhaseLemmas.{IsPresent, answer, is_phase, item_as, not_before}
use Rattle.laws_stands.proofs.PhaseLemmas.{of_asked, of_leaving}
use Rattle.laws_stands.proofs.PremiseLemmas.{asked_phase, going_phase, never}
use Rattle.laws_stands.specs.Choosing.{CanChoose, idle_at}

-- ---- options

pub then_same : {A B : Type 0} (f g : A → Option B) (o : Option A) → ((x : A) → f x ≡ g x) → option_and_then f o
    ≡ option_and_then g o
then_same f g (Some x) same = same x
then_same f g None same = refl

pub map_then : {A B C : Type 0} (g : B → C) (f : A → Option B) (o : Option A) → option_map g (option_and_then f o)
    ≡ option_and_then (λ x. option_map g (f x)) o
map_then g f (Some x) = refl
map_then g f None = refl

map_as : {A B : Type 0} (g : A → B) (o : Option A) → option_map g o ≡ option_and_then (λ x. Some (g x)) o
map_as g (Some x) = refl
map_as g None = refl

pub mapped_some : {A B : Type 0} (g : A → B) (o : Option A) → is_some o ≡ true → is_some (option_map g o) ≡ true
mapped_some g (Some x) is = refl
mapped_some g None is = is

-- left and idle, as one test
pub both : {B : Type 0} (l d : Bool) (o : Option B) → (if l then (if d then o else None) else None)
    ≡ (if l && d then o else None)
both true d o = refl
both false d o = refl

module _ (m : Moment) (n worker : ℕ) (records : Records) (swept : List MachineName) (work : Work)
    (can : CanChoose m n records swept work) where
  abbrev k : Known
  k = m.known

  abbrev t : Task
  t = m.known.task n

  pub call_is : (owner : Owner) (call : Call) → beginning records work worker owner call
      ≡ new_call m n worker owner call
  call_is owner call = λ j. entries.Begin (record {
    n = can.number_is j;
    task = can.task_is j;
    worker = worker;
    owner = owner;
    call = call;
  })

  -- an item of the present phase has the answer that it gives
  pub answer_at : (phase : ℕ) → IsPresent k n phase → (owner : Owner) → not_before k n phase owner ≡ true
      → phase_of k n owner ≡ Some phase
      → answer k n (gives m n worker) owner ≡ gives m n worker owner
  answer_at phase present owner late is =
      ap (λ b. if b then gives m n worker owner else None) (item_as k n phase present owner late
      ∙ ap (is_phase k n phase) is ∙ same phase)
    where
      same : (p : ℕ) → (p == p) ≡ true
      same p = grind (arith)

  -- another owner has none
  pub answer_of_others : (phase : ℕ) → IsPresent k n phase → (owner : Owner) → not_before k n phase owner ≡ true
      → is_phase k n phase (phase_of k n owner) ≡ false
      → answer k n (gives m n worker) owner ≡ None
  answer_of_others phase present owner late other =
      ap (λ b. if b then gives m n worker owner else None) (item_as k n phase present owner late ∙ other)

  -- ---- machines that are asked

  row_vm : (i : Inst) (o : Option Row) → unwrap_or o (bare i) ≡ k.row i → option_and_then (λ row. row.vm) o
      ≡ (k.row i).vm
  row_vm i (Some row) is = ap (λ (row : Row). row.vm) is
  row_vm i None is = ap (λ (row : Row). row.vm) is

  abbrev ask_of : Inst → Option Entry
  ask_of i = option_map (λ (vm : ℕ). new_call m n worker (Instance i) (calls.Ping vm))
      (option_map (λ (it : Vm). it.vm) (k.row i).vm)

  asked_gives : (i : Inst) → is_to_ping t i ≡ true → gives m n worker (Instance i)
      ≡ (if idle_at m i then ask_of i else None)
  asked_gives i is = by (k.row i).vm refl (can.asked i is)
    where
      of : (d : Bool) (e : Entry) → (if not d || false then None else Some e) ≡ (if d then Some e else None)
      of true e = refl
      of false e = refl

      by : (o : Option Vm) → (k.row i).vm ≡ o → is_some o ≡ true → gives m n worker (Instance i)
          ≡ (if idle_at m i then ask_of i else None)
      by None there some = absurd (false≢true some)
      by (Some vm) there some =
          (λ j. if not (is_idle m (Instance i)) || ((not (is j) && (not (is_to_go t i) && is_waiting (t.upd i)))
          && not (may_begin t i)) then None
          else Some (instance_item m n worker i (if is j then option_map (λ it. calls.Ping it.vm) (there j)
          else next_call (want_of t i) (k.row i))))
          ∙ (λ j. if not (is_idle m (Instance i)) || false then None
          else Some (if not (is j) && (not (is_to_go t i) && is_waiting (t.upd i)) then entries.UpdBegin
          (record { task = n; inst = i }) else new_call m n worker (Instance i) (calls.Ping vm.vm)))
          ∙ of (is_idle m (Instance i)) (new_call m n worker (Instance i) (calls.Ping vm.vm))
          ∙ (λ j. if idle_at m i then option_map (λ (vm : ℕ). new_call m n worker (Instance i) (calls.Ping vm))
          (option_map (λ (it : Vm). it.vm) (sym there j)) else None)

  pub asked_is : IsPresent k n 0 → ping records work worker ≡ of_asked k n (gives m n worker)
  asked_is present =
      ap (option_and_then (ping_at records work worker))
      (first_is t.to_ping (λ i. not (t.pinged i)) (idle_at m) work.pings can.pings)
      ∙ then_same (ping_at records work worker) ask_of (find (λ i. not (t.pinged i) && idle_at m i) t.to_ping)
      ask_is
      ∙ sym (answers_filter (is_to_ping t) (λ i. answer k n (gives m n worker) (Instance i)) t.to_ping
      ∙ answers_same (λ i. if is_to_ping t i then answer k n (gives m n worker) (Instance i) else None)
      (λ i. if not (t.pinged i) && idle_at m i then ask_of i else None) t.to_ping each
      ∙ answers_find (λ i. not (t.pinged i) && idle_at m i) ask_of t.to_ping some)
    where
      ask_is : (i : Inst) → ping_at records work worker i ≡ ask_of i
      ask_is i =
          (λ j. option_map (λ (vm : ℕ). call_is (Instance i) (calls.Ping vm) j)
          (option_map (λ (it : Vm). it.vm) (row_vm i (readers.row_at records i) (can.rows_are i) j)))

      to_ping_is : (j : ℕ) (i : Inst) → slice_get t.to_ping j ≡ Some i → is_to_ping t i ≡ not (t.pinged i)
      to_ping_is j i is = ap (λ b. b && not (t.pinged i)) (among_from i t.to_ping j is)

      each : (j : ℕ) (i : Inst) → slice_get t.to_ping j ≡ Some i
          → (if is_to_ping t i then answer k n (gives m n worker) (Instance i) else None)
          ≡ (if not (t.pinged i) && idle_at m i then ask_of i else None)
      each j i is = by (is_to_ping t i) refl
          ∙ ap (λ b. if b then (if idle_at m i then ask_of i else None) else None) (to_ping_is j i is)
          ∙ both (not (t.pinged i)) (idle_at m i) (ask_of i)
        where
          by : (b : Bool) → is_to_ping t i ≡ b → (if b then answer k n (gives m n worker) (Instance i) else None)
              ≡ (if b then (if idle_at m i then ask_of i else None) else None)
          by true asks = answer_at 0 present (Instance i) (never k n (Instance i)) (asked_phase k n i asks)
              ∙ asked_gives i asks
          by false asks = refl

      some : (j : ℕ) (i : Inst) → slice_get t.to_ping j ≡ Some i → (not (t.pinged i) && idle_at m i) ≡ true
          → is_some (ask_of i) ≡ true
      some j i is passes =
          let parts : (not (t.pinged i) ≡ true) × (idle_at m i ≡ true) =
          and_parts (not (t.pinged i)) (idle_at m i) passes in
          mapped_some (λ (vm : ℕ). new_call m n worker (Instance i) (calls.Ping vm))
          (option_map (λ (it : Vm). it.vm) (k.row i).vm)
          (mapped_some (λ (it : Vm). it.vm) (k.row i).vm (can.asked i (to_ping_is j i is ∙ parts.0)))

  -- ---- obsolete instances

  -- what is noted of one that goes
  abbrev go_of : Inst → Entry
  go_of i = leaving records work worker i (step_of records None i)

  pub step_is : (want : Option GoalRow) (i : Inst) → step_of records want i ≡ next_call want (k.row i)
  step_is want i = ap (step_on want) (can.rows_are i) ∙ ap (λ b. if b then next_call want (k.row i) else None)
      (can.have_machines i)

  going_gives : (i : Inst) → is_to_ping t i ≡ false → is_to_go t i ≡ true → gives m n worker (Instance i)
      ≡ (if idle_at m i then Some (go_of i) else None)
  going_gives i calm is =
      (λ j. if not (is_idle m (Instance i)) || ((not (calm j) && (not (is j) && is_waiting (t.upd i)))
      && not (may_begin t i)) then None
      else Some (instance_item m n worker i (if calm j then option_map (λ it. calls.Ping it.vm) (k.row i).vm
      else next_call (if is j then None else want_in t.goal i) (k.row i))))
      ∙ of (is_idle m (Instance i)) (instance_item m n worker i (next_call None (k.row i)))
      ∙ ap (λ e. if idle_at m i then Some e else None) (by (next_call None (k.row i))
      ∙ ap (leaving records work worker i) (sym (step_is None i)))
    where
      of : (d : Bool) (e : Entry) → (if not d || false then None else Some e) ≡ (if d then Some e else None)
      of true e = refl
      of false e = refl

      by : (call : Option Call) → instance_item m n worker i call ≡ leaving records work worker i call
      by (Some call) = (λ j. if not (calm j) && (not (is j) && is_waiting (t.upd i)) then entries.UpdBegin
          (record { task = n; inst = i }) else new_call m n worker (Instance i) call)
          ∙ sym (call_is (Instance i) call)
      by None = (λ j. if is j then entries.Gone (record { task = n; inst = i }) else entries.UpdDone
          (record { task = n; inst = i })) ∙ (λ j. entries.Gone (record { task = sym can.task_is j; inst = i }))

  pub leaving_is : IsPresent k n 3 → ((i : Inst) → is_to_ping t i ≡ false) → leaving_entry records work worker
      ≡ of_leaving k n (gives m n worker)
  leaving_is present calm =
      ap (option_map go_of) (first_is t.obsolete (λ i. not (t.gone i)) (idle_at m) work.obsolete can.obsolete)
      ∙ map_as go_of (find (λ i. not (t.gone i) && idle_at m i) t.obsolete)
      ∙ sym (answers_filter (is_to_go t) (λ i. answer k n (gives m n worker) (Instance i)) t.obsolete
      ∙ answers_same (λ i. if is_to_go t i then answer k n (gives m n worker) (Instance i) else None)
      (λ i. if not (t.gone i) && idle_at m i then Some (go_of i) else None) t.obsolete each
      ∙ answers_find (λ i. not (t.gone i) && idle_at m i) (λ i. Some (go_of i)) t.obsolete (λ j i is passes. refl))
    where
      each : (j : ℕ) (i : Inst) → slice_get t.obsolete j ≡ Some i
          → (if is_to_go t i then answer k n (gives m n worker) (Instance i) else None)
          ≡ (if not (t.gone i) && idle_at m i then Some (go_of i) else None)
      each j i is =
          by (is_to_go t i) refl
          ∙ ap (λ b. if b then (if idle_at m i then Some (go_of i) else None) else None)
          (ap (λ b. b && not (t.gone i)) (among_from i t.obsolete j is))
          ∙ both (not (t.gone i)) (idle_at m i) (Some (go_of i))
        where
          by : (b : Bool) → is_to_go t i ≡ b → (if b then answer k n (gives m n worker) (Instance i) else None)
              ≡ (if b then (if idle_at m i then Some (go_of i) else None) else None)
          by true goes =
              answer_at 3 present (Instance i) (late goes) (going_phase k n i (calm i) goes)
              ∙ going_gives i (calm i) goes
            where
              late : is_to_go t i ≡ true → not_before k n 3 (Instance i) ≡ true
              late goes = ap (λ o. not (is_before 3 o)) (going_phase k n i (calm i) goes)
          by false goes = refl
