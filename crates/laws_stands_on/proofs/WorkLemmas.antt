-- The work of a task goes on to stand.
use Rattle.std.proofs.Common.{◌≡◌, ◌∙◌, ℕ, ◌+◌, ◌≤◌, Bool, true, false, ◌&&◌, not, List, Some}
use Rattle.std.proofs.Common.{None, ap, refl, sym, subst, arith, Option}
use Rattle.std.specs.Prelude.{◌==◌, ◌-◌, count_by, eqb, is_some, min, if◌then◌else◌}
use Rattle.std.specs.List.{list_all, list_any}
use Rattle.std.specs.Option.{option_map}
use Rattle.std.proofs.lemmas.Bool.{eq-eqb, false≢true}
use Rattle.bosh_base.specs.Cloud.{numbers_to}
use Rattle.bosh_base.specs.declared.call.Call.{Call}
use Rattle.bosh_base.specs.declared.entry.Begin.{Begin}
use Rattle.bosh_base.specs.declared.entry.Entry.TheVariants as entries
use Rattle.bosh_base.specs.declared.inst.Inst.{Inst}
use Rattle.bosh_base.specs.declared.owner.Owner.{Owner}
use Rattle.bosh_base.specs.declared.owner.Owner.TheVariants.{Compile, Disk, Instance}
use Rattle.bosh_history.specs.Calls.{task_with_call, call_ended, compiles, ends_of, failure_of, least_failure}
use Rattle.bosh_history.specs.Calls.{task_after_ping, task_told}
use Rattle.bosh_history.specs.Known.{Known, SlotName, Task}
use Rattle.bosh_history.specs.Slots.{is_compiled, works_for}
use Rattle.bosh_history.specs.Steps as steps
use Rattle.bosh_base.specs.declared.digest.Digest.{Digest}
use Rattle.bosh_base.specs.declared.key.Key.{Key}
use Rattle.bosh_base.specs.declared.key.KeyWork.{KeyWork}
use Rattle.bosh_compile.proofs.KeyLemmas.{same_key_decides}
use Rattle.bosh_history.specs.Updates.{update_at}
use Rattle.bosh_history.specs.Words.{at, holds}
use Rattle.bosh_rows.specs.SoundSnapshot.{are_distinct}
use Rattle.bosh_roll.specs.declared.upd.Upd.TheVariants.{Busy}
use Rattle.bosh_rows.specs.Same.{same_inst, same_owner}
use Rattle.bosh_work.specs.Work as work_specs
use Rattle.bosh_work.specs.declared.part.MachineName.{MachineName}
use Rattle.bosh_work.specs.declared.work.Work.{Work}
use Rattle.bosh_base.specs.declared.answer.Answer.{Answer}
use Rattle.bosh_base.specs.declared.call.Call.TheVariants.{CompilePackage, Ping}
use Rattle.bosh_base.specs.declared.failure.Failure.{Failure}
use Rattle.bosh_work.specs.Line.{given_line}
use Rattle.laws_stands.specs.LineStands.{LineStands, place_of}
use Rattle.bosh_base.specs.declared.answer.Answer.TheVariants as answers
use Rattle.laws_stands.specs.GroupsStand.{change_place, gone_on}
use Rattle.laws_stands.specs.Told.{Told, idle_in, is_idle, telling}
use Rattle.laws_stands.specs.WorkStands.{StandsFor, WorkStands, asked_line, asks, end_of, is_task_call}
use Rattle.laws_stands.specs.WorkStands.{is_worked_for, keys_in, places_of}
use Rattle.laws_stands.proofs.MemberLemmas.{inst_is}
use Rattle.laws_stands_on.proofs.KeptLemmas.{call_begun, update_begun, call_given}
use Rattle.laws_stands.proofs.LineLemmas.{stands_on, stands_taken, stands_finished, stands_given}
use Rattle.laws_stands.proofs.MarkLemmas.{one_more}
use Rattle.laws_stands_on.proofs.CallLemmas.{idle_begun, idle_ended, inst_flip, one_less, one_more_call}

-- ---- the update of an instance begins

pub after_update_begun : (told : Told) (n : ℕ) (swept : List MachineName) (work new : Work) (i : Inst)
    → WorkStands told n swept work
    → are_distinct same_inst (told.known.task n).changed ≡ true
    → idle_in told i ≡ true
    → new ≡ work_specs.update_begun work (change_place (told.known.task n).changed i)
    → WorkStands (telling told (entries.UpdBegin (record { task = n; inst = i }))) n swept new
after_update_begun told n swept work new i stands apart rests is =
    subst (λ (t : Task). StandsFor (telling told (entries.UpdBegin (record { task = n; inst = i }))) t n swept new)
    (sym now)
    (subst (λ (w : Work). StandsFor (telling told (entries.UpdBegin (record { task = n; inst = i })))
    (update_at Busy i (told.known.task n)) n swept w) (sym is)
    (record {
      task_is = stands.task_is;
      pings = stands.pings;
      obsolete = stands.obsolete;
      disks = stands.disks;
      sweep = stands.sweep;
      keys = stands.keys;
      slots_are = stands.slots_are;
      machines_are = stands.machines_are;
      changed_are = stands.changed_are;
      groups_stand = update_begun (told.known.task n) (idle_in told) i apart work.groups stands.groups_stand rests;
      failed_is = stands.failed_is;
      open_are = stands.open_are;
    }))
  where
    now : at eqb n (update_at Busy i (told.known.task n)) told.known.task n ≡ update_at Busy i (told.known.task n)
    now = ap (λ b. if b then update_at Busy i (told.known.task n) else told.known.task n) (eq-eqb n n refl)

-- ---- a call of an instance begins

pub after_call_begun : (told : Told) (n number worker : ℕ) (call : Call) (swept : List MachineName)
    (work new : Work) (i : Inst)
    → WorkStands told n swept work
    → are_distinct same_inst (told.known.task n).changed ≡ true
    → are_distinct same_inst (told.known.task n).to_ping ≡ true
    → are_distinct same_inst (told.known.task n).obsolete ≡ true
    → number ≡ told.known.last_call + 1
    → number ≤ 18446744073709551615
    → (told.known.task n).failed ≡ None
    → new ≡ work_specs.taken work (places_of (told.known.task n) i)
    → WorkStands
    (telling told
    (entries.Begin (record { n = number; task = n; worker = worker; owner = Instance i; call = call }))) n swept
    new
after_call_begun told n number worker call swept work new i stands apart pings_apart gone_apart is small none_failed
    others =
    subst (λ (t : Task). StandsFor after t n swept new) (sym now)
    (subst (λ (w : Work). StandsFor after (task_with_call (told.known.task n)) n swept w) (sym others)
    (record {
      task_is = stands.task_is;
      pings = stands_taken same_inst inst_is t.to_ping i (one_more same_inst inst_is t.to_ping pings_apart i)
          (λ x. not (t.pinged x)) (idle_in told)
          (λ x. not (t.pinged x)) (idle_in after) work.pings (λ x. refl) idle stands.pings;
      obsolete = stands_taken same_inst inst_is t.obsolete i (one_more same_inst inst_is t.obsolete gone_apart i)
          (λ x. not (t.gone x)) (idle_in told)
          (λ x. not (t.gone x)) (idle_in after) work.obsolete (λ x. refl) idle stands.obsolete;
      disks = stands_on t.disks (λ d. is_some (told.known.orphan d)) (λ d. is_idle told (Disk d))
          (λ d. is_some (told.known.orphan d)) (λ d. is_idle after (Disk d)) work.disks (λ d. refl)
          (λ d. others_idle (Disk d) refl) stands.disks;
      sweep =
          stands_on swept (λ name. is_some (told.known.slot name.task name.slot))
          (λ name. is_idle told (Compile name.task name.slot))
          (λ name. is_some (told.known.slot name.task name.slot))
          (λ name. is_idle after (Compile name.task name.slot)) work.sweep (λ name. refl)
          (λ name. others_idle (Compile name.task name.slot) refl) stands.sweep;
      keys = stands.keys;
      slots_are = stands.slots_are;
      machines_are = stands.machines_are;
      changed_are = stands.changed_are;
      groups_stand = call_begun t (idle_in told) i apart work.groups stands.groups_stand (idle_in after) idle;
      failed_is = stands.failed_is ∙ ap (option_map _) none_failed ∙ ap (option_map _) (sym none_failed);
      open_are = ap (λ c. min (c + 1) 18446744073709551615) stands.open_are
          ∙ one_more_call told (record { n = number; task = n; worker = worker; owner = Instance i; call = call }) n
          is small (eq-eqb n n refl);
    }))
  where
    t : Task
    t = told.known.task n

    after : Told
    after = telling told
        (entries.Begin (record { n = number; task = n; worker = worker; owner = Instance i; call = call }))

    now : at eqb n (task_with_call (told.known.task n)) told.known.task n ≡ task_with_call (told.known.task n)
    now = ap (λ b. if b then task_with_call (told.known.task n) else told.known.task n) (eq-eqb n n refl)

    begun : (owner : Owner) → is_idle after owner ≡ (is_idle told owner && not (same_owner owner (Instance i)))
    begun owner = idle_begun told (record {
      n = number;
      task = n;
      worker = worker;
      owner = Instance i;
      call =
          call;
    }) owner is

    idle : (x : Inst) → idle_in after x ≡ at same_inst i false (idle_in told) x
    idle x = begun (Instance x) ∙ ap (λ b. idle_in told x && not b) (inst_flip i x)
        ∙ by (same_inst i x) (idle_in told x)
      where
        by : (b d : Bool) → (d && not b) ≡ (if b then false else d)
        by true true = refl
        by true false = refl
        by false true = refl
        by false false = refl

    others_idle : (owner : Owner) → same_owner owner (Instance i) ≡ false → is_idle after owner ≡ is_idle told owner
    others_idle owner other = begun owner ∙ ap (λ b. is_idle told owner && not b) other ∙ by (is_idle told owner)
      where
        by : (d : Bool) → (d && true) ≡ d
        by true = refl
        by false = refl

-- ---- a call of an instance ends

-- what the end of a call of an instance does not tell anew, unless it compiled
record SameRest (old new : Known) : Type 0 where
  orphan : new.orphan ≡ old.orphan
  slot : new.slot ≡ old.slot
  machines : new.machines ≡ old.machines
  digest : new.digest ≡ old.digest
  last_call : new.last_call ≡ old.last_call

-- a call that compiles is told apart
pub compiles_itself : (vm : ℕ) (w : KeyWork) (deps : List Digest)
    → ((key : Key) → steps.compiles key (CompilePackage vm w deps) ≡ false) → ⊥
compiles_itself vm w deps none = false≢true (sym (none w.key) ∙ (same_key_decides w.key w.key).1 refl)

compiled_rest : (call : Call) (answer : Answer) (k : Known) → ((key : Key) → steps.compiles key call ≡ false)
    → SameRest k (compiles call answer k)
compiled_rest (CompilePackage vm w deps) answer k none = absurd (compiles_itself vm w deps none)
compiled_rest call answer k none = record {
  orphan = refl;
  slot = refl;
  machines = refl;
  digest = refl;
  last_call =
      refl;
}

pub after_ping : (call : Call) (answer : Answer) (i : Inst) (t : Task)
    → task_after_ping call answer (Instance i) t
    ≡ record t { pinged = if asks call answer then at same_inst i true t.pinged else t.pinged }
after_ping (Ping vm) answers.Failed i t = refl
after_ping (Ping vm) answer i t = refl
after_ping call answer i t = refl

pub after_call_ended : (told : Told) (n number worker : ℕ) (call : Call) (answer : Answer)
    (swept : List MachineName) (work new : Work) (i : Inst)
    → WorkStands told n swept work
    → are_distinct same_inst (told.known.task n).changed ≡ true
    → are_distinct same_inst (told.known.task n).to_ping ≡ true
    → are_distinct same_inst (told.known.task n).obsolete ≡ true
    → ((key : Key) → steps.compiles key call ≡ false)
    → 1 ≤ number
    → number ≤ told.known.last_call
    → told.known.begun number
    ≡ Some (record { n = number; task = n; worker = worker; owner = Instance i; call = call })
    → told.calls number ≡ Some (record { n = number; task = n; worker = worker; owner = Instance i; call = call })
    → ((c : ℕ) (d : Begin) → told.calls c ≡ Some d → same_owner d.owner (Instance i) ≡ true → c ≡ number)
    → new ≡ record (work_specs.given work (places_of (told.known.task n) i)) {
      pings = asked_line (asks call answer)
          (given_line work.pings (place_of same_inst i (told.known.task n).to_ping))
          (place_of same_inst i (told.known.task n).to_ping);
      failed = new.failed;
    }
    → new.failed ≡ option_map (end_of (telling told (entries.End (record { n = number; answer = answer }))).known)
    ((telling told (entries.End (record { n = number; answer = answer }))).known.task n).failed
    → WorkStands (telling told (entries.End (record { n = number; answer = answer }))) n swept new
after_call_ended told n number worker call answer swept work new i stands apart pings_apart gone_apart none_compiled
    low high begun is one others fails =
    subst Family (sym begun) at_begun
    (subst (λ o. new.failed ≡ option_map (end_of (after o).known) ((after o).known.task n).failed) refl fails)
  where
    t : Task
    t = told.known.task n

    b : Begin
    b = record { n = number; task = n; worker = worker; owner = Instance i; call = call }

    after : Option Begin → Told
    after o = record {
      known = call_ended answer o told.known;
      calls = at eqb number None told.calls;
      snapped =
          told.snapped;
    }

    Family : Option Begin → Type 0
    Family o = new.failed ≡ option_map (end_of (after o).known) ((after o).known.task n).failed
        → StandsFor (after o) ((after o).known.task n) n swept new

    rest : SameRest (ends_of b answer (Instance i) told.known)
        (compiles call answer (ends_of b answer (Instance i) told.known))
    rest = compiled_rest call answer (ends_of b answer (Instance i) told.known) none_compiled

    idle_as : (owner : Owner) → is_idle (after (Some b)) owner
        ≡ (if same_owner owner (Instance i) then true else is_idle told owner)
    idle_as owner =
        ap (λ m. list_all (λ c. not (holds (λ d. same_owner owner d.owner) (at eqb number None told.calls c)))
        (numbers_to m)) rest.last_call ∙ idle_ended told number b owner is one

    idle : (x : Inst) → idle_in (after (Some b)) x ≡ at same_inst i true (idle_in told) x
    idle x = idle_as (Instance x) ∙ ap (λ t. if t then true else idle_in told x) (inst_flip i x)

    other_idle : (owner : Owner) → same_owner owner (Instance i) ≡ false → is_idle (after (Some b)) owner
        ≡ is_idle told owner
    other_idle owner differs = idle_as owner ∙ ap (λ t. if t then true else is_idle told owner) differs

    pinged : Inst → Bool
    pinged = if asks call answer then at same_inst i true t.pinged else t.pinged

    failed : Option Failure
    failed = least_failure t.failed (failure_of told.known b answer)

    now : at eqb n (task_told told.known b answer t) told.known.task n
        ≡ gone_on t pinged t.upd t.gone failed t.calls t.end
    now =
        ap (λ u. if u then task_told told.known b answer t else told.known.task n) (eq-eqb n n refl)
        ∙ ap (λ (it : Task). record it { failed = failed }) (after_ping call answer i t)

    given_pings : LineStands t.to_ping (λ x. not (t.pinged x)) (idle_in (after (Some b)))
        (given_line work.pings (place_of same_inst i t.to_ping))
    given_pings = stands_given same_inst inst_is t.to_ping i (one_more same_inst inst_is t.to_ping pings_apart i)
        (λ x. not (t.pinged x)) (idle_in told)
        (λ x. not (t.pinged x)) (idle_in (after (Some b))) work.pings (λ x. refl) idle stands.pings

    pings_by : (a : Bool)
        → LineStands t.to_ping (λ x. not ((if a then at same_inst i true t.pinged else t.pinged) x))
        (idle_in (after (Some b)))
        (asked_line a (given_line work.pings (place_of same_inst i t.to_ping)) (place_of same_inst i t.to_ping))
    pings_by true =
        stands_finished same_inst inst_is t.to_ping i (one_more same_inst inst_is t.to_ping pings_apart i)
        (λ x. not (t.pinged x)) (idle_in (after (Some b)))
        (λ x. not (at same_inst i true t.pinged x)) (idle_in (after (Some b)))
        (given_line work.pings (place_of same_inst i t.to_ping)) (λ x. by (same_inst i x) (t.pinged x))
        (λ x. refl) given_pings
      where
        by : (s p : Bool) → not (if s then true else p) ≡ (if s then false else not p)
        by true p = refl
        by false p = refl
    pings_by false = given_pings

    at_begun : Family (Some b)
    at_begun fails =
        subst (λ (u : Task). StandsFor (after (Some b)) u n swept new) (sym now)
        (subst (λ (w : Work). StandsFor (after (Some b)) (gone_on t pinged t.upd t.gone failed t.calls t.end) n
        swept w) (sym others)
        (record {
          task_is = stands.task_is;
          pings = pings_by (asks call answer);
          obsolete = stands_given same_inst inst_is t.obsolete i (one_more same_inst inst_is t.obsolete gone_apart i)
              (λ x. not (t.gone x)) (idle_in told)
              (λ x. not (t.gone x)) (idle_in (after (Some b))) work.obsolete (λ x. refl) idle stands.obsolete;
          disks =
              stands_on t.disks (λ d. is_some (told.known.orphan d)) (λ d. is_idle told (Disk d))
              (λ d. is_some ((after (Some b)).known.orphan d)) (λ d. is_idle (after (Some b)) (Disk d))
              work.disks
              (λ d. ap (λ f. is_some (f d)) rest.orphan) (λ d. other_idle (Disk d) refl) stands.disks;
          sweep =
              stands_on swept (λ name. is_some (told.known.slot name.task name.slot))
              (λ name. is_idle told (Compile name.task name.slot))
              (λ name. is_some ((after (Some b)).known.slot name.task name.slot))
              (λ name. is_idle (after (Some b)) (Compile name.task name.slot)) work.sweep
              (λ name. ap (λ f. is_some (f name.task name.slot)) rest.slot)
              (λ name. other_idle (Compile name.task name.slot) refl) stands.sweep;
          keys =
              stands_on (keys_in t.goal) (λ key. not (is_compiled told.known key))
              (λ key. not (is_worked_for told.known n key))
              (λ key. not (is_compiled (after (Some b)).known key))
              (λ key. not (is_worked_for (after (Some b)).known n key)) work.keys
              (λ key. ap (λ f. not (is_some (f key))) rest.digest)
              (λ key. λ j. not
              (list_any (λ (name : SlotName). name.task == n && works_for key (rest.slot j n name.slot))
              (rest.machines j))) stands.keys;
          slots_are = stands.slots_are;
          machines_are = stands.machines_are
              ∙ sym (ap (count_by (λ (name : SlotName). name.task == n)) rest.machines);
          changed_are = stands.changed_are;
          groups_stand = call_given t (idle_in told) i apart work.groups stands.groups_stand pinged failed
              (idle_in (after (Some b))) idle;
          failed_is = fails ∙ ap (λ (u : Task). option_map (end_of (after (Some b)).known) u.failed) now;
          open_are =
              ap (λ c. c - 1) (stands.open_are
              ∙ one_less (is_task_call told n) (is_task_call (after (Some b)) n) number told.known.last_call low
              high counted uncounted others_same)
              ∙ less (count_by (is_task_call (after (Some b)) n) (numbers_to told.known.last_call))
              ∙ ap (λ m. count_by (is_task_call (after (Some b)) n) (numbers_to m)) (sym rest.last_call);
        }))
      where
        less : (c : ℕ) → (c + 1) - 1 ≡ c
        less c = omega arith

        counted : is_task_call told n number ≡ true
        counted = ap (holds (λ (d : Begin). d.task == n)) is ∙ eq-eqb n n refl

        uncounted : is_task_call (after (Some b)) n number ≡ false
        uncounted = ap (λ t. holds (λ (d : Begin). d.task == n) (if t then None else told.calls number))
            (eq-eqb number number refl)

        others_same : (c : ℕ) → eqb number c ≡ false → is_task_call (after (Some b)) n c ≡ is_task_call told n c
        others_same c differs = ap (λ t. holds (λ (d : Begin). d.task == n) (if t then None else told.calls c))
            differs
