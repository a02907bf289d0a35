-- A row that is lost, or in doubt of another call than the creation of a machine, has a machine.
use Rattle.std.proofs.Common.{◌≡◌, ◌∙◌, ℕ, Bool, true, false, ◌&&◌, not, Option, Some, None, refl, sym, subst, ap}
use Rattle.std.specs.Prelude.{◌≢◌, ◌||◌, if◌then◌else◌, is_some}
use Rattle.std.specs.Option.{option_eq, option_map}
use Rattle.std.proofs.lemmas.Bool.{and_parts, false≢true, or_left}
use Rattle.bosh_base.specs.ExactParts.{Decides-call}
use Rattle.bosh_base.specs.declared.answer.Answer.{Answer}
use Rattle.bosh_base.specs.declared.answer.Answer.TheVariants as answers
use Rattle.bosh_base.specs.declared.call.Call.{Call}
use Rattle.bosh_base.specs.declared.call.Call.TheVariants as calls
use Rattle.bosh_base.specs.declared.entry.Begin.{Begin}
use Rattle.bosh_base.specs.declared.entry.End.{End}
use Rattle.bosh_base.specs.declared.entry.Entry.{Entry}
use Rattle.bosh_base.specs.declared.entry.Entry.TheVariants as entries
use Rattle.bosh_base.specs.declared.goal.GoalRow.{GoalRow}
use Rattle.bosh_base.specs.declared.inst.Inst.{Inst}
use Rattle.bosh_base.specs.declared.moves.Move.{Move}
use Rattle.bosh_base.specs.declared.owner.Owner.{Owner}
use Rattle.bosh_base.specs.declared.owner.Owner.TheVariants.{Instance, Compile, Disk}
use Rattle.bosh_base.specs.declared.row.Doubt.{Doubt}
use Rattle.bosh_base.specs.declared.row.Row.{Row}
use Rattle.bosh_base.specs.declared.row.Vm.{Vm}
use Rattle.bosh_history.specs.Calls.{begins, call_ended}
use Rattle.bosh_history.specs.Items.{is_to_ping}
use Rattle.bosh_history.specs.Known.{Known, Task, want_in}
use Rattle.bosh_history.specs.Learn.{learn}
use Rattle.bosh_history.specs.Moments.{Moment, OpenCall, later}
use Rattle.bosh_history.specs.Notes.{Begins, EndsCall, MayNote, Outside}
use Rattle.bosh_history.specs.Permitted.{IsPermitted}
use Rattle.bosh_history.specs.Steps.{call_now, want_of}
use Rattle.bosh_history.specs.Updates.{update_done}
use Rattle.bosh_rows.proofs.SameLemmas.{same_inst_decides}
use Rattle.bosh_rows.specs.After.{after, bare, begun_row, leaves_doubt, row_at_gone, row_by_answer, updated_row, with_found}
use Rattle.bosh_rows.specs.After.{with_machine, without_machine}
use Rattle.bosh_rows.specs.CallOf.{has_its_machine, next_call}
use Rattle.bosh_rows.specs.Same.{same_inst}
use Rattle.laws_calls.proofs.BeginLemmas.{vm_before}
use Rattle.laws_calls.specs.Calls.{HaveTheirMachines}
use Rattle.laws_facts.proofs.MoveLemmas.{by_note}
use Rattle.laws_facts.specs.KnownFacts.{KnownFacts}
use Rattle.laws_facts.specs.OpenCalls.{call_of_row, fits_known, fits_row}
use Rattle.laws_items.proofs.RowFrames.{ended_own, ended_row, row_note}
use Rattle.laws_kept_facts.proofs.NamedLemmas.{next_named}
use Rattle.laws_row_facts.specs.Calls.{is_ping, names_machine, row_before}
use Rattle.laws_row_facts.specs.Words.{implies, same_call}

-- ---- one row

-- the call names a machine only where the row has one
abbrev Names : Call → Row → Type 0
Names call row = names_machine call ≡ true → is_some row.vm ≡ true

weaker : (a b c : Bool) → (a || (b && c)) ≡ true → (a || (b && true)) ≡ true
weaker true b c is = refl
weaker false true c is = refl
weaker false false c is = is

settled : (row : Row) → has_its_machine row ≡ true → has_its_machine (record row { doubt = None }) ≡ true
settled row has = weaker (is_some row.vm) (not row.lost) _ has

begun : (n : ℕ) (call : Call) (row : Row) → has_its_machine row ≡ true → Names call row
    → has_its_machine (begun_row n call row) ≡ true
begun n (calls.CreateVm make disks) row has named = weaker (is_some row.vm) (not row.lost) _ has
begun n (calls.HasVm v) row has named = has
begun n (calls.FindVm agent) row has named = has
begun n (calls.FindDisk tag) row has named = has
begun n (calls.HasDisk d) row has named = has
begun n (calls.GetDisks v) row has named = has
begun n (calls.Ping v) row has named = has
begun n (calls.GetState v) row has named = has
begun n (calls.ListDisk v) row has named = has
begun n (calls.MigrateDisk v from to) row has named = has
begun n (calls.CompilePackage v work deps) row has named = has
begun n call row has named = or_left (is_some row.vm) _ (named refl)

machine : (row : Row) (agent : ℕ) (found : Option ℕ) → has_its_machine (with_machine agent found row) ≡ true
machine row agent (Some v) = refl
machine row agent None = refl

found_disk : (tag : ℕ) (found : Option ℕ) (row : Row) (doubt : Option Doubt) → has_its_machine row ≡ true
    → has_its_machine (with_found tag found doubt row) ≡ true
found_disk tag found row (Some d) has = by d.call found
  where
    by : (call : Call) (found : Option ℕ)
        → has_its_machine (with_found tag found (Some (record d { call = call })) row) ≡ true
    by (calls.CreateDisk want v) (Some d) = settled row has
    by (calls.CreateDisk want v) None = settled row has
    by call found = has
found_disk tag found row None has = has

told : (n : ℕ) (call : Call) (answer : Answer) (row : Row) → has_its_machine row ≡ true
    → has_its_machine (row_by_answer n call answer row) ≡ true
told n (calls.CreateVm make disks) (answers.Cid v) row has = refl
told n (calls.FindVm agent) (answers.Found found) row has = machine row agent found
told n (calls.DeleteVm v) answers.Done row has = refl
told n (calls.HasVm v) answers.No row has = refl
told n (calls.HasVm v) answers.Yes row has = settled row has
told n (calls.CreateDisk want v) (answers.Cid d) row has = settled row has
told n (calls.FindDisk tag) (answers.Found found) row has = found_disk tag found row row.doubt has
told n (calls.AttachDisk v d) answers.Done row has = settled row has
told n (calls.DetachDisk v d) answers.Done row has = settled row has
told n (calls.GetDisks v) (answers.Disks numbers) row has = settled row has
told n (calls.MountDisk v d) answers.Done row has = settled row has
told n (calls.UnmountDisk v d) answers.Done row has = settled row has
told n (calls.ListDisk v) (answers.Disks numbers) row has = settled row has
told n (calls.MigrateDisk v from to) answers.Done row has = has
told n (calls.Apply v spec) answers.Done row has = settled row has
told n (calls.Start v) answers.Done row has = settled row has
told n (calls.Drain v) answers.Done row has = settled row has
told n (calls.Stop v) answers.Done row has = settled row has
told n (calls.GetState v) (answers.Facts spec running drained) row has = settled row has
told n call answer row has = has

gone : (call : Call) (row : Row) → has_its_machine row ≡ true → Names call row
    → has_its_machine (row_at_gone call row) ≡ true
gone (calls.Ping v) row has named = or_left (is_some row.vm) _ (named refl)
gone (calls.DeleteVm v) row has named = by row.lost
  where
    by : (lost : Bool) → has_its_machine (if lost then without_machine row else record row { doubt = None }) ≡ true
    by true = refl
    by false = settled row has
gone call row has named = settled row has

answered : (n : ℕ) (call : Call) (answer : Answer) (row : Row) → has_its_machine row ≡ true → Names call row
    → has_its_machine (after n call answer row) ≡ true
answered n call answers.Failed row has named = has
answered n call answers.Gone row has named = gone call row has named
answered n call answer row has named = told n call answer row has

-- ---- its calls

-- the call that is to be made for a row names the row's machine
to_make : (t : Task) (i : Inst) (row : Row) (call : Call) → call_of_row t i row ≡ Some call → Names call row
to_make t i row call next named = by (is_to_ping t i) row.vm refl next
  where
    by : (ping : Bool) (vm : Option Vm) → row.vm ≡ vm
        → (if ping then option_map (λ (it : Vm). calls.Ping it.vm) vm else next_call (want_of t i) row) ≡ Some call
        → is_some row.vm ≡ true
    by true (Some it) has is = ap is_some has
    by true None has is = absurd cc
    by false vm has is = next_named (want_of t i) row call is named

fit_names : (t : Task) (b : Begin) (i : Inst) (row : Row) → fits_row t b i row ≡ true → Names b.call row
fit_names t b i row fits named =
    (λ j. is_some (sym (vm_before b.call row) j))
    ∙ to_make t i (row_before b.call row) b.call
    (by (call_of_row t i (row_before b.call row))
    (and_parts (option_eq same_call (call_of_row t i (row_before b.call row)) (Some b.call))
    (implies (leaves_doubt b.call) _ && implies (is_ping b.call) (not row.lost)) fits).0)
    named
  where
    by : (call : Option Call) → option_eq same_call call (Some b.call) ≡ true → call ≡ Some b.call
    by (Some call) same = ap Some ((Decides-call call b.call).0 same)
    by None same = absurd cc

-- ---- entries

at_one : (j i : Inst) (x : Row) (rows : Inst → Row) → has_its_machine x ≡ true → has_its_machine (rows i) ≡ true
    → has_its_machine (if same_inst j i then x else rows i) ≡ true
at_one j i x rows new has = by (same_inst j i)
  where
    by : (b : Bool) → has_its_machine (if b then x else rows i) ≡ true
    by true = new
    by false = has

updated : (want : Option GoalRow) (j : Inst) (k : Known) (i : Inst) → HaveTheirMachines k
    → has_its_machine ((update_done want j k).row i) ≡ true
updated (Some want) j k i has = at_one j i (updated_row want (k.row j)) k.row (has j) (has i)
updated None j k i has = has i

module _ (outside : Outside) (m : Moment) (h : KnownFacts m) where
  begun_note : (b : Begin) → Begins m b → HaveTheirMachines (learn m.known (entries.Begin b))
  begun_note b may i = by b.owner may.is_call
    where
      by : (owner : Owner) → call_now m b.task owner ≡ Some b.call
          → has_its_machine ((begins b owner m.known).row i) ≡ true
      by (Instance j) is =
          at_one j i (begun_row b.n b.call (m.known.row j)) m.known.row
          (begun b.n b.call (m.known.row j) (h.machines j) (to_make (m.known.task b.task) j (m.known.row j) b.call is))
          (h.machines i)
      by (Compile t s) is = h.machines i
      by (Disk d) is = h.machines i

  ended_note : (e : End) → EndsCall e (m.calls e.n) → HaveTheirMachines (learn m.known (entries.End e))
  ended_note e may i = by (m.calls e.n) refl may
    where
      of : (that : OpenCall) → m.calls e.n ≡ Some that → (owner : Owner) → that.begin.owner ≡ owner
          → has_its_machine ((learn m.known (entries.End e)).row i) ≡ true
      of that is owner own = here owner own
        where
          known : m.known.begun e.n ≡ Some that.begin
          known = (h.calls e.n that is).begun

          apart : (owner : Owner) → that.begin.owner ≡ owner → owner ≢ Instance i
              → has_its_machine ((learn m.known (entries.End e)).row i) ≡ true
          apart owner own other =
              (λ j. has_its_machine
              (ended_row e.answer (m.known.begun e.n) m.known i
              (λ b begun mine. other (sym own ∙ (λ l. (same b begun l).owner) ∙ mine)) j))
              ∙ h.machines i
            where
              same : (b : Begin) → m.known.begun e.n ≡ Some b → that.begin ≡ b
              same b begun = let both : Some that.begin ≡ Some b = sym known ∙ begun in cc

          here : (owner : Owner) → that.begin.owner ≡ owner
              → has_its_machine ((learn m.known (entries.End e)).row i) ≡ true
          here (Instance j) own = one (same_inst j i) refl
            where
              one : (b : Bool) → same_inst j i ≡ b → has_its_machine ((learn m.known (entries.End e)).row i) ≡ true
              one true same =
                  let mine : that.begin.owner ≡ Instance i = own ∙ ap Instance ((same_inst_decides j i).0 same) in
                  now mine
                where
                  now : that.begin.owner ≡ Instance i
                      → has_its_machine ((learn m.known (entries.End e)).row i) ≡ true
                  now mine =
                      subst (λ (row : Row). has_its_machine row ≡ true)
                      (sym (ap (λ (b : Option Begin). (call_ended e.answer b m.known).row i) known
                      ∙ ended_own e.answer that.begin m.known i mine))
                      (answered that.begin.n that.begin.call e.answer (m.known.row i) (h.machines i)
                      (fit_names (m.known.task that.begin.task) that.begin i (m.known.row i)
                      (subst (λ (o : Owner). fits_known m.known that.begin o ≡ true) mine (h.calls e.n that is).fits)))
              one false other =
                  apart (Instance j) own
                  (λ same. let it : j ≡ i = cc in false≢true (sym other ∙ (same_inst_decides j i).1 it))
          here (Compile t s) own = apart (Compile t s) own (λ same. cc)
          here (Disk d) own = apart (Disk d) own (λ same. cc)

      by : (that : Option OpenCall) → m.calls e.n ≡ that → EndsCall e that
          → has_its_machine ((learn m.known (entries.End e)).row i) ≡ true
      by (Some that) is ends = of that is that.begin.owner refl
      by None is ends = absurd ends

  machines_note : (e : Entry) → MayNote outside m e → HaveTheirMachines (learn m.known e)
  machines_note (entries.Begin b) may i = begun_note b may i
  machines_note (entries.End e) may i = ended_note e may i
  machines_note (entries.UpdDone u) may i =
      updated (want_in (m.known.task u.task).goal u.inst) u.inst m.known i h.machines
  machines_note (entries.Gone u) may i = at_one u.inst i (bare u.inst) m.known.row refl (h.machines i)
  machines_note (entries.Snapshot s) may i = absurd may
  machines_note (entries.TaskDone t) may i =
      (λ j. has_its_machine (row_note outside m (entries.TaskDone t) i may refl tt j)) ∙ h.machines i
  machines_note entry may i = h.machines i

pub machines_kept : (outside : Outside) (m : Moment) (move : Move) → IsPermitted outside m move → KnownFacts m
    → HaveTheirMachines (later m move).known
machines_kept outside m move may h =
    by_note outside HaveTheirMachines m (machines_note outside m h) h.machines move may
