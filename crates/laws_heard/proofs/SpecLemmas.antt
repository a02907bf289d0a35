-- A row without a machine has no spec: each entry keeps that.
use Rattle.std.proofs.Common.{◌≡◌, ◌∙◌, ℕ, Bool, true, false, Option, Some, None, ap, refl, sym, subst, inl, inr}
use Rattle.std.specs.Prelude.{if◌then◌else◌, is_some}
use Rattle.std.specs.Option.{option_map}
use Rattle.std.proofs.lemmas.Bool.{false≢true, or_left}
use Rattle.bosh_base.specs.declared.answer.Answer.{Answer}
use Rattle.bosh_base.specs.declared.answer.Answer.TheVariants as answers
use Rattle.bosh_base.specs.declared.call.Call.{Call}
use Rattle.bosh_base.specs.declared.call.Call.TheVariants as calls
use Rattle.bosh_base.specs.declared.entry.Begin.{Begin}
use Rattle.bosh_base.specs.declared.entry.End.{End}
use Rattle.bosh_base.specs.declared.entry.Entry.{Entry}
use Rattle.bosh_base.specs.declared.entry.Entry.TheVariants as entries
use Rattle.bosh_base.specs.declared.goal.GoalRow.{GoalRow}
use Rattle.bosh_base.specs.declared.inst.Inst.{Inst}
use Rattle.bosh_base.specs.declared.owner.Owner.{Owner}
use Rattle.bosh_base.specs.declared.owner.Owner.TheVariants.{Compile, Disk, Instance}
use Rattle.bosh_base.specs.declared.row.Doubt.{Doubt}
use Rattle.bosh_base.specs.declared.row.Row.{Row}
use Rattle.bosh_base.specs.declared.row.Vm.{Vm}
use Rattle.bosh_history.specs.Calls.{begins, call_ended}
use Rattle.bosh_history.specs.Items.{is_to_ping}
use Rattle.bosh_history.specs.Known.{Task, want_in}
use Rattle.bosh_history.specs.Learn.{learn}
use Rattle.bosh_history.specs.Moments.{Moment, OpenCall}
use Rattle.bosh_history.specs.Notes.{EndsCall, MayNote, Outside}
use Rattle.bosh_history.specs.Steps.{want_of}
use Rattle.bosh_history.specs.Updates.{update_done}
use Rattle.bosh_rows.proofs.SameLemmas.{same_inst_decides}
use Rattle.bosh_rows.specs.After.{after, bare, begun_row, row_by_answer, updated_row, with_found, with_machine}
use Rattle.bosh_rows.specs.CallOf.{next_call}
use Rattle.bosh_rows.specs.Same.{same_inst, same_owner}
use Rattle.laws_calls.proofs.BeginLemmas.{vm_before}
use Rattle.laws_compile_machines_kept.proofs.NamedLemmas.{to_make}
use Rattle.laws_disks_kept.proofs.InstanceAnswers.{Asks, asks}
use Rattle.laws_facts.specs.Facts.{Holds}
use Rattle.laws_facts.specs.OpenCalls.{fits_known, fits_row}
use Rattle.laws_heard.specs.Heard.{has_spec_of_machine}
use Rattle.laws_items.proofs.OwnerLemmas.{same_owner_is}
use Rattle.laws_items.proofs.RowFrames.{ended_own, ended_row, row_note}
use Rattle.laws_kept_facts.proofs.NamedLemmas.{next_named}
use Rattle.laws_row_facts.specs.Calls.{names_machine, row_before}

-- ---- an answer

settles : (row : Row) → has_spec_of_machine row ≡ true → has_spec_of_machine (record row { doubt = None }) ≡ true
settles row has = has

machine : (agent : ℕ) (found : Option ℕ) (row : Row) → has_spec_of_machine (with_machine agent found row) ≡ true
machine agent (Some v) row = refl
machine agent None row = refl

found : (tag : ℕ) (d : Option ℕ) (doubt : Option Doubt) (row : Row) → has_spec_of_machine row ≡ true
    → has_spec_of_machine (with_found tag d doubt row) ≡ true
found tag d (Some doubt) row has = by doubt.call d
  where
    by : (c : Call) (d : Option ℕ)
        → has_spec_of_machine (with_found tag d (Some (record doubt { call = c })) row) ≡ true
    by (calls.CreateDisk want v) (Some d) = has
    by (calls.CreateDisk want v) None = has
    by c d = has
found tag d None row has = has

-- the call names a machine only where the row has one
abbrev Names : Call → Row → Type 0
Names call row = names_machine call ≡ true → is_some row.vm ≡ true

told : (n : ℕ) (call : Call) (answer : Answer) (row : Row) → Names call row → has_spec_of_machine row ≡ true
    → has_spec_of_machine (row_by_answer n call answer row) ≡ true
told n (calls.CreateVm make disks) (answers.Cid v) row names has = refl
told n (calls.FindVm agent) (answers.Found d) row names has = machine agent d row
told n (calls.DeleteVm v) answers.Done row names has = refl
told n (calls.HasVm v) answers.No row names has = refl
told n (calls.HasVm v) answers.Yes row names has = has
told n (calls.CreateDisk want v) (answers.Cid d) row names has = has
told n (calls.FindDisk tag) (answers.Found d) row names has = found tag d row.doubt row has
told n (calls.AttachDisk v k) answers.Done row names has = has
told n (calls.DetachDisk v k) answers.Done row names has = has
told n (calls.GetDisks v) (answers.Disks numbers) row names has = has
told n (calls.MountDisk v k) answers.Done row names has = has
told n (calls.UnmountDisk v k) answers.Done row names has = has
told n (calls.ListDisk v) (answers.Disks numbers) row names has = has
told n (calls.MigrateDisk v from to) answers.Done row names has = has
told n (calls.Apply v spec) answers.Done row names has = or_left (is_some row.vm) _ (names refl)
told n (calls.Start v) answers.Done row names has = has
told n (calls.Drain v) answers.Done row names has = has
told n (calls.Stop v) answers.Done row names has = has
told n (calls.GetState v) (answers.Facts spec running drained) row names has = or_left (is_some row.vm) _ (names refl)
told n call answer row names has = has

after_spec : (n : ℕ) (call : Call) (answer : Answer) (row : Row) → Names call row → has_spec_of_machine row ≡ true
    → has_spec_of_machine (after n call answer row) ≡ true
after_spec n call answers.Failed row names has = has
after_spec n (calls.Ping v) answers.Gone row names has = has
after_spec n (calls.DeleteVm v) answers.Gone row names has = by row.lost
  where
    by : (lost : Bool)
        → has_spec_of_machine (if lost then with_machine 0 None row else record row { doubt = None }) ≡ true
    by true = refl
    by false = has
after_spec n call answers.Gone row names has = has
after_spec n call answer row names has = told n call answer row names has

-- ---- an open call of a row

call_names : (t : Task) (b : Begin) (i : Inst) (row : Row) → fits_row t b i row ≡ true
    → names_machine b.call ≡ true → is_some row.vm ≡ true
call_names t b i row fits names =
    (λ j. is_some (sym (vm_before b.call row) j)) ∙ by (asks t i (row_before b.call row) b.call (to_make t b i row fits))
  where
    by : Asks t i (row_before b.call row) b.call → is_some (row_before b.call row).vm ≡ true
    by (inr next) = next_named (want_of t i) (row_before b.call row) b.call next names
    by (inl (v, ping)) = pinged (is_to_ping t i) (row_before b.call row).vm refl (to_make t b i row fits)
      where
        pinged : (p : Bool) (vm : Option Vm) → (row_before b.call row).vm ≡ vm
            → (if p then option_map (λ (it : Vm). calls.Ping it.vm) vm
            else next_call (want_of t i) (row_before b.call row)) ≡ Some b.call
            → is_some (row_before b.call row).vm ≡ true
        pinged true (Some it) has is = ap is_some has
        pinged true None has is = absurd cc
        pinged false vm has is = next_named (want_of t i) (row_before b.call row) b.call is names

-- ---- entries

at_row : (P : Row → Type 0) (j i : Inst) (x : Row) (rows : Inst → Row) → P x → P (rows i)
    → P (if same_inst j i then x else rows i)
at_row P j i x rows new old = by (same_inst j i)
  where
    by : (same : Bool) → P (if same then x else rows i)
    by true = new
    by false = old

abbrev HasSpec : Row → Type 0
HasSpec row = has_spec_of_machine row ≡ true

module _ (outside : Outside) (m : Moment) (h : Holds m)
    (has : (i : Inst) → has_spec_of_machine (m.known.row i) ≡ true) (i : Inst) where
  begun : (b : Begin) (owner : Owner) → HasSpec ((begins b owner m.known).row i)
  begun b (Instance j) =
      at_row HasSpec j i (begun_row b.n b.call (m.known.row j)) m.known.row (has j) (has i)
  begun b (Compile t s) = has i
  begun b (Disk d) = has i

  ended : (e : End) → EndsCall e (m.calls e.n) → HasSpec ((learn m.known (entries.End e)).row i)
  ended e may = by (m.calls e.n) refl may
    where
      of : (that : OpenCall) → m.calls e.n ≡ Some that → (own : Bool)
          → same_owner that.begin.owner (Instance i) ≡ own
          → HasSpec ((call_ended e.answer (Some that.begin) m.known).row i)
      of that is true own =
          let mine : that.begin.owner ≡ Instance i = same_owner_is that.begin.owner (Instance i) own in
          subst HasSpec (sym (ended_own e.answer that.begin m.known i mine))
          (after_spec that.begin.n that.begin.call e.answer (m.known.row i)
          (call_names (m.known.task that.begin.task) that.begin i (m.known.row i)
          (subst (λ owner. fits_known m.known that.begin owner ≡ true) mine (h.known.calls e.n that is).fits)) (has i))
      of that is false other =
          subst HasSpec
          (sym (ended_row e.answer (Some that.begin) m.known i
          (λ b same own. let one : that.begin ≡ b = cc in
          false≢true (sym other ∙ ((λ j. same_owner (((λ l. (one l).owner) ∙ own) j) (Instance i))
          ∙ (same_inst_decides i i).1 refl))))) (has i)

      by : (that : Option OpenCall) → m.calls e.n ≡ that → EndsCall e that
          → HasSpec ((learn m.known (entries.End e)).row i)
      by (Some that) is ends =
          subst (λ b. HasSpec ((call_ended e.answer b m.known).row i)) (sym (h.known.calls e.n that is).begun)
          (of that is (same_owner that.begin.owner (Instance i)) refl)
      by None is ends = absurd ends

  updated : (want : Option GoalRow) (j : Inst) → HasSpec ((update_done want j m.known).row i)
  updated (Some want) j = at_row HasSpec j i (updated_row want (m.known.row j)) m.known.row (has j) (has i)
  updated None j = has i

  pub spec_noted : (e : Entry) → MayNote outside m e → HasSpec ((learn m.known e).row i)
  spec_noted (entries.Begin b) may = begun b b.owner
  spec_noted (entries.End e) may = ended e may
  spec_noted (entries.UpdDone u) may = updated (want_in (m.known.task u.task).goal u.inst) u.inst
  spec_noted (entries.Gone u) may = at_row HasSpec u.inst i (bare u.inst) m.known.row refl (has i)
  spec_noted (entries.Snapshot s) may = absurd may
  spec_noted entry may = subst HasSpec (sym (row_note outside m entry i may refl tt)) (has i)
