-- That a lost machine is silent is kept by the next call of a row, however it is answered: a lost machine does not
-- answer again.
use Rattle.std.proofs.Common.{◌≡◌, ℕ, Bool, true, false, Option, Some, None, List, [], ◌∷◌, ◌++◌, refl, sym, ◌∙◌, ap}
use Rattle.std.specs.Prelude.{◌&&◌, ◌==◌, not, if◌then◌else◌}
use Rattle.std.specs.List.{list_all}
use Rattle.std.proofs.lemmas.Bool.{and_parts, and_from, not-true}
use Rattle.bosh_base.specs.Call.{method_of}
use Rattle.bosh_base.specs.Method.{is_changing}
use Rattle.bosh_base.specs.CallStep.{answer_of, CallStep, has_agent, is_gone, takes_effect}
use Rattle.bosh_base.specs.Cloud.{is_silent, is_vm_there, silence, when}
use Rattle.bosh_base.specs.History.{chosen}
use Rattle.bosh_base.proofs.HistoryLemmas.{latest_last}
use Rattle.bosh_base.specs.declared.answer.Answer.{Answer}
use Rattle.bosh_base.specs.declared.answer.Answer.TheVariants as answers
use Rattle.bosh_base.specs.declared.call.Call.{Call}
use Rattle.bosh_base.specs.declared.call.Call.TheVariants as calls
use Rattle.bosh_base.specs.declared.digest.Digest.{Digest}
use Rattle.bosh_base.specs.declared.entry.Effect as effect
use Rattle.bosh_base.specs.declared.entry.Entry.{Entry}
use Rattle.bosh_base.specs.declared.entry.Entry.TheVariants.{Effect}
use Rattle.bosh_base.specs.declared.goal.GoalRow.{GoalRow}
use Rattle.bosh_base.specs.declared.key.KeyWork.{KeyWork}
use Rattle.bosh_base.specs.declared.row.Doubt.{Doubt}
use Rattle.bosh_base.specs.declared.row.Row.{Row}
use Rattle.bosh_base.specs.declared.row.Vm.{Vm}
use Rattle.laws_effects.proofs.CreationLemmas.{is_vm_there-grown}
use Rattle.laws_row_facts.specs.Calls.{is_ping}
use Rattle.laws_row_facts.specs.Rows.{is_lost_rightly}
use Rattle.laws_row_facts.specs.Words.{implies}
use Rattle.laws_rows.proofs.RightLemmas.{takes_of}
use Rattle.laws_rows.proofs.TieLemmas.{of_row}
use Rattle.laws_rows.specs.Rightful.{done_with}
use Rattle.bosh_rows.specs.After.{after, begun_row, row_at_gone, row_by_answer, with_found, with_machine, without_machine}
use Rattle.bosh_rows.specs.CallOf.{next_call}
use Rattle.bosh_rows.specs.Tied.{number_of}
use Rattle.laws_kept_facts.proofs.CallCases.{AllCases, by_all}

-- ---- a row that is not lost

found_found : (row : Row) (tag : ℕ) (found : Option ℕ) (doubt : Option Doubt) → row.lost ≡ false →
    (with_found tag found doubt row).lost ≡ false
found_found row tag found None is = is
found_found row tag found (Some d) is = by_call d.n d.call found
  where
    by_call : (m : ℕ) (c : Call) (o : Option ℕ) →
        (with_found tag o (Some (record { n = m; call = c })) row).lost ≡ false
    by_call m (calls.CreateDisk wanted v) (Some d) = is
    by_call m (calls.CreateDisk wanted v) None = is
    by_call m c o = is

machine_found : (row : Row) (agent : ℕ) (found : Option ℕ) → row.lost ≡ false →
    (with_machine agent found row).lost ≡ false
machine_found row agent (Some v) is = is
machine_found row agent None is = refl

told_found : (n : ℕ) (call : Call) (answer : Answer) (row : Row) → row.lost ≡ false →
    (row_by_answer n call answer row).lost ≡ false
told_found n (calls.CreateVm make hint) (answers.Cid v) row is = is
told_found n (calls.FindVm agent) (answers.Found found) row is = machine_found row agent found is
told_found n (calls.DeleteVm v) answers.Done row is = refl
told_found n (calls.HasVm v) answers.No row is = refl
told_found n (calls.HasVm v) answers.Yes row is = is
told_found n (calls.CreateDisk wanted v) (answers.Cid d) row is = is
told_found n (calls.FindDisk tag) (answers.Found found) row is = found_found row tag found row.doubt is
told_found n (calls.AttachDisk v d) answers.Done row is = is
told_found n (calls.DetachDisk v d) answers.Done row is = is
told_found n (calls.GetDisks v) (answers.Disks ks) row is = is
told_found n (calls.MountDisk v d) answers.Done row is = is
told_found n (calls.UnmountDisk v d) answers.Done row is = is
told_found n (calls.ListDisk v) (answers.Disks ks) row is = is
told_found n (calls.MigrateDisk v from to) answers.Done row is = is
told_found n (calls.Apply v spec) answers.Done row is = is
told_found n (calls.Start v) answers.Done row is = is
told_found n (calls.Drain v) answers.Done row is = is
told_found n (calls.Stop v) answers.Done row is = is
told_found n (calls.GetState v) (answers.Facts spec running drained) row is = is
told_found n call answer row is = is

gone_found : (call : Call) (row : Row) → is_ping call ≡ false → row.lost ≡ false →
    (row_at_gone call row).lost ≡ false
gone_found (calls.Ping v) row other is = absurd cc
gone_found (calls.DeleteVm v) row other is = by_loss row.lost is
  where
    by_loss : (b : Bool) → b ≡ false → (if b then without_machine row else record row { doubt = None }).lost ≡ false
    by_loss true now = refl
    by_loss false now = is
gone_found call row other is = is

-- a call that is no ping finds no machine lost
pub after_found : (n : ℕ) (call : Call) (answer : Answer) (row : Row) → is_ping call ≡ false → row.lost ≡ false →
    (after n call answer row).lost ≡ false
after_found n call answers.Failed row other is = is
after_found n call answers.Gone row other is = gone_found call row other is
after_found n call answer row other is = told_found n call answer row is

-- ---- a lost row

-- a deletion makes no machine answer
deletion_silent : (xs : List Entry) (e : effect.Effect) (v u : ℕ) → e.call ≡ calls.DeleteVm v →
    has_agent xs u ≡ false → has_agent (xs ++ Effect e ∷ []) u ≡ false
deletion_silent xs e v u is none =
    (λ i. (is_vm_there-grown xs (Effect (record e { call = is i })) u) i
    && not (latest_last (silence u) false xs (Effect (record e { call = is i })) i))
    ∙ by_test (v == u)
  where
    by_test : (b : Bool) → (chosen (when b false) (is_vm_there xs u) && not (is_silent xs u)) ≡ false
    by_test true = refl
    by_test false = none

-- the machine of a lost row is silent still
still_silent : (xs ys : List Entry) (row : Row) → is_lost_rightly xs row ≡ true →
    ((u : ℕ) → has_agent xs u ≡ false → has_agent ys u ≡ false) → is_lost_rightly ys row ≡ true
still_silent xs ys row silent less = by_loss row.lost row.vm silent
  where
    by_loss : (lost : Bool) (it : Option Vm) →
        implies lost (list_all (λ v. not (has_agent xs v)) (number_of it)) ≡ true →
        implies lost (list_all (λ v. not (has_agent ys v)) (number_of it)) ≡ true
    by_loss true (Some it) is =
        and_from (not (has_agent ys it.vm)) true
        (ap not (less it.vm (not-true (has_agent xs it.vm) (and_parts (not (has_agent xs it.vm)) true is).0))) refl
    by_loss true None is = refl
    by_loss false it is = refl

-- what a call leaves
abbrev pub LeavesSilent : (KeyWork → List Digest → Digest) → List Entry → ℕ → Row → Call → Type 0
LeavesSilent built xs n row call =
    (dep : List ℕ) (b : Bool) (answer : Answer) → (b ≡ true → takes_effect built xs call ≡ true) →
    is_lost_rightly (done_with b xs (of_row row n dep call)) (after n call answer (begun_row n call row)) ≡ true

module _ (built : KeyWork → List Digest → Digest) (want : Option GoalRow) (xs : List Entry) (n : ℕ) (row : Row)
    (lost : row.lost ≡ true) (silent : is_lost_rightly xs row ≡ true) where
  unlost : {A : Type 0} → row.lost ≡ false → A
  unlost found = absurd (let both : true ≡ false = sym lost ∙ found in cc)

  deletes : (v : ℕ) → LeavesSilent built xs n row (calls.DeleteVm v)
  deletes v dep b answer takes = by_answer answer
    where
      still : (b : Bool) → is_lost_rightly (done_with b xs (of_row row n dep (calls.DeleteVm v))) row ≡ true
      still true =
          still_silent xs (done_with true xs (of_row row n dep (calls.DeleteVm v))) row silent
          (λ u none. deletion_silent xs (of_row row n dep (calls.DeleteVm v)) v u refl none)
      still false = silent

      by_answer : (answer : Answer) → is_lost_rightly (done_with b xs (of_row row n dep (calls.DeleteVm v)))
          (after n (calls.DeleteVm v) answer (begun_row n (calls.DeleteVm v) row)) ≡ true
      by_answer answers.Done = refl
      by_answer answers.Gone =
          (λ i. is_lost_rightly (done_with b xs (of_row row n dep (calls.DeleteVm v)))
          (if lost i then without_machine (begun_row n (calls.DeleteVm v) row)
          else record (begun_row n (calls.DeleteVm v) row) { doubt = None }))
      by_answer answer = still b

  -- a call that only asks leaves what was done
  asked : (dep : List ℕ) (call : Call) → is_changing (method_of call) ≡ false → (b : Bool) →
      (b ≡ true → takes_effect built xs call ≡ true) → (new : Row) → is_lost_rightly xs new ≡ true →
      is_lost_rightly (done_with b xs (of_row row n dep call)) new ≡ true
  asked dep call asks true takes new is =
      absurd (let none : takes_effect built xs call ≡ false =
      ap (λ b. b && not (is_gone (answer_of built xs call))) asks in
      let is : takes_effect built xs call ≡ true = takes refl in cc)
  asked dep call asks false takes new is = is

  there : (v : ℕ) → LeavesSilent built xs n row (calls.HasVm v)
  there v dep b answer takes =
      asked dep (calls.HasVm v) refl b takes (after n (calls.HasVm v) answer row) (by_answer answer)
    where
      by_answer : (answer : Answer) → is_lost_rightly xs (after n (calls.HasVm v) answer row) ≡ true
      by_answer answers.Yes = silent
      by_answer answers.No = refl
      by_answer answers.Gone = silent
      by_answer answer = silent

  finds_disk : (m : ℕ) → LeavesSilent built xs n row (calls.FindDisk m)
  finds_disk m dep b answer takes =
      asked dep (calls.FindDisk m) refl b takes (after n (calls.FindDisk m) answer row) (by_answer answer)
    where
      by_call : (k : ℕ) (c : Call) (o : Option ℕ) →
          is_lost_rightly xs (with_found m o (Some (record { n = k; call = c })) row) ≡ true
      by_call k (calls.CreateDisk wanted v) (Some d) = silent
      by_call k (calls.CreateDisk wanted v) None = silent
      by_call k c o = silent

      by_doubt : (d : Option Doubt) (o : Option ℕ) → is_lost_rightly xs (with_found m o d row) ≡ true
      by_doubt (Some d) o = by_call d.n d.call o
      by_doubt None o = silent

      by_answer : (answer : Answer) → is_lost_rightly xs (after n (calls.FindDisk m) answer row) ≡ true
      by_answer (answers.Found found) = by_doubt row.doubt found
      by_answer answers.Gone = silent
      by_answer answer = silent

  -- each call of a lost row
  pub all_silent : AllCases (LeavesSilent built xs n row) want row
  all_silent = record {
    known = λ found known. unlost found;
    deletes = λ it is has. deletes it.vm;
    there = λ it m v has doubts. there it.vm;
    finds_vm = λ m make hint found doubts. unlost found;
    finds_disk = λ m wanted v doubts. finds_disk m;
    lists = λ it m v x found has doubts. unlost found;
    shows = λ it m v x found has doubts. unlost found;
    tells = λ it m c found has doubts state. unlost found;
  }

-- no next call is a ping
no_ping : (want : Option GoalRow) (row : Row) → AllCases (λ call. is_ping call ≡ false) want row
no_ping want row = record {
  known = λ found known. record {
    remove_drain = λ it has away runs off. refl;
    remove_stop = λ it has away runs off. refl;
    remove_unmount = λ it d has away rests first. refl;
    remove_detach = λ it d has away rests none first. refl;
    remove_delete = λ it has away rests none too. refl;
    create = λ w wants none here. refl;
    tend_drain = λ w it wants has stays runs halts off. refl;
    tend_stop = λ w it wants has stays runs halts off. refl;
    clear_unmount = λ w it d wants tended first. refl;
    clear_detach = λ w it d wants tended none first. refl;
    release_unmount = λ w it d wants cleared nothing first. refl;
    release_detach = λ w it d wants cleared nothing none first. refl;
    provide = λ w it wanted wants cleared disk none. refl;
    place_attach = λ w it wanted old wants cleared disk was off. refl;
    place_mount = λ w it wanted old wants cleared disk was on off. refl;
    replace_create = λ w it wanted old wants replaced none. refl;
    replace_attach = λ w it wanted old new wants replaced comes off. refl;
    replace_mount = λ w it wanted old new wants replaced comes on off. refl;
    replace_migrate = λ w it wanted old new wants replaced comes on up. refl;
    apply = λ w it wants cleared differs. refl;
    start = λ w it wants cleared disks spec runs rests. refl;
  };
  deletes = λ it is has. refl;
  there = λ it m v has doubts. refl;
  finds_vm = λ m make hint found doubts. refl;
  finds_disk = λ m wanted v doubts. refl;
  lists = λ it m v x found has doubts. refl;
  shows = λ it m v x found has doubts. refl;
  tells = λ it m c found has doubts state. refl;
}

-- it is kept
pub silent_kept : (built : KeyWork → List Digest → Digest) (want : Option GoalRow) (xs : List Entry) (row : Row)
    (n : ℕ) (dep : List ℕ) (call : Call) (has_effect : Bool) (answer : Answer) →
    is_lost_rightly xs row ≡ true → next_call want row ≡ Some call → CallStep built xs call has_effect answer →
    is_lost_rightly (done_with has_effect xs (of_row row n dep call)) (after n call answer (begun_row n call row))
    ≡ true
silent_kept built want xs row n dep call has_effect answer silent next step = by_loss row.lost refl
  where
    by_loss : (lost : Bool) → row.lost ≡ lost →
        is_lost_rightly (done_with has_effect xs (of_row row n dep call)) (after n call answer (begun_row n call row))
        ≡ true
    by_loss true lost =
        by_all (LeavesSilent built xs n row) want row (all_silent built want xs n row lost silent) call next dep
        has_effect answer (takes_of built xs call has_effect answer step)
    by_loss false found =
        ap (λ b. implies b (list_all (λ v. not (has_agent (done_with has_effect xs (of_row row n dep call)) v))
        (number_of (after n call answer (begun_row n call row)).vm)))
        (after_found n call answer (begun_row n call row)
        (by_all (λ call. is_ping call ≡ false) want row (no_ping want row) call next) found)
