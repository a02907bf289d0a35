-- What jobs write to their disks leaves a clean task as it was.
use Rattle.std.proofs.Common.{◌≡◌, ◌∙◌, ℕ, false, Option, Some, None, List, [], ◌∷◌, ◌++◌}
use Rattle.std.proofs.Common.{append-nil, refl, subst, sym}
use Rattle.std.specs.Prelude.{◌&&◌, ◌||◌, ◌==◌, find, not}
use Rattle.std.specs.List.{list_any}
use Rattle.std.specs.Str.{bytes_eq}
use Rattle.bosh_base.proofs.HistoryLemmas.{latest_last}
use Rattle.bosh_base.specs.CallStep.{found_vm, has_number, is_gone}
use Rattle.bosh_base.specs.Cloud.{is_silent, numbers_to, silence, vms_created}
use Rattle.bosh_base.specs.declared.call.Call.{Call}
use Rattle.bosh_base.specs.declared.call.Call.TheVariants as calls
use Rattle.bosh_base.specs.declared.entry.Entry.{Entry}
use Rattle.bosh_base.specs.declared.entry.Entry.TheVariants as entries
use Rattle.bosh_base.specs.declared.entry.Write.{Write}
use Rattle.bosh_base.specs.declared.inst.Inst.{Inst}
use Rattle.bosh_base.specs.declared.owner.Owner.{Owner}
use Rattle.bosh_base.specs.declared.owner.Owner.TheVariants.{Compile, Disk, Instance}
use Rattle.bosh_base.specs.declared.row.DiskRow.{DiskRow}
use Rattle.bosh_base.specs.declared.row.Doubt.{Doubt}
use Rattle.bosh_base.specs.declared.row.Row.{Row}
use Rattle.bosh_base.specs.declared.row.Vm.{Vm}
use Rattle.bosh_base.specs.declared.answer.Answer.{Answer}
use Rattle.bosh_base.specs.declared.entry.Begin.{Begin}
use Rattle.bosh_base.specs.declared.moves.Did.{Did}
use Rattle.bosh_history.specs.Items.{is_to_ping}
use Rattle.bosh_history.specs.Moments.{Moment, OpenCall, write_to, writing}
use Rattle.bosh_history.specs.Words.{holds}
use Rattle.bosh_lawful.specs.Clean.{creates_silent, is_failed, is_silent_creation}
use Rattle.bosh_rows.specs.After.{after}
use Rattle.bosh_rows.specs.Disks.{active}
use Rattle.bosh_rows.specs.Tied.{is_named_lost, number_of}
use Rattle.laws_clean.specs.Unfailed.{UnfailedFacts}
use Rattle.laws_effects.proofs.CreationLemmas.{is_vm_there-grown, vm_creation-grown, vms-grown}
use Rattle.laws_facts.specs.Clean.{is_answer_clean, is_call_clean, is_unspoiled, leaves_unspoiled, may_be_gone}
use Rattle.laws_row_facts.specs.Words.{implies, where_any}
use Rattle.laws_row_frames.proofs.OtherCases.{written_named}
use Rattle.laws_rows.proofs.TieLemmas.{plus_none}

module _ (xs : List Entry) (w : Write) where
  abbrev ys : List Entry
  ys = xs ++ entries.Write w ∷ []

  unspoiled_written : (row : Row) → is_unspoiled ys row ≡ is_unspoiled xs row
  unspoiled_written row = λ j. row.lost || not (by row.vm j)
    where
      by : (vm : Option Vm) → list_any (is_named_lost ys) (number_of vm) ≡ list_any (is_named_lost xs) (number_of vm)
      by (Some it) = λ j. written_named xs w it.vm j || false
      by None = refl

  found_written : (n : ℕ) → found_vm ys n ≡ found_vm xs n
  found_written n =
      λ j. find (λ v. is_vm_there-grown xs (entries.Write w) v j
      && has_number n (vm_creation-grown xs (entries.Write w) v j))
      (numbers_to ((vms-grown xs (entries.Write w) ∙ plus_none (vms_created xs)) j))

  silent_written : (o : Option ℕ) → holds (is_silent ys) o ≡ holds (is_silent xs) o
  silent_written (Some v) = latest_last (silence v) false xs (entries.Write w)
  silent_written None = refl

  creation_written : (doubt : Option Doubt) → is_silent_creation ys doubt ≡ is_silent_creation xs doubt
  creation_written (Some d) = by d.call
    where
      by : (call : Call) → creates_silent ys d.n call ≡ creates_silent xs d.n call
      by (calls.CreateVm make disks) =
          (λ j. holds (is_silent ys) (found_written d.n j)) ∙ silent_written (found_vm xs d.n)
      by call = refl
  creation_written None = refl

module _ (m : Moment) (w : Write) where
  abbrev new : Moment
  new = record m { effects = m.effects ++ entries.Write w ∷ [] }

  left_written : (b : Begin) (answer : Answer) (owner : Owner)
      → leaves_unspoiled new b answer owner ≡ leaves_unspoiled m b answer owner
  left_written b answer (Instance i) = unspoiled_written m.effects w (after b.n b.call answer (m.known.row i))
  left_written b answer (Compile t s) = refl
  left_written b answer (Disk d) = refl

  call_written : (t : ℕ) (o : Option OpenCall) → where_any (is_call_clean new t) o ≡ where_any (is_call_clean m t) o
  call_written t (Some call) = λ j. implies (call.begin.task == t) (by call.did j)
    where
      by : (did : Option Did)
          → where_any (λ d. is_answer_clean new call.begin d.answer) did
          ≡ where_any (λ d. is_answer_clean m call.begin d.answer) did
      by (Some d) =
          λ j. not (is_failed d.answer)
          && (implies (is_gone d.answer) (may_be_gone m.known call.begin.owner call.begin.call)
          && left_written call.begin d.answer call.begin.owner j)
      by None = refl
  call_written t None = refl

  pub unfailed_written : (t : ℕ) → UnfailedFacts m t → UnfailedFacts new t
  unfailed_written t u = record {
    deploy = u.deploy;
    rows = λ i.
        (λ j. implies (holds (bytes_eq i.dep) (m.known.task t).dep)
        ((unspoiled_written m.effects w (m.known.row i) j || is_to_ping (m.known.task t) i)
        && not (creation_written m.effects w (m.known.row i).doubt j))) ∙ u.rows i;
    calls = λ n. call_written t (m.calls n) ∙ u.calls n;
    none_failed = u.none_failed;
  }

pub unfailed_writing : (m : Moment) (i : Inst) (text : List ℕ) (t : ℕ) → UnfailedFacts m t
    → UnfailedFacts (writing m i text) t
unfailed_writing m i text t u = by (active (m.known.row i).disks)
  where
    by : (disk : Option DiskRow) → UnfailedFacts (record m { effects = m.effects ++ write_to text disk }) t
    by (Some d) = unfailed_written m (record { disk = d.disk; text = text }) t u
    by None = subst (λ (xs : List Entry). UnfailedFacts (record m { effects = xs }) t) (sym (append-nil m.effects)) u
