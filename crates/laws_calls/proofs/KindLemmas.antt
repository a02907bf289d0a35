-- What the cloud tells of a call is of the call's kind.
use Rattle.std.proofs.Common.{◌≡◌, ◌∙◌, ◌+◌, Bool, true, false, ◌&&◌, not, Option, Some, None, List, refl, sym, inl, inr}
use Rattle.std.specs.Prelude.{◌||◌, eqb, if◌then◌else◌}
use Rattle.std.proofs.lemmas.Bool.{and_from, and_parts, or_left}
use Rattle.bosh_base.specs.Answer.{is_kind}
use Rattle.bosh_base.specs.Call.{method_of}
use Rattle.bosh_base.specs.CallStep.{CallStep, answer_of, has_agent, is_gone, takes_effect, unless_gone, yes_or_no}
use Rattle.bosh_base.specs.Cloud.{attached_to, disks_created, is_drained, is_running, is_vm_there, mounted_on, spec_of}
use Rattle.bosh_base.specs.Method.{is_changing}
use Rattle.bosh_base.specs.declared.answer.Answer.{Answer}
use Rattle.bosh_base.specs.declared.answer.Answer.TheVariants as answers
use Rattle.bosh_base.specs.declared.call.Call.{Call}
use Rattle.bosh_base.specs.declared.call.Call.TheVariants as calls
use Rattle.bosh_base.specs.declared.digest.Digest.{Digest}
use Rattle.bosh_base.specs.declared.entry.Entry.{Entry}
use Rattle.bosh_base.specs.declared.entry.Entry.TheVariants as entries
use Rattle.bosh_base.specs.declared.key.KeyWork.{KeyWork}
use Rattle.bosh_base.specs.declared.moves.Did.{Did}
use Rattle.bosh_base.specs.declared.moves.Move.{Move}
use Rattle.bosh_base.specs.declared.moves.Move.TheVariants as moves
use Rattle.bosh_history.specs.Moments.{Moment, OpenCall, later, noting, performed_call}
use Rattle.bosh_history.specs.Notes.{MayNote, Outside}
use Rattle.bosh_history.specs.Permitted.{IsPermitted, PerformsOpen}
use Rattle.bosh_lawful.specs.Clean.{is_failed}
use Rattle.bosh_rows.specs.Standing.{same_truth}
use Rattle.laws_calls.specs.Calls.{AreToldInKind}
use Rattle.laws_facts.specs.KnownFacts.{KnownFacts}
use Rattle.laws_facts.specs.OpenCalls.{is_never_gone, is_told_in_kind}
use Rattle.laws_row_facts.specs.Words.{where_any}

-- ---- the answer of the cloud

-- it is of the call's kind, and gone only where the call may be answered so
abbrev is_due : Call → Answer → Bool
is_due call a = is_kind (method_of call) a && not (is_never_gone call && is_gone a)

due_unless : (call : Call) (test : Bool) (a : Answer) → is_due call a ≡ true → is_due call answers.Gone ≡ true
    → is_due call (unless_gone test a) ≡ true
due_unless call true a answered gone = answered
due_unless call false a answered gone = gone

due_whether : (call : Call) (test : Bool) → is_due call answers.Yes ≡ true → is_due call answers.No ≡ true
    → is_due call (yes_or_no test) ≡ true
due_whether call true yes_is no_is = yes_is
due_whether call false yes_is no_is = no_is

due : (built : KeyWork → List Digest → Digest) (xs : List Entry) (call : Call)
    → is_due call (answer_of built xs call) ≡ true
due built xs (calls.CreateVm make disks) = refl
due built xs (calls.DeleteVm v) = due_unless (calls.DeleteVm v) _ answers.Done refl refl
due built xs (calls.HasVm v) = due_whether (calls.HasVm v) _ refl refl
due built xs (calls.FindVm agent) = refl
due built xs (calls.CreateDisk want v) = due_unless (calls.CreateDisk want v) (is_vm_there xs v) (answers.Cid (disks_created xs + 1)) refl refl
due built xs (calls.DeleteDisk d) = due_unless (calls.DeleteDisk d) _ answers.Done refl refl
due built xs (calls.HasDisk d) = due_whether (calls.HasDisk d) _ refl refl
due built xs (calls.FindDisk tag) = refl
due built xs (calls.AttachDisk v d) = due_unless (calls.AttachDisk v d) _ answers.Done refl refl
due built xs (calls.DetachDisk v d) = due_unless (calls.DetachDisk v d) _ answers.Done refl refl
due built xs (calls.GetDisks v) = due_unless (calls.GetDisks v) (is_vm_there xs v) (answers.Disks (attached_to xs v)) refl refl
due built xs (calls.Ping v) = due_unless (calls.Ping v) _ answers.Done refl refl
due built xs (calls.GetState v) =
    due_unless (calls.GetState v) (has_agent xs v)
    (answers.Facts (spec_of xs v) (is_running xs v) (is_drained xs v)) refl refl
due built xs (calls.Apply v spec) = due_unless (calls.Apply v spec) _ answers.Done refl refl
due built xs (calls.Start v) = due_unless (calls.Start v) _ answers.Done refl refl
due built xs (calls.Drain v) = due_unless (calls.Drain v) _ answers.Done refl refl
due built xs (calls.Stop v) = due_unless (calls.Stop v) _ answers.Done refl refl
due built xs (calls.MountDisk v d) = due_unless (calls.MountDisk v d) _ answers.Done refl refl
due built xs (calls.UnmountDisk v d) = due_unless (calls.UnmountDisk v d) _ answers.Done refl refl
due built xs (calls.ListDisk v) = due_unless (calls.ListDisk v) (has_agent xs v) (answers.Disks (mounted_on xs v)) refl refl
due built xs (calls.MigrateDisk v from to) = due_unless (calls.MigrateDisk v from to) _ answers.Done refl refl
due built xs (calls.CompilePackage v work deps) =
    due_unless (calls.CompilePackage v work deps) (has_agent xs v) (answers.Built (built work deps)) refl refl

truth_itself : (b : Bool) → same_truth b b ≡ true
truth_itself true = refl
truth_itself false = refl

or_right : (a b : Bool) → b ≡ true → (a || b) ≡ true
or_right true b is = refl
or_right false b is = is

told_in_kind : (built : KeyWork → List Digest → Digest) (xs : List Entry) (call : Call) (d : Did)
    → CallStep built xs call d.effect d.answer → is_told_in_kind call d ≡ true
told_in_kind built xs call d (inl (answered, effect)) =
    or_right (is_failed d.answer) _
    ((λ i. is_kind (method_of call) (answered i)
    && (same_truth (effect i) (is_changing (method_of call) && not (is_gone (answered i)))
    && not (is_never_gone call && is_gone (answered i))))
    ∙ and_from (is_kind (method_of call) (answer_of built xs call)) _ parts.0
    (and_from (same_truth (takes_effect built xs call) (takes_effect built xs call)) _
    (truth_itself (takes_effect built xs call)) parts.1))
  where
    parts : (is_kind (method_of call) (answer_of built xs call) ≡ true)
        × (not (is_never_gone call && is_gone (answer_of built xs call)) ≡ true)
    parts =
        and_parts (is_kind (method_of call) (answer_of built xs call))
        (not (is_never_gone call && is_gone (answer_of built xs call))) (due built xs call)
told_in_kind built xs call d (inr (failed, may)) = or_left (is_failed d.answer) _ (λ i. is_failed (failed i))

-- ---- moves

kind_note : (outside : Outside) (m : Moment) (e : Entry) → MayNote outside m e → KnownFacts m
    → AreToldInKind (noting m e)
kind_note outside m (entries.Begin b) may h n call is = by (eqb b.n n) is
  where
    opened_as : Some (record { begin = b; did = None }) ≡ Some call → record { begin = b; did = None } ≡ call
    opened_as now = cc

    by : (same : Bool) → (if same then Some (record { begin = b; did = None }) else m.calls n) ≡ Some call
        → where_any (is_told_in_kind call.begin.call) call.did ≡ true
    by true now = sym (λ j. where_any (is_told_in_kind (opened_as now j).begin.call) (opened_as now j).did)
    by false now = (h.calls n call now).in_kind
kind_note outside m (entries.End e) may h n call is = by (eqb e.n n) is
  where
    by : (same : Bool) → (if same then None else m.calls n) ≡ Some call
        → where_any (is_told_in_kind call.begin.call) call.did ≡ true
    by true now = absurd cc
    by false now = (h.calls n call now).in_kind
kind_note outside m (entries.Snapshot s) may h n call is = absurd may
kind_note outside m entry may h n call is = (h.calls n call is).in_kind

kind_move : (outside : Outside) (m : Moment) (move : Move) → IsPermitted outside m move → KnownFacts m
    → AreToldInKind (later m move)
kind_move outside m (moves.Note e) may h n call is = kind_note outside m e may.2 h n call is
kind_move outside m (moves.Did d) may h n call is = by (eqb d.n n) (m.calls d.n) may.1 is
  where
    by : (same : Bool) (that : Option OpenCall) → PerformsOpen outside m.effects d that
        → (if same then performed_call d that else m.calls n) ≡ Some call
        → where_any (is_told_in_kind call.begin.call) call.did ≡ true
    by true (Some that) performs now =
        sym (λ j. where_any (is_told_in_kind (performed now j).begin.call) (performed now j).did)
        ∙ told_in_kind outside.built m.effects that.begin.call d performs.step
      where
        performed : Some (record that { did = Some d }) ≡ Some call → record that { did = Some d } ≡ call
        performed now = cc
    by true None performs now = absurd cc
    by false that performs now = (h.calls n call now).in_kind
kind_move outside m (moves.Stop s) may h n call is = absurd cc
kind_move outside m move may h n call is = (h.calls n call is).in_kind

pub kind_kept : (outside : Outside) (m : Moment) (move : Move) → IsPermitted outside m move → KnownFacts m
    → AreToldInKind (later m move)
kind_kept outside m move may h = kind_move outside m move may h
