-- What the cloud answers to a call of an instance in a clean task: nothing is gone but a machine that is known to be
-- lost, or that a ping finds so, and the row that it leaves is unspoiled.
use Rattle.std.proofs.Common.{◌≡◌, ◌∙◌, ℕ, ◌+◌, ◌≤◌, Bool, true, false, Option, Some, None, List}
use Rattle.std.proofs.Common.{ap, arith, inl, inr, refl, subst, sym}
use Rattle.std.specs.Prelude.{◌||◌, if◌then◌else◌, is_some, not}
use Rattle.std.proofs.lemmas.Bool.{and_from, false≢true, not-true}
use Rattle.bosh_base.specs.CallStep.{CallStep, answer_of, found_vm, has_agent, is_gone, unless_gone, yes_or_no}
use Rattle.bosh_base.specs.Cloud.{is_silent, is_vm_there, vm_creation, vms_created}
use Rattle.bosh_base.specs.declared.answer.Answer.TheVariants as answers
use Rattle.bosh_base.specs.declared.call.Call.{Call}
use Rattle.bosh_base.specs.declared.call.Call.TheVariants as calls
use Rattle.bosh_base.specs.declared.entry.Effect.{Effect}
use Rattle.bosh_base.specs.declared.entry.Entry.{Entry}
use Rattle.bosh_base.specs.declared.inst.Inst.{Inst}
use Rattle.bosh_base.specs.declared.moves.Did.{Did}
use Rattle.bosh_base.specs.declared.owner.Owner.{Owner}
use Rattle.bosh_base.specs.declared.owner.Owner.TheVariants.{Instance}
use Rattle.bosh_base.specs.declared.row.Row.{Row}
use Rattle.bosh_base.specs.declared.row.Vm.{Vm}
use Rattle.bosh_history.specs.Moments.{Moment, OpenCall, tells_of}
use Rattle.bosh_history.specs.Notes.{Outside}
use Rattle.bosh_history.specs.Permitted.{Performs}
use Rattle.bosh_history.specs.Steps.{want_of}
use Rattle.bosh_history.specs.Words.{holds}
use Rattle.bosh_lawful.specs.Clean.{is_failed, is_silent_creation}
use Rattle.bosh_rows.specs.After.{after, leaves_doubt}
use Rattle.bosh_rows.specs.CallOf.{next_call}
use Rattle.bosh_rows.proofs.SameLemmas.{itself}
use Rattle.bosh_rows.specs.Same.{same_owner}
use Rattle.bosh_rows.specs.Tied.{is_made_for, is_named_lost, is_spoiled, without_doubt}
use Rattle.laws_answered_rows.proofs.OwnLemmas.{rightful_of}
use Rattle.laws_calls.proofs.BeginLemmas.{vm_before}
use Rattle.laws_clean.proofs.CloudLemmas.{answers_unnamed, unspoiled_by, unspoiled_none, unspoiled_same}
use Rattle.laws_cloud.proofs.CallLemmas.{InstanceCall, instance_fits, pings, steps}
use Rattle.laws_cloud.proofs.OwnerFrames.{row_doubt}
use Rattle.laws_facts.specs.CallFacts.{IsOwnerKept}
use Rattle.laws_facts.specs.Clean.{is_unspoiled, may_be_gone}
use Rattle.laws_facts.specs.Facts.{Holds}
use Rattle.laws_heard.proofs.AnswerLemmas.{implied}
use Rattle.laws_heard.proofs.NoteLemmas.{implied_by}
use Rattle.laws_heard.proofs.TellLemmas.{AsksOf, Tells, asks_of, gone, made, same, tells, told}
use Rattle.laws_items.proofs.PingLemmas.{plain_call}
use Rattle.laws_kept_facts.proofs.CallCases.{by_all}
use Rattle.laws_kept_rows.proofs.RowLemmas.{own_before_call}
use Rattle.laws_row_facts.specs.Calls.{is_ping, row_before}
use Rattle.laws_row_facts.specs.Cloud.{is_for_instance, is_instance}
use Rattle.laws_row_facts.specs.Rows.{RowFacts}
use Rattle.laws_row_facts.specs.Words.{implies}
use Rattle.laws_row_frames.proofs.EntryFrames.{created_of}
use Rattle.laws_row_frames.proofs.FrameLemmas.{IsOf}
use Rattle.laws_rows.proofs.FoundLemmas.{vm-found}
use Rattle.laws_rows.proofs.OneCallLemmas.{never_gone}

-- ---- a machine that is still to be made

not_made : (xs : List Entry) (v : ℕ) → vms_created xs + 1 ≡ v → is_for_instance (vm_creation xs v) ≡ true → ⊥
not_made xs v next instance = by (vm_creation xs v) refl instance
  where
    low : (i : Inst) → IsOf xs i v → ⊥
    low i of = let below : v ≤ vms_created xs = created_of xs i v of in omega (arith, below, next)

    by : (e : Option Effect) → vm_creation xs v ≡ e → is_for_instance e ≡ true → ⊥
    by (Some e) is instance = owned e is e.owner refl instance
      where
        owned : (e : Effect) → vm_creation xs v ≡ Some e → (owner : Owner) → e.owner ≡ owner
            → is_for_instance (Some e) ≡ true → ⊥
        owned e is (Instance i) own instance =
            low i ((λ j. is_made_for (Instance i) (is j)) ∙ ((λ j. same_owner (own j) (Instance i)) ∙ itself i))
        owned e is owner own instance = false≢true ((λ j. is_instance (sym own j)) ∙ instance)
    by None is instance = false≢true instance

-- ---- the answer to an open call of an instance

module _ (outside : Outside) (m : Moment) (h : Holds m) (d : Did) (call : OpenCall) (is : m.calls d.n ≡ Some call)
    (performs : Performs outside m.effects call d) (well : is_failed d.answer ≡ false) where
  abbrev xs : List Entry
  xs = m.effects

  abbrev c : Call
  c = call.begin.call

  pub says : d.answer ≡ answer_of outside.built xs c
  says = by performs.step
    where
      by : CallStep outside.built xs c d.effect d.answer → d.answer ≡ answer_of outside.built xs c
      by (inl (says, takes)) = says
      by (inr (failed, may)) = absurd (false≢true (sym well ∙ (λ j. is_failed (failed j))))

  module _ (i : Inst) (own : call.begin.owner ≡ Instance i) where
    abbrev row : Row
    row = m.known.row i

    abbrev old : Row
    old = row_before c row

    -- what it was before the call
    pub facts : RowFacts xs old
    facts = by call.did refl performs.not_yet
      where
        by : (did : Option Did) → call.did ≡ did → is_some did ≡ false → RowFacts xs old
        by (Some it) is_told none = absurd (false≢true (sym none))
        by None is_told none =
            subst (λ (o : Owner). IsOwnerKept m call.begin None o) own
            (subst (λ (did : Option Did). IsOwnerKept m call.begin did call.begin.owner) is_told
            (h.performed d.n call is).owner_kept)

    module _ (unspoiled : is_ping c ≡ false → is_unspoiled xs (m.known.row i) ≡ true)
        (loud : is_silent_creation xs (m.known.row i).doubt ≡ false) where
      lost_same : old.lost ≡ row.lost
      lost_same = by (leaves_doubt c)
        where
          by : (leaves : Bool) → (if leaves then without_doubt row else row).lost ≡ row.lost
          by true = refl
          by false = refl

      -- ---- the next call of the row

      module _ (next : next_call (want_of (m.known.task call.begin.task) i) old ≡ Some c) where
        plain : is_ping c ≡ false
        plain = (plain_call (want_of (m.known.task call.begin.task) i) old c next).0

        -- where the row is lost, only its deletion may find nothing
        abbrev Rightly : Call → Type 0
        Rightly c = is_gone (answer_of outside.built xs c) ≡ true → may_be_gone m.known (Instance i) c ≡ true

        of_lost : old.lost ≡ true → Rightly c
        of_lost lost =
            by_all Rightly (want_of (m.known.task call.begin.task) i) old
            (record {
              known = λ found none. absurd (not_found found);
              deletes = λ it is has gone. sym lost_same ∙ is;
              there = λ it m v has doubts gone. absurd (answered (is_vm_there xs it.vm) gone);
              finds_vm = λ m make hint found doubts gone. absurd (false≢true gone);
              finds_disk = λ m wanted v doubts gone. absurd (false≢true gone);
              lists = λ it m v x found has doubts. absurd (not_found found);
              shows = λ it m v x found has doubts. absurd (not_found found);
              tells = λ it m c found has doubts state. absurd (not_found found);
            }) c next
          where
            not_found : old.lost ≡ false → ⊥
            not_found found = false≢true (sym found ∙ lost)

            answered : (b : Bool) → is_gone (yes_or_no b) ≡ true → ⊥
            answered true is = false≢true is
            answered false is = false≢true is

        of_found : old.lost ≡ false → is_gone (answer_of outside.built xs c) ≡ false
        of_found found =
            never_gone outside.built (want_of (m.known.task call.begin.task) i) xs old c facts.tied
            (rightful_of xs old h.cloud.orderly h.cloud.held_by_own facts
            (own_before_call xs c row (row_doubt m h i)))
            found
            (not-true (is_spoiled xs old)
            (sym (λ j. found j || not (is_spoiled xs old))
            ∙ unspoiled_same xs row old (vm_before c row) lost_same (unspoiled plain)))
            next

        step_gone : implies (is_gone d.answer) (may_be_gone m.known (Instance i) c) ≡ true
        step_gone = by old.lost refl
          where
            by : (lost : Bool) → old.lost ≡ lost → implies (is_gone d.answer) (may_be_gone m.known (Instance i) c) ≡ true
            by true lost =
                implied_by (is_gone d.answer) (may_be_gone m.known (Instance i) c)
                (λ is. of_lost lost (sym (λ j. is_gone (says j)) ∙ is))
            by false found =
                λ j. implies (((λ l. is_gone (says l)) ∙ of_found found) j) (may_be_gone m.known (Instance i) c)

        -- no loss named a machine that was made, or found
        new_unnamed : (it : Call) → c ≡ it → (v : ℕ) → tells_of it d.answer ≡ Some v → is_named_lost xs v ≡ false
        new_unnamed (calls.CreateVm make hint) creates v tell = by (is_named_lost xs v) refl
          where
            next_is : vms_created xs + 1 ≡ v
            next_is =
                let number : Some (vms_created xs + 1) ≡ Some v =
                sym (λ j. tells_of (calls.CreateVm make hint)
                ((says ∙ (λ l. answer_of outside.built xs (creates l))) j)) ∙ tell in cc

            by : (lost : Bool) → is_named_lost xs v ≡ lost → lost ≡ false
            by false none = refl
            by true lost =
                absurd (not_made xs v next_is
                (implied (is_named_lost xs v) (is_for_instance (vm_creation xs v)) (h.cloud.lost_of_instances v) lost))
        new_unnamed (calls.FindVm n) finds v tell =
            answers_unnamed xs h.cloud.orderly v
            (and_from (is_vm_there xs v) _ (vm-found xs n v found).there
            (λ j. not (((λ l. holds (is_silent xs) (sym found l)) ∙ quiet) j)))
          where
            found : found_vm xs n ≡ Some v
            found =
                sym (λ j. tells_of (calls.FindVm n) ((says ∙ (λ l. answer_of outside.built xs (finds l))) j)) ∙ tell

            asked : AsksOf row (calls.FindVm n)
            asked =
                asks_of (want_of (m.known.task call.begin.task) i) row (calls.FindVm n)
                (sym (λ j. next_call (want_of (m.known.task call.begin.task) i) (row_before (finds j) row))
                ∙ (next ∙ ap Some finds))

            quiet : holds (is_silent xs) (found_vm xs n) ≡ false
            quiet =
                let (make, hint, doubts) = asked in sym (λ j. is_silent_creation xs (doubts j)) ∙ loud
        new_unnamed (calls.Ping u) asks v tell =
            absurd (false≢true (sym plain ∙ (λ j. is_ping (asks j))))
        new_unnamed it called v tell = absurd cc

        step_unspoiled : is_unspoiled xs (after call.begin.n c d.answer row) ≡ true
        step_unspoiled = by (tells call.begin.n c d.answer row plain)
          where
            new : Row
            new = after call.begin.n c d.answer row

            by : Tells c d.answer row new → is_unspoiled xs new ≡ true
            by (gone none) = unspoiled_none xs new none
            by (same vm lost spec) = unspoiled_same xs row new vm lost (unspoiled plain)
            by (told v asks there vm lost) = unspoiled_same xs row new vm lost (unspoiled plain)
            by (made v agent vm spec tell) =
                unspoiled_by xs new (record { vm = v; agent = agent }) vm (new_unnamed c refl v tell)

      -- ---- a ping

      ping_unspoiled : (it : Vm) → row.vm ≡ Some it → calls.Ping it.vm ≡ c
          → is_unspoiled xs (after call.begin.n c d.answer row) ≡ true
      ping_unspoiled it has asks =
          (λ j. is_unspoiled xs (after call.begin.n (sym asks j) d.answer row))
          ∙ ((λ j. is_unspoiled xs (after call.begin.n (calls.Ping it.vm)
          ((says ∙ (λ l. answer_of outside.built xs (sym asks l))) j) row))
          ∙ by (has_agent xs it.vm) refl)
        where
          by : (there : Bool) → has_agent xs it.vm ≡ there
              → is_unspoiled xs (after call.begin.n (calls.Ping it.vm)
              (unless_gone (has_agent xs it.vm) answers.Done) row) ≡ true
          by true is =
              (λ j. is_unspoiled xs (after call.begin.n (calls.Ping it.vm) (unless_gone (is j) answers.Done) row))
              ∙ unspoiled_by xs row it has (answers_unnamed xs h.cloud.orderly it.vm is)
          by false none =
              λ j. is_unspoiled xs (after call.begin.n (calls.Ping it.vm) (unless_gone (none j) answers.Done) row)

      -- ---- both

      pub gone_rightly : implies (is_gone d.answer) (may_be_gone m.known (Instance i) c) ≡ true
      gone_rightly = by (instance_fits m h d.n call is i own).call_is
        where
          by : InstanceCall (m.known.task call.begin.task) i row c
              → implies (is_gone d.answer) (may_be_gone m.known (Instance i) c) ≡ true
          by (pings it has called) =
              implied_by (is_gone d.answer) (may_be_gone m.known (Instance i) c)
              (λ is. (λ j. may_be_gone m.known (Instance i) (sym called j)))
          by (steps next) = step_gone next

      pub left_unspoiled : is_unspoiled xs (after call.begin.n c d.answer row) ≡ true
      left_unspoiled = by (instance_fits m h d.n call is i own).call_is
        where
          by : InstanceCall (m.known.task call.begin.task) i row c
              → is_unspoiled xs (after call.begin.n c d.answer row) ≡ true
          by (pings it has called) = ping_unspoiled it has called
          by (steps next) = step_unspoiled next
