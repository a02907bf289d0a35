-- A task that opens leaves the others as they were, and is clean where it can find out all that is wrong.
use Rattle.std.proofs.Common.{◌≡◌, ◌∙◌, ℕ, ◌≤◌, Bool, true, false, Option, Some, None}
use Rattle.std.proofs.Common.{arith, inl, inr, refl, sym}
use Rattle.std.specs.Prelude.{◌⊎◌, ◌&&◌, ◌||◌, ◌==◌, if◌then◌else◌, is_some, not}
use Rattle.std.specs.Str.{bytes_eq}
use Rattle.std.proofs.lemmas.Bool.{and_from, and_parts, eq-eqb, false≢true, or_cases, or_left, or_right}
use Rattle.std.proofs.lemmas.Bool.Decides.{eqb_tells}
use Rattle.bosh_base.specs.declared.entry.Entry.TheVariants as entries
use Rattle.bosh_base.specs.declared.entry.TaskOpen.{TaskOpen}
use Rattle.bosh_base.specs.declared.inst.Inst.{Inst}
use Rattle.bosh_base.specs.declared.row.Row.{Row}
use Rattle.bosh_base.specs.declared.row.Vm.{Vm}
use Rattle.bosh_base.specs.declared.task.TaskKind.{TaskKind}
use Rattle.bosh_base.specs.declared.task.TaskKind.TheVariants as kinds
use Rattle.bosh_history.specs.Items.{is_to_ping}
use Rattle.bosh_history.specs.Moments.{Moment, OpenCall, noting}
use Rattle.bosh_history.specs.Notes.{Outside}
use Rattle.bosh_history.specs.Openings.{MayOpen, deploys}
use Rattle.bosh_history.specs.Sound.{IsSound}
use Rattle.bosh_history.specs.Tasks.{asks_of, has_machine, is_of_dep, task_opened, to_ping}
use Rattle.bosh_history.specs.Words.{holds, is_among}
use Rattle.bosh_lawful.specs.Clean.{are_found_out, is_found_out, is_silent_creation, may_be_spoiled}
use Rattle.bosh_rows.proofs.SameLemmas.{itself, same_inst_decides}
use Rattle.bosh_rows.specs.After.{bare}
use Rattle.bosh_rows.specs.Same.{same_inst}
use Rattle.bosh_rows.specs.Tied.{is_spoiled}
use Rattle.laws_clean.proofs.CloudLemmas.{unspoiled_none}
use Rattle.laws_clean.proofs.NoteLemmas.{calls_noted}
use Rattle.laws_clean.specs.Unfailed.{UnfailedFacts}
use Rattle.laws_facts.proofs.WorkLemmas.{opens_next}
use Rattle.laws_facts.specs.Clean.{is_answer_clean, is_call_clean, is_row_clean, is_unspoiled}
use Rattle.laws_facts.specs.Facts.{Holds}
use Rattle.laws_heard.proofs.NoteLemmas.{implied_by}
use Rattle.laws_items.proofs.ListLemmas.{all_in, among_is, any_in, in_filtered}
use Rattle.laws_items.specs.Lists.{IsIn}
use Rattle.laws_row_facts.specs.Words.{implies, where_any}

module _ (outside : Outside) (m : Moment) (h : Holds m) (o : TaskOpen)
    (may : MayOpen m.known o × IsSound m.known o) where
  abbrev new : Moment
  new = noting m (entries.TaskOpen o)

  -- ---- another task

  module _ (t : ℕ) (low : t ≤ m.known.tasks) where
    apart : (o.task == t) ≡ false
    apart = grind (arith, opens_next m.known o may.0, low, eqb_tells o.task t)

    pub other_task : new.known.task t ≡ m.known.task t
    other_task = λ j. if apart j then task_opened m.known o else m.known.task t

    pub opened_other : UnfailedFacts m t → UnfailedFacts (noting m (entries.TaskOpen o)) t
    opened_other u = record {
      deploy = (λ j. deploys (other_task j).kind) ∙ u.deploy;
      rows = λ i. (λ j. is_row_clean m (other_task j) i) ∙ u.rows i;
      calls = calls_noted outside m h (entries.TaskOpen o) may t u.calls;
      none_failed = (λ j. is_some (other_task j).failed) ∙ u.none_failed;
    }

  -- ---- the task that opens

  module _ (deploy : deploys o.kind ≡ true) (found_out : are_found_out m o ≡ true) where
    own_task : new.known.task o.task ≡ task_opened m.known o
    own_task = λ j. if eq-eqb o.task o.task refl j then task_opened m.known o else m.known.task o.task

    module _ (i : Inst) (mine : is_of_dep o.dep i ≡ true) where
      abbrev row : Row
      row = m.known.row i

      abbrev IsRight : Type 0
      IsRight = (is_unspoiled m.effects row || is_to_ping (task_opened m.known o) i) ≡ true

      of_none : row.vm ≡ None → IsRight
      of_none none = or_left (is_unspoiled m.effects row) _ (unspoiled_none m.effects row none)

      -- a fix asks it
      asked : IsIn i m.known.instances → (kind : TaskKind) → o.kind ≡ kind → may_be_spoiled kind ≡ true → (it : Vm)
          → row.vm ≡ Some it → row.lost ≡ false → is_to_ping (task_opened m.known o) i ≡ true
      asked isin kinds.Fix is may it has found =
          and_from (is_among same_inst i (to_ping m.known o)) true
          (any_in (same_inst i) i (to_ping m.known o)
          (in_filtered (λ i. asks_of o.kind o.dep i && has_machine m.known i) i m.known.instances isin
          (and_from (asks_of o.kind o.dep i) _ ((λ j. asks_of (is j) o.dep i) ∙ mine)
          (λ j. is_some (has j) && not (found j))))
          (itself i)) refl
      asked isin kind is may it has found = absurd (false≢true may)

      right : IsIn i m.known.instances → (may_be_spoiled o.kind || not (is_spoiled m.effects row)) ≡ true → IsRight
      right isin either = by row.lost refl row.vm refl
        where
          weigh : row.lost ≡ false → (it : Vm) → row.vm ≡ Some it
              → (may_be_spoiled o.kind ≡ true) ⊎ (not (is_spoiled m.effects row) ≡ true) → IsRight
          weigh found it has (inl asks) =
              or_right (is_unspoiled m.effects row) _ (asked isin o.kind refl asks it has found)
          weigh found it has (inr whole) =
              or_left (is_unspoiled m.effects row) _ (or_right row.lost _ whole)

          by : (lost : Bool) → row.lost ≡ lost → (vm : Option Vm) → row.vm ≡ vm → IsRight
          by true lost vm has =
              or_left (is_unspoiled m.effects row) _ (or_left row.lost (not (is_spoiled m.effects row)) lost)
          by false found None none = of_none none
          by false found (Some it) has =
              weigh found it has (or_cases (may_be_spoiled o.kind) (not (is_spoiled m.effects row)) either)

      row_right : IsRight × (not (is_silent_creation m.effects row.doubt) ≡ true)
      row_right = by (is_among same_inst i m.known.instances) refl
        where
          by : (listed : Bool) → is_among same_inst i m.known.instances ≡ listed
              → IsRight × (not (is_silent_creation m.effects row.doubt) ≡ true)
          by true listed =
              let isin : IsIn i m.known.instances =
              among_is same_inst (λ a b. (same_inst_decides a b).0) i m.known.instances listed in
              let found : is_found_out m.effects o.kind row ≡ true =
              sym (λ j. not (mine j) || is_found_out m.effects o.kind row)
              ∙ all_in (λ i. not (is_of_dep o.dep i) || is_found_out m.effects o.kind (m.known.row i)) i
              m.known.instances found_out isin in
              let (either, quiet) =
              and_parts (may_be_spoiled o.kind || not (is_spoiled m.effects row)) _ found in
              (right isin either, quiet)
          by false unlisted =
              let bare_now : m.known.row i ≡ bare i = h.known.lists.bare i unlisted in
              (of_none (λ j. (bare_now j).vm), λ j. not (is_silent_creation m.effects (bare_now j).doubt))

    own_row : (i : Inst) → is_row_clean m (task_opened m.known o) i ≡ true
    own_row i =
        implied_by (holds (bytes_eq i.dep) o.dep) _
        (λ mine.
        let (right, quiet) = row_right i mine in
        and_from (is_unspoiled m.effects (m.known.row i) || is_to_ping (task_opened m.known o) i) _ right quiet)

    -- no open call is of it
    own_call : (call : Option OpenCall) (n : ℕ) → m.calls n ≡ call → where_any (is_call_clean new o.task) call ≡ true
    own_call (Some call) n is =
        λ j. implies (apart_call j) (where_any (λ d. is_answer_clean new call.begin d.answer) call.did)
      where
        apart_call : (call.begin.task == o.task) ≡ false
        apart_call =
            grind (arith, opens_next m.known o may.0, (h.known.calls n call is).works, eqb_tells call.begin.task o.task)
    own_call None n is = refl

    pub opened_own : UnfailedFacts (noting m (entries.TaskOpen o)) o.task
    opened_own = record {
      deploy = (λ j. deploys (own_task j).kind) ∙ deploy;
      rows = λ i. (λ j. is_row_clean m (own_task j) i) ∙ own_row i;
      calls = λ n. own_call (m.calls n) n refl;
      none_failed = λ j. is_some (own_task j).failed;
    }
