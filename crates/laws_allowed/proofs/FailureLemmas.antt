-- The end of a task that failed, which may be noted, is allowed.
use Rattle.std.proofs.Common.{◌≡◌, ◌∙◌, ℕ, ◌≤◌, ◌+◌, zero, suc, Bool, true, false, ◌&&◌, not, List, [], ◌∷◌}
use Rattle.std.proofs.Common.{Option, Some, None, ap, refl, sym, arith, inl, inr}
use Rattle.std.specs.Prelude.{◌⊎◌, ◌==◌, ◌||◌, cond, count_by, is_none, is_some, nat_le, if◌then◌else◌}
use Rattle.std.specs.List.{list_all, list_any}
use Rattle.std.specs.Option.{option_map, option_map_or}
use Rattle.std.proofs.lemmas.Bool.{and_parts, eq-eqb, eqb-true, false≢true, le-leb, or_cases}
use Rattle.std.proofs.lemmas.List.Folds.{list_any-append}
use Rattle.std.proofs.lemmas.List.Sums.{sum_by-cons}
use Rattle.bosh_base.specs.Cloud.{numbers_to}
use Rattle.bosh_base.specs.declared.entry.Begin.{Begin}
use Rattle.bosh_base.specs.declared.entry.Entry.TheVariants as entries
use Rattle.bosh_base.specs.declared.entry.TaskError.{TaskError}
use Rattle.bosh_base.specs.declared.failure.Failure.{Failure}
use Rattle.bosh_base.specs.declared.failure.Failure.TheVariants as failures
use Rattle.bosh_base.specs.declared.task.TaskEnd.{TaskEnd}
use Rattle.bosh_base.specs.declared.task.TaskRow.{TaskRow}
use Rattle.bosh_claim.specs.Ending.{failed_so, fails_task, has_failed}
use Rattle.bosh_claim.specs.Ending as ending
use Rattle.bosh_history.specs.Held.{is_open}
use Rattle.bosh_history.specs.Moments.{Moment, OpenCall}
use Rattle.bosh_history.specs.Notes.{FailsTask, IsCause, is_task_open}
use Rattle.bosh_history.specs.Recovered.{may_follow}
use Rattle.bosh_history.specs.Snapshots.{task_row}
use Rattle.bosh_history.specs.Steps.{has_no_call}
use Rattle.bosh_history.specs.Tasks.{end_by}
use Rattle.bosh_history.specs.Words.{holds}
use Rattle.bosh_records.specs.Readers.{work_at}
use Rattle.bosh_records.specs.declared.records.Records.{Records}
use Rattle.laws_choices.proofs.SameCallLemmas.{told_at}
use Rattle.laws_facts.proofs.CurrentLemmas.{done_works}
use Rattle.laws_facts.specs.KnownFacts.{KnownFacts}
use Rattle.laws_facts.specs.Owners.{works}
use Rattle.laws_stands.specs.Agrees.{Agrees}
use Rattle.laws_stands.specs.Stands.{Stands}
use Rattle.laws_stands.specs.Told.{Told}
use Rattle.laws_stands.specs.WorkStands.{end_of, is_task_call}
use Rattle.laws_allowed.proofs.WorkingLemmas.{IsAtWork, at_work}

-- ---- numbers

-- a number up to the last is one of them
numbered : (t last : ℕ) → list_any (λ n. n == t) (numbers_to last) ≡ true → (1 ≤ t) × (t ≤ last)
numbered t zero is = absurd (false≢true is)
numbered t (suc last) is =
    elim (or_cases (list_any (λ n. n == t) (numbers_to last)) ((suc last == t) || false)
    (sym (list_any-append (λ n. n == t) (numbers_to last) (suc last ∷ [])) ∙ is)) [
      | inl more ↦ (let r : (1 ≤ t) × (t ≤ last) = numbered t last more in (r.0, later t last r.1))
      | inr same ↦ at_last (or_cases (suc last == t) false same)
    ]
  where
    later : (t last : ℕ) → t ≤ last → t ≤ suc last
    later t last low = omega arith

    at_last : ((suc last == t) ≡ true) ⊎ (false ≡ true) → (1 ≤ t) × (t ≤ suc last)
    at_last (inl same) = let e : suc last ≡ t = eqb-true (suc last) t same in (omega arith, omega arith)
    at_last (inr none) = absurd (false≢true none)

none_more : (c : ℕ) → 0 + c ≡ c
none_more c = omega arith

-- where none passes, none is counted
none_counted : (p : ℕ → Bool) (xs : List ℕ) → list_all (λ x. not (p x)) xs ≡ true → count_by p xs ≡ 0
none_counted p [] none = refl
none_counted p (x ∷ xs) none = sum_by-cons (λ x. cond (p x) 1 0) x xs
    ∙ by (p x) (and_parts (not (p x)) (list_all (λ x. not (p x)) xs) none) (λ none. none_counted p xs none)
  where
    by : (b : Bool) → (not b ≡ true) × (list_all (λ x. not (p x)) xs ≡ true)
        → (list_all (λ x. not (p x)) xs ≡ true → count_by p xs ≡ 0) → cond b 1 0 + count_by p xs ≡ 0
    by true (none, rest) more = absurd (false≢true none)
    by false (none, rest) more = none_more (count_by p xs) ∙ more rest

-- ---- a task of which a call failed

module _ (m : Moment) (records : Records) (n : ℕ) (at : IsAtWork m records n) where
  -- no call of the task is open
  pub open_is : has_no_call m n ≡ true → at.work.open ≡ 0
  open_is none = at.work_stands.open_are
      ∙ none_counted (is_task_call (told_at m at.snapped) n) (numbers_to m.known.last_call)
      ((λ i. list_all (λ c. not (of (m.calls c) i)) (numbers_to m.known.last_call)) ∙ none)
    where
      of : (o : Option OpenCall) → holds (λ (b : Begin). b.task == n) (option_map (λ (call : OpenCall). call.begin) o)
          ≡ holds (λ (call : OpenCall). call.begin.task == n) o
      of (Some call) = refl
      of None = refl

  ends_by : (o : Option TaskEnd) (end : TaskEnd) (c : ℕ) (gone : Bool) → o ≡ Some end
      → failed_so c gone at.work end ≡ true → option_map_or (failed_so c gone at.work) o false ≡ true
  ends_by o end c gone is so = ap (λ o. option_map_or (failed_so c gone at.work) o false) is ∙ so

  by_call : (c : ℕ) → (m.known.task n).failed ≡ Some (failures.Call c) → has_no_call m n ≡ true
      → option_map_or (failed_so c false at.work) at.work.failed false ≡ true
  by_call c failed none = by (m.known.begun c) refl (at.stands.tells_well.failed n (failures.Call c) failed)
    where
      by : (o : Option Begin) → m.known.begun c ≡ o → is_some (m.known.begun c) ≡ true
          → option_map_or (failed_so c false at.work) at.work.failed false ≡ true
      by (Some b) is some =
          ap (λ o. option_map_or (failed_so c false at.work) o false)
          (at.work_stands.failed_is ∙ ap (option_map (end_of m.known)) failed
          ∙ (λ i. Some (end_by (failures.Call c) (is i))))
          ∙ (λ i. (open_is none i == 0) && (eq-eqb c c refl i && true))
      by None is some = absurd (false≢true (sym (ap is_some is) ∙ some))

  by_gone : (c : ℕ) → (m.known.task n).failed ≡ Some (failures.Gone c) → has_no_call m n ≡ true
      → option_map_or (failed_so c true at.work) at.work.failed false ≡ true
  by_gone c failed none = by (m.known.begun c) refl (at.stands.tells_well.failed n (failures.Gone c) failed)
    where
      by : (o : Option Begin) → m.known.begun c ≡ o → is_some (m.known.begun c) ≡ true
          → option_map_or (failed_so c true at.work) at.work.failed false ≡ true
      by (Some b) is some =
          ap (λ o. option_map_or (failed_so c true at.work) o false)
          (at.work_stands.failed_is ∙ ap (option_map (end_of m.known)) failed
          ∙ (λ i. Some (end_by (failures.Gone c) (is i))))
          ∙ (λ i. (open_is none i == 0) && (eq-eqb c c refl i && true))
      by None is some = absurd (false≢true (sym (ap is_some is) ∙ some))

-- ---- all

module _ (m : Moment) (told : Told) (records : Records) (stands : Stands told records) (agrees : Agrees m told)
    (facts : KnownFacts m) where
  -- a task that is open is recorded so
  pub recorded_open : (t : ℕ) → is_task_open m.known t ≡ true → ending.is_open records t ≡ true
  recorded_open t still =
      ap (λ o. option_map_or (λ (row : TaskRow). is_none row.end) o false)
      (stands.tasks t
      ∙ (λ i. if nat_le 1 t && nat_le t (agrees.known_is i).tasks then Some (task_row (agrees.known_is i) t)
      else None)
      ∙ (λ i. if le-leb 1 t within.0 i && le-leb t m.known.tasks within.1 i then Some (task_row m.known t) else None))
      ∙ by (m.known.task t).end parts.1
    where
      parts : (list_any (λ n. n == t) (numbers_to m.known.tasks) ≡ true) × (is_open m.known t ≡ true)
      parts = and_parts (list_any (λ n. n == t) (numbers_to m.known.tasks)) (is_open m.known t) still

      within : (1 ≤ t) × (t ≤ m.known.tasks)
      within = numbered t m.known.tasks parts.0

      by : (end : Option TaskEnd) → not (is_some end) ≡ true → is_none end ≡ true
      by (Some end) is = absurd (false≢true is)
      by None is = refl

  pub failure_is_allowed : (error : TaskError) → FailsTask m error
      → may_follow m (entries.TaskError error) ≡ true → fails_task records error ≡ true
  failure_is_allowed error noted follows = by error.cause refl noted.cause
    where
      works_still : may_follow m (entries.TaskDone error.task) ≡ true → works m error.task ≡ true
      works_still may = done_works m error.task may noted.is_open

      by_work : (c : ℕ) (gone : Bool) (at : IsAtWork m records error.task)
          → option_map_or (failed_so c gone at.work) at.work.failed false ≡ true
          → has_failed (work_at records error.task) c gone ≡ true
      by_work c gone at so = ap (λ o. has_failed o c gone) at.there ∙ so

      by : (cause : Failure) → error.cause ≡ cause → IsCause m error.task cause
          → fails_task records (record error { cause = cause }) ≡ true
      by failures.Interrupted is stopped = recorded_open error.task noted.is_open
      by (failures.Call c) is failed = let at : IsAtWork m records error.task =
          at_work m told records error.task facts stands agrees
          (works_still (ap (λ cause. may_follow m (entries.TaskError (record error { cause = cause }))) (sym is)
          ∙ follows)) in by_work c false at (by_call m records error.task at c failed noted.no_call)
      by (failures.Gone c) is failed = let at : IsAtWork m records error.task =
          at_work m told records error.task facts stands agrees
          (works_still (ap (λ cause. may_follow m (entries.TaskError (record error { cause = cause }))) (sym is)
          ∙ follows)) in by_work c true at (by_gone m records error.task at c failed noted.no_call)
