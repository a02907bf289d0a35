-- The choice of a worker is the claim.
use Rattle.std.proofs.Common.{◌≡◌, ◌∙◌, ℕ, ◌+◌, ◌<◌, ◌≤◌, Bool, true, false, ◌&&◌, not, List, [], ◌∷◌, Option}
use Rattle.std.proofs.Common.{Some, None, ap, refl, sym, subst, arith}
use Rattle.std.specs.Prelude.{◌==◌, cond, count_by, is_some, nat_le, nat_lt, if◌then◌else◌}
use Rattle.std.specs.List.{list_all}
use Rattle.std.specs.Option.{option_map}
use Rattle.std.proofs.lemmas.Bool.{and_from, false≢true, le-leb, lt-ltb}
use Rattle.std.proofs.lemmas.Bool.Decides.{nat_tests}
use Rattle.std.proofs.lemmas.List.Sums.{sum_by-cons}
use Rattle.bosh_base.specs.Cloud.{numbers_to}
use Rattle.bosh_base.specs.declared.entry.Begin.{Begin}
use Rattle.bosh_base.specs.declared.failure.Failure.{Failure}
use Rattle.bosh_base.specs.declared.task.TaskEnd.{TaskEnd}
use Rattle.bosh_claim.specs.Choice.{choice_of, of_open, of_task}
use Rattle.bosh_claim.specs.declared.choice.Choice.TheVariants as choices
use Rattle.bosh_history.specs.Claim.{Over, Waits, by_items, claim_at}
use Rattle.bosh_history.specs.Held.{is_open}
use Rattle.bosh_history.specs.Items.{items}
use Rattle.bosh_history.specs.Moments.{Moment, OpenCall}
use Rattle.bosh_history.specs.Steps.{has_no_call}
use Rattle.bosh_history.specs.Words.{holds}
use Rattle.bosh_records.specs.Readers.{work_at}
use Rattle.bosh_records.specs.declared.records.Records.{Records}
use Rattle.bosh_work.specs.declared.part.MachineName.{MachineName}
use Rattle.bosh_work.specs.declared.work.Work.{Work}
use Rattle.laws_facts.specs.KnownFacts.{KnownFacts}
use Rattle.laws_facts.specs.Owners.{works}
use Rattle.laws_stands.proofs.ChoiceLemmas.{choice_is}
use Rattle.laws_stands.specs.Agrees.{Agrees, claimed_of}
use Rattle.laws_stands.specs.Stands.{AreSwept, IsWork, Stands}
use Rattle.laws_stands.specs.Told.{Told, is_going}
use Rattle.laws_stands.specs.WorkStands.{StandsFor, end_of, is_task_call}
use Rattle.laws_choices.proofs.SameCallLemmas.{told_at, told_is}
use Rattle.laws_choices.proofs.StandLemmas.{can_choose}

-- no item is counted just where all fail
none_counted : (p q : ℕ → Bool) (xs : List ℕ) → ((x : ℕ) → p x ≡ q x) → (count_by p xs == 0)
    ≡ list_all (λ x. not (q x)) xs
none_counted p q [] same = refl
none_counted p q (x ∷ xs) same =
    ap (λ c. c == 0) (sum_by-cons (λ x. cond (p x) 1 0) x xs)
    ∙ (λ i. (cond (same x i) 1 0 + count_by p xs) == 0) ∙ by (q x) (none_counted p q xs same)
  where
    by : (b : Bool) → (count_by p xs == 0) ≡ list_all (λ x. not (q x)) xs → ((cond b 1 0 + count_by p xs) == 0)
        ≡ (not b && list_all (λ x. not (q x)) xs)
    by true more = one (count_by p xs)
      where
        one : (c : ℕ) → ((1 + c) == 0) ≡ false
        one c = grind (arith, nat_tests)
    by false more = ap (λ c. c == 0) (rest (count_by p xs)) ∙ more
      where
        rest : (c : ℕ) → 0 + c ≡ c
        rest c = omega arith

module _ (m : Moment) (told : Told) (records : Records) (t worker : ℕ) (agrees : Agrees m told)
    (facts : KnownFacts m)
    (since : m.stopped < t) (high : t ≤ m.known.tasks) (numbers : m.known.last_call < 18446744073709551615) where
  abbrev chosen : Option Work → Type 0
  chosen work = claimed_of (of_task records worker work) ≡ claim_at m t worker

  going_is : is_going m.known t ≡ is_open m.known t
  going_is = λ i. le-leb 1 t (omega arith) i && (le-leb t m.known.tasks high i && is_open m.known t)

  -- ---- a task that has ended

  ended : Stands told records → (it : Option TaskEnd) → (m.known.task t).end ≡ it → is_some it ≡ true
      → chosen (work_at records t)
  ended stands None is some = absurd (false≢true some)
  ended stands (Some it) is some = by (work_at records t) (stands.works t)
    where
      claim_is : claim_at m t worker ≡ Over
      claim_is = λ i. if is_some (is i) then Over
          else (if is_some (m.known.task t).failed then (if has_no_call m t then Over else Waits)
          else by_items m t worker (items m.known t))

      by : (o : Option Work) → IsWork told t o → chosen o
      by None work = sym claim_is
      by (Some work) going =
          absurd (false≢true (sym (ap (λ k. is_going k t) agrees.known_is ∙ going_is ∙ ap (λ o. not (is_some o)) is)
          ∙ going.0))

  -- ---- a task that works

  module _ (open_ : (m.known.task t).end ≡ None) where
    is_open_now : is_open m.known t ≡ true
    is_open_now = ap (λ o. not (is_some o)) open_

    working : works m t ≡ true
    working = and_from (nat_lt m.stopped t) _ (lt-ltb m.stopped t since)
        (and_from (nat_le t m.known.tasks) (is_open m.known t) (le-leb t m.known.tasks high) is_open_now)

    claim_is : claim_at m t worker
        ≡ (if is_some (m.known.task t).failed then (if has_no_call m t then Over else Waits)
        else by_items m t worker (items m.known t))
    claim_is = λ i. if is_some (open_ i) then Over
        else (if is_some (m.known.task t).failed then (if has_no_call m t then Over else Waits)
        else by_items m t worker (items m.known t))

    module _ (stands : Stands (told_at m told.snapped) records) (later : told.snapped < t) (swept : List MachineName)
        (work : Work)
        (work_stands : StandsFor (told_at m told.snapped) (m.known.task t) t swept work)
        (are_swept : AreSwept m.known t swept) where
      failed_case : (o : Option TaskEnd) → work.failed ≡ o → (f : Option Failure) → (m.known.task t).failed ≡ f → o
          ≡ option_map (end_of m.known) f
          → claimed_of (of_open records work worker o)
          ≡ (if is_some f then (if has_no_call m t then Over else Waits) else by_items m t worker
          (items m.known t))
      failed_case (Some end) is (Some f) failed same =
          (λ i. claimed_of (if no_call i then choices.Over else choices.Waits)) ∙ by (has_no_call m t)
        where
          no_call : (work.open == 0) ≡ has_no_call m t
          no_call = ap (λ n. n == 0) work_stands.open_are ∙ none_counted (is_task_call (told_at m told.snapped) t)
              (λ n. holds (λ (call : OpenCall). call.begin.task == t) (m.calls n)) (numbers_to m.known.last_call)
              (λ n. of (m.calls n))
            where
              of : (o : Option OpenCall) → holds (λ (b : Begin). b.task == t)
                  (option_map (λ (call : OpenCall). call.begin) o) ≡ holds (λ (call : OpenCall). call.begin.task ==
                  t) o
              of (Some call) = refl
              of None = refl

          by : (b : Bool) → claimed_of (if b then choices.Over else choices.Waits) ≡ (if b then Over else Waits)
          by true = refl
          by false = refl
      failed_case None is None failed same =
          choice_is m t worker records swept work
          (can_choose m told.snapped t records swept work facts working numbers stands later work_stands
          are_swept)
          failed
      failed_case (Some end) is None failed same = absurd cc
      failed_case None is (Some f) failed same = absurd cc

      has_work : chosen (Some work)
      has_work = failed_case work.failed refl (m.known.task t).failed refl work_stands.failed_is ∙ sym claim_is

    works_now : Stands (told_at m told.snapped) records → chosen (work_at records t)
    works_now stands = by (work_at records t) (stands.works t)
      where
        by : (o : Option Work) → IsWork (told_at m told.snapped) t o → chosen o
        by (Some work) (going, later, (swept, work_stands, are_swept)) =
            has_work stands later swept work work_stands are_swept
        by None gone = absurd (false≢true (sym (gone (before agrees.snapped)) ∙ going_is ∙ is_open_now))
          where
            before : told.snapped ≤ m.stopped → told.snapped < t
            before low = omega arith

pub choice_is_claim : (m : Moment) (told : Told) (records : Records) (t worker : ℕ) → Stands told records
    → Agrees m told → KnownFacts m
    → m.stopped < t → t ≤ m.known.tasks → m.known.last_call < 18446744073709551615
    → claimed_of (choice_of records t worker) ≡ claim_at m t worker
choice_is_claim m told records t worker stands agrees facts since high numbers = by (m.known.task t).end refl
  where
    by : (o : Option TaskEnd) → (m.known.task t).end ≡ o → claimed_of (of_task records worker (work_at records t))
        ≡ claim_at m t worker
    by (Some end) is = ended m told records t worker agrees facts since high numbers stands (Some end) is refl
    by None is =
        works_now m told records t worker agrees facts since high numbers is
        (subst (λ (it : Told). Stands it records)
        (told_is m told t facts (working m told records t worker agrees facts since high numbers is) agrees
        stands.tells_well) stands)
