-- The works of all tasks go on to stand, each as it changed.
use Rattle.std.proofs.Common.{◌≡◌, ◌∙◌, ◌<◌, ℕ, Bool, true, false, List, Option, Some, None, refl, subst, sym}
use Rattle.std.specs.Prelude.{eqb, if◌then◌else◌}
use Rattle.std.specs.Option.{option_map}
use Rattle.bosh_records.specs.Recorded.{Recorded}
use Rattle.bosh_work.specs.declared.part.MachineName.{MachineName}
use Rattle.bosh_work.specs.declared.work.Work.{Work}
use Rattle.laws_stands.specs.Reading.{work_of}
use Rattle.laws_stands.specs.Stands.{AreSwept, IsWork}
use Rattle.laws_stands.specs.Told.{Told, is_going}
use Rattle.laws_stands.specs.WorkStands.{StandsFor}
use Rattle.laws_stands_on.proofs.LinkLemmas.{ListsSame, WasWork}

-- the same tasks are open, and the work of each stands with its change
pub record WorksGoOn (told new : Told) (it now : Recorded) (change : ℕ → Work → Work) : Type 0 where
  pub going : (t : ℕ) → is_going new.known t ≡ is_going told.known t
  pub snapped : new.snapped ≡ told.snapped
  pub works : (t : ℕ) → work_of now t ≡ option_map (change t) (work_of it t)
  pub stands : (t : ℕ) (swept : List MachineName) (work : Work) → work_of it t ≡ Some work →
      is_going told.known t ≡ true → StandsFor told (told.known.task t) t swept work →
      StandsFor new (new.known.task t) t swept (change t work)
  pub swept : (t : ℕ) (swept : List MachineName) → AreSwept told.known t swept → AreSwept new.known t swept

pub works_go_on : (told new : Told) (it now : Recorded) (change : ℕ → Work → Work)
    → WorksGoOn told new it now change → ((t : ℕ) → IsWork told t (work_of it t)) → (t : ℕ)
    → IsWork new t (work_of now t)
works_go_on told new it now change on stood t =
    subst (IsWork new t) (sym (on.works t)) (by (work_of it t) refl (stood t))
  where
    by : (o : Option Work) → work_of it t ≡ o → IsWork told t o → IsWork new t (option_map (change t) o)
    by (Some work) is (going, later, (swept, stands, are_swept)) = (
      on.going t ∙ going,
      subst (λ n. n < t) (sym on.snapped) later,
      (swept, on.stands t swept work is going stands, on.swept t swept are_swept),
    )
    by None is gone = λ later. on.going t ∙ gone (subst (λ n. n < t) on.snapped later)

-- each lists what it listed
pub works_were : (it now : Recorded) (change : ℕ → Work → Work)
    → ((t : ℕ) → work_of now t ≡ option_map (change t) (work_of it t))
    → ((t : ℕ) (w : Work) → ListsSame (change t w) w) → (t : ℕ) (w : Work) → work_of now t ≡ Some w → WasWork it t w
works_were it now change works keeps t w is = by (work_of it t) refl (sym (works t) ∙ is)
  where
    by : (o : Option Work) → work_of it t ≡ o → option_map (change t) o ≡ Some w → WasWork it t w
    by (Some old) there is =
        let same : change t old ≡ w = cc in
        record { old = old; is = there; same = subst (λ w. ListsSame w old) same (keeps t old) }
    by None there is = absurd cc

-- where the work of one task changes
abbrev pub of_task : ℕ → (Work → Work) → ℕ → Work → Work
of_task n change t work = if eqb n t then change work else work

pub of_task_is : (n : ℕ) (change : Work → Work) (t : ℕ) (o : Option Work)
    → (if eqb n t then option_map change o else o) ≡ option_map (of_task n change t) o
of_task_is n change t o = by (eqb n t) o
  where
    by : (b : Bool) (o : Option Work)
        → (if b then option_map change o else o) ≡ option_map (λ work. if b then change work else work) o
    by true (Some work) = refl
    by true None = refl
    by false (Some work) = refl
    by false None = refl

pub of_task_same : (n : ℕ) (change : Work → Work) → ((w : Work) → ListsSame (change w) w) → (t : ℕ) (w : Work)
    → ListsSame (of_task n change t w) w
of_task_same n change keeps t w = by (eqb n t)
  where
    by : (b : Bool) → ListsSame (if b then change w else w) w
    by true = keeps w
    by false = record { pings = refl; obsolete = refl; changed = refl; sweep = refl; disks = refl }
