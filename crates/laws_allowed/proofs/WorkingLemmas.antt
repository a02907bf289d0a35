-- The work of a task that works stands for what is known at the moment.
use Rattle.std.proofs.Common.{◌≡◌, ◌∙◌, ℕ, ◌<◌, ◌≤◌, true, ◌&&◌, List, Option, Some, None, refl, sym, subst}
use Rattle.std.proofs.Common.{arith}
use Rattle.std.specs.Prelude.{nat_lt}
use Rattle.std.proofs.lemmas.Bool.{and_parts, false≢true, le-leb, ltb-true}
use Rattle.bosh_history.specs.Held.{is_open}
use Rattle.bosh_history.specs.Moments.{Moment}
use Rattle.bosh_records.specs.Readers.{work_at}
use Rattle.bosh_records.specs.declared.records.Records.{Records}
use Rattle.bosh_work.specs.declared.part.MachineName.{MachineName}
use Rattle.bosh_work.specs.declared.work.Work.{Work}
use Rattle.laws_choices.proofs.SameCallLemmas.{told_at, told_is}
use Rattle.laws_facts.specs.KnownFacts.{KnownFacts}
use Rattle.laws_facts.specs.Owners.{works}
use Rattle.laws_items.proofs.ListedLemmas.{WorksAt, works_at}
use Rattle.laws_stands.specs.Agrees.{Agrees}
use Rattle.laws_stands.specs.Stands.{AreSwept, IsWork, Stands}
use Rattle.laws_stands.specs.Told.{Told}
use Rattle.laws_stands.specs.WorkStands.{StandsFor}

-- what is left of a task that works is recorded, and stands for what is known
pub record IsAtWork (m : Moment) (records : Records) (n : ℕ) : Type 0 where
  pub snapped : ℕ
  pub stands : Stands (told_at m snapped) records
  pub work : Work
  pub there : work_at records n ≡ Some work
  -- no snapshot told the task
  pub later : snapped < n
  pub swept : List MachineName
  pub work_stands : StandsFor (told_at m snapped) (m.known.task n) n swept work
  pub are_swept : AreSwept m.known n swept

pub at_work : (m : Moment) (told : Told) (records : Records) (n : ℕ) → KnownFacts m → Stands told records
    → Agrees m told → works m n ≡ true → IsAtWork m records n
at_work m told records n facts stands agrees working = by (work_at records n) refl (now.works n)
  where
    now : Stands (told_at m told.snapped) records
    now = subst (λ (it : Told). Stands it records)
        (told_is m told n facts working agrees stands.tells_well) stands

    at : WorksAt m n
    at = works_at m n working

    since : told.snapped ≤ m.stopped → m.stopped < n → told.snapped < n
    since low high = omega arith

    by : (o : Option Work) → work_at records n ≡ o → IsWork (told_at m told.snapped) n o → IsAtWork m records n
    by (Some work) is (going, later, (swept, work_stands, are_swept)) = record {
      snapped = told.snapped;
      stands = now;
      work = work;
      there = is;
      later = later;
      swept = swept;
      work_stands = work_stands;
      are_swept = are_swept;
    }
    by None is gone =
        absurd
        (false≢true
        (sym (gone (since agrees.snapped (ltb-true m.stopped n (and_parts (nat_lt m.stopped n) _ working).0)))
        ∙ (λ i. le-leb 1 n at.low i && (le-leb n m.known.tasks at.high i && is_open m.known n)) ∙ at.is_open))
