-- The beginning of a call of a compile slot that may be noted is allowed, and so is that of any owner.
use Rattle.std.proofs.Common.{◌≡◌, ◌∙◌, ℕ, ◌<◌, Bool, true, false, ◌||◌, Some, None, ap, refl, sym, length, arith}
use Rattle.std.specs.Prelude.{◌==◌, is_some, nat_lt, if◌then◌else◌}
use Rattle.std.specs.Option.{option_and_then}
use Rattle.std.proofs.lemmas.Bool.{and_parts, eq-eqb, eqb-true, false≢true, ltb-true, true≢false}
use Rattle.bosh_base.specs.declared.entry.Begin.{Begin}
use Rattle.bosh_base.specs.declared.entry.Entry.TheVariants as entries
use Rattle.bosh_base.specs.declared.owner.Owner.{Owner}
use Rattle.bosh_base.specs.declared.owner.Owner.TheVariants.{Compile, Disk, Instance}
use Rattle.bosh_claim.specs.Beginning.{begins, call_for}
use Rattle.bosh_claim.specs.Phase.{present}
use Rattle.bosh_claim.specs.Slot.{call_of_slot}
use Rattle.bosh_history.specs.Items.{is_slot_left, none_left_before, phase_of, slots_of}
use Rattle.bosh_history.specs.Known.{Known, Task}
use Rattle.bosh_history.specs.Moments.{Moment}
use Rattle.bosh_history.specs.Notes.{Begins}
use Rattle.bosh_history.specs.Recovered.{may_follow}
use Rattle.bosh_history.specs.Slots.{next_key}
use Rattle.bosh_history.specs.Steps.{call_now, is_idle, own_slot, sweep_call}
use Rattle.bosh_history.specs.Words.{holds}
use Rattle.bosh_records.specs.declared.records.Records.{Records}
use Rattle.laws_allowed.proofs.BeginLemmas.{begins_by, choosing}
use Rattle.laws_allowed.proofs.BeginLemmas as of_instances
use Rattle.laws_allowed.proofs.DiskLemmas as of_disks
use Rattle.laws_allowed.proofs.PresentLemmas.{compiles_now}
use Rattle.laws_allowed.proofs.SweepLemmas as of_sweeps
use Rattle.laws_allowed.proofs.WorkingLemmas.{IsAtWork, at_work}
use Rattle.laws_facts.proofs.CurrentLemmas.{done_works}
use Rattle.laws_facts.specs.KnownFacts.{KnownFacts}
use Rattle.laws_facts.specs.Owners.{works}
use Rattle.laws_stands.proofs.PremiseLemmas.{own_phase}
use Rattle.laws_stands.proofs.SlotLemmas.{slot_call_is}
use Rattle.laws_stands.specs.Agrees.{Agrees}
use Rattle.laws_stands.specs.Choosing.{CanChoose}
use Rattle.laws_stands.specs.Stands.{Stands}
use Rattle.laws_stands.specs.Told.{Told}

module _ (m : Moment) (records : Records) (b : Begin) (at : IsAtWork m records b.task) (facts : KnownFacts m)
    (working : works m b.task ≡ true) (numbers : m.known.last_call < 18446744073709551615)
    (noted : Begins m b) (s : ℕ) (own : b.owner ≡ Compile b.task s) where
  abbrev k : Known
  k = m.known

  abbrev t : Task
  t = m.known.task b.task

  can : CanChoose m b.task records at.swept at.work
  can = choosing m records b at facts working numbers noted

  call_is : own_slot m b.task s (k.slot b.task s) ≡ Some b.call
  call_is = (λ j. if sym (eq-eqb b.task b.task refl) j then own_slot m b.task s (k.slot b.task s)
      else sweep_call (k.slot b.task s)) ∙ ap (call_now m b.task) (sym own) ∙ noted.is_call

  item : holds (none_left_before k b.task) (if is_slot_left k b.task s then Some 2 else None) ≡ true
  item = sym (ap (holds (none_left_before k b.task)) (ap (phase_of k b.task) own ∙ own_phase k b.task s))
      ∙ noted.is_item

  left : is_slot_left k b.task s ≡ true
  left = by (is_slot_left k b.task s) item
    where
      by : (c : Bool) → holds (none_left_before k b.task) (if c then Some 2 else None) ≡ true → c ≡ true
      by true is = refl
      by false is = absurd (false≢true is)

  none : none_left_before k b.task 2 ≡ true
  none = sym (ap (λ c. holds (none_left_before k b.task) (if c then Some 2 else None)) left) ∙ item

  low : s < length (slots_of t.goal)
  low = ltb-true s (length (slots_of t.goal))
      (and_parts (nat_lt s (length (slots_of t.goal))) (is_some (k.slot b.task s) || is_some (next_key k b.task s))
      left).0

  compiles : call_of_slot records at.work s ≡ Some b.call
  compiles =
      slot_call_is m b.task 0 records at.swept at.work can s low
      ∙ (λ j. if left j then (if (ap (is_idle m) (sym own) ∙ noted.is_idle) j
      then own_slot m b.task s (k.slot b.task s) else None) else None)
      ∙ call_is

  pub call_begins : begins records b ≡ true
  call_begins =
      begins_by m records b at noted
      (ap (λ owner. option_and_then (λ phase. call_for records at.work phase owner) (present records at.work)) own
      ∙ ap (option_and_then (λ phase. call_for records at.work phase (Compile b.task s)))
      (compiles_now m b.task records at.swept at.work can 2 none s left (omega arith))
      ∙ ap (λ c. if c then call_of_slot records at.work s else None)
      (eq-eqb b.task at.work.task (sym can.task_is))
      ∙ compiles)

-- ---- all owners

pub begin_is_allowed : (m : Moment) (told : Told) (records : Records) (b : Begin) → Stands told records
    → Agrees m told → KnownFacts m → m.known.last_call < 18446744073709551615 → Begins m b
    → may_follow m (entries.Begin b) ≡ true → begins records b ≡ true
begin_is_allowed m told records b stands agrees facts numbers noted follows = by b.owner refl
  where
    working : works m b.task ≡ true
    working = done_works m b.task follows noted.is_open

    by : (owner : Owner) → b.owner ≡ owner → begins records b ≡ true
    by (Instance i) own = of_instances.begin_is_allowed m told records b i stands agrees facts numbers own noted follows
    by (Disk d) own = of_disks.begin_is_allowed m told records b d stands agrees facts numbers own noted follows
    by (Compile u s) own = of (u == b.task) refl
      where
        of : (c : Bool) → (u == b.task) ≡ c → begins records b ≡ true
        of true same =
            call_begins m records b (at_work m told records b.task facts stands agrees working) facts working numbers
            noted s (own ∙ ap (λ task. Compile task s) (eqb-true u b.task same))
        of false other =
            of_sweeps.begin_is_allowed m told records b u s stands agrees facts numbers own
            (λ same. true≢false (sym (eq-eqb u b.task same) ∙ other)) noted follows
