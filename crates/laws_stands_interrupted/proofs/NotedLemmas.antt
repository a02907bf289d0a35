-- A task that a stop interrupted ends, where that may be noted.
use Rattle.std.proofs.Common.{◌≡◌, ◌∙◌, ℕ, true, false, ◌&&◌, List, Option, Some, None, refl, subst, sym}
use Rattle.std.specs.Prelude.{◌==◌, eqb, nat_le}
use Rattle.std.specs.List.{list_any}
use Rattle.std.specs.Option.{option_eq}
use Rattle.std.specs.Str.{bytes_eq}
use Rattle.std.proofs.lemmas.Bool.{and_from, and_parts, false≢true, le-leb}
use Rattle.std.proofs.lemmas.Slice.Eq.{bytes_eq-Decides}
use Rattle.bosh_base.specs.Cloud.{numbers_to}
use Rattle.bosh_base.specs.declared.entry.Entry.TheVariants as entries
use Rattle.bosh_base.specs.declared.entry.TaskError.{TaskError}
use Rattle.bosh_base.specs.declared.failure.Failure.TheVariants as failures
use Rattle.bosh_base.specs.declared.task.TaskEnd.TheVariants as ends
use Rattle.bosh_fold.specs.Learned.{learned}
use Rattle.bosh_fold.specs.Learns.{Learns}
use Rattle.bosh_fold.specs.declared.change.Change.{Change}
use Rattle.bosh_history.specs.Held.{is_open}
use Rattle.bosh_history.specs.Moments.{Moment}
use Rattle.bosh_history.specs.Notes.{FailsTask}
use Rattle.bosh_records.specs.Recorded.{recorded}
use Rattle.bosh_records.specs.declared.records.Records.{Records}
use Rattle.laws_facts.proofs.WorkLemmas.{IsUpTo, is_up_to}
use Rattle.laws_facts.specs.KnownFacts.{KnownFacts}
use Rattle.laws_facts.specs.Tasks.{is_open_task}
use Rattle.laws_items.proofs.ListedLemmas.{implied}
use Rattle.laws_stands.specs.Agrees.{Agrees}
use Rattle.laws_stands.specs.Stands.{Stands, StandsInOrder}
use Rattle.laws_stands.specs.Told.{Told, is_going, telling}
use Rattle.laws_stands_fits.specs.Own.{TellsOwn}
use Rattle.laws_stands_interrupted.proofs.IdleLemmas.{IsAlone}
use Rattle.laws_stands_interrupted.proofs.InterruptedLemmas.{interrupted_stands}
use Rattle.laws_stands_on.proofs.RoomyLemmas.{roomy_stands}

-- the end of a task that a stop interrupted
abbrev pub interruption : ℕ → TaskError
interruption t = record { task = t; cause = failures.Interrupted }

same_option : (a b : Option (List ℕ)) → a ≡ b → option_eq bytes_eq a b ≡ true
same_option (Some a) (Some b) same = let one : a ≡ b = cc in (bytes_eq-Decides a b).1 one
same_option None None same = refl
same_option (Some a) None same = absurd cc
same_option None (Some b) same = absurd cc

module _ (m : Moment) (t : ℕ) (facts : KnownFacts m) (noted : FailsTask m (interruption t)) where
  going_now : is_going m.known t ≡ true
  going_now = by (and_parts (list_any (λ n. n == t) (numbers_to m.known.tasks)) (is_open m.known t) noted.is_open)
    where
      by : (list_any (λ n. n == t) (numbers_to m.known.tasks) ≡ true) × (is_open m.known t ≡ true)
          → is_going m.known t ≡ true
      by (among, still) =
          let up_to : IsUpTo t m.known.tasks = is_up_to t m.known.tasks among in
          and_from (nat_le 1 t) _ (le-leb 1 t up_to.low)
          (and_from (nat_le t m.known.tasks) (is_open m.known t) (le-leb t m.known.tasks up_to.high) still)

  -- another open task has another lock
  alone_now : (u : ℕ) → eqb t u ≡ false → is_going m.known u ≡ true → (m.known.task u).dep ≡ (m.known.task t).dep → ⊥
  alone_now u other going same =
      false≢true (sym other
      ∙ implied (is_open_task m.known t
      && (is_open_task m.known u && option_eq bytes_eq (m.known.task t).dep (m.known.task u).dep)) (t == u)
      ((facts.tasks t).another_lock u)
      (and_from (is_open_task m.known t) _ going_now
      (and_from (is_open_task m.known u) _ going (same_option (m.known.task t).dep (m.known.task u).dep (sym same)))))

module _ (m : Moment) (told : Told) (was now : Records) (t : ℕ) (stands : Stands told was) (agrees : Agrees m told)
    (facts : KnownFacts m) (own : TellsOwn told) (noted : FailsTask m (interruption t))
    (learns : Learns was (entries.TaskError (interruption t)) now) where
  apart : IsAlone told t
  apart = record {
    going = subst (λ k. is_going k t ≡ true) (sym agrees.known_is) (going_now m t facts noted);
    alone = subst (λ k. (u : ℕ) → eqb t u ≡ false → is_going k u ≡ true → (k.task u).dep ≡ (k.task t).dep → ⊥)
        (sym agrees.known_is) (alone_now m t facts noted);
  }

  pub interruption_stands : Stands (telling told (entries.TaskError (interruption t))) now
  interruption_stands =
      subst (StandsInOrder (telling told (entries.TaskError (interruption t)))) (sym learns.is_learned)
      (subst (λ (change : Change). StandsInOrder (telling told (entries.TaskError (interruption t)))
      (learned (entries.TaskError (interruption t)) change (recorded learns.roomy))) (sym learns.planned)
      (interrupted_stands t told (recorded learns.roomy) own apart
      (roomy_stands told was (entries.TaskError (interruption t)) now learns stands) ends.Interrupted)) learns.ordered
