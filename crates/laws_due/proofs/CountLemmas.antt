-- Each entry that is noted is counted, and the book has it.
use Rattle.std.proofs.Common.{◌≡◌, ◌∙◌, ◌+◌, ℕ, true, false, List, [], ◌∷◌, ◌++◌, Option, ap, arith, length, length-append, refl, subst, suc, sym}
use Rattle.std.specs.Prelude.{◌==◌, fold, if◌then◌else◌}
use Rattle.std.specs.List.{filter_map, list_all, list_any}
use Rattle.bosh_base.specs.Cloud.{numbers_to}
use Rattle.std.proofs.lemmas.Bool.{and_parts, false≢true, leb-true}
use Rattle.bosh_base.specs.declared.entry.Entry.{Entry}
use Rattle.bosh_base.specs.declared.entry.Entry.TheVariants as entries
use Rattle.bosh_base.specs.declared.entry.TaskError.{TaskError}
use Rattle.bosh_base.specs.declared.failure.Failure.{Failure}
use Rattle.bosh_base.specs.declared.failure.Failure.TheVariants as failures
use Rattle.bosh_base.specs.declared.moves.Move.{Move}
use Rattle.bosh_base.specs.declared.moves.Move.TheVariants as moves
use Rattle.bosh_due.specs.Before.{noted_by}
use Rattle.bosh_history.specs.Fit.{IsFit}
use Rattle.bosh_history.specs.Held.{is_open}
use Rattle.bosh_history.specs.Moments.{Moment, Opening, beginning, durable, durable_entry, later, noting}
use Rattle.bosh_history.specs.Notes.{FailsTask, IsCause, MayNote, Outside}
use Rattle.bosh_history.specs.Permitted.{IsRun, IsRunFrom}
use Rattle.bosh_history.specs.Recovered.{is_interruption, is_recovering}
use Rattle.bosh_ports.specs.declared.keeper.Keeper as keeper
use Rattle.bosh_world.specs.Told.{story_of}
use Rattle.bosh_world.specs.declared.site.Site.{Site}
use Rattle.laws_due.specs.Counted.{CountsNoted, goes_on}
use Rattle.laws_facts.proofs.WorkLemmas.{is_up_to, none_to}
use Rattle.laws_held.proofs.HeldLemmas.{run_holds}
use Rattle.laws_held.proofs.PartLemmas.{whole_moves}
use Rattle.laws_held.specs.Whole.{Whole}
use Rattle.laws_sites.proofs.MomentLemmas.{durable_on}
use Rattle.laws_sites.specs.Good.{IsGood, moment_of}
use Rattle.laws_tasks.proofs.RecoveredLemmas.{still_recovered}

-- no task that is open was interrupted, where all those have ended
uninterrupted : (m : Moment) (error : TaskError) → FailsTask m error → is_recovering m ≡ false
    → is_interruption (entries.TaskError error) ≡ false
uninterrupted m error may recovered = by error.cause refl may.cause
  where
    is_one : list_any (λ n. n == error.task) (numbers_to m.known.tasks) ≡ true
    is_one = (and_parts (list_any (λ n. n == error.task) (numbers_to m.known.tasks)) (is_open m.known error.task) may.is_open).0

    stands_open : is_open m.known error.task ≡ true
    stands_open =
        (and_parts (list_any (λ n. n == error.task) (numbers_to m.known.tasks)) (is_open m.known error.task) may.is_open).1

    by : (cause : Failure) → error.cause ≡ cause → IsCause m error.task cause
        → is_interruption (entries.TaskError (record error { cause = cause })) ≡ false
    by failures.Interrupted is early =
        absurd (false≢true (sym (none_to (is_open m.known) m.stopped error.task recovered
        (is_up_to error.task m.known.tasks is_one).low (leb-true error.task m.stopped early)) ∙ stands_open))
    by cause is early = refl

not_interruption : (outside : Outside) (m : Moment) (e : Entry) → MayNote outside m e → is_recovering m ≡ false
    → is_interruption e ≡ false
not_interruption outside m (entries.TaskError error) may recovered = uninterrupted m error may recovered
not_interruption outside m e may recovered = refl

-- ---- along a run

run_after : (outside : Outside) (m : Moment) (one other : List Move) → IsRunFrom outside m (one ++ other)
    → IsRunFrom outside (fold later m one) other
run_after outside m [] other run = run
run_after outside m (move ∷ one) other run = run_after outside (later m move) one other run.1

fold_on : (count : ℕ) (one other : List Move)
    → fold noted_by count (one ++ other) ≡ fold noted_by (fold noted_by count one) other
fold_on count [] other = refl
fold_on count (move ∷ one) other = fold_on (noted_by count move) one other

-- how many entries of moves are durable
abbrev made : List Move → ℕ
made more = length (filter_map durable_entry more)

counted_along : (outside : Outside) (m : Moment) (more : List Move) (noted : ℕ) → Whole m → is_recovering m ≡ false
    → IsRunFrom outside m more → list_all goes_on more ≡ true → fold noted_by noted more ≡ noted + made more
counted_along outside m [] noted whole recovered run going = omega arith
counted_along outside m (moves.Note e ∷ more) noted whole recovered run going =
    ap (λ b. fold noted_by (if b then noted else noted + 1) more)
    (not_interruption outside m e run.0.2 recovered)
    ∙ counted_along outside (noting m e) more (noted + 1) (whole_moves outside m (moves.Note e) run.0 whole)
    (still_recovered outside m whole.holds.known e run.0.2 recovered) run.1 going
    ∙ one_more noted (made more)
  where
    one_more : (a b : ℕ) → (a + 1) + b ≡ a + suc b
    one_more a b = omega arith
counted_along outside m (moves.Did d ∷ more) noted whole recovered run going =
    counted_along outside (later m (moves.Did d)) more noted (whole_moves outside m (moves.Did d) run.0 whole) recovered run.1 going
counted_along outside m (moves.Wrote w ∷ more) noted whole recovered run going =
    counted_along outside (later m (moves.Wrote w)) more noted (whole_moves outside m (moves.Wrote w) run.0 whole) recovered run.1
    going
counted_along outside m (moves.Lost loss ∷ more) noted whole recovered run going =
    counted_along outside (later m (moves.Lost loss)) more noted (whole_moves outside m (moves.Lost loss) run.0 whole) recovered
    run.1 going
counted_along outside m (moves.Halt cause ∷ more) noted whole recovered run going =
    counted_along outside (later m (moves.Halt cause)) more noted (whole_moves outside m (moves.Halt cause) run.0 whole) recovered
    run.1 going
counted_along outside m (moves.Said said ∷ more) noted whole recovered run going =
    counted_along outside (later m (moves.Said said)) more noted (whole_moves outside m (moves.Said said) run.0 whole) recovered
    run.1 going
counted_along outside m (moves.Stop stop ∷ more) noted whole recovered run going = absurd (false≢true going)

-- ---- on a site

pub counted_on : {K L : Type 0} {k : keeper.Ghosts K} {l : keeper.Ghosts L} (outside : Outside)
    (bodies : K → Option (List (List ℕ))) (cloud_bodies : L → Option (List (List ℕ))) (o : Opening) (was now : Site K L k l)
    (more : List Move) → IsFit outside o → IsGood outside bodies cloud_bodies o was
    → IsGood outside bodies cloud_bodies o now → was.history.is_halted ≡ false → CountsNoted was
    → story_of now ≡ story_of was ++ more → list_all goes_on more ≡ true → now.book.read ≡ was.book.read
    → CountsNoted now
counted_on outside bodies cloud_bodies o was now more fit good kept running counted comes going read =
    all (fold noted_by 0 (story_of was)) (made more) was.book.read (length was.book.journal.entries) noted_now read entries_now
    counted
  where
    run : IsRunFrom outside (moment_of o was) more
    run = run_after outside (beginning o) (story_of was) more (subst (IsRun outside o) comes kept.run)

    noted_now : fold noted_by 0 (story_of now) ≡ fold noted_by 0 (story_of was) + made more
    noted_now = ap (fold noted_by 0) comes ∙ fold_on 0 (story_of was) more
        ∙ counted_along outside (moment_of o was) more (fold noted_by 0 (story_of was))
        (run_holds outside o (story_of was) fit good.run) (good.runs running).recovered run going

    entries_now : length now.book.journal.entries ≡ length was.book.journal.entries + made more
    entries_now =
        ap length (sym kept.entries ∙ ap (durable o) comes ∙ durable_on o (story_of was) more
        ∙ ap (λ es. es ++ filter_map durable_entry more) good.entries)
        ∙ length-append was.book.journal.entries (filter_map durable_entry more)

    all : (noted new before entries : ℕ) → fold noted_by 0 (story_of now) ≡ noted + new → now.book.read ≡ before
        → length now.book.journal.entries ≡ entries + new → noted + before ≡ entries
        → fold noted_by 0 (story_of now) + now.book.read ≡ length now.book.journal.entries
    all noted new before entries first second third same =
        (λ i. first i + second i) ∙ sum noted new before entries same ∙ sym third
      where
        sum : (noted new before entries : ℕ) → noted + before ≡ entries → (noted + new) + before ≡ entries + new
        sum noted new before entries same = omega arith
