-- One more entry that is permitted is learned: what is recorded stands for what is told with it, and fits it.
use Rattle.std.proofs.Common.{◌≡◌, ◌∙◌, ◌+◌, ◌<◌, ◌≤◌, ℕ, Bool, true, false, ◌&&◌, ◌||◌, not, Option, Some, None, ap, arith, refl, subst, sym}
use Rattle.std.specs.Prelude.{List, [], eqb, is_some, length, nat_le, nat_lt, if◌then◌else◌}
use Rattle.std.specs.Str.{bytes_eq}
use Rattle.std.proofs.lemmas.Bool.{and_from, and_parts, eq-eqb, eqb-true, false≢true, le-leb, leb-true, lt-ltb}
use Rattle.std.proofs.lemmas.Bool.Decides.{nat_tests}
use Rattle.bosh_base.specs.declared.answer.Answer.{Answer}
use Rattle.bosh_base.specs.declared.entry.Begin.{Begin}
use Rattle.bosh_base.specs.declared.entry.Entry.{Entry}
use Rattle.bosh_base.specs.declared.entry.Entry.TheVariants as entries
use Rattle.bosh_base.specs.declared.entry.TaskOpen.{TaskOpen}
use Rattle.bosh_base.specs.declared.failure.Failure.{Failure}
use Rattle.bosh_base.specs.declared.failure.Failure.TheVariants as failures
use Rattle.bosh_base.specs.declared.owner.Owner.{Owner}
use Rattle.bosh_base.specs.declared.owner.Owner.TheVariants.{Compile, Disk, Instance}
use Rattle.bosh_fold.specs.Learns.{Learns}
use Rattle.bosh_history.specs.Held.{is_open}
use Rattle.bosh_history.specs.Known.{Known}
use Rattle.bosh_history.specs.Learn.{learn}
use Rattle.bosh_history.specs.Moments.{Moment, OpenCall, noting}
use Rattle.bosh_history.specs.Notes.{Begins, EndsCall, FailsTask, MayNote, Outside}
use Rattle.bosh_history.specs.Openings.{MayOpen}
use Rattle.bosh_history.specs.Recovered.{is_interruption, is_recovering, may_follow}
use Rattle.bosh_history.specs.Sound.{IsSound}
use Rattle.bosh_history.specs.Tasks.{task_opened}
use Rattle.bosh_history.specs.Words.{is_among}
use Rattle.bosh_plan.specs.WorkBy.{work_by}
use Rattle.bosh_records.specs.Recorded.{recorded}
use Rattle.bosh_records.specs.declared.records.Records.{Records}
use Rattle.laws_facts.proofs.LockLemmas.{is_opening, note_stays}
use Rattle.laws_facts.proofs.WorkLemmas.{opens_next}
use Rattle.laws_facts.specs.KnownFacts.{KnownFacts}
use Rattle.laws_facts.specs.Owners.{works}
use Rattle.laws_held.proofs.PartLemmas.{whole_kept}
use Rattle.laws_held.specs.Whole.{Whole}
use Rattle.laws_moves.specs.Parts.{Noted}
use Rattle.laws_stands.specs.Agrees.{Agrees}
use Rattle.laws_stands.specs.Linked.{same_machine}
use Rattle.laws_stands.specs.Stands.{Stands}
use Rattle.laws_stands.specs.Told.{TellsWell, Told, is_going, telling}
use Rattle.laws_stands_done.proofs.FitsLemmas.{done_fits}
use Rattle.laws_stands_done.proofs.KindLemmas.{any_done}
use Rattle.laws_stands_fits.proofs.EntriesLemmas.{fits_after, whole_with_room}
use Rattle.laws_stands_fits.specs.Fits.{Fits}
use Rattle.laws_stands_fits.specs.Own.{TellsOwn}
use Rattle.laws_stands_fits.specs.Whole.{StandsWhole}
use Rattle.laws_stands_interrupted.proofs.FitsLemmas.{error_fits}
use Rattle.laws_stands_interrupted.proofs.NotedLemmas.{interruption_stands}
use Rattle.laws_stands_kept.proofs.CountLemmas.{few_after}
use Rattle.laws_stands_kept.proofs.OwnLemmas.{calls_of_own, lists_own, own_ended, since_the_stop}
use Rattle.laws_stands_kept.proofs.SharedLemmas.{unshared_after}
use Rattle.laws_stands_machines.proofs.CallsLemmas.{begins_machine, ends_machine}
use Rattle.laws_stands_noted.proofs.AgreesLemmas.{noted_agrees}
use Rattle.laws_stands_noted.proofs.BeginsLemmas.{begins_disk, begins_instance}
use Rattle.laws_stands_noted.proofs.EndsLemmas.{ends_disk, ends_instance}
use Rattle.laws_stands_noted.proofs.FailedLemmas.{failure_noted}
use Rattle.laws_stands_noted.proofs.NotedLemmas.{config_noted, instance_leaves, release_noted, stemcell_noted}
use Rattle.laws_stands_noted.proofs.NotedLemmas.{update_begins, update_done}
use Rattle.laws_stands_opened.proofs.TaskOpenLemmas.{task_opened_stands}
use Rattle.laws_stands_works.proofs.AllowsLemmas.{work_opened}
use Rattle.laws_stands_works.proofs.OthersLemmas.{others_go_on}
use Rattle.laws_stands_works.specs.Opens.{IsWorkOpened, swept_by}

module _ (outside : Outside) (m : Moment) (told : Told) (was now : Records) (whole : StandsWhole told was)
    (agrees : Agrees m told) (all : Whole m) (numbers : m.known.last_call < 18446744073709551615) where
  facts : KnownFacts m
  facts = (all.holds).known

  -- ---- a task opens

  module _ (o : TaskOpen) (may : MayOpen m.known o) (sound : IsSound m.known o)
      (learns : Learns was (entries.TaskOpen o) now) where
    abbrev opening : Told
    opening = telling told (entries.TaskOpen o)

    roomy : StandsWhole told learns.roomy
    roomy = whole_with_room told was learns.roomy learns.alike whole

    number : o.task ≡ told.known.tasks + 1
    number = opens_next m.known o may ∙ ap (λ (k : Known). k.tasks + 1) (sym agrees.known_is)

    work : IsWorkOpened opening o.task (swept_by learns.roomy o) (work_by learns.roomy o)
    work = work_opened m told learns.roomy o roomy.stands agrees facts whole.own may

    going : is_going opening.known o.task ≡ true
    going =
        (λ j. le-leb 1 o.task positive j && (le-leb o.task o.task same_number j && is_open opening.known o.task))
        ∙ (λ j. not (is_some (if eq-eqb o.task o.task refl j then task_opened told.known o
        else told.known.task o.task).end))
      where
        positive : 1 ≤ o.task
        positive = let e : o.task ≡ told.known.tasks + 1 = number in omega arith

        same_number : o.task ≤ o.task
        same_number = omega arith

    -- no snapshot told it
    comes_later : told.snapped < o.task
    comes_later =
        let e : o.task ≡ told.known.tasks + 1 = number in
        let a : told.snapped ≤ m.stopped = agrees.snapped in
        let b : m.stopped ≤ told.known.tasks =
        leb-true m.stopped told.known.tasks (ap (nat_le m.stopped) (ap (λ (k : Known). k.tasks) agrees.known_is)
        ∙ facts.lists.stopped_past) in omega arith

    pub opening_stands : Stands opening now × Fits opening (recorded now)
    opening_stands =
        task_opened_stands m told was now o whole.stands agrees facts whole.own whole.fits may sound learns
        (going, comes_later, (swept_by learns.roomy o, work.stands, work.are_swept))
        (λ t one other is. others_go_on told o t one number other is)
        (λ name among. work.ended name
        (ap (is_among same_machine name) (sym ((work.stands).sweep).items_are) ∙ among))

  -- ---- it stands

  begin_stands : (b : Begin) → Begins m b → may_follow m (entries.Begin b) ≡ true → Learns was (entries.Begin b) now
      → Stands (telling told (entries.Begin b)) now
  begin_stands b noted follows learns = by b.owner refl
    where
      by : (owner : Owner) → b.owner ≡ owner → Stands (telling told (entries.Begin b)) now
      by (Instance i) own =
          begins_instance m told was now b whole.stands agrees facts numbers noted follows learns i own
      by (Compile t s) own =
          begins_machine m told was now b whole agrees facts numbers noted follows learns t s own
      by (Disk d) own = begins_disk m told was now b whole.stands agrees facts numbers noted follows learns d own

  end_stands : (n : ℕ) (answer : Answer) → EndsCall (record { n = n; answer = answer }) (m.calls n)
      → Learns was (entries.End (record { n = n; answer = answer })) now
      → Stands (telling told (entries.End (record { n = n; answer = answer }))) now
  end_stands n answer ends learns = by (m.calls n) refl ends
    where
      of : (call : OpenCall) → m.calls n ≡ Some call → (owner : Owner) → call.begin.owner ≡ owner
          → Stands (telling told (entries.End (record { n = n; answer = answer }))) now
      of call is (Instance i) own =
          ends_instance m told was now n answer call is whole.stands agrees facts learns i own
      of call is (Compile t s) own =
          ends_machine m told was now n answer call is whole.stands agrees facts learns t s own
      of call is (Disk d) own = ends_disk m told was now n answer call is whole.stands agrees facts learns d own

      by : (o : Option OpenCall) → m.calls n ≡ o → EndsCall (record { n = n; answer = answer }) o
          → Stands (telling told (entries.End (record { n = n; answer = answer }))) now
      by (Some call) is ends = of call is call.begin.owner refl
      by None is ends = absurd ends

  error_stands : (t : ℕ) (cause : Failure) → FailsTask m (record { task = t; cause = cause })
      → may_follow m (entries.TaskError (record { task = t; cause = cause })) ≡ true
      → Learns was (entries.TaskError (record { task = t; cause = cause })) now
      → Stands (telling told (entries.TaskError (record { task = t; cause = cause }))) now
  error_stands t failures.Interrupted noted follows learns =
      interruption_stands m told was now t whole.stands agrees facts whole.own noted learns
  error_stands t (failures.Call n) noted follows learns =
      failure_noted m told was now t (failures.Call n) tt whole.stands agrees facts noted follows learns
  error_stands t (failures.Gone n) noted follows learns =
      failure_noted m told was now t (failures.Gone n) tt whole.stands agrees facts noted follows learns

  stands_after : (entry : Entry) → MayNote outside m entry → may_follow m entry ≡ true → Learns was entry now
      → Stands (telling told entry) now
  stands_after (entries.Release r) may follows learns = release_noted told was now whole.stands r learns
  stands_after (entries.Stemcell s) may follows learns = stemcell_noted told was now whole.stands s learns
  stands_after (entries.Config file) may follows learns = config_noted told was now whole.stands file learns
  stands_after (entries.TaskOpen o) may follows learns = (opening_stands o may.0 may.1 learns).0
  stands_after (entries.Begin b) may follows learns = begin_stands b may follows learns
  stands_after (entries.End e) may follows learns = end_stands e.n e.answer may learns
  stands_after (entries.UpdBegin u) may follows learns =
      update_begins m told was now u whole.stands agrees facts numbers may follows learns
  stands_after (entries.UpdDone u) may follows learns =
      update_done m told was now u whole.stands agrees all.holds may follows learns
  stands_after (entries.Gone u) may follows learns =
      instance_leaves m told was now u whole.stands agrees all.holds may follows learns
  stands_after (entries.TaskDone t) may follows learns =
      any_done m told was now t whole.stands agrees facts may follows learns
  stands_after (entries.TaskError e) may follows learns = error_stands e.task e.cause may follows learns
  stands_after entry may follows learns = absurd may

  -- ---- it fits

  fits_now : (entry : Entry) → MayNote outside m entry → may_follow m entry ≡ true → Learns was entry now
      → Fits (telling told entry) (recorded now)
  fits_now (entries.TaskOpen o) may follows learns = (opening_stands o may.0 may.1 learns).1
  fits_now (entries.TaskDone t) may follows learns = done_fits told was now t whole.stands whole.fits learns
  fits_now (entries.TaskError e) may follows learns = error_fits told was now e whole.stands whole.fits learns
  fits_now (entries.Snapshot s) may follows learns = absurd may
  fits_now entry may follows learns =
      fits_after outside m told was now entry refl may agrees whole.stands whole.fits learns

  -- ---- it tells its own

  went_on : (entry : Entry) → MayNote outside m entry → is_opening entry ≡ false → (t : ℕ)
      → is_going (learn m.known entry) t ≡ true → is_going m.known t ≡ true
  went_on entry may none t = (note_stays outside m entry may none t).was

  -- an entry that interrupts no task comes where no task is left that a stop interrupted
  module _ (entry : Entry) (may : MayNote outside m entry) (follows : may_follow m entry ≡ true)
      (none : is_interruption entry ≡ false)
      (learns : Learns was entry now) where
    abbrev new : Moment
    new = noting m entry

    recovered : is_recovering m ≡ false
    recovered = by (is_recovering m) (ap (λ b. not (is_recovering m) || b) (sym none) ∙ follows)
      where
        by : (b : Bool) → (not b || false) ≡ true → b ≡ false
        by false is = refl
        by true is = absurd (false≢true is)

    since : (t : ℕ) → is_going new.known t ≡ true → nat_lt m.stopped t ≡ true
    since t going = by entry may refl going
      where
        later : (o : TaskOpen) → MayOpen m.known o → o.task ≡ t → nat_lt m.stopped t ≡ true
        later o opens same =
            let next : o.task ≡ m.known.tasks + 1 = opens_next m.known o opens in
            let low : m.stopped ≤ m.known.tasks = leb-true m.stopped m.known.tasks facts.lists.stopped_past in
            lt-ltb m.stopped t (let is : o.task ≡ t = same in omega arith)

        other : (o : TaskOpen) → MayOpen m.known o → eqb o.task t ≡ false
            → is_going (learn m.known (entries.TaskOpen o)) t ≡ true → is_going m.known t ≡ true
        other o opens apart going =
            let next : o.task ≡ m.known.tasks + 1 = opens_next m.known o opens in
            let (low, rest) = and_parts (nat_le 1 t)
            (nat_le t o.task && is_open (learn m.known (entries.TaskOpen o)) t) going in
            let (high, open_) = and_parts (nat_le t o.task) (is_open (learn m.known (entries.TaskOpen o)) t) rest in
            let below : t ≤ o.task = leb-true t o.task high in
            and_from (nat_le 1 t) (nat_le t m.known.tasks && is_open m.known t) low
            (and_from (nat_le t m.known.tasks) (is_open m.known t)
            (le-leb t m.known.tasks (not_it (o.task) t m.known.tasks below next
            (λ same. false≢true (sym apart ∙ eq-eqb o.task t same))))
            (sym (λ j. not (is_some (if apart j then (task_opened m.known o) else m.known.task t).end)) ∙ open_))
          where
            not_it : (n t tasks : ℕ) → t ≤ n → n ≡ tasks + 1 → (n ≡ t → ⊥) → t ≤ tasks
            not_it n t tasks below next apart = of (nat_le t tasks) refl
              where
                of : (b : Bool) → nat_le t tasks ≡ b → t ≤ tasks
                of true is = leb-true t tasks is
                of false is = absurd (apart (grind (arith, nat_tests)))

        by : (e : Entry) → MayNote outside m e → entry ≡ e → is_going (learn m.known e) t ≡ true
            → nat_lt m.stopped t ≡ true
        by (entries.TaskOpen o) opens is going = of (eqb o.task t) refl
          where
            of : (b : Bool) → eqb o.task t ≡ b → nat_lt m.stopped t ≡ true
            of true same = later o opens.0 (eqb-true o.task t same)
            of false apart = since_the_stop m recovered t (other o opens.0 apart going)
        by e noted is going = since_the_stop m recovered t (went_on e noted refl t going)

    work_now : (t : ℕ) → is_going new.known t ≡ true → works new t ≡ true
    work_now t going =
        let (low, rest) = and_parts (nat_le 1 t) (nat_le t new.known.tasks && is_open new.known t) going in
        and_from (nat_lt m.stopped t) (nat_le t new.known.tasks && is_open new.known t) (since t going) rest

    agree_now : Agrees new (telling told entry)
    agree_now = noted_agrees outside m told entry agrees facts may

    facts_now : KnownFacts new
    facts_now = ((whole_kept outside m (Noted entry) (follows, may) all).holds).known

    tells_now : TellsWell (telling told entry)
    tells_now = (stands_after entry may follows learns).tells_well

    pub own_after : TellsOwn (telling told entry)
    own_after = record {
      lists = lists_own new (telling told entry) facts_now agree_now tells_now work_now;
      calls = calls_of_own new (telling told entry) facts_now agree_now tells_now work_now;
      few = subst (λ (k : Known). length (learn k entry).machines ≤ (learn k entry).last_call) (sym agrees.known_is)
          (few_after outside m entry may
          (subst (λ (k : Known). length k.machines ≤ k.last_call) agrees.known_is (whole.own).few));
      unshared = subst (λ (k : Known). (dep : List ℕ) → is_among bytes_eq dep (learn k entry).deployments ≡ false
          → (learn k entry).shared dep ≡ []) (sym agrees.known_is)
          (unshared_after outside m entry facts may follows
          (subst (λ (k : Known). (dep : List ℕ) → is_among bytes_eq dep k.deployments ≡ false → k.shared dep ≡ [])
          agrees.known_is (whole.own).unshared));
    }

  own_error : (t : ℕ) (cause : Failure) → MayNote outside m (entries.TaskError (record { task = t; cause = cause }))
      → may_follow m (entries.TaskError (record { task = t; cause = cause })) ≡ true
      → Learns was (entries.TaskError (record { task = t; cause = cause })) now
      → TellsOwn (telling told (entries.TaskError (record { task = t; cause = cause })))
  own_error t failures.Interrupted may follows learns =
      own_ended m told (record { task = t; cause = failures.Interrupted }) whole.own
      (λ u. subst (λ (k : Known). is_going (learn k (entries.TaskError (record {
        task = t;
        cause = failures.Interrupted;
      }))) u ≡ true → is_going k u ≡ true) (sym agrees.known_is)
      (went_on (entries.TaskError (record { task = t; cause = failures.Interrupted })) may refl u))
  own_error t (failures.Call n) may follows learns =
      own_after (entries.TaskError (record { task = t; cause = failures.Call n })) may follows refl learns
  own_error t (failures.Gone n) may follows learns =
      own_after (entries.TaskError (record { task = t; cause = failures.Gone n })) may follows refl learns

  own_now : (entry : Entry) → MayNote outside m entry → may_follow m entry ≡ true
      → Learns was entry now → TellsOwn (telling told entry)
  own_now (entries.TaskError e) may follows learns = own_error e.task e.cause may follows learns
  own_now entry may follows learns = own_after entry may follows refl learns

-- ---- all

pub one_more_stands : (outside : Outside) (m : Moment) (told : Told) (was now : Records) (entry : Entry)
    → StandsWhole told was → Agrees m told → Whole m → m.known.last_call < 18446744073709551615
    → may_follow m entry ≡ true → MayNote outside m entry → Learns was entry now → StandsWhole (telling told entry) now
one_more_stands outside m told was now entry whole agrees all numbers follows may learns = record {
  stands = stands_after outside m told was now whole agrees all numbers entry may follows learns;
  fits = fits_now outside m told was now whole agrees all numbers entry may follows learns;
  own = own_now outside m told was now whole agrees all numbers entry may follows learns;
}
