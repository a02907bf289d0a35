-- A site that was loaded on a fit pair of stores is good.
use Rattle.std.proofs.Common.{◌≡◌, ◌∙◌, ◌<◌, ◌≤◌, ℕ, ◌-◌, ◌+◌, Bool, true, false, List, [], ◌∷◌, ◌++◌, Option, Some, None}
use Rattle.std.proofs.Common.{Ok, Err, Result, ap, append-nil, arith, drop, inl, inr, length, length-append, map, refl, subst, sym}
use Rattle.std.specs.Prelude.{◌&&◌, IfSome, fold, is_ok, is_some, nat_le}
use Rattle.std.proofs.lemmas.Bool.{and_parts, false≢true, leb-true}
use Rattle.bosh_asks.specs.declared.fault.BookFault.{BookFault}
use Rattle.bosh_base.specs.declared.entry.Entry.{Entry}
use Rattle.bosh_base.specs.declared.entry.Entry.TheVariants as entries
use Rattle.bosh_base.specs.declared.moves.Cause.TheVariants as causes
use Rattle.bosh_base.specs.declared.moves.Move.{Move}
use Rattle.bosh_base.specs.declared.moves.Move.TheVariants as moves
use Rattle.bosh_base.specs.declared.snapshot.Snapshot.{Snapshot}
use Rattle.bosh_book.specs.Folds.{IsRead}
use Rattle.bosh_book.specs.Starts as book
use Rattle.bosh_book.specs.Starts.{Finishes, Takes, open_tasks}
use Rattle.bosh_book.specs.declared.book.Book.{Book}
use Rattle.bosh_fold.specs.Learns.{LearnsAll}
use Rattle.bosh_history.proofs.StoredLemmas.{stored_itself}
use Rattle.bosh_history.specs.Fit.{AreStoredAs, IsFit, empty, has_numbers, left}
use Rattle.bosh_history.specs.Known.{Known}
use Rattle.bosh_history.specs.Learn.{known_of}
use Rattle.bosh_history.specs.Moments.{Moment, Opening, beginning, durable, later, moment, noting}
use Rattle.bosh_history.specs.Notes.{Outside}
use Rattle.bosh_history.specs.Permitted.{IsRun, IsRunFrom}
use Rattle.bosh_history.specs.Snapshots.{known_by, snapshot_of}
use Rattle.bosh_moves.proofs.TellLemmas.{story_all, told_on}
use Rattle.bosh_ports.specs.Rigged.{RigState, faults_of}
use Rattle.bosh_ports.specs.declared.keeper.Keeper as keeper
use Rattle.bosh_records.specs.Recorded.{recorded}
use Rattle.bosh_records.specs.declared.records.Records.{Records}
use Rattle.bosh_views.specs.Snapshot.{IsSnapshot}
use Rattle.bosh_world.specs.Loads.{Loads}
use Rattle.bosh_world.specs.Restarts.{read_count}
use Rattle.bosh_world.specs.Steps.{bodies_of}
use Rattle.bosh_world.specs.Told.{story_of}
use Rattle.bosh_world.specs.declared.site.Site.{Site}
use Rattle.laws_facts.specs.KnownFacts.{KnownFacts}
use Rattle.laws_held.proofs.HeldLemmas.{fit_holds}
use Rattle.laws_read.proofs.ReadLemmas.{read_stands, rest_agrees}
use Rattle.laws_read.specs.AtRest.{StandsAtRest}
use Rattle.laws_recovery.proofs.OpenLemmas.{moment_ended, none_going, open_end, recovered_then}
use Rattle.laws_recovery.proofs.RestLemmas.{same_ends, same_snapshot, stands_shortened}
use Rattle.laws_recovery.specs.Interrupted.{interruption, interruptions, open_at}
use Rattle.laws_runs.proofs.KeptLemmas.{facts_kept}
use Rattle.laws_sites.proofs.FoundOpenLemmas.{open_found}
use Rattle.laws_sites.proofs.NoteLemmas.{HaveNumbers, OneMoreStands, all_stand, effects_noted, halted_noted, noted_of}
use Rattle.laws_sites.specs.Calls.{AreCalls, AreRising}
use Rattle.laws_sites.specs.Good.{GoesOn, IsGood, IsRecorded, moment_of}
use Rattle.laws_stands.specs.Agrees.{Agrees}
use Rattle.laws_stands.specs.Told.{Told, is_going, telling}
use Rattle.laws_stands_fits.specs.Whole.{StandsWhole}
use Rattle.laws_stands_noted.proofs.AgreesLemmas.{noted_agrees}
use Rattle.laws_stands_snapshots.specs.Built.{BuiltStand}
use Rattle.laws_sites.proofs.CountLemmas.{calls_numbered, fit_numbers}

-- ---- lists

drop_front : {A : Type 0} (xs ys : List A) → drop (length xs) (xs ++ ys) ≡ ys
drop_front [] ys = refl
drop_front (x ∷ xs) ys = drop_front xs ys

front_length : {A : Type 0} (xs ys : List A) → length (xs ++ ys) - length ys ≡ length xs
front_length xs ys = by (length (xs ++ ys)) (length xs) (length ys) (length-append xs ys)
  where
    by : (n a b : ℕ) → n ≡ a + b → n - b ≡ a
    by n a b is = omega arith

if_some : {A P : Type 0} (o : Option A) → is_some o ≡ true → IfSome o (λ _. P) → P
if_some (Some a) is it = it
if_some None is it = absurd (false≢true is)

-- ---- entries that end tasks

-- the calls have the numbers that they had
numbers_on : (m : Moment) (tasks : List ℕ) → m.known.last_call < 18446744073709551615
    → HaveNumbers m (interruptions tasks)
numbers_on m [] few = tt
numbers_on m (t ∷ more) few = (few, numbers_on (noting m (interruption t)) more few)

agrees_on : (outside : Outside) (m : Moment) (told : Told) (tasks : List ℕ) → Agrees m told → KnownFacts m
    → IsRunFrom outside m (map moves.Note (interruptions tasks))
    → Agrees (fold later m (map moves.Note (interruptions tasks))) (fold telling told (interruptions tasks))
agrees_on outside m told [] agrees facts run = agrees
agrees_on outside m told (t ∷ more) agrees facts run =
    agrees_on outside (noting m (interruption t)) (telling told (interruption t)) more
    (noted_agrees outside m told (interruption t) agrees facts run.0.2)
    (facts_kept outside m (moves.Note (interruption t)) run.0 facts) run.1

-- what is read of a fit pair's entries stands, and so do the compiled keys
record IsReadWell (k : Known) (m : Moment) (records : Records) : Type 0 where
  pub told : Told
  pub agrees : Agrees m told
  pub whole : StandsWhole told records
  pub built : BuiltStand k.built (recorded records)

reads_well : (outside : Outside) (o : Opening) (records : Records) → IsFit outside o
    → (known_of o.entries).last_call < 18446744073709551615 → IsRead o.entries records
    → IsReadWell (known_of o.entries) (beginning o) records
reads_well outside o records fit numbers read = record {
  told = it.told;
  agrees = rest_agrees (beginning o) it.told it.known_is (λ n. refl) refl it.at_rest;
  whole = it.whole;
  built = subst (λ (known : Known). BuiltStand known.built (recorded records)) it.known_is it.built;
}
  where
    it : StandsAtRest (known_of o.entries) records
    it = read_stands outside o [] o.entries records fit tt
        (subst (AreStoredAs o.entries) (sym (append-nil o.entries)) (stored_itself o.entries)) numbers read

-- ---- a site whose moves are the ends of the tasks that were open

module _ {K L : Type 0} {k : keeper.Ghosts K} {l : keeper.Ghosts L} (bodies : K → Option (List (List ℕ))) (faults : K → ℕ)
    (is_broken : K → Bool) (cloud_bodies : L → Option (List (List ℕ))) (cloud_faults : L → ℕ) (store : K) (cloud_store : L)
    (site : Site K L k l) (loads : Loads bodies faults is_broken cloud_bodies cloud_faults store cloud_store site)
    (tells : is_some (bodies store) ≡ true) (cloud_tells : is_some (cloud_bodies cloud_store) ≡ true)
    (outside : Outside) where
  module _ (o : Opening) (fit : IsFit outside o) (effects : o.effects ≡ site.cloud.effects)
      (entries_are : site.book.journal.entries ≡ o.entries ++ interruptions (open_at (known_of o.entries)))
      (mended : site.book.mended ≡ Some (length (interruptions (open_at (known_of o.entries)))))
      (is : IsRecorded (fold later (beginning o) (map moves.Note (interruptions (open_at (known_of o.entries))))) site) where
    abbrev tasks : List ℕ
    tasks = open_at (known_of o.entries)

    abbrev noted : List Entry
    noted = interruptions tasks

    abbrev after : Moment
    after = fold later (beginning o) (map moves.Note noted)

    read_is : read_count site.book ≡ length o.entries
    read_is =
        (λ i. read_count (record site.book { mended = mended i }))
        ∙ ap (λ (es : List Entry). length es - length noted) entries_are
        ∙ front_length o.entries noted

    story : story_of site ≡ map moves.Note noted
    story =
        story_all site.history site.book.journal.entries site.cloud.effects loads.told.told.no_restart loads.told.entries
        loads.told.told.no_halt
        ∙ loads.moves_of
        ∙ ap (λ n. map moves.Note (drop n site.book.journal.entries)) read_is
        ∙ ap (λ es. map moves.Note (drop (length o.entries) es)) entries_are
        ∙ ap (map moves.Note) (drop_front o.entries noted)

    there : moment_of o site ≡ after
    there = ap (moment o) story

    goes_on : GoesOn bodies cloud_bodies after site
    goes_on = record {
      recovered = recovered_then (beginning o) refl;
      effects = sym effects ∙ sym (effects_noted (beginning o) noted);
      calls = subst (λ unsettled. AreCalls (story_of site) unsettled after.calls) (sym loads.no_calls)
          (subst (λ calls. AreCalls (story_of site) [] calls)
          (sym (ap (λ (m : Moment). m.calls) (moment_ended (beginning o) tasks))) (λ n. tt));
      rising = subst (AreRising 0) (sym loads.no_calls) tt;
      book_kept = if_some (bodies store) tells loads.book_kept;
      cloud_kept = if_some (cloud_bodies cloud_store) cloud_tells loads.cloud_kept;
    }

    begun_good : IsGood outside bodies cloud_bodies o site
    begun_good = record {
      run = subst (IsRun outside o) (sym story) (open_end outside (beginning o) refl refl refl);
      opening = loads.opening ∙ (λ i. (read_is i, length (sym effects i)));
      entries = ap (durable o) story ∙ ap (λ es. o.entries ++ es) (noted_of noted) ∙ sym entries_are;
      halted = ap (λ (m : Moment). m.halted) there ∙ halted_noted (beginning o) noted ∙ sym loads.running;
      numbers = ap (λ (m : Moment). has_numbers m.known) (there ∙ moment_ended (beginning o) tasks)
          ∙ fit_numbers outside o fit;
      told = told_on site.history site.cloud.effects loads.told.told.no_restart ∙ loads.effects_told
          ∙ ap (λ (es : List Entry). length es) goes_on.effects
          ∙ ap (λ (m : Moment). length m.effects) (sym there);
      recorded = λ read. subst (λ (m : Moment). IsRecorded m site) (sym there) is;
      runs = λ running. subst (λ (m : Moment). GoesOn bodies cloud_bodies m site) (sym there) goes_on;
      halts = λ halted. absurd (false≢true (sym loads.running ∙ halted));
    }

  -- ---- what was read

  -- the pair that the two stores spelled
  abbrev pub read_pair : Opening
  read_pair = record { entries = loads.book.first.journal.entries; effects = site.cloud.effects }

  module _ (one_more : OneMoreStands) (fit : IsFit outside read_pair) where
    abbrev first : Moment
    first = beginning read_pair

    facts : KnownFacts first
    facts = (fit_holds outside read_pair fit).holds.known

    numbers : first.known.last_call < 18446744073709551615
    numbers = calls_numbered first.known (fit_numbers outside read_pair fit)

    abbrev ends : List Entry
    ends = interruptions (open_at first.known)

    -- what is told once the tasks that were open have ended, after all that was read
    record HasEnded (records : Records) (it : IsReadWell first.known first records) : Type 0 where
      whole : StandsWhole (fold telling it.told ends) site.book.records
      agrees : Agrees (fold later first (map moves.Note ends)) (fold telling it.told ends)

    has_ended : (records : Records) (it : IsReadWell first.known first records) → LearnsAll records ends site.book.records
        → HasEnded records it
    has_ended records it learns =
        let both : StandsWhole (fold telling it.told ends) site.book.records
        × Agrees (fold later first (map moves.Note ends)) (fold telling it.told ends) =
        all_stand one_more outside first it.told records site.book.records ends (fit_holds outside read_pair fit) it.whole
        it.agrees (open_end outside first refl refl refl) (numbers_on first (open_at first.known) numbers) learns in
        record { whole = both.0; agrees = both.1 }

    -- a snapshot that was put in the place of what was read leaves a fit pair as well
    module _ (s : Snapshot) (same : s ≡ snapshot_of first.known) where
      abbrev short : Opening
      short = record { entries = entries.Snapshot s ∷ []; effects = site.cloud.effects }

      abbrev session : List Move
      session = moves.Halt causes.Stop ∷ moves.Stop (record { kept = None; took = []; wrote = None }) ∷ []

      short_fit : IsFit outside short
      short_fit = left read_pair short session fit (record {
        is_run = (refl, (record { is_halted = refl; kept = tt; wrote = tt; took = tt }, tt, tt), tt);
        stopped = refl;
        entries = inr (inl (ap (λ (s : Snapshot). entries.Snapshot s) same
            ∙ ap (λ (es : List Entry). entries.Snapshot (snapshot_of (known_of es)))
            (sym (append-nil loads.book.first.journal.entries))));
        effects = refl;
        has_numbers = subst (λ (s : Snapshot). has_numbers (known_by s) ≡ true) (sym same)
            ((λ i. nat_le first.known.last_call 4611686018427387904
            && nat_le (same_count i) 4611686018427387904) ∙ fit_numbers outside read_pair fit);
      })
        where
          same_count : length (snapshot_of first.known).tasks ≡ first.known.tasks
          same_count = (same_ends first facts).tasks

      -- the tasks that are open by it are those that were open
      same_open : open_at (known_of short.entries) ≡ open_at first.known
      same_open = (λ i. open_at (known_by (same i))) ∙ (same_ends first facts).open_same

    main : (taken : Result (Unit {0}) BookFault) (mid : Book (RigState K))
        → Takes (bodies_of bodies) (faults_of faults) true loads.book.first taken mid
        → Finishes (bodies_of bodies) (faults_of faults) mid taken (Ok (tt {0})) site.book → is_ok taken ≡ true
        → (o : Opening) × IsFit outside o × IsGood outside bodies cloud_bodies o site
    main (Err fault) mid takes finishes ok = absurd (false≢true ok)
    main (Ok value) mid takes finishes ok = by (book.gives_way true loads.book.first.journal.entries) takes.taken
      where
        it : IsReadWell first.known first mid.records
        it = reads_well outside read_pair mid.records fit numbers takes.reads

        ends_are : finishes.ended ≡ ends
        ends_are = finishes.are_ended
            ∙ ap interruptions (open_found first it.told mid.records it.whole.stands it.agrees.known_is facts.lists)

        learns : LearnsAll mid.records ends site.book.records
        learns = subst (λ (es : List Entry). LearnsAll mid.records es site.book.records) ends_are finishes.learns

        done : HasEnded mid.records it
        done = has_ended mid.records it learns

        whole_good : mid.journal.entries ≡ loads.book.first.journal.entries
            → (o : Opening) × IsFit outside o × IsGood outside bodies cloud_bodies o site
        whole_good same = (
          read_pair,
          fit,
          begun_good read_pair fit refl
              (finishes.entries ∙ (λ i. same i ++ ends_are i))
              (finishes.mended ∙ ap (λ (es : List Entry). Some (length es)) ends_are)
              (record { told = fold telling it.told ends; agrees = done.agrees; whole = done.whole }),
        )

        short_good : (s : Snapshot) → IsSnapshot mid.records s → mid.journal.entries ≡ entries.Snapshot s ∷ []
            → (o : Opening) × IsFit outside o × IsGood outside bodies cloud_bodies o site
        short_good s snapshot stored = (
          short s same,
          short_fit s same,
          begun_good (short s same) (short_fit s same) refl
              (finishes.entries ∙ (λ i. stored i ++ (ends_are ∙ ap interruptions (sym (same_open s same))) i))
              (finishes.mended ∙ ap (λ (es : List Entry). Some (length es)) (ends_are ∙ ap interruptions (sym (same_open s same))))
              (record {
                told = fold telling (telling it.told (entries.Snapshot s)) (interruptions (open_at (known_of (short s same).entries)));
                agrees = agrees_on outside (beginning (short s same)) (telling it.told (entries.Snapshot s))
                    (open_at (known_of (short s same).entries)) at_first
                    (fit_holds outside (short s same) (short_fit s same)).holds.known
                    (open_end outside (beginning (short s same)) refl refl refl);
                whole = subst (λ (tasks : List ℕ).
                    StandsWhole (fold telling (telling it.told (entries.Snapshot s)) (interruptions tasks)) site.book.records)
                    (sym (same_open s same))
                    (stands_shortened first it.told mid.records site.book.records s (open_at first.known) it.whole it.agrees
                    facts it.built snapshot done.whole
                    (λ t. ap (λ (known : Known). is_going known t) done.agrees.known_is ∙ none_going first t));
              }),
        )
          where
            same : s ≡ snapshot_of first.known
            same = same_snapshot first it.told mid.records s it.whole it.agrees facts it.built snapshot

            at_first : Agrees (beginning (short s same)) (telling it.told (entries.Snapshot s))
            at_first = record {
              known_is = refl;
              snapped = own_length (length s.tasks);
              live = λ n call is. absurd (let no = is in cc);
              left = λ n b is idle. absurd (let no = is in cc);
            }
              where
                own_length : (n : ℕ) → n ≤ n
                own_length n = omega arith

        by : (b : Bool)
            → book.IsShortenedWhere b (Ok value) mid.records loads.book.first.journal.entries mid.journal.entries
            → (o : Opening) × IsFit outside o × IsGood outside bodies cloud_bodies o site
        by false same = whole_good same
        by true (s, snapshot, stored) = short_good s snapshot stored

    pub loaded_good : (o : Opening) × IsFit outside o × IsGood outside bodies cloud_bodies o site
    loaded_good = main loads.book.starts.taken loads.book.starts.mid loads.book.starts.takes loads.book.starts.finishes
        loads.book.starts.all_taken
