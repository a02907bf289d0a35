-- A site stays good as a job writes and as a machine is lost, and where the cloud's store fails in that.
use Rattle.std.proofs.Common.{◌≡◌, ◌∙◌, ◌≤◌, ℕ, Bool, true, false, List, [], ◌∷◌, ◌++◌, Option, Some, None, ap, append-nil, refl, subst, sym, length}
use Rattle.std.specs.Prelude.{◌||◌, ◌==◌, if◌then◌else◌}
use Rattle.std.specs.List.{filter_map, list_any}
use Rattle.std.proofs.lemmas.Bool.{and_from, eq-eqb, false≢true}
use Rattle.bosh_asks.specs.declared.fault.BookFault.TheVariants as book
use Rattle.bosh_base.specs.declared.entry.Entry.{Entry}
use Rattle.bosh_base.specs.declared.entry.Entry.TheVariants as entries
use Rattle.bosh_base.specs.declared.entry.Loss.{Loss}
use Rattle.bosh_base.specs.declared.inst.Inst.{Inst}
use Rattle.bosh_base.specs.declared.moves.Cause.TheVariants as causes
use Rattle.bosh_base.specs.declared.moves.Move.{Move}
use Rattle.bosh_base.specs.declared.moves.Move.TheVariants as moves
use Rattle.bosh_base.specs.declared.owner.Owner.TheVariants.{Instance}
use Rattle.bosh_base.specs.declared.row.DiskRow.{DiskRow}
use Rattle.bosh_base.specs.declared.row.Row.{Row}
use Rattle.bosh_book.specs.declared.book.Book.{Book}
use Rattle.bosh_calls.specs.CallsView.{CallsView}
use Rattle.bosh_history.specs.Fit.{IsFit, has_numbers}
use Rattle.bosh_history.specs.Moments.{Moment, Opening, durable_entry, later, with_written, write_to}
use Rattle.bosh_history.specs.Notes.{Outside}
use Rattle.bosh_history.specs.Permitted.{IsPermitted, TellsSource, MayWrite, can_lose, can_write, has_active}
use Rattle.bosh_history.specs.Permitted as history
use Rattle.bosh_history.specs.Recovered.{is_recovering}
use Rattle.bosh_history.specs.Words.{holds, is_among}
use Rattle.bosh_holdings.specs.Finding.{lost_vm, written_disk}
use Rattle.bosh_journal.specs.Kept as journal
use Rattle.bosh_ports.specs.Rigged.{RigState}
use Rattle.bosh_ports.specs.declared.keeper.Keeper as keeper
use Rattle.bosh_records.specs.Readers.{row_at}
use Rattle.bosh_rows.specs.Disks.{active}
use Rattle.bosh_rows.specs.Same.{same_inst}
use Rattle.bosh_rows.specs.Tied.{vms_of}
use Rattle.bosh_world.specs.Jobs.{Changes, FailsInJob, IsLoss, IsMissing, IsNotRunning, IsWrite, RefusesJob}
use Rattle.bosh_world.specs.Steps.{bodies_of}
use Rattle.bosh_world.specs.Told.{story_of}
use Rattle.bosh_world.specs.declared.fault.SiteFault.{SiteFault}
use Rattle.bosh_world.specs.declared.fault.SiteFault.TheVariants as fault
use Rattle.bosh_world.specs.declared.site.Site.{Site}
use Rattle.laws_facts.specs.Owners.{works}
use Rattle.laws_runs.proofs.ReadLemmas.{run_facts}
use Rattle.laws_sites.proofs.CallLemmas.{calls_on}
use Rattle.laws_sites.proofs.HaltLemmas.{lacks_good, may_pend_none, same_good}
use Rattle.laws_sites.proofs.StepLemmas.{book_goes_on, good_on, halted_good, stopped}
use Rattle.laws_sites.proofs.WriteLemmas.{Writes, loss_is, write_is}
use Rattle.laws_sites.specs.Calls.{AreCalls, AreRising}
use Rattle.laws_sites.specs.Good.{GoesOn, IsGood, IsRecorded, moment_of}
use Rattle.laws_stands.proofs.MemberLemmas.{inst_is}
use Rattle.laws_stands.specs.Agrees.{Agrees}
use Rattle.laws_stands.specs.Told.{TellsWell, Told}
use Rattle.laws_stands_fits.specs.Whole.{StandsWhole}
use Rattle.laws_stands_noted.proofs.AgreesLemmas.{move_agrees}
use Rattle.bosh_moves.specs.Story.{effects_after, effects_told}
use Rattle.laws_sites.proofs.ExplainLemmas.{explained, MayPend, MayCome}

-- what holds of an instance holds of one of a list that it is among
any_among : (p : Inst → Bool) (inst : Inst) (xs : List Inst) → is_among same_inst inst xs ≡ true → p inst ≡ true
    → list_any p xs ≡ true
any_among p inst [] among holds = absurd (false≢true among)
any_among p inst (x ∷ xs) among holds = by (same_inst inst x) refl among (λ there. any_among p inst xs there holds)
  where
    or_later : (b : Bool) → list_any p xs ≡ true → (b || list_any p xs) ≡ true
    or_later true is = refl
    or_later false is = is

    by : (b : Bool) → same_inst inst x ≡ b → (b || list_any (same_inst inst) xs) ≡ true
        → (is_among same_inst inst xs ≡ true → list_any p xs ≡ true) → list_any p (x ∷ xs) ≡ true
    by true same is more = rw (sym (ap p (inst_is inst x same)) ∙ holds) refl
    by false other is more = or_later (p x) (more is)

module _ {K L : Type 0} {k : keeper.Ghosts K} {l : keeper.Ghosts L} (outside : Outside) (bodies : K → Option (List (List ℕ)))
    (cloud_bodies : L → Option (List (List ℕ))) (faults : L → ℕ) (o : Opening) (was now : Site K L k l)
    (fit : IsFit outside o) (good : IsGood outside bodies cloud_bodies o was) where
  abbrev m : Moment
  m = moment_of o was

  -- ---- the cloud changes as a move tells that is permitted

  changed_good : (done : Entry) (move : Move) → Changes cloud_bodies faults was done move now
      → IsPermitted outside m move → TellsSource move
      → filter_map durable_entry (move ∷ []) ≡ [] → (later m move).halted ≡ m.halted
      → is_recovering (later m move) ≡ is_recovering m → ((t : ℕ) → works (later m move) t ≡ works m t)
      → (later m move).known ≡ m.known → (later m move).calls ≡ m.calls
      → (later m move).effects ≡ m.effects ++ done ∷ []
      → ((told : Told) → Agrees m told → TellsWell told → Agrees (later m move) told)
      → ((there told : ℕ) → effects_after (move ∷ []) there told ≡ there)
      → IsGood outside bodies cloud_bodies o now
  changed_good done move changes may source nothing same_halt same_recovery same_work same_known same_calls effects agrees tells =
      good_on outside bodies cloud_bodies o was now (move ∷ []) good changes.comes.story changes.same_opening (may, tt, source)
      ((λ i. (changes.same_book i).journal.entries) ∙ sym (append-nil was.book.journal.entries)
      ∙ ap (λ es. was.book.journal.entries ++ es) (sym nothing))
      (record {
        halted = same_halt ∙ good.halted ∙ changes.running ∙ sym changes.halted;
        numbers = ap has_numbers same_known ∙ good.numbers;
        told = changes.comes.told
            ∙ tells (length now.cloud.effects) (effects_told was.history was.cloud.effects)
            ∙ ap (λ (es : List Entry). length es) (goes_on (good.runs changes.running)).effects;
        recorded = λ read. recorded (good.recorded (book_goes_on was changes.running).1);
        runs = λ running. goes_on (good.runs changes.running);
        halts = λ halted. absurd (false≢true (sym changes.halted ∙ halted));
      })
    where
      recorded : IsRecorded m was → IsRecorded (later m move) now
      recorded it = record {
        told = it.told;
        agrees = agrees it.told it.agrees it.whole.stands.tells_well;
        whole = subst (λ (b : Book (RigState K)). StandsWhole it.told b.records) (sym changes.same_book) it.whole;
      }

      goes_on : GoesOn bodies cloud_bodies m was → GoesOn bodies cloud_bodies (later m move) now
      goes_on it = record {
        recovered = same_recovery ∙ it.recovered;
        effects = changes.does.notes.2 ∙ ap (λ es. es ++ done ∷ []) it.effects ∙ sym effects;
        calls = subst (λ calls. AreCalls (story_of now) now.calls.unsettled calls) (sym same_calls)
            (subst (λ (moves : List Move). AreCalls moves now.calls.unsettled m.calls) (sym changes.comes.story)
            (subst (λ (c : CallsView). AreCalls (story_of was ++ move ∷ []) c.unsettled m.calls) (sym changes.same_calls)
            (calls_on (story_of was) (move ∷ []) was.calls.unsettled m.calls it.calls)));
        rising = subst (λ (c : CallsView). AreRising 0 c.unsettled) (sym changes.same_calls) it.rising;
        book_kept = subst (λ (b : Book (RigState K)). journal.IsKept (bodies_of bodies) b.journal) (sym changes.same_book)
            it.book_kept;
        cloud_kept = changes.does.kept it.cloud_kept;
      }

  -- ---- the cloud's store fails in what may be written

  failed_good : (done : Entry) → FailsInJob cloud_bodies faults was done now → MayWrite (stopped m) (Some done)
      → (with_written (stopped m) (Some done)).effects ≡ m.effects ++ done ∷ []
      → IsGood outside bodies cloud_bodies o now
  failed_good done failed may effects =
      halted_good outside bodies cloud_bodies o was now causes.CloudStore fit good failed.halts.ran failed.halts.halted
      failed.halts.comes.story failed.halts.same_opening (λ i. (failed.halts.same_book i).journal.entries)
      (λ i. (failed.halts.same_book i).records) (book_goes_on was failed.halts.ran).1 failed.halts.comes.told
      (explained outside bodies cloud_bodies (stopped m) now (record {
        wrote = None;
        took = [];
        may_write = tt;
        may_take = tt;
        effects = failed.does.notes.2 ∙ goes.effects;
        may_come = subst (λ (b : Bool). MayCome outside (stopped m) None [] b now.cloud.pending) (sym failed.does.notes.1)
            (subst (λ (p : Option (List ℕ)). MayCome outside (stopped m) None [] true p) (sym failed.does.notes.3.0)
            (done, failed.does.notes.3.1, (Some done, ([], (may, tt, effects)))));
        may_pend = may_pend_none outside (stopped m) now.book.journal.is_broken now.book.journal.pending
            ((λ i. (failed.halts.same_book i).journal.is_broken) ∙ (book_goes_on was failed.halts.ran).0);
        book_kept = subst (λ (b : Book (RigState K)). journal.IsKept (bodies_of bodies) b.journal)
            (sym failed.halts.same_book) goes.book_kept;
        cloud_kept = failed.halts.kept goes.cloud_kept;
        numbers = good.numbers;
      }))
    where
      goes : GoesOn bodies cloud_bodies m was
      goes = good.runs failed.halts.ran

  -- ---- a write

  module _ (inst : Inst) (text : List ℕ) (disk : ℕ) (ran : was.history.is_halted ≡ false)
      (written : written_disk was.book.records was.cloud.effects inst ≡ Some disk) where
    writes : Writes was.cloud.effects (row_at was.book.records inst) inst disk
    writes = write_is was.cloud.effects (row_at was.book.records inst) inst disk written

    its_records : IsRecorded m was
    its_records = good.recorded (book_goes_on was ran).1

    -- the row is that of an instance that is recorded
    row_is : (writes.it ≡ m.known.row inst) × (is_among same_inst inst m.known.instances ≡ true)
    row_is = by (is_among same_inst inst its_records.told.known.instances) refl
        (sym (its_records.whole.stands.rows inst) ∙ writes.is_row)
      where
        by : (b : Bool) → is_among same_inst inst its_records.told.known.instances ≡ b
            → ◌≡◌ {A = Option Row} (if b then Some (its_records.told.known.row inst) else None) (Some writes.it)
            → (writes.it ≡ m.known.row inst) × (is_among same_inst inst m.known.instances ≡ true)
        by true among is = (
          sym (some_row (its_records.told.known.row inst) writes.it is)
              ∙ (λ i. (its_records.agrees.known_is i).row inst),
          (λ i. is_among same_inst inst (sym its_records.agrees.known_is i).instances) ∙ among,
        )
          where
            some_row : (a b : Row) → ◌≡◌ {A = Option Row} (Some a) (Some b) → a ≡ b
            some_row a b is = cc
        by false among is = absurd (let no = is in cc)

    active_is : active (m.known.row inst).disks ≡ Some writes.active_one
    active_is = (λ i. active (sym row_is.0 i).disks) ∙ writes.is_active

    effects_are : was.cloud.effects ≡ m.effects
    effects_are = (good.runs ran).effects

    can : can_write m inst ≡ true
    can = ap (holds (λ (d : DiskRow). list_any (history.runs_with m.effects d.disk) (vms_of m.effects (Instance inst))))
        active_is
        ∙ (λ i. list_any (history.runs_with (sym effects_are i) (writes.is_disk i)) (vms_of (sym effects_are i) (Instance inst)))
        ∙ writes.runs

    is_written : m.effects ++ write_to text (active (m.known.row inst).disks)
        ≡ m.effects ++ entries.Write (record { disk = disk; text = text }) ∷ []
    is_written = ap (λ (it : Option DiskRow). m.effects ++ write_to text it) active_is
        ∙ (λ i. m.effects ++ entries.Write (record { disk = writes.is_disk i; text = text }) ∷ [])

    pub wrote_good : Changes cloud_bodies faults was (entries.Write (record { disk = disk; text = text }))
        (moves.Wrote (record { inst = inst; text = text })) now → IsGood outside bodies cloud_bodies o now
    wrote_good changes =
        changed_good (entries.Write (record { disk = disk; text = text }))
        (moves.Wrote (record { inst = inst; text = text })) changes (good.halted ∙ ran, can) tt refl refl refl (λ t. refl) refl
        refl is_written
        (λ told agrees well. move_agrees outside m told (moves.Wrote (record { inst = inst; text = text })) agrees
        (run_facts outside o (story_of was) fit good.run) well (good.halted ∙ ran, can)) (λ there told. refl)

    pub write_failed_good : FailsInJob cloud_bodies faults was (entries.Write (record { disk = disk; text = text })) now
        → IsGood outside bodies cloud_bodies o now
    write_failed_good failed =
        failed_good (entries.Write (record { disk = disk; text = text })) failed
        (any_among (has_active (stopped m) disk) inst m.known.instances row_is.1
        (and_from (holds (λ (it : DiskRow). it.disk == disk) (active (m.known.row inst).disks)) (can_write m inst)
        (ap (holds (λ (it : DiskRow). it.disk == disk)) active_is ∙ eq-eqb writes.active_one.disk disk writes.is_disk) can))
        refl

  -- ---- a loss

  module _ (inst : Inst) (loss : Loss) (ran : was.history.is_halted ≡ false)
      (lost : lost_vm was.book.records was.cloud.effects inst ≡ Some loss.vm) where
    can_be_lost : can_lose m.effects loss ≡ true
    can_be_lost = (λ i. can_lose (sym (good.runs ran).effects i) loss)
        ∙ loss_is was.cloud.effects (row_at was.book.records inst) inst loss.vm lost

    pub lost_good : Changes cloud_bodies faults was (entries.Lost loss) (moves.Lost loss) now
        → IsGood outside bodies cloud_bodies o now
    lost_good changes =
        changed_good (entries.Lost loss) (moves.Lost loss) changes (good.halted ∙ ran, can_be_lost) tt refl refl refl
        (λ t. refl) refl refl refl
        (λ told agrees well. move_agrees outside m told (moves.Lost loss) agrees
        (run_facts outside o (story_of was) fit good.run) well (good.halted ∙ ran, can_be_lost)) (λ there told. refl)

    pub loss_failed_good : FailsInJob cloud_bodies faults was (entries.Lost loss) now
        → IsGood outside bodies cloud_bodies o now
    loss_failed_good failed = failed_good (entries.Lost loss) failed can_be_lost refl

  -- ---- refused

  refused_job : (Is : Entry → Type 0) (May : SiteFault → Type 0)
      → ((done : Entry) → Is done → FailsInJob cloud_bodies faults was done now → IsGood outside bodies cloud_bodies o now)
      → (why : SiteFault) → RefusesJob cloud_bodies faults was Is May why now → IsGood outside bodies cloud_bodies o now
  refused_job Is May fails (fault.Book book.Stopped) (halted, same) =
      same_good outside bodies cloud_bodies o was now good same
  refused_job Is May fails fault.CloudStore (done, is, failed) = fails done is failed
  refused_job Is May fails fault.Memory lacks = lacks_good outside bodies cloud_bodies o was now good lacks
  refused_job Is May fails why other = same_good outside bodies cloud_bodies o was now good other.1

  pub write_refused_good : (inst : Inst) (text : List ℕ) (why : SiteFault)
      → RefusesJob cloud_bodies faults was (IsWrite was inst text) (IsNotRunning was inst) why now
      → IsGood outside bodies cloud_bodies o now
  write_refused_good inst text why refused =
      refused_job (IsWrite was inst text) (IsNotRunning was inst) fails why refused
    where
      fails : (done : Entry) → IsWrite was inst text done → FailsInJob cloud_bodies faults was done now
          → IsGood outside bodies cloud_bodies o now
      fails done (disk, written, is) failed = write_failed_good inst text disk failed.halts.ran written
          (subst (λ (e : Entry). FailsInJob cloud_bodies faults was e now) is failed)

  pub loss_refused_good : (inst : Inst) (whole : Bool) (why : SiteFault)
      → RefusesJob cloud_bodies faults was (IsLoss was inst whole) (IsMissing was inst) why now
      → IsGood outside bodies cloud_bodies o now
  loss_refused_good inst whole why refused =
      refused_job (IsLoss was inst whole) (IsMissing was inst) fails why refused
    where
      fails : (done : Entry) → IsLoss was inst whole done → FailsInJob cloud_bodies faults was done now
          → IsGood outside bodies cloud_bodies o now
      fails done (v, lost, is) failed = loss_failed_good inst (record { vm = v; whole = whole }) failed.halts.ran lost
          (subst (λ (e : Entry). FailsInJob cloud_bodies faults was e now) is failed)
