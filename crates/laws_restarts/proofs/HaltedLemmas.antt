-- A good site halts first, where it has not; and what is found in its stores then is what a permitted stop leaves.
use Rattle.std.proofs.Common.{◌≡◌, ◌∙◌, ◌<◌, ◌≤◌, ℕ, ◌+◌, Bool, true, false, List, [], ◌∷◌, ◌++◌, Option, Some, None, Ok, ap, append-nil, append_assoc, arith, drop, inl, length, length-append, map, min, refl, subst, sym}
use Rattle.std.specs.Prelude.{◌≢◌, IfSome, fold}
use Rattle.std.specs.List.{filter_map}
use Rattle.bosh_base.specs.declared.entry.Entry.{Entry}
use Rattle.bosh_base.specs.declared.moves.Cause.TheVariants as causes
use Rattle.bosh_base.specs.declared.moves.Move.{Move}
use Rattle.bosh_base.specs.declared.moves.Move.TheVariants as moves
use Rattle.bosh_base.specs.declared.moves.Stop as stop
use Rattle.bosh_book.specs.declared.standing.Standing.TheVariants.{Unread}
use Rattle.bosh_cloud.specs.Loading as cloud
use Rattle.bosh_history.proofs.KnownLemmas.{known_by_entries}
use Rattle.bosh_history.proofs.StoredLemmas.{stored_itself}
use Rattle.bosh_history.specs.Fit.{AreStoredAs, IsFit, ends_stopped, has_numbers, left}
use Rattle.bosh_history.specs.Known.{Known}
use Rattle.bosh_history.specs.Learn.{known_of}
use Rattle.bosh_history.specs.Moments.{Moment, Opening, durable, durable_entry, keeping, later, moment, stopping}
use Rattle.bosh_history.specs.Notes.{Outside}
use Rattle.bosh_history.specs.Permitted.{IsRun, IsRunFrom, Stops}
use Rattle.bosh_journal.specs.Kept as journal
use Rattle.bosh_journal.specs.Reads as journal_reads
use Rattle.bosh_journal.specs.Spelled.{Spell, format_of, written_in}
use Rattle.bosh_ports.specs.declared.keeper.Keeper as keeper
use Rattle.bosh_world.specs.Restarts.{first_halt}
use Rattle.bosh_world.specs.Steps.{bodies_of}
use Rattle.bosh_world.specs.Told.{story_of}
use Rattle.bosh_world.specs.declared.site.Site.{Site}
use Rattle.laws_facts.proofs.CallLemmas.{are_begun}
use Rattle.laws_held.proofs.HeldLemmas.{run_holds}
use Rattle.laws_restarts.proofs.StopLemmas.{AreNumbered, effects_stopped, known_stopped}
use Rattle.laws_sites.proofs.ExplainLemmas.{explained}
use Rattle.laws_sites.proofs.HaltLemmas.{may_come_none, may_pend_none}
use Rattle.laws_sites.proofs.MomentLemmas.{durable_on, later_from, later_on, run_from, run_on}
use Rattle.laws_sites.proofs.StepLemmas.{book_goes_on, stopped}
use Rattle.laws_sites.specs.Good.{FindsIn, HasHalted, IsGood, IsRecorded, IsLeft, IsLeftOf, IsPresent, SayDone, listed, moment_of}
use Rattle.laws_stands_noted.proofs.AgreesLemmas.{move_agrees}

-- ---- what is found

-- what the bodies of a store say is found in it
pub found_in : (told : Option (List (List ℕ))) (Is : List Entry → Type 0) (found : List Entry) → FindsIn told Spell Is
    → IfSome told (journal_reads.Says (Ok found)) → IsPresent told → Is found
found_in (Some list) Is found finds says present = finds found says
found_in None Is found finds says present = absurd finds

pub done_in : (told : Option (List (List ℕ))) (Is : List Entry → Type 0) (found : List Entry) → FindsIn told SayDone Is
    → IfSome told (λ list. cloud.effects_in list ≡ Ok found) → Is found
done_in (Some list) Is found finds says = finds found says
done_in None Is found finds says = absurd finds

-- a store of the present format that was read holds what was read
pub holds_read : (told later : Option (List (List ℕ))) (found : List Entry) → IsPresent told
    → IfSome told (journal_reads.Says (Ok found)) → IfSome told (λ list. journal_reads.LeavesList (Ok found) list later)
    → (is_broken : Bool) (pending : _) → is_broken ≡ false → journal.TellAll later is_broken pending found
holds_read None later found present says leaves is_broken pending whole = absurd present
holds_read (Some list) later found present says leaves is_broken pending whole =
    subst (λ (b : Bool). journal.TellAll later b pending found) (sym whole)
    (subst (λ (told : Option (List (List ℕ))). journal.TellAll told false pending found) (sym same) (present, says))
  where
    same : later ≡ Some list
    same = leaves ∙ (λ i. Some (written_in (present i) list found))

pub tells_done : {L : Type 0} (bodies : L → Option (List (List ℕ))) (was now : L) (found : List Entry)
    → FindsIn (bodies was) SayDone (λ _. Unit {0}) → IfSome (bodies was) (λ list. cloud.effects_in list ≡ Ok found)
    → IfSome (bodies was) (λ list. bodies now ≡ Some list) → (is_stale : Bool) (pending : _) → is_stale ≡ false
    → cloud.TellsAll (bodies now) is_stale pending found
tells_done bodies was now found tells says list is_stale pending whole =
    subst (λ (b : Bool). cloud.TellsAll (bodies now) b pending found) (sym whole) (by (bodies was) tells says list)
  where
    by : (told : Option (List (List ℕ))) → FindsIn told SayDone (λ _. Unit {0})
        → IfSome told (λ list. cloud.effects_in list ≡ Ok found) → IfSome told (λ list. bodies now ≡ Some list)
        → cloud.TellsAll (bodies now) false pending found
    by (Some list) tells says same = subst (λ told. cloud.TellsAll told false pending found) (sym same) says
    by None tells says same = absurd tells

-- ---- lists

-- a session that goes on to a stop ends with it
pub ends_with : (before : List Move) (s : stop.Stop) → ends_stopped (before ++ moves.Stop s ∷ []) ≡ true
ends_with [] s = refl
ends_with (move ∷ more) s = over move (more ++ moves.Stop s ∷ []) (filled more) (ends_with more s)
  where
    filled : (more : List Move) → (more ++ moves.Stop s ∷ []) ≡ [] → ⊥
    filled [] is = absurd (let no = is in cc)
    filled (x ∷ xs) is = absurd (let no = is in cc)

    over : (x : Move) (rest : List Move) → (rest ≡ [] → ⊥) → ends_stopped rest ≡ true → ends_stopped (x ∷ rest) ≡ true
    over x [] not ends = absurd (not refl)
    over (moves.Note e) (y ∷ ys) not ends = ends
    over (moves.Did d) (y ∷ ys) not ends = ends
    over (moves.Wrote w) (y ∷ ys) not ends = ends
    over (moves.Halt cause) (y ∷ ys) not ends = ends
    over (moves.Stop other) (y ∷ ys) not ends = ends
    over (moves.Lost loss) (y ∷ ys) not ends = ends
    over (moves.Said said) (y ∷ ys) not ends = ends

durable_session : (off : Bool) (kept : Option Entry) (took : List ℕ) (wrote : Option Entry)
    → filter_map durable_entry (first_halt off ++ moves.Stop (record { kept = kept; took = took; wrote = wrote }) ∷ [])
    ≡ listed kept
durable_session true (Some e) took wrote = refl
durable_session true None took wrote = refl
durable_session false (Some e) took wrote = refl
durable_session false None took wrote = refl

-- ---- a site that halts first

module _ {K L : Type 0} {k : keeper.Ghosts K} {l : keeper.Ghosts L} (outside : Outside) (bodies : K → Option (List (List ℕ)))
    (cloud_bodies : L → Option (List (List ℕ))) (o : Opening) (was : Site K L k l)
    (good : IsGood outside bodies cloud_bodies o was) where
  -- the moment once it has halted
  abbrev pub at_halt : Moment
  at_halt = fold later (moment_of o was) (first_halt was.history.is_halted)

  explained_by : (off : Bool) → was.history.is_halted ≡ off
      → HasHalted outside bodies cloud_bodies (fold later (moment_of o was) (first_halt off)) was
  explained_by true halted = good.halts halted
  explained_by false ran = explained outside bodies cloud_bodies (stopped (moment_of o was)) was (record {
    wrote = None;
    took = [];
    may_write = tt;
    may_take = tt;
    effects = (good.runs ran).effects;
    may_come = may_come_none outside (stopped (moment_of o was)) None [] was.cloud.is_stale was.cloud.pending
        (was.is_site.cloud_runs ran);
    may_pend = may_pend_none outside (stopped (moment_of o was)) was.book.journal.is_broken was.book.journal.pending
        (book_goes_on was ran).0;
    numbers = good.numbers;
    book_kept = (good.runs ran).book_kept;
    cloud_kept = (good.runs ran).cloud_kept;
  })

  pub halt_explained : HasHalted outside bodies cloud_bodies at_halt was
  halt_explained = explained_by was.history.is_halted refl

  run_by : (off : Bool) → was.history.is_halted ≡ off → IsRunFrom outside (moment_of o was) (first_halt off)
  run_by true halted = tt
  run_by false ran = (good.halted ∙ ran, tt, tt)

  pub halt_run : IsRunFrom outside (moment_of o was) (first_halt was.history.is_halted)
  halt_run = run_by was.history.is_halted refl

  halted_by : (off : Bool) → was.history.is_halted ≡ off → (fold later (moment_of o was) (first_halt off)).halted ≡ true
  halted_by true halted = good.halted ∙ halted
  halted_by false ran = refl

  pub has_halted : at_halt.halted ≡ true
  has_halted = halted_by was.history.is_halted refl

  known_by : (off : Bool) → (fold later (moment_of o was) (first_halt off)).known ≡ (moment_of o was).known
  known_by true = refl
  known_by false = refl

  pub same_known : at_halt.known ≡ (moment_of o was).known
  same_known = known_by was.history.is_halted

  effects_by : (off : Bool) → (fold later (moment_of o was) (first_halt off)).effects ≡ (moment_of o was).effects
  effects_by true = refl
  effects_by false = refl

  pub same_effects : at_halt.effects ≡ (moment_of o was).effects
  same_effects = effects_by was.history.is_halted

  calls_by : (off : Bool) → (fold later (moment_of o was) (first_halt off)).calls ≡ (moment_of o was).calls
  calls_by true = refl
  calls_by false = refl

  -- what is recorded stands then
  recorded_by : (off : Bool) → was.history.is_halted ≡ off → IsFit outside o → IsRecorded (moment_of o was) was
      → IsRecorded (fold later (moment_of o was) (first_halt off)) was
  recorded_by true halted fit it = it
  recorded_by false ran fit it = record {
    told = it.told;
    agrees = move_agrees outside (moment_of o was) it.told (moves.Halt causes.Stop) it.agrees
        (run_holds outside o (story_of was) fit good.run).holds.known it.whole.stands.tells_well (good.halted ∙ ran);
    whole = it.whole;
  }

  pub halt_recorded : IsFit outside o → was.book.standing ≢ Unread → IsRecorded at_halt was
  halt_recorded fit read = recorded_by was.history.is_halted refl fit (good.recorded read)

  -- ---- the stop that explains what is found

  module _ (fit : IsFit outside o) (entries effects : List Entry)
      (kept : IsLeftOf outside at_halt was.book.journal.entries entries) (left_so : IsLeft outside at_halt effects) where
    abbrev pub the_stop : stop.Stop
    the_stop = record { kept = kept.0; took = left_so.1; wrote = left_so.0 }

    abbrev pub session : List Move
    session = story_of was ++ (first_halt was.history.is_halted ++ moves.Stop the_stop ∷ [])

    abbrev pub after : Moment
    after = stopping at_halt the_stop

    pub numbered : AreNumbered at_halt.calls
    numbered n call is =
        (are_begun (moment_of o was) (run_holds outside o (story_of was) fit good.run).holds.known n call
        (sym (ap (λ calls. calls n) (calls_by was.history.is_halted)) ∙ is)).number

    pub stop_run : IsRunFrom outside at_halt (moves.Stop the_stop ∷ [])
    stop_run = (record { is_halted = has_halted; kept = kept.1; wrote = left_so.2; took = left_so.3 }, tt, kept.2)

    pub run : IsRun outside o session
    run = run_on outside o (story_of was) (first_halt was.history.is_halted ++ moves.Stop the_stop ∷ []) good.run
        (run_from outside (moment_of o was) (first_halt was.history.is_halted) (moves.Stop the_stop ∷ []) halt_run stop_run)

    pub moment_is : moment o session ≡ after
    moment_is =
        later_on o (story_of was) (first_halt was.history.is_halted ++ moves.Stop the_stop ∷ [])
        ∙ later_from (moment_of o was) (first_halt was.history.is_halted) (moves.Stop the_stop ∷ [])

    pub durable_is : durable o session ≡ entries
    durable_is =
        durable_on o (story_of was) (first_halt was.history.is_halted ++ moves.Stop the_stop ∷ [])
        ∙ (λ i. good.entries i ++ durable_session was.history.is_halted kept.0 left_so.1 left_so.0 i)
        ∙ sym kept.4

    pub known_after : after.known ≡ known_of entries
    known_after = ap (λ (m : Moment). m.known) (sym moment_is) ∙ known_by_entries o session ∙ ap known_of durable_is

    pub numbers_after : has_numbers (known_of entries) ≡ true
    numbers_after =
        ap has_numbers (sym known_after ∙ known_stopped outside at_halt effects kept.0 left_so) ∙ kept.3

    pub effects_after : after.effects ≡ effects
    effects_after = effects_stopped outside at_halt effects kept.0 left_so

    -- they are a fit pair
    pub left_fit : IsFit outside (record { entries = entries; effects = effects })
    left_fit = left o (record { entries = entries; effects = effects }) session fit (record {
      is_run = run;
      stopped = subst (λ (all : List Move). ends_stopped all ≡ true)
          (append_assoc (story_of was) (first_halt was.history.is_halted) (moves.Stop the_stop ∷ []))
          (ends_with (story_of was ++ first_halt was.history.is_halted) the_stop);
      entries = inl (subst (AreStoredAs entries) (sym durable_is) (stored_itself entries));
      effects = sym effects_after ∙ ap (λ (m : Moment). m.effects) (sym moment_is);
      has_numbers = numbers_after;
    })
