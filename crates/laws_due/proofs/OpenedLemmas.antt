-- What a site does that is to open a task is due.
use Rattle.std.proofs.Common.{◌≡◌, ◌∙◌, ◌<◌, ◌+◌, ℕ, true, false, List, [], ◌∷◌, ◌++◌, Option, Some, None, Result, Ok, Err}
use Rattle.std.proofs.Common.{append-nil, ap, arith, inl, inr, refl, subst, sym}
use Rattle.std.specs.Prelude.{◌⊎◌, IfErr, IfOk, option_map, if◌then◌else◌}
use Rattle.bosh_answers.specs.Ends.{told_halt}
use Rattle.bosh_asks.specs.Known.{next_task}
use Rattle.bosh_asks.specs.Asked.{dep_of}
use Rattle.bosh_asks.specs.Cause.{IsCause}
use Rattle.bosh_asks.specs.Over.{GoalOver, IsNamed}
use Rattle.bosh_asks.specs.Refused.{MayRefuse}
use Rattle.bosh_asks.specs.declared.ask.Ask.{Ask}
use Rattle.bosh_asks.specs.declared.fault.BookFault.{BookFault}
use Rattle.bosh_asks.specs.declared.fault.BookFault.TheVariants as book
use Rattle.bosh_base.specs.declared.entry.Entry.{Entry}
use Rattle.bosh_base.specs.declared.entry.Entry.TheVariants as entries
use Rattle.bosh_base.specs.declared.entry.TaskOpen.{TaskOpen}
use Rattle.bosh_base.specs.declared.moves.Cause.{Cause}
use Rattle.bosh_base.specs.declared.moves.Cause.TheVariants as causes
use Rattle.bosh_base.specs.declared.moves.Move.TheVariants as moves
use Rattle.bosh_base.specs.declared.reply.Refusal.{Refusal}
use Rattle.bosh_base.specs.declared.reply.Reply.TheVariants.{Refused}
use Rattle.bosh_book.specs.Faults.{IsOpenFault}
use Rattle.bosh_book.specs.Opens.{IsOpeningOf}
use Rattle.bosh_book.specs.Running.{is_full}
use Rattle.bosh_due.specs.Before.{Before, is_out_of_room}
use Rattle.bosh_due.specs.Openings.{opening_with}
use Rattle.bosh_due.specs.Outcomes.{Outcome, is_directors_halt}
use Rattle.bosh_due.specs.Outcomes.Outcome.{Opens, Refuses}
use Rattle.bosh_due.specs.Together.Came.{Runs, Told}
use Rattle.bosh_due.specs.Together.OpensAtMost.{opens_none}
use Rattle.bosh_due.specs.Together.OpensOrTells.{failed as is_failed, opened as is_opened, refused as is_refused}
use Rattle.bosh_due.specs.UnderWay.{UnderWay}
use Rattle.bosh_history.specs.Fit.{IsFit}
use Rattle.bosh_history.specs.Known.{Known}
use Rattle.bosh_history.specs.Moments.{Moment, Opening}
use Rattle.bosh_history.specs.Notes.{Outside}
use Rattle.bosh_ports.specs.declared.keeper.Keeper as keeper
use Rattle.bosh_records.specs.Arrivals.{Arrivals}
use Rattle.bosh_refusals.specs.Told.{book_told}
use Rattle.bosh_world.specs.Pending.{IsOpening, Pends}
use Rattle.bosh_world.specs.Refuses as refusing
use Rattle.bosh_world.specs.Steps as steps
use Rattle.bosh_world.specs.Told.{story_of}
use Rattle.bosh_world.specs.declared.fault.SiteFault.{SiteFault}
use Rattle.bosh_world.specs.declared.fault.SiteFault.TheVariants.{Book, CloudDamaged, CloudStore, Memory, NoMachine, NotRunning}
use Rattle.bosh_world.specs.declared.site.Site.{Site}
use Rattle.laws_due.proofs.RefusedLemmas.{IsOwn}
use Rattle.laws_due.proofs.RoomLemmas.{room_as_told}
use Rattle.laws_due.specs.Answered.{before_on}
use Rattle.laws_due.specs.Asked.{ComesOfAsk}
use Rattle.laws_due.specs.Asked.ComesOfAsk.{going_on, halted as has_halted}
use Rattle.laws_due.specs.Counted.{CountsNoted}
use Rattle.laws_due.specs.Opened.{IsOpened, OpensTo, came_of}
use Rattle.laws_held.proofs.HeldLemmas.{run_holds}
use Rattle.laws_planned.proofs.OpeningLemmas.{opens_as, plans_as}
use Rattle.laws_planned.proofs.PlanLemmas.{refused_as}
use Rattle.laws_planned.proofs.ReadLemmas.{planned_over}
use Rattle.laws_planned.specs.Planned.{PlansAsk}
use Rattle.laws_planned.specs.Read.{ArePlannedOver}
use Rattle.laws_facts.specs.KnownFacts.{KnownFacts}
use Rattle.laws_sites.proofs.NumberLemmas.{opened_left}
use Rattle.laws_sites.proofs.StepLemmas.{book_goes_on}
use Rattle.laws_sites.specs.Good.{IsGood, IsRecorded, moment_of}
use Rattle.laws_views.proofs.HistoryLemmas.{run_viewed}
use Rattle.laws_views.proofs.OpenLemmas.{may_open}
use Rattle.laws_views.proofs.ReadLemmas.{next_known, reads_known}
use Rattle.laws_views.proofs.ViewLemmas.{stands_at}
use Rattle.laws_views.specs.Planned.{IsPlanned}

-- ---- ways to come to an end

module _ (Comes : Outcome → Type 0) (b : Before) where
  -- why it was refused is told, or nothing
  refused_to : (why : Option Refusal) → Comes (Refuses why)
      → OpensTo Comes b (option_map Told (option_map Refused why)) [] b.under_way
  refused_to None comes = opens_none refl refl
  refused_to (Some refusal) comes = record {
    outcome = Refuses (Some refusal);
    comes = comes;
    opened = is_refused (Some refusal) (Refused refusal) refl refl refl refl;
    is_left = refl;
  }

module _ {K L : Type 0} {k : keeper.Ghosts K} {l : keeper.Ghosts L} (outside : Outside) (bodies : K → Option (List (List ℕ)))
    (cloud_bodies : L → Option (List (List ℕ))) (faults : K → ℕ) (o : Opening) (under : UnderWay) (was now : Site K L k l)
    (fit : IsFit outside o) (good : IsGood outside bodies cloud_bodies o was) (counted : CountsNoted was) (ask : Ask) where
  abbrev m : Moment
  m = moment_of o was

  abbrev b : Before
  b = before_on o under was

  abbrev Comes : Outcome → Type 0
  Comes outcome = ComesOfAsk b ask outcome

  facts : KnownFacts m
  facts = (run_holds outside o (story_of was) fit good.run).holds.known

  module _ (running : was.history.is_halted ≡ false) where
    it : IsRecorded m was
    it = good.recorded (book_goes_on was running).1

    goes_on : b.moment.halted ≡ false
    goes_on = good.halted ∙ running

    over : ArePlannedOver m.known was.book.records
    over = planned_over m it.told was.book.records it.whole.stands it.agrees facts
        (run_viewed outside o (story_of was) fit good.run)

    came : was.book.records.opened ≡ m.known.tasks
    came = ap (λ (it : Arrivals). it.opened) it.whole.stands.uploads ∙ ap (λ (known : Known). known.tasks) it.agrees.known_is

    -- the book has room where the history leaves it
    room_is : is_full was.book ≡ is_out_of_room b
    room_is = room_as_told outside bodies cloud_bodies o under was good counted running

    -- ---- openings

    module _ (opening : TaskOpen) (is : IsOpeningOf was.book.records ask opening) where
      planned : IsPlanned was.book.records ask opening
      planned = record { number = is.number; free = is.free; named = is.named; over = is.over; opens = is.opens }

      plans : PlansAsk m.known ask (Ok opening.goal)
      plans = plans_as m.known was.book.records over ask opening planned

      full_comes : is_full was.book ≡ true → Comes (Refuses (book_told book.Full))
      full_comes full = going_on (Ok opening.goal) goes_on plans
          (ap (λ full. if full then Refuses (book_told book.Full) else Opens (opening_with m.known ask opening.goal))
          (sym full ∙ room_is))

      few : is_full was.book ≡ false → m.known.tasks < 18446744073709551615
      few room = within m.known.tasks (subst (λ (n : ℕ). n < 4611686018427387904) came (opened_left was.book room))
        where
          within : (n : ℕ) → n < 4611686018427387904 → n < 18446744073709551615
          within n less = omega arith

      opening_is : is_full was.book ≡ false → opening ≡ opening_with m.known ask opening.goal
      opening_is room =
          opens_as m.known was.book.records ask opening planned (is.number ∙ next)
          (may_open m was.book.records facts (reads_known m it.told was.book.records it.whole.stands it.agrees facts) next ask
          opening planned)
        where
          next : next_task was.book.records ≡ m.known.tasks + 1
          next = next_known m it.told.calls it.told.snapped was.book.records facts
              (stands_at m it.told was.book.records it.whole.stands it.agrees) (few room)

      opening_comes : is_full was.book ≡ false → Comes (Opens opening)
      opening_comes room = going_on (Ok opening.goal) goes_on plans
          (ap Opens (opening_is room)
          ∙ ap (λ full. if full then Refuses (book_told book.Full) else Opens (opening_with m.known ask opening.goal))
          (sym room ∙ room_is))

    -- ---- refusals

    asked_comes : (why : BookFault) → IsOwn why → MayRefuse ask why
        → IsCause was.book.records (IsNamed was.book.records ask) (dep_of ask) (GoalOver was.book.records ask) why
        → Comes (Refuses (book_told why))
    asked_comes why is refuses cause = by (refused_as m.known was.book.records over ask why refuses cause)
      where
        by : (why ≡ book.Memory) ⊎ PlansAsk m.known ask (Err why) → Comes (Refuses (book_told why))
        by (inl memory) = absurd (subst IsOwn memory is)
        by (inr plans) = going_on (Err why) goes_on plans refl

    own_comes : (why : BookFault) → IsOwn why → IsOpenFault was.book ask why → Comes (Refuses (book_told why))
    own_comes book.Stopped is may = absurd is
    own_comes book.StoreFault is may = absurd is
    own_comes book.Memory is may = absurd is
    own_comes book.Full is may = full_comes may.2.0 may.2.1 may.1
    own_comes (book.Damaged place) is may = asked_comes (book.Damaged place) is may.0 may.1
    own_comes (book.Locked task) is may = asked_comes (book.Locked task) is may.0 may.1
    own_comes (book.Differs name) is may = asked_comes (book.Differs name) is may.0 may.1
    own_comes (book.NoDeployment name) is may = asked_comes (book.NoDeployment name) is may.0 may.1
    own_comes (book.NoInstance inst) is may = asked_comes (book.NoInstance inst) is may.0 may.1
    own_comes (book.NoDisk disk) is may = asked_comes (book.NoDisk disk) is may.0 may.1
    own_comes (book.NotOrphaned disk) is may = asked_comes (book.NotOrphaned disk) is may.0 may.1
    own_comes (book.Goal why) is may = asked_comes (book.Goal why) is may.0 may.1
    own_comes book.Limit is may = asked_comes book.Limit is may.0 may.1
    own_comes (book.Consumed by) is may = asked_comes (book.Consumed by) is may.0 may.1

  -- ---- what came

  -- nothing was done
  none_done : (why : BookFault) → Comes (Refuses (book_told why)) → story_of now ≡ story_of was ++ []
      → IsOpened (λ b outcome. ComesOfAsk b ask outcome) o under was (came_of (Err (Book why))) now
  none_done why comes came = record {
    more = [];
    left = under;
    comes = came;
    due = refused_to Comes b (book_told why) comes;
  }

  -- the director's store failed as the task was to open
  store_failed : (cause : Cause) → is_directors_halt cause ≡ true → was.history.is_halted ≡ false
      → refusing.FailsInStore bodies faults was [] cause now → Pends was (IsOpening was.book ask) now
      → IsOpened (λ b outcome. ComesOfAsk b ask outcome) o under was (Some (Told (told_halt cause))) now
  store_failed cause halts running fails pends =
      let entry : (entry : Entry) × IsOpening was.book ask entry × (now.book.journal.pending ≡ Some _) =
      pends running fails.notes.halted in
      let (opening, is, room, same) = entry.1 in record {
        more = moves.Halt cause ∷ [];
        left = _;
        comes = fails.notes.comes.story;
        due = record {
          outcome = Opens opening;
          comes = opening_comes running opening is room;
          opened = is_failed opening cause halts refl refl refl;
          is_left = refl;
        };
      }

  quiet : (why : BookFault) → IsOwn why → IsOpenFault was.book ask why
      → (was.history.is_halted ≡ false) × steps.Notes bodies faults was [] None now
      → IsOpened (λ b outcome. ComesOfAsk b ask outcome) o under was (came_of (Err (Book why))) now
  quiet why is may left = none_done why (own_comes left.0 why is may) left.1.comes.story

  refusal_opens : (fault : SiteFault) → refusing.IsBooks (IsOpenFault was.book ask) fault
      → refusing.Refuses bodies faults was [] fault now → Pends was (IsOpening was.book ask) now
      → IsOpened (λ b outcome. ComesOfAsk b ask outcome) o under was (came_of (Err fault)) now
  refusal_opens (Book book.Stopped) may (inl same) pends =
      none_done book.Stopped (has_halted (good.halted ∙ same.0) refl) (ap story_of same.1 ∙ sym (append-nil (story_of was)))
  refusal_opens (Book book.Stopped) may (inr fails) pends = store_failed causes.Stop refl fails.0 fails.1 pends
  refusal_opens (Book book.StoreFault) may fails pends = store_failed causes.Store refl fails.0 fails.1 pends
  refusal_opens (Book book.Memory) may left pends = absurd may
  refusal_opens (Book book.Full) may left pends = quiet book.Full tt may left
  refusal_opens (Book (book.Locked task)) may left pends = quiet (book.Locked task) tt may left
  refusal_opens (Book (book.Damaged place)) may left pends = quiet (book.Damaged place) tt may left
  refusal_opens (Book (book.Differs name)) may left pends = quiet (book.Differs name) tt may left
  refusal_opens (Book (book.NoDeployment name)) may left pends = quiet (book.NoDeployment name) tt may left
  refusal_opens (Book (book.NoInstance inst)) may left pends = quiet (book.NoInstance inst) tt may left
  refusal_opens (Book (book.NoDisk disk)) may left pends = quiet (book.NoDisk disk) tt may left
  refusal_opens (Book (book.NotOrphaned disk)) may left pends = quiet (book.NotOrphaned disk) tt may left
  refusal_opens (Book (book.Goal why)) may left pends = quiet (book.Goal why) tt may left
  refusal_opens (Book book.Limit) may left pends = quiet book.Limit tt may left
  refusal_opens (Book (book.Consumed by)) may left pends = quiet (book.Consumed by) tt may left
  refusal_opens Memory may left pends = record {
    more = [];
    left = under;
    comes = left.1.comes.story;
    due = opens_none refl refl;
  }
  refusal_opens CloudStore may left pends = absurd may
  refusal_opens (CloudDamaged position) may left pends = absurd may
  refusal_opens (NotRunning inst) may left pends = absurd may
  refusal_opens (NoMachine inst) may left pends = absurd may

  pub opening_due : (result : Result ℕ SiteFault) → IfOk result (λ task. steps.OpensTask bodies faults was ask task now)
      → IfErr result (λ fault. refusing.Refuses bodies faults was [] fault now)
      → IfErr result (refusing.IsBooks (IsOpenFault was.book ask)) → Pends was (IsOpening was.book ask) now
      → IsOpened (λ b outcome. ComesOfAsk b ask outcome) o under was (came_of result) now
  opening_due (Ok task) opens refused fault pends = record {
    more = moves.Note (entries.TaskOpen opens.opening) ∷ [];
    left = _;
    comes = opens.notes.comes.story;
    due = record {
      outcome = Opens opens.opening;
      comes = opening_comes opens.notes.running opens.opening opens.is_opening opens.has_room;
      opened = is_opened opens.opening refl refl (ap Runs opens.told);
      is_left = refl;
    };
  }
  opening_due (Err why) opens refused fault pends = refusal_opens why fault refused pends
