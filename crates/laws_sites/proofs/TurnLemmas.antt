-- Each entry that a claim notes, turn by turn, may be noted, and what is recorded stands after it.
use Rattle.std.proofs.Common.{◌≡◌, ◌∙◌, ◌<◌, ℕ, zero, suc, Bool, true, false, not, List, [], ◌∷◌, ◌++◌, Option, Some, None, ap, append-nil, append_assoc, refl, subst, sym, inl, inr}
use Rattle.std.specs.Prelude.{◌&&◌, eqb, fold, is_some, map, nat_le, nat_lt, Result, Ok, Err}
use Rattle.std.specs.List.{AllByRecursion}
use Rattle.std.proofs.lemmas.Bool.{and_parts, eqb-true, leb-true, ltb-true}
use Rattle.bosh_asks.specs.declared.fault.BookFault.{BookFault}
use Rattle.bosh_asks.specs.declared.fault.BookFault.TheVariants.{Full, Memory, StoreFault}
use Rattle.bosh_base.specs.declared.entry.Entry.{Entry}
use Rattle.bosh_base.specs.declared.entry.Entry.TheVariants as entries
use Rattle.bosh_base.specs.declared.goal.GoalRow.{GoalRow}
use Rattle.bosh_base.specs.declared.inst.Inst.{Inst}
use Rattle.bosh_base.specs.declared.moves.Move.{Move}
use Rattle.bosh_base.specs.declared.moves.Move.TheVariants as moves
use Rattle.bosh_book.specs.Adds.{Adds}
use Rattle.bosh_book.specs.Appends.{LeavesPending}
use Rattle.bosh_book.specs.Claims as claims
use Rattle.bosh_book.specs.Current.{dep_of}
use Rattle.bosh_book.specs.declared.book.Book.{Book}
use Rattle.bosh_book.specs.Turns.{IsUpdate}
use Rattle.bosh_book.specs.declared.claim.Claim.{Claim}
use Rattle.bosh_book.specs.declared.claim.Claim.TheVariants.{Over, Wait}
use Rattle.bosh_claim.specs.Choice.{choice_of}
use Rattle.bosh_claim.specs.declared.choice.Choice.{Choice}
use Rattle.bosh_claim.specs.declared.choice.Choice.TheVariants as choices
use Rattle.bosh_history.specs.Claim.{claim_at}
use Rattle.bosh_history.specs.Fit.{IsFit}
use Rattle.bosh_history.specs.Held.{is_open}
use Rattle.bosh_history.specs.Known.{Known, Task, want_in}
use Rattle.bosh_history.specs.Learn.{learn}
use Rattle.bosh_history.specs.Moments.{Moment, Opening, later, moment, noting}
use Rattle.bosh_history.specs.Notes.{Outside}
use Rattle.bosh_history.specs.Permitted.{IsPermitted, IsRun, IsRunFrom}
use Rattle.bosh_history.specs.Updates.{update_at, update_done}
use Rattle.bosh_history.specs.Words.{at}
use Rattle.bosh_roll.specs.declared.upd.Upd.TheVariants.{Busy, Finished}
use Rattle.bosh_rows.specs.Same.{same_inst}
use Rattle.bosh_journal.specs.Appends.{added}
use Rattle.laws_choices.proofs.ClaimLemmas.{choice_is_claim}
use Rattle.laws_claims.specs.Progress.{IsLawful}
use Rattle.laws_facts.proofs.FrameLemmas.{numbers_updated}
use Rattle.laws_facts.specs.Owners.{works}
use Rattle.laws_held.proofs.HeldLemmas.{run_holds}
use Rattle.laws_held.specs.Whole.{Whole}
use Rattle.laws_runs.proofs.ClaimLemmas.{claims_are_lawful}
use Rattle.laws_sites.proofs.ChosenLemmas.{IsChosenFor, choice_for}
use Rattle.laws_sites.proofs.MomentLemmas.{MayBeNext, later_on, run_on}
use Rattle.laws_sites.proofs.NoteLemmas.{OneMoreStands, all_stand}
use Rattle.laws_sites.specs.Tasks.{IsWorkOf}
use Rattle.laws_stands.specs.Agrees.{Agrees, claimed_of}
use Rattle.laws_stands.specs.Stands.{IsWork}
use Rattle.laws_stands.specs.Told.{Told, telling}
use Rattle.laws_stands_fits.proofs.EntriesLemmas.{whole_with_room}
use Rattle.laws_stands_fits.specs.Whole.{StandsWhole}

-- ---- an update leaves the tasks open, and the numbers of calls

changed_end : (base task : ℕ → Task) (t : ℕ) (it : Task) → base ≡ task → it.end ≡ (task t).end → (n : ℕ)
    → (at eqb t it base n).end ≡ (task n).end
changed_end base task t it same end n = by (eqb t n) refl
  where
    by : (b : Bool) → eqb t n ≡ b → (at eqb t it base n).end ≡ (task n).end
    by true one = rw one (end ∙ ap (λ (x : ℕ). (task x).end) (eqb-true t n one))
    by false other = rw other (ap (λ (f : ℕ → Task). (f n).end) same)

done_tasks : (want : Option GoalRow) (i : Inst) (k : Known) → (update_done want i k).task ≡ k.task
done_tasks (Some want) i k = refl
done_tasks None i k = refl

end_after : (k : Known) (e : Entry) → IsUpdate e → (n : ℕ) → ((learn k e).task n).end ≡ (k.task n).end
end_after k (entries.UpdBegin u) is n =
    changed_end k.task k.task u.task (update_at Busy u.inst (k.task u.task)) refl refl n
end_after k (entries.UpdDone u) is n =
    changed_end (update_done (want_in (k.task u.task).goal u.inst) u.inst k).task k.task u.task
    (update_at Finished u.inst ((update_done (want_in (k.task u.task).goal u.inst) u.inst k).task u.task))
    (done_tasks (want_in (k.task u.task).goal u.inst) u.inst k)
    (ap (λ (f : ℕ → Task). (f u.task).end) (done_tasks (want_in (k.task u.task).goal u.inst) u.inst k)) n
end_after k (entries.Gone u) is n =
    changed_end k.task k.task u.task (record (k.task u.task) { gone = at same_inst u.inst true (k.task u.task).gone }) refl
    refl n
end_after k e is n = absurd is

pub numbers_after : (m : Moment) (e : Entry) → IsUpdate e
    → ((learn m.known e).tasks ≡ m.known.tasks) × ((learn m.known e).last_call ≡ m.known.last_call)
numbers_after m (entries.UpdBegin u) is = (refl, refl)
numbers_after m (entries.UpdDone u) is =
    ((numbers_updated m u.task u.inst).tasks, (numbers_updated m u.task u.inst).last_call)
numbers_after m (entries.Gone u) is = (refl, refl)
numbers_after m e is = absurd is

pub calls_after : (m : Moment) (e : Entry) → IsUpdate e → (learn m.known e).last_call ≡ m.known.last_call
calls_after m e is = (numbers_after m e is).1

works_after : (m : Moment) (e : Entry) (t : ℕ) → IsUpdate e → works m t ≡ true → works (noting m e) t ≡ true
works_after m e t is working =
    (λ i. nat_lt m.stopped t && (nat_le t ((numbers_after m e is).0 i) && not (is_some (end_after m.known e is t i))))
    ∙ working

module _ (one_more : OneMoreStands) {K : Type 0} (bodies : K → Option (List (List ℕ)))
    (faults : K → ℕ) (outside : Outside) (o : Opening) (fit : IsFit outside o) (task worker : ℕ) where
  -- a book whose records stand at a moment of a permitted history, at which the task works
  pub record IsAt (m : Moment) (told : Told) (was : Book K) : Type 0 where
    pub moves : List Move
    pub is : moment o moves ≡ m
    pub run : IsRun outside o moves
    pub running : m.halted ≡ false
    pub working : works m task ≡ true
    pub numbers : m.known.last_call < 18446744073709551615
    pub whole : StandsWhole told was.records
    pub agrees : Agrees m told

  -- what is noted from there may be noted, and what is recorded stands for it
  pub record HasNoted (m : Moment) (told : Told) (was now : Book K) : Type 0 where
    pub noted : List Entry
    pub of_task : AllByRecursion (IsWorkOf task) noted
    pub entries : now.journal.entries ≡ was.journal.entries ++ noted
    pub may : IsRunFrom outside m (map moves.Note noted)
    pub whole : StandsWhole (fold telling told noted) now.records
    pub agrees : Agrees (fold later m (map moves.Note noted)) (fold telling told noted)

  -- where the store failed in a claim, the entry that was to come next may be noted then, and is pending
  abbrev pub Pends : Moment → List Entry → Result Claim BookFault → Book K → Type 0
  Pends m noted (Err StoreFault) now =
      (e : Entry) × MayBeNext outside (fold later m (map moves.Note noted)) e
      × (now.journal.pending ≡ Some (added e)) × IsWorkOf task e
  Pends m noted result now = Unit {0}

  -- what a claim notes may be noted, and what it was to note next
  pub record HasTurned (m : Moment) (told : Told) (was : Book K) (result : Result Claim BookFault) (now : Book K) :
      Type 0 where
    pub notes : HasNoted m told was now
    pub pends : Pends m notes.noted result now

  holds_at : (m : Moment) (told : Told) (was : Book K) → IsAt m told was → Whole m
  holds_at m told was at = subst Whole at.is (run_holds outside o at.moves fit at.run)

  lawful : (m : Moment) (told : Told) (was : Book K) → IsAt m told was
      → IsLawful outside m task (claimed_of (choice_of was.records task worker))
  lawful m told was at =
      subst (IsLawful outside m task)
      (sym (choice_is_claim m told was.records task worker at.whole.stands at.agrees (holds_at m told was at).holds.known
      (ltb-true m.stopped task parts.0)
      (leb-true task m.known.tasks (and_parts (nat_le task m.known.tasks) (is_open m.known task) parts.1).0) at.numbers))
      (subst (λ (it : Moment). IsLawful outside it task (claim_at it task worker)) at.is
      (claims_are_lawful outside o at.moves task worker fit at.run
      (subst (λ (it : Moment). works it task ≡ true) (sym at.is) at.working)
      (subst (λ (it : Moment). it.halted ≡ false) (sym at.is) at.running)))
    where
      parts : (nat_lt m.stopped task ≡ true) × ((nat_le task m.known.tasks && is_open m.known task) ≡ true)
      parts = and_parts (nat_lt m.stopped task) (nat_le task m.known.tasks && is_open m.known task) at.working

  -- nothing is noted
  none_noted : (m : Moment) (told : Told) (was now : Book K) → IsAt m told was → now ≡ was → HasNoted m told was now
  none_noted m told was now at same = record {
    noted = [];
    of_task = tt;
    entries = (λ i. (same i).journal.entries) ∙ sym (append-nil was.journal.entries);
    may = tt;
    whole = subst (λ (b : Book K). StandsWhole told b.records) (sym same) at.whole;
    agrees = at.agrees;
  }

  -- an entry is noted, and that is all
  one_noted : (m : Moment) (told : Told) (was now : Book K) (e : Entry) → IsAt m told was → MayBeNext outside m e
      → IsWorkOf task e → Adds bodies faults was (e ∷ []) now → HasNoted m told was now
  one_noted m told was now e at may own adds =
      let both : StandsWhole (telling told e) now.records × Agrees (noting m e) (telling told e) =
      all_stand one_more outside m told was.records now.records (e ∷ []) (holds_at m told was at) at.whole at.agrees
      (may.0, tt, may.1) (at.numbers, tt) adds.learns in
      record { noted = e ∷ []; of_task = (own, tt); entries = adds.entries; may = (may.0, tt, may.1); whole = both.0; agrees = both.1 }

  -- .. or more is noted after it
  more_noted : (m : Moment) (told : Told) (was mid now : Book K) (e : Entry) → MayBeNext outside m e → IsWorkOf task e
      → Adds bodies faults was (e ∷ []) mid → HasNoted (noting m e) (telling told e) mid now → HasNoted m told was now
  more_noted m told was mid now e may own adds more = record {
    noted = e ∷ more.noted;
    of_task = (own, more.of_task);
    entries = more.entries ∙ ap (λ es. es ++ more.noted) adds.entries
        ∙ append_assoc was.journal.entries (e ∷ []) more.noted;
    may = (may.0, more.may, may.1);
    whole = more.whole;
    agrees = more.agrees;
  }

  pends_on : (m : Moment) (e : Entry) (noted : List Entry) (result : Result Claim BookFault) (now : Book K)
      → Pends (noting m e) noted result now → Pends m (e ∷ noted) result now
  pends_on m e noted (Err StoreFault) now pends = pends
  pends_on m e noted result now pends = tt

  more_turned : (m : Moment) (told : Told) (was mid : Book K) (result : Result Claim BookFault) (now : Book K) (e : Entry)
      → MayBeNext outside m e → IsWorkOf task e → Adds bodies faults was (e ∷ []) mid
      → HasTurned (noting m e) (telling told e) mid result now → HasTurned m told was result now
  unfolding more_noted
  more_turned m told was mid result now e may own adds more = record {
    notes = more_noted m told was mid now e may own adds more.notes;
    pends = pends_on m e more.notes.noted result now more.pends;
  }

  -- nothing more is noted, and nothing is pending
  turned_so : (m : Moment) (told : Told) (was mid : Book K) (answer result : Result Claim BookFault) (now : Book K)
      → HasTurned m told was answer mid → result ≡ answer → now ≡ mid → HasTurned m told was result now
  turned_so m told was mid answer result now turned same stays =
      subst (λ (r : Result Claim BookFault). HasTurned m told was r now) (sym same)
      (subst (HasTurned m told was answer) (sym stays) turned)

  full_turned : (m : Moment) (told : Told) (was : Book K) → IsAt m told was → HasTurned m told was (Err Full) was
  full_turned m told was at = record { notes = none_noted m told was was at refl; pends = tt }

  -- the task works on after an update, and calls have the numbers that they had
  at_next : (m : Moment) (told : Told) (was mid : Book K) (e : Entry) → IsAt m told was → MayBeNext outside m e
      → Adds bodies faults was (e ∷ []) mid → works (noting m e) task ≡ true
      → (learn m.known e).last_call ≡ m.known.last_call → IsAt (noting m e) (telling told e) mid
  at_next m told was mid e at may adds working same =
      let both : StandsWhole (telling told e) mid.records × Agrees (noting m e) (telling told e) =
      all_stand one_more outside m told was.records mid.records (e ∷ []) (holds_at m told was at) at.whole at.agrees
      (may.0, tt, may.1) (at.numbers, tt) adds.learns in
      record {
        moves = at.moves ++ moves.Note e ∷ [];
        is = later_on o at.moves (moves.Note e ∷ []) ∙ ap (λ (it : Moment). later it (moves.Note e)) at.is;
        run = run_on outside o at.moves (moves.Note e ∷ []) at.run
            (subst (λ (it : Moment). IsPermitted outside it (moves.Note e)) (sym at.is) may.0, tt, may.1);
        running = at.running;
        working = working;
        numbers = subst (λ (n : ℕ). n < 18446744073709551615) (sym same) at.numbers;
        whole = both.0;
        agrees = both.1;
      }

  -- ---- one turn after the other

  no_turn : (claim : Option Claim) (fault : BookFault) → ◌≡◌ {A = Result (Option Claim) BookFault} (Ok claim) (Err fault) → ⊥
  no_turn claim fault is = absurd (let no = is in cc)

  no_end : (claim : Claim) → ◌≡◌ {A = Result (Option Claim) BookFault} (Ok None) (Ok (Some claim)) → ⊥
  no_end claim is = absurd (let no = is in cc)

  no_claim : (claim : Claim) → ◌≡◌ {A = Option Claim} (Some claim) None → ⊥
  no_claim claim is = absurd (let no = is in cc)

  module _ (m : Moment) (told : Told) (was mid : Book K) (at : IsAt m told was) where
    chosen : (choice : Choice) → choice_of was.records task worker ≡ choice → IsLawful outside m task (claimed_of choice)
    chosen choice is = subst (λ (it : Choice). IsLawful outside m task (claimed_of it)) is (lawful m told was at)

    -- what is chosen is work of the task
    own : (e : Entry) → choice_of was.records task worker ≡ choices.Noted e → IsWorkOf task e
    own e is = subst (IsChosenFor task) is (choice_for was.records task worker (λ work there.
        let of : IsWork told task (Some work) = subst (IsWork told task) there (at.whole.stands.works task) in
        of.2.1.task_is))

    -- a turn that gives an answer notes the beginning of a call, or nothing
    answers : (claim : Claim) (choice : Choice) → choice_of was.records task worker ≡ choice
        → claims.Follows bodies faults choice was (Ok (Some claim)) mid → HasNoted m told was mid
    answers claim choices.Waits is follows = none_noted m told was mid at follows.1
    answers claim choices.Over is follows = none_noted m told was mid at follows.1
    answers claim (choices.Noted (entries.Begin b)) is follows = by (dep_of was.records b.owner) follows
      where
        by : (dep : Option (List ℕ)) → claims.Begins bodies faults b dep was (Ok (Some claim)) mid
            → HasNoted m told was mid
        by None begins = none_noted m told was mid at begins.1
        by (Some dep) (inl lacks) = absurd (no_turn (Some claim) Memory lacks.0)
        by (Some dep) (inr (value, whole, adds)) =
            one_noted m told was mid (entries.Begin b) at (chosen (choices.Noted (entries.Begin b)) is, tt)
            (own (entries.Begin b) is) adds
    answers claim (choices.Noted (entries.UpdBegin u)) is follows = absurd (no_claim claim follows.0)
    answers claim (choices.Noted (entries.UpdDone u)) is follows = absurd (no_claim claim follows.0)
    answers claim (choices.Noted (entries.Gone u)) is follows = absurd (no_claim claim follows.0)
    answers claim (choices.Noted e) is follows = none_noted m told was mid at follows.1

    -- one that gives none notes an update
    goes_on : {R : Type 0} (choice : Choice) → choice_of was.records task worker ≡ choice
        → claims.Follows bodies faults choice was (Ok None) mid
        → ((e : Entry) → IsUpdate e → MayBeNext outside m e → IsWorkOf task e → Adds bodies faults was (e ∷ []) mid → R) → R
    goes_on choices.Waits is follows more = absurd (no_end Wait follows.0)
    goes_on choices.Over is follows more = absurd (no_end Over follows.0)
    goes_on {R} (choices.Noted (entries.Begin b)) is follows more = by (dep_of was.records b.owner) follows
      where
        by : (dep : Option (List ℕ)) → claims.Begins bodies faults b dep was (Ok None) mid → R
        by None begins = absurd (no_end Wait begins.0)
        by (Some dep) (inl lacks) = absurd (no_turn None Memory lacks.0)
        by (Some dep) (inr (value, whole, adds)) = absurd (let no = value in cc)
    goes_on (choices.Noted (entries.UpdBegin u)) is follows more =
        more (entries.UpdBegin u) tt (chosen (choices.Noted (entries.UpdBegin u)) is, tt) (own (entries.UpdBegin u) is) follows.2
    goes_on (choices.Noted (entries.UpdDone u)) is follows more =
        more (entries.UpdDone u) tt (chosen (choices.Noted (entries.UpdDone u)) is, tt) (own (entries.UpdDone u) is) follows.2
    goes_on (choices.Noted (entries.Gone u)) is follows more =
        more (entries.Gone u) tt (chosen (choices.Noted (entries.Gone u)) is, tt) (own (entries.Gone u) is) follows.2
    goes_on (choices.Noted e) is follows more = absurd (no_end Wait follows.0)

    -- .. and one that is refused nothing: the entry may be pending
    left_behind : (e : Entry) (fault : BookFault) → MayBeNext outside m e → IsWorkOf task e → Adds bodies faults was [] mid
        → LeavesPending {T = Option Claim} (Err fault) e mid.journal → HasTurned m told was (Err fault) mid
    left_behind e fault may is_own adds leaves = record { notes = left; pends = by fault leaves }
      where
        left : HasNoted m told was mid
        left = record {
          noted = [];
          of_task = tt;
          entries = adds.entries;
          may = tt;
          whole = whole_with_room told was.records mid.records adds.learns at.whole;
          agrees = at.agrees;
        }

        by : (fault : BookFault) → LeavesPending {T = Option Claim} (Err fault) e mid.journal
            → Pends m [] (Err fault) mid
        by StoreFault leaves = (e, may, leaves, is_own)
        by fault leaves = tt

    lacked : (fault : BookFault) → ◌≡◌ {A = Result (Option Claim) BookFault} (Err fault) (Err Memory) → mid ≡ was
        → HasTurned m told was (Err fault) mid
    unfolding none_noted
    lacked fault is same = record { notes = none_noted m told was mid at same; pends = by fault is }
      where
        by : (fault : BookFault) → ◌≡◌ {A = Result (Option Claim) BookFault} (Err fault) (Err Memory)
            → Pends m [] (Err fault) mid
        by StoreFault is = absurd (let no = is in cc)
        by fault is = tt

    no_refusal : (fault : BookFault) (claim : Option Claim) →
        ◌≡◌ {A = Result (Option Claim) BookFault} (Err fault) (Ok claim) → ⊥
    no_refusal fault claim is = absurd (let no = is in cc)

    refused : (fault : BookFault) (choice : Choice) → choice_of was.records task worker ≡ choice
        → claims.Follows bodies faults choice was (Err fault) mid → HasTurned m told was (Err fault) mid
    refused fault choices.Waits is follows = absurd (no_refusal fault (Some Wait) follows.0)
    refused fault choices.Over is follows = absurd (no_refusal fault (Some Over) follows.0)
    refused fault (choices.Noted (entries.Begin b)) is follows = by (dep_of was.records b.owner) follows
      where
        by : (dep : Option (List ℕ)) → claims.Begins bodies faults b dep was (Err fault) mid
            → HasTurned m told was (Err fault) mid
        by None begins = absurd (no_refusal fault (Some Wait) begins.0)
        by (Some dep) (inl lacks) = lacked fault lacks.0 lacks.1
        by (Some dep) (inr (note, fails, adds, leaves)) =
            left_behind (entries.Begin b) fault (chosen (choices.Noted (entries.Begin b)) is, tt) (own (entries.Begin b) is) adds
            leaves
    refused fault (choices.Noted (entries.UpdBegin u)) is (note, fails, adds, leaves) =
        left_behind (entries.UpdBegin u) fault (chosen (choices.Noted (entries.UpdBegin u)) is, tt) (own (entries.UpdBegin u) is) adds
        leaves
    refused fault (choices.Noted (entries.UpdDone u)) is (note, fails, adds, leaves) =
        left_behind (entries.UpdDone u) fault (chosen (choices.Noted (entries.UpdDone u)) is, tt) (own (entries.UpdDone u) is) adds
        leaves
    refused fault (choices.Noted (entries.Gone u)) is (note, fails, adds, leaves) =
        left_behind (entries.Gone u) fault (chosen (choices.Noted (entries.Gone u)) is, tt) (own (entries.Gone u) is) adds
        leaves
    refused fault (choices.Noted e) is follows = absurd (no_refusal fault (Some Wait) follows.0)

    turn_refused : (fault : BookFault) → claims.Turn bodies faults task worker was (Err fault) mid
        → HasTurned m told was (Err fault) mid
    turn_refused fault (inl lacks) = lacked fault lacks.0 lacks.1
    turn_refused fault (inr follows) = refused fault (choice_of was.records task worker) refl follows

  pub turns : (room : ℕ) (m : Moment) (told : Told) (was : Book K) (result : Result Claim BookFault) (now : Book K)
      → IsAt m told was → claims.Turns bodies faults task worker room was result now → HasTurned m told was result now
  turns zero m told was result now at full =
      turned_so m told was was (Err Full) result now (full_turned m told was at) full.0 full.1
  turns (suc room) m told was result now at (turned, mid, turn, rest) =
      by turned turn rest (λ next told_next there. turns room next told_next mid result now there)
    where
      by : (turned : Result (Option Claim) BookFault) → claims.Turn bodies faults task worker was turned mid
          → claims.GoesOn (λ (it : Book K). claims.Turns bodies faults task worker room it result now) turned mid result now
          → ((next : Moment) (told_next : Told) → IsAt next told_next mid
          → claims.Turns bodies faults task worker room mid result now → HasTurned next told_next mid result now)
          → HasTurned m told was result now
      by (Err fault) turn rest others =
          turned_so m told was mid (Err fault) result now (turn_refused m told was mid at fault turn) rest.0 rest.1
      by (Ok (Some it)) (inl lacks) rest others = absurd (no_turn (Some it) Memory lacks.0)
      by (Ok (Some it)) (inr follows) rest others =
          turned_so m told was mid (Ok it) result now
          (record { notes = answers m told was mid at it (choice_of was.records task worker) refl follows; pends = tt })
          rest.0 rest.1
      by (Ok None) (inl lacks) rest others = absurd (no_turn None Memory lacks.0)
      by (Ok None) (inr follows) rest others =
          goes_on m told was mid at (choice_of was.records task worker) refl follows
          (λ e update may own adds. more_turned m told was mid result now e may own adds
          (others (noting m e) (telling told e)
          (at_next m told was mid e at may adds (works_after m e task update at.working) (calls_after m e update)) rest))

  -- ---- a task that is over

  -- a claim of it notes nothing
  module _ (m : Moment) (told : Told) (was : Book K) (whole : StandsWhole told was.records) (agrees : Agrees m told)
      (over : choice_of was.records task worker ≡ choices.Over) where
    stays_idle : (now : Book K) → now ≡ was → HasNoted m told was now
    stays_idle now same = record {
      noted = [];
      of_task = tt;
      entries = (λ i. (same i).journal.entries) ∙ sym (append-nil was.journal.entries);
      may = tt;
      whole = subst (λ (b : Book K). StandsWhole told b.records) (sym same) whole;
      agrees = agrees;
    }

    idle_lacked : (fault : BookFault) (mid : Book K)
        → ◌≡◌ {A = Result (Option Claim) BookFault} (Err fault) (Err Memory) → mid ≡ was
        → HasTurned m told was (Err fault) mid
    unfolding stays_idle
    idle_lacked fault mid is same = record { notes = stays_idle mid same; pends = by fault is }
      where
        by : (fault : BookFault) → ◌≡◌ {A = Result (Option Claim) BookFault} (Err fault) (Err Memory)
            → Pends m [] (Err fault) mid
        by StoreFault is = absurd (let no = is in cc)
        by fault is = tt

    pub idle_turns : (room : ℕ) (result : Result Claim BookFault) (now : Book K)
        → claims.Turns bodies faults task worker room was result now → HasTurned m told was result now
    idle_turns zero result now full =
        turned_so m told was was (Err Full) result now (record { notes = stays_idle was refl; pends = tt }) full.0 full.1
    idle_turns (suc room) result now (turned, mid, turn, rest) = by turned turn rest
      where
        is_over : (answer : Result (Option Claim) BookFault)
            → claims.Follows bodies faults (choice_of was.records task worker) was answer mid
            → (answer ≡ Ok (Some Over)) × (mid ≡ was)
        is_over answer follows =
            subst (λ (choice : Choice). claims.Follows bodies faults choice was answer mid) over follows

        by : (turned : Result (Option Claim) BookFault) → claims.Turn bodies faults task worker was turned mid
            → claims.GoesOn (λ (it : Book K). claims.Turns bodies faults task worker room it result now) turned mid result
            now → HasTurned m told was result now
        by (Err fault) (inl lacks) rest =
            turned_so m told was mid (Err fault) result now (idle_lacked fault mid lacks.0 lacks.1) rest.0 rest.1
        by (Err fault) (inr follows) rest = absurd (let no = (is_over (Err fault) follows).0 in cc)
        by (Ok (Some it)) (inl lacks) rest = absurd (no_turn (Some it) Memory lacks.0)
        by (Ok (Some it)) (inr follows) rest =
            turned_so m told was mid (Ok it) result now
            (record { notes = stays_idle mid (is_over (Ok (Some it)) follows).1; pends = tt }) rest.0 rest.1
        by (Ok None) (inl lacks) rest = absurd (no_turn None Memory lacks.0)
        by (Ok None) (inr follows) rest = absurd (no_end Over (is_over (Ok None) follows).0)
