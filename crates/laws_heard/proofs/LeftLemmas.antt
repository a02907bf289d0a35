-- Each part of a move keeps what a task hears of what an answer will leave.
use Rattle.std.proofs.Common.{◌≡◌, ◌∙◌, ℕ, Bool, true, false, Option, Some, None, [], ◌∷◌, ◌++◌, refl, sym, subst}
use Rattle.std.proofs.Common.{arith}
use Rattle.std.specs.Prelude.{◌&&◌, ◌==◌, eqb, if◌then◌else◌, is_some, not}
use Rattle.std.proofs.lemmas.Bool.{and_from, and_parts, not-true}
use Rattle.std.proofs.lemmas.Bool.Decides.{eqb_tells}
use Rattle.bosh_base.specs.CallStep.{CallStep}
use Rattle.bosh_base.specs.declared.entry.Begin.{Begin}
use Rattle.bosh_base.specs.declared.entry.Entry.{Entry}
use Rattle.bosh_base.specs.declared.entry.Entry.TheVariants as entries
use Rattle.bosh_base.specs.declared.entry.TaskOpen.{TaskOpen}
use Rattle.bosh_base.specs.declared.inst.Inst.{Inst}
use Rattle.bosh_base.specs.declared.moves.Did.{Did}
use Rattle.bosh_base.specs.declared.owner.Owner.{Owner}
use Rattle.bosh_base.specs.declared.owner.Owner.TheVariants.{Compile, Disk, Instance}
use Rattle.bosh_history.specs.Exact.{asks}
use Rattle.bosh_history.specs.Goals.{is_in}
use Rattle.bosh_history.specs.Learn.{learn}
use Rattle.bosh_history.specs.Moments.{losing, Moment, noting, OpenCall, performed_call, performing}
use Rattle.bosh_history.specs.Notes.{MayNote, Outside}
use Rattle.bosh_history.specs.Permitted.{PerformsOpen}
use Rattle.bosh_history.specs.Recovered.{may_follow}
use Rattle.bosh_history.specs.Tasks.{task_opened}
use Rattle.bosh_lawful.specs.Clean.{is_failed}
use Rattle.bosh_rows.specs.After.{after}
use Rattle.laws_disks_kept.proofs.AnswerNotes.{begun_apart}
use Rattle.laws_facts.proofs.CallLemmas.{none_open}
use Rattle.laws_facts.proofs.WorkLemmas.{opens_next}
use Rattle.laws_facts.specs.CallFacts.{is_answer_heard_of, is_call_heard_of}
use Rattle.laws_facts.specs.Facts.{Holds}
use Rattle.laws_facts.specs.Tasks.{has_to_hear, is_row_heard_of}
use Rattle.laws_heard.proofs.AnswerLemmas.{answer_heard, hears_more, implied}
use Rattle.laws_heard.proofs.KeptLemmas.{lost_more}
use Rattle.laws_heard.proofs.NoteLemmas.{implied_by}
use Rattle.laws_heard.proofs.RowLemmas.{HearsMore, same_heard}
use Rattle.laws_heard.specs.Heard.{AreAnswersHeardOf, HearingFacts, IsKeptInHearing}
use Rattle.laws_items.proofs.ItemFrames.{onward}
use Rattle.laws_items.proofs.ItemLemmas.{LeavesOpen, spares}
use Rattle.laws_items.proofs.MarkLemmas.{Spares}
use Rattle.laws_items.proofs.OnwardLemmas.{Onward}
use Rattle.laws_items.proofs.RowFrames.{row_note}
use Rattle.laws_machines.proofs.FailLemmas.{failed_note}
use Rattle.laws_moves.specs.Parts.{Forgotten, Lost, Noted, Performed, Written}
use Rattle.laws_row_facts.specs.Words.{where_any}

-- ---- what an answer leaves

-- what the task of an open call hears of what it leaves
abbrev Told : Moment → Begin → Did → Owner → Type 0
Told m b d (Instance i) =
    has_to_hear (m.known.task b.task) i ≡ true → is_failed d.answer ≡ false
    → is_row_heard_of m b.task (after b.n b.call d.answer (m.known.row i)) ≡ true
Told m b d owner = Unit {0}

told_of : (m : Moment) (b : Begin) (d : Did) (owner : Owner) → is_answer_heard_of m b d owner ≡ true → Told m b d owner
told_of m b d (Instance i) is =
    λ hears well.
    implied (has_to_hear (m.known.task b.task) i && not (is_failed d.answer)) _ is
    (and_from (has_to_hear (m.known.task b.task) i) _ hears (λ j. not (well j)))
told_of m b d (Compile t s) is = tt
told_of m b d (Disk disk) is = tt

of_told : (m : Moment) (b : Begin) (d : Did) (owner : Owner) → Told m b d owner → is_answer_heard_of m b d owner ≡ true
of_told m b d (Instance i) told =
    implied_by (has_to_hear (m.known.task b.task) i && not (is_failed d.answer)) _
    (λ both. let (hears, well) = and_parts (has_to_hear (m.known.task b.task) i) (not (is_failed d.answer)) both in
    told hears (not-true (is_failed d.answer) well))
of_told m b d (Compile t s) told = refl
of_told m b d (Disk disk) told = refl

-- of each open call that the cloud performed
was_told : (m : Moment) (h : Holds m) (n : ℕ) (call : OpenCall) (d : Did) → m.calls n ≡ Some call → call.did ≡ Some d
    → Told m call.begin d call.begin.owner
was_told m h n call d is told =
    told_of m call.begin d call.begin.owner
    (sym (λ j. where_any (λ d. is_answer_heard_of m call.begin d call.begin.owner) (told j))
    ∙ (h.performed n call is).heard_of)

kept_by : (later : Moment)
    → ((n : ℕ) (call : OpenCall) (d : Did) → later.calls n ≡ Some call → call.did ≡ Some d
    → Told later call.begin d call.begin.owner) → AreAnswersHeardOf later
kept_by later told n call is = by call.did refl
  where
    by : (did : Option Did) → call.did ≡ did → is_call_heard_of later call ≡ true
    by (Some d) is_told =
        (λ j. where_any (λ d. is_answer_heard_of later call.begin d call.begin.owner) (is_told j))
        ∙ of_told later call.begin d call.begin.owner (told n call d is is_told)
    by None is_told = λ j. where_any (λ d. is_answer_heard_of later call.begin d call.begin.owner) (is_told j)

-- the moment hears more
told_more : (m later : Moment) (b : Begin) (d : Did) (owner : Owner) → later.known ≡ m.known
    → HearsMore m later b.task → Told m b d owner → Told later b d owner
told_more m later b d (Instance i) same more told =
    λ hears well.
    (λ j. is_row_heard_of later b.task (after b.n b.call d.answer ((same j).row i)))
    ∙ same_heard m later b.task (after b.n b.call d.answer (m.known.row i))
    (after b.n b.call d.answer (m.known.row i)) more refl refl refl
    (told (sym (λ j. has_to_hear ((same j).task b.task) i) ∙ hears) well)
told_more m later b d (Compile t s) same more told = tt
told_more m later b d (Disk disk) same more told = tt

-- ---- an entry

module _ (outside : Outside) (m : Moment) (h : Holds m) (n : ℕ) (call : OpenCall) (is : m.calls n ≡ Some call) where
  row_same : (e : Entry) → MayNote outside m e → (i : Inst) → call.begin.owner ≡ Instance i → Spares m e (Instance i)
      → (learn m.known e).row i ≡ m.known.row i
  row_same (entries.Begin b) may i own apart =
      begun_apart b b.owner m.known i
      (λ same. none_open m b.owner h.known.numbers.past may.is_idle n call is (own ∙ sym same))
  row_same (entries.Snapshot s) may i own apart = absurd may
  row_same entry may i own apart = row_note outside m entry i may refl apart

  -- a task that opens is another
  apart_opened : (o : TaskOpen) → MayNote outside m (entries.TaskOpen o) → (o.task == call.begin.task) ≡ false
  apart_opened o may =
      grind (arith, opens_next m.known o may.0, (h.known.calls n call is).works, eqb_tells o.task call.begin.task)

  -- its task has to hear only what it had to
  had_to_hear : (e : Entry) → may_follow m e ≡ true → MayNote outside m e → (i : Inst)
      → has_to_hear ((learn m.known e).task call.begin.task) i ≡ true
      → has_to_hear (m.known.task call.begin.task) i ≡ true
  had_to_hear e follows may i hears =
      let on : Onward m.known (learn m.known e) call.begin.task =
      onward outside m h.known e follows may call.begin.task (h.known.calls n call is).works in
      let (kind, rest) = and_parts (asks ((learn m.known e).task call.begin.task).kind i) _ hears in
      let (there, unfailed) =
      and_parts (is_in ((learn m.known e).task call.begin.task).goal i)
      (not (is_some ((learn m.known e).task call.begin.task).failed)) rest in
      and_from (asks (m.known.task call.begin.task).kind i) _ (sym (λ j. asks (on.task.alike.kind j) i) ∙ kind)
      (and_from (is_in (m.known.task call.begin.task).goal i) _
      (sym (λ j. is_in (on.task.alike.goal j) i) ∙ there)
      (λ j. not (unfailed_before e may (not-true (is_some ((learn m.known e).task call.begin.task).failed) unfailed) j)))
    where
      unfailed_before : (e : Entry) → MayNote outside m e
          → is_some ((learn m.known e).task call.begin.task).failed ≡ false
          → is_some (m.known.task call.begin.task).failed ≡ false
      unfailed_before (entries.TaskOpen o) may unfailed =
          sym (λ j. is_some (if apart_opened o may j
          then task_opened m.known o else m.known.task call.begin.task).failed) ∙ unfailed
      unfailed_before (entries.Snapshot s) may unfailed = absurd may
      unfailed_before entry may unfailed = failed_note outside m entry call.begin.task may refl unfailed

  still_told : (d : Did) → call.did ≡ Some d → (e : Entry) → may_follow m e ≡ true → MayNote outside m e
      → LeavesOpen e n → Told (noting m e) call.begin d call.begin.owner
  still_told d told e follows may other =
      by call.begin.owner refl (spares outside m h.known n call is e may other)
    where
      of : (i : Inst) → call.begin.owner ≡ Instance i → Spares m e (Instance i)
          → Told (noting m e) call.begin d (Instance i)
      of i own apart hears well =
          (λ j. is_row_heard_of m call.begin.task
          (after call.begin.n call.begin.call d.answer (row_same e may i own apart j)))
          ∙ subst (Told m call.begin d) own (was_told m h n call d is told) (had_to_hear e follows may i hears) well

      by : (owner : Owner) → call.begin.owner ≡ owner → Spares m e call.begin.owner
          → Told (noting m e) call.begin d call.begin.owner
      by (Instance i) own apart =
          subst (Told (noting m e) call.begin d) (sym own) (of i own (subst (Spares m e) own apart))
      by (Compile t s) own apart = subst (Told (noting m e) call.begin d) (sym own) tt
      by (Disk disk) own apart = subst (Told (noting m e) call.begin d) (sym own) tt

told_noted : (outside : Outside) (m : Moment) (e : Entry) → may_follow m e ≡ true → MayNote outside m e → Holds m
    → (n : ℕ) (call : OpenCall) (d : Did) → (noting m e).calls n ≡ Some call → call.did ≡ Some d
    → Told (noting m e) call.begin d call.begin.owner
told_noted outside m (entries.Begin b) follows may h n call d is told = by (eqb b.n n) is
  where
    by : (same : Bool) → (if same then Some (record { begin = b; did = None }) else m.calls n) ≡ Some call
        → Told (noting m (entries.Begin b)) call.begin d call.begin.owner
    by true now =
        let opened : record { begin = b; did = None } ≡ call = cc in
        let none : None ≡ Some d = (λ j. (opened j).did) ∙ told in absurd cc
    by false now = still_told outside m h n call now d told (entries.Begin b) follows may tt
told_noted outside m (entries.End e) follows may h n call d is told = by (eqb e.n n) refl is
  where
    by : (same : Bool) → eqb e.n n ≡ same → (if same then None else m.calls n) ≡ Some call
        → Told (noting m (entries.End e)) call.begin d call.begin.owner
    by true same now = absurd cc
    by false other now = still_told outside m h n call now d told (entries.End e) follows may other
told_noted outside m (entries.Snapshot s) follows may h n call d is told = absurd may
told_noted outside m entry follows may h n call d is told =
    still_told outside m h n call is d told entry follows may tt

-- ---- what the cloud does of a call

module _ (outside : Outside) (m : Moment) (h : Holds m) (f : HearingFacts m) (d : Did) (call : OpenCall)
    (is : m.calls d.n ≡ Some call) (step : CallStep outside.built m.effects call.begin.call d.effect d.answer) where
  own_told : (owner : Owner) → call.begin.owner ≡ owner → Told (performing m d) call.begin d owner
  own_told (Instance i) own = λ hears well. answer_heard outside m h f d call is step i own hears well
  own_told (Compile t s) own = tt
  own_told (Disk disk) own = tt

  told_performed : (n : ℕ) (that : OpenCall) (told : Did) → (performing m d).calls n ≡ Some that
      → that.did ≡ Some told → Told (performing m d) that.begin told that.begin.owner
  told_performed n that told now is_told = by (eqb d.n n) now
    where
      performed : Some (record call { did = Some d }) ≡ Some that → record call { did = Some d } ≡ that
      performed now = cc

      by : (same : Bool) → (if same then performed_call d (m.calls d.n) else m.calls n) ≡ Some that
          → Told (performing m d) that.begin told that.begin.owner
      by true now =
          let it : record call { did = Some d } ≡ that = performed (sym (λ j. performed_call d (is j)) ∙ now) in
          let both : Some d ≡ Some told = (λ j. (it j).did) ∙ is_told in
          let one : d ≡ told = cc in
          subst (λ (told : Did). Told (performing m d) that.begin told that.begin.owner) one
          (subst (λ (it : OpenCall). Told (performing m d) it.begin d it.begin.owner) it
          (own_told call.begin.owner refl))
      by false now =
          told_more m (performing m d) that.begin told that.begin.owner refl (hears_more m d that.begin.task)
          (was_told m h n that told now is_told)

-- ---- parts

pub answers_kept : IsKeptInHearing AreAnswersHeardOf
answers_kept outside m (Performed d) may h f = kept_by (performing m d) (by (m.calls d.n) refl may)
  where
    by : (that : Option OpenCall) → m.calls d.n ≡ that → PerformsOpen outside m.effects d that
        → (n : ℕ) (call : OpenCall) (told : Did) → (performing m d).calls n ≡ Some call → call.did ≡ Some told
        → Told (performing m d) call.begin told call.begin.owner
    by (Some call) is performs = told_performed outside m h f d call is performs.step
    by None is performs = absurd performs
answers_kept outside m (Written w) may h f =
    kept_by (record m { effects = m.effects ++ entries.Write w ∷ [] })
    (λ n call d is told.
    told_more m (record m { effects = m.effects ++ entries.Write w ∷ [] }) call.begin d call.begin.owner refl
    (λ v was. (was, refl)) (was_told m h n call d is told))
answers_kept outside m (Lost loss) may h f =
    kept_by (losing m loss)
    (λ n call d is told.
    told_more m (losing m loss) call.begin d call.begin.owner refl (lost_more m loss call.begin.task)
    (was_told m h n call d is told))
answers_kept outside m (Noted e) may h f = kept_by (noting m e) (told_noted outside m e may.0 may.1 h)
answers_kept outside m Forgotten may h f = λ n call is. absurd cc
