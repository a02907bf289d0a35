-- Each move keeps what the calls of clean tasks are counted by.
use Rattle.std.proofs.Common.{◌≡◌, ◌≢◌, ◌∙◌, ℕ, ◌≤◌, Bool, true, false, Option, Some, None}
use Rattle.std.proofs.Common.{arith, refl, subst, sym}
use Rattle.std.specs.Prelude.{eqb, if◌then◌else◌, nat_le, nat_lt}
use Rattle.std.proofs.lemmas.Bool.{and_parts, eq-eqb, eqb-true, false≢true, leb-true}
use Rattle.std.proofs.lemmas.Bool.Decides.{eqb_tells}
use Rattle.bosh_base.specs.declared.entry.Begin.{Begin}
use Rattle.bosh_base.specs.declared.entry.End.{End}
use Rattle.bosh_base.specs.declared.entry.Entry.TheVariants as entries
use Rattle.bosh_base.specs.declared.entry.TaskOpen.{TaskOpen}
use Rattle.bosh_base.specs.declared.inst.Inst.{Inst}
use Rattle.bosh_base.specs.declared.moves.Did.{Did}
use Rattle.bosh_base.specs.declared.moves.Move.{Move}
use Rattle.bosh_base.specs.declared.moves.Move.TheVariants as moves
use Rattle.bosh_base.specs.declared.owner.Owner.{Owner}
use Rattle.bosh_base.specs.declared.owner.Owner.TheVariants.{Compile, Disk, Instance}
use Rattle.bosh_history.specs.Items.{is_to_ping}
use Rattle.bosh_history.specs.Known.{Known, want_in}
use Rattle.bosh_history.specs.Moments.{Moment, OpenCall, noting}
use Rattle.bosh_history.specs.Moments as moments
use Rattle.bosh_history.specs.Notes.{EndsCall, MayNote, Outside}
use Rattle.bosh_history.specs.Notes as notes
use Rattle.bosh_history.specs.Permitted.{IsPermitted, Performs, PerformsOpen}
use Rattle.bosh_history.specs.Recovered.{may_follow}
use Rattle.bosh_history.specs.Slots.{is_compiled}
use Rattle.bosh_lawful.specs.Clean.{is_failed}
use Rattle.laws_clean.proofs.CourseLemmas.{for_same, unfailed_course, with_same}
use Rattle.laws_clean.proofs.HistoryLemmas.{worked_before}
use Rattle.laws_clean.specs.Unfailed.{AreUnfailed, UnfailedFacts}
use Rattle.laws_counted.proofs.BeginMoves.{begun_beside, begun_mine}
use Rattle.laws_counted.proofs.DidMoves.{clean_done, kept_others, own_done, same_left, same_made}
use Rattle.laws_counted.proofs.EndMoves.{clean_ended}
use Rattle.laws_counted.proofs.NoteMoves.{clean_plain, low_of}
use Rattle.laws_counted.proofs.OpenMoves.{opened_beside, opened_clean}
use Rattle.laws_counted.proofs.OwnLemmas.{open_own, own_instance}
use Rattle.laws_counted.proofs.StepFrames.{kept_itself, steps_same}
use Rattle.laws_counted.proofs.StillLemmas.{clean_still}
use Rattle.laws_counted.specs.Counted.{AreCounted}
use Rattle.laws_counts.specs.Counts.{CleanFacts}
use Rattle.laws_counts.specs.Courses.{Account, Course, account_opened, call_made, course_later, performed}
use Rattle.laws_counts.specs.Courses.{performed_for}
use Rattle.laws_counts.specs.Courses.{performing, unclean, with_account}
use Rattle.laws_counts.specs.RowSteps.{StepFacts, is_budgeted, may_go_on}
use Rattle.laws_facts.proofs.CurrentLemmas.{worked}
use Rattle.laws_facts.proofs.MadeLemmas.{SameTasks}
use Rattle.laws_facts.proofs.LockLemmas.{note_stays}
use Rattle.laws_facts.proofs.WorkLemmas.{opens_next}
use Rattle.laws_facts.specs.Facts.{Holds}
use Rattle.laws_facts.specs.Owners.{works}
use Rattle.laws_tasks.proofs.TaskFrames.{OpenedAlike, opened_itself}
use Rattle.laws_counted.proofs.CountLemmas.{budgeted_dep}
use Rattle.laws_counted.proofs.CallFrames.{still_same}

module _ (outside : Outside) (m : Moment) (h : Holds m) (accounts : ℕ → Account)
    (unfailed : AreUnfailed (record { moment = m; account = accounts }))
    (were : AreCounted outside.built (record { moment = m; account = accounts })) (t : ℕ) where
  abbrev Counted : Moment → Account → Type 0
  Counted n it = CleanFacts outside.built n t it

  -- nothing that is known changed, and no call
  unmoved : (n : Moment) → Holds n → n.known ≡ m.known → n.calls ≡ m.calls → works m t ≡ true
      → Counted m (accounts t) → Counted n (accounts t)
  unmoved n later known calls working f =
      clean_still outside.built m n t (accounts t) later.known (low_of m t working)
      (record {
        calls = calls;
        slot = λ j. (known j).slot;
        alike = subst (λ (k : Known). OpenedAlike (m.known.task t) (k.task t)) (sym known) (opened_itself
            (m.known.task t));
        count = λ j. ((known j).task t).calls;
        grows = λ key done. (λ j. is_compiled (known j) key) ∙ done;
        tasks = subst (SameTasks m.known) (sym known) (record { tasks = omega arith; dep = λ u low. refl });
      })
      (λ i is.
      steps_same outside.built m n (m.known.task t) (n.known.task t) (accounts t) (accounts t) i
      later.known.numbers.past (still_same m n (Instance i) calls) (λ j. (known j).row i)
      (record { want = λ j. want_in ((known j).task t).goal i; asks = λ j. is_to_ping ((known j).task t) i })
      (λ going. sym (λ j. may_go_on ((known j).task t) i) ∙ going) (kept_itself (accounts t) i)
      (f.steps i (sym (λ j. is_budgeted ((known j).task t) i) ∙ is)))
      f

  -- ---- entries

  opened : (o : TaskOpen) → (may : MayNote outside m (entries.TaskOpen o)) → Holds (noting m (entries.TaskOpen o))
      → (own : Bool) → eqb o.task t ≡ own → works (noting m (entries.TaskOpen o)) t ≡ true
      → (if own then account_opened m o else accounts t).is_clean ≡ true
      → Counted (noting m (entries.TaskOpen o)) (if own then account_opened m o else accounts t)
  opened o may later true own working clean =
      subst (λ (x : ℕ). CleanFacts outside.built (noting m (entries.TaskOpen o)) x (account_opened m o))
      (eqb-true o.task t own)
      (opened_clean outside m h o may later
      ((λ j. works (noting m (entries.TaskOpen o)) (eqb-true o.task t own j)) ∙ working))
  opened o may later false other working clean =
      opened_beside outside m h o may later t below (accounts t)
      (were t (worked_before outside m h t (entries.TaskOpen o) may below working) clean)
    where
      most : t ≤ o.task
      most =
          leb-true t o.task
          (and_parts (nat_le t o.task) _ (and_parts (nat_lt m.stopped t) _ working).1).0

      below : t ≤ m.known.tasks
      below = grind (arith, opens_next m.known o may.0, most, other, eqb_tells o.task t)

  begun : (b : Begin) → may_follow m (entries.Begin b) ≡ true → (may : MayNote outside m (entries.Begin b))
      → Holds (noting m (entries.Begin b)) → works m t ≡ true → (accounts t).is_clean ≡ true
      → Counted (noting m (entries.Begin b)) (with_account b.task (call_made b.owner) accounts t)
  begun b follows may later working clean = by (eqb b.task t) refl
    where
      by : (own : Bool) → eqb b.task t ≡ own
          → Counted (noting m (entries.Begin b)) (if own then call_made b.owner (accounts b.task) else accounts t)
      by true own =
          subst (λ (x : ℕ). Counted (noting m (entries.Begin b)) (call_made b.owner (accounts x)))
          (sym (eqb-true b.task t own))
          (begun_mine outside m h b follows may later t working (accounts t) (were t working clean)
          (eqb-true b.task t own) (unfailed t working clean).deploy)
      by false other =
          begun_beside outside m h b follows may later t working (accounts t) (were t working clean)
          (λ same. false≢true (sym other ∙ eq-eqb b.task t same))

  ended : (e : End) → may_follow m (entries.End e) ≡ true → (may : MayNote outside m (entries.End e))
      → Holds (noting m (entries.End e)) → works m t ≡ true → (accounts t).is_clean ≡ true
      → Counted (noting m (entries.End e)) (accounts t)
  ended e follows may later working clean = by (m.calls e.n) refl may
    where
      of : (that : OpenCall) → m.calls e.n ≡ Some that → (did : Option Did) → that.did ≡ did
          → notes.answers e.answer did → Counted (noting m (entries.End e)) (accounts t)
      of that is (Some d) did told =
          clean_ended outside m h e may follows that is d did told later t working (unfailed t working clean)
          (accounts t)
          (were t working clean)
      of that is None did told = absurd told

      by : (that : Option OpenCall) → m.calls e.n ≡ that → EndsCall e that
          → Counted (noting m (entries.End e)) (accounts t)
      by (Some that) is ends = of that is that.did refl ends
      by None is ends = absurd ends

  -- ---- what the cloud does

  module _ (d : Did) (call : OpenCall) (is : m.calls d.n ≡ Some call) (performs : Performs outside m.effects call d)
      (well : is_failed d.answer ≡ false) (later : Holds (moments.performing m d)) (working : works m t ≡ true)
      (clean : (accounts t).is_clean ≡ true) (after_all : UnfailedFacts (moments.performing m d) t) where
    abbrev n : Moment
    n = moments.performing m d

    abbrev b : Begin
    b = call.begin

    f : Counted m (accounts t)
    f = were t working clean

    -- another task's, or another owner's
    beside : ((i : Inst) → is_budgeted (m.known.task t) i ≡ true → b.owner ≢ Instance i) → Counted n (accounts t)
    beside other =
        clean_done outside m h d call is later t working (accounts t) f (accounts t) refl refl
        (λ i apart. kept_itself (accounts t) i) (λ i budgeted own. absurd (other i budgeted own))

    -- the instance of the call
    of_instance : (i : Inst) → b.owner ≡ Instance i → Counted n (with_account b.task (performed m b d i) accounts t)
    of_instance i own = by (eqb b.task t) refl
      where
        by : (mine : Bool) → eqb b.task t ≡ mine
            → Counted n (if mine then performed m b d i (accounts b.task) else accounts t)
        by true mine =
            subst (λ (x : ℕ). Counted n (performed m b d i (accounts x))) (sym (eqb-true b.task t mine))
            (clean_done outside m h d call is later t working (accounts t) f (performed m b d i (accounts t))
            (same_made m b d i (accounts t)) (same_left m b d i (accounts t))
            (λ other apart.
            kept_others m b d i (accounts t) other (λ same. apart (own ∙ (λ j. Instance (same j)))))
            (λ other budgeted same.
            let one : i ≡ other = let two : Instance i ≡ Instance other = sym own ∙ same in cc in
            subst (λ (x : Inst). StepFacts outside.built n (m.known.task t) (performed m b d x (accounts t)) other)
            (sym one)
            (own_done outside m h d call is later t working (accounts t) f performs well (unfailed t working clean)
            after_all other budgeted same)))
        by false other =
            beside
            (λ x budgeted same.
            false≢true (sym other ∙ eq-eqb b.task t
            (open_own m h.known t (Instance x)
            (own_instance m h.known t working x (budgeted_dep m h.known t working x budgeted)) d.n call is same)))

    of_owner : (owner : Owner) → b.owner ≡ owner → Counted n (performed_for m b d owner accounts t)
    of_owner (Instance i) own = of_instance i own
    of_owner (Compile task s) own = beside (λ i budgeted same. not_instance i (sym own ∙ same))
      where
        not_instance : (i : Inst) → Compile task s ≡ Instance i → ⊥
        not_instance i is = absurd cc
    of_owner (Disk x) own = beside (λ i budgeted same. not_instance i (sym own ∙ same))
      where
        not_instance : (i : Inst) → Disk x ≡ Instance i → ⊥
        not_instance i is = absurd cc

  -- ---- each move

  counted_move : (move : Move) → IsPermitted outside m move
      → Holds (course_later (record { moment = m; account = accounts }) move).moment
      → AreUnfailed (course_later (record { moment = m; account = accounts }) move)
      → works (course_later (record { moment = m; account = accounts }) move).moment t ≡ true
      → ((course_later (record { moment = m; account = accounts }) move).account t).is_clean ≡ true
      → Counted (course_later (record { moment = m; account = accounts }) move).moment
      ((course_later (record { moment = m; account = accounts }) move).account t)
  counted_move (moves.Note (entries.TaskOpen o)) may later after_all working clean =
      opened o may.2 later (eqb o.task t) refl working clean
  counted_move (moves.Note (entries.Begin b)) may later after_all working clean =
      begun b may.1 may.2 later
      (worked m (entries.Begin b) t (note_stays outside m (entries.Begin b) may.2 refl t) working)
      (sym (with_same b.task t (λ it. call_made b.owner it) accounts refl) ∙ clean)
  counted_move (moves.Note (entries.End e)) may later after_all working clean =
      ended e may.1 may.2 later
      (worked m (entries.End e) t (note_stays outside m (entries.End e) may.2 refl t) working) clean
  counted_move (moves.Note (entries.Snapshot s)) may later after_all working clean = absurd may.2
  counted_move (moves.Note e) may later after_all working clean =
      let before : works m t ≡ true = worked m e t (note_stays outside m e may.2 refl t) working in
      clean_plain outside m h t before (accounts t) (were t before clean) e may.1 may.2 refl refl later
  counted_move (moves.Did d) may later after_all working clean = by (m.calls d.n) refl may.1 after_all clean
    where
      of : (call : OpenCall) → m.calls d.n ≡ Some call → Performs outside m.effects call d → (fails : Bool)
          → is_failed d.answer ≡ fails
          → (UnfailedFacts (moments.performing m d) t)
          → ((if fails then unclean accounts else performed_for m call.begin d call.begin.owner accounts) t).is_clean
          ≡ true
          → Counted (moments.performing m d)
          ((if fails then unclean accounts else performed_for m call.begin d call.begin.owner accounts) t)
      of call is performs true failed u clean = absurd (false≢true clean)
      of call is performs false well u clean =
          of_owner d call is performs well later working
          (sym (for_same m call.begin d call.begin.owner accounts t) ∙ clean) u call.begin.owner refl

      by : (call : Option OpenCall) → m.calls d.n ≡ call → PerformsOpen outside m.effects d call
          → AreUnfailed (record { moment = moments.performing m d; account = performing m d call accounts })
          → (performing m d call accounts t).is_clean ≡ true
          → Counted (moments.performing m d) (performing m d call accounts t)
      by (Some call) is performs all clean =
          of call is performs (is_failed d.answer) refl (all t working clean) clean
      by None is performs all clean = absurd performs
  counted_move (moves.Wrote w) may later after_all working clean =
      unmoved (moments.writing m w.inst w.text) later refl refl working (were t working clean)
  counted_move (moves.Said said) may later after_all working clean = were t working clean
  counted_move (moves.Halt cause) may later after_all working clean = absurd (false≢true clean)
  counted_move (moves.Stop s) may later after_all working clean = absurd (false≢true clean)
  counted_move (moves.Lost loss) may later after_all working clean = absurd (false≢true clean)

pub counted_course : (outside : Outside) (c : Course) (move : Move) → IsPermitted outside c.moment move
    → Holds c.moment → Holds (course_later c move).moment → AreUnfailed c → AreCounted outside.built c
    → AreCounted outside.built (course_later c move)
counted_course outside c move may h later unfailed were t working clean =
    counted_move outside c.moment h c.account unfailed were t move may later
    (unfailed_course outside c move may h unfailed) working clean
