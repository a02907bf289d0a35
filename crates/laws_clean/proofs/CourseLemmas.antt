-- Each move keeps what holds of the tasks that are clean by what is kept of them.
use Rattle.std.proofs.Common.{◌≡◌, ◌∙◌, ℕ, ◌≤◌, Bool, true, false, Option, Some, None}
use Rattle.std.proofs.Common.{arith, refl, subst, sym}
use Rattle.std.specs.Prelude.{eqb, if◌then◌else◌, nat_le, nat_lt}
use Rattle.std.proofs.lemmas.Bool.{and_parts, eqb-true, false≢true, leb-true}
use Rattle.std.proofs.lemmas.Bool.Decides.{eqb_tells}
use Rattle.bosh_base.specs.declared.entry.Begin.{Begin}
use Rattle.bosh_base.specs.declared.entry.Entry.{Entry}
use Rattle.bosh_base.specs.declared.entry.Entry.TheVariants as entries
use Rattle.bosh_base.specs.declared.entry.TaskOpen.{TaskOpen}
use Rattle.bosh_base.specs.declared.inst.Inst.{Inst}
use Rattle.bosh_base.specs.declared.moves.Did.{Did}
use Rattle.bosh_base.specs.declared.moves.Move.{Move}
use Rattle.bosh_base.specs.declared.moves.Move.TheVariants as moves
use Rattle.bosh_base.specs.declared.owner.Owner.{Owner}
use Rattle.bosh_base.specs.declared.owner.Owner.TheVariants.{Compile, Disk, Instance}
use Rattle.bosh_history.specs.Moments.{Moment, OpenCall, noting}
use Rattle.bosh_history.specs.Moments as moments
use Rattle.bosh_history.specs.Notes.{MayNote, Outside}
use Rattle.bosh_history.specs.Openings.{deploys}
use Rattle.bosh_history.specs.Permitted.{IsPermitted, PerformsOpen}
use Rattle.bosh_lawful.specs.Clean.{are_found_out, is_failed}
use Rattle.laws_clean.proofs.HistoryLemmas.{unfailed_noted, worked_before}
use Rattle.laws_clean.proofs.OpenLemmas.{opened_other, opened_own}
use Rattle.laws_clean.proofs.PerformedLemmas.{unfailed_performed}
use Rattle.laws_clean.proofs.WriteLemmas.{unfailed_writing}
use Rattle.laws_clean.specs.Unfailed.{AreUnfailed, UnfailedFacts}
use Rattle.laws_facts.proofs.CurrentLemmas.{worked}
use Rattle.laws_facts.proofs.LockLemmas.{note_stays}
use Rattle.laws_facts.proofs.WorkLemmas.{opens_next}
use Rattle.laws_counts.specs.Courses.{Account, Course, account_opened, call_made, course_later, performed}
use Rattle.laws_counts.specs.Courses.{performed_for}
use Rattle.laws_counts.specs.Courses.{performing, unclean, with_account}
use Rattle.laws_facts.specs.Facts.{Holds}
use Rattle.laws_facts.specs.Owners.{works}
use Rattle.laws_row_facts.specs.Calls.{is_ping}

-- a change of one account that leaves whether it is clean
pub with_same : (n t : ℕ) (change : Account → Account) (accounts : ℕ → Account)
    → (change (accounts n)).is_clean ≡ (accounts n).is_clean
    → (with_account n change accounts t).is_clean ≡ (accounts t).is_clean
with_same n t change accounts same = by (eqb n t) refl
  where
    by : (own : Bool) → eqb n t ≡ own
        → (if own then change (accounts n) else accounts t).is_clean ≡ (accounts t).is_clean
    by true own = same ∙ (λ j. (accounts (eqb-true n t own j)).is_clean)
    by false other = refl

performed_same : (m : Moment) (b : Begin) (d : Did) (i : Inst) (it : Account)
    → (performed m b d i it).is_clean ≡ it.is_clean
performed_same m b d i it = by (is_ping b.call) refl
  where
    by : (ping : Bool) → is_ping b.call ≡ ping → (performed m b d i it).is_clean ≡ it.is_clean
    by true is = grind (arith, is)
    by false is = grind (arith, is)

pub for_same : (m : Moment) (b : Begin) (d : Did) (owner : Owner) (accounts : ℕ → Account) (t : ℕ)
    → (performed_for m b d owner accounts t).is_clean ≡ (accounts t).is_clean
for_same m b d (Instance i) accounts t =
    with_same b.task t (performed m b d i) accounts (performed_same m b d i (accounts b.task))
for_same m b d (Compile task s) accounts t = refl
for_same m b d (Disk disk) accounts t = refl

module _ (outside : Outside) (m : Moment) (h : Holds m) (accounts : ℕ → Account)
    (were : AreUnfailed (record { moment = m; account = accounts })) (t : ℕ) where
  low : works m t ≡ true → t ≤ m.known.tasks
  low working =
      leb-true t m.known.tasks
      (and_parts (nat_le t m.known.tasks) _ (and_parts (nat_lt m.stopped t) _ working).1).0

  opened : (o : TaskOpen) → MayNote outside m (entries.TaskOpen o) → (own : Bool) → eqb o.task t ≡ own
      → works (noting m (entries.TaskOpen o)) t ≡ true
      → (if own then account_opened m o else accounts t).is_clean ≡ true
      → UnfailedFacts (noting m (entries.TaskOpen o)) t
  opened o may true own working clean =
      let (deploy, found_out) = and_parts (deploys o.kind) (are_found_out m o) clean in
      subst (λ (t : ℕ). UnfailedFacts (noting m (entries.TaskOpen o)) t) (eqb-true o.task t own)
      (opened_own outside m h o may deploy found_out)
  opened o may false other working clean =
      opened_other outside m h o may t below
      (were t (worked_before outside m h t (entries.TaskOpen o) may below working) clean)
    where
      most : t ≤ o.task
      most =
          leb-true t o.task
          (and_parts (nat_le t o.task) _ (and_parts (nat_lt m.stopped t) _ working).1).0

      below : t ≤ m.known.tasks
      below = grind (arith, opens_next m.known o may.0, most, other, eqb_tells o.task t)

  other_noted : (e : Entry) → MayNote outside m e → works m t ≡ true → (accounts t).is_clean ≡ true
      → UnfailedFacts (noting m e) t
  other_noted e may working clean =
      unfailed_noted outside m h t e may (low working) working (were t working clean)

  unfailed_move : (move : Move) → IsPermitted outside m move
      → works (course_later (record { moment = m; account = accounts }) move).moment t ≡ true
      → ((course_later (record { moment = m; account = accounts }) move).account t).is_clean ≡ true
      → UnfailedFacts (course_later (record { moment = m; account = accounts }) move).moment t
  unfailed_move (moves.Note (entries.TaskOpen o)) may working clean = opened o may.2 (eqb o.task t) refl working clean
  unfailed_move (moves.Note (entries.Begin b)) may working clean =
      other_noted (entries.Begin b) may.2
      (worked m (entries.Begin b) t (note_stays outside m (entries.Begin b) may.2 refl t) working)
      (sym (with_same b.task t (λ it. call_made b.owner it) accounts refl) ∙ clean)
  unfailed_move (moves.Note (entries.Snapshot s)) may working clean = absurd may.2
  unfailed_move (moves.Note e) may working clean =
      other_noted e may.2 (worked m e t (note_stays outside m e may.2 refl t) working) clean
  unfailed_move (moves.Did d) may working clean = by (m.calls d.n) refl may.1 clean
    where
      of : (call : OpenCall) (fails : Bool) → is_failed d.answer ≡ fails
          → ((if fails then unclean accounts else performed_for m call.begin d call.begin.owner accounts) t).is_clean
          ≡ true
          → UnfailedFacts (moments.performing m d) t
      of call true failed clean = absurd (false≢true clean)
      of call false well clean =
          unfailed_performed outside m d h may.1 well t
          (were t working (sym (for_same m call.begin d call.begin.owner accounts t) ∙ clean))

      by : (call : Option OpenCall) → m.calls d.n ≡ call → PerformsOpen outside m.effects d call
          → (performing m d call accounts t).is_clean ≡ true → UnfailedFacts (moments.performing m d) t
      by (Some call) is performs clean = of call (is_failed d.answer) refl clean
      by None is performs clean = absurd performs
  unfailed_move (moves.Wrote w) may working clean =
      unfailed_writing m w.inst w.text t (were t working clean)
  unfailed_move (moves.Said said) may working clean = were t working clean
  unfailed_move (moves.Halt cause) may working clean = absurd (false≢true clean)
  unfailed_move (moves.Stop s) may working clean = absurd (false≢true clean)
  unfailed_move (moves.Lost loss) may working clean = absurd (false≢true clean)

pub unfailed_course : (outside : Outside) (c : Course) (move : Move) → IsPermitted outside c.moment move
    → Holds c.moment → AreUnfailed c → AreUnfailed (course_later c move)
unfailed_course outside c move may h were t working clean =
    unfailed_move outside c.moment h c.account were t move may working clean
