-- Each part of a move leaves a disk that a task lists orphaned, or created and not there any more.
use Rattle.std.proofs.Common.{◌≡◌, ◌∙◌, ℕ, ◌+◌, ◌≤◌, Bool, true, false, Option, Some, None, List, [], ◌∷◌, ◌++◌, refl}
use Rattle.std.proofs.Common.{sym, subst, inl, inr, arith}
use Rattle.std.specs.Prelude.{◌⊎◌, ◌≢◌, ◌&&◌, ◌||◌, ◌==◌, eqb, nat_le, nat_lt, not, if◌then◌else◌, is_some}
use Rattle.std.proofs.lemmas.Bool.{and_from, and_parts, eq-eqb, eqb-true, false≢true, leb-true, not-true, or_cases}
use Rattle.std.proofs.lemmas.Bool.{or_left, or_right}
use Rattle.std.proofs.lemmas.Bool.Decides.{eqb_tells, nat_tests}
use Rattle.bosh_base.specs.Cloud.{disks_created, is_disk_there}
use Rattle.bosh_base.specs.declared.answer.Answer.{Answer}
use Rattle.bosh_base.specs.declared.entry.Entry.{Entry}
use Rattle.bosh_base.specs.declared.entry.Entry.TheVariants as entries
use Rattle.bosh_base.specs.declared.entry.TaskOpen.{TaskOpen}
use Rattle.bosh_base.specs.declared.goal.Goal.{Goal}
use Rattle.bosh_base.specs.declared.moves.Did.{Did}
use Rattle.bosh_base.specs.declared.owner.Owner.TheVariants.{Disk}
use Rattle.bosh_base.specs.declared.task.TaskKind.{TaskKind}
use Rattle.bosh_base.specs.declared.task.TaskKind.TheVariants as kinds
use Rattle.bosh_history.specs.Calls.{call_ended, shows_gone}
use Rattle.bosh_history.specs.Known.{Known}
use Rattle.bosh_history.specs.Learn.{learn}
use Rattle.bosh_history.specs.Moments.{Moment, noting, OpenCall, performing}
use Rattle.bosh_history.specs.Notes.{EndsCall, MayNote, Outside}
use Rattle.bosh_history.specs.Notes as notes
use Rattle.bosh_history.specs.Openings.{MayOpen, OpensBy, OpensFor}
use Rattle.bosh_history.specs.Permitted.{PerformsOpen}
use Rattle.bosh_history.specs.Tasks.{task_opened}
use Rattle.bosh_history.specs.Words.{is_among}
use Rattle.bosh_rows.specs.Same.{same_owner}
use Rattle.bosh_rows.specs.Standing.{same_truth}
use Rattle.laws_cloud.proofs.DoneLemmas.{done_now, made_by}
use Rattle.laws_disks_kept.proofs.GrowthLemmas.{numbered}
use Rattle.laws_disks_kept.proofs.OnceAnswers.{answers_keep, KeepsOwn}
use Rattle.laws_disks_kept.proofs.OnceNotes.{ended_orphans}
use Rattle.laws_disks_kept.proofs.OrphanAnswers.{orphan_made}
use Rattle.laws_effects.proofs.CreationLemmas.{disks-grown}
use Rattle.laws_effects.proofs.DiskLemmas.{gone_disk}
use Rattle.laws_effects.specs.Orderly.{is_created}
use Rattle.laws_facts.proofs.CurrentLemmas.{worked}
use Rattle.laws_facts.proofs.LockLemmas.{is_opening, note_stays}
use Rattle.laws_facts.proofs.WorkLemmas.{opens_next}
use Rattle.laws_facts.specs.Facts.{Holds}
use Rattle.laws_facts.specs.Owners.{works}
use Rattle.laws_facts.specs.Tasks.{is_disk_to_delete}
use Rattle.laws_items.proofs.MarkLemmas.{Spares}
use Rattle.laws_items.proofs.OrphanFrames.{orphan_stays}
use Rattle.laws_items.proofs.OwnerLemmas.{same_owner_is}
use Rattle.laws_moves.specs.Parts.{Forgotten, IsKeptByParts, Lost, Noted, Performed, Written}
use Rattle.laws_outcomes_kept.proofs.StandLemmas.{none_works}
use Rattle.laws_outcomes_kept.specs.Outcomes.{AreDisksToDelete}
use Rattle.laws_row_facts.specs.Words.{implies}
use Rattle.laws_rows.specs.Rightful.{done_with}
use Rattle.laws_tasks.proofs.TaskFrames.{opened_stays}

-- ---- the fact in parts

-- the disk is orphaned, or was created and is gone
abbrev Gone : List Entry → Known → ℕ → Bool
Gone xs k d = is_some (k.orphan d) || (is_created (disks_created xs) d && not (is_disk_there xs d))

implied : (a b : Bool) → implies a b ≡ true → a ≡ true → b ≡ true
implied true b is at = is
implied false b is at = absurd (false≢true at)

implied_by : (a b : Bool) → (a ≡ true → b ≡ true) → implies a b ≡ true
implied_by true b is = is refl
implied_by false b is = refl

to_delete : (m : Moment) (h : Holds m) (t d : ℕ) → works m t ≡ true → is_among eqb d (m.known.task t).disks ≡ true
    → Gone m.effects m.known d ≡ true
to_delete m h t d working listed =
    implied (is_among eqb d (m.known.task t).disks) (Gone m.effects m.known d) ((h.outcomes t working).to_delete d) listed

-- ---- entries

-- its owner is another's, or the answer shows that it is gone
told_gone : (m : Moment) (h : Holds m) (n : ℕ) (call : OpenCall) (d : ℕ) → m.calls n ≡ Some call
    → call.begin.owner ≡ Disk d → (answer : Answer) → (did : Option Did) → call.did ≡ did
    → notes.answers answer did → is_some (m.known.orphan d) ≡ true
    → (is_some ((call_ended answer (Some call.begin) m.known).orphan d)
    || (is_created (disks_created m.effects) d && not (is_disk_there m.effects d))) ≡ true
told_gone m h n call d is own answer None told says orphan = absurd says
told_gone m h n call d is own answer (Some did) told says orphan =
    (λ j. ended_orphans m.known call.begin answer d j
    || (is_created (disks_created m.effects) d && not (is_disk_there m.effects d)))
    ∙ ((λ j. (orphan j && not (same_owner (own j) (Disk d) && shows_gone call.begin.call answer))
    || (is_created (disks_created m.effects) d && not (is_disk_there m.effects d)))
    ∙ by (shows_gone call.begin.call answer) refl)
  where
    gone : shows_gone call.begin.call answer ≡ true → is_disk_there m.effects d ≡ false
    gone shows =
        subst (KeepsOwn m.effects m.known call.begin did.answer) own (answers_keep m h n call did is told)
        ((λ j. shows_gone call.begin.call (says j)) ∙ shows)

    created : is_created (disks_created m.effects) d ≡ true
    created =
        let (e, made, low) = orphan_made m h n call d is own in
        let high : 1 ≤ d = numbered m.effects h.cloud.orderly d e made in grind (arith, nat_tests, low, high)

    by : (shows : Bool) → shows_gone call.begin.call answer ≡ shows
        → ((true && not ((d == d) && shows_gone call.begin.call answer))
        || (is_created (disks_created m.effects) d && not (is_disk_there m.effects d))) ≡ true
    by true shows =
        or_right (true && not ((d == d) && shows_gone call.begin.call answer)) _
        (and_from (is_created (disks_created m.effects) d) _ created (λ j. not (gone shows j)))
    by false shows =
        or_left (true && not ((d == d) && shows_gone call.begin.call answer)) _
        ((λ j. not ((d == d) && shows j)) ∙ none (d == d))
      where
        none : (b : Bool) → not (b && false) ≡ true
        none true = refl
        none false = refl

module _ (outside : Outside) (m : Moment) (h : Holds m) (d : ℕ) where
  -- an entry leaves an orphaned disk orphaned, or it is gone
  orphan_noted : (e : Entry) → MayNote outside m e → is_some (m.known.orphan d) ≡ true
      → Gone m.effects (learn m.known e) d ≡ true
  orphan_noted (entries.End e) may orphan = by (m.calls e.n) refl may
    where
      spared : (that : OpenCall) → m.calls e.n ≡ Some that → that.begin.owner ≢ Disk d → Spares m (entries.End e) (Disk d)
      spared that is apart b begun own =
          let both : Some that.begin ≡ Some b = sym (h.known.calls e.n that is).begun ∙ begun in
          let same : that.begin ≡ b = cc in apart ((λ j. (same j).owner) ∙ own)

      of : (that : OpenCall) → m.calls e.n ≡ Some that → notes.answers e.answer that.did → (own : Bool)
          → same_owner that.begin.owner (Disk d) ≡ own → Gone m.effects (learn m.known (entries.End e)) d ≡ true
      of that is says true own =
          (λ j. is_some ((call_ended e.answer ((h.known.calls e.n that is).begun j) m.known).orphan d)
          || (is_created (disks_created m.effects) d && not (is_disk_there m.effects d)))
          ∙ told_gone m h e.n that d is (same_owner_is that.begin.owner (Disk d) own) e.answer that.did refl says orphan
      of that is says false other =
          or_left (is_some ((learn m.known (entries.End e)).orphan d)) _
          (orphan_stays outside m (entries.End e) d may
          (spared that is (λ same. false≢true (sym other
          ∙ ((λ j. same_owner (same j) (Disk d)) ∙ eq-eqb d d refl)))) orphan)

      by : (that : Option OpenCall) → m.calls e.n ≡ that → EndsCall e that
          → Gone m.effects (learn m.known (entries.End e)) d ≡ true
      by (Some that) is ends = of that is ends (same_owner that.begin.owner (Disk d)) refl
      by None is ends = absurd ends
  orphan_noted (entries.UpdDone u) may orphan =
      or_left (is_some ((learn m.known (entries.UpdDone u)).orphan d)) _
      (orphan_stays outside m (entries.UpdDone u) d may (λ same. cc) orphan)
  orphan_noted (entries.Gone u) may orphan =
      or_left (is_some ((learn m.known (entries.Gone u)).orphan d)) _
      (orphan_stays outside m (entries.Gone u) d may (λ same. cc) orphan)
  orphan_noted (entries.Snapshot s) may orphan = absurd may
  orphan_noted entry may orphan =
      or_left (is_some ((learn m.known entry).orphan d)) _ (orphan_stays outside m entry d may tt orphan)

  gone_noted : (e : Entry) → MayNote outside m e → Gone m.effects m.known d ≡ true
      → Gone m.effects (learn m.known e) d ≡ true
  gone_noted e may is =
      by (or_cases (is_some (m.known.orphan d)) (is_created (disks_created m.effects) d
      && not (is_disk_there m.effects d)) is)
    where
      by : (is_some (m.known.orphan d) ≡ true)
          ⊎ ((is_created (disks_created m.effects) d && not (is_disk_there m.effects d)) ≡ true)
          → Gone m.effects (learn m.known e) d ≡ true
      by (inl orphan) = orphan_noted e may orphan
      by (inr gone) = or_right (is_some ((learn m.known e).orphan d)) _ gone

  -- of a task that worked before
  delete_noted : (e : Entry) → MayNote outside m e → is_opening e ≡ false → (t : ℕ) → works (noting m e) t ≡ true
      → is_disk_to_delete (noting m e) ((learn m.known e).task t) d ≡ true
  delete_noted e may none t working =
      implied_by (is_among eqb d ((learn m.known e).task t).disks) (Gone m.effects (learn m.known e) d)
      (λ listed. gone_noted e may
      (to_delete m h t d (worked m e t (note_stays outside m e may none t) working)
      (sym (λ j. is_among eqb d ((opened_stays outside m e t may none).disks j)) ∙ listed)))

-- a task that opens lists orphaned disks alone
opened_disks : (k : Known) (o : TaskOpen) (d : ℕ) → MayOpen k o → is_among eqb d o.disks ≡ true
    → is_among eqb d k.orphans ≡ true
opened_disks k o d may listed = by o.kind may
  where
    none : o.disks ≡ [] → is_among eqb d k.orphans ≡ true
    none empty = absurd (false≢true (sym (λ j. is_among eqb d (empty j)) ∙ listed))

    of : OpensFor k o o.goal → is_among eqb d k.orphans ≡ true
    of = of_goal o.goal
      where
        of_goal : (goal : Option Goal) → OpensFor k o goal → is_among eqb d k.orphans ≡ true
        of_goal (Some goal) may = none may.no_disks
        of_goal None may = absurd may

    by : (kind : TaskKind) → OpensBy k o kind → is_among eqb d k.orphans ≡ true
    by kinds.CleanUp may = sym (λ j. is_among eqb d (may.1 j)) ∙ listed
    by (kinds.DeleteDisk disk) may =
        (λ j. is_among eqb (eqb-true d disk (one (d == disk)
        (sym (λ l. is_among eqb d (may.1 l)) ∙ listed)) j) k.orphans)
        ∙ may.2
      where
        one : (b : Bool) → (b || false) ≡ true → b ≡ true
        one true is = refl
        one false is = is
    by kind may = of may

orphaned : (m : Moment) (h : Holds m) (d : ℕ) → is_among eqb d m.known.orphans ≡ true
    → is_some (m.known.orphan d) ≡ true
orphaned m h d listed =
    of (is_some (m.known.orphan d))
    (sym (λ j. same_truth (listed j) (is_some (m.known.orphan d)))
    ∙ (and_parts (same_truth (is_among eqb d m.known.orphans) (is_some (m.known.orphan d))) _
    (h.known.lists.orphan_listed d)).0)
  where
    of : (b : Bool) → same_truth true b ≡ true → b ≡ true
    of true is = refl
    of false is = is

delete_opened : (m : Moment) (h : Holds m) (o : TaskOpen) → MayOpen m.known o → (t d : ℕ)
    → works (noting m (entries.TaskOpen o)) t ≡ true
    → is_disk_to_delete (noting m (entries.TaskOpen o)) ((learn m.known (entries.TaskOpen o)).task t) d ≡ true
delete_opened m h o may t d working = by (eqb_tells o.task t)
  where
    number : o.task ≡ m.known.tasks + 1
    number = opens_next m.known o may

    by : ((o.task == t) ≡ true) × (o.task ≡ t) ⊎ ((o.task == t) ≡ false) × (o.task ≢ t)
        → is_disk_to_delete (noting m (entries.TaskOpen o)) ((learn m.known (entries.TaskOpen o)).task t) d ≡ true
    by (inl same) =
        (λ j. is_disk_to_delete (noting m (entries.TaskOpen o))
        (if same.0 j then task_opened m.known o else m.known.task t) d)
        ∙ implied_by (is_among eqb d o.disks) (Gone m.effects m.known d)
        (λ listed. or_left (is_some (m.known.orphan d)) _ (orphaned m h d (opened_disks m.known o d may listed)))
    by (inr apart) =
        (λ j. is_disk_to_delete (noting m (entries.TaskOpen o))
        (if apart.0 j then task_opened m.known o else m.known.task t) d)
        ∙ (h.outcomes t (grind (arith, apart, working, number))).to_delete d

disks_noted : (outside : Outside) (m : Moment) (e : Entry) → MayNote outside m e → Holds m → AreDisksToDelete (noting m e)
disks_noted outside m (entries.TaskOpen o) may h t d working = delete_opened m h o may.0 t d working
disks_noted outside m (entries.Snapshot s) may h t d working = absurd may
disks_noted outside m entry may h t d working = delete_noted outside m h d entry may refl t working

-- ---- what the cloud does

-- what is gone stays gone
gone_later : (m : Moment) (x : Entry) (d : ℕ) → Gone m.effects m.known d ≡ true
    → Gone (m.effects ++ x ∷ []) m.known d ≡ true
gone_later m x d is =
    by (or_cases (is_some (m.known.orphan d)) (is_created (disks_created m.effects) d
    && not (is_disk_there m.effects d)) is)
  where
    by : (is_some (m.known.orphan d) ≡ true)
        ⊎ ((is_created (disks_created m.effects) d && not (is_disk_there m.effects d)) ≡ true)
        → Gone (m.effects ++ x ∷ []) m.known d ≡ true
    by (inl orphan) = or_left (is_some (m.known.orphan d)) _ orphan
    by (inr gone) =
        let (created, off) = and_parts (is_created (disks_created m.effects) d) (not (is_disk_there m.effects d)) gone in
        let (high, low) = and_parts (nat_lt 0 d) (nat_le d (disks_created m.effects)) created in
        or_right (is_some (m.known.orphan d)) _
        (and_from (is_created (disks_created (m.effects ++ x ∷ [])) d) _
        ((λ j. is_created (disks-grown m.effects x j) d) ∙ grind (arith, nat_tests, high, low))
        (λ j. not (gone_disk m.effects x d (leb-true d (disks_created m.effects) low)
        (not-true (is_disk_there m.effects d) off) j)))

delete_later : (m : Moment) (h : Holds m) (ys : List Entry)
    → ((d : ℕ) → Gone m.effects m.known d ≡ true → Gone ys m.known d ≡ true) → (t d : ℕ) → works m t ≡ true
    → implies (is_among eqb d (m.known.task t).disks) (Gone ys m.known d) ≡ true
delete_later m h ys later t d working =
    implied_by (is_among eqb d (m.known.task t).disks) (Gone ys m.known d)
    (λ listed. later d (to_delete m h t d working listed))

pub disks_kept : IsKeptByParts AreDisksToDelete
disks_kept outside m (Performed did) may h = by (m.calls did.n) refl may
  where
    by : (that : Option OpenCall) → m.calls did.n ≡ that → PerformsOpen outside m.effects did that
        → AreDisksToDelete (performing m did)
    by (Some call) is performs = delete_later m h (performing m did).effects
        (λ d gone. (λ j. Gone (done_now m did call is j) m.known d) ∙ of d gone did.effect)
      where
        of : (d : ℕ) → Gone m.effects m.known d ≡ true → (has : Bool)
            → Gone (done_with has m.effects (made_by m.known call.begin)) m.known d ≡ true
        of d gone true = gone_later m (entries.Effect (made_by m.known call.begin)) d gone
        of d gone false = gone
    by None is performs = absurd performs
disks_kept outside m (Written w) may h =
    delete_later m h (m.effects ++ entries.Write w ∷ []) (gone_later m (entries.Write w))
disks_kept outside m (Lost loss) may h =
    delete_later m h (m.effects ++ entries.Lost loss ∷ []) (gone_later m (entries.Lost loss))
disks_kept outside m (Noted e) may h = disks_noted outside m e may.1 h
disks_kept outside m Forgotten may h = λ t d working. absurd (false≢true (sym (none_works m t) ∙ working))
