-- Each part of a move leaves the disks of a migration that was done with the same contents, until it is answered.
use Rattle.std.proofs.Common.{◌≡◌, ◌∙◌, ℕ, Bool, true, false, Option, Some, None, List, [], ◌∷◌, ◌++◌, refl, sym}
use Rattle.std.proofs.Common.{subst, inl, inr}
use Rattle.std.specs.Prelude.{◌⊎◌, ◌≢◌, ◌||◌, ◌&&◌, ◌==◌, eqb, fold, if◌then◌else◌, nat_eq, not}
use Rattle.std.specs.Cmp.Lexicographic.{pointwise}
use Rattle.std.proofs.lemmas.Bool.{and_from, eq-eqb, false≢true, ne_eqb}
use Rattle.bosh_base.specs.CallStep.{CallStep, has_agent, is_gone, is_mounted_on, unless_gone}
use Rattle.bosh_base.specs.Cloud.{contents_after, contents_after_call, contents_of}
use Rattle.bosh_base.specs.declared.answer.Answer.TheVariants as answers
use Rattle.bosh_base.specs.declared.call.Call.{Call}
use Rattle.bosh_base.specs.declared.call.Call.TheVariants as calls
use Rattle.bosh_base.specs.declared.digest.Digest.{Digest}
use Rattle.bosh_base.specs.declared.entry.Effect.{Effect}
use Rattle.bosh_base.specs.declared.entry.Entry.{Entry}
use Rattle.bosh_base.specs.declared.entry.Entry.TheVariants as entries
use Rattle.bosh_base.specs.declared.entry.Write.{Write}
use Rattle.bosh_base.specs.declared.key.KeyWork.{KeyWork}
use Rattle.bosh_base.specs.declared.moves.Did.{Did}
use Rattle.bosh_base.specs.declared.owner.Owner.TheVariants.{Instance}
use Rattle.bosh_history.specs.DiskContents.{same_contents}
use Rattle.bosh_history.specs.Moments.{losing, Moment, noting, OpenCall, performed_call, performing}
use Rattle.bosh_history.specs.Notes.{MayNote, Outside}
use Rattle.bosh_history.specs.Permitted.{PerformsOpen}
use Rattle.bosh_lawful.specs.Clean.{is_failed}
use Rattle.laws_cloud.proofs.DoneLemmas.{done_now, made_by}
use Rattle.laws_contents_kept.proofs.MigrationLemmas.{IsMigration, migration}
use Rattle.laws_contents_kept.proofs.WriteLemmas.{apart_disk, unwritten}
use Rattle.laws_contents_kept.specs.Contents.{HaveMigrated}
use Rattle.laws_facts.specs.Facts.{Holds}
use Rattle.laws_facts.specs.OpenCalls.{has_migrated}
use Rattle.laws_moves.specs.Parts.{Forgotten, IsKeptByParts, Lost, Noted, Performed, Writer, Written}
use Rattle.laws_rows.specs.Rightful.{done_with}
use Rattle.laws_rows.specs.SoundDisks.{is_recorded}

-- ---- what is said of one call

-- where the migration was done, the disks have the same contents
abbrev Moved : List Entry → Did → Call → Type 0
Moved xs d (calls.MigrateDisk v from to) =
    (is_gone d.answer || (is_failed d.answer || same_contents xs from to)) ≡ true
Moved xs d call = Unit {0}

-- .. as the fact says it
moved_of : (m : Moment) (call : OpenCall) (d : Did) → call.did ≡ Some d → has_migrated m call ≡ true
    → Moved m.effects d call.begin.call
moved_of m call d told is = by call.begin.call (sym (λ j. has_migrated m (record call { did = told j })) ∙ is)
  where
    by : (c : Call) → has_migrated m (record call { did = Some d; begin = record call.begin { call = c } }) ≡ true
        → Moved m.effects d c
    by (calls.MigrateDisk v from to) is = is
    by c is = tt

of_moved : (m : Moment) (call : OpenCall) (d : Did) → call.did ≡ Some d → Moved m.effects d call.begin.call
    → has_migrated m call ≡ true
of_moved m call d told moved =
    (λ j. has_migrated m (record call { did = told j })) ∙ by call.begin.call moved
  where
    by : (c : Call) → Moved m.effects d c
        → has_migrated m (record call { did = Some d; begin = record call.begin { call = c } }) ≡ true
    by (calls.MigrateDisk v from to) moved = moved
    by c moved = refl

-- ---- contents after one more entry

fold_last : (f : (ℕ → List ℕ) → Entry → ℕ → List ℕ) (start : ℕ → List ℕ) (xs : List Entry) (x : Entry)
    → fold f start (xs ++ x ∷ []) ≡ f (fold f start xs) x
fold_last f start [] x = refl
fold_last f start (y ∷ xs) x = fold_last f (f start y) xs x

contents_now : (xs : List Entry) (x : Entry) → contents_of (xs ++ x ∷ []) ≡ contents_after (contents_of xs) x
contents_now xs x = fold_last contents_after (λ d. []) xs x

same_text : (text : List ℕ) → pointwise nat_eq text text ≡ true
same_text [] = refl
same_text (c ∷ text) = and_from (nat_eq c c) _ (eq-eqb c c refl) (same_text text)

-- two disks of which none changes
same_left : (xs : List Entry) (x : Entry) (from to : ℕ)
    → ((d : ℕ) → (d ≡ from) ⊎ (d ≡ to) → contents_after (contents_of xs) x d ≡ contents_of xs d)
    → same_contents xs from to ≡ true → same_contents (xs ++ x ∷ []) from to ≡ true
same_left xs x from to stays same =
    (λ j. pointwise nat_eq (contents_now xs x j from) (contents_now xs x j to))
    ∙ ((λ j. pointwise nat_eq (stays from (inl refl) j) (stays to (inr refl) j)) ∙ same)

-- an entry leaves it, where it changes none of the disks of a migration
moved_left : (xs : List Entry) (x : Entry) (d : Did) (call : Call)
    → ((v from to : ℕ) → call ≡ calls.MigrateDisk v from to → (k : ℕ) → (k ≡ from) ⊎ (k ≡ to)
    → contents_after (contents_of xs) x k ≡ contents_of xs k)
    → Moved xs d call → Moved (xs ++ x ∷ []) d call
moved_left xs x d (calls.MigrateDisk v from to) stays moved =
    by (is_gone d.answer) (is_failed d.answer) moved
  where
    by : (gone failed : Bool) → (gone || (failed || same_contents xs from to)) ≡ true
        → (gone || (failed || same_contents (xs ++ x ∷ []) from to)) ≡ true
    by true failed moved = refl
    by false true moved = refl
    by false false moved = same_left xs x from to (stays v from to refl) moved
moved_left xs x d call stays moved = tt

-- ---- the migration itself

moved_done : (built : KeyWork → List Digest → Digest) (xs : List Entry) (call : Call) (d : Did) (e : Effect)
    → e.call ≡ call → CallStep built xs call d.effect d.answer → Moved (done_with d.effect xs e) d call
moved_done built xs (calls.MigrateDisk v from to) d e is (inl (says, takes)) =
    (λ j. is_gone (says j) || (is_failed (says j) || same_contents (done_with (takes j) xs e) from to))
    ∙ by (has_agent xs v && (is_mounted_on xs v from && is_mounted_on xs v to))
  where
    moves : (k : ℕ) → (k ≡ from) ⊎ (k ≡ to)
        → contents_after (contents_of xs) (entries.Effect e) k ≡ contents_of xs from
    moves k at = (λ j. contents_after_call (contents_of xs) (is j) k) ∙ of (k == to) refl at
      where
        of : (same : Bool) → (k == to) ≡ same → (k ≡ from) ⊎ (k ≡ to)
            → (if k == to then contents_of xs from else contents_of xs k) ≡ contents_of xs from
        of true same at = λ j. if same j then contents_of xs from else contents_of xs k
        of false other (inl same) =
            (λ j. if other j then contents_of xs from else contents_of xs k) ∙ (λ j. contents_of xs (same j))
        of false other (inr same) = absurd (false≢true (sym other ∙ eq-eqb k to same))

    alike : same_contents (xs ++ entries.Effect e ∷ []) from to ≡ true
    alike =
        (λ j. pointwise nat_eq (contents_now xs (entries.Effect e) j from) (contents_now xs (entries.Effect e) j to))
        ∙ ((λ j. pointwise nat_eq (moves from (inl refl) j) (moves to (inr refl) j)) ∙ same_text (contents_of xs from))

    by : (whole : Bool)
        → (is_gone (unless_gone whole answers.Done) || (is_failed (unless_gone whole answers.Done)
        || same_contents (done_with (not (is_gone (unless_gone whole answers.Done))) xs e) from to)) ≡ true
    by true = alike
    by false = refl
moved_done built xs (calls.MigrateDisk v from to) d e is (inr (failed, may)) =
    (λ j. is_gone (failed j) || (is_failed (failed j) || same_contents (done_with d.effect xs e) from to))
moved_done built xs call d e is step = tt

-- ---- the disks of an open migration

module _ (m : Moment) (h : Holds m) (n : ℕ) (call : OpenCall) (is : m.calls n ≡ Some call) (v from to : ℕ)
    (call_is : call.begin.call ≡ calls.MigrateDisk v from to) where
  migrates : IsMigration m call v from to
  migrates = migration m h n call is v from to call_is

  -- one of the two is recorded
  recorded : (k : ℕ) → (k ≡ from) ⊎ (k ≡ to) → is_recorded (m.known.row migrates.inst).disks k ≡ true
  recorded k (inl same) =
      (λ j. is_recorded (m.known.row migrates.inst).disks (same j)) ∙ migrates.row.from_recorded
  recorded k (inr same) = (λ j. is_recorded (m.known.row migrates.inst).disks (same j)) ∙ migrates.row.to_recorded

  write_stays : (w : Write) → Writer m w.disk → (k : ℕ) → (k ≡ from) ⊎ (k ≡ to)
      → contents_after (contents_of m.effects) (entries.Write w) k ≡ contents_of m.effects k
  write_stays w writer k at =
      λ j. if ne_eqb k w.disk
      (λ same. unwritten m h migrates.inst v from to migrates.row w.disk k writer (recorded k at) (sym same)) j
      then w.text else contents_of m.effects k

  -- another call moves nothing to them
  other_stays : (other : ℕ) (that : OpenCall) → m.calls other ≡ Some that → that.begin.owner ≢ call.begin.owner
      → (k : ℕ) → (k ≡ from) ⊎ (k ≡ to)
      → contents_after (contents_of m.effects) (entries.Effect (made_by m.known that.begin)) k
      ≡ contents_of m.effects k
  other_stays other that that_is apart k at = by that.begin.call refl
    where
      by : (c : Call) → that.begin.call ≡ c
          → contents_after_call (contents_of m.effects) that.begin.call k ≡ contents_of m.effects k
      by (calls.MigrateDisk u old new) moves =
          let it : IsMigration m that u old new = migration m h other that that_is u old new moves in
          (λ j. contents_after_call (contents_of m.effects) (moves j) k)
          ∙ (λ j. if ne_eqb k new
          (λ same. apart_disk m h migrates.inst v from to migrates.row it.inst new k
          (λ one. apart (it.own ∙ ((λ l. Instance (sym one l)) ∙ sym migrates.own))) it.row.to_recorded
          (recorded k at) (sym same)) j
          then contents_of m.effects old else contents_of m.effects k)
      by c moves = λ j. contents_after_call (contents_of m.effects) (moves j) k

-- ---- parts

-- each open call that the cloud performed
was_moved : (m : Moment) (h : Holds m) (n : ℕ) (call : OpenCall) (d : Did) → m.calls n ≡ Some call → call.did ≡ Some d
    → Moved m.effects d call.begin.call
was_moved m h n call d is told = moved_of m call d told (h.performed n call is).migrated

kept_by : (later : Moment)
    → ((n : ℕ) (call : OpenCall) (d : Did) → later.calls n ≡ Some call → call.did ≡ Some d
    → Moved later.effects d call.begin.call)
    → HaveMigrated later
kept_by later moved n call is = by call.did refl
  where
    by : (did : Option Did) → call.did ≡ did → has_migrated later call ≡ true
    by (Some d) told = of_moved later call d told (moved n call d is told)
    by None told = λ j. has_migrated later (record call { did = told j })

moved_noted : (outside : Outside) (m : Moment) (e : Entry) → MayNote outside m e → Holds m → (n : ℕ) (call : OpenCall)
    (d : Did) → (noting m e).calls n ≡ Some call → call.did ≡ Some d → Moved m.effects d call.begin.call
moved_noted outside m (entries.Begin b) may h n call d is told = by (eqb b.n n) is
  where
    by : (same : Bool) → (if same then Some (record { begin = b; did = None }) else m.calls n) ≡ Some call
        → Moved m.effects d call.begin.call
    by true now =
        let opened : record { begin = b; did = None } ≡ call = cc in
        let none : None ≡ Some d = (λ j. (opened j).did) ∙ told in absurd cc
    by false now = was_moved m h n call d now told
moved_noted outside m (entries.End e) may h n call d is told = by (eqb e.n n) is
  where
    by : (same : Bool) → (if same then None else m.calls n) ≡ Some call → Moved m.effects d call.begin.call
    by true now = absurd cc
    by false now = was_moved m h n call d now told
moved_noted outside m (entries.Snapshot s) may h n call d is told = absurd may
moved_noted outside m entry may h n call d is told = was_moved m h n call d is told

module _ (outside : Outside) (m : Moment) (h : Holds m) (d : Did) (call : OpenCall) (is : m.calls d.n ≡ Some call)
    (step : CallStep outside.built m.effects call.begin.call d.effect d.answer) where
  own_moved : Moved (performing m d).effects d call.begin.call
  own_moved =
      subst (λ xs. Moved xs d call.begin.call) (sym (done_now m d call is))
      (moved_done outside.built m.effects call.begin.call d (made_by m.known call.begin) refl step)

  other_moved : (n : ℕ) (that : OpenCall) (told : Did) → m.calls n ≡ Some that → that.did ≡ Some told
      → call.begin.owner ≢ that.begin.owner → Moved (performing m d).effects told that.begin.call
  other_moved n that told that_is is_told apart =
      subst (λ xs. Moved xs told that.begin.call) (sym (done_now m d call is)) (by d.effect)
    where
      by : (has : Bool) → Moved (done_with has m.effects (made_by m.known call.begin)) told that.begin.call
      by true =
          moved_left m.effects (entries.Effect (made_by m.known call.begin)) told that.begin.call
          (λ v from to moves. other_stays m h n that that_is v from to moves d.n call is apart)
          (was_moved m h n that told that_is is_told)
      by false = was_moved m h n that told that_is is_told

  moved_performed : (n : ℕ) (that : OpenCall) (told : Did) → (performing m d).calls n ≡ Some that
      → that.did ≡ Some told → Moved (performing m d).effects told that.begin.call
  moved_performed n that told now is_told = by (eqb d.n n) refl now
    where
      performed : Some (record call { did = Some d }) ≡ Some that → record call { did = Some d } ≡ that
      performed now = cc

      by : (same : Bool) → eqb d.n n ≡ same → (if same then performed_call d (m.calls d.n) else m.calls n) ≡ Some that
          → Moved (performing m d).effects told that.begin.call
      by true same now =
          let it : record call { did = Some d } ≡ that = performed (sym (λ j. performed_call d (is j)) ∙ now) in
          let both : Some d ≡ Some told = (λ j. (it j).did) ∙ is_told in
          let one : d ≡ told = cc in
          subst (λ (told : Did). Moved (performing m d).effects told that.begin.call) one
          (subst (λ (it : OpenCall). Moved (performing m d).effects d it.begin.call) it own_moved)
      by false other now =
          other_moved n that told now is_told
          (λ same. false≢true (sym other ∙ eq-eqb d.n n ((h.known.calls n that now).one_call d.n call is same)))

pub migrated_kept : IsKeptByParts HaveMigrated
migrated_kept outside m (Performed d) may h = kept_by (performing m d) (by (m.calls d.n) refl may)
  where
    by : (that : Option OpenCall) → m.calls d.n ≡ that → PerformsOpen outside m.effects d that
        → (n : ℕ) (call : OpenCall) (told : Did) → (performing m d).calls n ≡ Some call → call.did ≡ Some told
        → Moved (performing m d).effects told call.begin.call
    by (Some call) is performs = moved_performed outside m h d call is performs.step
    by None is performs = absurd performs
migrated_kept outside m (Written w) may h =
    kept_by (record m { effects = m.effects ++ entries.Write w ∷ [] })
    (λ n call d is told.
    moved_left m.effects (entries.Write w) d call.begin.call
    (λ v from to moves. write_stays m h n call is v from to moves w may) (was_moved m h n call d is told))
migrated_kept outside m (Lost loss) may h =
    kept_by (losing m loss)
    (λ n call d is told.
    moved_left m.effects (entries.Lost loss) d call.begin.call (λ v from to moves k at. refl)
    (was_moved m h n call d is told))
migrated_kept outside m (Noted e) may h = kept_by (noting m e) (moved_noted outside m e may.1 h)
migrated_kept outside m Forgotten may h = λ n call is. absurd cc
