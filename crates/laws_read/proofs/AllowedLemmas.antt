-- Each entry of a permitted history is allowed by what was read of those before it.
use Rattle.std.proofs.Common.{◌≡◌, ◌∙◌, ◌<◌, Bool, true, false, ◌&&◌, ◌||◌, Option, Some, None, List, [], ◌∷◌, ◌++◌, ap}
use Rattle.std.proofs.Common.{inl, inr, refl, subst, sym}
use Rattle.std.specs.Prelude.{◌==◌, fold, is_none, is_some, length}
use Rattle.std.specs.List.{cons_option, filter_map}
use Rattle.std.proofs.lemmas.Bool.{and_from}
use Rattle.bosh_base.specs.declared.entry.Entry.{Entry}
use Rattle.bosh_base.specs.declared.entry.Entry.TheVariants as entries
use Rattle.bosh_base.specs.declared.moves.Move.{Move}
use Rattle.bosh_base.specs.declared.moves.Move.TheVariants as moves
use Rattle.bosh_base.specs.declared.snapshot.Snapshot.{Snapshot}
use Rattle.bosh_claim.specs.Allowed.{allowed}
use Rattle.bosh_history.proofs.KnownLemmas.{known_by_entries, learned}
use Rattle.bosh_history.specs.Fit.{AreShortened, AreStoredAs, IsFit, IsStoredAs, LeavesPair, StandFor, empty, left, plain}
use Rattle.bosh_history.specs.Fit.{plain_entry}
use Rattle.bosh_history.specs.Known.{Known}
use Rattle.bosh_history.specs.Learn.{known_of, learn}
use Rattle.bosh_history.specs.Moments.{Moment, Opening, beginning, durable, durable_entry, later}
use Rattle.bosh_history.specs.Notes.{Outside}
use Rattle.bosh_history.specs.Openings.{HasSource, deploys}
use Rattle.bosh_history.specs.Permitted.{HasSourceWhere, IsPermitted, IsRun, IsRunFrom, MayKeep, TellsSource}
use Rattle.bosh_history.specs.Snapshots.{snapshot_of}
use Rattle.bosh_records.specs.Readers.{is_empty}
use Rattle.bosh_records.specs.Recorded.{Recorded, nothing, recorded}
use Rattle.bosh_records.specs.declared.records.Records.{Records}
use Rattle.bosh_rows.specs.SoundSnapshot.{is_sound_snapshot}
use Rattle.laws_allowed_openings.proofs.AllowedLemmas.{note_is_allowed}
use Rattle.laws_allowed_openings.specs.Sources.{MayTellSource}
use Rattle.laws_held.specs.Whole.{Whole}
use Rattle.laws_read.proofs.MoveLemmas.{noted_by}
use Rattle.laws_read.proofs.NoteLemmas.{with_known}
use Rattle.laws_read.proofs.ReadLemmas.{AreLearned, agrees_later, fit_stands, numbers_before, rest_agrees}
use Rattle.laws_read.proofs.StoredLemmas.{IsParted, all_stored_twice, shortened_twice, stored_parted}
use Rattle.laws_read.proofs.WalkLemmas.{told_behind, walked_back}
use Rattle.laws_read.specs.Allowed.{AreAllowed}
use Rattle.laws_read.specs.AtRest.{StandsAtRest}
use Rattle.laws_runs.proofs.PlainLemmas.{stored_told}
use Rattle.laws_snapshots.proofs.MomentLemmas.{run_snapshot}
use Rattle.laws_snapshots.proofs.SnapshotLemmas.{plain_sound}
use Rattle.laws_stands.specs.Agrees.{Agrees}
use Rattle.laws_stands.specs.Told.{Told, telling}
use Rattle.laws_stands_fits.specs.Whole.{StandsWhole}
use Rattle.laws_stands_kept.proofs.KeptLemmas.{one_more_stands}

-- ---- sources

-- a task that opens tells a source, or may tell none
has_or_none : {X : Type 0} (o : Option X) → (is_some o || is_none o) ≡ true
has_or_none (Some x) = refl
has_or_none None = refl

or_true : (b : Bool) → (b || true) ≡ true
or_true true = refl
or_true false = refl

written_tells : (entry : Entry) → HasSource entry → MayTellSource entry
written_tells (entries.TaskOpen o) has = (λ j. sym has j || is_none o.source) ∙ has_or_none o.source
written_tells entry has = tt

older_tells : (entry : Entry) → MayTellSource (plain_entry entry)
older_tells (entries.TaskOpen o) = or_true (deploys o.kind)
older_tells (entries.Snapshot s) = tt
older_tells entry = tt

stored_tells : (stored entry : Entry) → IsStoredAs stored entry → HasSource entry → MayTellSource stored
stored_tells stored entry (inl same) has = subst MayTellSource (sym same) (written_tells entry has)
stored_tells stored entry (inr older) has = subst MayTellSource (sym older) (older_tells entry)

-- each of these may tell what it does
abbrev AllTell : List Entry → Type 0
AllTell [] = Unit {0}
AllTell (entry ∷ rest) = MayTellSource entry × AllTell rest

tells_where : (move : Move) → TellsSource move → HasSourceWhere (durable_entry move)
tells_where (moves.Note e) has = has
tells_where (moves.Did d) has = tt
tells_where (moves.Wrote w) has = tt
tells_where (moves.Halt cause) has = tt
tells_where (moves.Stop s) has = has
tells_where (moves.Lost loss) has = tt
tells_where (moves.Said said) has = tt

one_more_tells : (entry : Option Entry) (rest stored : List Entry) → HasSourceWhere entry
    → AreStoredAs stored (cons_option entry rest) → ((stored : List Entry) → AreStoredAs stored rest → AllTell stored)
    → AllTell stored
one_more_tells (Some entry) rest (it ∷ stored) has all more = (stored_tells it entry all.0 has, more stored all.1)
one_more_tells (Some entry) rest [] has all more = absurd all
one_more_tells None rest stored has all more = more stored all

run_tells : (outside : Outside) (m : Moment) (moves : List Move) (stored : List Entry) → IsRunFrom outside m moves
    → AreStoredAs stored (filter_map durable_entry moves) → AllTell stored
run_tells outside m [] [] run all = tt
run_tells outside m [] (it ∷ stored) run all = absurd all
run_tells outside m (move ∷ moves) stored run all =
    one_more_tells (durable_entry move) (filter_map durable_entry moves) stored (tells_where move run.2) all
    (λ stored all. run_tells outside (later m move) moves stored run.1 all)

-- ---- a session

-- calls have numbers, and what is stored from here on is allowed by records that stand here
abbrev AllowsOn : Moment → List Entry → Type 0
AllowsOn m rest =
    (m.known.last_call < 18446744073709551615)
    × ((was : Records) (told : Told) → StandsWhole told was → Agrees m told → AllTell rest → AreAllowed was rest)

module _ (outside : Outside) (m : Moment) (move : Move) (rest : List Entry) (all : Whole m)
    (may : IsPermitted outside m move) (more : AllowsOn (later m move) rest) where
  allows_then : (entry : Option Entry) → durable_entry move ≡ entry → MayKeep outside m entry
      → AllowsOn m (cons_option entry rest)
  allows_then None is keeps = (
    numbers_before outside m move all may more.0,
    λ was told whole agrees tells. more.1 was told whole (agrees_later outside m move all may None is told was whole agrees)
        tells,
  )
  allows_then (Some entry) is (may_note, follows) = (
    low,
    λ was told whole agrees tells. (
      note_is_allowed outside m told was entry whole.stands agrees all.holds.known low may_note follows tells.0,
      λ now learns. more.1 now (telling told entry)
          (one_more_stands outside m told was now entry whole agrees all low follows may_note learns)
          (agrees_later outside m move all may (Some entry) is told was whole agrees) tells.1,
    ),
  )
    where
      low : m.known.last_call < 18446744073709551615
      low = numbers_before outside m move all may more.0

  pub allows_before : AllowsOn m (cons_option (durable_entry move) rest)
  allows_before = allows_then (durable_entry move) refl (noted_by outside m move may)

-- entries one behind another
allowed_joined : (first : Records) (before behind : List Entry) → AreAllowed first before
    → ((was : Records) → AreLearned first before was → AreAllowed was behind) → AreAllowed first (before ++ behind)
allowed_joined first [] behind here next = next first refl
allowed_joined first (entry ∷ before) behind (here, more) next = (
  here,
  λ now learns. allowed_joined now before behind (more now learns) (λ was rest. next was (now, learns, rest)),
)

module _ (outside : Outside) (first : Records) (is_first : recorded first ≡ nothing) where
  pub parted_allowed : (o : Opening) (session : List Move) (stored : List Entry) → IsFit outside o
      → IsRun outside o session → AreStoredAs stored (durable o session)
      → ((start : List Entry) → AreStoredAs start o.entries → (known_of start).last_call < 18446744073709551615
      → AreAllowed first start)
      → (known_of stored).last_call < 18446744073709551615 → AreAllowed first stored
  parted_allowed o session stored fit run all start numbers =
      subst (AreAllowed first) (sym it.parted)
      (allowed_joined first it.before it.behind (start it.before it.front_stored allows.0) (λ was learned. on was learned))
    where
      it : IsParted stored o.entries (filter_map durable_entry session)
      it = stored_parted stored o.entries (filter_map durable_entry session) all

      known : known_of stored ≡ fold learn (known_of it.before) it.behind
      known = ap known_of it.parted ∙ sym (told_behind it.before it.behind)

      allows : AllowsOn (with_known (known_of it.before) (beginning o)) it.behind
      allows =
          walked_back outside AllowsOn (λ m move rest all may more. allows_before outside m move rest all may more) o session
          it.before it.behind fit run it.front_stored it.rest_stored
          (subst (λ (k : Known). k.last_call < 18446744073709551615) known numbers, λ was told whole agrees tells. tt)

      on : (was : Records) → AreLearned first it.before was → AreAllowed was it.behind
      on was learned =
          let here : StandsAtRest (known_of it.before) was =
          fit_stands outside o fit first is_first it.before was it.front_stored learned allows.0 in
          allows.1 was here.told here.whole
          (rest_agrees (with_known (known_of it.before) (beginning o)) here.told here.known_is (λ n. refl)
          (sym (ap (λ (k : Known). k.tasks) (stored_told it.before o.entries it.front_stored))) here.at_rest)
          (run_tells outside (beginning o) session it.behind run it.rest_stored)

  -- ---- one snapshot in the place of all

  is_nothing : is_empty first ≡ true
  is_nothing =
      ap (λ (it : Recorded). length it.came.releases == 0
      && (length it.came.stemcells == 0 && (is_none it.came.config && it.came.opened == 0))) is_first

  snapshot_allowed : (stored : Entry) (s : Snapshot) → IsStoredAs stored (entries.Snapshot s) → is_sound_snapshot s ≡ true
      → allowed first stored ≡ true
  snapshot_allowed stored s (inl same) sound =
      ap (allowed first) same ∙ and_from (is_empty first) (is_sound_snapshot s) is_nothing sound
  snapshot_allowed stored s (inr older) sound =
      ap (allowed first) older
      ∙ and_from (is_empty first) (is_sound_snapshot (plain s)) is_nothing (plain_sound s ∙ sound)

  module _ (before next : Opening) (session : List Move) (fit : IsFit outside before)
      (pair : LeavesPair outside before session next)
      (was : (start : List Entry) → AreStoredAs start before.entries
      → (known_of start).last_call < 18446744073709551615 → AreAllowed first start) where
    sound : is_sound_snapshot (snapshot_of (known_of (durable before session))) ≡ true
    sound =
        subst (λ (k : Known). is_sound_snapshot (snapshot_of k) ≡ true) (known_by_entries before session)
        (run_snapshot outside before session fit pair.is_run)

    shortened_allowed : (start : List Entry) → AreShortened start (durable before session) → AreAllowed first start
    shortened_allowed [] short = absurd short
    shortened_allowed (entry ∷ []) short =
        (snapshot_allowed entry (snapshot_of (known_of (durable before session))) short sound, λ now learns. tt)
    shortened_allowed (entry ∷ other ∷ start) short = absurd short

    left_allowed : (start : List Entry) → AreStoredAs start next.entries
        → (known_of start).last_call < 18446744073709551615 → AreAllowed first start
    left_allowed start all numbers = by pair.entries
      where
        by : StandFor next.entries (durable before session) → AreAllowed first start
        by (inl alike) =
            parted_allowed before session start fit pair.is_run
            (all_stored_twice start next.entries (durable before session) all alike) was numbers
        by (inr short) =
            shortened_allowed start (shortened_twice start next.entries (durable before session) all short)

  pub fit_allowed : (o : Opening) → IsFit outside o → (start : List Entry) → AreStoredAs start o.entries
      → (known_of start).last_call < 18446744073709551615 → AreAllowed first start
  fit_allowed o empty [] all numbers = tt
  fit_allowed o empty (entry ∷ start) all numbers = absurd all
  fit_allowed o (left before next session fit pair) start all numbers =
      left_allowed before next session fit pair (fit_allowed before fit) start all numbers

-- all that a permitted history made durable
pub read_allowed : (outside : Outside) (o : Opening) (moves : List Move) (stored : List Entry) (first : Records)
    → IsFit outside o → IsRun outside o moves → AreStoredAs stored (durable o moves)
    → (known_of stored).last_call < 18446744073709551615 → recorded first ≡ nothing → AreAllowed first stored
read_allowed outside o moves stored first fit run all numbers is_first =
    parted_allowed outside first is_first o moves stored fit run all (fit_allowed outside first is_first o fit) numbers
