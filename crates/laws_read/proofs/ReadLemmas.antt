-- What is read of the entries of a permitted history stands for what they tell.
use Rattle.std.proofs.Common.{◌≡◌, ◌∙◌, ◌+◌, ◌<◌, ◌≤◌, ℕ, true, ◌&&◌, Option, Some, None, List, [], ◌∷◌, ◌++◌, ap, arith}
use Rattle.std.proofs.Common.{inl, inr, refl, subst, sym}
use Rattle.std.specs.Prelude.{fold, length, nat_le}
use Rattle.std.specs.List.{cons_option, filter_map}
use Rattle.std.proofs.lemmas.Bool.{and_parts, leb-true}
use Rattle.bosh_base.specs.declared.entry.Entry.{Entry}
use Rattle.bosh_base.specs.declared.entry.Entry.TheVariants as entries
use Rattle.bosh_base.specs.declared.moves.Move.{Move}
use Rattle.bosh_base.specs.declared.moves.Move.TheVariants as moves
use Rattle.bosh_base.specs.declared.snapshot.Snapshot.{Snapshot}
use Rattle.bosh_book.specs.Folds.{IsRead, StandAll}
use Rattle.bosh_fold.specs.Learns.{Learns}
use Rattle.bosh_history.proofs.KnownLemmas.{known_later, learned}
use Rattle.bosh_history.specs.Fit.{AreShortened, AreStoredAs, IsFit, LeavesPair, StandFor, empty, has_numbers, left}
use Rattle.bosh_history.specs.Held.{is_open}
use Rattle.bosh_history.specs.Known.{Known, nothing_known}
use Rattle.bosh_history.specs.Learn.{known_of, learn}
use Rattle.bosh_history.specs.Moments.{Moment, Opening, beginning, durable, durable_entry, later, moment}
use Rattle.bosh_history.specs.Notes.{Outside}
use Rattle.bosh_history.specs.Permitted.{IsPermitted, IsRun, MayKeep}
use Rattle.bosh_history.specs.Snapshots.{known_by, snapshot_of}
use Rattle.bosh_records.specs.Recorded.{nothing, recorded}
use Rattle.bosh_records.specs.declared.records.Records.{Records}
use Rattle.laws_facts.specs.KnownFacts.{KnownFacts}
use Rattle.laws_held.specs.Whole.{Whole}
use Rattle.laws_read.proofs.FitLemmas.{fit_tellable, snapshot_readable}
use Rattle.laws_read.proofs.MoveLemmas.{noted_by}
use Rattle.laws_read.proofs.NoteLemmas.{with_known}
use Rattle.laws_read.proofs.StoredLemmas.{IsParted, all_stored_twice, shortened_twice, stored_parted}
use Rattle.laws_read.proofs.TellableLemmas.{IsReadAs, calls_grow, stored_readable}
use Rattle.laws_read.proofs.WalkLemmas.{told_behind, walked}
use Rattle.laws_read.specs.AtRest.{IsToldAtRest, StandsAtRest}
use Rattle.laws_runs.proofs.PlainLemmas.{stored_told}
use Rattle.laws_recovery.proofs.FirstLemmas.{first_stands}
use Rattle.laws_recovery.specs.First.{told_first}
use Rattle.laws_stands.specs.Agrees.{Agrees}
use Rattle.laws_stands.specs.Told.{TellsWell, Told, telling}
use Rattle.laws_stands_fits.specs.Whole.{StandsWhole}
use Rattle.laws_stands_kept.proofs.KeptLemmas.{one_more_stands}
use Rattle.laws_stands_noted.proofs.AgreesLemmas.{move_agrees}
use Rattle.laws_stands_noted.specs.Later.{told_kept, told_later}
use Rattle.laws_stands_snapshots.proofs.BuiltGoOnLemmas.{built_goes_on, none_stand}
use Rattle.laws_stands_snapshots.proofs.BuiltOrderLemmas.{built_read}
use Rattle.laws_stands_snapshots.proofs.TellsLemmas.{learned_anew, learned_stands}
use Rattle.laws_stands_snapshots.specs.Built.{AreBuiltInOrder, BuiltStand}
use Rattle.laws_stands_snapshots.specs.Readable.{IsReadable}

-- ---- at rest

-- what agrees with a moment is of tasks that were opened
told_at_rest : (m : Moment) (told : Told) → KnownFacts m → Agrees m told → TellsWell told → IsToldAtRest told
told_at_rest m told facts agrees well = record {
  snapped = subst (λ (k : Known). told.snapped ≤ k.tasks) (sym agrees.known_is)
      (past told.snapped agrees.snapped (leb-true m.stopped m.known.tasks facts.lists.stopped_past));
  opened = λ n b is.
      leb-true b.task told.known.tasks
      (and_parts (nat_le b.task told.known.tasks) (is_open told.known b.task)
      (and_parts (nat_le 1 b.task) (nat_le b.task told.known.tasks && is_open told.known b.task) (well.going n b is)).1).0;
}
  where
    past : (n : ℕ) → n ≤ m.stopped → m.stopped ≤ m.known.tasks → n ≤ m.known.tasks
    past n low more = omega arith

-- .. and agrees with each moment at which the same is known and nothing is under way
pub rest_agrees : (m : Moment) (told : Told) → told.known ≡ m.known → ((n : ℕ) → m.calls n ≡ None)
    → m.stopped ≡ m.known.tasks → IsToldAtRest told → Agrees m told
rest_agrees m told known none stopped at_rest = record {
  known_is = known;
  snapped = subst (λ (n : ℕ). told.snapped ≤ n) tasks at_rest.snapped;
  live = λ n call is. absurd (let no : None ≡ Some call = sym (none n) ∙ is in cc);
  left = λ n b is gone. subst (λ (tasks : ℕ). b.task ≤ tasks) tasks (at_rest.opened n b is);
}
  where
    tasks : told.known.tasks ≡ m.stopped
    tasks = ap (λ (k : Known). k.tasks) known ∙ sym stopped

-- ---- one after another

-- a move tells the entry that it makes durable, if any
told_so : (told : Told) (move : Move) → told_later told move ≡ told_kept told (durable_entry move)
told_so told (moves.Note e) = refl
told_so told (moves.Did d) = refl
told_so told (moves.Wrote w) = refl
told_so told (moves.Halt cause) = refl
told_so told (moves.Stop s) = refl
told_so told (moves.Lost loss) = refl
told_so told (moves.Said said) = refl

-- these are learned, one after the other
abbrev pub AreLearned : Records → List Entry → Records → Type 0
AreLearned was [] now = now ≡ was
AreLearned was (entry ∷ rest) now = (mid : Records) × Learns was entry mid × AreLearned mid rest now

-- .. where they may stand
standing_learned : (place : ℕ) (was : Records) (es : List Entry) (now : Records) → StandAll place was es now
    → AreLearned was es now
standing_learned place was [] now same = same
standing_learned place was (entry ∷ es) now (mid, stands, learns, more) =
    (mid, learns, standing_learned (place + 1) mid es now more)

-- records stand at a moment, and learn what is stored from there on, up to these
pub record IsStanding (now : Records) (m : Moment) (rest : List Entry) : Type 0 where
  pub was : Records
  pub told : Told
  pub whole : StandsWhole told was
  pub agrees : Agrees m told
  pub built : BuiltStand told.known.built (recorded was)
  pub goes_on : AreLearned was rest now

-- .. as long as calls have numbers
abbrev pub StandsOn : Records → Moment → List Entry → Type 0
StandsOn now m rest = m.known.last_call < 18446744073709551615 → IsStanding now m rest

-- one more move
module _ (outside : Outside) (m : Moment) (move : Move) (all : Whole m) (may : IsPermitted outside m move) where
  -- calls had numbers before it, where they have after it
  pub numbers_before : (later m move).known.last_call < 18446744073709551615 → m.known.last_call < 18446744073709551615
  numbers_before numbers =
      by (durable_entry move) (noted_by outside m move may)
      (subst (λ (k : Known). k.last_call < 18446744073709551615) (known_later m move) numbers)
    where
      less : {a b : ℕ} → a ≤ b → b < 18446744073709551615 → a < 18446744073709551615
      less low high = omega arith

      by : (entry : Option Entry) → MayKeep outside m entry → (learned m.known entry).last_call < 18446744073709551615
          → m.known.last_call < 18446744073709551615
      by (Some entry) keeps numbers = less (calls_grow outside m entry keeps.0) numbers
      by None keeps numbers = numbers

  -- what is told with the entry that it makes durable agrees with the moment after it
  pub agrees_later : (entry : Option Entry) → durable_entry move ≡ entry → (told : Told) (was : Records)
      → StandsWhole told was → Agrees m told → Agrees (later m move) (told_kept told entry)
  agrees_later entry is told was whole agrees =
      subst (Agrees (later m move)) (told_so told move ∙ ap (told_kept told) is)
      (move_agrees outside m told move agrees all.holds.known whole.stands.tells_well may)

module _ (outside : Outside) (now : Records) (m : Moment) (move : Move) (rest : List Entry) (all : Whole m)
    (may : IsPermitted outside m move) where
  then_stands : (entry : Option Entry) → durable_entry move ≡ entry → MayKeep outside m entry
      → m.known.last_call < 18446744073709551615 → IsStanding now m (cons_option entry rest)
      → IsStanding now (later m move) rest
  then_stands None is keeps numbers it = record {
    was = it.was;
    told = it.told;
    whole = it.whole;
    agrees = agrees_later outside m move all may None is it.told it.was it.whole it.agrees;
    built = it.built;
    goes_on = it.goes_on;
  }
  then_stands (Some entry) is (may_note, follows) numbers it =
      let (mid, learns, more) = it.goes_on in
      record {
        was = mid;
        told = telling it.told entry;
        whole = one_more_stands outside m it.told it.was mid entry it.whole it.agrees all numbers follows may_note learns;
        agrees = agrees_later outside m move all may (Some entry) is it.told it.was it.whole it.agrees;
        built = built_goes_on outside m it.told it.was entry mid it.whole.stands it.agrees all.holds.known may_note learns
            it.built;
        goes_on = more;
      }

  stands_then : StandsOn now m (cons_option (durable_entry move) rest) → StandsOn now (later m move) rest
  stands_then was numbers =
      let low : m.known.last_call < 18446744073709551615 = numbers_before outside m move all may numbers in
      then_stands (durable_entry move) refl (noted_by outside m move may) low (was low)

-- ---- entries that are learned

-- .. in two parts
pub record IsLearnedTo (was : Records) (before behind : List Entry) (now : Records) : Type 0 where
  pub mid : Records
  pub first : AreLearned was before mid
  pub last : AreLearned mid behind now

learned_to : (was : Records) (before behind : List Entry) (now : Records) → AreLearned was (before ++ behind) now
    → IsLearnedTo was before behind now
learned_to was [] behind now all = record { mid = was; first = refl; last = all }
learned_to was (entry ∷ before) behind now (mid, learns, more) =
    let it : IsLearnedTo mid before behind now = learned_to mid before behind now more in
    record { mid = it.mid; first = (mid, learns, it.first); last = it.last }

module _ (outside : Outside) where
  -- what is told at the beginning of a session
  begins_on : (o : Opening) (before : List Entry) (was now : Records) (behind : List Entry)
      → AreStoredAs before o.entries → AreLearned was behind now
      → ((known_of before).last_call < 18446744073709551615 → StandsAtRest (known_of before) was)
      → StandsOn now (with_known (known_of before) (beginning o)) behind
  begins_on o before was now behind all goes_on start numbers =
      let it : StandsAtRest (known_of before) was = start numbers in record {
        was = was;
        told = it.told;
        whole = it.whole;
        agrees =
            rest_agrees (with_known (known_of before) (beginning o)) it.told it.known_is (λ n. refl)
            (sym (ap (λ (k : Known). k.tasks) (stored_told before o.entries all))) it.at_rest;
        built = it.built;
        goes_on = goes_on;
      }

  -- .. and at its end
  session_stands : (o : Opening) (session : List Move) (before behind : List Entry) (was now : Records)
      → IsFit outside o → IsRun outside o session → AreStoredAs before o.entries
      → AreStoredAs behind (filter_map durable_entry session)
      → ((known_of before).last_call < 18446744073709551615 → StandsAtRest (known_of before) was)
      → AreLearned was behind now → (fold learn (known_of before) behind).last_call < 18446744073709551615
      → StandsAtRest (fold learn (known_of before) behind) now
  session_stands o session before behind was now fit run all more start goes_on numbers =
      let (whole, stands) =
      walked outside (StandsOn now)
      (λ m move rest all may was. stands_then outside now m move rest all may was) o session before behind fit run all more
      (begins_on o before was now behind all goes_on start) in
      let it : IsStanding now (with_known (fold learn (known_of before) behind) (moment o session)) [] = stands numbers in
      record {
        told = it.told;
        known_is = it.agrees.known_is;
        whole = subst (StandsWhole it.told) (sym it.goes_on) it.whole;
        at_rest =
            told_at_rest (with_known (fold learn (known_of before) behind) (moment o session)) it.told whole.holds.known
            it.agrees it.whole.stands.tells_well;
        built = subst (λ (records : Records). BuiltStand it.told.known.built (recorded records)) (sym it.goes_on) it.built;
      }

  -- entries that are stored for those of a session and of what it began on
  pub parted_stands : (o : Opening) (session : List Move) (stored : List Entry) (first now : Records) → IsFit outside o
      → IsRun outside o session → AreStoredAs stored (durable o session)
      → ((start : List Entry) (was : Records) → AreStoredAs start o.entries → AreLearned first start was
      → (known_of start).last_call < 18446744073709551615 → StandsAtRest (known_of start) was)
      → AreLearned first stored now → (known_of stored).last_call < 18446744073709551615
      → StandsAtRest (known_of stored) now
  parted_stands o session stored first now fit run all start goes_on numbers =
      subst (λ (k : Known). StandsAtRest k now) (sym known)
      (session_stands o session it.before it.behind parts.mid now fit run it.front_stored it.rest_stored
      (λ low. start it.before parts.mid it.front_stored parts.first low) parts.last
      (subst (λ (k : Known). k.last_call < 18446744073709551615) known numbers))
    where
      it : IsParted stored o.entries (filter_map durable_entry session)
      it = stored_parted stored o.entries (filter_map durable_entry session) all

      parts : IsLearnedTo first it.before it.behind now
      parts = learned_to first it.before it.behind now
          (subst (λ (stored : List Entry). AreLearned first stored now) it.parted goes_on)

      known : known_of stored ≡ fold learn (known_of it.before) it.behind
      known = ap known_of it.parted ∙ sym (told_behind it.before it.behind)

  -- ---- one snapshot in the place of all

  small : (s : Snapshot) → has_numbers (known_by s) ≡ true → length s.tasks ≤ 18446744073709551615
  small s numbers = low (length s.tasks)
      (leb-true (length s.tasks) 4611686018427387904
      (and_parts (nat_le s.last_call 4611686018427387904) (nat_le (length s.tasks) 4611686018427387904) numbers).1)
    where
      low : (n : ℕ) → n ≤ 4611686018427387904 → n ≤ 18446744073709551615
      low n less = omega arith

  snapshot_stands : (s : Snapshot) (first now : Records) → IsReadable s → AreBuiltInOrder s.built_keys
      → has_numbers (known_by s) ≡ true → Learns first (entries.Snapshot s) now → StandsAtRest (known_by s) now
  snapshot_stands s first now it in_order numbers learns = record {
    told = telling told_first (entries.Snapshot s);
    known_is = refl;
    whole = learned_stands told_first first s now it (small s numbers) learns;
    at_rest = record { snapped = itself (length s.tasks); opened = λ n b is. absurd (let no = is in cc) };
    built = subst (BuiltStand s.built_keys) (sym (learned_anew first s now learns)) (built_read s it in_order);
  }
    where
      itself : (n : ℕ) → n ≤ n
      itself n = omega arith

  -- ---- what a director may be loaded on

  -- what a session leaves
  module _ (before next : Opening) (session : List Move) (fit : IsFit outside before)
      (pair : LeavesPair outside before session next) (first : Records)
      (was : (start : List Entry) (mid : Records) → AreStoredAs start before.entries → AreLearned first start mid
      → (known_of start).last_call < 18446744073709551615 → StandsAtRest (known_of start) mid) where
    shortened_stands : (start : List Entry) (now : Records) → AreShortened start (durable before session)
        → has_numbers (known_of start) ≡ true → AreLearned first start now → StandsAtRest (known_of start) now
    shortened_stands [] now short numbers goes_on = absurd short
    shortened_stands (entry ∷ []) now short numbers (mid, learns, same) =
        subst (λ (e : Entry). StandsAtRest (learn nothing_known e) now) (sym it.is)
        (snapshot_stands it.told first now it.can (subst AreBuiltInOrder (sym it.same_keys) can.1)
        (subst (λ (e : Entry). has_numbers (learn nothing_known e) ≡ true) it.is numbers)
        (subst (Learns first (entries.Snapshot it.told)) (sym same)
        (subst (λ (e : Entry). Learns first e mid) it.is learns)))
      where
        can : IsReadable (snapshot_of (known_of (durable before session)))
            × AreBuiltInOrder (known_of (durable before session)).built
        can = snapshot_readable outside before next session fit pair (fit_tellable outside before fit)

        it : IsReadAs entry (snapshot_of (known_of (durable before session)))
        it = stored_readable entry (snapshot_of (known_of (durable before session))) short can.0
    shortened_stands (entry ∷ other ∷ start) now short numbers goes_on = absurd short

    left_stands : (start : List Entry) (now : Records) → AreStoredAs start next.entries → AreLearned first start now
        → (known_of start).last_call < 18446744073709551615 → StandsAtRest (known_of start) now
    left_stands start now all goes_on numbers = by pair.entries
      where
        by : StandFor next.entries (durable before session) → StandsAtRest (known_of start) now
        by (inl alike) =
            parted_stands before session start first now fit pair.is_run
            (all_stored_twice start next.entries (durable before session) all alike) was goes_on numbers
        by (inr short) =
            shortened_stands start now (shortened_twice start next.entries (durable before session) all short)
            (ap has_numbers (stored_told start next.entries all) ∙ pair.has_numbers) goes_on

  pub fit_stands : (o : Opening) → IsFit outside o → (first : Records) → recorded first ≡ nothing → (start : List Entry)
      (now : Records) → AreStoredAs start o.entries → AreLearned first start now
      → (known_of start).last_call < 18446744073709551615 → StandsAtRest (known_of start) now
  fit_stands o empty first is [] now all same numbers = record {
    told = told_first;
    known_is = refl;
    whole = first_stands now (ap recorded same ∙ is);
    at_rest = record { snapped = none; opened = λ n b is. absurd (let no = is in cc) };
    built = subst (BuiltStand nothing_known.built) (sym (ap recorded same ∙ is)) none_stand;
  }
    where
      none : 0 ≤ 0
      none = omega arith
  fit_stands o empty first is (entry ∷ start) now all goes_on numbers = absurd all
  fit_stands o (left before next session fit pair) first is start now all goes_on numbers =
      left_stands before next session fit pair first (fit_stands before fit first is) start now all goes_on numbers

-- what is read of all that a permitted history made durable stands for it
pub read_stands : (outside : Outside) (o : Opening) (moves : List Move) (stored : List Entry) (records : Records)
    → IsFit outside o → IsRun outside o moves → AreStoredAs stored (durable o moves)
    → (known_of stored).last_call < 18446744073709551615 → IsRead stored records → StandsAtRest (known_of stored) records
read_stands outside o moves stored records fit run all numbers read =
    parted_stands outside o moves stored read.first records fit run all (fit_stands outside o fit read.first read.is_first)
    (standing_learned 0 read.first stored records read.standing) numbers
