-- Nothing that a permitted history left is damaged: each entry may stand at its place, and the releases are sound.
use Rattle.std.proofs.Common.{◌≡◌, ◌∙◌, ◌<◌, ℕ, ◌+◌, zero, suc, Bool, true, false, ◌&&◌, List, [], ◌∷◌, ◌++◌}
use Rattle.std.proofs.Common.{ap, arith, drop, inl, inr, length, refl, subst, sym, take}
use Rattle.std.specs.Prelude.{IfSome, fold, nat_lt, not, slice_get}
use Rattle.std.specs.List.{list_all}
use Rattle.std.proofs.lemmas.Bool.{and_from, and_parts, false≢true, true≢false}
use Rattle.std.proofs.lemmas.List.{take-append-drop}
use Rattle.std.proofs.lemmas.List.Elements.{All-take, Contains-append_left}
use Rattle.bosh_alike.specs.Alike.{AreAlike, IsOf}
use Rattle.bosh_asks.specs.Goals.{AreSound}
use Rattle.bosh_base.specs.declared.entry.Entry.{Entry}
use Rattle.bosh_base.specs.declared.entry.Entry.TheVariants as entries
use Rattle.bosh_base.specs.declared.release.PackageSpec.{PackageSpec}
use Rattle.bosh_base.specs.declared.release.Release.{Release}
use Rattle.bosh_book.specs.Folds.{IsDamaged, IsStop, StandAll, has_config, may_stand}
use Rattle.bosh_claim.specs.Allowed.{allowed}
use Rattle.bosh_fold.proofs.LearnsLemmas.{learned_comes}
use Rattle.bosh_fold.specs.ArrivalsWith.{arrivals_with}
use Rattle.bosh_history.specs.Known.{Known, nothing_known}
use Rattle.bosh_history.specs.Learn.{known_of, learn}
use Rattle.bosh_journal.specs.Director.{is_snapshot}
use Rattle.bosh_records.specs.Arrivals.{Arrivals, arrivals}
use Rattle.bosh_records.specs.Recorded.{nothing, recorded}
use Rattle.bosh_records.specs.declared.records.Records.{Records}
use Rattle.bosh_release.specs.Sound.{IsSound}
use Rattle.laws_read.specs.Allowed.{AreAllowed}
use Rattle.laws_undamaged.proofs.FreshLemmas.{are_fresh, is_fresh}
use Rattle.laws_undamaged.proofs.OutsideLemmas.{none_sound, releases_kept}

-- ---- fewer releases are sound

alike_front : (xs ys : List Release) → AreAlike (xs ++ ys) → AreAlike xs
alike_front xs ys alike release other pack pack_of one two prints =
    alike release other pack pack_of (wider release pack one) (wider other pack_of two) prints
  where
    wider : (release : Release) (pack : PackageSpec) → IsOf xs release pack → IsOf (xs ++ ys) release pack
    wider release pack it = record {
      release_there = Contains-append_left xs ys release it.release_there;
      package_there = it.package_there;
    }

taken_sound : (n : ℕ) (releases : List Release) → AreSound releases → AreSound (take n releases)
taken_sound n releases sound = (
  All-take IsSound n releases sound.0,
  alike_front (take n releases) (drop n releases)
      (subst AreAlike (sym (take-append-drop n releases)) sound.1),
)

front_is : (xs ys : List Release) → take (length xs) (xs ++ ys) ≡ xs
front_is [] ys = refl
front_is (x ∷ xs) ys = ap (λ more. x ∷ more) (front_is xs ys)

front_sound : (xs ys : List Release) → AreSound (xs ++ ys) → AreSound xs
front_sound xs ys sound = subst AreSound (front_is xs ys) (taken_sound (length xs) (xs ++ ys) sound)

-- ---- fewer entries bring sound releases

-- the releases before an entry that is no snapshot are sound where those after it are
sound_before : (k : Known) (e : Entry) → is_fresh e ≡ true → AreSound (learn k e).releases → AreSound k.releases
sound_before k (entries.Release r) fresh sound = front_sound k.releases (r ∷ []) sound
sound_before k (entries.Snapshot s) fresh sound = absurd (false≢true fresh)
sound_before k e fresh sound = subst AreSound (releases_kept k e tt) sound

sound_at_first : (k : Known) (more : List Entry) → list_all is_fresh more ≡ true
    → AreSound (fold learn k more).releases → AreSound k.releases
sound_at_first k [] fresh sound = sound
sound_at_first k (e ∷ more) fresh sound =
    let (here, rest) = and_parts (is_fresh e) (list_all is_fresh more) fresh in
    sound_before k e here (sound_at_first (learn k e) more rest sound)

sound_on_way : (k : Known) (count : ℕ) (more : List Entry) → list_all is_fresh more ≡ true
    → AreSound (fold learn k more).releases → AreSound (fold learn k (take count more)).releases
sound_on_way k zero more fresh sound = sound_at_first k more fresh sound
sound_on_way k (suc count) [] fresh sound = sound
sound_on_way k (suc count) (e ∷ more) fresh sound =
    sound_on_way (learn k e) count more (and_parts (is_fresh e) (list_all is_fresh more) fresh).1 sound

sound_up_to : (count : ℕ) (entries : List Entry) → are_fresh entries ≡ true → AreSound (known_of entries).releases
    → AreSound (known_of (take count entries)).releases
sound_up_to zero entries fresh sound = none_sound
sound_up_to (suc count) [] fresh sound = none_sound
sound_up_to (suc count) (e ∷ entries) fresh sound =
    sound_on_way (learn nothing_known e) count entries (and_parts (has_config e) (list_all is_fresh entries) fresh).1 sound

-- ---- what is recorded of releases

told_so : (k : Known) (e : Entry) (before : Arrivals) → before.releases ≡ k.releases
    → (arrivals_with e before).releases ≡ (learn k e).releases
told_so k (entries.Release r) before same = ap (λ releases. releases ++ r ∷ []) same
told_so k (entries.Snapshot s) before same = refl
told_so k e before same = same ∙ sym (releases_kept k e tt)

told_all : (place : ℕ) (was now : Records) (k : Known) (entries : List Entry) → StandAll place was entries now
    → was.releases.items ≡ k.releases → now.releases.items ≡ (fold learn k entries).releases
told_all place was now k [] standing same = ap (λ (it : Records). it.releases.items) standing ∙ same
told_all place was now k (e ∷ entries) standing same =
    told_all (place + 1) standing.0 now (learn k e) entries standing.3
    (ap (λ (it : Arrivals). it.releases) (learned_comes was standing.0 e standing.2) ∙ told_so k e (arrivals was) same)

-- ---- each entry may stand

-- at its place, as far as the records have no say in it
abbrev stand_well : ℕ → List Entry → Bool
stand_well place [] = true
stand_well place (e ∷ entries) =
    (not (is_snapshot e && nat_lt 0 place) && has_config e) && stand_well (place + 1) entries

fresh_well : (place : ℕ) (entries : List Entry) → list_all is_fresh entries ≡ true → stand_well place entries ≡ true
fresh_well place [] fresh = refl
fresh_well place (e ∷ entries) fresh =
    let (here, rest) = and_parts (is_fresh e) (list_all is_fresh entries) fresh in
    let (no_snapshot, config) = and_parts (not (is_snapshot e)) (has_config e) here in
    and_from (not (is_snapshot e && nat_lt 0 place) && has_config e) (stand_well (place + 1) entries)
    (and_from (not (is_snapshot e && nat_lt 0 place)) (has_config e) (by (is_snapshot e) (nat_lt 0 place) no_snapshot) config)
    (fresh_well (place + 1) entries rest)
  where
    by : (a b : Bool) → not a ≡ true → not (a && b) ≡ true
    by true b is = absurd (false≢true is)
    by false b is = refl

first_well : (entries : List Entry) → are_fresh entries ≡ true → stand_well 0 entries ≡ true
first_well [] fresh = refl
first_well (e ∷ entries) fresh =
    let (here, rest) = and_parts (has_config e) (list_all is_fresh entries) fresh in
    and_from (not (is_snapshot e && false) && has_config e) (stand_well (0 + 1) entries)
    (and_from (not (is_snapshot e && false)) (has_config e) (by (is_snapshot e)) here) (fresh_well (0 + 1) entries rest)
  where
    by : (a : Bool) → not (a && false) ≡ true
    by true = refl
    by false = refl

-- there is none that may not
none_stops : (place count number : ℕ) (was now : Records) (entries : List Entry) → number ≡ place + count
    → AreAllowed was entries → stand_well place entries ≡ true → StandAll place was (take count entries) now
    → count < length entries → IfSome (slice_get entries count) (λ e. may_stand number now e ≡ false) → ⊥
none_stops place count number was now [] at all well standing below stops = absurd (omega arith)
none_stops place zero number was now (e ∷ entries) at all well standing below stops =
    let (here, rest) = and_parts (not (is_snapshot e && nat_lt 0 place) && has_config e) (stand_well (place + 1) entries)
    well in
    let (kind, config) = and_parts (not (is_snapshot e && nat_lt 0 place)) (has_config e) here in
    let same : number ≡ place = omega (arith, at) in
    let stands : may_stand place was e ≡ true =
    and_from (not (is_snapshot e && nat_lt 0 place)) (allowed was e && has_config e) kind
    (and_from (allowed was e) (has_config e) all.0 config) in
    true≢false (sym ((λ i. may_stand (same i) (standing i) e) ∙ stands) ∙ stops)
none_stops place (suc count) number was now (e ∷ entries) at all well standing below stops =
    none_stops (place + 1) count number standing.0 now entries (let it : number ≡ place + 1 + count = omega (arith, at) in it)
    (all.1 standing.0 standing.2)
    (and_parts (not (is_snapshot e && nat_lt 0 place) && has_config e) (stand_well (place + 1) entries) well).1
    standing.3 (let it : count < length entries = omega (arith, below) in it) stops

-- ---- all

pub not_damaged : (stored : List Entry) → ((first : Records) → recorded first ≡ nothing → AreAllowed first stored)
    → are_fresh stored ≡ true → AreSound (known_of stored).releases → (place : ℕ) → IsDamaged stored place → ⊥
not_damaged stored all fresh sound place it = by it.stop
  where
    known_is : it.records.releases.items ≡ (known_of (take it.count stored)).releases
    known_is =
        told_all 0 it.first it.records nothing_known (take it.count stored) it.taken.standing
        (ap (λ all. all.came.releases) it.is_first)

    sound_there : AreSound it.records.releases.items
    sound_there = subst AreSound (sym known_is) (sound_up_to it.count stored fresh sound)

    by : IsStop it.records stored it.count place → ⊥
    by (inl unsound) = unsound.1.unsound (taken_sound unsound.0 it.records.releases.items sound_there)
    by (inr stopped) =
        none_stops 0 it.count it.count it.first it.records stored (let e : it.count ≡ 0 + it.count = omega arith in e)
        (all it.first it.is_first) (first_well stored fresh) it.taken.standing stopped.1 it.taken.stops
