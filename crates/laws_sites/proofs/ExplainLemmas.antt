-- What is found in the two stores of a site that has halted, by what was pending then.
use Rattle.std.proofs.Common.{◌≡◌, ◌∙◌, ℕ, Bool, true, false, List, [], ◌∷◌, ◌++◌, Option, Some, None, Result, Ok, ap, append-nil, inl, inr, refl, sym}
use Rattle.std.specs.Prelude.{◌⊎◌, fold, if◌then◌else◌, map}
use Rattle.bosh_base.specs.declared.entry.Entry.{Entry}
use Rattle.bosh_cloud.specs.Loading as cloud
use Rattle.bosh_entry.specs.Body.{entry_of}
use Rattle.bosh_history.specs.Fit.{has_numbers}
use Rattle.bosh_history.specs.Learn.{learn}
use Rattle.bosh_history.specs.Moments.{Moment, taking, with_written}
use Rattle.bosh_history.specs.Notes.{Outside}
use Rattle.bosh_history.specs.Openings.{HasSource}
use Rattle.bosh_history.specs.Permitted.{MayKeep, MayTake, MayWrite}
use Rattle.bosh_journal.specs.JournalView.{Pending}
use Rattle.bosh_journal.specs.Kept as journal
use Rattle.bosh_journal.specs.Spelled.{Spell}
use Rattle.bosh_ports.specs.declared.keeper.Keeper as keeper
use Rattle.bosh_world.specs.Steps.{bodies_of}
use Rattle.bosh_world.specs.declared.site.Site.{Site}
use Rattle.laws_sites.specs.Good.{FindsIn, HasHalted, IsLeft, IsLeftOf, IsPresent, SayDone}

-- what the director's store may have besides was permitted at the halt, and calls and tasks have numbers after it
abbrev pub MayPend : Outside → Moment → Bool → Option Pending → Type 0
MayPend outside m true (Some it) =
    (it.is_alone ≡ false) × MayKeep outside m (Some it.entry) × HasSource it.entry
    × (has_numbers (learn m.known it.entry) ≡ true)
MayPend outside m is_broken pending = Unit {0}

-- .. and what the cloud's store may have besides, after what was done in the stop
abbrev pub MayCome : Outside → Moment → Option Entry → List ℕ → Bool → Option (List ℕ) → Type 0
MayCome outside m wrote took true (Some body) =
    (entry : Entry) × (entry_of body ≡ Some entry)
    × ((more : Option Entry) × ((others : List ℕ) × (MayWrite m more × MayTake outside (with_written m more) 0 others
    × ((fold taking (with_written m more) others).effects
    ≡ (fold taking (with_written m wrote) took).effects ++ entry ∷ []))))
MayCome outside m wrote took is_stale pending = Unit {0}

-- what was done in the stop may be done in one, and so may what is pending; and both stores hold theirs
pub record Halts {K L : Type 0} {k : keeper.Ghosts K} {l : keeper.Ghosts L}
    (outside : Outside) (bodies : K → Option (List (List ℕ))) (cloud_bodies : L → Option (List (List ℕ))) (m : Moment)
    (site : Site K L k l) : Type 0 where
  pub wrote : Option Entry
  pub took : List ℕ
  pub may_write : MayWrite m wrote
  pub may_take : MayTake outside (with_written m wrote) 0 took
  pub effects : site.cloud.effects ≡ (fold taking (with_written m wrote) took).effects
  pub may_come : MayCome outside m wrote took site.cloud.is_stale site.cloud.pending
  pub may_pend : MayPend outside m site.book.journal.is_broken site.book.journal.pending
  pub numbers : has_numbers m.known ≡ true
  pub book_kept : journal.IsKept (bodies_of bodies) site.book.journal
  pub cloud_kept : cloud.IsKept cloud_bodies site.cloud

-- ---- the cloud's store

some_entry : (a b : Entry) → ◌≡◌ {A = Option Entry} (Some a) (Some b) → a ≡ b
some_entry a b is = cc

same_found : (a b : List Entry) → ◌≡◌ {A = Result (List Entry) ℕ} (Ok a) (Ok b) → a ≡ b
same_found a b is = cc

module _ (outside : Outside) (m : Moment) (wrote : Option Entry) (took : List ℕ) (may_write : MayWrite m wrote)
    (may_take : MayTake outside (with_written m wrote) 0 took) where
  left : (found : List Entry) → found ≡ (fold taking (with_written m wrote) took).effects → IsLeft outside m found
  left found is = (wrote, took, may_write, may_take, is)

  left_more : (body : List ℕ) (entry : Entry) (found : List Entry) → entry_of body ≡ Some entry
      → found ≡ (fold taking (with_written m wrote) took).effects ++ entry ∷ []
      → MayCome outside m wrote took true (Some body) → IsLeft outside m found
  left_more body entry found says is (it, spelled, (more, (others, (may, may_others, effects)))) = (
    more,
    others,
    may,
    may_others,
    is
        ∙ ap (λ (e : Entry). (fold taking (with_written m wrote) took).effects ++ e ∷ [])
        (some_entry entry it (sym says ∙ spelled))
        ∙ sym effects,
  )

  in_cloud : (told : Option (List (List ℕ))) (is_stale : Bool) (pending : Option (List ℕ)) (effects : List Entry)
      → effects ≡ (fold taking (with_written m wrote) took).effects → MayCome outside m wrote took is_stale pending
      → cloud.TellsAll told is_stale pending effects → FindsIn told SayDone (IsLeft outside m)
  in_cloud None is_stale pending effects is come tells = absurd tells
  in_cloud (Some list) false pending effects is come tells =
      λ found says. left found (same_found found effects (sym says ∙ tells) ∙ is)
  in_cloud (Some list) true pending effects is come (inl tells) =
      λ found says. left found (same_found found effects (sym says ∙ tells) ∙ is)
  in_cloud (Some list) true (Some body) effects is come (inr (entry, spelled, tells)) =
      λ found says. left_more body entry found spelled
      (same_found found (effects ++ entry ∷ []) (sym says ∙ tells) ∙ ap (λ es. es ++ entry ∷ []) is) come
  in_cloud (Some list) true None effects is come (inr none) = absurd none

-- ---- the director's store

-- bodies spell one list of entries
same_spelled : (xs ys : List Entry) → map {B = Option Entry} Some xs ≡ map Some ys → xs ≡ ys
same_spelled [] [] is = refl
same_spelled [] (y ∷ ys) is = absurd (let no = is in cc)
same_spelled (x ∷ xs) [] is = absurd (let no = is in cc)
same_spelled (x ∷ xs) (y ∷ ys) is =
    let parts = heads x y (map Some xs) (map Some ys) is in
    (λ i. parts.0 i ∷ same_spelled xs ys parts.1 i)
  where
    heads : (a b : Entry) (rest others : List (Option Entry))
        → ◌≡◌ {A = List (Option Entry)} (Some a ∷ rest) (Some b ∷ others) → (a ≡ b) × (rest ≡ others)
    heads a b rest others same = (cc, cc)

pub same_entries : (list : List (List ℕ)) (xs ys : List Entry) → Spell list xs → Spell list ys → xs ≡ ys
same_entries list xs ys one other = same_spelled xs ys (sym one ∙ other)

module _ (outside : Outside) (m : Moment) (entries : List Entry) (numbers : has_numbers m.known ≡ true) where
  nothing_more : (found : List Entry) → found ≡ entries → IsLeftOf outside m entries found
  nothing_more found is = (None, tt, tt, numbers, is ∙ sym (append-nil entries))

  in_book : (told : Option (List (List ℕ))) (is_broken : Bool) (pending : Option Pending)
      → MayPend outside m is_broken pending → journal.TellAll told is_broken pending entries
      → FindsIn told Spell (IsLeftOf outside m entries) × IsPresent told
  in_book None is_broken pending pend tells = absurd tells
  in_book (Some list) false pending pend (present, spelled) =
      (λ found says. nothing_more found (same_entries list found entries says spelled), present)
  in_book (Some list) true pending pend (inl (present, spelled)) =
      (λ found says. nothing_more found (same_entries list found entries says spelled), present)
  in_book (Some list) true None pend (inr none) = absurd none
  in_book (Some list) true (Some it) pend (inr (present, spelled)) = (
    λ found says. (
      Some it.entry,
      pend.1,
      pend.2,
      pend.3,
      same_entries list found (journal.with_pending it entries) says spelled
          ∙ (λ i. if pend.0 i then it.entry ∷ [] else entries ++ it.entry ∷ []),
    ),
    present,
  )

-- ---- both

pub explained : {K L : Type 0} {k : keeper.Ghosts K} {l : keeper.Ghosts L} (outside : Outside)
    (bodies : K → Option (List (List ℕ))) (cloud_bodies : L → Option (List (List ℕ))) (m : Moment) (site : Site K L k l)
    → Halts outside bodies cloud_bodies m site → HasHalted outside bodies cloud_bodies m site
explained outside bodies cloud_bodies m site it = record {
  cloud = in_cloud outside m it.wrote it.took it.may_write it.may_take (cloud_bodies site.cloud.store) site.cloud.is_stale
      site.cloud.pending site.cloud.effects it.effects it.may_come it.cloud_kept;
  book = its_book.0;
  present = its_book.1;
}
  where
    its_book : FindsIn (bodies_of bodies site.book.journal.store) Spell (IsLeftOf outside m site.book.journal.entries)
        × IsPresent (bodies_of bodies site.book.journal.store)
    its_book = in_book outside m site.book.journal.entries it.numbers (bodies_of bodies site.book.journal.store)
        site.book.journal.is_broken site.book.journal.pending it.may_pend it.book_kept
