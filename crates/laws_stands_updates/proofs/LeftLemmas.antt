-- Disks that belong to no instance from now on, in the table of such disks and in what is known of them.
use Rattle.std.proofs.Common.{◌≡◌, ◌∙◌, ℕ, Bool, true, false, ◌||◌, List, [], ◌∷◌, filter, Option, Some}
use Rattle.std.proofs.Common.{None, ap, refl, sym}
use Rattle.std.specs.Prelude.{eqb, fold, is_some, option_map, if◌then◌else◌}
use Rattle.std.specs.Option.{option_and_then}
use Rattle.std.specs.Ordering.{nat_cmp}
use Rattle.std.proofs.lemmas.Bool.{eq-eqb, eqb-true, false≢true}
use Rattle.bosh_base.specs.declared.inst.Inst.{Inst}
use Rattle.bosh_base.specs.declared.row.DiskRow.{DiskRow}
use Rattle.bosh_base.specs.declared.snapshot.Orphan.{Orphan}
use Rattle.bosh_fold.specs.Updates.{loose, with_loose, with_orphans}
use Rattle.bosh_history.specs.Updates.{orphan_of, orphans_after}
use Rattle.bosh_history.specs.Words.{at, is_among}
use Rattle.bosh_plan.specs.Roomy.{disk_room}
use Rattle.bosh_plan.specs.Updated.{orphans_of}
use Rattle.bosh_records.specs.Table.{found, thing_in, with_room}
use Rattle.bosh_records.specs.declared.orphans.LooseDisk.{LooseDisk}
use Rattle.laws_stands_on.proofs.ChangedLemmas.{eqb_flip, some_mapped}
use Rattle.laws_stands_on.proofs.TableLemmas.{found_roomy, there_roomy}
use Rattle.laws_stands_on.proofs.TableLemmas.{found_altered, nat_at, nat_keys}
use Rattle.laws_stands.specs.Told.{Told}
use Rattle.laws_stands_updates.specs.Finished.{AllowsLeft, HavePlaces, numbers_of}

-- ---- one disk

module _ (i : Inst) (d : DiskRow) (orphans : List (ℕ × Option LooseDisk)) where
  abbrev one : List (ℕ × Option LooseDisk)
  one = with_loose orphans (orphan_of i d)

  found_one : (x : ℕ) → found nat_cmp one x
      ≡ (if eqb d.disk x then option_map (λ _. Some (loose (orphan_of i d))) (found nat_cmp orphans x)
      else found nat_cmp orphans x)
  found_one x = found_altered nat_cmp nat_keys d.disk (λ _. Some (loose (orphan_of i d))) orphans x
      ∙ (λ j. if nat_at d.disk x j then option_map (λ _. Some (loose (orphan_of i d))) (found nat_cmp orphans x)
      else found nat_cmp orphans x)

  places_stay : (x : ℕ) → is_some (found nat_cmp one x) ≡ is_some (found nat_cmp orphans x)
  places_stay x = ap is_some (found_one x) ∙ by (eqb d.disk x)
    where
      by : (b : Bool) → is_some (if b then option_map (λ _. Some (loose (orphan_of i d))) (found nat_cmp orphans x)
          else found nat_cmp orphans x) ≡ is_some (found nat_cmp orphans x)
      by true = some_mapped (λ _. Some (loose (orphan_of i d))) (found nat_cmp orphans x)
      by false = refl

  thing_one : is_some (found nat_cmp orphans d.disk) ≡ true → (x : ℕ)
      → thing_in nat_cmp one x ≡ (if eqb d.disk x then Some (loose (orphan_of i d)) else thing_in nat_cmp orphans x)
  thing_one there x = ap (option_and_then (λ place. place)) (found_one x) ∙ by (eqb d.disk x) refl
    where
      own : (o : Option (Option LooseDisk)) → is_some o ≡ true
          → option_and_then (λ (place : Option LooseDisk). place) (option_map (λ _. Some (loose (orphan_of i d))) o)
          ≡ Some (loose (orphan_of i d))
      own (Some place) is = refl
      own None is = absurd (false≢true is)

      by : (b : Bool) → eqb d.disk x ≡ b
          → option_and_then (λ (place : Option LooseDisk). place)
          (if b then option_map (λ _. Some (loose (orphan_of i d))) (found nat_cmp orphans x)
          else found nat_cmp orphans x)
          ≡ (if b then Some (loose (orphan_of i d)) else thing_in nat_cmp orphans x)
      by true is = own (found nat_cmp orphans x)
          (ap (λ x. is_some (found nat_cmp orphans x)) (sym (eqb-true d.disk x is)) ∙ there)
      by false other = refl

-- ---- all of them

places_go_on : (i : Inst) (d : DiskRow) (disks : List DiskRow) (orphans : List (ℕ × Option LooseDisk))
    → HavePlaces orphans (d ∷ disks) → HavePlaces (with_loose orphans (orphan_of i d)) disks
places_go_on i d disks orphans places x among =
    places_stay i d orphans x ∙ places x (by (eqb x d.disk) among)
  where
    by : (b : Bool) → is_among eqb x (numbers_of disks) ≡ true → (b || is_among eqb x (numbers_of disks)) ≡ true
    by true is = refl
    by false is = is

first_place : (d : DiskRow) (disks : List DiskRow) (orphans : List (ℕ × Option LooseDisk))
    → HavePlaces orphans (d ∷ disks) → is_some (found nat_cmp orphans d.disk) ≡ true
first_place d disks orphans places =
    places d.disk (λ j. eq-eqb d.disk d.disk refl j || is_among eqb d.disk (numbers_of disks))

-- they are known as they are recorded
pub orphans_left : (i : Inst) (disks : List DiskRow) (orphans : List (ℕ × Option LooseDisk)) (known : ℕ → Option Orphan)
    → HavePlaces orphans disks
    → ((x : ℕ) → option_map (λ loose. loose.orphan) (thing_in nat_cmp orphans x) ≡ known x) → (x : ℕ)
    → option_map (λ loose. loose.orphan) (thing_in nat_cmp (with_orphans (orphans_of i disks) orphans) x)
    ≡ orphans_after i disks known x
orphans_left i [] orphans known places are x = are x
orphans_left i (d ∷ disks) orphans known places are x =
    orphans_left i disks (with_loose orphans (orphan_of i d)) (at eqb d.disk (Some (orphan_of i d)) known)
    (places_go_on i d disks orphans places) one x
  where
    one : (x : ℕ) → option_map (λ loose. loose.orphan) (thing_in nat_cmp (with_loose orphans (orphan_of i d)) x)
        ≡ at eqb d.disk (Some (orphan_of i d)) known x
    one x = ap (option_map (λ loose. loose.orphan))
        (thing_one i d orphans (first_place d disks orphans places) x) ∙ by (eqb d.disk x)
      where
        by : (b : Bool)
            → option_map (λ (loose : LooseDisk). loose.orphan)
            (if b then Some (loose (orphan_of i d)) else thing_in nat_cmp orphans x)
            ≡ (if b then Some (orphan_of i d) else known x)
        by true = refl
        by false = are x

-- another disk is as it was
pub others_known : (i : Inst) (disks : List DiskRow) (known : ℕ → Option Orphan) (x : ℕ)
    → is_among eqb x (numbers_of disks) ≡ false → orphans_after i disks known x ≡ known x
others_known i [] known x none = refl
others_known i (d ∷ disks) known x none = by (eqb x d.disk) refl none
    (others_known i disks (at eqb d.disk (Some (orphan_of i d)) known) x)
  where
    by : (b : Bool) → eqb x d.disk ≡ b → (b || is_among eqb x (numbers_of disks)) ≡ false
        → (is_among eqb x (numbers_of disks) ≡ false
        → orphans_after i disks (at eqb d.disk (Some (orphan_of i d)) known) x
        ≡ at eqb d.disk (Some (orphan_of i d)) known x)
        → orphans_after i disks (at eqb d.disk (Some (orphan_of i d)) known) x ≡ known x
    by true is none more = absurd (false≢true (sym none))
    by false other none more =
        more none
        ∙ (λ j. if (eqb_flip d.disk x ∙ other) j then Some (orphan_of i d) else known x)

pub others_left : (i : Inst) (disks : List DiskRow) (orphans : List (ℕ × Option LooseDisk)) → HavePlaces orphans disks
    → (x : ℕ) → is_among eqb x (numbers_of disks) ≡ false
    → thing_in nat_cmp (with_orphans (orphans_of i disks) orphans) x ≡ thing_in nat_cmp orphans x
others_left i [] orphans places x none = refl
others_left i (d ∷ disks) orphans places x none = by (eqb x d.disk) refl none
    (others_left i disks (with_loose orphans (orphan_of i d)) (places_go_on i d disks orphans places) x)
  where
    by : (b : Bool) → eqb x d.disk ≡ b → (b || is_among eqb x (numbers_of disks)) ≡ false
        → (is_among eqb x (numbers_of disks) ≡ false
        → thing_in nat_cmp (with_orphans (orphans_of i disks) (with_loose orphans (orphan_of i d))) x
        ≡ thing_in nat_cmp (with_loose orphans (orphan_of i d)) x)
        → thing_in nat_cmp (with_orphans (orphans_of i disks) (with_loose orphans (orphan_of i d))) x
        ≡ thing_in nat_cmp orphans x
    by true is none more = absurd (false≢true (sym none))
    by false other none more =
        more none
        ∙ thing_one i d orphans (first_place d disks orphans places) x
        ∙ (λ j. if (eqb_flip d.disk x ∙ other) j then Some (loose (orphan_of i d)) else thing_in nat_cmp orphans x)

-- each of them is there, and nothing else is said of it
pub record IsLoose (o : Option LooseDisk) : Type 0 where
  pub orphan : Orphan
  pub is : o ≡ Some (loose orphan)

pub these_left : (i : Inst) (disks : List DiskRow) (orphans : List (ℕ × Option LooseDisk)) → HavePlaces orphans disks
    → (x : ℕ) → is_among eqb x (numbers_of disks) ≡ true
    → IsLoose (thing_in nat_cmp (with_orphans (orphans_of i disks) orphans) x)
these_left i [] orphans places x among = absurd (false≢true among)
these_left i (d ∷ disks) orphans places x among =
    by (is_among eqb x (numbers_of disks)) refl (eqb x d.disk) refl among
    (these_left i disks (with_loose orphans (orphan_of i d)) (places_go_on i d disks orphans places) x)
  where
    more : HavePlaces (with_loose orphans (orphan_of i d)) disks
    more = places_go_on i d disks orphans places

    by : (a : Bool) → is_among eqb x (numbers_of disks) ≡ a → (b : Bool) → eqb x d.disk ≡ b → (b || a) ≡ true
        → (is_among eqb x (numbers_of disks) ≡ true
        → IsLoose (thing_in nat_cmp (with_orphans (orphans_of i disks) (with_loose orphans (orphan_of i d))) x))
        → IsLoose (thing_in nat_cmp (with_orphans (orphans_of i disks) (with_loose orphans (orphan_of i d))) x)
    by true among b is either later = later among
    by false none true is either later = record {
      orphan = orphan_of i d;
      is =
          others_left i disks (with_loose orphans (orphan_of i d)) more x none
          ∙ thing_one i d orphans (first_place d disks orphans places) x
          ∙ (λ j. if (eqb_flip d.disk x ∙ is) j then Some (loose (orphan_of i d)) else thing_in nat_cmp orphans x);
    }
    by false none false is either later = absurd (false≢true either)

-- ---- the room that is made for them

room_stays : (left : List Orphan) (orphans : List (ℕ × Option LooseDisk)) (x : ℕ)
    → is_some (found nat_cmp orphans x) ≡ true → is_some (found nat_cmp (fold disk_room orphans left) x) ≡ true
room_stays [] orphans x there = there
room_stays (orphan ∷ left) orphans x there =
    room_stays left (disk_room orphans orphan) x (found_roomy nat_cmp nat_keys orphan.disk None orphans x there)

pub room_left : (i : Inst) (disks : List DiskRow) (orphans : List (ℕ × Option LooseDisk))
    → HavePlaces (fold disk_room orphans (orphans_of i disks)) disks
room_left i [] orphans x among = absurd (false≢true among)
room_left i (d ∷ disks) orphans x among =
    by (eqb x d.disk) refl among (room_left i disks (with_room nat_cmp d.disk None orphans) x)
  where
    by : (b : Bool) → eqb x d.disk ≡ b → (b || is_among eqb x (numbers_of disks)) ≡ true
        → (is_among eqb x (numbers_of disks) ≡ true
        → is_some (found nat_cmp (fold disk_room (with_room nat_cmp d.disk None orphans) (orphans_of i disks)) x) ≡ true)
        → is_some (found nat_cmp (fold disk_room (with_room nat_cmp d.disk None orphans) (orphans_of i disks)) x) ≡ true
    by true is among more = room_stays (orphans_of i disks) (with_room nat_cmp d.disk None orphans) x
        (ap (λ x. is_some (found nat_cmp (with_room nat_cmp d.disk None orphans) x)) (eqb-true x d.disk is)
        ∙ there_roomy nat_cmp nat_keys d.disk None orphans (nat_at d.disk d.disk ∙ eq-eqb d.disk d.disk refl))
    by false other among more = more among

-- ---- some of them

fewer : (d : ℕ) (keep : DiskRow → Bool) (disks : List DiskRow) → is_among eqb d (numbers_of disks) ≡ false
    → is_among eqb d (numbers_of (filter keep disks)) ≡ false
fewer d keep [] none = refl
fewer d keep (it ∷ disks) none = by (keep it) (eqb d it.disk) refl none (fewer d keep disks)
  where
    by : (k b : Bool) → eqb d it.disk ≡ b → (b || is_among eqb d (numbers_of disks)) ≡ false
        → (is_among eqb d (numbers_of disks) ≡ false → is_among eqb d (numbers_of (filter keep disks)) ≡ false)
        → is_among eqb d (numbers_of (if k then it ∷ filter keep disks else filter keep disks)) ≡ false
    by k true is none more = absurd (false≢true (sym none))
    by true false is none more = λ j. is j || more none j
    by false false is none more = more none

-- fewer disks may be left behind where all may
pub fewer_left : (told : Told) (keep : DiskRow → Bool) (disks : List DiskRow) → AllowsLeft told disks
    → AllowsLeft told (filter keep disks)
fewer_left told keep disks allows = record {
  idle = λ d among. allows.idle d (all d among);
  unlisted = λ t j d going is. fewer d keep disks (allows.unlisted t j d going is);
}
  where
    all : (d : ℕ) → is_among eqb d (numbers_of (filter keep disks)) ≡ true
        → is_among eqb d (numbers_of disks) ≡ true
    all d among = by (is_among eqb d (numbers_of disks)) refl
      where
        by : (b : Bool) → is_among eqb d (numbers_of disks) ≡ b → is_among eqb d (numbers_of disks) ≡ true
        by true is = is
        by false none = absurd (false≢true (sym (fewer d keep disks none) ∙ among))
