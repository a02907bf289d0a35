-- A disk that is there was created for an instance, whose row and the orphans have it once.
use Rattle.std.proofs.Common.{◌≡◌, ◌∙◌, ℕ, ◌+◌, ◌≤◌, Bool, true, false, Option, Some, None, List, [], ◌∷◌, refl, sym}
use Rattle.std.proofs.Common.{inl, inr, arith, cond}
use Rattle.std.specs.Prelude.{◌⊎◌, ◌==◌, count_by, is_some, not, ◌||◌}
use Rattle.std.specs.List.{list_all}
use Rattle.std.proofs.lemmas.List.Sums.{sum_by-cons}
use Rattle.std.proofs.lemmas.Bool.{and_parts, eq-eqb, eqb-true, false≢true, or_cases, or_left, or_right}
use Rattle.bosh_base.specs.Cloud.{disk_creation, is_disk_there}
use Rattle.bosh_base.specs.declared.disk_want.DiskWant.{DiskWant}
use Rattle.bosh_base.specs.declared.entry.Effect.{Effect}
use Rattle.bosh_base.specs.declared.entry.Entry.{Entry}
use Rattle.bosh_base.specs.declared.inst.Inst.{Inst}
use Rattle.bosh_base.specs.declared.owner.Owner.{Owner}
use Rattle.bosh_base.specs.declared.owner.Owner.TheVariants.{Compile, Disk, Instance}
use Rattle.bosh_base.specs.declared.row.DiskRow.{DiskRow}
use Rattle.bosh_base.specs.declared.row.Row.{Row}
use Rattle.bosh_base.specs.declared.snapshot.Orphan.{Orphan}
use Rattle.bosh_history.specs.Moments.{Moment}
use Rattle.bosh_history.specs.Ties.{is_making}
use Rattle.bosh_rows.specs.Same.{same_owner}
use Rattle.bosh_rows.specs.Tied.{is_disk_kept, is_made_for, one_if, was_provided}
use Rattle.laws_answered_rows.proofs.OwnLemmas.{created_parts}
use Rattle.laws_facts.specs.Disks.{is_counted_by, is_recorded_once, times_recorded}
use Rattle.laws_facts.specs.Facts.{Holds}
use Rattle.laws_items.proofs.OwnerLemmas.{same_owner_is}
use Rattle.laws_rows.specs.SoundDisks.{is_recorded}

-- ---- the fact in parts

-- how often the row has the disk, one that the call in doubt made counted
abbrev pub times : Row → ℕ → ℕ → ℕ
times row d tag = count_by (λ (it : DiskRow). it.disk == d) row.disks + one_if (is_making tag row.doubt)

-- it was created for an instance, whose row and the orphans have it once
pub record Counted (xs : List Entry) (rows : Inst → Row) (orphan : Bool) (d : ℕ) : Type 0 where
  pub effect : Effect
  pub made : disk_creation xs d ≡ Some effect
  pub inst : Inst
  pub owner : effect.owner ≡ Instance inst
  pub once : times (rows inst) d effect.n + one_if orphan ≡ 1

pub counted : (xs : List Entry) (rows : Inst → Row) (orphan : Bool) (d : ℕ)
    → is_recorded_once xs rows orphan d ≡ true → is_disk_there xs d ≡ true → Counted xs rows orphan d
counted xs rows orphan d is there =
    by (or_cases (not (is_disk_there xs d)) (is_counted_by rows orphan d (disk_creation xs d)) is)
  where
    of_owner : (e : Effect) → disk_creation xs d ≡ Some e → (owner : Owner) → e.owner ≡ owner
        → is_counted_by rows orphan d (Some (record e { owner = owner })) ≡ true → Counted xs rows orphan d
    of_owner e made (Instance i) own is = record {
      effect = e;
      made = made;
      inst = i;
      owner = own;
      once = eqb-true (times_recorded (rows i) orphan d e.n) 1 is;
    }
    of_owner e made (Compile t s) own is = absurd (false≢true is)
    of_owner e made (Disk disk) own is = absurd (false≢true is)

    of : (o : Option Effect) → disk_creation xs d ≡ o → is_counted_by rows orphan d o ≡ true
        → Counted xs rows orphan d
    of (Some e) made is = of_owner e made e.owner refl is
    of None made is = absurd (false≢true is)

    by : (not (is_disk_there xs d) ≡ true) ⊎ (is_counted_by rows orphan d (disk_creation xs d) ≡ true)
        → Counted xs rows orphan d
    by (inl gone) = absurd (false≢true ((λ j. not (sym there j)) ∙ gone))
    by (inr is) = of (disk_creation xs d) refl is

pub recorded : (xs : List Entry) (rows : Inst → Row) (orphan : Bool) (d : ℕ)
    → (is_disk_there xs d ≡ true → Counted xs rows orphan d) → is_recorded_once xs rows orphan d ≡ true
recorded xs rows orphan d counts = by (is_disk_there xs d) refl
  where
    of : Counted xs rows orphan d → is_counted_by rows orphan d (disk_creation xs d) ≡ true
    of it =
        (λ j. is_counted_by rows orphan d (it.made j))
        ∙ ((λ j. is_counted_by rows orphan d (Some (record it.effect { owner = it.owner j })))
        ∙ eq-eqb (times_recorded (rows it.inst) orphan d it.effect.n) 1 it.once)

    by : (there : Bool) → is_disk_there xs d ≡ there → is_recorded_once xs rows orphan d ≡ true
    by true there = or_right (not (is_disk_there xs d)) _ (of (counts there))
    by false gone = or_left (not (is_disk_there xs d)) _ (λ j. not (gone j))

-- ---- a disk that is recorded

-- how many of the disks have the number
abbrev pub count : ℕ → List DiskRow → ℕ
count d disks = count_by (λ (it : DiskRow). it.disk == d) disks

pub count-cons : (d : ℕ) (it : DiskRow) (disks : List DiskRow)
    → count d (it ∷ disks) ≡ one_if (it.disk == d) + count d disks
count-cons d it disks =
    sum_by-cons (λ (it : DiskRow). cond {A = ℕ} (it.disk == d) 1 0) it disks
    ∙ (λ j. by (it.disk == d) j + count d disks)
  where
    by : (b : Bool) → cond {A = ℕ} b 1 0 ≡ one_if b
    by true = refl
    by false = refl

pub count_recorded : (disks : List DiskRow) (d : ℕ) → is_recorded disks d ≡ true → 1 ≤ count d disks
count_recorded [] d is = absurd (false≢true is)
count_recorded (it ∷ disks) d is = by (it.disk == d) refl is (count_recorded disks d)
  where
    by : (same : Bool) → (it.disk == d) ≡ same → (same || is_recorded disks d) ≡ true
        → (is_recorded disks d ≡ true → 1 ≤ count d disks) → 1 ≤ count d (it ∷ disks)
    by true same is rest =
        let whole : count d (it ∷ disks) ≡ 1 + count d disks =
        count-cons d it disks ∙ (λ j. one_if (same j) + count d disks) in omega arith
    by false other is rest =
        let whole : count d (it ∷ disks) ≡ 0 + count d disks =
        count-cons d it disks ∙ (λ j. one_if (other j) + count d disks) in
        let more : 1 ≤ count d disks = rest is in omega arith

pub count_unrecorded : (disks : List DiskRow) (d : ℕ) → is_recorded disks d ≡ false → count d disks ≡ 0
count_unrecorded [] d none = refl
count_unrecorded (it ∷ disks) d none = by (it.disk == d) refl none (count_unrecorded disks d)
  where
    by : (same : Bool) → (it.disk == d) ≡ same → (same || is_recorded disks d) ≡ false
        → (is_recorded disks d ≡ false → count d disks ≡ 0) → count d (it ∷ disks) ≡ 0
    by true same none rest = absurd (false≢true (sym none))
    by false other none rest =
        let whole : count d (it ∷ disks) ≡ 0 + count d disks =
        count-cons d it disks ∙ (λ j. one_if (other j) + count d disks) in
        let left : count d disks ≡ 0 = rest none in omega arith

-- it is there, and was made for the instance
pub record Kept (xs : List Entry) (i : Inst) (d : ℕ) : Type 0 where
  pub there : is_disk_there xs d ≡ true
  pub made : is_made_for (Instance i) (disk_creation xs d) ≡ true

provided_for : (owner : Owner) (tag : ℕ) (want : DiskWant) (o : Option Effect) → was_provided owner tag want o ≡ true
    → is_made_for owner o ≡ true
provided_for owner tag want (Some e) was = (and_parts (same_owner e.owner owner) _ was).0
provided_for owner tag want None was = absurd (false≢true was)

pub kept_of : (xs : List Entry) (row : Row) (disks : List DiskRow) (d : ℕ)
    → list_all (is_disk_kept xs row) disks ≡ true → is_recorded disks d ≡ true → Kept xs row.inst d
kept_of xs row [] d all is = absurd (false≢true is)
kept_of xs row (it ∷ disks) d all is =
    let parts : (is_disk_kept xs row it ≡ true) × (list_all (is_disk_kept xs row) disks ≡ true) =
    and_parts (is_disk_kept xs row it) (list_all (is_disk_kept xs row) disks) all in
    by parts.0 (or_cases (it.disk == d) (is_recorded disks d) is) (kept_of xs row disks d parts.1)
  where
    by : is_disk_kept xs row it ≡ true → ((it.disk == d) ≡ true) ⊎ (is_recorded disks d ≡ true)
        → (is_recorded disks d ≡ true → Kept xs row.inst d) → Kept xs row.inst d
    by kept (inl same) rest =
        let one : it.disk ≡ d = eqb-true it.disk d same in
        let (there, was) = and_parts (is_disk_there xs it.disk) _ kept in
        record {
          there = (λ j. is_disk_there xs (sym one j)) ∙ there;
          made =
              (λ j. is_made_for (Instance row.inst) (disk_creation xs (sym one j)))
              ∙ provided_for (Instance row.inst) it.tag it.want (disk_creation xs it.disk) was;
        }
    by kept (inr more) rest = rest more

-- ---- at a moment

-- whom the disk was created for
pub same_maker : (xs : List Entry) (d : ℕ) (e : Effect) (i j : Inst) → disk_creation xs d ≡ Some e
    → e.owner ≡ Instance i → is_made_for (Instance j) (disk_creation xs d) ≡ true → i ≡ j
same_maker xs d e i j made own is =
    let same : e.owner ≡ Instance j =
    same_owner_is e.owner (Instance j) (sym (λ l. is_made_for (Instance j) (made l)) ∙ is) in
    let both : Instance i ≡ Instance j = sym own ∙ same in cc

module _ (m : Moment) (h : Holds m) where
  -- what is recorded in a row is there, and its
  pub row_kept : (i : Inst) (d : ℕ) → is_recorded (m.known.row i).disks d ≡ true → Kept m.effects i d
  row_kept i d is =
      let it : Kept m.effects (m.known.row i).inst d =
      kept_of m.effects (m.known.row i) (m.known.row i).disks d (created_parts m.effects (m.known.row i)
      (h.rows i).created).kept is in
      record {
        there = it.there;
        made =
            (λ j. is_made_for (Instance (sym (h.known.lists.own_row i) j)) (disk_creation m.effects d)) ∙ it.made;
      }

  -- so an orphaned disk is in no row
  pub unrecorded : (d : ℕ) (it : Orphan) → m.known.orphan d ≡ Some it → (i : Inst)
      → is_recorded (m.known.row i).disks d ≡ false
  unrecorded d it is i = by (is_recorded (m.known.row i).disks d) refl
    where
      by : (there : Bool) → is_recorded (m.known.row i).disks d ≡ there → there ≡ false
      by false none = refl
      by true there =
          let kept : Kept m.effects i d = row_kept i d there in
          let it : Counted m.effects m.known.row true d =
          counted m.effects m.known.row true d
          ((λ j. is_recorded_once m.effects m.known.row (is_some (sym is j)) d) ∙ (h.disks d).once) kept.there in
          let same : it.inst ≡ i = same_maker m.effects d it.effect it.inst i it.made it.owner kept.made in
          let once : times (m.known.row i) d it.effect.n + 1 ≡ 1 =
          sym (λ j. times (m.known.row (same j)) d it.effect.n + 1) ∙ it.once in
          let more : 1 ≤ count d (m.known.row i).disks =
          count_recorded (m.known.row i).disks d there in
          absurd (omega arith)
