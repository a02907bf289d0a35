-- A migration that is to be made is from the active disk of the row to a new one, which is then the active one; and a disk
-- is created beside an active one only where that is not right.
use Rattle.std.proofs.Common.{◌≡◌, ◌∙◌, ℕ, Bool, true, false, ◌&&◌, not, Option, Some, None, List, ap, refl, sym}
use Rattle.std.specs.Prelude.{◌==◌, map}
use Rattle.std.specs.List.{list_any}
use Rattle.std.specs.Option.{option_and_then, option_map}
use Rattle.std.proofs.lemmas.Bool.{and_from, and_parts, eq-eqb, eqb-true, false≢true}
use Rattle.bosh_base.specs.declared.call.Call.{Call}
use Rattle.bosh_base.specs.declared.call.Call.TheVariants as calls
use Rattle.bosh_base.specs.declared.disk_want.DiskWant.{DiskWant}
use Rattle.bosh_base.specs.declared.goal.GoalRow.{GoalRow}
use Rattle.bosh_base.specs.declared.row.DiskRow.{DiskRow}
use Rattle.bosh_base.specs.declared.row.Row.{Row}
use Rattle.bosh_history.specs.DiskContents.{is_wrong}
use Rattle.bosh_history.specs.Words.{holds}
use Rattle.bosh_rows.specs.After.{migrated_disks}
use Rattle.bosh_rows.specs.CallOf.{next_call}
use Rattle.bosh_rows.specs.Disks.{active, coming, is_active, is_new, is_right}
use Rattle.laws_disk_contents.proofs.ActiveLemmas.{active_number}
use Rattle.laws_kept_facts.proofs.CallCases.{by_all}
use Rattle.laws_rows.proofs.ListLemmas.{IsFound, IsIn, active_found, active_none, all_in, any_in}
use Rattle.laws_rows.proofs.MigrationLemmas.{AreTwo, migrated-map, moved, moved-from, moved-number, moved-other, moved-to, two_of}
use Rattle.laws_rows.proofs.NewDiskLemmas.{in-map, map-in}
use Rattle.laws_rows.proofs.StepCases.{Cases}
use Rattle.laws_rows.proofs.StopLemmas.{only_active}
use Rattle.laws_rows.specs.SoundDisks.{are_distinct, are_sound, has_one_active}

-- ---- the disk that contents are moved to becomes active

module _ (wanted : DiskWant) (xs : List DiskRow) (old new : DiskRow) (one : has_one_active xs ≡ true)
    (was : active xs ≡ Some old) (two : AreTwo wanted xs old new) where
  abbrev move : DiskRow → DiskRow
  move = moved old.disk new.disk

  not_old : (b : Bool) → (new.disk == old.disk) ≡ b → b ≡ false
  not_old true same =
      absurd
      (false≢true
      (sym two.apart ∙ eq-eqb old.disk new.disk (sym (eqb-true new.disk old.disk same))))
  not_old false other = refl

  by_disk : (a d : DiskRow) → is_active a ≡ true → IsIn d xs → move d ≡ a → (from to : Bool)
      → (d.disk == old.disk) ≡ from → (d.disk == new.disk) ≡ to → a.disk ≡ new.disk
  by_disk a d role is same from true here too =
      sym (ap (λ (x : DiskRow). x.disk) same) ∙ (moved-number old.disk new.disk d ∙ eqb-true d.disk new.disk too)
  by_disk a d role is same true false here too =
      absurd
      (false≢true (sym (ap is_active (sym same ∙ moved-from old.disk new.disk d here too)) ∙ role))
  by_disk a d role is same false false here too =
      let it : d ≡ a = sym (moved-other old.disk new.disk d here too) ∙ same in
      let only : d ≡ old = only_active xs one old d was is (ap is_active it ∙ role) in
      absurd (false≢true (sym here ∙ eq-eqb d.disk old.disk (ap (λ (x : DiskRow). x.disk) only)))

  moved_active : active_number (map move xs) ≡ Some new.disk
  moved_active = by (active (map move xs)) refl
    where
      by : (a : Option DiskRow) → active (map move xs) ≡ a → option_map (λ (d : DiskRow). d.disk) a ≡ Some new.disk
      by (Some a) now =
          let found : IsFound is_active a (map move xs) = active_found a (map move xs) now in
          let from : (d : DiskRow) × (IsIn d xs × (move d ≡ a)) = map-in move a xs found.is_in in
          ap Some
          (by_disk a from.0 found.meets from.1.0 from.1.1 (from.0.disk == old.disk) (from.0.disk == new.disk) refl refl)
      by None none =
          absurd
          (false≢true
          (sym (ap not
          (ap is_active
          (moved-to old.disk new.disk new (not_old (new.disk == old.disk) refl) (eq-eqb new.disk new.disk refl))))
          ∙ all_in (λ d. not (is_active d)) (move new) (map move xs) (active_none (map move xs) none)
          (in-map move new xs two.new_in)))

-- ---- calls of a row

-- the contents are to be moved from the active disk to a new one, which is then active
pub record Moves (row : Row) (from to : ℕ) : Type 0 where
  pub was : active_number row.disks ≡ Some from
  pub is_new : list_any (λ it. it.disk == to && is_new it) row.disks ≡ true
  pub now : active_number (migrated_disks from to row.disks) ≡ Some to

-- a disk is created beside an active one only where that is not right
pub record Creates (want : Option GoalRow) (row : Row) : Type 0 where
  pub wrong : (d : DiskRow) → active row.disks ≡ Some d → (w : GoalRow) × (want ≡ Some w) × (is_wrong want d ≡ true)

abbrev pub MovesOn : Option GoalRow → Row → Call → Type 0
MovesOn want row (calls.MigrateDisk v from to) = Moves row from to
MovesOn want row (calls.CreateDisk wanted v) = Creates want row
MovesOn want row call = Unit {0}

module _ (want : Option GoalRow) (row : Row) (sound : are_sound row.disks ≡ true) where
  parts : (are_distinct row.disks ≡ true) × (has_one_active row.disks ≡ true)
  parts = and_parts (are_distinct row.disks) (has_one_active row.disks) sound

  moves : (w : GoalRow) (v : ℕ) (wanted : DiskWant) (old new : DiskRow) → active row.disks ≡ Some old
      → is_right wanted old ≡ false → coming (Some wanted) row.disks ≡ Some new → Moves row old.disk new.disk
  moves w v wanted old new was wrong comes =
      let two : AreTwo wanted row.disks old new = two_of wanted row.disks old new parts.0 was wrong comes in
      record {
        was = ap (option_map (λ (d : DiskRow). d.disk)) was;
        is_new =
            any_in (λ it. it.disk == new.disk && is_new it) new row.disks two.new_in
            (and_from (new.disk == new.disk) (is_new new) (eq-eqb new.disk new.disk refl) two.is_new);
        now =
            ap active_number (migrated-map old.disk new.disk row.disks)
            ∙ moved_active wanted row.disks old new parts.1 was two;
      }

  one : {X : Type 0} (a b : X) → Some a ≡ Some b → a ≡ b
  one a b same = cc

  known_moves : Cases (MovesOn want row) want row
  known_moves = record {
    remove_drain = λ it has away runs off. tt;
    remove_stop = λ it has away runs off. tt;
    remove_unmount = λ it d has away rests first. tt;
    remove_detach = λ it d has away rests none first. tt;
    remove_delete = λ it has away rests none too. tt;
    create = λ w wants none here. tt;
    tend_drain = λ w it wants has stays runs halts off. tt;
    tend_stop = λ w it wants has stays runs halts off. tt;
    clear_unmount = λ w it d wants tended first. tt;
    clear_detach = λ w it d wants tended none first. tt;
    release_unmount = λ w it d wants cleared nothing first. tt;
    release_detach = λ w it d wants cleared nothing none first. tt;
    provide = λ w it wanted wants cleared disk none. record {
      wrong = λ d is. absurd (let both : None ≡ Some d = sym none ∙ is in cc);
    };
    place_attach = λ w it wanted old wants cleared disk was off. tt;
    place_mount = λ w it wanted old wants cleared disk was on off. tt;
    replace_create = λ w it wanted old wants replaced none. record {
      wrong = λ d is. (
        w,
        wants,
        (λ j. not (holds (λ it. is_right it (one d old (sym is ∙ replaced.is_active) j))
            (option_and_then (λ (g : GoalRow). g.disk) (wants j))))
            ∙ ((λ j. not (holds (λ it. is_right it old) (replaced.wants j))) ∙ ap not replaced.wrong),
      );
    };
    replace_attach = λ w it wanted old new wants replaced comes off. tt;
    replace_mount = λ w it wanted old new wants replaced comes on off. tt;
    replace_migrate = λ w it wanted old new wants replaced comes on up.
        moves w it.vm wanted old new replaced.is_active replaced.wrong comes;
    apply = λ w it wants cleared differs. tt;
    start = λ w it wants cleared disks spec runs rests. tt;
  }

  pub moves_on : (call : Call) → next_call want row ≡ Some call → MovesOn want row call
  moves_on call next =
      by_all (MovesOn want row) want row
      (record {
        known = λ found known. known_moves;
        deletes = λ it lost has. tt;
        there = λ it m v has doubts. tt;
        finds_vm = λ m make hint found doubts. tt;
        finds_disk = λ m wanted v doubts. tt;
        lists = λ it m v x found has doubts. tt;
        shows = λ it m v x found has doubts. tt;
        tells = λ it m c found has doubts state. tt;
      }) call next
