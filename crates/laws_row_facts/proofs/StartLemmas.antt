-- Each fact holds where nothing was done and nothing is recorded, and its tests are the facts.
use Rattle.std.proofs.Common.{◌≡◌, true, List, [], refl}
use Rattle.std.proofs.lemmas.Bool.{and_parts}
use Rattle.bosh_base.specs.declared.entry.Entry.{Entry}
use Rattle.bosh_base.specs.declared.inst.Inst.{Inst}
use Rattle.bosh_base.specs.declared.row.Row.{Row}
use Rattle.laws_row_facts.specs.Cloud.{CloudFacts}
use Rattle.laws_row_facts.specs.Rows.{RowFacts, are_disks_in_order, are_row_facts, has_machine_as_needed, holds_its_disks, is_created_as_recorded, is_deleted_bare}
use Rattle.laws_rows.specs.Answered.{has_room_for_disks}
use Rattle.laws_rows.specs.Rightful.{is_doubt_fit}
use Rattle.laws_rows.specs.SoundDisks.{are_sound}
use Rattle.bosh_rows.specs.After.{bare}
use Rattle.bosh_rows.specs.Tied.{is_tied_row}

pub start_cloud : CloudFacts []
start_cloud = record {
  orderly = tt;
  lost_of_instances = λ v. refl;
  held_by_own = λ d v is. absurd cc;
}

-- a bare row has the facts where it is tied
pub bare_row : (xs : List Entry) (i : Inst) → is_tied_row xs (bare i) ≡ true → RowFacts xs (bare i)
bare_row xs i tied = record {
  doubt_fits = refl;
  has_machine = refl;
  sound_disks = refl;
  has_room = refl;
  deleted_bare = refl;
  in_order = refl;
  created = refl;
  tied = tied;
  holds_disks = refl;
  lost_silent = refl;
}

pub start_row : (i : Inst) → RowFacts [] (bare i)
start_row i = bare_row [] i refl

-- what meets the tests has the facts
pub tested_row : (xs : List Entry) (row : Row) → are_row_facts xs row ≡ true → RowFacts xs row
tested_row xs row is =
    let a : (is_doubt_fit row row.doubt ≡ true) × _ = and_parts (is_doubt_fit row row.doubt) _ is in
    let b : (has_machine_as_needed row ≡ true) × _ = and_parts (has_machine_as_needed row) _ a.1 in
    let c : (are_sound row.disks ≡ true) × _ = and_parts (are_sound row.disks) _ b.1 in
    let d : (has_room_for_disks row ≡ true) × _ = and_parts (has_room_for_disks row) _ c.1 in
    let e : (is_deleted_bare row ≡ true) × _ = and_parts (is_deleted_bare row) _ d.1 in
    let f : (are_disks_in_order xs row ≡ true) × _ = and_parts (are_disks_in_order xs row) _ e.1 in
    let g : (is_created_as_recorded xs row ≡ true) × _ = and_parts (is_created_as_recorded xs row) _ f.1 in
    let h : (is_tied_row xs row ≡ true) × _ = and_parts (is_tied_row xs row) _ g.1 in
    let i : (holds_its_disks xs row ≡ true) × _ = and_parts (holds_its_disks xs row) _ h.1 in record {
      doubt_fits = a.0;
      has_machine = b.0;
      sound_disks = c.0;
      has_room = d.0;
      deleted_bare = e.0;
      in_order = f.0;
      created = g.0;
      tied = h.0;
      holds_disks = i.0;
      lost_silent = i.1;
    }
