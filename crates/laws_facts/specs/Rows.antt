-- Which facts on one row and the cloud are broken.
use Rattle.std.specs.Prelude.{ℕ, List, ◌++◌, codes}
use Rattle.bosh_base.specs.declared.entry.Entry.{Entry}
use Rattle.bosh_base.specs.declared.row.Row.{Row}
use Rattle.laws_facts.specs.Words.{unless}
use Rattle.laws_row_facts.specs.Rows.{are_disks_in_order, has_machine_as_needed, holds_its_disks, is_created_as_recorded}
use Rattle.laws_row_facts.specs.Rows.{is_deleted_bare, is_lost_rightly}
use Rattle.laws_rows.specs.Rightful.{is_doubt_fit}
use Rattle.laws_rows.specs.SoundDisks.{are_sound}
use Rattle.bosh_rows.specs.Tied.{has_room_for_disks, is_tied_row}

-- the names of those that do not hold
abbrev pub row_broken : List Entry → Row → List (List ℕ)
row_broken effects row =
    unless (codes "doubt fits") (is_doubt_fit row row.doubt)
    ++ unless (codes "has machine") (has_machine_as_needed row)
    ++ unless (codes "sound disks") (are_sound row.disks)
    ++ unless (codes "has room") (has_room_for_disks row)
    ++ unless (codes "deleted bare") (is_deleted_bare row)
    ++ unless (codes "in order") (are_disks_in_order effects row)
    ++ unless (codes "created") (is_created_as_recorded effects row)
    ++ unless (codes "tied") (is_tied_row effects row)
    ++ unless (codes "holds disks") (holds_its_disks effects row)
    ++ unless (codes "lost silent") (is_lost_rightly effects row)
