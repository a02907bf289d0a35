-- How orphaned disks are listed (bosh.io, "CLI v2", disks).
use Rattle.std.specs.Prelude.{ℕ, List, [], ◌∷◌, ◌++◌, Option, is_some, option_map}
use Rattle.std.specs.Option.{option_to_list}
use Rattle.bosh_base.specs.declared.reply.OrphanLine.{OrphanLine}
use Rattle.bosh_base.specs.declared.snapshot.Orphan.{Orphan}
use Rattle.bosh_records.specs.declared.orphans.LooseDisk.{LooseDisk}

abbrev pub orphan_line : Orphan → OrphanLine
orphan_line it = record {
  disk = it.disk;
  size = it.want.size;
  inst = it.inst;
  doubt = is_some it.doubt;
}

abbrev pub loose_line : LooseDisk → OrphanLine
loose_line it = orphan_line it.orphan

-- of those that are there still
abbrev pub orphan_lines : List (ℕ × Option LooseDisk) → List OrphanLine
orphan_lines [] = []
orphan_lines (it ∷ others) = option_to_list (option_map loose_line it.1) ++ orphan_lines others
