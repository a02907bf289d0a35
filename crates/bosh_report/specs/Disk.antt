-- The line of an orphaned disk (this project's profile).
use Rattle.std.specs.Prelude.{ℕ, List, ◌++◌, codes, decimal, if◌then◌else◌}
use Rattle.bosh_base.specs.declared.reply.OrphanLine.{OrphanLine}
use Rattle.bosh_report.specs.Owner.{disk_name, inst_text}

-- `disk-N SIZE INST`, and ` doubt` where its deletion is in doubt
abbrev pub orphan_line : OrphanLine → List ℕ
orphan_line line =
    disk_name line.disk ++ codes " " ++ decimal line.size ++ codes " " ++ inst_text line.inst
    ++ (if line.doubt then codes " doubt\n" else codes "\n")
