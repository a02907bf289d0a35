-- What is kept of the disks of every row: none stands twice, and at most one is active (this project's profile).
use Rattle.std.specs.Prelude.{ℕ, Bool, true, not, nat_le, ◌&&◌, ◌==◌, Option, Some, None, List, [], ◌∷◌, count_by}
use Rattle.std.specs.List.{list_any}
use Rattle.bosh_base.specs.CallStep.{found_disk}
use Rattle.bosh_base.specs.declared.call.Call.{Call}
use Rattle.bosh_base.specs.declared.call.Call.TheVariants.{CreateDisk}
use Rattle.bosh_base.specs.declared.entry.Entry.{Entry}
use Rattle.bosh_base.specs.declared.row.DiskRow.{DiskRow}
use Rattle.bosh_base.specs.declared.row.Doubt.{Doubt}
use Rattle.bosh_base.specs.declared.row.Row.{Row}
use Rattle.bosh_rows.specs.Disks.{is_active}

-- one of the disks has the number
abbrev pub is_recorded : List DiskRow → ℕ → Bool
is_recorded disks number = list_any (λ d. d.disk == number) disks

abbrev pub are_distinct : List DiskRow → Bool
are_distinct [] = true
are_distinct (d ∷ disks) = not (is_recorded disks d.disk) && are_distinct disks

abbrev pub has_one_active : List DiskRow → Bool
has_one_active disks = nat_le (count_by is_active disks) 1

abbrev pub are_sound : List DiskRow → Bool
are_sound disks = are_distinct disks && has_one_active disks

-- nor does the one twice that the call in doubt made
abbrev pub is_new_disk : List DiskRow → Option ℕ → Bool
is_new_disk disks (Some number) = not (is_recorded disks number)
is_new_disk disks None = true

abbrev pub is_found_new : List Entry → Row → Bool
is_found_new effects row = by_doubt row.doubt
  where
    by_call : ℕ → Call → Bool
    by_call n (CreateDisk want vm) = is_new_disk row.disks (found_disk effects n)
    by_call n call = true

    by_doubt : Option Doubt → Bool
    by_doubt (Some doubt) = by_call doubt.n doubt.call
    by_doubt None = true
