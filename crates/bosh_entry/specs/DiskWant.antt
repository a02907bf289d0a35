-- How wanted disks are spelled.
use Rattle.std.specs.Prelude.{ℕ, Bool, List, ◌&&◌, ◌++◌}
use Rattle.bosh_base.specs.declared.disk_want.DiskWant.{DiskWant}
use Rattle.bosh_entry.specs.Reading.{Reader, making, ◌with◌}
use Rattle.bosh_entry.specs.Number.{number, small_at, is_small}
use Rattle.bosh_entry.specs.List.{text, is_text, text_at}

-- a disk as a group asks for it
unfoldable pub disk_want : DiskWant → List ℕ
disk_want w = number w.size ++ text w.properties

unfoldable pub is_disk_want : DiskWant → Bool
is_disk_want w = is_small w.size && is_text w.properties

unfoldable pub disk_want_at : Reader DiskWant
disk_want_at =
    making (λ size properties. record {
      size = size;
      properties = properties;
    })
    with small_at
    with text_at
