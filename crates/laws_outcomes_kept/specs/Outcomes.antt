-- The fact on disks that a task lists, of all its subjects.
use Rattle.std.specs.Prelude.{◌≡◌, ℕ, true}
use Rattle.bosh_history.specs.Moments.{Moment}
use Rattle.laws_facts.specs.Owners.{works}
use Rattle.laws_facts.specs.Tasks.{is_disk_to_delete}

-- a disk that a task lists is orphaned, or was created and is not there any more
abbrev pub AreDisksToDelete : Moment → Type 0
AreDisksToDelete m = (t d : ℕ) → works m t ≡ true → is_disk_to_delete m (m.known.task t) d ≡ true
