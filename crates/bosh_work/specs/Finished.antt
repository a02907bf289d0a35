-- What is not to be done any more, by whichever task it is left.
use Rattle.std.specs.Prelude.{ℕ, Bool, false, ◌==◌, ◌&&◌, List, Option, Some, slice_get, if◌then◌else◌}
use Rattle.std.specs.List.{position}
use Rattle.std.specs.Option.{option_map_or}
use Rattle.bosh_base.specs.contracts.key.KeyPartialEq.TheImpl as key_test
use Rattle.bosh_base.specs.declared.key.Key.{Key}
use Rattle.bosh_work.specs.Line.{finished_line}
use Rattle.bosh_work.specs.declared.line.Line.{Line}
use Rattle.bosh_work.specs.declared.part.MachineName.{MachineName}
use Rattle.bosh_work.specs.declared.work.Work.{Work}

-- the first place of a key
abbrev pub key_place : Key → List Key → Option ℕ
key_place key keys = position (λ it. key_test.ghosts.eq it key) keys

-- it is the machine of this name
abbrev pub is_machine : MachineName → MachineName → Bool
is_machine name it = it.task == name.task && it.slot == name.slot

-- what passes a test stands at a place of a line
abbrev pub stands_at : {T : Type 0} → (T → Bool) → ℕ → Line T → Bool
stands_at test place line = option_map_or test (slice_get line.items place) false

-- ---- works in which it is finished, where they have it

-- a key is compiled
abbrev pub without_key : Key → Work → Work
without_key key work = record work { keys = finished_line work.keys (key_place key work.keys.items) }

-- a compile machine is not there any more, which has this place among those that are swept
abbrev pub without_swept : MachineName → ℕ → Work → Work
without_swept name place work = record work {
  sweep = if stands_at (is_machine name) place work.sweep then finished_line work.sweep (Some place) else work.sweep;
}

-- a disk is not there any more, which has this place among those that are deleted
abbrev pub without_disk : ℕ → ℕ → Work → Work
without_disk disk place work = record work {
  disks = if stands_at (λ it. it == disk) place work.disks then finished_line work.disks (Some place) else work.disks;
}
