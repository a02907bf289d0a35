-- What a call of a disk that belongs to no instance needs of what was told before it.
use Rattle.std.specs.Prelude.{◌≡◌, ℕ, None, eqb, false, is_some, true}
use Rattle.bosh_base.specs.declared.call.Call.{Call}
use Rattle.bosh_base.specs.declared.key.Key.{Key}
use Rattle.bosh_history.specs.Steps.{compiles}
use Rattle.bosh_history.specs.Words.{is_among}
use Rattle.bosh_rows.specs.SoundSnapshot.{are_distinct}
use Rattle.laws_stands.specs.Told.{Told, is_going}

-- a task that is of no deployment may have calls of a disk: the disk is there, the call compiles nothing, and no other
-- open task lists the disk
pub record AllowsDisk (told : Told) (n : ℕ) (call : Call) (d : ℕ) : Type 0 where
  pub dep : (told.known.task n).dep ≡ None
  pub there : is_some (told.known.orphan d) ≡ true
  pub compiles_none : (key : Key) → compiles key call ≡ false
  pub not_deleting : (t : ℕ) → eqb n t ≡ false → is_going told.known t ≡ true →
      is_among eqb d (told.known.task t).disks ≡ false
