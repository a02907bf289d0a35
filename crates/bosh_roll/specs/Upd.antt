-- How far the update of an instance has come (bosh.io, "Deployment manifest", "update").
use Rattle.std.specs.Prelude.{Bool, true, false}
use Rattle.bosh_roll.specs.declared.upd.Upd.{Upd}
use Rattle.bosh_roll.specs.declared.upd.Upd.TheVariants.{Busy}

-- it is in flight
abbrev pub is_busy : Upd → Bool
is_busy Busy = true
is_busy state = false
