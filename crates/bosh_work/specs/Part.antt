-- Where an instance stands in a task.
use Rattle.std.specs.Prelude.{None}
use Rattle.bosh_work.specs.declared.part.Part.{Part}

-- the open task of a deployment has nothing to do for an instance
abbrev pub no_part : Part
no_part = record { ping = None; leaving = None; change = None }
