-- How many instances of a group a `canaries` or a `max_in_flight` stands for (bosh.io, "Deployment manifest", "update").
use Rattle.std.specs.Prelude.{ℕ, ◌*◌, ◌/◌, ◌≤◌, max}
use Rattle.bosh_base.specs.declared.count.Count.{Count}
use Rattle.bosh_base.specs.declared.count.Count.TheVariants.{Whole, Percent}

-- a percentage is at most the whole group
abbrev pub IsShare : Count → Type 0
IsShare (Whole number) = Unit {0}
IsShare (Percent share) = share ≤ 100

-- the number, or that share of the group rounded down (this project's profile), but at least `least`
abbrev pub limit_of : Count → ℕ → ℕ → ℕ
limit_of (Whole number) size least = max least number
limit_of (Percent share) size least = max least (size * share / 100)
