-- A spawner that failed.
use Rattle.std.proofs.Common.{◌≡◌, ℕ, Result, Err, subst}
use Rattle.bosh_ports.specs.Faults.{Rose}
use Rattle.bosh_spawner.specs.Spawner as spawner
use Rattle.bosh_spawner.specs.declared.spawner.SpawnFault.{SpawnFault}
use Rattle.bosh_spawner.specs.declared.spawner.SpawnFault.TheVariants.{Failed}

-- a failure is told only where the count rose
pub failure_rose : {T : Type 0} (answer : Result T SpawnFault) (before after : ℕ) → answer ≡ Err Failed → spawner.FailsByCount answer before after → Rose before after
failure_rose {T = T} answer before after is h = subst (λ (x : Result T SpawnFault). spawner.FailsByCount x before after) is h
