-- A write to a disk that was kept.
use Rattle.std.specs.Prelude.{codes, Some, None, [], ◌∷◌, ◌++◌}
use Rattle.bosh_base.specs.declared.goal.Goal.{Goal}
use Rattle.bosh_base.specs.declared.moves.Cause.TheVariants as causes
use Rattle.bosh_base.specs.declared.moves.Move.TheVariants.{Halt}
use Rattle.bosh_base.specs.declared.state.State.TheVariants.{Running}
use Rattle.examples_histories.specs.Scenes.{History, write, stop, part}
use Rattle.examples_histories.specs.Values.{web, z1, plain, no_jobs, disk, row, group, goal}
use Rattle.examples_histories.specs.Migrated.{migrated}

abbrev pub wrote_g1 : Goal
wrote_g1 =
    goal (codes "dep") (row (web 0) (plain z1 10) no_jobs (Some (disk 10)) Running 0 ∷ [])
    (group (codes "web") 1 1 ∷ []) [] [] [] []

abbrev pub wrote : History
wrote built =
    part 1 22 (migrated built)
    ++ (Halt causes.CloudStore ∷ stop None [] (Some (write 1 (codes "hello"))) ∷ [])

-- A wrote that was not permitted as a Wrote at the Halt.
abbrev pub wrote_not_permitted : History
wrote_not_permitted built =
    part 1 17 (wrote built)
    ++ part 23 24 (wrote built)
