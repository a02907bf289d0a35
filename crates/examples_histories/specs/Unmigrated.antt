-- The same with the stop before the migration.
use Rattle.std.specs.Prelude.{None, [], ◌∷◌, ◌++◌}
use Rattle.examples_histories.specs.Scenes.{History, stop, part}
use Rattle.examples_histories.specs.Migrated.{migrated}

abbrev pub unmigrated : History
unmigrated built = part 1 46 (migrated built) ++ stop None [] None ∷ part 48 81 (migrated built)
