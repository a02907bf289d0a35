use Rattle.std.proofs.Common.{refl}
use Rattle.examples_replies.proofs.Absent.{absent}
use Rattle.examples_replies.proofs.files.files_are_looked_for_first.Goals as goal

pub returns-clause-no_folder : goal.returns-clause-no_folder
returns-clause-no_folder c = record { running = absent _ _ _ refl; halted = absent _ _ _ refl }

pub returns-clause-no_config : goal.returns-clause-no_config
returns-clause-no_config c = record { running = absent _ _ _ refl; halted = absent _ _ _ refl }

pub returns-clause-no_manifest : goal.returns-clause-no_manifest
returns-clause-no_manifest c = record { running = absent _ _ _ refl; halted = absent _ _ _ refl }
