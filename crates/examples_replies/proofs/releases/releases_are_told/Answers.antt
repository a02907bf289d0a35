use Rattle.std.proofs.Common.{refl}
use Rattle.std.specs.Prelude.{codes}
use Rattle.bosh_due.specs.Uploads.RecordsRelease.{same}
use Rattle.examples_histories.specs.Scenes.{with_release}
use Rattle.examples_replies.proofs.Added.{not_added, not_there}
use Rattle.examples_replies.specs.Releases.{of_version}
use Rattle.examples_replies.specs.Scenes.{start}
use Rattle.examples_replies.proofs.releases.releases_are_told.Goals as goal

pub returns-clause-same : goal.returns-clause-same
returns-clause-same c = same (of_version (codes "1")) refl refl (refl, refl) refl

pub returns-clause-spelled_otherwise : goal.returns-clause-spelled_otherwise
returns-clause-spelled_otherwise c = same (of_version (codes "1")) refl refl (refl, refl) refl

pub returns-clause-not_added : goal.returns-clause-not_added
returns-clause-not_added c = not_added (start with_release 3) (of_version (codes "1.0")) (of_version (codes "1")) refl

pub returns-clause-not_there : goal.returns-clause-not_there
returns-clause-not_there c = not_there (start with_release 3) (of_version (codes "2")) refl
