use Rattle.std.proofs.Common.{refl}
use Rattle.std.specs.Prelude.{[], ◌∷◌, Some, Ok}
use Rattle.bosh_due.specs.Openings.DeploysText.{whole}
use Rattle.bosh_due.specs.Openings.OpensDeploy.{going_on}
use Rattle.bosh_due.specs.Plans.PlansDeploy.{planned}
use Rattle.bosh_due.specs.Uploads.FromFiles.{read}
use Rattle.examples_histories.specs.Two.{two_g1}
use Rattle.examples_histories.specs.Values.{web}
use Rattle.examples_replies.proofs.Manifests.{not_deployed}
use Rattle.examples_replies.specs.Openings.{deploys}
use Rattle.examples_replies.specs.Planned.{of_dep}
use Rattle.examples_replies.proofs.deployed.manifests_are_deployed.Goals as goal

pub returns-clause-done : goal.returns-clause-done
returns-clause-done c built text manifest it = record {
  outcome = deploys 1 two_g1 (web 0 ∷ web 1 ∷ []);
  comes = read text refl
      (whole (of_dep manifest) it.is (going_on (Ok (Some two_g1)) refl (planned two_g1 it.goal refl refl refl) refl));
  ends = record {
    ends = record { is_due = refl; is_its_work = refl; by_room = refl; may_end = refl; ends_last = refl; settled = refl; told = refl };
    is_left = refl;
  };
}

pub returns-clause-no_manifest : goal.returns-clause-no_manifest
returns-clause-no_manifest c built text fault reply now none due =
    not_deployed built text fault reply due.outcome none due.comes due.ends.ends
