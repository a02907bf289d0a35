-- Facts on whom machines were made for.
use Rattle.std.specs.Prelude.{ℕ, Bool, true, false, nat_le, ◌&&◌, Option, Some, None, List, codes}
use Rattle.std.specs.Str.{bytes_eq}
use Rattle.bosh_base.specs.Cloud.{numbers_to, vm_creation, vms_created}
use Rattle.bosh_base.specs.declared.entry.Effect.{Effect}
use Rattle.bosh_base.specs.declared.owner.Owner.{Owner}
use Rattle.bosh_base.specs.declared.owner.Owner.TheVariants.{Compile, Disk, Instance}
use Rattle.laws_facts.specs.Words.{unless, broken_of}
use Rattle.bosh_history.specs.Known.{Known, dep_named}
use Rattle.bosh_history.specs.Moments.{Moment}

-- the deployment is that of the instance, or of the task of the compile machine, which was opened; a disk has none
abbrev pub is_in_deployment_of : Known → List ℕ → Owner → Bool
is_in_deployment_of k dep (Instance i) = bytes_eq dep i.dep
is_in_deployment_of k dep (Compile t s) =
    nat_le 1 t && (nat_le t k.tasks && bytes_eq dep (dep_named (k.task t).dep))
is_in_deployment_of k dep (Disk d) = false

-- what was made was made so
abbrev pub is_made_in_its_deployment : Known → Option Effect → Bool
is_made_in_its_deployment k (Some e) = is_in_deployment_of k e.dep e.owner
is_made_in_its_deployment k None = true

-- the machine was made so
abbrev pub is_machine_of_deployment : Moment → ℕ → Bool
is_machine_of_deployment m v = is_made_in_its_deployment m.known (vm_creation m.effects v)

-- the tags of those that do not hold
abbrev pub makers_broken : Moment → List (List ℕ)
makers_broken m =
    broken_of
    (λ v. unless (codes "made for a deployment") (is_machine_of_deployment m v))
    (numbers_to (vms_created m.effects))
