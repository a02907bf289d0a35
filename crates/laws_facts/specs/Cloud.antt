-- Which facts on what was done to the cloud are broken.
use Rattle.std.specs.Prelude.{ℕ, List, [], ◌∷◌, ◌++◌, codes}
use Rattle.bosh_base.specs.Cloud.{numbers_to, disks_created}
use Rattle.bosh_base.specs.declared.entry.Entry.{Entry}
use Rattle.bosh_base.specs.declared.entry.Entry.TheVariants as entries
use Rattle.laws_facts.specs.Words.{unless, broken_of}
use Rattle.laws_row_facts.specs.Cloud.{are_orderly_after, is_held_by_its_own, is_lost_of_instance}

-- the machines that losses name
abbrev pub lost_vms : List Entry → List ℕ
lost_vms [] = []
lost_vms (entries.Lost loss ∷ effects) = loss.vm ∷ lost_vms effects
lost_vms (entry ∷ effects) = lost_vms effects

-- the names of those that do not hold
abbrev pub cloud_broken : List Entry → List (List ℕ)
cloud_broken effects =
    unless (codes "effects orderly") (are_orderly_after [] effects)
    ++ broken_of (λ v. unless (codes "losses of instances") (is_lost_of_instance effects v)) (lost_vms effects)
    ++ broken_of
    (λ d. unless (codes "disks held by their own") (is_held_by_its_own effects d))
    (numbers_to (disks_created effects))
