-- What is read is what was spelled.
use Rattle.std.proofs.Common.{◌≡◌, ℕ, true, List, ◌++◌, Some, refl}
use Rattle.bosh_base.specs.declared.owner.Owner.{Owner}
use Rattle.bosh_base.specs.declared.owner.Owner.TheVariants.{Instance, Compile, Disk}
use Rattle.bosh_entry.specs.Reading.{one_of_at}
use Rattle.bosh_entry.specs.Owner.{owner, is_owner, owner_at, owners}
use Rattle.bosh_entry.proofs.CodingLemmas.{IsCoding, making_law, ◌and◌}
use Rattle.bosh_entry.proofs.VariantLemmas.{AreVariants, variant_law, one_of_law}
use Rattle.bosh_entry.proofs.NumberLemmas.{number_law, small_law}
use Rattle.bosh_entry.proofs.InstLemmas.{inst_law}

owner_again : (x : Owner) (rest : List ℕ) → is_owner x ≡ true → one_of_at owners (owner x ++ rest) ≡ Some (x, rest)
unfolding owner is_owner
owner_again (Instance i) rest h = (making_law Instance and inst_law).again (tt, i) rest h
owner_again (Compile task slot) rest h = (making_law Compile and number_law and small_law).again ((tt, task), slot) rest h
owner_again (Disk n) rest h = (making_law Disk and number_law).again (tt, n) rest h

owners_are : AreVariants owner is_owner 0 owners
unfolding owner is_owner
owners_are = (
  variant_law (making_law Instance and inst_law) (λ p. refl) (λ p. refl),
  (
    variant_law (making_law Compile and number_law and small_law) (λ p. refl) (λ p. refl),
    (variant_law (making_law Disk and number_law) (λ p. refl) (λ p. refl), tt),
  ),
)

pub owner_law : IsCoding owner is_owner owner_at
unfolding owner_at
owner_law = one_of_law owners owners_are (λ x. owner_again x)
