-- Owners that are told to be the same are.
use Rattle.std.proofs.Common.{◌≡◌, true, ap}
use Rattle.std.specs.Prelude.{◌==◌}
use Rattle.std.proofs.lemmas.Bool.{and_parts, eqb-true, false≢true}
use Rattle.bosh_base.specs.declared.owner.Owner.{Owner}
use Rattle.bosh_base.specs.declared.owner.Owner.TheVariants.{Instance, Compile, Disk}
use Rattle.bosh_rows.proofs.SameLemmas.{same_inst_decides}
use Rattle.bosh_rows.specs.Same.{same_owner}

pub same_owner_is : (a b : Owner) → same_owner a b ≡ true → a ≡ b
same_owner_is (Instance a) (Instance b) same = ap Instance ((same_inst_decides a b).0 same)
same_owner_is (Compile t s) (Compile other k) same =
    let parts : ((t == other) ≡ true) × ((s == k) ≡ true) = and_parts (t == other) (s == k) same in
    λ i. Compile (eqb-true t other parts.0 i) (eqb-true s k parts.1 i)
same_owner_is (Disk a) (Disk b) same = ap Disk (eqb-true a b same)
same_owner_is (Instance a) (Compile t s) same = absurd (false≢true same)
same_owner_is (Instance a) (Disk b) same = absurd (false≢true same)
same_owner_is (Compile t s) (Instance b) same = absurd (false≢true same)
same_owner_is (Compile t s) (Disk b) same = absurd (false≢true same)
same_owner_is (Disk a) (Instance b) same = absurd (false≢true same)
same_owner_is (Disk a) (Compile t s) same = absurd (false≢true same)
