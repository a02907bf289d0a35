-- The first of several steps.
use Rattle.std.proofs.Common.{◌≡◌, ℕ, ◌≤◌, ◌&&◌, Bool, true, false, Option, Some, None, List, [], ◌∷◌, length, take, refl}
use Rattle.std.specs.Option.{option_or}
use Rattle.std.proofs.lemmas.List.{take_all}
use Rattle.bosh_base.specs.declared.method.Method.TheVariants.{DeleteVm, UnmountDisk, DetachDisk}
use Rattle.bosh_base.specs.declared.row.DiskRow.{DiskRow}
use Rattle.bosh_base.specs.declared.row.Row.{Row}
use Rattle.bosh_rows.proofs.DiskLemmas.{least_to}
use Rattle.bosh_rows.specs.Disks.{least}
use Rattle.bosh_rows.specs.NextStep.{first_of, letting_go, on, plain, removal}
use Rattle.bosh_rows.specs.declared.step.Step.{Step}

-- the first of two
pub first_of_two : (a b : Option Step) → first_of (a ∷ b ∷ []) ≡ option_or a b
first_of_two (Some a) b = refl
first_of_two None (Some b) = refl
first_of_two None None = refl

-- the least mounted and the least attached disk were found among them all
pub let_go : (test : DiskRow → Bool) (disks : List DiskRow) (i : ℕ) → length disks ≤ i
    → (mounted attached : Option DiskRow) → mounted ≡ least_to (λ d. test d && d.mounted) disks i
    → attached ≡ least_to (λ d. test d && d.attached) disks i
    → option_or (on UnmountDisk mounted) (on DetachDisk attached) ≡ letting_go test disks
let_go test disks i all mounted attached m a =
    let whole : take i disks ≡ disks = take_all i disks all in
    rw first_of_two (rw (m, a, whole) refl)

-- the first of three, where the last one is there
pub first_of_three : (a b : Option Step) (c : Step)
    → first_of (a ∷ b ∷ Some c ∷ []) ≡ option_or (first_of (a ∷ b ∷ [])) (Some c)
first_of_three (Some a) b c = refl
first_of_three None (Some b) c = refl
first_of_three None None c = refl

-- a machine at rest loses its disks, and is deleted
pub removal_at_rest : (row : Row) → row.running ≡ false
    → removal row ≡ option_or (letting_go (λ d. true) row.disks) (Some (plain DeleteVm))
removal_at_rest row rests = rw rests
    (first_of_three (on UnmountDisk (least (λ d. d.mounted) row.disks))
    (on DetachDisk (least (λ d. d.attached) row.disks)) (plain DeleteVm))
