-- An orphaned disk stays what its record says where something is done for another owner, a job writes, or a machine is
-- lost.
use Rattle.std.proofs.Common.{◌≡◌, ℕ, ◌+◌, ◌≤◌, true, false, Option, Some, None, List, [], ◌∷◌, ◌++◌, refl, sym, ◌∙◌, ap, arith}
use Rattle.std.specs.Prelude.{◌||◌, ◌==◌, not}
use Rattle.std.proofs.lemmas.Bool.{and_parts, ne_eqb, not-true}
use Rattle.bosh_base.specs.Cloud.{disk_creation, disk_presence, disk_stays, disks_created, is_disk_there, when}
use Rattle.bosh_base.specs.History.{chosen}
use Rattle.bosh_base.specs.declared.call.Call.{Call}
use Rattle.bosh_base.specs.declared.call.Call.TheVariants as calls
use Rattle.bosh_base.specs.declared.entry.Effect as effect
use Rattle.bosh_base.specs.declared.entry.Entry.{Entry}
use Rattle.bosh_base.specs.declared.entry.Entry.TheVariants.{Effect, Write, Lost}
use Rattle.bosh_base.specs.declared.entry.Loss.{Loss}
use Rattle.bosh_base.specs.declared.entry.Write as write
use Rattle.bosh_base.specs.declared.row.Doubt.{Doubt}
use Rattle.bosh_base.specs.declared.snapshot.Orphan.{Orphan}
use Rattle.laws_effects.proofs.CreationLemmas.{disk_creation_stays, is_disk_there-grown}
use Rattle.laws_effects.specs.Orderly.{is_of_call, is_taken}
use Rattle.bosh_history.specs.Ties.{is_wanted_as}
use Rattle.laws_row_facts.specs.Words.{is_some_with, where_any}
use Rattle.laws_row_frames.proofs.WithinLemmas.{are_within}
use Rattle.bosh_rows.specs.Standing.{same_truth}
use Rattle.laws_slots.proofs.OrphanCases.{IsAsRecorded, from_parts, parts_of}
use Rattle.laws_slots.specs.Orphans.{is_deleted, is_deletion_of_disk, is_orphan_as_recorded, leaves_orphan}

-- a disk with a creation has one of the numbers so far
low_of : (xs : List Entry) (d : ℕ) (it : Orphan) → is_wanted_as it (disk_creation xs d) ≡ true → d ≤ disks_created xs
low_of xs d it is = by_creation (disk_creation xs d) refl is
  where
    by_creation : (o : Option effect.Effect) → disk_creation xs d ≡ o → is_wanted_as it o ≡ true →
        d ≤ disks_created xs
    by_creation (Some e) is wanted = (are_within xs).disks d e is
    by_creation None is wanted = absurd cc

-- whether a call was done, with one more entry
taken_more : (xs : List Entry) (x : Entry) (n : ℕ) → is_of_call n x ≡ false →
    is_taken (xs ++ x ∷ []) n ≡ is_taken xs n
taken_more [] x n other = ap (λ b. b || false) other
taken_more (y ∷ xs) x n other = ap (λ b. is_of_call n y || b) (taken_more xs x n other)

-- one more entry that neither deletes the disk nor is the call in doubt
orphan_still : (xs : List Entry) (x : Entry) (d : ℕ) (it : Orphan) → is_orphan_as_recorded xs d it ≡ true →
    (d ≤ disks_created xs → disk_presence d xs x ≡ None) →
    ((doubt : Doubt) → it.doubt ≡ Some doubt → is_of_call doubt.n x ≡ false) →
    is_orphan_as_recorded (xs ++ x ∷ []) d it ≡ true
orphan_still xs x d it is stays others =
    from_parts (xs ++ x ∷ []) d it (record {
      made = ap (is_wanted_as it) (disk_creation_stays xs x d low) ∙ facts.made;
      doubt = facts.doubt;
      there =
          (λ i. same_truth (there i) (not (deleted i))) ∙ facts.there;
    })
  where
    facts : IsAsRecorded xs d it
    facts = parts_of xs d it is

    low : d ≤ disks_created xs
    low = low_of xs d it facts.made

    there : is_disk_there (xs ++ x ∷ []) d ≡ is_disk_there xs d
    there = is_disk_there-grown xs x d ∙ ap (λ a. chosen a (is_disk_there xs d)) (stays low)

    deleted : is_deleted (xs ++ x ∷ []) it ≡ is_deleted xs it
    deleted = by_doubt it.doubt refl
      where
        by_doubt : (o : Option Doubt) → it.doubt ≡ o →
            is_some_with (λ doubt. is_taken (xs ++ x ∷ []) doubt.n) o ≡ is_some_with (λ doubt. is_taken xs doubt.n) o
        by_doubt (Some doubt) has = taken_more xs x doubt.n (others doubt has)
        by_doubt None has = refl

pub orphan_other : (xs : List Entry) (d : ℕ) (it : Orphan) (e : effect.Effect) →
    is_orphan_as_recorded xs d it ≡ true → leaves_orphan d it e ≡ true →
    is_orphan_as_recorded (xs ++ Effect e ∷ []) d it ≡ true
orphan_other xs d it e is leaves =
    orphan_still xs (Effect e) d it is (by_call e.call (and_parts (not (is_deletion_of_disk d e.call)) _ leaves).0)
    (λ doubt has.
    not-true (e.n == doubt.n)
    (sym (ap (where_any (λ doubt. not (e.n == doubt.n))) has)
    ∙ (and_parts (not (is_deletion_of_disk d e.call)) _ leaves).1))
  where
    by_call : (call : Call) → not (is_deletion_of_disk d call) ≡ true → d ≤ disks_created xs →
        disk_stays d (disks_created xs) call ≡ None
    by_call (calls.CreateDisk wanted v) other low =
        ap (λ b. when b true) (ne_eqb (disks_created xs + 1) d (λ same. absurd (omega arith)))
    by_call (calls.DeleteDisk k) other low = ap (λ b. when b false) (not-true (k == d) other)
    by_call call other low = refl

pub orphan_write : (xs : List Entry) (d : ℕ) (it : Orphan) (w : write.Write) → is_orphan_as_recorded xs d it ≡ true →
    is_orphan_as_recorded (xs ++ Write w ∷ []) d it ≡ true
orphan_write xs d it w is = orphan_still xs (Write w) d it is (λ low. refl) (λ doubt has. refl)

pub orphan_loss : (xs : List Entry) (d : ℕ) (it : Orphan) (loss : Loss) → is_orphan_as_recorded xs d it ≡ true →
    is_orphan_as_recorded (xs ++ Lost loss ∷ []) d it ≡ true
orphan_loss xs d it loss is = orphan_still xs (Lost loss) d it is (λ low. refl) (λ doubt has. refl)
