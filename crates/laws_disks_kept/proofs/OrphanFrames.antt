-- What is done beside an orphaned disk leaves it what its record says, and what its answered call will leave of it.
use Rattle.std.proofs.Common.{◌≡◌, ◌∙◌, ℕ, true, Option, Some, None, List, [], ◌∷◌, ◌++◌, refl}
use Rattle.std.specs.Prelude.{◌==◌, ◌≢◌, not}
use Rattle.std.specs.Option.{option_and_then}
use Rattle.std.proofs.lemmas.Bool.{and_from}
use Rattle.bosh_base.specs.declared.entry.Entry.{Entry}
use Rattle.bosh_base.specs.declared.entry.Entry.TheVariants as entries
use Rattle.bosh_base.specs.declared.entry.Loss.{Loss}
use Rattle.bosh_base.specs.declared.entry.Write.{Write}
use Rattle.bosh_base.specs.declared.owner.Owner.TheVariants.{Disk}
use Rattle.bosh_base.specs.declared.row.Doubt.{Doubt}
use Rattle.bosh_base.specs.declared.snapshot.Orphan.{Orphan}
use Rattle.bosh_history.specs.Moments.{Moment, OpenCall}
use Rattle.laws_cloud.proofs.DoneLemmas.{made_by}
use Rattle.laws_compile_machines_kept.proofs.NamedLemmas.{deletes_own, other_number}
use Rattle.laws_disks_kept.proofs.OrphanCalls.{DoubtsAs}
use Rattle.laws_facts.specs.Facts.{Holds}
use Rattle.laws_row_facts.specs.Words.{where_any}
use Rattle.laws_slots.proofs.OrphanFrames.{orphan_loss, orphan_other, orphan_write}
use Rattle.laws_slots.specs.Orphans.{is_deletion_of_disk, is_orphan_as_recorded}

-- it stays what its record says from these effects to those, for each record that doubts as the recorded one
abbrev pub Leaves : List Entry → List Entry → ℕ → Option Orphan → Type 0
Leaves xs ys d orphan =
    (x : Option Orphan) → DoubtsAs orphan x → where_any (is_orphan_as_recorded xs d) x ≡ true
    → where_any (is_orphan_as_recorded ys d) x ≡ true

pub written : (xs : List Entry) (d : ℕ) (orphan : Option Orphan) (w : Write)
    → Leaves xs (xs ++ entries.Write w ∷ []) d orphan
written xs d orphan w (Some it) doubts is = orphan_write xs d it w is
written xs d orphan w None doubts is = refl

pub lost : (xs : List Entry) (d : ℕ) (orphan : Option Orphan) (loss : Loss)
    → Leaves xs (xs ++ entries.Lost loss ∷ []) d orphan
lost xs d orphan loss (Some it) doubts is = orphan_loss xs d it loss is
lost xs d orphan loss None doubts is = refl

-- an open call of another owner
module _ (m : Moment) (h : Holds m) (d : ℕ) (n : ℕ) (call : OpenCall) (is : m.calls n ≡ Some call)
    (apart : call.begin.owner ≢ Disk d) where
  pub others : Leaves m.effects (m.effects ++ entries.Effect (made_by m.known call.begin) ∷ []) d (m.known.orphan d)
  others None doubts recorded = refl
  others (Some it) doubts recorded =
      orphan_other m.effects d it (made_by m.known call.begin) recorded
      (and_from (not (is_deletion_of_disk d call.begin.call)) _
      (λ j. not (deletes_own m h n call is d apart j)) (by it.doubt refl))
    where
      by : (o : Option Doubt) → it.doubt ≡ o
          → where_any (λ (doubt : Doubt). not (call.begin.n == doubt.n)) it.doubt ≡ true
      by None none = λ j. where_any (λ (doubt : Doubt). not (call.begin.n == doubt.n)) (none j)
      by (Some doubt) has =
          let (was, at, had) = doubts it doubt refl has in
          (λ j. where_any (λ (doubt : Doubt). not (call.begin.n == doubt.n)) (has j))
          ∙ (λ j. not (other_number m h n call is (Disk d) doubt
          ((λ k. option_and_then (λ (it : Orphan). it.doubt) (at k)) ∙ had) apart j))
