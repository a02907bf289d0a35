-- An orphaned disk is what its record says after each of its calls, however it is answered.
use Rattle.std.proofs.Common.{◌≡◌, ℕ, Bool, true, false, Option, Some, None, List, [], ◌∷◌, ◌++◌, refl, sym, ◌∙◌, ap, subst, inl, inr}
use Rattle.std.specs.Prelude.{◌&&◌, ◌||◌, ◌==◌, not, is_some}
use Rattle.std.proofs.lemmas.Bool.{and_from, and_parts, eq-eqb, eqb-true, or_right}
use Rattle.bosh_base.specs.CallStep.{CallStep, is_gone, takes_effect, unless_gone, yes_or_no}
use Rattle.bosh_base.specs.Cloud.{disk_creation, holder_of, is_disk_there, when}
use Rattle.bosh_base.specs.History.{chosen}
use Rattle.bosh_base.specs.declared.answer.Answer.{Answer}
use Rattle.bosh_base.specs.declared.answer.Answer.TheVariants as answers
use Rattle.bosh_base.specs.declared.call.Call.{Call}
use Rattle.bosh_base.specs.declared.call.Call.TheVariants as calls
use Rattle.bosh_base.specs.declared.digest.Digest.{Digest}
use Rattle.bosh_base.specs.declared.entry.Effect as effect
use Rattle.bosh_base.specs.declared.entry.Entry.{Entry}
use Rattle.bosh_base.specs.declared.entry.Entry.TheVariants.{Effect}
use Rattle.bosh_base.specs.declared.key.KeyWork.{KeyWork}
use Rattle.bosh_base.specs.declared.owner.Owner.TheVariants.{Disk}
use Rattle.bosh_base.specs.declared.row.Doubt.{Doubt}
use Rattle.bosh_base.specs.declared.snapshot.Orphan.{Orphan}
use Rattle.laws_effects.proofs.CreationLemmas.{disk_creation-grown, is_disk_there-grown}
use Rattle.laws_effects.specs.Orderly.{is_of_call, is_taken}
use Rattle.bosh_history.specs.Calls.{orphan_begun}
use Rattle.bosh_history.specs.Ties.{is_wanted_as}
use Rattle.laws_row_facts.specs.Words.{is_some_with, where_any}
use Rattle.laws_rows.specs.Rightful.{done_with}
use Rattle.bosh_rows.specs.Standing.{same_truth}
use Rattle.laws_slots.specs.Orphans.{is_call_of_orphan, is_deleted, is_deletion_of_disk, is_orphan_as_recorded, orphan_answered}

-- the parts of the fact
pub record IsAsRecorded (xs : List Entry) (d : ℕ) (it : Orphan) : Type 0 where
  pub made : is_wanted_as it (disk_creation xs d) ≡ true
  pub doubt : where_any (λ doubt. is_deletion_of_disk d doubt.call) it.doubt ≡ true
  pub there : same_truth (is_disk_there xs d) (not (is_deleted xs it)) ≡ true

pub parts_of : (xs : List Entry) (d : ℕ) (it : Orphan) → is_orphan_as_recorded xs d it ≡ true → IsAsRecorded xs d it
parts_of xs d it is =
    let first : (is_wanted_as it (disk_creation xs d) ≡ true) × _ =
    and_parts (is_wanted_as it (disk_creation xs d)) _ is in
    let second : (where_any (λ doubt. is_deletion_of_disk d doubt.call) it.doubt ≡ true)
    × (same_truth (is_disk_there xs d) (not (is_deleted xs it)) ≡ true) =
    and_parts (where_any (λ doubt. is_deletion_of_disk d doubt.call) it.doubt) _ first.1 in
    record { made = first.0; doubt = second.0; there = second.1 }

pub from_parts : (xs : List Entry) (d : ℕ) (it : Orphan) → IsAsRecorded xs d it → is_orphan_as_recorded xs d it ≡ true
from_parts xs d it is = and_from _ _ is.made (and_from _ _ is.doubt is.there)

-- whether it is made as recorded does not hang on the call in doubt
same_made : (xs : List Entry) (d : ℕ) (it : Orphan) (doubt : Option Doubt) →
    is_wanted_as it (disk_creation xs d) ≡ true →
    is_wanted_as (record it { doubt = doubt }) (disk_creation xs d) ≡ true
same_made xs d it doubt made = by_creation (disk_creation xs d) made
  where
    by_creation : (o : Option effect.Effect) → is_wanted_as it o ≡ true →
        is_wanted_as (record it { doubt = doubt }) o ≡ true
    by_creation (Some e) made = made
    by_creation None made = made

-- nothing in doubt, and there
known_there : (xs : List Entry) (d : ℕ) (it : Orphan) → is_wanted_as it (disk_creation xs d) ≡ true →
    is_disk_there xs d ≡ true → is_orphan_as_recorded xs d (record it { doubt = None }) ≡ true
known_there xs d it made there =
    from_parts xs d (record it { doubt = None })
    (record { made = same_made xs d it None made; doubt = refl; there = ap (λ b. same_truth b true) there })

taken_last : (xs : List Entry) (e : effect.Effect) → is_taken (xs ++ Effect e ∷ []) e.n ≡ true
taken_last [] e = ap (λ b. b || false) (eq-eqb e.n e.n refl)
taken_last (x ∷ xs) e = or_right (is_of_call e.n x) (is_taken (xs ++ Effect e ∷ []) e.n) (taken_last xs e)

module _ (built : KeyWork → List Digest → Digest) (xs : List Entry) (d : ℕ) (it : Orphan)
    (is : is_orphan_as_recorded xs d it ≡ true) where
  facts : IsAsRecorded xs d it
  facts = parts_of xs d it is

  -- ---- a deletion

  module _ (n : ℕ) (dep : List ℕ) (known : it.doubt ≡ None) (fresh : is_taken xs n ≡ false) where
    abbrev deletion : effect.Effect
    deletion = record { n = n; owner = Disk d; dep = dep; call = calls.DeleteDisk d }

    there_now : is_disk_there xs d ≡ true
    there_now =
        by_truth (is_disk_there xs d)
        (sym (ap (λ o. same_truth (is_disk_there xs d) (not (is_some_with (λ doubt. is_taken xs doubt.n) o))) known)
        ∙ facts.there)
      where
        by_truth : (b : Bool) → same_truth b true ≡ true → b ≡ true
        by_truth true same = refl
        by_truth false same = same

    made_later : (b : Bool) → is_wanted_as it (disk_creation (done_with b xs deletion) d) ≡ true
    made_later true = ap (is_wanted_as it) (disk_creation-grown xs (Effect deletion) d) ∙ facts.made
    made_later false = facts.made

    gone_later : is_disk_there (xs ++ Effect deletion ∷ []) d ≡ false
    gone_later =
        is_disk_there-grown xs (Effect deletion) d
        ∙ ap (λ b. chosen (when b false) (is_disk_there xs d)) (eq-eqb d d refl)

    in_doubt : (b : Bool) → is_orphan_as_recorded (done_with b xs deletion) d (orphan_begun n (calls.DeleteDisk d) it)
        ≡ true
    in_doubt b = from_parts (done_with b xs deletion) d (orphan_begun n (calls.DeleteDisk d) it) (record {
      made =
          same_made (done_with b xs deletion) d it (Some (record { n = n; call = calls.DeleteDisk d })) (made_later b);
      doubt = eq-eqb d d refl;
      there = by_effect b;
    })
      where
        by_effect : (b : Bool) → same_truth (is_disk_there (done_with b xs deletion) d)
            (not (is_taken (done_with b xs deletion) n)) ≡ true
        by_effect true = λ i. same_truth (gone_later i) (not (taken_last xs deletion i))
        by_effect false = λ i. same_truth (there_now i) (not (fresh i))

    deletes : (b : Bool) (answer : Answer) → CallStep built xs (calls.DeleteDisk d) b answer →
        where_any (is_orphan_as_recorded (done_with b xs deletion) d)
        (orphan_answered (calls.DeleteDisk d) answer (orphan_begun n (calls.DeleteDisk d) it)) ≡ true
    deletes b answer (inl (says, has)) =
        (λ i. where_any (is_orphan_as_recorded (done_with (has i) xs deletion) d)
        (orphan_answered (calls.DeleteDisk d) (says i) (orphan_begun n (calls.DeleteDisk d) it)))
        ∙ by_here (is_disk_there xs d && not (is_some (holder_of xs d)))
      where
        by_here : (c : Bool) → where_any
            (is_orphan_as_recorded (done_with (not (is_gone (unless_gone c answers.Done))) xs deletion) d)
            (orphan_answered (calls.DeleteDisk d) (unless_gone c answers.Done)
            (orphan_begun n (calls.DeleteDisk d) it)) ≡ true
        by_here true = refl
        by_here false = known_there xs d it facts.made there_now
    deletes b answer (inr (failed, may)) =
        (λ i. where_any (is_orphan_as_recorded (done_with b xs deletion) d)
        (orphan_answered (calls.DeleteDisk d) (failed i) (orphan_begun n (calls.DeleteDisk d) it)))
        ∙ in_doubt b

  -- ---- it is asked whether it is there

  asks : (n : ℕ) (dep : List ℕ) (b : Bool) (answer : Answer) → CallStep built xs (calls.HasDisk d) b answer →
      where_any
      (is_orphan_as_recorded
      (done_with b xs (record { n = n; owner = Disk d; dep = dep; call = calls.HasDisk d })) d)
      (orphan_answered (calls.HasDisk d) answer (orphan_begun n (calls.HasDisk d) it)) ≡ true
  asks n dep b answer (inl (says, has)) =
      (λ i. where_any
      (is_orphan_as_recorded
      (done_with (has i) xs (record { n = n; owner = Disk d; dep = dep; call = calls.HasDisk d })) d)
      (orphan_answered (calls.HasDisk d) (says i) it))
      ∙ by_here (is_disk_there xs d) refl
    where
      by_here : (c : Bool) → is_disk_there xs d ≡ c →
          where_any (is_orphan_as_recorded xs d) (orphan_answered (calls.HasDisk d) (yes_or_no c) it) ≡ true
      by_here true there = known_there xs d it facts.made there
      by_here false gone = refl
  asks n dep b answer (inr (failed, may)) =
      (λ i. where_any
      (is_orphan_as_recorded
      (done_with b xs (record { n = n; owner = Disk d; dep = dep; call = calls.HasDisk d })) d)
      (orphan_answered (calls.HasDisk d) (failed i) it))
      ∙ by_effect b may
    where
      by_effect : (b : Bool) → (b ≡ true → takes_effect built xs (calls.HasDisk d) ≡ true) →
          is_orphan_as_recorded
          (done_with b xs (record { n = n; owner = Disk d; dep = dep; call = calls.HasDisk d })) d it ≡ true
      by_effect true may = absurd (no (may refl))
        where
          no : false ≡ true → ⊥
          no is = cc
      by_effect false may = is

-- each of its calls
pub orphan_kept : (built : KeyWork → List Digest → Digest) (xs : List Entry) (d : ℕ) (it : Orphan) (n : ℕ)
    (dep : List ℕ) (call : Call) (b : Bool) (answer : Answer) → is_orphan_as_recorded xs d it ≡ true →
    is_call_of_orphan d call it ≡ true → is_taken xs n ≡ false → CallStep built xs call b answer →
    where_any
    (is_orphan_as_recorded (done_with b xs (record { n = n; owner = Disk d; dep = dep; call = call })) d)
    (orphan_answered call answer (orphan_begun n call it)) ≡ true
orphan_kept built xs d it n dep call b answer is fits fresh step = by_call call fits step
  where
    no_doubt : (o : Option Doubt) → not (is_some o) ≡ true → o ≡ None
    no_doubt None is = refl
    no_doubt (Some doubt) is = absurd cc

    by_call : (call : Call) → is_call_of_orphan d call it ≡ true → CallStep built xs call b answer →
        where_any
        (is_orphan_as_recorded (done_with b xs (record { n = n; owner = Disk d; dep = dep; call = call })) d)
        (orphan_answered call answer (orphan_begun n call it)) ≡ true
    by_call (calls.DeleteDisk k) fits step =
        let parts : ((k == d) ≡ true) × (not (is_some it.doubt) ≡ true) = and_parts (k == d) _ fits in
        let same : d ≡ k = sym (eqb-true k d parts.0) in
        subst (λ (k : ℕ). CallStep built xs (calls.DeleteDisk k) b answer → where_any
        (is_orphan_as_recorded
        (done_with b xs (record { n = n; owner = Disk d; dep = dep; call = calls.DeleteDisk k })) d)
        (orphan_answered (calls.DeleteDisk k) answer (orphan_begun n (calls.DeleteDisk k) it)) ≡ true) same
        (deletes built xs d it is n dep (no_doubt it.doubt parts.1) fresh b answer) step
    by_call (calls.HasDisk k) fits step =
        let same : d ≡ k = sym (eqb-true k d (and_parts (k == d) _ fits).0) in
        subst (λ (k : ℕ). CallStep built xs (calls.HasDisk k) b answer → where_any
        (is_orphan_as_recorded
        (done_with b xs (record { n = n; owner = Disk d; dep = dep; call = calls.HasDisk k })) d)
        (orphan_answered (calls.HasDisk k) answer (orphan_begun n (calls.HasDisk k) it)) ≡ true) same
        (asks built xs d it is n dep b answer) step
    by_call call fits step = absurd cc
