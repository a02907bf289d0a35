-- The facts of the cloud are kept by what may come next.
use Rattle.std.proofs.Common.{◌≡◌, ℕ, Bool, true, false, Option, Some, None, List, [], ◌∷◌, ◌++◌, refl, sym, ◌∙◌, ap}
use Rattle.std.specs.Prelude.{◌||◌, ◌==◌}
use Rattle.std.proofs.lemmas.Bool.{eqb-true}
use Rattle.bosh_base.specs.Cloud.{vm_creation}
use Rattle.bosh_base.specs.declared.digest.Digest.{Digest}
use Rattle.bosh_base.specs.declared.entry.Effect as effect
use Rattle.bosh_base.specs.declared.entry.Entry.{Entry}
use Rattle.bosh_base.specs.declared.entry.Entry.TheVariants.{Effect, Write, Lost}
use Rattle.bosh_base.specs.declared.entry.Loss.{Loss}
use Rattle.bosh_base.specs.declared.key.KeyWork.{KeyWork}
use Rattle.laws_effects.proofs.CreationLemmas.{vm_creation_stays}
use Rattle.laws_effects.proofs.FollowLemmas.{orderly_follows}
use Rattle.laws_effects.proofs.HolderLemmas.{held_by_own}
use Rattle.laws_effects.specs.Following.{MayFollow}
use Rattle.laws_effects.specs.Holders.{JoinsTheSame}
use Rattle.laws_effects.specs.Orderly.{is_new_call}
use Rattle.laws_row_facts.specs.Cloud.{CloudFacts, is_for_instance, is_lost_of_instance}
use Rattle.laws_row_facts.specs.Words.{implies}
use Rattle.laws_rows.proofs.WholeTieLemmas.{named-lost}
use Rattle.bosh_rows.specs.Tied.{is_named_lost}
use Rattle.laws_row_frames.proofs.LossLemmas.{lost_named}
use Rattle.laws_row_frames.proofs.OtherCases.{written_named}
use Rattle.laws_row_frames.proofs.WithinLemmas.{are_within}
use Rattle.laws_row_frames.specs.Others.{is_of_instance}

-- what was made for an instance stays so
still_for : (xs : List Entry) (x : Entry) (v : ℕ) → is_for_instance (vm_creation xs v) ≡ true →
    is_for_instance (vm_creation (xs ++ x ∷ []) v) ≡ true
still_for xs x v is = by_creation (vm_creation xs v) refl is
  where
    by_creation : (o : Option effect.Effect) → vm_creation xs v ≡ o → is_for_instance o ≡ true →
        is_for_instance (vm_creation (xs ++ x ∷ []) v) ≡ true
    by_creation (Some e) has of =
        ap is_for_instance (vm_creation_stays xs x v ((are_within xs).vms v e has) ∙ has) ∙ of
    by_creation None has of = absurd cc

module _ (xs : List Entry) (x : Entry) (facts : CloudFacts xs) where
  -- a machine that a loss named before
  was_named : (v : ℕ) → is_named_lost xs v ≡ true → is_for_instance (vm_creation (xs ++ x ∷ []) v) ≡ true
  was_named v named =
      still_for xs x v
      (sym (ap (λ b. implies b (is_for_instance (vm_creation xs v))) named) ∙ facts.lost_of_instances v)

  by_named : (v : ℕ) (b : Bool) → (b ≡ true → is_for_instance (vm_creation (xs ++ x ∷ []) v) ≡ true) →
      implies b (is_for_instance (vm_creation (xs ++ x ∷ []) v)) ≡ true
  by_named v true is = is refl
  by_named v false is = refl

  same_named : (v : ℕ) → is_named_lost (xs ++ x ∷ []) v ≡ is_named_lost xs v →
      is_lost_of_instance (xs ++ x ∷ []) v ≡ true
  same_named v same = by_named v (is_named_lost (xs ++ x ∷ []) v) (λ is. was_named v (sym same ∙ is))

-- a machine that the loss names
lost_instance : (xs : List Entry) (loss : Loss) → CloudFacts xs → is_for_instance (vm_creation xs loss.vm) ≡ true →
    (v : ℕ) → is_lost_of_instance (xs ++ Lost loss ∷ []) v ≡ true
lost_instance xs loss facts of v =
    by_named xs (Lost loss) facts v (is_named_lost (xs ++ Lost loss ∷ []) v)
    (λ is. by_way (is_named_lost xs v) refl (loss.vm == v) refl (sym (lost_named xs loss v) ∙ is))
  where
    by_way : (b : Bool) → is_named_lost xs v ≡ b → (c : Bool) → (loss.vm == v) ≡ c → (b || c) ≡ true →
        is_for_instance (vm_creation (xs ++ Lost loss ∷ []) v) ≡ true
    by_way true named c same is = was_named xs (Lost loss) facts v named
    by_way false named true same is =
        still_for xs (Lost loss) v
        (ap (λ k. is_for_instance (vm_creation xs k)) (sym (eqb-true loss.vm v same)) ∙ of)
    by_way false named false same is = absurd cc

pub cloud_kept : (built : KeyWork → List Digest → Digest) (xs : List Entry) (x : Entry) → CloudFacts xs →
    MayFollow built xs x → is_new_call xs x → JoinsTheSame xs x → is_of_instance xs x ≡ true →
    CloudFacts (xs ++ x ∷ [])
cloud_kept built xs x facts follows number joins of = record {
  orderly = orderly_follows built xs x facts.orderly follows number;
  lost_of_instances = by_entry x follows of;
  held_by_own = held_by_own built xs x facts.orderly follows facts.held_by_own joins;
}
  where
    by_entry : (x : Entry) → MayFollow built xs x → is_of_instance xs x ≡ true → (v : ℕ) →
        is_lost_of_instance (xs ++ x ∷ []) v ≡ true
    by_entry (Effect e) follows of v = same_named xs (Effect e) facts v (named-lost xs e v)
    by_entry (Write w) follows of v = same_named xs (Write w) facts v (written_named xs w v)
    by_entry (Lost loss) follows of v = lost_instance xs loss facts of v
    by_entry x follows of v = absurd cc
