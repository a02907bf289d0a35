-- A machine that a loss names does not answer any more.
use Rattle.std.proofs.Common.{◌≡◌, ◌∙◌, ℕ, ◌≤◌, Bool, true, false, List, [], ◌∷◌, ◌++◌, refl, sym, subst, inl, inr}
use Rattle.std.proofs.Common.{arith}
use Rattle.std.specs.Prelude.{◌⊎◌, ◌&&◌, ◌||◌, ◌==◌, nat_le, nat_lt, not}
use Rattle.std.specs.List.{list_all}
use Rattle.std.proofs.lemmas.Bool.{and_parts, eqb-true, false≢true, leb-true, or_cases}
use Rattle.std.proofs.lemmas.List.Folds.{list_any-append}
use Rattle.bosh_base.proofs.HistoryLemmas.{kept_along, latest_last}
use Rattle.bosh_base.specs.CallStep.{has_agent}
use Rattle.bosh_base.specs.Cloud.{is_silent, is_vm_there, silence, vms_created, when}
use Rattle.bosh_base.specs.History.{chosen}
use Rattle.bosh_base.specs.declared.entry.Entry.{Entry}
use Rattle.bosh_base.specs.declared.entry.Entry.TheVariants as entries
use Rattle.bosh_base.specs.declared.entry.Loss.{Loss}
use Rattle.bosh_rows.specs.Tied.{is_loss_of, is_named_lost}
use Rattle.laws_effects.proofs.CreationLemmas.{is_vm_there-grown, vms-grown}
use Rattle.laws_effects.proofs.VmLemmas.{silent_vm}
use Rattle.laws_effects.specs.Orderly.{AreOrderly, is_created, IsNext, vms_named}

-- a machine that a loss names was created, and does not answer
record IsSilent (xs : List Entry) (v : ℕ) : Type 0 where
  created : v ≤ vms_created xs
  silent : has_agent xs v ≡ false

abbrev AreSilent : List Entry → Type 0
AreSilent xs = (v : ℕ) → is_named_lost xs v ≡ true → IsSilent xs v

both_off : (a b : Bool) → a ≡ false → (a && b) ≡ false
both_off a b off = λ j. off j && b

either_off : (a b : Bool) → b ≡ false → (a && b) ≡ false
either_off true b off = off
either_off false b off = refl

module _ (xs : List Entry) (loss : Loss) (v : ℕ) (same : (loss.vm == v) ≡ true) where
  lost_now : has_agent (xs ++ entries.Lost loss ∷ []) v ≡ false
  lost_now = by loss.whole refl
    where
      by : (whole : Bool) → loss.whole ≡ whole → has_agent (xs ++ entries.Lost loss ∷ []) v ≡ false
      by true whole =
          both_off (is_vm_there (xs ++ entries.Lost loss ∷ []) v) (not (is_silent (xs ++ entries.Lost loss ∷ []) v))
          (is_vm_there-grown xs (entries.Lost loss) v
          ∙ (λ j. chosen (when (whole j && same j) false) (is_vm_there xs v)))
      by false part =
          either_off (is_vm_there (xs ++ entries.Lost loss ∷ []) v) (not (is_silent (xs ++ entries.Lost loss ∷ []) v))
          (λ j. not ((latest_last (silence v) false xs (entries.Lost loss)
          ∙ (λ l. chosen (when (not (part l) && same l) true) (is_silent xs v))) j))

loss_of : (x : Entry) (v : ℕ) → is_loss_of v x ≡ true → (loss : Loss) × (x ≡ entries.Lost loss) × ((loss.vm == v) ≡ true)
loss_of (entries.Lost loss) v is = (loss, refl, is)
loss_of x v is = absurd (false≢true is)

silent_step : (xs : List Entry) (x : Entry) → AreSilent xs → IsNext xs x → AreSilent (xs ++ x ∷ [])
silent_step xs x silent next v lost =
    by (or_cases (is_named_lost xs v) (is_loss_of v x || false)
    (sym (list_any-append (is_loss_of v) xs (x ∷ [])) ∙ lost))
  where
    grows : v ≤ vms_created xs → v ≤ vms_created (xs ++ x ∷ [])
    grows low = subst (λ (n : ℕ). v ≤ n) (sym (vms-grown xs x)) (omega arith)

    new : (loss : Loss) → x ≡ entries.Lost loss → (loss.vm == v) ≡ true → IsSilent (xs ++ x ∷ []) v
    new loss is same =
        let (created, rest) =
        and_parts (nat_lt 0 loss.vm && nat_le loss.vm (vms_created xs)) _
        (sym (λ j. list_all (is_created (vms_created xs)) (vms_named (is j))) ∙ next.vms) in
        let low : loss.vm ≤ vms_created xs =
        leb-true loss.vm (vms_created xs) (and_parts (nat_lt 0 loss.vm) (nat_le loss.vm (vms_created xs)) created).1 in
        record {
          created = grows (subst (λ (n : ℕ). n ≤ vms_created xs) (eqb-true loss.vm v same) low);
          silent = (λ j. has_agent (xs ++ is j ∷ []) v) ∙ lost_now xs loss v same;
        }

    by : (is_named_lost xs v ≡ true) ⊎ ((is_loss_of v x || false) ≡ true) → IsSilent (xs ++ x ∷ []) v
    by (inl was) =
        let it : IsSilent xs v = silent v was in
        record { created = grows it.created; silent = silent_vm xs x v it.created it.silent }
    by (inr now) =
        let (loss, is, same) = loss_of x v (first (is_loss_of v x) now) in new loss is same
      where
        first : (b : Bool) → (b || false) ≡ true → b ≡ true
        first true is = refl
        first false is = is

pub lost_silent : (xs : List Entry) → AreOrderly xs → (v : ℕ) → is_named_lost xs v ≡ true → has_agent xs v ≡ false
lost_silent xs orderly v lost =
    (kept_along IsNext AreSilent silent_step [] xs (λ v is. absurd (false≢true is)) orderly v lost).silent
