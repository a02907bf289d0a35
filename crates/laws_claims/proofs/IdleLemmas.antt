-- Owners without an open call.
use Rattle.std.proofs.Common.{◌≡◌, ◌∙◌, ℕ, Bool, true, false, not, Option, Some, None, ap, refl, sym}
use Rattle.std.specs.Prelude.{◌==◌}
use Rattle.std.proofs.lemmas.Bool.{eq-eqb, false≢true}
use Rattle.bosh_base.specs.Cloud.{numbers_to}
use Rattle.bosh_base.specs.declared.owner.Owner.{Owner}
use Rattle.bosh_history.specs.Items.{is_item}
use Rattle.bosh_history.specs.Moments.{Moment, OpenCall}
use Rattle.bosh_history.specs.Steps.{has_no_call, is_idle, is_owners}
use Rattle.bosh_history.specs.Words.{holds}
use Rattle.laws_items.proofs.OwnerLemmas.{same_owner_is}
use Rattle.laws_items.proofs.ListLemmas.{all_from, all_in}

module _ (m : Moment) (t : ℕ) where
  -- an item is idle where each open call of one is the task's, and the task has none
  pub idle_item :
      ((n : ℕ) (call : OpenCall) → m.calls n ≡ Some call → is_item m.known t call.begin.owner ≡ true
      → call.begin.task ≡ t)
      → has_no_call m t ≡ true → (owner : Owner) → is_item m.known t owner ≡ true → is_idle m owner ≡ true
  idle_item own quiet owner item =
      all_from (λ n. not (holds (is_owners owner) (m.calls n))) (numbers_to m.known.last_call)
      (λ n is. by n (m.calls n) refl (all_in _ n (numbers_to m.known.last_call) quiet is))
    where
      none : (n : ℕ) (call : OpenCall) → m.calls n ≡ Some call → not (call.begin.task == t) ≡ true → (b : Bool) →
          is_owners owner call ≡ b → not b ≡ true
      none n call is others false other = refl
      none n call is others true same =
          let of_item : owner ≡ call.begin.owner = same_owner_is owner call.begin.owner same in
          let of_task : call.begin.task ≡ t = own n call is (ap (is_item m.known t) (sym of_item) ∙ item) in
          absurd (false≢true (sym (ap not (eq-eqb call.begin.task t of_task)) ∙ others))

      by : (n : ℕ) (call : Option OpenCall) → m.calls n ≡ call
          → not (holds (λ call. call.begin.task == t) call) ≡ true →
          not (holds (is_owners owner) call) ≡ true
      by n (Some call) is others = none n call is others (is_owners owner call) refl
      by n None is others = refl
