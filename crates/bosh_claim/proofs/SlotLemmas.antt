-- The first slot that is not passed over.
use Rattle.std.proofs.Common.{◌≡◌, ◌∙◌, ℕ, ◌+◌, ◌<◌, zero, suc, Option, Some, None, ap, arith, add-one, inl, inr, sym}
use Rattle.std.specs.Option.{option_map, option_or}
use Rattle.std.proofs.lemmas.Bool.Decides.{eqb_tells}
use Rattle.bosh_base.specs.declared.call.Call.{Call}
use Rattle.bosh_base.specs.declared.owner.Owner.{Owner}
use Rattle.bosh_base.specs.declared.owner.Owner.TheVariants.{Compile}
use Rattle.bosh_records.specs.declared.records.Records.{Records}
use Rattle.bosh_work.specs.declared.work.Work.{Work}
use Rattle.bosh_claim.specs.Slot.{call_below, call_of_slot, for_slot}

-- one more slot is passed over
pub below_more : (records : Records) (work : Work) (slot : ℕ) → call_below records work slot ≡ None
    → call_of_slot records work slot ≡ None → call_below records work (slot + 1) ≡ None
below_more records work slot none passed =
    let own : Option (Owner × Call) = option_map (for_slot work slot) (call_of_slot records work slot) in
    ap (call_below records work) (add-one slot)
    ∙ ap (λ (found : Option (Owner × Call)). option_or found own) none
    ∙ ap (option_map (for_slot work slot)) passed

-- what one of them gives is what all do, where those before it are passed over
pub below_found : (records : Records) (work : Work) (slot slots : ℕ) (call : Call) → slot < slots
    → call_below records work slot ≡ None → call_of_slot records work slot ≡ Some call
    → call_below records work slots ≡ Some (Compile work.task slot, call)
below_found records work slot zero call below none found = absurd (omega (arith, below))
below_found records work slot (suc n) call below none found =
    let own : Option (Owner × Call) = option_map (for_slot work n) (call_of_slot records work n) in
    elim (eqb_tells slot n) [
      | inr apart ↦
          let before : slot < n = omega (arith, below, apart.1) in
          ap (λ (it : Option (Owner × Call)). option_or it own) (below_found records work slot n call before none found)
      | inl same ↦
          let here : call_below records work n ≡ None = ap (call_below records work) (sym same.1) ∙ none in
          let gives : call_of_slot records work n ≡ Some call = ap (call_of_slot records work) (sym same.1) ∙ found in
          ap (λ (it : Option (Owner × Call)). option_or it own) here
          ∙ ap (option_map (for_slot work n)) gives
          ∙ ap (λ (k : ℕ). Some (Compile work.task k, call)) (sym same.1)
    ]
