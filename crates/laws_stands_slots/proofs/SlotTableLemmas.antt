-- What is known of compile machines once something is told of one, and what is recorded of them.
use Rattle.std.proofs.Common.{◌≡◌, ◌∙◌, ℕ, Bool, true, false, ◌&&◌, List, Option, ap, refl}
use Rattle.std.specs.Prelude.{eqb, if◌then◌else◌}
use Rattle.std.specs.BTreeMap.{is_at}
use Rattle.std.specs.Option.{option_map}
use Rattle.std.specs.Ordering.{nat_cmp}
use Rattle.std.proofs.lemmas.Bool.{and_parts, eqb-true}
use Rattle.bosh_history.specs.Known.{Slot}
use Rattle.bosh_history.specs.Words.{at}
use Rattle.bosh_records.specs.Readers.{machine_cmp}
use Rattle.bosh_records.specs.Table.{changed, thing_in}
use Rattle.bosh_records.specs.declared.machines.Machine.{Machine}
use Rattle.bosh_work.specs.declared.part.MachineName.{MachineName}
use Rattle.laws_stands.specs.Linked.{same_machine}
use Rattle.laws_stands_on.proofs.KeyLemmas.{eq_then, machine_keys}
use Rattle.laws_stands_on.proofs.TableLemmas.{nat_at, thing_changed}
use Rattle.laws_stands_slots.specs.Slots.{with_slot}

-- the order of compile machines compares as equal just those that are one
pub machine_at : (a b : MachineName) → is_at (machine_cmp a) b ≡ same_machine a b
machine_at a b = eq_then (nat_cmp a.task b.task) (nat_cmp a.slot b.slot)
    ∙ (λ i. nat_at a.task b.task i && nat_at a.slot b.slot i)

pub same_machine_is : (a b : MachineName) → same_machine a b ≡ true → a ≡ b
same_machine_is a b is =
    let both : (eqb a.task b.task ≡ true) × (eqb a.slot b.slot ≡ true) =
    and_parts (eqb a.task b.task) (eqb a.slot b.slot) is in
    λ j. record { task = eqb-true a.task b.task both.0 j; slot = eqb-true a.slot b.slot both.1 j }

pub machine_changed : (name : MachineName) (change : Machine → Machine) (places : List (MachineName × Option Machine))
    (x : MachineName) → thing_in machine_cmp (changed machine_cmp name change places) x
    ≡ (if same_machine name x then option_map change (thing_in machine_cmp places x) else thing_in machine_cmp places x)
machine_changed name change places x = thing_changed machine_cmp machine_keys name change places x
    ∙ (λ j. if machine_at name x j then option_map change (thing_in machine_cmp places x)
    else thing_in machine_cmp places x)

pub with_slot_is : (t s : ℕ) (slot : Option Slot) (slots : ℕ → ℕ → Option Slot) (u r : ℕ)
    → with_slot t s slot slots u r ≡ (if eqb t u && eqb s r then slot else slots u r)
with_slot_is t s slot slots u r = by (eqb t u) refl
  where
    by : (b : Bool) → eqb t u ≡ b → (if b then at eqb s slot (slots t) else slots u) r
        ≡ (if b && eqb s r then slot else slots u r)
    by true is = ap (λ t. if eqb s r then slot else slots t r) (eqb-true t u is)
    by false is = refl

-- what is as before of a slot is so of each
pub slot_same : {X : Type 0} (p : Option Slot → X) (t s : ℕ) (slot : Option Slot) (slots : ℕ → ℕ → Option Slot)
    → p slot ≡ p (slots t s) → (u r : ℕ) → p (with_slot t s slot slots u r) ≡ p (slots u r)
slot_same p t s slot slots same u r = ap p (with_slot_is t s slot slots u r) ∙ by (eqb t u && eqb s r) refl
  where
    by : (b : Bool) → (eqb t u && eqb s r) ≡ b → p (if b then slot else slots u r) ≡ p (slots u r)
    by true is =
        let both : (eqb t u ≡ true) × (eqb s r ≡ true) = and_parts (eqb t u) (eqb s r) is in
        same ∙ (λ j. p (slots (eqb-true t u both.0 j) (eqb-true s r both.1 j)))
    by false is = refl
