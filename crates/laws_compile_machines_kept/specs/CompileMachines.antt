-- The facts on compile machines and the cloud, each of all its subjects.
use Rattle.std.specs.Prelude.{◌≡◌, ℕ, Some}
use Rattle.bosh_base.specs.declared.owner.Owner.TheVariants.{Compile}
use Rattle.bosh_history.specs.Moments.{Moment, OpenCall}
use Rattle.laws_facts.specs.CallFacts.{IsOwnerKept, named}
use Rattle.laws_slots.specs.Slots.{SlotFacts}

-- each compile machine is what the cloud has
abbrev pub AreAsRecorded : Moment → Type 0
AreAsRecorded m = (t s : ℕ) → SlotFacts m.effects (named t s) (m.known.slot t s)

-- the owner of each open call of a compile machine will be what the cloud has
abbrev pub AreOwnersKept : Moment → Type 0
AreOwnersKept m =
    (n : ℕ) (call : OpenCall) (t s : ℕ) → m.calls n ≡ Some call → call.begin.owner ≡ Compile t s →
    IsOwnerKept m call.begin call.did (Compile t s)
