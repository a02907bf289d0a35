-- Rows and open calls of instances are what the cloud has, as facts of a moment.
use Rattle.std.specs.Prelude.{◌≡◌, ℕ, Some}
use Rattle.bosh_base.specs.declared.inst.Inst.{Inst}
use Rattle.bosh_base.specs.declared.owner.Owner.TheVariants.{Instance}
use Rattle.bosh_history.specs.Moments.{Moment, OpenCall}
use Rattle.laws_facts.specs.CallFacts.{IsOwnerKept}
use Rattle.laws_row_facts.specs.Rows.{RowFacts}

-- each row is what the cloud has
abbrev pub HaveRowFacts : Moment → Type 0
HaveRowFacts m = (i : Inst) → RowFacts m.effects (m.known.row i)

-- what an open call's instance was before it is what the cloud has, until the cloud performs it, and from then on what the
-- instance will be once the call is answered
abbrev pub KeepTheirInstances : Moment → Type 0
KeepTheirInstances m =
    (n : ℕ) (call : OpenCall) (i : Inst) → m.calls n ≡ Some call → call.begin.owner ≡ Instance i →
    IsOwnerKept m call.begin call.did (Instance i)
