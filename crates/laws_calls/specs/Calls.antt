-- The facts on open calls and their owners, each of all its subjects.
use Rattle.std.specs.Prelude.{◌≡◌, ℕ, true, Some}
use Rattle.bosh_base.specs.declared.inst.Inst.{Inst}
use Rattle.bosh_history.specs.Known.{Known}
use Rattle.bosh_history.specs.Moments.{Moment, OpenCall}
use Rattle.bosh_rows.specs.CallOf.{has_its_machine}
use Rattle.laws_facts.specs.OpenCalls.{fits_known, is_told_in_kind}
use Rattle.laws_row_facts.specs.Words.{where_any}

-- an open call is the one that was to be made for its owner
abbrev pub AreFitting : Moment → Type 0
AreFitting m =
    (n : ℕ) (call : OpenCall) → m.calls n ≡ Some call → fits_known m.known call.begin call.begin.owner ≡ true

-- what the cloud told of an open call is of the call's kind
abbrev pub AreToldInKind : Moment → Type 0
AreToldInKind m =
    (n : ℕ) (call : OpenCall) → m.calls n ≡ Some call → where_any (is_told_in_kind call.begin.call) call.did ≡ true

-- a row that is lost, or in doubt of another call than the creation of a machine, has a machine
abbrev pub HaveTheirMachines : Known → Type 0
HaveTheirMachines k = (i : Inst) → has_its_machine (k.row i) ≡ true
