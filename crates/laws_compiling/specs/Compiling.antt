-- The facts on compilations, each of all its subjects (bosh.io, "Packages": a package's dependencies are compiled before
-- it).
use Rattle.std.specs.Prelude.{◌≡◌, ℕ, true, Some, List, []}
use Rattle.bosh_base.specs.declared.goal.Goal.{Goal}
use Rattle.bosh_history.specs.Keys.{stand_after_needs}
use Rattle.bosh_history.specs.Known.{Known}
use Rattle.bosh_history.specs.Slots.{is_compiled}

-- no key of a current goal stands twice, and what each needs is compiled or stands before it
abbrev pub CanBeCompiled : Known → Type 0
CanBeCompiled k =
    (dep : List ℕ) (goal : Goal) → k.goal dep ≡ Some goal → stand_after_needs (is_compiled k) [] goal.keys ≡ true
