-- Whether a row is as the cloud has it, after the first moves of a history and one change.
use Rattle.std.specs.Prelude.{◌≡◌, ℕ, Bool, true, false}
use Rattle.bosh_base.specs.Cloud.{machines, disks}
use Rattle.bosh_base.specs.declared.inst.Inst.{Inst}
use Rattle.bosh_history.specs.Agrees.{agrees}
use Rattle.bosh_history.specs.Moments.{Moment}
use Rattle.examples_histories.specs.Scenes.{Builder, History}
use Rattle.examples_histories.specs.Verdicts.{after}
use Rattle.examples_moments.specs.Left.{Change}

abbrev pub is_as_the_cloud_has_it : Inst → Moment → Bool
is_as_the_cloud_has_it i m = agrees (m.known.row i) (machines m.effects) (disks m.effects)

abbrev pub Seen : Moment → ℕ → History → Inst → Change → Bool → Type 0
Seen m k history i change is = (built : Builder) → is_as_the_cloud_has_it i (change (after m k (history built))) ≡ is

abbrev pub Agrees : Moment → ℕ → History → Inst → Change → Type 0
Agrees m k history i change = Seen m k history i change true

abbrev pub Differs : Moment → ℕ → History → Inst → Change → Type 0
Differs m k history i change = Seen m k history i change false
