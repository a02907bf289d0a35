-- Whole histories from nothing, and whether they are lawful.
use Rattle.std.specs.Prelude.{ℕ, ◌++◌, List, take}
use Rattle.bosh_base.specs.declared.moves.Move.{Move}
use Rattle.bosh_lawful.specs.Clean.{AreCleanTasksBounded, IsCleanTask}
use Rattle.bosh_lawful.specs.Lawful.{IsLawful}
use Rattle.bosh_history.specs.Moments.{nothing}
use Rattle.bosh_lawful.specs.Workers.{AreWorkersApart}
use Rattle.examples_histories.specs.Scenes.{Builder, History, prelude}
use Rattle.examples_histories.specs.Verdicts.{outside}

-- the first so many moves of a history, after what was there before it
abbrev pub whole : ℕ → History → Builder → List Move
whole k history built = prelude ++ take k (history built)

abbrev pub AreLawful : ℕ → History → Type 0
AreLawful k history = (built : Builder) → IsLawful (outside built) nothing (whole k history built)

abbrev pub AreBounded : ℕ → History → Type 0
AreBounded k history = (built : Builder) → AreCleanTasksBounded nothing (whole k history built)

abbrev pub AreUnbounded : ℕ → History → Type 0
AreUnbounded k history = (built : Builder) → AreCleanTasksBounded nothing (whole k history built) → ⊥

abbrev pub IsClean : ℕ → History → ℕ → Type 0
IsClean k history task = (built : Builder) → IsCleanTask nothing (whole k history built) task

abbrev pub IsUnclean : ℕ → History → ℕ → Type 0
IsUnclean k history task = (built : Builder) → IsCleanTask nothing (whole k history built) task → ⊥

abbrev pub WorkApart : ℕ → History → Type 0
WorkApart k history = (built : Builder) → AreWorkersApart nothing (whole k history built)

abbrev pub WorkAtOnce : ℕ → History → Type 0
WorkAtOnce k history = (built : Builder) → AreWorkersApart nothing (whole k history built) → ⊥
