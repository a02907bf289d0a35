-- What is told once the calls of a task that a stop interrupted are open no more.
use Rattle.std.specs.Prelude.{ℕ}
use Rattle.laws_stands.specs.Told.{Told, of_others}

-- the calls of a task are told as open no more
abbrev pub told_without : ℕ → Told → Told
told_without t told = record told { calls = λ n. of_others t (told.calls n) }
