-- The facts on updates of tasks that work, each of all its subjects.
use Rattle.std.specs.Prelude.{◌≡◌, ℕ, true}
use Rattle.bosh_base.specs.declared.inst.Inst.{Inst}
use Rattle.bosh_history.specs.Moments.{Moment}
use Rattle.laws_facts.specs.Owners.{works}
use Rattle.laws_facts.specs.Tasks.{is_update_listed, stands_where_through}

-- an instance whose update began, or is done, is one of those that change
abbrev pub AreUpdatesListed : Moment → Type 0
AreUpdatesListed m = (t : ℕ) (i : Inst) → works m t ≡ true → is_update_listed (m.known.task t) i ≡ true

-- an instance that is through stands as its task wants it
abbrev pub StandWhereThrough : Moment → Type 0
StandWhereThrough m =
    (t : ℕ) (i : Inst) → works m t ≡ true → stands_where_through m.known (m.known.task t) i ≡ true
