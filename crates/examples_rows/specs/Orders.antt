-- Histories whose entries are permitted and come in another order than that of the claim, and what the claim gives at
-- single moments.
use Rattle.std.specs.Prelude.{◌≡◌, ℕ, false, true, [], ◌∷◌, ◌++◌}
use Rattle.bosh_base.specs.declared.answer.Answer.TheVariants as answers
use Rattle.bosh_base.specs.declared.call.Call.TheVariants as calls
use Rattle.bosh_base.specs.declared.moves.Move.TheVariants.{Note}
use Rattle.bosh_base.specs.declared.owner.Owner.TheVariants.{Instance}
use Rattle.bosh_history.specs.Claim.{claim_at, Claimed}
use Rattle.bosh_history.specs.Moments.{Moment}
use Rattle.examples_histories.specs.Canaries.{canaries}
use Rattle.examples_histories.specs.Flight.{flight}
use Rattle.examples_histories.specs.Scenes.{Builder, History, beginning_of, did, ending, part}
use Rattle.examples_histories.specs.Scenes.{upd_begin}
use Rattle.examples_histories.specs.Values.{plain, web, z1}
use Rattle.examples_histories.specs.Verdicts.{after}

-- the claim of a worker of a task, after so many moves of a history
abbrev pub Gives : Moment → ℕ → History → ℕ → ℕ → Claimed → Type 0
Gives m k history task worker is = (built : Builder) → claim_at (after m k (history built)) task worker ≡ is

-- The second of two instances is begun first.
abbrev pub begun_out_of_order : History
begun_out_of_order built =
    part 1 12 (canaries built)
    ++ Note (upd_begin 1 (web 2))
    ∷ Note (beginning_of 4 1 0 (Instance (web 2)) (calls.CreateVm (plain z1 12) []))
    ∷ []

-- Two updates begin before the first call of either.
abbrev pub begun_ahead : History
begun_ahead built = part 1 13 (canaries built) ++ part 15 15 (canaries built)

-- An update that is done is noted one call later.
abbrev pub done_late : History
done_late built =
    part 1 37 (canaries built)
    ++ part 39 41 (canaries built)
    ++ part 38 38 (canaries built)
    ++ part 42 46 (canaries built)

-- One of two open calls fails.
abbrev pub failed_beside : History
failed_beside built = part 1 5 (flight built) ++ did 1 false answers.Failed ∷ Note (ending 1 answers.Failed) ∷ []

-- .. and then the other is answered.
abbrev pub failed_and_answered : History
failed_and_answered built =
    failed_beside built ++ did 2 true (answers.Cid 1) ∷ Note (ending 2 (answers.Cid 1)) ∷ []
