-- At each entry that a task notes, the claim gave that entry at the moment before.
use Rattle.std.specs.Prelude.{◌≡◌, ℕ, ◌+◌, Bool, true, false, ◌==◌, Option, Some, None, List, [], ◌∷◌}
use Rattle.std.specs.List.{list_any}
use Rattle.bosh_base.specs.declared.entry.Entry.{Entry}
use Rattle.bosh_base.specs.declared.entry.Entry.TheVariants.{Begin, UpdBegin, UpdDone, Gone, TaskDone}
use Rattle.bosh_base.specs.declared.moves.Move.{Move}
use Rattle.bosh_base.specs.declared.moves.Move.TheVariants as moves
use Rattle.bosh_history.specs.Claim.{claim_at, Noted, Over}
use Rattle.bosh_history.specs.Moments.{Moment, later}
use Rattle.examples_histories.specs.Scenes.{Builder, History}

-- The claim for its task gives the entry; those of an update name no worker. A task that is done is over. The other
-- entries come by no claim.
abbrev pub IsClaimed : Moment → Entry → Type 0
IsClaimed m (Begin b) = claim_at m b.task b.worker ≡ Noted (Begin b)
IsClaimed m (UpdBegin u) = claim_at m u.task 1 ≡ Noted (UpdBegin u)
IsClaimed m (UpdDone u) = claim_at m u.task 1 ≡ Noted (UpdDone u)
IsClaimed m (Gone u) = claim_at m u.task 1 ≡ Noted (Gone u)
IsClaimed m (TaskDone t) = claim_at m t 1 ≡ Over
IsClaimed m entry = Unit {0}

abbrev pub IsKeptClaimed : Moment → Option Entry → Type 0
IsKeptClaimed m (Some entry) = IsClaimed m entry
IsKeptClaimed m None = Unit {0}

-- .. also where it is the entry whose append was not answered before a stop
abbrev pub IsMoveClaimed : Moment → Move → Type 0
IsMoveClaimed m (moves.Note entry) = IsClaimed m entry
IsMoveClaimed m (moves.Stop s) = IsKeptClaimed m s.kept
IsMoveClaimed m move = Unit {0}

abbrev pub Unless : Bool → Type 0 → Type 0
Unless true A = A → ⊥
Unless false A = A

abbrev pub AreClaimed : List ℕ → ℕ → Moment → List Move → Type 0
AreClaimed but k m [] = Unit {0}
AreClaimed but k m (move ∷ history) =
    Unless (list_any (λ place. place == k) but) (IsMoveClaimed m move) × AreClaimed but (k + 1) (later m move) history

-- each entry of the history is claimed
abbrev pub EachClaimed : Moment → History → Type 0
EachClaimed m history = (built : Builder) → AreClaimed [] 1 m (history built)

-- .. but for those at these places, counted from 1, where the claim gives something else
abbrev pub EachClaimedBut : List ℕ → Moment → History → Type 0
EachClaimedBut places m history = (built : Builder) → AreClaimed places 1 m (history built)
