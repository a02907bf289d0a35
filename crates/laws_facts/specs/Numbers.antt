-- Facts on the numbers of calls and tasks: the next number is new, and what has one is the call of that number.
use Rattle.std.specs.Prelude.{◌≡◌, ℕ, ◌+◌, Bool, true, nat_le, not, ◌&&◌, ◌||◌, Option, Some, is_some, List, ◌∷◌, ◌++◌, codes}
use Rattle.std.specs.List.{list_all}
use Rattle.std.specs.Option.{option_eq}
use Rattle.std.specs.Str.{bytes_eq}
use Rattle.bosh_base.specs.Cloud.{numbers_to}
use Rattle.bosh_base.specs.declared.call.Call.{Call}
use Rattle.bosh_base.specs.declared.moves.Did.{Did}
use Rattle.bosh_base.specs.declared.owner.Owner.{Owner}
use Rattle.laws_effects.specs.Orderly.{is_taken}
use Rattle.laws_facts.specs.Owners.{doubt_of, owners}
use Rattle.laws_facts.specs.Words.{unless, broken_of}
use Rattle.laws_row_facts.specs.Words.{implies, where_any, same_call}
use Rattle.bosh_history.specs.Goals.{rows_of}
use Rattle.bosh_history.specs.Known.{Known}
use Rattle.bosh_history.specs.Moments.{Moment, OpenCall, dep_of}
use Rattle.bosh_history.specs.Recovered.{is_recovering}
use Rattle.bosh_history.specs.Words.{holds}
use Rattle.laws_row_facts.specs.Numbers.{is_effect_of}
use Rattle.bosh_rows.specs.Same.{same_owner}
use Rattle.bosh_rows.specs.Standing.{same_truth}

-- ---- the next number is new

-- an open call, and an effect, has a number from 1 to the last one
abbrev pub is_number_past : Moment → ℕ → Bool
is_number_past m n =
    (nat_le 1 n && nat_le n m.known.last_call) || (not (is_some (m.calls n)) && not (is_taken m.effects n))

-- so has a call in doubt
abbrev pub is_doubt_past : Known → Owner → Bool
is_doubt_past k owner = where_any (λ d. nat_le d.n k.last_call) (doubt_of k owner)

-- and no row of a current goal is wanted of a later call
abbrev pub are_rows_past : Known → List ℕ → Bool
are_rows_past k dep = list_all (λ want. nat_le want.fresh_after k.last_call) (rows_of (k.goal dep))

-- ---- an open call has had its effect where it is told so, and no other effect has its number

-- the cloud told that it had its effect
abbrev pub has_effect : Option Did → Bool
has_effect did = holds (λ d. d.effect) did

-- what has the number of the call is that call, where it is told
abbrev pub is_done_as_told : Moment → OpenCall → Bool
is_done_as_told m call =
    list_all
    (is_effect_of call.begin.n call.begin.owner (dep_of m.known call.begin.owner) call.begin.call)
    m.effects
    && same_truth (is_taken m.effects call.begin.n) (has_effect call.did)

-- .. of the call of a number, where it is open
abbrev pub is_call_done_as_told : Moment → ℕ → Bool
is_call_done_as_told m n = where_any (is_done_as_told m) (m.calls n)

-- ---- an effect of the number of a call in doubt is that call's, and so is an open call

-- the open call is this one, of the owner
abbrev pub is_open_for : Owner → Call → OpenCall → Bool
is_open_for owner call it = same_owner it.begin.owner owner && same_call it.begin.call call

-- an effect, and an open call, of the number is the call in doubt
abbrev pub is_doubt_its_own : Moment → Owner → Bool
is_doubt_its_own m owner =
    where_any
    (λ d.
    list_all (is_effect_of d.n owner (dep_of m.known owner) d.call) m.effects
    && where_any (is_open_for owner d.call) (m.calls d.n))
    (doubt_of m.known owner)

-- ---- a compile machine is of a task that was opened, and of its deployment

-- the task was opened, and the machine has its deployment
abbrev pub is_of_its_task : Known → ℕ → ℕ → Bool
is_of_its_task k t s =
    where_any (λ it. nat_le 1 t && (nat_le t k.tasks && option_eq bytes_eq (Some it.dep) (k.task t).dep)) (k.slot t s)

-- ---- while a task is left that a stop interrupted, none was opened since

-- no task is later than the stop
abbrev pub none_opened_since : Moment → Bool
none_opened_since m = implies (is_recovering m) (nat_le m.known.tasks m.stopped)

-- ---- all

-- the facts on numbers
pub record NumberFacts (m : Moment) : Type 0 where
  -- the next number is new
  pub past : (n : ℕ) → is_number_past m n ≡ true
  pub doubts_past : (owner : Owner) → is_doubt_past m.known owner ≡ true
  pub rows_past : (dep : List ℕ) → are_rows_past m.known dep ≡ true
  -- a compile machine is of a task that was opened, and of its deployment
  pub of_tasks : (t s : ℕ) → is_of_its_task m.known t s ≡ true
  -- while a task is left that a stop interrupted, none was opened since
  pub none_opened : none_opened_since m ≡ true

-- the facts on what was done under these numbers
pub record EffectFacts (m : Moment) : Type 0 where
  -- an open call has had its effect where it is told so, and no other effect has its number
  pub done_as_told : (n : ℕ) → is_call_done_as_told m n ≡ true
  -- an effect of the number of a call in doubt is that call's, and so is an open call
  pub doubts_own : (owner : Owner) → is_doubt_its_own m owner ≡ true

-- the tags of those that do not hold
abbrev pub numbers_broken : Moment → List (List ℕ)
numbers_broken m =
    broken_of (λ n. unless (codes "numbers past") (is_number_past m n)) (0 ∷ numbers_to (m.known.last_call + 2))
    ++ broken_of (λ owner. unless (codes "numbers past") (is_doubt_past m.known owner)) (owners m)
    ++ broken_of (λ dep. unless (codes "numbers past") (are_rows_past m.known dep)) m.known.deployments
    ++ broken_of (λ n. unless (codes "effects told") (is_call_done_as_told m n)) (numbers_to m.known.last_call)
    ++ broken_of (λ owner. unless (codes "doubts own") (is_doubt_its_own m owner)) (owners m)
    ++ broken_of (λ name. unless (codes "machines of their tasks") (is_of_its_task m.known name.task name.slot)) m.known.machines
    ++ unless (codes "none opened since") (none_opened_since m)
