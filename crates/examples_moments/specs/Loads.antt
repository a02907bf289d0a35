-- What a site begins on.
use Rattle.std.specs.Prelude.{◌≡◌, ℕ, Bool, true, false, codes, not, ◌&&◌, Some, None, is_some, List, [], ◌∷◌, ◌++◌, drop, take}
use Rattle.bosh_base.specs.declared.answer.Answer.TheVariants as answers
use Rattle.bosh_base.specs.declared.call.Call.{Call}
use Rattle.bosh_base.specs.declared.call.Call.TheVariants as calls
use Rattle.bosh_base.specs.declared.entry.Entry.{Entry}
use Rattle.bosh_base.specs.declared.entry.Entry.TheVariants as entries
use Rattle.bosh_base.specs.declared.inst.Inst.{Inst}
use Rattle.bosh_base.specs.declared.moves.Cause.TheVariants as causes
use Rattle.bosh_base.specs.declared.moves.Move.{Move}
use Rattle.bosh_base.specs.declared.moves.Move.TheVariants.{Halt}
use Rattle.bosh_base.specs.declared.owner.Owner.TheVariants.{Instance}
use Rattle.bosh_base.specs.declared.snapshot.Snapshot.{Snapshot}
use Rattle.bosh_base.specs.declared.task.TaskKind.TheVariants.{Deploy}
use Rattle.bosh_history.specs.Fit as fit
use Rattle.bosh_history.specs.Fit.{IsFit, LeavesPair}
use Rattle.bosh_history.specs.Learn.{known_of}
use Rattle.bosh_history.specs.Moments.{Opening, beginning, durable, effects_of, nothing}
use Rattle.bosh_history.specs.Safe.{IsSafe, is_safe_opening}
use Rattle.bosh_history.specs.Snapshots.{snapshot_of}
use Rattle.bosh_history.specs.Ties.{is_tied}
use Rattle.bosh_history.specs.Words.{is_among}
use Rattle.examples_histories.specs.Scenes.{Builder, beginning_of, config, ending, gone, jammy, opening, part, prelude, sourced, stop}
use Rattle.examples_histories.specs.Two.{two, two_g1}
use Rattle.examples_histories.specs.Values.{inst, plain, web, z1}
use Rattle.examples_histories.specs.Verdicts.{outside}
use Rattle.bosh_rows.specs.Same.{same_inst}

abbrev pub pair : List Entry → List Entry → Opening
pair entries effects = record { entries = entries; effects = effects }

-- an effect for an instance
abbrev pub done : ℕ → Inst → Call → Entry
done n i call = entries.Effect (record { n = n; owner = Instance i; dep = i.dep; call = call })

-- ---- safe to begin on

abbrev pub BeginsSafely : Opening → Bool → Type 0
BeginsSafely o is = is_safe_opening (beginning o) ≡ is

abbrev pub IsUnsafe : Opening → Type 0
IsUnsafe o = IsSafe o [] → ⊥

-- a deploy of two instances, whose group takes one at a time, and what else is noted
abbrev pub deploy_and : List Entry → Opening
deploy_and more =
    pair
    (jammy
    ∷ config
    ∷ opening 1 Deploy (Some (codes "dep")) (Some two_g1) (web 0 ∷ web 1 ∷ []) [] [] sourced
    ∷ more)
    []

-- ---- what a run leaves

abbrev pub halt_and_stop : List Move
halt_and_stop = Halt causes.Stop ∷ stop None [] None ∷ []

-- the first so many moves of a deploy of two instances, and a stop
abbrev pub run : ℕ → List Move
run k = prelude ++ part 1 k (two (λ work deps. record { 0 = [] })) ++ halt_and_stop

-- its stores
abbrev pub left_by : List Move → Opening
left_by moves = pair (durable nothing moves) (effects_of nothing moves)

-- the session leaves the pair, on nothing that was there before
abbrev pub IsLeftBy : List Move → Opening → Type 0
IsLeftBy session o = (built : Builder) → LeavesPair (outside built) nothing session o

abbrev pub IsNotLeftBy : List Move → Opening → Type 0
IsNotLeftBy session o = (built : Builder) → LeavesPair (outside built) nothing session o → ⊥

abbrev pub Fits : Opening → Type 0
Fits o = (built : Builder) → IsFit (outside built) o

abbrev pub without_last : List Entry → List Entry
without_last [] = []
without_last (entry ∷ []) = []
without_last (entry ∷ more) = entry ∷ without_last more

-- a snapshot of what the session made durable, in the place of its entries
abbrev pub shortened_by : List Move → Opening
shortened_by session =
    pair (entries.Snapshot (snapshot_of (known_of (durable nothing session))) ∷ []) (effects_of nothing session)

-- a snapshot of the first so many entries of a session, and the rest of them behind it
abbrev pub cut_after : ℕ → List Move → Opening
cut_after count session =
    pair
    (entries.Snapshot (snapshot_of (known_of (take count (durable nothing session))))
    ∷ drop count (durable nothing session))
    (effects_of nothing session)

-- what is recorded is not what the cloud has
abbrev pub IsUntied : Opening → Type 0
IsUntied o = is_tied (beginning o) ≡ false

-- ---- a pair that hides a row

abbrev pub other : Inst
other = inst (codes "other") (codes "web") 0

-- Before the entries a machine is made for an instance that goes before its call ends: no list names it any more.
abbrev pub hiding : List Entry → List Entry
hiding more =
    beginning_of 1 0 0 (Instance other) (calls.CreateVm (plain z1 10) [])
    ∷ gone 0 other
    ∷ ending 1 (answers.Cid 1)
    ∷ more

abbrev pub plain_told : List Entry → Snapshot
plain_told told = fit.plain (snapshot_of (known_of told))

-- both tell the same by their snapshots
abbrev pub AreToldAlike : List Entry → List Entry → Type 0
AreToldAlike one another = plain_told one ≡ plain_told another

-- a machine is recorded for the instance, and no list names it
abbrev pub IsHidden : List Entry → Inst → Type 0
IsHidden told i =
    (is_some ((known_of told).row i).vm && not (is_among same_inst i (known_of told).instances)) ≡ true
