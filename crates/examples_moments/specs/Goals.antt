-- Goals that a task may open with, or not, after the first moves of a history.
use Rattle.std.specs.Prelude.{◌≡◌, ℕ, Bool, true, false, codes, Some, None, List, [], ◌∷◌, ◌++◌}
use Rattle.bosh_base.specs.declared.answer.Answer.TheVariants as answers
use Rattle.bosh_base.specs.declared.call.Call.TheVariants as calls
use Rattle.bosh_base.specs.declared.goal.Goal.{Goal}
use Rattle.bosh_base.specs.declared.goal.GoalRow.{GoalRow}
use Rattle.bosh_base.specs.declared.goal.GroupPlan.{GroupPlan}
use Rattle.bosh_base.specs.declared.key.Key.{Key}
use Rattle.bosh_base.specs.declared.key.KeyWork.{KeyWork}
use Rattle.bosh_base.specs.declared.link.Tie.{Tie}
use Rattle.bosh_base.specs.declared.make.Make.{Make}
use Rattle.bosh_base.specs.declared.moves.Move.TheVariants.{Note}
use Rattle.bosh_base.specs.declared.offer.Offer.{Offer}
use Rattle.bosh_base.specs.declared.owner.Owner.TheVariants.{Compile}
use Rattle.bosh_base.specs.declared.state.State.{State}
use Rattle.bosh_base.specs.declared.state.State.TheVariants.{Running}
use Rattle.bosh_base.specs.declared.task.TaskKind.{TaskKind}
use Rattle.bosh_base.specs.declared.task.TaskKind.TheVariants as kinds
use Rattle.bosh_history.specs.Moments.{Moment}
use Rattle.bosh_history.specs.Sound.{is_sound_goal}
use Rattle.examples_histories.specs.Links.{links, offer_withdrawn_goal}
use Rattle.examples_histories.specs.Migrated.{migrated}
use Rattle.examples_histories.specs.Scenes.{Builder, History, called, opening, part, sourced}
use Rattle.examples_histories.specs.Values.{digest, goal, group, joint, no_jobs, offer, plain, row, slot, tie}
use Rattle.examples_histories.specs.Values.{web, work_p, z1, z2}
use Rattle.examples_histories.specs.Verdicts.{after}

abbrev pub Sound : Moment → ℕ → History → TaskKind → Goal → Bool → Type 0
Sound m k history kind goal is =
    (built : Builder) → is_sound_goal (after m k (history built)).known kind goal ≡ is

-- a task of this kind may open with the goal
abbrev pub IsSoundGoal : Moment → ℕ → History → TaskKind → Goal → Type 0
IsSoundGoal m k history kind goal = Sound m k history kind goal true

abbrev pub IsUnsoundGoal : Moment → ℕ → History → TaskKind → Goal → Type 0
IsUnsoundGoal m k history kind goal = Sound m k history kind goal false

-- ---- rows

-- instance `web/N` in zone z1 with an address
abbrev pub web_at : ℕ → ℕ → GoalRow
web_at index n = row (web index) (plain z1 n) no_jobs None Running 0

abbrev pub in_state : State → GoalRow → GoalRow
in_state state want = record want { state = state }

abbrev pub fresh_after : ℕ → GoalRow → GoalRow
fresh_after n want = record want { fresh_after = n }

abbrev pub one : GroupPlan
one = group (codes "web") 1 1

-- ---- goals

abbrev pub of_rows : List GoalRow → Goal
of_rows rows = goal (codes "dep") rows (one ∷ []) [] [] [] []

abbrev pub of_plans : List GroupPlan → Goal
of_plans plans = goal (codes "dep") (web_at 0 10 ∷ []) plans [] [] [] []

abbrev pub of_keys : List KeyWork → List Make → Goal
of_keys keys slots = goal (codes "dep") (web_at 0 10 ∷ []) (one ∷ []) keys slots [] []

abbrev pub of_slots : List Make → Goal
of_slots slots = of_keys [] slots

abbrev pub of_tie : Tie → Goal
of_tie it = goal (codes "dep") (web_at 0 20 ∷ []) (one ∷ []) [] [] (it ∷ []) []

abbrev pub nothing_wanted : Goal
nothing_wanted = goal (codes "dep") [] [] [] [] [] []

-- a package that needs another
abbrev pub key_q : Key
key_q = record { fingerprint = digest 9; os = codes "jammy"; version = codes "1.1" }

abbrev pub work_q : KeyWork
work_q = record { name = codes "q"; key = key_q; deps = work_p.key ∷ [] }

-- .. and one that needs none, with a later name
abbrev pub work_r : KeyWork
work_r = record { name = codes "r"; key = record key_q { fingerprint = digest 8 }; deps = [] }

-- .. one more that needs none, and two of the next level before compilation: one needs `p`, the other `x`
abbrev pub work_x : KeyWork
work_x = record { name = codes "x"; key = record key_q { fingerprint = digest 5 }; deps = [] }

abbrev pub work_a : KeyWork
work_a = record { name = codes "a"; key = record key_q { fingerprint = digest 3 }; deps = work_p.key ∷ [] }

abbrev pub work_b : KeyWork
work_b = record { name = codes "b"; key = record key_q { fingerprint = digest 4 }; deps = work_x.key ∷ [] }

abbrev pub of_offer : Offer → Goal
of_offer it = goal (codes "dep") (web_at 0 10 ∷ []) (one ∷ []) [] [] [] (it ∷ [])

-- the link that `web` of a deployment offers
abbrev pub offer_of : List ℕ → Offer
offer_of dep = offer (joint dep (codes "web") (codes "web") (codes "db"))

-- a tie of `web` to the link that `db` of a deployment offers
abbrev pub tie_to : List ℕ → Tie
tie_to dep = tie (joint (codes "dep") (codes "web") (codes "web") (codes "db"))
    (joint dep (codes "db") (codes "db") (codes "db"))

abbrev pub of_other_type : Tie → Tie
of_other_type it = record it { kind = codes "cache" }

-- ---- the goal that the history of two instances has, and those that change it

-- its two rows, in two zones
abbrev pub second_at : ℕ → GoalRow
second_at n = row (web 1) (plain z2 n) no_jobs None Running 0

abbrev pub both : GoalRow → GoalRow → Goal
both first second = of_rows (first ∷ second ∷ [])

abbrev pub both_as_they_are : Goal
both_as_they_are = both (web_at 0 10) (second_at 11)

-- ---- an address that a row has which no goal wants

-- A deploy takes the one instance out of its goal and wants another with its address.
abbrev pub handed_on : History
handed_on built =
    part 1 23 (migrated built)
    ++ Note
    (opening 2 kinds.Deploy (Some (codes "dep")) (Some (of_rows (web_at 1 10 ∷ []))) (web 1 ∷ []) (web 0 ∷ []) []
    sourced)
    ∷ []

-- ---- a goal of which one key is compiled

abbrev pub four_keys : Goal
four_keys = of_keys (work_p ∷ work_x ∷ work_a ∷ work_b ∷ []) (slot z1 11 ∷ [])

-- A deploy compiles the first of its keys.
abbrev pub first_compiled : History
first_compiled built =
    (Note (opening 1 kinds.Deploy (Some (codes "dep")) (Some four_keys) (web 0 ∷ []) [] [] sourced) ∷ [])
    ++ called 1 1 0 (Compile 1 0) (calls.CreateVm (plain z1 11) []) true (answers.Cid 1)
    ++ called 2 1 0 (Compile 1 0) (calls.CompilePackage 1 work_p []) false (answers.Built (built work_p []))

-- ---- offers that are withdrawn

-- A deployment is deployed, and then deployed anew without its offer; that is not done yet.
abbrev pub withdrawn : History
withdrawn built =
    part 1 14 (links built)
    ++ Note (opening 2 kinds.Deploy (Some (codes "shop")) (Some offer_withdrawn_goal) [] [] [] sourced) ∷ []
