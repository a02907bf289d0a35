-- An update may begin by the rule that runs just where it may by the rule that is shown.
use Rattle.std.proofs.Common.{◌≡◌, ◌≢◌, ◌∙◌, ◌<◌, ◌⊎◌, ℕ, zero, suc, Bool, true, false, ◌&&◌, ◌||◌, List, [], ◌∷◌, map, Option, Some, None, ap, arith, inl, inr, refl, sym, take}
use Rattle.std.specs.Prelude.{All, count_by, nat_le, nat_lt, slice_get, slice_index_or}
use Rattle.std.specs.Option.{option_map}
use Rattle.std.proofs.lemmas.Bool.{and_from, and_parts, false≢true, lt-ltb, ltb-true, or_cases, or_left, or_right}
use Rattle.std.proofs.lemmas.Bool.Decides.{nat_tests}
use Rattle.std.proofs.lemmas.List.Elements.{All-cons, All-head, All-nil, All-tail}
use Rattle.bosh_base.specs.declared.inst.Inst.{Inst}
use Rattle.bosh_history.specs.Goals.{changed_in, is_waiting}
use Rattle.bosh_history.specs.Known.{Task}
use Rattle.bosh_progress.specs.Rolling.{are_past, is_allowed, is_none_below}
use Rattle.bosh_progress.specs.Tree.{first_marked, marked_in}
use Rattle.bosh_progress.specs.declared.rolling.Rolling.{Rolling}
use Rattle.bosh_roll.specs.GroupRoll.{MayBegin}
use Rattle.bosh_roll.specs.Upd.{is_busy}
use Rattle.bosh_roll.specs.declared.group_roll.GroupRoll.{GroupRoll}
use Rattle.bosh_roll.specs.declared.upd.Upd.{Upd}
use Rattle.bosh_roll.specs.declared.upd.Upd.TheVariants.{Busy, Failed, Finished, Todo}
use Rattle.bosh_work.specs.declared.groups.GroupWork.{GroupWork}
use Rattle.laws_rolls.specs.Running.{IsRunning, is_next, roll_of}
use Rattle.laws_stands.proofs.MarkLemmas.{at_place, is_there, marked_as}
use Rattle.laws_stands.specs.GroupsStand.{GroupStands}

-- ---- one instance

waits : (state : Upd) → is_waiting state ≡ true → state ≡ Todo
waits Todo is = refl
waits Busy is = absurd (false≢true is)
waits Finished is = absurd (false≢true is)
waits Failed is = absurd (false≢true is)

through : (state : Upd) → is_waiting state ≡ false → is_busy state ≡ false → state ≢ Failed → state ≡ Finished
through Todo waiting busy well = absurd (false≢true (sym waiting))
through Busy waiting busy well = absurd (false≢true (sym busy))
through Finished waiting busy well = refl
through Failed waiting busy well = absurd (well refl)

-- ---- the first so many

below_suc : (count : ℕ) (o : Option ℕ) → is_none_below (suc count) (option_map suc o) ≡ is_none_below count o
below_suc count None = refl
below_suc count (Some place) = of (nat_le (suc count) (suc place)) refl (nat_le count place) refl
  where
    of : (a : Bool) → nat_le (suc count) (suc place) ≡ a → (b : Bool) → nat_le count place ≡ b → a ≡ b
    of true one true other = refl
    of false one false other = refl
    of true one false other = absurd (grind (arith, nat_tests))
    of false one true other = absurd (grind (arith, nat_tests))

never_first : (count : ℕ) → nat_le (suc count) 0 ≡ true → ⊥
never_first count is = grind (arith, nat_tests)

-- where none of them is marked, the first is not, nor is one of the rest
past_parts : (count : ℕ) (mark : Bool) (marks : List Bool) → are_past (suc count) (mark ∷ marks) ≡ true
    → (mark ≡ false) × (are_past count marks ≡ true)
past_parts count true marks past = absurd (never_first count past)
past_parts count false marks past = (refl, sym (below_suc count (first_marked marks)) ∙ past)

past_all : (count : ℕ) (states : List Upd) → are_past count (map is_waiting states) ≡ true
    → are_past count (map is_busy states) ≡ true → All (λ state. state ≢ Failed) states
    → All (λ state. state ≡ Finished) (take count states)
past_all zero states waiting busy well = All-nil (λ (state : Upd). state ≡ Finished)
past_all (suc count) [] waiting busy well = All-nil (λ (state : Upd). state ≡ Finished)
past_all (suc count) (state ∷ states) waiting busy well =
    let one : (is_waiting state ≡ false) × (are_past count (map is_waiting states) ≡ true) =
    past_parts count (is_waiting state) (map is_waiting states) waiting in
    let other : (is_busy state ≡ false) × (are_past count (map is_busy states) ≡ true) =
    past_parts count (is_busy state) (map is_busy states) busy in
    All-cons (λ state. state ≡ Finished) state (take count states)
    (through state one.0 other.0 (All-head (λ state. state ≢ Failed) state states well))
    (past_all count states one.1 other.1 (All-tail (λ state. state ≢ Failed) state states well))

all_past : (mark : Upd → Bool) → mark Finished ≡ false → (count : ℕ) (states : List Upd)
    → All (λ state. state ≡ Finished) (take count states) → are_past count (map mark states) ≡ true
all_past mark none count [] all = refl
all_past mark none zero (state ∷ states) all = none_below (first_marked (map mark (state ∷ states)))
  where
    none_below : (o : Option ℕ) → is_none_below zero o ≡ true
    none_below None = refl
    none_below (Some place) = grind (arith, nat_tests)
all_past mark none (suc count) (state ∷ states) all =
    (λ j. is_none_below (suc count) (first_marked ((ap mark (All-head (λ state. state ≡ Finished) state (take count states) all)
    ∙ none) j ∷ map mark states)))
    ∙ below_suc count (first_marked (map mark states))
    ∙ all_past mark none count states (All-tail (λ state. state ≡ Finished) state (take count states) all)

-- ---- the rule

module _ (roll : GroupRoll) (it : Rolling) (runs : IsRunning roll it) (well : All (λ state. state ≢ Failed) roll.states)
    (k : ℕ) where
  busy_is : marked_in it.busy ≡ count_by is_busy roll.states
  busy_is = ap marked_in runs.busy_are ∙ marked_as is_busy roll.states

  pub shown_runs : MayBegin roll k → is_next it k ≡ true
  shown_runs may =
      and_from (slice_index_or it.waiting k false) (is_allowed it k)
      (ap (λ marks. slice_index_or marks k false) runs.waiting_are ∙ at_place is_waiting roll.states k Todo may.waits)
      (and_from (nat_lt (marked_in it.busy) it.limit) _
      ((λ j. nat_lt (busy_is j) (runs.limit_is j)) ∙ lt-ltb (count_by is_busy roll.states) roll.limit may.below_limit)
      (by may.canaries_first))
    where
      by : (k < roll.canaries) ⊎ All (λ state. state ≡ Finished) (take roll.canaries roll.states)
          → (nat_lt k it.canaries || (are_past it.canaries it.waiting && are_past it.canaries it.busy)) ≡ true
      by (inl first) = or_left (nat_lt k it.canaries) _
          (ap (nat_lt k) runs.canaries_are ∙ lt-ltb k roll.canaries first)
      by (inr all) = or_right (nat_lt k it.canaries) _
          (and_from (are_past it.canaries it.waiting) (are_past it.canaries it.busy)
          ((λ j. are_past (runs.canaries_are j) (runs.waiting_are j))
          ∙ all_past is_waiting refl roll.canaries roll.states all)
          ((λ j. are_past (runs.canaries_are j) (runs.busy_are j))
          ∙ all_past is_busy refl roll.canaries roll.states all))

  pub runs_shown : is_next it k ≡ true → MayBegin roll k
  runs_shown next =
      let (waiting, allowed) = and_parts (slice_index_or it.waiting k false) (is_allowed it k) next in
      let (room, turn) = and_parts (nat_lt (marked_in it.busy) it.limit)
      (nat_lt k it.canaries || (are_past it.canaries it.waiting && are_past it.canaries it.busy)) allowed in
      record {
        waits = todo waiting;
        none_failed = well;
        below_limit = ltb-true (count_by is_busy roll.states) roll.limit
            (sym (λ j. nat_lt (busy_is j) (runs.limit_is j)) ∙ room);
        canaries_first = first turn;
      }
    where
      todo : slice_index_or it.waiting k false ≡ true → slice_get roll.states k ≡ Some Todo
      todo waiting =
          let at : (state : Upd) × (slice_get roll.states k ≡ Some state) × (is_waiting state ≡ true) =
          is_there is_waiting roll.states k (ap (λ marks. slice_index_or marks k false) (sym runs.waiting_are) ∙ waiting) in
          at.1 ∙ ap Some (waits at.0 at.2)

      first : (nat_lt k it.canaries || (are_past it.canaries it.waiting && are_past it.canaries it.busy)) ≡ true
          → (k < roll.canaries) ⊎ All (λ state. state ≡ Finished) (take roll.canaries roll.states)
      first turn =
          elim (or_cases (nat_lt k it.canaries) (are_past it.canaries it.waiting && are_past it.canaries it.busy) turn) [
            | inl is ↦ inl (ltb-true k roll.canaries (ap (nat_lt k) (sym runs.canaries_are) ∙ is))
            | inr past ↦
                let (waiting, busy) = and_parts (are_past it.canaries it.waiting) (are_past it.canaries it.busy) past in
                inr (past_all roll.canaries roll.states
                (sym (λ j. are_past (runs.canaries_are j) (runs.waiting_are j)) ∙ waiting)
                (sym (λ j. are_past (runs.canaries_are j) (runs.busy_are j)) ∙ busy) well)
          ]

-- ---- the groups of a task

mapped : {A B C : Type 0} (f : A → B) (g : B → C) (xs : List A) → map (λ x. g (f x)) xs ≡ map g (map f xs)
mapped f g [] = refl
mapped f g (x ∷ xs) = ap (λ ys. g (f x) ∷ ys) (mapped f g xs)

pub group_runs : (t : Task) (idle : Inst → Bool) (group : List ℕ) (it : GroupWork) → GroupStands t idle group it
    → IsRunning (roll_of t group) it.roll
group_runs t idle group it stands = record {
  canaries_are = stands.canaries_are;
  limit_is = stands.limit_is;
  waiting_are = stands.waiting_are ∙ mapped t.upd is_waiting (changed_in t group);
  busy_are = stands.busy_are ∙ mapped t.upd is_busy (changed_in t group);
}
