-- A goal that is made anew has what the current one has.
use Rattle.std.proofs.Common.{◌≡◌, ◌∙◌, ℕ, Bool, true, false, ◌==◌, cond, List, [], ◌∷◌, Some, Ok, filter, length, map, ap, refl, sym, subst}
use Rattle.std.specs.Option.{option_eq}
use Rattle.std.proofs.lemmas.Bool.{and_from, eq-eqb, or_left, or_right}
use Rattle.bosh_base.specs.Exact.{Decides-option}
use Rattle.bosh_base.specs.ExactParts.{Decides-disk_want, Decides-make, Decides-spec}
use Rattle.bosh_base.specs.declared.goal.Goal.{Goal}
use Rattle.bosh_base.specs.declared.goal.GoalRow.{GoalRow}
use Rattle.bosh_base.specs.declared.inst.Inst.{Inst}
use Rattle.bosh_base.specs.declared.make.Make.{Make}
use Rattle.bosh_base.specs.declared.state.State.{State}
use Rattle.bosh_base.specs.declared.state.State.TheVariants.{Detached, Running, Stopped}
use Rattle.bosh_base.specs.declared.view.View.{View}
use Rattle.bosh_cloudcfg.specs.declared.config.Config.{Config}
use Rattle.bosh_goal.proofs.InstanceLemmas.{both-steps, same-value}
use Rattle.bosh_goal.specs.Anew.{addresses_free, anew, changed_row, is_left, is_row_of, row_anew}
use Rattle.bosh_goal.specs.declared.change.Change.{Change}
use Rattle.bosh_goal.specs.declared.change.Change.TheVariants.{Fresh, To, Same}
use Rattle.bosh_history.specs.Sound.{are_rows_kept, is_alike, is_kept_row}
use Rattle.bosh_rows.proofs.SameLemmas.{itself}
use Rattle.bosh_rows.specs.Same.{same_inst, same_make, same_spec, same_state, same_want}
use Rattle.bosh_slots.specs.Slots.{slots}
use Rattle.laws_goals.specs.Renewed.{IsRenewed}

pub record IsAnew (inst : Inst) (change : Change) (config : Config) (view : View) (goal it : Goal) : Type 0 where
  pub was : Bool
  pub free : addresses_free inst change goal.rows view.rows ≡ Ok was
  pub makes : List Make
  pub slots_are : slots config (length (filter (is_left view.compiled) goal.keys)) [] view ≡ Ok makes
  pub is : it ≡ record {
    dep = goal.dep;
    rows = map (row_anew inst change view.last_call) goal.rows;
    groups = goal.groups;
    ties = goal.ties;
    keys = filter (is_left view.compiled) goal.keys;
    slots = makes;
    offers = goal.offers;
  }

pub is-anew :
    (inst : Inst) (change : Change) (config : Config) (view : View) (goal it : Goal) → anew inst change (Some config) view goal ≡ Ok it
    → IsAnew inst change config view goal it
is-anew inst change config view goal it told =
    let P : Type 0 = IsAnew inst change config view goal it in
    both-steps P (addresses_free inst change goal.rows view.rows) _ it told
    (λ free f e. both-steps P (slots config (length (filter (is_left view.compiled) goal.keys)) [] view) _ it e
    (λ makes m whole. record { was = free; free = f; makes = makes; slots_are = m; is = sym (same-value _ it whole) }))

-- ---- rows

state-self : (state : State) → same_state state state ≡ true
state-self Running = refl
state-self Stopped = refl
state-self Detached = refl

alike-self : (row : GoalRow) → is_alike row row ≡ true
alike-self row =
    and_from (same_inst row.inst row.inst) _ (itself row.inst)
    (and_from (same_make row.make row.make) _ ((Decides-make row.make row.make).1 refl)
    (and_from (same_spec row.spec row.spec) (option_eq same_want row.disk row.disk) ((Decides-spec row.spec row.spec).1 refl) ((Decides-option Decides-disk_want row.disk row.disk).1 refl)))

changed-alike : (change : Change) (last : ℕ) (row : GoalRow) → is_alike (changed_row change last row) row ≡ true
changed-alike Fresh last row = alike-self row
changed-alike (To state) last row = alike-self row
changed-alike Same last row = alike-self row

changed-inst : (change : Change) (last : ℕ) (row : GoalRow) → (changed_row change last row).inst ≡ row.inst
changed-inst Fresh last row = refl
changed-inst (To state) last row = refl
changed-inst Same last row = refl

changed-make : (change : Change) (last : ℕ) (row : GoalRow) → (changed_row change last row).make ≡ row.make
changed-make Fresh last row = refl
changed-make (To state) last row = refl
changed-make Same last row = refl

module _ (inst : Inst) (change : Change) (last : ℕ) where
  abbrev renewed : GoalRow → GoalRow
  renewed = row_anew inst change last

  pub anew-inst : (row : GoalRow) → (renewed row).inst ≡ row.inst
  anew-inst row = by (is_row_of inst row)
    where
      by : (b : Bool) → (cond b (changed_row change last row) row).inst ≡ row.inst
      by true = changed-inst change last row
      by false = refl

  pub anew-make : (row : GoalRow) → (renewed row).make ≡ row.make
  anew-make row = by (is_row_of inst row)
    where
      by : (b : Bool) → (cond b (changed_row change last row) row).make ≡ row.make
      by true = changed-make change last row
      by false = refl

  row-kept : (row : GoalRow) → is_kept_row inst (renewed row) row ≡ true
  row-kept row = by (is_row_of inst row) refl
    where
      by : (b : Bool) → is_row_of inst row ≡ b → is_kept_row inst (cond b (changed_row change last row) row) row ≡ true
      by true e =
          and_from (is_alike (changed_row change last row) row) _ (changed-alike change last row)
          (or_left (same_inst (changed_row change last row).inst inst) _ (ap (λ (i : Inst). same_inst i inst) (changed-inst change last row) ∙ e))
      by false e =
          and_from (is_alike row row) _ (alike-self row)
          (or_right (same_inst row.inst inst) _ (and_from (same_state row.state row.state) (row.fresh_after == row.fresh_after) (state-self row.state) (eq-eqb row.fresh_after row.fresh_after refl)))

  rows-kept : (rows : List GoalRow) → are_rows_kept inst (map renewed rows) rows ≡ true
  rows-kept [] = refl
  rows-kept (row ∷ rows) = and_from (is_kept_row inst (renewed row) row) (are_rows_kept inst (map renewed rows) rows) (row-kept row) (rows-kept rows)

pub is-renewed : (inst : Inst) (change : Change) (config : Config) (view : View) (goal it : Goal) → anew inst change (Some config) view goal ≡ Ok it → IsRenewed inst view goal it
is-renewed inst change config view goal it told =
    let made : IsAnew inst change config view goal it = is-anew inst change config view goal it told in
    subst (IsRenewed inst view goal) (sym made.is)
    (record { dep = refl; rows = rows-kept inst change view.last_call goal.rows; plans = refl; ties = refl; offers = refl; keys = refl })
