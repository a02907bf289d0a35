-- What the laws of goals ask of what is recorded.
use Rattle.std.specs.Prelude.{◌≡◌, ℕ, true, Some, List}
use Rattle.std.specs.List.{list_all}
use Rattle.bosh_base.specs.declared.goal.Goal.{Goal}
use Rattle.bosh_base.specs.declared.key.Key.{Key}
use Rattle.bosh_compile.specs.Readiness.{is_among}
use Rattle.bosh_history.specs.Held.{view}
use Rattle.bosh_history.specs.Known.{Known}
use Rattle.bosh_history.specs.Slots.{is_compiled}
use Rattle.bosh_history.specs.Sound.{has_offers, is_tie_kept}
use Rattle.bosh_rows.specs.Same.{same_inst}
use Rattle.laws_goals.specs.Free.{HoldOnce}
use Rattle.laws_goals.specs.Keys.{CanBeCompiled}
use Rattle.laws_goals.specs.Renewed.{HasFreeRows}
use Rattle.laws_goals.specs.Rows.{HasSoundRows}
use Rattle.laws_goals.specs.Ties.{OffersAreOwn}

-- the view lists the keys that are compiled
abbrev pub AreKeysListed : Known → List ℕ → Type 0
AreKeysListed k dep = (key : Key) → is_among key (view k dep).compiled ≡ is_compiled k key

-- The row of an instance says that it is of that instance; no two rows of the deployment hold one address; what other
-- deployments offer are their own links; and the compiled keys are listed.
pub record AreRecordsInOrder (k : Known) (dep : List ℕ) : Type 0 where
  pub rows : list_all (λ i. same_inst (k.row i).inst i) k.instances ≡ true
  pub addresses : HoldOnce (view k dep).rows
  pub offers : OffersAreOwn (view k dep).known
  pub compiled : AreKeysListed k dep

-- The current goal of its deployment: its rows are sound and their addresses free, its keys, of which the compiled ones
-- are listed, can be compiled one after another, its ties are kept, and the links that it offers are its own.
pub record IsCurrent (k : Known) (goal : Goal) : Type 0 where
  pub recorded : list_all (λ i. same_inst (k.row i).inst i) k.instances ≡ true
  pub is : k.goal goal.dep ≡ Some goal
  pub rows : HasSoundRows k.last_call goal
  pub addresses : HasFreeRows (view k goal.dep) goal
  pub compiled : AreKeysListed k goal.dep
  pub keys : CanBeCompiled (view k goal.dep).compiled goal.keys
  pub ties : list_all (is_tie_kept k goal) goal.ties ≡ true
  pub offers : has_offers goal ≡ true
