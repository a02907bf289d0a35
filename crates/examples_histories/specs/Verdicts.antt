-- What the definitions say of a history: where it is first refused, and where it first breaks each law.
use Rattle.std.specs.Prelude.{◌≡◌, ℕ, ◌+◌, ◌-◌, Bool, true, if◌then◌else◌, Option, Some, None, List, [], ◌∷◌, take, drop, fold}
use Rattle.bosh_base.specs.declared.entry.Entry.TheVariants as entries
use Rattle.bosh_base.specs.declared.moves.Move.{Move}
use Rattle.bosh_base.specs.declared.moves.Move.TheVariants as moves
use Rattle.bosh_history.specs.Budget.{budget}
use Rattle.bosh_history.specs.Exact.{is_exact}
use Rattle.bosh_history.specs.Links.{are_links_kept}
use Rattle.bosh_history.specs.Moments.{Moment, durable_entry, later}
use Rattle.bosh_history.specs.Notes.{Outside}
use Rattle.bosh_history.specs.Permitted.{IsPermitted, IsRunFrom, TellsSource}
use Rattle.bosh_history.specs.Recovered.{follows}
use Rattle.bosh_history.specs.Addresses.{shares_no_address}
use Rattle.bosh_history.specs.CompileKeys.{compiles_once}
use Rattle.bosh_history.specs.Deletions.{is_deletion_asked}
use Rattle.bosh_history.specs.DiskContents.{keeps_disks}
use Rattle.bosh_history.specs.Each.{durable_well, noted_well}
use Rattle.bosh_history.specs.Phases.{in_phase}
use Rattle.bosh_history.specs.Rolling.{rolls_on}
use Rattle.bosh_history.specs.Ties.{is_tied}
use Rattle.examples_histories.specs.Scenes.{Builder, History}

-- each file is a config, and each release goes with the others
abbrev pub outside : Builder → Outside
outside built = record {
  built = built;
  is_config = λ file. true;
  goes_with = λ releases release. true;
}

-- each move is permitted
abbrev pub IsPermittedFrom : Moment → History → Type 0
IsPermittedFrom m history = (built : Builder) → IsRunFrom (outside built) m (history built)

abbrev pub after : Moment → ℕ → List Move → Moment
after m k history = fold later m (take k history)

abbrev pub IsFirstRefused : Outside → Moment → List Move → Type 0
IsFirstRefused outside m [] = ⊥
IsFirstRefused outside m (move ∷ history) = IsPermitted outside m move → ⊥

-- the move at a place, counted from 1, is not permitted after those before it
abbrev pub IsRefusedAt : Moment → ℕ → History → Type 0
IsRefusedAt m k history =
    (built : Builder) → IsFirstRefused (outside built) (after m (k - 1) (history built))
    (drop (k - 1) (history built))

abbrev pub IsFirstUntold : List Move → Type 0
IsFirstUntold [] = ⊥
IsFirstUntold (move ∷ history) = TellsSource move → ⊥

-- it does not tell what the present format tells
abbrev pub IsUntoldAt : ℕ → History → Type 0
IsUntoldAt k history = (built : Builder) → IsFirstUntold (drop (k - 1) (history built))

-- the first place at which a test fails, counted on from one
abbrev pub first_failure : (Moment → Move → Bool) → ℕ → Moment → List Move → Option ℕ
first_failure test k m [] = None
first_failure test k m (move ∷ history) =
    if test m move then first_failure test (k + 1) (later m move) history else Some k

-- where each law is first broken
pub record Verdict : Type 0 where
  pub deletions : Option ℕ
  pub addresses : Option ℕ
  pub rolling : Option ℕ
  pub compile_keys : Option ℕ
  pub disk_contents : Option ℕ
  pub phases : Option ℕ
  pub tied : Option ℕ
  pub recovered : Option ℕ
  pub links : Option ℕ

abbrev pub good : Verdict
good = record {
  deletions = None;
  addresses = None;
  rolling = None;
  compile_keys = None;
  disk_contents = None;
  phases = None;
  tied = None;
  recovered = None;
  links = None;
}

abbrev pub verdict : Moment → List Move → Verdict
verdict m history = record {
  deletions = first_failure is_deletion_asked 1 m history;
  addresses = first_failure shares_no_address 1 m history;
  rolling = first_failure rolls_on 1 m history;
  compile_keys = first_failure (durable_well compiles_once) 1 m history;
  disk_contents = first_failure (durable_well keeps_disks) 1 m history;
  phases = first_failure (noted_well in_phase) 1 m history;
  tied = first_failure (λ before move. is_tied (later before move)) 1 m history;
  recovered = first_failure (λ before move. follows before (durable_entry move)) 1 m history;
  links = first_failure (λ before move. are_links_kept (later before move).known) 1 m history;
}

abbrev pub HasVerdict : Moment → History → Verdict → Type 0
HasVerdict m history is = (built : Builder) → verdict m (history built) ≡ is

-- whether the task left at a place exactly what it was asked for
abbrev pub IsExactAt : Moment → ℕ → ℕ → History → Bool → Type 0
IsExactAt m k task history is = (built : Builder) → is_exact (after m k (history built)) task ≡ is

abbrev pub budget_by : Moment → List Move → Option ℕ
budget_by m (moves.Note (entries.TaskOpen o) ∷ history) = Some (budget m.known o)
budget_by m history = None

-- the task that opens at one place made so many calls up to another, and its budget
pub record IsCounted (m : Moment) (opened ended task calls most : ℕ) (history : List Move) : Type 0 where
  pub made : ((after m ended history).known.task task).calls ≡ Some calls
  pub budget : budget_by (after m (opened - 1) history) (drop (opened - 1) history) ≡ Some most

abbrev pub AreCallsWithin : Moment → ℕ → ℕ → ℕ → ℕ → ℕ → History → Type 0
AreCallsWithin m opened ended task calls most history =
    (built : Builder) → IsCounted m opened ended task calls most (history built)
