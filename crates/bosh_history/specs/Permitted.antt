-- Which move is permitted after which (this project's profile).
use Rattle.std.specs.Prelude.{◌≡◌, ℕ, Bool, true, false, nat_lt, not, ◌&&◌, ◌==◌, Option, Some, None, is_some, List, [], ◌∷◌}
use Rattle.std.specs.List.{list_any}
use Rattle.bosh_base.specs.CallStep.{CallStep, takes_effect, is_mounted_on}
use Rattle.bosh_base.specs.Cloud.{is_vm_there, is_silent, is_running, vm_creation}
use Rattle.bosh_base.specs.declared.entry.Effect.{Effect}
use Rattle.bosh_base.specs.declared.entry.Entry.{Entry}
use Rattle.bosh_base.specs.declared.entry.Entry.TheVariants as entries
use Rattle.bosh_base.specs.declared.entry.Loss.{Loss}
use Rattle.bosh_base.specs.declared.inst.Inst.{Inst}
use Rattle.bosh_base.specs.declared.moves.Did.{Did}
use Rattle.bosh_base.specs.declared.moves.Move.{Move}
use Rattle.bosh_base.specs.declared.moves.Move.TheVariants as moves
use Rattle.bosh_base.specs.declared.moves.Stop as stop
use Rattle.bosh_base.specs.declared.owner.Owner.{Owner}
use Rattle.bosh_base.specs.declared.owner.Owner.TheVariants.{Instance}
use Rattle.bosh_history.specs.Moments.{Opening, Moment, OpenCall, beginning, later, taking, with_written}
use Rattle.bosh_history.specs.Notes.{Outside, MayNote}
use Rattle.bosh_history.specs.Openings.{HasSource}
use Rattle.bosh_history.specs.Recovered.{may_follow}
use Rattle.bosh_history.specs.Words.{holds}
use Rattle.bosh_rows.specs.Disks.{active}
use Rattle.bosh_rows.specs.Tied.{vms_of}

-- ---- the cloud

-- a call is performed: it was not performed yet, and the cloud may answer so
pub record Performs (outside : Outside) (effects : List Entry) (call : OpenCall) (d : Did) : Type 0 where
  pub not_yet : is_some call.did ≡ false
  pub step : CallStep outside.built effects call.begin.call d.effect d.answer

abbrev pub PerformsOpen : Outside → List Entry → Did → Option OpenCall → Type 0
PerformsOpen outside effects d (Some call) = Performs outside effects call d
PerformsOpen outside effects d None = ⊥

-- the instance has a running machine that answers, on which its active disk is mounted
abbrev pub runs_with : List Entry → ℕ → ℕ → Bool
runs_with effects d v = is_running effects v && (not (is_silent effects v) && is_mounted_on effects v d)

abbrev pub can_write : Moment → Inst → Bool
can_write m i =
    holds (λ d. list_any (runs_with m.effects d.disk) (vms_of m.effects (Instance i))) (active (m.known.row i).disks)

abbrev pub is_instances : Option Effect → Bool
is_instances (Some e) = is_one e.owner
  where
    is_one : Owner → Bool
    is_one (Instance i) = true
    is_one owner = false
is_instances None = false

-- the machine is there, and an instance's: compile machines are not lost
abbrev pub can_lose : List Entry → Loss → Bool
can_lose effects loss = is_vm_there effects loss.vm && is_instances (vm_creation effects loss.vm)

-- ---- a stop

-- the entry whose append was not answered was permitted at the halt
abbrev pub MayKeep : Outside → Moment → Option Entry → Type 0
MayKeep outside m (Some entry) = MayNote outside m entry × (may_follow m entry ≡ true)
MayKeep outside m None = Unit {0}

-- the write or loss whose append was not answered was
abbrev pub has_active : Moment → ℕ → Inst → Bool
has_active m d i = holds (λ it. it.disk == d) (active (m.known.row i).disks) && can_write m i

abbrev pub MayWrite : Moment → Option Entry → Type 0
MayWrite m (Some (entries.Write w)) = list_any (has_active m w.disk) m.known.instances ≡ true
MayWrite m (Some (entries.Lost loss)) = can_lose m.effects loss ≡ true
MayWrite m (Some entry) = ⊥
MayWrite m None = Unit {0}

abbrev pub may_take : Outside → Moment → ℕ → Bool
may_take outside m n = holds takes (m.calls n)
  where
    takes : OpenCall → Bool
    takes call = not (is_some call.did) && takes_effect outside.built m.effects call.begin.call

-- the calls that were open and had their effect, in order of number
abbrev pub MayTake : Outside → Moment → ℕ → List ℕ → Type 0
MayTake outside m last [] = Unit {0}
MayTake outside m last (n ∷ took) =
    ((nat_lt last n && may_take outside m n) ≡ true) × MayTake outside (taking m n) n took

pub record Stops (outside : Outside) (m : Moment) (s : stop.Stop) : Type 0 where
  pub is_halted : m.halted ≡ true
  pub kept : MayKeep outside m s.kept
  pub wrote : MayWrite m s.wrote
  pub took : MayTake outside (with_written m s.wrote) 0 s.took

-- ---- all

-- the move is permitted at the moment; between a halt and the next stop only replies stand
abbrev pub IsPermitted : Outside → Moment → Move → Type 0
IsPermitted outside m (moves.Note entry) = (m.halted ≡ false) × (may_follow m entry ≡ true) × MayNote outside m entry
IsPermitted outside m (moves.Did d) = (m.halted ≡ false) × PerformsOpen outside m.effects d (m.calls d.n)
IsPermitted outside m (moves.Wrote w) = (m.halted ≡ false) × (can_write m w.inst ≡ true)
IsPermitted outside m (moves.Halt cause) = m.halted ≡ false
IsPermitted outside m (moves.Stop s) = Stops outside m s
IsPermitted outside m (moves.Lost loss) = (m.halted ≡ false) × (can_lose m.effects loss ≡ true)
IsPermitted outside m (moves.Said said) = Unit {0}

abbrev pub HasSourceWhere : Option Entry → Type 0
HasSourceWhere (Some entry) = HasSource entry
HasSourceWhere None = Unit {0}

-- a deploy that opens tells its source: the older format alone has none
abbrev pub TellsSource : Move → Type 0
TellsSource (moves.Note entry) = HasSource entry
TellsSource (moves.Stop s) = HasSourceWhere s.kept
TellsSource move = Unit {0}

-- each move is permitted after those before it, and tells what the present format tells
abbrev pub IsRunFrom : Outside → Moment → List Move → Type 0
IsRunFrom outside m [] = Unit {0}
IsRunFrom outside m (move ∷ moves) =
    IsPermitted outside m move × IsRunFrom outside (later m move) moves × TellsSource move

abbrev pub IsRun : Outside → Opening → List Move → Type 0
IsRun outside o moves = IsRunFrom outside (beginning o) moves
