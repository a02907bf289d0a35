-- In a clean task nothing is wrong that nobody noticed, and its calls do not fail.
use Rattle.std.specs.Prelude.{ℕ, Bool, true, false, not, ◌&&◌, ◌||◌, ◌==◌, List}
use Rattle.std.specs.Str.{bytes_eq}
use Rattle.bosh_base.specs.CallStep.{is_gone}
use Rattle.bosh_base.specs.declared.answer.Answer.{Answer}
use Rattle.bosh_base.specs.declared.call.Call.{Call}
use Rattle.bosh_base.specs.declared.call.Call.TheVariants.{DeleteVm, Ping}
use Rattle.bosh_base.specs.declared.entry.Begin.{Begin}
use Rattle.bosh_base.specs.declared.entry.Entry.{Entry}
use Rattle.bosh_base.specs.declared.inst.Inst.{Inst}
use Rattle.bosh_base.specs.declared.owner.Owner.{Owner}
use Rattle.bosh_base.specs.declared.owner.Owner.TheVariants.{Instance}
use Rattle.bosh_base.specs.declared.row.Row.{Row}
use Rattle.laws_row_facts.specs.Words.{implies, where_any}
use Rattle.bosh_history.specs.Items.{is_to_ping}
use Rattle.bosh_history.specs.Known.{Known, Task}
use Rattle.bosh_history.specs.Moments.{Moment, OpenCall}
use Rattle.bosh_history.specs.Words.{holds}
use Rattle.bosh_lawful.specs.Clean.{is_silent_creation, is_failed}
use Rattle.bosh_rows.specs.After.{after}
use Rattle.bosh_rows.specs.Tied.{is_spoiled}

-- a loss of its machine was noticed, or there was none
abbrev pub is_unspoiled : List Entry → Row → Bool
is_unspoiled effects row = row.lost || not (is_spoiled effects row)

-- A row of the deployment is unspoiled, or is to be asked; and no machine is silent that only its call in doubt
-- knows of.
abbrev pub is_row_clean : Moment → Task → Inst → Bool
is_row_clean m t i =
    implies (holds (bytes_eq i.dep) t.dep)
    ((is_unspoiled m.effects (m.known.row i) || is_to_ping t i)
    && not (is_silent_creation m.effects (m.known.row i).doubt))

-- a call that may be answered that something is gone: a ping, and the deletion of a machine that is known to be lost
abbrev pub may_be_gone : Known → Owner → Call → Bool
may_be_gone k owner (Ping vm) = true
may_be_gone k (Instance i) (DeleteVm vm) = (k.row i).lost
may_be_gone k owner call = false

-- the answer leaves a row that is not spoiled
abbrev pub leaves_unspoiled : Moment → Begin → Answer → Owner → Bool
leaves_unspoiled m b answer (Instance i) = is_unspoiled m.effects (after b.n b.call answer (m.known.row i))
leaves_unspoiled m b answer owner = true

-- the answer is no failure, and nothing was gone but where that is no failure either
abbrev pub is_answer_clean : Moment → Begin → Answer → Bool
is_answer_clean m b answer =
    not (is_failed answer)
    && (implies (is_gone answer) (may_be_gone m.known b.owner b.call) && leaves_unspoiled m b answer b.owner)

-- an open call of the task was not answered so that the task fails, and leaves no row that is spoiled
abbrev pub is_call_clean : Moment → ℕ → OpenCall → Bool
is_call_clean m t call =
    implies (call.begin.task == t) (where_any (λ d. is_answer_clean m call.begin d.answer) call.did)
