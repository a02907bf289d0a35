-- Groups are updated as their plans say (bosh.io, "Deployment manifest", "update").
use Rattle.std.specs.Prelude.{Bool, true, nat_le, not, ◌&&◌, ◌||◌, is_some}
use Rattle.std.specs.List.{list_all}
use Rattle.bosh_base.specs.Cloud.{numbers_to}
use Rattle.bosh_base.specs.declared.entry.Entry.{Entry}
use Rattle.bosh_base.specs.declared.entry.Entry.TheVariants as entries
use Rattle.bosh_base.specs.declared.inst.Inst.{Inst}
use Rattle.bosh_base.specs.declared.moves.Move.{Move}
use Rattle.bosh_history.specs.Goals.{canaries_first, in_flight, is_waiting, limit_of}
use Rattle.bosh_history.specs.Held.{is_open}
use Rattle.bosh_history.specs.Known.{Known, Task, plan_in}
use Rattle.bosh_history.specs.Moments.{Moment, later}
use Rattle.bosh_history.specs.Each.{noted_well}

-- each group of an open task is within its limit
abbrev pub is_within_limit : Task → Inst → Bool
is_within_limit t i = nat_le (in_flight t i.group) (limit_of t (plan_in t.goal i))

abbrev pub are_within_limits : Known → Bool
are_within_limits k =
    list_all (λ t. not (is_open k t) || list_all (is_within_limit (k.task t)) (k.task t).changed) (numbers_to k.tasks)

-- the first word of a task on an instance: it is a canary, or every canary is done
abbrev pub is_in_turn : Task → Inst → Bool
is_in_turn t i = not (is_waiting (t.upd i)) || canaries_first t i

abbrev pub rolls : Known → Entry → Bool
rolls k (entries.UpdBegin u) = is_in_turn (k.task u.task) u.inst && not (is_some (k.task u.task).failed)
rolls k (entries.UpdDone u) = is_in_turn (k.task u.task) u.inst
rolls k entry = true

abbrev pub rolls_on : Moment → Move → Bool
rolls_on m move = noted_well rolls m move && are_within_limits (later m move).known
