-- How instances are wanted, by the places that are recorded of them.
use Rattle.std.proofs.Common.{◌≡◌, ◌∙◌, Option, Some, None, ap, refl}
use Rattle.std.specs.Option.{option_and_then}
use Rattle.bosh_base.specs.declared.goal.Goal.{Goal}
use Rattle.bosh_base.specs.declared.inst.Inst.{Inst}
use Rattle.bosh_history.specs.Known.{want_in}
use Rattle.bosh_records.specs.Readers.{goal_of, want_at, want_of}
use Rattle.bosh_records.specs.Recorded.{recorded}
use Rattle.bosh_records.specs.declared.records.Records.{Records}
use Rattle.bosh_rows.specs.Same.{same_inst}
use Rattle.laws_stands.specs.Linked.{IsLinked, want_place}
use Rattle.laws_stands.proofs.MarkLemmas.{found}

in_goal : (goal : Option Goal) (i : Inst) → want_at goal (option_and_then (λ goal. want_place goal.rows i) goal)
    ≡ want_in goal i
in_goal (Some goal) i = found (λ want. same_inst i want.inst) goal.rows
in_goal None i = refl

-- the want of an instance is the one that the current goal of its deployment has
pub want_is : (records : Records) (i : Inst) → IsLinked (recorded records) → want_of records i
    ≡ want_in (goal_of records i.dep) i
want_is records i linked = ap (want_at (goal_of records i.dep)) (linked.wants i) ∙ in_goal (goal_of records i.dep) i
