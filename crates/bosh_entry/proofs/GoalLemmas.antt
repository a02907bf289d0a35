-- What is read is what was spelled.
use Rattle.std.proofs.Common.{[], refl}
use Rattle.bosh_base.specs.declared.goal.GoalRow.{GoalRow}
use Rattle.bosh_base.specs.declared.goal.GroupPlan.{GroupPlan}
use Rattle.bosh_base.specs.declared.goal.Goal.{Goal}
use Rattle.bosh_entry.specs.declared.format.Format.{Format}
use Rattle.bosh_entry.specs.Later.{is_nil}
use Rattle.bosh_entry.specs.Goal.{goal_row, is_goal_row, goal_row_at, group_plan, is_group_plan, group_plan_at, goal, is_goal, goal_at}
use Rattle.bosh_entry.proofs.CodingLemmas.{IsCoding, making_law, struct_law, ◌and◌}
use Rattle.bosh_entry.proofs.NumberLemmas.{number_law, small_law}
use Rattle.bosh_entry.proofs.PlainLemmas.{name_law}
use Rattle.bosh_entry.proofs.ListLemmas.{list_law}
use Rattle.bosh_entry.proofs.ChoiceLemmas.{option_law}
use Rattle.bosh_entry.proofs.LaterLemmas.{later_law, nil_is}
use Rattle.bosh_entry.proofs.InstLemmas.{inst_law}
use Rattle.bosh_entry.proofs.DiskWantLemmas.{disk_want_law}
use Rattle.bosh_entry.proofs.MakeLemmas.{make_law}
use Rattle.bosh_entry.proofs.SpecLemmas.{spec_law}
use Rattle.bosh_entry.proofs.KeyLemmas.{key_work_law}
use Rattle.bosh_entry.proofs.LinkLemmas.{tie_law}
use Rattle.bosh_entry.proofs.StateLemmas.{state_law}
use Rattle.bosh_entry.proofs.OfferLemmas.{offer_law}

pub goal_row_law : IsCoding goal_row is_goal_row goal_row_at
unfolding goal_row is_goal_row goal_row_at
goal_row_law = struct_law (λ (g : GoalRow). ((((((tt, g.inst), g.make), g.spec), g.disk), g.state), g.fresh_after)) (λ p. refl) (λ x. refl) (making_law (λ inst make spec disk state fresh_after. record { inst = inst; make = make; spec = spec; disk = disk; state = state; fresh_after = fresh_after }) and inst_law and make_law and spec_law and option_law disk_want_law and state_law and number_law)

pub group_plan_law : IsCoding group_plan is_group_plan group_plan_at
unfolding group_plan is_group_plan group_plan_at
group_plan_law = struct_law (λ (g : GroupPlan). ((((tt, g.name), g.canaries), g.limit), g.stage)) (λ p. refl) (λ x. refl) (making_law (λ name canaries limit stage. record { name = name; canaries = canaries; limit = limit; stage = stage }) and name_law and small_law and small_law and small_law)

pub goal_law : (format : Format) → IsCoding (goal format) (is_goal format) (goal_at format)
unfolding goal is_goal goal_at
goal_law format = struct_law (λ (g : Goal). (((((((tt, g.dep), g.rows), g.groups), g.ties), g.keys), g.slots), g.offers)) (λ p. refl) (λ x. refl) (making_law (λ dep rows groups ties keys slots offers. record { dep = dep; rows = rows; groups = groups; ties = ties; keys = keys; slots = slots; offers = offers }) and name_law and list_law goal_row_law and list_law group_plan_law and list_law tie_law and list_law key_work_law and list_law make_law and later_law is_nil [] nil_is refl (list_law offer_law) format)
