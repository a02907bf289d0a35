-- How goals are spelled.
use Rattle.std.specs.Prelude.{ℕ, Bool, List, ◌&&◌, [], ◌++◌}
use Rattle.bosh_base.specs.Name.{is_name}
use Rattle.bosh_base.specs.declared.goal.GoalRow.{GoalRow}
use Rattle.bosh_base.specs.declared.goal.GroupPlan.{GroupPlan}
use Rattle.bosh_base.specs.declared.goal.Goal.{Goal}
use Rattle.bosh_entry.specs.declared.format.Format.{Format}
use Rattle.bosh_entry.specs.Reading.{Reader, making, ◌with◌}
use Rattle.bosh_entry.specs.Number.{number, is_number, number_at, small_at, is_small}
use Rattle.bosh_entry.specs.List.{text, list, is_list, list_at}
use Rattle.bosh_entry.specs.Plain.{name_at}
use Rattle.bosh_entry.specs.Choice.{option, is_option, option_at}
use Rattle.bosh_entry.specs.Later.{later, is_later, later_at, is_nil}
use Rattle.bosh_entry.specs.Inst.{inst, is_inst, inst_at}
use Rattle.bosh_entry.specs.DiskWant.{disk_want, is_disk_want, disk_want_at}
use Rattle.bosh_entry.specs.Make.{make, is_make, make_at}
use Rattle.bosh_entry.specs.Spec.{spec, is_spec, spec_at}
use Rattle.bosh_entry.specs.Key.{key_work, is_key_work, key_work_at}
use Rattle.bosh_entry.specs.Link.{tie, is_tie, tie_at}
use Rattle.bosh_entry.specs.State.{state, is_state, state_at}
use Rattle.bosh_entry.specs.Offer.{offer, is_offer, offer_at}

-- how one instance is to stand
unfoldable pub goal_row : GoalRow → List ℕ
goal_row g =
    inst g.inst
    ++ make g.make
    ++ spec g.spec
    ++ option disk_want g.disk
    ++ state g.state
    ++ number g.fresh_after

unfoldable pub is_goal_row : GoalRow → Bool
is_goal_row g =
    is_inst g.inst
    && is_make g.make
    && is_spec g.spec
    && is_option is_disk_want g.disk
    && is_state g.state
    && is_number g.fresh_after

unfoldable pub goal_row_at : Reader GoalRow
goal_row_at =
    making (λ inst make spec disk state fresh_after. record {
      inst = inst;
      make = make;
      spec = spec;
      disk = disk;
      state = state;
      fresh_after = fresh_after;
    })
    with inst_at
    with make_at
    with spec_at
    with option_at disk_want_at
    with state_at
    with number_at

-- how the instances of a group are brought to their goal
unfoldable pub group_plan : GroupPlan → List ℕ
group_plan g = text g.name ++ number g.canaries ++ number g.limit ++ number g.stage

unfoldable pub is_group_plan : GroupPlan → Bool
is_group_plan g = is_name g.name && is_small g.canaries && is_small g.limit && is_small g.stage

unfoldable pub group_plan_at : Reader GroupPlan
group_plan_at =
    making (λ name canaries limit stage. record {
      name = name;
      canaries = canaries;
      limit = limit;
      stage = stage;
    })
    with name_at
    with small_at
    with small_at
    with small_at

-- the desired state of a deployment; the older format has no offers
unfoldable pub goal : Format → Goal → List ℕ
goal format g =
    text g.dep
    ++ list goal_row g.rows
    ++ list group_plan g.groups
    ++ list tie g.ties
    ++ list key_work g.keys
    ++ list make g.slots
    ++ later (list offer) format g.offers

unfoldable pub is_goal : Format → Goal → Bool
is_goal format g =
    is_name g.dep
    && is_list is_goal_row g.rows
    && is_list is_group_plan g.groups
    && is_list is_tie g.ties
    && is_list is_key_work g.keys
    && is_list is_make g.slots
    && is_later is_nil (is_list is_offer) format g.offers

unfoldable pub goal_at : Format → Reader Goal
goal_at format =
    making (λ dep rows groups ties keys slots offers. record {
      dep = dep;
      rows = rows;
      groups = groups;
      ties = ties;
      keys = keys;
      slots = slots;
      offers = offers;
    })
    with name_at
    with list_at goal_row_at
    with list_at group_plan_at
    with list_at tie_at
    with list_at key_work_at
    with list_at make_at
    with later_at [] (list_at offer_at) format
