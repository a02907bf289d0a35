-- Which goals a task may open with, as facts on the goal and the records alone (this project's profile). The goal of
-- a manifest, and a current goal with one row changed, are such.
use Rattle.std.specs.Prelude.{◌≡◌, ℕ, Bool, true, false, eqb, nat_le, not, ◌&&◌, ◌||◌, ◌==◌, Option, Some, None}
use Rattle.std.specs.Prelude.{List, [], ◌∷◌, ◌++◌, map, filter, length}
use Rattle.std.specs.List.{list_any, list_all, flat_map}
use Rattle.std.specs.Option.{option_eq}
use Rattle.std.specs.Cmp.Lexicographic.{pointwise}
use Rattle.std.specs.Str.{bytes_eq}
use Rattle.bosh_base.specs.declared.entry.TaskOpen.{TaskOpen}
use Rattle.bosh_base.specs.declared.goal.Goal.{Goal}
use Rattle.bosh_base.specs.declared.goal.GoalRow.{GoalRow}
use Rattle.bosh_base.specs.declared.goal.GroupPlan.{GroupPlan}
use Rattle.bosh_base.specs.declared.inst.Inst.{Inst}
use Rattle.bosh_base.specs.declared.link.Tie.{Tie}
use Rattle.bosh_base.specs.declared.make.Make.{Make}
use Rattle.bosh_base.specs.declared.offer.Offer.{Offer}
use Rattle.bosh_base.specs.declared.task.TaskKind.{TaskKind}
use Rattle.bosh_base.specs.declared.task.TaskKind.TheVariants.{DeleteDeployment}
use Rattle.bosh_base.specs.declared.view.Held.{Held}
use Rattle.bosh_history.specs.Goals.{named_instance, inst_of, is_in}
use Rattle.bosh_history.specs.Held.{held_by_machines, held_elsewhere, is_offered, same_bytes_joint}
use Rattle.bosh_history.specs.Keys.{are_in_order, are_left}
use Rattle.bosh_history.specs.Known.{Known, offers_in}
use Rattle.bosh_history.specs.Slots.{is_compiled}
use Rattle.bosh_history.specs.Words.{is_among, holds}
use Rattle.bosh_rows.specs.SoundSnapshot.{are_distinct}
use Rattle.bosh_rows.specs.Disks.{is_detached}
use Rattle.bosh_rows.specs.Same.{same_inst, same_make, same_spec, same_state, same_tie, same_want}

-- ---- instances

-- the group of an instance has one plan, and room for one update at least
abbrev pub is_one_plan : List GroupPlan → Bool
is_one_plan (plan ∷ []) = nat_le 1 plan.limit
is_one_plan plans = false

abbrev pub has_plan : Goal → GoalRow → Bool
has_plan goal want = is_one_plan (filter (λ plan. bytes_eq plan.name want.inst.group) goal.groups)

abbrev pub is_row_of : Known → Goal → GoalRow → Bool
is_row_of k goal want = bytes_eq want.inst.dep goal.dep && (has_plan goal want && nat_le want.fresh_after k.last_call)

-- no instance stands twice, each is of the deployment and of a group, and none is wanted of a later call than the
-- last
abbrev pub has_instances : Known → Goal → Bool
has_instances k goal = are_distinct same_inst (map inst_of goal.rows) && list_all (is_row_of k goal) goal.rows

-- ---- addresses

abbrev pub addrs : Make → List ℕ
addrs make = map (λ it. it.addr.0) make.nets

abbrev pub row_addrs : Goal → List ℕ
row_addrs goal = flat_map (λ want. addrs want.make) goal.rows

abbrev pub slot_addrs : Goal → List ℕ
slot_addrs goal = flat_map addrs goal.slots

abbrev pub is_held : List Held → ℕ → Bool
is_held held a = list_any (λ it. it.addr.0 == a) held

abbrev pub has_addr : ℕ → Option Make → Bool
has_addr a make = holds (λ it. list_any (λ b. b == a) (addrs it)) make

-- the recorded row of another instance has the address, and stays in the goal
abbrev pub keeps_address : Known → Goal → Inst → ℕ → Inst → Bool
keeps_address k goal i a j = not (same_inst i j) && (is_in (Some goal) j && has_addr a (k.row j).make)

abbrev pub another_keeps : Known → Goal → Inst → ℕ → Bool
another_keeps k goal i a = list_any (keeps_address k goal i a) k.instances

abbrev pub are_rows_free : Known → Goal → Bool
are_rows_free k goal =
    list_all (λ want. list_all (λ a. not (another_keeps k goal want.inst a)) (addrs want.make)) goal.rows

-- a recorded row or a compile machine has the address
abbrev pub is_used : Known → ℕ → Bool
is_used k a = list_any (λ i. has_addr a (k.row i).make) k.instances || is_held (held_by_machines k) a

-- the current goal of the deployment wants it for a row
abbrev pub is_wanted : Known → Goal → ℕ → Bool
is_wanted k goal a = holds (λ current. is_among eqb a (row_addrs current)) (k.goal goal.dep)

-- Its rows and slots have different addresses; nobody else holds one; no row has that of another row that stays; and
-- no slot has that of a machine that is recorded, or of a row of the current goal.
abbrev pub has_addresses : Known → Goal → Bool
has_addresses k goal =
    are_distinct eqb (row_addrs goal ++ slot_addrs goal)
    && (list_all (λ a. not (is_held (held_elsewhere k goal.dep) a)) (row_addrs goal ++ slot_addrs goal)
    && (are_rows_free k goal && list_all (λ a. not (is_used k a || is_wanted k goal a)) (slot_addrs goal)))

-- ---- keys

-- where there are keys there is a slot
abbrev pub has_slots : Goal → Bool
has_slots goal = nat_le (length goal.keys) 0 || nat_le 1 (length goal.slots)

-- They are in compile order; those of a task of one instance, which are what is left of the current goal's, need only
-- stand each after what it needs. There is a slot for them.
abbrev pub has_keys : Known → TaskKind → Goal → Bool
has_keys k kind goal = by_name (named_instance kind) && has_slots goal
  where
    by_name : Option Inst → Bool
    by_name (Some i) = are_left (is_compiled k) goal.keys
    by_name None = are_in_order (is_compiled k) goal.keys

-- ---- links

-- a link of another deployment is offered by its last done deploy and by its current goal
abbrev pub is_tie_kept : Known → Goal → Tie → Bool
is_tie_kept k goal tie =
    bytes_eq tie.provider.dep goal.dep
    || (is_offered tie.provider tie.kind (k.shared tie.provider.dep)
    && is_offered tie.provider tie.kind (offers_in (k.goal tie.provider.dep)))

-- the links are those of a deployment
abbrev pub are_offers_of : List ℕ → List Offer → Bool
are_offers_of dep offers = list_all (λ offer. bytes_eq offer.joint.dep dep) offers

-- it offers links of its own deployment alone
abbrev pub has_offers : Goal → Bool
has_offers goal = are_offers_of goal.dep goal.offers

-- ---- one instance

-- a row as it was, but for its state and for how old its machine may be
abbrev pub is_alike : GoalRow → GoalRow → Bool
is_alike a b =
    same_inst a.inst b.inst
    && (same_make a.make b.make && (same_spec a.spec b.spec && option_eq same_want a.disk b.disk))

-- .. and for nothing, where it is not the named one
abbrev pub is_kept_row : Inst → GoalRow → GoalRow → Bool
is_kept_row i a b =
    is_alike a b && (same_inst a.inst i || (same_state a.state b.state && a.fresh_after == b.fresh_after))

abbrev pub are_rows_kept : Inst → List GoalRow → List GoalRow → Bool
are_rows_kept i [] [] = true
are_rows_kept i (a ∷ more) (b ∷ others) = is_kept_row i a b && are_rows_kept i more others
are_rows_kept i rows others = false

-- the same link, of the same type
abbrev pub same_offer : Offer → Offer → Bool
same_offer a b = same_bytes_joint a.joint b.joint && bytes_eq a.kind b.kind

abbrev pub same_plan : GroupPlan → GroupPlan → Bool
same_plan a b =
    bytes_eq a.name b.name && (a.canaries == b.canaries && (a.limit == b.limit && a.stage == b.stage))

-- the recorded row of the instance and the wanted one have an address in common
abbrev pub shares_address : Known → GoalRow → Inst → Bool
shares_address k want i = list_any (λ a. has_addr a (k.row i).make) (addrs want.make)

-- no recorded row that is not in the goal has an address of the wanted one
abbrev pub has_no_address : Known → Goal → GoalRow → Bool
has_no_address k goal want = list_all (λ i. is_in (Some goal) i || not (shares_address k want i)) k.instances

-- The goal of a task of one instance has the rows, plans, ties and offers of the current one; unless the named one is
-- to be detached, no address of it is that of a recorded row which is not in the goal, since such a task deletes none.
abbrev pub is_renewed : Known → Goal → Inst → Option Goal → Bool
is_renewed k goal i (Some current) =
    is_in (Some current) i
    && (are_rows_kept i goal.rows current.rows
    && (pointwise same_plan goal.groups current.groups
    && (pointwise same_tie goal.ties current.ties
    && (pointwise same_offer goal.offers current.offers
    && list_all (λ want. not (same_inst want.inst i) || (is_detached want.state || has_no_address k goal want))
    goal.rows))))
is_renewed k goal i None = false

abbrev pub is_empty_goal : Goal → Bool
is_empty_goal goal =
    nat_le (length goal.rows) 0
    && (nat_le (length goal.keys) 0
    && (nat_le (length goal.slots) 0 && (nat_le (length goal.ties) 0 && nat_le (length goal.offers) 0)))

abbrev pub is_of_kind : Known → TaskKind → Goal → Bool
is_of_kind k DeleteDeployment goal = is_empty_goal goal
is_of_kind k kind goal = by_name (named_instance kind)
  where
    by_name : Option Inst → Bool
    by_name (Some i) = is_renewed k goal i (k.goal goal.dep)
    by_name None = true

-- ---- what it is called, and how many slots it has

-- the deployment has a name (bosh.io, "Deployment manifest", "name"), and each slot a number of 32 bits
abbrev pub is_in_bounds : Goal → Bool
is_in_bounds goal = not (bytes_eq goal.dep []) && nat_le (length goal.slots) 4294967296

-- ---- all

abbrev pub is_sound_goal : Known → TaskKind → Goal → Bool
is_sound_goal k kind goal =
    has_instances k goal
    && (has_addresses k goal
    && (has_keys k kind goal
    && (list_all (is_tie_kept k goal) goal.ties && (has_offers goal && is_of_kind k kind goal))))

abbrev pub is_sound : Known → TaskOpen → Bool
is_sound k o = by_goal o.goal
  where
    by_goal : Option Goal → Bool
    by_goal (Some goal) = is_sound_goal k o.kind goal && is_in_bounds goal
    by_goal None = true

-- the goal that a task opens with, where it has one, may be worked on
abbrev pub IsSound : Known → TaskOpen → Type 0
IsSound k o = is_sound k o ≡ true
