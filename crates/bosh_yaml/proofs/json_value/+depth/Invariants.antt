use Rattle.std.proofs.Common.{◌≡◌, drop, nat_lt}
use Rattle.serde_json.specs.View.{items_view, members_view}
use Rattle.bosh_yaml.specs.Limits.{depth_all, depth_keyed}
use Rattle.bosh_yaml.specs.Spelling.{json_items, json_members}
use Rattle.bosh_yaml.specs.Tree.{fields_of, trees_of}
use Rattle.bosh_yaml.proofs.json_value.+depth.Given as goal

-- none so far nests deeper
abbrev pub invariant-has_deeper_item-loop-item : goal.invariant-has_deeper_item-loop-item
invariant-has_deeper_item-loop-item l =
    nat_lt l.most (depth_all (trees_of (json_items (items_view (drop l.item-index l.item-items))))) ≡ nat_lt l.most (depth_all (trees_of (json_items (items_view l.item-items))))

abbrev pub invariant-has_deeper_member-loop-member : goal.invariant-has_deeper_member-loop-member
invariant-has_deeper_member-loop-member l =
    nat_lt l.most (depth_keyed (fields_of (json_members (members_view l.member-iterator)))) ≡ nat_lt l.most (depth_keyed (fields_of (json_members (members_view l.members.entries))))
