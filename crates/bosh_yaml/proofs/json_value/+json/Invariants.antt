use Rattle.std.proofs.Common.{◌≡◌, ◌++◌, List}
use Rattle.std.specs.Vec.Iter.{into_iter_items}
use Rattle.serde_json.specs.View.{items_view, members_view}
use Rattle.serde_json.proofs.Views.{Entry}
use Rattle.bosh_yaml.specs.Json.{items_have_integers, members_have_integers}
use Rattle.bosh_yaml.specs.Spelling.{json_items, json_members}
use Rattle.bosh_yaml.proofs.json_value.+json.Given as goal

-- the items so far, before those that are left; a number of these is one of all
abbrev pub invariant-items_of-loop-item : goal.invariant-items_of-loop-item
invariant-items_of-loop-item l =
    let left = into_iter_items l.item-iterator in
    (l.nodes ++ json_items (items_view left) ≡ json_items (items_view l.fn.items.items)) × (items_have_integers (items_view left) ≡ items_have_integers (items_view l.fn.items.items))

abbrev pub invariant-pairs_of-loop-key : goal.invariant-pairs_of-loop-key
invariant-pairs_of-loop-key l =
    (done : List Entry) × (l.fn.members.entries ≡ done ++ l.key-iterator) × (l.pairs ≡ json_members (members_view done)) × (members_have_integers (members_view l.key-iterator) ≡ members_have_integers (members_view l.fn.members.entries))
