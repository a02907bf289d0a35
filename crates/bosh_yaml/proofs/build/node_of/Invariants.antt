use Rattle.std.proofs.Common.{◌≡◌, [], None, map}
use Rattle.std.specs.Option.{option_map}
use Rattle.std.specs.Vec.Iter.{into_iter_items}
use Rattle.bosh_yaml.specs.Nodes.{AreNew, keys_of_open, line_of_repeat, tree_from}
use Rattle.bosh_yaml.specs.View.{tree_of}
use Rattle.bosh_yaml.proofs.build.node_of.Given as goal

-- the events that are left make the tree from here on, and repeat no key
abbrev pub invariant-loop-event : goal.invariant-loop-event
invariant-loop-event l =
    (AreNew l.outer.items) × (line_of_repeat (map keys_of_open l.outer.items) (into_iter_items l.event-iterator) ≡ None) × (tree_from (option_map tree_of l.whole) l.outer.items (into_iter_items l.event-iterator) ≡ tree_from None [] l.fn.events.items)
