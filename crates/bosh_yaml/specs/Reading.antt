-- What a text reads as, or the first refusal in their order.
use Rattle.std.specs.Prelude.{ℕ, Bool, true, false, List, [], Option, Some, None, Result, Err, length, nat_lt, if◌then◌else◌}
use Rattle.serde_json.specs.Data.{Data}
use Rattle.bosh_yaml.specs.declared.event.Event.{Event}
use Rattle.bosh_yaml.specs.declared.fault.ReadFault.{ReadFault}
use Rattle.bosh_yaml.specs.declared.fault.ReadFault.TheVariants.{RepeatedKey, TooDeep, TooLarge, Number}
use Rattle.bosh_yaml.specs.Events.{events_of}
use Rattle.bosh_yaml.specs.Json.{has_integers, json_data, json_events}
use Rattle.bosh_yaml.specs.Lines.{begins}
use Rattle.bosh_yaml.specs.Nodes.{line_of_repeat, nesting, tree_from}
use Rattle.bosh_yaml.specs.Result.{◌>>=◌}
use Rattle.bosh_yaml.specs.Tree.{Tree}

-- the tree of events, unless a key stands twice in its mapping, or collections nest deeper than 64
abbrev pub checked_tree : Option ℕ → List Event → Result Tree ReadFault
checked_tree (Some line) events = Err (RepeatedKey line)
checked_tree None events = if nat_lt 64 (nesting 0 events) then Err TooDeep else tree_from None [] events

abbrev pub yaml_reading : List ℕ → Result Tree ReadFault
yaml_reading text = do
  events ← events_of text
  checked_tree (line_of_repeat [] events) events

-- the same of JSON data, and each number must be an integer within 64 bits
abbrev pub integers_only : Bool → Result Tree ReadFault → Result Tree ReadFault
integers_only true read = read
integers_only false read = Err Number

abbrev pub checked_json_tree : Data → List Event → Result Tree ReadFault
checked_json_tree d events =
    if nat_lt 64 (nesting 0 events) then Err TooDeep else integers_only (has_integers d) (checked_tree (line_of_repeat [] events) events)

abbrev pub json_reading : List ℕ → Result Tree ReadFault
json_reading text = do
  d ← json_data text
  checked_json_tree d (json_events d)

-- a text is JSON where its first byte is `{`, and else of the YAML subset
abbrev pub reading : List ℕ → Result Tree ReadFault
reading text =
    if nat_lt 1048576 (length text) then Err TooLarge
    else if begins 123 text then json_reading text
    else yaml_reading text
