-- What a JSON text reads as (RFC 8259, as `serde_json` reads it). A key that stands twice is settled by that crate, and mappings come in the order of their keys.
use Rattle.std.specs.Prelude.{ℕ, ℤ, Bool, true, false, ◌&&◌, List, [], ◌∷◌, ◌++◌, Option, Some, None, Result, Ok, Err, if◌then◌else◌}
use Rattle.std.specs.Option.{is_some}
use Rattle.std.specs.Str.{is_utf8}
use Rattle.serde_json.specs.Data as json
use Rattle.serde_json.specs.Find.{as_i64}
use Rattle.serde_json.specs.Read.{read}
use Rattle.bosh_yaml.specs.declared.event.Event.{Event}
use Rattle.bosh_yaml.specs.declared.event.Event.TheVariants.{Scalar, OpenList, OpenMap, Key, Close}
use Rattle.bosh_yaml.specs.declared.fault.ReadFault.{ReadFault}
use Rattle.bosh_yaml.specs.declared.fault.ReadFault.TheVariants as faults
use Rattle.bosh_yaml.specs.declared.plain.Leaf.{Leaf}
use Rattle.bosh_yaml.specs.declared.plain.Leaf.TheVariants as leaf

-- a number as an integer within 64 bits
abbrev pub leaf_or_null : Option ℤ → Leaf
leaf_or_null None = leaf.Null
leaf_or_null (Some n) = leaf.Int n

-- the events of JSON data
abbrev mutual
  pub json_events : json.Data → List Event
  json_events json.null = Scalar leaf.Null ∷ []
  json_events (json.boolean b) = Scalar (leaf.Bool b) ∷ []
  json_events (json.number n) = Scalar (leaf_or_null (as_i64 n)) ∷ []
  json_events (json.string s) = Scalar (leaf.Text s) ∷ []
  json_events (json.array ds) = OpenList ∷ (item_events ds ++ Close ∷ [])
  json_events (json.object ms) = OpenMap ∷ (member_events ms ++ Close ∷ [])

  pub item_events : json.Items → List Event
  item_events json.no_items = []
  item_events (json.item d ds) = json_events d ++ item_events ds

  pub member_events : json.Members → List Event
  member_events json.no_members = []
  member_events (json.member k d ms) = Key 0 k ∷ (json_events d ++ member_events ms)

-- whether each number is an integer within 64 bits
abbrev mutual
  pub has_integers : json.Data → Bool
  has_integers json.null = true
  has_integers (json.boolean b) = true
  has_integers (json.number n) = is_some (as_i64 n)
  has_integers (json.string s) = true
  has_integers (json.array ds) = items_have_integers ds
  has_integers (json.object ms) = members_have_integers ms

  pub items_have_integers : json.Items → Bool
  items_have_integers json.no_items = true
  items_have_integers (json.item d ds) = has_integers d && items_have_integers ds

  pub members_have_integers : json.Members → Bool
  members_have_integers json.no_members = true
  members_have_integers (json.member k d ms) = has_integers d && members_have_integers ms

-- a value where each number is an integer within 64 bits, and else a refusal
abbrev pub integers_or : {A : Type 0} → Bool → A → Result A ReadFault
integers_or true x = Ok x
integers_or false x = Err faults.Number

-- the data of a JSON text
abbrev pub data_or_refused : Option json.Data → Result json.Data ReadFault
data_or_refused None = Err (faults.Syntax 0)
data_or_refused (Some d) = Ok d

abbrev pub json_data : List ℕ → Result json.Data ReadFault
json_data bytes = if is_utf8 bytes then data_or_refused (read bytes) else Err (faults.Syntax 0)
