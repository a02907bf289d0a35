-- Keys by which compiled packages are looked up.
use Rattle.std.specs.Prelude.{◌≡◌, Bool, List}
use Rattle.std.specs.BTreeMap.{BTreeMap, get_by}
use Rattle.std.specs.Option.{is_some}
use denote.Ref.{Bor}
use Rattle.bosh_base.specs.declared.key.Key.{Key}
use Rattle.bosh_compile.specs.CompileOrder.{key_cmp}
use Rattle.bosh_compile.specs.Readiness.{is_among}

-- a table has the key
abbrev pub has_key : BTreeMap (Bor Key) (Unit {0}) → Key → Bool
has_key table key = is_some (get_by (λ k. key_cmp key k.now) table)

-- it has just those that are listed
abbrev pub AreKeys : List Key → BTreeMap (Bor Key) (Unit {0}) → Type 0
AreKeys keys table = (key : Key) → has_key table key ≡ is_among key keys
