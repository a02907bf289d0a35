-- What is known of compiled keys, beside which of them have a digest: they are listed in order, none twice, and what is
-- recorded of each is what is listed of it, its name too.
use Rattle.std.specs.Prelude.{◌≡◌, true, List, Option, find}
use Rattle.std.specs.Option.{option_and_then, option_map}
use Rattle.bosh_base.specs.declared.key.Key.{Key}
use Rattle.bosh_base.specs.declared.snapshot.BuiltKey.{BuiltKey}
use Rattle.bosh_compile.specs.Readiness.{same_key}
use Rattle.bosh_records.specs.Keys.{built_key}
use Rattle.bosh_records.specs.Recorded.{Recorded}
use Rattle.bosh_rows.specs.SoundSnapshot.{are_distinct, built_cmp}
use Rattle.laws_row_facts.specs.Words.{are_ascending}
use Rattle.laws_stands.specs.Reading.{state_of}
use Rattle.laws_stands_snapshots.specs.Readable.{same_built}

-- compiled keys that stand in their order
pub record AreBuiltInOrder (built : List BuiltKey) : Type 0 where
  -- each comes after the one before it, by name and then by key
  pub order : are_ascending built_cmp built ≡ true
  -- no key stands twice, under whatever names
  pub apart : are_distinct same_built built ≡ true

-- what is recorded of a compiled key
abbrev pub built_in : Recorded → Key → Option BuiltKey
built_in it key = option_and_then (λ state. option_map (built_key key state) state.digest) (state_of it key)

-- what is recorded of compiled keys stands for what is listed of them
pub record BuiltStand (built : List BuiltKey) (it : Recorded) : Type 0 where
  -- these stand in their order, each once
  pub in_order : AreBuiltInOrder built
  -- at each key the same is said, with the name that it was compiled under
  pub same : (key : Key) → built_in it key ≡ find (λ each. same_key each.key key) built
