-- Which entries records allow, one after another.
use Rattle.std.specs.Prelude.{◌≡◌, true, List, [], ◌∷◌}
use Rattle.bosh_base.specs.declared.entry.Entry.{Entry}
use Rattle.bosh_claim.specs.Allowed.{allowed}
use Rattle.bosh_fold.specs.Learns.{Learns}
use Rattle.bosh_records.specs.declared.records.Records.{Records}

-- each entry is allowed by whatever records learned those before it, one after the other, from these on
abbrev pub AreAllowed : Records → List Entry → Type 0
AreAllowed was [] = Unit {0}
AreAllowed was (entry ∷ rest) =
    (allowed was entry ≡ true) × ((now : Records) → Learns was entry now → AreAllowed now rest)
