-- The words of a lock.
use Rattle.std.specs.Prelude.{◌≡◌}
use Rattle.atomic_table.specs.Seated.{TableId}

-- three words and one slot, and a seat there
abbrev pub IsGateOf : TableId → TableId → Type 0
IsGateOf gate seat = (seat ≡ gate) × (gate.words ≡ 3) × (gate.slots ≡ 1)
