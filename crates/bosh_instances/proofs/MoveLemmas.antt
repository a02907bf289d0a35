-- How the groups are looked through for an instance that would leave the zone of its disk.
use Rattle.std.proofs.Common.{◌≡◌, ℕ, ◌+◌, ◌<◌, ◌≤◌, List, [], ◌∷◌, None, length, get_or, drop, add-one, arith, ap, drop-cons, refl}
use Rattle.std.specs.Option.{option_or}
use Rattle.std.proofs.lemmas.Grind.{common_steps}
use Rattle.bosh_base.specs.declared.row.Row.{Row}
use Rattle.bosh_manifest.specs.declared.group.Group.{Group}
use Rattle.bosh_instances.specs.Moving.{moved, moved_in}

-- from a group on
pub moved-next : (dep : List ℕ) (rows : List Row) (groups : List Group) (i : ℕ) (group : Group) → i < length groups → group ≡ get_or groups i group
    → moved dep rows (drop i groups) ≡ option_or (moved_in dep rows group) (moved dep rows (drop (i + 1) groups))
moved-next dep rows groups i group within is =
    let e : drop i groups ≡ group ∷ drop (i + 1) groups = rw (add-one, drop-cons groups i group, ← is) refl in
    ap (moved dep rows) e

pub moved-past : (dep : List ℕ) (rows : List Row) (groups : List Group) (i : ℕ) → length groups ≤ i → moved dep rows (drop i groups) ≡ None
moved-past dep rows groups i past =
    let none : drop i groups ≡ [] = grind (arith, common_steps) in ap (moved dep rows) none
