-- How the addresses of an instance are looked at.
use Rattle.std.proofs.Common.{◌≡◌, ℕ, ◌+◌, ◌<◌, ◌≤◌, Bool, true, ◌||◌, List, [], ◌∷◌, Ok, find, length, get_or, drop, map, add-one, drop-cons, arith, ap, refl}
use Rattle.std.specs.List.{list_any}
use Rattle.std.proofs.lemmas.Grind.{common_steps}
use Rattle.bosh_base.specs.declared.addr.Addr.{Addr}
use Rattle.bosh_base.specs.declared.addr.NetAddr.{NetAddr}
use Rattle.bosh_base.specs.declared.goal.GoalRow.{GoalRow}
use Rattle.bosh_base.specs.declared.row.Row.{Row}
use Rattle.bosh_slots.specs.Slots.{net_addr}
use Rattle.bosh_manifest_names.specs.Answer.{◌>>=◌}
use Rattle.bosh_goal.specs.Anew.{all_free, keeps, refusal_at}

pub any-addr : (test : Addr → Bool) (nets : List NetAddr) → list_any (λ net. test (net_addr net)) nets ≡ list_any test (map net_addr nets)
any-addr test [] = refl
any-addr test (net ∷ nets) = ap (λ b. test (net_addr net) || b) (any-addr test nets)

-- from an address on
pub all_free-next : (rows : List GoalRow) (recorded : List Row) (nets : List NetAddr) (i : ℕ) (net : NetAddr) → i < length nets → net ≡ get_or nets i net
    → all_free rows recorded (map net_addr (drop i nets))
    ≡ (refusal_at net.addr (find (keeps rows net.addr) recorded) >>= λ free. all_free rows recorded (map net_addr (drop (i + 1) nets)))
all_free-next rows recorded nets i net within is =
    let e : drop i nets ≡ net ∷ drop (i + 1) nets = rw (add-one, drop-cons nets i net, ← is) refl in
    ap (λ ns. all_free rows recorded (map net_addr ns)) e

pub all_free-end : (rows : List GoalRow) (recorded : List Row) (nets : List NetAddr) (i : ℕ) → length nets ≤ i → all_free rows recorded (map net_addr (drop i nets)) ≡ Ok true
all_free-end rows recorded nets i past =
    let none : drop i nets ≡ [] = grind (arith, common_steps) in ap (λ ns. all_free rows recorded (map net_addr ns)) none
