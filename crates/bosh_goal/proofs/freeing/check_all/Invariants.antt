use Rattle.std.proofs.Common.{◌≡◌, drop, map}
use Rattle.bosh_slots.specs.Slots.{net_addr}
use Rattle.bosh_goal.specs.Anew.{all_free}
use Rattle.bosh_goal.proofs.freeing.check_all.Given as goal

abbrev pub invariant-loop-net : goal.invariant-loop-net
invariant-loop-net l =
    all_free l.rows l.recorded (map net_addr l.nets) ≡ all_free l.rows l.recorded (map net_addr (drop l.net-index l.nets))
