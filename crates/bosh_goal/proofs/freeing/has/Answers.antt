use Rattle.std.proofs.Common.{◌∙◌, List, ap}
use Rattle.std.specs.List.{list_any}
use Rattle.bosh_base.specs.declared.addr.NetAddr.{NetAddr}
use Rattle.bosh_pool.specs.Fixed.{same_addr}
use Rattle.bosh_slots.specs.Slots.{net_addr}
use Rattle.bosh_goal.proofs.AddrLemmas.{any-addr}
use Rattle.bosh_goal.proofs.freeing.has.Goals as goal

pub returns-in-Some : goal.returns-in-Some
returns-in-Some c =
    let addr = c.args.addr in
    rw (c.in-Some.is)
    (c.has_addr.ensures ∙ (ap (λ (nets : List NetAddr). list_any (λ net. same_addr addr (net_addr net)) nets) c.as_slice.ensures
    ∙ any-addr (same_addr addr) c.in-Some.make.nets))
