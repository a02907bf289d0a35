-- All addresses are listed where one of both lists ends.
use Rattle.std.proofs.Common.{◌∙◌, ◌++◌, List, ap, append-nil, length, sym}
use Rattle.bosh_base.specs.declared.addr.NetAddr.{NetAddr}
use Rattle.bosh_instances.proofs.MachineLemmas.{net_addrs-end, past-either}
use Rattle.bosh_instances.proofs.machine.net_addrs.Goals as goal

pub returns : goal.returns
returns c =
    let networks = c.args.networks.now in
    let own = c.args.own.now in
    let place = c.loop-place.place in
    let listed = c.loop-place.addrs.items in
    let past = past-either (length networks) (length own) place c.min-place-end.result c.min-place-end.ensures c.loop-place-test.false in
    c.from.ensures
    ∙ sym (c.loop-place.invariant ∙ (ap (λ (more : List NetAddr). listed ++ more) (net_addrs-end networks own place past) ∙ append-nil listed))
