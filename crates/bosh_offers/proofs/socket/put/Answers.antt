use Rattle.std.proofs.Common.{List, ℕ, subst}
use Rattle.bosh_base.specs.declared.link.Joint.{Joint}
use Rattle.bosh_offers.specs.Tied.{Stands}
use Rattle.bosh_offers.proofs.SocketLemmas.{by_socket-put}
use Rattle.bosh_offers.proofs.socket.put.Goals as goal

pub returns : goal.returns
returns g c = λ all before.
    let stands : Stands (g.T.Linked.joint_of c.args.thing.now) (g.T.Linked.kind_of c.args.thing.now) c.socket_of-socket.result =
    subst (λ (joint : Joint). Stands joint (g.T.Linked.kind_of c.args.thing.now) c.socket_of-socket.result) c.joint.ensures
    (subst (λ (kind : List ℕ). Stands c.joint.result.now kind c.socket_of-socket.result) c.kind.ensures c.socket_of-socket.ensures) in
    by_socket-put g.T.Linked.joint_of g.T.Linked.kind_of all c.args.thing c.socket_of-socket.result c.args.table.now c.insert.new.self
    stands c.in_ok-insert.ensures.updates before
