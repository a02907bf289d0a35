use Rattle.std.proofs.Common.{List, ◌++◌, drop}
use Rattle.bosh_offers.specs.Tied.{AreBySocket}
use Rattle.bosh_offers.proofs.socket.put_all.Given as goal

-- the things from the place on are there
abbrev pub invariant-loop-place : goal.invariant-loop-place
invariant-loop-place g l =
    (all : List g.row.T.Denot) → AreBySocket {A = g.row.T.Denot} g.T.Linked.joint_of g.T.Linked.kind_of all l.fn.table
    → AreBySocket {A = g.row.T.Denot} g.T.Linked.joint_of g.T.Linked.kind_of (drop l.place l.things ++ all) l.table
