-- One more thing is put before the others.
use Rattle.std.proofs.Common.{◌≡◌, ◌∙◌, ℕ, ◌+◌, ◌-◌, List, [], ◌∷◌, ◌++◌, length, drop, ap, sym, subst, arith}
use Rattle.std.proofs.lemmas.Grind.{common_steps}
use Rattle.std.proofs.lemmas.List.{drop_more}
use Rattle.bosh_offers.specs.Tied.{AreBySocket}
use Rattle.bosh_offers.proofs.socket.put_all.Goals as goal

pub loop-place-init : goal.loop-place-init
loop-place-init g c = λ all before.
    let things = c.args.things.now in
    let none : drop (length things) things ≡ [] = grind (arith, common_steps) in
    subst (λ (front : List g.row.T.Denot). AreBySocket {A = g.row.T.Denot} g.T.Linked.joint_of g.T.Linked.kind_of (front ++ all) c.args.table.now)
    (sym none) before

pub loop-place-preserved : goal.loop-place-preserved
loop-place-preserved g c = λ all before.
    let things = c.args.things.now in
    let place = c.loop-place.place in
    let thing = c.index-things-place.result in
    let back : (place - 1) + 1 ≡ place = omega arith in
    let whole : drop (place - 1) things ≡ thing ∷ drop place things =
    drop_more things (place - 1) thing (omega arith) ∙ (ap (λ (t : g.row.T.Denot). t ∷ drop ((place - 1) + 1) things) (sym c.index-things-place.is) ∙ ap (λ (n : ℕ). thing ∷ drop n things) back) in
    subst (λ (front : List g.row.T.Denot). AreBySocket {A = g.row.T.Denot} g.T.Linked.joint_of g.T.Linked.kind_of (front ++ all) c.put.new.table)
    (sym whole) (c.in_ok-put.ensures (drop place things ++ all) (c.loop-place.invariant all before))

pub returns : goal.returns
returns g c = λ all before.
    let first : c.loop-place.place ≡ 0 = omega arith in
    subst (λ (n : ℕ). AreBySocket {A = g.row.T.Denot} g.T.Linked.joint_of g.T.Linked.kind_of (drop n c.args.things.now ++ all) c.loop-place.table)
    first (c.loop-place.invariant all before)
