-- One more instance has its addresses.
use Rattle.std.proofs.Common.{◌≡◌, ◌∙◌, ℕ, suc, ◌+◌, ◌-◌, List, [], ◌∷◌, ◌++◌, Bor, map, take, append_assoc, ap, sym, arith}
use Rattle.std.proofs.lemmas.List.{map-append}
use Rattle.bosh_base.specs.declared.addr.Addr.{Addr}
use Rattle.bosh_offers.specs.Sited.{by_instance}
use Rattle.bosh_offers.proofs.siting.by_instance.Goals as goal

pub loop-preserved : goal.loop-preserved
loop-preserved c =
    let width = c.args.width in
    let rest = c.args.count - (c.loop.counter + 1) in
    let count : c.args.count - c.loop.counter ≡ suc rest = omega arith in
    let seen : Bor (List Addr) → List Addr = λ own. own.now in
    let before = map seen c.loop.all.items in
    let addrs = c.loop.others.now in
    let others = c.rest-others.result.now in
    let grown : map seen c.push.new.self.items ≡ before ++ take width addrs ∷ [] =
    ap (map seen) c.in_ok-push.ensures.items
    ∙ (map-append seen c.loop.all.items (c.front.result ∷ []) ∙ ap (λ (own : List Addr). before ++ own ∷ []) c.front.ensures) in
    c.loop.invariant
    ∙ (ap (λ (n : ℕ). before ++ by_instance n width addrs) count
    ∙ (ap (λ (more : List Addr). before ++ take width addrs ∷ by_instance rest width more) (sym c.rest-others.ensures)
    ∙ (sym (append_assoc before (take width addrs ∷ []) (by_instance rest width others))
    ∙ ap (λ (all : List (List Addr)). all ++ by_instance rest width others) (sym grown))))
