use Rattle.std.proofs.Common.{◌≡◌, ◌∙◌, List, Bor, map, take, ap, sym}
use Rattle.std.proofs.lemmas.List.{take_all}
use Rattle.std.proofs.lemmas.Simd.{map-map}
use Rattle.bosh_base.specs.declared.addr.Addr.{Addr}
use Rattle.bosh_manifest.specs.declared.group.Group.{Group}
use Rattle.bosh_offers.specs.Sited.{gateway_addr}
use Rattle.bosh_offers.proofs.siting.Sited.gateway_addrs.Goals as goal

pub returns : goal.returns
returns c =
    let seen : Bor (List Addr) → List Addr = λ own. own.now in
    let own = c.instances-own-items.result.now in
    let all : take c.loop-own.own-index own ≡ own = take_all c.loop-own.own-index own c.loop-own-test.false in
    let group : c.group-group.result.now ≡ c.args.self.now.used.group =
    c.group-group.ensures ∙ ap (λ used. used.group) c.used.ensures in
    c.from.ensures
    ∙ (c.loop-own.invariant
    ∙ (ap (map (λ (addrs : Bor (List Addr)). gateway_addr c.group-group.result.now addrs.now)) all
    ∙ (sym (map-map (gateway_addr c.group-group.result.now) seen own)
    ∙ (ap (map (gateway_addr c.group-group.result.now)) c.instances-own-items.ensures
    ∙ ap (λ (g : Group). map (gateway_addr g) c.args.self.now.instances) group))))
