-- One more address is written.
use Rattle.std.proofs.Common.{◌≡◌, ℕ, List, ◌++◌, take, arith, subst, ap}
use Rattle.std.specs.List.{flat_map}
use Rattle.std.proofs.lemmas.Grind.{common_steps}
use Rattle.bosh_base.specs.declared.addr.Addr.{Addr}
use Rattle.bosh_template.specs.Output.{Grows}
use Rattle.bosh_template.specs.Rendering.{addr_text}
use Rattle.bosh_template.proofs.RenderingLemmas.{Grows-none, Grows-more, flat_more}
use Rattle.bosh_template.proofs.rendering.add_others.Goals as goal

pub loop-addr-init : goal.loop-addr-init
loop-addr-init c = Grows-none c.args.output.now

pub loop-addr-preserved : goal.loop-addr-preserved
loop-addr-preserved c =
    let xs = c.args.others.now in
    let i = c.loop-addr.addr-index in
    let f : Addr → List ℕ = λ addr. c.args.between.now ++ addr_text addr in
    let between : Grows c.loop-addr.output c.add.new.self c.args.between.now = subst (Grows c.loop-addr.output c.add.new.self) c.as_slice.ensures c.in_ok-add.ensures.ok in
    let added = Grows-more c.loop-addr.output c.add.new.self c.add_addr.new.output _ _ between c.in_ok-add_addr.ensures in
    subst (Grows c.args.output.now c.add_addr.new.output) (flat_more f xs i _ c.loop-addr-test.true)
    (Grows-more c.args.output.now c.loop-addr.output c.add_addr.new.output _ _ c.loop-addr.invariant added)

pub returns : goal.returns
returns c =
    let all : take c.loop-addr.addr-index c.args.others.now ≡ c.args.others.now = grind (arith, common_steps) in
    subst (Grows c.args.output.now c.loop-addr.output) (ap (flat_map (λ (addr : Addr). c.args.between.now ++ addr_text addr)) all) c.loop-addr.invariant
