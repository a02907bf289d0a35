use Rattle.bosh_yaml.specs.View.{tree_of}
use Rattle.bosh_vars.specs.Filled.{joined_text}
use Rattle.bosh_vars.specs.Placeholder.{parts}
use Rattle.bosh_vars.specs.Table.{found_in}
use Rattle.bosh_vars.proofs.JoinedLemmas.{placeholder-kept, plain-kept}
use Rattle.bosh_vars.proofs.insertion.joined.Goals as goal

pub loop-byte-preserved-in-Some-placeholder_at : goal.loop-byte-preserved-in-Some-placeholder_at
loop-byte-preserved-in-Some-placeholder_at c =
    let values = found_in c.args.values.now in
    let found = c.in-Some-placeholder_at in
    let put = c.in_ok-push_value-in-Some-placeholder_at.ensures in
    placeholder-kept values c.loop-byte.filled.items c.push_value.new.filled.items c.loop-byte.rest.now found.name.now found.after.now (tree_of c.in_ok-value-in-Some-placeholder_at.value.now) (joined_text values (parts c.args.text.now))
    found.ensures.name found.ensures.parts found.ensures.utf8 c.in_ok-value-in-Some-placeholder_at.ensures put.gives put.utf8 c.loop-byte.invariant.0 c.loop-byte.invariant.1

pub loop-byte-preserved : goal.loop-byte-preserved
loop-byte-preserved c =
    let values = found_in c.args.values.now in
    plain-kept values c.loop-byte.filled.items c.push.new.self.items c.loop-byte.rest.now c.in-Some.after.now c.in-Some.byte.now (joined_text values (parts c.args.text.now))
    c.in-None.ensures.name c.in-Some.ensures.cases.0 c.in_ok-push-in-None.ensures.items c.loop-byte.invariant.0 c.loop-byte.invariant.1
