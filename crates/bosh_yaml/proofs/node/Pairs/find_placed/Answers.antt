use Rattle.std.proofs.Common.{◌∙◌, ap}
use Rattle.std.specs.Str.{bytes_eq}
use Rattle.bosh_yaml.proofs.PlaceLemmas.{finds_it, finds_no_place, finds_other, finds_past}
use Rattle.bosh_yaml.proofs.node.Pairs.find_placed.Goals as goal

pub returns-in_err-of : goal.returns-in_err-of
returns-in_err-of c =
    rw c.from_residual.ensures (finds_no_place c.self.inside.places c.args.key.now c.self.inside.entries.items c.args.self.now c.self.view_is c.self.invariant.1 c.requires c.in_err-of.ensures)

pub returns-in_err-written : goal.returns-in_err-written
returns-in_err-written c =
    rw c.from_residual-in_err-written.ensures (finds_past c.self.inside.places c.args.key.now c.in_ok-of.field-0 c.self.inside.entries.items c.deref.result.now c.args.self.now c.deref.ensures.value c.self.view_is c.self.invariant.1 c.requires c.in_ok-of.ensures c.in_err-written.ensures.lookup.0)

pub returns-then-eq : goal.returns-then-eq
returns-then-eq c =
    finds_it c.args.key.now c.in_ok-of.field-0 c.self.inside.entries.items c.deref.result.now c.args.self.now c.in_ok-written.field-0.now c.deref.ensures.value c.self.view_is c.self.invariant.0 c.in_ok-written.ensures.lookup.0 c.in_ok-written.ensures.lookup.1 (c.if-eq.ensures ∙ ap (λ k. bytes_eq k c.args.key.now) c.as_bytes.ensures.value)

pub returns-else-eq : goal.returns-else-eq
returns-else-eq c =
    finds_other c.self.inside.places c.args.key.now c.in_ok-of.field-0 c.self.inside.entries.items c.deref.result.now c.args.self.now c.in_ok-written.field-0.now c.deref.ensures.value c.self.view_is c.self.invariant.1 c.requires c.in_ok-of.ensures c.in_ok-written.ensures.lookup.0 c.in_ok-written.ensures.lookup.1 (c.if-eq.ensures ∙ ap (λ k. bytes_eq k c.args.key.now) c.as_bytes.ensures.value)
