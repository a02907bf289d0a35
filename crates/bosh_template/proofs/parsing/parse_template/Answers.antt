-- One more part is read.
use Rattle.std.proofs.Common.{◌≤◌, ◌-◌, refl, arith, sym, subst, List, length}
use Rattle.bosh_template.specs.declared.template.Part.{Part}
use Rattle.bosh_template.specs.Grammar.{Spells}
use Rattle.bosh_template.specs.Piece.{part}
use Rattle.bosh_template.proofs.PartLemmas.{IsReadTo-init, IsReadTo-pushed, IsReadTo-end, IsReadTo-refusal, IsReadTo-within, part_at-shorter, some_rest, no_rest}
use Rattle.bosh_template.proofs.parsing.parse_template.Goals as goal

pub loop-rest-init : goal.loop-rest-init
loop-rest-init c = IsReadTo-init c.args.text.now c.new-parts.result.items c.new-parts.ensures.items

pub loop-rest-preserved : goal.loop-rest-preserved
loop-rest-preserved c =
    IsReadTo-pushed c.args.text.now c.loop-rest.rest.now c.loop-rest.parts.items c.push.new.self.items (part c.in-Some.piece) c.in_ok-owned.field-0 c.in-Some.after.now
    c.loop-rest.invariant (some_rest c.loop-rest.rest.now c.loop-rest-test.ensures) c.in-Some.ensures c.in_ok-owned.ensures.ok c.in_ok-push.ensures.items

pub loop-rest-smaller : goal.loop-rest-smaller
loop-rest-smaller c = part_at-shorter c.loop-rest.rest.now (part c.in-Some.piece, c.in-Some.after.now) (some_rest c.loop-rest.rest.now c.loop-rest-test.ensures) (sym c.in-Some.ensures)

pub returns-clause-read : goal.returns-clause-read
returns-clause-read c =
    subst (λ (ps : List Part). Spells c.args.text.now ps) (sym c.from-parts.ensures) (IsReadTo-end c.args.text.now c.loop-rest.rest.now c.loop-rest.parts.items c.loop-rest.invariant (no_rest c.loop-rest.rest.now c.loop-rest-test.ensures))

pub returns-in_default-clause-refused : goal.returns-in_default-clause-refused
returns-in_default-clause-refused c =
    let text = c.args.text.now in
    let rest = c.loop-rest.rest.now in
    let within : length rest ≤ length text = IsReadTo-within text rest c.loop-rest.parts.items c.loop-rest.invariant in
    IsReadTo-refusal text rest c.loop-rest.parts.items (length text - length rest) _ c.loop-rest.invariant c.in_default.ensures (omega arith) refl
