use Rattle.std.proofs.Common.{sym, ap, subst, ◌∙◌, Result, List, ℕ}
use Rattle.bosh_yaml.specs.declared.fault.ReadFault.{ReadFault}
use Rattle.bosh_yaml.specs.Content.{Outcome, add_events, key_or_scalar}
use Rattle.bosh_yaml.specs.Result.{Gives}
use Rattle.bosh_yaml.proofs.ContentLemmas.{key_then}
use Rattle.bosh_yaml.proofs.content.key_or_scalar.Goals as goal

pub returns-in_ok-place_key-in-Some-eq58-default : goal.returns-in_ok-place_key-in-Some-eq58-default
returns-in_ok-place_key-in-Some-eq58-default c =
    let read = key_then c.args.line c.args.column c.args.frames.now.items c.place_key.new.frames.items c.args.events.now.items c.place_key.new.events.items c.args.word c.in_ok-key-in-Some-eq58-default.key c.in-Some-eq58-default.field-0-0.now c.in-Some-eq58-default.after.now c.in-Some-eq58-default.field-0-0-test (sym c.if-is_gap.ensures) c.in_ok-key-in-Some-eq58-default.ensures c.in_ok-place_key-in-Some-eq58-default.ensures in
    let whole = read ∙ ap (λ (rest : List ℕ). add_events c.args.events.now.items (key_or_scalar c.args.line c.args.column c.args.frames.now.items (c.args.word, rest))) (sym c.in-Some-eq58-default.ensures.cases.0) in
    subst (λ (r : Result Outcome ReadFault). Gives (λ o. (c.entry_at.new.events.items, (c.entry_at.new.frames.items, o))) c.entry_at.result r) whole c.entry_at.ensures
