use Rattle.std.proofs.Common.{◌∙◌, ap, arith, length, sym, ◌≡◌}
use Rattle.std.specs.Result.{is_ok}
use Rattle.bosh_yaml.specs.Keys.{has_key}
use Rattle.bosh_yaml.proofs.KeyLemmas.{HasDistinctKeys-pushed}
use Rattle.bosh_yaml.proofs.PlaceLemmas.{noted_pushed, noted_still}
use Rattle.bosh_yaml.proofs.node.Pairs.push.Goals as goal

pub invariant_of-self : goal.invariant_of-self
invariant_of-self c =
    let new = ap (has_key c.args.key) c.self.view_is ∙ c.requires in
    (c.self.invariant.0, noted_still c.self.inside.places c.note.new.self c.args.key c.self.inside.entries.items (rw c.as_bytes.ensures.value at c.note.ensures.others) new c.self.invariant.1)

pub invariant_of-self-2 : goal.invariant_of-self-2
invariant_of-self-2 c =
    let new = ap (has_key c.args.key) c.self.view_is ∙ c.requires in
    let count : c.len-place.result ≡ length c.self.inside.entries.items = omega (arith, c.len-place.ensures, c.self.inside.entries.ok) in
    let no_fault = sym c.is_err.ensures.value ∙ c.if-is_err.false in
    rw c.push.ensures.items (
      HasDistinctKeys-pushed (is_ok c.push.result) c.self.inside.entries.items (c.args.key, c.args.value) c.self.invariant.0 new,
      noted_pushed (is_ok c.push.result) c.self.inside.places c.note.new.self c.len-place.result c.self.inside.entries.items (c.args.key, c.args.value) c.note.result (rw c.as_bytes.ensures.value at c.note.ensures.others) no_fault (rw c.as_bytes.ensures.value at c.note.ensures.noted) count new c.self.invariant.1,
    )
