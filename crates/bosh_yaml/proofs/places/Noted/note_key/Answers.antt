use Rattle.std.proofs.Common.{rules, ◌≡◌, ◌∙◌, ap}
use Rattle.std.specs.BTreeMap.{get}
use Rattle.std.specs.Ordering.{nat_cmp}
use Rattle.std.specs.Str.{bytes_eq}
use Rattle.bosh_yaml.specs.Hash.{hash}
use Rattle.bosh_yaml.specs.Places.{or_else}
use Rattle.bosh_yaml.proofs.PlaceLemmas.{noted_elsewhere}
use Rattle.bosh_yaml.proofs.places.Noted.note_key.Goals as goal

pub returns-clause-others : goal.returns-clause-others
returns-clause-others c = λ other b.
    let same : c.in_ok-key.key.items ≡ c.args.key.now = search rules in
    let by_hash = get nat_cmp c.args.self.now.by_hash (hash other) in
    ap (λ place. or_else place by_hash)
    (noted_elsewhere c.args.self.now.by_key.entries c.insert.new.self.entries (λ v. v.items) c.in_ok-key.key.items other c.in_ok-insert.ensures.updates.3 (ap (λ k. bytes_eq k other) same ∙ b))
