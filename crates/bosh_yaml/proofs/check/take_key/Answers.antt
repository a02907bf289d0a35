use Rattle.std.proofs.Common.{◌≡◌, map, true, false}
use Rattle.bosh_yaml.specs.Hash.{hash}
use Rattle.bosh_yaml.specs.Nodes.{with_new}
use Rattle.bosh_yaml.specs.Seen.{keys_of_set}
use Rattle.bosh_yaml.proofs.SeenLemmas.{key_is_new, key_is_old, with_new_key, not_true_of, not_false_of}
use Rattle.bosh_yaml.proofs.check.take_key.Goals as goal

pub returns-then-added : goal.returns-then-added
returns-then-added c rest =
    let held = c.in-Some.keys in
    let bytes = c.as_bytes-bytes.result in
    let added = rw c.hash_of.ensures at c.in_ok-added.ensures.added in
    let fresh : keys_of_set held bytes.now ≡ false = not_true_of c.in_ok-added.added _ added c.if-added.true in
    let updates = rw c.hash_of.ensures at c.in_ok-added.ensures.updates.0 in
    let more : keys_of_set c.insert.new.self ≡ with_new (keys_of_set held) bytes.now = with_new_key _ _ _ (λ q. updates (hash q, record bytes { now = q })) in
    rw (c.in-Some.ensures.items, c.in_ok-push_front.ensures.items) (key_is_new (keys_of_set held) (keys_of_set c.insert.new.self) (map keys_of_set c.pop_front.new.self.items) c.args.line c.args.key.now rest (rw c.as_bytes-bytes.ensures.value at fresh) (rw c.as_bytes-bytes.ensures.value at more))

pub returns-else-added : goal.returns-else-added
returns-else-added c rest =
    let held = c.in-Some.keys in
    let bytes = c.as_bytes-bytes.result in
    let added = rw c.hash_of.ensures at c.in_ok-added.ensures.added in
    let there : keys_of_set held bytes.now ≡ true = not_false_of c.in_ok-added.added _ added c.if-added.false in
    rw (c.in-Some.ensures.items) (key_is_old (keys_of_set held) (map keys_of_set c.pop_front.new.self.items) c.args.line c.args.key.now rest (rw c.as_bytes-bytes.ensures.value at there))
