-- Digits without leading zeros are compared.
use Rattle.std.proofs.Common.{length, nat_lt, ap, sym, ◌∙◌}
use Rattle.std.specs.Cmp.Lexicographic.{slice_cmp}
use Rattle.std.specs.Ordering.{nat_cmp, is_le}
use Rattle.bosh_ip.specs.Bytes.{without_leading}
use Rattle.bosh_manifest_update.proofs.WatchTimeLemmas.{as_long_in_order, shorter_is_less}
use Rattle.bosh_manifest_update.proofs.watch_time.is_at_most.Goals as goal

pub returns-then-from-to : goal.returns-then-from-to
returns-then-from-to c =
    let first = c.without_zeros-from.ensures in
    let second = c.without_zeros-to.ensures in
    c.is_le.ensures ∙ ap is_le c.cmp.ensures
    ∙ ap (λ xs. is_le (slice_cmp nat_cmp xs c.without_zeros-to.result.now)) first
    ∙ ap (λ ys. is_le (slice_cmp nat_cmp (without_leading 48 c.args.from.now) ys)) second
    ∙ as_long_in_order c.args.from.now c.args.to.now c.requires.from c.requires.to
    (sym (ap length first) ∙ c.if-from-to.true ∙ ap length second)

pub returns-else-from-to : goal.returns-else-from-to
returns-else-from-to c =
    let first = c.without_zeros-from.ensures in
    let second = c.without_zeros-to.ensures in
    ap (λ xs. nat_lt (length xs) (length c.without_zeros-to.result.now)) first
    ∙ ap (λ ys. nat_lt (length (without_leading 48 c.args.from.now)) (length ys)) second
    ∙ shorter_is_less c.args.from.now c.args.to.now c.requires.from c.requires.to
    (λ same. c.if-from-to.false (ap length first ∙ same ∙ sym (ap length second)))
