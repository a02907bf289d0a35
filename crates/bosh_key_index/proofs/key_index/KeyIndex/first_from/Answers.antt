use Rattle.std.proofs.Common.{subst, ℕ, List, sym, ◌∙◌}
use Rattle.bosh_key_index.proofs.ListedLemmas.{first_given, IsFirstFrom-range}
use Rattle.bosh_key_index.specs.Listed.{IsFirstFrom}
use Rattle.bosh_key_index.proofs.key_index.KeyIndex.first_from.Goals as goal

pub returns : goal.returns
returns c =
    subst (λ (index : List (ℕ × ℕ)). IsFirstFrom index c.args.key c.copied.result) c.self.view_is
    (subst (IsFirstFrom c.self.inside.pairs.keys c.args.key)
    (first_given c.range.result c.next.new.self c.next.result c.next.ensures.steps ∙ sym c.copied.ensures)
    (IsFirstFrom-range c.self.inside.pairs c.args.key c.range.result (c.range.ensures.in_range tt)))
