use Rattle.std.proofs.Common.{subst, ℕ, List}
use Rattle.bosh_key_index.proofs.ListedLemmas.{Removes-removed}
use Rattle.bosh_key_index.specs.Listed.{Removes}
use Rattle.bosh_key_index.proofs.key_index.KeyIndex.remove.Goals as goal

pub returns : goal.returns
returns c =
    subst (λ (was : List (ℕ × ℕ)). Removes was c.args.key c.args.number c.remove.new.self.keys) c.self.view_is
    (Removes-removed c.self.inside.pairs.keys c.remove.new.self.keys c.args.key c.args.number
    c.remove.ensures.updates.0)
