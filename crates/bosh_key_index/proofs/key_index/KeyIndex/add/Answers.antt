use Rattle.std.proofs.Common.{subst, ℕ, List}
use Rattle.bosh_key_index.proofs.ListedLemmas.{Adds-inserted}
use Rattle.bosh_key_index.specs.Listed.{Adds}
use Rattle.bosh_key_index.proofs.key_index.KeyIndex.add.Goals as goal

pub returns-clause-ok : goal.returns-clause-ok
returns-clause-ok c =
    subst (λ (was : List (ℕ × ℕ)). Adds was c.args.key c.args.number c.insert.new.self.keys) c.self.view_is
    (Adds-inserted c.self.inside.pairs.keys c.insert.new.self.keys c.args.key c.args.number
    c.in_ok-insert.ensures.updates.0)
