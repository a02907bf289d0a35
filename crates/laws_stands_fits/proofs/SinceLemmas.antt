-- The order of deployments tells them apart.
use Rattle.std.proofs.Common.{◌≡◌, ◌∙◌, true, ap, refl}
use Rattle.std.specs.BTreeMap.{is_at}
use Rattle.std.proofs.lemmas.Bool.{eq-eqb}
use Rattle.bosh_records.specs.Changes.{since_cmp}
use Rattle.bosh_records.specs.declared.records.Since.{Since}
use Rattle.bosh_records.specs.declared.records.Since.TheVariants as sinces
use Rattle.laws_stands_on.proofs.TableLemmas.{TellsKeys, nat_at, nat_keys}

pub since_keys : TellsKeys since_cmp
since_keys (sinces.Snapshot a) (sinces.Snapshot b) is = ap sinces.Snapshot (nat_keys a b is)
since_keys (sinces.Snapshot a) (sinces.Task b) is = absurd cc
since_keys (sinces.Task a) (sinces.Snapshot b) is = absurd cc
since_keys (sinces.Task a) (sinces.Task b) is = ap sinces.Task (nat_keys a b is)

pub since_own : (k : Since) → is_at (since_cmp k) k ≡ true
since_own (sinces.Snapshot a) = nat_at a a ∙ eq-eqb a a refl
since_own (sinces.Task a) = nat_at a a ∙ eq-eqb a a refl
