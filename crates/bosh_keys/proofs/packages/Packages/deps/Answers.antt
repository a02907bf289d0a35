-- One more name.
use Rattle.std.proofs.Common.{◌∙◌, ◌++◌, ◌∷◌, [], List, ap, sym}
use Rattle.bosh_base.specs.declared.key.Key.{Key}
use Rattle.bosh_keys.specs.Works.{key_named, keys_named}
use Rattle.bosh_keys.proofs.GatherLemmas.{named_more}
use Rattle.bosh_keys.proofs.packages.Packages.deps.Goals as goal

pub loop-name-preserved : goal.loop-name-preserved
loop-name-preserved c =
    let release = c.args.self.now in
    let stemcell = c.args.stemcell.now in
    let name = c.in-Some.name in
    c.in_ok-add_key.ensures
    ∙ (ap (λ (keys : List Key). keys ++ keys_named release stemcell (name.now ∷ [])) c.loop-name.invariant
    ∙ sym (named_more (key_named release stemcell) c.loop-name.yielded name))
