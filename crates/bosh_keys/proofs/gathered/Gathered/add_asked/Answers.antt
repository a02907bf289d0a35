-- One more name.
use Rattle.std.proofs.Common.{◌≡◌, ◌∙◌, ◌++◌, ◌∷◌, [], List, ℕ, ap, refl, subst, sym, take}
use Rattle.std.proofs.lemmas.List.Elements.{filter_map-append}
use Rattle.bosh_base.specs.declared.key.Key.{Key}
use Rattle.bosh_keys.specs.Once.{Adds}
use Rattle.bosh_keys.specs.Works.{key_named, keys_named}
use Rattle.bosh_keys.specs.declared.gathered.Gathered.{Gathered}
use Rattle.bosh_keys.proofs.GatherLemmas.{Adds-asked, Adds-then, one_more}
use Rattle.bosh_keys.proofs.gathered.Gathered.add_asked.Goals as goal

pub loop-name-preserved : goal.loop-name-preserved
loop-name-preserved c =
    let release = c.args.packages.now in
    let stemcell = c.args.stemcell.now in
    let names = c.args.names.now in
    let i = c.loop-name.name-index in
    let name = c.name-item.result in
    let old = c.loop-name.self in
    let new : Gathered = record { works = old.works; seen = old.seen; asked = c.add_key.new.keys } in
    let added = subst (λ (n : List ℕ). c.add_key.new.keys.items ≡ old.asked.items ++ keys_named release stemcell (n ∷ [])) c.as_bytes.ensures.bytes c.in_ok-add_key.ensures in
    let more = ap (keys_named release stemcell) (one_more names i name c.loop-name-test.true c.name-item.is)
    ∙ filter_map-append (key_named release stemcell) (take i names) (name ∷ []) in
    subst (λ (keys : List Key). Adds [] keys c.args.self.now new) (sym more)
    (Adds-then [] [] (keys_named release stemcell (take i names)) (keys_named release stemcell (name ∷ [])) c.args.self.now old new c.loop-name.invariant
    (Adds-asked (keys_named release stemcell (name ∷ [])) old new refl refl added))
