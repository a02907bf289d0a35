-- How the tables of releases and stemcells grow.
use Rattle.std.proofs.Common.{◌≡◌, ◌∙◌, ℕ, List, [], ◌∷◌, ◌++◌, Some, None, cond, sym, ap}
use Rattle.std.specs.BTreeMap.{BTreeMap}
use Rattle.std.specs.Option.{option_copied, option_map, option_or}
use Rattle.std.specs.Str.{bytes_eq}
use denote.Ref.{Bor}
use Rattle.bosh_base.specs.declared.release.Release.{Release}
use Rattle.bosh_base.specs.declared.stemcell.Stemcell.{Stemcell}
use Rattle.bosh_lookup.specs.Table.{IsAdded, first_named, found_at}
use Rattle.bosh_lookup.proofs.TableLemmas.{mapped-or, named-push}
use Rattle.bosh_manifest_names.specs.Sources.{AreReleases, AreStemcells}
use Rattle.bosh_manifest_names.specs.Uses.{release_name}

pub AreReleases-add :
    (all : List Release) (release : Release) (name : List ℕ) (old new : BTreeMap (Bor (List ℕ)) Release)
    → name ≡ release.name → AreReleases all old → IsAdded old name release new → AreReleases (all ++ release ∷ []) new
AreReleases-add all release name old new same before added = λ key.
    added key
    ∙ (ap (λ found. option_or found (cond (bytes_eq name key) (Some release) None)) (before key)
    ∙ (ap (λ n. option_or (first_named release_name all key) (cond (bytes_eq n key) (Some release) None)) same
    ∙ sym (named-push release_name all release key)))

pub AreStemcells-add :
    (all : List (List ℕ × Stemcell)) (alias : List ℕ) (stemcell : Bor Stemcell) (old new : BTreeMap (Bor (List ℕ)) (Bor Stemcell))
    → AreStemcells all old → IsAdded old alias stemcell new → AreStemcells (all ++ (alias, stemcell.now) ∷ []) new
AreStemcells-add all alias stemcell old new before added = λ key.
    ap (λ found. option_copied {T = Stemcell} found) (added key)
    ∙ (mapped-or (λ (b : Bor Stemcell). b.now) (found_at old key) (bytes_eq alias key) stemcell
    ∙ (ap (λ found. option_or found (cond (bytes_eq alias key) (Some stemcell.now) None)) (before key)
    ∙ sym (ap (option_map (λ s. s.1)) (named-push (λ s. s.0) all (alias, stemcell.now) key)
    ∙ mapped-or (λ (s : List ℕ × Stemcell). s.1) (first_named (λ s. s.0) all key) (bytes_eq alias key) (alias, stemcell.now))))
