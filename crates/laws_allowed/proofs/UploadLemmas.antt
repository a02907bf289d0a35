-- An upload that may be noted is allowed.
use Rattle.std.proofs.Common.{◌≡◌, ◌∙◌, true, not, List, Option, Some, None, ap, refl}
use Rattle.std.specs.Prelude.{◌&&◌}
use Rattle.std.specs.List.{list_any}
use Rattle.std.specs.Str.{bytes_eq}
use Rattle.std.specs.declared.cmp.Ordering.{Ordering}
use Rattle.std.specs.declared.cmp.Ordering.TheVariants.{Less, Equal, Greater}
use Rattle.std.proofs.lemmas.Bool.{and_from}
use Rattle.bosh_base.specs.Version.{is_version, version_order}
use Rattle.bosh_base.specs.declared.release.Release.{Release}
use Rattle.bosh_base.specs.declared.stemcell.Stemcell.{Stemcell}
use Rattle.bosh_claim.specs.Allowed.{is_equal, is_new_release, is_new_stemcell, same_release, same_stemcell}
use Rattle.bosh_history.specs.Moments.{Moment}
use Rattle.bosh_history.specs.Notes.{Adds, Outside, Uploads}
use Rattle.bosh_history.specs.Notes as notes
use Rattle.bosh_records.specs.Arrivals.{Arrivals}
use Rattle.bosh_records.specs.declared.records.Records.{Records}
use Rattle.laws_stands.specs.Agrees.{Agrees}
use Rattle.laws_stands.specs.Stands.{Stands}
use Rattle.laws_stands.specs.Told.{Told}

same_equal : (order : Option Ordering) → is_equal order ≡ notes.is_equal order
same_equal (Some Less) = refl
same_equal (Some Equal) = refl
same_equal (Some Greater) = refl
same_equal None = refl

pub release_is_allowed : (outside : Outside) (m : Moment) (told : Told) (records : Records) (release : Release)
    → Stands told records → Agrees m told → Uploads outside m.known release → is_new_release records release ≡ true
release_is_allowed outside m told records release stands agrees noted =
    and_from (is_version release.version) _ noted.is_version
    (ap (λ (xs : List Release). not (list_any (same_release release) xs))
    (ap (λ (it : Arrivals). it.releases) stands.uploads ∙ ap (λ k. k.releases) agrees.known_is)
    ∙ (λ i. not (list_any (λ it. bytes_eq it.name release.name
    && same_equal (version_order it.version release.version) i) m.known.releases))
    ∙ ap not noted.is_new)

pub stemcell_is_allowed : (m : Moment) (told : Told) (records : Records) (stemcell : Stemcell)
    → Stands told records → Agrees m told → Adds m.known stemcell → is_new_stemcell records stemcell ≡ true
stemcell_is_allowed m told records stemcell stands agrees noted =
    and_from (is_version stemcell.version) _ noted.is_version
    (ap (λ (xs : List Stemcell). not (list_any (same_stemcell stemcell) xs))
    (ap (λ (it : Arrivals). it.stemcells) stands.uploads ∙ ap (λ k. k.stemcells) agrees.known_is)
    ∙ (λ i. not (list_any (λ it. bytes_eq it.os stemcell.os
    && same_equal (version_order it.version stemcell.version) i) m.known.stemcells))
    ∙ ap not noted.is_new)
