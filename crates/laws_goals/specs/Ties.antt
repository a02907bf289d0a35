-- Which ties a goal may have, told by the view that it was made from.
use Rattle.std.specs.Prelude.{◌≡◌, ℕ, Bool, true, ◌&&◌, ◌||◌, List}
use Rattle.std.specs.List.{list_all, list_any}
use Rattle.std.specs.Str.{bytes_eq}
use Rattle.bosh_base.specs.declared.link.Tie.{Tie}
use Rattle.bosh_base.specs.declared.offer.DepOffers.{DepOffers}
use Rattle.bosh_base.specs.declared.offer.Offer.{Offer}
use Rattle.bosh_history.specs.Held.{is_offered}
use Rattle.bosh_history.specs.Sound.{are_offers_of}

-- the links are those of a deployment
abbrev pub OffersAreOf : List ℕ → List Offer → Type 0
OffersAreOf dep offers = are_offers_of dep offers ≡ true

-- what is known of each deployment are its own links, as it is where all of them had goals that manifests gave
abbrev pub OffersAreOwn : List DepOffers → Type 0
OffersAreOwn known = list_all (λ it. are_offers_of it.dep it.offers) known ≡ true

-- the deployment of the provider is known to offer the link, of that type
abbrev pub offers_it : Tie → DepOffers → Bool
offers_it tie it = bytes_eq it.dep tie.provider.dep && is_offered tie.provider tie.kind it.offers

-- a tie is within the deployment, or to a link that another is known to offer
abbrev pub is_tie_offered : List DepOffers → List ℕ → Tie → Bool
is_tie_offered known dep tie = bytes_eq tie.provider.dep dep || list_any (offers_it tie) known

abbrev pub AreTiesOffered : List DepOffers → List ℕ → List Tie → Type 0
AreTiesOffered known dep ties = list_all (is_tie_offered known dep) ties ≡ true
