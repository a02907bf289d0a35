-- What deployments offer, by their names.
use Rattle.std.specs.Prelude.{ℕ, List, Option, None, Some, map}
use Rattle.std.specs.BTreeMap.{BTreeMap, get_by}
use Rattle.std.specs.Cmp.Lexicographic.{slice_cmp}
use Rattle.std.specs.Ordering.{nat_cmp}
use denote.Ref.{Bor}
use Rattle.bosh_base.specs.declared.offer.DepOffers.{DepOffers}
use Rattle.bosh_links.specs.Candidate.{offered_provider}
use Rattle.bosh_links.specs.Table.{AreOf}
use Rattle.bosh_links.specs.declared.candidates.Candidates.{Candidates}
use Rattle.bosh_share.specs.Shared.{of_name}

abbrev pub candidates_at : BTreeMap (Bor (List ℕ)) Candidates → List ℕ → Option Candidates
candidates_at directory name = get_by (λ k. slice_cmp nat_cmp name k.now) directory

-- the candidates are those that the deployment offers, and there are none where it is not there
abbrev pub AreThose : Option DepOffers → Option Candidates → Type 0
AreThose None None = Unit {0}
AreThose None (Some candidates) = ⊥
AreThose (Some known) None = ⊥
AreThose (Some known) (Some candidates) = AreOf (map offered_provider known.offers) candidates

abbrev pub IsDirectory : List DepOffers → BTreeMap (Bor (List ℕ)) Candidates → Type 0
IsDirectory known directory = (name : List ℕ) → AreThose (of_name name known) (candidates_at directory name)
