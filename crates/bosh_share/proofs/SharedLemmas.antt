-- What a consumer comes to among the offers of its deployment.
use Rattle.std.proofs.Common.{◌≡◌, List, Option, Some, None, Result, Ok, Err, map, refl, ap, inl, inr}
use Rattle.bosh_base.specs.declared.link.Tie.{Tie}
use Rattle.bosh_base.specs.declared.offer.DepOffers.{DepOffers}
use Rattle.bosh_links.specs.Candidate.{offered_provider}
use Rattle.bosh_links.specs.Links as links
use Rattle.bosh_links.specs.Table.{AreOf}
use Rattle.bosh_links.specs.declared.candidates.Candidates.{Candidates}
use Rattle.bosh_links.specs.declared.fault.LinkFault.{LinkFault}
use Rattle.bosh_links.specs.declared.provider.Provider.{Provider}
use Rattle.bosh_share.specs.Directory.{AreThose}
use Rattle.bosh_share.specs.Shared.{IsAnswer, consumer_of, fault_of, outcome_in, shared_answer}
use Rattle.bosh_share.specs.declared.across.Across.{Across}
use Rattle.bosh_share.specs.declared.fault.ShareFault.{ShareFault}

-- an answer within a deployment is one across deployments
pub shared-answers : {T : Type 0} (result answer : Result T LinkFault) → links.IsAnswer result answer → IsAnswer (shared_answer result) (shared_answer answer)
shared-answers (Ok value) answer h = ap shared_answer h
shared-answers (Err fault) answer (inl m) = inl (ap fault_of m)
shared-answers (Err fault) answer (inr t) = inr (ap shared_answer t)

-- where the deployment is there, its offers decide
pub among-those : (found : Option DepOffers) (candidates : Candidates) (a : Across) (result : Result (Option Tie) ShareFault) → AreThose found (Some candidates)
    → ((ps : List Provider) → AreOf ps candidates → IsAnswer result (shared_answer (links.outcome ps (consumer_of a)))) → IsAnswer result (outcome_in found a)
among-those None candidates a result h answers = absurd h
among-those (Some known) candidates a result h answers = answers (map offered_provider known.offers) h

pub not-there : (found : Option DepOffers) → AreThose found None → None ≡ found
not-there None h = refl
not-there (Some known) h = absurd h
