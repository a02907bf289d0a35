-- Which offer of another deployment each consumer is tied to (bosh.io/docs/links, "Cross-deployment links").
use Rattle.std.specs.Prelude.{◌≡◌, ◌⊎◌, ℕ, List, Option, None, Some, Result, Ok, Err, find, map}
use Rattle.std.specs.Str.{bytes_eq}
use Rattle.bosh_base.specs.declared.link.Tie.{Tie}
use Rattle.bosh_base.specs.declared.offer.DepOffers.{DepOffers}
use Rattle.bosh_links.specs.Candidate.{offered_provider}
use Rattle.bosh_links.specs.Links.{all_tied, outcome}
use Rattle.bosh_links.specs.declared.consumer.Consumer.{Consumer}
use Rattle.bosh_links.specs.declared.consumer.Source.{Source}
use Rattle.bosh_links.specs.declared.consumer.Source.TheVariants.{Implicit, Named}
use Rattle.bosh_links.specs.declared.fault.LinkFault.{LinkFault}
use Rattle.bosh_links.specs.declared.fault.LinkFault.TheVariants as link
use Rattle.bosh_share.specs.declared.across.Across.{Across}
use Rattle.bosh_share.specs.declared.fault.ShareFault.{ShareFault}
use Rattle.bosh_share.specs.declared.fault.ShareFault.TheVariants.{NoDeployment, NotShared, NoProvider, Ambiguous, TypeDiffers, Memory}

-- where a consumer's provider is sought: under a name, or among those of its type
abbrev pub source_of : Option (List ℕ) → Source
source_of None = Implicit
source_of (Some name) = Named name

abbrev pub consumer_of : Across → Consumer
consumer_of a = record { joint = a.consumer; kind = a.kind; optional = a.optional; from = source_of a.from }

-- the refusals are those of links within a deployment; an unknown name is one that is not shared
abbrev pub fault_of : LinkFault → ShareFault
fault_of (link.NoProvider consumer) = NoProvider consumer
fault_of (link.Ambiguous first second) = Ambiguous first second
fault_of (link.UnknownFrom name) = NotShared name
fault_of (link.TypeDiffers name) = TypeDiffers name
fault_of link.Memory = Memory

abbrev pub shared_answer : {T : Type 0} → Result T LinkFault → Result T ShareFault
shared_answer (Ok value) = Ok value
shared_answer (Err fault) = Err (fault_of fault)

-- a consumer is tied among the offers of its deployment as one of its own would be among the providers
abbrev pub outcome_in : Option DepOffers → Across → Result (Option Tie) ShareFault
outcome_in None a = Err (NoDeployment a.dep)
outcome_in (Some known) a = shared_answer (outcome (map offered_provider known.offers) (consumer_of a))

abbrev pub of_name : List ℕ → List DepOffers → Option DepOffers
of_name name known = find (λ d. bytes_eq d.dep name) known

abbrev pub across_outcome : List DepOffers → Across → Result (Option Tie) ShareFault
across_outcome known a = outcome_in (of_name a.dep known) a

-- the ties of all consumers, in their order, or the fault of the first that has one
abbrev pub across_resolution : List DepOffers → List Across → Result (List Tie) ShareFault
across_resolution known = all_tied (across_outcome known)

-- a call's answer is the one that the rules give, or want of memory
abbrev pub IsAnswer : {T : Type 0} → Result T ShareFault → Result T ShareFault → Type 0
IsAnswer (Ok value) answer = answer ≡ Ok value
IsAnswer (Err fault) answer = (fault ≡ Memory) ⊎ (answer ≡ Err fault)
