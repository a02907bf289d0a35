-- Which offer a link is tied to.
use Rattle.std.specs.Prelude.{◌≡◌, ◌++◌, ℕ, Bool, ◌&&◌, List, Option, Some, None, filter_map, find, option_map}
use Rattle.std.specs.List.{flat_map}
use Rattle.std.specs.BTreeMap.{BTreeMap, get_by}
use Rattle.std.specs.Cmp.Lexicographic.{slice_cmp}
use Rattle.std.specs.Option.{option_copied}
use Rattle.std.specs.Ordering.{nat_cmp, ordering_then}
use Rattle.std.specs.Str.{bytes_eq}
use Rattle.std.specs.declared.cmp.Ordering.{Ordering}
use denote.Ref.{Bor}
use Rattle.bosh_base.specs.declared.link.Joint.{Joint}
use Rattle.bosh_base.specs.declared.link.Tie.{Tie}
use Rattle.bosh_base.specs.declared.offer.DepOffers.{DepOffers}
use Rattle.bosh_base.specs.declared.offer.Offer.{Offer}
use Rattle.bosh_base.specs.declared.release.LinkSpec.{LinkSpec}
use Rattle.bosh_template.specs.Environment.{LinkEnv}
use Rattle.bosh_ties.specs.Links.{joint_of}
use Rattle.bosh_manifest_names.specs.Used.{UsedJob}
use Rattle.bosh_offers.specs.declared.socket.Socket.{Socket}

-- a thing of the second link, of its type, is one of the first
abbrev pub same_link : Joint → List ℕ → Joint → List ℕ → Bool
same_link joint kind of of_kind =
    bytes_eq of.dep joint.dep
    && (bytes_eq of.group joint.group
    && (bytes_eq of.job joint.job && (bytes_eq of.link joint.link && bytes_eq of_kind kind)))

abbrev pub is_consumer : Joint → List ℕ → Tie → Bool
is_consumer joint kind tie = same_link joint kind tie.consumer tie.kind

abbrev pub is_offered : Joint → List ℕ → Offer → Bool
is_offered joint kind offer = same_link joint kind offer.joint offer.kind

-- the offer of the provider of a tie
abbrev pub provided_by : List Offer → Option Tie → Option Offer
provided_by offers None = None
provided_by offers (Some tie) = find (is_offered tie.provider tie.kind) offers

-- the offer that a link of a type is tied to, where it has a tie
abbrev pub tied_offer : List Tie → List Offer → Joint → List ℕ → Option Offer
tied_offer ties offers joint kind = provided_by offers (find (is_consumer joint kind) ties)

abbrev pub offers_of : DepOffers → List Offer
offers_of dep = dep.offers

-- the offers of a deployment's own jobs, and then those of others
abbrev pub all_offers : List Offer → List DepOffers → List Offer
all_offers own known = own ++ flat_map offers_of known

-- what links may be tied to
pub record Offered : Type 0 where
  pub ties : List Tie
  pub own : List Offer
  pub known : List DepOffers

abbrev pub offer_at : Offered → Joint → List ℕ → Option Offer
offer_at offered joint kind = tied_offer offered.ties (all_offers offered.own offered.known) joint kind

-- what a link gives to the templates of its job
abbrev pub env_of : LinkSpec → Offer → LinkEnv
env_of link offer =
    record { name = link.name; listed = offer.listed; props = offer.properties; addrs = offer.addrs }

abbrev pub link_env : Offered → List ℕ → List ℕ → UsedJob → LinkSpec → Option LinkEnv
link_env offered dep group used link =
    option_map (env_of link) (offer_at offered (joint_of dep group used link) link.kind)

-- those of the links that a job consumes which have a tie
abbrev pub job_links : Offered → List ℕ → List ℕ → UsedJob → List LinkEnv
job_links offered dep group used = filter_map (link_env offered dep group used) used.spec.consumes

-- how a link stands to a key of a table
abbrev pub socket_cmp : Joint → List ℕ → Socket → Ordering
socket_cmp joint kind socket =
    ordering_then (slice_cmp nat_cmp joint.dep socket.dep.now)
    (ordering_then (slice_cmp nat_cmp joint.group socket.group.now)
    (ordering_then (slice_cmp nat_cmp joint.job socket.job.now)
    (ordering_then (slice_cmp nat_cmp joint.link socket.link.now) (slice_cmp nat_cmp kind socket.kind.now))))

-- a key is that of a link of a type
pub record Stands (joint : Joint) (of_kind : List ℕ) (socket : Socket) : Type 0 where
  pub dep : socket.dep.now ≡ joint.dep
  pub group : socket.group.now ≡ joint.group
  pub job : socket.job.now ≡ joint.job
  pub link : socket.link.now ≡ joint.link
  pub kind : socket.kind.now ≡ of_kind

-- a table has each thing under its link and its type, and of two of one link and type the first
abbrev pub AreBySocket : {A : Type 0} → (A → Joint) → (A → List ℕ) → List A → BTreeMap Socket (Bor A) → Type 0
AreBySocket {A = A} joint_of kind_of all table =
    (joint : Joint) (kind : List ℕ)
    → option_copied {T = A} (get_by (socket_cmp joint kind) table)
    ≡ find (λ a. same_link joint kind (joint_of a) (kind_of a)) all
