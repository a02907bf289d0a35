-- The ties of a goal are within its deployment, or to links that others are known to offer.
use Rattle.std.proofs.Common.{◌≡◌, ◌∙◌, ℕ, zero, suc, arith, Bool, true, false, ◌&&◌, cond, List, [], ◌∷◌, ◌++◌, Option, Some, None, Result, Ok, Err, filter, map, ap, refl, sym, subst}
use Rattle.std.specs.List.{AllByRecursion, Contains, cons_option, filter_map, flat_map, list_all, list_any}
use Rattle.std.specs.Option.{option_map}
use Rattle.std.specs.Str.{bytes_eq}
use Rattle.std.proofs.lemmas.Bool.{and_from, or_left, or_right}
use Rattle.std.proofs.lemmas.Slice.Eq.{bytes_eq-Decides}
use Rattle.bosh_base.specs.declared.goal.Goal.{Goal}
use Rattle.bosh_base.specs.declared.link.Joint.{Joint}
use Rattle.bosh_base.specs.declared.link.Tie.{Tie}
use Rattle.bosh_base.specs.declared.offer.DepOffers.{DepOffers}
use Rattle.bosh_base.specs.declared.offer.Offer.{Offer}
use Rattle.bosh_base.specs.declared.release.LinkSpec.{LinkSpec}
use Rattle.bosh_base.specs.declared.release.Release.{Release}
use Rattle.bosh_base.specs.declared.stemcell.Stemcell.{Stemcell}
use Rattle.bosh_base.specs.declared.view.View.{View}
use Rattle.bosh_cloudcfg.specs.declared.config.Config.{Config}
use Rattle.bosh_goal.proofs.InstanceLemmas.{both-steps, never, same-value}
use Rattle.bosh_goal.specs.Goal.{IsGoal}
use Rattle.bosh_history.specs.Held.{is_offered, same_bytes_joint}
use Rattle.bosh_links.specs.Candidate.{offered_provider}
use Rattle.bosh_links.specs.Links.{all_tied, implicit_outcome, joined_ties, named_outcome, no_tie, outcome, outcome_from, resolution, tie_between}
use Rattle.bosh_links.specs.declared.consumer.Consumer.{Consumer}
use Rattle.bosh_links.specs.declared.consumer.Source.{Source}
use Rattle.bosh_links.specs.declared.consumer.Source.TheVariants.{Implicit, Named, Blocked}
use Rattle.bosh_links.specs.declared.fault.LinkFault.{LinkFault}
use Rattle.bosh_links.specs.declared.fault.LinkFault.TheVariants.{NoProvider, TypeDiffers}
use Rattle.bosh_links.specs.declared.provider.Provider.{Provider}
use Rattle.bosh_manifest.specs.declared.manifest.Contents.{Contents}
use Rattle.bosh_manifest_parts.specs.declared.link.Offering.{Offering}
use Rattle.bosh_offers.specs.Offers.{chosen, giving, group_offers, is_chosen, job_offers, offer_of, offers}
use Rattle.bosh_offers.specs.Sited.{Sited, sites}
use Rattle.bosh_offers.specs.declared.offering.Choice.{Choice}
use Rattle.bosh_offers.specs.declared.offering.Choice.TheVariants.{Shared}
use Rattle.bosh_pool.proofs.ListLemmas.{any_from, contains_here, contains_there, find_some}
use Rattle.bosh_share.specs.Shared.{across_outcome, across_resolution, consumer_of, of_name, outcome_in, shared_answer}
use Rattle.bosh_ties.specs.Links.{all_across, consumers, job_providers, joint_of, offering_in, own_ties, provide_of, provider, provider_by, providers, public_provider, ties, ties_across}
use Rattle.bosh_manifest_names.specs.Answer.{with_fault}
use Rattle.bosh_manifest_names.specs.Used.{UsedGroup, UsedJob}
use Rattle.bosh_manifest_names.specs.declared.fault.GoalFault.{GoalFault}
use Rattle.bosh_manifest_names.specs.declared.fault.GoalFault.TheVariants.{Link, Share}
use Rattle.laws_goals.specs.Ties.{AreTiesOffered, OffersAreOf, OffersAreOwn, is_tie_offered, offers_it}
use Rattle.laws_goals.proofs.ListLemmas.{all_append, all_at, all_everywhere, all_flat, all_map, all_pass, passes}
use Rattle.laws_goals.proofs.PartLemmas.{IsMade, is-made}
use Rattle.laws_goals.proofs.SameLemmas.{bytes-same}

-- ---- a consumer's tie is between it and one of the providers, of its type

record IsBetween (ps : List Provider) (c : Consumer) (tie : Tie) : Type 0 where
  provider : Provider
  there : Contains ps provider
  kind : bytes_eq provider.kind c.kind ≡ true
  is : tie_between c provider ≡ tie

first-filtered : {X : Type 0} (p : X → Bool) (xs : List X) (y : X) (ys : List X) → filter p xs ≡ y ∷ ys → (p y ≡ true) × Contains xs y
first-filtered p [] y ys e = absurd (cc)
first-filtered p (x ∷ xs) y ys e = by p x xs (filter p xs) y ys (p x) refl (first-filtered p xs y ys) e
  where
    by : {X : Type 0} (p : X → Bool) (x : X) (xs some : List X) (y : X) (ys : List X) (b : Bool) → p x ≡ b → (some ≡ y ∷ ys → (p y ≡ true) × Contains xs y)
        → cond b (x ∷ some) some ≡ y ∷ ys → (p y ≡ true) × Contains (x ∷ xs) y
    by {X} p x xs some y ys true passes later e =
        let same : x ≡ y = cc in
        (subst (λ (z : X). p z ≡ true) same passes, subst (λ (z : X). Contains (x ∷ xs) z) same (contains_here x xs))
    by p x xs some y ys false passes later e = let (there, within) = later e in (there, contains_there x xs y within)

no-tie : (c : Consumer) (tie : Tie) (P : Type 0) → no_tie c ≡ Ok (Some tie) → P
no-tie c tie P e = by c.optional e
  where
    by : (b : Bool) → cond b (Ok None) (Err (NoProvider c.joint)) ≡ Ok (Some tie) → P
    by true e = absurd (cc)
    by false e = absurd (cc)

is-between : (ps : List Provider) (c : Consumer) (tie : Tie) → outcome ps c ≡ Ok (Some tie) → IsBetween ps c tie
is-between ps c tie e = from c.from e
  where
    implicit : (found : List Provider) → filter (λ p. bytes_eq p.kind c.kind) ps ≡ found → implicit_outcome c found ≡ Ok (Some tie) → IsBetween ps c tie
    implicit [] f e = no-tie c tie (IsBetween ps c tie) e
    implicit (p ∷ []) f e =
        let (kind, there) = first-filtered (λ (q : Provider). bytes_eq q.kind c.kind) ps p [] f in
        record { provider = p; there = there; kind = kind; is = cc }
    implicit (p ∷ q ∷ more) f e = absurd (cc)

    of-kind : (p : Provider) (name : List ℕ) → Contains ps p → (b : Bool) → bytes_eq p.kind c.kind ≡ b → cond b (Ok (Some (tie_between c p))) (Err (TypeDiffers name)) ≡ Ok (Some tie) → IsBetween ps c tie
    of-kind p name there true kind e = record { provider = p; there = there; kind = kind; is = cc }
    of-kind p name there false kind e = absurd (cc)

    by-name : (name : List ℕ) (found : List Provider) → filter (λ p. bytes_eq p.public_name name) ps ≡ found → named_outcome c name found ≡ Ok (Some tie) → IsBetween ps c tie
    by-name name [] f e = absurd (cc)
    by-name name (p ∷ []) f e = of-kind p name (first-filtered (λ (q : Provider). bytes_eq q.public_name name) ps p [] f).1 (bytes_eq p.kind c.kind) refl e
    by-name name (p ∷ q ∷ more) f e = absurd (cc)

    from : (source : Source) → outcome_from ps c source ≡ Ok (Some tie) → IsBetween ps c tie
    from Implicit e = implicit (filter (λ p. bytes_eq p.kind c.kind) ps) refl e
    from (Named name) e = by-name name (filter (λ p. bytes_eq p.public_name name) ps) refl e
    from Blocked e = no-tie c tie (IsBetween ps c tie) e

-- each tie is what some consumer came to
record IsOf {C F : Type 0} (comes_to : C → Result (Option Tie) F) (tie : Tie) : Type 0 where
  consumer : C
  came : comes_to consumer ≡ Ok (Some tie)

all-of : {C F : Type 0} (comes_to : C → Result (Option Tie) F) (cs : List C) (all : List Tie) → all_tied comes_to cs ≡ Ok all → AllByRecursion (IsOf comes_to) all
all-of {C} {F} comes_to [] all e = let none : [] ≡ all = cc in subst (AllByRecursion (IsOf comes_to)) none tt
all-of {C} {F} comes_to (c ∷ cs) all e = by (comes_to c) (all_tied comes_to cs) refl (all-of comes_to cs) e
  where
    by : (first : Result (Option Tie) F) (others : Result (List Tie) F) → comes_to c ≡ first → ((more : List Tie) → others ≡ Ok more → AllByRecursion (IsOf comes_to) more)
        → joined_ties first others ≡ Ok all → AllByRecursion (IsOf comes_to) all
    by (Err fault) others f later e = absurd (cc)
    by (Ok tie) (Err fault) f later e = absurd (cc)
    by (Ok None) (Ok more) f later e = let same : more ≡ all = cc in subst (AllByRecursion (IsOf comes_to)) same (later more refl)
    by (Ok (Some tie)) (Ok more) f later e =
        let same : tie ∷ more ≡ all = cc in
        subst (AllByRecursion (IsOf comes_to)) same (record { consumer = c; came = f }, later more refl)

-- ---- within the deployment

all-filtered : {X Y : Type 0} (P : Y → Type 0) (f : X → Option Y) (xs : List X) → ((x : X) (y : Y) → f x ≡ Some y → P y) → AllByRecursion P (filter_map f xs)
all-filtered P f [] each = tt
all-filtered {X} {Y} P f (x ∷ xs) each = by (f x) refl (all-filtered P f xs each)
  where
    by : (o : Option Y) → f x ≡ o → AllByRecursion P (filter_map f xs) → AllByRecursion P (cons_option o (filter_map f xs))
    by None e later = later
    by (Some y) e later = (each x y e, later)

abbrev IsOwnProvider : List ℕ → Provider → Type 0
IsOwnProvider dep p = p.joint.dep ≡ dep

own-provider : (dep group : List ℕ) (job : UsedJob) (link : LinkSpec) (offering : Option Offering) (p : Provider) → provider_by (joint_of dep group job link) link offering ≡ Some p → IsOwnProvider dep p
own-provider dep group job link None p e = absurd (cc)
own-provider dep group job link (Some offering) p e = let same : public_provider (joint_of dep group job link) link offering.alias ≡ p = cc in ap (λ (q : Provider). q.joint.dep) (sym same)

own-providers : (dep : List ℕ) (groups : List UsedGroup) → AllByRecursion (IsOwnProvider dep) (providers dep groups)
own-providers dep groups =
    all_flat (IsOwnProvider dep) (λ group. flat_map (job_providers dep group.group.name) group.jobs) groups
    (all_everywhere (λ group. AllByRecursion (IsOwnProvider dep) (flat_map (job_providers dep group.group.name) group.jobs)) groups
    (λ group. all_flat (IsOwnProvider dep) (job_providers dep group.group.name) group.jobs
    (all_everywhere (λ job. AllByRecursion (IsOwnProvider dep) (job_providers dep group.group.name job)) group.jobs
    (λ job. all-filtered (IsOwnProvider dep) (λ link. provider (joint_of dep group.group.name job link) link (provide_of job link)) job.spec.provides
    (λ link p e. own-provider dep group.group.name job link (offering_in (provide_of job link)) p e)))))

pub joint-self : (j : Joint) → same_bytes_joint j j ≡ true
joint-self j =
    and_from (bytes_eq j.dep j.dep) _ (bytes-same j.dep j.dep refl)
    (and_from (bytes_eq j.group j.group) _ (bytes-same j.group j.group refl)
    (and_from (bytes_eq j.job j.job) (bytes_eq j.link j.link) (bytes-same j.job j.job refl) (bytes-same j.link j.link refl)))

module _ (known : List DepOffers) (dep : List ℕ) where
  abbrev Kept : Tie → Type 0
  Kept tie = is_tie_offered known dep tie ≡ true

  own-tie : (ps : List Provider) (tie : Tie) → AllByRecursion (IsOwnProvider dep) ps → IsOf (outcome ps) tie → Kept tie
  own-tie ps tie own of =
      let it : IsBetween ps of.consumer tie = is-between ps of.consumer tie of.came in
      let dep_is : it.provider.joint.dep ≡ dep = all_at (IsOwnProvider dep) ps it.provider own it.there in
      or_left (bytes_eq tie.provider.dep dep) (list_any (offers_it tie) known) (bytes-same tie.provider.dep dep (ap (λ (t : Tie). t.provider.dep) (sym it.is) ∙ dep_is))

  -- ---- across deployments

  offered-there : (offers : List Offer) (p : Provider) (P : Type 0) → Contains (map offered_provider offers) p → ((offer : Offer) → Contains offers offer → offered_provider offer ≡ p → P) → P
  offered-there [] p P (k, within, is) f = absurd (omega arith)
  offered-there (offer ∷ offers) p P (zero, within, is) f = f offer (contains_here offer offers) is
  offered-there (offer ∷ offers) p P (suc k, within, is) f =
      offered-there offers p P (k, omega arith, is) (λ other there same. f other (contains_there offer offers other there) same)

  told-shared : (answer : Result (Option Tie) LinkFault) (tie : Tie) → shared_answer answer ≡ Ok (Some tie) → answer ≡ Ok (Some tie)
  told-shared (Ok value) tie e = cc
  told-shared (Err fault) tie e = absurd (cc)

  across-tie : OffersAreOwn known → (tie : Tie) → IsOf (across_outcome known) tie → Kept tie
  across-tie own tie of = by (of_name of.consumer.dep known) refl of.came
    where
      by : (found : Option DepOffers) → of_name of.consumer.dep known ≡ found → outcome_in found of.consumer ≡ Ok (Some tie) → Kept tie
      by None f e = absurd (cc)
      by (Some d) f e =
          let (name, there) = find_some (λ (it : DepOffers). bytes_eq it.dep of.consumer.dep) known d f in
          let it : IsBetween (map offered_provider d.offers) (consumer_of of.consumer) tie =
          is-between (map offered_provider d.offers) (consumer_of of.consumer) tie (told-shared (outcome (map offered_provider d.offers) (consumer_of of.consumer)) tie e) in
          offered-there d.offers it.provider (Kept tie) it.there
          (λ offer within same.
          let theirs : bytes_eq offer.joint.dep d.dep ≡ true =
          all_at (λ (o : Offer). bytes_eq o.joint.dep d.dep ≡ true) d.offers offer
          (passes (λ (o : Offer). bytes_eq o.joint.dep d.dep) d.offers
          (all_at (λ (it : DepOffers). list_all (λ (o : Offer). bytes_eq o.joint.dep it.dep) it.offers ≡ true) known d
          (passes (λ (it : DepOffers). list_all (λ (o : Offer). bytes_eq o.joint.dep it.dep) it.offers) known own) there)) within in
          let joint_is : tie.provider ≡ offer.joint = ap (λ (t : Tie). t.provider) (sym it.is) ∙ ap (λ (p : Provider). p.joint) (sym same) in
          let kind_is : offer.kind ≡ tie.kind =
          ap (λ (p : Provider). p.kind) same ∙ ((bytes_eq-Decides it.provider.kind of.consumer.kind).0 it.kind ∙ ap (λ (t : Tie). t.kind) it.is) in
          let link : (same_bytes_joint offer.joint tie.provider && bytes_eq offer.kind tie.kind) ≡ true =
          and_from (same_bytes_joint offer.joint tie.provider) (bytes_eq offer.kind tie.kind)
          (ap (same_bytes_joint offer.joint) joint_is ∙ joint-self offer.joint) (bytes-same offer.kind tie.kind kind_is) in
          let dep_is : bytes_eq d.dep tie.provider.dep ≡ true =
          bytes-same d.dep tie.provider.dep (sym ((bytes_eq-Decides offer.joint.dep d.dep).0 theirs) ∙ ap (λ (j : Joint). j.dep) (sym joint_is)) in
          or_right (bytes_eq tie.provider.dep dep) (list_any (offers_it tie) known)
          (any_from (offers_it tie) known d there (and_from (bytes_eq d.dep tie.provider.dep) (is_offered tie.provider tie.kind d.offers) dep_is
          (any_from (λ o. same_bytes_joint o.joint tie.provider && bytes_eq o.kind tie.kind) d.offers offer within link))))

linked : {A F : Type 0} (of : F → GoalFault) (answer : Result A F) (a : A) → with_fault of answer ≡ Ok a → answer ≡ Ok a
linked of (Ok b) a e = ap Ok (same-value b a e)
linked {A} {F} of (Err fault) a e = never (◌≡◌ {A = Result A F} (Err fault) (Ok a)) (of fault) a e

pub ties-offered : (dep : List ℕ) (groups : List UsedGroup) (known : List DepOffers) (all : List Tie) → OffersAreOwn known → ties dep groups known ≡ Ok all → AreTiesOffered known dep all
ties-offered dep groups known all own e =
    both-steps (AreTiesOffered known dep all) (own_ties dep groups) _ all e
    (λ mine m e1. both-steps (AreTiesOffered known dep all) (ties_across dep groups known) _ all e1
    (λ theirs t whole.
    let one : AllByRecursion (Kept known dep) mine =
    all_map (IsOf (outcome (providers dep groups))) (Kept known dep) mine (λ tie of. own-tie known dep (providers dep groups) tie (own-providers dep groups) of)
    (all-of (outcome (providers dep groups)) (consumers dep groups) mine (linked Link (resolution (providers dep groups) (consumers dep groups)) mine m)) in
    let other : AllByRecursion (Kept known dep) theirs =
    all_map (IsOf (across_outcome known)) (Kept known dep) theirs (across-tie known dep own)
    (all-of (across_outcome known) (all_across dep groups) theirs (linked Share (across_resolution known (all_across dep groups)) theirs t)) in
    all_pass (is_tie_offered known dep) all (subst (AllByRecursion (Kept known dep)) (same-value (mine ++ theirs) all whole) (all_append (Kept known dep) mine theirs one other))))

pub has-ties-offered :
    (manifest : Contents) (config : Config) (releases : List Release) (stemcells : List Stemcell) (view : View) (recreate : Bool) (it : Goal)
    → OffersAreOwn view.known → IsGoal manifest (Some config) releases stemcells view recreate (Ok it) → AreTiesOffered view.known it.dep it.ties
has-ties-offered manifest config releases stemcells view recreate it own told =
    let made : IsMade manifest config releases stemcells view recreate it = is-made manifest config releases stemcells view recreate it told in
    subst (λ dep. AreTiesOffered view.known dep it.ties) (sym made.dep_is) (ties-offered manifest.name made.used view.known it.ties own made.ties_are)

-- ---- what is offered

abbrev IsOwnOffer : List ℕ → Offer → Type 0
IsOwnOffer dep offer = bytes_eq offer.joint.dep dep ≡ true

own-offer : (choice : Choice) (dep : List ℕ) (group : Sited) (used : UsedJob) (link : LinkSpec) (offer : Offer) → chosen choice dep group used link ≡ Some offer → IsOwnOffer dep offer
own-offer choice dep group used link offer e = by (is_chosen choice (provide_of used link)) e
  where
    of-provider : (found : Option Provider) → provider (joint_of dep group.used.group.name used link) link (provide_of used link) ≡ found
        → option_map (offer_of group (giving dep group.used.group.name used) link) found ≡ Some offer → IsOwnOffer dep offer
    of-provider None f e = absurd (cc)
    of-provider (Some p) f e =
        let same : offer_of group (giving dep group.used.group.name used) link p ≡ offer = cc in
        bytes-same offer.joint.dep dep (ap (λ (o : Offer). o.joint.dep) (sym same) ∙ own-provider dep group.used.group.name used link (offering_in (provide_of used link)) p f)

    by : (b : Bool) → cond b (option_map (offer_of group (giving dep group.used.group.name used) link) (provider (joint_of dep group.used.group.name used link) link (provide_of used link))) None ≡ Some offer
        → IsOwnOffer dep offer
    by true e = of-provider (provider (joint_of dep group.used.group.name used link) link (provide_of used link)) refl e
    by false e = absurd (cc)

own-offers : (choice : Choice) (dep : List ℕ) (groups : List Sited) → AllByRecursion (IsOwnOffer dep) (offers choice dep groups)
own-offers choice dep groups =
    all_flat (IsOwnOffer dep) (group_offers choice dep) groups (all_everywhere (λ group. AllByRecursion (IsOwnOffer dep) (group_offers choice dep group)) groups
    (λ group. all_flat (IsOwnOffer dep) (job_offers choice dep group) group.used.jobs (all_everywhere (λ used. AllByRecursion (IsOwnOffer dep) (job_offers choice dep group used)) group.used.jobs
    (λ used. all-filtered (IsOwnOffer dep) (chosen choice dep group used) used.spec.provides (own-offer choice dep group used)))))

pub has-own-offers :
    (manifest : Contents) (config : Config) (releases : List Release) (stemcells : List Stemcell) (view : View) (recreate : Bool) (it : Goal)
    → IsGoal manifest (Some config) releases stemcells view recreate (Ok it) → OffersAreOf it.dep it.offers
has-own-offers manifest config releases stemcells view recreate it told =
    let made : IsMade manifest config releases stemcells view recreate it = is-made manifest config releases stemcells view recreate it told in
    ap (λ dep. list_all (λ (offer : Offer). bytes_eq offer.joint.dep dep) it.offers) made.dep_is
    ∙ all_pass (λ (offer : Offer). bytes_eq offer.joint.dep manifest.name) it.offers
    (subst (AllByRecursion (IsOwnOffer manifest.name)) (sym made.offers_are) (own-offers Shared manifest.name (sites made.used made.addrs)))
