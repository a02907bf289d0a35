-- What is known at a moment is in such an order as the laws of goals ask for.
use Rattle.std.proofs.Common.{◌≡◌, ◌∙◌, ℕ, Bool, true, false, ◌&&◌, ◌||◌, ◌==◌, List, [], ◌∷◌, Option, Some, None}
use Rattle.std.proofs.Common.{ap, filter, map, refl, subst, sym}
use Rattle.std.specs.Prelude.{eqb}
use Rattle.std.specs.List.{AllByRecursion, flat_map, list_all, list_any}
use Rattle.std.specs.Str.{bytes_eq}
use Rattle.std.proofs.lemmas.Bool.{and_parts, eq-eqb, eqb-true, false≢true, true≢false}
use Rattle.bosh_base.specs.Inst.{inst_cmp}
use Rattle.bosh_base.specs.declared.addr.NetAddr.{NetAddr}
use Rattle.bosh_base.specs.declared.goal.Goal.{Goal}
use Rattle.bosh_base.specs.declared.inst.Inst.{Inst}
use Rattle.bosh_base.specs.declared.key.Key.{Key}
use Rattle.bosh_base.specs.declared.link.Joint.{Joint}
use Rattle.bosh_base.specs.declared.make.Make.{Make}
use Rattle.bosh_base.specs.declared.offer.Offer.{Offer}
use Rattle.bosh_base.specs.declared.snapshot.BuiltKey.{BuiltKey}
use Rattle.bosh_base.specs.declared.view.Held.{Held}
use Rattle.bosh_compile.specs.Readiness.{same_key}
use Rattle.bosh_history.specs.Held.{is_offered, known_offers, same_bytes_joint}
use Rattle.bosh_history.specs.Known.{Known, offers_in}
use Rattle.bosh_history.specs.Moments.{Moment}
use Rattle.bosh_history.specs.Slots.{is_compiled}
use Rattle.bosh_history.specs.Sound.{addrs, are_offers_of, has_addr}
use Rattle.bosh_pool.proofs.ListLemmas.{AllPairs-from, Pairs}
use Rattle.bosh_pool.specs.Fixed.{same_addr}
use Rattle.bosh_records.specs.Keys.{key_cmp}
use Rattle.bosh_rows.proofs.SameLemmas.{itself, same_inst_tells}
use Rattle.bosh_rows.specs.Same.{same_inst}
use Rattle.bosh_rows.specs.SoundSnapshot.{are_distinct}
use Rattle.bosh_rows.specs.Standing.{same_truth}
use Rattle.bosh_wants.specs.Wants.{held_by, held_of, row_holds}
use Rattle.laws_facts.proofs.InstanceLemmas.{inst_equal, inst_total}
use Rattle.laws_facts.proofs.OrderLemmas.{any_all_inserted, distinct_ascending}
use Rattle.laws_facts.specs.Addresses.Holder.{Recorded}
use Rattle.laws_facts.specs.KnownFacts.{KnownFacts}
use Rattle.laws_facts.specs.Lists.{is_built_for}
use Rattle.laws_goals.proofs.ListLemmas.{all_everywhere, all_mapped, all_pass, pairs_filtered, pairs_flat, pairs_mapped}
use Rattle.laws_goals.proofs.ListLemmas.{pairs_of_distinct, pairs_unmapped}
use Rattle.laws_goals.specs.Free.{HoldOnce}
use Rattle.laws_goals.specs.Records.{AreKeysListed, AreRecordsInOrder}
use Rattle.laws_goals.specs.Ties.{OffersAreOwn}
use Rattle.laws_row_facts.specs.Words.{where_any}
use Rattle.laws_stands.proofs.DeploymentLemmas.{bytes_is}
use Rattle.laws_stands_works.proofs.KeptLemmas.{all_filtered, all_true}
use Rattle.laws_views.proofs.HeldLemmas.{flat_mapped}
use Rattle.laws_views.proofs.ViewLemmas.{key_equal}

-- ---- addresses

-- what is true of each address of a make is true of each of its networks
pub each_addr : (P : ℕ → Type 0) (nets : List NetAddr)
    → ((a : ℕ) → list_any (λ b. b == a) (map (λ (it : NetAddr). it.addr.0) nets) ≡ true → P a)
    → AllByRecursion (λ (it : NetAddr). P it.addr.0) nets
each_addr P [] each = tt
each_addr P (net ∷ nets) each = (
  each net.addr.0 (λ i. own net.addr.0 i || list_any (λ b. b == net.addr.0) (map (λ (it : NetAddr). it.addr.0) nets)),
  each_addr P nets (λ a there. each a (later (net.addr.0 == a) there)),
)
  where
    own : (a : ℕ) → (a == a) ≡ true
    own a = eq-eqb a a refl

    later : (b : Bool) {c : Bool} → c ≡ true → (b || c) ≡ true
    later true is = refl
    later false is = is

module _ (m : Moment) (facts : KnownFacts m) where
  abbrev k : Known
  k = m.known

  -- two addresses of rows of different instances differ
  rows_apart : (i j : Inst) → same_inst i j ≡ false
      → AllByRecursion (λ (x : Held). AllByRecursion (λ (y : Held). same_addr x.addr y.addr ≡ false) (row_holds (k.row j)))
      (row_holds (k.row i))
  rows_apart i j differ = by (k.row i).make (k.row j).make refl refl
    where
      apart : (a b : ℕ) → has_addr a (k.row i).make ≡ true → has_addr b (k.row j).make ≡ true → (a == b) ≡ false
      apart a b one other = of (a == b) refl
        where
          of : (c : Bool) → (a == b) ≡ c → (a == b) ≡ false
          of false is = is
          of true is = absurd (true≢false (sym (facts.addresses.one_recorded a (Recorded i) (Recorded j) one
              (ap (λ c. has_addr c (k.row j).make) (eqb-true a b is) ∙ other)) ∙ differ))

      by : (x y : Option Make) → (k.row i).make ≡ x → (k.row j).make ≡ y
          → AllByRecursion (λ (x : Held). AllByRecursion (λ (y : Held). same_addr x.addr y.addr ≡ false)
          (held_by (k.row j).inst y)) (held_by (k.row i).inst x)
      by None y one other = tt
      by (Some x) None one other =
          all_mapped (λ (x : Held). AllByRecursion (λ (y : Held). same_addr x.addr y.addr ≡ false) []) (held_of (k.row i).inst)
          x.nets (all_everywhere (λ (net : NetAddr). AllByRecursion (λ (y : Held). same_addr net.addr y.addr ≡ false) []) x.nets
          (λ net. tt))
      by (Some x) (Some y) one other =
          all_mapped (λ (x : Held). AllByRecursion (λ (y : Held). same_addr x.addr y.addr ≡ false)
          (map (held_of (k.row j).inst) y.nets)) (held_of (k.row i).inst) x.nets
          (each_addr (λ a. AllByRecursion (λ (y : Held). (a == y.addr.0) ≡ false) (map (held_of (k.row j).inst) y.nets)) x.nets
          (λ a first. all_mapped (λ (y : Held). (a == y.addr.0) ≡ false) (held_of (k.row j).inst) y.nets
          (each_addr (λ b. (a == b) ≡ false) y.nets
          (λ b second. apart a b (ap (has_addr a) one ∙ first) (ap (has_addr b) other ∙ second)))))

  -- two of one row do
  row_apart : (i : Inst) → Pairs (λ (x y : Held). same_addr x.addr y.addr ≡ false) (row_holds (k.row i))
  row_apart i = by (k.row i).make refl
    where
      by : (make : Option Make) → (k.row i).make ≡ make
          → Pairs (λ (x y : Held). same_addr x.addr y.addr ≡ false) (held_by (k.row i).inst make)
      by None is = tt
      by (Some make) is =
          pairs_mapped (λ (x y : Held). same_addr x.addr y.addr ≡ false) (held_of (k.row i).inst) make.nets
          (pairs_unmapped (λ (a b : ℕ). eqb a b ≡ false) (λ (it : NetAddr). it.addr.0) make.nets
          (pairs_of_distinct eqb (addrs make)
          (sym (ap (where_any (λ (make : Make). are_distinct eqb (addrs make))) is) ∙ facts.addresses.each_once (Recorded i))))

  pub hold_once : (dep : List ℕ) → HoldOnce (map k.row (filter (λ i. bytes_eq i.dep dep) k.instances))
  hold_once dep =
      AllPairs-from R (flat_map row_holds (map k.row listed))
      (subst (Pairs R) (sym (flat_mapped k.row row_holds listed))
      (pairs_filtered R (λ i. row_holds (k.row i)) (λ i. bytes_eq i.dep dep) k.instances
      (pairs_flat R (λ i j. same_inst i j ≡ false) (λ i. row_holds (k.row i)) k.instances rows_apart
      (all_everywhere (λ i. Pairs R (row_holds (k.row i))) k.instances row_apart)
      (pairs_of_distinct same_inst k.instances
      (distinct_ascending inst_cmp inst_total same_inst same_inst_tells inst_equal k.instances facts.lists.instances_in_order)))))
    where
      R : Held → Held → Type 0
      R x y = same_addr x.addr y.addr ≡ false

      listed : List Inst
      listed = filter (λ (i : Inst). bytes_eq i.dep dep) k.instances

  -- ---- offers

  offered_by : (dep : List ℕ) (joint : Joint) (kind : List ℕ) (offers : List Offer) → are_offers_of dep offers ≡ true
      → is_offered joint kind offers ≡ true → bytes_eq joint.dep dep ≡ true
  offered_by dep joint kind [] own is = absurd (false≢true is)
  offered_by dep joint kind (offer ∷ offers) own is =
      let (first, rest) = and_parts (bytes_eq offer.joint.dep dep) (are_offers_of dep offers) own in
      by (same_bytes_joint offer.joint joint && bytes_eq offer.kind kind) refl first is (offered_by dep joint kind offers rest)
    where
      by : (b : Bool) → (same_bytes_joint offer.joint joint && bytes_eq offer.kind kind) ≡ b
          → bytes_eq offer.joint.dep dep ≡ true → (b || is_offered joint kind offers) ≡ true
          → (is_offered joint kind offers ≡ true → bytes_eq joint.dep dep ≡ true) → bytes_eq joint.dep dep ≡ true
      by false other first is more = more is
      by true same first is more =
          let joints : same_bytes_joint offer.joint joint ≡ true =
          (and_parts (same_bytes_joint offer.joint joint) (bytes_eq offer.kind kind) same).0 in
          let deps : bytes_eq offer.joint.dep joint.dep ≡ true = (and_parts (bytes_eq offer.joint.dep joint.dep) _ joints).0 in
          ap (λ d. bytes_eq d dep) (sym (bytes_is offer.joint.dep joint.dep deps)) ∙ first

  pub offers_own : OffersAreOwn (map (known_offers k) k.deployments)
  offers_own =
      all_pass (λ it. are_offers_of it.dep it.offers) (map (known_offers k) k.deployments)
      (all_mapped (λ it. are_offers_of it.dep it.offers ≡ true) (known_offers k) k.deployments
      (all_everywhere (λ d. are_offers_of d (known_offers k d).offers ≡ true) k.deployments each))
    where
      each : (d : List ℕ) → are_offers_of d (known_offers k d).offers ≡ true
      each d = all_filtered (λ (offer : Offer). bytes_eq offer.joint.dep d)
          (λ (offer : Offer). is_offered offer.joint offer.kind (offers_in (k.goal d))) (λ offer is. by offer (k.goal d) refl is)
          (k.shared d)
        where
          by : (offer : Offer) (goal : Option Goal) → k.goal d ≡ goal
              → is_offered offer.joint offer.kind (offers_in (k.goal d)) ≡ true → bytes_eq offer.joint.dep d ≡ true
          by offer (Some goal) has is =
              ap (bytes_eq offer.joint.dep) (sym (facts.goals d goal has).of_dep)
              ∙ offered_by goal.dep offer.joint offer.kind goal.offers (facts.goals d goal has).own_offers
              (sym (ap (λ goal. is_offered offer.joint offer.kind (offers_in goal)) has) ∙ is)
          by offer None has is =
              absurd (false≢true (sym (ap (λ goal. is_offered offer.joint offer.kind (offers_in goal)) has) ∙ is))

  -- ---- keys

  pub keys_listed : (dep : List ℕ) → AreKeysListed k dep
  keys_listed dep key =
      any_all_inserted key_cmp (λ each. same_key each key) (λ a b one. ap (λ (it : Key). same_key it key) (key_equal a b one))
      (map (λ (built : BuiltKey). built.key) k.built) []
      ∙ or_nothing (list_any (λ each. same_key each key) (map (λ (built : BuiltKey). built.key) k.built))
      ∙ of_keys k.built
      ∙ same (list_any (is_built_for key) k.built) (is_compiled k key) (facts.lists.key_listed key)
    where
      or_nothing : (b : Bool) → (b || false) ≡ b
      or_nothing true = refl
      or_nothing false = refl

      of_keys : (items : List BuiltKey) → list_any (λ each. same_key each key) (map (λ (built : BuiltKey). built.key) items)
          ≡ list_any (is_built_for key) items
      of_keys [] = refl
      of_keys (it ∷ items) = ap (λ b. is_built_for key it || b) (of_keys items)

      same : (a b : Bool) → same_truth a b ≡ true → a ≡ b
      same true b is = sym is
      same false true is = absurd (false≢true is)
      same false false is = refl

  -- ---- all

  pub own_rows : list_all (λ i. same_inst (k.row i).inst i) k.instances ≡ true
  own_rows = all_true (λ i. same_inst (k.row i).inst i)
      (λ i. ap (λ j. same_inst j i) (facts.lists.own_row i) ∙ itself i) k.instances

  pub in_order : (dep : List ℕ) → AreRecordsInOrder k dep
  in_order dep = record {
    rows = own_rows;
    addresses = hold_once dep;
    offers = offers_own;
    compiled = keys_listed dep;
  }
