-- The view of records that stand is that of what is known.
use Rattle.std.proofs.Common.{◌≡◌, ◌∙◌, ℕ, Bool, true, false, ◌&&◌, ◌||◌, not, List, [], ◌∷◌, ◌++◌, Option, Some, None}
use Rattle.std.proofs.Common.{ap, filter, inl, inr, map, refl, subst, sym}
use Rattle.std.specs.Prelude.{is_some, if◌then◌else◌}
use Rattle.std.specs.Cmp.{IsTotalOrder}
use Rattle.std.specs.Cmp.Lexicographic.{slice_cmp}
use Rattle.std.specs.List.{cons_option, filter_map, list_any}
use Rattle.std.specs.Option.{option_and_then, option_map}
use Rattle.std.specs.Ordering.{is_eq, nat_cmp, ordering_then}
use Rattle.std.specs.declared.cmp.Ordering.TheVariants.{Equal}
use Rattle.std.proofs.lemmas.Map.Text.{is_eq-slice_cmp}
use Rattle.std.proofs.lemmas.Slice.Eq.{bytes_eq-Decides}
use Rattle.std.specs.Str.{bytes_eq}
use Rattle.std.specs.BTreeMap.{is_at}
use Rattle.std.proofs.lemmas.Bool.{false≢true, true≢false}
use Rattle.std.proofs.lemmas.Cmp.{nat_list_cmp_total, on_total, then_total}
use Rattle.std.proofs.lemmas.List.Elements.{filter-append}
use Rattle.bosh_base.specs.contracts.link.JointPartialEq.TheImpl as joint_test
use Rattle.bosh_base.specs.declared.entry.Begin.{Begin}
use Rattle.bosh_base.specs.declared.goal.Goal.{Goal}
use Rattle.bosh_base.specs.declared.inst.Inst.{Inst}
use Rattle.bosh_base.specs.declared.key.Key.{Key}
use Rattle.bosh_base.specs.declared.link.Joint.{Joint}
use Rattle.bosh_base.specs.declared.offer.Offer.{Offer}
use Rattle.bosh_base.specs.declared.row.Row.{Row}
use Rattle.bosh_base.specs.declared.snapshot.BuiltKey.{BuiltKey}
use Rattle.bosh_base.specs.declared.view.Held.{Held}
use Rattle.bosh_compile.proofs.KeyLemmas.{same_key_decides}
use Rattle.bosh_compile.specs.Readiness.{same_key}
use Rattle.bosh_history.specs.Held as held
use Rattle.bosh_history.specs.Held.{compiled_keys, known_offers, view}
use Rattle.bosh_history.specs.Known.{Known, offers_in}
use Rattle.bosh_history.specs.Moments.{Moment, dep_of}
use Rattle.bosh_history.specs.Slots.{is_compiled}
use Rattle.bosh_history.specs.Snapshots.{dep_row}
use Rattle.bosh_history.specs.Words.{all_inserted, inserted, is_among}
use Rattle.bosh_records.specs.Arrivals.{Arrivals}
use Rattle.bosh_records.specs.Keys.{compiled_of, key_cmp}
use Rattle.bosh_records.specs.Table.{found}
use Rattle.bosh_records.specs.declared.instances.Instance.{Instance}
use Rattle.bosh_records.specs.declared.keys.KeyState.{KeyState}
use Rattle.bosh_records.specs.declared.records.Records.{Records}
use Rattle.bosh_rows.specs.Standing.{same_truth}
use Rattle.bosh_views.specs.View as views
use Rattle.bosh_views.specs.View.{view_of}
use Rattle.laws_facts.proofs.ListLemmas.{Tells}
use Rattle.laws_facts.proofs.OrderLemmas.{any_all_inserted, ascending_inserted}
use Rattle.laws_facts.specs.KnownFacts.{KnownFacts}
use Rattle.laws_facts.specs.Lists.{is_built_for}
use Rattle.laws_row_facts.specs.Words.{are_ascending}
use Rattle.laws_stands.proofs.OrderLemmas.{once_of}
use Rattle.laws_stands.specs.Agrees.{Agrees}
use Rattle.laws_stands.specs.Stands.{Stands}
use Rattle.laws_stands.specs.Told.{Told}
use Rattle.laws_stands_on.proofs.KeyLemmas.{eq_then, key_keys}
use Rattle.laws_views.proofs.HeldLemmas.{goals_held, machines_held, rows_held, tasks_held}
use Rattle.laws_views.proofs.ListedLemmas.{filter_map_pairs, keys_are}
use Rattle.laws_views.proofs.TableLemmas.{goal_known, rows_known}
use Rattle.laws_views.specs.Viewed.{CanBeViewed}

-- ---- offers

-- the two tests of links are one
joint_same : (a b : Joint) → joint_test.ghosts.eq a b ≡ held.same_bytes_joint a b
joint_same a b = refl

-- ---- keys

pub key_total : IsTotalOrder key_cmp
key_total =
    then_total (on_total (λ (key : Key). key.fingerprint.0) nat_list_cmp_total)
    (then_total (on_total (λ (key : Key). key.os) nat_list_cmp_total) (on_total (λ (key : Key). key.version) nat_list_cmp_total))

key_own : (a : Key) → same_key a a ≡ true
key_own a = (same_key_decides a a).1 refl

pub key_equal : (a b : Key) → key_cmp a b ≡ Equal → a ≡ b
key_equal a b one = key_keys a b (ap is_eq one)

key_tells : (a b : Key) → Tells same_key a b
key_tells a b = by (same_key a b) refl
  where
    by : (c : Bool) → same_key a b ≡ c → Tells same_key a b
    by true one = inl (one, (same_key_decides a b).0 one)
    by false other = inr (other, λ one. true≢false (sym ((same_key_decides a b).1 one) ∙ other))

key_flip : (a b : Key) → same_key a b ≡ same_key b a
key_flip a b = by (same_key a b) (same_key b a) refl refl
  where
    by : (t u : Bool) → same_key a b ≡ t → same_key b a ≡ u → same_key a b ≡ same_key b a
    by true true e f = e ∙ sym f
    by false false e f = e ∙ sym f
    by true false e f = absurd (true≢false (sym ((same_key_decides b a).1 (sym ((same_key_decides a b).0 e))) ∙ f))
    by false true e f = absurd (true≢false (sym ((same_key_decides a b).1 (sym ((same_key_decides b a).0 f))) ∙ e))

bytes_own : (a : List ℕ) → bytes_eq a a ≡ true
bytes_own a = (bytes_eq-Decides a a).1 refl

key_at : (a b : Key) → is_at (key_cmp a) b ≡ same_key a b
key_at a b =
    eq_then (slice_cmp nat_cmp a.fingerprint.0 b.fingerprint.0)
    (ordering_then (slice_cmp nat_cmp a.os b.os) (slice_cmp nat_cmp a.version b.version))
    ∙ ap (λ (t : Bool). is_eq (slice_cmp nat_cmp a.fingerprint.0 b.fingerprint.0) && t)
    (eq_then (slice_cmp nat_cmp a.os b.os) (slice_cmp nat_cmp a.version b.version))
    ∙ (λ i. is_eq-slice_cmp a.fingerprint.0 b.fingerprint.0 i
    && (is_eq-slice_cmp a.os b.os i && is_eq-slice_cmp a.version b.version i))

-- ---- lists

kept_keys_as : {K X Y : Type 0} (read : X → Option Y) (es : List (K × X))
    → filter_map (λ e. option_map (λ y. e.0) (read e.1)) es ≡ map (λ e. e.0) (filter (λ e. is_some (read e.1)) es)
kept_keys_as read [] = refl
kept_keys_as {K} {X} {Y} read (e ∷ es) = by (read e.1) (kept_keys_as read es)
  where
    by : (o : Option Y)
        → filter_map (λ (e : K × X). option_map (λ y. e.0) (read e.1)) es
        ≡ map (λ (e : K × X). e.0) (filter (λ e. is_some (read e.1)) es)
        → cons_option (option_map (λ y. e.0) o) (filter_map (λ (e : K × X). option_map (λ y. e.0) (read e.1)) es)
        ≡ map (λ (e : K × X). e.0) (if is_some o then e ∷ filter (λ e. is_some (read e.1)) es
        else filter (λ e. is_some (read e.1)) es)
    by (Some y) more = ap (λ ks. e.0 ∷ ks) more
    by None more = more

found_filtered : {A B : Type 0} (p : A → Bool) (f : A → B) (xs : List A)
    → filter_map (λ x. if p x then Some (f x) else None) xs ≡ map f (filter p xs)
found_filtered p f [] = refl
found_filtered {A} {B} p f (x ∷ xs) = by (p x) (found_filtered p f xs)
  where
    by : (b : Bool) → filter_map (λ x. if p x then Some (f x) else None) xs ≡ map f (filter p xs)
        → cons_option (if b then Some (f x) else None) (filter_map (λ x. if p x then Some (f x) else None) xs)
        ≡ map f (if b then x ∷ filter p xs else filter p xs)
    by true more = ap (λ ys. f x ∷ ys) more
    by false more = more

all_in_order : (keys done : List Key) → are_ascending key_cmp done ≡ true
    → are_ascending key_cmp (all_inserted key_cmp keys done) ≡ true
all_in_order [] done up = up
all_in_order (key ∷ keys) done up =
    all_in_order keys (inserted key_cmp key done)
    (ascending_inserted key_cmp key_total same_key key_tells key_equal key done up)

among_built : (key : Key) (items : List BuiltKey)
    → is_among same_key key (map (λ (built : BuiltKey). built.key) items) ≡ list_any (is_built_for key) items
among_built key [] = refl
among_built key (it ∷ items) = λ i. key_flip key it.key i || among_built key items i

-- ---- at a moment

module _ (m : Moment) (calls : ℕ → Option Begin) (snapped : ℕ) (records : Records) (facts : KnownFacts m)
    (stands : Stands (record { known = m.known; calls = calls; snapped = snapped }) records) (dep : List ℕ) where
  abbrev k : Known
  k = m.known

  rows_viewed : views.rows_of dep records.instances.by_inst.entries ≡ (view k dep).rows
  rows_viewed =
      (λ i. filter_map (λ e. there e i) records.instances.by_inst.entries)
      ∙ sym (filter_map_pairs (λ (e : Inst × Instance). e.0) (λ e. e.1.row) of_row records.instances.by_inst.entries)
      ∙ ap (filter_map (λ p. of_row p.0 p.1)) (rows_known m calls snapped records facts stands)
      ∙ filter_map_pairs (λ (i : Inst). i) (λ i. Some (k.row i)) of_row k.instances
      ∙ found_filtered (λ (i : Inst). bytes_eq i.dep dep) k.row k.instances
    where
      of_row : Inst → Row → Option Row
      of_row i row = if bytes_eq i.dep dep then Some row else None

      there : (e : Inst × Instance) → (if bytes_eq e.0.dep dep then e.1.row else None) ≡ option_and_then (of_row e.0) e.1.row
      there e = by (bytes_eq e.0.dep dep) e.1.row
        where
          by : (b : Bool) (row : Option Row)
              → (if b then row else None) ≡ option_and_then (λ (row : Row). if b then Some row else None) row
          by true (Some row) = refl
          by true None = refl
          by false (Some row) = refl
          by false None = refl

  compiled_viewed : compiled_of records.keys.by_key.entries ≡ compiled_keys k
  compiled_viewed =
      kept_keys_as (λ (state : KeyState). state.digest) records.keys.by_key.entries
      ∙ keys_are key_cmp key_total key_keys same_key key_own key_at (λ (state : KeyState). state.digest)
      records.keys.by_key.entries stands.ordered.keys (once_of stands.ordered).keys (compiled_keys k)
      (all_in_order (map (λ (built : BuiltKey). built.key) k.built) [] refl) members
    where
      members : (key : Key) → is_some (option_and_then (λ (state : KeyState). state.digest)
          (found key_cmp records.keys.by_key.entries key)) ≡ is_among same_key key (compiled_keys k)
      members key =
          ap is_some (stands.digests key)
          ∙ sym (same (list_any (is_built_for key) k.built) (is_compiled k key) (facts.lists.key_listed key))
          ∙ sym (any_all_inserted key_cmp (same_key key) (λ a b one. ap (same_key key) (key_equal a b one))
          (map (λ (built : BuiltKey). built.key) k.built) []
          ∙ or_nothing (is_among same_key key (map (λ (built : BuiltKey). built.key) k.built))
          ∙ among_built key k.built)
        where
          or_nothing : (b : Bool) → (b || false) ≡ b
          or_nothing true = refl
          or_nothing false = refl

          same : (a b : Bool) → same_truth a b ≡ true → a ≡ b
          same true b is = sym is
          same false true is = absurd (false≢true is)
          same false false is = refl

  known_viewed : views.known_of records.deployments.places.entries ≡ map (known_offers k) k.deployments
  known_viewed = ap (map views.known_offers) stands.deployments ∙ each k.deployments (λ d among. among)
    where
      offered : (goal : Goal) (offers : List Offer) (offer : Offer)
          → views.is_offered offers offer ≡ held.is_offered offer.joint offer.kind offers
      offered goal offers offer = refl

      each : (deps : List (List ℕ)) → ((d : List ℕ) → is_among bytes_eq d deps ≡ true → is_among bytes_eq d k.deployments ≡ true)
          → map views.known_offers (filter_map (dep_row k) deps) ≡ map (known_offers k) deps
      each [] within = refl
      each (d ∷ deps) within =
          by (k.goal d) refl (within d (λ i. bytes_own d i || is_among bytes_eq d deps))
          (each deps (λ e among. within e (later (bytes_eq e d) (is_among bytes_eq e deps) among)))
        where
          later : (a b : Bool) → b ≡ true → (a || b) ≡ true
          later true b is = refl
          later false b is = is

          by : (goal : Option Goal) → k.goal d ≡ goal → is_among bytes_eq d k.deployments ≡ true
              → map views.known_offers (filter_map (dep_row k) deps) ≡ map (known_offers k) deps
              → map views.known_offers (cons_option (option_map
              (λ (goal : Goal). record { dep = d; goal = goal; shared = k.shared d }) (k.goal d)) (filter_map (dep_row k) deps))
              ≡ known_offers k d ∷ map (known_offers k) deps
          by (Some goal) is listed more =
              (λ i. map views.known_offers (cons_option (option_map
              (λ (goal : Goal). record { dep = d; goal = goal; shared = k.shared d }) (is i)) (filter_map (dep_row k) deps)))
              ∙ (λ i. record {
                dep = d;
                offers = filter (λ (offer : Offer). held.is_offered offer.joint offer.kind
                    (offers_in (sym is i))) (k.shared d);
              } ∷ more i)
          by None is listed more =
              absurd (false≢true (sym (λ i. same_truth (listed i) (is_some (is i))) ∙ facts.lists.deployment_listed d))

  module _ (viewed : CanBeViewed m.known) where
    taken_viewed : views.taken_of records dep ≡ held.held_elsewhere k dep
    taken_viewed =
        (λ i. rows_held m calls snapped records facts stands dep i ++ goals_held m calls snapped records facts stands dep i
        ++ (machines_held m calls snapped records facts stands dep false
        ∙ (λ j. filter (λ (it : Held). not_as (bytes_eq (dep_of k it.owner) dep) j) (held.held_by_machines k))) i
        ++ tasks_held m calls snapped records facts stands dep viewed i)
        ∙ sym (filter-append is_other (held.held_by_rows k ++ held.held_by_goals k ++ held.held_by_machines k) (held.held_by_slots k)
        ∙ (λ i. (filter-append is_other (held.held_by_rows k ++ held.held_by_goals k) (held.held_by_machines k)
        ∙ (λ j. filter-append is_other (held.held_by_rows k) (held.held_by_goals k) j ++ filter is_other (held.held_by_machines k)))
        i ++ filter is_other (held.held_by_slots k)))
      where
        is_other : Held → Bool
        is_other it = not (bytes_eq (dep_of k it.owner) dep)

        not_as : (b : Bool) → same_truth b false ≡ not b
        not_as true = refl
        not_as false = refl

    leftover_viewed : views.held_by_machines dep true records.machines.places.entries ≡ (view k dep).leftover
    leftover_viewed = machines_held m calls snapped records facts stands dep true
        ∙ (λ j. filter (λ (it : Held). same_as (bytes_eq (dep_of k it.owner) dep) j) (held.held_by_machines k))
      where
        same_as : (b : Bool) → same_truth b true ≡ b
        same_as true = refl
        same_as false = refl

    pub view_known : view_of records dep ≡ view k dep
    view_known = λ i. record {
      goal = goal_known m calls snapped records facts stands dep i;
      rows = rows_viewed i;
      taken = taken_viewed i;
      leftover = leftover_viewed i;
      compiled = compiled_viewed i;
      last_call = ap (λ (it : Arrivals). it.last_call) stands.uploads i;
      known = known_viewed i;
    }

-- what agrees with a moment is what is known then, with the calls that are told
pub stands_at : (m : Moment) (told : Told) (records : Records) → Stands told records → Agrees m told
    → Stands (record { known = m.known; calls = told.calls; snapped = told.snapped }) records
stands_at m told records stands agrees =
    subst (λ (it : Told). Stands it records)
    (λ i. record { known = agrees.known_is i; calls = told.calls; snapped = told.snapped }) stands

pub views_known : (m : Moment) (told : Told) (records : Records) (dep : List ℕ) → Stands told records → Agrees m told
    → KnownFacts m → CanBeViewed m.known → view_of records dep ≡ view m.known dep
views_known m told records dep stands agrees facts viewed =
    view_known m told.calls told.snapped records facts (stands_at m told records stands agrees) dep viewed
