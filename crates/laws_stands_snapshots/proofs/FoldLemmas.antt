-- What a table has at a key once rows were read into it one after another, of which no two are of one key.
use Rattle.std.proofs.Common.{◌≡◌, ◌∙◌, Bool, true, false, ◌||◌, List, [], ◌∷◌, Option, Some, None}
use Rattle.std.proofs.Common.{ap, refl, sym}
use Rattle.std.specs.Prelude.{cond, find, fold, is_some, not, unwrap_or, if◌then◌else◌}
use Rattle.std.specs.BTreeMap.{insert_entry}
use Rattle.std.specs.List.{list_any}
use Rattle.std.specs.Option.{option_and_then, option_map, option_map_or}
use Rattle.std.specs.declared.cmp.Ordering.{Ordering}
use Rattle.std.proofs.lemmas.Bool.{and_parts, not-true, true≢false}
use Rattle.bosh_records.specs.Table.{altered, found, thing_in, with_room}
use Rattle.bosh_rows.specs.SoundSnapshot.{are_distinct}
use Rattle.laws_stands_on.proofs.TableLemmas.{found_altered, found_inserted}
use Rattle.laws_stands_snapshots.proofs.TableListLemmas.{TellsApart}

module _ {K : Type 0} (cmp : K → K → Ordering) (same : K → K → Bool) (order : TellsApart cmp same) where
  pub same_is : (a b : K) → same a b ≡ true → a ≡ b
  same_is a b is = order.keys a b (order.at_is a b ∙ is)

  pub flipped : (a b : K) → same a b ≡ same b a
  flipped a b = by (same a b) refl (same b a) refl
    where
      by : (c : Bool) → same a b ≡ c → (d : Bool) → same b a ≡ d → same a b ≡ same b a
      by true one true other = one ∙ sym other
      by false one false other = one ∙ sym other
      by true one false other = absurd (true≢false (sym (ap (same b) (same_is a b one) ∙ order.own b) ∙ other))
      by false one true other = absurd (true≢false (sym (ap (same a) (same_is b a other) ∙ order.own a) ∙ one))

  -- room for a key
  pub found_with_room : {X : Type 0} (key : K) (first : X) (es : List (K × X)) (k : K)
      → found cmp (with_room cmp key first es) k
      ≡ (if same key k then Some (unwrap_or (found cmp es k) first) else found cmp es k)
  found_with_room {X} key first es k = by (found cmp es key) refl (same key k) refl
    where
      by : (o : Option X) → found cmp es key ≡ o → (b : Bool) → same key k ≡ b
          → found cmp (if is_some o then es else insert_entry cmp es key first) k
          ≡ (if same key k then Some (unwrap_or (found cmp es k) first) else found cmp es k)
      by (Some it) is true one =
          let there : found cmp es k ≡ Some it = ap (found cmp es) (sym (same_is key k one)) ∙ is in
          there ∙ (λ i. Some (unwrap_or (sym there i) first))
          ∙ (λ i. if sym one i then Some (unwrap_or (found cmp es k) first) else found cmp es k)
      by (Some it) is false other =
          (λ i. if sym other i then Some (unwrap_or (found cmp es k) first) else found cmp es k)
      by None is true one =
          let none : found cmp es k ≡ None = ap (found cmp es) (sym (same_is key k one)) ∙ is in
          found_inserted cmp order.keys key first es is k
          ∙ (λ i. cond ((order.at_is k key ∙ flipped k key ∙ one) i) (Some first) (found cmp es k))
          ∙ (λ i. Some (unwrap_or (sym none i) first))
          ∙ (λ i. if sym one i then Some (unwrap_or (found cmp es k) first) else found cmp es k)
      by None is false other =
          found_inserted cmp order.keys key first es is k
          ∙ (λ i. cond ((order.at_is k key ∙ flipped k key ∙ other) i) (Some first) (found cmp es k))
          ∙ (λ i. if sym other i then Some (unwrap_or (found cmp es k) first) else found cmp es k)

  module _ {X R : Type 0} (key : R → K) (change : R → X → X) (first : R → X) where
    -- one row is read
    abbrev pub read : List (K × X) → R → List (K × X)
    read es r = altered cmp (key r) (change r) (with_room cmp (key r) (first r) es)

    pub found_read : (es : List (K × X)) (r : R) (k : K)
        → found cmp (read es r) k
        ≡ (if same (key r) k then Some (change r (unwrap_or (found cmp es k) (first r))) else found cmp es k)
    found_read es r k =
        found_altered cmp order.keys (key r) (change r) (with_room cmp (key r) (first r) es) k
        ∙ (λ i. if order.at_is (key r) k i then option_map (change r) (found_with_room (key r) (first r) es k i)
        else found_with_room (key r) (first r) es k i)
        ∙ by (same (key r) k) (unwrap_or (found cmp es k) (first r)) (found cmp es k)
      where
        by : (b : Bool) (x : X) (o : Option X)
            → (if b then option_map (change r) (if b then Some x else o) else (if b then Some x else o))
            ≡ (if b then Some (change r x) else o)
        by true x o = refl
        by false x o = refl

    -- no other row is of its key
    none_left : (r : R) (rs : List R) (k : K) → key r ≡ k → list_any (λ q. same (key r) (key q)) rs ≡ false
        → find (λ q. same (key q) k) rs ≡ None
    none_left r [] k is none = refl
    none_left r (q ∷ rs) k is none = by (same (key r) (key q)) refl none (none_left r rs k is)
      where
        by : (b : Bool) → same (key r) (key q) ≡ b → (b || list_any (λ q. same (key r) (key q)) rs) ≡ false
            → (list_any (λ q. same (key r) (key q)) rs ≡ false → find (λ q. same (key q) k) rs ≡ None)
            → (if same (key q) k then Some q else find (λ q. same (key q) k) rs) ≡ None
        by true one none more = absurd (true≢false none)
        by false other none more =
            (λ i. if (flipped (key q) k ∙ ap (λ a. same a (key q)) (sym is) ∙ other) i then Some q
            else find (λ q. same (key q) k) rs)
            ∙ more none

    pub read_all : (rs : List R) → are_distinct (λ a b. same (key a) (key b)) rs ≡ true → (es : List (K × X)) (k : K)
        → found cmp (fold read es rs) k
        ≡ option_map_or (λ r. Some (change r (unwrap_or (found cmp es k) (first r)))) (find (λ r. same (key r) k) rs)
        (found cmp es k)
    read_all [] apart es k = refl
    read_all (r ∷ rs) apart es k =
        let (alone, rest) = and_parts (not (list_any (λ q. same (key r) (key q)) rs))
        (are_distinct (λ a b. same (key a) (key b)) rs) apart in
        read_all rs rest (read es r) k
        ∙ ap after (found_read es r k)
        ∙ by (same (key r) k) refl (not-true (list_any (λ q. same (key r) (key q)) rs) alone)
      where
        -- by what stood there before the others
        after : Option X → Option X
        after o = option_map_or (λ q. Some (change q (unwrap_or o (first q)))) (find (λ q. same (key q) k) rs) o

        now : Option X
        now = Some (change r (unwrap_or (found cmp es k) (first r)))

        by : (b : Bool) → same (key r) k ≡ b → list_any (λ q. same (key r) (key q)) rs ≡ false
            → after (if same (key r) k then now else found cmp es k)
            ≡ option_map_or (λ q. Some (change q (unwrap_or (found cmp es k) (first q))))
            (if same (key r) k then Some r else find (λ q. same (key q) k) rs) (found cmp es k)
        by true one none =
            (λ i. after (if one i then now else found cmp es k))
            ∙ (λ i. option_map_or (λ q. Some (change q (unwrap_or now (first q))))
            (none_left r rs k (same_is (key r) k one) none i) now)
            ∙ (λ i. option_map_or (λ q. Some (change q (unwrap_or (found cmp es k) (first q))))
            (if sym one i then Some r else find (λ q. same (key q) k) rs) (found cmp es k))
        by false other none =
            (λ i. after (if other i then now else found cmp es k))
            ∙ (λ i. option_map_or (λ q. Some (change q (unwrap_or (found cmp es k) (first q))))
            (if sym other i then Some r else find (λ q. same (key q) k) rs) (found cmp es k))

  -- .. into places that are free at first
  pub things_read : {V R : Type 0} (key : R → K) (thing : R → V) (rs : List R)
      → are_distinct (λ a b. same (key a) (key b)) rs ≡ true → (k : K)
      → thing_in cmp (fold (read key (λ r place. Some (thing r)) (λ r. None)) [] rs) k
      ≡ option_map thing (find (λ r. same (key r) k) rs)
  things_read {V} {R} key thing rs apart k =
      ap (option_and_then (λ place. place)) (read_all key (λ r place. Some (thing r)) (λ r. None) rs apart [] k)
      ∙ by (find (λ r. same (key r) k) rs)
    where
      by : (o : Option R)
          → option_and_then (λ (place : Option V). place) (option_map_or (λ r. Some (Some (thing r))) o None)
          ≡ option_map thing o
      by (Some r) = refl
      by None = refl
