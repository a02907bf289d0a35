-- The first thing of a table that passes a test: where it stands, and that it changes, or goes, where its key does.
use Rattle.std.proofs.Common.{◌≡◌, ◌∙◌, Bool, true, false, List, [], ◌∷◌, Option, Some, None, ap, refl, sym}
use Rattle.std.specs.Prelude.{cond, find, is_some, option_map, if◌then◌else◌}
use Rattle.std.specs.BTreeMap.{is_at}
use Rattle.std.specs.Map.{lookup, remove_entry, set_value}
use Rattle.std.specs.Option.{option_and_then, option_map_or}
use Rattle.std.specs.declared.cmp.Ordering.{Ordering}
use Rattle.std.proofs.lemmas.Bool.{true≢false}
use Rattle.bosh_records.specs.Table.{altered, changed, found, thing_in, things, without}
use Rattle.laws_stands.specs.Once.{IsOnce}
use Rattle.laws_stands_on.proofs.TableLemmas.{TellsKeys}

-- the first that passes is another
abbrev pub first_changed : {V : Type 0} → (V → Bool) → (V → V) → List V → List V
first_changed test change [] = []
first_changed test change (v ∷ vs) = if test v then change v ∷ vs else v ∷ first_changed test change vs

-- .. or it goes
abbrev pub first_gone : {V : Type 0} → (V → Bool) → List V → List V
first_gone test [] = []
first_gone test (v ∷ vs) = if test v then vs else v ∷ first_gone test vs

module _ {K V : Type 0} (cmp : K → K → Ordering) (tells : TellsKeys cmp) (own : (k : K) → is_at (cmp k) k ≡ true)
    (test : V → Bool) where
  -- the key at which it stands
  abbrev pub first_key : List (K × Option V) → Option K
  first_key es = option_map (λ place. place.0) (find (λ place. option_map_or test place.1 false) es)

  key_found : (es : List (K × Option V)) (k : K) → first_key es ≡ Some k → is_some (found cmp es k) ≡ true
  key_found [] k is = absurd cc
  key_found (e ∷ es) k is = by (option_map_or test e.1 false) refl (is_at (cmp k) e.0) refl (key_found es k)
    where
      by : (b : Bool) → option_map_or test e.1 false ≡ b → (c : Bool) → is_at (cmp k) e.0 ≡ c
          → (first_key es ≡ Some k → is_some (found cmp es k) ≡ true)
          → is_some (cond (is_at (cmp k) e.0) (Some e.1) (found cmp es k)) ≡ true
      by b passes true here more = λ i. is_some (cond (here i) (Some e.1) (found cmp es k))
      by true passes false away more =
          let same : Some e.0 ≡ Some k =
          (λ i. option_map (λ (place : K × Option V). place.0) (if sym passes i then Some e
          else find (λ place. option_map_or test place.1 false) es)) ∙ is in
          let one : e.0 ≡ k = cc in
          absurd (true≢false (sym (own k) ∙ ap (is_at (cmp k)) (sym one) ∙ away))
      by false passes false away more =
          (λ i. is_some (cond (away i) (Some e.1) (found cmp es k)))
          ∙ more ((λ i. option_map (λ (place : K × Option V). place.0) (if sym passes i then Some e
          else find (λ place. option_map_or test place.1 false) es)) ∙ is)

  -- a first place that does not pass stands at another key
  pub apart_from : (e : K × Option V) (es : List (K × Option V)) (k : K) → found cmp es e.0 ≡ None
      → first_key es ≡ Some k → is_at (cmp k) e.0 ≡ false
  apart_from e es k none is = by (is_at (cmp k) e.0) refl
    where
      by : (b : Bool) → is_at (cmp k) e.0 ≡ b → b ≡ false
      by false away = refl
      by true here =
          absurd (true≢false (sym (key_found es k is) ∙ ap (λ k. is_some (found cmp es k)) (tells k e.0 here)
          ∙ ap is_some none))

  -- what is left of the search behind a place that does not pass
  behind : (e : K × Option V) (es : List (K × Option V)) (k : K) → option_map_or test e.1 false ≡ false
      → first_key (e ∷ es) ≡ Some k → first_key es ≡ Some k
  behind e es k passes is = (λ i. option_map (λ (place : K × Option V). place.0) (if sym passes i then Some e
      else find (λ place. option_map_or test place.1 false) es)) ∙ is

  -- .. and at one that passes
  at_first : (e : K × Option V) (es : List (K × Option V)) (k : K) → option_map_or test e.1 false ≡ true
      → first_key (e ∷ es) ≡ Some k → is_at (cmp k) e.0 ≡ true
  at_first e es k passes is =
      let same : Some e.0 ≡ Some k =
      (λ i. option_map (λ (place : K × Option V). place.0) (if sym passes i then Some e
      else find (λ place. option_map_or test place.1 false) es)) ∙ is in
      let one : e.0 ≡ k = cc in
      ap (is_at (cmp k)) one ∙ own k

  skipped : (change : Option V → Option V) (k : K) (e : K × Option V) (es : List (K × Option V))
      → is_at (cmp k) e.0 ≡ false → altered cmp k change (e ∷ es) ≡ e ∷ altered cmp k change es
  skipped change k e es away =
      (λ i. option_map_or (λ it. cond (away i) ((e.0, change it) ∷ es)
      (e ∷ set_value (is_at (cmp k)) es (change it)))
      (cond (away i) (Some e.1) (lookup (is_at (cmp k)) es)) (e ∷ es))
      ∙ by (lookup (is_at (cmp k)) es)
    where
      by : (o : Option (Option V)) → option_map_or (λ it. e ∷ set_value (is_at (cmp k)) es (change it)) o (e ∷ es)
          ≡ e ∷ option_map_or (λ it. set_value (is_at (cmp k)) es (change it)) o es
      by (Some it) = refl
      by None = refl

  -- the thing at its key changes, and no other
  pub changed_first : (change : V → V) (es : List (K × Option V)) → IsOnce cmp es → (k : K) → first_key es ≡ Some k
      → things (changed cmp k change es) ≡ first_changed test change (things es)
  changed_first change [] once k is = absurd cc
  changed_first change ((at, None) ∷ es) (none, once) k is =
      ap things (skipped (option_map change) k (at, None) es (apart_from (at, None) es k none is))
      ∙ changed_first change es once k is
  changed_first change ((at, Some v) ∷ es) (none, once) k is = by (test v) refl (changed_first change es once k)
    where
      by : (b : Bool) → test v ≡ b
          → (first_key es ≡ Some k → things (changed cmp k change es) ≡ first_changed test change (things es))
          → things (changed cmp k change ((at, Some v) ∷ es))
          ≡ (if b then change v ∷ things es else v ∷ first_changed test change (things es))
      by true passes more =
          λ i. things (option_map_or (λ it. cond (at_first (at, Some v) es k passes is i)
          ((at, option_map change it) ∷ es) ((at, Some v) ∷ set_value (is_at (cmp k)) es (option_map change it)))
          (cond (at_first (at, Some v) es k passes is i) (Some (Some v)) (lookup (is_at (cmp k)) es))
          ((at, Some v) ∷ es))
      by false fails more =
          ap things (skipped (option_map change) k (at, Some v) es
          (apart_from (at, Some v) es k none (behind (at, Some v) es k fails is)))
          ∙ ap (λ vs. v ∷ vs) (more (behind (at, Some v) es k fails is))

  -- its key, and that it stands there
  pub record Stood (es : List (K × Option V)) (v : V) : Type 0 where
    -- the key
    pub key : K
    -- it is the first at which one passes
    pub first : first_key es ≡ Some key
    -- the thing stands there
    pub there : thing_in cmp es key ≡ Some v

  pub first_stood : (es : List (K × Option V)) → IsOnce cmp es → (v : V) → find test (things es) ≡ Some v → Stood es v
  first_stood [] once v is = absurd cc
  first_stood ((at, None) ∷ es) (none, once) v is =
      let more : Stood es v = first_stood es once v is in
      record {
        key = more.key;
        first = more.first;
        there = (λ j. option_and_then (λ place. place) (cond
            (apart_from (at, None) es more.key none more.first j) (Some None)
            (found cmp es more.key))) ∙ more.there;
      }
  first_stood ((at, Some x) ∷ es) (none, once) v is = by (test x) refl (first_stood es once v)
    where
      by : (b : Bool) → test x ≡ b → (find test (things es) ≡ Some v → Stood es v) → Stood ((at, Some x) ∷ es) v
      by true passes rest =
          let same : Some x ≡ Some v = (λ j. if sym passes j then Some x else find test (things es)) ∙ is in
          record {
            key = at;
            first = λ j. option_map (λ (place : K × Option V). place.0) (if passes j then Some (at, Some x)
                else find (λ place. option_map_or test place.1 false) es);
            there = (λ j. option_and_then (λ (place : Option V). place) (cond (own at j) (Some (Some x))
                (found cmp es at))) ∙ same;
          }
      by false fails rest =
          let more : Stood es v = rest
          ((λ j. if sym fails j then Some x else find test (things es)) ∙ is) in
          record {
            key = more.key;
            first = (λ j. option_map (λ (place : K × Option V). place.0) (if fails j then Some (at, Some x)
                else find (λ place. option_map_or test place.1 false) es)) ∙ more.first;
            there = (λ j. option_and_then (λ place. place) (cond
                (apart_from (at, Some x) es more.key none more.first j) (Some (Some x))
                (found cmp es more.key))) ∙ more.there;
          }

  -- where none passes there is no such key
  pub none_first : (es : List (K × Option V)) → find test (things es) ≡ None → first_key es ≡ None
  none_first [] none = refl
  none_first ((at, None) ∷ es) none = none_first es none
  none_first ((at, Some x) ∷ es) none = by (test x) refl none (none_first es)
    where
      by : (b : Bool) → test x ≡ b → (if b then Some x else find test (things es)) ≡ None
          → (find test (things es) ≡ None → first_key es ≡ None) → first_key ((at, Some x) ∷ es) ≡ None
      by true passes none rest = absurd cc
      by false fails none rest =
          (λ j. option_map (λ (place : K × Option V). place.0) (if fails j then Some (at, Some x)
          else find (λ place. option_map_or test place.1 false) es)) ∙ rest none

  -- .. or it goes
  pub gone_first : (es : List (K × Option V)) → IsOnce cmp es → (k : K) → first_key es ≡ Some k
      → things (without cmp k es) ≡ first_gone test (things es)
  gone_first [] once k is = absurd cc
  gone_first ((at, None) ∷ es) (none, once) k is =
      (λ i. things (cond (apart_from (at, None) es k none is i) es ((at, None) ∷ remove_entry (is_at (cmp k)) es)))
      ∙ gone_first es once k is
  gone_first ((at, Some v) ∷ es) (none, once) k is = by (test v) refl (gone_first es once k)
    where
      by : (b : Bool) → test v ≡ b
          → (first_key es ≡ Some k → things (without cmp k es) ≡ first_gone test (things es))
          → things (without cmp k ((at, Some v) ∷ es))
          ≡ (if b then things es else v ∷ first_gone test (things es))
      by true passes more =
          λ i. things (cond (at_first (at, Some v) es k passes is i) es
          ((at, Some v) ∷ remove_entry (is_at (cmp k)) es))
      by false fails more =
          (λ i. things (cond (apart_from (at, Some v) es k none (behind (at, Some v) es k fails is) i) es
          ((at, Some v) ∷ remove_entry (is_at (cmp k)) es)))
          ∙ ap (λ vs. v ∷ vs) (more (behind (at, Some v) es k fails is))
