-- What is found in a table of which something changed at one key.
use Rattle.std.proofs.Common.{◌≡◌, ◌∙◌, ℕ, Bool, true, false, List, [], ◌∷◌, Option, Some, None, ap, refl, sym}
use Rattle.std.proofs.Common.{arith}
use Rattle.std.specs.Prelude.{cond, eqb, is_some, option_map, if◌then◌else◌}
use Rattle.std.specs.BTreeMap.{insert_entry, is_at}
use Rattle.std.specs.Map.{keys_of, lookup, set_value}
use Rattle.std.specs.Option.{option_and_then, option_map_or}
use Rattle.std.specs.Ordering.{is_eq, match_ordering, nat_cmp}
use Rattle.std.specs.declared.cmp.Ordering.{Ordering}
use Rattle.std.specs.declared.cmp.Ordering.TheVariants.{Equal, Greater, Less}
use Rattle.std.proofs.lemmas.Bool.{eqb-true, true≢false}
use Rattle.std.proofs.lemmas.Bool.Decides.{nat_tests}
use Rattle.std.proofs.lemmas.Map.{keys-set_value}
use Rattle.bosh_records.specs.Table.{altered, changed, each_thing, found, thing_in, with_room, without}
use Rattle.laws_stands.specs.Once.{IsOnce}

-- keys that compare as equal are one
abbrev pub TellsKeys : {K : Type 0} → (K → K → Ordering) → Type 0
TellsKeys {K = K} cmp = (a b : K) → is_at (cmp a) b ≡ true → a ≡ b

pub nat_at : (a b : ℕ) → is_at (nat_cmp a) b ≡ eqb a b
nat_at a b = grind (arith, nat_tests)

pub nat_keys : TellsKeys nat_cmp
nat_keys a b is = eqb-true a b (sym (nat_at a b) ∙ is)

module _ {K X : Type 0} (cmp : K → K → Ordering) (tells : TellsKeys cmp) (key : K) (change : X → X) where
  abbrev by_first : Bool → K → X → List (K × X) → List (K × X)
  by_first b at x es =
      option_map_or (λ it. cond b ((at, change it) ∷ es) ((at, x) ∷ set_value (is_at (cmp key)) es (change it)))
      (cond b (Some x) (lookup (is_at (cmp key)) es)) ((at, x) ∷ es)

  -- an entry at another key stays
  skipped : (at : K) (x : X) (es : List (K × X)) → by_first false at x es ≡ (at, x) ∷ altered cmp key change es
  skipped at x es = by (lookup (is_at (cmp key)) es)
    where
      by : (o : Option X) → option_map_or (λ it. (at, x) ∷ set_value (is_at (cmp key)) es (change it)) o
          ((at, x) ∷ es)
          ≡ (at, x) ∷ option_map_or (λ it. set_value (is_at (cmp key)) es (change it)) o es
      by (Some it) = refl
      by None = refl

  -- something else at the key, and nothing elsewhere
  pub found_altered : (es : List (K × X)) (k : K)
      → found cmp (altered cmp key change es) k ≡ (if is_at (cmp key) k then option_map change (found cmp es k)
      else found cmp es k)
  found_altered [] k = by (is_at (cmp key) k)
    where
      by : (b : Bool) → found cmp (altered cmp key change []) k
          ≡ (if b then option_map change (found cmp [] k) else found cmp [] k)
      by true = refl
      by false = refl
  found_altered (e ∷ es) k = first (is_at (cmp key) e.0) refl (found_altered es k)
    where
      there : (b c : Bool) → is_at (cmp key) e.0 ≡ true → is_at (cmp k) e.0 ≡ b → is_at (cmp key) k ≡ c
          → cond b (Some (change e.1)) (lookup (is_at (cmp k)) es)
          ≡ (if c then option_map change (cond b (Some e.1) (lookup (is_at (cmp k)) es)) else cond b (Some e.1)
          (lookup (is_at (cmp k)) es))
      there true true one here same = refl
      there false false one here same = refl
      there true false one here same =
          absurd (true≢false (sym (ap (λ z. is_at (cmp key) z) (tells k e.0 here) ∙ one) ∙ same))
      there false true one here same =
          absurd (true≢false (sym (ap (λ z. is_at (cmp z) e.0) (sym (tells key k same)) ∙ one) ∙ here))

      other : (b c : Bool) → is_at (cmp key) e.0 ≡ false → is_at (cmp k) e.0 ≡ b → is_at (cmp key) k ≡ c
          → found cmp (altered cmp key change es) k
          ≡ (if c then option_map change (found cmp es k) else found cmp es k)
          → cond b (Some e.1) (found cmp (altered cmp key change es) k)
          ≡ (if c then option_map change (cond b (Some e.1) (found cmp es k)) else cond b (Some e.1)
          (found cmp es k))
      other true false another here same more = refl
      other true true another here same more =
          absurd (true≢false (sym same ∙ ap (λ z. is_at (cmp key) z) (tells k e.0 here) ∙ another))
      other false c another here same more = more

      at_first : (b : Bool) → is_at (cmp key) e.0 ≡ b
          → (found cmp (altered cmp key change es) k ≡ (if is_at (cmp key) k then option_map change (found cmp es k)
          else found cmp es k))
          → found cmp (by_first b e.0 e.1 es) k
          ≡ (if is_at (cmp key) k then option_map change (found cmp (e ∷ es) k) else found cmp (e ∷ es) k)
      at_first true one more = there (is_at (cmp k) e.0) (is_at (cmp key) k) one refl refl
      at_first false another more = ap (λ xs. found cmp xs k) (skipped e.0 e.1 es)
          ∙ other (is_at (cmp k) e.0) (is_at (cmp key) k) another refl refl more

      first : (b : Bool) → is_at (cmp key) e.0 ≡ b
          → found cmp (altered cmp key change es) k ≡ (if is_at (cmp key) k then option_map change (found cmp es k)
          else found cmp es k)
          → found cmp (altered cmp key change (e ∷ es)) k
          ≡ (if is_at (cmp key) k then option_map change (found cmp (e ∷ es) k) else found cmp (e ∷ es) k)
      first b is more = (λ i. found cmp (by_first (is i) e.0 e.1 es) k) ∙ at_first b is more

-- .. in a table whose places may be free
pub thing_changed : {K V : Type 0} (cmp : K → K → Ordering) (tells : TellsKeys cmp) (key : K) (change : V → V)
    (places : List (K × Option V)) (k : K)
    → thing_in cmp (changed cmp key change places) k
    ≡ (if is_at (cmp key) k then option_map change (thing_in cmp places k) else thing_in cmp places k)
thing_changed cmp tells key change places k =
    ap (option_and_then (λ place. place)) (found_altered cmp tells key (option_map change) places k)
    ∙ by (is_at (cmp key) k) (found cmp places k)
  where
    by : (b : Bool) (o : Option (Option _))
        → option_and_then (λ place. place) (if b then option_map (option_map change) o else o)
        ≡ (if b then option_map change (option_and_then (λ place. place) o) else option_and_then (λ place. place) o)
    by true (Some (Some v)) = refl
    by true (Some None) = refl
    by true None = refl
    by false o = refl

-- no place for a key any more, where it stood once
pub found_without : {K X : Type 0} (cmp : K → K → Ordering) (tells : TellsKeys cmp) (key : K) (es : List (K × X))
    → IsOnce cmp es → (k : K)
    → found cmp (without cmp key es) k ≡ (if is_at (cmp key) k then None else found cmp es k)
found_without {K} {X} cmp tells key [] once k = by (is_at (cmp key) k) None refl
  where
    by : (b : Bool) (o : Option X) → o ≡ None → o ≡ (if b then None else o)
    by true o is = is
    by false o is = refl
found_without {K} {X} cmp tells key (e ∷ es) (none, once) k = by (is_at (cmp key) e.0) (is_at (cmp k) e.0)
    (is_at (cmp key) k) refl refl refl (found_without cmp tells key es once k)
  where
    by : (a b c : Bool) → is_at (cmp key) e.0 ≡ a → is_at (cmp k) e.0 ≡ b → is_at (cmp key) k ≡ c
        → found cmp (without cmp key es) k ≡ (if is_at (cmp key) k then None else found cmp es k)
        → found cmp (cond (is_at (cmp key) e.0) es (e ∷ without cmp key es)) k
        ≡ (if is_at (cmp key) k then None else cond (is_at (cmp k) e.0) (Some e.1) (found cmp es k))
    by true b true here at same more =
        (λ i. found cmp (cond (here i) es (e ∷ without cmp key es)) k)
        ∙ ap (found cmp es) (sym (tells key k same) ∙ tells key e.0 here) ∙ none
        ∙ (λ i. if sym same i then None else cond (is_at (cmp k) e.0) (Some e.1) (found cmp es k))
    by true true false here at other more =
        absurd (true≢false (sym (ap (is_at (cmp key)) (tells k e.0 at) ∙ here) ∙ other))
    by true false false here away other more =
        (λ i. found cmp (cond (here i) es (e ∷ without cmp key es)) k)
        ∙ (λ i. if sym other i then None else cond (sym away i) (Some e.1) (found cmp es k))
    by false true true there at same more =
        absurd (true≢false (sym same ∙ ap (is_at (cmp key)) (tells k e.0 at) ∙ there))
    by false true false there at other more =
        (λ i. found cmp (cond (there i) es (e ∷ without cmp key es)) k)
        ∙ (λ i. cond (at i) (Some e.1) (found cmp (without cmp key es) k))
        ∙ (λ i. if sym other i then None else cond (sym at i) (Some e.1) (found cmp es k))
    by false false c there away same more =
        (λ i. found cmp (cond (there i) es (e ∷ without cmp key es)) k)
        ∙ (λ i. cond (away i) (Some e.1) (found cmp (without cmp key es) k))
        ∙ more
        ∙ (λ i. if is_at (cmp key) k then None else cond (sym away i) (Some e.1) (found cmp es k))

-- ---- the same keys

pub altered_keys : {K X : Type 0} (cmp : K → K → Ordering) (key : K) (change : X → X) (es : List (K × X))
    → keys_of (altered cmp key change es) ≡ keys_of es
altered_keys {K} {X} cmp key change es = by (lookup (is_at (cmp key)) es)
  where
    by : (o : Option X)
        → keys_of (option_map_or (λ it. set_value (is_at (cmp key)) es (change it)) o es) ≡ keys_of es
    by (Some it) = keys-set_value (is_at (cmp key)) es (change it)
    by None = refl

pub each_keys : {K V : Type 0} (change : V → V) (places : List (K × Option V))
    → keys_of (each_thing change places) ≡ keys_of places
each_keys change [] = refl
each_keys change (e ∷ places) = λ i. e.0 ∷ each_keys change places i

-- ---- room for a key that does not stand there

none_there : {X : Type 0} (b : Bool) (x : X) (o : Option X) → cond b (Some x) o ≡ None → (b ≡ false) × (o ≡ None)
none_there true x o is = absurd (true≢false (ap is_some is))
none_there false x o is = (refl, is)

module _ {K X : Type 0} (cmp : K → K → Ordering) (tells : TellsKeys cmp) (key : K) (first : X) where
  pub found_inserted : (es : List (K × X)) → found cmp es key ≡ None → (k : K)
      → found cmp (insert_entry cmp es key first) k ≡ cond (is_at (cmp k) key) (Some first) (found cmp es k)
  found_inserted [] none k = refl
  found_inserted (e ∷ es) none k =
      let (away, gone) = none_there (is_at (cmp key) e.0) e.1 (found cmp es key) none in
      by (cmp key e.0) refl away (found_inserted es gone k)
    where
      apart : (a b : Bool) → is_at (cmp k) e.0 ≡ a → is_at (cmp k) key ≡ b → is_at (cmp key) e.0 ≡ false
          → cond a (Some e.1) (cond b (Some first) (found cmp es k))
          ≡ cond b (Some first) (cond a (Some e.1) (found cmp es k))
      apart true true at own away =
          absurd (true≢false (sym at ∙ ap (λ z. is_at (cmp z) e.0) (tells k key own) ∙ away))
      apart true false at other away = refl
      apart false b at own away = refl

      by : (o : Ordering) → cmp key e.0 ≡ o → is_at (cmp key) e.0 ≡ false
          → found cmp (insert_entry cmp es key first) k
          ≡ cond (is_at (cmp k) key) (Some first) (found cmp es k)
          → found cmp (match_ordering o ((key, first) ∷ e ∷ es) ((e.0, first) ∷ es)
          (e ∷ insert_entry cmp es key first)) k
          ≡ cond (is_at (cmp k) key) (Some first) (found cmp (e ∷ es) k)
      by Less is away more = refl
      by Equal is away more = absurd (true≢false (sym (ap is_eq is) ∙ away))
      by Greater is away more = ap (cond (is_at (cmp k) e.0) (Some e.1)) more
          ∙ apart (is_at (cmp k) e.0) (is_at (cmp k) key) refl refl away

  -- the other places stay
  pub found_roomy : (es : List (K × X)) (k : K) → is_some (found cmp es k) ≡ true
      → is_some (found cmp (with_room cmp key first es) k) ≡ true
  found_roomy es k there = by (found cmp es key) refl
    where
      more : (b : Bool) → is_some (cond b (Some first) (found cmp es k)) ≡ true
      more true = refl
      more false = there

      by : (o : Option X) → found cmp es key ≡ o
          → is_some (found cmp (if is_some o then es else insert_entry cmp es key first) k) ≡ true
      by (Some it) is = there
      by None is = ap is_some (found_inserted es is k) ∙ more (is_at (cmp k) key)

  -- there is a place for it from then on
  pub there_roomy : (es : List (K × X)) → is_at (cmp key) key ≡ true
      → is_some (found cmp (with_room cmp key first es) key) ≡ true
  there_roomy es own = by (found cmp es key) refl
    where
      by : (o : Option X) → found cmp es key ≡ o
          → is_some (found cmp (if is_some o then es else insert_entry cmp es key first) key) ≡ true
      by (Some it) is = ap is_some is
      by None is = ap is_some (found_inserted es is key)
          ∙ (λ i. is_some (cond (own i) (Some first) (found cmp es key)))
