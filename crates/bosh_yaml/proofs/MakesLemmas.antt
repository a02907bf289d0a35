-- Events that make a tree, wherever it stands: they build it, nest as deep as it does, and repeat a key where it does, and only there.
use Rattle.std.proofs.Common.{◌≡◌, ℕ, suc, ◌+◌, ◌-◌, max, Bool as Truth, true, false, true≢false, ◌⊎◌, inl, inr, List, [], ◌∷◌, ◌++◌, Some, None, Result, Ok, append_assoc, append-nil, refl, ap, sym, ◌∙◌, subst, arith}
use Rattle.bosh_yaml.specs.declared.build.Open.{Open}
use Rattle.bosh_yaml.specs.declared.build.Open.TheVariants.{List as ListOf, Map as MapOf, Entry as EntryOf}
use Rattle.bosh_yaml.specs.declared.event.Event.{Event}
use Rattle.bosh_yaml.specs.declared.event.Event.TheVariants.{Scalar, OpenList, OpenMap, Key, Close}
use Rattle.bosh_yaml.specs.declared.fault.ReadFault.{ReadFault}
use Rattle.bosh_yaml.specs.declared.plain.Leaf.{Leaf}
use Rattle.bosh_yaml.specs.declared.plain.Leaf.TheVariants.{Null, Bool, Int, Text}
use Rattle.bosh_yaml.specs.Limits.{depth, depth_all, depth_keyed, HasEachKeyOnce, HaveEachKeyOnce, KeysAreNew}
use Rattle.bosh_yaml.specs.Nodes.{Keys, no_keys, with_new, line_or, tree_from, nesting, open_after, line_of_repeat, with_value}
use Rattle.bosh_yaml.specs.Result.{◌>>=◌}
use Rattle.bosh_yaml.specs.Scalar.{leaf_tree}
use Rattle.bosh_yaml.specs.Tree.{Tree, list, map, trees_of, fields_of}
use Rattle.bosh_yaml.proofs.NestingLemmas.{nesting_at_least}

-- what events make behind a value
abbrev pub made_with : Tree → List Open → List Event → Result Tree ReadFault
made_with t all rest = with_value t all >>= λ next. tree_from next.0 next.1 rest

abbrev pub Builds : List Event → Tree → Type 0
Builds events t = (all : List Open) (rest : List Event) → tree_from None all (events ++ rest) ≡ made_with t all rest

abbrev pub Nests : List Event → ℕ → Type 0
Nests events deep = (n : ℕ) (rest : List Event) → nesting n (events ++ rest) ≡ max (n + deep) (nesting n rest)

abbrev pub RepeatsNone : List Event → Type 0
RepeatsNone events = (all : List Keys) (rest : List Event) → line_of_repeat all (events ++ rest) ≡ line_of_repeat all rest

abbrev pub RepeatsOne : List Event → Type 0
RepeatsOne events = (all : List Keys) (rest : List Event) → (line : ℕ) × (line_of_repeat all (events ++ rest) ≡ Some line)

-- events that repeat a key where this holds not of what they make, and none where it does
abbrev pub Tells : List Event → Type 0 → Type 0
Tells events once = (once × RepeatsNone events) ⊎ ((once → ⊥) × RepeatsOne events)

abbrev pub Makes : List Event → Tree → Type 0
Makes events t = Builds events t × Nests events (depth t) × Tells events (HasEachKeyOnce t)

-- events that add items to an open list
abbrev pub AddsItems : List Event → List Tree → Type 0
AddsItems events ts = (before : List Tree) (all : List Open) (rest : List Event) → tree_from None (ListOf before ∷ all) (events ++ rest) ≡ tree_from None (ListOf (before ++ ts) ∷ all) rest

abbrev pub MakesItems : List Event → List Tree → Type 0
MakesItems events ts = AddsItems events ts × Nests events (depth_all (trees_of ts)) × Tells events (HaveEachKeyOnce (trees_of ts))

-- the keys of a map with those of more entries
abbrev pub with_keys : Keys → List (List ℕ × Tree) → Keys
with_keys keys [] = keys
with_keys keys (p ∷ ps) = with_keys (with_new keys p.0) ps

abbrev pub RepeatsNoKey : List Event → Keys → List (List ℕ × Tree) → Type 0
RepeatsNoKey events keys ps = (all : List Keys) (rest : List Event) → line_of_repeat (keys ∷ all) (events ++ rest) ≡ line_of_repeat (with_keys keys ps ∷ all) rest

abbrev pub RepeatsKey : List Event → Keys → Type 0
RepeatsKey events keys = (all : List Keys) (rest : List Event) → (line : ℕ) × (line_of_repeat (keys ∷ all) (events ++ rest) ≡ Some line)

abbrev pub TellsKeys : List Event → List (List ℕ × Tree) → Type 0
TellsKeys events ps = (keys : Keys) → (KeysAreNew keys (fields_of ps) × RepeatsNoKey events keys ps) ⊎ ((KeysAreNew keys (fields_of ps) → ⊥) × RepeatsKey events keys)

-- events that add entries to an open map
abbrev pub AddsEntries : List Event → List (List ℕ × Tree) → Type 0
AddsEntries events ps = (before : List (List ℕ × Tree)) (all : List Open) (rest : List Event) → tree_from None (MapOf before ∷ all) (events ++ rest) ≡ tree_from None (MapOf (before ++ ps) ∷ all) rest

abbrev pub MakesEntries : List Event → List (List ℕ × Tree) → Type 0
MakesEntries events ps = AddsEntries events ps × Nests events (depth_keyed (fields_of ps)) × TellsKeys events ps

leaf_depth : (value : Leaf) → depth (leaf_tree value) ≡ 0
leaf_depth Null = refl
leaf_depth (Bool b) = refl
leaf_depth (Int n) = refl
leaf_depth (Text s) = refl

leaf_once : (value : Leaf) → HasEachKeyOnce (leaf_tree value)
leaf_once Null = tt
leaf_once (Bool b) = tt
leaf_once (Int n) = tt
leaf_once (Text s) = tt

nests_none : Nests [] 0
nests_none n rest = let deep = nesting_at_least n rest in omega arith

nests_append : (es fs : List Event) (d e : ℕ) → Nests es d → Nests fs e → Nests (es ++ fs) (max d e)
nests_append es fs d e h k n rest =
    let both : max (n + d) (max (n + e) (nesting n rest)) ≡ max (n + max d e) (nesting n rest) = omega arith in
    ap (λ es. nesting n es) (append_assoc es fs rest) ∙ h n (fs ++ rest) ∙ ap (λ m. max (n + d) m) (k n rest) ∙ both

nests_within : (event : Event) (es : List Event) (d : ℕ) → ((n : ℕ) → open_after n event ≡ n + 1) → Nests es d → Nests (event ∷ (es ++ Close ∷ [])) (suc d)
nests_within event es d o h n rest =
    let deep = nesting_at_least n rest in
    let back : n + 1 - 1 ≡ n = omega arith in
    let all : max n (max (n + 1 + d) (max (n + 1) (nesting n rest))) ≡ max (n + suc d) (nesting n rest) = omega arith in
    ap (λ m. max n (nesting m ((es ++ Close ∷ []) ++ rest))) (o n)
    ∙ ap (λ es. max n (nesting (n + 1) es)) (append_assoc es (Close ∷ []) rest)
    ∙ ap (λ m. max n m) (h (n + 1) (Close ∷ rest))
    ∙ ap (λ m. max n (max (n + 1 + d) (max (n + 1) (nesting m rest)))) back
    ∙ all

nests_scalar : (value : Leaf) → Nests (Scalar value ∷ []) 0
nests_scalar value n rest = omega arith

pub makes_scalar : (value : Leaf) → Makes (Scalar value ∷ []) (leaf_tree value)
makes_scalar value =
    let none = leaf_depth value in
    ((λ all rest. refl), subst (λ d. Nests (Scalar value ∷ []) d) (sym none) (nests_scalar value), inl (leaf_once value, (λ all rest. refl)))

pub no_items : MakesItems [] []
no_items = ((λ before all rest. ap (λ ts. tree_from None (ListOf ts ∷ all) rest) (sym (append-nil before))), nests_none, inl (tt, (λ all rest. refl)))

pub no_entries : MakesEntries [] []
no_entries = ((λ before all rest. ap (λ ps. tree_from None (MapOf ps ∷ all) rest) (sym (append-nil before))), nests_none, (λ keys. inl (tt, (λ all rest. refl))))

repeats_later : (es fs rest : List Event) (all : List Keys) → ((line : ℕ) × (line_of_repeat all (es ++ (fs ++ rest)) ≡ Some line)) → (line : ℕ) × (line_of_repeat all ((es ++ fs) ++ rest) ≡ Some line)
repeats_later es fs rest all found = (found.0, ap (λ es. line_of_repeat all es) (append_assoc es fs rest) ∙ found.1)

tells_append : (es fs : List Event) (one more : Type 0) → Tells es one → Tells fs more → Tells (es ++ fs) (one × more)
tells_append es fs one more (inl h) (inl k) =
    inl ((h.0, k.0), (λ all rest. ap (λ es. line_of_repeat all es) (append_assoc es fs rest) ∙ h.1 all (fs ++ rest) ∙ k.1 all rest))
tells_append es fs one more (inl h) (inr k) = inr (
  (λ both. k.0 both.1),
  (λ all rest. let found = k.1 all rest in repeats_later es fs rest all (found.0, h.1 all (fs ++ rest) ∙ found.1)),
)
tells_append es fs one more (inr h) k = inr ((λ both. h.0 both.0), (λ all rest. repeats_later es fs rest all (h.1 all (fs ++ rest))))

pub more_items : (es fs : List Event) (t : Tree) (ts : List Tree) → Makes es t → MakesItems fs ts → MakesItems (es ++ fs) (t ∷ ts)
more_items es fs t ts h k = (
  (λ before all rest. ap (λ es. tree_from None (ListOf before ∷ all) es) (append_assoc es fs rest)
      ∙ h.0 (ListOf before ∷ all) (fs ++ rest)
      ∙ k.0 (before ++ t ∷ []) all rest
      ∙ ap (λ ts. tree_from None (ListOf ts ∷ all) rest) (append_assoc before (t ∷ []) ts)),
  nests_append es fs (depth t) (depth_all (trees_of ts)) h.1 k.1,
  tells_append es fs (HasEachKeyOnce t) (HaveEachKeyOnce (trees_of ts)) h.2 k.2,
)

nests_key : (line : ℕ) (key : List ℕ) (es : List Event) (d : ℕ) → Nests es d → Nests (Key line key ∷ es) d
nests_key line key es d h n rest = let deep = nesting_at_least n rest in let all : max n (max (n + d) (nesting n rest)) ≡ max (n + d) (nesting n rest) = omega arith in ap (λ m. max n m) (h n rest) ∙ all

-- behind a new key, a key stands twice
key_passed : (line : ℕ) (es fs rest : List Event) (key : List ℕ) (keys : Keys) (all : List Keys) → keys key ≡ false
    → ((found : ℕ) × (line_of_repeat (with_new keys key ∷ all) (es ++ (fs ++ rest)) ≡ Some found)) → (found : ℕ) × (line_of_repeat (keys ∷ all) ((Key line key ∷ (es ++ fs)) ++ rest) ≡ Some found)
key_passed line es fs rest key keys all is found = (
  found.0,
  ap (λ b. line_or b line (line_of_repeat (with_new keys key ∷ all) ((es ++ fs) ++ rest))) is ∙ ap (λ es. line_of_repeat (with_new keys key ∷ all) es) (append_assoc es fs rest) ∙ found.1,
)

-- a key and its value, before more entries
tells_key : (line : ℕ) (es fs : List Event) (key : List ℕ) (t : Tree) (ps : List (List ℕ × Tree)) (keys : Keys) (known : Truth) → keys key ≡ known → Tells es (HasEachKeyOnce t)
    → (KeysAreNew (with_new keys key) (fields_of ps) × RepeatsNoKey fs (with_new keys key) ps) ⊎ ((KeysAreNew (with_new keys key) (fields_of ps) → ⊥) × RepeatsKey fs (with_new keys key))
    → (KeysAreNew keys (fields_of ((key, t) ∷ ps)) × RepeatsNoKey (Key line key ∷ (es ++ fs)) keys ((key, t) ∷ ps)) ⊎ ((KeysAreNew keys (fields_of ((key, t) ∷ ps)) → ⊥) × RepeatsKey (Key line key ∷ (es ++ fs)) keys)
tells_key line es fs key t ps keys true is h k = inr (
  (λ new. true≢false (sym is ∙ new.0)),
  (λ all rest. (line, ap (λ b. line_or b line (line_of_repeat (with_new keys key ∷ all) ((es ++ fs) ++ rest))) is)),
)
tells_key line es fs key t ps keys false is (inl h) (inl k) = inl (
  (is, h.0, k.0),
  (λ all rest. ap (λ b. line_or b line (line_of_repeat (with_new keys key ∷ all) ((es ++ fs) ++ rest))) is
      ∙ ap (λ es. line_of_repeat (with_new keys key ∷ all) es) (append_assoc es fs rest)
      ∙ h.1 (with_new keys key ∷ all) (fs ++ rest)
      ∙ k.1 all rest),
)
tells_key line es fs key t ps keys false is (inl h) (inr k) = inr (
  (λ new. k.0 new.2),
  (λ all rest. let found = k.1 all rest in key_passed line es fs rest key keys all is (found.0, h.1 (with_new keys key ∷ all) (fs ++ rest) ∙ found.1)),
)
tells_key line es fs key t ps keys false is (inr h) k = inr (
  (λ new. h.0 new.1),
  (λ all rest. key_passed line es fs rest key keys all is (h.1 (with_new keys key ∷ all) (fs ++ rest))),
)

pub more_entries : (line : ℕ) (es fs : List Event) (key : List ℕ) (t : Tree) (ps : List (List ℕ × Tree)) → Makes es t → MakesEntries fs ps → MakesEntries (Key line key ∷ (es ++ fs)) ((key, t) ∷ ps)
more_entries line es fs key t ps h k = (
  (λ before all rest. ap (λ es. tree_from None (EntryOf before key ∷ all) es) (append_assoc es fs rest)
      ∙ h.0 (EntryOf before key ∷ all) (fs ++ rest)
      ∙ k.0 (before ++ (key, t) ∷ []) all rest
      ∙ ap (λ ps. tree_from None (MapOf ps ∷ all) rest) (append_assoc before ((key, t) ∷ []) ps)),
  nests_key line key (es ++ fs) (max (depth t) (depth_keyed (fields_of ps))) (nests_append es fs (depth t) (depth_keyed (fields_of ps)) h.1 k.1),
  (λ keys. tells_key line es fs key t ps keys (keys key) refl h.2 (k.2 (with_new keys key))),
)

closed : (es rest : List Event) (all : List Keys) → line_of_repeat (no_keys ∷ all) ((es ++ Close ∷ []) ++ rest) ≡ line_of_repeat (no_keys ∷ all) (es ++ Close ∷ rest)
closed es rest all = ap (λ es. line_of_repeat (no_keys ∷ all) es) (append_assoc es (Close ∷ []) rest)

tells_list : (es : List Event) (once : Type 0) → Tells es once → Tells (OpenList ∷ (es ++ Close ∷ [])) once
tells_list es once (inl h) = inl (h.0, (λ all rest. closed es rest all ∙ h.1 (no_keys ∷ all) (Close ∷ rest)))
tells_list es once (inr h) = inr (h.0, (λ all rest. let found = h.1 (no_keys ∷ all) (Close ∷ rest) in (found.0, closed es rest all ∙ found.1)))

tells_map : (es : List Event) (ps : List (List ℕ × Tree)) → (KeysAreNew no_keys (fields_of ps) × RepeatsNoKey es no_keys ps) ⊎ ((KeysAreNew no_keys (fields_of ps) → ⊥) × RepeatsKey es no_keys)
    → Tells (OpenMap ∷ (es ++ Close ∷ [])) (HasEachKeyOnce (map (fields_of ps)))
tells_map es ps (inl h) = inl (h.0, (λ all rest. closed es rest all ∙ h.1 all (Close ∷ rest)))
tells_map es ps (inr h) = inr (h.0, (λ all rest. let found = h.1 all (Close ∷ rest) in (found.0, closed es rest all ∙ found.1)))

pub makes_list : (es : List Event) (ts : List Tree) → MakesItems es ts → Makes (OpenList ∷ (es ++ Close ∷ [])) (list (trees_of ts))
makes_list es ts h = (
  (λ all rest. ap (λ es. tree_from None (ListOf [] ∷ all) es) (append_assoc es (Close ∷ []) rest) ∙ h.0 [] all (Close ∷ rest)),
  nests_within OpenList es (depth_all (trees_of ts)) (λ n. refl) h.1,
  tells_list es (HaveEachKeyOnce (trees_of ts)) h.2,
)

pub makes_map : (es : List Event) (ps : List (List ℕ × Tree)) → MakesEntries es ps → Makes (OpenMap ∷ (es ++ Close ∷ [])) (map (fields_of ps))
makes_map es ps h = (
  (λ all rest. ap (λ es. tree_from None (MapOf [] ∷ all) es) (append_assoc es (Close ∷ []) rest) ∙ h.0 [] all (Close ∷ rest)),
  nests_within OpenMap es (depth_keyed (fields_of ps)) (λ n. refl) h.1,
  tells_map es ps (h.2 no_keys),
)

-- where nothing is open, that tree is the whole
pub makes_whole : (es : List Event) (t : Tree) → Makes es t → tree_from None [] es ≡ Ok t
makes_whole es t h = ap (λ es. tree_from None [] es) (sym (append-nil es)) ∙ h.0 [] []

pub nests_whole : (es : List Event) (t : Tree) → Makes es t → nesting 0 es ≡ depth t
nests_whole es t h =
    let all : max (0 + depth t) 0 ≡ depth t = omega arith in
    ap (λ es. nesting 0 es) (sym (append-nil es)) ∙ h.1 0 [] ∙ all

pub repeats_whole : (es : List Event) (t : Tree) → Makes es t → HasEachKeyOnce t → line_of_repeat [] es ≡ None
repeats_whole es t h once = by h.2
  where
    by : Tells es (HasEachKeyOnce t) → line_of_repeat [] es ≡ None
    by (inl none) = ap (λ es. line_of_repeat [] es) (sym (append-nil es)) ∙ none.1 [] []
    by (inr found) = absurd (found.0 once)

pub repeats_in_whole : (es : List Event) (t : Tree) → Makes es t → (HasEachKeyOnce t → ⊥) → (line : ℕ) × (line_of_repeat [] es ≡ Some line)
repeats_in_whole es t h twice = by h.2
  where
    by : Tells es (HasEachKeyOnce t) → (line : ℕ) × (line_of_repeat [] es ≡ Some line)
    by (inl none) = absurd (twice none.0)
    by (inr found) = let here = found.1 [] [] in (here.0, ap (λ es. line_of_repeat [] es) (sym (append-nil es)) ∙ here.1)
