-- A flow form that is spelled is read: its signs stand in the bytes, and they make its tree.
use Rattle.std.proofs.Common.{◌≡◌, ◌≤◌, ◌<◌, ℕ, zero, suc, Bool, true, false, ◌&&◌, ◌||◌, List, [], ◌∷◌, ◌++◌, Some, None, Result, Ok, Err, length, append_assoc, append-nil, refl, ap, sym, ◌∙◌, subst, arith, if◌then◌else◌, ◌==◌}
use Rattle.bosh_yaml.specs.declared.bare.Place.TheVariants.{Flow}
use Rattle.bosh_yaml.specs.declared.event.Event.{Event}
use Rattle.bosh_yaml.specs.declared.event.Event.TheVariants as event
use Rattle.bosh_yaml.specs.declared.fault.ReadFault.{ReadFault}
use Rattle.bosh_yaml.specs.declared.flow.Nest.{Nest}
use Rattle.bosh_yaml.specs.declared.flow.Nest.TheVariants.{BeforeForm, AfterForm, BeforeItem, AfterItem, BeforeKey, AfterKey, AfterEntry}
use Rattle.bosh_yaml.specs.declared.flow.Sign.{Sign}
use Rattle.bosh_yaml.specs.declared.flow.Sign.TheVariants.{OpenList, OpenMap, CloseList, CloseMap, Comma, Scalar, Key}
use Rattle.bosh_yaml.specs.declared.plain.Leaf.TheVariants as leaf
use Rattle.bosh_yaml.specs.declared.word.Word.{Word}
use Rattle.bosh_yaml.specs.Flow.{ends_key, word_sign, sign_of, sign_at, sign_or_word, signs_of, after_value, form, form_of}
use Rattle.bosh_yaml.specs.Lines.{begins, is_comment, is_end, skip_spaces}
use Rattle.bosh_yaml.specs.Result.{◌>>=◌, with_front}
use Rattle.bosh_yaml.specs.Scalar.{leaf_tree}
use Rattle.bosh_yaml.specs.SpelledWord.{SpellsScalar, IsKey}
use Rattle.bosh_yaml.specs.SpelledFlow.{SpellsFlow, SpellsFlowItems, SpellsFlowEntries, SpellsFlowEntry, scalar, sequence, mapping, no_item, last_item, item, no_entry, last_entry, entry, bare_key, valued_key}
use Rattle.bosh_yaml.specs.Tree.{Tree, null, list, map, trees_of, fields_of}
use Rattle.bosh_yaml.specs.Word.{word_at, leaf_of}
use Rattle.bosh_yaml.proofs.ResultLemmas.{with_front_twice}
use Rattle.bosh_yaml.proofs.SpelledWordLemmas.{word_spelled, key_spelled, word_shorter, word_opens, OpensWord, Opens}
use Rattle.bosh_yaml.proofs.MakesLemmas.{Makes, MakesItems, MakesEntries, makes_scalar, makes_list, makes_map, no_items, more_items, no_entries, more_entries}

-- the signs that stand in the bytes, and what is left of them
abbrev pub Stand : ℕ → List Sign → List ℕ → List ℕ → Type 0
Stand line [] bytes rest = bytes ≡ rest
Stand line (sign ∷ signs) bytes rest =
    (after : List ℕ) × (is_end bytes ≡ false) × (sign_at line (skip_spaces bytes) ≡ Ok (sign, after)) × (length after < length bytes) × Stand line signs after rest

stand_append : (line : ℕ) (a b : List Sign) (bytes middle rest : List ℕ) → Stand line a bytes middle → Stand line b middle rest → Stand line (a ++ b) bytes rest
stand_append line [] b bytes middle rest h k = subst (λ bs. Stand line b bs rest) (sym h) k
stand_append line (sign ∷ a) b bytes middle rest h k = (h.0, h.1, h.2, h.3, stand_append line a b h.0 middle rest h.4 k)

-- the signs are turned into events, and a place into another
abbrev pub Turns : ℕ → Nest → List Sign → List Event → Nest → Type 0
Turns line before signs events after =
    (nests : List Nest) (more : List Sign) → form line (before ∷ nests) (signs ++ more) ≡ with_front events (form line (after ∷ nests) more)

turns_more : (line : ℕ) (n m o : Nest) (a b : List Sign) (es fs : List Event) → Turns line n a es m → Turns line m b fs o → Turns line n (a ++ b) (es ++ fs) o
turns_more line n m o a b es fs h k nests more =
    ap (λ signs. form line (n ∷ nests) signs) (append_assoc a b more)
    ∙ h nests (b ++ more)
    ∙ ap (λ read. with_front es read) (k nests more)
    ∙ sym (with_front_twice es fs (form line (o ∷ nests) more))

-- a value of a flow form that is read: its signs, and the events that make it
abbrev pub Value : ℕ → List ℕ → Tree → List ℕ → Type 0
Value line bytes t rest =
    (signs : List Sign) × (events : List Event) × Stand line signs bytes rest × ((before after : Nest) → after_value line before ≡ Ok after → Turns line before signs events after) × Makes events t

-- items up to the `]`, and entries up to the `}`
abbrev pub ItemsRead : ℕ → List ℕ → List Tree → List ℕ → Type 0
ItemsRead line bytes ts rest =
    (signs : List Sign) × (events : List Event) × Stand line signs bytes rest × ((nests : List Nest) (more : List Sign) → form line (BeforeItem ∷ nests) (signs ++ more) ≡ with_front (events ++ event.Close ∷ []) (form line nests more)) × MakesItems events ts

abbrev pub EntriesRead : ℕ → List ℕ → List (List ℕ × Tree) → List ℕ → Type 0
EntriesRead line bytes ps rest =
    (signs : List Sign) × (events : List Event) × Stand line signs bytes rest × ((nests : List Nest) (more : List Sign) → form line (BeforeKey ∷ nests) (signs ++ more) ≡ with_front (events ++ event.Close ∷ []) (form line nests more)) × MakesEntries events ps

-- where a sign stands behind spaces, that is no end
not_comment : (bs : List ℕ) (b : ℕ) (rest : List ℕ) → skip_spaces bs ≡ b ∷ rest → (b == 35) ≡ false → is_end bs ≡ false
not_comment [] b rest h n = cc
not_comment (c ∷ cs) b rest h n = let both = spaced c cs b rest n in both h
  where
    spaced : (c : ℕ) (cs : List ℕ) (b : ℕ) (rest : List ℕ) → (b == 35) ≡ false → skip_spaces (c ∷ cs) ≡ b ∷ rest → is_end (c ∷ cs) ≡ false
    spaced c cs b rest n h = by_space (c == 32) cs c b rest n h
      where
        by_space : (s : Bool) (cs : List ℕ) (c b : ℕ) (rest : List ℕ) → (b == 35) ≡ false → (if s then skip_spaces cs else c ∷ cs) ≡ b ∷ rest → (s && is_comment (skip_spaces cs)) ≡ false
        by_space false cs c b rest n h = refl
        by_space true cs c b rest n h = rw h n

skip_length : (bs : List ℕ) → length (skip_spaces bs) ≤ length bs
skip_length [] = omega arith
skip_length (b ∷ bs) = by_space (b == 32) b bs (skip_length bs)
  where
    by_space : (s : Bool) (b : ℕ) (bs : List ℕ) → length (skip_spaces bs) ≤ length bs → length (if s then skip_spaces bs else b ∷ bs) ≤ length (b ∷ bs)
    by_space true b bs h = omega arith
    by_space false b bs h = omega arith

-- a sign alone
stands_alone : (line : ℕ) (sign : Sign) (bs : List ℕ) (b : ℕ) (rest : List ℕ) → skip_spaces bs ≡ b ∷ rest → (b == 35) ≡ false → sign_of b ≡ Some sign → Stand line (sign ∷ []) bs rest
stands_alone line sign bs b rest h n s =
    let e : sign_at line (b ∷ rest) ≡ Ok (sign, rest) = ap (λ o. sign_or_word line o rest (b ∷ rest)) s in
    let no_longer = skip_length bs in
    let same : length (skip_spaces bs) ≡ length (b ∷ rest) = ap (λ t. length t) h in
    (rest, not_comment bs b rest h n, ap (λ r. sign_at line r) h ∙ e, omega arith, refl)

pub with_none : {A : Type 0} (read : Result (List A) ReadFault) → with_front [] read ≡ read
with_none (Ok xs) = refl
with_none (Err e) = refl

word_none : (b : ℕ) (bs : List ℕ) → OpensWord b bs → sign_of b ≡ None
word_none b bs o = rw (o.open_list, o.close_list, o.open_map, o.close_map, o.comma) refl

-- a word that stands behind spaces
sign_of_word : (line : ℕ) (bytes rest : List ℕ) (word : Word) → SpellsScalar Flow bytes word rest → sign_at line bytes ≡ word_sign line (word, rest)
sign_of_word line bytes rest word w = at_word line bytes rest word (word_opens Flow bytes rest word w) (word_spelled Flow line bytes rest word w)
  where
    at_word : (line : ℕ) (bytes rest : List ℕ) (word : Word) → Opens bytes → word_at Flow line bytes ≡ Ok (word, rest) → sign_at line bytes ≡ word_sign line (word, rest)
    at_word line [] rest word o e = absurd o
    at_word line (b ∷ bs) rest word o e = ap (λ s. sign_or_word line s bs (b ∷ bs)) (word_none b bs o) ∙ ap (λ read. read >>= λ word. word_sign line word) e

word_scalar : (line : ℕ) (word : Word) (rest : List ℕ) → begins 58 rest ≡ false → word_sign line (word, rest) ≡ Ok (Scalar (leaf_of word), rest)
word_scalar line word [] h = refl
word_scalar line word (b ∷ bs) h = rw h refl

word_key : (line : ℕ) (word : Word) (key rest : List ℕ) → ends_key rest ≡ true → IsKey word key → word_sign line (word, 58 ∷ rest) ≡ Ok (Key key, rest)
word_key line word key rest e k = rw (e, key_spelled line word key k) refl

-- the sign that a word stands for
word_stands : (line : ℕ) (bs bytes rest left : List ℕ) (word : Word) (sign : Sign) → skip_spaces bs ≡ bytes → SpellsScalar Flow bytes word rest → length left ≤ length rest → word_sign line (word, rest) ≡ Ok (sign, left) → Stand line (sign ∷ []) bs left
word_stands line bs bytes rest left word sign e w le s =
    let shorter = word_shorter Flow bytes rest word w in
    let no_longer = skip_length bs in
    let same : length (skip_spaces bs) ≡ length bytes = ap (λ t. length t) e in
    (left, no_end bs bytes e (word_opens Flow bytes rest word w), ap (λ b. sign_at line b) e ∙ sign_of_word line bytes rest word w ∙ s, omega arith, refl)
  where
    no_end : (bs bytes : List ℕ) → skip_spaces bs ≡ bytes → Opens bytes → is_end bs ≡ false
    no_end bs [] e o = absurd o
    no_end bs (b ∷ bytes) e o = not_comment bs b bytes e o.comment

scalar_read : (line : ℕ) (bs bytes rest : List ℕ) (word : Word) → skip_spaces bs ≡ bytes → SpellsScalar Flow bytes word rest → begins 58 rest ≡ false → Value line bs (leaf_tree (leaf_of word)) rest
scalar_read line bs bytes rest word e w n =
    (Scalar (leaf_of word) ∷ [], event.Scalar (leaf_of word) ∷ [], word_stands line bs bytes rest rest word (Scalar (leaf_of word)) e w (omega arith) (word_scalar line word rest n), (λ before after h nests more. rw h refl), makes_scalar (leaf_of word))

list_read : (line : ℕ) (bs bytes rest : List ℕ) (ts : List Tree) → skip_spaces bs ≡ 91 ∷ bytes → ItemsRead line bytes ts rest → Value line bs (list (trees_of ts)) rest
list_read line bs bytes rest ts e r = (
  OpenList ∷ r.0,
  event.OpenList ∷ (r.1 ++ event.Close ∷ []),
  stand_append line (OpenList ∷ []) r.0 bs bytes rest (stands_alone line OpenList bs 91 bytes e refl refl) r.2,
  (λ before after h nests more. rw h (ap (λ read. with_front (event.OpenList ∷ []) read) (r.3 (after ∷ nests) more) ∙ sym (with_front_twice (event.OpenList ∷ []) (r.1 ++ event.Close ∷ []) (form line (after ∷ nests) more)))),
  makes_list r.1 ts r.4,
)

map_read : (line : ℕ) (bs bytes rest : List ℕ) (ps : List (List ℕ × Tree)) → skip_spaces bs ≡ 123 ∷ bytes → EntriesRead line bytes ps rest → Value line bs (map (fields_of ps)) rest
map_read line bs bytes rest ps e r = (
  OpenMap ∷ r.0,
  event.OpenMap ∷ (r.1 ++ event.Close ∷ []),
  stand_append line (OpenMap ∷ []) r.0 bs bytes rest (stands_alone line OpenMap bs 123 bytes e refl refl) r.2,
  (λ before after h nests more. rw h (ap (λ read. with_front (event.OpenMap ∷ []) read) (r.3 (after ∷ nests) more) ∙ sym (with_front_twice (event.OpenMap ∷ []) (r.1 ++ event.Close ∷ []) (form line (after ∷ nests) more)))),
  makes_map r.1 ps r.4,
)

no_item_read : (line : ℕ) (bs rest : List ℕ) → skip_spaces bs ≡ 93 ∷ rest → ItemsRead line bs [] rest
no_item_read line bs rest e = (CloseList ∷ [], [], stands_alone line CloseList bs 93 rest e refl refl, (λ nests more. refl), no_items)

-- behind an item
abbrev AfterItemRead : ℕ → List ℕ → List Tree → List ℕ → Type 0
AfterItemRead line bytes ts rest =
    (signs : List Sign) × (events : List Event) × Stand line signs bytes rest × ((nests : List Nest) (more : List Sign) → form line (AfterItem ∷ nests) (signs ++ more) ≡ with_front (events ++ event.Close ∷ []) (form line nests more)) × MakesItems events ts

item_closed : (line : ℕ) (bs rest : List ℕ) → skip_spaces bs ≡ 93 ∷ rest → AfterItemRead line bs [] rest
item_closed line bs rest e = (CloseList ∷ [], [], stands_alone line CloseList bs 93 rest e refl refl, (λ nests more. refl), no_items)

item_comma : (line : ℕ) (bs bytes rest : List ℕ) (ts : List Tree) → skip_spaces bs ≡ 44 ∷ bytes → ItemsRead line bytes ts rest → AfterItemRead line bs ts rest
item_comma line bs bytes rest ts e r = (
  Comma ∷ r.0,
  r.1,
  stand_append line (Comma ∷ []) r.0 bs bytes rest (stands_alone line Comma bs 44 bytes e refl refl) r.2,
  (λ nests more. with_none (form line (BeforeItem ∷ nests) (r.0 ++ more)) ∙ r.3 nests more),
  r.4,
)

item_read : (line : ℕ) (bs after rest : List ℕ) (t : Tree) (ts : List Tree) → Value line bs t after → AfterItemRead line after ts rest → ItemsRead line bs (t ∷ ts) rest
item_read line bs after rest t ts v r = (
  v.0 ++ r.0,
  v.1 ++ r.1,
  stand_append line v.0 r.0 bs after rest v.2 r.2,
  (λ nests more. ap (λ signs. form line (BeforeItem ∷ nests) signs) (append_assoc v.0 r.0 more)
      ∙ v.3 BeforeItem AfterItem refl nests (r.0 ++ more)
      ∙ ap (λ read. with_front v.1 read) (r.3 nests more)
      ∙ sym (with_front_twice v.1 (r.1 ++ event.Close ∷ []) (form line nests more))
      ∙ ap (λ events. with_front events (form line nests more)) (sym (append_assoc v.1 r.1 (event.Close ∷ [])))),
  more_items v.1 r.1 t ts v.4 r.4,
)

no_entry_read : (line : ℕ) (bs rest : List ℕ) → skip_spaces bs ≡ 125 ∷ rest → EntriesRead line bs [] rest
no_entry_read line bs rest e = (CloseMap ∷ [], [], stands_alone line CloseMap bs 125 rest e refl refl, (λ nests more. refl), no_entries)

-- behind an entry, whether its value came or not
abbrev AfterEntryRead : ℕ → List ℕ → List (List ℕ × Tree) → List ℕ → Type 0
AfterEntryRead line bytes ps rest =
    (signs : List Sign) × (events : List Event) × Stand line signs bytes rest
    × ((nests : List Nest) (more : List Sign) → form line (AfterEntry ∷ nests) (signs ++ more) ≡ with_front (events ++ event.Close ∷ []) (form line nests more))
    × ((nests : List Nest) (more : List Sign) → form line (AfterKey ∷ nests) (signs ++ more) ≡ with_front (event.Scalar leaf.Null ∷ (events ++ event.Close ∷ [])) (form line nests more))
    × MakesEntries events ps

entry_closed : (line : ℕ) (bs rest : List ℕ) → skip_spaces bs ≡ 125 ∷ rest → AfterEntryRead line bs [] rest
entry_closed line bs rest e = (CloseMap ∷ [], [], stands_alone line CloseMap bs 125 rest e refl refl, (λ nests more. refl), (λ nests more. refl), no_entries)

entry_comma : (line : ℕ) (bs bytes rest : List ℕ) (ps : List (List ℕ × Tree)) → skip_spaces bs ≡ 44 ∷ bytes → EntriesRead line bytes ps rest → AfterEntryRead line bs ps rest
entry_comma line bs bytes rest ps e r = (
  Comma ∷ r.0,
  r.1,
  stand_append line (Comma ∷ []) r.0 bs bytes rest (stands_alone line Comma bs 44 bytes e refl refl) r.2,
  (λ nests more. with_none (form line (BeforeKey ∷ nests) (r.0 ++ more)) ∙ r.3 nests more),
  (λ nests more. ap (λ read. with_front (event.Scalar leaf.Null ∷ []) read) (r.3 nests more) ∙ sym (with_front_twice (event.Scalar leaf.Null ∷ []) (r.1 ++ event.Close ∷ []) (form line nests more))),
  r.4,
)

-- behind a key
abbrev AfterKeyRead : ℕ → List ℕ → Tree → List (List ℕ × Tree) → List ℕ → Type 0
AfterKeyRead line bytes t ps rest =
    (signs : List Sign) × (value : List Event) × (events : List Event) × Stand line signs bytes rest
    × ((nests : List Nest) (more : List Sign) → form line (AfterKey ∷ nests) (signs ++ more) ≡ with_front ((value ++ events) ++ event.Close ∷ []) (form line nests more))
    × Makes value t × MakesEntries events ps

null_read : (line : ℕ) (bs rest : List ℕ) (ps : List (List ℕ × Tree)) → AfterEntryRead line bs ps rest → AfterKeyRead line bs null ps rest
null_read line bs rest ps r = (r.0, event.Scalar leaf.Null ∷ [], r.1, r.2, r.4, makes_scalar leaf.Null, r.5)

value_read : (line : ℕ) (bs after rest : List ℕ) (t : Tree) (ps : List (List ℕ × Tree)) → Value line bs t after → AfterEntryRead line after ps rest → AfterKeyRead line bs t ps rest
value_read line bs after rest t ps v r = (
  v.0 ++ r.0,
  v.1,
  r.1,
  stand_append line v.0 r.0 bs after rest v.2 r.2,
  (λ nests more. ap (λ signs. form line (AfterKey ∷ nests) signs) (append_assoc v.0 r.0 more)
      ∙ v.3 AfterKey AfterEntry refl nests (r.0 ++ more)
      ∙ ap (λ read. with_front v.1 read) (r.3 nests more)
      ∙ sym (with_front_twice v.1 (r.1 ++ event.Close ∷ []) (form line nests more))
      ∙ ap (λ events. with_front events (form line nests more)) (sym (append_assoc v.1 r.1 (event.Close ∷ [])))),
  v.4,
  r.5,
)

entry_read : (line : ℕ) (bs bytes value rest : List ℕ) (word : Word) (key : List ℕ) (t : Tree) (ps : List (List ℕ × Tree)) → skip_spaces bs ≡ bytes → SpellsScalar Flow bytes word (58 ∷ value) → IsKey word key → ends_key value ≡ true → AfterKeyRead line value t ps rest → EntriesRead line bs ((key, t) ∷ ps) rest
entry_read line bs bytes value rest word key t ps e w k g r =
    let one = word_stands line bs bytes (58 ∷ value) value word (Key key) e w (omega arith) (word_key line word key value g k) in (
      Key key ∷ r.0,
      event.Key line key ∷ (r.1 ++ r.2),
      stand_append line (Key key ∷ []) r.0 bs value rest one r.3,
      (λ nests more. ap (λ read. with_front (event.Key line key ∷ []) read) (r.4 nests more) ∙ sym (with_front_twice (event.Key line key ∷ []) ((r.1 ++ r.2) ++ event.Close ∷ []) (form line nests more))),
      more_entries line r.1 r.2 key t ps r.5 r.6,
    )

-- a key ends before a `,` or `}` behind spaces
ends_before : (b : ℕ) → (b == 44 || b == 125) ≡ true → (bs rest : List ℕ) → skip_spaces bs ≡ b ∷ rest → ends_key bs ≡ true
ends_before b s [] rest e = cc
ends_before b s (c ∷ cs) rest e = by_space (c == 32) b c cs rest s refl e
  where
    by_space : (t : Bool) (b c : ℕ) (cs rest : List ℕ) → (b == 44 || b == 125) ≡ true → (c == 32) ≡ t → (if t then skip_spaces cs else c ∷ cs) ≡ b ∷ rest → ends_key (c ∷ cs) ≡ true
    by_space true b c cs rest s q e = rw q refl
    by_space false b c cs rest s q e = let same : c ≡ b = cc in rw (q, same) s

mutual
  pub flow_read : (line : ℕ) (bytes : List ℕ) (t : Tree) (rest : List ℕ) → SpellsFlow bytes t rest → (bs : List ℕ) → skip_spaces bs ≡ bytes → Value line bs t rest
  flow_read line bytes t rest (scalar by after word w n) bs e = scalar_read line bs by after word e w n
  flow_read line bytes t rest (sequence by after ts i) bs e = list_read line bs by after ts e (items_read line by ts after i)
  flow_read line bytes t rest (mapping by after ps i) bs e = map_read line bs by after ps e (entries_read line by ps after i)

  items_read : (line : ℕ) (bs : List ℕ) (ts : List Tree) (rest : List ℕ) → SpellsFlowItems bs ts rest → ItemsRead line bs ts rest
  items_read line bs ts rest (no_item by after e) = no_item_read line by after e
  items_read line bs ts rest (last_item by after left t v e) = item_read line by after left t [] (flow_read line (skip_spaces by) t after v by refl) (item_closed line after left e)
  items_read line bs ts rest (item by after more left t us v e i) = item_read line by after left t us (flow_read line (skip_spaces by) t after v by refl) (item_comma line after more left us e (items_read line more us left i))

  entries_read : (line : ℕ) (bs : List ℕ) (ps : List (List ℕ × Tree)) (rest : List ℕ) → SpellsFlowEntries bs ps rest → EntriesRead line bs ps rest
  entries_read line bs ps rest (no_entry by after e) = no_entry_read line by after e
  entries_read line bs ps rest (last_entry by value after left word key t w k v e) =
      let r = key_read line value t after v [] left (entry_closed line after left e) (ends_before 125 refl after left e) in
      entry_read line by (skip_spaces by) value left word key t [] refl w k r.0 r.1
  entries_read line bs ps rest (entry by value after more left word key t us w k v e i) =
      let r = key_read line value t after v us left (entry_comma line after more left us e (entries_read line more us left i)) (ends_before 44 refl after more e) in
      entry_read line by (skip_spaces by) value left word key t us refl w k r.0 r.1

  key_read : (line : ℕ) (bs : List ℕ) (t : Tree) (after : List ℕ) → SpellsFlowEntry bs t after → (ps : List (List ℕ × Tree)) (rest : List ℕ) → AfterEntryRead line after ps rest → ends_key after ≡ true → (ends_key bs ≡ true) × AfterKeyRead line bs t ps rest
  key_read line bs t after (bare_key by) ps rest r g = (g, null_read line by rest ps r)
  key_read line bs t after (valued_key by to u v) ps rest r g = (refl, value_read line (32 ∷ by) to rest u ps (flow_read line (skip_spaces by) u to v (32 ∷ by) refl) r)

-- the signs that stand in the bytes are all that is read up to the end
signs_read : (line most : ℕ) (signs : List Sign) (bytes rest : List ℕ) → Stand line signs bytes rest → is_end rest ≡ true → length bytes ≤ most → signs_of most line bytes ≡ Ok signs
signs_read line zero [] bytes rest h e n = let all : is_end bytes ≡ true = ap (λ t. is_end t) h ∙ e in rw all refl
signs_read line (suc most) [] bytes rest h e n = let all : is_end bytes ≡ true = ap (λ t. is_end t) h ∙ e in rw all refl
signs_read line zero (sign ∷ signs) bytes rest h e n = absurd (let shorter = h.3 in omega arith)
signs_read line (suc most) (sign ∷ signs) bytes rest h e n =
    let shorter = h.3 in
    rw (h.1, h.2, signs_read line most signs h.0 rest h.4 e (omega arith)) refl

-- a flow form on a line: its events, and that they make its tree
pub form_read : (line : ℕ) (bytes rest : List ℕ) (t : Tree) → SpellsFlow bytes t rest → skip_spaces bytes ≡ bytes → is_end rest ≡ true → (events : List Event) × (form_of line bytes ≡ Ok events) × Makes events t
form_read line bytes rest t f s e =
    let v = flow_read line bytes t rest f bytes s in
    let all : signs_of (length bytes) line bytes ≡ Ok v.0 = signs_read line (length bytes) v.0 bytes rest v.2 e (omega arith) in
    let made : form line (BeforeForm ∷ []) v.0 ≡ with_front v.1 (Ok []) = ap (λ signs. form line (BeforeForm ∷ []) signs) (sym (append-nil v.0)) ∙ v.3 BeforeForm AfterForm refl [] [] in
    (v.1, ap (λ read. read >>= λ signs. form line (BeforeForm ∷ []) signs) all ∙ made ∙ ap (λ es. Ok es) (append-nil v.1), v.4)
