-- A flow form that is read is spelled so.
use Rattle.std.proofs.Common.{◌≡◌, ℕ, zero, suc, Bool, true, false, ◌||◌, List, [], ◌∷◌, ◌++◌, Some, None, Result, Ok, length, refl, ap, sym, subst, arith, if◌then◌else◌, ◌==◌, inl, inr, ◌⊎◌}
use Rattle.std.proofs.lemmas.Bool.Decides.{nat_tests}
use Rattle.bosh_yaml.specs.declared.bare.Place.TheVariants.{Flow}
use Rattle.bosh_yaml.specs.declared.event.Event.{Event}
use Rattle.bosh_yaml.specs.declared.event.Event.TheVariants as event
use Rattle.bosh_yaml.specs.declared.fault.ReadFault.{ReadFault}
use Rattle.bosh_yaml.specs.declared.flow.Nest.{Nest}
use Rattle.bosh_yaml.specs.declared.flow.Nest.TheVariants.{BeforeForm, AfterForm, BeforeItem, AfterItem, BeforeKey, AfterKey, AfterEntry}
use Rattle.bosh_yaml.specs.declared.flow.Sign.{Sign}
use Rattle.bosh_yaml.specs.declared.flow.Sign.TheVariants.{OpenList, OpenMap, CloseList, CloseMap, Comma, Scalar, Key}
use Rattle.bosh_yaml.specs.declared.word.Word.{Word}
use Rattle.bosh_yaml.specs.Flow.{Turn, ends_key, word_sign, sign_at, sign_or_word, signs_of, after_value, after_key, comma, close_list, close_map, turn, form, form_of, is_whole}
use Rattle.bosh_yaml.specs.Lines.{begins, is_end, skip_spaces}
use Rattle.bosh_yaml.specs.Result.{◌>>=◌, with_front}
use Rattle.bosh_yaml.specs.Scalar.{leaf_tree}
use Rattle.bosh_yaml.specs.SpelledWord.{SpellsScalar, IsKey}
use Rattle.bosh_yaml.specs.SpelledFlow.{SpellsFlow, SpellsFlowItems, SpellsFlowEntries, SpellsFlowEntry, scalar, sequence, mapping, no_item, last_item, item, no_entry, last_entry, entry, bare_key, valued_key}
use Rattle.bosh_yaml.specs.Tree.{Tree, null, list, map, trees_of, fields_of}
use Rattle.bosh_yaml.specs.Word.{word_at, leaf_of, key_of, syntax_fault}
use Rattle.bosh_yaml.proofs.ResultLemmas.{ok_same}
use Rattle.bosh_yaml.proofs.ReadWordLemmas.{bind_ok, if_ok, word_ok, key_ok}
use Rattle.bosh_yaml.proofs.SpelledWordLemmas.{word_opens, Opens}

-- the sign that stands at the front
abbrev pub IsSign : List ℕ → Sign → List ℕ → Type 0
IsSign bytes OpenList after = bytes ≡ 91 ∷ after
IsSign bytes CloseList after = bytes ≡ 93 ∷ after
IsSign bytes OpenMap after = bytes ≡ 123 ∷ after
IsSign bytes CloseMap after = bytes ≡ 125 ∷ after
IsSign bytes Comma after = bytes ≡ 44 ∷ after
IsSign bytes (Scalar value) after = (word : Word) × SpellsScalar Flow bytes word after × (begins 58 after ≡ false)
IsSign bytes (Key key) after = (word : Word) × SpellsScalar Flow bytes word (58 ∷ after) × IsKey word key × (ends_key after ≡ true)

abbrev keyed : List ℕ → Result (List ℕ) ReadFault → Result (Sign × List ℕ) ReadFault
keyed bs read = do
  key ← read
  Ok (Key key, bs)

word_is_sign : (line : ℕ) (bytes : List ℕ) (word : Word) (rest : List ℕ) (sign : Sign) (after : List ℕ) → SpellsScalar Flow bytes word rest → word_sign line (word, rest) ≡ Ok (sign, after) → IsSign bytes sign after
word_is_sign line bytes word [] sign after w h =
    let both = ok_same h in
    subst (λ (p : Sign × List ℕ). IsSign bytes p.0 p.1) both (word, w, refl)
word_is_sign line bytes word (b ∷ bs) sign after w h = by (b == 58) refl h
  where
    same : (a : ℕ) → (a == 58) ≡ true → a ≡ 58
    same a h = grind (arith, nat_tests)

    by : (c : Bool) → (b == 58) ≡ c → (if c then (if ends_key bs then (keyed bs (key_of line word)) else syntax_fault line) else Ok (Scalar (leaf_of word), b ∷ bs)) ≡ Ok (sign, after) → IsSign bytes sign after
    by false p h = subst (λ (p : Sign × List ℕ). IsSign bytes p.0 p.1) (ok_same h) (word, w, p)
    by true p h =
        let e = if_ok (ends_key bs) (keyed bs (key_of line word)) _ (sign, after) h in
        let k = bind_ok (key_of line word) (λ key. Ok (Key key, bs)) (sign, after) e.1 in
        let w : SpellsScalar Flow bytes word (58 ∷ bs) = subst (λ c. SpellsScalar Flow bytes word (c ∷ bs)) (same b p) w in
        subst (λ (p : Sign × List ℕ). IsSign bytes p.0 p.1) (ok_same k.2) (word, w, key_ok line word k.0 k.1, e.0)

sign_ok : (line : ℕ) (bytes : List ℕ) (sign : Sign) (after : List ℕ) → sign_at line bytes ≡ Ok (sign, after) → IsSign bytes sign after
sign_ok line [] sign after h = absurd (cc)
sign_ok line (b ∷ bs) sign after h = by (b == 91) (b == 93) (b == 123) (b == 125) (b == 44) refl refl refl refl refl h
  where
    alone : (c : ℕ) (found : Sign) → (b == c) ≡ true → b ≡ c
    alone c found p = grind (arith, nat_tests)

    by : (ol cl om cm co : Bool) → (b == 91) ≡ ol → (b == 93) ≡ cl → (b == 123) ≡ om → (b == 125) ≡ cm → (b == 44) ≡ co
        → sign_or_word line (if ol then Some OpenList else if cl then Some CloseList else if om then Some OpenMap else if cm then Some CloseMap else if co then Some Comma else None) bs (b ∷ bs) ≡ Ok (sign, after) → IsSign (b ∷ bs) sign after
    by true cl om cm co p q r s t h = subst (λ (p : Sign × List ℕ). IsSign (b ∷ bs) p.0 p.1) (ok_same h) (ap (λ c. c ∷ bs) (alone 91 OpenList p))
    by false true om cm co p q r s t h = subst (λ (p : Sign × List ℕ). IsSign (b ∷ bs) p.0 p.1) (ok_same h) (ap (λ c. c ∷ bs) (alone 93 CloseList q))
    by false false true cm co p q r s t h = subst (λ (p : Sign × List ℕ). IsSign (b ∷ bs) p.0 p.1) (ok_same h) (ap (λ c. c ∷ bs) (alone 123 OpenMap r))
    by false false false true co p q r s t h = subst (λ (p : Sign × List ℕ). IsSign (b ∷ bs) p.0 p.1) (ok_same h) (ap (λ c. c ∷ bs) (alone 125 CloseMap s))
    by false false false false true p q r s t h = subst (λ (p : Sign × List ℕ). IsSign (b ∷ bs) p.0 p.1) (ok_same h) (ap (λ c. c ∷ bs) (alone 44 Comma t))
    by false false false false false p q r s t h =
        let w = bind_ok (word_at Flow line (b ∷ bs)) (λ word. word_sign line word) (sign, after) h in
        word_is_sign line (b ∷ bs) w.0.0 w.0.1 sign after (word_ok Flow line (b ∷ bs) w.0.0 w.0.1 w.1) w.2

-- behind an item, and behind an entry
abbrev pub ItemsEnd : List ℕ → List ℕ → Type 0
ItemsEnd bytes rest = (skip_spaces bytes ≡ 93 ∷ rest) ⊎ ((more : List ℕ) × (ts : List Tree) × (skip_spaces bytes ≡ 44 ∷ more) × SpellsFlowItems more ts rest)

abbrev pub EntriesEnd : List ℕ → List ℕ → Type 0
EntriesEnd bytes rest = (skip_spaces bytes ≡ 125 ∷ rest) ⊎ ((more : List ℕ) × (ps : List (List ℕ × Tree)) × (skip_spaces bytes ≡ 44 ∷ more) × SpellsFlowEntries more ps rest)

-- the bytes fit the places up to the end of the form
abbrev pub Fits : List Nest → List ℕ → Type 0
Fits [] bytes = ⊥
Fits (BeforeForm ∷ nests) bytes = (t : Tree) × (rest : List ℕ) × SpellsFlow (skip_spaces bytes) t rest × (is_end rest ≡ true)
Fits (AfterForm ∷ nests) bytes = is_end bytes ≡ true
Fits (BeforeItem ∷ nests) bytes = (ts : List Tree) × (rest : List ℕ) × SpellsFlowItems bytes ts rest × Fits nests rest
Fits (AfterItem ∷ nests) bytes = (rest : List ℕ) × ItemsEnd bytes rest × Fits nests rest
Fits (BeforeKey ∷ nests) bytes = (ps : List (List ℕ × Tree)) × (rest : List ℕ) × SpellsFlowEntries bytes ps rest × Fits nests rest
Fits (AfterKey ∷ nests) bytes = ends_key bytes ≡ true → (t : Tree) × (after : List ℕ) × (rest : List ℕ) × SpellsFlowEntry bytes t after × EntriesEnd after rest × Fits nests rest
Fits (AfterEntry ∷ nests) bytes = (rest : List ℕ) × EntriesEnd bytes rest × Fits nests rest

whole_fits : (nests : List Nest) (bytes : List ℕ) → is_end bytes ≡ true → is_whole nests ≡ true → Fits nests bytes
whole_fits [] bytes e h = absurd (cc)
whole_fits (AfterForm ∷ nests) bytes e h = e
whole_fits (BeforeForm ∷ nests) bytes e h = absurd (cc)
whole_fits (BeforeItem ∷ nests) bytes e h = absurd (cc)
whole_fits (AfterItem ∷ nests) bytes e h = absurd (cc)
whole_fits (BeforeKey ∷ nests) bytes e h = absurd (cc)
whole_fits (AfterKey ∷ nests) bytes e h = absurd (cc)
whole_fits (AfterEntry ∷ nests) bytes e h = absurd (cc)

-- a value begins with no `,` or `}`
abbrev NoEnd : List ℕ → Type 0
NoEnd [] = ⊥
NoEnd (b ∷ bs) = ((b == 44) ≡ false) × ((b == 125) ≡ false)

item_fits : (nests : List Nest) (bytes after : List ℕ) (t : Tree) → SpellsFlow (skip_spaces bytes) t after → Fits (AfterItem ∷ nests) after → Fits (BeforeItem ∷ nests) bytes
item_fits nests bytes after t v f = by f.1
  where
    by : ItemsEnd after f.0 → Fits (BeforeItem ∷ nests) bytes
    by (inl e) = (t ∷ [], f.0, last_item bytes after f.0 t v e, f.2)
    by (inr e) = (t ∷ e.1, f.0, item bytes after e.0 f.0 t e.1 v e.2 e.3, f.2)

word_no_end : (bytes : List ℕ) → Opens bytes → NoEnd bytes
word_no_end [] o = o
word_no_end (b ∷ bs) o = (o.comma, o.close_map)

flow_no_end : (bytes : List ℕ) (t : Tree) (rest : List ℕ) → SpellsFlow bytes t rest → NoEnd bytes
flow_no_end bytes t rest (scalar by after word w n) = word_no_end by (word_opens Flow by after word w)
flow_no_end bytes t rest (sequence bs after ts i) = (refl, refl)
flow_no_end bytes t rest (mapping bs after ps i) = (refl, refl)

-- a space stands between a key and its value
key_spaced : (bytes : List ℕ) → ends_key bytes ≡ true → NoEnd (skip_spaces bytes) → (bs : List ℕ) × (bytes ≡ 32 ∷ bs)
key_spaced [] e n = absurd n
key_spaced (b ∷ bs) e n = by (b == 32) refl n e
  where
    same : (b : ℕ) → (b == 32) ≡ true → b ≡ 32
    same b h = grind (arith, nat_tests)

    none : (s c : Bool) → s ≡ false → c ≡ false → (s || c) ≡ true → ⊥
    none s c p q h = grind arith

    by : (s : Bool) → (b == 32) ≡ s → NoEnd (if s then skip_spaces bs else b ∷ bs) → (s || (b == 44 || b == 125)) ≡ true → (cs : List ℕ) × (b ∷ bs ≡ 32 ∷ cs)
    by true p n e = (bs, ap (λ c. c ∷ bs) (same b p))
    by false p n e = absurd (none (b == 44) (b == 125) n.0 n.1 e)

value_fits_key : (nests : List Nest) (bytes after : List ℕ) (t : Tree) → SpellsFlow (skip_spaces bytes) t after → Fits (AfterEntry ∷ nests) after → Fits (AfterKey ∷ nests) bytes
value_fits_key nests bytes after t v f e =
    let s = key_spaced bytes e (flow_no_end (skip_spaces bytes) t after v) in
    let valued : SpellsFlow (skip_spaces s.0) t after = subst (λ bs. SpellsFlow (skip_spaces bs) t after) s.1 v in
    (t, after, f.0, subst (λ bs. SpellsFlowEntry bs t after) (sym s.1) (valued_key s.0 after t valued), f.1, f.2)

value_fits : (line : ℕ) (nest next : Nest) (nests : List Nest) (bytes after : List ℕ) (t : Tree) → after_value line nest ≡ Ok next → SpellsFlow (skip_spaces bytes) t after → Fits (next ∷ nests) after → Fits (nest ∷ nests) bytes
value_fits line BeforeForm next nests bytes after t h v f = let g : Fits (AfterForm ∷ nests) after = subst (λ n. Fits (n ∷ nests) after) (sym (ok_same h)) f in (t, after, v, g)
value_fits line BeforeItem next nests bytes after t h v f = item_fits nests bytes after t v (subst (λ n. Fits (n ∷ nests) after) (sym (ok_same h)) f)
value_fits line AfterKey next nests bytes after t h v f = value_fits_key nests bytes after t v (subst (λ n. Fits (n ∷ nests) after) (sym (ok_same h)) f)
value_fits line AfterForm next nests bytes after t h v f = absurd (cc)
value_fits line AfterItem next nests bytes after t h v f = absurd (cc)
value_fits line BeforeKey next nests bytes after t h v f = absurd (cc)
value_fits line AfterEntry next nests bytes after t h v f = absurd (cc)

-- the places after a turn
turned : (turn other : Turn) (nests : List Nest) (after : List ℕ) → ◌≡◌ {A = Result Turn ReadFault} (Ok turn) (Ok other) → Fits (other.1 ++ nests) after → Fits (turn.1 ++ nests) after
turned turn other nests after h f = subst (λ (t : Turn). Fits (t.1 ++ nests) after) (sym (ok_same h)) f

comma_fits : (line : ℕ) (nest : Nest) (next : Turn) (nests : List Nest) (bytes after : List ℕ) → comma line nest ≡ Ok next → skip_spaces bytes ≡ 44 ∷ after → Fits (next.1 ++ nests) after → Fits (nest ∷ nests) bytes
comma_fits line AfterItem next nests bytes after h e f = let g = turned ([], BeforeItem ∷ []) next nests after h f in (g.1, inr (after, g.0, e, g.2), g.3)
comma_fits line AfterEntry next nests bytes after h e f = let g = turned ([], BeforeKey ∷ []) next nests after h f in (g.1, inr (after, g.0, e, g.2), g.3)
comma_fits line AfterKey next nests bytes after h e f = λ k. let g = turned (_, BeforeKey ∷ []) next nests after h f in (null, bytes, g.1, bare_key bytes, inr (after, g.0, e, g.2), g.3)
comma_fits line BeforeForm next nests bytes after h e f = absurd (cc)
comma_fits line AfterForm next nests bytes after h e f = absurd (cc)
comma_fits line BeforeItem next nests bytes after h e f = absurd (cc)
comma_fits line BeforeKey next nests bytes after h e f = absurd (cc)

close_list_fits : (line : ℕ) (nest : Nest) (next : Turn) (nests : List Nest) (bytes after : List ℕ) → close_list line nest ≡ Ok next → skip_spaces bytes ≡ 93 ∷ after → Fits (next.1 ++ nests) after → Fits (nest ∷ nests) bytes
close_list_fits line BeforeItem next nests bytes after h e f = ([], after, no_item bytes after e, turned (_, []) next nests after h f)
close_list_fits line AfterItem next nests bytes after h e f = (after, inl e, turned (_, []) next nests after h f)
close_list_fits line BeforeForm next nests bytes after h e f = absurd (cc)
close_list_fits line AfterForm next nests bytes after h e f = absurd (cc)
close_list_fits line BeforeKey next nests bytes after h e f = absurd (cc)
close_list_fits line AfterKey next nests bytes after h e f = absurd (cc)
close_list_fits line AfterEntry next nests bytes after h e f = absurd (cc)

close_map_fits : (line : ℕ) (nest : Nest) (next : Turn) (nests : List Nest) (bytes after : List ℕ) → close_map line nest ≡ Ok next → skip_spaces bytes ≡ 125 ∷ after → Fits (next.1 ++ nests) after → Fits (nest ∷ nests) bytes
close_map_fits line BeforeKey next nests bytes after h e f = ([], after, no_entry bytes after e, turned (_, []) next nests after h f)
close_map_fits line AfterEntry next nests bytes after h e f = (after, inl e, turned (_, []) next nests after h f)
close_map_fits line AfterKey next nests bytes after h e f = λ k. (null, bytes, after, bare_key bytes, inl e, turned (_, []) next nests after h f)
close_map_fits line BeforeForm next nests bytes after h e f = absurd (cc)
close_map_fits line AfterForm next nests bytes after h e f = absurd (cc)
close_map_fits line BeforeItem next nests bytes after h e f = absurd (cc)
close_map_fits line AfterItem next nests bytes after h e f = absurd (cc)

entry_fits : (nests : List Nest) (bytes after : List ℕ) (word : Word) (key : List ℕ) → SpellsScalar Flow (skip_spaces bytes) word (58 ∷ after) → IsKey word key → ends_key after ≡ true → Fits (AfterKey ∷ nests) after → Fits (BeforeKey ∷ nests) bytes
entry_fits nests bytes after word key w k e f = by (f e)
  where
    by : ((t : Tree) × (left : List ℕ) × (rest : List ℕ) × SpellsFlowEntry after t left × EntriesEnd left rest × Fits nests rest) → Fits (BeforeKey ∷ nests) bytes
    by g = on g.4
      where
        on : EntriesEnd g.1 g.2 → Fits (BeforeKey ∷ nests) bytes
        on (inl e) = ((key, g.0) ∷ [], g.2, last_entry bytes after g.1 g.2 word key g.0 w k g.3 e, g.5)
        on (inr e) = ((key, g.0) ∷ e.1, g.2, entry bytes after g.1 e.0 g.2 word key g.0 e.1 w k g.3 e.2 e.3, g.5)

key_fits : (line : ℕ) (nest next : Nest) (nests : List Nest) (bytes after : List ℕ) (word : Word) (key : List ℕ) → after_key line nest ≡ Ok next → SpellsScalar Flow (skip_spaces bytes) word (58 ∷ after) → IsKey word key → ends_key after ≡ true → Fits (next ∷ nests) after → Fits (nest ∷ nests) bytes
key_fits line BeforeKey next nests bytes after word key h w k e f = entry_fits nests bytes after word key w k e (subst (λ n. Fits (n ∷ nests) after) (sym (ok_same h)) f)
key_fits line BeforeForm next nests bytes after word key h w k e f = absurd (cc)
key_fits line AfterForm next nests bytes after word key h w k e f = absurd (cc)
key_fits line BeforeItem next nests bytes after word key h w k e f = absurd (cc)
key_fits line AfterItem next nests bytes after word key h w k e f = absurd (cc)
key_fits line AfterKey next nests bytes after word key h w k e f = absurd (cc)
key_fits line AfterEntry next nests bytes after word key h w k e f = absurd (cc)

-- one more sign in front
sign_fits : (line : ℕ) (nest : Nest) (sign : Sign) (next : Turn) (nests : List Nest) (bytes after : List ℕ) → turn line nest sign ≡ Ok next → IsSign (skip_spaces bytes) sign after → Fits (next.1 ++ nests) after → Fits (nest ∷ nests) bytes
sign_fits line nest OpenList next nests bytes after h s f =
    let v = bind_ok (after_value line nest) (λ n. Ok (event.OpenList ∷ [], BeforeItem ∷ n ∷ [])) next h in
    let g = turned (event.OpenList ∷ [], BeforeItem ∷ v.0 ∷ []) next nests after v.2 f in
    value_fits line nest v.0 nests bytes g.1 (list (trees_of g.0)) v.1 (subst (λ bs. SpellsFlow bs (list (trees_of g.0)) g.1) (sym s) (sequence after g.1 g.0 g.2)) g.3
sign_fits line nest OpenMap next nests bytes after h s f =
    let v = bind_ok (after_value line nest) (λ n. Ok (event.OpenMap ∷ [], BeforeKey ∷ n ∷ [])) next h in
    let g = turned (event.OpenMap ∷ [], BeforeKey ∷ v.0 ∷ []) next nests after v.2 f in
    value_fits line nest v.0 nests bytes g.1 (map (fields_of g.0)) v.1 (subst (λ bs. SpellsFlow bs (map (fields_of g.0)) g.1) (sym s) (mapping after g.1 g.0 g.2)) g.3
sign_fits line nest (Scalar leaf) next nests bytes after h s f =
    let v = bind_ok (after_value line nest) (λ n. Ok (event.Scalar leaf ∷ [], n ∷ [])) next h in
    let g = turned (event.Scalar leaf ∷ [], v.0 ∷ []) next nests after v.2 f in
    value_fits line nest v.0 nests bytes after (leaf_tree (leaf_of s.0)) v.1 (scalar (skip_spaces bytes) after s.0 s.1 s.2) g
sign_fits line nest (Key key) next nests bytes after h s f =
    let v = bind_ok (after_key line nest) (λ n. Ok (event.Key line key ∷ [], n ∷ [])) next h in
    let g = turned (event.Key line key ∷ [], v.0 ∷ []) next nests after v.2 f in
    key_fits line nest v.0 nests bytes after s.0 key v.1 s.1 s.2 s.3 g
sign_fits line nest Comma next nests bytes after h s f = comma_fits line nest next nests bytes after h s f
sign_fits line nest CloseList next nests bytes after h s f = close_list_fits line nest next nests bytes after h s f
sign_fits line nest CloseMap next nests bytes after h s f = close_map_fits line nest next nests bytes after h s f

ends_fit : (line : ℕ) (nests : List Nest) (signs : List Sign) (bytes : List ℕ) (es : List Event) → is_end bytes ≡ true → ◌≡◌ {A = Result (List Sign) ReadFault} (Ok []) (Ok signs) → form line nests signs ≡ Ok es → Fits nests bytes
ends_fit line nests signs bytes es e h k =
    let none : form line nests [] ≡ Ok es = subst (λ signs. form line nests signs ≡ Ok es) (sym (ok_same h)) k in
    whole_fits nests bytes e (if_ok (is_whole nests) (Ok []) _ es none).0

form_fits : (line : ℕ) (nests : List Nest) (sign : Sign) (signs : List Sign) (bytes after : List ℕ) (es : List Event) → IsSign (skip_spaces bytes) sign after → form line nests (sign ∷ signs) ≡ Ok es → ((others : List Nest) (fs : List Event) → form line others signs ≡ Ok fs → Fits others after) → Fits nests bytes
form_fits line [] sign signs bytes after es s h k = absurd (cc)
form_fits line (nest ∷ nests) sign signs bytes after es s h k =
    let t = bind_ok (turn line nest sign) (λ next. with_front next.0 (form line (next.1 ++ nests) signs)) es h in
    let f = bind_ok (form line (t.0.1 ++ nests) signs) (λ fs. Ok (t.0.0 ++ fs)) es t.2 in
    sign_fits line nest sign t.0 nests bytes after t.1 s (k (t.0.1 ++ nests) f.0 f.1)

signs_fit : (line most : ℕ) (nests : List Nest) (signs : List Sign) (bytes : List ℕ) (es : List Event) → signs_of most line bytes ≡ Ok signs → form line nests signs ≡ Ok es → Fits nests bytes
signs_fit line zero nests signs bytes es h k = let e = if_ok (is_end bytes) (Ok []) _ signs h in ends_fit line nests signs bytes es e.0 e.1 k
signs_fit line (suc most) nests signs bytes es h k = by (is_end bytes) refl h (λ others rest left fs p q. signs_fit line most others rest left fs p q)
  where
    by : (b : Bool) → is_end bytes ≡ b → (if b then Ok [] else (sign_at line (skip_spaces bytes) >>= λ first. with_front (first.0 ∷ []) (signs_of most line first.1))) ≡ Ok signs → ((others : List Nest) (rest : List Sign) (left : List ℕ) (fs : List Event) → signs_of most line left ≡ Ok rest → form line others rest ≡ Ok fs → Fits others left) → Fits nests bytes
    by true e h more = ends_fit line nests signs bytes es e h k
    by false e h more =
        let s = bind_ok (sign_at line (skip_spaces bytes)) (λ first. with_front (first.0 ∷ []) (signs_of most line first.1)) signs h in
        let r = bind_ok (signs_of most line s.0.1) (λ rest. Ok ((s.0.0 ∷ []) ++ rest)) signs s.2 in
        let whole : form line nests (s.0.0 ∷ r.0) ≡ Ok es = subst (λ signs. form line nests signs ≡ Ok es) (sym (ok_same r.2)) k in
        form_fits line nests s.0.0 r.0 bytes s.0.1 es (sign_ok line (skip_spaces bytes) s.0.0 s.0.1 s.1) whole (λ others fs q. more others r.0 s.0.1 fs r.1 q)

pub form_ok : (line : ℕ) (bytes : List ℕ) (es : List Event) → form_of line bytes ≡ Ok es → (t : Tree) × (rest : List ℕ) × SpellsFlow (skip_spaces bytes) t rest × (is_end rest ≡ true)
form_ok line bytes es h =
    let s = bind_ok (signs_of (length bytes) line bytes) (λ signs. form line (BeforeForm ∷ []) signs) es h in
    signs_fit line (length bytes) (BeforeForm ∷ []) s.0 bytes es s.1 s.2
