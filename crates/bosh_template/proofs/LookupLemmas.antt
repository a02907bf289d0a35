-- The readers of lookups read just what the grammar spells.
use Rattle.std.proofs.Common.{◌≡◌, ℕ, List, [], ◌∷◌, ◌++◌, replicate, Option, Some, None, refl, sym, ap, subst, ◌∙◌, inl, inr, codes, decimal, append_assoc}
use Rattle.std.proofs.lemmas.Bool.{cases_Bool}
use Rattle.std.proofs.lemmas.Option.{none-some, cond_some, some_pair_parts}
use Rattle.bosh_ip.specs.Bytes.{without_leading}
use Rattle.bosh_ip.proofs.BytesLemmas.{without_leading-split}
use Rattle.bosh_template.specs.declared.template.Part.{Part}
use Rattle.bosh_template.specs.declared.template.Part.TheVariants.{Literal, Own, Linked, OneAddr, AllAddrs, Word}
use Rattle.bosh_template.specs.declared.template.SpecWord.{SpecWord}
use Rattle.bosh_template.specs.declared.template.SpecWord.TheVariants.{Name, Index, Az, Address, Deployment, Bootstrap}
use Rattle.bosh_template.specs.Grammar.{is_quote, is_plain, SpellsQuoted, SpellsLiteral, SpellsFallback, SpellsProperty, SpellsLinked, SpellsOneAddr, SpellsAllAddrs, SpellsLookup, SpellsTag, word_spelling}
use Rattle.bosh_template.specs.Reading.{either, behind, cut_at, quoted_at, quoted_end, plain_end, no_fallback, some_fallback, fallback_end, property_at, index_of, one_addr_at, all_addrs_at, as_linked, as_one_addr, as_all_addrs, in_link_at, linked_at, as_word, word_at, as_own, as_fact, lookup_at, tag_at}
use Rattle.bosh_template.proofs.FrontLemmas.{bind-some, either-some, behind-sound, cut_at-front, cut_at-sound, skips}
use Rattle.bosh_template.proofs.WordLemmas.{IsWord-plain, Lacks-end, Lacks-bracket, no_quoted, IsWord-decimal, index_of-decimal, index_of-sound}

-- what is read is spelled so, and the rest follows it
pub record Takes {A : Type 0} (F : List ℕ → A → Type 0) (text : List ℕ) (read : A × List ℕ) : Type 0 where
  pub front : List ℕ
  pub is_front : F front read.0
  pub whole : text ≡ front ++ read.1

-- the same, with a closing parenthesis between them
pub record Ends {A : Type 0} (F : List ℕ → A → Type 0) (text : List ℕ) (read : A × List ℕ) : Type 0 where
  pub front : List ℕ
  pub is_front : F front read.0
  pub whole : text ≡ front ++ 41 ∷ read.1

-- a text in quotes
pub quoted_at-front : (s inside rest : List ℕ) → SpellsQuoted s inside → quoted_at (s ++ rest) ≡ Some (inside, rest)
quoted_at-front s inside rest h =
    let e : s ++ rest ≡ h.quote ∷ (inside ++ h.quote ∷ rest) = ap (λ t. t ++ rest) h.spelled ∙ ap (λ t. h.quote ∷ t) (append_assoc inside (h.quote ∷ []) rest) in
    ap quoted_at e ∙ rw h.is_one (cut_at-front h.quote inside rest h.lacks)

pub quoted_at-sound : (text : List ℕ) (read : List ℕ × List ℕ) → quoted_at text ≡ Some read → Takes SpellsQuoted text read
quoted_at-sound [] read h = absurd (none-some read h)
quoted_at-sound (b ∷ text) read h =
    elim (cases_Bool (is_quote b)) [
      | inl opened ↦
          let cut = cut_at-sound b text read (rw opened at h) in
          record {
            front = b ∷ read.0 ++ b ∷ [];
            is_front = record { quote = b; is_one = opened; lacks = cut.lacks; spelled = refl };
            whole = ap (λ t. b ∷ t) (cut.whole ∙ sym (append_assoc read.0 (b ∷ []) read.1));
          }
      | inr other ↦ absurd (none-some read (rw other at h))
    ]

quoted_end-front : (s inside rest : List ℕ) → SpellsQuoted s inside → quoted_end (s ++ 41 ∷ rest) ≡ Some (inside, rest)
unfolding quoted_end
quoted_end-front s inside rest h = rw (quoted_at-front s inside (41 ∷ rest) h)

quoted_end-sound : (text : List ℕ) (read : List ℕ × List ℕ) → quoted_end text ≡ Some read → Ends SpellsQuoted text read
unfolding quoted_end
quoted_end-sound text read h =
    let (inside, e, h2) = bind-some (quoted_at text) _ read h in
    let t = quoted_at-sound text inside e in
    let (rest, e2, h3) = bind-some (behind (codes ")") inside.1) _ read h2 in
    let is : inside.1 ≡ 41 ∷ rest = behind-sound (codes ")") inside.1 rest e2 in
    let (a, b) = some_pair_parts inside.0 read.0 rest read.1 h3 in
    record { front = t.front; is_front = subst (SpellsQuoted t.front) a t.is_front; whole = t.whole ∙ ap (λ u. t.front ++ u) (is ∙ ap (λ u. 41 ∷ u) b) }

-- a literal
literal-front : (s value rest : List ℕ) → SpellsLiteral s value → either (quoted_end (s ++ 41 ∷ rest)) (plain_end (s ++ 41 ∷ rest)) ≡ Some (value, rest)
unfolding quoted_end plain_end
literal-front s value rest (inl h) = rw (quoted_end-front s value rest h)
literal-front s value rest (inr h) =
    let word = IsWord-plain s h.0 in
    rw (no_quoted s (41 ∷ rest) word, cut_at-front 41 s rest (Lacks-end s word), h.0) (ap (λ v. Some (v, rest)) h.1)

plain_end-sound : (text : List ℕ) (read : List ℕ × List ℕ) → plain_end text ≡ Some read → Ends SpellsLiteral text read
unfolding plain_end
plain_end-sound text read h =
    let (word, e, h2) = bind-some (cut_at 41 text) _ read h in
    let cut = cut_at-sound 41 text word e in
    let (plain, same) = cond_some (is_plain word.0) word read h2 in
    record {
      front = word.0;
      is_front = inr (plain, ap (λ (r : List ℕ × List ℕ). r.0) same);
      whole = cut.whole ∙ ap (λ (r : List ℕ × List ℕ). word.0 ++ 41 ∷ r.1) same;
    }

literal-sound : (text : List ℕ) (read : List ℕ × List ℕ) → either (quoted_end text) (plain_end text) ≡ Some read → Ends SpellsLiteral text read
literal-sound text read h = elim (either-some (quoted_end text) (plain_end text) read h) [
  | inl q ↦ let t = quoted_end-sound text read q in record { front = t.front; is_front = inl t.is_front; whole = t.whole }
  | inr p ↦ plain_end-sound text read p
]

-- what stands behind the name of a property
fallback_end-front : (s : List ℕ) (fallback : Option (List ℕ)) (rest : List ℕ) → SpellsFallback s fallback → fallback_end (s ++ 41 ∷ rest) ≡ Some (fallback, rest)
unfolding fallback_end
fallback_end-front s None rest h = rw h
fallback_end-front s (Some value) rest h =
    let (written, is, spelled) = h in
    rw (spelled, literal-front written value rest is)

fallback_end-sound : (text : List ℕ) (read : Option (List ℕ) × List ℕ) → fallback_end text ≡ Some read → Ends SpellsFallback text read
unfolding fallback_end
fallback_end-sound text read h = elim (either-some (no_fallback text) (some_fallback text) read h) [
  | inl none ↦
      let (rest, e, h2) = bind-some (behind (codes ")") text) _ read none in
      let is : text ≡ 41 ∷ rest = behind-sound (codes ")") text rest e in
      let (a, b) = some_pair_parts None read.0 rest read.1 h2 in
      record { front = []; is_front = subst (SpellsFallback []) a refl; whole = is ∙ ap (λ u. 41 ∷ u) b }
  | inr some ↦
      let (written, e, h2) = bind-some (behind (codes ", ") text) _ read some in
      let is : text ≡ 44 ∷ 32 ∷ written = behind-sound (codes ", ") text written e in
      let (value, e2, h3) = bind-some (either (quoted_end written) (plain_end written)) _ read h2 in
      let t = literal-sound written value e2 in
      let (a, b) = some_pair_parts (Some value.0) read.0 value.1 read.1 h3 in
      record {
        front = 44 ∷ 32 ∷ t.front;
        is_front = subst (SpellsFallback (44 ∷ 32 ∷ t.front)) a (t.front, t.is_front, refl);
        whole = is ∙ ap (λ u. 44 ∷ 32 ∷ u) (t.whole ∙ ap (λ u. t.front ++ 41 ∷ u) b);
      }
]

-- a property
property_at-front : (s name : List ℕ) (fallback : Option (List ℕ)) (rest : List ℕ) → SpellsProperty s name fallback → property_at (s ++ rest) ≡ Some ((name, fallback), rest)
unfolding property_at
property_at-front s name fallback rest h =
    let e : s ++ rest ≡ 112 ∷ 40 ∷ (h.quoted ++ (h.more ++ 41 ∷ rest)) = rw h.spelled (simp append_assoc) in
    ap property_at e ∙ rw (quoted_at-front h.quoted name (h.more ++ 41 ∷ rest) h.is_name, fallback_end-front h.more fallback rest h.is_fallback)

abbrev SpellsPair : List ℕ → List ℕ × Option (List ℕ) → Type 0
SpellsPair s p = SpellsProperty s p.0 p.1

property_at-sound : (text : List ℕ) (read : (List ℕ × Option (List ℕ)) × List ℕ) → property_at text ≡ Some read → Takes SpellsPair text read
unfolding property_at
property_at-sound text read h =
    let (inside, e, h2) = bind-some (behind (codes "p(") text) _ read h in
    let is : text ≡ 112 ∷ 40 ∷ inside = behind-sound (codes "p(") text inside e in
    let (name, e2, h3) = bind-some (quoted_at inside) _ read h2 in
    let t = quoted_at-sound inside name e2 in
    let (fallback, e3, h4) = bind-some (fallback_end name.1) _ read h3 in
    let f = fallback_end-sound name.1 fallback e3 in
    let (a, b) = some_pair_parts (name.0, fallback.0) read.0 fallback.1 read.1 h4 in
    let front : List ℕ = codes "p(" ++ t.front ++ f.front ++ codes ")" in
    let tail : (codes "p(" ++ t.front ++ f.front ++ codes ")") ++ read.1 ≡ 112 ∷ 40 ∷ (t.front ++ (f.front ++ 41 ∷ read.1)) = simp append_assoc in
    record {
      front = front;
      is_front = subst (SpellsPair front) a (record { quoted = t.front; more = f.front; is_name = t.is_front; is_fallback = f.is_front; spelled = refl });
      whole = is ∙ ap (λ u. 112 ∷ 40 ∷ u) (t.whole ∙ ap (λ u. t.front ++ u) (f.whole ∙ ap (λ u. f.front ++ 41 ∷ u) b)) ∙ sym tail;
    }

-- the index of an instance
one_addr_at-front : (s : List ℕ) (index : ℕ) (rest : List ℕ) → SpellsOneAddr s index → one_addr_at (s ++ rest) ≡ Some (index, rest)
unfolding one_addr_at
one_addr_at-front s index rest h =
    let e : s ++ rest ≡ codes "instances[" ++ (decimal index ++ 93 ∷ (codes ".address" ++ rest)) = ap (λ t. t ++ rest) h.spelled ∙ ap (λ t. codes "instances[" ++ t) (append_assoc (decimal index) (codes "].address") rest) in
    ap one_addr_at e ∙ rw (cut_at-front 93 (decimal index) (codes ".address" ++ rest) (Lacks-bracket (decimal index) (IsWord-decimal index h.fits)), index_of-decimal index h.fits)

one_addr_at-sound : (text : List ℕ) (read : ℕ × List ℕ) → one_addr_at text ≡ Some read → Takes SpellsOneAddr text read
unfolding one_addr_at
one_addr_at-sound text read h =
    let (inside, e, h2) = bind-some (behind (codes "instances[") text) _ read h in
    let is : text ≡ codes "instances[" ++ inside = behind-sound (codes "instances[") text inside e in
    let (word, e2, h3) = bind-some (cut_at 93 inside) _ read h2 in
    let cut = cut_at-sound 93 inside word e2 in
    let (index, e3, h4) = bind-some (index_of word.0) _ read h3 in
    let (fits, number) = index_of-sound word.0 index e3 in
    let (rest, e4, h5) = bind-some (behind (codes ".address") word.1) _ read h4 in
    let end : word.1 ≡ codes ".address" ++ rest = behind-sound (codes ".address") word.1 rest e4 in
    let (a, b) = some_pair_parts index read.0 rest read.1 h5 in
    let front : List ℕ = codes "instances[" ++ decimal index ++ codes "].address" in
    let tail : (decimal index ++ codes "].address") ++ read.1 ≡ decimal index ++ 93 ∷ (codes ".address" ++ read.1) = append_assoc (decimal index) (codes "].address") read.1 in
    record {
      front = front;
      is_front = subst (SpellsOneAddr front) a (record { fits = fits; spelled = refl });
      whole = is ∙ ap (λ u. codes "instances[" ++ u) (cut.whole ∙ ap (λ u. u ++ 93 ∷ word.1) number ∙ ap (λ u. decimal index ++ 93 ∷ u) (end ∙ ap (λ u. codes ".address" ++ u) b) ∙ sym tail);
    }

-- what stands between any two addresses
all_addrs_at-front : (s between rest : List ℕ) → SpellsAllAddrs s between → all_addrs_at (s ++ rest) ≡ Some (between, rest)
unfolding all_addrs_at
all_addrs_at-front s between rest h =
    let e : s ++ rest ≡ codes "instances.map(&:address).join(" ++ (h.quoted ++ 41 ∷ rest) = ap (λ t. t ++ rest) h.spelled ∙ ap (λ t. codes "instances.map(&:address).join(" ++ t) (append_assoc h.quoted (41 ∷ []) rest) in
    ap all_addrs_at e ∙ quoted_end-front h.quoted between rest h.is_between

all_addrs_at-sound : (text : List ℕ) (read : List ℕ × List ℕ) → all_addrs_at text ≡ Some read → Takes SpellsAllAddrs text read
unfolding all_addrs_at
all_addrs_at-sound text read h =
    let (inside, e, h2) = bind-some (behind (codes "instances.map(&:address).join(") text) _ read h in
    let is : text ≡ codes "instances.map(&:address).join(" ++ inside = behind-sound (codes "instances.map(&:address).join(") text inside e in
    let t = quoted_end-sound inside read h2 in
    record {
      front = codes "instances.map(&:address).join(" ++ t.front ++ codes ")";
      is_front = record { quoted = t.front; is_between = t.is_front; spelled = refl };
      whole = is ∙ ap (λ u. codes "instances.map(&:address).join(" ++ u) (t.whole ∙ sym (append_assoc t.front (41 ∷ []) read.1));
    }

-- what is looked up in a link
abbrev InLink : List ℕ → List ℕ → Part → Type 0
InLink link rest part = (text : List ℕ) → SpellsLinked text link rest → SpellsLookup text part

in_link_at-sound : (link text : List ℕ) (read : Part × List ℕ) → in_link_at link text ≡ Some read → Takes (InLink link) text read
unfolding in_link_at
in_link_at-sound link text read h = elim (either-some (as_linked link text) (either (as_one_addr link text) (as_all_addrs link text)) read h) [
  | inl own ↦
      let (p, e, h2) = bind-some (property_at text) _ read own in
      let t = property_at-sound text p e in
      let (a, b) = some_pair_parts (Linked link p.0.0 p.0.1) read.0 p.1 read.1 h2 in
      record { front = t.front; is_front = subst (InLink link t.front) a (λ s linked. (t.front, linked, t.is_front)); whole = t.whole ∙ ap (λ u. t.front ++ u) b }
  | inr more ↦ elim (either-some (as_one_addr link text) (as_all_addrs link text) read more) [
    | inl one ↦
        let (p, e, h2) = bind-some (one_addr_at text) _ read one in
        let t = one_addr_at-sound text p e in
        let (a, b) = some_pair_parts (OneAddr link p.0) read.0 p.1 read.1 h2 in
        record { front = t.front; is_front = subst (InLink link t.front) a (λ s linked. (t.front, linked, t.is_front)); whole = t.whole ∙ ap (λ u. t.front ++ u) b }
    | inr all ↦
        let (p, e, h2) = bind-some (all_addrs_at text) _ read all in
        let t = all_addrs_at-sound text p e in
        let (a, b) = some_pair_parts (AllAddrs link p.0) read.0 p.1 read.1 h2 in
        record { front = t.front; is_front = subst (InLink link t.front) a (λ s linked. (t.front, linked, t.is_front)); whole = t.whole ∙ ap (λ u. t.front ++ u) b }
  ]
]

linked_at-sound : (text : List ℕ) (read : Part × List ℕ) → linked_at text ≡ Some read → Takes SpellsLookup text read
unfolding linked_at
linked_at-sound text read h =
    let (inside, e, h2) = bind-some (behind (codes "link(") text) _ read h in
    let is : text ≡ codes "link(" ++ inside = behind-sound (codes "link(") text inside e in
    let (link, e2, h3) = bind-some (quoted_at inside) _ read h2 in
    let q = quoted_at-sound inside link e2 in
    let (rest, e3, h4) = bind-some (behind (codes ").") link.1) _ read h3 in
    let mid : link.1 ≡ codes ")." ++ rest = behind-sound (codes ").") link.1 rest e3 in
    let t = in_link_at-sound link.0 rest read h4 in
    let front : List ℕ = codes "link(" ++ q.front ++ codes ")." ++ t.front in
    let tail : (codes "link(" ++ q.front ++ codes ")." ++ t.front) ++ read.1 ≡ codes "link(" ++ (q.front ++ 41 ∷ 46 ∷ (t.front ++ read.1)) = simp append_assoc in
    record {
      front = front;
      is_front = t.is_front front (record { quoted = q.front; is_link = q.is_front; spelled = refl });
      whole = is ∙ ap (λ u. codes "link(" ++ u) (q.whole ∙ ap (λ u. q.front ++ u) (mid ∙ ap (λ u. codes ")." ++ u) t.whole)) ∙ sym tail;
    }

-- what a link's lookup is read as, from what stands behind the link
linked_at-front : (s link inner rest : List ℕ) (part : Part) → SpellsLinked s link inner → in_link_at link (inner ++ rest) ≡ Some (part, rest) → linked_at (s ++ rest) ≡ Some (part, rest)
unfolding linked_at
linked_at-front s link inner rest part h read =
    let e : s ++ rest ≡ codes "link(" ++ (h.quoted ++ 41 ∷ 46 ∷ (inner ++ rest)) = rw h.spelled (simp append_assoc) in
    ap linked_at e ∙ rw (quoted_at-front h.quoted link (41 ∷ 46 ∷ (inner ++ rest)) h.is_link) read

in_link_at-property : (link s name : List ℕ) (fallback : Option (List ℕ)) (rest : List ℕ) → SpellsProperty s name fallback → in_link_at link (s ++ rest) ≡ Some (Linked link name fallback, rest)
unfolding in_link_at
in_link_at-property link s name fallback rest h = rw (property_at-front s name fallback rest h)

-- a text that begins so is no property
no_property : (text : List ℕ) → property_at (105 ∷ text) ≡ None
unfolding property_at
no_property [] = refl
no_property (b ∷ text) = refl

no_one_addr : (text : List ℕ) → one_addr_at (codes "instances.map(&:address).join(" ++ text) ≡ None
unfolding one_addr_at
no_one_addr text = refl

in_link_at-one : (link s : List ℕ) (index : ℕ) (rest : List ℕ) → SpellsOneAddr s index → in_link_at link (s ++ rest) ≡ Some (OneAddr link index, rest)
unfolding in_link_at
in_link_at-one link s index rest h =
    let none : property_at (s ++ rest) ≡ None = ap (λ t. property_at (t ++ rest)) h.spelled ∙ no_property _ in
    rw (none, one_addr_at-front s index rest h)

in_link_at-all : (link s between rest : List ℕ) → SpellsAllAddrs s between → in_link_at link (s ++ rest) ≡ Some (AllAddrs link between, rest)
unfolding in_link_at
in_link_at-all link s between rest h =
    let none : property_at (s ++ rest) ≡ None = ap (λ t. property_at (t ++ rest)) h.spelled ∙ no_property _ in
    let other : one_addr_at (s ++ rest) ≡ None = ap (λ t. one_addr_at (t ++ rest)) h.spelled ∙ no_one_addr _ in
    rw (none, other, all_addrs_at-front s between rest h)

-- facts of the instance
word_at-front : (s : List ℕ) (word : SpecWord) (rest : List ℕ) → s ≡ codes "spec." ++ word_spelling word → word_at (s ++ rest) ≡ Some (word, rest)
unfolding word_at
word_at-front s Name rest e = rw e
word_at-front s Index rest e = rw e
word_at-front s Az rest e = rw e
word_at-front s Address rest e = rw e
word_at-front s Deployment rest e = rw e
word_at-front s Bootstrap rest e = rw e

abbrev SpellsWord : List ℕ → SpecWord → Type 0
SpellsWord s word = s ≡ word_spelling word

as_word-sound : (word : SpecWord) (text : List ℕ) (read : SpecWord × List ℕ) → as_word word text ≡ Some read → Takes SpellsWord text read
as_word-sound word text read h =
    let (rest, e, h2) = bind-some (behind (word_spelling word) text) _ read h in
    let is : text ≡ word_spelling word ++ rest = behind-sound (word_spelling word) text rest e in
    let (a, b) = some_pair_parts word read.0 rest read.1 h2 in
    record { front = word_spelling word; is_front = subst (SpellsWord (word_spelling word)) a refl; whole = is ∙ ap (λ u. word_spelling word ++ u) b }

words_sound : (text : List ℕ) (read : SpecWord × List ℕ) → either (as_word Name text) (either (as_word Index text) (either (as_word Az text) (either (as_word Address text) (either (as_word Deployment text) (as_word Bootstrap text))))) ≡ Some read → Takes SpellsWord text read
words_sound text read h = elim (either-some (as_word Name text) _ read h) [
  | inl a ↦ as_word-sound Name text read a
  | inr h ↦ elim (either-some (as_word Index text) _ read h) [
    | inl a ↦ as_word-sound Index text read a
    | inr h ↦ elim (either-some (as_word Az text) _ read h) [
      | inl a ↦ as_word-sound Az text read a
      | inr h ↦ elim (either-some (as_word Address text) _ read h) [
        | inl a ↦ as_word-sound Address text read a
        | inr h ↦ elim (either-some (as_word Deployment text) (as_word Bootstrap text) read h) [
          | inl a ↦ as_word-sound Deployment text read a
          | inr a ↦ as_word-sound Bootstrap text read a
        ]
      ]
    ]
  ]
]

abbrev SpellsSpec : List ℕ → SpecWord → Type 0
SpellsSpec s word = s ≡ codes "spec." ++ word_spelling word

word_at-sound : (text : List ℕ) (read : SpecWord × List ℕ) → word_at text ≡ Some read → Takes SpellsSpec text read
unfolding word_at
word_at-sound text read h =
    let (rest, e, h2) = bind-some (behind (codes "spec.") text) _ read h in
    let is : text ≡ codes "spec." ++ rest = behind-sound (codes "spec.") text rest e in
    let t = words_sound rest read h2 in
    record { front = codes "spec." ++ t.front; is_front = ap (λ u. codes "spec." ++ u) t.is_front; whole = is ∙ ap (λ u. codes "spec." ++ u) t.whole }

-- a lookup
pub lookup_at-sound : (text : List ℕ) (read : Part × List ℕ) → lookup_at text ≡ Some read → Takes SpellsLookup text read
unfolding lookup_at
lookup_at-sound text read h = elim (either-some (as_own text) (either (linked_at text) (as_fact text)) read h) [
  | inl own ↦
      let (p, e, h2) = bind-some (property_at text) _ read own in
      let t = property_at-sound text p e in
      let (a, b) = some_pair_parts (Own p.0.0 p.0.1) read.0 p.1 read.1 h2 in
      record { front = t.front; is_front = subst (SpellsLookup t.front) a t.is_front; whole = t.whole ∙ ap (λ u. t.front ++ u) b }
  | inr more ↦ elim (either-some (linked_at text) (as_fact text) read more) [
    | inl linked ↦ linked_at-sound text read linked
    | inr word ↦
        let (p, e, h2) = bind-some (word_at text) _ read word in
        let t = word_at-sound text p e in
        let (a, b) = some_pair_parts (Word p.0) read.0 p.1 read.1 h2 in
        record { front = t.front; is_front = subst (SpellsLookup t.front) a t.is_front; whole = t.whole ∙ ap (λ u. t.front ++ u) b }
  ]
]

no_property_l : (text : List ℕ) → property_at (108 ∷ text) ≡ None
unfolding property_at
no_property_l [] = refl
no_property_l (b ∷ text) = refl

no_property_s : (text : List ℕ) → property_at (115 ∷ text) ≡ None
unfolding property_at
no_property_s [] = refl
no_property_s (b ∷ text) = refl

no_linked_s : (text : List ℕ) → linked_at (codes "spec." ++ text) ≡ None
unfolding linked_at
no_linked_s text = refl

lookup_at-linked : (s link inner rest : List ℕ) (part : Part) → SpellsLinked s link inner → in_link_at link (inner ++ rest) ≡ Some (part, rest) → lookup_at (s ++ rest) ≡ Some (part, rest)
unfolding lookup_at
lookup_at-linked s link inner rest part h read =
    let none : property_at (s ++ rest) ≡ None = ap (λ t. property_at (t ++ rest)) h.spelled ∙ no_property_l _ in
    rw (none, linked_at-front s link inner rest part h read)

pub lookup_at-front : (s : List ℕ) (part : Part) (rest : List ℕ) → SpellsLookup s part → lookup_at (s ++ rest) ≡ Some (part, rest)
unfolding lookup_at
lookup_at-front s (Literal bytes) rest h = absurd h
lookup_at-front s (Own name fallback) rest h = rw (property_at-front s name fallback rest h)
lookup_at-front s (Linked link name fallback) rest h =
    let (inner, linked, p) = h in lookup_at-linked s link inner rest (Linked link name fallback) linked (in_link_at-property link inner name fallback rest p)
lookup_at-front s (OneAddr link index) rest h =
    let (inner, linked, p) = h in lookup_at-linked s link inner rest (OneAddr link index) linked (in_link_at-one link inner index rest p)
lookup_at-front s (AllAddrs link between) rest h =
    let (inner, linked, p) = h in lookup_at-linked s link inner rest (AllAddrs link between) linked (in_link_at-all link inner between rest p)
lookup_at-front s (Word word) rest h =
    let none : property_at (s ++ rest) ≡ None = ap (λ t. property_at (t ++ rest)) h ∙ no_property_s _ in
    let other : linked_at (s ++ rest) ≡ None = ap (λ t. linked_at (t ++ rest)) h ∙ no_linked_s _ in
    rw (none, other, word_at-front s word rest h)

-- a lookup begins with no space
begins : (s : List ℕ) (part : Part) (rest : List ℕ) → SpellsLookup s part → without_leading 32 (s ++ rest) ≡ s ++ rest
begins s (Literal bytes) rest h = absurd h
begins s (Own name fallback) rest h = rw h.spelled
begins s (Linked link name fallback) rest h = let linked = h.1 in rw linked.spelled
begins s (OneAddr link index) rest h = let linked = h.1 in rw linked.spelled
begins s (AllAddrs link between) rest h = let linked = h.1 in rw linked.spelled
begins s (Word word) rest h = rw h

-- a lookup between `<%=` and `%>`
pub tag_at-front : (s : List ℕ) (part : Part) (rest : List ℕ) → SpellsTag s part → tag_at (s ++ rest) ≡ Some (part, rest)
unfolding tag_at
tag_at-front s part rest h =
    let closed : List ℕ = 37 ∷ 62 ∷ rest in
    let tail : List ℕ = replicate h.after 32 ++ closed in
    let e : s ++ rest ≡ 60 ∷ 37 ∷ 61 ∷ (replicate h.before 32 ++ (h.lookup ++ tail)) =
    rw h.spelled (simp append_assoc) in
    ap tag_at e ∙ rw (skips h.before (h.lookup ++ tail) (begins h.lookup part tail h.is_lookup), lookup_at-front h.lookup part tail h.is_lookup, skips h.after closed refl)

pub tag_at-sound : (text : List ℕ) (read : Part × List ℕ) → tag_at text ≡ Some read → Takes SpellsTag text read
unfolding tag_at
tag_at-sound text read h =
    let (inside, e, h2) = bind-some (behind (codes "<%=") text) _ read h in
    let is : text ≡ codes "<%=" ++ inside = behind-sound (codes "<%=") text inside e in
    let (before, spaces) = without_leading-split 32 inside in
    let (lookup, e2, h3) = bind-some (lookup_at (without_leading 32 inside)) _ read h2 in
    let t = lookup_at-sound (without_leading 32 inside) lookup e2 in
    let (after, more) = without_leading-split 32 lookup.1 in
    let (rest, e3, h4) = bind-some (behind (codes "%>") (without_leading 32 lookup.1)) _ read h3 in
    let end : without_leading 32 lookup.1 ≡ codes "%>" ++ rest = behind-sound (codes "%>") (without_leading 32 lookup.1) rest e3 in
    let (a, b) = some_pair_parts lookup.0 read.0 rest read.1 h4 in
    let front : List ℕ = codes "<%=" ++ replicate before 32 ++ t.front ++ replicate after 32 ++ codes "%>" in
    let tail : (codes "<%=" ++ replicate before 32 ++ t.front ++ replicate after 32 ++ codes "%>") ++ read.1 ≡ codes "<%=" ++ (replicate before 32 ++ (t.front ++ (replicate after 32 ++ (codes "%>" ++ read.1)))) = simp append_assoc in
    record {
      front = front;
      is_front = subst (SpellsTag front) a (record { before = before; lookup = t.front; after = after; is_lookup = t.is_front; spelled = refl });
      whole = is ∙ ap (λ u. codes "<%=" ++ u) (spaces ∙ ap (λ u. replicate before 32 ++ u) (t.whole ∙ ap (λ u. t.front ++ u) (more ∙ ap (λ u. replicate after 32 ++ u) (end ∙ ap (λ u. codes "%>" ++ u) b)))) ∙ sym tail;
    }
