-- The owner that a text names.
use Rattle.std.proofs.Common.{◌≡◌, ◌<◌, ◌^◌, ℕ, zero, suc, Bool, true, false, ◌&&◌, ◌==◌, cond, eqb, ltb, List, [], ◌∷◌, ◌++◌, length, get_or, Option, Some, None, option_map, decimal, codes, IsUtf8, refl, sym, ap, ap₂, subst, ◌∙◌, arith}
use Rattle.std.proofs.lemmas.Bool.{and_from, and_parts, ltb-true}
use Rattle.std.proofs.lemmas.Bool.Decides.{nat_tests}
use Rattle.std.proofs.lemmas.Fmt.{IsAscii-decimal, decimal_is_IsNumeral}
use Rattle.std.proofs.lemmas.Slice.Eq.{bytes_eq-Decides}
use Rattle.std.proofs.lemmas.Str.{IsUtf8-append, IsUtf8-from_ascii}
use Rattle.std.proofs.lemmas.Str.Parse.{digit_at}
use Rattle.std.specs.Char.{is_ascii_alphanumeric}
use Rattle.std.specs.List.{list_all}
use Rattle.std.specs.Str.{bytes_eq}
use Rattle.bosh_base.specs.Name.{is_name, is_name_byte}
use Rattle.bosh_base.specs.declared.inst.Inst.{Inst}
use Rattle.bosh_base.specs.declared.owner.Owner.{Owner}
use Rattle.bosh_base.specs.declared.owner.Owner.TheVariants.{Instance, Compile, Disk}
use Rattle.json.proofs.Printed.Utf8.{IsUtf8-are_ascii}
use Rattle.cpi_wire.specs.Number.{is_number, is_small}
use Rattle.cpi_wire.specs.Reading.{◌>>=◌}
use Rattle.cpi_wire.proofs.CodingLemmas.{bind_some, chosen, mapped_some, only_some, some_is}
use Rattle.cpi_wire.proofs.ValueLemmas.{ascii_all, name_bytes, small_is_number}
use Rattle.cpi_proc.specs.Decimal.{number_in, small_in}
use Rattle.cpi_proc.specs.Owner.{cut, inst_in, is_owner, owner_in, owner_of_three, owner_of_two, owner_text}
use Rattle.cpi_proc.proofs.CutLemmas.{cut_at, cut_parts}
use Rattle.cpi_proc.proofs.DecimalLemmas.{number_again, number_taken}

-- a text names an owner
abbrev Names : List ℕ → Owner → Type 0
Names text o = (text ≡ owner_text o) × (is_owner o ≡ true)

small_taken : (text : List ℕ) (n : ℕ) → small_in text ≡ Some n → (text ≡ decimal n) × (is_small n ≡ true)
small_taken text n e = let parts = only_some is_small (number_in text) n e in ((number_taken text n parts.0).0, parts.1)

small_again : (n : ℕ) → is_small n ≡ true → small_in (decimal n) ≡ Some n
small_again n h = rw (number_again n (small_is_number n h)) (rw h refl)

-- ---- what is read

inst_taken : (dep group index : List ℕ) (inst : Inst) → inst_in dep group index ≡ Some inst → Names (dep ++ 47 ∷ (group ++ 47 ∷ index)) (Instance inst)
inst_taken dep group index inst e =
    let number = bind_some (small_in index) (λ i. cond (is_name dep && is_name group) (Some (record { dep = dep; group = group; index = i })) None) inst e in
    let named = chosen (is_name dep && is_name group) (record { dep = dep; group = group; index = number.0 }) inst number.2 in
    let t = small_taken index number.0 number.1 in
    subst (λ (x : Inst). Names (dep ++ 47 ∷ (group ++ 47 ∷ index)) (Instance x)) named.1 (
      ap (λ (s : List ℕ). dep ++ 47 ∷ (group ++ 47 ∷ s)) t.0,
      and_from (is_name dep && is_name group) (is_small number.0) named.0 t.1,
    )

three_taken : (head second third : List ℕ) (o : Owner) (b : Bool) → bytes_eq head (codes "@compile") ≡ b → owner_of_three head second third ≡ Some o → Names (head ++ 47 ∷ (second ++ 47 ∷ third)) o
three_taken head second third o true is e =
    let compile = sym (ap (λ c. cond c (number_in second >>= λ task. option_map (λ slot. Compile task slot) (small_in third)) (option_map Instance (inst_in head second third))) is) ∙ e in
    let task = bind_some (number_in second) (λ task. option_map (λ slot. Compile task slot) (small_in third)) o compile in
    let slot = mapped_some (λ slot. Compile task.0 slot) (small_in third) o task.2 in
    let same : head ≡ codes "@compile" = (bytes_eq-Decides head (codes "@compile")).0 is in
    let t = number_taken second task.0 task.1 in
    let s = small_taken third slot.0 slot.1 in
    subst (λ (x : Owner). Names (head ++ 47 ∷ (second ++ 47 ∷ third)) x) slot.2 (
      ap (λ (h : List ℕ). h ++ 47 ∷ (second ++ 47 ∷ third)) same ∙ ap₂ (λ (x y : List ℕ). codes "@compile/" ++ (x ++ 47 ∷ y)) t.0 s.0,
      and_from (is_number task.0) (is_small slot.0) t.1 s.1,
    )
three_taken head second third o false is e =
    let instance = sym (ap (λ c. cond c (number_in second >>= λ task. option_map (λ slot. Compile task slot) (small_in third)) (option_map Instance (inst_in head second third))) is) ∙ e in
    let inst = mapped_some Instance (inst_in head second third) o instance in
    subst (λ (x : Owner). Names (head ++ 47 ∷ (second ++ 47 ∷ third)) x) inst.2 (inst_taken head second third inst.0 inst.1)

two_taken : (head rest : List ℕ) (o : Owner) (b : Bool) → bytes_eq head (codes "@disk") ≡ b → owner_of_two head rest ≡ Some o → Names (head ++ 47 ∷ rest) o
two_taken head rest o true is e =
    let disk = sym (ap (λ c. cond c (option_map Disk (number_in rest)) (cut rest >>= λ parts. owner_of_three head parts.0 parts.1)) is) ∙ e in
    let n = mapped_some Disk (number_in rest) o disk in
    let same : head ≡ codes "@disk" = (bytes_eq-Decides head (codes "@disk")).0 is in
    let t = number_taken rest n.0 n.1 in
    subst (λ (x : Owner). Names (head ++ 47 ∷ rest) x) n.2 (ap₂ (λ (h r : List ℕ). h ++ 47 ∷ r) same t.0, t.1)
two_taken head rest o false is e =
    let more = sym (ap (λ c. cond c (option_map Disk (number_in rest)) (cut rest >>= λ parts. owner_of_three head parts.0 parts.1)) is) ∙ e in
    let parts = bind_some (cut rest) (λ parts. owner_of_three head parts.0 parts.1) o more in
    let three = three_taken head parts.0.0 parts.0.1 o (bytes_eq head (codes "@compile")) refl parts.2 in
    (ap (λ (r : List ℕ). head ++ 47 ∷ r) (cut_parts rest parts.0 parts.1) ∙ three.0, three.1)

pub owner_taken : (text : List ℕ) (o : Owner) → owner_in text ≡ Some o → Names text o
unfolding owner_in
owner_taken text o e =
    let parts = bind_some (cut text) (λ parts. owner_of_two parts.0 parts.1) o e in
    let two = two_taken parts.0.0 parts.0.1 o (bytes_eq parts.0.0 (codes "@disk")) refl parts.2 in
    (cut_parts text parts.0 parts.1 ∙ two.0, two.1)

-- ---- what is written

no_slash_in_decimal : (n : ℕ) → is_number n ≡ true → (i : ℕ) → i < length (decimal n) → get_or (decimal n) i 0 ≡ 47 → ⊥
no_slash_in_decimal n h i below e =
    let digits = (decimal_is_IsNumeral n (ltb-true n (2 ^ 64) h)).0.1 in
    let range = digit_at (decimal n) i digits below in
    omega (arith, range.0)

no_slash_byte : (c : ℕ) → is_name_byte c ≡ true → c ≡ 47 → ⊥
no_slash_byte c h e = grind (arith, nat_tests)

no_slash : (name : List ℕ) → list_all is_name_byte name ≡ true → (i : ℕ) → i < length name → get_or name i 0 ≡ 47 → ⊥
no_slash [] h i below e = omega arith
no_slash (c ∷ cs) h zero below e = no_slash_byte c (and_parts (is_name_byte c) (list_all is_name_byte cs) h).0 e
no_slash (c ∷ cs) h (suc i) below e = no_slash cs (and_parts (is_name_byte c) (list_all is_name_byte cs) h).1 i (omega arith) e

first_byte : (c : ℕ) → is_ascii_alphanumeric c ≡ true → (c == 64) ≡ false
first_byte c h = grind (arith, nat_tests)

-- a name is no word that begins with `@`
no_sign : (name word : List ℕ) → is_name name ≡ true → bytes_eq name (64 ∷ word) ≡ false
no_sign [] word h = absurd cc
no_sign (c ∷ cs) word h =
    let outer = and_parts (ltb (length cs) 64) (is_ascii_alphanumeric c && list_all is_name_byte cs) h in
    let inner = and_parts (is_ascii_alphanumeric c) (list_all is_name_byte cs) outer.1 in
    rw (first_byte c inner.0) refl

pub owner_again : (o : Owner) → is_owner o ≡ true → owner_in (owner_text o) ≡ Some o
unfolding owner_in
owner_again (Disk n) h = ap (option_map Disk) (number_again n h)
owner_again (Compile task slot) h =
    let parts = and_parts (is_number task) (is_small slot) h in
    ap (λ (c : Option (List ℕ × List ℕ)). c >>= λ p. owner_of_three (codes "@compile") p.0 p.1) (cut_at (decimal task) (decimal slot) (no_slash_in_decimal task parts.0))
    ∙ rw (number_again task parts.0, small_again slot parts.1) refl
owner_again (Instance inst) h =
    let outer = and_parts (is_name inst.dep && is_name inst.group) (is_small inst.index) h in
    let names = and_parts (is_name inst.dep) (is_name inst.group) outer.0 in
    ap (λ (c : Option (List ℕ × List ℕ)). c >>= λ p. owner_of_two p.0 p.1) (cut_at inst.dep (inst.group ++ 47 ∷ decimal inst.index) (no_slash inst.dep (name_bytes inst.dep names.0)))
    ∙ ap (λ b. cond b (option_map Disk (number_in (inst.group ++ 47 ∷ decimal inst.index))) (cut (inst.group ++ 47 ∷ decimal inst.index) >>= λ p. owner_of_three inst.dep p.0 p.1)) (no_sign inst.dep (100 ∷ 105 ∷ 115 ∷ 107 ∷ []) names.0)
    ∙ ap (λ (c : Option (List ℕ × List ℕ)). c >>= λ p. owner_of_three inst.dep p.0 p.1) (cut_at inst.group (decimal inst.index) (no_slash inst.group (name_bytes inst.group names.1)))
    ∙ ap (λ b. cond b (number_in inst.group >>= λ task. option_map (λ slot. Compile task slot) (small_in (decimal inst.index))) (option_map Instance (inst_in inst.dep inst.group (decimal inst.index)))) (no_sign inst.dep (99 ∷ 111 ∷ 109 ∷ 112 ∷ 105 ∷ 108 ∷ 101 ∷ []) names.0)
    ∙ rw (small_again inst.index outer.1) (rw outer.0 refl)

-- ---- its text is UTF-8

ascii_byte : (c : ℕ) → is_name_byte c ≡ true → ltb c 128 ≡ true
ascii_byte c h = grind (arith, nat_tests)

ascii_bytes : (name : List ℕ) → list_all is_name_byte name ≡ true → list_all (λ b. ltb b 128) name ≡ true
ascii_bytes [] h = refl
ascii_bytes (c ∷ cs) h =
    let parts = and_parts (is_name_byte c) (list_all is_name_byte cs) h in
    and_from (ltb c 128) (list_all (λ b. ltb b 128) cs) (ascii_byte c parts.0) (ascii_bytes cs parts.1)

name_utf8 : (name : List ℕ) → is_name name ≡ true → IsUtf8 name
name_utf8 name h = IsUtf8-from_ascii name (ascii_all name (ascii_bytes name (name_bytes name h)))

pub decimal_utf8 : (n : ℕ) → is_number n ≡ true → IsUtf8 (decimal n)
decimal_utf8 n h = IsUtf8-from_ascii (decimal n) (IsAscii-decimal n (ltb-true n (2 ^ 64) h))

slash_then : (bytes : List ℕ) → IsUtf8 bytes → IsUtf8 (47 ∷ bytes)
slash_then bytes u = IsUtf8-append (47 ∷ []) bytes (IsUtf8-are_ascii _ refl) u

pub owner_utf8 : (o : Owner) → is_owner o ≡ true → IsUtf8 (owner_text o)
owner_utf8 (Disk n) h = IsUtf8-append (codes "@disk/") (decimal n) (IsUtf8-are_ascii _ refl) (decimal_utf8 n h)
owner_utf8 (Compile task slot) h =
    let parts = and_parts (is_number task) (is_small slot) h in
    IsUtf8-append (codes "@compile/") _ (IsUtf8-are_ascii _ refl) (IsUtf8-append (decimal task) _ (decimal_utf8 task parts.0) (slash_then (decimal slot) (decimal_utf8 slot (small_is_number slot parts.1))))
owner_utf8 (Instance inst) h =
    let outer = and_parts (is_name inst.dep && is_name inst.group) (is_small inst.index) h in
    let names = and_parts (is_name inst.dep) (is_name inst.group) outer.0 in
    IsUtf8-append inst.dep _ (name_utf8 inst.dep names.0) (slash_then _ (IsUtf8-append inst.group _ (name_utf8 inst.group names.1) (slash_then _ (decimal_utf8 inst.index (small_is_number inst.index outer.1)))))
