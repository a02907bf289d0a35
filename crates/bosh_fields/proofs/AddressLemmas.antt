-- An address is read in its spelling.
use Rattle.std.proofs.Common.{lt-ltb, append_assoc, ◌≡◌, ◌≢◌, ℕ, ◌+◌, ◌-◌, ◌*◌, ◌/◌, ◌%◌, ◌^◌, ◌<◌, ◌≤◌, ◌&&◌, Bool, true, false, nat_lt, List, [], ◌∷◌, ◌++◌, Option, Some, None, arith, refl, sym, ap, ◌∙◌, subst, inl, inr, ne_eqb, decimal}
use Rattle.std.specs.List.{fold}
use Rattle.std.specs.Str.{bytes_eq}
use Rattle.std.proofs.lemmas.Bool.{cases_Bool, cases_lt, ltb-true}
use Rattle.std.proofs.lemmas.Slice.Eq.{bytes_eq-Decides}
use Rattle.std.proofs.lemmas.Fmt.{decimal_digit, decimal_step}
use Rattle.std.proofs.lemmas.List.Sums.{fold-append}
use Rattle.bosh_base.specs.declared.addr.Addr.{Addr}
use Rattle.bosh_ip.specs.Address.{spelling_of_addr, SpellsAddr}
use Rattle.bosh_fields.specs.Address.{read_byte, number_in, addr_in}

-- a digit goes to the octet
read_digit : (whole octet n : ℕ) → n < 10 → read_byte (whole, octet) (48 + n) ≡ (whole, 10 * octet + n)
read_digit whole octet n below =
    let other : (48 + n) ≢ 46 = λ e. omega (arith, e) in
    let value : (48 + n) - 48 ≡ n = omega arith in
    rw (ne_eqb (48 + n) 46 other, value) refl

-- an octet is read in its decimal
read_one : (whole n : ℕ) → n < 10 → fold read_byte (whole, 0) (decimal n) ≡ (whole, n)
read_one whole n below = rw (decimal_digit n below) (read_digit whole 0 n below ∙ ap (λ octet. (whole, octet)) (omega arith))

-- and with one digit more
read_more : (whole n : ℕ) → 10 ≤ n → n < 256 → fold read_byte (whole, 0) (decimal (n / 10)) ≡ (whole, n / 10) → fold read_byte (whole, 0) (decimal n) ≡ (whole, n)
read_more whole n least below front =
    let last : n % 10 < 10 = omega arith in
    let digits : fold read_byte (whole, 0) (decimal n) ≡ fold read_byte (fold read_byte (whole, 0) (decimal (n / 10))) ((48 + n % 10) ∷ []) =
    ap (fold read_byte (whole, 0)) (decimal_step n least (omega arith)) ∙ fold-append read_byte (whole, 0) (decimal (n / 10)) ((48 + n % 10) ∷ []) in
    digits ∙ ap (λ so_far. read_byte so_far (48 + n % 10)) front ∙ read_digit whole (n / 10) (n % 10) last ∙ ap (λ octet. (whole, octet)) (omega arith)

read_two : (whole n : ℕ) → n < 100 → fold read_byte (whole, 0) (decimal n) ≡ (whole, n)
read_two whole n below =
    elim (cases_lt n 10) [ inl small ↦ read_one whole n small | inr large ↦ read_more whole n large (omega arith) (read_one whole (n / 10) (omega arith)) ]

read_octet : (whole n : ℕ) → n < 256 → fold read_byte (whole, 0) (decimal n) ≡ (whole, n)
read_octet whole n below =
    elim (cases_lt n 100) [ inl small ↦ read_two whole n small | inr large ↦ read_more whole n (omega arith) below (read_two whole (n / 10) (omega arith)) ]

-- an octet and what follows it
read_front : (whole n : ℕ) (text : List ℕ) → n < 256 → fold read_byte (whole, 0) (decimal n ++ 46 ∷ [] ++ text) ≡ fold read_byte ((whole + n) * 256, 0) text
read_front whole n text below =
    fold-append read_byte (whole, 0) (decimal n ++ 46 ∷ []) text
    ∙ ap (λ so_far. fold read_byte so_far text) (fold-append read_byte (whole, 0) (decimal n) (46 ∷ []) ∙ ap (λ so_far. read_byte so_far 46) (read_octet whole n below))

-- the number in the spelling of an address is the address
pub number_in-spelling : (n : ℕ) → n < 2 ^ 32 → number_in (spelling_of_addr n) ≡ n
unfolding spelling_of_addr
number_in-spelling n fits =
    let a = n / 2 ^ 24 in
    let b = n / 2 ^ 16 % 2 ^ 8 in
    let c = n / 2 ^ 8 % 2 ^ 8 in
    let d = n % 2 ^ 8 in
    let shape : spelling_of_addr n ≡ decimal a ++ 46 ∷ [] ++ (decimal b ++ 46 ∷ [] ++ (decimal c ++ 46 ∷ [] ++ decimal d)) = simp append_assoc in
    let read : fold read_byte (0, 0) (spelling_of_addr n) ≡ ((((0 + a) * 256 + b) * 256 + c) * 256, d) =
    ap (fold read_byte (0, 0)) shape ∙ read_front 0 a _ (omega arith) ∙ read_front ((0 + a) * 256) b _ (omega arith)
    ∙ read_front (((0 + a) * 256 + b) * 256) c _ (omega arith) ∙ read_octet ((((0 + a) * 256 + b) * 256 + c) * 256) d (omega arith) in
    ap (λ so_far. so_far.0 + so_far.1) read ∙ omega arith

-- both of two tests are true
both : (x y : Bool) → (x && y) ≡ true → (x ≡ true) × (y ≡ true)
both true y h = (refl, h)
both false y h = absurd (cc)

-- a text that spells an address has that one
pub addr_in-spelled : (text : List ℕ) (n : ℕ) → SpellsAddr text n → addr_in text ≡ Some (record { 0 = n })
unfolding addr_in
addr_in-spelled text n h =
    let same : number_in text ≡ n = ap number_in h.spelled ∙ number_in-spelling n h.fits in
    let fits : nat_lt n (2 ^ 32) ≡ true = lt-ltb n (2 ^ 32) h.fits in
    let spelled : bytes_eq (spelling_of_addr n) text ≡ true = (bytes_eq-Decides (spelling_of_addr n) text).1 (sym h.spelled) in
    rw (same, fits, spelled) refl

-- and another has none
pub addr_in-none : (text : List ℕ) → ((n : ℕ) → SpellsAddr text n → ⊥) → addr_in text ≡ None
unfolding addr_in
addr_in-none text unspelled =
    let n = number_in text in
    elim (cases_Bool (nat_lt n (2 ^ 32) && bytes_eq (spelling_of_addr n) text)) [
      | inl met ↦
          let parts = both (nat_lt n (2 ^ 32)) (bytes_eq (spelling_of_addr n) text) met in
          absurd (unspelled n (record { fits = ltb-true n (2 ^ 32) parts.0; spelled = sym ((bytes_eq-Decides (spelling_of_addr n) text).0 parts.1) }))
      | inr unmet ↦ rw unmet refl
    ]

-- a value is one
pub some_same : {A : Type 0} {x y : A} → ◌≡◌ {A = Option A} (Some x) (Some y) → x ≡ y
some_same h = cc

-- the address that a text has is spelled by it
pub addr_in-some : (text : List ℕ) (addr : Addr) → addr_in text ≡ Some addr → SpellsAddr text addr.0
unfolding addr_in
addr_in-some text addr is =
    let n = number_in text in
    elim (cases_Bool (nat_lt n (2 ^ 32) && bytes_eq (spelling_of_addr n) text)) [
      | inl met ↦
          let parts = both (nat_lt n (2 ^ 32)) (bytes_eq (spelling_of_addr n) text) met in
          let here : Some (record { 0 = n }) ≡ Some addr = sym (rw met refl) ∙ is in
          let same : n ≡ addr.0 = ap (λ a. a.0) (some_same here) in
          subst (SpellsAddr text) same (record { fits = ltb-true n (2 ^ 32) parts.0; spelled = sym ((bytes_eq-Decides (spelling_of_addr n) text).0 parts.1) })
      | inr unmet ↦ let none : None ≡ Some addr = sym (rw unmet refl) ∙ is in absurd (cc)
    ]
