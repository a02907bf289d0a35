-- A text before and after its first slash.
use Rattle.std.proofs.Common.{◌≡◌, ◌<◌, ℕ, zero, suc, Bool, true, false, cond, eqb, List, [], ◌∷◌, ◌++◌, length, get_or, Option, Some, None, option_map, refl, sym, ap, ◌∙◌, arith}
use Rattle.std.proofs.lemmas.Bool.{eqb-true, ne_eqb}
use Rattle.std.specs.Option.{MatchOption}
use denote.Ref.{Bor}
use Rattle.cpi_wire.proofs.CodingLemmas.{some_is}
use Rattle.cpi_proc.specs.Owner.{cut}

-- a text without a slash
pub uncut : (text : List ℕ) → ((i : ℕ) → i < length text → get_or text i 0 ≡ 47 → ⊥) → cut text ≡ None
uncut [] h = refl
uncut (c ∷ cs) h = rw (ne_eqb c 47 (h 0 (omega arith)), uncut cs (λ i below. h (suc i) (omega arith))) refl

-- a text whose front has no slash, with a slash after it
pub cut_at : (front rest : List ℕ) → ((i : ℕ) → i < length front → get_or front i 0 ≡ 47 → ⊥) → cut (front ++ 47 ∷ rest) ≡ Some (front, rest)
cut_at [] rest h = refl
cut_at (c ∷ front) rest h = rw (ne_eqb c 47 (h 0 (omega arith)), cut_at front rest (λ i below. h (suc i) (omega arith))) refl

abbrev whole : Option (List ℕ × List ℕ) → List ℕ
whole None = []
whole (Some q) = q.0 ++ 47 ∷ q.1

cons_front : (c : ℕ) (front rest text : List ℕ) (o : Option (List ℕ × List ℕ)) → ((p : List ℕ × List ℕ) → o ≡ Some p → text ≡ p.0 ++ 47 ∷ p.1) → option_map {U = List ℕ × List ℕ} (λ (p : List ℕ × List ℕ). (c ∷ p.0, p.1)) o ≡ Some (front, rest) → c ∷ text ≡ front ++ 47 ∷ rest
cons_front c front rest text None h e = absurd cc
cons_front c front rest text (Some p) h e = ap (λ t. c ∷ t) (h p refl) ∙ ap whole e

cut_step : (c : ℕ) (cs front rest : List ℕ) (b : Bool) → eqb c 47 ≡ b → ((p : List ℕ × List ℕ) → cut cs ≡ Some p → cs ≡ p.0 ++ 47 ∷ p.1) → cut (c ∷ cs) ≡ Some (front, rest) → c ∷ cs ≡ front ++ 47 ∷ rest
cut_step c cs front rest true is h e =
    let slash : c ≡ 47 = eqb-true c 47 is in
    let both : ([], cs) ≡ (front, rest) = some_is ([], cs) (front, rest) (sym (ap (λ b. cond b (Some ([], cs)) (option_map {U = List ℕ × List ℕ} (λ (p : List ℕ × List ℕ). (c ∷ p.0, p.1)) (cut cs))) is) ∙ e) in
    ap (λ d. d ∷ cs) slash ∙ ap (λ (q : List ℕ × List ℕ). q.0 ++ 47 ∷ q.1) both
cut_step c cs front rest false is h e = cons_front c front rest cs (cut cs) h (sym (ap (λ b. cond b (Some ([], cs)) (option_map {U = List ℕ × List ℕ} (λ (p : List ℕ × List ℕ). (c ∷ p.0, p.1)) (cut cs))) is) ∙ e)

pub cut_parts : (text : List ℕ) (p : List ℕ × List ℕ) → cut text ≡ Some p → text ≡ p.0 ++ 47 ∷ p.1
cut_parts [] p e = absurd cc
cut_parts (c ∷ cs) p e = cut_step c cs p.0 p.1 (eqb c 47) refl (cut_parts cs) e

-- what is found at the first slash
pub cut_is : (text : List ℕ) (r : Option (Bor (List ℕ) × Bor (List ℕ)))
    → MatchOption r ((i : ℕ) → i < length text → get_or text i 0 ≡ 47 → ⊥) (λ x. (text ≡ x.0.now ++ (47 ∷ x.1.now)) × ((i : ℕ) → i < length x.0.now → get_or x.0.now i 0 ≡ 47 → ⊥))
    → option_map (λ (p : Bor (List ℕ) × Bor (List ℕ)). (p.0.now, p.1.now)) r ≡ cut text
cut_is text None h = sym (uncut text h)
cut_is text (Some x) h = sym (ap cut h.0 ∙ cut_at x.0.now x.1.now h.1)
