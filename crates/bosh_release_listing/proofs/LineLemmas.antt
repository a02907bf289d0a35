-- Lines are told from the text that they make.
use Rattle.std.proofs.Common.{◌≡◌, ◌∙◌, ap, sym, refl, arith, rules, ℕ, true, List, [], ◌∷◌, ◌++◌, length}
use Rattle.std.proofs.lemmas.List.Elements.{All-cons, All-head, All-tail}
use Rattle.std.specs.Prelude.{All}
use Rattle.bosh_release_listing.specs.Lines.{IsOneLine, is_no_lf, line, text_of}

abbrev pub IsNoLf : ℕ → Type 0
IsNoLf b = is_no_lf b ≡ true

-- the first line ends at the first LF
line_split :
    (x y xs ys : List ℕ) → IsOneLine x → IsOneLine y → x ++ 10 ∷ xs ≡ y ++ 10 ∷ ys → (x ≡ y) × (xs ≡ ys)
line_split [] [] xs ys hx hy e = (refl, cc)
line_split [] (b ∷ y) xs ys hx hy e =
    let h = All-head IsNoLf b y hy in
    let same : 10 ≡ b = cc in
    absurd (grind rules)
line_split (a ∷ x) [] xs ys hx hy e =
    let h = All-head IsNoLf a x hx in
    let same : a ≡ 10 = cc in
    absurd (grind rules)
line_split (a ∷ x) (b ∷ y) xs ys hx hy e =
    let rest : x ++ 10 ∷ xs ≡ y ++ 10 ∷ ys = cc in
    let it = line_split x y xs ys (All-tail IsNoLf a x hx) (All-tail IsNoLf b y hy) rest in
    let one = it.0 in
    let head : a ≡ b = cc in
    (cc, it.1)

append_line : (x rest : List ℕ) → line x ++ rest ≡ x ++ 10 ∷ rest
append_line [] rest = cc
append_line (a ∷ x) rest = ap (λ ys. a ∷ ys) (append_line x rest)

not_empty : (x rest : List ℕ) → [] ≡ line x ++ rest → ⊥
not_empty [] rest e = cc
not_empty (a ∷ x) rest e = cc

-- two texts of lines without LF are the same only where the lines are
pub lines_tell : (xs ys : List (List ℕ)) → All IsOneLine xs → All IsOneLine ys → text_of xs ≡ text_of ys → xs ≡ ys
lines_tell [] [] hx hy e = refl
lines_tell [] (y ∷ ys) hx hy e = absurd (not_empty y (text_of ys) e)
lines_tell (x ∷ xs) [] hx hy e = absurd (not_empty x (text_of xs) (sym e))
lines_tell (x ∷ xs) (y ∷ ys) hx hy e =
    let it =
    line_split x y (text_of xs) (text_of ys) (All-head IsOneLine x xs hx) (All-head IsOneLine y ys hy)
    (sym (append_line x (text_of xs)) ∙ e ∙ append_line y (text_of ys)) in
    let rest = lines_tell xs ys (All-tail IsOneLine x xs hx) (All-tail IsOneLine y ys hy) it.1 in
    let first = it.0 in
    cc

-- one line of two texts without LF
pub one_line_append : (x y : List ℕ) → IsOneLine x → IsOneLine y → IsOneLine (x ++ y)
one_line_append [] y hx hy = hy
one_line_append (a ∷ x) y hx hy =
    All-cons IsNoLf a (x ++ y) (All-head IsNoLf a x hx) (one_line_append x y (All-tail IsNoLf a x hx) hy)

-- fronts of one length are the same
pub append_split : (x y xs ys : List ℕ) → length x ≡ length y → x ++ xs ≡ y ++ ys → (x ≡ y) × (xs ≡ ys)
append_split [] [] xs ys l e = (refl, e)
append_split [] (b ∷ y) xs ys l e = absurd (omega arith)
append_split (a ∷ x) [] xs ys l e = absurd (omega arith)
append_split (a ∷ x) (b ∷ y) xs ys l e =
    let it = append_split x y xs ys (omega arith) cc in
    let one = it.0 in
    let head : a ≡ b = cc in
    (cc, it.1)
