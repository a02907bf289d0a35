-- Rows of bodies, one after the other.
use Rattle.std.proofs.Common.{◌≡◌, ◌≢◌, ◌⊎◌, ℕ, ◌+◌, ◌<◌, suc, Bool, true, false, refl, List, [], ◌∷◌, ◌++◌, sym, ◌∙◌, ap, subst, inl, inr, arith, take, drop, get_or, append_assoc, length-append}
use Rattle.std.specs.Prelude.{◌&&◌, length, nat_eq, Vec}
use Rattle.std.specs.Cmp.Lexicographic.{other_text, pointwise, same_text}
use Rattle.std.specs.declared.alloc.Global.{Global}
use Rattle.bosh_ports.specs.Contents.{contents}
use Rattle.std.proofs.lemmas.List.{take-append-drop, take_more}
use Rattle.bosh_keep_sql.specs.declared.fault.LoadFault.{LoadFault}
use Rattle.bosh_keep_sql.specs.declared.fault.LoadFault.TheVariants.{Failed, Foreign, Gap, NotABody, Memory}
use Rattle.bosh_keep_sql.specs.Faults.{kept_as}
use Rattle.bosh_ports.specs.declared.keeper.KeepFault.TheVariants as keep
use Rattle.bosh_keep_sql.specs.Rows.{AreFaulty, IsFaultyRow, row_of, rows_from}
use Rattle.sqlite.specs.Order.{Row, column}

-- one body more
pub rows_from-more : (first : ℕ) (bodies : List (List ℕ)) (body : List ℕ) →
    rows_from first (bodies ++ body ∷ []) ≡ rows_from first bodies ++ row_of (length bodies + first) body ∷ []
rows_from-more first [] body = let e : first ≡ 0 + first = omega arith in ap (λ n. row_of n body ∷ []) e
rows_from-more first (b ∷ bodies) body =
    let e : length bodies + suc first ≡ length (b ∷ bodies) + first = omega arith in
    ap (λ rows. row_of first b ∷ rows) (rows_from-more (suc first) bodies body
    ∙ ap (λ n. rows_from (suc first) bodies ++ row_of n body ∷ []) e)

-- the next row
pub rows_step : (rows : List Row) (place : ℕ) (row : Row) (before after : List (List ℕ)) (body : List ℕ) →
    place < length rows → (rows_from 0 before ≡ take place rows) × (length before ≡ place) →
    row ≡ get_or rows place row → row ≡ row_of place body → after ≡ before ++ body ∷ [] →
    (rows_from 0 after ≡ take (place + 1) rows) × (length after ≡ place + 1)
rows_step rows place row before after body within far at is more =
    let size : length before + 0 ≡ place = omega (arith, far.1) in
    let next : rows_from 0 (before ++ body ∷ []) ≡ take (place + 1) rows =
    rows_from-more 0 before body
    ∙ ap (λ n. rows_from 0 before ++ row_of n body ∷ []) size
    ∙ ap (λ xs. xs ++ row_of place body ∷ []) far.0
    ∙ ap (λ x. take place rows ++ x ∷ []) (sym is ∙ at)
    ∙ sym (take_more rows place row within) in
    (ap (rows_from 0) more ∙ next, ap length more ∙ length-append before (body ∷ []) ∙ omega (arith, far.1))

-- lists whose bodies were compared one by one
both : (a b : Bool) → (a && b) ≡ true → (a ≡ true) × (b ≡ true)
both true b is = (refl, is)
both false b is = absurd cc

pub same_all : (xs ys : List (Vec ℕ Global)) → pointwise (λ a b. pointwise nat_eq a.items b.items) xs ys ≡ true →
    contents xs ≡ contents ys
same_all [] [] is = refl
same_all [] (y ∷ ys) is = absurd cc
same_all (x ∷ xs) [] is = absurd cc
same_all (x ∷ xs) (y ∷ ys) is =
    let parts = both (pointwise nat_eq x.items y.items) (pointwise (λ a b. pointwise nat_eq a.items b.items) xs ys) is in
    ap (λ b. b ∷ contents xs) (same_text x.items y.items (sym parts.0))
    ∙ ap (λ bs. y.items ∷ bs) (same_all xs ys parts.1)

-- lists of which one pair of bodies differs
either : (a b : Bool) → (a && b) ≡ false → (a ≡ false) ⊎ (b ≡ false)
either true b is = inr is
either false b is = inl refl

pub other_all : (xs ys : List (Vec ℕ Global)) → pointwise (λ a b. pointwise nat_eq a.items b.items) xs ys ≡ false →
    contents xs ≢ contents ys
other_all [] [] is = absurd cc
other_all [] (y ∷ ys) is = λ same. absurd cc
other_all (x ∷ xs) [] is = λ same. absurd cc
other_all (x ∷ xs) (y ∷ ys) is = λ same.
    let first : x.items ≡ y.items = cc in
    let others : contents xs ≡ contents ys = cc in
    elim (either (pointwise nat_eq x.items y.items) (pointwise (λ a b. pointwise nat_eq a.items b.items) xs ys) is) [
      | inl here ↦ other_text x.items y.items (sym here) first
      | inr there ↦ other_all xs ys there others
    ]

-- rows about one of them
pub split : {A : Type 0} (rows : List A) (place : ℕ) (row : A) → place < length rows → row ≡ get_or rows place row →
    rows ≡ take place rows ++ row ∷ drop (place + 1) rows
split rows place row within at =
    sym (take-append-drop (place + 1) rows)
    ∙ ap (λ xs. xs ++ drop (place + 1) rows) (take_more rows place row within)
    ∙ append_assoc (take place rows) (get_or rows place row ∷ []) (drop (place + 1) rows)
    ∙ ap (λ x. take place rows ++ x ∷ drop (place + 1) rows) (sym at)

-- rows that are those of bodies up to one that is not
pub rows_faulty : (rows : List Row) (place : ℕ) (row : Row) (before : List (List ℕ)) (fault : LoadFault) →
    place < length rows → (rows_from 0 before ≡ take place rows) × (length before ≡ place) →
    row ≡ get_or rows place row → IsFaultyRow place row fault → AreFaulty rows fault
rows_faulty rows place row before fault within far at is = (
  before,
  row,
  drop (place + 1) rows,
  split rows place row within at ∙ ap (λ xs. xs ++ row ∷ drop (place + 1) rows) (sym far.0),
  subst (λ n. IsFaultyRow n row fault) (sym far.1) is,
)

-- such rows are those of no bodies
front : (first : ℕ) (before : List (List ℕ)) (row : Row) (rest : List Row) (bodies : List (List ℕ)) →
    rows_from first before ++ row ∷ rest ≡ rows_from first bodies →
    (body : List ℕ) × (row ≡ row_of (length before + first) body)
front first [] row rest [] same = absurd cc
front first [] row rest (body ∷ bodies) same =
    let is : row ≡ row_of first body = cc in
    let e : first ≡ 0 + first = omega arith in
    (body, is ∙ ap (λ n. row_of n body) e)
front first (b ∷ before) row rest [] same = absurd cc
front first (b ∷ before) row rest (body ∷ bodies) same =
    let later : rows_from (suc first) before ++ row ∷ rest ≡ rows_from (suc first) bodies = cc in
    let found = front (suc first) before row rest bodies later in
    let e : length before + suc first ≡ length (b ∷ before) + first = omega arith in
    (found.0, found.1 ∙ ap (λ n. row_of n found.0) e)

is_no_row : (place : ℕ) (row : Row) (fault : LoadFault) → IsFaultyRow place row fault →
    (body : List ℕ) → row ≢ row_of place body
is_no_row place row (Gap at) is body = λ same. is.1 (ap (λ r. column r 0) same)
is_no_row place row (NotABody at) is body = is.2 body
is_no_row place row Memory is body = absurd is
is_no_row place row Failed is body = absurd is
is_no_row place row Foreign is body = absurd is

pub faulty_are_others : (rows : List Row) (fault : LoadFault) (bodies : List (List ℕ)) → AreFaulty rows fault →
    rows ≢ rows_from 0 bodies
faulty_are_others rows fault bodies are = λ same.
    let found = front 0 are.0 are.1 are.2 bodies (sym are.3 ∙ same) in
    let e : length are.0 + 0 ≡ length are.0 = omega arith in
    is_no_row (length are.0) are.1 fault are.4 found.0 (found.1 ∙ ap (λ n. row_of n found.0) e)

pub is_faulty : (rows : List Row) (fault : LoadFault) (bodies : List (List ℕ)) →
    (fault ≢ Memory → AreFaulty rows fault) → kept_as fault ≡ keep.Failed → rows ≢ rows_from 0 bodies
is_faulty rows fault bodies are kept =
    faulty_are_others rows fault bodies
    (are (λ is. let bad : keep.Memory ≡ keep.Failed = sym (ap kept_as is) ∙ kept in absurd cc))

-- rows are those of one list of bodies alone
pub rows_same : (first : ℕ) (xs ys : List (List ℕ)) → rows_from first xs ≡ rows_from first ys → xs ≡ ys
rows_same first [] [] same = refl
rows_same first [] (y ∷ ys) same = absurd cc
rows_same first (x ∷ xs) [] same = absurd cc
rows_same first (x ∷ xs) (y ∷ ys) same =
    let here : x ≡ y = cc in
    let later : rows_from (suc first) xs ≡ rows_from (suc first) ys = cc in
    ap (λ b. b ∷ xs) here ∙ ap (λ bs. y ∷ bs) (rows_same (suc first) xs ys later)
