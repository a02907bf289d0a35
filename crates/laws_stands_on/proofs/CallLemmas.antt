-- Whose calls are open, and how many, once a call began or ended.
use Rattle.std.proofs.Common.{◌≡◌, ◌∙◌, ℕ, ◌+◌, ◌≤◌, zero, suc, Bool, true, false, ◌&&◌, not, [], ◌∷◌, Some}
use Rattle.std.proofs.Common.{None, ap, refl, sym, subst, arith, add-one, Option}
use Rattle.std.specs.Prelude.{◌==◌, cond, count_by, eqb, min, if◌then◌else◌}
use Rattle.std.proofs.lemmas.Bool.Decides.{nat_tests}
use Rattle.std.proofs.lemmas.List.Sums.{sum_by_push}
use Rattle.std.specs.List.{list_all}
use Rattle.std.proofs.lemmas.Bool.{and_parts, eq-eqb, eqb-true, false≢true, ne_eqb}
use Rattle.std.proofs.lemmas.List.Folds.{list_all-append}
use Rattle.bosh_base.specs.Cloud.{numbers_to}
use Rattle.bosh_base.specs.declared.entry.Begin.{Begin}
use Rattle.bosh_base.specs.declared.inst.Inst.{Inst}
use Rattle.bosh_base.specs.declared.owner.Owner.{Owner}
use Rattle.bosh_base.specs.declared.owner.Owner.TheVariants.{Compile, Disk, Instance}
use Rattle.bosh_history.specs.Words.{at, holds}
use Rattle.bosh_rows.specs.Same.{same_inst, same_owner}
use Rattle.bosh_rows.proofs.SameLemmas.{itself}
use Rattle.laws_stands.specs.Told.{Told, is_idle}
use Rattle.laws_stands.specs.WorkStands.{is_task_call}
use Rattle.laws_stands.proofs.MemberLemmas.{inst_is}

-- ---- open calls

all_within : (p q : ℕ → Bool) (n : ℕ) → ((c : ℕ) → c ≤ n → p c ≡ q c) → list_all p (numbers_to n)
    ≡ list_all q (numbers_to n)
all_within p q zero same = refl
all_within p q (suc n) same =
    list_all-append p (numbers_to n) (suc n ∷ [])
    ∙ (λ i. all_within p q n (λ c low. same c (omega arith)) i && (same (suc n) (omega arith) i && true))
    ∙ sym (list_all-append q (numbers_to n) (suc n ∷ []))

-- once a call began its owner has one, and nobody else has another
pub idle_begun : (told : Told) (b : Begin) (owner : Owner) → b.n ≡ told.known.last_call + 1
    → list_all (λ n. not (holds (λ c. same_owner owner c.owner) (at eqb b.n (Some b) told.calls n)))
    (numbers_to b.n) ≡ (is_idle told owner && not (same_owner owner b.owner))
idle_begun told b owner is =
    ap (λ n. list_all now (numbers_to n)) (is ∙ add-one told.known.last_call)
    ∙ list_all-append now (numbers_to told.known.last_call) (suc told.known.last_call ∷ [])
    ∙ (λ i. all_within now was told.known.last_call others i && (here i && true))
    ∙ and_true (is_idle told owner) (not (same_owner owner b.owner))
  where
    was : ℕ → Bool
    was n = not (holds (λ c. same_owner owner c.owner) (told.calls n))

    now : ℕ → Bool
    now n = not (holds (λ c. same_owner owner c.owner) (at eqb b.n (Some b) told.calls n))

    others : (c : ℕ) → c ≤ told.known.last_call → now c ≡ was c
    others c low = ap (λ t. not (holds (λ c. same_owner owner c.owner) (if t then Some b else told.calls c)))
        (ne_eqb b.n c (λ e. absurd (omega arith)))

    here : now (suc told.known.last_call) ≡ not (same_owner owner b.owner)
    here = ap
        (λ t. not
        (holds (λ c. same_owner owner c.owner) (if t then Some b else told.calls (suc told.known.last_call))))
        (eq-eqb b.n (suc told.known.last_call) (omega arith))

    and_true : (a b : Bool) → (a && (b && true)) ≡ (a && b)
    and_true a true = refl
    and_true a false = refl

pub inst_flip : (i x : Inst) → same_inst x i ≡ same_inst i x
inst_flip i x = by (same_inst x i) (same_inst i x) refl refl
  where
    by : (a b : Bool) → same_inst x i ≡ a → same_inst i x ≡ b → same_inst x i ≡ same_inst i x
    by true true e f = e ∙ sym f
    by false false e f = e ∙ sym f
    by true false e f = e ∙ sym (ap (λ y. same_inst y x) (sym (inst_is x i e)) ∙ itself x)
    by false true e f = ap (λ y. same_inst x y) (inst_is i x f) ∙ itself x ∙ sym f

pub same_owner_is : (a b : Owner) → same_owner a b ≡ true → a ≡ b
same_owner_is (Instance i) (Instance j) is = ap Instance (inst_is i j is)
same_owner_is (Compile t s) (Compile u r) is =
    let both : (eqb t u ≡ true) × (eqb s r ≡ true) = and_parts (eqb t u) (eqb s r) is in
    λ k. Compile (eqb-true t u both.0 k) (eqb-true s r both.1 k)
same_owner_is (Disk d) (Disk e) is = ap Disk (eqb-true d e is)
same_owner_is (Instance i) (Compile u r) is = absurd (false≢true is)
same_owner_is (Instance i) (Disk e) is = absurd (false≢true is)
same_owner_is (Compile t s) (Instance j) is = absurd (false≢true is)
same_owner_is (Compile t s) (Disk e) is = absurd (false≢true is)
same_owner_is (Disk d) (Instance j) is = absurd (false≢true is)
same_owner_is (Disk d) (Compile u r) is = absurd (false≢true is)

-- what holds of all numbers holds of each
pub all_numbered : (p : ℕ → Bool) (n c : ℕ) → 1 ≤ c → c ≤ n → list_all p (numbers_to n) ≡ true → p c ≡ true
all_numbered p zero c low high all = absurd (omega arith)
all_numbered p (suc n) c low high all =
    let parts : (list_all p (numbers_to n) ≡ true) × ((p (suc n) && true) ≡ true) =
    and_parts (list_all p (numbers_to n)) (p (suc n) && true)
    (sym (list_all-append p (numbers_to n) (suc n ∷ [])) ∙ all) in
    by (eqb c (suc n)) refl (and_parts (p (suc n)) true parts.1).0
    (λ high. all_numbered p n c low high parts.0)
  where
    by : (b : Bool) → eqb c (suc n) ≡ b → p (suc n) ≡ true → (c ≤ n → p c ≡ true) → p c ≡ true
    by true is last more = ap p (eqb-true c (suc n) is) ∙ last
    by false other last more = more (below other)
      where
        below : eqb c (suc n) ≡ false → c ≤ n
        below other = grind (arith, nat_tests)

all_true : (p : ℕ → Bool) (n : ℕ) → ((c : ℕ) → p c ≡ true) → list_all p (numbers_to n) ≡ true
all_true p zero is = refl
all_true p (suc n) is = list_all-append p (numbers_to n) (suc n ∷ [])
    ∙ (λ i. all_true p n is i && (is (suc n) i && true))

-- once a call ended its owner has none, where no owner has two, and the others have what they had
pub idle_ended : (told : Told) (n : ℕ) (b : Begin) (owner : Owner) → told.calls n ≡ Some b
    → ((c : ℕ) (d : Begin) → told.calls c ≡ Some d → same_owner d.owner b.owner ≡ true → c ≡ n)
    → list_all (λ c. not (holds (λ d. same_owner owner d.owner) (at eqb n None told.calls c)))
    (numbers_to told.known.last_call)
    ≡ (if same_owner owner b.owner then true else is_idle told owner)
idle_ended told n b owner is one = by (same_owner owner b.owner) refl
  where
    now : ℕ → Bool
    now c = not (holds (λ d. same_owner owner d.owner) (at eqb n None told.calls c))

    was : ℕ → Bool
    was c = not (holds (λ d. same_owner owner d.owner) (told.calls c))

    -- another call is not the owner's
    none : same_owner owner b.owner ≡ true → (c : ℕ) → (o : Option Begin) → told.calls c ≡ o → (t : Bool) → eqb n c
        ≡ t
        → not (holds (λ d. same_owner owner d.owner) (if t then None else o)) ≡ true
    none own c o there true same = refl
    none own c None there false same = refl
    none own c (Some d) there false differs = of (same_owner owner d.owner) refl
      where
        of : (u : Bool) → same_owner owner d.owner ≡ u → not u ≡ true
        of false e = refl
        of true e =
            let a : owner ≡ b.owner = same_owner_is owner b.owner own in
            let z : owner ≡ d.owner = same_owner_is owner d.owner e in
            let k : c ≡ n = one c d there ((λ j. same_owner (sym z j) b.owner) ∙ own) in
            absurd (false≢true (sym differs ∙ eq-eqb n c (sym k)))

    other : same_owner owner b.owner ≡ false → (c : ℕ) → c ≤ told.known.last_call → now c ≡ was c
    other differs c low = of (eqb n c) refl
      where
        of : (t : Bool) → eqb n c ≡ t
            → not (holds (λ d. same_owner owner d.owner) (if t then None else told.calls c))
            ≡ not (holds (λ d. same_owner owner d.owner) (told.calls c))
        of false e = refl
        of true e =
            sym (ap (λ o. not (holds (λ d. same_owner owner d.owner) o)) (ap told.calls (sym (eqb-true n c e)) ∙ is)
            ∙ ap not differs)

    by : (t : Bool) → same_owner owner b.owner ≡ t → list_all now (numbers_to told.known.last_call)
        ≡ (if t then true else is_idle told owner)
    by true own = all_true now told.known.last_call (λ c. none own c (told.calls c) refl (eqb n c) refl)
    by false differs = all_within now was told.known.last_call (other differs)

-- ---- how many calls of a task are open

pub count_within : (p q : ℕ → Bool) (n : ℕ) → ((c : ℕ) → c ≤ n → p c ≡ q c) → count_by p (numbers_to n)
    ≡ count_by q (numbers_to n)
count_within p q zero same = refl
count_within p q (suc n) same =
    sum_by_push (λ c. cond (p c) 1 0) (numbers_to n) (suc n)
    ∙ (λ i. count_within p q n (λ c low. same c (omega arith)) i + cond (same (suc n) (omega arith) i) 1 0)
    ∙ sym (sum_by_push (λ c. cond (q c) 1 0) (numbers_to n) (suc n))

few_counted : (p : ℕ → Bool) (n : ℕ) → count_by p (numbers_to n) ≤ n
few_counted p zero = omega arith
few_counted p (suc n) =
    let few : count_by p (numbers_to n) ≤ n = few_counted p n in
    subst (λ c. c ≤ suc n) (sym (sum_by_push (λ c. cond (p c) 1 0) (numbers_to n) (suc n))) (by (p (suc n)) few)
  where
    by : (b : Bool) → count_by p (numbers_to n) ≤ n → count_by p (numbers_to n) + cond b 1 0 ≤ suc n
    by true few = omega arith
    by false few = omega arith

-- once a call of the task began there is one more
pub one_more_call : (told : Told) (b : Begin) (n : ℕ) → b.n ≡ told.known.last_call + 1 → b.n ≤ 18446744073709551615
    → (b.task == n) ≡ true
    → min (count_by (is_task_call told n) (numbers_to told.known.last_call) + 1) 18446744073709551615
    ≡ count_by (λ c. holds (λ (d : Begin). d.task == n) (at eqb b.n (Some b) told.calls c)) (numbers_to b.n)
one_more_call told b n is small own =
    within (count_by (is_task_call told n) (numbers_to told.known.last_call))
    (few_counted (is_task_call told n) told.known.last_call)
    ∙ sym (ap (λ m. count_by now (numbers_to m)) (is ∙ add-one told.known.last_call)
    ∙ sum_by_push (λ c. cond (now c) 1 0) (numbers_to told.known.last_call) (suc told.known.last_call)
    ∙ (λ i. count_within now (is_task_call told n) told.known.last_call others i + cond (here i) 1 0))
  where
    now : ℕ → Bool
    now c = holds (λ (d : Begin). d.task == n) (at eqb b.n (Some b) told.calls c)

    within : (c : ℕ) → c ≤ told.known.last_call → min (c + 1) 18446744073709551615 ≡ c + 1
    within c few = omega arith

    others : (c : ℕ) → c ≤ told.known.last_call → now c ≡ is_task_call told n c
    others c low = ap (λ t. holds (λ (d : Begin). d.task == n) (if t then Some b else told.calls c))
        (ne_eqb b.n c (λ e. absurd (omega arith)))

    here : now (suc told.known.last_call) ≡ true
    here = ap
        (λ t. holds (λ (d : Begin). d.task == n) (if t then Some b else told.calls (suc told.known.last_call)))
        (eq-eqb b.n (suc told.known.last_call) (omega arith)) ∙ own

-- .. and once it ended one less
pub one_less : (p q : ℕ → Bool) (x last : ℕ) → 1 ≤ x → x ≤ last → p x ≡ true → q x ≡ false
    → ((c : ℕ) → eqb x c ≡ false → q c ≡ p c)
    → count_by p (numbers_to last) ≡ count_by q (numbers_to last) + 1
one_less p q x zero low high here gone others = absurd (omega arith)
one_less p q x (suc last) low high here gone others =
    sum_by_push (λ c. cond (p c) 1 0) (numbers_to last) (suc last)
    ∙ by (eqb x (suc last)) refl (λ high. one_less p q x last low high here gone others)
    ∙ sym (ap (λ c. c + 1) (sum_by_push (λ c. cond (q c) 1 0) (numbers_to last) (suc last)))
  where
    below : (c : ℕ) → x ≡ suc last → c ≤ last → p c ≡ q c
    below c same low = sym (others c (ne_eqb x c (λ e. absurd (omega arith))))

    swap : (c d : ℕ) → (c + 1) + d ≡ (c + d) + 1
    swap c d = omega arith

    by : (b : Bool) → eqb x (suc last) ≡ b
        → (x ≤ last → count_by p (numbers_to last) ≡ count_by q (numbers_to last) + 1)
        → count_by p (numbers_to last) + cond (p (suc last)) 1 0
        ≡ (count_by q (numbers_to last) + cond (q (suc last)) 1 0) + 1
    by true is more =
        let same : x ≡ suc last = eqb-true x (suc last) is in
        (λ i. count_within p q last (λ c low. below c same low) i + cond ((ap p (sym same) ∙ here) i) 1 0)
        ∙ sum (count_by q (numbers_to last))
        ∙ (λ i. (count_by q (numbers_to last) + cond (sym (ap q (sym same) ∙ gone) i) 1 0) + 1)
      where
        sum : (c : ℕ) → c + 1 ≡ (c + 0) + 1
        sum c = omega arith
    by false is more =
        (λ i. more (below_last is) i + cond (sym (others (suc last) is) i) 1 0)
        ∙ swap (count_by q (numbers_to last)) (cond (q (suc last)) 1 0)
      where
        below_last : eqb x (suc last) ≡ false → x ≤ last
        below_last is = grind (arith, nat_tests)
