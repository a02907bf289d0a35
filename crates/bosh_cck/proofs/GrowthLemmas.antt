-- How lists of problems grow, an item at a time.
use Rattle.std.proofs.Common.{◌≡◌, ◌∙◌, Bool, List, [], ◌∷◌, ◌++◌, Option, filter, map, append_assoc, ap, sym}
use Rattle.std.proofs.lemmas.List.{map-append}
use Rattle.std.proofs.lemmas.List.Elements.{filter-append, filter_map-append}
use Rattle.bosh_base.specs.declared.inst.Inst.{Inst}
use Rattle.bosh_base.specs.declared.machine.Disk.{Disk}
use Rattle.bosh_base.specs.declared.machine.Machine.{Machine}
use Rattle.bosh_base.specs.declared.problem.Problem.TheVariants.{OtherVm, LooseDisk}
use Rattle.bosh_base.specs.declared.row.Row.{Row}
use denote.Ref.{Bor}
use Rattle.bosh_cck.specs.Problems.{is_other, loose_among, others}
use Rattle.bosh_cck.specs.Tables.{all_there, owned, seen}

-- what is made of the items so far is there, and what is made of one more is added
pub one_more :
    {A B : Type 0} (f : List A → List B) (joined : (xs ys : List A) → f (xs ++ ys) ≡ f xs ++ f ys)
    (base was now : List B) (done more : List A) (x : A)
    → more ≡ done ++ x ∷ [] → was ≡ base ++ f done → now ≡ was ++ f (x ∷ []) → now ≡ base ++ f more
one_more {B = B} f joined base was now done more x longer before step =
    step ∙ (ap (λ (all : List B). all ++ f (x ∷ [])) before
    ∙ (append_assoc base (f done) (f (x ∷ []))
    ∙ ap (λ (all : List B). base ++ all) (sym (joined done (x ∷ [])) ∙ ap f (sym longer))))

pub gathered :
    {A B : Type 0} (f : A → B) (p : A → Bool) (xs ys : List A)
    → map f (filter p (xs ++ ys)) ≡ map f (filter p xs) ++ map f (filter p ys)
gathered f p xs ys = ap (map f) (filter-append p xs ys) ∙ map-append f (filter p xs) (filter p ys)

pub others-joined :
    (row : Row) (xs ys : List (Bor Machine)) → others row (seen (xs ++ ys)) ≡ others row (seen xs) ++ others row (seen ys)
others-joined row xs ys =
    ap (others row) (map-append (λ (it : Bor Machine). it.now) xs ys)
    ∙ gathered (λ (it : Machine). OtherVm row.inst it.vm) (is_other row.vm) (seen xs) (seen ys)

pub there-joined : {A : Type 0} (xs ys : List (Option A)) → all_there (xs ++ ys) ≡ all_there xs ++ all_there ys
there-joined {A = A} xs ys = filter_map-append (λ (slot : Option A). slot) xs ys

pub loose-joined :
    (test : Disk → Bool) (xs ys : List (Option Disk))
    → loose_among test (all_there (xs ++ ys)) ≡ loose_among test (all_there xs) ++ loose_among test (all_there ys)
loose-joined test xs ys =
    ap (loose_among test) (there-joined xs ys)
    ∙ gathered (λ (it : Disk). LooseDisk it.disk) test (all_there xs) (all_there ys)

pub owned-joined :
    (inst : Inst) (xs ys : List (Option Machine))
    → owned inst (all_there (xs ++ ys)) ≡ owned inst (all_there xs) ++ owned inst (all_there ys)
owned-joined inst xs ys =
    ap (owned inst) (there-joined xs ys)
    ∙ filter-append _ (all_there xs) (all_there ys)
