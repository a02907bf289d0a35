-- Nothing differs exactly where every row agrees with the cloud, and no disk is loose.
use Rattle.std.proofs.Common.{◌≡◌, ◌∙◌, ℕ, Bool, true, false, not, ◌&&◌, ◌||◌, ◌==◌, nat_eq, cond, List, [], ◌∷◌, ◌++◌, Option, Some, None, filter, map, inl, inr, refl, sym, ap}
use Rattle.std.specs.List.{AllByRecursion, flat_map, list_all, list_any}
use Rattle.std.specs.Option.{is_some, option_eq}
use Rattle.std.proofs.lemmas.Bool.Decides.{eqb_tells}
use Rattle.std.proofs.lemmas.Bool.{eq-eqb}
use Rattle.std.proofs.lemmas.Map.Keys.{IsDistinct-cons, IsDistinct-head, IsDistinct-tail}
use Rattle.bosh_base.specs.declared.machine.Disk.{Disk}
use Rattle.bosh_base.specs.declared.machine.Machine.{Machine}
use Rattle.bosh_base.specs.declared.owner.Owner.TheVariants.{Instance}
use Rattle.bosh_base.specs.declared.problem.Problem.{Problem}
use Rattle.bosh_base.specs.declared.problem.Problem.TheVariants.{OtherVm, MissingDisk, LooseDisk}
use Rattle.bosh_base.specs.declared.problem.What.{What}
use Rattle.bosh_base.specs.declared.problem.What.TheVariants.{Spec, Running, Drained, Disks}
use Rattle.bosh_base.specs.declared.row.DiskRow.{DiskRow}
use Rattle.bosh_base.specs.declared.row.Doubt.{Doubt}
use Rattle.bosh_base.specs.declared.row.Row.{Row}
use Rattle.bosh_base.specs.declared.row.Vm.{Vm}
use Rattle.bosh_base.specs.declared.snapshot.Orphan.{Orphan}
use Rattle.bosh_history.specs.Agrees.{agrees, has_disks, has_machine, its_machines}
use Rattle.bosh_rows.specs.Same.{same_owner, same_spec}
use Rattle.bosh_rows.specs.Standing.{is_empty, same_truth}
use Rattle.bosh_cck.specs.Loose.{is_loose}
use Rattle.bosh_cck.specs.Problems.{AreApart, all_agree, all_row_problems, fact, facts, facts_of, is_disk, is_other, loose_disks, machine_problems, missing, missing_disks, problems, recorded, row_problems, same_disks, silent, unless_doubted}

-- ---- where lists are empty

empty-append : {A : Type 0} (xs ys : List A) → is_empty (xs ++ ys) ≡ (is_empty xs && is_empty ys)
empty-append [] ys = refl
empty-append (x ∷ xs) ys = refl

empty-flat_map : {A B : Type 0} (f : A → List B) (xs : List A) → is_empty (flat_map f xs) ≡ list_all (λ x. is_empty (f x)) xs
empty-flat_map f [] = refl
empty-flat_map f (x ∷ xs) =
    empty-append (f x) (flat_map f xs) ∙ ap (λ (b : Bool). is_empty (f x) && b) (empty-flat_map f xs)

empty-gathered : {A B : Type 0} (f : A → B) (p : A → Bool) (xs : List A) → is_empty (map f (filter p xs)) ≡ not (list_any p xs)
empty-gathered f p [] = refl
empty-gathered f p (x ∷ xs) = by (p x) (empty-gathered f p xs)
  where
    by : (b : Bool) → is_empty (map f (filter p xs)) ≡ not (list_any p xs)
        → is_empty (map f (cond b (x ∷ filter p xs) (filter p xs))) ≡ not (b || list_any p xs)
    by true e = refl
    by false e = e

none-all : {A : Type 0} (p : A → Bool) (xs : List A) → not (list_any (λ x. not (p x)) xs) ≡ list_all p xs
none-all p [] = refl
none-all p (x ∷ xs) = by (p x) (none-all p xs)
  where
    by : (b : Bool) → not (list_any (λ x. not (p x)) xs) ≡ list_all p xs → not (not b || list_any (λ x. not (p x)) xs) ≡ (b && list_all p xs)
    by true e = e
    by false e = refl

-- ---- machines of which no two have one number

all-filtered :
    (P : ℕ → Type 0) (p : Machine → Bool) (own : List Machine)
    → AllByRecursion P (map (λ it. it.vm) own) → AllByRecursion P (map (λ it. it.vm) (filter p own))
all-filtered P p [] all = all
all-filtered P p (it ∷ own) all = by (p it) (all-filtered P p own all.1)
  where
    by : (b : Bool) → AllByRecursion P (map (λ it. it.vm) (filter p own))
        → AllByRecursion P (map (λ it. it.vm) (cond b (it ∷ filter p own) (filter p own)))
    by true rest = (all.0, rest)
    by false rest = rest

apart-filtered : (p : Machine → Bool) (own : List Machine) → AreApart own → AreApart (filter p own)
apart-filtered p [] apart = apart
apart-filtered p (it ∷ own) apart =
    by (p it) (apart-filtered p own (IsDistinct-tail nat_eq it.vm (map (λ (m : Machine). m.vm) own) apart))
  where
    by : (b : Bool) → AreApart (filter p own) → AreApart (cond b (it ∷ filter p own) (filter p own))
    by true rest =
        IsDistinct-cons nat_eq it.vm (map (λ (m : Machine). m.vm) (filter p own))
        (all-filtered (λ n. nat_eq it.vm n ≡ false) p own (IsDistinct-head nat_eq it.vm (map (λ (m : Machine). m.vm) own) apart))
        rest
    by false rest = rest

-- of two machines with different numbers, one at least is not the one that is recorded
some-other :
    (vm : Vm) (it other : Machine) (rest : Bool) → (it.vm == other.vm) ≡ false
    → (is_other (Some vm) it || (is_other (Some vm) other || rest)) ≡ true
some-other vm it other rest apart =
    elim (eqb_tells it.vm vm.vm) [
      | inl one ↦
          elim (eqb_tells other.vm vm.vm) [
            | inl two ↦
                let same : it.vm ≡ other.vm = one.1 ∙ sym two.1 in
                let never : true ≡ false = sym (eq-eqb it.vm other.vm same) ∙ apart in
                absurd (cc)
            | inr two ↦ (λ i. not (one.0 i) || (not (two.0 i) || rest))
          ]
      | inr one ↦ (λ i. not (one.0 i) || (is_other (Some vm) other || rest))
    ]

-- ---- the machine of a row

empty-fact : (row : Row) (what : What) (same : Bool) → is_empty (fact row what same) ≡ same
empty-fact row what true = refl
empty-fact row what false = refl

empty-facts :
    (row : Row) (it : Machine)
    → is_empty (facts_of row it)
    ≡ (option_eq same_spec it.spec row.spec
    && (same_truth it.running row.running && (same_truth it.drained row.drained && same_disks row it)))
empty-facts row it = four (option_eq same_spec it.spec row.spec) (same_truth it.running row.running) (same_truth it.drained row.drained) (same_disks row it)
  where
    four :
        (a b c d : Bool)
        → is_empty (fact row Spec a ++ (fact row Running b ++ (fact row Drained c ++ fact row Disks d))) ≡ (a && (b && (c && d)))
    four true true true true = refl
    four true true true false = refl
    four true true false d = refl
    four true false c d = refl
    four false b c d = refl

-- a third list that is not empty makes the whole not empty
third : {A : Type 0} (a b c d : List A) → is_empty c ≡ false → is_empty (a ++ (b ++ (c ++ d))) ≡ false
third (x ∷ a) b c d h = refl
third [] (x ∷ b) c d h = refl
third [] [] (x ∷ c) d h = refl
third [] [] [] d h = absurd (cc)

abbrev parts : Row → Option Vm → List Machine → List Problem
parts row vm own =
    missing row vm (recorded vm own)
    ++ (silent row (recorded vm own)
    ++ (map (λ it. OtherVm row.inst it.vm) (filter (is_other vm) own) ++ facts row (recorded vm own)))

one-agrees :
    (row : Row) (vm : Vm) (it : Machine) (recorded_one : Bool)
    → is_empty
    (missing row (Some vm) (cond recorded_one (Some it) None)
    ++ (silent row (cond recorded_one (Some it) None)
    ++ (map (λ it. OtherVm row.inst it.vm) (cond (not recorded_one) (it ∷ []) []) ++ facts row (cond recorded_one (Some it) None))))
    ≡ (recorded_one
    && (not it.silent
    && (option_eq same_spec it.spec row.spec
    && (same_truth it.running row.running && (same_truth it.drained row.drained && same_disks row it)))))
one-agrees row vm it false = refl
one-agrees row vm it true = by it.silent
  where
    by : (b : Bool)
        → is_empty
        ((cond b (Rattle.bosh_base.specs.declared.problem.Problem.TheVariants.SilentAgent row.inst it.vm ∷ []) [])
        ++ ([] ++ cond b [] (facts_of row it)))
        ≡ (not b
        && (option_eq same_spec it.spec row.spec
        && (same_truth it.running row.running && (same_truth it.drained row.drained && same_disks row it))))
    by true = refl
    by false = empty-facts row it

machine-agrees : (row : Row) (vm : Option Vm) (own : List Machine) → AreApart own → is_empty (parts row vm own) ≡ has_machine row vm own
machine-agrees row None [] apart = refl
machine-agrees row None (it ∷ own) apart = refl
machine-agrees row (Some vm) [] apart = refl
machine-agrees row (Some vm) (it ∷ []) apart = one-agrees row vm it (it.vm == vm.vm)
machine-agrees row (Some vm) (it ∷ other ∷ own) apart =
    let head : AllByRecursion (λ n. nat_eq it.vm n ≡ false) (map (λ (m : Machine). m.vm) (other ∷ own)) =
    IsDistinct-head nat_eq it.vm (map (λ (m : Machine). m.vm) (other ∷ own)) apart in
    let all = it ∷ other ∷ own in
    third (missing row (Some vm) (recorded (Some vm) all)) (silent row (recorded (Some vm) all))
    (map (λ (m : Machine). OtherVm row.inst m.vm) (filter (is_other (Some vm)) all)) (facts row (recorded (Some vm) all))
    (empty-gathered (λ (m : Machine). OtherVm row.inst m.vm) (is_other (Some vm)) all
    ∙ ap not (some-other vm it other (list_any (is_other (Some vm)) own) head.0))

-- ---- rows

disks-agree : (row : Row) (disks : List Disk) → is_empty (missing_disks (is_disk disks) row) ≡ has_disks row disks
disks-agree row disks =
    empty-gathered (λ (d : DiskRow). MissingDisk row.inst d.disk) (λ (d : DiskRow). not (is_disk disks d.disk)) row.disks
    ∙ none-all (λ (d : DiskRow). is_disk disks d.disk) row.disks

doubt-agrees :
    (row : Row) (doubt : Option Doubt) (known : List Problem)
    → is_empty (unless_doubted row.inst doubt known) ≡ (not (is_some doubt) && is_empty known)
doubt-agrees row None known = refl
doubt-agrees row (Some doubt) known = refl

row-agrees :
    (machines : List Machine) (disks : List Disk) (row : Row) → AreApart machines
    → is_empty (row_problems (its_machines row machines) (is_disk disks) row) ≡ agrees row machines disks
row-agrees machines disks row apart =
    let own = its_machines row machines in
    let mine : AreApart own = apart-filtered (λ it. same_owner it.owner (Instance row.inst)) machines apart in
    doubt-agrees row row.doubt (machine_problems row own ++ missing_disks (is_disk disks) row)
    ∙ ap (λ (b : Bool). not (is_some row.doubt) && b)
    (empty-append (machine_problems row own) (missing_disks (is_disk disks) row)
    ∙ (λ i. machine-agrees row row.vm own mine i && disks-agree row disks i))

-- ---- the whole

pub none-differs :
    (dep : List ℕ) (rows : List Row) (orphans : List Orphan) (machines : List Machine) (disks : List Disk) → AreApart machines
    → is_empty (problems dep rows orphans machines disks) ≡ all_agree dep rows orphans machines disks
none-differs dep rows orphans machines disks apart =
    empty-append (all_row_problems rows machines disks) (loose_disks dep rows orphans disks)
    ∙ (λ i. rows_agree i && empty-gathered (λ (it : Disk). LooseDisk it.disk) (is_loose dep rows orphans) disks i)
  where
    rows_agree : is_empty (all_row_problems rows machines disks) ≡ list_all (λ row. agrees row machines disks) rows
    rows_agree =
        empty-flat_map (λ (row : Row). row_problems (its_machines row machines) (is_disk disks) row) rows
        ∙ ap (λ (test : Row → Bool). list_all test rows) (λ i row. row-agrees machines disks row apart i)
