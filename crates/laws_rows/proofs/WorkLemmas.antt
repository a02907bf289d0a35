-- What is left to do for the disks of a row falls where a disk is attached, mounted, unmounted or detached as it is
-- to be.
use Rattle.std.proofs.Common.{◌≡◌, ℕ, ◌+◌, ◌≤◌, Bool, true, false, Option, Some, None, List, [], ◌∷◌, refl, sym, ◌∙◌, ap, subst, arith}
use Rattle.std.specs.Prelude.{◌&&◌, ◌||◌, ◌==◌, not, nat_lt, if◌then◌else◌, filter, fold, is_some, map}
use Rattle.std.specs.List.{sum_by}
use Rattle.std.specs.Option.{option_map}
use Rattle.std.proofs.lemmas.Bool.{eq-eqb}
use Rattle.bosh_base.specs.declared.disk_want.DiskWant.{DiskWant}
use Rattle.bosh_base.specs.declared.goal.GoalRow.{GoalRow}
use Rattle.bosh_base.specs.declared.row.DiskRow.{DiskRow}
use Rattle.bosh_base.specs.declared.row.Role.{Role}
use Rattle.bosh_base.specs.declared.row.Role.TheVariants as roles
use Rattle.bosh_rows.specs.After.{attach, changing, let_go, mount, unmount}
use Rattle.bosh_rows.specs.Disks.{active, coming, is_active, is_detached, is_new, is_old, is_right, is_running, is_spare_beside, least, lesser, meets}
use Rattle.laws_rows.proofs.ListLemmas.{AllOf, IsIn, sum_falls}
use Rattle.laws_rows.specs.Left.{disk_left, disk_work, disks_missing, is_of_use, left_by, left_from_nothing, missing_beside, one_if, to_free}

-- a change that leaves what a disk is
pub record Keeps (f : DiskRow → DiskRow) : Type 0 where
  pub number : (d : DiskRow) → (f d).disk ≡ d.disk
  pub role : (d : DiskRow) → (f d).role ≡ d.role
  pub want : (d : DiskRow) → (f d).want ≡ d.want

pub keeps-attach : Keeps attach
keeps-attach = record { number = λ d. refl; role = λ d. refl; want = λ d. refl }

pub keeps-let_go : Keeps let_go
keeps-let_go = record { number = λ d. refl; role = λ d. refl; want = λ d. refl }

pub keeps-mount : Keeps mount
keeps-mount = record { number = λ d. refl; role = λ d. refl; want = λ d. refl }

pub keeps-unmount : Keeps unmount
keeps-unmount = record { number = λ d. refl; role = λ d. refl; want = λ d. refl }

-- the change of one of several
abbrev pub one : ℕ → (DiskRow → DiskRow) → DiskRow → DiskRow
one number change d = if d.disk == number then change d else d

pub keeps-one : (number : ℕ) (change : DiskRow → DiskRow) → Keeps change → Keeps (one number change)
keeps-one x g keeps = record {
  number = λ d. by_number d (d.disk == x) (λ it. it.disk) (keeps.number d);
  role = λ d. by_number d (d.disk == x) (λ it. it.role) (keeps.role d);
  want = λ d. by_number d (d.disk == x) (λ it. it.want) (keeps.want d);
}
  where
    by_number : {A : Type 0} (d : DiskRow) (b : Bool) (part : DiskRow → A) → part (g d) ≡ part d →
        part (if b then g d else d) ≡ part d
    by_number d true part same = same
    by_number d false part same = refl

-- ---- what a disk is

pub active-by : (d e : DiskRow) → e.role ≡ d.role → is_active e ≡ is_active d
active-by d e same = λ i. is_active (record d { role = same i })

pub new-by : (d e : DiskRow) → e.role ≡ d.role → is_new e ≡ is_new d
new-by d e same = λ i. is_new (record d { role = same i })

pub old-by : (d e : DiskRow) → e.role ≡ d.role → is_old e ≡ is_old d
old-by d e same = λ i. is_old (record d { role = same i })

pub right-by : (wanted : DiskWant) (d e : DiskRow) → e.want ≡ d.want → is_right wanted e ≡ is_right wanted d
right-by wanted d e same = λ i. is_right wanted (record d { want = same i })

-- a spare disk is not active, and one that is neither comes in the place of the active one
spare_role : (new : Option DiskRow) (d : DiskRow) (role : Role) →
    is_spare_beside new (record d { role = role }) ≡ true → is_active (record d { role = role }) ≡ false
spare_role new d roles.Active spare = absurd cc
spare_role new d roles.New spare = refl
spare_role new d roles.Old spare = refl

pub spare_not_active : (new : Option DiskRow) (d : DiskRow) → is_spare_beside new d ≡ true → is_active d ≡ false
spare_not_active new d spare = spare_role new d d.role spare

-- where none comes each disk that is not active is spare
spare_of : (d : DiskRow) (role : Role) → is_active (record d { role = role }) ≡ false →
    is_spare_beside None (record d { role = role }) ≡ true
spare_of d roles.Active other = absurd cc
spare_of d roles.New other = refl
spare_of d roles.Old other = refl

pub spare_beside_none : (d : DiskRow) → is_active d ≡ false → is_spare_beside None d ≡ true
spare_beside_none d other = spare_of d d.role other

-- the one that comes is not spare
not_spare_of : (d : DiskRow) (role : Role) → is_new (record d { role = role }) ≡ true →
    is_spare_beside (Some d) (record d { role = role }) ≡ false
not_spare_of d roles.Active new = absurd cc
not_spare_of d roles.New new = ap not (eq-eqb d.disk d.disk refl)
not_spare_of d roles.Old new = absurd cc

pub new_not_spare : (d : DiskRow) → is_new d ≡ true → is_spare_beside (Some d) d ≡ false
new_not_spare d new = not_spare_of d d.role new

-- ---- what stays where each disk stays what it is

lesser_map : (f : DiskRow → DiskRow) → Keeps f → (acc : Option DiskRow) (x : DiskRow) →
    lesser (option_map f acc) (f x) ≡ option_map f (lesser acc x)
lesser_map f keeps None x = refl
lesser_map f keeps (Some c) x =
    (λ i. if nat_lt (keeps.number x i) (keeps.number c i) then Some (f x) else Some (f c))
    ∙ by_order (nat_lt x.disk c.disk)
  where
    by_order : (b : Bool) → (if b then Some (f x) else Some (f c)) ≡ option_map f (if b then Some x else Some c)
    by_order true = refl
    by_order false = refl

fold_map : (f : DiskRow → DiskRow) → Keeps f → (acc : Option DiskRow) (xs : List DiskRow) →
    fold lesser (option_map f acc) (map f xs) ≡ option_map f (fold lesser acc xs)
fold_map f keeps acc [] = refl
fold_map f keeps acc (x ∷ xs) =
    ap (λ first. fold lesser first (map f xs)) (lesser_map f keeps acc x) ∙ fold_map f keeps (lesser acc x) xs

filter_map_same : (f : DiskRow → DiskRow) (test : DiskRow → Bool) → ((d : DiskRow) → test (f d) ≡ test d) →
    (xs : List DiskRow) → filter test (map f xs) ≡ map f (filter test xs)
filter_map_same f test same [] = refl
filter_map_same f test same (x ∷ xs) =
    ap (λ b. if b then f x ∷ filter test (map f xs) else filter test (map f xs)) (same x)
    ∙ by_test (test x) (filter_map_same f test same xs)
  where
    by_test : (b : Bool) → filter test (map f xs) ≡ map f (filter test xs) →
        (if b then f x ∷ filter test (map f xs) else filter test (map f xs))
        ≡ map f (if b then x ∷ filter test xs else filter test xs)
    by_test true others = ap (λ rest. f x ∷ rest) others
    by_test false others = others

pub least-map : (f : DiskRow → DiskRow) → Keeps f → (test : DiskRow → Bool) →
    ((d : DiskRow) → test (f d) ≡ test d) → (xs : List DiskRow) →
    least test (map f xs) ≡ option_map f (least test xs)
least-map f keeps test same xs =
    ap (fold lesser None) (filter_map_same f test same xs) ∙ fold_map f keeps None (filter test xs)

pub active-map : (f : DiskRow → DiskRow) → Keeps f → (xs : List DiskRow) →
    active (map f xs) ≡ option_map f (active xs)
active-map f keeps [] = refl
active-map f keeps (x ∷ xs) =
    ap (λ b. if b then Some (f x) else active (map f xs)) (active-by x (f x) (keeps.role x))
    ∙ by_role (is_active x) (active-map f keeps xs)
  where
    by_role : (b : Bool) → active (map f xs) ≡ option_map f (active xs) →
        (if b then Some (f x) else active (map f xs)) ≡ option_map f (if b then Some x else active xs)
    by_role true others = refl
    by_role false others = others

some_map : (f : DiskRow → DiskRow) (o : Option DiskRow) → is_some (option_map f o) ≡ is_some o
some_map f None = refl
some_map f (Some d) = refl

meets-map : (f : DiskRow → DiskRow) → Keeps f → (wanted : DiskWant) (o : Option DiskRow) →
    meets (is_right wanted) (option_map f o) ≡ meets (is_right wanted) o
meets-map f keeps wanted None = refl
meets-map f keeps wanted (Some d) = right-by wanted d (f d) (keeps.want d)

pub coming-map : (f : DiskRow → DiskRow) → Keeps f → (want : Option DiskWant) (xs : List DiskRow) →
    coming want (map f xs) ≡ option_map f (coming want xs)
coming-map f keeps None xs = refl
coming-map f keeps (Some wanted) xs =
    let right : meets (is_right wanted) (active (map f xs)) ≡ meets (is_right wanted) (active xs) =
    ap (meets (is_right wanted)) (active-map f keeps xs) ∙ meets-map f keeps wanted (active xs) in
    let first : least (λ d. is_new d && is_right wanted d) (map f xs)
    ≡ option_map f (least (λ d. is_new d && is_right wanted d) xs) =
    least-map f keeps (λ d. is_new d && is_right wanted d)
    (λ d i. new-by d (f d) (keeps.role d) i && right-by wanted d (f d) (keeps.want d) i) xs in
    (λ i. if right i then None else first i)
    ∙ by_right (meets (is_right wanted) (active xs)) (least (λ d. is_new d && is_right wanted d) xs)
  where
    by_right : (b : Bool) (o : Option DiskRow) →
        (if b then None else option_map f o) ≡ option_map f (if b then None else o)
    by_right true o = refl
    by_right false o = refl

number-map : (f : DiskRow → DiskRow) → Keeps f → (o : Option DiskRow) (d : DiskRow) →
    meets (λ it. it.disk == (f d).disk) (option_map f o) ≡ meets (λ it. it.disk == d.disk) o
number-map f keeps None d = refl
number-map f keeps (Some it) d = λ i. keeps.number it i == keeps.number d i

pub spare-map : (f : DiskRow → DiskRow) → Keeps f → (o : Option DiskRow) (d : DiskRow) →
    is_spare_beside (option_map f o) (f d) ≡ is_spare_beside o d
spare-map f keeps o d =
    λ i. old-by d (f d) (keeps.role d) i || (new-by d (f d) (keeps.role d) i && not (number-map f keeps o d i))

use-map : (f : DiskRow → DiskRow) → Keeps f → (want : Option DiskWant) (xs : List DiskRow) (d : DiskRow) →
    is_of_use want (map f xs) (f d) ≡ is_of_use want xs d
use-map f keeps None xs d = refl
use-map f keeps (Some wanted) xs d =
    let some : is_some (active (map f xs)) ≡ is_some (active xs) =
    ap is_some (active-map f keeps xs) ∙ some_map f (active xs) in
    let spare : is_spare_beside (coming (Some wanted) (map f xs)) (f d) ≡ is_spare_beside (coming (Some wanted) xs) d =
    ap (λ o. is_spare_beside o (f d)) (coming-map f keeps (Some wanted) xs)
    ∙ spare-map f keeps (coming (Some wanted) xs) d in
    λ i. active-by d (f d) (keeps.role d) i || (some i && not (spare i))

missing-map : (f : DiskRow → DiskRow) → Keeps f → (want : Option DiskWant) (xs : List DiskRow) →
    disks_missing want (map f xs) ≡ disks_missing want xs
missing-map f keeps None xs = refl
missing-map f keeps (Some wanted) xs =
    (λ i. missing_beside wanted (active-map f keeps xs i) (coming-map f keeps (Some wanted) xs i))
    ∙ by_disks (active xs) (coming (Some wanted) xs)
  where
    by_disks : (old new : Option DiskRow) →
        missing_beside wanted (option_map f old) (option_map f new) ≡ missing_beside wanted old new
    by_disks None new = refl
    by_disks (Some old) None = ap (λ b. if b then 0 else 6) (right-by wanted old (f old) (keeps.want old))
    by_disks (Some old) (Some new) = ap (λ b. if b then 0 else 3) (right-by wanted old (f old) (keeps.want old))

-- ---- one step less

-- what is left for the disks falls where it grows for none and falls for one
pub work-falls : (want : Option DiskWant) (f : DiskRow → DiskRow) → Keeps f → (xs : List DiskRow) →
    ((d : DiskRow) → IsIn d xs → left_by (is_of_use want xs d) (f d) ≤ left_by (is_of_use want xs d) d) →
    (d : DiskRow) → IsIn d xs → left_by (is_of_use want xs d) (f d) + 1 ≤ left_by (is_of_use want xs d) d →
    disk_work want (map f xs) + 1 ≤ disk_work want xs
work-falls want f keeps xs each d is less =
    let sum : sum_by (disk_left want (map f xs)) (map f xs) + 1 ≤ sum_by (disk_left want xs) xs =
    sum_falls (disk_left want xs) (disk_left want (map f xs)) f xs
    (λ e also. subst (λ (b : Bool). left_by b (f e) ≤ disk_left want xs e) (sym (use-map f keeps want xs e))
    (each e also)) d is
    (subst (λ (b : Bool). left_by b (f d) + 1 ≤ disk_left want xs d) (sym (use-map f keeps want xs d)) less) in
    let missing : disks_missing want (map f xs) ≡ disks_missing want xs = missing-map f keeps want xs in
    omega arith

-- .. as where one disk is changed
pub one-falls : (want : Option DiskWant) (change : DiskRow → DiskRow) → Keeps change → (xs : List DiskRow)
    (test : DiskRow → Bool) (d : DiskRow) → IsIn d xs → AllOf d.disk test xs →
    ((e : DiskRow) → test e ≡ true →
    left_by (is_of_use want xs e) (change e) + 1 ≤ left_by (is_of_use want xs e) e) →
    disk_work want (changing d.disk change xs) + 1 ≤ disk_work want xs
one-falls want g keeps xs test d is all less =
    work-falls want (one d.disk g) (keeps-one d.disk g keeps) xs each d is
    (subst (λ (it : DiskRow). left_by (is_of_use want xs d) it + 1 ≤ left_by (is_of_use want xs d) d)
    (ap (λ b. if b then g d else d) (sym (eq-eqb d.disk d.disk refl)))
    (less d (all d is (eq-eqb d.disk d.disk refl))))
  where
    each : (e : DiskRow) → IsIn e xs →
        left_by (is_of_use want xs e) (one d.disk g e) ≤ left_by (is_of_use want xs e) e
    each e also = by_number (e.disk == d.disk) refl
      where
        by_number : (b : Bool) → (e.disk == d.disk) ≡ b →
            left_by (is_of_use want xs e) (if b then g e else e) ≤ left_by (is_of_use want xs e) e
        by_number true same =
            let falls : left_by (is_of_use want xs e) (g e) + 1 ≤ left_by (is_of_use want xs e) e =
            less e (all e also same) in omega arith
        by_number false other = omega arith

-- what is to be freed of all disks falls so too
pub free-falls : (change : DiskRow → DiskRow) (xs : List DiskRow) (test : DiskRow → Bool) (d : DiskRow) → IsIn d xs →
    AllOf d.disk test xs → ((e : DiskRow) → test e ≡ true → to_free (change e) + 1 ≤ to_free e) →
    sum_by to_free (changing d.disk change xs) + 1 ≤ sum_by to_free xs
free-falls g xs test d is all less =
    sum_falls to_free to_free (one d.disk g) xs each d is
    (subst (λ (it : DiskRow). to_free it + 1 ≤ to_free d)
    (ap (λ b. if b then g d else d) (sym (eq-eqb d.disk d.disk refl)))
    (less d (all d is (eq-eqb d.disk d.disk refl))))
  where
    each : (e : DiskRow) → IsIn e xs → to_free (one d.disk g e) ≤ to_free e
    each e also = by_number (e.disk == d.disk) refl
      where
        by_number : (b : Bool) → (e.disk == d.disk) ≡ b → to_free (if b then g e else e) ≤ to_free e
        by_number true same =
            let falls : to_free (g e) + 1 ≤ to_free e = less e (all e also same) in omega arith
        by_number false other = omega arith

-- ---- the disks let go of

map-map : (f g h : DiskRow → DiskRow) → ((d : DiskRow) → g (f d) ≡ h d) → (xs : List DiskRow) →
    map g (map f xs) ≡ map h xs
map-map f g h same [] = refl
map-map f g h same (x ∷ xs) = λ i. same x i ∷ map-map f g h same xs i

pub let_go-one : (number : ℕ) (change : DiskRow → DiskRow) → ((d : DiskRow) → let_go (change d) ≡ let_go d) →
    (xs : List DiskRow) → map let_go (changing number change xs) ≡ map let_go xs
let_go-one x g same xs = map-map (one x g) let_go let_go (λ d. by_number d (d.disk == x)) xs
  where
    by_number : (d : DiskRow) (b : Bool) → let_go (if b then g d else d) ≡ let_go d
    by_number d true = same d
    by_number d false = refl

pub let_go-all : (xs : List DiskRow) → map let_go (map let_go xs) ≡ map let_go xs
let_go-all xs = map-map let_go let_go let_go (λ d. refl) xs

pub from_nothing-same : (want : Option GoalRow) (xs ys : List DiskRow) → map let_go ys ≡ map let_go xs →
    left_from_nothing want ys ≡ left_from_nothing want xs
from_nothing-same None xs ys same = refl
from_nothing-same (Some w) xs ys same =
    ap (λ disks. if is_detached w.state then 0 else 2 + disk_work w.disk disks + one_if (is_running w.state)) same
