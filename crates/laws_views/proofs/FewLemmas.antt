-- The goals that are planned have few slots.
use Rattle.std.proofs.Common.{◌≡◌, ◌∙◌, ℕ, suc, zero, ◌≤◌, Bool, true, false, ◌&&◌, List, [], ◌∷◌, Option, Some, None}
use Rattle.std.proofs.Common.{Result, Ok, Err, ap, arith, length, map, refl, subst, sym}
use Rattle.std.specs.Prelude.{ℤ, pos, negsuc, codes, min, nat_le, if◌then◌else◌}
use Rattle.std.proofs.lemmas.Bool.{and_parts, leb-true}
use Rattle.bosh_asks.specs.Goals.{if_checked, if_read, recorded_config}
use Rattle.bosh_bands.specs.Least.{least}
use Rattle.bosh_base.specs.declared.addr.Addr.{Addr}
use Rattle.bosh_base.specs.declared.make.Make.{Make}
use Rattle.bosh_base.specs.declared.plan.NetPlan.{NetPlan}
use Rattle.bosh_base.specs.declared.view.View.{View}
use Rattle.bosh_cloudcfg.specs.Check.{config_of_tables, config_of_tree, unless}
use Rattle.bosh_cloudcfg.specs.Config.{config_of}
use Rattle.bosh_cloudcfg.specs.Passes.{first_fault}
use Rattle.bosh_cloudcfg.specs.Subnet.{a_network}
use Rattle.bosh_cloudcfg.specs.Tables.{a_compilation, a_named_list, a_vm_kind, a_zone, disk_types, kinds, places, tables}
use Rattle.bosh_cloudcfg.specs.declared.config.Compilation.{Compilation}
use Rattle.bosh_cloudcfg.specs.declared.config.Config.{Config}
use Rattle.bosh_cloudcfg.specs.declared.fault.ConfigFault.{ConfigFault}
use Rattle.bosh_fields.specs.Answer.{◌>>=◌, both}
use Rattle.bosh_fields.specs.Field.{required, required_value, value_at}
use Rattle.bosh_fields.specs.Kind.{Kind, a_mapping, an_integer}
use Rattle.bosh_fields.specs.Number.{a_number, within}
use Rattle.bosh_fields.specs.declared.fault.FieldFault.{FieldFault}
use Rattle.bosh_pool.specs.Fixed.{same_addr}
use Rattle.bosh_pool.specs.Spare.{is_spare, spares, with_others}
use Rattle.bosh_slots.specs.Slots.{addrs_for, held_addrs, slot, slots, with_addrs}
use Rattle.bosh_yaml.specs.Reading.{reading}
use Rattle.bosh_yaml.specs.Tree.{Tree}
use Rattle.bosh_yaml.specs.declared.fault.ReadFault.{ReadFault}
use Rattle.std.proofs.Common.{◌++◌}
use Rattle.std.specs.Prelude.{◌||◌}
use Rattle.std.specs.List.{list_any}

-- ---- steps of which none has a fault

record Steps {A B : Type 0} (first : Result A FieldFault) (further : A → Result B FieldFault) (b : B) : Type 0 where
  value : A
  is : first ≡ Ok value
  next : further value ≡ Ok b

steps : {A B : Type 0} (first : Result A FieldFault) (further : A → Result B FieldFault) (b : B) → (first >>= further) ≡ Ok b
    → Steps first further b
steps (Ok value) further b is = record { value = value; is = refl; next = is }
steps (Err fault) further b is = absurd cc

same_ok : {A F : Type 0} (a b : A) → (◌≡◌ {A = Result A F} (Ok a) (Ok b)) → a ≡ b
same_ok a b same = cc

there : {A : Type 0} (kind : Kind A) (key : List ℕ) (tree : Option Tree) (a : A) → required_value kind key tree ≡ Ok a
    → (t : Tree) × (kind key t ≡ Ok a)
there kind key (Some t) a is = (t, is)
there kind key None a is = absurd cc

-- ---- workers

number_few : (least most : ℕ) (key : List ℕ) (t : Tree) (n : ℕ) → a_number least most key t ≡ Ok n → n ≤ most
number_few least most key t n is =
    let it = steps (an_integer key t) (within least most key) n is in
    by it.value it.next
  where
    of : (b : Bool) (k : ℕ) → (nat_le least k && nat_le k most) ≡ b
        → (if b then Ok k else within least most key (negsuc 0)) ≡ Ok n → n ≤ most
    of true k bound is =
        subst (λ n. n ≤ most) (same_ok k n is) (leb-true k most (and_parts (nat_le least k) (nat_le k most) bound).1)
    of false k bound is = absurd cc

    by : (z : ℤ) → within least most key z ≡ Ok n → n ≤ most
    by (pos k) is = of (nat_le least k && nat_le k most) k refl is
    by (negsuc k) is = absurd cc

compilation_few : (key : List ℕ) (t : Tree) (it : Compilation) → a_compilation key t ≡ Ok it → it.workers ≤ 64
compilation_few key t it is =
    let one = steps (a_mapping key t) _ it is in
    let two = steps (required (a_number 1 64) (codes "workers") one.value) _ it one.next in
    let three = steps (places one.value) _ it two.next in
    let number = there (a_number 1 64) (codes "workers") (value_at (codes "workers") one.value) two.value two.is in
    subst (λ n. n ≤ 64) (ap (λ (it : Compilation). it.workers) (same_ok _ it three.next))
    (number_few 1 64 (codes "workers") number.0 two.value number.1)

tables_few : (t : Tree) (read : _) → tables t ≡ Ok read → read.compilation.workers ≤ 64
tables_few t read is =
    let one = steps (both (required (a_named_list a_zone 64) (codes "azs") t)
    (required (a_named_list a_network 16) (codes "networks") t)) _ read is in
    let two = steps (kinds t) _ read one.next in
    let three = steps (both (required (a_named_list a_vm_kind 64) (codes "vm_types") t) (disk_types t)) _ two.value two.is in
    let four = steps (required a_compilation (codes "compilation") t) _ two.value three.next in
    let given = there a_compilation (codes "compilation") (value_at (codes "compilation") t) four.value four.is in
    subst (λ (it : Compilation). it.workers ≤ 64)
    (ap (λ pair. pair.1) (same_ok (three.value, four.value) two.value four.next)
    ∙ (λ i. (same_ok _ read two.next i).compilation))
    (compilation_few (codes "compilation") given.0 four.value given.1)

config_few : (t : Tree) (config : Config) → config_of_tree t ≡ Ok config → config.compilation.workers ≤ 64
config_few t config is = by (tables t) refl is
  where
    passed : (fault : Option ConfigFault) (read : _) → unless fault (config_of read) ≡ Ok config → config_of read ≡ config
    passed None read is = same_ok (config_of read) config is
    passed (Some fault) read is = absurd cc

    by : (read : Result _ FieldFault) → tables t ≡ read → config_of_tables read ≡ Ok config
        → config.compilation.workers ≤ 64
    by (Ok read) read_is is =
        subst (λ (config : Config). config.compilation.workers ≤ 64) (passed (first_fault (config_of read)) read is)
        (tables_few t read read_is)
    by (Err fault) read_is is = absurd cc

-- the workers of a cloud config that is recorded
pub workers_few : (file : Option (List ℕ)) (config : Config) → recorded_config file ≡ Some config
    → config.compilation.workers ≤ 64
workers_few None config is = absurd cc
workers_few (Some bytes) config is = read (reading bytes) is
  where
    checked : (tree : Tree) (answer : Result Config ConfigFault) → config_of_tree tree ≡ answer
        → if_checked answer ≡ Some config → config.compilation.workers ≤ 64
    checked tree (Ok it) answered is = config_few tree config (answered ∙ ap Ok (let same : it ≡ config = cc in same))
    checked tree (Err fault) answered is = absurd cc

    read : (answer : Result Tree ReadFault) → if_read answer ≡ Some config → config.compilation.workers ≤ 64
    read (Ok tree) is = checked tree (config_of_tree tree) refl is
    read (Err fault) is = absurd cc

-- ---- slots

spares_few : (plan : NetPlan) (net az : List ℕ) (most : ℕ) (used : Addr → Bool) → length (spares plan net az most used) ≤ most
spares_few plan net az zero used = omega arith
spares_few plan net az (suc most) used =
    by (least (is_spare plan net az used)) (λ addr. spares_few plan net az most (λ other. used other || same_addr other addr))
  where
    by : (found : Option Addr)
        → ((addr : Addr) → length (spares plan net az most (λ other. used other || same_addr other addr)) ≤ most)
        → length (with_others (λ addr. spares plan net az most (λ other. used other || same_addr other addr)) found) ≤ suc most
    by (Some addr) few =
        let fewer : length (spares plan net az most (λ other. used other || same_addr other addr)) ≤ most = few addr in
        omega arith
    by None few = omega arith

pub slots_few : (config : Config) (keys : ℕ) (own : List Addr) (view : View) (makes : List Make)
    → slots config keys own view ≡ Ok makes → length makes ≤ config.compilation.workers
slots_few config zero own view makes is =
    subst (λ (makes : List Make). length makes ≤ config.compilation.workers) (same_ok [] makes is) (omega arith)
slots_few config (suc keys) own view makes is =
    by (addrs_for config (suc keys) (held_addrs view ++ own))
    (let few : length (addrs_for config (suc keys) (held_addrs view ++ own)) ≤ min config.compilation.workers (suc keys) =
    spares_few config.plan config.compilation.network config.compilation.az (min config.compilation.workers (suc keys))
    (λ addr. list_any (same_addr addr) (held_addrs view ++ own)) in omega arith) is
  where
    mapped : (addrs : List Addr) → length (map (slot config) addrs) ≡ length addrs
    mapped [] = refl
    mapped (addr ∷ addrs) = ap suc (mapped addrs)

    by : (addrs : List Addr) → length addrs ≤ config.compilation.workers → with_addrs config addrs ≡ Ok makes
        → length makes ≤ config.compilation.workers
    by [] few is = absurd cc
    by (addr ∷ addrs) few is =
        subst (λ (makes : List Make). length makes ≤ config.compilation.workers)
        (same_ok (map (slot config) (addr ∷ addrs)) makes is)
        (subst (λ n. n ≤ config.compilation.workers) (sym (mapped (addr ∷ addrs))) few)
