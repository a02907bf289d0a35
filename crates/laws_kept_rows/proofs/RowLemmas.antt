-- One row and one call of it: what the row was before it, how it is made anew from that, and what stays its own.
use Rattle.std.proofs.Common.{◌≡◌, ◌∙◌, ℕ, Bool, true, false, not, Option, Some, None, List}
use Rattle.std.proofs.Common.{ap, refl, sym, arith}
use Rattle.std.specs.Prelude.{if◌then◌else◌, is_some}
use Rattle.std.specs.List.{list_all}
use Rattle.std.specs.Option.{option_eq}
use Rattle.std.proofs.lemmas.Bool.{and_from, and_parts, false≢true}
use Rattle.bosh_base.specs.CallStep.{has_number}
use Rattle.bosh_base.specs.Cloud.{disk_creation}
use Rattle.bosh_base.specs.ExactParts.{Decides-make}
use Rattle.bosh_base.specs.declared.answer.Answer.{Answer}
use Rattle.bosh_base.specs.declared.call.Call.{Call}
use Rattle.bosh_base.specs.declared.call.Call.TheVariants as calls
use Rattle.bosh_base.specs.declared.entry.Entry.{Entry}
use Rattle.bosh_base.specs.declared.make.Make.{Make}
use Rattle.bosh_base.specs.declared.owner.Owner.TheVariants.{Instance}
use Rattle.bosh_base.specs.declared.row.Doubt.{Doubt}
use Rattle.bosh_base.specs.declared.row.Row.{Row}
use Rattle.bosh_rows.specs.After.{after, begun_row, leaves_doubt, make_asked}
use Rattle.bosh_rows.specs.Same.{same_make}
use Rattle.bosh_rows.specs.Tied.{without_doubt}
use Rattle.laws_row_facts.specs.Calls.{row_before}
use Rattle.laws_row_facts.specs.Numbers.{IsDoubtItsOwn, is_doubt_its_own, is_effect_of}
use Rattle.laws_row_facts.specs.Words.{where_any}
use Rattle.laws_row_frames.specs.Others.{is_without_disk}
use Rattle.laws_rows.specs.Rightful.{fits}
use Rattle.laws_rows.specs.SoundDisks.{is_recorded}

-- ---- the instance

pub after_own : (n : ℕ) (call : Call) (answer : Answer) (row : Row) → (after n call answer row).inst ≡ row.inst
after_own n call answer row = grind (arith)

pub before_own : (call : Call) (row : Row) → (row_before call row).inst ≡ row.inst
before_own call row = by (leaves_doubt call)
  where
    by : (leaves : Bool) → (if leaves then without_doubt row else row).inst ≡ row.inst
    by true = refl
    by false = refl

-- ---- the call in doubt

pub own_before_call : (effects : List Entry) (call : Call) (row : Row) → IsDoubtItsOwn effects row
    → IsDoubtItsOwn effects (row_before call row)
own_before_call effects call row own = by (leaves_doubt call)
  where
    by : (leaves : Bool) → is_doubt_its_own effects (if leaves then without_doubt row else row) ≡ true
    by true = refl
    by false = own

doubt_after : (P : Option Doubt → Bool) → P None ≡ true → (n : ℕ) (call : Call) (answer : Answer) (row : Row)
    → P row.doubt ≡ true → P (after n call answer row).doubt ≡ true
doubt_after P none n call answer row is = grind (arith, is, none)

pub own_after_call : (effects : List Entry) (n : ℕ) (call : Call) (answer : Answer) (row : Row)
    → IsDoubtItsOwn effects row → IsDoubtItsOwn effects (after n call answer row)
own_after_call effects n call answer row own =
    (λ j. where_any
    (λ d. list_all
    (is_effect_of d.n (Instance (after_own n call answer row j)) (after_own n call answer row j).dep d.call) effects)
    (after n call answer row).doubt)
    ∙ doubt_after
    (λ doubt. where_any (λ d. list_all (is_effect_of d.n (Instance row.inst) row.inst.dep d.call) effects) doubt)
    refl n call answer row own

-- ---- the row is that before its call, once the call began

make_same : (call : Call) (row : Row) → (leaves_doubt call ≡ true → fits row call ≡ true)
    → make_asked call row.make ≡ row.make
make_same (calls.CreateVm make hint) row fit =
    sym (by row.make
    (and_parts (not (is_some row.vm)) (option_eq same_make row.make (Some make)) (fit refl)).1)
  where
    by : (old : Option Make) → option_eq same_make old (Some make) ≡ true → old ≡ Some make
    by (Some it) same = ap Some ((Decides-make it make).0 same)
    by None same = absurd (false≢true same)
make_same call row fit = refl

pub begun_same : (n : ℕ) (call : Call) (row : Row)
    → (leaves_doubt call ≡ true → row.doubt ≡ Some (record { n = n; call = call }))
    → (leaves_doubt call ≡ true → fits row call ≡ true) → begun_row n call (row_before call row) ≡ row
begun_same n call row doubts fit = by (leaves_doubt call) refl
  where
    makes : make_asked call row.make ≡ row.make
    makes = make_same call row fit

    by : (leaves : Bool) → leaves_doubt call ≡ leaves → begun_row n call (row_before call row) ≡ row
    by true leaves =
        (λ j. begun_row n call (if leaves j then without_doubt row else row))
        ∙ ((λ j. record row {
          make = make_asked call row.make;
          doubt = if leaves j then Some (record { n = n; call = call }) else None;
        })
        ∙ (λ j. record row { make = makes j; doubt = sym (doubts leaves) j }))
    by false none =
        (λ j. begun_row n call (if none j then without_doubt row else row))
        ∙ ((λ j. record row {
          make = make_asked call row.make;
          doubt = if none j then Some (record { n = n; call = call }) else row.doubt;
        })
        ∙ (λ j. record row { make = makes j }))

-- ---- a disk that is none of the row's

pub without_before : (effects : List Entry) (call : Call) (row : Row) (d : ℕ) → is_without_disk effects row d ≡ true
    → is_without_disk effects (row_before call row) d ≡ true
without_before effects call row d none = by (leaves_doubt call)
  where
    by : (leaves : Bool) → is_without_disk effects (if leaves then without_doubt row else row) d ≡ true
    by true =
        and_from (not (is_recorded row.disks d)) true
        (and_parts (not (is_recorded row.disks d))
        (where_any (λ doubt. not (has_number doubt.n (disk_creation effects d))) row.doubt) none).0 refl
    by false = none
