-- What is done stays what the tables say, where one more thing is done.
use Rattle.std.proofs.Common.{◌≡◌, true, Option, Some, None, List, [], ◌∷◌, ◌++◌, sym, ◌∙◌, ap, subst, Result, Ok, Err}
use Rattle.std.specs.Prelude.{OnOk, OnErr, ◌+◌}
use Rattle.std.specs.Result.{is_ok}
use Rattle.bosh_base.proofs.HistoryLemmas.{EachAfter_last}
use Rattle.bosh_base.specs.Cloud.{disks_created, vms_created}
use Rattle.bosh_base.specs.declared.entry.Entry.{Entry}
use Rattle.bosh_base.specs.declared.entry.Entry.TheVariants.{Effect}
use Rattle.bosh_base.specs.declared.machine.Disk.{Disk}
use Rattle.bosh_base.specs.declared.machine.Machine.{Machine}
use Rattle.bosh_inventory.proofs.DiskLemmas.{AreTables-disk}
use Rattle.bosh_inventory.proofs.VmTableLemmas.{AreTables-created}
use Rattle.bosh_inventory.specs.Made.{MakesDisk, MakesVm, new_disk, new_machine}
use Rattle.bosh_registers.specs.Changes.{tables_after}
use Rattle.bosh_inventory.specs.Changes.{Leads}
use Rattle.bosh_inventory.specs.Happens.{AllFollow, MayFollow}
use Rattle.bosh_inventory.specs.Rows.{AreTables}
use Rattle.bosh_registers.specs.declared.change.Change.{Change}
use Rattle.bosh_registers.specs.declared.tables.Tables.{Tables}

pub on_ok : {T E : Type 0} {P : Type 0} (r : Result T E) → is_ok r ≡ true → OnOk r P → P
on_ok (Ok value) is p = p
on_ok (Err fault) is p = absurd cc

pub invariant-put : (now xs ys : List Entry) (t u : Tables) (entry : Entry) (change : Change) → xs ≡ now →
    ys ≡ xs ++ entry ∷ [] → u ≡ tables_after t change →
    Leads now entry change → MayFollow now entry → AreTables xs t.vms t.disks t.holders → AllFollow xs → AreTables ys
    u.vms u.disks u.holders × AllFollow ys
invariant-put now xs ys t u entry change seen more after leads follows tables all =
    let here : AreTables now t.vms t.disks t.holders =
    subst (λ (it : List Entry). AreTables it t.vms t.disks t.holders) seen tables in
    let each : AllFollow (now ++ entry ∷ []) =
    EachAfter_last MayFollow [] now entry (subst AllFollow seen all) follows in
    let end : ys ≡ now ++ entry ∷ [] = more ∙ ap (λ it. it ++ entry ∷ []) seen in (
      subst (λ (it : List Entry). AreTables it u.vms u.disks u.holders) (sym end)
          (subst (λ (it : Tables). AreTables (now ++ entry ∷ []) it.vms it.disks it.holders) (sym after)
          (leads.keeps t here)),
      subst AllFollow (sym end) each,
    )

pub invariant-vm : (now xs ys : List Entry) (t : Tables) (vms : List (Option Machine)) (entry : Entry)
    (machine : Machine) → xs ≡ now → ys ≡ xs ++ entry ∷ [] → vms ≡ t.vms ++ Some machine ∷ [] →
    MakesVm now entry machine → MayFollow now entry → AreTables xs t.vms t.disks t.holders → AllFollow xs → AreTables ys
    vms t.disks t.holders × AllFollow ys
invariant-vm now xs ys t vms entry machine seen more after makes follows tables all =
    let here : AreTables now t.vms t.disks t.holders =
    subst (λ (it : List Entry). AreTables it t.vms t.disks t.holders) seen tables in
    let each : AllFollow (now ++ entry ∷ []) =
    EachAfter_last MayFollow [] now entry (subst AllFollow seen all) follows in
    let end : ys ≡ now ++ entry ∷ [] = more ∙ ap (λ it. it ++ entry ∷ []) seen in
    let grown : AreTables (now ++ Effect makes.creation ∷ [])
    (t.vms ++ Some (new_machine (vms_created now + 1) makes.creation makes.make) ∷ []) t.disks t.holders =
    AreTables-created now makes.creation makes.make t.vms t.disks t.holders makes.asks here in
    let P : List Entry → Type 0 = λ it. AreTables it vms t.disks t.holders in
    let Q : List (Option Machine) → Type 0 = λ it. AreTables (now ++ Effect makes.creation ∷ []) it t.disks t.holders in
    let rows : vms ≡ t.vms ++ Some (new_machine (vms_created now + 1) makes.creation makes.make) ∷ [] =
    after ∙ ap (λ m. t.vms ++ Some m ∷ []) makes.made in (
      subst P (sym (end ∙ ap (λ it. now ++ it ∷ []) makes.is)) (subst Q (sym rows) grown),
      subst AllFollow (sym end)
          each,
    )

pub invariant-disk : (now xs ys : List Entry) (t u : Tables) (entry : Entry) (disk : Disk) → xs ≡ now →
    ys ≡ xs ++ entry ∷ [] → u ≡ record t { disks = t.disks ++ Some disk ∷ []; holders = t.holders ++ None ∷ [] } →
    MakesDisk now entry disk → MayFollow now entry → AreTables xs t.vms t.disks t.holders → AllFollow xs → AreTables ys
    u.vms u.disks u.holders × AllFollow ys
invariant-disk now xs ys t u entry disk seen more after makes follows tables all =
    let here : AreTables now t.vms t.disks t.holders =
    subst (λ (it : List Entry). AreTables it t.vms t.disks t.holders) seen tables in
    let each : AllFollow (now ++ entry ∷ []) =
    EachAfter_last MayFollow [] now entry (subst AllFollow seen all) follows in
    let end : ys ≡ now ++ entry ∷ [] = more ∙ ap (λ it. it ++ entry ∷ []) seen in
    let grown : AreTables (now ++ Effect makes.creation ∷ []) t.vms
    (t.disks ++ Some (new_disk (disks_created now + 1) makes.creation makes.want) ∷ []) (t.holders ++ None ∷ []) =
    AreTables-disk now makes.creation makes.want t.vms t.disks t.holders makes.asks here in
    let P : List Entry → Type 0 = λ it. AreTables it u.vms u.disks u.holders in
    let Q : Tables → Type 0 = λ it. AreTables (now ++ Effect makes.creation ∷ []) it.vms it.disks it.holders in
    let rows : u ≡ record t {
      disks = t.disks ++ Some (new_disk (disks_created now + 1) makes.creation makes.want) ∷ [];
      holders = t.holders ++ None ∷ [];
    } =
    after
    ∙ ap (λ d. let it : Tables = record t { disks = t.disks ++ Some d ∷ []; holders = t.holders ++ None ∷ [] } in
    it) makes.made in (
      subst P (sym (end ∙ ap (λ it. now ++ it ∷ []) makes.is)) (subst Q (sym rows) grown),
      subst AllFollow (sym end)
          each,
    )

-- the same whether the store took the body or failed
pub invariant-vm_kept : {T E : Type 0} (r : Result T E) (now xs ys : List Entry) (t : Tables)
    (vms : List (Option Machine)) (entry : Entry) (machine : Machine) → xs ≡ now →
    OnOk r (ys ≡ xs ++ entry ∷ []) → OnOk r (vms ≡ t.vms ++ Some machine ∷ []) → OnErr r (ys ≡ xs) → OnErr r
    (vms ≡ t.vms) →
    MakesVm now entry machine → MayFollow now entry → AreTables xs t.vms t.disks t.holders → AllFollow xs → AreTables ys
    vms t.disks t.holders × AllFollow ys
invariant-vm_kept (Ok value) now xs ys t vms entry machine seen more after same still makes follows tables all =
    invariant-vm now xs ys t vms entry machine seen more after makes follows tables all
invariant-vm_kept (Err fault) now xs ys t vms entry machine seen more after same still makes follows tables all = (
  subst (λ (it : List Entry). AreTables it vms t.disks t.holders) (sym same)
      (subst (λ (it : List (Option Machine)). AreTables xs it t.disks t.holders) (sym still) tables),
  subst AllFollow
      (sym same) all,
)

pub invariant-disk_kept : {T E : Type 0} (r : Result T E) (now xs ys : List Entry) (t u : Tables) (entry : Entry)
    (disk : Disk) → xs ≡ now →
    OnOk r (ys ≡ xs ++ entry ∷ []) → OnOk r (u ≡ record t
    { disks = t.disks ++ Some disk ∷ []; holders = t.holders ++ None ∷ [] }) → OnErr r (ys ≡ xs) → OnErr r (u ≡ t) →
    MakesDisk now entry disk → MayFollow now entry → AreTables xs t.vms t.disks t.holders → AllFollow xs → AreTables ys
    u.vms u.disks u.holders × AllFollow ys
invariant-disk_kept (Ok value) now xs ys t u entry disk seen more after same still makes follows tables all =
    invariant-disk now xs ys t u entry disk seen more after makes follows tables all
invariant-disk_kept (Err fault) now xs ys t u entry disk seen more after same still makes follows tables all = (
  subst (λ (it : List Entry). AreTables it u.vms u.disks u.holders) (sym same)
      (subst (λ (it : Tables). AreTables xs it.vms it.disks it.holders) (sym still) tables),
  subst AllFollow
      (sym same) all,
)
