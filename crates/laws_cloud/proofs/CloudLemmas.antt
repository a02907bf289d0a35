-- Each part of a move keeps the facts on what was done to the cloud.
use Rattle.std.proofs.Common.{◌≡◌, ◌∙◌, ℕ, Bool, true, false, ◌&&◌, not, Option, Some, None, List, [], ◌∷◌}
use Rattle.std.proofs.Common.{ap, refl, sym, subst}
use Rattle.std.specs.Prelude.{◌==◌, ◌||◌}
use Rattle.std.specs.List.{list_any}
use Rattle.std.proofs.lemmas.Bool.{and_parts, eqb-true, false≢true}
use Rattle.bosh_base.specs.CallStep.{is_mounted_on, takes_effect}
use Rattle.bosh_base.specs.Cloud.{is_disk_there, is_holder, is_running, is_silent, is_vm_there, vm_creation}
use Rattle.bosh_base.specs.declared.entry.Effect as effect
use Rattle.bosh_base.specs.declared.entry.Entry.{Entry}
use Rattle.bosh_base.specs.declared.entry.Entry.TheVariants as entries
use Rattle.bosh_base.specs.declared.entry.Loss.{Loss}
use Rattle.bosh_base.specs.declared.moves.Did.{Did}
use Rattle.bosh_base.specs.declared.owner.Owner.{Owner}
use Rattle.bosh_base.specs.declared.owner.Owner.TheVariants.{Instance, Compile, Disk}
use Rattle.bosh_base.specs.declared.row.DiskRow.{DiskRow}
use Rattle.bosh_history.specs.Moments.{Moment, OpenCall, performing}
use Rattle.bosh_history.specs.Notes.{Outside}
use Rattle.bosh_history.specs.Permitted.{PerformsOpen, can_lose, can_write, is_instances, runs_with}
use Rattle.bosh_history.specs.Words.{holds}
use Rattle.bosh_rows.specs.Disks.{active}
use Rattle.bosh_rows.specs.Tied.{vms_of}
use Rattle.laws_cloud.proofs.CallLemmas.{joins_own}
use Rattle.laws_cloud.proofs.DoneLemmas.{done_now, made_by}
use Rattle.laws_cloud.proofs.TellLemmas.{not_taken}
use Rattle.laws_cloud.specs.Cloud.{HasCloudFacts}
use Rattle.laws_facts.specs.Facts.{Holds}
use Rattle.laws_moves.specs.Parts.{Forgotten, IsKeptByParts, Lost, Noted, Performed, Writer, Written}
use Rattle.laws_row_facts.specs.Cloud.{CloudFacts, is_for_instance}
use Rattle.laws_row_frames.proofs.CloudCases.{cloud_kept}
use Rattle.laws_rows.proofs.RightLemmas.{takes_of}
use Rattle.laws_rows.specs.Rightful.{done_with}

-- ---- words

-- one of several meets a test
any_one : {X : Type 0} (test : X → Bool) (xs : List X) → list_any test xs ≡ true → (x : X) × (test x ≡ true)
any_one test [] none = absurd (false≢true none)
any_one {X = X} test (x ∷ xs) some = by (test x) refl some (λ any. any_one test xs any)
  where
    by : (b : Bool) → test x ≡ b → (b || list_any test xs) ≡ true
        → (list_any test xs ≡ true → (y : X) × (test y ≡ true)) → (y : X) × (test y ≡ true)
    by true is any others = (x, is)
    by false is any others = others any

-- ---- a call is performed

pub takes_now : (outside : Outside) (m : Moment) (d : Did) (call : OpenCall) → PerformsOpen outside m.effects d (Some call)
    → d.effect ≡ true → takes_effect outside.built m.effects call.begin.call ≡ true
takes_now outside m d call performs on =
    takes_of outside.built m.effects call.begin.call d.effect d.answer performs.step on

performed : (outside : Outside) (m : Moment) (d : Did) → PerformsOpen outside m.effects d (m.calls d.n) → Holds m
    → CloudFacts (performing m d).effects
performed outside m d may h = by (m.calls d.n) refl may
  where
    by : (call : Option OpenCall) → m.calls d.n ≡ call → PerformsOpen outside m.effects d call
        → CloudFacts (performing m d).effects
    by (Some call) is performs =
        subst (λ (xs : List Entry). CloudFacts xs) (sym (done_now m d call is)) (of d.effect refl)
      where
        of : (has : Bool) → d.effect ≡ has
            → CloudFacts (done_with has m.effects (made_by m.known call.begin))
        of true on =
            cloud_kept outside.built m.effects (entries.Effect (made_by m.known call.begin)) h.cloud
            (takes_now outside m d call performs on) (not_taken outside m h d call is performs.not_yet)
            (joins_own m h d.n call is) refl
        of false off = h.cloud
    by None is performs = absurd performs

-- ---- a write

-- the disk is there
pub disk_written : (m : Moment) (disk : ℕ) → Writer m disk → is_disk_there m.effects disk ≡ true
disk_written m disk it = by (active (m.known.row it.inst).disks) refl parts.0 parts.1
  where
    parts : (holds (λ d. d.disk == disk) (active (m.known.row it.inst).disks) ≡ true)
        × (can_write m it.inst ≡ true)
    parts = and_parts (holds (λ d. d.disk == disk) (active (m.known.row it.inst).disks)) _ it.is_active

    mounted : (d : ℕ) (v : ℕ) → runs_with m.effects d v ≡ true → is_disk_there m.effects d ≡ true
    mounted d v runs =
        let rest : (not (is_silent m.effects v) && is_mounted_on m.effects v d) ≡ true =
        (and_parts (is_running m.effects v) _ runs).1 in
        let on : is_mounted_on m.effects v d ≡ true = (and_parts (not (is_silent m.effects v)) _ rest).1 in
        (and_parts (is_disk_there m.effects d) (is_holder m.effects v d) (and_parts _ _ on).0).0

    by : (d : Option DiskRow) → active (m.known.row it.inst).disks ≡ d → holds (λ x. x.disk == disk) d ≡ true
        → holds (λ x. list_any (runs_with m.effects x.disk) (vms_of m.effects (Instance it.inst))) d ≡ true
        → is_disk_there m.effects disk ≡ true
    by (Some d) is same writes =
        let v : (v : ℕ) × (runs_with m.effects d.disk v ≡ true) =
        any_one (runs_with m.effects d.disk) (vms_of m.effects (Instance it.inst)) writes in
        ap (is_disk_there m.effects) (sym (eqb-true d.disk disk same)) ∙ mounted d.disk v.0 v.1
    by None is same writes = absurd (false≢true same)

-- ---- a loss

pub vm_lost : (effects : List Entry) (loss : Loss) → can_lose effects loss ≡ true
    → (is_vm_there effects loss.vm ≡ true) × (is_for_instance (vm_creation effects loss.vm) ≡ true)
vm_lost effects loss may =
    let parts : (is_vm_there effects loss.vm ≡ true) × (is_instances (vm_creation effects loss.vm) ≡ true) =
    and_parts (is_vm_there effects loss.vm) (is_instances (vm_creation effects loss.vm)) may in
    (parts.0, by (vm_creation effects loss.vm) parts.1)
  where
    of : (e : effect.Effect) (owner : Owner)
        → is_instances (Some (record e { owner = owner })) ≡ true
        → is_for_instance (Some (record e { owner = owner })) ≡ true
    of e (Instance i) is = refl
    of e (Compile t s) is = absurd (false≢true is)
    of e (Disk d) is = absurd (false≢true is)

    by : (o : Option effect.Effect) → is_instances o ≡ true → is_for_instance o ≡ true
    by (Some e) is = of e e.owner is
    by None is = absurd (false≢true is)

-- ---- all

pub cloud_parts : IsKeptByParts HasCloudFacts
cloud_parts outside m (Performed d) may h = performed outside m d may h
cloud_parts outside m (Written w) may h =
    cloud_kept outside.built m.effects (entries.Write w) h.cloud (disk_written m w.disk may) tt tt refl
cloud_parts outside m (Lost loss) may h =
    cloud_kept outside.built m.effects (entries.Lost loss) h.cloud (vm_lost m.effects loss may).0 tt tt
    (vm_lost m.effects loss may).1
cloud_parts outside m (Noted e) may h = h.cloud
cloud_parts outside m Forgotten may h = h.cloud
