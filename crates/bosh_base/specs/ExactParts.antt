-- That `==` is true of a value and itself alone, of the types whose parts are lists, options or variants.
use Rattle.std.specs.Prelude.{◌≡◌, ℕ, nat_eq, Option, List}
use Rattle.std.proofs.Common.{rules, refl}
use Rattle.std.proofs.lemmas.Bool.Decides.{Decides-eqb, Decides-and, Decides-like}
use Rattle.std.specs.Bool.{Decides}
use Rattle.std.specs.Option.{option_eq}
use Rattle.std.specs.Cmp.Lexicographic.{pointwise}
use Rattle.bosh_base.specs.Exact.{Decides-list, Decides-option}
use Rattle.bosh_base.specs.declared.method.Method.{Method}
use Rattle.bosh_base.specs.contracts.method.MethodPartialEq.TheImpl as method_test
use Rattle.bosh_base.specs.declared.owner.Owner.{Owner}
use Rattle.bosh_base.specs.contracts.owner.OwnerPartialEq.TheImpl as owner_test
use Rattle.bosh_base.specs.declared.addr.NetAddr.{NetAddr}
use Rattle.bosh_base.specs.contracts.addr.NetAddrPartialEq.TheImpl as net_addr_test
use Rattle.bosh_base.specs.declared.make.Make.{Make}
use Rattle.bosh_base.specs.contracts.make.MakePartialEq.TheImpl as make_test
use Rattle.bosh_base.specs.declared.spec.Mark.{Mark}
use Rattle.bosh_base.specs.contracts.spec.MarkPartialEq.TheImpl as mark_test
use Rattle.bosh_base.specs.declared.spec.Placed.{Placed}
use Rattle.bosh_base.specs.contracts.spec.PlacedPartialEq.TheImpl as placed_test
use Rattle.bosh_base.specs.declared.spec.Spec.{Spec}
use Rattle.bosh_base.specs.contracts.spec.SpecPartialEq.TheImpl as spec_test
use Rattle.bosh_base.specs.declared.key.Key.{Key}
use Rattle.bosh_base.specs.contracts.key.KeyPartialEq.TheImpl as key_test
use Rattle.bosh_base.specs.declared.key.KeyWork.{KeyWork}
use Rattle.bosh_base.specs.contracts.key.KeyWorkPartialEq.TheImpl as key_work_test
use Rattle.bosh_base.specs.declared.release.Setting.{Setting}
use Rattle.bosh_base.specs.contracts.release.SettingPartialEq.TheImpl as setting_test
use Rattle.bosh_base.specs.declared.release.PropSpec.{PropSpec}
use Rattle.bosh_base.specs.contracts.release.PropSpecPartialEq.TheImpl as prop_spec_test
use Rattle.bosh_base.specs.declared.release.LinkSpec.{LinkSpec}
use Rattle.bosh_base.specs.contracts.release.LinkSpecPartialEq.TheImpl as link_spec_test
use Rattle.bosh_base.specs.declared.release.TemplateSpec.{TemplateSpec}
use Rattle.bosh_base.specs.contracts.release.TemplateSpecPartialEq.TheImpl as template_spec_test
use Rattle.bosh_base.specs.declared.release.PackageSpec.{PackageSpec}
use Rattle.bosh_base.specs.contracts.release.PackageSpecPartialEq.TheImpl as package_spec_test
use Rattle.bosh_base.specs.declared.release.JobSpec.{JobSpec}
use Rattle.bosh_base.specs.contracts.release.JobSpecPartialEq.TheImpl as job_spec_test
use Rattle.bosh_base.specs.declared.task.TaskEnd.{TaskEnd}
use Rattle.bosh_base.specs.declared.task.TaskEnd.TheVariants.{Finished, Fault, Interrupted, Gone}
use Rattle.bosh_base.specs.contracts.task.TaskEndPartialEq.TheImpl as task_end_test
use Rattle.bosh_base.specs.declared.digest.Digest.{Digest}
use Rattle.bosh_base.specs.contracts.digest.DigestPartialEq.TheImpl as digest_test
use Rattle.bosh_base.specs.declared.disk_want.DiskWant.{DiskWant}
use Rattle.bosh_base.specs.contracts.disk_want.DiskWantPartialEq.TheImpl as disk_want_test
use Rattle.bosh_base.specs.declared.answer.Answer.{Answer}
use Rattle.bosh_base.specs.contracts.answer.AnswerPartialEq.TheImpl as answer_test
use Rattle.bosh_base.specs.declared.call.Call.{Call}
use Rattle.bosh_base.specs.declared.call.Call.TheVariants.{CreateVm, DeleteVm, HasVm, FindVm, CreateDisk, DeleteDisk, HasDisk, FindDisk, AttachDisk, DetachDisk, GetDisks, Ping, GetState, Apply, Start, Drain, Stop, MountDisk, UnmountDisk, ListDisk, MigrateDisk, CompilePackage}
use Rattle.bosh_base.specs.contracts.call.CallPartialEq.TheImpl as call_test

pub Decides-method : (a b : Method) → Decides (method_test.ghosts.eq a b) (a ≡ b)
Decides-method a b =
    Prim.search rules

pub Decides-owner : (a b : Owner) → Decides (owner_test.ghosts.eq a b) (a ≡ b)
Decides-owner a b =
    Prim.search rules

pub Decides-net_addr : (a b : NetAddr) → Decides (net_addr_test.ghosts.eq a b) (a ≡ b)
Decides-net_addr a b =
    Prim.search rules

pub Decides-make : (a b : Make) → Decides (make_test.ghosts.eq a b) (a ≡ b)
Decides-make a b =
    let nets : Decides (pointwise net_addr_test.ghosts.eq a.nets b.nets) (a.nets ≡ b.nets) =
    Decides-list Decides-net_addr a.nets b.nets in
    Prim.search rules

pub Decides-mark : (a b : Mark) → Decides (mark_test.ghosts.eq a b) (a ≡ b)
Decides-mark a b =
    Prim.search rules

pub Decides-placed : (a b : Placed) → Decides (placed_test.ghosts.eq a b) (a ≡ b)
Decides-placed a b =
    Prim.search rules

pub Decides-spec : (a b : Spec) → Decides (spec_test.ghosts.eq a b) (a ≡ b)
Decides-spec a b =
    let jobs : Decides (pointwise mark_test.ghosts.eq a.jobs b.jobs) (a.jobs ≡ b.jobs) =
    Decides-list Decides-mark a.jobs b.jobs in
    let packages : Decides (pointwise mark_test.ghosts.eq a.packages b.packages) (a.packages ≡ b.packages) =
    Decides-list Decides-mark a.packages b.packages in
    let files : Decides (pointwise placed_test.ghosts.eq a.files b.files) (a.files ≡ b.files) =
    Decides-list Decides-placed a.files b.files in
    Prim.search rules

pub Decides-key : (a b : Key) → Decides (key_test.ghosts.eq a b) (a ≡ b)
Decides-key a b =
    Prim.search rules

pub Decides-key_work : (a b : KeyWork) → Decides (key_work_test.ghosts.eq a b) (a ≡ b)
Decides-key_work a b =
    let deps : Decides (pointwise key_test.ghosts.eq a.deps b.deps) (a.deps ≡ b.deps) =
    Decides-list Decides-key a.deps b.deps in
    Prim.search rules

pub Decides-setting : (a b : Setting) → Decides (setting_test.ghosts.eq a b) (a ≡ b)
Decides-setting a b =
    Prim.search rules

pub Decides-prop_spec : (a b : PropSpec) → Decides (prop_spec_test.ghosts.eq a b) (a ≡ b)
Decides-prop_spec a b =
    let fallback : Decides (option_eq setting_test.ghosts.eq a.fallback b.fallback) (a.fallback ≡ b.fallback) =
    Decides-option Decides-setting a.fallback b.fallback in
    Prim.search rules

pub Decides-link_spec : (a b : LinkSpec) → Decides (link_spec_test.ghosts.eq a b) (a ≡ b)
Decides-link_spec a b =
    let properties : Decides (pointwise (pointwise nat_eq) a.properties b.properties) (a.properties ≡ b.properties) =
    Decides-list (Decides-list Decides-eqb) a.properties b.properties in
    Prim.search rules

pub Decides-template_spec : (a b : TemplateSpec) → Decides (template_spec_test.ghosts.eq a b) (a ≡ b)
Decides-template_spec a b =
    Prim.search rules

pub Decides-package_spec : (a b : PackageSpec) → Decides (package_spec_test.ghosts.eq a b) (a ≡ b)
Decides-package_spec a b =
    let deps : Decides (pointwise (pointwise nat_eq) a.deps b.deps) (a.deps ≡ b.deps) =
    Decides-list (Decides-list Decides-eqb) a.deps b.deps in
    Prim.search rules

pub Decides-job_spec : (a b : JobSpec) → Decides (job_spec_test.ghosts.eq a b) (a ≡ b)
Decides-job_spec a b =
    let templates : Decides (pointwise template_spec_test.ghosts.eq a.templates b.templates) (a.templates ≡ b.templates) =
    Decides-list Decides-template_spec a.templates b.templates in
    let packages : Decides (pointwise (pointwise nat_eq) a.packages b.packages) (a.packages ≡ b.packages) =
    Decides-list (Decides-list Decides-eqb) a.packages b.packages in
    let properties : Decides (pointwise prop_spec_test.ghosts.eq a.properties b.properties) (a.properties ≡ b.properties) =
    Decides-list Decides-prop_spec a.properties b.properties in
    let provides : Decides (pointwise link_spec_test.ghosts.eq a.provides b.provides) (a.provides ≡ b.provides) =
    Decides-list Decides-link_spec a.provides b.provides in
    let consumes : Decides (pointwise link_spec_test.ghosts.eq a.consumes b.consumes) (a.consumes ≡ b.consumes) =
    Decides-list Decides-link_spec a.consumes b.consumes in
    Prim.search rules

pub Decides-task_end : (a b : TaskEnd) → Decides (task_end_test.ghosts.eq a b) (a ≡ b)
Decides-task_end Finished Finished = (λ _. refl, λ _. refl)
Decides-task_end Finished (Fault n' m' o') = (λ same. cc, λ same. cc)
Decides-task_end Finished Interrupted = (λ same. cc, λ same. cc)
Decides-task_end Finished (Gone n' m' o') = (λ same. cc, λ same. cc)
Decides-task_end (Fault n m o) Finished = (λ same. cc, λ same. cc)
Decides-task_end (Fault n m o) (Fault n' m' o') =
    Decides-like _ (λ (same_n, (same_method, same_owner)). cc) (λ same. (cc, (cc, cc)))
    (Decides-and _ _ (Decides-eqb n n') (Decides-and _ _ (Decides-method m m') (Decides-owner o o')))
Decides-task_end (Fault n m o) Interrupted = (λ same. cc, λ same. cc)
Decides-task_end (Fault n m o) (Gone n' m' o') = (λ same. cc, λ same. cc)
Decides-task_end Interrupted Finished = (λ same. cc, λ same. cc)
Decides-task_end Interrupted (Fault n' m' o') = (λ same. cc, λ same. cc)
Decides-task_end Interrupted Interrupted = (λ _. refl, λ _. refl)
Decides-task_end Interrupted (Gone n' m' o') = (λ same. cc, λ same. cc)
Decides-task_end (Gone n m o) Finished = (λ same. cc, λ same. cc)
Decides-task_end (Gone n m o) (Fault n' m' o') = (λ same. cc, λ same. cc)
Decides-task_end (Gone n m o) Interrupted = (λ same. cc, λ same. cc)
Decides-task_end (Gone n m o) (Gone n' m' o') =
    Decides-like _ (λ (same_n, (same_method, same_owner)). cc) (λ same. (cc, (cc, cc)))
    (Decides-and _ _ (Decides-eqb n n') (Decides-and _ _ (Decides-method m m') (Decides-owner o o')))

pub Decides-digest : (a b : Digest) → Decides (digest_test.ghosts.eq a b) (a ≡ b)
Decides-digest a b =
    Prim.search rules

pub Decides-disk_want : (a b : DiskWant) → Decides (disk_want_test.ghosts.eq a b) (a ≡ b)
Decides-disk_want a b =
    Prim.search rules

pub Decides-answer : (a b : Answer) → Decides (answer_test.ghosts.eq a b) (a ≡ b)
Decides-answer a b =
    let spec : (x y : Option Spec) → Decides (option_eq spec_test.ghosts.eq x y) (x ≡ y) = Decides-option Decides-spec in
    let digest : (x y : Digest) → Decides (digest_test.ghosts.eq x y) (x ≡ y) = Decides-digest in
    Prim.search rules

pub Decides-call : (a b : Call) → Decides (call_test.ghosts.eq a b) (a ≡ b)
Decides-call (CreateVm a0 b0) call =
    let make : (x y : Make) → Decides (make_test.ghosts.eq x y) (x ≡ y) = Decides-make in
    let numbers : (x y : List ℕ) → Decides (pointwise nat_eq x y) (x ≡ y) = Decides-list Decides-eqb in
    Prim.search rules
Decides-call (DeleteVm a0) call = Prim.search rules
Decides-call (HasVm a0) call = Prim.search rules
Decides-call (FindVm a0) call = Prim.search rules
Decides-call (CreateDisk a0 b0) call =
    let want : (x y : DiskWant) → Decides (disk_want_test.ghosts.eq x y) (x ≡ y) = Decides-disk_want in
    Prim.search rules
Decides-call (DeleteDisk a0) call = Prim.search rules
Decides-call (HasDisk a0) call = Prim.search rules
Decides-call (FindDisk a0) call = Prim.search rules
Decides-call (AttachDisk a0 b0) call = Prim.search rules
Decides-call (DetachDisk a0 b0) call = Prim.search rules
Decides-call (GetDisks a0) call = Prim.search rules
Decides-call (Ping a0) call = Prim.search rules
Decides-call (GetState a0) call = Prim.search rules
Decides-call (Apply a0 b0) call =
    let spec : (x y : Spec) → Decides (spec_test.ghosts.eq x y) (x ≡ y) = Decides-spec in
    Prim.search rules
Decides-call (Start a0) call = Prim.search rules
Decides-call (Drain a0) call = Prim.search rules
Decides-call (Stop a0) call = Prim.search rules
Decides-call (MountDisk a0 b0) call = Prim.search rules
Decides-call (UnmountDisk a0 b0) call = Prim.search rules
Decides-call (ListDisk a0) call = Prim.search rules
Decides-call (MigrateDisk a0 b0 c0) call = Prim.search rules
Decides-call (CompilePackage a0 b0 c0) call =
    let work : (x y : KeyWork) → Decides (key_work_test.ghosts.eq x y) (x ≡ y) = Decides-key_work in
    let deps : (x y : List Digest) → Decides (pointwise digest_test.ghosts.eq x y) (x ≡ y) =
    Decides-list Decides-digest in
    Prim.search rules
