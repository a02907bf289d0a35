-- The arguments of calls, and methods.
use Rattle.std.proofs.Common.{◌≡◌, ℕ, Bool, true, false, cond, List, [], ◌∷◌, Option, Some, None, option_map, refl, sym, ap, subst, ◌∙◌}
use Rattle.std.proofs.lemmas.Slice.Eq.{bytes_eq-Decides}
use Rattle.std.specs.Str.{bytes_eq}
use Rattle.bosh_base.specs.Call.{method_of}
use Rattle.bosh_base.specs.Method.{name_of}
use Rattle.bosh_base.specs.declared.call.Call.{Call}
use Rattle.bosh_base.specs.declared.call.Call.TheVariants.{CreateVm, DeleteVm, HasVm, FindVm, CreateDisk, DeleteDisk, HasDisk, FindDisk, AttachDisk, DetachDisk, GetDisks, Ping, GetState, Apply, Start, Drain, Stop, MountDisk, UnmountDisk, ListDisk, MigrateDisk, CompilePackage}
use Rattle.bosh_base.specs.declared.method.Method.{Method}
use Rattle.bosh_base.specs.declared.method.Method.TheVariants as methods
use Rattle.serde_json.specs.Data.{Data}
use Rattle.cpi_wire.specs.Reading.{Reader}
use Rattle.cpi_wire.proofs.CodingLemmas.{IsCoding, list_law, mapped_some, some_is}
use Rattle.cpi_wire.proofs.FieldLemmas.{one_law, three_law, two_law}
use Rattle.cpi_wire.proofs.PlainLemmas.{IsPlain}
use Rattle.cpi_wire.proofs.StructLemmas.{make_law, spec_law, want_law, work_law}
use Rattle.cpi_wire.proofs.ValueLemmas.{digest_law, number_law}
use Rattle.cpi_proc.specs.Call.{arguments, call_from, is_call}
use Rattle.cpi_proc.specs.Method.{named, named_of}
use Rattle.bosh_base.specs.declared.method.TheConstants.{METHODS}

-- these are the arguments of a call of a method
pub record Takes (m : Method) (d : Data) (c : Call) : Type 0 where
  pub image : d ≡ arguments c
  pub fits : is_call c ≡ true
  pub method : method_of c ≡ m

taken_by : {P : Type 0} {f : P → Data} {t : P → Bool} {r : Reader P} → IsCoding 4 f t r → (make : P → Call) (m : Method) → ((p : P) → arguments (make p) ≡ f p) → ((p : P) → is_call (make p) ≡ t p) → ((p : P) → method_of (make p) ≡ m)
    → (d : Data) (c : Call) → option_map make (r d) ≡ Some c → Takes m d c
taken_by {r = r} law make m image fits method d c e =
    let p = mapped_some make (r d) c e in
    let t = law.takes d p.0 p.1 in
    subst (λ (x : Call). Takes m d x) p.2 (record { image = t.0 ∙ sym (image p.0); fits = fits p.0 ∙ t.1; method = method p.0 })

pub call_taken : (m : Method) (d : Data) (c : Call) → call_from m d ≡ Some c → Takes m d c
unfolding call_from arguments is_call
call_taken methods.CreateVm d c e = taken_by (two_law (make_law 0) (list_law (number_law 2))) (λ p. CreateVm p.0 p.1) methods.CreateVm (λ p. refl) (λ p. refl) (λ p. refl) d c e
call_taken methods.DeleteVm d c e = taken_by (one_law (number_law 3)) DeleteVm methods.DeleteVm (λ p. refl) (λ p. refl) (λ p. refl) d c e
call_taken methods.HasVm d c e = taken_by (one_law (number_law 3)) HasVm methods.HasVm (λ p. refl) (λ p. refl) (λ p. refl) d c e
call_taken methods.FindVm d c e = taken_by (one_law (number_law 3)) FindVm methods.FindVm (λ p. refl) (λ p. refl) (λ p. refl) d c e
call_taken methods.CreateDisk d c e = taken_by (two_law (want_law 2) (number_law 3)) (λ p. CreateDisk p.0 p.1) methods.CreateDisk (λ p. refl) (λ p. refl) (λ p. refl) d c e
call_taken methods.DeleteDisk d c e = taken_by (one_law (number_law 3)) DeleteDisk methods.DeleteDisk (λ p. refl) (λ p. refl) (λ p. refl) d c e
call_taken methods.HasDisk d c e = taken_by (one_law (number_law 3)) HasDisk methods.HasDisk (λ p. refl) (λ p. refl) (λ p. refl) d c e
call_taken methods.FindDisk d c e = taken_by (one_law (number_law 3)) FindDisk methods.FindDisk (λ p. refl) (λ p. refl) (λ p. refl) d c e
call_taken methods.AttachDisk d c e = taken_by (two_law (number_law 3) (number_law 3)) (λ p. AttachDisk p.0 p.1) methods.AttachDisk (λ p. refl) (λ p. refl) (λ p. refl) d c e
call_taken methods.DetachDisk d c e = taken_by (two_law (number_law 3) (number_law 3)) (λ p. DetachDisk p.0 p.1) methods.DetachDisk (λ p. refl) (λ p. refl) (λ p. refl) d c e
call_taken methods.GetDisks d c e = taken_by (one_law (number_law 3)) GetDisks methods.GetDisks (λ p. refl) (λ p. refl) (λ p. refl) d c e
call_taken methods.Ping d c e = taken_by (one_law (number_law 3)) Ping methods.Ping (λ p. refl) (λ p. refl) (λ p. refl) d c e
call_taken methods.GetState d c e = taken_by (one_law (number_law 3)) GetState methods.GetState (λ p. refl) (λ p. refl) (λ p. refl) d c e
call_taken methods.Apply d c e = taken_by (two_law (number_law 3) (spec_law 0)) (λ p. Apply p.0 p.1) methods.Apply (λ p. refl) (λ p. refl) (λ p. refl) d c e
call_taken methods.Start d c e = taken_by (one_law (number_law 3)) Start methods.Start (λ p. refl) (λ p. refl) (λ p. refl) d c e
call_taken methods.Drain d c e = taken_by (one_law (number_law 3)) Drain methods.Drain (λ p. refl) (λ p. refl) (λ p. refl) d c e
call_taken methods.Stop d c e = taken_by (one_law (number_law 3)) Stop methods.Stop (λ p. refl) (λ p. refl) (λ p. refl) d c e
call_taken methods.MountDisk d c e = taken_by (two_law (number_law 3) (number_law 3)) (λ p. MountDisk p.0 p.1) methods.MountDisk (λ p. refl) (λ p. refl) (λ p. refl) d c e
call_taken methods.UnmountDisk d c e = taken_by (two_law (number_law 3) (number_law 3)) (λ p. UnmountDisk p.0 p.1) methods.UnmountDisk (λ p. refl) (λ p. refl) (λ p. refl) d c e
call_taken methods.ListDisk d c e = taken_by (one_law (number_law 3)) ListDisk methods.ListDisk (λ p. refl) (λ p. refl) (λ p. refl) d c e
call_taken methods.MigrateDisk d c e = taken_by (three_law (number_law 3) (number_law 3) (number_law 3)) (λ p. MigrateDisk p.0 p.1 p.2) methods.MigrateDisk (λ p. refl) (λ p. refl) (λ p. refl) d c e
call_taken methods.CompilePackage d c e = taken_by (three_law (number_law 3) (work_law 0) (list_law (digest_law 2))) (λ p. CompilePackage p.0 p.1 p.2) methods.CompilePackage (λ p. refl) (λ p. refl) (λ p. refl) d c e

pub call_again : (c : Call) → is_call c ≡ true → call_from (method_of c) (arguments c) ≡ Some c
unfolding call_from arguments is_call
call_again (CreateVm make disks) h = ap (option_map (λ p. CreateVm p.0 p.1)) ((two_law (make_law 0) (list_law (number_law 2))).again (make, disks) h)
call_again (DeleteVm n) h = ap (option_map DeleteVm) ((one_law (number_law 3)).again n h)
call_again (HasVm n) h = ap (option_map HasVm) ((one_law (number_law 3)).again n h)
call_again (FindVm n) h = ap (option_map FindVm) ((one_law (number_law 3)).again n h)
call_again (CreateDisk want vm) h = ap (option_map (λ p. CreateDisk p.0 p.1)) ((two_law (want_law 2) (number_law 3)).again (want, vm) h)
call_again (DeleteDisk n) h = ap (option_map DeleteDisk) ((one_law (number_law 3)).again n h)
call_again (HasDisk n) h = ap (option_map HasDisk) ((one_law (number_law 3)).again n h)
call_again (FindDisk n) h = ap (option_map FindDisk) ((one_law (number_law 3)).again n h)
call_again (AttachDisk vm disk) h = ap (option_map (λ p. AttachDisk p.0 p.1)) ((two_law (number_law 3) (number_law 3)).again (vm, disk) h)
call_again (DetachDisk vm disk) h = ap (option_map (λ p. DetachDisk p.0 p.1)) ((two_law (number_law 3) (number_law 3)).again (vm, disk) h)
call_again (GetDisks n) h = ap (option_map GetDisks) ((one_law (number_law 3)).again n h)
call_again (Ping n) h = ap (option_map Ping) ((one_law (number_law 3)).again n h)
call_again (GetState n) h = ap (option_map GetState) ((one_law (number_law 3)).again n h)
call_again (Apply vm spec) h = ap (option_map (λ p. Apply p.0 p.1)) ((two_law (number_law 3) (spec_law 0)).again (vm, spec) h)
call_again (Start n) h = ap (option_map Start) ((one_law (number_law 3)).again n h)
call_again (Drain n) h = ap (option_map Drain) ((one_law (number_law 3)).again n h)
call_again (Stop n) h = ap (option_map Stop) ((one_law (number_law 3)).again n h)
call_again (MountDisk vm disk) h = ap (option_map (λ p. MountDisk p.0 p.1)) ((two_law (number_law 3) (number_law 3)).again (vm, disk) h)
call_again (UnmountDisk vm disk) h = ap (option_map (λ p. UnmountDisk p.0 p.1)) ((two_law (number_law 3) (number_law 3)).again (vm, disk) h)
call_again (ListDisk n) h = ap (option_map ListDisk) ((one_law (number_law 3)).again n h)
call_again (MigrateDisk vm source target) h = ap (option_map (λ p. MigrateDisk p.0 p.1 p.2)) ((three_law (number_law 3) (number_law 3) (number_law 3)).again (vm, source, target) h)
call_again (CompilePackage vm work deps) h = ap (option_map (λ p. CompilePackage p.0 p.1 p.2)) ((three_law (number_law 3) (work_law 0) (list_law (digest_law 2))).again (vm, work, deps) h)

pub call_plain : (c : Call) → is_call c ≡ true → IsPlain 4 (arguments c)
unfolding arguments is_call
call_plain (CreateVm make disks) h = (two_law (make_law 0) (list_law (number_law 2))).plain (make, disks) h
call_plain (DeleteVm n) h = (one_law (number_law 3)).plain n h
call_plain (HasVm n) h = (one_law (number_law 3)).plain n h
call_plain (FindVm n) h = (one_law (number_law 3)).plain n h
call_plain (CreateDisk want vm) h = (two_law (want_law 2) (number_law 3)).plain (want, vm) h
call_plain (DeleteDisk n) h = (one_law (number_law 3)).plain n h
call_plain (HasDisk n) h = (one_law (number_law 3)).plain n h
call_plain (FindDisk n) h = (one_law (number_law 3)).plain n h
call_plain (AttachDisk vm disk) h = (two_law (number_law 3) (number_law 3)).plain (vm, disk) h
call_plain (DetachDisk vm disk) h = (two_law (number_law 3) (number_law 3)).plain (vm, disk) h
call_plain (GetDisks n) h = (one_law (number_law 3)).plain n h
call_plain (Ping n) h = (one_law (number_law 3)).plain n h
call_plain (GetState n) h = (one_law (number_law 3)).plain n h
call_plain (Apply vm spec) h = (two_law (number_law 3) (spec_law 0)).plain (vm, spec) h
call_plain (Start n) h = (one_law (number_law 3)).plain n h
call_plain (Drain n) h = (one_law (number_law 3)).plain n h
call_plain (Stop n) h = (one_law (number_law 3)).plain n h
call_plain (MountDisk vm disk) h = (two_law (number_law 3) (number_law 3)).plain (vm, disk) h
call_plain (UnmountDisk vm disk) h = (two_law (number_law 3) (number_law 3)).plain (vm, disk) h
call_plain (ListDisk n) h = (one_law (number_law 3)).plain n h
call_plain (MigrateDisk vm source target) h = (three_law (number_law 3) (number_law 3) (number_law 3)).plain (vm, source, target) h
call_plain (CompilePackage vm work deps) h = (three_law (number_law 3) (work_law 0) (list_law (digest_law 2))).plain (vm, work, deps) h

-- ---- methods

name_by_test : (ms : List Method) (name : List ℕ) (x m : Method) (b : Bool) → bytes_eq (name_of x) name ≡ b → named_of (x ∷ ms) name ≡ Some m → (named_of ms name ≡ Some m → name ≡ name_of m) → name ≡ name_of m
name_by_test ms name x m true is e more =
    let same : name_of x ≡ name = (bytes_eq-Decides (name_of x) name).0 is in
    let first : x ≡ m = some_is x m (sym (ap (λ b. cond b (Some x) (named_of ms name)) is) ∙ e) in
    sym same ∙ ap name_of first
name_by_test ms name x m false is e more = more (sym (ap (λ b. cond b (Some x) (named_of ms name)) is) ∙ e)

name_taken : (ms : List Method) (name : List ℕ) (m : Method) → named_of ms name ≡ Some m → name ≡ name_of m
name_taken [] name m e = absurd cc
name_taken (x ∷ ms) name m e = name_by_test ms name x m (bytes_eq (name_of x) name) refl e (name_taken ms name m)

pub named_taken : (name : List ℕ) (m : Method) → named name ≡ Some m → name ≡ name_of m
unfolding named
named_taken name m e = name_taken METHODS name m e

pub named_again : (m : Method) → named (name_of m) ≡ Some m
unfolding named
named_again methods.CreateVm = refl
named_again methods.DeleteVm = refl
named_again methods.HasVm = refl
named_again methods.FindVm = refl
named_again methods.CreateDisk = refl
named_again methods.DeleteDisk = refl
named_again methods.HasDisk = refl
named_again methods.FindDisk = refl
named_again methods.AttachDisk = refl
named_again methods.DetachDisk = refl
named_again methods.GetDisks = refl
named_again methods.Ping = refl
named_again methods.GetState = refl
named_again methods.Apply = refl
named_again methods.Start = refl
named_again methods.Drain = refl
named_again methods.Stop = refl
named_again methods.MountDisk = refl
named_again methods.UnmountDisk = refl
named_again methods.ListDisk = refl
named_again methods.MigrateDisk = refl
named_again methods.CompilePackage = refl
