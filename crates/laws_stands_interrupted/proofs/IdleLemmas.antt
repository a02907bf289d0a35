-- No other open task lists an owner of the calls of a task that was interrupted, so the work of each stands as before.
use Rattle.std.proofs.Common.{◌≡◌, ◌∙◌, ℕ, suc, zero, Bool, true, false, ◌&&◌, ◌||◌, not, ◌==◌, List, [], ◌∷◌, Option}
use Rattle.std.proofs.Common.{Some, None, ap, refl, subst, sym}
use Rattle.std.specs.Prelude.{count_by, eqb, is_some, slice_get, if◌then◌else◌}
use Rattle.std.specs.Option.{option_eq}
use Rattle.std.specs.Str.{bytes_eq}
use Rattle.std.proofs.lemmas.Bool.{and_parts, eq-eqb, eqb-true}
use Rattle.bosh_base.specs.Cloud.{numbers_to}
use Rattle.bosh_base.specs.declared.entry.Begin.{Begin}
use Rattle.bosh_base.specs.declared.inst.Inst.{Inst}
use Rattle.bosh_base.specs.declared.owner.Owner.{Owner}
use Rattle.bosh_base.specs.declared.owner.Owner.TheVariants.{Compile, Disk, Instance}
use Rattle.bosh_history.specs.Known.{Known, Slot}
use Rattle.bosh_history.specs.Words.{holds, is_among}
use Rattle.bosh_rows.proofs.SameLemmas.{itself}
use Rattle.bosh_rows.specs.Same.{same_inst, same_owner}
use Rattle.bosh_work.specs.declared.part.MachineName.{MachineName}
use Rattle.laws_stands.specs.Linked.{same_machine}
use Rattle.laws_stands.specs.Stands.{AreSwept}
use Rattle.laws_stands.specs.Told.{Told, idle_in, is_going, is_idle, of_others}
use Rattle.laws_stands.specs.WorkStands.{is_task_call}
use Rattle.laws_stands_closed.proofs.ClearedLemmas.{deployment_of, left_over}
use Rattle.laws_stands_fits.specs.Own.{IsMachineOf, IsOwn, TellsOwn}
use Rattle.laws_stands_interrupted.proofs.OwnerLemmas.{same_none}
use Rattle.laws_stands_interrupted.specs.Interrupts.{told_without}
use Rattle.laws_stands_on.proofs.CallLemmas.{same_owner_is}
use Rattle.laws_stands_on.proofs.ListedLemmas.{SameListed}

-- what stands at a place of a list is one of it
among_at : {T : Type 0} (same : T → T → Bool) → ((x : T) → same x x ≡ true) → (xs : List T) (j : ℕ) (x : T)
    → slice_get xs j ≡ Some x → is_among same x xs ≡ true
among_at same own [] j x is = absurd cc
among_at same own (y ∷ xs) zero x is =
    let one : y ≡ x = cc in
    (λ l. (ap (same x) one ∙ own x) l || is_among same x xs)
among_at same own (y ∷ xs) (suc j) x is = by (same x y) (among_at same own xs j x is)
  where
    by : (b : Bool) → is_among same x xs ≡ true → (b || is_among same x xs) ≡ true
    by true more = refl
    by false more = more

own_name : (name : MachineName) → same_machine name name ≡ true
own_name name = λ j. eq-eqb name.task name.task refl j && eq-eqb name.slot name.slot refl j

-- the task is open, and no other open task is of its deployment, or of none as it is
pub record IsAlone (told : Told) (t : ℕ) : Type 0 where
  pub going : is_going told.known t ≡ true
  pub alone : (u : ℕ) → eqb t u ≡ false → is_going told.known u ≡ true →
      (told.known.task u).dep ≡ (told.known.task t).dep → ⊥

module _ (t : ℕ) (told : Told) (own : TellsOwn told) (apart : IsAlone told t) where
  abbrev k : Known
  k = told.known

  -- what is told once no call of the task is open
  abbrev new : Told
  new = told_without t told

  -- another open task
  module _ (x : ℕ) (other : eqb t x ≡ false) (going : is_going k x ≡ true) where
    -- an owner of its deployment, or of none as it is, has no call of the task
    abbrev HasNoCall : Owner → Type 0
    HasNoCall owner = (n : ℕ) (b : Begin) → told.calls n ≡ Some b → (b.task == t) ≡ true → same_owner owner b.owner ≡ false

    none_of : (owner : Owner) → (IsOwn k (k.task t).dep owner → (k.task x).dep ≡ (k.task t).dep) → HasNoCall owner
    none_of owner same_dep n b is of_task = by (same_owner owner b.owner) refl
      where
        never : same_owner owner b.owner ≡ true → ⊥
        never same =
            apart.alone x other going
            (same_dep
            (subst (IsOwn k (k.task t).dep) (sym (same_owner_is owner b.owner same))
            (subst (λ u. IsOwn k (k.task u).dep b.owner) (eqb-true b.task t of_task) (own.calls n b is))))

        by : (c : Bool) → same_owner owner b.owner ≡ c → c ≡ false
        by false same = refl
        by true same = absurd (never same)

    idle_same : (owner : Owner) → (IsOwn k (k.task t).dep owner → (k.task x).dep ≡ (k.task t).dep)
        → is_idle new owner ≡ is_idle told owner
    idle_same owner same_dep = same_none t told (λ b. same_owner owner b.owner) (none_of owner same_dep)

    instance_idle : (i : Inst) → (k.task x).dep ≡ Some i.dep → idle_in new i ≡ idle_in told i
    instance_idle i dep = idle_same (Instance i) (λ its. dep ∙ sym its)

    disk_idle : (d : ℕ) → (k.task x).dep ≡ None → is_idle new (Disk d) ≡ is_idle told (Disk d)
    disk_idle d dep = idle_same (Disk d) (λ its. dep ∙ sym its)

    machine_idle : (swept : List MachineName) → AreSwept k x swept → (name : MachineName)
        → is_among same_machine name swept ≡ true
        → is_idle new (Compile name.task name.slot) ≡ is_idle told (Compile name.task name.slot)
    machine_idle swept are name among = idle_same (Compile name.task name.slot) by
      where
        by : IsMachineOf k (k.task t).dep name.task name.slot → (k.task x).dep ≡ (k.task t).dep
        by (row, is, dep) =
            deployment_of (k.task x).dep row.dep
            (sym (ap (holds (λ (it : Slot). option_eq bytes_eq (Some it.dep) (k.task x).dep)) is)
            ∙ (and_parts (not (name.task == x)) _ (left_over k x swept name are among (ap is_some is))).1)
            ∙ sym dep

    call_same : (n : ℕ) → is_task_call new x n ≡ is_task_call told x n
    call_same n = by (told.calls n)
      where
        out : (b : Begin) → (b.task == t) ≡ true → (b.task == x) ≡ false
        out b is = ap (λ u. u == x) (eqb-true b.task t is) ∙ other

        of : (b : Begin) (c : Bool) → (b.task == t) ≡ c
            → holds (λ (b : Begin). b.task == x) (if c then None else Some b) ≡ (b.task == x)
        of b true is = sym (out b is)
        of b false is = refl

        by : (o : Option Begin) → holds (λ (b : Begin). b.task == x) (of_others t o) ≡ holds (λ (b : Begin). b.task == x) o
        by (Some b) = of b (b.task == t) refl
        by None = refl

    -- so what it lists is as before
    pub other_listed : (swept : List MachineName) → AreSwept k x swept → SameListed told new (k.task x) x swept
    other_listed swept are = record {
      pings = λ j i is. instance_idle i
          ((own.lists x going).asked i (among_at same_inst itself (k.task x).to_ping j i is));
      obsolete = λ j i is. instance_idle i
          ((own.lists x going).leaving i (among_at same_inst itself (k.task x).obsolete j i is));
      changed = λ j i is. instance_idle i
          ((own.lists x going).changing i (among_at same_inst itself (k.task x).changed j i is));
      disks = λ j d is. disk_idle d
          ((own.lists x going).deleting d (among_at eqb (λ d. eq-eqb d d refl) (k.task x).disks j d is));
      orphans = λ j d is. refl;
      sweep = λ j name is. machine_idle swept are name (among_at same_machine own_name swept j name is);
      slots = λ j name is. refl;
      compiled = λ key. refl;
      worked = λ key. refl;
      machines = refl;
      failed = refl;
      calls = λ l. count_by (λ n. call_same n l) (numbers_to k.last_call);
    }
