-- The orders of instances, machines and disks, as tests.
use Rattle.std.proofs.Common.{◌≡◌, ◌∙◌, ℕ, ◌&&◌, Option, Some, None, refl}
use Rattle.std.specs.Prelude.{eqb, unwrap_or}
use Rattle.std.specs.BTreeMap.{is_at}
use Rattle.std.specs.Option.{option_and_then, option_map, option_map_or}
use Rattle.std.specs.Ordering.{nat_cmp}
use Rattle.bosh_base.specs.Inst.{inst_cmp}
use Rattle.bosh_base.specs.declared.inst.Inst.{Inst}
use Rattle.bosh_records.specs.Readers.{machine_cmp}
use Rattle.bosh_records.specs.declared.instances.Instance.{Instance}
use Rattle.bosh_rows.specs.Same.{same_inst}
use Rattle.bosh_work.specs.Part.{no_part}
use Rattle.bosh_work.specs.declared.part.MachineName.{MachineName}
use Rattle.laws_stands.specs.Linked.{same_machine}
use Rattle.laws_stands_closed.proofs.ClearedLemmas.{machine_at}
use Rattle.laws_stands_on.proofs.CallLemmas.{inst_flip}
use Rattle.laws_stands_on.proofs.ChangedLemmas.{eqb_flip}
use Rattle.laws_stands_on.proofs.KeyLemmas.{inst_at}
use Rattle.laws_stands_on.proofs.TableLemmas.{nat_at}

pub inst_as : (a b : Inst) → is_at (inst_cmp a) b ≡ same_inst b a
inst_as a b = inst_at a b ∙ inst_flip b a

pub nat_as : (a b : ℕ) → is_at (nat_cmp a) b ≡ eqb b a
nat_as a b = nat_at a b ∙ eqb_flip a b

pub machine_as : (a b : MachineName) → is_at (machine_cmp a) b ≡ same_machine b a
machine_as a b = machine_at a b ∙ (λ j. eqb_flip a.task b.task j && eqb_flip a.slot b.slot j)

-- ---- options that are read

-- a part, read with what stands for none
pub part_read : (o : Option Instance) → option_map_or (λ known. known.part) o no_part
    ≡ unwrap_or (option_and_then (λ (known : Instance). Some known.part) o) no_part
part_read (Some known) = refl
part_read None = refl

pub mapped : {X Y : Type 0} (f : X → Y) (o : Option X) → option_map f o ≡ option_and_then (λ x. Some (f x)) o
mapped f (Some x) = refl
mapped f None = refl

-- what is read in a place that may be free
pub both_read : {X Y : Type 0} (read : X → Option Y) (o : Option (Option X))
    → option_and_then read (option_and_then (λ place. place) o) ≡ option_and_then (option_and_then read) o
both_read read (Some place) = refl
both_read read None = refl
