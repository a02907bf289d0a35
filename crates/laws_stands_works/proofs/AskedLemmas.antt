-- The instances that a task asks first are those that are told, in the same order.
use Rattle.std.proofs.Common.{◌≡◌, ◌∙◌, ℕ, Bool, true, false, ◌&&◌, List, Option, Some}
use Rattle.std.proofs.Common.{None, ap, refl, sym}
use Rattle.std.specs.Prelude.{if◌then◌else◌}
use Rattle.std.specs.Option.{option_and_then, option_map_or}
use Rattle.bosh_base.specs.Inst.{inst_cmp}
use Rattle.bosh_base.specs.declared.entry.TaskOpen.{TaskOpen}
use Rattle.bosh_base.specs.declared.inst.Inst.{Inst}
use Rattle.bosh_base.specs.declared.task.TaskKind.{TaskKind}
use Rattle.bosh_base.specs.declared.task.TaskKind.TheVariants as kinds
use Rattle.bosh_history.specs.Known.{Known}
use Rattle.bosh_history.specs.Tasks.{asks_of, is_of_dep, to_ping}
use Rattle.bosh_history.specs.Tasks as tasks
use Rattle.bosh_history.specs.Words.{is_among}
use Rattle.bosh_plan.specs.WorkBy.{asked_in, has_machine, is_asked, is_of}
use Rattle.bosh_records.specs.Recorded.{Recorded}
use Rattle.bosh_records.specs.Table.{found}
use Rattle.bosh_records.specs.declared.instances.Instance.{Instance}
use Rattle.bosh_rows.specs.Same.{same_inst}
use Rattle.bosh_rows.proofs.SameLemmas.{itself, same_inst_tells}
use Rattle.laws_facts.proofs.InstanceLemmas.{inst_equal, inst_total}
use Rattle.laws_row_facts.specs.Words.{are_ascending}
use Rattle.laws_stands.proofs.DeploymentLemmas.{bytes_flip}
use Rattle.laws_stands.proofs.MemberLemmas.{inst_is}
use Rattle.laws_stands.proofs.OrderLemmas.{once_of}
use Rattle.laws_stands.specs.Stands.{StandsIn}
use Rattle.laws_stands.specs.Told.{Told}
use Rattle.laws_stands_on.proofs.KeyLemmas.{inst_at, inst_keys}
use Rattle.laws_stands_works.proofs.InOrderLemmas.{among_kept, kept_in_order, same_in_order}
use Rattle.laws_stands_works.proofs.KeptLemmas.{among_filtered, filtered_in_order}

-- ---- who is asked

asked_as : (o : TaskOpen) (i : Inst) → is_asked o i ≡ asks_of o.kind o.dep i
asked_as o i = by o.kind
  where
    of_dep : (dep : Option (List ℕ)) → is_of dep i.dep ≡ is_of_dep dep i
    of_dep (Some dep) = bytes_flip dep i.dep
    of_dep None = refl

    by : (kind : TaskKind) → is_asked (record o { kind = kind }) i ≡ asks_of kind o.dep i
    by kinds.Fix = of_dep o.dep
    by (kinds.Resolve named) = refl
    by kind = refl

module _ (told : Told) (it : Recorded) (stands : StandsIn told it) (o : TaskOpen) where
  abbrev k : Known
  k = told.known

  machine_as : (i : Inst) → has_machine (option_and_then (λ (known : Instance). known.row) (found inst_cmp it.instances i))
      ≡ (is_among same_inst i k.instances && tasks.has_machine k i)
  machine_as i = ap has_machine (stands.rows i) ∙ by (is_among same_inst i k.instances)
    where
      by : (b : Bool) → has_machine (if b then Some (k.row i) else None) ≡ (b && tasks.has_machine k i)
      by true = refl
      by false = refl

  members : (i : Inst) → is_among same_inst i (asked_in o it.instances) ≡ is_among same_inst i (to_ping k o)
  members i =
      among_kept inst_cmp inst_keys same_inst inst_at (λ entry. is_asked o entry.0 && has_machine entry.1.row)
      it.instances (once_of stands.ordered).instances i
      ∙ by (found inst_cmp it.instances i) refl
      ∙ sym (among_filtered same_inst inst_is (λ i. asks_of o.kind o.dep i && tasks.has_machine k i) k.instances i)
    where
      wanted : Bool
      wanted = (asks_of o.kind o.dep i && tasks.has_machine k i) && is_among same_inst i k.instances

      turned : (a b c : Bool) → (a && (c && b)) ≡ ((a && b) && c)
      turned true true true = refl
      turned true true false = refl
      turned true false true = refl
      turned true false false = refl
      turned false b c = refl

      none : (a b c : Bool) → false ≡ (c && b) → false ≡ ((a && b) && c)
      none true b c is = is ∙ flip c b
        where
          flip : (c b : Bool) → (c && b) ≡ (b && c)
          flip true true = refl
          flip true false = refl
          flip false true = refl
          flip false false = refl
      none false b c is = refl

      by : (known : Option Instance) → found inst_cmp it.instances i ≡ known
          → option_map_or (λ (known : Instance). is_asked o i && has_machine known.row) (found inst_cmp it.instances i) false
          ≡ wanted
      by (Some known) is =
          ap (λ o_known. option_map_or (λ (known : Instance). is_asked o i && has_machine known.row) o_known false) is
          ∙ ap (λ b. b && has_machine known.row) (asked_as o i)
          ∙ ap (λ b. asks_of o.kind o.dep i && b)
          (sym (ap (λ known. has_machine (option_and_then (λ (known : Instance). known.row) known)) is) ∙ machine_as i)
          ∙ turned (asks_of o.kind o.dep i) (tasks.has_machine k i) (is_among same_inst i k.instances)
      by None is =
          ap (λ o_known. option_map_or (λ (known : Instance). is_asked o i && has_machine known.row) o_known false) is
          ∙ none (asks_of o.kind o.dep i) (tasks.has_machine k i) (is_among same_inst i k.instances)
          (sym (ap (λ known. has_machine (option_and_then (λ (known : Instance). known.row) known)) is) ∙ machine_as i)

  pub asked_are : are_ascending inst_cmp k.instances ≡ true → asked_in o it.instances ≡ to_ping k o
  asked_are order =
      same_in_order inst_cmp inst_total same_inst same_inst_tells inst_equal inst_is itself (asked_in o it.instances)
      (to_ping k o)
      (kept_in_order inst_cmp inst_keys same_inst inst_at (λ entry. is_asked o entry.0 && has_machine entry.1.row)
      it.instances stands.ordered.instances)
      (filtered_in_order inst_cmp inst_total (λ i. asks_of o.kind o.dep i && tasks.has_machine k i) k.instances order)
      members
