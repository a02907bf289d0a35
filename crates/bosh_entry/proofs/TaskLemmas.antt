-- What is read is what was spelled.
use Rattle.std.proofs.Common.{◌≡◌, ℕ, true, List, ◌++◌, Some, None, refl}
use Rattle.std.specs.Option.{is_none}
use Rattle.bosh_base.specs.declared.task.TaskKind.{TaskKind}
use Rattle.bosh_base.specs.declared.task.TaskKind.TheVariants.{Deploy, Recreate, Start, Stop, DeleteDeployment, DeleteDisk, CleanUp, Fix, Resolve}
use Rattle.bosh_base.specs.declared.task.TaskEnd.{TaskEnd}
use Rattle.bosh_base.specs.declared.task.TaskEnd.TheVariants.{Finished, Fault, Interrupted, Gone}
use Rattle.bosh_base.specs.declared.task.TaskRow.{TaskRow}
use Rattle.bosh_entry.specs.declared.format.Format.{Format}
use Rattle.bosh_entry.specs.declared.format.Format.TheVariants.{Older, Present}
use Rattle.bosh_entry.specs.Reading.{one_of_at}
use Rattle.bosh_entry.specs.Later.{present_at}
use Rattle.bosh_entry.specs.Task.{task_kind, is_task_kind, task_kind_at, task_kinds, task_end, is_task_end, task_end_at, task_ends, task_row, is_task_row, task_row_at}
use Rattle.bosh_entry.proofs.CodingLemmas.{IsCoding, making_law, struct_law, ◌and◌}
use Rattle.bosh_entry.proofs.VariantLemmas.{AreVariants, variant_law, one_of_law}
use Rattle.bosh_entry.proofs.NumberLemmas.{number_law}
use Rattle.bosh_entry.proofs.PlainLemmas.{name_law, digest_law}
use Rattle.bosh_entry.proofs.ChoiceLemmas.{option_law}
use Rattle.bosh_entry.proofs.LaterLemmas.{later_law, none_is, present_law}
use Rattle.bosh_entry.proofs.InstLemmas.{inst_law}
use Rattle.bosh_entry.proofs.OwnerLemmas.{owner_law}
use Rattle.bosh_entry.proofs.MethodLemmas.{method_law}

task_kind_again : (x : TaskKind) (format : Format) (rest : List ℕ) → is_task_kind format x ≡ true → one_of_at (task_kinds format) (task_kind x ++ rest) ≡ Some (x, rest)
unfolding task_kind is_task_kind present_at
task_kind_again Deploy format rest h = (making_law Deploy).again tt rest h
task_kind_again (Recreate i) format rest h = (making_law Recreate and inst_law).again (tt, i) rest h
task_kind_again (Start i) format rest h = (making_law Start and inst_law).again (tt, i) rest h
task_kind_again (Stop i) format rest h = (making_law Stop and inst_law).again (tt, i) rest h
task_kind_again DeleteDeployment format rest h = (making_law DeleteDeployment).again tt rest h
task_kind_again (DeleteDisk n) format rest h = (making_law DeleteDisk and number_law).again (tt, n) rest h
task_kind_again CleanUp format rest h = (making_law CleanUp).again tt rest h
task_kind_again Fix Older rest h = absurd cc
task_kind_again Fix Present rest h = (making_law Fix).again tt rest h
task_kind_again (Resolve i) Older rest h = absurd cc
task_kind_again (Resolve i) Present rest h = (making_law Resolve and inst_law).again (tt, i) rest h

task_kinds_are : (format : Format) → AreVariants task_kind (is_task_kind format) 0 (task_kinds format)
unfolding task_kind is_task_kind
task_kinds_are format = (
  variant_law (making_law Deploy) (λ p. refl) (λ p. refl),
  (
    variant_law (making_law Recreate and inst_law) (λ p. refl) (λ p. refl),
    (
      variant_law (making_law Start and inst_law) (λ p. refl) (λ p. refl),
      (
        variant_law (making_law Stop and inst_law) (λ p. refl) (λ p. refl),
        (
          variant_law (making_law DeleteDeployment) (λ p. refl) (λ p. refl),
          (
            variant_law (making_law DeleteDisk and number_law) (λ p. refl) (λ p. refl),
            (
              variant_law (making_law CleanUp) (λ p. refl) (λ p. refl),
              (
                present_law format (λ e. variant_law (making_law Fix) (λ p. refl) (λ p. rw e refl)),
                (present_law format (λ e. variant_law (making_law Resolve and inst_law) (λ p. refl) (λ p. rw e refl)), tt),
              ),
            ),
          ),
        ),
      ),
    ),
  ),
)

pub task_kind_law : (format : Format) → IsCoding task_kind (is_task_kind format) (task_kind_at format)
unfolding task_kind_at
task_kind_law format = one_of_law (task_kinds format) (task_kinds_are format) (λ x. task_kind_again x format)

task_end_again : (x : TaskEnd) (format : Format) (rest : List ℕ) → is_task_end format x ≡ true → one_of_at (task_ends format) (task_end x ++ rest) ≡ Some (x, rest)
unfolding task_end is_task_end present_at
task_end_again Finished format rest h = (making_law Finished).again tt rest h
task_end_again (Fault n m o) format rest h = (making_law Fault and number_law and method_law and owner_law).again (((tt, n), m), o) rest h
task_end_again Interrupted format rest h = (making_law Interrupted).again tt rest h
task_end_again (Gone n m o) Older rest h = absurd cc
task_end_again (Gone n m o) Present rest h = (making_law Gone and number_law and method_law and owner_law).again (((tt, n), m), o) rest h

task_ends_are : (format : Format) → AreVariants task_end (is_task_end format) 0 (task_ends format)
unfolding task_end is_task_end
task_ends_are format = (
  variant_law (making_law Finished) (λ p. refl) (λ p. refl),
  (
    variant_law (making_law Fault and number_law and method_law and owner_law) (λ p. refl) (λ p. refl),
    (
      variant_law (making_law Interrupted) (λ p. refl) (λ p. refl),
      (present_law format (λ e. variant_law (making_law Gone and number_law and method_law and owner_law) (λ p. refl) (λ p. rw e refl)), tt),
    ),
  ),
)

pub task_end_law : (format : Format) → IsCoding task_end (is_task_end format) (task_end_at format)
unfolding task_end_at
task_end_law format = one_of_law (task_ends format) (task_ends_are format) (λ x. task_end_again x format)

pub task_row_law : (format : Format) → IsCoding (task_row format) (is_task_row format) (task_row_at format)
unfolding task_row is_task_row task_row_at
task_row_law format = struct_law (λ (t : TaskRow). ((((((tt, t.task), t.kind), t.dep), t.end), t.source), t.calls)) (λ p. refl) (λ x. refl) (making_law (λ task kind dep ended source calls. record { task = task; kind = kind; dep = dep; end = ended; source = source; calls = calls }) and number_law and task_kind_law format and option_law name_law and option_law (task_end_law format) and later_law is_none None none_is refl (option_law digest_law) format and later_law is_none None none_is refl (option_law number_law) format)
