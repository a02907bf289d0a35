-- How answers are spelled.
use Rattle.std.specs.Prelude.{ℕ, Bool, true, List, ◌&&◌, [], ◌∷◌, ◌++◌}
use Rattle.bosh_base.specs.declared.answer.Answer.{Answer}
use Rattle.bosh_base.specs.declared.answer.Answer.TheVariants.{Done, Cid, Found, Yes, No, Disks, Facts, Built, Gone, Failed}
use Rattle.bosh_entry.specs.Reading.{Reader, making, one_of_at, ◌with◌}
use Rattle.bosh_entry.specs.Number.{number, is_number, number_at}
use Rattle.bosh_entry.specs.Choice.{flag, is_flag, flag_at, option, is_option, option_at}
use Rattle.bosh_entry.specs.Plain.{digest, is_digest, digest_at}
use Rattle.bosh_entry.specs.List.{list, is_list, list_at}
use Rattle.bosh_entry.specs.Spec.{spec, is_spec, spec_at}

-- what a call answers
unfoldable pub answer : Answer → List ℕ
answer Done = 0 ∷ []
answer (Cid n) = 1 ∷ number n
answer (Found found) = 2 ∷ option number found
answer Yes = 3 ∷ []
answer No = 4 ∷ []
answer (Disks items) = 5 ∷ list number items
answer (Facts s running drained) = 6 ∷ option spec s ++ flag running ++ flag drained
answer (Built d) = 7 ∷ digest d
answer Gone = 8 ∷ []
answer Failed = 9 ∷ []

unfoldable pub is_answer : Answer → Bool
is_answer Done = true
is_answer (Cid n) = is_number n
is_answer (Found found) = is_option is_number found
is_answer Yes = true
is_answer No = true
is_answer (Disks items) = is_list is_number items
is_answer (Facts s running drained) = is_option is_spec s && is_flag running && is_flag drained
is_answer (Built d) = is_digest d
is_answer Gone = true
is_answer Failed = true

-- what a machine tells of itself
abbrev pub facts_at : Reader Answer
facts_at = making Facts with option_at spec_at with flag_at with flag_at

abbrev pub answers : List (Reader Answer)
answers =
    making Done
    ∷ making Cid with number_at
    ∷ making Found with option_at number_at
    ∷ making Yes
    ∷ making No
    ∷ making Disks with list_at number_at
    ∷ facts_at
    ∷ making Built with digest_at
    ∷ making Gone
    ∷ making Failed
    ∷ []

unfoldable pub answer_at : Reader Answer
answer_at = one_of_at answers
