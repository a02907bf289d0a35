use Rattle.std.proofs.Common.{arith, inl, inr, refl}
use Rattle.examples_replies.proofs.Lines.{neither_asks}
use Rattle.examples_replies.proofs.caused.stops_find_what_lines_say.Goals as goal

pub returns-clause-lost : goal.returns-clause-lost
returns-clause-lost c = ((refl, refl), refl)

pub returns-clause-not_lost : goal.returns-clause-not_lost
returns-clause-not_lost c now found = grind (arith, found.0.0)

pub returns-clause-kept : goal.returns-clause-kept
returns-clause-kept c = ((refl, refl), refl)

pub returns-clause-not_kept : goal.returns-clause-not_kept
returns-clause-not_kept c now found = grind (arith, found.0.0)

pub returns-clause-failed_beside : goal.returns-clause-failed_beside
returns-clause-failed_beside c = ((refl, refl), refl)

pub returns-clause-no_call : goal.returns-clause-no_call
returns-clause-no_call c now found = grind (arith, found.0.1)

pub returns-clause-not_done : goal.returns-clause-not_done
returns-clause-not_done c = ((refl, refl), refl)

pub returns-clause-not_before : goal.returns-clause-not_before
returns-clause-not_before c now found = grind (arith, found.0.1)

pub returns-clause-done : goal.returns-clause-done
returns-clause-done c = ((refl, refl), refl)

pub returns-clause-not_undone : goal.returns-clause-not_undone
returns-clause-not_undone c now found = grind (arith, found.0.1)

pub returns-clause-other_call : goal.returns-clause-other_call
returns-clause-other_call c now found = grind (arith, found.0.1)

pub returns-clause-no_entry : goal.returns-clause-no_entry
returns-clause-no_entry c now found = grind (arith, found.0.0)

pub returns-clause-not_kept_there : goal.returns-clause-not_kept_there
returns-clause-not_kept_there c = ((refl, inl refl), refl)

pub returns-clause-kept_there : goal.returns-clause-kept_there
returns-clause-kept_there c = ((refl, inr refl), refl)

pub returns-clause-not_another : goal.returns-clause-not_another
returns-clause-not_another c now found =
    neither_asks (λ none. grind (arith, none)) (λ one. grind (arith, one)) found.0.1
