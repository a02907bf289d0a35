-- What is read is what was spelled.
use Rattle.std.proofs.Common.{◌≡◌, ℕ, true, List, ◌++◌, Some, refl}
use Rattle.bosh_base.specs.declared.answer.Answer.{Answer}
use Rattle.bosh_base.specs.declared.answer.Answer.TheVariants.{Done, Cid, Found, Yes, No, Disks, Facts, Built, Gone, Failed}
use Rattle.bosh_entry.specs.Reading.{one_of_at}
use Rattle.bosh_entry.specs.Answer.{answer, is_answer, answer_at, answers}
use Rattle.bosh_entry.proofs.CodingLemmas.{IsCoding, making_law, ◌and◌}
use Rattle.bosh_entry.proofs.VariantLemmas.{AreVariants, variant_law, one_of_law}
use Rattle.bosh_entry.proofs.NumberLemmas.{number_law}
use Rattle.bosh_entry.proofs.ChoiceLemmas.{flag_law, option_law}
use Rattle.bosh_entry.proofs.PlainLemmas.{digest_law}
use Rattle.bosh_entry.proofs.ListLemmas.{list_law}
use Rattle.bosh_entry.proofs.SpecLemmas.{spec_law}

answer_again : (x : Answer) (rest : List ℕ) → is_answer x ≡ true → one_of_at answers (answer x ++ rest) ≡ Some (x, rest)
unfolding answer is_answer
answer_again Done rest h = (making_law Done).again tt rest h
answer_again (Cid n) rest h = (making_law Cid and number_law).again (tt, n) rest h
answer_again (Found found) rest h = (making_law Found and option_law number_law).again (tt, found) rest h
answer_again Yes rest h = (making_law Yes).again tt rest h
answer_again No rest h = (making_law No).again tt rest h
answer_again (Disks items) rest h = (making_law Disks and list_law number_law).again (tt, items) rest h
answer_again (Facts s running drained) rest h = (making_law Facts and option_law spec_law and flag_law and flag_law).again (((tt, s), running), drained) rest h
answer_again (Built d) rest h = (making_law Built and digest_law).again (tt, d) rest h
answer_again Gone rest h = (making_law Gone).again tt rest h
answer_again Failed rest h = (making_law Failed).again tt rest h

answers_are : AreVariants answer is_answer 0 answers
unfolding answer is_answer
answers_are = (
  variant_law (making_law Done) (λ p. refl) (λ p. refl),
  (
    variant_law (making_law Cid and number_law) (λ p. refl) (λ p. refl),
    (
      variant_law (making_law Found and option_law number_law) (λ p. refl) (λ p. refl),
      (
        variant_law (making_law Yes) (λ p. refl) (λ p. refl),
        (
          variant_law (making_law No) (λ p. refl) (λ p. refl),
          (
            variant_law (making_law Disks and list_law number_law) (λ p. refl) (λ p. refl),
            (
              variant_law (making_law Facts and option_law spec_law and flag_law and flag_law) (λ p. refl) (λ p. refl),
              (
                variant_law (making_law Built and digest_law) (λ p. refl) (λ p. refl),
                (
                  variant_law (making_law Gone) (λ p. refl) (λ p. refl),
                  (variant_law (making_law Failed) (λ p. refl) (λ p. refl), tt),
                ),
              ),
            ),
          ),
        ),
      ),
    ),
  ),
)

pub answer_law : IsCoding answer is_answer answer_at
unfolding answer_at
answer_law = one_of_law answers answers_are (λ x. answer_again x)
