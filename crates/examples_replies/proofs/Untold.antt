-- What an opening does not make that has no reply.
use Rattle.std.proofs.Common.{◌∷◌, [], arith, subst}
use Rattle.bosh_base.specs.declared.moves.Move.{Move}
use Rattle.bosh_base.specs.declared.stemcell.Stemcell.{Stemcell}
use Rattle.bosh_due.specs.Outcomes.Outcome.{Opens, Refuses}
use Rattle.bosh_due.specs.Together.{MayOpenOnly}
use Rattle.bosh_due.specs.Together.OpensAtMost.{opens_by, opens_none}
use Rattle.bosh_due.specs.UnderWay.{UnderWay}
use Rattle.bosh_line_words.specs.declared.fault.LineFault.TheVariants.{BadTogether}
use Rattle.bosh_lines.specs.declared.command.Command.TheVariants as commands
use Rattle.bosh_refusals.specs.Told.{lines_told}
use Rattle.examples_replies.specs.AtOnce.{clean_up}
use Rattle.examples_replies.specs.CutOff.{OpensUntold, clean_up_opened}

-- a task opens, and no more
pub no_more : (more : Move) (now : UnderWay) → OpensUntold commands.CleanUp (clean_up_opened ∷ more ∷ []) now → ⊥
no_more more now (opens_none none stays) = grind (arith, none)
no_more more now (opens_by outcome comes may left) =
    let makes : MayOpenOnly (Opens clean_up) (clean_up_opened ∷ more ∷ []) =
    subst (λ o. MayOpenOnly o (clean_up_opened ∷ more ∷ [])) comes.is may
    in grind (arith, makes)

-- a command that opens no task makes nothing
pub makes_nothing : (stemcell : Stemcell) (more : Move) (now : UnderWay) →
    OpensUntold (commands.UploadStemcell stemcell) (more ∷ []) now → ⊥
makes_nothing stemcell more now (opens_none none stays) = grind (arith, none)
makes_nothing stemcell more now (opens_by outcome comes may left) =
    let makes : MayOpenOnly (Refuses (lines_told BadTogether)) (more ∷ []) =
    subst (λ o. MayOpenOnly o (more ∷ [])) comes.is may
    in grind (arith, makes)
