-- What is made of a number, and that something is.
use Rattle.std.proofs.Common.{◌≡◌, [], ◌∷◌, ◌++◌, List, arith, subst, sym}
use Rattle.std.specs.Prelude.{Ok}
use Rattle.bosh_base.specs.declared.moves.Move.{Move}
use Rattle.bosh_base.specs.declared.reply.Reply.TheVariants as replies
use Rattle.bosh_cloudcfg.specs.Check.{config_of_tree}
use Rattle.bosh_cloudcfg.specs.declared.config.Config.{Config}
use Rattle.bosh_due.specs.Before.{Before}
use Rattle.bosh_due.specs.Generating.{AreCarriedOut, generated_commands, generated_reply, said_reply}
use Rattle.bosh_due.specs.Outcomes.{Outcome, unless_halted}
use Rattle.bosh_due.specs.Outcomes.Outcome.{Notes}
use Rattle.bosh_due.specs.UnderWay.{UnderWay}
use Rattle.bosh_due.specs.Uploads.{checked, config_outcome, config_read}
use Rattle.bosh_generator.specs.Manifest.{cloud_config_text}
use Rattle.bosh_yaml.specs.Reading.{reading}
use Rattle.bosh_yaml.specs.Tree.{Tree}
use Rattle.examples_replies.specs.Generated as generated
use Rattle.examples_replies.specs.Kept.{going_on}

abbrev set : Outcome
set = Notes generated.config replies.ConfigUpdated

-- the config of the generator is noted, once its text is read and checked
pub is_config : (b : Before) (tree : Tree) (it : Config) → reading cloud_config_text ≡ Ok tree →
    config_of_tree tree ≡ Ok it → unless_halted b set ≡ set → set ≡ config_outcome b cloud_config_text
is_config b tree it reads checks running =
    subst (λ found. set ≡ config_read b cloud_config_text found) (sym reads)
    (subst (λ found. set ≡ checked b cloud_config_text found) (sym checks) (sym running))

-- where four commands are carried out something is made
carried : (now : UnderWay) → AreCarriedOut (generated_commands 3) going_on 5 [] now → ⊥
carried now it = something _ _ it.more it.is
  where
    something : (one : Move) (rest more : List Move) → [] ≡ more ++ one ∷ rest → ⊥
    something one rest [] is = grind (arith, is)
    something one rest (move ∷ more) is = grind (arith, is)

pub nothing_made : (more : List Move) →
    said_reply 5 (generated_reply 3 []) ∷ [] ≡ more ++ said_reply 5 (generated_reply 3 more) ∷ [] →
    (now : UnderWay) → AreCarriedOut (generated_commands 3) going_on 5 more now → ⊥
nothing_made [] is now it = carried now it
nothing_made (move ∷ []) is now it = grind (arith, is)
nothing_made (move ∷ (other ∷ more)) is now it = grind (arith, is)
