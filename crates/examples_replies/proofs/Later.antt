-- A restart does not find what no command before it was about.
use Rattle.std.proofs.Common.{◌≡◌, [], ◌∷◌, ◌++◌, List, arith, subst}
use Rattle.std.specs.Prelude.{None, Some, codes}
use Rattle.bosh_base.specs.declared.moves.Cause.TheVariants.{Store}
use Rattle.bosh_base.specs.declared.moves.Move.{Move}
use Rattle.bosh_base.specs.declared.moves.Move.TheVariants.{Halt}
use Rattle.bosh_base.specs.declared.reply.Reply.TheVariants as replies
use Rattle.bosh_due.specs.Before.{before_of}
use Rattle.bosh_due.specs.Ends.{EndsIn, leaves_under_way}
use Rattle.bosh_due.specs.Generating.{said_reply}
use Rattle.bosh_due.specs.InTurn.{at_first}
use Rattle.bosh_due.specs.Outcomes.{Outcome}
use Rattle.bosh_due.specs.Outcomes.Outcome.{Notes, Restarts}
use Rattle.bosh_due.specs.UnderWay.{MayBeKept}
use Rattle.bosh_due.specs.UnderWay.UnderWay.{appending}
use Rattle.bosh_history.specs.Moments.{nothing}
use Rattle.examples_histories.specs.Scenes.{config, stop}
use Rattle.examples_replies.specs.Stemcells.{jammy}
use Rattle.examples_replies.specs.TwoTurns.{IsFound, stemcell, store_fault}

abbrev added : Outcome
added = Notes stemcell (replies.StemcellAdded (jammy (codes "1.2")))

-- what stands before the last of two
one_before : (first second last : Move) (more : List Move) → first ∷ second ∷ [] ≡ more ++ last ∷ [] →
    more ≡ first ∷ []
one_before first second last [] is = grind (arith, is)
one_before first second last (it ∷ []) is = grind (arith, is)
one_before first second last (it ∷ (other ∷ [])) is = grind (arith, is)
one_before first second last (it ∷ (other ∷ (third ∷ more))) is = grind (arith, is)

pub not_found : IsFound config → ⊥
not_found session =
    let halted = session.makes.makes.1 in
    let first : halted.more ≡ Halt Store ∷ [] = one_before _ _ _ halted.more halted.is in
    let left : session.makes.left ≡ appending stemcell =
    subst (λ m. session.makes.left ≡ leaves_under_way added (before_of nothing [] (at_first nothing).under_way) m)
    first halted.due.is_left
    in
    let started = session.makes.others.makes.1 in
    let second : started.more ≡ stop (Some config) [] None ∷ [] = one_before _ _ _ started.more started.is in
    let ends :
    EndsIn Restarts
    (before_of nothing (Halt Store ∷ said_reply 1 store_fault ∷ []) session.makes.left)
    (stop (Some config) [] None ∷ []) started.reply =
    subst
    (λ m.
    EndsIn Restarts (before_of nothing (Halt Store ∷ said_reply 1 store_fault ∷ []) session.makes.left) m
    started.reply)
    second started.due.ends
    in
    let kept : MayBeKept (appending stemcell) (Some config) =
    subst (λ under. MayBeKept under (Some config)) left ends.0.asked.kept
    in grind (arith, kept)
