-- What is recorded of the links of a deployment is what its goal says, where that is the current one.
use Rattle.std.proofs.Common.{◌≡◌, ◌∙◌, ℕ, true, List, [], ◌∷◌, Some, refl}
use Rattle.std.specs.Cmp.Lexicographic.{pointwise}
use Rattle.std.specs.Str.{bytes_eq}
use Rattle.std.proofs.lemmas.Bool.{and_from}
use Rattle.std.proofs.lemmas.Slice.Eq.{bytes_eq-Decides}
use Rattle.bosh_base.specs.declared.goal.Goal.{Goal}
use Rattle.bosh_base.specs.declared.link.Joint.{Joint}
use Rattle.bosh_base.specs.declared.link.Tie.{Tie}
use Rattle.bosh_history.specs.Exact.{has_its_ties}
use Rattle.bosh_history.specs.Openings.{ties_of}
use Rattle.bosh_history.specs.Held.{same_bytes_joint}
use Rattle.bosh_history.specs.Known.{Known}
use Rattle.bosh_rows.specs.Same.{same_tie}

bytes_self : (text : List ℕ) → bytes_eq text text ≡ true
bytes_self text = (bytes_eq-Decides text text).1 refl

joint_self : (joint : Joint) → same_bytes_joint joint joint ≡ true
joint_self joint =
    and_from (bytes_eq joint.dep joint.dep) _ (bytes_self joint.dep)
    (and_from (bytes_eq joint.group joint.group) _ (bytes_self joint.group)
    (and_from (bytes_eq joint.job joint.job) (bytes_eq joint.link joint.link) (bytes_self joint.job)
    (bytes_self joint.link)))

tie_self : (tie : Tie) → same_tie tie tie ≡ true
tie_self tie =
    and_from (same_bytes_joint tie.consumer tie.consumer) _ (joint_self tie.consumer)
    (and_from (same_bytes_joint tie.provider tie.provider) (bytes_eq tie.kind tie.kind) (joint_self tie.provider)
    (bytes_self tie.kind))

ties_self : (ties : List Tie) → pointwise same_tie ties ties ≡ true
ties_self [] = refl
ties_self (tie ∷ ties) = and_from (same_tie tie tie) _ (tie_self tie) (ties_self ties)

pub ties_kept : (k : Known) (dep : List ℕ) (goal : Goal) → k.goal dep ≡ Some goal
    → has_its_ties k dep (Some goal) ≡ true
ties_kept k dep goal current = (λ j. pointwise same_tie (ties_of (current j)) goal.ties) ∙ ties_self goal.ties
