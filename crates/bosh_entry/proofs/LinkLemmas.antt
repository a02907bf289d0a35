-- What is read is what was spelled.
use Rattle.std.proofs.Common.{refl}
use Rattle.bosh_base.specs.declared.link.Joint.{Joint}
use Rattle.bosh_base.specs.declared.link.Tie.{Tie}
use Rattle.bosh_entry.specs.Link.{joint, is_joint, joint_at, tie, is_tie, tie_at}
use Rattle.bosh_entry.proofs.CodingLemmas.{IsCoding, making_law, struct_law, ◌and◌}
use Rattle.bosh_entry.proofs.ListLemmas.{text_law}
use Rattle.bosh_entry.proofs.PlainLemmas.{name_law}

pub joint_law : IsCoding joint is_joint joint_at
unfolding joint is_joint joint_at
joint_law = struct_law (λ (j : Joint). ((((tt, j.dep), j.group), j.job), j.link)) (λ p. refl) (λ x. refl) (making_law (λ dep group job link. record { dep = dep; group = group; job = job; link = link }) and name_law and name_law and name_law and name_law)

pub tie_law : IsCoding tie is_tie tie_at
unfolding tie is_tie tie_at
tie_law = struct_law (λ (t : Tie). (((tt, t.consumer), t.provider), t.kind)) (λ p. refl) (λ x. refl) (making_law (λ consumer provider kind. record { consumer = consumer; provider = provider; kind = kind }) and joint_law and joint_law and text_law)
