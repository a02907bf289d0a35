-- What is read is what was spelled.
use Rattle.std.proofs.Common.{refl}
use Rattle.bosh_base.specs.declared.spec.Mark.{Mark}
use Rattle.bosh_base.specs.declared.spec.Placed.{Placed}
use Rattle.bosh_base.specs.declared.spec.Spec.{Spec}
use Rattle.bosh_entry.specs.Spec.{mark, is_mark, mark_at, placed, is_placed, placed_at, spec, is_spec, spec_at}
use Rattle.bosh_entry.proofs.CodingLemmas.{IsCoding, making_law, struct_law, ◌and◌}
use Rattle.bosh_entry.proofs.ListLemmas.{text_law, list_law}
use Rattle.bosh_entry.proofs.PlainLemmas.{name_law, digest_law}

pub mark_law : IsCoding mark is_mark mark_at
unfolding mark is_mark mark_at
mark_law = struct_law (λ (m : Mark). ((tt, m.name), m.fingerprint)) (λ p. refl) (λ x. refl) (making_law (λ name fingerprint. record { name = name; fingerprint = fingerprint }) and name_law and digest_law)

pub placed_law : IsCoding placed is_placed placed_at
unfolding placed is_placed placed_at
placed_law = struct_law (λ (p : Placed). ((tt, p.path), p.text)) (λ p. refl) (λ x. refl) (making_law (λ path text. record { path = path; text = text }) and text_law and text_law)

pub spec_law : IsCoding spec is_spec spec_at
unfolding spec is_spec spec_at
spec_law = struct_law (λ (s : Spec). (((tt, s.jobs), s.packages), s.files)) (λ p. refl) (λ x. refl) (making_law (λ jobs packages files. record { jobs = jobs; packages = packages; files = files }) and list_law mark_law and list_law mark_law and list_law placed_law)
