-- What is read is what was spelled.
use Rattle.std.proofs.Common.{refl}
use Rattle.bosh_base.specs.declared.offer.Offer.{Offer}
use Rattle.bosh_entry.specs.Offer.{offer, is_offer, offer_at}
use Rattle.bosh_entry.proofs.CodingLemmas.{IsCoding, making_law, struct_law, ◌and◌}
use Rattle.bosh_entry.proofs.ListLemmas.{text_law, list_law}
use Rattle.bosh_entry.proofs.AddrLemmas.{addr_law}
use Rattle.bosh_entry.proofs.LinkLemmas.{joint_law}
use Rattle.bosh_entry.proofs.ReleaseLemmas.{prop_law}

pub offer_law : IsCoding offer is_offer offer_at
unfolding offer is_offer offer_at
offer_law = struct_law (λ (o : Offer). ((((((tt, o.joint), o.kind), o.public_name), o.addrs), o.listed), o.properties)) (λ p. refl) (λ x. refl) (making_law (λ joint kind public_name addrs listed properties. record { joint = joint; kind = kind; public_name = public_name; addrs = addrs; listed = listed; properties = properties }) and joint_law and text_law and text_law and list_law addr_law and list_law text_law and list_law prop_law)
