-- How shared links are spelled.
use Rattle.std.specs.Prelude.{ℕ, Bool, List, ◌&&◌, ◌++◌}
use Rattle.bosh_base.specs.declared.offer.Offer.{Offer}
use Rattle.bosh_entry.specs.Reading.{Reader, making, ◌with◌}
use Rattle.bosh_entry.specs.List.{text, is_text, text_at, list, is_list, list_at}
use Rattle.bosh_entry.specs.Addr.{addr, is_addr, addr_at}
use Rattle.bosh_entry.specs.Link.{joint, is_joint, joint_at}
use Rattle.bosh_entry.specs.Release.{prop, is_prop, prop_at}

-- a link that its deployment shares
unfoldable pub offer : Offer → List ℕ
offer o =
    joint o.joint
    ++ text o.kind
    ++ text o.public_name
    ++ list addr o.addrs
    ++ list text o.listed
    ++ list prop o.properties

unfoldable pub is_offer : Offer → Bool
is_offer o =
    is_joint o.joint
    && is_text o.kind
    && is_text o.public_name
    && is_list is_addr o.addrs
    && is_list is_text o.listed
    && is_list is_prop o.properties

unfoldable pub offer_at : Reader Offer
offer_at =
    making (λ joint kind public_name addrs listed properties. record {
      joint = joint;
      kind = kind;
      public_name = public_name;
      addrs = addrs;
      listed = listed;
      properties = properties;
    })
    with joint_at
    with text_at
    with text_at
    with list_at addr_at
    with list_at text_at
    with list_at prop_at
