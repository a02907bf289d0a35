-- How the makings of machines are spelled.
use Rattle.std.specs.Prelude.{ℕ, Bool, List, ◌&&◌, ◌++◌}
use Rattle.bosh_base.specs.Name.{is_name}
use Rattle.bosh_base.specs.declared.make.Make.{Make}
use Rattle.bosh_entry.specs.Reading.{Reader, making, ◌with◌}
use Rattle.bosh_entry.specs.List.{text, is_text, text_at, list, is_list, list_at}
use Rattle.bosh_entry.specs.Plain.{name_at}
use Rattle.bosh_entry.specs.Addr.{net_addr, is_net_addr, net_addr_at}

-- what a machine is made from
unfoldable pub make : Make → List ℕ
make m = text m.os ++ text m.version ++ text m.az ++ text m.vm ++ list net_addr m.nets

unfoldable pub is_make : Make → Bool
is_make m =
    is_text m.os
    && is_text m.version
    && is_name m.az
    && is_text m.vm
    && is_list is_net_addr m.nets

unfoldable pub make_at : Reader Make
make_at =
    making (λ os version az vm nets. record {
      os = os;
      version = version;
      az = az;
      vm = vm;
      nets = nets;
    })
    with text_at
    with text_at
    with name_at
    with text_at
    with list_at net_addr_at
