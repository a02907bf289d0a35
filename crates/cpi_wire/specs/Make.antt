-- What machines and disks are made from, in JSON (this project's profile).
use Rattle.std.specs.Prelude.{Bool, ◌&&◌, option_map}
use Rattle.bosh_base.specs.Name.{is_name}
use Rattle.bosh_base.specs.declared.addr.NetAddr.{NetAddr}
use Rattle.bosh_base.specs.declared.disk_want.DiskWant.{DiskWant}
use Rattle.bosh_base.specs.declared.make.Make.{Make}
use Rattle.serde_json.specs.Data.{Data}
use Rattle.cpi_wire.specs.Fields.{five_data, five_from, two_data, two_from}
use Rattle.cpi_wire.specs.List.{is_list, list_data, list_from}
use Rattle.cpi_wire.specs.Number.{addr_data, addr_from, is_addr, is_small, number_data, small_from}
use Rattle.cpi_wire.specs.Reading.{Reader}
use Rattle.cpi_wire.specs.Text.{is_text, name_from, text_data, text_from}

-- an address on a network
unfoldable pub net_addr_data : NetAddr → Data
net_addr_data a = two_data text_data addr_data a.net a.addr

unfoldable pub is_net_addr : NetAddr → Bool
is_net_addr a = is_name a.net && is_addr a.addr

unfoldable pub net_addr_from : Reader NetAddr
net_addr_from d = option_map (λ p. record { net = p.0; addr = p.1 }) (two_from name_from addr_from d)

-- what a machine is made from
unfoldable pub make_data : Make → Data
make_data m = five_data text_data text_data text_data text_data (list_data net_addr_data) m.os m.version m.az m.vm m.nets

unfoldable pub is_make : Make → Bool
is_make m = is_text m.os && is_text m.version && is_name m.az && is_text m.vm && is_list is_net_addr m.nets

unfoldable pub make_from : Reader Make
make_from d =
    option_map (λ p. record { os = p.0; version = p.1; az = p.2; vm = p.3; nets = p.4 })
    (five_from text_from text_from name_from text_from (list_from net_addr_from) d)

-- a disk that is wanted
unfoldable pub want_data : DiskWant → Data
want_data w = two_data number_data text_data w.size w.properties

unfoldable pub is_want : DiskWant → Bool
is_want w = is_small w.size && is_text w.properties

unfoldable pub want_from : Reader DiskWant
want_from d = option_map (λ p. record { size = p.0; properties = p.1 }) (two_from small_from text_from d)
