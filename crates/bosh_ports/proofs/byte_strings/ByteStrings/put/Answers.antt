use Rattle.std.proofs.lemmas.List.{map-set}
use Rattle.bosh_ports.proofs.byte_strings.ByteStrings.put.Goals as goal

pub returns : goal.returns
returns c = let v = c.self.view_is in rw (← c.self.view_is) (map-set (λ v. v.items) c.self.inside.items.items c.args.k c.args.item)
