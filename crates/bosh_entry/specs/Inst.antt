-- How instances are spelled.
use Rattle.std.specs.Prelude.{ℕ, Bool, List, ◌&&◌, ◌++◌}
use Rattle.bosh_base.specs.Name.{is_name}
use Rattle.bosh_base.specs.declared.inst.Inst.{Inst}
use Rattle.bosh_entry.specs.Reading.{Reader, making, ◌with◌}
use Rattle.bosh_entry.specs.Number.{number, small_at, is_small}
use Rattle.bosh_entry.specs.List.{text}
use Rattle.bosh_entry.specs.Plain.{name_at}

-- an instance
unfoldable pub inst : Inst → List ℕ
inst i = text i.dep ++ text i.group ++ number i.index

unfoldable pub is_inst : Inst → Bool
is_inst i = is_name i.dep && is_name i.group && is_small i.index

unfoldable pub inst_at : Reader Inst
inst_at =
    making (λ dep group index. record {
      dep = dep;
      group = group;
      index = index;
    })
    with name_at
    with name_at
    with small_at
