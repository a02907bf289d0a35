-- The order in which instances are listed.
use Rattle.std.specs.declared.cmp.Ordering.{Ordering}
use Rattle.std.specs.Ordering.{nat_cmp, ordering_then}
use Rattle.std.specs.Cmp.Lexicographic.{slice_cmp}
use Rattle.bosh_base.specs.declared.inst.Inst.{Inst}

-- by deployment, then group, both by their bytes, then index (this project's choice: the tables of bosh.io are in no stated order)
abbrev pub inst_cmp : Inst → Inst → Ordering
inst_cmp a b =
    ordering_then (slice_cmp nat_cmp a.dep b.dep)
    (ordering_then (slice_cmp nat_cmp a.group b.group) (nat_cmp a.index b.index))
