use Rattle.std.proofs.Common.{◌≡◌, List, [], drop, take}
use Rattle.bosh_base.specs.declared.view.Held.{Held}
use Rattle.bosh_pool.specs.Fixed.{fixed_faults}
use Rattle.bosh_pool.specs.Table.{AreEntries, FirstWants}
use Rattle.bosh_pool.proofs.fixed.check_fixed.Given as goal

-- nothing was found so far, and what was given so far is noted
abbrev pub invariant-loop-want : goal.invariant-loop-want
invariant-loop-want l = record {
  noted : FirstWants (take l.want-index l.wants) l.given;
  clean : (taken kept : List Held) → AreEntries taken kept l.entries
      → fixed_faults l.plan taken kept [] l.wants ≡ fixed_faults l.plan taken kept (take l.want-index l.wants) (drop l.want-index l.wants);
}
