use Rattle.std.proofs.Common.{◌≡◌, List, map, subst, sym}
use Rattle.std.specs.List.Sorted.{IsPermutation}
use Rattle.std.specs.Cmp.Lexicographic.{slice_cmp}
use Rattle.std.proofs.lemmas.Result.{IfOk-weaker}
use Rattle.bosh_base.specs.declared.key.KeyWork.{KeyWork}
use Rattle.bosh_compile.specs.declared.order.Leveled.{Leveled}
use Rattle.bosh_compile.specs.CompileOrder.{IsInCompileOrder, key_cmp}
use Rattle.bosh_compile.specs.Leveled.{work_of}
use Rattle.bosh_compile.proofs.OrderLemmas.{same_works, is_in_compile_order}
use Rattle.bosh_compile.proofs.order.levels.Goals as goal

pub returns-clause-same_works : goal.returns-clause-same_works
returns-clause-same_works c =
    let works = c.args.works.now in
    let sorted = c.sort.new.self.items in
    let moved = subst (λ (all : List Leveled). IsPermutation all sorted) c.in_ok-all.ensures c.in_ok-sort.ensures.permutation in
    IfOk-weaker c.works_of.result (λ ordered. ordered ≡ map work_of sorted) (IsPermutation works) (λ ordered is. subst (λ (xs : List KeyWork). IsPermutation works xs) (sym is) (same_works works sorted moved)) c.works_of.ensures

pub returns-clause-ordered : goal.returns-clause-ordered
returns-clause-ordered c =
    let works = c.args.works.now in
    let sorted = c.sort.new.self.items in
    let moved = subst (λ (all : List Leveled). IsPermutation all sorted) c.in_ok-all.ensures c.in_ok-sort.ensures.permutation in
    IfOk-weaker c.works_of.result (λ ordered. ordered ≡ map work_of sorted) IsInCompileOrder
    (λ ordered is. subst IsInCompileOrder (sym is) (is_in_compile_order works sorted (slice_cmp key_cmp) moved c.in_ok-sort.ensures.sorted c.requires)) c.works_of.ensures
