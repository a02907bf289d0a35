-- The works that are needed, in their order.
use Rattle.std.proofs.Common.{List, Result, Ok, Err, sym, subst}
use Rattle.std.specs.List.Sorted.{IsPermutation}
use Rattle.std.specs.Result.{IfOk}
use Rattle.bosh_base.specs.declared.key.KeyWork.{KeyWork}
use Rattle.bosh_compile.specs.CompileOrder.{AfterDependencies, IsInCompileOrder}
use Rattle.bosh_compile.specs.Level.{IsAcyclic}
use Rattle.bosh_needed.specs.Needed.{AreNeeded}
use Rattle.bosh_needed.proofs.NeedLemmas.{acyclic_part, wanted_are_needed, wanted_in}
use Rattle.bosh_needed.proofs.needs.needed.Goals as goal

pub wanted_of-requires : goal.wanted_of-requires
wanted_of-requires c = subst (λ (works : List KeyWork). AfterDependencies works) (sym c.as_slice-works.ensures) c.in_ok-ordered.ensures.ordered.after_dependencies

pub levels-requires-2 : goal.levels-requires-2
levels-requires-2 c =
    let same : IsPermutation c.args.works.now c.as_slice-works.result.now =
    subst (λ (works : List KeyWork). IsPermutation c.args.works.now works) (sym c.as_slice-works.ensures) c.in_ok-ordered.ensures.same_works in
    subst (λ (works : List KeyWork). IsAcyclic works) (sym c.as_slice.ensures.value)
    (acyclic_part c.args.works.now c.in_ok-wanted.wanted.items
    (wanted_in c.args.works.now c.as_slice-works.result.now c.args.asked.now c.args.compiled.now c.in_ok-wanted.wanted.items same c.in_ok-wanted.ensures)
    c.requires.acyclic)

both_ok :
    {A E : Type 0} (P Q R : A → Type 0) (answer : Result A E) → ((a : A) → P a → Q a → R a)
    → IfOk answer P → IfOk answer Q → IfOk answer R
both_ok P Q R (Ok a) f p q = f a p q
both_ok P Q R (Err e) f p q = p

pub returns : goal.returns
returns c =
    let works = c.args.works.now in
    let ordered = c.as_slice-works.result.now in
    let all = c.in_ok-wanted.wanted.items in
    let same : IsPermutation works ordered =
    subst (λ (xs : List KeyWork). IsPermutation works xs) (sym c.as_slice-works.ensures) c.in_ok-ordered.ensures.same_works in
    both_ok (IsPermutation c.as_slice.result.now) IsInCompileOrder (AreNeeded works c.args.asked.now c.args.compiled.now) c.levels-2.result
    (λ keys moved in_order. wanted_are_needed works ordered c.args.asked.now c.args.compiled.now all keys c.requires.once same c.in_ok-wanted.ensures
    (subst (λ (xs : List KeyWork). IsPermutation xs keys) c.as_slice.ensures.value moved) in_order)
    c.levels-2.ensures.same_works c.levels-2.ensures.ordered
