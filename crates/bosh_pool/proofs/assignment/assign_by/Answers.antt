-- The numbers in use are those that somebody has, or a want of its own.
use Rattle.std.proofs.Common.{◌≡◌, ◌||◌, Bool, List, Option, map, ap, sym, subst, ◌∙◌}
use Rattle.std.specs.List.{list_any}
use Rattle.bosh_base.specs.declared.addr.Addr.{Addr}
use Rattle.bosh_pool.specs.Answer.{IsAnswer}
use Rattle.bosh_pool.specs.Assignment.{given_addresses, is_held, unless}
use Rattle.bosh_pool.specs.Fixed.{is_given}
use Rattle.bosh_pool.specs.Free.{is_used}
use Rattle.bosh_pool.specs.Kept.{is_taken, own}
use Rattle.bosh_pool.specs.declared.fault.PoolFault.{PoolFault}
use Rattle.bosh_pool.proofs.AssignmentLemmas.{list_any-map}
use Rattle.bosh_pool.proofs.assignment.assign_by.Goals as goal

pub returns : goal.returns
returns c =
    let wants = c.args.wants.now in
    let plan = c.args.plan.now in
    let taken = c.args.taken.now in
    let kept = c.args.kept.now in
    let find = own plan taken kept in
    let used = c.in_ok-used.used in
    let mine : c.in_ok-own.own.items ≡ map find wants = c.in_ok-own.ensures.own in
    let held : (addr : Addr) → is_used used addr ≡ is_held plan taken kept wants addr = λ addr.
    c.in_ok-used.ensures addr
    ∙ ap (λ (addrs : List (Option Addr)). is_taken taken addr || (is_taken kept addr || list_any (is_given addr) addrs)) (c.as_slice.ensures.value ∙ mine)
    ∙ ap (λ b. is_taken taken addr || (is_taken kept addr || b)) (list_any-map (is_given addr) find wants) in
    let answered = c.give_unused.ensures find (c.as_slice-2.ensures.value ∙ mine) in
    let as_held : IsAnswer c.give_unused.result (given_addresses plan find (is_held plan taken kept wants) wants) =
    subst (λ (test : Addr → Bool). IsAnswer c.give_unused.result (given_addresses plan find test wants)) (λ i addr. held addr i) answered in
    subst (λ (fault : Option PoolFault). IsAnswer c.give_unused.result (unless fault (given_addresses plan find (is_held plan taken kept wants) wants))) (sym c.in_ok-own.ensures.checked) as_held
