-- One more address is looked at.
use Rattle.std.proofs.Common.{◌≡◌, ◌⊎◌, ◌∙◌, ◌+◌, Err, find, inl, inr, map, rules, true, drop}
use Rattle.bosh_slots.specs.Slots.{net_addr}
use Rattle.bosh_manifest_names.specs.declared.fault.GoalFault.TheVariants.{Memory}
use Rattle.bosh_goal.specs.Anew.{all_free, keeps, refusal_at}
use Rattle.bosh_goal.proofs.AddrLemmas.{all_free-next}
use Rattle.bosh_goal.proofs.AnswerLemmas.{then-fault, then-ok}
use Rattle.bosh_goal.proofs.freeing.check_all.Goals as goal

pub loop-net-preserved : goal.loop-net-preserved
loop-net-preserved c =
    let rows = c.args.rows.now in
    let recorded = c.args.recorded.now in
    let nets = c.args.nets.now in
    let i = c.loop-net.net-index in
    let net = c.net-item.result in
    c.loop-net.invariant ∙ (all_free-next rows recorded nets i net c.loop-net-test.true c.net-item.is
    ∙ then-ok (refusal_at net.addr (find (keeps rows net.addr) recorded)) true (λ free. all_free rows recorded (map net_addr (drop (i + 1) nets))) c.in_ok-check_free.ensures)

pub returns-in_err-check_free : goal.returns-in_err-check_free
returns-in_err-check_free c =
    let rows = c.args.rows.now in
    let recorded = c.args.recorded.now in
    let nets = c.args.nets.now in
    let i = c.loop-net.net-index in
    let net = c.net-item.result in
    let fault = c.in_err-check_free.field-0.0 in
    let told : (fault ≡ Memory) ⊎ (all_free rows recorded (map net_addr nets) ≡ Err fault) =
    elim c.in_err-check_free.ensures [
      | inl memory ↦ inl memory
      | inr refused ↦
          inr (c.loop-net.invariant ∙ (all_free-next rows recorded nets i net c.loop-net-test.true c.net-item.is
          ∙ then-fault (refusal_at net.addr (find (keeps rows net.addr) recorded)) fault (λ free. all_free rows recorded (map net_addr (drop (i + 1) nets))) refused))
    ] in
    search (rules, told)
