use Rattle.std.proofs.Common.{◌≡◌, Some, sym, ◌∙◌, ap}
use Rattle.std.specs.Option.{option_copied}
use Rattle.bosh_base.specs.Cloud.{machine_of}
use Rattle.bosh_inventory.proofs.LeadAgentLemmas.{HasDisks-seen, Leads-acted, agents-named, can-acted}
use Rattle.bosh_inventory.proofs.LookupLemmas.{seen, seen_disks}
use Rattle.bosh_inventory.specs.Changes.{IsActing}
use Rattle.bosh_inventory.proofs.inventory.Inventory.act.Goals as goal

pub change_of-requires-clause-can : goal.change_of-requires-clause-can
change_of-requires-clause-can c =
    let found : machine_of c.args.self.now c.args.vm ≡ Some c.in-Some.machine.now =
    sym c.machine.ensures.machine ∙ ap option_copied c.in-Some.is in
    can-acted c.args.self.now (seen _ _ _ _ _ c.self.view_is c.self.invariant.0).are_orderly c.args.call.now c.args.vm
    c.in-Some.machine.now found c.requires.names c.requires.effect

pub change_of-requires-clause-disks : goal.change_of-requires-clause-disks
change_of-requires-clause-disks c =
    let found : machine_of c.args.self.now c.args.vm ≡ Some c.in-Some.machine.now =
    sym c.machine.ensures.machine ∙ ap option_copied c.in-Some.is in
    HasDisks-seen c.args.self.now (record c.self.inside.tables { disks = c.things.result.now })
    (seen_disks _ _ _ _ _ c.things.ensures (seen _ _ _ _ _ c.self.view_is c.self.invariant.0)) c.args.vm
    c.in-Some.machine.now found

pub returns : goal.returns
returns c =
    let found : machine_of c.args.self.now c.args.vm ≡ Some c.in-Some.machine.now =
    sym c.machine.ensures.machine ∙ ap option_copied c.in-Some.is in
    let acting : IsActing c.args.self.now c.args.call.now = record {
      vm = c.args.vm;
      names = c.requires.names;
      machine = c.in-Some.machine.now;
      found = found;
      agents = agents-named c.args.call.now c.args.vm c.requires.names;
      can =
          can-acted c.args.self.now (seen _ _ _ _ _ c.self.view_is c.self.invariant.0).are_orderly c.args.call.now
          c.args.vm c.in-Some.machine.now found c.requires.names c.requires.effect;
    } in
    Leads-acted c.args.self.now (record c.self.inside.tables { disks = c.things.result.now })
    (seen_disks _ _ _ _ _ c.things.ensures (seen _ _ _ _ _ c.self.view_is c.self.invariant.0)) c.args.call.now
    acting _
    c.in_ok-change_of-in-Some.ensures.machine c.in_ok-change_of-in-Some.ensures.disks
    c.in_ok-change_of-in-Some.ensures.made
