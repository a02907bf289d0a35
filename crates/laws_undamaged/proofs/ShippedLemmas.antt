-- What the program settles outside of its histories is told rightly.
use Rattle.std.proofs.Common.{◌≡◌, true, [], ◌∷◌, Result, Ok, Err}
use Rattle.std.specs.Prelude.{is_some}
use Rattle.std.proofs.lemmas.List.Elements.{All-append, All-cons, All-nil}
use Rattle.bosh_asks.specs.Goals as asks
use Rattle.bosh_cloudcfg.specs.Check.{config_of_tree}
use Rattle.bosh_cloudcfg.specs.declared.config.Config.{Config}
use Rattle.bosh_cloudcfg.specs.declared.fault.ConfigFault.{ConfigFault}
use Rattle.bosh_release.specs.Sound.{IsSound}
use Rattle.bosh_yaml.specs.Reading.{reading}
use Rattle.bosh_yaml.specs.Tree.{Tree}
use Rattle.bosh_yaml.specs.declared.fault.ReadFault.{ReadFault}
use Rattle.laws_outside.proofs.ReleaseLemmas.{goes_with_decides}
use Rattle.laws_outside.specs.Configs as settled
use Rattle.laws_outside.specs.Shipped.{shipped}
use Rattle.laws_undamaged.specs.Settled.{TellsRightly}

checked : (it : Result Config ConfigFault) → is_some (settled.if_checked it) ≡ true → is_some (asks.if_checked it) ≡ true
checked (Ok config) is = is
checked (Err fault) is = is

read : (it : Result Tree ReadFault) → is_some (settled.if_read it) ≡ true → is_some (asks.if_read it) ≡ true
read (Ok tree) is = checked (config_of_tree tree) is
read (Err fault) is = is

pub shipped_tells_rightly : TellsRightly shipped
shipped_tells_rightly = record {
  configs = λ file. read (reading file);
  releases = λ releases release goes.
      let ((sound, alike), (more, together)) = (goes_with_decides releases release).0 goes in
      (All-append IsSound releases (release ∷ []) sound (All-cons IsSound release [] more (All-nil IsSound)), together);
}
