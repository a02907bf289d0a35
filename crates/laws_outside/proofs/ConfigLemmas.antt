-- The test of a text tells whether it is a cloud config, and a digest is told by its bytes.
use Rattle.std.proofs.Common.{◌≡◌, ◌∙◌, ap, refl, ℕ, true, List}
use Rattle.std.specs.Prelude.{◌↔◌, Result, Ok, Err, is_some}
use Rattle.bosh_agent.specs.Compiled.{compiled_digest}
use Rattle.bosh_base.specs.declared.digest.Digest.{Digest}
use Rattle.bosh_base.specs.declared.key.KeyWork.{KeyWork}
use Rattle.bosh_cloudcfg.specs.Check.{config_of_tree}
use Rattle.bosh_cloudcfg.specs.declared.config.Config.{Config}
use Rattle.bosh_cloudcfg.specs.declared.fault.ConfigFault.{ConfigFault}
use Rattle.bosh_compile.specs.Listing.{listing}
use Rattle.bosh_yaml.specs.Reading.{reading}
use Rattle.bosh_yaml.specs.Tree.{Tree}
use Rattle.bosh_yaml.specs.declared.fault.ReadFault.{ReadFault}
use Rattle.laws_outside.specs.Configs.{Spells, if_checked, if_read, is_config}
use Rattle.sha2.specs.Sha256.{sha256}

spelled : (text : List ℕ) → is_config text ≡ true → Spells text
spelled text h = by (reading text) refl h
  where
    checked : (tree : Tree) → reading text ≡ Ok tree → (r : Result Config ConfigFault) → config_of_tree tree ≡ r → is_some (if_checked r) ≡ true → Spells text
    checked tree reads (Ok config) is h = record { tree = tree; config = config; reads = reads; is = is }
    checked tree reads (Err fault) is h = absurd cc

    by : (r : Result Tree ReadFault) → reading text ≡ r → is_some (if_read r) ≡ true → Spells text
    by (Ok tree) reads h = checked tree reads (config_of_tree tree) refl h
    by (Err fault) reads h = absurd cc

of_spelled : (text : List ℕ) → Spells text → is_config text ≡ true
of_spelled text it = ap (λ r. is_some (if_read r)) it.reads ∙ ap (λ r. is_some (if_checked r)) it.is

pub config_decides : (text : List ℕ) → (is_config text ≡ true) ↔ Spells text
config_decides text = (spelled text, of_spelled text)

pub told_by_bytes : (work : KeyWork) (deps : List Digest) (digest : Digest) → digest.0 ≡ sha256 (listing work deps) → digest ≡ compiled_digest work deps
told_by_bytes work deps digest same = ap the_digest same
  where
    the_digest : List ℕ → Digest
    the_digest bytes = record { 0 = bytes }
