-- What is to be compiled of the works, each key once, is what is to be compiled of all works.
use Rattle.std.proofs.Common.{List, subst}
use Rattle.std.specs.Prelude.{All, Contains}
use Rattle.bosh_alike.specs.Alike.{AreAlike}
use Rattle.bosh_base.specs.declared.key.Key.{Key}
use Rattle.bosh_base.specs.declared.key.KeyWork.{KeyWork}
use Rattle.bosh_compile.specs.Level.{IsAcyclic}
use Rattle.bosh_needed.specs.Needed.{AreNeeded}
use Rattle.bosh_release.specs.Sound.{IsSound}
use Rattle.bosh_manifest_names.specs.Used.{UsedGroup}
use Rattle.bosh_keys.specs.Once.{each_once}
use Rattle.bosh_keys.specs.Works.{AreKeys, all_works, asked_keys, releases_of}
use Rattle.bosh_keys.proofs.GroundLemmas.{works_acyclic}
use Rattle.bosh_keys.proofs.OnceLemmas.{gathered_from, gathered_key, needed_same}
use Rattle.bosh_keys.proofs.WorkLemmas.{IsOneOf, one_of_key, works_are_of}

module _ (groups : List UsedGroup) (sound : All IsSound (releases_of groups)) (alike : AreAlike (releases_of groups)) where
  once_are : (work : KeyWork) → Contains (each_once (all_works groups)) work → IsOneOf (releases_of groups) work
  once_are work c = works_are_of groups work (gathered_from (all_works groups) work c)

  pub once_acyclic : IsAcyclic (each_once (all_works groups))
  once_acyclic = works_acyclic (releases_of groups) alike sound (each_once (all_works groups)) once_are

  once_into : (work : KeyWork) → Contains (all_works groups) work → Contains (each_once (all_works groups)) work
  once_into work c =
      let (found, there, same) = gathered_key (all_works groups) work c in
      subst (Contains (each_once (all_works groups)))
      (one_of_key (releases_of groups) alike sound found work (once_are found there) (works_are_of groups work c) same) there

  pub keys_are : (compiled : List Key) (keys : List KeyWork) → AreNeeded (each_once (all_works groups)) (asked_keys groups) compiled keys
      → AreKeys groups compiled keys
  keys_are compiled keys are =
      needed_same (each_once (all_works groups)) (all_works groups) (asked_keys groups) compiled keys (gathered_from (all_works groups)) once_into are
