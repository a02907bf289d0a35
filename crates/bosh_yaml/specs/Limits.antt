-- How deep lists and mappings nest in a tree, and that each key stands once in its mapping.
use Rattle.std.specs.Prelude.{◌≡◌, ℕ, suc, max, false}
use Rattle.bosh_yaml.specs.Nodes.{Keys, no_keys, with_new}
use Rattle.bosh_yaml.specs.Tree.{Tree, Trees, Fields, null, boolean, integer, text, list, map, no_trees, tree, no_fields, field}

abbrev mutual
  pub depth : Tree → ℕ
  depth null = 0
  depth (boolean b) = 0
  depth (integer n) = 0
  depth (text s) = 0
  depth (list ts) = suc (depth_all ts)
  depth (map fs) = suc (depth_keyed fs)

  pub depth_all : Trees → ℕ
  depth_all no_trees = 0
  depth_all (tree t ts) = max (depth t) (depth_all ts)

  pub depth_keyed : Fields → ℕ
  depth_keyed no_fields = 0
  depth_keyed (field k t fs) = max (depth t) (depth_keyed fs)

abbrev mutual
  pub HasEachKeyOnce : Tree → Type 0
  HasEachKeyOnce null = Unit {0}
  HasEachKeyOnce (boolean b) = Unit {0}
  HasEachKeyOnce (integer n) = Unit {0}
  HasEachKeyOnce (text s) = Unit {0}
  HasEachKeyOnce (list ts) = HaveEachKeyOnce ts
  HasEachKeyOnce (map fs) = KeysAreNew no_keys fs

  pub HaveEachKeyOnce : Trees → Type 0
  HaveEachKeyOnce no_trees = Unit {0}
  HaveEachKeyOnce (tree t ts) = HasEachKeyOnce t × HaveEachKeyOnce ts

  -- no key is one of those before it
  pub KeysAreNew : Keys → Fields → Type 0
  KeysAreNew keys no_fields = Unit {0}
  KeysAreNew keys (field k t fs) = (keys k ≡ false) × HasEachKeyOnce t × KeysAreNew (with_new keys k) fs
