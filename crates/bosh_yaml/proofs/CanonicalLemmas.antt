-- The JSON data of a writable tree is canonical: integers within 64 bits, and texts that are UTF-8.
use Rattle.std.proofs.Common.{◌≡◌, ◌<◌, ℕ, ◌^◌, Bool, true, ◌&&◌, List, ℤ, pos, negsuc, Some, Ordering, Less, Equal, Greater, nat_cmp, IsUtf8, refl, FitsSigned, w64}
use Rattle.std.specs.Cmp.Lexicographic.{slice_cmp}
use Rattle.std.specs.Ordering.{match_ordering}
use Rattle.std.proofs.lemmas.Bool.{lt-ltb}
use Rattle.serde_json.specs.Data as json
use Rattle.serde_json.specs.Find.{as_i64, of_integer}
use Rattle.bosh_yaml.specs.Canon.{data_items, data_members, data_of}
use Rattle.bosh_yaml.specs.Json.{has_integers, items_have_integers, members_have_integers}
use Rattle.bosh_yaml.specs.Order.{AreWritable, HaveWritable, IsWritable}
use Rattle.bosh_yaml.specs.Tree.{Tree, Trees, Fields, null, boolean, integer, list, map, no_trees, no_fields, field}
use Rattle.bosh_yaml.specs.Tree as yaml

abbrev pub IsInteger : json.Num → Type 0
IsInteger n = (z : ℤ) × FitsSigned w64 z × (n ≡ of_integer z)

abbrev mutual
  pub IsCanonical : json.Data → Type 0
  IsCanonical json.null = Unit {0}
  IsCanonical (json.boolean b) = Unit {0}
  IsCanonical (json.number n) = IsInteger n
  IsCanonical (json.string s) = IsUtf8 s
  IsCanonical (json.array ds) = AreCanonical ds
  IsCanonical (json.object ms) = HaveCanonical ms

  pub AreCanonical : json.Items → Type 0
  AreCanonical json.no_items = Unit {0}
  AreCanonical (json.item d ds) = IsCanonical d × AreCanonical ds

  pub HaveCanonical : json.Members → Type 0
  HaveCanonical json.no_members = Unit {0}
  HaveCanonical (json.member k d ms) = IsUtf8 k × IsCanonical d × HaveCanonical ms

-- ---- one more member

canonical_chosen : (o : Ordering) (k l : List ℕ) (d e : json.Data) (ms put : json.Members) → IsUtf8 k → IsCanonical d → HaveCanonical (json.member l e ms) → HaveCanonical put
    → HaveCanonical (match_ordering o (json.member k d (json.member l e ms)) (json.member l d ms) (json.member l e put))
canonical_chosen Less k l d e ms put u c h p = (u, c, h)
canonical_chosen Equal k l d e ms put u c h p = (h.0, c, h.2)
canonical_chosen Greater k l d e ms put u c h p = (h.0, h.1, p)

canonical_put : (k : List ℕ) (d : json.Data) (ms : json.Members) → IsUtf8 k → IsCanonical d → HaveCanonical ms → HaveCanonical (json.put k d ms)
canonical_put k d json.no_members u c h = (u, c, tt)
canonical_put k d (json.member l e ms) u c h = canonical_chosen (slice_cmp nat_cmp k l) k l d e ms (json.put k d ms) u c h (canonical_put k d ms u c h.2)

mutual
  pub data_is_canonical : (t : Tree) → IsWritable t → IsCanonical (data_of t)
  data_is_canonical null h = tt
  data_is_canonical (boolean b) h = tt
  data_is_canonical (integer n) h = (n, h, refl)
  data_is_canonical (yaml.text s) h = h
  data_is_canonical (list ts) h = items_are_canonical ts h
  data_is_canonical (map fs) h = members_are_canonical fs json.no_members h tt

  items_are_canonical : (ts : Trees) → AreWritable ts → AreCanonical (data_items ts)
  items_are_canonical no_trees h = tt
  items_are_canonical (yaml.tree t ts) h = (data_is_canonical t h.0, items_are_canonical ts h.1)

  members_are_canonical : (fs : Fields) (found : json.Members) → HaveWritable fs → HaveCanonical found → HaveCanonical (data_members fs found)
  members_are_canonical no_fields found h c = c
  members_are_canonical (field k t fs) found h c =
      members_are_canonical fs (json.put k (data_of t) found) h.2 (canonical_put k (data_of t) found h.0 (data_is_canonical t h.1) c)

-- ---- its integers

pub small : (n : ℕ) → FitsSigned w64 (pos n) → n < 2 ^ 63
small n h = h.sfits

pub as_i64-of_integer : (z : ℤ) → FitsSigned w64 z → as_i64 (of_integer z) ≡ Some z
as_i64-of_integer (pos n) h = rw (lt-ltb _ _ (small n h))
as_i64-of_integer (negsuc n) h = refl

integer_here : (n : json.Num) → IsInteger n → has_integers (json.number n) ≡ true
integer_here n h = rw (h.2, as_i64-of_integer h.0 h.1) refl

both_true : (a b : Bool) → a ≡ true → b ≡ true → (a && b) ≡ true
both_true a b p q = rw p q

mutual
  pub canonical_integers : (d : json.Data) → IsCanonical d → has_integers d ≡ true
  canonical_integers json.null h = refl
  canonical_integers (json.boolean b) h = refl
  canonical_integers (json.number n) h = integer_here n h
  canonical_integers (json.string s) h = refl
  canonical_integers (json.array ds) h = canonical_items ds h
  canonical_integers (json.object ms) h = canonical_members ms h

  canonical_items : (ds : json.Items) → AreCanonical ds → items_have_integers ds ≡ true
  canonical_items json.no_items h = refl
  canonical_items (json.item d ds) h = both_true _ _ (canonical_integers d h.0) (canonical_items ds h.1)

  canonical_members : (ms : json.Members) → HaveCanonical ms → members_have_integers ms ≡ true
  canonical_members json.no_members h = refl
  canonical_members (json.member k d ms) h = both_true _ _ (canonical_integers d h.1) (canonical_members ms h.2)
