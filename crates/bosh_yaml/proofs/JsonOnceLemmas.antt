-- What a JSON text spells has the keys of each map in order, so each stands once.
use Rattle.std.proofs.Common.{◌≡◌, ℕ, ℤ, Bool, true, false, List, Option, Some, None, Ok, Err, if◌then◌else◌, option_map, option_and_then, sym, subst}
use Rattle.std.specs.Str.{is_utf8}
use Rattle.json.specs.Json as text
use Rattle.json.specs.Lex.{tokens}
use Rattle.json.specs.Token.{Token}
use Rattle.serde_json.specs.Data as json
use Rattle.serde_json.specs.Find.{as_i64}
use Rattle.serde_json.specs.Read.{max_depth, number_of, of_items, of_json, of_members, read}
use Rattle.bosh_yaml.specs.declared.fault.ReadFault.TheVariants.{Syntax}
use Rattle.bosh_yaml.specs.Json.{data_or_refused, json_data}
use Rattle.bosh_yaml.specs.Limits.{HasEachKeyOnce}
use Rattle.bosh_yaml.specs.Order.{AreInKeyOrder, HaveKeyOrder, IsInKeyOrder}
use Rattle.bosh_yaml.specs.Spelling.{json_items, json_tree, number_tree, SpellsJson}
use Rattle.bosh_yaml.specs.Tree.{Tree, trees_of}
use Rattle.bosh_yaml.proofs.ResultLemmas.{ok_same}
use Rattle.bosh_yaml.proofs.OrderLemmas.{as_fields, as_fields-put, Ascend, ascend_put, in_order_once, none_ascends, order_put}

-- P holds of the value, where there is one
abbrev Holds : {A : Type 0} → (A → Type 0) → Option A → Type 0
Holds P None = Unit {0}
Holds P (Some a) = P a

holds_mapped : {A B : Type 0} (P : A → Type 0) (Q : B → Type 0) (f : A → B) → ((a : A) → P a → Q (f a)) → (o : Option A) → Holds P o → Holds Q (option_map f o)
holds_mapped P Q f step None h = tt
holds_mapped P Q f step (Some a) h = step a h

holds_chained : {A B : Type 0} (P : A → Type 0) (Q : B → Type 0) (f : A → Option B) → ((a : A) → P a → Holds Q (f a)) → (o : Option A) → Holds P o → Holds Q (option_and_then f o)
holds_chained P Q f step None h = tt
holds_chained P Q f step (Some a) h = step a h

holds_any : {A : Type 0} (o : Option A) → Holds (λ a. Unit {0}) o
holds_any None = tt
holds_any (Some a) = tt

number_in_order : (o : Option ℤ) → IsInKeyOrder (number_tree o)
number_in_order None = tt
number_in_order (Some n) = tt

abbrev DataInOrder : json.Data → Type 0
DataInOrder d = IsInKeyOrder (json_tree d)

abbrev ItemsInOrder : json.Items → Type 0
ItemsInOrder ds = AreInKeyOrder (trees_of (json_items ds))

abbrev MembersInOrder : json.Members → Type 0
MembersInOrder ms = Ascend (as_fields ms) × HaveKeyOrder (as_fields ms)

put_in_order : (k : List ℕ) (d : json.Data) (ms : json.Members) → DataInOrder d → MembersInOrder ms → MembersInOrder (json.put k d ms)
put_in_order k d ms i h =
    let same = sym (as_fields-put k d ms) in (
      subst (λ fs. Ascend fs) same (ascend_put k (json_tree d) (as_fields ms) h.0),
      subst (λ fs. HaveKeyOrder fs) same (order_put k (json_tree d) (as_fields ms) i h.1),
    )

mutual
  json_in_order : (j : text.Json) → Holds DataInOrder (of_json j)
  json_in_order text.null = tt
  json_in_order (text.boolean b) = tt
  json_in_order (text.number s) = holds_mapped (λ n. Unit {0}) DataInOrder json.number (λ n h. number_in_order (as_i64 n)) (number_of s) (holds_any (number_of s))
  json_in_order (text.string s) = tt
  json_in_order (text.array js) = holds_mapped ItemsInOrder DataInOrder json.array (λ ds h. h) (of_items js) (items_in_order js)
  json_in_order (text.object ms) = holds_mapped MembersInOrder DataInOrder json.object (λ ds h. h) (of_members ms json.no_members) (members_in_order ms json.no_members (none_ascends, tt))

  items_in_order : (js : text.Items) → Holds ItemsInOrder (of_items js)
  items_in_order text.no_items = tt
  items_in_order (text.item j js) =
      holds_chained DataInOrder ItemsInOrder _ (λ d i. holds_mapped ItemsInOrder ItemsInOrder (json.item d) (λ ds h. (i, h)) (of_items js) (items_in_order js)) (of_json j) (json_in_order j)

  members_in_order : (ms : text.Members) (found : json.Members) → MembersInOrder found → Holds MembersInOrder (of_members ms found)
  members_in_order text.no_members found h = h
  members_in_order (text.member k j ms) found h =
      holds_chained DataInOrder MembersInOrder _ (λ d i. members_in_order ms (json.put k d found) (put_in_order k d found i h)) (of_json j) (json_in_order j)

read_in_order : (bytes : List ℕ) → Holds DataInOrder (read bytes)
read_in_order bytes =
    let whole = option_and_then (λ (p : text.Json × List Token). text.if_last p.0 p.1) (text.value max_depth (tokens bytes)) in
    holds_chained (λ j. Unit {0}) DataInOrder of_json (λ j h. json_in_order j) whole (holds_any whole)

refused_has_none : (line : ℕ) (d : json.Data) → Err (Syntax line) ≡ Ok d → ⊥
refused_has_none line d h = cc

from_read : (o : Option json.Data) (d : json.Data) → Holds DataInOrder o → data_or_refused o ≡ Ok d → DataInOrder d
from_read None d h e = absurd (refused_has_none 0 d e)
from_read (Some c) d h e = subst DataInOrder (ok_same e) h

from_data : (b : Bool) (bytes : List ℕ) (d : json.Data) → (if b then data_or_refused (read bytes) else Err (Syntax 0)) ≡ Ok d → DataInOrder d
from_data true bytes d e = from_read (read bytes) d (read_in_order bytes) e
from_data false bytes d e = absurd (refused_has_none 0 d e)

-- so is the data of a text, whatever its numbers
pub json_data_once : (bytes : List ℕ) (d : json.Data) → json_data bytes ≡ Ok d → HasEachKeyOnce (json_tree d)
json_data_once bytes d h = in_order_once (json_tree d) (from_data (is_utf8 bytes) bytes d h)

pub json_has_each_once : (bytes : List ℕ) (t : Tree) → SpellsJson bytes t → HasEachKeyOnce t
json_has_each_once bytes t h = subst HasEachKeyOnce h.3 (json_data_once bytes h.0 h.1)
