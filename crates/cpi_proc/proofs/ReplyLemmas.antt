-- Replies are read as what they say.
use Rattle.std.proofs.Common.{◌≡◌, ◌≢◌, ◌≤◌, ◌<◌, ◌^◌, ℕ, zero, suc, Bool, true, false, ◌&&◌, cond, ltb, List, [], ◌∷◌, Option, Some, None, Result, Ok, Err, IfOk, option_map, option_and_then, codes, refl, sym, ap, subst, ◌∙◌, arith}
use Rattle.std.proofs.lemmas.Bool.{and_from, and_parts, lt-ltb, ltb-true}
use Rattle.std.proofs.lemmas.Slice.Eq.{bytes_eq-Decides}
use Rattle.std.specs.Option.{is_some}
use Rattle.std.specs.List.{list_all}
use Rattle.std.specs.Str.{bytes_eq}
use Rattle.bosh_base.specs.Answer.{is_kind}
use Rattle.bosh_base.specs.declared.answer.Answer.{Answer}
use Rattle.bosh_base.specs.declared.answer.Answer.TheVariants.{Done, Cid, Found, Yes, No, Disks, Facts, Built, Gone, Failed}
use Rattle.bosh_base.specs.declared.digest.Digest.{Digest}
use Rattle.bosh_base.specs.declared.method.Method.{Method}
use Rattle.bosh_base.specs.declared.method.Method.TheVariants as methods
use Rattle.bosh_base.specs.declared.spec.Spec.{Spec}
use Rattle.json.proofs.Printed.Utf8.{IsUtf8-are_ascii}
use Rattle.serde_json.specs.Data.{Data, null, boolean, number, string, array, object, Members, no_members, member}
use Rattle.serde_json.specs.Find.{as_object, as_str, get}
use Rattle.serde_json.specs.Written.{compact_text}
use Rattle.cpi_wire.specs.Choice.{flag_data, flag_from, is_flag, is_option, option_data, option_from}
use Rattle.cpi_wire.specs.List.{is_list, list_data, list_from}
use Rattle.cpi_wire.specs.Number.{is_number, number_data, number_from}
use Rattle.cpi_wire.specs.Reading.{◌>>=◌, only}
use Rattle.cpi_wire.specs.Spec.{is_spec, spec_data, spec_from}
use Rattle.cpi_wire.specs.Fields.{three_data, three_from}
use Rattle.cpi_wire.specs.Text.{digest_from}
use Rattle.cpi_wire.proofs.CodingLemmas.{IsCoding, chosen, is_null, list_law, mapped_some, only_law, only_some, option_law, some_is}
use Rattle.cpi_wire.proofs.FieldLemmas.{three_law}
use Rattle.cpi_wire.proofs.PlainLemmas.{IsPlain}
use Rattle.cpi_wire.proofs.StructLemmas.{spec_law}
use Rattle.cpi_wire.proofs.ValueLemmas.{digest_law, flag_law, number_law}
use Rattle.cpi_proc.specs.Json.{json_of}
use Rattle.cpi_proc.specs.Object.{value_at}
use Rattle.cpi_proc.specs.Reply.{GivesReply, HasError, HasResult, Refuses, Replies, Says, answer_from, built_from, by_error, by_type, can_reply, cid_from, disks_from, done_from, error_data, error_of, facts_from, flag_answer_from, found_from, has_numbers, has_parts, is_answer, is_cid, is_count, or_refused, reply_data, reply_from, reply_of, reply_of_value, reply_text, result_data, result_of, type_of, yes_or_no}
use Rattle.cpi_proc.specs.Port.{FailsByCount}
use Rattle.cpi_proc.specs.declared.fault.PortFault.{PortFault}
use Rattle.cpi_proc.specs.declared.fault.PortFault.TheVariants.{NotAReply, SpawnFault, Refused, TooLong, Memory}
use Rattle.cpi_proc.proofs.RequestLemmas.{json_of_plain}

-- ---- the codings of results

count_is_number : (n : ℕ) → is_count n ≡ true → is_number n ≡ true
count_is_number n h = let below = ltb-true n (2 ^ 63) h in lt-ltb n (2 ^ 64) (omega arith)

cid_is_number : (n : ℕ) → is_cid n ≡ true → is_number n ≡ true
cid_is_number n h = count_is_number n (and_parts (ltb 0 n) (is_count n) h).1

counts_are_numbers : (ns : List ℕ) → is_list is_count ns ≡ true → is_list is_number ns ≡ true
counts_are_numbers [] h = refl
counts_are_numbers (n ∷ ns) h = let parts = and_parts (is_count n) (is_list is_count ns) h in and_from (is_number n) (is_list is_number ns) (count_is_number n parts.0) (counts_are_numbers ns parts.1)

found_is_number : (found : Option ℕ) → is_option is_count found ≡ true → is_option is_number found ≡ true
found_is_number None h = refl
found_is_number (Some n) h = count_is_number n h

cid_law : IsCoding 4 number_data is_cid (λ d. only is_cid (number_from d))
cid_law = only_law is_cid cid_is_number (number_law 4)

found_law : IsCoding 4 (option_data number_data) (is_option is_count) (λ d. only (is_option is_count) (option_from number_from d))
found_law = only_law (is_option is_count) found_is_number (option_law (λ n. refl) (number_law 4))

disks_law : IsCoding 4 (list_data number_data) (is_list is_count) (λ d. only (is_list is_count) (list_from number_from d))
disks_law = only_law (is_list is_count) counts_are_numbers (list_law (number_law 3))

spec_is_some : (s : Spec) → is_null (spec_data s) ≡ false
unfolding spec_data
spec_is_some s = refl

abbrev facts_data : Option Spec × Bool × Bool → Data
facts_data a = three_data (option_data spec_data) flag_data flag_data a.0 a.1 a.2

abbrev is_facts : Option Spec × Bool × Bool → Bool
is_facts a = is_option is_spec a.0 && is_flag a.1 && is_flag a.2

facts_law : IsCoding 4 facts_data is_facts (three_from (option_from spec_from) flag_from flag_from)
facts_law = three_law (option_law spec_is_some (spec_law 0)) (flag_law 3) (flag_law 3)

-- ---- what a result says

-- an object without an error
record NoError (d : Data) : Type 0 where
  is_object : is_some (as_object d) ≡ true
  error : error_of d ≡ null

says_result : (m : Method) (d result : Data) (a : Answer) → NoError d → is_kind m a ≡ true → has_numbers a ≡ true → has_parts a ≡ true → result_of d ≡ result → result ≡ result_data a → HasResult m d a
says_result m d result a clean kind numbers parts is value =
    record { is_object = clean.is_object; error = clean.error; kind = kind; fits = and_from (has_numbers a) (has_parts a) numbers parts; value = is ∙ value }

cid_says : (m : Method) (d result : Data) (a : Answer) → ((n : ℕ) → is_kind m (Cid n) ≡ true) → NoError d → result_of d ≡ result → cid_from result ≡ Some a → Says m d a
unfolding has_numbers has_parts result_data
cid_says m d result a kind clean is e =
    let n = mapped_some Cid (only is_cid (number_from result)) a e in
    let t = cid_law.takes result n.0 n.1 in
    subst (λ (x : Answer). Says m d x) n.2 (says_result m d result (Cid n.0) clean (kind n.0) t.1 refl is t.0)

found_says : (m : Method) (d result : Data) (a : Answer) → ((n : Option ℕ) → is_kind m (Found n) ≡ true) → NoError d → result_of d ≡ result → found_from result ≡ Some a → Says m d a
unfolding has_numbers has_parts result_data
found_says m d result a kind clean is e =
    let n = mapped_some Found (only (is_option is_count) (option_from number_from result)) a e in
    let t = found_law.takes result n.0 n.1 in
    subst (λ (x : Answer). Says m d x) n.2 (says_result m d result (Found n.0) clean (kind n.0) t.1 refl is t.0)

disks_says : (m : Method) (d result : Data) (a : Answer) → ((n : List ℕ) → is_kind m (Disks n) ≡ true) → NoError d → result_of d ≡ result → disks_from result ≡ Some a → Says m d a
unfolding has_numbers has_parts result_data
disks_says m d result a kind clean is e =
    let n = mapped_some Disks (only (is_list is_count) (list_from number_from result)) a e in
    let t = disks_law.takes result n.0 n.1 in
    subst (λ (x : Answer). Says m d x) n.2 (says_result m d result (Disks n.0) clean (kind n.0) t.1 refl is t.0)

flag_result : (m : Method) (d result : Data) (b : Bool) → is_kind m Yes ≡ true → is_kind m No ≡ true → NoError d → result_of d ≡ result → result ≡ boolean b → Says m d (yes_or_no b)
unfolding has_numbers has_parts result_data
flag_result m d result true as_yes as_no clean is e = says_result m d result Yes clean as_yes refl refl is e
flag_result m d result false as_yes as_no clean is e = says_result m d result No clean as_no refl refl is e

flag_says : (m : Method) (d result : Data) (a : Answer) → is_kind m Yes ≡ true → is_kind m No ≡ true → NoError d → result_of d ≡ result → flag_answer_from result ≡ Some a → Says m d a
flag_says m d result a as_yes as_no clean is e =
    let b = mapped_some yes_or_no (flag_from result) a e in
    let t = (flag_law 0).takes result b.0 b.1 in
    subst (λ (x : Answer). Says m d x) b.2 (flag_result m d result b.0 as_yes as_no clean is t.0)

facts_says : (m : Method) (d result : Data) (a : Answer) → ((s : Option Spec) (r x : Bool) → is_kind m (Facts s r x) ≡ true) → NoError d → result_of d ≡ result → facts_from result ≡ Some a → Says m d a
unfolding has_numbers has_parts result_data
facts_says m d result a kind clean is e =
    let f = mapped_some (λ p. Facts p.0 p.1 p.2) (three_from (option_from spec_from) flag_from flag_from result) a e in
    let t = facts_law.takes result f.0 f.1 in
    let fits = and_parts (is_option is_spec f.0.0) true (and_parts (is_option is_spec f.0.0 && true) true t.1).0 in
    subst (λ (x : Answer). Says m d x) f.2 (says_result m d result (Facts f.0.0 f.0.1 f.0.2) clean (kind f.0.0 f.0.1 f.0.2) refl fits.0 is t.0)

built_says : (m : Method) (d result : Data) (a : Answer) → ((x : Digest) → is_kind m (Built x) ≡ true) → NoError d → result_of d ≡ result → built_from result ≡ Some a → Says m d a
unfolding has_numbers has_parts result_data
built_says m d result a kind clean is e =
    let x = mapped_some Built (digest_from result) a e in
    let t = (digest_law 4).takes result x.0 x.1 in
    subst (λ (y : Answer). Says m d y) x.2 (says_result m d result (Built x.0) clean (kind x.0) refl t.1 is t.0)

done_taken : (result : Data) (a : Answer) → done_from result ≡ Some a → (result ≡ null) × (Done ≡ a)
done_taken null a e = (refl, some_is Done a e)
done_taken (boolean b) a e = absurd cc
done_taken (number n) a e = absurd cc
done_taken (string s) a e = absurd cc
done_taken (array ds) a e = absurd cc
done_taken (object ms) a e = absurd cc

done_says : (m : Method) (d result : Data) (a : Answer) → is_kind m Done ≡ true → NoError d → result_of d ≡ result → done_from result ≡ Some a → Says m d a
unfolding has_numbers has_parts result_data
done_says m d result a kind clean is e =
    let t = done_taken result a e in
    subst (λ (x : Answer). Says m d x) t.1 (says_result m d result Done clean kind refl refl is t.0)

answer_says : (m : Method) (d result : Data) (a : Answer) → NoError d → result_of d ≡ result → answer_from m result ≡ Some a → Says m d a
unfolding answer_from
answer_says methods.CreateVm d result a clean is e = cid_says methods.CreateVm d result a (λ n. refl) clean is e
answer_says methods.DeleteVm d result a clean is e = done_says methods.DeleteVm d result a refl clean is e
answer_says methods.HasVm d result a clean is e = flag_says methods.HasVm d result a refl refl clean is e
answer_says methods.FindVm d result a clean is e = found_says methods.FindVm d result a (λ n. refl) clean is e
answer_says methods.CreateDisk d result a clean is e = cid_says methods.CreateDisk d result a (λ n. refl) clean is e
answer_says methods.DeleteDisk d result a clean is e = done_says methods.DeleteDisk d result a refl clean is e
answer_says methods.HasDisk d result a clean is e = flag_says methods.HasDisk d result a refl refl clean is e
answer_says methods.FindDisk d result a clean is e = found_says methods.FindDisk d result a (λ n. refl) clean is e
answer_says methods.AttachDisk d result a clean is e = done_says methods.AttachDisk d result a refl clean is e
answer_says methods.DetachDisk d result a clean is e = done_says methods.DetachDisk d result a refl clean is e
answer_says methods.GetDisks d result a clean is e = disks_says methods.GetDisks d result a (λ n. refl) clean is e
answer_says methods.Ping d result a clean is e = done_says methods.Ping d result a refl clean is e
answer_says methods.GetState d result a clean is e = facts_says methods.GetState d result a (λ s r x. refl) clean is e
answer_says methods.Apply d result a clean is e = done_says methods.Apply d result a refl clean is e
answer_says methods.Start d result a clean is e = done_says methods.Start d result a refl clean is e
answer_says methods.Drain d result a clean is e = done_says methods.Drain d result a refl clean is e
answer_says methods.Stop d result a clean is e = done_says methods.Stop d result a refl clean is e
answer_says methods.MountDisk d result a clean is e = done_says methods.MountDisk d result a refl clean is e
answer_says methods.UnmountDisk d result a clean is e = done_says methods.UnmountDisk d result a refl clean is e
answer_says methods.ListDisk d result a clean is e = disks_says methods.ListDisk d result a (λ n. refl) clean is e
answer_says methods.MigrateDisk d result a clean is e = done_says methods.MigrateDisk d result a refl clean is e
answer_says methods.CompilePackage d result a clean is e = built_says methods.CompilePackage d result a (λ x. refl) clean is e

ok_is : {A : Type 0} (a b : A) → ◌≡◌ {A = Result A PortFault} (Ok a) (Ok b) → a ≡ b
ok_is a b e = cc

or_refused_ok : {A : Type 0} (o : Option A) (a : A) → or_refused o ≡ Ok a → o ≡ Some a
or_refused_ok (Some x) a e = ap Some (ok_is x a e)
or_refused_ok None a e = absurd cc

or_refused_no : {A : Type 0} (o : Option A) (k : List ℕ) → or_refused o ≡ Err (Refused k) → ⊥
or_refused_no (Some x) k e = cc
or_refused_no None k e = cc

gone_test : (d : Data) (m : Method) (kind : List ℕ) (a : Answer) (b : Bool) → bytes_eq kind (codes "Gone") ≡ b → is_some (as_object d) ≡ true → type_of (error_of d) ≡ Some kind → cond b (Ok Gone) (Err (Refused kind)) ≡ Ok a → Says m d a
gone_test d m kind a true is there said e =
    let same : kind ≡ codes "Gone" = (bytes_eq-Decides kind (codes "Gone")).0 is in
    subst (λ (x : Answer). Says m d x) (ok_is Gone a e) (record { is_object = there; kind_is = said ∙ ap Some same })
gone_test d m kind a false is there said e = absurd cc

type_says : (d : Data) (m : Method) (a : Answer) (kind : Option (List ℕ)) → is_some (as_object d) ≡ true → type_of (error_of d) ≡ kind → by_type kind ≡ Ok a → Says m d a
type_says d m a None there said e = absurd cc
type_says d m a (Some kind) there said e = gone_test d m kind a (bytes_eq kind (codes "Gone")) refl there said e

error_says : (m : Method) (d error : Data) (a : Answer) → is_some (as_object d) ≡ true → error_of d ≡ error → by_error m error (result_of d) ≡ Ok a → Says m d a
error_says m d null a there is e = answer_says m d (result_of d) a (record { is_object = there; error = is }) refl (or_refused_ok (answer_from m (result_of d)) a e)
error_says m d (boolean b) a there is e = type_says d m a (type_of (boolean b)) there (ap type_of is) e
error_says m d (number n) a there is e = type_says d m a (type_of (number n)) there (ap type_of is) e
error_says m d (string s) a there is e = type_says d m a (type_of (string s)) there (ap type_of is) e
error_says m d (array ds) a there is e = type_says d m a (type_of (array ds)) there (ap type_of is) e
error_says m d (object ms) a there is e = type_says d m a (type_of (object ms)) there (ap type_of is) e

object_test : {A : Type 0} (b : Bool) (r : Result A PortFault) (a : A) → cond b r (Err NotAReply) ≡ Ok a → (b ≡ true) × (r ≡ Ok a)
object_test true r a e = (refl, e)
object_test false r a e = absurd cc

reply_says : (m : Method) (d : Data) (a : Answer) → reply_from m d ≡ Ok a → Says m d a
unfolding reply_from
reply_says m d a e =
    let t = object_test (is_some (as_object d)) (by_error m (error_of d) (result_of d)) a e in
    error_says m d (error_of d) a t.0 refl t.1

-- ---- what is said is read

result_read : (m : Method) (d : Data) (a : Answer) → HasResult m d a → answer_from m (result_data a) ≡ Some a → reply_from m d ≡ Ok a
unfolding reply_from
result_read m d a h read =
    ap (λ b. cond b (by_error m (error_of d) (result_of d)) (Err NotAReply)) h.is_object ∙ ap (λ x. by_error m x (result_of d)) h.error ∙ ap (λ x. or_refused (answer_from m x)) h.value ∙ ap or_refused read

type_is_no_null : (e : Data) (kind : List ℕ) (m : Method) (result : Data) → type_of e ≡ Some kind → by_error m e result ≡ by_type (Some kind)
type_is_no_null null kind m result h = absurd cc
type_is_no_null (boolean b) kind m result h = ap by_type h
type_is_no_null (number n) kind m result h = ap by_type h
type_is_no_null (string s) kind m result h = ap by_type h
type_is_no_null (array ds) kind m result h = ap by_type h
type_is_no_null (object ms) kind m result h = ap by_type h

error_read : (m : Method) (d : Data) (kind : List ℕ) → HasError d kind → reply_from m d ≡ by_type (Some kind)
unfolding reply_from
error_read m d kind h = ap (λ b. cond b (by_error m (error_of d) (result_of d)) (Err NotAReply)) h.is_object ∙ type_is_no_null (error_of d) kind m (result_of d) h.kind_is

-- an answer that a result says
abbrev is_said : Answer → Bool
is_said Gone = false
is_said Failed = false
is_said a = true

answer_again : (m : Method) (a : Answer) → is_kind m a ≡ true → has_numbers a ≡ true → has_parts a ≡ true → is_said a ≡ true → answer_from m (result_data a) ≡ Some a
unfolding answer_from has_numbers has_parts result_data
answer_again methods.CreateVm (Cid n) k h p s = ap (option_map Cid) (cid_law.again n h)
answer_again methods.CreateDisk (Cid n) k h p s = ap (option_map Cid) (cid_law.again n h)
answer_again methods.HasVm Yes k h p s = refl
answer_again methods.HasVm No k h p s = refl
answer_again methods.HasDisk Yes k h p s = refl
answer_again methods.HasDisk No k h p s = refl
answer_again methods.FindVm (Found n) k h p s = ap (option_map Found) (found_law.again n h)
answer_again methods.FindDisk (Found n) k h p s = ap (option_map Found) (found_law.again n h)
answer_again methods.GetDisks (Disks ns) k h p s = ap (option_map Disks) (disks_law.again ns h)
answer_again methods.ListDisk (Disks ns) k h p s = ap (option_map Disks) (disks_law.again ns h)
answer_again methods.GetState (Facts spec running drained) k h p s = ap (option_map (λ p. Facts p.0 p.1 p.2)) (facts_law.again (spec, running, drained) (and_from (is_option is_spec spec && true) true (and_from (is_option is_spec spec) true p refl) refl))
answer_again methods.CompilePackage (Built x) k h p s = ap (option_map Built) ((digest_law 4).again x p)
answer_again methods.DeleteVm Done k h p s = refl
answer_again methods.DeleteDisk Done k h p s = refl
answer_again methods.AttachDisk Done k h p s = refl
answer_again methods.DetachDisk Done k h p s = refl
answer_again methods.Ping Done k h p s = refl
answer_again methods.Apply Done k h p s = refl
answer_again methods.Start Done k h p s = refl
answer_again methods.Drain Done k h p s = refl
answer_again methods.Stop Done k h p s = refl
answer_again methods.MountDisk Done k h p s = refl
answer_again methods.UnmountDisk Done k h p s = refl
answer_again methods.MigrateDisk Done k h p s = refl
answer_again m Gone k h p s = absurd cc
answer_again m Failed k h p s = absurd cc
answer_again m a k h p s = absurd cc

said_again : (m : Method) (d : Data) (a : Answer) → is_said a ≡ true → HasResult m d a → reply_from m d ≡ Ok a
said_again m d a said h =
    let fits = and_parts (has_numbers a) (has_parts a) h.fits in
    result_read m d a h (answer_again m a h.kind fits.0 fits.1 said)

reply_again : (m : Method) (d : Data) (a : Answer) → Says m d a → reply_from m d ≡ Ok a
reply_again m d Done h = said_again m d Done refl h
reply_again m d (Cid n) h = said_again m d (Cid n) refl h
reply_again m d (Found n) h = said_again m d (Found n) refl h
reply_again m d Yes h = said_again m d Yes refl h
reply_again m d No h = said_again m d No refl h
reply_again m d (Disks ns) h = said_again m d (Disks ns) refl h
reply_again m d (Facts spec running drained) h = said_again m d (Facts spec running drained) refl h
reply_again m d (Built x) h = said_again m d (Built x) refl h
reply_again m d Gone h = error_read m d (codes "Gone") h
reply_again m d Failed h = absurd h

-- ---- the laws

-- the value of a reply that was read
value_read : (m : Method) (o : Option Data) (r : Result Answer PortFault) → reply_of_value m o ≡ r → (r ≡ Err NotAReply → ⊥) → (d : Data) × (o ≡ Some d) × (reply_from m d ≡ r)
value_read m None r e clean = absurd (clean (sym e))
value_read m (Some d) r e clean = (d, refl, e)

ok_no : (a : Answer) → ◌≡◌ {A = Result Answer PortFault} (Ok a) (Err NotAReply) → ⊥
ok_no a e = cc

-- an answer that is read is one that the bytes say
pub answer_is_said : (m : Method) (bytes : List ℕ) (a : Answer) → reply_of m bytes ≡ Ok a → Replies m bytes a
unfolding reply_of
answer_is_said m bytes a e = let v = value_read m (json_of bytes) (Ok a) e (ok_no a) in (v.0, v.1, reply_says m v.0 a v.2)

-- an answer that the bytes say is read
pub said_is_read : (m : Method) (bytes : List ℕ) (a : Answer) → Replies m bytes a → reply_of m bytes ≡ Ok a
unfolding reply_of
said_is_read m bytes a h = ap (reply_of_value m) h.1 ∙ reply_again m h.0 a h.2

-- bytes say one answer
pub one_answer : (m : Method) (bytes : List ℕ) (a b : Answer) → Replies m bytes a → Replies m bytes b → a ≡ b
one_answer m bytes a b p q = ok_is a b (sym (said_is_read m bytes a p) ∙ said_is_read m bytes b q)

kind_is : (j k : List ℕ) → ◌≡◌ {A = Result Answer PortFault} (Err (Refused j)) (Err (Refused k)) → j ≡ k
kind_is j k e = cc

refused_test : (d : Data) (kind k : List ℕ) (b : Bool) → bytes_eq kind (codes "Gone") ≡ b → is_some (as_object d) ≡ true → type_of (error_of d) ≡ Some kind → cond b (Ok Gone) (Err (Refused kind)) ≡ Err (Refused k) → HasError d k × (k ≢ codes "Gone")
refused_test d kind k true is there said e = absurd cc
refused_test d kind k false is there said e =
    let same = kind_is kind k e in
    subst (λ (x : List ℕ). HasError d x × (x ≢ codes "Gone")) same (record { is_object = there; kind_is = said }, λ gone. let as_yes : bytes_eq kind (codes "Gone") ≡ true = (bytes_eq-Decides kind (codes "Gone")).1 gone in cc)

type_refuses : (d : Data) (k : List ℕ) (kind : Option (List ℕ)) → is_some (as_object d) ≡ true → type_of (error_of d) ≡ kind → by_type kind ≡ Err (Refused k) → HasError d k × (k ≢ codes "Gone")
type_refuses d k None there said e = absurd cc
type_refuses d k (Some kind) there said e = refused_test d kind k (bytes_eq kind (codes "Gone")) refl there said e

error_refuses : (m : Method) (d error : Data) (k : List ℕ) → is_some (as_object d) ≡ true → error_of d ≡ error → by_error m error (result_of d) ≡ Err (Refused k) → HasError d k × (k ≢ codes "Gone")
error_refuses m d null k there is e = absurd (or_refused_no (answer_from m (result_of d)) k e)
error_refuses m d (boolean b) k there is e = type_refuses d k (type_of (boolean b)) there (ap type_of is) e
error_refuses m d (number n) k there is e = type_refuses d k (type_of (number n)) there (ap type_of is) e
error_refuses m d (string s) k there is e = type_refuses d k (type_of (string s)) there (ap type_of is) e
error_refuses m d (array ds) k there is e = type_refuses d k (type_of (array ds)) there (ap type_of is) e
error_refuses m d (object ms) k there is e = type_refuses d k (type_of (object ms)) there (ap type_of is) e

refused_object : (b : Bool) (r : Result Answer PortFault) (k : List ℕ) → cond b r (Err NotAReply) ≡ Err (Refused k) → (b ≡ true) × (r ≡ Err (Refused k))
refused_object true r k e = (refl, e)
refused_object false r k e = absurd cc

from_refuses : (m : Method) (d : Data) (k : List ℕ) → reply_from m d ≡ Err (Refused k) → HasError d k × (k ≢ codes "Gone")
unfolding reply_from
from_refuses m d k e =
    let t = refused_object (is_some (as_object d)) (by_error m (error_of d) (result_of d)) k e in
    error_refuses m d (error_of d) k t.0 refl t.1

refused_no : (k : List ℕ) → ◌≡◌ {A = Result Answer PortFault} (Err (Refused k)) (Err NotAReply) → ⊥
refused_no k e = cc

-- a refusal that is read is one that the bytes say
pub refusal_is_said : (m : Method) (bytes k : List ℕ) → reply_of m bytes ≡ Err (Refused k) → Refuses bytes k
unfolding reply_of
refusal_is_said m bytes k e =
    let v = value_read m (json_of bytes) (Err (Refused k)) e (refused_no k) in
    let r = from_refuses m v.0 k v.2 in
    (v.0, v.1, r.0, r.1)

not_gone : (kind : List ℕ) (b : Bool) → bytes_eq kind (codes "Gone") ≡ b → (kind ≢ codes "Gone") → cond b (Ok Gone) (Err (Refused kind)) ≡ Err (Refused kind)
not_gone kind true is clean = absurd (clean ((bytes_eq-Decides kind (codes "Gone")).0 is))
not_gone kind false is clean = refl

-- a refusal that the bytes say is read
pub refused_is_read : (m : Method) (bytes k : List ℕ) → Refuses bytes k → reply_of m bytes ≡ Err (Refused k)
unfolding reply_of
refused_is_read m bytes k h = ap (reply_of_value m) h.1 ∙ error_read m h.0 k h.2 ∙ not_gone k (bytes_eq k (codes "Gone")) refl h.3

-- ---- what is written

result_plain : (a : Answer) → has_numbers a ≡ true → has_parts a ≡ true → IsPlain 4 (result_data a)
unfolding result_data has_numbers has_parts
result_plain (Cid n) h p = cid_law.plain n h
result_plain (Found n) h p = found_law.plain n h
result_plain (Disks ns) h p = disks_law.plain ns h
result_plain (Facts spec running drained) h p = facts_law.plain (spec, running, drained) (and_from (is_option is_spec spec && true) true (and_from (is_option is_spec spec) true p refl) refl)
result_plain (Built x) h p = (digest_law 4).plain x p
result_plain a h p = tt

error_plain : (a : Answer) → IsPlain 4 (error_data a)
unfolding error_data
error_plain Gone = (IsUtf8-are_ascii _ refl, tt, IsUtf8-are_ascii _ refl, tt)
error_plain a = tt

reply_plain : (a : Answer) → is_answer a ≡ true → IsPlain 5 (reply_data a)
unfolding reply_data
reply_plain a h =
    let fits = and_parts (has_numbers a) (has_parts a) h in (
      IsUtf8-are_ascii _ refl,
      (refl, (refl, tt)),
      error_plain a,
      (IsUtf8-are_ascii _ refl, (refl, tt), IsUtf8-are_ascii _ refl, (IsUtf8-are_ascii _ refl, tt, result_plain a fits.0 fits.1, tt)),
    )

reply_says_it : (m : Method) (a : Answer) → is_kind m a ≡ true → is_answer a ≡ true → Says m (reply_data a) a
unfolding reply_data error_data has_numbers
reply_says_it m Gone k h = record { is_object = refl; kind_is = refl }
reply_says_it m Failed k h = absurd cc
reply_says_it m Done k h = record { is_object = refl; error = refl; kind = k; fits = h; value = refl }
reply_says_it m (Cid n) k h = record { is_object = refl; error = refl; kind = k; fits = h; value = refl }
reply_says_it m (Found n) k h = record { is_object = refl; error = refl; kind = k; fits = h; value = refl }
reply_says_it m Yes k h = record { is_object = refl; error = refl; kind = k; fits = h; value = refl }
reply_says_it m No k h = record { is_object = refl; error = refl; kind = k; fits = h; value = refl }
reply_says_it m (Disks ns) k h = record { is_object = refl; error = refl; kind = k; fits = h; value = refl }
reply_says_it m (Facts s r x) k h = record { is_object = refl; error = refl; kind = k; fits = h; value = refl }
reply_says_it m (Built x) k h = record { is_object = refl; error = refl; kind = k; fits = h; value = refl }

-- what is replied is told
pub replied : (m : Method) (a : Answer) → is_kind m a ≡ true → is_answer a ≡ true → Replies m (reply_text a) a
replied m a k h = (reply_data a, json_of_plain 5 (reply_data a) (reply_plain a h) (omega arith), reply_says_it m a k h)

-- a reply is never that a spawner failed
pub reply_is_no_failure : (answer read : Result Answer PortFault) (before after : ℕ) → GivesReply answer read → FailsByCount answer before after
reply_is_no_failure (Ok answer) read before after h = tt
reply_is_no_failure (Err NotAReply) read before after h = tt
reply_is_no_failure (Err (Refused kind)) read before after h = tt
reply_is_no_failure (Err Memory) read before after h = tt
reply_is_no_failure (Err SpawnFault) read before after h = absurd h
reply_is_no_failure (Err TooLong) read before after h = absurd h

-- ---- what a function answers

pub reply_answers : (m : Method) (bytes : List ℕ) (answer : Result Answer PortFault) → GivesReply answer (reply_of m bytes) → IfOk answer (λ a. Replies m bytes a)
reply_answers m bytes (Ok a) h = answer_is_said m bytes a h
reply_answers m bytes (Err fault) h = tt

pub reply_refuses : (m : Method) (bytes : List ℕ) (answer : Result Answer PortFault) → GivesReply answer (reply_of m bytes) → (kind : List ℕ) → answer ≡ Err (Refused kind) → Refuses bytes kind
reply_refuses m bytes answer h kind e = refusal_is_said m bytes kind (subst (λ (x : Result Answer PortFault). GivesReply x (reply_of m bytes)) e h)

-- the bytes say nothing
pub reply_says_nothing : (m : Method) (bytes : List ℕ) (answer : Result Answer PortFault) → GivesReply answer (reply_of m bytes) → answer ≡ Err NotAReply → ((a : Answer) → Replies m bytes a → ⊥) × ((kind : List ℕ) → Refuses bytes kind → ⊥)
reply_says_nothing m bytes answer h e =
    let read : reply_of m bytes ≡ Err NotAReply = subst (λ (x : Result Answer PortFault). GivesReply x (reply_of m bytes)) e h in (
      λ a said. ok_no a (sym (said_is_read m bytes a said) ∙ read),
      λ kind refuses. refused_no kind (sym (refused_is_read m bytes kind refuses) ∙ read),
    )
