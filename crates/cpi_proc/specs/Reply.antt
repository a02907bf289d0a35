-- The texts of replies of a program of a cloud provider interface (bosh.io, "CPI API v1": the keys `result`, `error` and `log`; the
-- error `Gone`, and the form of results, are this project's profile).
use Rattle.std.specs.Prelude.{◌≡◌, ◌≢◌, ℕ, ◌^◌, Bool, true, false, ◌&&◌, nat_lt, List, [], ◌++◌, Option, Some, None, Result, Ok, Err, option_and_then, option_map, codes, if◌then◌else◌}
use Rattle.std.specs.Option.{is_some}
use Rattle.std.specs.Str.{bytes_eq}
use Rattle.bosh_base.specs.Answer.{is_kind}
use Rattle.bosh_base.specs.declared.answer.Answer.{Answer}
use Rattle.bosh_base.specs.declared.answer.Answer.TheVariants.{Done, Cid, Found, Yes, No, Disks, Facts, Built, Gone, Failed}
use Rattle.bosh_base.specs.declared.method.Method.{Method}
use Rattle.bosh_base.specs.declared.method.Method.TheVariants as methods
use Rattle.json.specs.Print.{quoted}
use Rattle.serde_json.specs.Data.{Data, null, boolean, number, string, array, object, member, no_members}
use Rattle.serde_json.specs.Find.{as_object, as_str, get}
use Rattle.serde_json.specs.Written.{compact_text}
use Rattle.cpi_wire.specs.Choice.{flag_data, flag_from, is_option, option_data, option_from}
use Rattle.cpi_wire.specs.Fields.{three_data, three_from}
use Rattle.cpi_wire.specs.List.{is_list, list_data, list_from}
use Rattle.cpi_wire.specs.Number.{number_data, number_from}
use Rattle.cpi_wire.specs.Reading.{◌>>=◌, Reader, only}
use Rattle.cpi_wire.specs.Spec.{is_spec, spec_data, spec_from}
use Rattle.cpi_wire.specs.Text.{digest_data, digest_from, is_digest}
use Rattle.cpi_proc.specs.Json.{json_of}
use Rattle.cpi_proc.specs.Object.{value_at}
use Rattle.cpi_proc.specs.Request.{opened}
use Rattle.cpi_proc.specs.declared.fault.PortFault.{PortFault}
use Rattle.cpi_proc.specs.declared.fault.PortFault.TheVariants.{NotAReply, Refused, Memory}

-- an integer of a reply, below 2 to the 63rd
abbrev pub is_count : ℕ → Bool
is_count n = nat_lt n (2 ^ 63)

-- the number of what was created, which is not 0
abbrev pub is_cid : ℕ → Bool
is_cid n = nat_lt 0 n && is_count n

-- the numbers of an answer are in these bounds, and it is no failure
unfoldable pub has_numbers : Answer → Bool
has_numbers (Cid n) = is_cid n
has_numbers (Found found) = is_option is_count found
has_numbers (Disks disks) = is_list is_count disks
has_numbers Failed = false
has_numbers answer = true

-- the other parts of an answer are of their types
unfoldable pub has_parts : Answer → Bool
has_parts (Facts spec running drained) = is_option is_spec spec
has_parts (Built digest) = is_digest digest
has_parts answer = true

-- an answer that can be replied
abbrev pub is_answer : Answer → Bool
is_answer answer = has_numbers answer && has_parts answer

-- it can be replied to a call of this method
abbrev pub can_reply : Method → Answer → Bool
can_reply m answer = is_kind m answer && has_numbers answer

-- the result of an answer
unfoldable pub result_data : Answer → Data
result_data (Cid n) = number_data n
result_data (Found found) = option_data number_data found
result_data Yes = boolean true
result_data No = boolean false
result_data (Disks disks) = list_data number_data disks
result_data (Facts spec running drained) = three_data (option_data spec_data) flag_data flag_data spec running drained
result_data (Built digest) = digest_data digest
result_data answer = null

-- the error of an answer
unfoldable pub error_data : Answer → Data
error_data Gone = object (member (codes "type") (string (codes "Gone")) no_members)
error_data answer = null

-- a reply as JSON
unfoldable pub reply_data : Answer → Data
reply_data answer = object (member (codes "error") (error_data answer) (member (codes "log") (string []) (member (codes "result") (result_data answer) no_members)))

-- The text of a reply: compact JSON whose keys stand in the order of their bytes.
abbrev pub reply_text : Answer → List ℕ
reply_text answer = compact_text (reply_data answer)

-- ---- the text in parts

-- the front of a reply, up to its error
abbrev pub reply_front : Answer → List ℕ
reply_front answer = opened (codes "{") (codes "error") ++ compact_text (error_data answer)

-- the log, which is empty
unfoldable pub no_log : List ℕ
no_log = quoted []

-- the middle of a reply, up to the colon of the result
abbrev pub reply_middle : List ℕ
reply_middle = opened (codes ",") (codes "log") ++ (no_log ++ opened (codes ",") (codes "result"))

-- ---- what replies say

-- the error of a reply, null where it is absent
abbrev pub error_of : Data → Data
error_of d = value_at (codes "error") d

-- the result of a reply, null where it is absent
abbrev pub result_of : Data → Data
result_of d = value_at (codes "result") d

-- the text at `type` of an error
abbrev pub type_of : Data → Option (List ℕ)
type_of e = option_and_then as_str (get (codes "type") e)

-- an object without an error, whose result is that of an answer of the method's kind
pub record HasResult (m : Method) (d : Data) (answer : Answer) : Type 0 where
  pub is_object : is_some (as_object d) ≡ true
  pub error : error_of d ≡ null
  pub kind : is_kind m answer ≡ true
  pub fits : is_answer answer ≡ true
  pub value : result_of d ≡ result_data answer

-- an object with an error of this type
pub record HasError (d : Data) (kind : List ℕ) : Type 0 where
  pub is_object : is_some (as_object d) ≡ true
  pub kind_is : type_of (error_of d) ≡ Some kind

-- a reply says an answer: the error `Gone` that what the call names is gone, and without an error the result the answer
abbrev pub Says : Method → Data → Answer → Type 0
Says m d Gone = HasError d (codes "Gone")
Says m d Failed = ⊥
Says m d answer = HasResult m d answer

-- the bytes are a reply to a call of a method that says this answer
abbrev pub Replies : Method → List ℕ → Answer → Type 0
Replies m bytes answer = (d : Data) × (json_of bytes ≡ Some d) × Says m d answer

-- the bytes are a reply that refuses, with an error of this type
abbrev pub Refuses : List ℕ → List ℕ → Type 0
Refuses bytes kind = (d : Data) × (json_of bytes ≡ Some d) × HasError d kind × (kind ≢ codes "Gone")

-- ---- reading

abbrev pub yes_or_no : Bool → Answer
yes_or_no true = Yes
yes_or_no false = No

abbrev pub done_from : Reader Answer
done_from null = Some Done
done_from d = None

abbrev pub cid_from : Reader Answer
cid_from d = option_map Cid (only is_cid (number_from d))

abbrev pub flag_answer_from : Reader Answer
flag_answer_from d = option_map yes_or_no (flag_from d)

abbrev pub found_from : Reader Answer
found_from d = option_map Found (only (is_option is_count) (option_from number_from d))

abbrev pub disks_from : Reader Answer
disks_from d = option_map Disks (only (is_list is_count) (list_from number_from d))

abbrev pub facts_from : Reader Answer
facts_from d = option_map (λ p. Facts p.0 p.1 p.2) (three_from (option_from spec_from) flag_from flag_from d)

abbrev pub built_from : Reader Answer
built_from d = option_map Built (digest_from d)

-- the answer of a result
unfoldable pub answer_from : Method → Reader Answer
answer_from methods.CreateVm d = cid_from d
answer_from methods.DeleteVm d = done_from d
answer_from methods.HasVm d = flag_answer_from d
answer_from methods.FindVm d = found_from d
answer_from methods.CreateDisk d = cid_from d
answer_from methods.DeleteDisk d = done_from d
answer_from methods.HasDisk d = flag_answer_from d
answer_from methods.FindDisk d = found_from d
answer_from methods.AttachDisk d = done_from d
answer_from methods.DetachDisk d = done_from d
answer_from methods.GetDisks d = disks_from d
answer_from methods.Ping d = done_from d
answer_from methods.GetState d = facts_from d
answer_from methods.Apply d = done_from d
answer_from methods.Start d = done_from d
answer_from methods.Drain d = done_from d
answer_from methods.Stop d = done_from d
answer_from methods.MountDisk d = done_from d
answer_from methods.UnmountDisk d = done_from d
answer_from methods.ListDisk d = disks_from d
answer_from methods.MigrateDisk d = done_from d
answer_from methods.CompilePackage d = built_from d

-- what was read, or that it is no reply
abbrev pub or_refused : {A : Type 0} → Option A → Result A PortFault
or_refused (Some a) = Ok a
or_refused None = Err NotAReply

-- what an error of a type says
abbrev pub by_type : Option (List ℕ) → Result Answer PortFault
by_type None = Err NotAReply
by_type (Some kind) = if bytes_eq kind (codes "Gone") then Ok Gone else Err (Refused kind)

-- what an error says, and without one the result
abbrev pub by_error : Method → Data → Data → Result Answer PortFault
by_error m null result = or_refused (answer_from m result)
by_error m (boolean b) result = by_type (type_of (boolean b))
by_error m (number n) result = by_type (type_of (number n))
by_error m (string s) result = by_type (type_of (string s))
by_error m (array ds) result = by_type (type_of (array ds))
by_error m (object ms) result = by_type (type_of (object ms))

-- what a JSON value says as a reply
unfoldable pub reply_from : Method → Data → Result Answer PortFault
reply_from m d = if is_some (as_object d) then by_error m (error_of d) (result_of d) else Err NotAReply

-- what a text says as a reply
abbrev pub reply_of_value : Method → Option Data → Result Answer PortFault
reply_of_value m None = Err NotAReply
reply_of_value m (Some d) = reply_from m d

unfoldable pub reply_of : Method → List ℕ → Result Answer PortFault
reply_of m bytes = reply_of_value m (json_of bytes)

-- what a function answers is what was read, unless memory ran out
abbrev pub GivesReply : Result Answer PortFault → Result Answer PortFault → Type 0
GivesReply (Ok answer) read = read ≡ Ok answer
GivesReply (Err NotAReply) read = read ≡ Err NotAReply
GivesReply (Err (Refused kind)) read = read ≡ Err (Refused kind)
GivesReply (Err Memory) read = Unit {0}
GivesReply (Err fault) read = ⊥
