-- The text of a request to a program of a cloud provider interface (bosh.io, "CPI API v1": the keys `method`, `arguments`, `context`,
-- `director_uuid` and `request_id`; the keys `deployment` and `owner` of the context, and the form of the arguments, are this
-- project's profile).
use Rattle.std.specs.Prelude.{◌≡◌, ℕ, Bool, true, ◌&&◌, List, [], ◌∷◌, ◌++◌, Option, Some, None, option_and_then, codes, decimal, if◌then◌else◌}
use Rattle.std.specs.Str.{bytes_eq}
use Rattle.bosh_base.specs.Call.{method_of}
use Rattle.bosh_base.specs.Method.{name_of}
use Rattle.bosh_base.specs.Name.{is_name}
use Rattle.bosh_base.specs.declared.call.Call.{Call}
use Rattle.bosh_base.specs.declared.method.Method.{Method}
use Rattle.bosh_base.specs.declared.owner.Owner.{Owner}
use Rattle.json.specs.Print.{quoted}
use Rattle.serde_json.specs.Data.{Data, string, object, member, no_members}
use Rattle.serde_json.specs.Find.{as_object, as_str}
use Rattle.serde_json.specs.Written.{compact_text}
use Rattle.cpi_wire.specs.Number.{is_number}
use Rattle.cpi_wire.specs.Reading.{◌>>=◌, Reader}
use Rattle.cpi_wire.specs.Text.{name_from, text_data}
use Rattle.cpi_proc.specs.Call.{arguments, call_from, is_call}
use Rattle.cpi_proc.specs.Decimal.{number_in}
use Rattle.cpi_proc.specs.Json.{json_of}
use Rattle.cpi_proc.specs.Method.{method_data, method_from}
use Rattle.cpi_proc.specs.Object.{first_member, first_two, if_last}
use Rattle.cpi_proc.specs.Owner.{is_owner, owner_data, owner_from}
use Rattle.cpi_proc.specs.declared.request.Request.{Request}

-- the number of a request, in decimal
abbrev pub id_data : ℕ → Data
id_data n = string (decimal n)

-- whom a call is for, who asks, and its number
unfoldable pub context : List ℕ → Owner → ℕ → Data
context dep owner n =
    object
    (member (codes "deployment") (text_data dep)
    (member (codes "director_uuid") (string (codes "boshd")) (member (codes "owner") (owner_data owner) (member (codes "request_id") (id_data n) no_members))))

-- a request as JSON
unfoldable pub request_data : Request → Data
request_data r =
    object
    (member (codes "arguments") (arguments r.call)
    (member (codes "context") (context r.dep r.owner r.n) (member (codes "method") (method_data (method_of r.call)) no_members)))

-- The text of a request: compact JSON whose keys stand in the order of their bytes.
abbrev pub wire : Request → List ℕ
wire r = compact_text (request_data r)

-- each part of a request is one of its type
unfoldable pub is_request : Request → Bool
is_request r = is_number r.n && is_owner r.owner && is_name r.dep && is_call r.call

abbrev pub IsRequest : Request → Type 0
IsRequest r = is_request r ≡ true

-- ---- the text in parts

-- a sign, and the key of a member with its colon
unfoldable pub opened : List ℕ → List ℕ → List ℕ
opened sign key = sign ++ (quoted key ++ 58 ∷ [])

-- the name of the director
unfoldable pub director : List ℕ
director = quoted (codes "boshd")

-- the front of a context, up to the value of `director_uuid`
abbrev pub context_front : List ℕ → List ℕ
context_front dep = opened (codes "{") (codes "deployment") ++ (compact_text (text_data dep) ++ (opened (codes ",") (codes "director_uuid") ++ director))

-- the rest of it
abbrev pub context_back : Owner → ℕ → List ℕ
context_back owner n = opened (codes ",") (codes "owner") ++ (compact_text (owner_data owner) ++ (opened (codes ",") (codes "request_id") ++ (compact_text (id_data n) ++ codes "}")))

-- the front of a request, up to its arguments
abbrev pub request_front : Call → List ℕ
request_front call = opened (codes "{") (codes "arguments") ++ compact_text (arguments call)

-- the end of a request, from the key of its method on
abbrev pub request_back : Method → List ℕ
request_back m = opened (codes ",") (codes "method") ++ (quoted (name_of m) ++ codes "}")

-- ---- reading

-- the values of `arguments`, `context` and `method`, where these are all keys
abbrev pub request_parts : Data → Option (Data × Data × Data)
request_parts d =
    as_object d >>= λ ms. first_two (codes "arguments") (codes "context") ms >>= λ p. first_member (codes "method") p.2 >>= λ m. if_last m.1 (p.0, p.1, m.0)

-- the values of `deployment`, `director_uuid`, `owner` and `request_id`, where these are all keys
abbrev pub context_parts : Data → Option (Data × Data × Data × Data)
context_parts d =
    as_object d >>= λ ms. first_two (codes "deployment") (codes "director_uuid") ms >>= λ p. first_two (codes "owner") (codes "request_id") p.2 >>= λ q. if_last q.2 (p.0, p.1, q.0, q.1)

-- the number of a request
abbrev pub id_from : Reader ℕ
id_from d = option_and_then number_in (as_str d)

-- who asks: this director
abbrev pub is_director : List ℕ → Bool
is_director s = bytes_eq s (codes "boshd")

abbrev pub director_from : Reader (List ℕ)
director_from d = as_str d >>= λ s. if is_director s then Some s else None

-- the number, the deployment and the owner
abbrev pub context_of : Data × Data × Data × Data → Option (ℕ × List ℕ × Owner)
context_of p = director_from p.1 >>= λ u. id_from p.3 >>= λ n. name_from p.0 >>= λ dep. owner_from p.2 >>= λ owner. Some (n, dep, owner)

unfoldable pub context_from : Reader (ℕ × List ℕ × Owner)
context_from d = context_parts d >>= context_of

abbrev pub request_of_parts : Data × Data × Data → Option Request
request_of_parts p =
    method_from p.2 >>= λ m. context_from p.1 >>= λ c. call_from m p.0 >>= λ call. Some (record { n = c.0; owner = c.2; dep = c.1; call = call })

-- the request that a JSON value stands for
unfoldable pub request_from : Reader Request
request_from d = request_parts d >>= request_of_parts

-- the request of a text
unfoldable pub request_of : List ℕ → Option Request
request_of text = json_of text >>= request_from
