-- Requests are read as they were written, and the text determines the request.
use Rattle.std.proofs.Common.{◌≡◌, ◌≤◌, ℕ, zero, suc, Bool, true, false, ◌&&◌, cond, List, [], ◌∷◌, Option, Some, None, Result, Ok, Err, IfOk, codes, decimal, IsUtf8, refl, sym, ap, ap₂, subst, ◌∙◌, arith}
use Rattle.std.proofs.lemmas.Bool.{and_from, and_parts}
use Rattle.std.proofs.lemmas.Slice.Eq.{bytes_eq-Decides}
use Rattle.std.proofs.lemmas.Str.{is_utf8-from_IsUtf8}
use Rattle.std.specs.Str.{bytes_eq, is_utf8}
use Rattle.bosh_base.specs.Call.{method_of}
use Rattle.bosh_base.specs.Method.{name_of}
use Rattle.bosh_base.specs.Name.{is_name}
use Rattle.bosh_base.specs.declared.method.Method.{Method}
use Rattle.bosh_base.specs.declared.method.Method.TheVariants as methods
use Rattle.bosh_base.specs.declared.owner.Owner.{Owner}
use Rattle.json.proofs.Printed.Utf8.{IsUtf8-are_ascii}
use Rattle.serde_json.specs.Data.{Data, null, boolean, number, string, array, object, Members, no_members, member}
use Rattle.serde_json.specs.Find.{as_object, as_str}
use Rattle.serde_json.specs.Written.{compact_text}
use Rattle.cpi_wire.specs.Number.{is_number}
use Rattle.cpi_wire.specs.Reading.{◌>>=◌}
use Rattle.cpi_wire.specs.Text.{name_from, text_data}
use Rattle.cpi_wire.proofs.CodingLemmas.{bind_some, chosen, some_is, then_some}
use Rattle.cpi_wire.proofs.PlainLemmas.{IsPlain, plain_is_read, plain_is_utf8}
use Rattle.cpi_wire.proofs.ValueLemmas.{name_law}
use Rattle.cpi_proc.specs.Call.{arguments, call_from, is_call}
use Rattle.cpi_proc.specs.Decimal.{number_in}
use Rattle.cpi_proc.specs.Fault.{GivesRequest}
use Rattle.cpi_proc.specs.Json.{json_of}
use Rattle.cpi_proc.specs.Method.{method_data, method_from, named}
use Rattle.cpi_proc.specs.Object.{first_member, first_two, if_last, is_last}
use Rattle.cpi_proc.specs.Owner.{is_owner, owner_data, owner_from}
use Rattle.cpi_proc.specs.Request.{IsRequest, context, context_from, context_of, context_parts, director_from, id_data, id_from, is_director, is_request, request_data, request_from, request_of, request_of_parts, request_parts, wire}
use Rattle.cpi_proc.specs.declared.fault.PortFault.{PortFault}
use Rattle.cpi_proc.specs.declared.fault.PortFault.TheVariants.{NotAReply, Memory}
use Rattle.cpi_proc.specs.declared.request.Request.{Request}
use Rattle.cpi_proc.proofs.CallLemmas.{call_again, call_plain, call_taken, named_again, named_taken}
use Rattle.cpi_proc.proofs.DecimalLemmas.{number_again, number_taken}
use Rattle.cpi_proc.proofs.OwnerLemmas.{decimal_utf8, owner_again, owner_taken, owner_utf8}

-- ---- objects

pub in_object : (d : Data) (ms : Members) → as_object d ≡ Some ms → d ≡ object ms
in_object null ms e = absurd cc
in_object (boolean b) ms e = absurd cc
in_object (number n) ms e = absurd cc
in_object (string s) ms e = absurd cc
in_object (array ds) ms e = absurd cc
in_object (object xs) ms e = ap object (some_is xs ms e)

in_string : (d : Data) (s : List ℕ) → as_str d ≡ Some s → d ≡ string s
in_string null s e = absurd cc
in_string (boolean b) s e = absurd cc
in_string (number n) s e = absurd cc
in_string (string t) s e = ap string (some_is t s e)
in_string (array ds) s e = absurd cc
in_string (object xs) s e = absurd cc

first_taken : (key : List ℕ) (ms : Members) (p : Data × Members) → first_member key ms ≡ Some p → ms ≡ member key p.0 p.1
unfolding first_member
first_taken key no_members p e = absurd cc
first_taken key (member k d ms) p e =
    let parts = chosen (bytes_eq k key) (d, ms) p e in
    let same : k ≡ key = (bytes_eq-Decides k key).0 parts.0 in
    ap (λ (l : List ℕ). member l d ms) same ∙ ap (λ (q : Data × Members). member key q.0 q.1) parts.1

two_taken : (key next : List ℕ) (ms : Members) (p : Data × Data × Members) → first_two key next ms ≡ Some p → ms ≡ member key p.0 (member next p.1 p.2)
unfolding first_two
two_taken key next ms p e =
    let a = bind_some (first_member key ms) (λ a. first_member next a.1 >>= λ b. Some (a.0, b.0, b.1)) p e in
    let b = bind_some (first_member next a.0.1) (λ b. Some (a.0.0, b.0, b.1)) p a.2 in
    let same : (a.0.0, b.0.0, b.0.1) ≡ p = some_is (a.0.0, b.0.0, b.0.1) p b.2 in
    first_taken key ms a.0 a.1 ∙ ap (member key a.0.0) (first_taken next a.0.1 b.0 b.1) ∙ ap (λ (q : Data × Data × Members). member key q.0 (member next q.1 q.2)) same

last_taken : {A : Type 0} (ms : Members) (read a : A) → if_last ms read ≡ Some a → (ms ≡ no_members) × (read ≡ a)
last_taken no_members read a e = (refl, some_is read a e)
last_taken (member k d ms) read a e = absurd cc

-- ---- the parts of contexts and requests

context_shape : (d : Data) (p : Data × Data × Data × Data) → context_parts d ≡ Some p
    → d ≡ object (member (codes "deployment") p.0 (member (codes "director_uuid") p.1 (member (codes "owner") p.2 (member (codes "request_id") p.3 no_members))))
context_shape d p e =
    let after_two : (Data × Data × Members) → Option (Data × Data × Data × Data) = λ a. first_two (codes "owner") (codes "request_id") a.2 >>= λ q. if_last q.2 (a.0, a.1, q.0, q.1) in
    let ms = bind_some (as_object d) (λ ms. first_two (codes "deployment") (codes "director_uuid") ms >>= after_two) p e in
    let a = bind_some (first_two (codes "deployment") (codes "director_uuid") ms.0) after_two p ms.2 in
    let b = bind_some (first_two (codes "owner") (codes "request_id") a.0.2) (λ q. if_last q.2 (a.0.0, a.0.1, q.0, q.1)) p a.2 in
    let last = last_taken b.0.2 (a.0.0, a.0.1, b.0.0, b.0.1) p b.2 in
    let first = two_taken (codes "deployment") (codes "director_uuid") ms.0 a.0 a.1 in
    let second = two_taken (codes "owner") (codes "request_id") a.0.2 b.0 b.1 in
    in_object d ms.0 ms.1 ∙ ap object first ∙ ap (λ (xs : Members). object (member (codes "deployment") a.0.0 (member (codes "director_uuid") a.0.1 xs))) second
    ∙ ap (λ (xs : Members). object (member (codes "deployment") a.0.0 (member (codes "director_uuid") a.0.1 (member (codes "owner") b.0.0 (member (codes "request_id") b.0.1 xs))))) last.0
    ∙ ap (λ (q : Data × Data × Data × Data). object (member (codes "deployment") q.0 (member (codes "director_uuid") q.1 (member (codes "owner") q.2 (member (codes "request_id") q.3 no_members))))) last.1

request_shape : (d : Data) (p : Data × Data × Data) → request_parts d ≡ Some p → d ≡ object (member (codes "arguments") p.0 (member (codes "context") p.1 (member (codes "method") p.2 no_members)))
request_shape d p e =
    let after_two : (Data × Data × Members) → Option (Data × Data × Data) = λ a. first_member (codes "method") a.2 >>= λ m. if_last m.1 (a.0, a.1, m.0) in
    let ms = bind_some (as_object d) (λ ms. first_two (codes "arguments") (codes "context") ms >>= after_two) p e in
    let a = bind_some (first_two (codes "arguments") (codes "context") ms.0) after_two p ms.2 in
    let b = bind_some (first_member (codes "method") a.0.2) (λ m. if_last m.1 (a.0.0, a.0.1, m.0)) p a.2 in
    let last = last_taken b.0.1 (a.0.0, a.0.1, b.0.0) p b.2 in
    let first = two_taken (codes "arguments") (codes "context") ms.0 a.0 a.1 in
    let second = first_taken (codes "method") a.0.2 b.0 b.1 in
    in_object d ms.0 ms.1 ∙ ap object first ∙ ap (λ (xs : Members). object (member (codes "arguments") a.0.0 (member (codes "context") a.0.1 xs))) second
    ∙ ap (λ (xs : Members). object (member (codes "arguments") a.0.0 (member (codes "context") a.0.1 (member (codes "method") b.0.0 xs)))) last.0
    ∙ ap (λ (q : Data × Data × Data). object (member (codes "arguments") q.0 (member (codes "context") q.1 (member (codes "method") q.2 no_members)))) last.1

same_context : (a b c d a' b' c' d' : Data) → a ≡ a' → b ≡ b' → c ≡ c' → d ≡ d'
    → object (member (codes "deployment") a (member (codes "director_uuid") b (member (codes "owner") c (member (codes "request_id") d no_members))))
    ≡ object (member (codes "deployment") a' (member (codes "director_uuid") b' (member (codes "owner") c' (member (codes "request_id") d' no_members))))
same_context a b c d a' b' c' d' p q r s = rw (p, q, r, s) refl

same_request : (a b c a' b' c' : Data) → a ≡ a' → b ≡ b' → c ≡ c'
    → object (member (codes "arguments") a (member (codes "context") b (member (codes "method") c no_members)))
    ≡ object (member (codes "arguments") a' (member (codes "context") b' (member (codes "method") c' no_members)))
same_request a b c a' b' c' p q r = rw (p, q, r) refl

-- ---- what is read

id_taken : (d : Data) (n : ℕ) → id_from d ≡ Some n → (d ≡ id_data n) × (is_number n ≡ true)
id_taken d n e =
    let s = then_some number_in (as_str d) n e in
    let t = number_taken s.0 n s.2 in
    (in_string d s.0 s.1 ∙ ap string t.0, t.1)

owner_read : (d : Data) (o : Owner) → owner_from d ≡ Some o → (d ≡ owner_data o) × (is_owner o ≡ true)
owner_read d o e =
    let s = then_some _ (as_str d) o e in
    let t = owner_taken s.0 o s.2 in
    (in_string d s.0 s.1 ∙ ap string t.0, t.1)

director_taken : (d : Data) (s : List ℕ) → director_from d ≡ Some s → d ≡ string (codes "boshd")
director_taken d s e =
    let t = bind_some (as_str d) (λ t. cond (is_director t) (Some t) None) s e in
    let c = chosen (is_director t.0) t.0 s t.2 in
    in_string d t.0 t.1 ∙ ap string ((bytes_eq-Decides t.0 (codes "boshd")).0 c.0)

-- these are the parts of a context
record IsContext (d : Data) (c : ℕ × List ℕ × Owner) : Type 0 where
  image : d ≡ context c.1 c.2 c.0
  number : is_number c.0 ≡ true
  name : is_name c.1 ≡ true
  owner : is_owner c.2 ≡ true

context_taken : (d : Data) (c : ℕ × List ℕ × Owner) → context_from d ≡ Some c → IsContext d c
unfolding context_from context
context_taken d c e =
    let p = bind_some (context_parts d) context_of c e in
    let after_id : ℕ → Option (ℕ × List ℕ × Owner) = λ n. name_from p.0.0 >>= λ dep. owner_from p.0.2 >>= λ owner. Some (n, dep, owner) in
    let u = bind_some (director_from p.0.1) (λ u. id_from p.0.3 >>= after_id) c p.2 in
    let n = bind_some (id_from p.0.3) after_id c u.2 in
    let dep = bind_some (name_from p.0.0) (λ dep. owner_from p.0.2 >>= λ owner. Some (n.0, dep, owner)) c n.2 in
    let owner = bind_some (owner_from p.0.2) (λ owner. Some (n.0, dep.0, owner)) c dep.2 in
    let tu = director_taken p.0.1 u.0 u.1 in
    let tn = id_taken p.0.3 n.0 n.1 in
    let td = (name_law 0).takes p.0.0 dep.0 dep.1 in
    let to = owner_read p.0.2 owner.0 owner.1 in
    let same : (n.0, dep.0, owner.0) ≡ c = some_is (n.0, dep.0, owner.0) c owner.2 in
    let image : d ≡ context dep.0 owner.0 n.0 = context_shape d p.0 p.1 ∙ same_context p.0.0 p.0.1 p.0.2 p.0.3 _ _ _ _ td.0 tu to.0 tn.0 in
    subst (λ (x : ℕ × List ℕ × Owner). IsContext d x) same (record { image = image; number = tn.1; name = td.1; owner = to.1 })

method_taken : (d : Data) (m : Method) → method_from d ≡ Some m → d ≡ method_data m
method_taken d m e = let s = then_some named (as_str d) m e in in_string d s.0 s.1 ∙ ap string (named_taken s.0 m s.2)

request_taken : (d : Data) (r : Request) → request_from d ≡ Some r → (d ≡ request_data r) × IsRequest r
unfolding request_from request_data is_request
request_taken d r e =
    let p = bind_some (request_parts d) request_of_parts r e in
    let after_context : Method → (ℕ × List ℕ × Owner) → Option Request = λ m c. call_from m p.0.0 >>= λ call. Some (record { n = c.0; owner = c.2; dep = c.1; call = call }) in
    let m = bind_some (method_from p.0.2) (λ m. context_from p.0.1 >>= after_context m) r p.2 in
    let c = bind_some (context_from p.0.1) (after_context m.0) r m.2 in
    let call = bind_some (call_from m.0 p.0.0) (λ call. Some (record { n = c.0.0; owner = c.0.2; dep = c.0.1; call = call })) r c.2 in
    let tm = method_taken p.0.2 m.0 m.1 in
    let tc = context_taken p.0.1 c.0 c.1 in
    let ta = call_taken m.0 p.0.0 call.0 call.1 in
    let made : Request = record { n = c.0.0; owner = c.0.2; dep = c.0.1; call = call.0 } in
    let same : made ≡ r = some_is made r call.2 in
    let image : d ≡ request_data made = request_shape d p.0 p.1 ∙ same_request p.0.0 p.0.1 p.0.2 _ _ _ ta.image tc.image (tm ∙ ap method_data (sym ta.method)) in
    subst (λ (x : Request). (d ≡ request_data x) × IsRequest x) same (
      image,
      and_from (is_number c.0.0 && is_owner c.0.2 && is_name c.0.1) (is_call call.0) (and_from (is_number c.0.0 && is_owner c.0.2) (is_name c.0.1) (and_from (is_number c.0.0) (is_owner c.0.2) tc.number tc.owner) tc.name) ta.fits,
    )

-- ---- what is written

-- the tests of a request
record Fits (r : Request) : Type 0 where
  number : is_number r.n ≡ true
  owner : is_owner r.owner ≡ true
  name : is_name r.dep ≡ true
  call : is_call r.call ≡ true

fits_of : (r : Request) → IsRequest r → Fits r
unfolding is_request
fits_of r h =
    let a = and_parts (is_number r.n && is_owner r.owner && is_name r.dep) (is_call r.call) h in
    let b = and_parts (is_number r.n && is_owner r.owner) (is_name r.dep) a.0 in
    let c = and_parts (is_number r.n) (is_owner r.owner) b.0 in
    record { number = c.0; owner = c.1; name = b.1; call = a.1 }

context_again : (r : Request) → Fits r → context_from (context r.dep r.owner r.n) ≡ Some (r.n, r.dep, r.owner)
unfolding context_from context first_two first_member
context_again r h = rw (number_again r.n h.number, (name_law 0).again r.dep h.name, owner_again r.owner h.owner) refl

request_again : (r : Request) → IsRequest r → request_from (request_data r) ≡ Some r
unfolding request_from request_data first_two first_member
request_again r h =
    let fits = fits_of r h in
    rw (named_again (method_of r.call), context_again r fits, call_again r.call fits.call) refl

name_is_utf8 : (m : Method) → IsUtf8 (name_of m)
name_is_utf8 methods.CreateVm = IsUtf8-are_ascii _ refl
name_is_utf8 methods.DeleteVm = IsUtf8-are_ascii _ refl
name_is_utf8 methods.HasVm = IsUtf8-are_ascii _ refl
name_is_utf8 methods.FindVm = IsUtf8-are_ascii _ refl
name_is_utf8 methods.CreateDisk = IsUtf8-are_ascii _ refl
name_is_utf8 methods.DeleteDisk = IsUtf8-are_ascii _ refl
name_is_utf8 methods.HasDisk = IsUtf8-are_ascii _ refl
name_is_utf8 methods.FindDisk = IsUtf8-are_ascii _ refl
name_is_utf8 methods.AttachDisk = IsUtf8-are_ascii _ refl
name_is_utf8 methods.DetachDisk = IsUtf8-are_ascii _ refl
name_is_utf8 methods.GetDisks = IsUtf8-are_ascii _ refl
name_is_utf8 methods.Ping = IsUtf8-are_ascii _ refl
name_is_utf8 methods.GetState = IsUtf8-are_ascii _ refl
name_is_utf8 methods.Apply = IsUtf8-are_ascii _ refl
name_is_utf8 methods.Start = IsUtf8-are_ascii _ refl
name_is_utf8 methods.Drain = IsUtf8-are_ascii _ refl
name_is_utf8 methods.Stop = IsUtf8-are_ascii _ refl
name_is_utf8 methods.MountDisk = IsUtf8-are_ascii _ refl
name_is_utf8 methods.UnmountDisk = IsUtf8-are_ascii _ refl
name_is_utf8 methods.ListDisk = IsUtf8-are_ascii _ refl
name_is_utf8 methods.MigrateDisk = IsUtf8-are_ascii _ refl
name_is_utf8 methods.CompilePackage = IsUtf8-are_ascii _ refl

request_plain : (r : Request) → IsRequest r → IsPlain 5 (request_data r)
unfolding request_data context
request_plain r h =
    let fits = fits_of r h in (
      IsUtf8-are_ascii _ refl,
      (refl, (refl, tt)),
      call_plain r.call fits.call,
      (
        IsUtf8-are_ascii _ refl,
        (refl, tt),
        (
          IsUtf8-are_ascii _ refl,
          (refl, (refl, (refl, tt))),
          (name_law 3).plain r.dep fits.name,
          (
            IsUtf8-are_ascii _ refl,
            (refl, (refl, tt)),
            IsUtf8-are_ascii _ refl,
            (IsUtf8-are_ascii _ refl, (refl, tt), owner_utf8 r.owner fits.owner, (IsUtf8-are_ascii _ refl, tt, decimal_utf8 r.n fits.number, tt)),
          ),
        ),
        (IsUtf8-are_ascii _ refl, tt, name_is_utf8 (method_of r.call), tt),
      ),
    )

-- what is plain is read from its text
pub json_of_plain : (levels : ℕ) (d : Data) → IsPlain levels d → levels ≤ 127 → json_of (compact_text d) ≡ Some d
unfolding json_of
json_of_plain levels d h shallow = rw (is_utf8-from_IsUtf8 (compact_text d) (plain_is_utf8 levels d h)) (plain_is_read levels d h shallow)

pub json_of_wire : (r : Request) → IsRequest r → json_of (wire r) ≡ Some (request_data r)
json_of_wire r h = json_of_plain 5 (request_data r) (request_plain r h) (omega arith)

-- ---- the laws

-- what is written is read
pub written_is_read : (r : Request) → IsRequest r → request_of (wire r) ≡ Some r
unfolding request_of
written_is_read r h = ap (λ (o : Option Data). o >>= request_from) (json_of_wire r h) ∙ request_again r h

-- what has the value of the text of a request is read as it
pub value_is_read : (bytes : List ℕ) (r : Request) → IsRequest r → json_of bytes ≡ json_of (wire r) → request_of bytes ≡ Some r
unfolding request_of
value_is_read bytes r h e = ap (λ (o : Option Data). o >>= request_from) e ∙ written_is_read r h

-- what is read has the value of the text of its request
pub read_has_value : (bytes : List ℕ) (r : Request) → request_of bytes ≡ Some r → IsRequest r × (json_of bytes ≡ json_of (wire r))
unfolding request_of
read_has_value bytes r e =
    let d = bind_some (json_of bytes) request_from r e in
    let t = request_taken d.0 r d.2 in
    (t.1, d.1 ∙ ap Some t.0 ∙ sym (json_of_wire r t.1))

-- the text determines the request
pub one_request : (a b : Request) → IsRequest a → IsRequest b → wire a ≡ wire b → a ≡ b
one_request a b p q e = some_is a b (sym (written_is_read a p) ∙ ap request_of e ∙ written_is_read b q)

-- ---- what a function answers

pub request_found : (bytes : List ℕ) (answer : Result Request PortFault) → GivesRequest answer (request_of bytes) → IfOk answer (λ r. IsRequest r × (json_of bytes ≡ json_of (wire r)))
request_found bytes (Ok r) h = read_has_value bytes r h
request_found bytes (Err fault) h = tt

pub request_none : (bytes : List ℕ) (answer : Result Request PortFault) → GivesRequest answer (request_of bytes) → answer ≡ Err NotAReply → (r : Request) → IsRequest r → json_of bytes ≡ json_of (wire r) → ⊥
request_none bytes (Ok x) h e r fits same = cc
request_none bytes (Err NotAReply) h e r fits same = let read = value_is_read bytes r fits same in cc
request_none bytes (Err Memory) h e r fits same = cc
request_none bytes (Err fault) h e r fits same = cc
