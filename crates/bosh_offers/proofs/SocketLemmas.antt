-- How tables of links grow.
use Rattle.std.proofs.Common.{◌≡◌, ◌∙◌, ℕ, Bool, true, false, ◌&&◌, List, ◌∷◌, Option, Some, cond, ap, refl}
use Rattle.std.specs.BTreeMap.{BTreeMap, UpdatesBy, get_by}
use Rattle.std.specs.Cmp.Lexicographic.{slice_cmp}
use Rattle.std.specs.Option.{option_copied}
use Rattle.std.specs.Ordering.{is_eq, nat_cmp, ordering_then}
use Rattle.std.specs.declared.cmp.Ordering.{Ordering}
use Rattle.std.specs.declared.cmp.Ordering.TheVariants.{Less, Equal, Greater}
use Rattle.std.proofs.lemmas.Map.Text.{is_eq-slice_cmp}
use denote.Ref.{Bor}
use Rattle.bosh_base.specs.declared.link.Joint.{Joint}
use Rattle.bosh_offers.specs.declared.socket.Socket.{Socket}
use Rattle.bosh_offers.specs.Tied.{AreBySocket, Stands, same_link, socket_cmp}

-- the order of keys
abbrev pub key_cmp : Socket → Socket → Ordering
key_cmp one other =
    ordering_then (slice_cmp nat_cmp one.dep.now other.dep.now)
    (ordering_then (slice_cmp nat_cmp one.group.now other.group.now)
    (ordering_then (slice_cmp nat_cmp one.job.now other.job.now)
    (ordering_then (slice_cmp nat_cmp one.link.now other.link.now) (slice_cmp nat_cmp one.kind.now other.kind.now))))

is_eq-then : (a b : Ordering) → is_eq (ordering_then a b) ≡ (is_eq a && is_eq b)
is_eq-then Less b = refl
is_eq-then Equal b = refl
is_eq-then Greater b = refl

chain :
    (a b c d e : Ordering)
    → is_eq (ordering_then a (ordering_then b (ordering_then c (ordering_then d e))))
    ≡ (is_eq a && (is_eq b && (is_eq c && (is_eq d && is_eq e))))
chain a b c d e =
    is_eq-then a (ordering_then b (ordering_then c (ordering_then d e)))
    ∙ ap (λ (t : Bool). is_eq a && t)
    (is_eq-then b (ordering_then c (ordering_then d e))
    ∙ ap (λ (t : Bool). is_eq b && t) (is_eq-then c (ordering_then d e) ∙ ap (λ (t : Bool). is_eq c && t) (is_eq-then d e)))

abbrev at : List ℕ → Bor (List ℕ)
at bytes = record { ref_ptr = (0, 0); now = bytes }

-- the key of a link of a type
abbrev key_at : Joint → List ℕ → Socket
key_at joint kind =
    record { dep = at joint.dep; group = at joint.group; job = at joint.job; link = at joint.link; kind = at kind }

-- how the parts of a key stand to those of a link
abbrev parts_cmp : (dep group job link kind : List ℕ) → Socket → Ordering
parts_cmp dep group job link kind other =
    ordering_then (slice_cmp nat_cmp dep other.dep.now)
    (ordering_then (slice_cmp nat_cmp group other.group.now)
    (ordering_then (slice_cmp nat_cmp job other.job.now)
    (ordering_then (slice_cmp nat_cmp link other.link.now) (slice_cmp nat_cmp kind other.kind.now))))

same_cmp : (socket : Socket) (joint : Joint) (kind : List ℕ) → Stands joint kind socket → key_cmp socket ≡ socket_cmp joint kind
same_cmp socket joint kind s = λ i. parts_cmp (s.dep i) (s.group i) (s.job i) (s.link i) (s.kind i)

parts_eq :
    (one other : Joint) (kind other_kind : List ℕ)
    → (is_eq (slice_cmp nat_cmp one.dep other.dep)
    && (is_eq (slice_cmp nat_cmp one.group other.group)
    && (is_eq (slice_cmp nat_cmp one.job other.job)
    && (is_eq (slice_cmp nat_cmp one.link other.link) && is_eq (slice_cmp nat_cmp kind other_kind)))))
    ≡ same_link other other_kind one kind
parts_eq one other kind other_kind = λ i.
    is_eq-slice_cmp one.dep other.dep i
    && (is_eq-slice_cmp one.group other.group i
    && (is_eq-slice_cmp one.job other.job i
    && (is_eq-slice_cmp one.link other.link i && is_eq-slice_cmp kind other_kind i)))

is_eq-key :
    (socket : Socket) (one other : Joint) (kind other_kind : List ℕ) → Stands one kind socket
    → is_eq (key_cmp socket (key_at other other_kind)) ≡ same_link other other_kind one kind
is_eq-key socket one other kind other_kind s =
    ap (λ (cmp : Socket → Ordering). is_eq (cmp (key_at other other_kind))) (same_cmp socket one kind s)
    ∙ (chain (slice_cmp nat_cmp one.dep other.dep) (slice_cmp nat_cmp one.group other.group) (slice_cmp nat_cmp one.job other.job)
    (slice_cmp nat_cmp one.link other.link) (slice_cmp nat_cmp kind other_kind)
    ∙ parts_eq one other kind other_kind)

copied-cond : {A : Type 0} (b : Bool) (a : Bor A) (other : Option (Bor A)) → option_copied {T = A} (cond b (Some a) other) ≡ cond b (Some a.now) (option_copied {T = A} other)
copied-cond true a other = refl
copied-cond false a other = refl

-- a thing is put before the others
pub by_socket-put :
    {A : Type 0} (joint_of : A → Joint) (kind_of : A → List ℕ) (all : List A) (thing : Bor A) (socket : Socket)
    (old new : BTreeMap Socket (Bor A))
    → Stands (joint_of thing.now) (kind_of thing.now) socket
    → UpdatesBy key_cmp (key_cmp socket) old new (Some thing)
    → AreBySocket joint_of kind_of all old → AreBySocket joint_of kind_of (thing.now ∷ all) new
by_socket-put {A = A} joint_of kind_of all thing socket old new stands updates before = λ joint kind.
    let found = get_by (socket_cmp joint kind) old in
    let same = same_link joint kind (joint_of thing.now) (kind_of thing.now) in
    ap (λ (o : Option (Bor A)). option_copied {T = A} o) (updates.0 (key_at joint kind))
    ∙ (ap (λ (b : Bool). option_copied {T = A} (cond b (Some thing) found)) (is_eq-key socket (joint_of thing.now) joint (kind_of thing.now) kind stands)
    ∙ (copied-cond same thing found ∙ ap (λ (o : Option A). cond same (Some thing.now) o) (before joint kind)))

-- what is found by a key is found by the parts of the link
pub same_found :
    {V : Type 0} (socket : Socket) (joint : Joint) (kind : List ℕ) (table : BTreeMap Socket V) → Stands joint kind socket
    → get_by (key_cmp socket) table ≡ get_by (socket_cmp joint kind) table
same_found {V = V} socket joint kind table s = ap (λ (cmp : Socket → Ordering). get_by cmp table) (same_cmp socket joint kind s)
