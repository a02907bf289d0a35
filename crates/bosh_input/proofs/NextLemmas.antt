-- The next command of an input, of the parts that were read for it.
use Rattle.std.proofs.Common.{◌≡◌, ◌≢◌, ◌⊎◌, inl, inr, ℕ, ◌+◌, Bool, true, false, ◌||◌, List, [], ◌∷◌, drop, Option, Result, refl, sym, ap, ◌∙◌, subst}
use Rattle.std.specs.Bool.{MatchBool}
use Rattle.std.proofs.Math.Bool.{and-false, or-true}
use Rattle.std.proofs.lemmas.Bool.{or_left}
use Rattle.bosh_lines.specs.declared.command.Command.{Command}
use Rattle.bosh_line_words.specs.declared.fault.LineFault.{LineFault}
use Rattle.bosh_input.specs.Commands.{asked_in, block_ends, block_of, commands, commands_of, has_block, is_settled, keeps_file, request_of}
use Rattle.bosh_input.specs.Lines.{has_end, is_no_command, lines}
use Rattle.bosh_input.specs.Reading.{BeginsCommand, Front, HasBegun, InputView, IsAtCommand, IsBlock, IsBlockOf, IsCommandAt, IsCommandLine, IsEvent, IsFrontOf, IsLine, IsNext, IsNoneBetween, IsOpenBlock, IsOpenLine, NoneSettled, Reads, StopsWhere, part}
use Rattle.bosh_input.specs.declared.fault.InputFault.{InputFault}
use Rattle.bosh_input.specs.declared.fault.InputFault.TheVariants.{Source, Limit, Memory}
use Rattle.bosh_input.specs.declared.request.Request.{Request}
use Rattle.bosh_input.proofs.CommandLemmas.{first_command, has_command, open_command}
use Rattle.bosh_input.proofs.FrontLemmas.{front_as_whole, front_before, front_so_far, stops_not_ended}

-- a command without a block is settled with its line
settled_line : (whole : Bool) (line : List ℕ) (more : List (List ℕ)) → has_block line ≡ false → (whole ≡ true) ⊎ (has_end line ≡ true) → (whole || is_settled line more) ≡ true
settled_line whole line more none (inl is) = or_left whole (is_settled line more) is
settled_line whole line more none (inr is) = rw is (rw none (or-true whole))

-- .. and with its block where it has one
settled_block : (whole : Bool) (line : List ℕ) (more : List (List ℕ)) → has_block line ≡ true → (whole ≡ true) ⊎ (has_end line ≡ true) → (whole || block_ends more) ≡ true → (whole || is_settled line more) ≡ true
settled_block whole line more some (inl is) ends = or_left whole (is_settled line more) is
settled_block whole line more some (inr is) ends = rw is (rw some ends)

request_plain : (line : List ℕ) (more : List (List ℕ)) → has_block line ≡ false → request_of line more ≡ record { asked = asked_in line; block = [] }
request_plain line more none = rw none refl

request_block : (line : List ℕ) (more : List (List ℕ)) → has_block line ≡ true → request_of line more ≡ record { asked = asked_in line; block = block_of more }
request_block line more some = rw some refl

-- the first command of lines, and those after it
pub next_of : (whole : Bool) (line : List ℕ) (more : List (List ℕ)) (block : List ℕ) (after : List Request) → is_no_command line ≡ false → (whole ≡ true) ⊎ (has_end line ≡ true) → (flag : Bool) → has_block line ≡ flag → MatchBool flag ((block_of more ≡ block) × (commands_of whole true more ≡ after) × ((whole || block_ends more) ≡ true)) ((block ≡ []) × (commands_of whole false more ≡ after)) → commands_of whole false (line ∷ more) ≡ record { asked = asked_in line; block = block } ∷ after
next_of whole line more block after is ended true some (text, rest, ends) =
    first_command whole line more is (settled_block whole line more some ended ends)
    ∙ ap (λ (r : Request). r ∷ commands_of whole (has_block line) more) (request_block line more some)
    ∙ ap (λ (b : Bool). record { asked = asked_in line; block = block_of more } ∷ commands_of whole b more) some
    ∙ ap (λ (bs : List ℕ). record { asked = asked_in line; block = bs } ∷ commands_of whole true more) text
    ∙ ap (λ (rs : List Request). record { asked = asked_in line; block = block } ∷ rs) rest
next_of whole line more block after is ended false none (text, rest) =
    first_command whole line more is (settled_line whole line more none ended)
    ∙ ap (λ (r : Request). r ∷ commands_of whole (has_block line) more) (request_plain line more none)
    ∙ ap (λ (b : Bool). record { asked = asked_in line; block = [] } ∷ commands_of whole b more) none
    ∙ ap (λ (bs : List ℕ). record { asked = asked_in line; block = bs } ∷ commands_of whole false more) (sym text)
    ∙ ap (λ (rs : List Request). record { asked = asked_in line; block = block } ∷ rs) rest

begins_line : (front : Front) (input : List ℕ) (at : ℕ) (line : List ℕ) (more : List (List ℕ)) → IsFrontOf front true input → IsCommandAt front at → lines (drop at input) ≡ line ∷ more → is_no_command line ≡ false
begins_line front input at line more may begins cut = subst BeginsCommand cut (begins input may)

block_facts : (front : Front) (from to : ℕ) (block : List ℕ) (whole : Bool) (input : List ℕ) → IsFrontOf front whole input → (flag : Bool) → MatchBool flag (IsBlock front from to block) ((block ≡ []) × (from ≡ to)) → MatchBool flag ((block_of (lines (drop from input)) ≡ block) × (commands_of whole true (lines (drop from input)) ≡ commands whole (drop to input)) × ((whole || block_ends (lines (drop from input))) ≡ true)) ((block ≡ []) × (commands_of whole false (lines (drop from input)) ≡ commands whole (drop to input)))
block_facts front from to block whole input may true is = (is.text whole input may, is.after whole input may, is.ends whole input may)
block_facts front from to block whole input may false (none, same) = (none, ap (λ (n : ℕ). commands whole (drop n input)) same)

-- a line has ended, or the input has
closed : (front : Front) (at end : ℕ) (whole : Bool) (input : List ℕ) → IsLine front at end → IsFrontOf front whole input → (ended : Bool) → front.is_ended ≡ ended → (whole ≡ true) ⊎ (has_end (part front at end) ≡ true)
closed front at end whole input line may true is = inl (may.ended is).0
closed front at end whole input line may false is = inr (line.has_ended is)

not_settled : (line : List ℕ) (more : List (List ℕ)) → has_end line ≡ false → is_settled line more ≡ false
not_settled line more is = rw is refl

block_not_settled : (line : List ℕ) (more : List (List ℕ)) → has_block line ≡ true → block_ends more ≡ false → is_settled line more ≡ false
block_not_settled line more some open_yet = rw some (rw open_yet (and-false (has_end line)))

-- the next command of an input, from what was passed by, its line and its block
pub next_command : (first second third : Front) (from at end after : ℕ) (asked : Result Command LineFault) (block : List ℕ) → ((whole : Bool) (input : List ℕ) → IsFrontOf third whole input → IsFrontOf second whole input) → ((whole : Bool) (input : List ℕ) → IsFrontOf second whole input → IsFrontOf first whole input) → IsNoneBetween first from at → IsCommandAt first at → IsLine second at end → asked ≡ asked_in (part second at end) → IsBlockOf asked third end after block → (ended : Bool) → second.is_ended ≡ ended → (whole : Bool) (input : List ℕ) → IsFrontOf third whole input → commands whole (drop from input) ≡ record { asked = asked; block = block } ∷ commands whole (drop after input)
next_command first second third from at end after asked block to_second to_first none begins line asks is_block ended is_ended whole input may =
    let in_second = to_second whole input may in
    let in_first = to_first whole input in_second in
    let cut = line.cut whole input in_second in
    let is : is_no_command (part second at end) ≡ false = begins_line first input at (part second at end) (lines (drop end input)) (front_as_whole first whole input in_first) begins cut in
    let flag : has_block (part second at end) ≡ keeps_file asked = ap keeps_file (sym asks) in
    let closes : (whole ≡ true) ⊎ (has_end (part second at end) ≡ true) = closed second at end whole input line in_second ended is_ended in
    none whole input in_first
    ∙ ap (commands_of whole false) cut
    ∙ next_of whole (part second at end) (lines (drop end input)) block (commands whole (drop after input)) is closes (keeps_file asked) flag (block_facts third end after block whole input may (keeps_file asked) is_block)
    ∙ ap (λ (a : Result Command LineFault). record { asked = a; block = block } ∷ commands whole (drop after input)) (sym asks)

-- no command is settled where its line has not ended
pub open_line_next : (first second : Front) (from at : ℕ) → ((whole : Bool) (input : List ℕ) → IsFrontOf second whole input → IsFrontOf first whole input) → IsNoneBetween first from at → IsCommandAt first at → second.is_ended ≡ false → IsOpenLine (drop at second.bytes) → NoneSettled second from
open_line_next first second from at to_first none begins going line =
    let may = to_first false second.bytes (front_so_far second going) in
    let is : is_no_command (drop at second.bytes) ≡ false = begins_line first second.bytes at (drop at second.bytes) [] (front_as_whole first false second.bytes may) begins line.one in
    none false second.bytes may ∙ ap (commands_of false false) line.one
    ∙ open_command (drop at second.bytes) [] is (not_settled (drop at second.bytes) [] line.no_end)

-- .. nor where its block has not ended
pub open_block_next : (first second third : Front) (from at end : ℕ) (asked : Result Command LineFault) → ((whole : Bool) (input : List ℕ) → IsFrontOf third whole input → IsFrontOf second whole input) → ((whole : Bool) (input : List ℕ) → IsFrontOf second whole input → IsFrontOf first whole input) → IsNoneBetween first from at → IsCommandAt first at → IsLine second at end → asked ≡ asked_in (part second at end) → third.is_ended ≡ false → IsOpenBlock asked third end → NoneSettled third from
open_block_next first second third from at end asked to_second to_first none begins line asks going (some, open_yet) =
    let in_second = to_second false third.bytes (front_so_far third going) in
    let in_first = to_first false third.bytes in_second in
    let cut = line.cut false third.bytes in_second in
    let is : is_no_command (part second at end) ≡ false = begins_line first third.bytes at (part second at end) (lines (drop end third.bytes)) (front_as_whole first false third.bytes in_first) begins cut in
    none false third.bytes in_first ∙ ap (commands_of false false) cut
    ∙ open_command (part second at end) (lines (drop end third.bytes)) is (block_not_settled (part second at end) (lines (drop end third.bytes)) (ap keeps_file (sym asks) ∙ some) open_yet)

-- a command that begins is there, whatever follows
pub has_begun : (front : Front) (from at : ℕ) → IsNoneBetween front from at → IsCommandAt front at → HasBegun front from
has_begun front from at none begins = λ input may gone. has_command (lines (drop at input)) (begins input may) (sym (none true input may) ∙ gone)

-- a command begins, and the last that a session takes was given
pub event_of_next : (old : InputView) (front : Front) (at : ℕ) → old.given ≡ 200 → IsAtCommand front old.at at → IsEvent old front Limit
event_of_next old front at all found = inr (all, has_begun front old.at at found.none found.begins)

-- an event within the next command, of which nothing is settled
event_within : (old : InputView) (front : Front) (fault : InputFault) → old.given ≢ 200 → StopsWhere fault front (NoneSettled front old.at) → IsEvent old front fault
event_within old front Source fewer (over, ended, settled) = (over, settled, λ all. absurd (fewer all))
event_within old front Limit fewer (over, ended, settled) = inl (over, settled)
event_within old front Memory fewer holds = tt

-- .. within its line
pub event_in_line : {S : Type 0} (left : S → Option (List ℕ)) (faults : S → ℕ) (s t : S) (old : InputView) (first second : Front) (at : ℕ) (fault : InputFault) → Reads left faults s t first second → old.given ≢ 200 → IsAtCommand first old.at at → StopsWhere fault second (IsOpenLine (drop at second.bytes)) → IsEvent old second fault
event_in_line left faults s t old first second at fault reads fewer found stopped =
    event_within old second fault fewer (stops_not_ended fault second (λ going line. open_line_next first second old.at at (front_before left faults s t first second reads) found.none found.begins going line) stopped)

-- .. within its block
pub event_in_block : {S : Type 0} (left : S → Option (List ℕ)) (faults : S → ℕ) (s t u : S) (old : InputView) (first second third : Front) (at end : ℕ) (asked : Result Command LineFault) (fault : InputFault) → Reads left faults s t first second → Reads left faults t u second third → old.given ≢ 200 → IsAtCommand first old.at at → IsCommandLine second at end asked → StopsWhere fault third (IsOpenBlock asked third end) → IsEvent old third fault
event_in_block left faults s t u old first second third at end asked fault reads more fewer found line stopped =
    event_within old third fault fewer (stops_not_ended fault third (λ going block. open_block_next first second third old.at at end asked (front_before left faults t u second third more) (front_before left faults s t first second reads) found.none found.begins line.line line.asks going block) stopped)

-- the next command, as it is counted
pub next_read : {S : Type 0} (left : S → Option (List ℕ)) (faults : S → ℕ) (s t u : S) (old third : InputView) (first second : Front) (at end : ℕ) (asked : Result Command LineFault) (request : Request) → Reads left faults s t first second → Reads left faults t u second third.front → IsAtCommand first old.at at → IsCommandLine second at end asked → request.asked ≡ asked → IsBlockOf asked third.front end third.at request.block → third.given ≡ old.given → IsNext old (record { front = third.front; at = third.at; given = third.given + 1 }) request
next_read left faults s t u old third first second at end asked request reads more found line same is_block count = record {
  first = λ whole input may.
      next_command first second third.front old.at at end third.at asked request.block (front_before left faults t u second third.front more) (front_before left faults s t first second reads) found.none found.begins line.line line.asks is_block second.is_ended refl whole input may
      ∙ ap (λ (a : Result Command LineFault). record { asked = a; block = request.block } ∷ commands whole (drop third.at input)) (sym same);
  number = ap (λ (n : ℕ). n + 1) count;
}
