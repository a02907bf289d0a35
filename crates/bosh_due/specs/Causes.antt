-- Why the director halts, why its restart is refused, and why calls fail: a store failed, or a line asked for it (this
-- project's profile). Each halt and each failed call that lines ask for has a line of its own, and that line is obeyed at the
-- very append or call that it names. The call in which the director halts is one of those that are open, and counts as
-- others do.
use Rattle.std.specs.Prelude.{◌≡◌, ◌≤◌, ◌⊎◌, ℕ, Bool, true, false, if◌then◌else◌}
use Rattle.std.specs.Prelude.{List, [], ◌∷◌, ◌++◌, Option, Some, None, Result, Ok}
use Rattle.std.specs.List.{list_any}
use Rattle.bosh_answers.specs.Ends.{told_halt}
use Rattle.bosh_base.specs.declared.answer.Answer.{Answer}
use Rattle.bosh_base.specs.declared.answer.Answer.TheVariants.{Failed}
use Rattle.bosh_base.specs.declared.entry.Begin.{Begin}
use Rattle.bosh_base.specs.declared.entry.Entry.{Entry}
use Rattle.bosh_base.specs.declared.moves.Cause.{Cause}
use Rattle.bosh_base.specs.declared.moves.Cause.TheVariants as causes
use Rattle.bosh_base.specs.declared.moves.Did.{Did}
use Rattle.bosh_base.specs.declared.moves.Move.{Move}
use Rattle.bosh_base.specs.declared.moves.Move.TheVariants as moves
use Rattle.bosh_due.specs.HaltedBy.{HaltedBy, MayFind}
use Rattle.bosh_due.specs.HaltedBy.HaltedBy.{in_append, in_call, no_line}
use Rattle.bosh_due.specs.Room.{has_open_call, is_unperformed}
use Rattle.bosh_due.specs.Taken.{Taken, coming, has_effect_by, is_to_be_kept, none_taken, with_calls, with_failure}
use Rattle.bosh_due.specs.Waiting.{WaitingLine, Waits, after_one, fails_append, fails_call, is_next_named, is_of_appends}
use Rattle.bosh_due.specs.Waiting.{is_of_call, names_next, stops_append, stops_call}
use Rattle.bosh_fates.specs.declared.fate.Fate.TheVariants.{Late}
use Rattle.bosh_history.specs.Moments.{Moment, OpenCall, later}
use Rattle.bosh_line_words.specs.declared.fault.LineFault.{LineFault}
use Rattle.bosh_lines.specs.declared.command.Command.{Command}
use Rattle.bosh_lines.specs.declared.command.Command.TheVariants as commands
use Rattle.bosh_lines.specs.declared.command.StopCall.{StopCall}
use Rattle.bosh_lines.specs.declared.word.When.TheVariants.{After}

-- how often the director's store and that of the cloud failed in a turn, at most
pub record StoreFailures : Type 0 where
  pub director : ℕ
  pub cloud : ℕ

-- One line is the cause, and waits no more; the first that was set, of those that name the same. The rest is judged by that
-- line and the others.
pub record IsAskedBy
    (Rest : Command → List WaitingLine → Type 0) (is_cause names_it : WaitingLine → Bool) (lines : List WaitingLine) :
    Type 0
  where
    pub before : List WaitingLine
    pub line : WaitingLine
    pub behind : List WaitingLine
    pub are : lines ≡ before ++ line ∷ behind
    pub is_one : is_cause line ≡ true
    pub is_first : list_any names_it before ≡ false
    pub rest : Rest line.command (before ++ behind)

-- ---- appends

-- an append, at which the director halted
abbrev pub after_append_halt : HaltedBy → List WaitingLine → Waits
after_append_halt by lines = record { lines = after_one is_of_appends lines; halted_by = by }

-- the next append is named by the line, which lets it fail or stops the director at it
abbrev pub IsAskedInAppend : (Command → List WaitingLine → Type 0) → (Command → Bool) → List WaitingLine → Type 0
IsAskedInAppend Rest does lines = IsAskedBy Rest (names_next does) (names_next is_of_appends) lines

-- whether the line leaves the entry of the append to the store
abbrev pub is_there_after : Command → Bool
is_there_after (commands.FailStore Late appends) = true
is_there_after (commands.StopStore After appends) = true
is_there_after command = false

-- the director halts at an append for a line; the store may have failed beside, where the line leaves the entry to it
abbrev pub HaltsInAppend : (Waits → Type 0) → StoreFailures → Command → List WaitingLine → Type 0
HaltsInAppend Rest failed command lines =
    Rest (after_append_halt (in_append (Some (is_there_after command))) lines)
    ⊎ ((1 ≤ failed.director) × (is_there_after command ≡ true) × Rest (after_append_halt (in_append None) lines))

-- or since the store failed, at an append that no line names
abbrev pub FailsInAppend : (Waits → Type 0) → StoreFailures → List WaitingLine → Type 0
FailsInAppend Rest failed lines =
    (1 ≤ failed.director) × (is_next_named is_of_appends lines ≡ false) × Rest (after_append_halt no_line lines)

-- ---- the call in which the director halts

-- it is open, and the cloud has not performed it
pub record IsInCall (Is : ℕ → Begin → Type 0) (m : Moment) : Type 0 where
  pub number : ℕ
  pub call : OpenCall
  pub is_open : m.calls number ≡ Some call
  pub not_yet : is_unperformed call ≡ true
  pub so : Is number call.begin

-- the lines that stop the director in calls have seen it, whatever came of those that were open
abbrev pub after_call_halt : Begin → Taken → Option ℕ → Waits
after_call_halt call taken last = record {
  lines = after_one (stops_call call) taken.lines;
  halted_by = in_call taken.took last;
}

abbrev pub ByStop : (StopCall → List WaitingLine → Type 0) → Command → List WaitingLine → Type 0
ByStop Rest (commands.StopCall stop) lines = Rest stop lines
ByStop Rest command lines = ⊥

-- the first line that names the call stops the director in it
abbrev pub IsAskedInCall : (StopCall → List WaitingLine → Type 0) → Begin → List WaitingLine → Type 0
IsAskedInCall Rest call lines =
    IsAskedBy (ByStop Rest) (names_next (stops_call call)) (names_next (stops_call call)) lines

-- open calls come to their effects as the line says
abbrev pub StopsInCall : (Waits → Type 0) → Moment → ℕ → Begin → StopCall → List WaitingLine → Type 0
StopsInCall Rest m number call stop lines =
    Rest (after_call_halt call (with_calls (none_taken m lines) (coming stop m number)) None)

-- .. up to one at which the cloud's store fails
pub record FailsAsItStops
    (Rest : Waits → Type 0) (m : Moment) (number : ℕ) (call : Begin) (stop : StopCall) (lines : List WaitingLine) : Type 0
  where
    pub first : List ℕ
    pub last : ℕ
    pub left : List ℕ
    pub are : coming stop m number ≡ first ++ last ∷ left
    pub to_keep : is_to_be_kept (with_calls (none_taken m lines) first) last ≡ true
    pub rest : Rest (after_call_halt call (with_failure (with_calls (none_taken m lines) first) last) (Some last))

-- no line stops the director in the call, and the cloud's store fails as it is to keep the effect
abbrev pub FailsInCall : (Waits → Type 0) → Moment → List WaitingLine → ℕ → Begin → Type 0
FailsInCall Rest m lines number call =
    (is_next_named (stops_call call) lines ≡ false) × (is_to_be_kept (none_taken m lines) number ≡ true)
    × Rest (after_call_halt call (with_failure (none_taken m lines) number) (Some number))

abbrev pub FailsAt : (Waits → Type 0) → Moment → List WaitingLine → ℕ → Begin → Type 0
FailsAt Rest m lines number call =
    FailsInCall Rest m lines number call ⊎ IsAskedInCall (FailsAsItStops Rest m number call) call lines

-- ---- halts

-- The director halts: its store failed, or that of the cloud, which was to keep a write or a loss where no call is open; or
-- a line asked for it.
abbrev pub HaltsFor : (Waits → Type 0) → StoreFailures → Moment → Waits → Cause → Type 0
HaltsFor Rest failed m was causes.Store =
    FailsInAppend Rest failed was.lines ⊎ IsAskedInAppend (HaltsInAppend Rest failed) fails_append was.lines
HaltsFor Rest failed m was causes.CloudStore =
    (1 ≤ failed.cloud)
    × (((has_open_call m ≡ false) × Rest (record was { halted_by = no_line }))
    ⊎ IsInCall (FailsAt Rest m was.lines) m)
HaltsFor Rest failed m was causes.Stop =
    IsAskedInAppend (HaltsInAppend Rest failed) stops_append was.lines
    ⊎ IsInCall (λ number call. IsAskedInCall (StopsInCall Rest m number call) call was.lines) m

-- ---- calls

-- a call was performed
abbrev pub after_call : Begin → List WaitingLine → Waits → Waits
after_call call lines was = record was { lines = after_one (is_of_call call) lines }

-- its effect is as the line says
abbrev pub effect_by : Command → List Entry → Begin → Bool
effect_by (commands.FailCall doom) effects call = has_effect_by doom.fate effects call.call
effect_by command effects call = false

abbrev pub FailsFor : (Waits → Type 0) → Moment → Begin → Bool → Waits → Command → List WaitingLine → Type 0
FailsFor Rest m call effect was command lines =
    (effect ≡ effect_by command m.effects call) × Rest (after_call call lines was)

-- a call failed, since a line asked for it; or it did not, and none did
abbrev pub AnswersFor : (Waits → Type 0) → Moment → Begin → Waits → Bool → Answer → Type 0
AnswersFor Rest m call was effect Failed =
    IsAskedBy (FailsFor Rest m call effect was) (names_next (fails_call call)) (names_next (fails_call call)) was.lines
AnswersFor Rest m call was effect answer =
    (is_next_named (fails_call call) was.lines ≡ false) × Rest (after_call call was.lines was)

-- an open call was performed, and no line stopped the director in it
abbrev pub PerformsFor : (Waits → Type 0) → Moment → Waits → Did → Option OpenCall → Type 0
PerformsFor Rest m was did None = Rest was
PerformsFor Rest m was did (Some call) =
    (is_next_named (stops_call call.begin) was.lines ≡ false)
    × AnswersFor Rest m call.begin was did.effect did.answer

-- ---- moves

-- An entry is noted where no line let its append fail or stopped the director at it; a stop finds what is known of what
-- halted the director.
abbrev pub MovesFor : (Waits → Type 0) → StoreFailures → Moment → Waits → Move → Type 0
MovesFor Rest failed m was (moves.Note entry) =
    (is_next_named is_of_appends was.lines ≡ false)
    × Rest (record was { lines = after_one is_of_appends was.lines })
MovesFor Rest failed m was (moves.Did did) = PerformsFor Rest m was did (m.calls did.n)
MovesFor Rest failed m was (moves.Halt cause) = HaltsFor Rest failed m was cause
MovesFor Rest failed m was (moves.Stop found) = MayFind was.halted_by found × Rest (record was { halted_by = no_line })
MovesFor Rest failed m was move = Rest was

-- moves that go on from a moment have their causes, and leave lines that wait
abbrev pub HaveCauses : StoreFailures → Moment → Waits → List Move → Waits → Type 0
HaveCauses failed m was [] now = now ≡ was
HaveCauses failed m was (move ∷ more) now =
    MovesFor (λ mid. HaveCauses failed (later m move) mid more now) failed m was move

-- ---- turns

-- a restart halts a director that goes on, and is itself the cause
abbrev pub behind_own_halt : Result Command LineFault → List Move → List Move
behind_own_halt (Ok commands.Restart) (moves.Halt causes.Stop ∷ more) = more
behind_own_halt asked more = more

-- a restart is told that a store was not read only where that failed
abbrev pub IsUnreadFor : StoreFailures → Result Command LineFault → List Move → Type 0
IsUnreadFor failed (Ok commands.Restart) (moves.Said said ∷ []) =
    (said.reply ≡ told_halt causes.Store → 1 ≤ failed.director)
    × (said.reply ≡ told_halt causes.CloudStore → 1 ≤ failed.cloud)
IsUnreadFor failed asked more = Unit {0}

-- the moves of a turn have their causes, and leave lines that wait
pub record HasCauses
    (failed : StoreFailures) (m : Moment) (was : Waits) (asked : Result Command LineFault) (segment : List Move) (now : Waits) :
    Type 0
  where
    pub unread : IsUnreadFor failed asked (behind_own_halt asked segment)
    pub caused : HaveCauses failed m was (behind_own_halt asked segment) now

-- For want of memory the director stops, which no line asked for, where it gives up a call that is open, or in a restart;
-- it does nothing more.
abbrev pub may_give_up : Result Command LineFault → Moment → Bool
may_give_up (Ok commands.Restart) m = true
may_give_up asked m = has_open_call m

abbrev pub without_last_stop : Result Command LineFault → Moment → List Move → List Move
without_last_stop asked m [] = []
without_last_stop asked m (moves.Halt causes.Stop ∷ []) =
    if may_give_up asked m then [] else moves.Halt causes.Stop ∷ []
without_last_stop asked m (move ∷ more) = move ∷ without_last_stop asked (later m move) more
