-- The moves of commands, each with its reply, as segments of a history (this project's profile).
use Rattle.std.specs.Prelude.{◌≡◌, ◌⊎◌, ℕ, ◌+◌, List, [], ◌∷◌, ◌++◌, map}
use Rattle.std.specs.List.Sorted.{IsPermutation}
use Rattle.bosh_base.specs.declared.moves.Move.{Move}
use Rattle.bosh_base.specs.declared.moves.Move.TheVariants as moves
use Rattle.bosh_base.specs.declared.moves.Said as said
use Rattle.bosh_base.specs.declared.reply.Reply.{Reply}
use Rattle.bosh_base.specs.declared.reply.Reply.TheVariants as replies
use Rattle.bosh_transcript.specs.Past.{AreSilent}
use Rattle.bosh_transcript.specs.Replies.{answered_commands}
use Rattle.bosh_transcript.specs.Extents.{numbers}
use Rattle.bosh_transcript.specs.declared.extent.Extent.{Extent}
use Rattle.bosh_transcript.specs.declared.extent.Extent.TheVariants as extent

-- the command of a number is answered
abbrev pub said_reply : ℕ → Reply → Move
said_reply number reply = moves.Said (record { command = number; reply = reply })

-- a segment of one kind, and then one of another
pub record AreThen (Is Are : List Move → Type 0) (segment : List Move) : Type 0 where
  pub first : List Move
  pub rest : List Move
  pub is : segment ≡ first ++ rest
  pub begins : Is first
  pub others : Are rest

-- ---- replies alone

-- this reply alone is given
abbrev pub IsReply : ℕ → Reply → List Move → Type 0
IsReply number reply segment = segment ≡ said_reply number reply ∷ []

-- .. up to an event
abbrev pub IsReplyUpTo : ℕ → Reply → List Move → Type 0
IsReplyUpTo number reply segment = (segment ≡ []) ⊎ IsReply number reply segment

abbrev pub all_said : List said.Said → List Move
all_said replies = map moves.Said replies

-- these commands are answered in order, and nothing else is done
pub record AreTold (commands : List ℕ) (segment : List Move) : Type 0 where
  pub replies : List said.Said
  pub due : answered_commands replies ≡ commands
  pub is : segment ≡ all_said replies

-- .. up to an event
pub record AreToldUpTo (commands : List ℕ) (segment : List Move) : Type 0 where
  pub replies : List said.Said
  pub left : List ℕ
  pub due : answered_commands replies ++ left ≡ commands
  pub is : segment ≡ all_said replies

-- ---- one command after the other

-- what a command does, and then its reply
pub record IsAnswered (number : ℕ) (segment : List Move) : Type 0 where
  pub work : List Move
  pub reply : Reply
  pub silent : AreSilent work
  pub is : segment ≡ work ++ said_reply number reply ∷ []

abbrev pub AreAnswered : List ℕ → List Move → Type 0
AreAnswered [] segment = segment ≡ []
AreAnswered (number ∷ others) segment = AreThen (IsAnswered number) (λ rest. AreAnswered others rest) segment

-- .. up to an event, in one that has no reply or after the last
abbrev pub AreAnsweredUpTo : List ℕ → List Move → Type 0
AreAnsweredUpTo [] segment = segment ≡ []
AreAnsweredUpTo (number ∷ others) segment =
    AreSilent segment ⊎ AreThen (IsAnswered number) (λ rest. AreAnsweredUpTo others rest) segment

-- ---- commands that are carried out at once

-- the task of a command has opened, and runs
pub record RunsFirst (number : ℕ) (Rest : List ℕ → List Move → Type 0) (running : List ℕ) (segment : List Move) : Type 0
  where
    pub others_running : List ℕ
    pub is_running : running ≡ number ∷ others_running
    pub opens : AreThen AreSilent (λ rest. Rest others_running rest) segment

-- their tasks open in order: one that opens none is answered at once
abbrev pub AreOpened : List ℕ → List ℕ → List Move → Type 0
AreOpened [] running segment = (running ≡ []) × (segment ≡ [])
AreOpened (number ∷ others) running segment =
    AreThen (IsAnswered number) (λ rest. AreOpened others running rest) segment
    ⊎ RunsFirst number (λ left rest. AreOpened others left rest) running segment

-- .. and run beside those that ran before
pub record OpensMore (commands running_was running_now : List ℕ) (segment : List Move) : Type 0 where
  pub running : List ℕ
  pub all_running : running_now ≡ running_was ++ running
  pub opens : AreOpened commands running segment

-- .. up to an event in one of them
pub record AreOpenedUpTo (commands : List ℕ) (segment : List Move) : Type 0 where
  pub first : List ℕ
  pub left : List ℕ
  pub running : List ℕ
  pub front : commands ≡ first ++ left
  pub opens : AreThen (AreOpened first running) AreSilent segment

-- the tasks run, and then their commands are answered, in some order
pub record AreRun (running : List ℕ) (segment : List Move) : Type 0 where
  pub order : List ℕ
  pub each : IsPermutation order running
  pub run : AreThen AreSilent (AreTold order) segment

-- .. up to an event
pub record AreRunUpTo (running : List ℕ) (segment : List Move) : Type 0 where
  pub order : List ℕ
  pub each : IsPermutation order running
  pub run : AreThen AreSilent (AreToldUpTo order) segment

-- all open, and then run
pub record AreTogether (commands : List ℕ) (segment : List Move) : Type 0 where
  pub running : List ℕ
  pub opens : AreThen (AreOpened commands running) (AreRun running) segment

-- .. up to an event
pub record RunUpTo (commands : List ℕ) (segment : List Move) : Type 0 where
  pub running : List ℕ
  pub opens : AreThen (AreOpened commands running) (AreRunUpTo running) segment

abbrev pub AreTogetherUpTo : List ℕ → List Move → Type 0
AreTogetherUpTo commands segment = AreOpenedUpTo commands segment ⊎ RunUpTo commands segment

-- ---- a command, with those that it carries out at once

-- the replies of a command that carries out no others: its own; a deployment that is made is four commands, and a last
-- line
abbrev pub own_replies : Extent → ℕ → List ℕ
own_replies (extent.Generated instances) number = number ∷ number ∷ number ∷ number ∷ number ∷ []
own_replies kind number = number ∷ []

-- the command that carries out others is answered before them
abbrev pub IsToldFirst : ℕ → List Move → Type 0
IsToldFirst number segment = IsReply number replies.Nothing segment

-- the moves of a command of a number, and of so many others
abbrev pub IsSegment : Extent → ℕ → ℕ → List Move → Type 0
IsSegment (extent.Together count) number others segment =
    AreThen (IsToldFirst number) (AreTogether (numbers (number + 1) others)) segment
IsSegment kind number others segment = AreAnswered (own_replies kind number) segment

-- .. up to an event
abbrev pub IsCutSegment : Extent → ℕ → ℕ → List Move → Type 0
IsCutSegment (extent.Together count) number others segment =
    (segment ≡ []) ⊎ AreThen (IsToldFirst number) (AreTogetherUpTo (numbers (number + 1) others)) segment
IsCutSegment kind number others segment = AreAnsweredUpTo (own_replies kind number) segment
