-- What a service answers. Assumes nothing.
use Rattle.std.specs.Prelude.{ℕ, Result, Ok, Err}
use Rattle.refusals.specs.declared.Reason.{Reason}
use Rattle.refusals.specs.declared.Reason.TheVariants.{PageLength, Check, Mark, Counts, Size, ReadKeys, ReadVersion, WriteKeys, WriteKind, SpareByte, BatchLength, StateLength, StateEntry, LentTooShort, TicketAgain, KeyBeyondState, PageIndex, TextForm, TextRange, TextBuffer}
use Rattle.refusals.specs.declared.Refusal.{Refusal}

-- a value, or a refusal: "Any refusal returns its number and a place"
pub data Outcome (A : Type 0) : Type 0 where
  gives : A → Outcome A
  refuses : (number place : ℕ) → Outcome A

-- "Refusal numbers": the number of each reason
abbrev pub number_of : Reason → ℕ
number_of PageLength = 1
number_of Check = 2
number_of Mark = 3
number_of Counts = 4
number_of Size = 5
number_of ReadKeys = 6
number_of ReadVersion = 7
number_of WriteKeys = 8
number_of WriteKind = 9
number_of SpareByte = 10
number_of BatchLength = 11
number_of StateLength = 12
number_of StateEntry = 13
number_of LentTooShort = 14
number_of TicketAgain = 15
number_of KeyBeyondState = 16
number_of PageIndex = 17
number_of TextForm = 18
number_of TextRange = 19
number_of TextBuffer = 20

-- the answer of a service that gives a value or refuses
abbrev pub outcome : {A : Type 0} → Result A Refusal → Outcome A
outcome (Ok a) = gives a
outcome (Err r) = refuses (number_of r.reason) r.place
