-- What the two services on tonnage texts answer, for every input. Assumes nothing.
use Rattle.std.specs.Prelude.{Bool, not, List, [], ◌∷◌, ℕ, ◌^◌, length, ltb, ℤ, pos, negsuc, Result}
use Rattle.refusals.specs.declared.Refusal.{Refusal}
use Rattle.refusals.specs.Outcome.{Outcome, outcome}
use Rattle.refusals.specs.Fault.{Row, row, first, judged, after}
use Rattle.lists.specs.Tables.{filled}
use Rattle.tonnage.specs.Text.{form, figure, text_of}

-- a figure of signed 64 bits
abbrev pub in64 : ℤ → Bool
in64 (pos n) = ltb n (2 ^ 63)
in64 (negsuc n) = ltb n (2 ^ 63)

-- "Text reading: 18, 19": "18: text not of the form above"; "19: figure outside signed 64 bits"
unfoldable pub read_rows : List ℕ → List Row
read_rows text =
    row 18 0 (not (form text)) ∷
    row 19 0 (not (in64 (figure text))) ∷
    []

unfoldable pub read_text : List ℕ → Outcome ℤ
read_text text = judged (first (read_rows text)) (figure text)

-- what the writer answers, and what it leaves in the lent buffer
pub record WrittenText : Type 0 where
  pub answer : Outcome ℕ
  pub text : List ℕ

-- "Text writing: 20": "20: text buffer shorter than the text"
unfoldable pub text_rows : List ℕ → ℤ → List Row
text_rows buffer z = row 20 0 (ltb (length buffer) (length (text_of z))) ∷ []

-- "The writer fills the front of a lent text buffer, gives the length, and leaves the bytes after it."
unfoldable pub write_text : List ℕ → ℤ → WrittenText
write_text buffer z =
    let wrong = first (text_rows buffer z) in
    record { answer = judged wrong (length (text_of z)); text = after wrong (filled (text_of z) buffer) buffer }

-- the answer of the writer as an outcome, with the buffer as it is at the end
abbrev pub wrote : Result ℕ Refusal → List ℕ → WrittenText
wrote a buffer = record { answer = outcome a; text = buffer }
