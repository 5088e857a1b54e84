-- What the text is on each way through the program. Assumes nothing.
use Prim.Native.Nat.{ℕ, ◌≤◌}
use mathlib.Core.Path.{◌≡◌, refl, ap}
use mathlib.Core.List.{List}
use native.Mathlib.Omega.{arith}
use lib.ListN.{length, drop, length-append}
use Rattle.refusals.specs.declared.Refusal.{Refusal}
use Rattle.std.specs.Prelude.{Result, Ok, Err}
use Rattle.refusals.specs.Outcome.{gives, refuses, number_of}
use Rattle.ledger.specs.State.{State}
use Rattle.planning.specs.Joined.{Joined, joined}
use Rattle.lists.specs.Tables.{filled}
use Rattle.report.specs.Listing.{listed, refused}
use Rattle.report.specs.Program.{Within, start_number, done, shown, told, told_state}
use Rattle.report.specs.declared.program.InputError.{InputError}

-- the length that is given, and the buffer at the end
abbrev pub Told : List ℕ → List ℕ → ℕ → List ℕ → Type 0
Told text t r new = (r ≡ length t) × (new ≡ filled t text)

-- the same, and the state that is left
abbrev pub Left : List ℕ → List ℕ → State → ℕ → List ℕ → State → Type 0
Left text t s r new left = record { result_value : r ≡ length t; text_after : new ≡ filled t text; left_after : left ≡ s }

same_left : (text t u : List ℕ) (s z : State) (r : ℕ) (new : List ℕ) (left : State) → t ≡ u → s ≡ z
    → Left text t s r new left → Left text u z r new left
same_left text t u s z r new left e f x = rw (← e, ← f) x

module _ (text input : List ℕ) (s : State) where
  -- what is written once the joined call has left this
  abbrev due : Joined → List ℕ
  due j =
      elim j.answer [
        | gives k ↦ listed text start_number input j.verdicts j.order k j.state
        | refuses number place ↦ refused text number place
      ]

  told_due : (j : Joined) → j ≡ done input s → (r : ℕ) (new : List ℕ) → Told text (due j) r new
      → Left text (shown input s text) (done input s).state r new j.state
  unfolding shown
  told_due j e r new x =
      same_left text (due j) (shown input s text) j.state (done input s).state r new j.state
      (ap due e) (ap (λ (i : Joined). i.state) e) (record { result_value = x.0; text_after = x.1; left_after = refl })

  pub told-refused : (f : Refusal) (t : State) (a b : List ℕ) → joined (Err f) t a b ≡ done input s
      → (r : ℕ) (new : List ℕ) → Told text (refused text (number_of f.reason) f.place) r new
      → Left text (shown input s text) (done input s).state r new t
  told-refused f t a b e = told_due (joined (Err f) t a b) e

  pub told-listed : (k : ℕ) (t : State) (a b : List ℕ) → joined (Ok k) t a b ≡ done input s
      → (r : ℕ) (new : List ℕ) → Told text (listed text start_number input a b k t) r new
      → Left text (shown input s text) (done input s).state r new t
  told-listed k t a b e = told_due (joined (Ok k) t a b) e

-- the text lies within the buffer
filled_long : (text t new : List ℕ) (r : ℕ) → Told text t r new → r ≤ length new
filled_long text t new r x = rw (x.1, length-append t (drop (length t) text)) (omega (arith, x.0))

-- the same, and that the text lies within the buffer
abbrev pub Answered : List ℕ → List ℕ → State → ℕ → List ℕ → State → Type 0
Answered text t s r new left = record { upper_bound : r ≤ length new; result_value : r ≡ length t; text_after : new ≡ filled t text; left_after : left ≡ s }

-- where it is known what was read
pub told-read : (page text : List ℕ) (s : State) (read known : Result ℕ InputError) (r : ℕ) (new : List ℕ) (left : State) → read ≡ known
    → Left text (told known page s text) (told_state known page s) r new left
    → Answered text (told read page s text) (told_state read page s) r new left
told-read page text s read known r new left e x =
    rw e (record {
      upper_bound = filled_long text (told known page s text) new r (x.result_value, x.text_after);
      result_value = x.result_value;
      text_after = x.text_after;
      left_after = x.left_after;
    })

-- bytes that are known to be read lie within the buffer
pub within : (read : Result ℕ InputError) (n size : ℕ) → read ≡ Ok n → Within read size → n ≤ size
within read n size e h = rw e at h

-- and within a longer one
pub within_more : (read : Result ℕ InputError) (m n : ℕ) → m ≤ n → Within read m → Within read n
within_more (Ok k) m n h w = omega arith
within_more (Err e) m n h w = tt
