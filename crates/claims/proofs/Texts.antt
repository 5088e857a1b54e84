-- Demands 1 and 2 for tonnage texts: which number is given when, and the round trips. Assumes nothing.
use Prim.Native.Nat.{ℕ, ◌≤◌, ◌<◌}
use native.Mathlib.Omega.{arith}
use mathlib.Core.Bool.{Bool, true, false, true≢false, cond}
use mathlib.Core.List.{List, ◌++◌}
use mathlib.Core.Logic.{◌⊎◌, inl, inr, ◌↔◌}
use mathlib.Core.Path.{◌≡◌, refl, sym, ap, ◌∙◌}
use lib.ListN.{length, take, drop}
use lib.IntN.{ℤ}
use lib.Dec.{ltb}
use lib.Seq.{take-append_seam}
use borrow.Author.Tests.{ltb-true, ltb-false}
use Rattle.refusals.specs.Outcome.{gives, refuses}
use Rattle.refusals.specs.Fault.{first}
use Rattle.lists.specs.Search.{seek, first_in}
use Rattle.tonnage.specs.Text.{follow, magnitude, laid, form, figure, text_of}
use Rattle.tonnage.specs.Grammar.{Tonnage}
use Rattle.tonnage.specs.Services.{in64, read_rows, read_text, WrittenText, text_rows, write_text}
use Rattle.tonnage.proofs.RoundTrip.{accepted_written, written_accepted, written}
use Rattle.tonnage.proofs.Sentence.{grammar_form}
use Rattle.lists.specs.Ascii.{ascii}
use Rattle.refusals.proofs.Answers.{apart, value, number, place}
use Rattle.claims.proofs.Table.{text_no_comma}

-- ---- reading: demand 1, "A refusal carries the number that document 01 gives it, exactly when 01 says"

module _ (text : List ℕ) where
  -- what is read, by the two tests
  judged : (f i : Bool) → form text ≡ f → in64 (figure text) ≡ i → read_text text ≡ cond f (cond i (gives (figure text)) (refuses 19 0)) (refuses 18 0)
  unfolding read_text read_rows first
  judged true true h k = rw (h, k)
  judged true false h k = rw (h, k)
  judged false i h k = rw h

  spelt : form text ≡ true → Tonnage text
  spelt h = (grammar_form text).1 h

  unspelt : form text ≡ false → Tonnage text → ⊥
  unspelt h t = true≢false (sym ((grammar_form text).0 t) ∙ h)

  -- 18: "text not of the form above"
  pub refused_18 : (read_text text ≡ refuses 18 0) ↔ (Tonnage text → ⊥)
  refused_18 = go (form text) (in64 (figure text)) refl refl
    where
      go : (f i : Bool) → form text ≡ f → in64 (figure text) ≡ i → (read_text text ≡ refuses 18 0) ↔ (Tonnage text → ⊥)
      go true true h k = (λ e t. apart (judged true true h k) e, λ n. absurd (n (spelt h)))
      go true false h k = (λ e t. omega (arith, number (judged true false h k) e), λ n. absurd (n (spelt h)))
      go false i h k = (λ e. unspelt h, λ n. judged false i h k)

  -- 19: "figure outside signed 64 bits"
  pub refused_19 : (read_text text ≡ refuses 19 0) ↔ (Tonnage text × (in64 (figure text) ≡ false))
  refused_19 = go (form text) (in64 (figure text)) refl refl
    where
      go : (f i : Bool) → form text ≡ f → in64 (figure text) ≡ i → (read_text text ≡ refuses 19 0) ↔ (Tonnage text × (in64 (figure text) ≡ false))
      go true true h k = (λ e. absurd (apart (judged true true h k) e), λ p. absurd (true≢false (sym k ∙ p.1)))
      go true false h k = (λ e. (spelt h, k), λ p. judged true false h k)
      go false i h k = (λ e. absurd (omega (arith, number (judged false i h k) e)), λ p. absurd (unspelt h p.0))

  -- no other refusal is given
  pub refused_only : (n p : ℕ) → read_text text ≡ refuses n p → ((n ≡ 18) ⊎ (n ≡ 19)) × (p ≡ 0)
  refused_only n p e = go (form text) (in64 (figure text)) refl refl
    where
      go : (f i : Bool) → form text ≡ f → in64 (figure text) ≡ i → ((n ≡ 18) ⊎ (n ≡ 19)) × (p ≡ 0)
      go true true h k = absurd (apart (judged true true h k) e)
      go true false h k = (inr (sym (number (judged true false h k) e)), sym (place (judged true false h k) e))
      go false i h k = (inl (sym (number (judged false i h k) e)), sym (place (judged false i h k) e))

-- each number is given on some text
pub given_18 : read_text (ascii "684") ≡ refuses 18 0
given_18 = text_no_comma

pub given_19 : read_text (ascii "9223372036854775,808") ≡ refuses 19 0
unfolding ascii read_text read_rows first form laid first_in seek magnitude follow figure
given_19 = refl

-- ---- reading and writing: demand 2, "tonnage texts read back as written, and one that is accepted is exactly what our writer would write"

-- a text that is accepted as z is what the writer leaves of z in any buffer that it fits, as it is, at the front
pub accepted :
    (text : List ℕ) (z : ℤ) → read_text text ≡ gives z → (buffer : List ℕ) → length text ≤ length buffer →
    write_text buffer z ≡ record { answer = gives (length text); text = text ++ drop (length text) buffer }
accepted text z h buffer l =
    let e = accepted_written text z h in
    written z buffer (rw e l)
    ∙ ap (λ (t : List ℕ). record { answer = gives (length t); text = t ++ drop (length t) buffer }) e

module _ (buffer : List ℕ) (z : ℤ) where
  abbrev fit : WrittenText
  fit = record { answer = gives (length (text_of z)); text = text_of z ++ drop (length (text_of z)) buffer }

  abbrev unfit : WrittenText
  unfit = record { answer = refuses 20 0; text = buffer }

  -- what is written, by the test of the length
  done : (b : Bool) → ltb (length buffer) (length (text_of z)) ≡ b → write_text buffer z ≡ cond b unfit fit
  unfolding write_text text_rows first
  done true h = rw h
  done false h = rw h

  -- what the writer wrote for a figure of 64 bits reads back as that figure
  pub reads_back : (n : ℕ) → in64 z ≡ true → (write_text buffer z).answer ≡ gives n → read_text (take n (write_text buffer z).text) ≡ gives z
  reads_back n h e = go (ltb (length buffer) (length (text_of z))) refl
    where
      go : (b : Bool) → ltb (length buffer) (length (text_of z)) ≡ b → read_text (take n (write_text buffer z).text) ≡ gives z
      go false k =
          let long : length (text_of z) ≡ n = value (ap (λ (w : WrittenText). w.answer) (done false k)) e in
          rw (done false k, ← long, take-append_seam (text_of z) (drop (length (text_of z)) buffer)) (written_accepted z h)
      go true k = absurd (apart e (ap (λ (w : WrittenText). w.answer) (done true k)))

  -- ---- writing: demand 1

  -- 20: "text buffer shorter than the text"
  pub refused_20 : ((write_text buffer z).answer ≡ refuses 20 0) ↔ (length buffer < length (text_of z))
  refused_20 = go (ltb (length buffer) (length (text_of z))) refl
    where
      go : (b : Bool) → ltb (length buffer) (length (text_of z)) ≡ b → ((write_text buffer z).answer ≡ refuses 20 0) ↔ (length buffer < length (text_of z))
      go false k = (λ e. absurd (apart (ap (λ (w : WrittenText). w.answer) (done false k)) e), λ l. absurd (omega (arith, ltb-false (length buffer) (length (text_of z)) k)))
      go true k = (λ e. ltb-true (length buffer) (length (text_of z)) k, λ l. ap (λ (w : WrittenText). w.answer) (done true k))

  -- nothing else is refused, and what is refused leaves the buffer as it was
  pub refused_unchanged : (n p : ℕ) → (write_text buffer z).answer ≡ refuses n p → (n ≡ 20) × (p ≡ 0) × ((write_text buffer z).text ≡ buffer)
  refused_unchanged n p e = go (ltb (length buffer) (length (text_of z))) refl
    where
      go : (b : Bool) → ltb (length buffer) (length (text_of z)) ≡ b → (n ≡ 20) × (p ≡ 0) × ((write_text buffer z).text ≡ buffer)
      go false k = absurd (apart (ap (λ (w : WrittenText). w.answer) (done false k)) e)
      go true k =
          let f = ap (λ (w : WrittenText). w.answer) (done true k) in
          (sym (number f e), sym (place f e), ap (λ (w : WrittenText). w.text) (done true k))
