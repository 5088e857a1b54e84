-- What the lines are made of: numbers, words, places and tonnes. Assumes nothing.
use Rattle.std.specs.Prelude.{Result, Ok, Err}
use Prim.Native.Nat.{ℕ, zero, suc, ◌+◌, ◌-◌, ◌^◌, ◌≤◌, ◌<◌}
use mathlib.Core.Path.{◌≡◌, refl, sym, ap, ap₂, subst, ◌∙◌}
use mathlib.Core.Bool.{Bool, true, false, not, cond}
use mathlib.Core.List.{List, [], ◌∷◌, ◌++◌, append_assoc, append-nil}
use native.Mathlib.Nat.{add-zero, zero-add, suc-add, add-suc, sub-zero}
use native.Mathlib.Omega.{arith}
use mir.Syntax.{w64}
use mir.Val.{SFits}
use lib.ListN.{length, get_or, take, drop, length-drop, length-take}
use lib.Seq.{sets, sets-eq, take_all, take-length, drop-drop, drop-length, length-take-le, get_or-take}
use lib.Dec.{eqb, ltb}
use lib.IntN.{ℤ}
use Rattle.std.specs.Prelude.{Some, None}
use Rattle.std.specs.List.{position, position_or_len}
use Rattle.lists.specs.Search.{seek, first_in}
use Rattle.lists.specs.Ascii.{ascii}
use Rattle.refusals.specs.declared.Refusal.{Refusal}
use Rattle.refusals.specs.Outcome.{Outcome, gives, refuses, number_of}
use Rattle.tonnage.specs.Text.{digits, width, text_of}
use Rattle.tonnage.specs.Services.{WrittenText, write_text, wrote}
use Rattle.tonnage.proofs.Runs.{narrow, length_digits}
use Rattle.tonnage.proofs.RoundTrip.{longest_fits, written}
use Rattle.report.specs.declared.put.Word.{Word}
use Rattle.report.specs.declared.put.Text.{Text}
use Rattle.report.specs.Put.{Put, Puts}
use Rattle.report.specs.Listing.{decimal, verdict_word, place_text}
use Rattle.report.proofs.Puts.{in_room, puts_as}

-- a number of 32 bits in decimal
pub narrow_32 : (n : ℕ) → n < 2 ^ 32 → width n ≤ 10
narrow_32 n h = narrow 9 n (omega arith)

pub number : (l m : List ℕ) (at n w : ℕ) → n < 2 ^ 32 → w ≡ width n → m ≡ sets l at (digits w n) → (at + w ≤ at + 10) × Put l at (decimal n) m (at + w)
number l m at n w h e s =
    let k : width n ≤ 10 = narrow_32 n h in
    (omega arith, record { ends = rw (length_digits (width n) n) (ap (λ (x : ℕ). at + x) e); stands = s ∙ ap (λ (x : ℕ). sets l at (digits x n)) e })

-- ---- the table of words

abbrev pub table : List Word
table =
    record { text = ascii "kept  "; length = 4 }
    ∷ record { text = ascii "stale "; length = 5 }
    ∷ record { text = ascii "cycle "; length = 5 }
    ∷ record { text = ascii "failed"; length = 6 }
    ∷ []

-- a row of the table spells the word of its verdict
pub record Spells (v : ℕ) (w : Word) : Type 0 where
  pub short : w.length ≤ 6
  pub within : w.length ≤ length w.text
  pub spelt : take w.length w.text ≡ verdict_word v

pub table_spells : (v : ℕ) (d : Word) → v < 4 → Spells v (get_or table v d)
unfolding ascii
table_spells zero d h = record { short = omega arith; within = omega arith; spelt = refl }
table_spells (suc zero) d h = record { short = omega arith; within = omega arith; spelt = refl }
table_spells (suc (suc zero)) d h = record { short = omega arith; within = omega arith; spelt = refl }
table_spells (suc (suc (suc zero))) d h = record { short = omega arith; within = omega arith; spelt = refl }
table_spells (suc (suc (suc (suc v)))) d h = absurd (omega arith)

pub row_spells : (v : ℕ) (w : Word) → v < 4 → w ≡ get_or table v w → Spells v w
row_spells v w h e = subst (Spells v) (sym e) (table_spells v w h)

-- its letters are put
pub spelt-put : {v : ℕ} {w : Word} {t u : Text} → Spells v w → Puts (length (take w.length w.text)) (take w.length w.text) t u → Puts 6 (verdict_word v) t u
spelt-put {v} {w} {t} {u} s x = let short = s.short in puts_as s.spelt (in_room (omega (arith, length-take {A = ℕ})) x)

-- ---- places

one_further : (b : Bool) (a q s : ℕ) → suc a + q ≡ s → a + cond (not b) (1 + q) 0 ≡ cond b a s
one_further true a q s e = add-zero a
one_further false a q s e = omega (arith, e)

-- a search of a list finds what a search by index does
seek_list : (f p : ℕ → Bool) (xs : List ℕ) (a : ℕ) → ((j : ℕ) → j < length xs → f (a + j) ≡ p (get_or xs j 0)) → a + position_or_len p xs ≡ seek f a (length xs)
unfolding seek
seek_list f p [] a h = add-zero a
seek_list f p (x ∷ xs) a h =
    let here : f a ≡ p x = rw add-zero at (h 0 (omega arith)) in
    rw here (one_further (p x) a _ _ (seek_list f p xs (suc a) (λ j l. rw (suc-add, ← add-suc) (h (suc j) (omega arith)))))

module _ (order : List ℕ) (k i : ℕ) (h : k ≤ length order) where
  -- the place among the first k
  place : ℕ
  place = first_in (λ j. eqb (get_or order j 0) i) 0 k

  same : position_or_len (λ page. eqb page i) (take k order) ≡ place
  unfolding first_in place
  same =
      let size : length (take k order) ≡ k = length-take-le k order h in
      sym (zero-add _)
      ∙ seek_list (λ j. eqb (get_or order j 0) i) (λ page. eqb page i) (take k order) 0 (λ j l. rw zero-add (ap (λ x. eqb x i) (sym (get_or-take k order j 0 (omega arith)))))
      ∙ ap (seek (λ j. eqb (get_or order j 0) i) 0) (size ∙ sym (sub-zero k))

module _ (order : List ℕ) (i : ℕ) where
  abbrev first : ℕ
  first = first_in (λ j. eqb (get_or order j 0) i) 0 (length order)

  at_first : position (λ page. eqb page i) order ≡ cond (ltb first (length order)) (Some first) None
  unfolding place
  at_first =
      let s = rw take-length at (same order (length order) i (omega arith)) in
      rw s refl

  -- a page that has a place, and one that has none
  pub placed_some : (p : ℕ) → Some p ≡ position (λ page. eqb page i) order → decimal p ≡ place_text order (length order) i
  unfolding place_text
  placed_some p e = go (ltb first (length order)) (e ∙ at_first)
    where
      go : (b : Bool) → Some p ≡ cond b (Some first) None → decimal p ≡ cond b (decimal first) (ascii "-")
      go true q = let s : p ≡ first = cc in ap decimal s
      go false q = cc

  pub placed_none : None ≡ position (λ page. eqb page i) order → 45 ∷ [] ≡ place_text order (length order) i
  unfolding place_text ascii
  placed_none e = go (ltb first (length order)) (e ∙ at_first)
    where
      go : (b : Bool) → None ≡ cond b (Some first) None → 45 ∷ [] ≡ cond b (decimal first) (45 ∷ [])
      go true q = cc
      go false q = refl

-- a place among the first k is the place in the list of the first k
pub place_front : (order : List ℕ) (k i : ℕ) → k ≤ length order → place_text (take k order) (length (take k order)) i ≡ place_text order k i
unfolding place_text place
place_front order k i h =
    let size : length (take k order) ≡ k = length-take-le k order h in
    let s = rw take-length at (same (take k order) (length (take k order)) i (omega arith)) in
    ap₂ (λ (p n : ℕ). cond (ltb p n) (decimal p) (ascii "-")) (sym s ∙ same order k i h) size

-- ---- tonnes, written into the rest of a buffer that has room

module _ (out ys : List ℕ) (at : ℕ) (z : ℤ) (r : Result ℕ Refusal) (room : at + 25 ≤ length out) (fits : SFits w64 z)
    (e : wrote r ys ≡ write_text (take (length out - at) (drop at out)) z) where
  lent : take (length out - at) (drop at out) ≡ drop at out
  lent = take_all (length out - at) (drop at out) (rw length-drop (omega arith))

  none_left : drop (length out - at) (drop at out) ≡ []
  none_left =
      let k : at + (length out - at) ≡ length out = omega arith in
      drop-drop (length out - at) at out ∙ rw k (drop-length out)

  few : length (text_of z) ≤ 21
  few = longest_fits z fits

  done : wrote r ys ≡ record { answer = gives (length (text_of z)); text = text_of z ++ drop (at + length (text_of z)) out }
  done =
      e
      ∙ ap (λ (b : List ℕ). write_text b z) lent
      ∙ written z (drop at out) (rw length-drop (omega (arith, few)))
      ∙ rw (drop-drop (length (text_of z)) at out)

  pub tonnes-put : (n : ℕ) → r ≡ Ok n
      → (at + n ≤ at + 25) × Put out at (text_of z) (take at out ++ (ys ++ drop (length out - at) (drop at out))) (at + n)
  tonnes-put n h =
      let d : ◌≡◌ {A = WrittenText} (record { answer = gives n; text = ys }) (record { answer = gives (length (text_of z)); text = text_of z ++ drop (at + length (text_of z)) out }) = rw h at done in
      let g : ◌≡◌ {A = Outcome ℕ} (gives n) (gives (length (text_of z))) = ap (λ (w : WrittenText). w.answer) d in
      let a : n ≡ length (text_of z) = cc in
      let t : ys ≡ text_of z ++ drop (at + length (text_of z)) out = ap (λ (w : WrittenText). w.text) d in (
        omega (arith, few),
        record {
          ends = ap (λ (k : ℕ). at + k) a;
          stands =
              rw (none_left, append-nil ys, t)
              (sym (sets-eq (text_of z) out at (omega (arith, few)) ∙ append_assoc (take at out) (text_of z) (drop (at + length (text_of z)) out)));
        },
      )

  pub tonnes-room : (f : Refusal) → r ≡ Err f → ⊥
  tonnes-room f h =
      let g : ◌≡◌ {A = Outcome ℕ} (refuses (number_of f.reason) f.place) (gives (length (text_of z))) = ap (λ (w : WrittenText). w.answer) (rw h at done) in
      let n : ◌≡◌ {A = ℕ} 0 1 = cc in
      omega arith
