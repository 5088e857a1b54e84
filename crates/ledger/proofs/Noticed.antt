-- What the check notices: a change of any one byte, and an exchange of two unequal bytes before it. Assumes nothing.
use mathlib.Core.Path.{◌≡◌, refl, sym, ap, ◌∙◌}
use mathlib.Core.Logic.{⊎_elim}
use mathlib.Core.List.{List}
use Prim.Native.Nat.{ℕ, zero, suc, ◌+◌, ◌-◌, ◌*◌, ◌/◌, ◌≤◌, ◌<◌}
use native.Mathlib.Nat.{eq-or-lt_of_le, le_of_suc-le-suc, mul-div_cancel_left, add-mul, lt_of_not-le}
use native.Mathlib.Decide.{dec_le, dec_lt, ℕ_discrete}
use native.Mathlib.Omega.{arith}
use lib.ListN.{length, get_or, drop, set, length-set}
use lib.Seq.{get_or-set_same, get_or-set_other, get_or-take, get_or-drop, set_comm}
use Rattle.refusals.specs.Fault.{clear}
use Rattle.octets.specs.Bytes.{field, le, weighed, Small}
use Rattle.ledger.specs.Page.{page_fault}
use Rattle.octets.proofs.Parts.{part, le-field}
use Rattle.ledger.proofs.Faults.{sound}

weighed-out : (p : List ℕ) (i b n : ℕ) → n ≤ i → weighed (set p i b) n ≡ weighed p n
unfolding weighed
weighed-out p i b zero h = refl
weighed-out p i b (suc n) h = rw (weighed-out p i b n (omega arith), get_or-set_other p i n b 0 (omega arith))

weighed-set : (p : List ℕ) (i b n : ℕ) → i < length p → i < n → weighed (set p i b) n + (i + 1) * get_or p i 0 ≡ weighed p n + (i + 1) * b
unfolding weighed
weighed-set p i b zero l h = absurd (omega arith)
weighed-set p i b (suc n) l h =
    ⊎_elim
    (λ e. rw (← e, weighed-out p i b i (omega arith), get_or-set_same p i b 0 l) (omega arith))
    (λ k. rw (get_or-set_other p i n b 0 (omega arith)) (omega (arith, weighed-set p i b n l k)))
    (eq-or-lt_of_le (le_of_suc-le-suc h))

field_out : (p : List ℕ) (i b a n : ℕ) → i < a → field (set p i b) a n ≡ field p a n
unfolding field
field_out p i b a zero h = refl
field_out p i b a (suc n) h = rw (get_or-set_other p i a b 0 (omega arith), field_out p i b (suc a) n (omega arith))

small-set : (p : List ℕ) (i b : ℕ) → i < length p → Small p → b < 256 → Small (set p i b)
small-set p i b l small h k =
    elim (ℕ_discrete k i) [ yes e ↦ rw (e, get_or-set_same p i b 0 l) h | no n ↦ rw (get_or-set_other p i k b 0 n) (small k) ]

at_part : (p : List ℕ) (i : ℕ) → 508 ≤ i → i < 512 → get_or (part p 508 4) (i - 508) 0 ≡ get_or p i 0
at_part p i h l =
    let e : 508 + (i - 508) ≡ i = omega arith in
    get_or-take 4 (drop 508 p) (i - 508) 0 (omega arith) ∙ get_or-drop 508 p (i - 508) 0 ∙ ap (λ (k : ℕ). get_or p k 0) e

-- equal products by one factor
cancel : (k x y : ℕ) → 0 < k → k * x ≡ k * y → x ≡ y
cancel k x y pos e = sym (mul-div_cancel_left x pos) ∙ ap (λ (n : ℕ). n / k) e ∙ mul-div_cancel_left y pos

-- the check stored on a page is that of its bytes
abbrev Agrees : List ℕ → Type 0
Agrees p = weighed p 508 ≡ field p 508 4

module _ (p : List ℕ) (long : length p ≡ 512) (agrees : Agrees p) (i b : ℕ) (l : i < 512) (other : b ≡ get_or p i 0 → ⊥) where
  in_body : i < 508 → Agrees (set p i b) → ⊥
  in_body h e =
      let same : weighed (set p i b) 508 ≡ weighed p 508 = e ∙ field_out p i b 508 4 h ∙ sym agrees in
      other (cancel (i + 1) b (get_or p i 0) (omega arith) (omega (arith, weighed-set p i b 508 (omega arith) h)))

  in_check : Small p → b < 256 → 508 ≤ i → Agrees (set p i b) → ⊥
  in_check small byte h e =
      let same : field (set p i b) 508 4 ≡ field p 508 4 = sym e ∙ weighed-out p i b 508 h ∙ agrees in
      let parts : part (set p i b) 508 4 ≡ part p 508 4 =
      sym (le-field (set p i b) (small-set p i b (omega arith) small byte) 508 4 (omega (arith, length-set p i b))) ∙ ap (le 4) same ∙ le-field p small 508 4 (omega arith) in
      other (sym (get_or-set_same p i b 0 (omega arith)) ∙ sym (at_part (set p i b) i h l) ∙ ap (λ (x : List ℕ). get_or x (i - 508) 0) parts ∙ at_part p i h l)

-- a change of any one byte of an accepted page is refused
pub one_byte : (p : List ℕ) → Small p → page_fault p ≡ clear → (i b : ℕ) → i < 512 → b < 256 → (b ≡ get_or p i 0 → ⊥) → page_fault (set p i b) ≡ clear → ⊥
one_byte p small e i b l byte other f =
    let g = (sound p e).head in
    let s = (sound (set p i b) f).head.sum in
    elim (dec_le 508 i) [ yes h ↦ in_check p g.long g.sum i b l other small byte h s | no h ↦ in_body p g.long g.sum i b l other (lt_of_not-le h) s ]

-- so is an exchange of two unequal bytes, the first of them named first
module _ (p : List ℕ) (long : length p ≡ 512) (agrees : Agrees p) (i j : ℕ) (less : i < j) (l : j < 508) (other : get_or p i 0 ≡ get_or p j 0 → ⊥) where
  swap_differs : Agrees (set (set p i (get_or p j 0)) j (get_or p i 0)) → ⊥
  swap_differs e =
      let x = get_or p i 0 in
      let y = get_or p j 0 in
      let k = j - i in
      let q = set p i y in
      let same : weighed (set q j x) 508 ≡ weighed p 508 = e ∙ field_out q j x 508 4 l ∙ field_out p i y 508 4 (omega arith) ∙ sym agrees in
      let one = weighed-set p i y 508 (omega arith) (omega arith) in
      let two : weighed (set q j x) 508 + (j + 1) * y ≡ weighed q 508 + (j + 1) * x =
      rw (get_or-set_other p i j y 0 (omega arith)) at (weighed-set q j x 508 (omega (arith, length-set p i y)) l) in
      let j-is : j + 1 ≡ i + 1 + k = omega arith in
      let three : weighed (set q j x) 508 + ((i + 1) * y + k * y) ≡ weighed q 508 + ((i + 1) * x + k * x) = rw (j-is, add-mul (i + 1) k y, add-mul (i + 1) k x) at two in
      other (cancel k x y (omega arith) (omega (arith, one, three, same)))

-- and in either order
pub exchange : (p : List ℕ) → Small p → page_fault p ≡ clear → (i j : ℕ) → i < 508 → j < 508 → (get_or p i 0 ≡ get_or p j 0 → ⊥)
    → page_fault (set (set p i (get_or p j 0)) j (get_or p i 0)) ≡ clear → ⊥
exchange p small e i j li lj other f =
    let g = (sound p e).head in
    let apart : (i ≡ j → ⊥) = λ q. other (ap (λ (k : ℕ). get_or p k 0) q) in
    let s = (sound (set (set p i (get_or p j 0)) j (get_or p i 0)) f).head.sum in
    elim (dec_lt i j) [
      | yes h ↦ swap_differs p g.long g.sum i j h lj other s
      | no h ↦ swap_differs p g.long g.sum j i (omega arith) li (λ q. other (sym q)) (rw (set_comm p i j (get_or p j 0) (get_or p i 0) apart) at s)
    ]
