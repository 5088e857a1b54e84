-- What `position` of the standard library finds in a part of a list, as a search by index. Assumes nothing.
use mathlib.Core.Path.{◌≡◌, refl, sym, ap, ◌∙◌}
use mathlib.Core.Bool.{Bool, true, false, cond}
use mathlib.Core.List.{List}
use Prim.Native.Nat.{ℕ, ◌+◌, ◌-◌, ◌≤◌, ◌<◌}
use native.Mathlib.Omega.{arith}
use lib.ListN.{length, get_or, take, drop, length-take, length-drop}
use lib.Seq.{get_or-take, get_or-drop}
use lib.Dec.{ltb}
use borrow.Author.Tests.{ltb-false}
use Rattle.std.specs.Prelude.{Some, None}
use Rattle.std.specs.List.{position, position_or_len}
use Rattle.std.specs.Option.{unwrap_or}
use Rattle.std.proofs.lemmas.List.Sums.{position_or_len_is}
use Rattle.lists.specs.Search.{first_in}
use Rattle.lists.proofs.Searches.{within, from_on, holds_from, before_from}

-- the first element that passes, among those from `from` up to, not including, `to`
position-first : (q : ℕ → Bool) (p : List ℕ) (from to : ℕ) → from ≤ to → to ≤ length p
    → from + unwrap_or (position q (take (to - from) (drop from p))) (to - from) ≡ first_in (λ i. q (get_or p i 0)) from to
position-first q p from to h w =
    let xs = take (to - from) (drop from p) in
    let first = first_in (λ i. q (get_or p i 0)) from to in
    let long : length xs ≡ to - from = simp (length-take, length-drop) (omega arith) in
    let high = within (λ i. q (get_or p i 0)) from to h in
    let there : from + (first - from) ≡ first = omega (arith, from_on (λ i. q (get_or p i 0)) from to) in
    go xs first long (from_on _ from to) high (ltb (position_or_len q xs) (length xs)) refl
    (position_or_len_is q xs (first - from) 0
    (omega arith)
    (λ k l. ap q (at k (omega arith)) ∙ before_from (λ i. q (get_or p i 0)) from to (from + k) (omega arith) (omega arith))
    (λ l. ap q (at (first - from) (omega arith)) ∙ rw there (holds_from (λ i. q (get_or p i 0)) from to (omega arith))))
  where
    at : (k : ℕ) → k < to - from → get_or (take (to - from) (drop from p)) k 0 ≡ get_or p (from + k) 0
    at k l = get_or-take (to - from) (drop from p) k 0 l ∙ get_or-drop from p k 0

    go : (xs : List ℕ) (first : ℕ) → length xs ≡ to - from → from ≤ first → first ≤ to
        → (b : Bool) → ltb (position_or_len q xs) (length xs) ≡ b → position_or_len q xs ≡ first - from
        → from + unwrap_or (cond b (Some (position_or_len q xs)) None) (to - from) ≡ first
    go xs first long low high true e is = omega arith
    go xs first long low high false e is = omega (arith, ltb-false (position_or_len q xs) (length xs) e)

-- where there is one, and where there is none
module _ (q : ℕ → Bool) (p : List ℕ) (from to : ℕ) (h : from ≤ to) (w : to ≤ length p) where
  pub some_position : (i : ℕ) → Some i ≡ position q (take (to - from) (drop from p)) → from + i ≡ first_in (λ i. q (get_or p i 0)) from to
  some_position i e = ap (λ r. from + unwrap_or r (to - from)) e ∙ position-first q p from to h w

  pub no_position : None ≡ position q (take (to - from) (drop from p)) → to ≡ first_in (λ i. q (get_or p i 0)) from to
  no_position e =
      let end : from + (to - from) ≡ to = omega arith in
      sym end ∙ ap (λ r. from + unwrap_or r (to - from)) e ∙ position-first q p from to h w
