-- Numbers stored as bytes. Assumes nothing.
use mathlib.Core.Path.{◌≡◌, refl, sym, ap, ◌∙◌}
use mathlib.Core.List.{List, ◌∷◌, ◌++◌, append_assoc, append-nil}
use Prim.Native.Nat.{ℕ, zero, suc, ◌+◌, ◌-◌, ◌/◌, ◌%◌, ◌≤◌, ◌<◌}
use native.Mathlib.Omega.{arith}
use lib.ListN.{length, set, take, replicate, length-append}
use lib.Seq.{sets}
use borrow.Rule.Slice.PartMut.{put_mid}
use Rattle.std.proofs.lemmas.List.{take_all, take_more_set}
use Rattle.std.proofs.lemmas.List.Edits.{sets-eq}
use Rattle.std.proofs.lemmas.Slice.{put_mid-paste}
use Rattle.lists.proofs.Stores.{sets_append}
use Rattle.octets.specs.Bytes.{le}

-- ---- one number

pub length-le : (n v : ℕ) → length (le n v) ≡ n
unfolding le
length-le zero v = refl
length-le (suc n) v = ap suc (length-le n (v / 256))

pub le-zero : (n : ℕ) → le n 0 ≡ replicate n 0
unfolding le
le-zero zero = refl
le-zero (suc n) = ap (λ (l : List ℕ). 0 ∷ l) (le-zero n)

-- one byte more in its place, and the bytes of what is left of the number
pub bytes_turn : (l : List ℕ) (n v k rest : ℕ) → k < n → k < length l
    → le n v ≡ take k l ++ le (n - k) rest → le n v ≡ take (k + 1) (set l k (rest % 256)) ++ le (n - (k + 1)) (rest / 256)
unfolding le
bytes_turn l n v k rest h m e =
    let more : n - k ≡ suc (n - (k + 1)) = omega arith in
    e ∙ rw (take_more_set l k (rest % 256) m, append_assoc, more)

-- all of them
pub bytes_end : (l : List ℕ) (n v k rest : ℕ) → n ≤ k → length l ≡ n → le n v ≡ take k l ++ le (n - k) rest → l ≡ le n v
unfolding le
bytes_end l n v k rest h m e =
    let none : n - k ≡ 0 = omega arith in
    sym (e ∙ rw (none, append-nil, take_all k l (omega arith)))

pub put_bytes : (p l : List ℕ) (at k n v : ℕ) → at + n ≤ length p → n ≡ k → l ≡ le n v → put_mid at k p l ≡ sets p at (le n v)
put_bytes p l at k n v h q e =
    put_mid-paste at k p l (le n v) n e q (sym (length-le n v))
    ∙ rw (sets-eq (le n v) p at (omega (arith, length-le n v)), length-le n v, take_all n (le n v) (omega (arith, length-le n v)))

-- ---- one entry: two numbers of two bytes, and one of n

pub puts : (l : List ℕ) (at a b n v : ℕ)
    → sets (sets (sets l at (le 2 a)) (at + 2) (le 2 b)) (at + 4) (le n v) ≡ sets l at (le 2 a ++ le 2 b ++ le n v)
puts l at a b n v = sym (sets_append l at (le 2 a ++ le 2 b) (le n v) ∙ simp (length-append, length-le, sets_append l at (le 2 a) (le 2 b)))

pub length-entry : (a b n v : ℕ) → length (le 2 a ++ le 2 b ++ le n v) ≡ 4 + n
length-entry a b n v = simp (length-append, length-le)
