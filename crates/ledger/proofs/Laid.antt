-- A page laid out by stores from the front. Assumes nothing.
use mathlib.Core.Path.{◌≡◌, refl, sym, ap, ◌∙◌}
use mathlib.Core.List.{List, ◌++◌, append-nil}
use Prim.Native.Nat.{ℕ, zero, suc, ◌+◌, ◌-◌, ◌*◌, ◌≤◌}
use native.Mathlib.Nat.{zero-add}
use native.Mathlib.Omega.{arith}
use lib.ListN.{length, replicate, length-append, length-replicate, replicate-append-replicate, get_or-append}
use lib.Seq.{sets, sets-eq, take_at, drop_at, drop-length}
use Rattle.lists.proofs.Stores.{sets_append}
use Rattle.lists.specs.Tables.{flat}
use Rattle.octets.specs.Bytes.{le, weighed}
use Rattle.ledger.specs.Page.{size, head_bytes}
use Rattle.lists.proofs.Tables.{length-flat}
use Rattle.octets.proofs.Stored.{length-le}

-- the check of the front depends on the front alone
pub weighed_front : (a b : List ℕ) (n : ℕ) → n ≤ length a → weighed (a ++ b) n ≡ weighed a n
unfolding weighed
weighed_front a b zero h = refl
weighed_front a b (suc n) h = rw (weighed_front a b n (omega arith), get_or-append a b 0 n h)

-- stores from the front of zeros
pub sets_zeros : (a : List ℕ) (n m : ℕ) → length a + n ≡ m → sets (replicate m 0) 0 a ≡ a ++ replicate n 0
sets_zeros a n m e =
    sets-eq a (replicate m 0) 0 (omega (arith, length-replicate {A = ℕ} m 0))
    ∙ ap (λ (l : List ℕ). a ++ l)
    (rw (zero-add, ← e, ← replicate-append-replicate {A = ℕ} (length a) n 0)
    (drop_at (replicate (length a) 0) (replicate n 0) (length a) (length-replicate {A = ℕ} (length a) 0)))

-- stores that reach the end
pub sets_end : (a b c : List ℕ) (n : ℕ) → length a ≡ n → length c ≡ length b → sets (a ++ b) n c ≡ a ++ c
sets_end a b c n e h =
    let whole : n + length c ≡ length (a ++ b) = omega (arith, length-append a b) in
    sets-eq c (a ++ b) n (omega arith) ∙ rw (take_at a b n e, whole, drop-length (a ++ b)) (append-nil (a ++ c))

-- a head, r reads f, w writes g, zeros up to 507, and the check
module _ (r w ticket : ℕ) (f g : ℕ → List ℕ) where
  abbrev pub front : List ℕ
  front = head_bytes r w ticket

  abbrev pub up_to_writes : List ℕ
  up_to_writes = front ++ flat r f

  abbrev pub up_to_spare : List ℕ
  up_to_spare = up_to_writes ++ flat w g

  abbrev pub body : List ℕ
  body = up_to_spare ++ replicate (500 - size r w) 0

  abbrev pub whole : List ℕ
  whole = body ++ le 4 (weighed body 508)

  pub length_front : length front ≡ 8
  length_front = simp length-le

  module _ (each_read : (i : ℕ) → length (f i) ≡ 8) (each_write : (i : ℕ) → length (g i) ≡ 12) where
    pub length_two : length up_to_writes ≡ 8 + 8 * r
    length_two = length-append front _ ∙ omega (arith, length_front, length-flat 8 f each_read r)

    pub length_three : length up_to_spare ≡ 8 + size r w
    length_three = length-append up_to_writes _ ∙ omega (arith, length_two, length-flat 12 g each_write w)

    -- the stores in turn
    pub stored : (l : List ℕ) → sets (sets (sets l 0 front) 8 (flat r f)) (8 + 8 * r) (flat w g) ≡ sets l 0 up_to_spare
    stored l = sym (sets_append l 0 up_to_writes (flat w g) ∙ rw (zero-add, length_two, sets_append l 0 front (flat r f), zero-add, length_front))

    module _ (room : size r w ≤ 500) where
      pub length_body : length body ≡ 508
      length_body = length-append up_to_spare _ ∙ omega (arith, length_three, length-replicate {A = ℕ} (500 - size r w) 0)

      pub length_whole : length whole ≡ 512
      length_whole = length-append body _ ∙ omega (arith, length_body, length-le 4 (weighed body 508))
