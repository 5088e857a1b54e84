-- Laws of texts put into a buffer one after the other. Assumes nothing.
use Prim.Native.Nat.{ℕ, ◌+◌, ◌≤◌}
use mathlib.Core.Path.{◌≡◌, refl, sym, ap, ◌∙◌}
use mathlib.Core.List.{List, [], ◌++◌, append_assoc}
use native.Mathlib.Nat.{zero-add, add-zero}
use native.Mathlib.Omega.{arith}
use lib.ListN.{length, take, drop, length-append}
use borrow.Rule.Slice.PartMut.{put_mid}
use lib.Seq.{length-sets, sets, sets-eq, drop-drop}
use Rattle.lists.proofs.Stores.{sets_append}
use Rattle.lists.specs.Tables.{flat, filled}
use Rattle.lists.proofs.Tables.{flat-next}
use Rattle.report.specs.declared.put.Text.{Text}
use Rattle.report.specs.Put.{Put, Puts}

-- nothing is put
pub none : (r : ℕ) (t : Text) → Puts r [] t t
none r t = record { same_buffer = refl; long = refl; bound = omega arith; put = record { ends = sym (add-zero t.end); stands = refl } }

-- a text is put whose bytes fit in the room
pub fitting : {r : ℕ} {a : List ℕ} {t u : Text} → u.out.ghost_name ≡ t.out.ghost_name → u.end ≤ t.end + r → Put t.out.now t.end a u.out.now u.end → Puts r a t u
fitting {r} {a} {t} {u} n h x = record { same_buffer = n; long = ap length x.stands ∙ length-sets t.out.now t.end a; bound = h; put = x }

-- two parts, one after the other
infixr 30 ◌then◌
pub ◌then◌ : {r s : ℕ} {a b : List ℕ} {t u v : Text} → Puts r a t u → Puts s b u v → Puts (r + s) (a ++ b) t v
◌then◌ {r} {s} {a} {b} {t} {u} {v} x y = record {
  same_buffer = y.same_buffer ∙ x.same_buffer;
  long = y.long ∙ x.long;
  bound = omega (arith, x.bound, y.bound);
  put = record {
    ends = rw (length-append a b) (omega (arith, x.put.ends, y.put.ends));
    stands = y.put.stands ∙ rw (x.put.stands, x.put.ends) (sym (sets_append t.out.now t.end a b));
  };
}

-- the same in more room
pub in_room : {r s : ℕ} {a : List ℕ} {t u : Text} → r ≤ s → Puts r a t u → Puts s a t u
in_room {r} {s} {a} {t} {u} h x = record { same_buffer = x.same_buffer; long = x.long; bound = omega (arith, x.bound); put = x.put }

-- the same under equal names
pub puts_as : {r : ℕ} {a b : List ℕ} {t u : Text} → a ≡ b → Puts r a t u → Puts r b t u
puts_as {r} {a} {b} {t} {u} e x = rw (← e) x

-- the first text is put into an empty one
pub started : {l o m t : List ℕ} {at p : ℕ} → (at ≡ 0) × (o ≡ l) → Put o at t m p → Put l 0 t m p
started {l} {o} {m} {t} {at} {p} e x = rw (e.1, e.0) at x

-- the buffer as it is at last
pub at_last : {x : List ℕ} (m new : List ℕ) → m ≡ x → new ≡ m → new ≡ x
at_last m new e f = f ∙ e

-- a text put at the front fills the buffer
pub fills : (l text m : List ℕ) (p : ℕ) → p ≤ length l → Put l 0 text m p → m ≡ filled text l
fills l text m p h x =
    let e : length text ≡ p = omega (arith, x.ends) in
    let k : length text ≤ length l = omega arith in
    x.stands ∙ sets-eq text l 0 (rw zero-add k) ∙ rw zero-add

pub fills_to : (l text m : List ℕ) (p : ℕ) → Put l 0 text m p → p ≡ length text
fills_to l text m p x = omega (arith, x.ends)

-- a part that a text is copied over
pub copied : (out text new : List ℕ) (at k : ℕ) → at + length text ≤ length out → k ≡ length text → new ≡ text → put_mid at k out new ≡ sets out at text
copied out text new at k h e f =
    rw (f, e)
    (ap (λ l. take at out ++ (text ++ l)) (drop-drop (length text) at out)
    ∙ sym (append_assoc (take at out) text (drop (at + length text) out))
    ∙ sym (sets-eq text out at h))

-- one line more
pub more_lines : (f : ℕ → List ℕ) {r s q i : ℕ} {x : List ℕ} {t u v : Text} → r + s ≤ q → x ≡ f i → Puts r (flat i f) t u → Puts s x u v → Puts q (flat (i + 1) f) t v
more_lines f {r} {s} {q} {i} {x} {t} {u} {v} h e y z = puts_as (sym (flat-next f i)) (in_room h (y then (puts_as e z)))
