-- The lines of the state, and the texts as a whole. Assumes nothing.
use Prim.Native.Nat.{ℕ, ◌≤◌, ◌<◌}
use mathlib.Core.Path.{◌≡◌, refl, sym, ap}
use mathlib.Core.Bool.{Bool, true, false, and-false, cond}
use mathlib.Core.List.{List, []}
use native.Mathlib.Omega.{arith}
use lib.ListN.{length}
use borrow.Author.Tests.{lt-leb, le-leb, eqb-true, leb-true, not-false}
use Rattle.lists.proofs.Tests.{and_parts}
use Rattle.ledger.specs.declared.Entry.{Entry}
use Rattle.ledger.specs.Version.{is_present}
use Rattle.ledger.specs.State.{State, entry, wrong_lengths}
use Rattle.ledger.specs.Gate.{pages}
use Rattle.report.specs.Put.{Put}
use Rattle.lists.specs.Tables.{filled}
use Rattle.report.specs.Listing.{state_line, key_line, listing, together, listed, refusal, refused}
use Rattle.report.proofs.Puts.{fills, fills_to}

-- ---- the line of a key

pub key_line_lem : (s : State) (k : ℕ) (e : Entry) → e ≡ entry s k → cond (is_present e.version) (state_line k e) [] ≡ key_line s k
unfolding key_line
key_line_lem s k e h = ap (λ (x : Entry). cond (is_present x.version) (state_line k x) []) h

-- ---- the refusal as a whole

module _ (out : List ℕ) (n p : ℕ) where
  pub refused-short : length out < 64 → refused out n p ≡ []
  unfolding refused
  refused-short h = rw (lt-leb 64 (length out) h)

  pub refused_long : 64 ≤ length out → refusal n p ≡ refused out n p
  unfolding refused
  refused_long h = rw (le-leb 64 (length out) h)

  pub refused-not : length out < 64 → (0 ≡ length (refused out n p)) × (out ≡ filled (refused out n p) out)
  refused-not h = rw (refused-short h) (refl, refl)

  pub refused-put : (new : List ℕ) (r : ℕ) → 64 ≤ length out → (r ≤ 64) × Put out 0 (refusal n p) new r
      → (r ≡ length (refused out n p)) × (new ≡ filled (refused out n p) out)
  refused-put new r h x = rw (← refused_long h) (fills_to out (refusal n p) new r x.1, fills out (refusal n p) new r (omega (arith, x.0)) x.1)

-- ---- the listing as a whole

-- what is lent to it
pub record Lent : Type 0 where
  pub out : List ℕ
  pub number : ℕ
  pub batch : List ℕ
  pub verdicts : List ℕ
  pub order : List ℕ
  pub kept : ℕ
  pub state : State

abbrev fit : Lent → Bool
fit l = together l.out l.batch l.verdicts l.order l.kept l.state

abbrev text : Lent → List ℕ
text l = listing l.number l.batch l.verdicts l.order l.kept l.state

-- the answer, and the buffer as it is at the end
abbrev Listed : Lent → ℕ → List ℕ → Type 0
Listed l r new =
    let t = listed l.out l.number l.batch l.verdicts l.order l.kept l.state in
    record { result_value : r ≡ length t; out_after : new ≡ filled t l.out }

-- it goes together
pub record Sized (l : Lent) : Type 0 where
  pub room : 65536 ≤ length l.out
  pub bytes : length l.batch ≤ 32768
  pub judged : pages l.batch ≤ length l.verdicts
  pub ordered : l.kept ≤ length l.order
  pub few : l.kept ≤ 64
  pub level : wrong_lengths l.state ≡ false

-- three lists of one length
pub record Long (s : State) : Type 0 where
  pub places : length s.places ≡ length s.blocks
  pub values : length s.values ≡ length s.blocks
  pub keys : length s.blocks ≤ 1024

pub long : (s : State) → wrong_lengths s ≡ false → Long s
long s e =
    let a = and_parts _ _ (not-false _ e) in
    let b = and_parts _ _ a.0 in
    let c = and_parts _ _ b.0 in
    record {
      places = sym (eqb-true (length s.blocks) (length s.places) c.0);
      values = sym (eqb-true (length s.blocks) (length s.values) c.1);
      keys = leb-true (length s.blocks) 1024 a.1;
    }

module _ (l : Lent) where
  none_listed : fit l ≡ false → Listed l 0 l.out
  unfolding listed
  none_listed e = rw e (record { result_value = refl; out_after = refl })

  -- each way not to go together
  pub short-out : length l.out < 65536 → Listed l 0 l.out
  short-out h = none_listed (rw (lt-leb 65536 (length l.out) h))

  pub long_batch : 32768 < length l.batch → Listed l 0 l.out
  long_batch h = none_listed (simp (lt-leb (length l.batch) 32768 h, and-false))

  pub short-verdicts : length l.verdicts < pages l.batch → Listed l 0 l.out
  short-verdicts h = none_listed (simp (lt-leb (pages l.batch) (length l.verdicts) h, and-false))

  pub short-order : length l.order < l.kept → Listed l 0 l.out
  short-order h = none_listed (simp (lt-leb l.kept (length l.order) h, and-false))

  pub many_kept : 64 < l.kept → Listed l 0 l.out
  many_kept h = none_listed (simp (lt-leb l.kept 64 h, and-false))

  pub wrong_state : wrong_lengths l.state ≡ true → Listed l 0 l.out
  wrong_state e = none_listed (simp (e, and-false))

  all_fit : Sized l → fit l ≡ true
  all_fit z =
      rw (
        le-leb 65536 (length l.out) z.room,
        le-leb (length l.batch) 32768 z.bytes,
        le-leb (pages l.batch) (length l.verdicts) z.judged,
        le-leb l.kept (length l.order) z.ordered,
        le-leb l.kept 64 z.few,
        z.level,
      )

  pub all_listed : (new : List ℕ) (r : ℕ) → Sized l → r ≤ 65536 → Put l.out 0 (text l) new r → Listed l r new
  unfolding listed
  all_listed new r z h x = rw (all_fit z) (record { result_value = fills_to l.out (text l) new r x; out_after = fills l.out (text l) new r (omega (arith, z.room)) x })
