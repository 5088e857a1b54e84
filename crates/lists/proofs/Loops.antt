-- What a searching loop keeps, from its beginning to its end. Assumes nothing.
use mathlib.Core.Path.{◌≡◌, refl, sym, ap, ap₂, ◌∙◌}
use mathlib.Core.Bool.{Bool, true, false, ◌||◌}
use Prim.Native.Nat.{ℕ, ◌+◌, ◌≤◌, ◌<◌}
use native.Mathlib.Nat.{le_refl, le_antisymm}
use native.Mathlib.Numerals.{add-one}
use native.Mathlib.Omega.{arith}
use Rattle.std.specs.Prelude.{Some, None}
use Rattle.lists.specs.Search.{first_in, some_in, found_in}
use Rattle.lists.proofs.Searches.{hit, miss, done, some, none, none_at, some-last}

-- the search from `from` on is still to be decided at i
pub record Unfound (bad : ℕ → Bool) (from to i : ℕ) : Type 0 where
  pub within : i ≤ to
  pub same : first_in bad from to ≡ first_in bad i to

pub begins : (bad : ℕ → Bool) (from to : ℕ) → from ≤ to → Unfound bad from to from
begins bad from to h = record { within = h; same = refl }

module _ {bad : ℕ → Bool} {from to i : ℕ} (u : Unfound bad from to i) where
  -- the loop stops where the test holds
  pub found : i < to → bad i ≡ true → i ≡ first_in bad from to
  found l e = sym (u.same ∙ hit bad i to l e)

  -- it goes on where the test fails
  pub passes : i < to → bad i ≡ false → Unfound bad from to (i + 1)
  passes l e = record { within = omega arith; same = u.same ∙ miss bad i to l e }

  -- it gives the end where nothing is left
  pub ends : to ≤ i → to ≡ first_in bad from to
  ends h = sym (u.same ∙ rw (le_antisymm u.within h) (done bad to))

  -- a loop that gives the index where the test holds, and none where nothing is left
  pub gives-found : i < to → bad i ≡ true → Some i ≡ found_in bad from to
  gives-found l e = let f = found l e in rw (some bad from to i f l) (ap Some f)

  pub gives-none : to ≤ i → None ≡ found_in bad from to
  gives-none h = rw (none bad from to to (ends h) (le_refl to))

-- ---- what a loop keeps that joins a test over all its indexes, and that none of them ends

-- the test holds at some index below i
pub record Joined (bad : ℕ → Bool) (to i : ℕ) (some : Bool) : Type 0 where
  pub within : i ≤ to
  pub so_far : some ≡ some_in bad 0 i

pub joined_begins : (bad : ℕ → Bool) (to : ℕ) → Joined bad to 0 false
joined_begins bad to = record { within = omega arith; so_far = sym (none_at bad 0 (λ i h. absurd (omega arith))) }

module _ {bad : ℕ → Bool} {to i : ℕ} {some : Bool} (j : Joined bad to i some) where
  pub joined_turns : (here new : Bool) → i < to → here ≡ bad i → new ≡ (some || here) → Joined bad to (i + 1) new
  joined_turns here new l e f = record {
    within = omega arith;
    so_far = f ∙ ap₂ (λ a b. a || b) j.so_far e ∙ sym (some-last bad i) ∙ ap (λ n. some_in bad 0 n) (sym (add-one i));
  }

  pub joined-ends : to ≤ i → some ≡ some_in bad 0 to
  joined-ends h = j.so_far ∙ ap (λ n. some_in bad 0 n) (le_antisymm j.within h)
