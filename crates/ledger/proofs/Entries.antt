-- Entries of the state: when one is wrong. Assumes nothing.
use mathlib.Core.Path.{◌≡◌, sym, ap}
use mathlib.Core.Bool.{true, false, not, and-true, and-false}
use Prim.Native.Nat.{ℕ}
use lib.Dec.{leb, ltb}
use lib.IntN.{ℤ}
use borrow.Author.Tests.{not-true, not-false}
use Rattle.lists.specs.Search.{first_in, some_in}
use Rattle.lists.proofs.Searches.{missed, first_none}
use Rattle.lists.proofs.Tests.{leb-not, or-false}
use Rattle.ledger.specs.declared.Version.{Version}
use Rattle.ledger.specs.declared.Entry.{Entry}
use Rattle.ledger.specs.Value.{is_zero}
use Rattle.ledger.specs.Version.{is_present, is_deleted, is_absent}
use Rattle.ledger.specs.State.{State, keys, versions, entry, present_under, wrong_entry}
use Rattle.ledger.proofs.Apart.{present_not_deleted, present_not_absent, deleted-not-absent}

module _ (n : ℕ) (v : Version) (x : ℤ) where
  abbrev it : Entry
  it = record { version = v; value = x }

  -- of a present entry the block decides
  pub wrong_present : is_present v ≡ true → leb n v.block ≡ wrong_entry n it
  wrong_present e =
      rw (present_not_deleted v e, present_not_absent v e, e, leb-not n v.block) (ap not (sym (or-false (ltb v.block n))))

  module _ (e : is_present v ≡ false) where
    -- of any other the value is 0
    pub wrong_valued : is_zero x ≡ false → true ≡ wrong_entry n it
    wrong_valued z = rw (e, z, and-false)

    module _ (z : is_zero x ≡ true) where
      -- and of a deleted one the block decides
      pub wrong_deleted : is_deleted v ≡ true → leb n v.block ≡ wrong_entry n it
      wrong_deleted d = rw (e, z, deleted-not-absent v d, d, leb-not n v.block, and-true, or-false)

      pub wrong_other : is_deleted v ≡ false → not (is_absent v) ≡ wrong_entry n it
      wrong_other d = rw (e, z, d, and-true)

-- where each version is one of a present entry, none is wrong
module _ (s : State) (n : ℕ) (all : not (some_in (λ k. not (present_under n (versions s k))) 0 (keys s)) ≡ true) where
  right : (k : ℕ) → present_under n (versions s k) ≡ true → wrong_entry n (entry s k) ≡ false
  unfolding entry
  right k e = rw e

  pub none_wrong : keys s ≡ first_in (λ k. wrong_entry n (entry s k)) 0 (keys s)
  none_wrong =
      sym (first_none _ (keys s)
      (λ k l. right k (not-false (present_under n (versions s k)) (missed (λ j. not (present_under n (versions s j))) (keys s) (not-true _ all) k l))))
