-- What a write leaves is never absent, and its number and place can be told from it. Assumes nothing.
use Prim.Native.Nat.{ℕ, ◌+◌, ◌≤◌}
use native.Mathlib.Omega.{arith}
use mathlib.Core.Bool.{Bool, true, false, cond}
use mathlib.Core.Path.{◌≡◌, refl, sym, ap, ◌∙◌}
use lib.Dec.{eqb}
use lib.IntN.{pos}
use borrow.Author.Tests.{le-leb}
use Rattle.ledger.specs.declared.Version.{Version}
use Rattle.ledger.specs.declared.Write.{Write}
use Rattle.ledger.specs.declared.Entry.{Entry}
use Rattle.ledger.specs.Version.{at, deleted, is_deleted, is_absent}
use Rattle.ledger.specs.Commit.{stamp, left}
use Rattle.ledger.proofs.Apart.{present_not_absent, deleted-not-absent}

-- what a delete at a place of 0 to 63 leaves is deleted
deleted_is : (n i : ℕ) → i ≤ 63 → is_deleted (deleted n i) ≡ true
deleted_is n i h = rw (le-leb 32768 (i + 32768) (omega arith), le-leb (i + 32768) 32831 (omega arith))

-- the version that a write leaves at place i under n, where b says that it puts
abbrev version : ℕ → ℕ → Write → Bool → Version
version n i w b = (cond {A = Entry} b (record { version = at n i; value = w.value }) (record { version = deleted n i; value = pos 0 })).version

block_is : (n i : ℕ) (w : Write) (b : Bool) → (version n i w b).block ≡ n
block_is n i w true = refl
block_is n i w false = refl

same_place : (n i m j : ℕ) (w v : Write) (a b : Bool) → i ≤ 63 → j ≤ 63 → version n i w a ≡ version m j v b → i ≡ j
same_place n i m j w v true true h l e = ap (λ (x : Version). x.place) e
same_place n i m j w v true false h l e = let p = ap (λ (x : Version). x.place) e in absurd (omega arith)
same_place n i m j w v false true h l e = let p = ap (λ (x : Version). x.place) e in absurd (omega arith)
same_place n i m j w v false false h l e = let p = ap (λ (x : Version). x.place) e in omega arith

module _ (n i : ℕ) (w : Write) (h : i ≤ 63) where
  -- "Absent is now only a key never written"
  pub left-not-absent : is_absent (left (stamp n i) w).version ≡ false
  left-not-absent = go (eqb w.kind 0)
    where
      go : (b : Bool) → is_absent (version n i w b) ≡ false
      go true = present_not_absent (at n i) (le-leb i 63 h)
      go false = deleted-not-absent (deleted n i) (deleted_is n i h)

  -- number and place can be told from it
  pub left-told : (m j : ℕ) (v : Write) → j ≤ 63 → (left (stamp n i) w).version ≡ (left (stamp m j) v).version → (n ≡ m) × (i ≡ j)
  left-told m j v l e =
      let a = eqb w.kind 0 in
      let b = eqb v.kind 0 in
      (sym (block_is n i w a) ∙ ap (λ (x : Version). x.block) e ∙ block_is m j v b, same_place n i m j w v a b h l e)
