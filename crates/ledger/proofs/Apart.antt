-- A version is at most one of present, deleted and absent. Assumes nothing.
use mathlib.Core.Path.{◌≡◌, ap, ◌∙◌}
use mathlib.Core.Bool.{true, false, ◌&&◌, and-false}
use native.Mathlib.Omega.{arith}
use lib.Dec.{eqb, leb}
use borrow.Author.Tests.{leb-true, lt-leb, ne_eqb}
use Rattle.lists.proofs.Tests.{and_parts}
use Rattle.ledger.specs.declared.Version.{Version}
use Rattle.ledger.specs.Version.{is_present, is_deleted, is_absent}

module _ (v : Version) where
  -- absent has its place alone
  other_place : (v.place ≡ 65535 → ⊥) → is_absent v ≡ false
  other_place h = ap (λ b. eqb v.block 0 && b) (ne_eqb v.place 65535 h) ∙ and-false (eqb v.block 0)

  pub present_not_deleted : is_present v ≡ true → is_deleted v ≡ false
  present_not_deleted e = let low = leb-true v.place 63 e in rw (lt-leb 32768 v.place (omega arith))

  pub present_not_absent : is_present v ≡ true → is_absent v ≡ false
  present_not_absent e = let low = leb-true v.place 63 e in other_place (λ q. omega arith)

  pub deleted-not-absent : is_deleted v ≡ true → is_absent v ≡ false
  deleted-not-absent e =
      let high = leb-true v.place 32831 (and_parts (leb 32768 v.place) (leb v.place 32831) e).1 in
      other_place (λ q. omega arith)
