-- What owning a transaction tells: each field is within its type, and each array has its type's length. Assumes nothing.
use mathlib.Core.Path.{◌≡◌}
use mathlib.Core.List.{List, [], ◌∷◌}
use Prim.Native.Nat.{ℕ, zero, suc}
use lib.ListN.{length, get_or}
use lib.Dec.{lit<}
use mir.Val.{Val}
use mir.Facts.{sfits_lit}
use base.Fml.{Fml}
use denote.Laws.{Is}
use denote.Shadow.{shadow}
use denote.Array.{each}
use Rattle.ledger.specs.declared.Read.{Read}
use Rattle.ledger.specs.declared.Write.{Write}
use Rattle.ledger.specs.declared.Transaction.{Transaction}
use Rattle.ledger.specs.Tx.{no_read, no_write, ReadFits, WriteFits, TransactionFits}
use Rattle.ledger.specs.contracts.Transaction.{the_row}
use Rattle.ledger.specs.contracts.Read as read_type
use Rattle.ledger.specs.contracts.Write as write_type

-- an element of an array of the program
get : {D : Type 0} (f : D → List Val → Fml) (P : D → Type 0) → ((x : D) (vs : List Val) → shadow (f x vs) → P x)
    → (z : D) → P z → (xs : List D) (us : List Val) (i : ℕ) → shadow (each D f xs us) → P (get_or xs i z)
get f P base z pz [] us i p = pz
get f P base z pz (x ∷ xs) [] i p = absurd p
get f P base z pz (x ∷ xs) (u ∷ us) zero p = base x (u ∷ []) p.0
get f P base z pz (x ∷ xs) (u ∷ us) (suc i) p = get f P base z pz xs us i p.1

-- an owned read or write is within its types
read_fits : (x : Read) (vs : List Val) → shadow (read_type.the_row.own_val x vs) → ReadFits x
read_fits x vs s = record { key = s.1.1.0.1; block = s.1.1.1.0.1.1.0.1; place = s.1.1.1.0.1.1.1.0.1 }

write_fits : (x : Write) (vs : List Val) → shadow (write_type.the_row.own_val x vs) → WriteFits x
write_fits x vs s = record { key = s.1.1.0.1; kind = s.1.1.1.0.1; value = record { sfits = s.1.1.1.1.0.1 } }

module _ (t : Transaction) (vs : List Val) (o : Is the_row t vs) where
  pub owned_fits : TransactionFits t
  owned_fits =
      let arrays = o.1.1.1.1.1 in
      record {
        ticket = o.1.1.0.1;
        reads = λ i l. get read_type.the_row.own_val ReadFits read_fits
            no_read (record { key = lit< tt; place = lit< tt; block = lit< tt }) t.reads arrays.0.0 i arrays.0.1.1;
        writes = λ i l. get write_type.the_row.own_val WriteFits write_fits
            no_write (record { key = lit< tt; kind = lit< tt; value = sfits_lit tt }) t.writes arrays.1.0.0 i arrays.1.0.1.1;
      }

  pub owned_reads : length t.reads ≡ 32
  owned_reads = o.1.1.1.1.1.0.1.0.1

  pub owned_writes : length t.writes ≡ 32
  owned_writes = o.1.1.1.1.1.1.0.1.0.1
