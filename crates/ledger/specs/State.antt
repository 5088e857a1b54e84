-- Document 01, 'Ledger state'. Assumes nothing.
use Rattle.std.specs.Prelude.{ℕ, Bool, not, ◌&&◌, ◌||◌, List, ◌∷◌, length, get_or, set, eqb, leb, ltb, ℤ, pos, ◌≡◌}
use Rattle.refusals.specs.Fault.{Row, row, each_row}
use Rattle.ledger.specs.declared.Version.{Version}
use Rattle.ledger.specs.declared.Entry.{Entry}
use Rattle.ledger.specs.declared.state.State.{State as Lent}
use Rattle.ledger.specs.declared.state.StateMut.{StateMut}
use Rattle.ledger.specs.Value.{is_zero}
use Rattle.ledger.specs.Version.{absent, at, is_present, is_deleted, is_absent}

-- "Three lists of one length K, 1 to 1024: block numbers .., places .., values in kilograms"
pub record State : Type 0 where
  pub blocks : List ℕ
  pub places : List ℕ
  pub values : List ℤ

-- the three lists as one state
abbrev pub state_of : List ℕ → List ℕ → List ℤ → State
state_of b p v = record { blocks = b; places = p; values = v }

-- the state in three lists that are lent to be read
abbrev pub lent : Lent → State
lent l = state_of l.blocks.now l.places.now l.values.now

-- the state in three lists that are lent to be written
abbrev pub held : StateMut → State
held l = state_of l.blocks.now l.places.now l.values.now

-- the lists are those that were lent
abbrev pub SameLists : StateMut → StateMut → Type 0
SameLists l m =
    (m.blocks.ghost_name ≡ l.blocks.ghost_name)
    × (m.places.ghost_name ≡ l.places.ghost_name)
    × (m.values.ghost_name ≡ l.values.ghost_name)

-- "Absent is block 0, place 65535, value 0": the entry of a key never written
abbrev pub never : Entry
never = record { version = absent; value = pos 0 }

-- K
abbrev pub keys : State → ℕ
keys s = length s.blocks

-- "Key k is index k": the version of each key, by the lists of block numbers and places
abbrev pub versions_in : List ℕ → List ℕ → ℕ → Version
versions_in blocks places k = at (get_or blocks k 0) (get_or places k 0)

abbrev pub versions : State → ℕ → Version
versions s = versions_in s.blocks s.places

unfoldable pub entry : State → ℕ → Entry
entry s k = record { version = versions s k; value = get_or s.values k (pos 0) }

unfoldable pub store : State → ℕ → Entry → State
store s k e = record {
  blocks = set s.blocks k e.version.block;
  places = set s.places k e.version.place;
  values = set s.values k e.value;
}

-- "every present entry must have a block number below n"
abbrev pub present_under : ℕ → Version → Bool
present_under n v = is_present v && ltb v.block n

-- 02, E3: "block below n"
abbrev pub deleted_under : ℕ → Version → Bool
deleted_under n v = is_deleted v && ltb v.block n

-- an entry that is neither present nor deleted nor absent; 02, E3: "7 and 13 allow the new places, 13 with value 0 and block below n"
abbrev pub wrong_entry : ℕ → Entry → Bool
wrong_entry n e = not (present_under n e.version || ((deleted_under n e.version || is_absent e.version) && is_zero e.value))

-- three lists that are unequal, empty or over 1024 long
abbrev pub wrong_lengths : State → Bool
wrong_lengths s =
    not
    (eqb (length s.blocks) (length s.places)
    && eqb (length s.blocks) (length s.values)
    && ltb 0 (length s.blocks)
    && leb (length s.blocks) 1024)

-- ---- the table of a state, in turn

-- "12: state lists unequal, empty or over 1024"; "13: state entry of another form, or present with block not below n"
unfoldable pub state_rows : State → ℕ → List Row
state_rows s n = row 12 0 (wrong_lengths s) ∷ each_row 13 (keys s) (λ k. wrong_entry n (entry s k))
