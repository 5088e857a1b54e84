-- "A version is a block number and a place." Assumes nothing.
use Rattle.std.specs.Prelude.{Bool, ◌&&◌, ℕ, ◌+◌, eqb, leb}
use Rattle.ledger.specs.declared.Version.{Version}

-- "Absent is block 0, place 65535, value 0"
abbrev pub absent : Version
absent = record { block = 0; place = 65535 }

-- the version at a block and a place
abbrev pub at : ℕ → ℕ → Version
at b p = record { block = b; place = p }

-- 02, E3: "a delete .. leaves .. version (n, i + 32768)"
abbrev pub deleted : ℕ → ℕ → Version
deleted n i = at n (i + 32768)

-- two versions are the same
abbrev pub same : Version → Version → Bool
same a b = eqb a.block b.block && eqb a.place b.place

-- ---- which of the three a version is

-- present: "a place of 0 to 63"
abbrev pub is_present : Version → Bool
is_present v = leb v.place 63

-- deleted; 02, E3: "place 32768 to 32831"
abbrev pub is_deleted : Version → Bool
is_deleted v = leb 32768 v.place && leb v.place 32831

-- absent; 02, E3: "Absent is now only a key never written"
abbrev pub is_absent : Version → Bool
is_absent v = same v absent
