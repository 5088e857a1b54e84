-- Document 01, 'Version check and commit'. Assumes nothing.
use Rattle.std.specs.Prelude.{ℕ, suc, Bool, cond, List, [], ◌∷◌, ◌++◌, length, drop, eqb, ltb, pos, Result}
use Rattle.lists.specs.Members.{all, those}
use Rattle.refusals.specs.declared.Refusal.{Refusal}
use Rattle.refusals.specs.Outcome.{Outcome, outcome}
use Rattle.refusals.specs.Fault.{Row, first, judged, after}
use Rattle.ledger.specs.declared.Version.{Version}
use Rattle.ledger.specs.declared.Read.{Read}
use Rattle.ledger.specs.declared.Write.{Write}
use Rattle.ledger.specs.declared.Entry.{Entry}
use Rattle.ledger.specs.declared.Stamp.{Stamp}
use Rattle.ledger.specs.Version.{at, deleted, same}
use Rattle.ledger.specs.Tx.{Tx}
use Rattle.ledger.specs.State.{State, versions, store}
use Rattle.ledger.specs.Gate.{pages, txs, lent_row, gate_rows}

-- a read "names the version that its key has": `held` tells the version of each key
abbrev pub names : (ℕ → Version) → Read → Bool
names held r = same r.version (held r.key)

-- "A page passes when each of its reads names the version that its key has now"
unfoldable pub passes : (ℕ → Version) → Tx → Bool
passes held x = all (names held) x.reads

-- (n, i), what a page's writes are marked with
abbrev pub stamp : ℕ → ℕ → Stamp
stamp n i = record { number = n; place = i }

-- "Its puts set value and version (n, i), also where the value is unchanged."
-- 02, E3: "a delete, also of an absent key, leaves value 0 and version (n, i + 32768)"
abbrev pub left : Stamp → Write → Entry
left t w =
    cond (eqb w.kind 0)
    (record { version = at t.number t.place; value = w.value })
    (record { version = deleted t.number t.place; value = pos 0 })

unfoldable pub write : Stamp → State → List Write → State
write t s [] = s
write t s (w ∷ ws) = write t (store s w.key (left t w)) ws

-- "A page that fails .. changes nothing"
unfoldable pub after_page : ℕ → ℕ → State → Tx → State
after_page n i s x = cond (passes (versions s) x) (write (stamp n i) s x.writes) s

-- "A passing page gets verdict 0." "A page that fails gets verdict 3"
abbrev pub check_verdict : State → Tx → ℕ
check_verdict s x = cond (passes (versions s) x) 0 3

-- "Take the pages in batch order, the page at index i as place i": the state after them, from place i on
unfoldable pub commit : ℕ → ℕ → State → List Tx → State
commit n i s [] = s
commit n i s (x ∷ xs) = commit n (suc i) (after_page n i s x) xs

-- and their verdicts: each page "still uses up its place"
unfoldable pub verdicts : ℕ → ℕ → State → List Tx → List ℕ
verdicts n i s [] = []
verdicts n i s (x ∷ xs) = check_verdict s x ∷ verdicts n (suc i) (after_page n i s x) xs

-- "its result is the number of passing pages"
unfoldable pub passed : List ℕ → ℕ
passed vs = length (those (eqb 0) vs)

-- ---- the service

-- the outcome, and what was lent at the end
pub record Commits : Type 0 where
  pub answer : Outcome ℕ
  pub state : State
  pub verdicts : List ℕ

-- "Commit is lent only verdicts for 14"
abbrev pub commit_rows : List ℕ → State → ℕ → List ℕ → List Row
commit_rows batch s n vs = gate_rows (lent_row (ltb (length vs) (pages batch)) ∷ []) batch s n

-- "Each commit fills m verdicts and the state, and its result is the number of passing pages."
-- "Any refusal returns its number and a place, and leaves all lent lists and bytes unchanged."
unfoldable pub commit_batch : List ℕ → State → ℕ → List ℕ → Commits
commit_batch batch s n vs =
    let wrong = first (commit_rows batch s n vs) in
    let new = verdicts n 0 s (txs batch) in
    record {
      answer = judged wrong (passed new);
      state = after wrong (commit n 0 s (txs batch)) s;
      verdicts = after wrong (new ++ drop (pages batch) vs) vs;
    }

-- the answer of commit as an outcome, with what was lent as it is at the end
abbrev pub committed : Result ℕ Refusal → State → List ℕ → Commits
committed a s vs = record { answer = outcome a; state = s; verdicts = vs }
