-- Document 02, 'E3: A closed lot is not a lot that never was', over any number of calls one after the other. Assumes nothing.
use Rattle.std.specs.Prelude.{ℕ, ◌+◌, ◌<◌, false, not, List, [], ◌∷◌, ◌≡◌, get_or, T}
use Rattle.lists.specs.Members.{◌∈◌}
use Rattle.lists.specs.Tables.{tab}
use Rattle.refusals.specs.Outcome.{Outcome, gives}
use Rattle.ledger.specs.declared.Version.{Version}
use Rattle.ledger.specs.declared.Write.{Write}
use Rattle.ledger.specs.declared.Entry.{Entry}
use Rattle.ledger.specs.Version.{absent, is_absent}
use Rattle.ledger.specs.Tx.{writer}
use Rattle.ledger.specs.State.{State, entry}
use Rattle.ledger.specs.Gate.{pages, tx_at}
use Rattle.ledger.specs.Commit.{commit, commit_batch}
use Rattle.planning.specs.Plan.{plan_batch}
use Rattle.planning.specs.Joined.{plan_and_commit}
use Rattle.claims.specs.Third.{verdict_at}

-- ---- calls one after the other

-- a call that is lent the state to change: commit, or the joined call, of a batch under n, with the lists lent for what it fills
pub data Call : Type 0 where
  commits : (batch : List ℕ) → (n : ℕ) → (vs : List ℕ) → Call
  joins : (batch : List ℕ) → (n : ℕ) → (vs os : List ℕ) → Call

-- the state that a call leaves; where it is refused, the state as it was
abbrev pub next : State → Call → State
next s (commits batch n vs) = (commit_batch batch s n vs).state
next s (joins batch n vs os) = (plan_and_commit batch s n vs os).state

-- the state after calls one after the other, under any numbers whatever
unfoldable pub after_calls : State → List Call → State
after_calls s [] = s
after_calls s (c ∷ cs) = after_calls (next s c) cs

-- a page that stands writes k, by what a call on its batch answers and leaves in the verdicts
pub record Writes (batch : List ℕ) (answer : Outcome ℕ) (vs : List ℕ) (k : ℕ) : Type 0 where
  pub count : ℕ
  pub taken : answer ≡ gives count
  pub page : ℕ
  pub inside : page < pages batch
  pub stands : verdict_at vs page ≡ 0
  pub writes : T (writer (tx_at batch page) k)

-- a call on the state s that is not refused writes k
abbrev pub Wrote : State → Call → ℕ → Type 0
Wrote s (commits batch n vs) k = let c = commit_batch batch s n vs in Writes batch c.answer c.verdicts k
Wrote s (joins batch n vs os) k = let j = plan_and_commit batch s n vs os in Writes batch j.answer j.verdicts k

-- what is certain of a key that was once written, in a later state
pub record Known (s : State) (k : ℕ) : Type 0 where
  -- "Absent is now only a key never written"
  pub not-absent : is_absent (entry s k).version ≡ false
  -- a page that reads it as absent fails the check
  pub fails :
      (batch : List ℕ) (n : ℕ) (vs : List ℕ) (count i : ℕ) → (commit_batch batch s n vs).answer ≡ gives count →
      i < pages batch → record { key = k; version = absent } ∈ (tx_at batch i).reads →
      get_or (commit_batch batch s n vs).verdicts i 0 ≡ 3
  -- and is planned as stale, by the joined call too
  pub stale :
      (batch : List ℕ) (n : ℕ) (vs os out : List ℕ) (count i : ℕ) → (plan_batch batch s n vs os out).answer ≡ gives count →
      i < pages batch → record { key = k; version = absent } ∈ (tx_at batch i).reads →
      verdict_at (plan_batch batch s n vs os out).verdicts i ≡ 1
  pub joined-stale :
      (batch : List ℕ) (n : ℕ) (vs os : List ℕ) (count i : ℕ) → (plan_and_commit batch s n vs os).answer ≡ gives count →
      i < pages batch → record { key = k; version = absent } ∈ (tx_at batch i).reads →
      verdict_at (plan_and_commit batch s n vs os).verdicts i ≡ 1

-- ---- what a passing write leaves

-- a commit that is not refused, a page i that passes, and one of its writes
pub record PassingWrite (batch : List ℕ) (s : State) (n : ℕ) (vs : List ℕ) (i : ℕ) (w : Write) : Type 0 where
  pub count : ℕ
  pub taken : (commit_batch batch s n vs).answer ≡ gives count
  pub inside : i < pages batch
  pub passes : verdict_at (commit_batch batch s n vs).verdicts i ≡ 0
  pub on_page : w ∈ (tx_at batch i).writes

-- the state once the first j pages are committed
abbrev pub reached : List ℕ → State → ℕ → ℕ → State
reached batch s n j = commit n 0 s (tab j (tx_at batch))

-- the version that a write of page i leaves at its key
abbrev pub version_left : List ℕ → State → ℕ → ℕ → Write → Version
version_left batch s n i w = (entry (reached batch s n (i + 1)) w.key).version

-- page i leaves e at key k
pub record Leaves (batch : List ℕ) (s : State) (n : ℕ) (vs : List ℕ) (i k : ℕ) (e : Entry) : Type 0 where
  -- directly after it
  pub at_once : entry (reached batch s n (i + 1)) k ≡ e
  -- and at the end, where no later page that passes writes k
  pub at_end :
      ((u : ℕ) → i < u → u < pages batch → verdict_at (commit_batch batch s n vs).verdicts u ≡ 0 → T (not (writer (tx_at batch u) k))) →
      entry (commit_batch batch s n vs).state k ≡ e
