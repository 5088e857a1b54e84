-- A text put into a lent buffer at a position, and a part put behind the text so far. Assumes nothing.
use Rattle.std.specs.Prelude.{ℕ, ◌+◌, ◌≤◌, ◌≡◌, List, length}
use Rattle.std.proofs.lemmas.List.Edits.{sets}
use Rattle.report.specs.declared.put.Text.{Text}

-- the text stands from `at` on, all else is as it was, and `next` is where the text ends
pub record Put (old : List ℕ) (at : ℕ) (text new : List ℕ) (next : ℕ) : Type 0 where
  pub ends : next ≡ at + length text
  pub stands : new ≡ sets old at text

-- from `old` to `new` the part is put behind the text, in at most `room` bytes of the same buffer, which keeps its length
pub record Puts (room : ℕ) (part : List ℕ) (old new : Text) : Type 0 where
  pub same_buffer : new.out.ghost_name ≡ old.out.ghost_name
  pub long : length new.out.now ≡ length old.out.now
  pub bound : new.end ≤ old.end + room
  pub put : Put old.out.now old.end part new.out.now new.end
