-- What is stored in a lent buffer. Assumes nothing.
use Rattle.std.specs.Prelude.{ℕ, ◌+◌, ◌≡◌, List, length}
use Rattle.std.proofs.lemmas.List.Edits.{sets}

-- `text` stands at the front of a lent buffer, all else is as before, and r is its length
pub record Written (text : List ℕ) (r : ℕ) (before after : List ℕ) : Type 0 where
  pub count : r ≡ length text
  pub stored : after ≡ sets before 0 text

-- `text` stands behind n bytes of a lent buffer, all else is as before, and r is the place behind it
pub record Added (text : List ℕ) (n r : ℕ) (before after : List ℕ) : Type 0 where
  pub count : r ≡ n + length text
  pub stored : after ≡ sets before n text
