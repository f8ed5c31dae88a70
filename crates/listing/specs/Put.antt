-- What a function that puts text into a lent buffer promises.
-- For the proofs: no public promise rests on what this page says.
use Rattle.std.specs.Prelude.{ℕ, ◌+◌, ◌≡◌, List, length}
use Rattle.std.proofs.lemmas.List.Edits.{sets}

-- the text is stored from `at` on and ends at `end`, and no other byte of the buffer changes
pub record Put (text before after : List ℕ) (at end : ℕ) : Type 0 where
  pub bytes : after ≡ sets before at text
  pub same : length after ≡ length before
  pub ends : end ≡ at + length text
