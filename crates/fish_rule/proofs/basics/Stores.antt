-- What a store of one word makes of the words of a record in flight.
use Rattle.std.proofs.Common.{◌≡◌, ◌≢◌, ℕ, ◌<◌, ◌≤◌, List, length, get_or}
use Rattle.fish_layout.specs.Cleared.{body_of}
use Rattle.fish_rule.specs.Parts.{IsLinkedWord}

-- words become these by a store of x at offset o of a region of so many words: either after those that are
-- there, or, once entries are linked, in a key entry's first word alone
pub record Becomes (size linked o x : ℕ) (keyed void : Type 0) (words words' : List ℕ) : Type 0 where
  pub within : o < size
  pub unlinked : ¬ IsLinkedWord linked o
  pub fits : length words' ≤ size
  pub longer : length words ≤ length words'
  pub here : o < length words'
  pub value : get_or words' o 0 ≡ x
  pub same : (i : ℕ) → i ≢ o → i < length words' → (i < length words) × (get_or words' i 0 ≡ get_or words i 0)
  pub linking : 0 < linked → keyed × (length words' ≡ length words) × (body_of words' ≡ body_of words)
  pub header : void → length words' ≤ 1
