-- The definition that a name means.
use Rattle.std.specs.Prelude.{ℕ, ◌≡◌, ◌≢◌, ◌<◌, List, Some, slice_get}
use Rattle.fish_catalog.specs.declared.listed.Listed.{Listed}

-- no definition has the name
abbrev pub HasNone : List Listed → List ℕ → Type 0
HasNone rows name = (i : ℕ) (l : Listed) → slice_get rows i ≡ Some l → l.name ≢ name

-- the definition at a place has the name, and none after it has
pub record IsNewestListed (rows : List Listed) (name : List ℕ) (position : ℕ) : Type 0 where
  pub listed : Listed
  pub there : slice_get rows position ≡ Some listed
  pub named : listed.name ≡ name
  pub last : (i : ℕ) (l : Listed) → position < i → slice_get rows i ≡ Some l → l.name ≢ name
