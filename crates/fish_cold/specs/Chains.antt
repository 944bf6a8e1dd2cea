-- The chains of the key entries below the base.
use Rattle.std.specs.Prelude.{ℕ, ◌≡◌, ◌^◌, ◌<◌, List, ◌∷◌, ◌++◌, length, slice_index_or}
use Rattle.fish_image.specs.Newest.{IsAmong}
use Rattle.fish_image.specs.Reached.{Reached, bucket_of_key, head_of}
use Rattle.fish_layout.specs.Pages.{place_of}
use Rattle.fish_layout.specs.declared.parts.BodyParts.{BodyParts}
use Rattle.fish_layout.specs.declared.parts.KeyPart.{KeyPart}
use Rattle.fish_cold.specs.Carries.{IsPrior, IsPriorRecord}

-- key entry j of record n of the prior part has this bucket and place
pub record IsKeyAt {image : List ℕ} {count : ℕ} {end : Reached} (prior : IsPrior image count end) (b place n : ℕ)
    (p : BodyParts)
    (j : ℕ) (k : KeyPart) : Type 0 where
  pub stored : IsPriorRecord prior n p
  pub within : j < length p.keys
  pub is : k ≡ slice_index_or p.keys j k
  pub bucket : bucket_of_key (2 ^ prior.commit.bucket_bits) k ≡ b
  pub place_is : place ≡ place_of stored.at.line j

-- the key entry at a place of a bucket leads on to the newest of the older ones in the bucket, which are after it in
-- the list
pub record IsLink {image : List ℕ} {count : ℕ} {end : Reached} (prior : IsPrior image count end) (b place : ℕ)
    (behind : List (ℕ × ℕ)) : Type 0 where
  pub number : ℕ
  pub parts : BodyParts
  pub place_in : ℕ
  pub key : KeyPart
  pub at : IsKeyAt prior b place number parts place_in key
  pub next : key.prev ≡ head_of behind b
  pub lower : key.prev < place

-- a bucket's newest key entry is after others of which none is of the bucket
pub record Splits (places : List (ℕ × ℕ)) (b : ℕ) : Type 0 where
  pub before : List (ℕ × ℕ)
  pub behind : List (ℕ × ℕ)
  pub parted : places ≡ before ++ (b, head_of places b) ∷ behind
  pub none : (p : ℕ) → IsAmong before b p → ⊥
