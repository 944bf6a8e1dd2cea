-- A record whose entries are linked one by one, each into the bucket of its key.
use Rattle.std.proofs.Common.{◌≡◌, ℕ, ◌<◌, List, length, sym, ap, ◌∙◌, subst, Some}
use Rattle.std.specs.List.{slice_get}
use Rattle.fish_layout.proofs.Buckets.{bucket_of-body}
use Rattle.fish_chain.specs.Links.{CanLink}
use Rattle.fish_claim.proofs.Filled.{body_keys, filled_publish}
use Rattle.fish_claim.specs.Fills.{IsFilled}
use Rattle.fish_layout.specs.Body.{IsBody}
use Rattle.fish_layout.specs.Bucket.{bucket_of}
use Rattle.fish_layout.specs.Cleared.{body_of}
use Rattle.fish_layout.specs.Hash.{bucket_in, key_hash_of}
use Rattle.fish_layout.specs.Header.{keys_of}
use Rattle.fish_layout.specs.declared.parts.BodyParts.{BodyParts}
use Rattle.fish_layout.specs.declared.parts.KeyPart.{KeyPart}
use Rattle.fish_rule.specs.SpaceSteps.{CanPublishRegion}
use Rattle.fish_rule.specs.declared.view.Flight.{Flight}
use Rattle.fish_rule.specs.declared.view.View.{View}

-- the record in flight is filled with the words of these parts, and so many of its entries are linked
pub record IsPartly (p : BodyParts) (linked : ℕ) (v : View) : Type 0 where
  pub flight : Flight
  pub filled : IsFilled v flight
  pub count : flight.linked ≡ linked
  pub words : List ℕ
  pub made : IsBody p words
  pub same : body_of flight.words ≡ body_of words

module _ (p : BodyParts) (c : ℕ) (v : View) (s : IsPartly p c v) where
  -- it has an entry for each key
  entries : keys_of (body_of s.flight.words 0) ≡ length p.keys
  entries = ap (λ (z : ℕ → ℕ). keys_of (z 0)) s.same ∙ body_keys p s.words s.made

  -- the next may be linked, into the bucket of its key
  pub partly_links : (k : KeyPart) (bucket : ℕ) → slice_get p.keys c ≡ Some k → c < length p.keys
      → bucket_in (key_hash_of k.id k.value) v.about.buckets ≡ bucket → bucket < v.about.buckets
      → CanLink v s.flight c bucket
  partly_links k bucket found less hashed below = record {
    filled = s.filled;
    next = s.count;
    more = subst (λ (z : ℕ). c < z) (sym entries) less;
    of_bucket = ap (λ (z : ℕ). bucket_of v.about.buckets (body_of s.flight.words) z) s.count
        ∙ ap (λ (z : ℕ → ℕ). bucket_of v.about.buckets z c) s.same
        ∙ bucket_of-body v.about.buckets c k s.made found ∙ hashed;
    below = below;
  }

  -- once all are, it may be published
  pub partly_publish : c ≡ length p.keys → CanPublishRegion v s.flight
  partly_publish all = filled_publish v s.flight s.filled (s.count ∙ all ∙ sym entries)
