-- A record that was prepared, on its way into the region that was claimed for it.
use Rattle.std.proofs.Common.{◌≡◌, ℕ, ◌*◌, ◌<◌, suc, List, [], length, refl, sym, ap, ◌∙◌, subst, arith}
use Rattle.std.proofs.Common.{Some}
use Rattle.std.specs.List.{slice_get}
use Rattle.fish_chain.proofs.Laws.{linked_filled, linked_flight}
use Rattle.fish_chain.proofs.Partly.{IsPartly, partly_links, partly_publish}
use Rattle.fish_chain.specs.Links.{CanLink, IsLinked}
use Rattle.fish_claim.proofs.Filled.{body_keys}
use Rattle.fish_claim.specs.Fills.{CanFill, IsFilled}
use Rattle.fish_ingest.proofs.PlacementBody.{body_fills, keyed_of_body, numbered, numbered_fills}
use Rattle.fish_ingest.specs.Placement.{CanWrite, HoldsParts, HasWrittenRegion, OnlyWrites}
use Rattle.fish_ingest.specs.declared.preparation.Prepared.{Prepared}
use Rattle.fish_layout.specs.Body.{IsBody, body_lines}
use Rattle.fish_layout.specs.Cleared.{body_of}
use Rattle.fish_layout.specs.Hash.{bucket_in, key_hash_of}
use Rattle.fish_layout.specs.Header.{keys_of}
use Rattle.fish_layout.specs.declared.parts.BodyParts.{BodyParts}
use Rattle.fish_layout.specs.declared.parts.KeyPart.{KeyPart}
use Rattle.fish_rule.proofs.laws.Clocks.{later_both}
use Rattle.fish_rule.proofs.laws.Learning.{learns_both}
use Rattle.fish_rule.specs.Clocks.{IsLater}
use Rattle.fish_rule.specs.Flying.{region_of}
use Rattle.fish_rule.specs.Keys.{IsKeyed}
use Rattle.fish_rule.specs.Registry.{KnowsActive}
use Rattle.fish_rule.specs.declared.view.Flight.{Flight}
use Rattle.fish_rule.specs.declared.view.View.{View}

-- ---- before

-- the parts of the record under the number of its claim
abbrev pub parts_at : (v : View) (f : Flight) (prepared : Prepared) → CanWrite v f prepared → BodyParts
parts_at v f prepared can = numbered f.number can.fits.made.0.0

-- the region has the lines of the record
same_lines : (v : View) (f : Flight) (prepared : Prepared) (can : CanWrite v f prepared)
    → body_lines can.fits.made.0.0 ≡ f.lines
same_lines v f prepared can =
    let fills = body_fills can.fits.made.0 in
    let lines = can.lines in
    omega arith

-- its words, under that number, may be stored
pub can_fill : (v : View) (f : Flight) (prepared : Prepared) (can : CanWrite v f prepared) (words : List ℕ)
    → IsBody (parts_at v f prepared can) words → CanFill v f words
can_fill v f prepared can words is =
    let b = can.fits.made.0 in
    let lines = same_lines v f prepared can in
    record {
      flying = can.flying;
      unfilled = can.unfilled;
      unlinked = can.unlinked;
      stored = can.stored;
      full = numbered_fills f.number b.0 is ∙ ap (λ (z : ℕ). z * 4) lines;
      body = record {
        version = can.fits.origin.version;
        entered = can.fits.entered;
        keyed = subst (λ (z : ℕ × ℕ). IsKeyed (KnowsActive v.about v.learned) can.fits.origin.version z.0
            f.number z.1 (body_of words)) (λ i. (can.fits.lane_is i, lines i))
            (keyed_of_body {active = KnowsActive v.about v.learned} f.number words b is can.fits.active);
      };
    }

-- ---- on the way

-- the record with these parts is filled in the region of the claim f, and so many of its entries are linked
pub record IsWriting (v : View) (f : Flight) (p : BodyParts) (linked : ℕ) (u : View) : Type 0 where
  pub flight : Flight
  pub filled : IsFilled u flight
  pub count : flight.linked ≡ linked
  pub words : List ℕ
  pub made : IsBody p words
  pub same : body_of flight.words ≡ body_of words
  pub region : region_of flight ≡ region_of f
  pub kept : OnlyWrites v u

-- no step or load is taken away when an entry is linked
linked_later : (u t : View) (f : Flight) (bucket : ℕ) → IsLinked u f bucket t → IsLater u.clock t.clock
linked_later u t f bucket is =
    let quiet = is.changed.quiet in
    record { steps = quiet.steps; loads = quiet.loads; notes = []; since = quiet.notes }

module _ (v : View) (f : Flight) (p : BodyParts) (c : ℕ) (u : View) (s : IsWriting v f p c u) where
  -- the same as the links have it
  abbrev partly : IsPartly p c u
  partly = record {
    flight = s.flight;
    filled = s.filled;
    count = s.count;
    words = s.words;
    made = s.made;
    same = s.same;
  }

  -- it has an entry for each key
  entries : keys_of (body_of s.flight.words 0) ≡ length p.keys
  entries = ap (λ (z : ℕ → ℕ). keys_of (z 0)) s.same ∙ body_keys p s.words s.made

  -- the next entry may be linked into the bucket of its key
  pub writing_links : (k : KeyPart) (bucket : ℕ) → slice_get p.keys c ≡ Some k → c < length p.keys
      → bucket_in (key_hash_of k.id k.value) u.about.buckets ≡ bucket → bucket < u.about.buckets
      → CanLink u s.flight c bucket
  writing_links k bucket found less hashed below = partly_links p c u partly k bucket found less hashed below

  -- and then one more is
  pub writing_more : (t : View) (bucket : ℕ) → c < length p.keys → IsLinked u s.flight bucket t
      → IsWriting v f p (suc c) t
  writing_more t bucket less is =
      let known = is.changed.known in
      record {
        flight = linked_flight u t s.flight bucket is;
        filled = linked_filled u t s.flight bucket s.filled (let e = entries in let n = s.count in omega arith) is;
        count = ap suc s.count;
        words = s.words;
        made = s.made;
        same = is.changed.body ∙ s.same;
        region = s.region;
        kept = record {
          learns = learns_both v u t s.kept.learns is.changed.learns;
          clock = later_both v.clock u.clock t.clock s.kept.clock (linked_later u t s.flight bucket is);
          frame = subst (λ (z : View). z ≡ record u { flight = z.flight; learned = z.learned; clock = z.clock })
              (sym known) refl
              ∙ ap (λ (z : View). record z { flight = t.flight; learned = t.learned; clock = t.clock }) s.kept.frame;
          count = ap (λ (z : View). z.learned.count) known ∙ s.kept.count;
          found = ap (λ (z : View). z.learned.found) known ∙ s.kept.found;
        };
      }

  -- with all entries linked the record is written
  pub writing_done : c ≡ length p.keys → HasWrittenRegion v f u
  writing_done all = record {
    flight = s.flight;
    ready = partly_publish p c u partly all;
    stored = s.filled.stored;
    region = s.region;
    only = s.kept;
  }

  -- and the words are its words
  pub writing_stored : HoldsParts p u
  writing_stored = record {
    flight = s.flight;
    flying = s.filled.flying;
    words = s.words;
    made = s.made;
    same = s.same;
  }
