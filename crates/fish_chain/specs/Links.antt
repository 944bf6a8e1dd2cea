-- When a key entry of the record in flight may be linked, and what the pass knows afterwards.
use Rattle.std.specs.Prelude.{ℕ, ◌≡◌, ◌<◌, ◌≤◌, suc, List, length, Some}
use Rattle.fish_claim.specs.Fills.{IsFilled}
use Rattle.fish_layout.specs.Bucket.{bucket_of}
use Rattle.fish_layout.specs.Cleared.{body_of}
use Rattle.fish_layout.specs.Header.{keys_of}
use Rattle.fish_rule.specs.ChainSteps.{HasNode, own_place}
use Rattle.fish_rule.specs.Logs.{Learns}
use Rattle.fish_rule.specs.declared.view.Clock.{Clock}
use Rattle.fish_rule.specs.declared.view.Flight.{Flight}
use Rattle.fish_rule.specs.declared.view.View.{View}

-- some steps were made, and no load was noted
pub record IsQuiet (c d : Clock) : Type 0 where
  pub steps : c.steps ≤ d.steps
  pub loads : c.loads ≤ d.loads
  pub notes : d.notes ≡ c.notes

-- f is the record in flight with all its words, and the key entry is its next to be linked, and of the bucket
pub record CanLink (v : View) (f : Flight) (key bucket : ℕ) : Type 0 where
  pub filled : IsFilled v f
  pub next : f.linked ≡ key
  pub more : key < keys_of (body_of f.words 0)
  pub of_bucket : bucket_of v.about.buckets (body_of f.words) f.linked ≡ bucket
  pub below : bucket < v.about.buckets

-- the record in flight with these words, and so many of its entries linked
abbrev pub with_linked : Flight → List ℕ → ℕ → Flight
with_linked f words linked = record f { words = words; linked = linked }

-- the view v with that, and with the facts of chains and the clock of u
abbrev pub chained_view : View → Flight → List ℕ → ℕ → View → View
chained_view v f words linked u = record v {
  flight = Some (with_linked f words linked);
  learned = record v.learned {
    nodes = u.learned.nodes;
    least_previous = u.learned.least_previous;
    least_heads = u.learned.least_heads;
    gaps = u.learned.gaps;
  };
  clock = u.clock;
}

-- u is the view v with these words of its record f and so many of its entries linked, after some steps: the
-- record's body is the same, and what was known still is
pub record Changed (v : View) (f : Flight) (words : List ℕ) (linked : ℕ) (u : View) : Type 0 where
  pub known : u ≡ chained_view v f words linked u
  pub long : length words ≡ length f.words
  pub body : body_of words ≡ body_of f.words
  pub learns : Learns v u
  pub quiet : IsQuiet v.clock u.clock

-- one entry more is linked, and known to be in the bucket's chain
pub record IsLinked (v : View) (f : Flight) (bucket : ℕ) (u : View) : Type 0 where
  pub words : List ℕ
  pub changed : Changed v f words (suc f.linked) u
  pub node : HasNode u bucket (own_place f)
