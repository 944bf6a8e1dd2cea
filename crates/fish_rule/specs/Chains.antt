-- Chains: each bucket's head and, from the first words of key entries, the key entries of its records, newest
-- first.
use Rattle.std.specs.Prelude.{ℕ, ◌≡◌, ◌+◌, ◌*◌, ◌<◌, ◌≤◌, List, Option, Some, None}
use Rattle.std.proofs.Common.{◌⊎◌}
use mathlib.Core.Option.{some}
use Rattle.std.proofs.Math.ListN.{get_elem?}
use Rattle.fish_layout.specs.Bucket.{bucket_of}
use Rattle.fish_layout.specs.Cleared.{entry_at}
use Rattle.fish_layout.specs.Header.{keys_of}
use Rattle.fish_rule.specs.Regions.{code}
use Rattle.fish_rule.specs.Views.{AllOf}
use Rattle.fish_rule.specs.World.{body, high, low}
use Rattle.fish_rule.specs.declared.view.Flight.{Flight}
use Rattle.fish_rule.specs.declared.view.Key.{Key}
use Rattle.fish_rule.specs.declared.view.Kind.TheVariants.{Stored}
use Rattle.fish_rule.specs.declared.view.Known.{Known}
use Rattle.fish_rule.specs.declared.view.Learned.{Learned}
use Rattle.fish_rule.specs.declared.view.View.{View}

-- p is the place of key entry c of the record with this body at line a, whose bucket is b
pub record IsKeyEntry (buckets : ℕ) (e : ℕ → ℕ) (b p a c : ℕ) : Type 0 where
  pub is : p ≡ a * 4 + entry_at c
  pub counts : c < keys_of (e 0)
  pub bucket : bucket_of buckets e c ≡ b

-- a published record stands at line a
pub record IsStoredAt (k : Key) (dir : ℕ → ℕ) (a : ℕ) : Type 0 where
  pub number : ℕ
  pub above : k.number ≤ number
  pub stored : high (dir number) ≡ code Stored
  pub line : low (dir number) ≡ a

-- the record in flight is at line a, and its key entry c is linked
abbrev pub LinksAt : ℕ → ℕ → Option Flight → Type 0
LinksAt a c None = ⊥
LinksAt a c (Some f) = (c < f.linked) × (f.line ≡ a)

-- some pass has it in flight
pub record IsLinking (a c : ℕ) (views : List View) : Type 0 where
  pub seat : ℕ
  pub view : View
  pub at : get_elem? views seat ≡ some view
  pub links : LinksAt a c view.flight

-- the record at line a shows its key entry c: it is published, or the entry is linked
abbrev pub Shows : Key → (ℕ → ℕ) → List View → ℕ → ℕ → Type 0
Shows k dir views a c = IsStoredAt k dir a ⊎ IsLinking a c views

-- p is the place of a key entry of bucket b that is shown
pub record Linked (k : Key) (dir log : ℕ → ℕ) (views : List View) (b p : ℕ) : Type 0 where
  pub line : ℕ
  pub entry : ℕ
  pub is : IsKeyEntry k.buckets (body log line) b p line entry
  pub shows : Shows k dir views line entry

-- x is the next place of the chain below a bound, or the start's head where no more of the table is there
pub record IsNext (linked : ℕ → Type 0) (first bound x : ℕ) : Type 0 where
  pub is : (x ≡ first) ⊎ linked x
  pub less : x < bound
  pub most : (q : ℕ) → linked q → q < bound → q ≤ x

-- the head is the greatest linked place, and the first word of each linked place's entry is the next lower one;
-- in place of one that is not there stands the head that the bucket had at the start
pub record Chain (linked : ℕ → Type 0) (first head : ℕ) (log : ℕ → ℕ) : Type 0 where
  pub some : (head ≡ first) ⊎ linked head
  pub highest : (p : ℕ) → linked p → p ≤ head
  pub next : (p : ℕ) → linked p → IsNext linked first p (log p)

-- ---- what a pass has learned of chains

-- the first word of the linked entry at a place has reached a value
pub record IsLeastPrevious (k : Key) (dir log : ℕ → ℕ) (views : List View) (x : Known) : Type 0 where
  pub bucket : ℕ
  pub linked : Linked k dir log views bucket x.place
  pub low : x.value ≤ log x.place

-- the entries known are linked, their first words and the heads have reached what is known of them
pub record Chained (k : Key) (dir log : ℕ → ℕ) (views : List View) (head : ℕ → ℕ) (l : Learned) : Type 0 where
  pub nodes : AllOf (λ x. Linked k dir log views x.bucket x.place) l.nodes
  pub least_previous : AllOf (IsLeastPrevious k dir log views) l.least_previous
  pub least_heads : AllOf (λ x. x.place ≤ head x.bucket) l.least_heads
