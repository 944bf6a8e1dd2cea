-- How a pass links the key entries of its record into their chains: what it knows after each of
-- these steps, and when it may make it.
use Rattle.std.specs.Prelude.{ℕ, ◌≡◌, ◌+◌, ◌*◌, ◌<◌, ◌≤◌, suc, List, ◌∷◌, length, slice_index, slice_set, Some}
use Rattle.std.proofs.Math.Decide.{ℕ_discrete, dec_lt}
use Rattle.fish_layout.specs.Bucket.{bucket_of}
use Rattle.fish_layout.specs.Cleared.{body_of, choose, entry_at}
use Rattle.fish_layout.specs.Header.{keys_of}
use Rattle.fish_rule.specs.Keys.{IsKeyed}
use Rattle.fish_rule.specs.Registry.{KnowsActive}
use Rattle.fish_rule.specs.SpaceSteps.{flight_kind, loaded, ticked}
use Rattle.fish_rule.specs.Views.{Among}
use Rattle.fish_rule.specs.declared.view.Clock.{Clock}
use Rattle.fish_rule.specs.declared.view.Epoch.TheVariants.{Confirmed}
use Rattle.fish_rule.specs.declared.view.Flight.{Flight}
use Rattle.fish_rule.specs.declared.view.Gap.{Gap}
use Rattle.fish_rule.specs.declared.view.Kind.TheVariants.{Stored}
use Rattle.fish_rule.specs.declared.view.Key.{Key}
use Rattle.fish_rule.specs.declared.view.Known.{Known}
use Rattle.fish_rule.specs.declared.view.Learned.{Learned}
use Rattle.fish_rule.specs.declared.view.EntryPlace.{EntryPlace}
use Rattle.fish_rule.specs.declared.view.View.{View}

-- ---- load head

-- the bucket is one of the table's
pub record CanLoadHead (v : View) (b : ℕ) : Type 0 where
  pub below : b < v.about.buckets

-- a place after the base's is that of a linked entry of the bucket
abbrev pub with_node : Key → ℕ → ℕ → List EntryPlace → List EntryPlace
with_node k b x nodes = choose (dec_lt (k.line * 4) x) (record { bucket = b; place = x } ∷ nodes) nodes

-- below the settled number no entry of the bucket lies between these places
abbrev pub gap : ℕ → ℕ → ℕ → Learned → Gap
gap b above below l = record { bucket = b; end = l.settled; above = above; below = below }

-- what a head that was found tells
abbrev pub learned_head : Key → ℕ → ℕ → Learned → Learned
learned_head k b x l = record l {
  nodes = with_node k b x l.nodes;
  least_heads = record { bucket = b; place = x } ∷ l.least_heads;
  gaps = gap b (k.end * 4) x l ∷ l.gaps;
}

-- the head is seen, by a step that leaves this clock
abbrev pub head_seen : View → ℕ → ℕ → Clock → View
head_seen v b x clock = record v { learned = learned_head v.about b x v.learned; clock = clock }

-- by a load
abbrev pub after_load_head : View → ℕ → ℕ → View
after_load_head v b x = head_seen v b x (loaded v.clock)

-- whatever place the view knew the bucket's head to have reached, x is at or above it
abbrev pub HeadRises : View → ℕ → ℕ → Type 0
HeadRises v b x = (t : EntryPlace) → Among t v.learned.least_heads → t.bucket ≡ b → t.place ≤ x

-- ---- load previous

-- an entry of the bucket is known to be linked at the place
abbrev pub HasNode : View → ℕ → ℕ → Type 0
HasNode v b p = Among (record { bucket = b; place = p }) v.learned.nodes

-- what a first word that was found tells
abbrev pub learned_previous : Key → ℕ → ℕ → ℕ → Learned → Learned
learned_previous k b p x l = record l {
  nodes = with_node k b x l.nodes;
  least_previous = record { place = p; value = x } ∷ l.least_previous;
  gaps = gap b p x l ∷ l.gaps;
}

-- the first word is seen, by a step that leaves this clock
abbrev pub previous_seen : View → ℕ → ℕ → ℕ → Clock → View
previous_seen v b p x clock = record v { learned = learned_previous v.about b p x v.learned; clock = clock }

-- by a load
abbrev pub after_load_previous : View → ℕ → ℕ → ℕ → View
after_load_previous v b p x = previous_seen v b p x (loaded v.clock)

-- whatever value the view knew the first word at the place to have reached, x is at or above it
abbrev pub PreviousRises : View → ℕ → ℕ → Type 0
PreviousRises v p x = (t : Known) → Among t v.learned.least_previous → t.place ≡ p → t.value ≤ x

-- ---- load node: a load of a second word

-- the second word of the entry at a place is seen
abbrev pub after_load_node : View → ℕ → ℕ → View
after_load_node v p x = record v {
  learned = record v.learned { labels = record { place = p; word = x; end = v.learned.settled } ∷ v.learned.labels };
  clock = loaded v.clock;
}

-- ---- aim: a store of the own first word

-- the place of the entry that is next to be linked
abbrev pub own_place : Flight → ℕ
own_place f = f.line * 4 + entry_at f.linked

-- the words of f are those of a record of the version at which the pass is entered, with the keys of that version
pub record HasBody (v : View) (f : Flight) : Type 0 where
  pub version : ℕ
  pub entered : v.epoch ≡ Confirmed version
  pub keyed : IsKeyed (KnowsActive v.about v.learned) version v.lane f.number f.lines (body_of f.words)

-- f is in flight and a whole record, and an entry of it is still to be linked
pub record CanAimEntry (v : View) (f : Flight) : Type 0 where
  pub flying : v.flight ≡ Some f
  pub kind : flight_kind v f ≡ Stored
  pub full : length f.words ≡ f.lines * 4
  pub body : HasBody v f
  pub more : f.linked < keys_of (body_of f.words 0)

-- a record in flight whose next entry is aimed at a place
abbrev pub aimed_at : Flight → ℕ → Flight
aimed_at f x = record f { words = slice_set f.words (entry_at f.linked) x }

-- the own first word is stored
abbrev pub after_aim_entry : View → Flight → ℕ → View
after_aim_entry v f x = record v { flight = Some (aimed_at f x); clock = ticked v.clock }

-- ---- swing: a compare-and-exchange on a head

-- one entry more is linked
abbrev pub linked_once : Flight → Flight
linked_once f = record f { linked = suc f.linked }

-- the next entry is of the bucket, and aimed at h, which is below it
pub record CanSwingHead (v : View) (f : Flight) (b h : ℕ) : Type 0 where
  pub aim : CanAimEntry v f
  pub bucket : bucket_of v.about.buckets (body_of f.words) f.linked ≡ b
  pub below : b < v.about.buckets
  pub aimed : slice_index f.words (entry_at f.linked) ≡ h
  pub less : h < own_place f

-- the own entry is the head
abbrev pub swung : View → Flight → ℕ → View
swung v f b = record v {
  flight = Some (linked_once f);
  learned = record v.learned {
    nodes = record { bucket = b; place = own_place f } ∷ v.learned.nodes;
    least_heads = record { bucket = b; place = own_place f } ∷ v.learned.least_heads;
  };
  clock = ticked v.clock;
}

-- the exchange was made where the head was as expected, and else the head is seen; it is no load
abbrev pub after_swing_head : View → Flight → ℕ → ℕ → ℕ → View
after_swing_head v f b h found = choose (ℕ_discrete found h) (swung v f b) (head_seen v b found (ticked v.clock))

-- ---- splice: a compare-and-exchange on a linked entry's first word

-- the next entry is of the bucket, below the linked entry at q, and aimed at x, which is below it
pub record CanSpliceEntry (v : View) (f : Flight) (b q x : ℕ) : Type 0 where
  pub aim : CanAimEntry v f
  pub bucket : bucket_of v.about.buckets (body_of f.words) f.linked ≡ b
  pub node : HasNode v b q
  pub below : own_place f < q
  pub aimed : slice_index f.words (entry_at f.linked) ≡ x
  pub less : x < own_place f

-- the own entry is next below the one at q
abbrev pub spliced : View → Flight → ℕ → ℕ → View
spliced v f b q = record v {
  flight = Some (linked_once f);
  learned = record v.learned {
    nodes = record { bucket = b; place = own_place f } ∷ v.learned.nodes;
    least_previous = record { place = q; value = own_place f } ∷ v.learned.least_previous;
  };
  clock = ticked v.clock;
}

-- the exchange was made where the first word was as expected, and else it is seen; it is no load
abbrev pub after_splice_entry : View → Flight → ℕ → ℕ → ℕ → ℕ → View
after_splice_entry v f b q x found =
    choose (ℕ_discrete found x) (spliced v f b q) (previous_seen v b q found (ticked v.clock))
