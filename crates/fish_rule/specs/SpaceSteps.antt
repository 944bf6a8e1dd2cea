-- What a pass knows after a claim, a store and a publication, and when it may make each.
use Rattle.std.specs.Prelude.{ℕ, ◌≡◌, ◌+◌, ◌*◌, ◌<◌, ◌≤◌, suc, List, [], ◌∷◌, ◌++◌, length, Option, Some, None}
use Rattle.fish_layout.specs.Cleared.{body_of}
use Rattle.fish_layout.specs.Header.{keys_of, void_word}
use Rattle.fish_rule.specs.Keys.{IsKeyed}
use Rattle.fish_rule.specs.Regions.{kind_of}
use Rattle.fish_rule.specs.Registry.{KnowsActive}
use Rattle.fish_rule.specs.declared.view.Clock.{Clock}
use Rattle.fish_rule.specs.declared.view.Epoch.TheVariants.{Confirmed}
use Rattle.fish_rule.specs.declared.view.Flight.{Flight}
use Rattle.fish_rule.specs.declared.view.Kind.{Kind}
use Rattle.fish_rule.specs.declared.view.Kind.TheVariants.{Mark, Stored, Void}
use Rattle.fish_rule.specs.declared.view.Learned.{Learned}
use Rattle.fish_rule.specs.declared.view.Noted.{Noted}
use Rattle.fish_rule.specs.declared.view.Own.{Own}
use Rattle.fish_rule.specs.declared.view.Recorded.{Recorded}
use Rattle.fish_rule.specs.declared.view.Shut.{Shut}
use Rattle.fish_rule.specs.declared.view.View.{View}

-- ---- the clock

-- one more step
abbrev pub ticked : Clock → Clock
ticked c = record c { steps = suc c.steps }

-- one more step, a load that found this value
abbrev pub noted : Clock → Noted → ℕ → Clock
noted c what value = record c {
  steps = suc c.steps;
  notes = record { step = c.steps; what = what; value = value } ∷ c.notes;
}

-- one more step, a load of a word of the log
abbrev pub loaded : Clock → Clock
loaded c = record c { steps = suc c.steps; loads = suc c.loads }

-- ---- claim: a fetch-and-add on the tail

-- the pass is live and entered, has nothing in flight, and isn't shut
pub record CanClaimLines (v : View) : Type 0 where
  pub live : 1 ≤ v.lane
  pub idle : v.flight ≡ None
  pub ready : v.shut ≡ None
  pub version : ℕ
  pub entered : v.epoch ≡ Confirmed version

-- a record just claimed
abbrev pub flight_at : ℕ → ℕ → ℕ → Flight
flight_at n line lines = record { number = n; line = line; lines = lines; words = []; linked = 0 }

-- the region of so many lines at this tail is in flight, and its number is counted
abbrev pub after_claim_lines : View → ℕ → ℕ → ℕ → View
after_claim_lines v lines n line = record v {
  flight = Some (flight_at n line lines);
  tail = Some (record { number = suc n; line = line + lines });
  learned = record v.learned { count = suc n };
  clock = ticked v.clock;
}

-- ---- fill: a store of the next word of the own region

-- the kind of a pass's region
abbrev pub flight_kind : View → Flight → Kind
flight_kind v f = kind_of v.about.end f.line (f.line + f.lines)

-- f is in flight, no entry of it is linked, and more words are to come; a void has one word, and a mark none
pub record CanStoreWord (v : View) (f : Flight) : Type 0 where
  pub flying : v.flight ≡ Some f
  pub unlinked : f.linked ≡ 0
  pub more : length f.words < f.lines * 4
  pub within : f.line + f.lines ≤ v.about.end
  pub header : flight_kind v f ≡ Void → f.words ≡ []

-- a record in flight with one word more
abbrev pub with_word : Flight → ℕ → Flight
with_word f x = record f { words = f.words ++ x ∷ [] }

-- the word is stored
abbrev pub after_store_word : View → Flight → ℕ → View
after_store_word v f x = record v { flight = Some (with_word f x); clock = ticked v.clock }

-- ---- publish: a store of the own directory word

-- what is stored of a region before it may be published: all words of a record of this version and lane, with the
-- keys of that version, all its entries linked; of a void its header; of a mark nothing
abbrev pub IsReady : (ℕ → List (ℕ × List ℕ) → Type 0) → ℕ → Kind → ℕ → Flight → Type 0
IsReady active version Stored lane f = (length f.words ≡ f.lines * 4)
    × IsKeyed active version lane f.number f.lines (body_of f.words) × (f.linked ≡ keys_of (body_of f.words 0))
IsReady active version Void lane f = (f.words ≡ void_word f.lines ∷ []) × (f.linked ≡ 0)
IsReady active version Mark lane f = f.words ≡ []

-- f is in flight and ready
pub record CanPublishRegion (v : View) (f : Flight) : Type 0 where
  pub live : 1 ≤ v.lane
  pub flying : v.flight ≡ Some f
  pub version : ℕ
  pub entered : v.epoch ≡ Confirmed version
  pub ready : IsReady (KnowsActive v.about v.learned) version (flight_kind v f) v.lane f

-- a record joins the own ones
abbrev pub own_after : Kind → ℕ → ℕ → List Own → List Own
own_after Stored lane n own = own ++ record { lane = lane; number = n } ∷ []
own_after Void lane n own = own
own_after Mark lane n own = own

-- a mark shuts the pass
abbrev pub shut_after : Kind → Flight → ℕ → Option Shut → Option Shut
shut_after Stored f end shut = shut
shut_after Void f end shut = shut
shut_after Mark f end shut = Some (record { line = f.line; lines = f.lines; end = end })

-- a record's words are known from now on
abbrev pub records_after : Kind → Flight → List Recorded → List Recorded
records_after Stored f records = record { number = f.number; words = f.words } ∷ records
records_after Void f records = records
records_after Mark f records = records

-- what is learned by a publication
abbrev pub learned_after : Kind → Flight → Learned → Learned
learned_after kind f l = record l {
  found = record { number = f.number; kind = kind; line = f.line; lines = f.lines } ∷ l.found;
  records = records_after kind f l.records;
}

-- the number is published
abbrev pub after_publish_region : View → Flight → View
after_publish_region v f = record v {
  flight = None;
  shut = shut_after (flight_kind v f) f v.about.end v.shut;
  own = own_after (flight_kind v f) v.lane f.number v.own;
  learned = learned_after (flight_kind v f) f v.learned;
  clock = ticked v.clock;
}
