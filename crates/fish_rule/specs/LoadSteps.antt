-- What a pass knows after each kind of load and after a raise of the settled number, and when it may make it.
use Rattle.std.specs.Prelude.{ℕ, ◌≡◌, ◌≢◌, ◌*◌, ◌<◌, ◌≤◌, zero, suc, List, [], ◌∷◌, max, Some, None}
use Rattle.std.proofs.Common.{◌⊎◌}
use Rattle.std.proofs.Math.Decide.{dec_lt}
use Rattle.fish_layout.specs.Cleared.{IsKeyWord, choose}
use Rattle.fish_layout.specs.Header.{keys_of}
use Rattle.fish_rule.specs.Views.{Among}
use Rattle.fish_rule.specs.World.{high, low}
use Rattle.fish_rule.specs.declared.view.Found.{Found}
use Rattle.fish_rule.specs.declared.view.Kind.{Kind}
use Rattle.fish_rule.specs.declared.view.Kind.TheVariants.{Mark, Stored, Void}
use Rattle.fish_rule.specs.declared.view.Noted.TheVariants.{Directory, Tail}
use Rattle.fish_rule.specs.declared.view.Opens.{Opens}
use Rattle.fish_rule.specs.declared.view.View.{View}
use Rattle.fish_rule.specs.SpaceSteps.{loaded, noted, ticked}

-- ---- look: a load of a directory word

-- the number is one of the table's, below a count that the pass loaded
pub record CanLookAt (v : View) (n : ℕ) : Type 0 where
  pub above : v.about.number ≤ n
  pub below : n < v.learned.count

-- the kind that a directory word tells
abbrev pub kind_told : ℕ → Kind
kind_told (suc zero) = Stored
kind_told (suc (suc zero)) = Void
kind_told _ = Mark

-- a directory word that isn't 0 tells the kind and line of a region that has so many lines
abbrev pub found_after : ℕ → ℕ → ℕ → List Found → List Found
found_after n lines zero found = found
found_after n lines (suc x) found = record {
  number = n;
  kind = kind_told (high (suc x));
  line = low (suc x);
  lines = lines;
} ∷ found

-- a number joins the last list of unpublished ones, where it is below the count of that list's load
abbrev pub with_open : ℕ → List Opens → List Opens
with_open n [] = []
with_open n (o ∷ opens) =
    choose (dec_lt n o.count) (record { count = o.count; numbers = n ∷ o.numbers } ∷ o ∷ opens) (o ∷ opens)

-- a directory word that is 0 tells that its number isn't published
abbrev pub opens_after : ℕ → ℕ → List Opens → List Opens
opens_after n zero opens = with_open n opens
opens_after n (suc x) opens = opens

-- the directory word is seen
abbrev pub after_look_at : View → ℕ → ℕ → ℕ → View
after_look_at v n lines x = record v {
  learned = record v.learned {
    found = found_after n lines x v.learned.found;
    opens = opens_after n x v.learned.opens;
  };
  clock = noted v.clock (Directory n) x;
}

-- the control pass, while no lane is out and it has nothing in flight
pub record IsAlone (v : View) : Type 0 where
  pub control : v.lane ≡ 1
  pub all : v.out ≡ []
  pub idle : v.flight ≡ None

-- ---- read: a load of a word of a published region

-- the region was found and isn't a mark; the word is its header, or by its header that was read no
-- first word of a key entry
pub record CanReadWord (v : View) (f : Found) (i : ℕ) : Type 0 where
  pub found : Among f v.learned.found
  pub words : f.kind ≢ Mark
  pub inside : i < f.lines * 4
  pub plain : (i ≡ 0) ⊎ ((h : ℕ) × Among (record { place = f.line * 4; value = h }) v.learned.known
      × ¬ IsKeyWord (keys_of h) i)

-- the word is known
abbrev pub after_read_word : View → ℕ → ℕ → View
after_read_word v place x = record v {
  learned =
      record v.learned { known = record { place = place; value = x } ∷ v.learned.known };
  clock = loaded v.clock;
}

-- ---- end: a load of the tail

-- the count and the line are known, and a list of unpublished numbers begins
abbrev pub after_load_tail : View → ℕ → View
after_load_tail v x = record v {
  learned = record v.learned { count = high x; opens = record { count = high x; numbers = [] } ∷ v.learned.opens };
  tail = Some (record { number = high x; line = low x });
  clock = noted v.clock Tail x;
}

-- ---- load settled: a load of the settled number

-- the settled number is known
abbrev pub after_load_settled : View → ℕ → View
after_load_settled v x = record v { learned = record v.learned { settled = x }; clock = ticked v.clock }

-- ---- raise: a fetch-max on the settled number

-- each number below is known to be published, and no mark
pub record CanRaiseSettled (v : View) (m : ℕ) : Type 0 where
  pub within : m ≤ v.learned.count
  pub known : (n : ℕ) → v.about.number ≤ n → n < m → (n < v.learned.settled)
      ⊎ ((f : Found) × Among f v.learned.found × (f.number ≡ n) × (f.kind ≢ Mark))

-- the settled number is at least this one
abbrev pub after_raise_settled : View → ℕ → ℕ → View
after_raise_settled v m x = record v { learned = record v.learned { settled = max x m }; clock = ticked v.clock }
