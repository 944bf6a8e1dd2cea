-- How `clap` walks over words: what it has found and held at a place, and the faults from there on.
use Rattle.std.proofs.Common.{◌≡◌, ℕ, List, [], ◌∷◌, Bool, true, false, refl, ap, ◌∙◌}
use Rattle.std.specs.Prelude.{if◌then◌else◌, Option, Some, None, codes, option_and_then, option_map}
use Rattle.std.specs.List.{fold}
use Rattle.clap.specs.Words.{Row}
use Rattle.clap.specs.Walk.{Held, Waiting, Walk, idle, option, positional, settled, walked}
use Rattle.clap.specs.Kinds.{Kinds, or_else}
use Rattle.clap.specs.Faults.{settle_fault, turn_fault, walk_fault}
use Rattle.clap.specs.declared.error.kind.ErrorKind.{ErrorKind}
use Rattle.fish_command.specs.within.Matched.{found_in}
use Rattle.fish_command.specs.Options.{Word}
use Rattle.fish_command.specs.within.Reading.{Found, Place, are_placed, at_part, at_value, read, found_with_word}
use Rattle.fish_command.proofs.Arguments.{shape, rules, IsOption, word_found}

-- ---- the walk

-- what was found, unless something is at fault
abbrev pub unless : Kinds → Option Found → Option Found
unless [] r = r
unless (k ∷ ks) r = None

-- faults one after the other
unless_else : (a b : Kinds) (r : Option Found) → unless (or_else a b) r ≡ unless a (unless b r)
unless_else [] b r = refl
unless_else (k ∷ ks) b r = refl

-- three faults, one after the other
else_assoc : (a b c : Kinds) → or_else (or_else a b) c ≡ or_else a (or_else b c)
else_assoc [] b c = refl
else_assoc (k ∷ ks) b c = refl

-- what is held where the walk over words ends
abbrev pub ended : List Word → Walk → Held
ended words w = (fold (walked rules []) w words).held

-- what `clap` finds in words, from a place on
abbrev pub judged : List Word → Walk → Option Found
judged words w = unless (or_else (walk_fault shape [] w words) (settle_fault rules false (ended words w)))
    (found_in (settled rules (ended words w)).rows)

-- the first of the words, and then the others
pub judged_next : (x : Word) (xs : List Word) (w : Walk)
    → judged (x ∷ xs) w ≡ unless (turn_fault shape [] w x) (judged xs (walked rules [] w x))
unfolding walk_fault
judged_next x xs w =
    let behind = walked rules [] w x in
    ap (λ (k : Kinds). unless k (found_in (settled rules (ended xs behind)).rows))
    (else_assoc (turn_fault shape [] w x) (walk_fault shape [] behind xs) (settle_fault rules false (ended xs behind)))
    ∙ unless_else (turn_fault shape [] w x) _ _

-- no more words
pub judged_end : (w : Walk) → judged [] w ≡ unless (settle_fault rules false w.held) (found_in (settled rules w.held).rows)
unfolding walk_fault
judged_end w = refl

-- a part may come: what is held stands for what was found
pub record Stands (h : Held) (r : Option Found) : Type 0 where
  pub settles : settle_fault rules false h ≡ []
  pub found : found_in (settled rules h).rows ≡ r

-- what waits between two parts
abbrev pub free : Bool → Waiting
free true = positional
free false = idle

-- at a part
abbrev pub at : Bool → Held → Walk
at b h = record { held = h; waiting = free b; position = 1; is_trailing = false; stopped = None }

-- after `--`
abbrev pub behind : Bool → Held → Walk
behind b h = record { held = h; waiting = free b; position = 1; is_trailing = true; stopped = None }

-- at the value of an option
abbrev pub wanted : Word → List Row → ℕ → Walk
wanted n rows skip = record {
  held = record { rows = rows; pending = Some (n, []); skip = skip };
  waiting = option n;
  position = 1;
  is_trailing = false;
  stopped = None;
}

-- with one plain word more
abbrev pub with_plain : Word → Held → Held
with_plain x h = record (settled rules h) { pending = Some (codes "words", x ∷ []) }

-- a part may come after a plain word
pub plain_stands : (x : Word) (h : Held) (r : Option Found) → Stands h r → Stands (with_plain x h) (option_map (found_with_word x) r)
plain_stands x h r s = record {
  settles = refl;
  found = word_found x (settled rules h).rows ∙ ap (option_map (found_with_word x)) s.found;
}

-- ---- a part

-- words are read from a place on as `clap` finds them
abbrev pub Reads : List Word → Walk → Option Found → (Found → Place) → Type 0
Reads words w r next = (if are_placed words then judged words w else None) ≡ option_and_then (λ f. read words (next f)) r

-- so at each part, and at each value of an option
pub record Spots (words : List Word) : Type 0 where
  pub at_parts : (b : Bool) (h : Held) (r : Option Found) → Stands h r → Reads words (at b h) r at_part
  pub at_values : (n : Word) (rows : List Row) (skip : ℕ) → IsOption n
      → Reads words (wanted n rows skip) (found_in rows) (at_value n)

-- one word, where its turn has no fault
pub turn_to : (x : Word) (xs : List Word) (w next : Walk) → turn_fault shape [] w x ≡ [] → walked rules [] w x ≡ next
    → judged (x ∷ xs) w ≡ judged xs next
turn_to x xs w next clear is = judged_next x xs w ∙ (λ i. unless (clear i) (judged xs (is i)))

-- one word, where its turn has one
pub turn_fails : (x : Word) (xs : List Word) (w : Walk) (k : ErrorKind) (ks : Kinds) → turn_fault shape [] w x ≡ k ∷ ks
    → judged (x ∷ xs) w ≡ None
turn_fails x xs w k ks fails = judged_next x xs w ∙ ap (λ (f : Kinds). unless f (judged xs (walked rules [] w x))) fails

-- nothing is nothing, whether it is asked for or not
pub either_none : (b : Bool) (r : Option Found) → r ≡ None → (if b then r else None) ≡ None
either_none true r is = is
either_none false r is = refl
