-- What `clap` finds in a line is what is read of it.
use Rattle.std.proofs.Common.{◌≡◌, ℕ, List, [], ◌∷◌, Bool, true, false, cond, refl, sym, ap, ◌∙◌, map, inl, inr}
use Rattle.std.specs.Prelude.{if◌then◌else◌, ◌||◌, Option, Some, None, codes, is_some}
use Rattle.clap.specs.Words.{App, HasKind, HasMatchesOf, IsAmong, Row, Rule, built, found_of, is_simple}
use Rattle.clap.specs.Words.{is_simple_and_free, kind_of, rows_of}
use Rattle.clap.specs.Lexer.{name_and_value}
use Rattle.clap.specs.Walk.{Held, default_rows, finished, has_row, is_empty, nothing_held, reading_by, settled}
use Rattle.clap.specs.Walk.{walk, walk_from, with_default}
use Rattle.clap.specs.Simple.{entered, matches_of}
use Rattle.clap.specs.Kinds.{Kinds, or_else}
use Rattle.clap.specs.Faults.{check_fault, default_fault, defaults_fault, entered_fault, fault_of}
use Rattle.clap.specs.Faults.{given_default_fault, settle_fault, walk_fault}
use Rattle.clap.specs.declared.error.Error.{Error}
use Rattle.clap.specs.declared.error.kind.ErrorKind.{ErrorKind}
use Rattle.clap.specs.declared.parser.matches.ArgMatches.{ArgMatches}
use Rattle.fish_command.specs.within.Matched.{found_in, line_app}
use Rattle.fish_command.specs.Options.{Word}
use Rattle.fish_command.specs.within.Reading.{Found, are_placed, at_part, at_value, nothing_found, read}
use Rattle.fish_command.proofs.Names.{kinds}
use Rattle.clap.specs.declared.error.kind.ErrorKind.TheVariants as kind
use Rattle.fish_command.proofs.Arguments.{shape, rules, plain_built, option_built, IsOption, named}
use Rattle.fish_command.proofs.Walks.{unless, ended, judged_end, Stands, at, wanted, Reads, Spots}
use Rattle.fish_command.proofs.AtParts.{some_found, none_found, plain_reads, single_reads, mark_reads, IsLong}
use Rattle.fish_command.proofs.AtParts.{long_reads}
use Rattle.fish_command.proofs.AtValues.{value_reads, mark_fails, long_fails, single_fails, waiting_fault}

-- ---- all words

-- two minuses and more are an option
is_long : (c : ℕ) (rest : Word) → IsLong (45 ∷ 45 ∷ c ∷ rest) (name_and_value (c ∷ rest)).0 (name_and_value (c ∷ rest)).1
is_long c rest = record { unmarked = refl; minus = refl; two = refl; names = refl }

-- one word more at a part
at_parts_next : (x : Word) (xs : List Word) (b : Bool) (h : Held) (r : Option Found) → Spots xs → Stands h r
    → Reads (x ∷ xs) (at b h) r at_part
at_parts_next x xs b h r spots s = kinds (λ y. Reads (y ∷ xs) (at b h) r at_part)
    (λ y plain. plain_reads b h r y xs spots s plain)
    (λ y minus one unmarked short. single_reads b h r y xs minus one unmarked short)
    (mark_reads b h r xs s)
    (λ c rest. long_reads b h r (45 ∷ 45 ∷ c ∷ rest) xs _ _ spots s (is_long c rest) (named (name_and_value (c ∷ rest)).0)) x

-- one word more at a value
at_values_next : (x : Word) (xs : List Word) (n : Word) (rows : List Row) (skip : ℕ) → Spots xs → IsOption n
    → Reads (x ∷ xs) (wanted n rows skip) (found_in rows) (at_value n)
at_values_next x xs n rows skip spots o = kinds (λ y. Reads (y ∷ xs) (wanted n rows skip) (found_in rows) (at_value n))
    (λ y plain. value_reads n rows skip y xs spots o plain)
    (λ y minus one unmarked short. single_fails n rows skip y xs o minus one unmarked)
    (mark_fails n rows skip xs o)
    (λ c rest. long_fails n rows skip (45 ∷ 45 ∷ c ∷ rest) xs _ _ o (is_long c rest)) x

-- words may end at a part
ends_at_part : (b : Bool) (h : Held) (r : Option Found) → Stands h r → Reads [] (at b h) r at_part
ends_at_part b h r s = judged_end (at b h) ∙ (λ i. unless (s.settles i) (s.found i)) ∙ sym (some_found r)

-- they may not end where a value is wanted
ends_at_value : (n : Word) (rows : List Row) (skip : ℕ) → IsOption n → Reads [] (wanted n rows skip) (found_in rows) (at_value n)
ends_at_value n rows skip o =
    judged_end (wanted n rows skip)
    ∙ ap (λ (k : Kinds). unless k (found_in (settled rules (wanted n rows skip).held).rows)) (waiting_fault n [] rows skip o)
    ∙ sym (none_found (found_in rows))

-- so words are read as `clap` finds them, from each place on
all_spots : (words : List Word) → Spots words
all_spots [] = record { at_parts = ends_at_part; at_values = ends_at_value }
all_spots (x ∷ xs) = record {
  at_parts = λ b h r s. at_parts_next x xs b h r (all_spots xs) s;
  at_values = λ n rows skip o. at_values_next x xs n rows skip (all_spots xs) o;
}

-- ---- what the command says

-- rows, whether an argument was used or not
same_rows : (rows : List Row) (b : Bool) → cond b rows rows ≡ rows
same_rows rows true = refl
same_rows rows false = refl

-- an argument with no default changes nothing at the end
no_default : (a : Rule) (rows : List Row) → a.defaults ≡ [] → with_default rows a ≡ rows
no_default a rows none = (λ i. cond (has_row a.id rows) rows (default_rows a.id (reading_by a) (none i) rows))
    ∙ same_rows rows (has_row a.id rows)

-- nor is it a fault, whether it was used or not
no_default_fault_by : (a : Rule) (b : Bool) (ds : List Word) → ds ≡ []
    → (if b || is_empty ds then [] else given_default_fault a ds) ≡ []
no_default_fault_by a true ds none = refl
no_default_fault_by a false ds none = ap (λ (xs : List Word). if is_empty xs then [] else given_default_fault a xs) none

-- so of each argument
no_default_fault : (a : Rule) (rows : List Row) → a.defaults ≡ [] → default_fault rows a ≡ []
no_default_fault a rows none = no_default_fault_by a (has_row a.id rows) a.defaults none

-- the four arguments, one after the other
module _ (rows : List Row) where
  -- the plain words
  abbrev after_plain : List Row
  after_plain = with_default rows plain_built

  -- and a form
  abbrev after_form : List Row
  after_form = with_default after_plain (option_built (codes "form"))

  -- and pages
  abbrev after_pages : List Row
  after_pages = with_default after_form (option_built (codes "pages"))

  -- with all four the rows are the same
  all_defaults : with_default after_pages (option_built (codes "bits")) ≡ rows
  all_defaults = no_default (option_built (codes "bits")) after_pages refl
      ∙ no_default (option_built (codes "pages")) after_form refl
      ∙ no_default (option_built (codes "form")) after_plain refl ∙ no_default plain_built rows refl

  -- and none is a fault
  all_default_faults : defaults_fault rows rules ≡ []
  unfolding defaults_fault
  all_default_faults = λ i. or_else (no_default_fault plain_built rows refl i)
      (or_else (no_default_fault (option_built (codes "form")) after_plain refl i)
      (or_else (no_default_fault (option_built (codes "pages")) after_form refl i)
      (or_else (no_default_fault (option_built (codes "bits")) after_pages refl i) [])))

-- no other command is entered
no_entry : (stop : Option (Word × List Word)) → entered_fault (built line_app) stop ≡ []
no_entry None = refl
no_entry (Some p) = refl

-- nothing else is asked of the arguments
no_check : (rows : List Row) (has : Bool) → check_fault shape rows has ≡ []
no_check rows true = refl
no_check rows false = refl

-- no fault after another
else_nil : (k : Kinds) → or_else k [] ≡ k
else_nil [] = refl
else_nil (k ∷ ks) = refl

-- the matches are those where the walk ends
matches_end : (words : List Word) → matches_of line_app words ≡ (settled rules (ended words (walk_from nothing_held))).rows
matches_end words = all_defaults (settled rules (ended words (walk_from nothing_held))).rows

-- the faults are those of the walk
fault_end : (words : List Word)
    → fault_of line_app words
    ≡ or_else (walk_fault shape [] (walk_from nothing_held) words) (settle_fault rules false (ended words (walk_from nothing_held)))
fault_end words =
    let stop = (walk rules [] nothing_held words).stopped in
    let end = ended words (walk_from nothing_held) in
    (λ i. or_else (walk_fault shape [] (walk_from nothing_held) words)
    (or_else (no_entry stop i) (or_else (settle_fault rules false end)
    (or_else (all_default_faults (settled rules end).rows i)
    (no_check (finished rules end) (is_some (entered (built line_app) stop)) i)))))
    ∙ ap (or_else (walk_fault shape [] (walk_from nothing_held) words)) (else_nil (settle_fault rules false end))

-- a line is read as `clap` finds it, where its words are placed and have no fault
judges : (words : List Word)
    → (if are_placed words then unless (fault_of line_app words) (found_in (matches_of line_app words)) else None)
    ≡ read words (at_part nothing_found)
judges words =
    (λ i. if are_placed words then unless (fault_end words i) (found_in (matches_end words i)) else None)
    ∙ (all_spots words).at_parts false nothing_held (found_in []) (record { settles = refl; found = refl })

-- words that are not placed so are not read
pub not_placed : (words : List Word) → are_placed words ≡ false → None ≡ read words (at_part nothing_found)
not_placed words stands =
    ap (λ (b : Bool). if b then unless (fault_of line_app words) (found_in (matches_of line_app words)) else None) (sym stands)
    ∙ judges words

-- the matches of a line are what is read
pub taken : (a : App) (texts words : List Word) (m : ArgMatches) → a ≡ line_app → texts ≡ words → are_placed words ≡ true
    → HasMatchesOf a texts m → (is_simple_and_free a ≡ true → fault_of a texts ≡ [])
    → found_in (rows_of (found_of m)) ≡ read words (at_part nothing_found)
taken a texts words m is same stands has clear =
    let simple : is_simple a ≡ true = ap is_simple is in
    let free : is_simple_and_free a ≡ true = ap is_simple_and_free is in
    let rows : rows_of (found_of m) ≡ matches_of line_app words = (has simple).0 ∙ (λ i. matches_of (is i) (same i)) in
    let none : fault_of line_app words ≡ [] = sym (λ i. fault_of (is i) (same i)) ∙ clear free in
    ap found_in rows
    ∙ sym (λ i. if stands i then unless (none i) (found_in (matches_of line_app words)) else None)
    ∙ judges words

-- where there is a fault, nothing is found
refused_by : (kinds : Kinds) (k : ErrorKind) (r : Option Found) → IsAmong k kinds → None ≡ unless kinds r
refused_by [] k r among = absurd among
refused_by (x ∷ xs) k r among = refl

-- nothing, either way
none_or : (b : Bool) → ◌≡◌ {A = Option Found} None (if b then None else None)
none_or true = refl
none_or false = refl

-- words that `clap` refuses are not read
pub refused : (a : App) (texts words : List Word) (e : Error) → a ≡ line_app → texts ≡ words
    → (is_simple_and_free a ≡ true → HasKind (fault_of a texts) e) → (kind_of e ≡ kind.OutOfMemory → ⊥)
    → None ≡ read words (at_part nothing_found)
refused a texts words e is same fails memory =
    let free : is_simple_and_free a ≡ true = ap is_simple_and_free is in
    elim (fails free) [
      | inl out ↦ absurd (memory out)
      | inr among ↦ none_or (are_placed words)
          ∙ (λ i. if are_placed words
          then refused_by (fault_of a texts) (kind_of e) (found_in (matches_of line_app words)) among i else None)
          ∙ (λ i. if are_placed words then unless (fault_of (is i) (same i)) (found_in (matches_of line_app words)) else None)
          ∙ judges words
    ]

-- texts are their words
pub same_texts : (words : List Word) → map (λ t. t) words ≡ words
same_texts [] = refl
same_texts (w ∷ words) = ap (λ (ws : List Word). w ∷ ws) (same_texts words)
