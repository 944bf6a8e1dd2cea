-- What `clap` finds from the value of an option on is what is read.
use Rattle.std.proofs.Common.{◌≡◌, ℕ, List, [], ◌∷◌, true, false, refl, sym, ◌∙◌, inl, inr}
use Rattle.std.specs.Prelude.{◌⊎◌, not, Option, Some, None, codes, option_and_then}
use Rattle.std.specs.List.{list_all}
use Rattle.std.specs.Str.Parse.{starts_with_minus}
use Rattle.std.proofs.Math.Bool.{and-false}
use Rattle.clap.specs.Words.{Row}
use Rattle.clap.specs.Walk.{Held, is_pending, walked}
use Rattle.clap.specs.Kinds.{Kinds}
use Rattle.clap.specs.Faults.{settle_fault, turn_fault}
use Rattle.clap.specs.declared.error.kind.ErrorKind.{ErrorKind}
use Rattle.fish_command.specs.Line.{is_options_end}
use Rattle.fish_command.specs.within.Matched.{found_in, one}
use Rattle.fish_command.specs.Options.{Word, choice_of}
use Rattle.fish_command.specs.within.Reading.{Found, are_placed, at_part, at_value, has_one_minus, read, with_option}
use Rattle.fish_command.proofs.Names.{long_plain, plain_unmarked}
use Rattle.clap.specs.declared.error.kind.ErrorKind.TheVariants as kind
use Rattle.fish_command.proofs.Arguments.{shape, rules, plain_built, IsOption, IsUnknown, named}
use Rattle.fish_command.proofs.Walks.{judged, judged_next, Stands, at, wanted, Reads, Spots, turn_to, turn_fails}
use Rattle.fish_command.proofs.Walks.{either_none}
use Rattle.fish_command.proofs.AtParts.{one_plain, short_plain, IsLong, then_then}

-- ---- the value of an option

-- an option with a value
abbrev given : Word → Word → List Row → ℕ → Held
given n y rows skip = record { rows = rows; pending = Some (n, y ∷ []); skip = skip }

-- a word where the value of an option is wanted
module _ (n y : Word) (rows : List Row) (skip : ℕ) (o : IsOption n) where
  -- a plain one is no fault
  value_turn : starts_with_minus y ≡ false → turn_fault shape [] (wanted n rows skip) y ≡ []
  value_turn plain = rw (plain_unmarked y (is_options_end y) refl plain, long_plain y plain, short_plain y plain) refl

  -- it is the value
  value_walked : starts_with_minus y ≡ false → walked rules [] (wanted n rows skip) y ≡ at false (given n y rows skip)
  unfolding walked
  value_walked plain =
      rw (plain_unmarked y (is_options_end y) refl plain, long_plain y plain, short_plain y plain, o.by_id, o.itself) refl

  -- with it a part may come
  value_stands : Stands (given n y rows skip) (option_and_then (with_option n y) (found_in rows))
  value_stands = record {
    settles = rw (o.by_id, o.one_value y rows) refl;
    found = rw o.by_id (o.found y rows);
  }

  -- an option without its value is at fault
  pub waiting_fault : settle_fault rules false (wanted n rows skip).held ≡ kind.InvalidValue ∷ []
  waiting_fault = rw (o.by_id, o.none rows) refl

-- no value begins with a minus
no_value : (n y : Word) (ys : List Word) (r : Option Found) → choice_of n y ≡ None
    → option_and_then (λ f. read (y ∷ ys) (at_value n f)) r ≡ None
no_value n y ys None without = refl
no_value n y ys (Some f) without = rw without refl

-- a plain word is read as the value, as `clap` takes it
pub value_reads : (n : Word) (rows : List Row) (skip : ℕ) (y : Word) (ys : List Word) → Spots ys → IsOption n
    → starts_with_minus y ≡ false → Reads (y ∷ ys) (wanted n rows skip) (found_in rows) (at_value n)
value_reads n rows skip y ys spots o plain =
    rw (
      plain_unmarked y (is_options_end y) refl plain,
      one_plain y plain,
      turn_to y ys (wanted n rows skip) _ (value_turn n y rows skip o plain) (value_walked n y rows skip o plain),
    )
    (spots.at_parts false (given n y rows skip) (option_and_then (with_option n y) (found_in rows)) (value_stands n y rows skip o)
    ∙ then_then (with_option n y) (λ f. read ys (at_part f)) (found_in rows))

-- words after `--` where the value is wanted are a fault
trailing_fails : (n : Word) (rows : List Row) (skip : ℕ) (z : Word) (zs : List Word) → IsOption n
    → judged (z ∷ zs) (walked rules [] (wanted n rows skip) (codes "--")) ≡ None
unfolding walked
trailing_fails n rows skip z zs o = turn_fails z zs (record (wanted n rows skip) { is_trailing = true }) kind.InvalidValue []
    (rw (and-false (is_pending plain_built (wanted n rows skip).held.pending)) (waiting_fault n z rows skip o))

-- so `--` is no value
pub mark_fails : (n : Word) (rows : List Row) (skip : ℕ) (ys : List Word) → IsOption n
    → Reads (codes "--" ∷ ys) (wanted n rows skip) (found_in rows) (at_value n)
mark_fails n rows skip [] o = sym (no_value n (codes "--") [] (found_in rows) (o.no_minus (codes "--") refl))
mark_fails n rows skip (z ∷ zs) o =
    either_none (list_all (λ w. not (is_options_end w)) (z ∷ zs)) (judged (codes "--" ∷ z ∷ zs) (wanted n rows skip))
    (judged_next (codes "--") (z ∷ zs) (wanted n rows skip) ∙ trailing_fails n rows skip z zs o)
    ∙ sym (no_value n (codes "--") (z ∷ zs) (found_in rows) (o.no_minus (codes "--") refl))

-- an option where the value is wanted is a fault
long_fails_by : (n : Word) (rows : List Row) (skip : ℕ) (x m : Word) (v : Option Word) → IsOption n → IsLong x m v
    → IsOption m ⊎ IsUnknown m → (ks : Kinds) × (k : ErrorKind) × (turn_fault shape [] (wanted n rows skip) x ≡ k ∷ ks)
long_fails_by n rows skip x m v o is (inr u) = ([], kind.UnknownArgument, rw (is.unmarked, is.names, u.by_long) refl)
long_fails_by n rows skip x m (Some w) o is (inl p) =
    ([], kind.InvalidValue, rw (is.unmarked, is.names, p.by_long, waiting_fault n x rows skip o) refl)
long_fails_by n rows skip x m None o is (inl p) =
    ([], kind.InvalidValue, rw (is.unmarked, is.names, p.by_long, waiting_fault n x rows skip o) refl)

-- so it is no value
pub long_fails : (n : Word) (rows : List Row) (skip : ℕ) (x : Word) (ys : List Word) (m : Word) (v : Option Word) → IsOption n
    → IsLong x m v → Reads (x ∷ ys) (wanted n rows skip) (found_in rows) (at_value n)
long_fails n rows skip x ys m v o is =
    let fails = long_fails_by n rows skip x m v o is (named m) in
    rw (is.unmarked, is.two)
    (either_none (are_placed ys) _ (turn_fails x ys (wanted n rows skip) fails.1 fails.0 fails.2)
    ∙ sym (no_value n x ys (found_in rows) (o.no_minus x is.minus)))

-- nor is a word with one minus
pub single_fails : (n : Word) (rows : List Row) (skip : ℕ) (x : Word) (ys : List Word) → IsOption n
    → starts_with_minus x ≡ true → has_one_minus x ≡ true → is_options_end x ≡ false
    → Reads (x ∷ ys) (wanted n rows skip) (found_in rows) (at_value n)
single_fails n rows skip x ys o minus one unmarked =
    rw (unmarked, one) (sym (no_value n x ys (found_in rows) (o.no_minus x minus)))
