-- The values of an argument in the matches, and what they stand for with one value more.
use Rattle.std.proofs.Common.{◌≡◌, ℕ, List, [], ◌∷◌, ◌++◌, Bool, true, false, cond, refl, ap, ◌∙◌}
use Rattle.std.specs.Prelude.{Option, Some, None, unwrap_or, option_and_then, option_map, find}
use Rattle.std.specs.Str.{bytes_eq}
use Rattle.clap.specs.Words.{Row}
use Rattle.clap.specs.Walk.{more_values, with_values}
use Rattle.clap.specs.declared.builder.value_parser.Reading.{Reading}
use Rattle.clap.specs.declared.parser.matches.ValueSource.{ValueSource}
use Rattle.fish_command.specs.within.Matched.{one, options_of, values_for_id}
use Rattle.fish_command.specs.Options.{Bits, Choice, Form, Pages, Word, with_choice}
use Rattle.fish_command.specs.within.Reading.{Found, found_with_word}
use Rattle.fish_command.specs.declared.options.Layout.{Layout}
use Rattle.fish_command.specs.declared.options.Options.{Options}
use Rattle.fish_command.proofs.Names.{same_word}

-- ---- the values of an argument

-- with more values of an argument come more of it, by whether the first row is its own
values_more_by : (id : Word) (s : ValueSource) (vs : List Word) (r : Row) (rows more : List Row) (b : Bool)
    → bytes_eq r.id id ≡ b → values_for_id id more ≡ values_for_id id rows ++ vs
    → values_for_id id (cond b (more_values s vs r ++ rows) (r ∷ more)) ≡ values_for_id id (r ∷ rows) ++ vs
values_more_by id s vs r rows more true is behind = rw is refl
values_more_by id s vs r rows more false is behind = rw is behind

-- so in all rows
pub values_more : (id : Word) (how : Reading) (s : ValueSource) (vs : List Word) (rows : List Row) → bytes_eq id id ≡ true
    → values_for_id id (with_values id how s vs rows) ≡ values_for_id id rows ++ vs
values_more id how s vs [] same = rw same refl
values_more id how s vs (r ∷ rows) same =
    values_more_by id s vs r rows (with_values id how s vs rows) (bytes_eq r.id id) refl (values_more id how s vs rows same)

-- another argument keeps its values, after a row that stays
values_skip : (j : Word) (r : Row) (rows more : List Row) (b : Bool) → values_for_id j more ≡ values_for_id j rows
    → unwrap_or (option_map (λ (x : Row). x.values) (cond b (Some r) (find (λ x. bytes_eq x.id j) more))) []
    ≡ unwrap_or (option_map (λ (x : Row). x.values) (cond b (Some r) (find (λ x. bytes_eq x.id j) rows))) []
values_skip j r rows more true same = refl
values_skip j r rows more false same = same

-- the same, by whether the first row is the one that gains values
values_other_by : (i j : Word) (s : ValueSource) (vs : List Word) (r : Row) (rows more : List Row) (b : Bool)
    → bytes_eq r.id i ≡ b → bytes_eq i j ≡ false → values_for_id j more ≡ values_for_id j rows
    → values_for_id j (cond b (more_values s vs r ++ rows) (r ∷ more)) ≡ values_for_id j (r ∷ rows)
values_other_by i j s vs r rows more true is apart behind =
    let other : bytes_eq r.id j ≡ false = ap (λ (w : Word). bytes_eq w j) (same_word r.id i is) ∙ apart in
    rw other refl
values_other_by i j s vs r rows more false is apart behind = values_skip j r rows more (bytes_eq r.id j) behind

-- so in all rows
pub values_other : (i j : Word) (how : Reading) (s : ValueSource) (vs : List Word) (rows : List Row) → bytes_eq i j ≡ false
    → values_for_id j (with_values i how s vs rows) ≡ values_for_id j rows
values_other i j how s vs [] apart = rw apart refl
values_other i j how s vs (r ∷ rows) apart =
    values_other_by i j s vs r rows (with_values i how s vs rows) (bytes_eq r.id i) refl apart
    (values_other i j how s vs rows apart)

-- ---- what at most one value stands for

-- what at most one value stands for, with one more
abbrev add : {A : Type 0} → Option (Option A) → Option A → Option (Option A)
add None r = None
add (Some None) r = option_map Some r
add (Some (Some x)) r = None

-- two values are never one, whatever they stand for
one_more_by : {A : Type 0} (r s : Option A) → None ≡ add (option_map Some r) s
one_more_by None s = refl
one_more_by (Some x) s = refl

-- so it is of the values of an argument
pub one_more : {A : Type 0} (g : Word → Option A) (vs : List Word) (v : Word) → one g (vs ++ v ∷ []) ≡ add (one g vs) (g v)
one_more g [] v = refl
one_more g (x ∷ []) v = one_more_by (g x) (g v)
one_more g (x ∷ y ∷ more) v = refl

-- an option more, among options that were found
abbrev WithChoice : Option Options → Option Choice → Option Options
WithChoice o c = option_and_then (λ p. option_and_then (with_choice p) c) o

-- pages that are none leave no options
no_pages : (a : Option (Option Layout)) (b : Option (Option ℕ)) → options_of a None b ≡ None
no_pages None b = refl
no_pages (Some a) b = refl

-- bits that are none leave no options
no_bits : (a : Option (Option Layout)) (p : Option (Option ℕ)) → options_of a p None ≡ None
no_bits None p = refl
no_bits (Some a) None = refl
no_bits (Some a) (Some p) = refl

-- a form more
pub form_more : (a : Option (Option Layout)) (p b : Option (Option ℕ)) (r : Option Layout)
    → options_of (add a r) p b ≡ WithChoice (options_of a p b) (option_map Form r)
form_more None p b r = refl
form_more (Some a) None b r = no_pages (add (Some a) r) b
form_more (Some a) (Some p) None r = no_bits (add (Some a) r) (Some p)
form_more (Some None) (Some p) (Some b) None = refl
form_more (Some None) (Some p) (Some b) (Some l) = refl
form_more (Some (Some a)) (Some p) (Some b) None = refl
form_more (Some (Some a)) (Some p) (Some b) (Some l) = refl

-- a number of pages more
pub pages_more : (a : Option (Option Layout)) (p b : Option (Option ℕ)) (r : Option ℕ)
    → options_of a (add p r) b ≡ WithChoice (options_of a p b) (option_map Pages r)
pages_more None p b r = refl
pages_more (Some a) None b r = refl
pages_more (Some a) (Some p) None r = no_bits (Some a) (add (Some p) r)
pages_more (Some a) (Some None) (Some b) None = refl
pages_more (Some a) (Some None) (Some b) (Some n) = refl
pages_more (Some a) (Some (Some p)) (Some b) None = refl
pages_more (Some a) (Some (Some p)) (Some b) (Some n) = refl

-- a number of bits more
pub bits_more : (a : Option (Option Layout)) (p b : Option (Option ℕ)) (r : Option ℕ)
    → options_of a p (add b r) ≡ WithChoice (options_of a p b) (option_map Bits r)
bits_more None p b r = refl
bits_more (Some a) None b r = refl
bits_more (Some a) (Some p) None r = refl
bits_more (Some a) (Some p) (Some None) None = refl
bits_more (Some a) (Some p) (Some None) (Some n) = refl
bits_more (Some a) (Some p) (Some (Some b)) None = refl
bits_more (Some a) (Some p) (Some (Some b)) (Some n) = refl

-- ---- what was found, with one use more

-- an option more, beside the plain words
pub beside : (words : List Word) (o : Option Options) (c : Option Choice)
    → option_map (λ p. record { plain = words; options = p }) (WithChoice o c)
    ≡ option_and_then (λ (f : Found). option_map (λ p. record f { options = p }) (option_and_then (with_choice f.options) c))
    (option_map (λ p. record { plain = words; options = p }) o)
beside words None c = refl
beside words (Some o) c = refl

-- a plain word more, beside the options
pub word_beside : (words : List Word) (w : Word) (o : Option Options)
    → option_map (λ p. record { plain = words ++ w ∷ []; options = p }) o
    ≡ option_map (found_with_word w) (option_map (λ p. record { plain = words; options = p }) o)
word_beside words w None = refl
word_beside words w (Some o) = refl
