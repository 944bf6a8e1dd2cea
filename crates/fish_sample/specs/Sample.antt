-- What a sample stores, and what it prints.
use Rattle.std.specs.Prelude.{ℕ, ◌+◌, ◌*◌, ◌%◌, ◌==◌, ◌++◌, List, ◌∷◌, codes, count_by, decimal, filter, map, pos, true}
use Rattle.std.specs.List.{flat_map, range_with_len}
use Rattle.fish_gen.specs.Sample.{sample_text}
use Rattle.fish_lang.specs.Definition.{Definition}
use Rattle.fish_lang.specs.Language.{IsAccepted}
use Rattle.fish_psf.specs.Records.{evaluation}
use Rattle.fish_psf.specs.Select.{has_value}
use Rattle.fish_value.specs.ValueText.{value_print}
use Rattle.fish_value.specs.declared.field.Form.TheVariants.{Json}
use Rattle.fish_value.specs.declared.value.Value.{Value}
use Rattle.fish_value.specs.declared.value.Value.TheVariants as value

-- ---- definitions

-- those that are registered, under these names
pub record Definitions : Type 0 where
  pub kind : Definition
  pub late : Definition
  pub band : Definition

-- what each is: a text is one definition at most
pub record AreDefined (d : Definitions) : Type 0 where
  pub kind : IsAccepted (codes "take type") d.kind
  pub late : IsAccepted (codes "flag when n >= 10000 and type = \"T3\"") d.late
  pub band : IsAccepted (codes "bucket k by 100") d.band

-- ---- what is counted

-- a value, and the definition with its name
pub record SampleQuestion : Type 0 where
  pub name : List ℕ
  pub definition : Definition
  pub value : Value

-- `kind "T0"`
abbrev pub asked_kind : Definitions → ℕ → SampleQuestion
asked_kind d n = record { name = codes "kind"; definition = d.kind; value = value.Text (codes "T" ++ decimal n) }

-- `late true`
abbrev pub asked_late : Definitions → SampleQuestion
asked_late d = record { name = codes "late"; definition = d.late; value = value.Bool true }

-- `band 100`, the second of the bands
abbrev pub asked_band : Definitions → ℕ → SampleQuestion
asked_band d n = record { name = codes "band"; definition = d.band; value = value.Int (pos (n * 100)) }

-- the seven kinds, the late ones, and ten bands
abbrev pub all_asked : Definitions → List SampleQuestion
all_asked d = map (asked_kind d) (range_with_len 0 7) ++ asked_late d ∷ map (asked_band d) (range_with_len 0 10)

-- ---- records

-- of the numbers below one, those of the records of a lane: every fourth, as there are four lanes
abbrev pub share : ℕ → ℕ → List ℕ
share number lane = filter (λ i. (i % 4) + 1 == lane) (range_with_len 0 number)

-- for how many of the records below a number the definition gives the value
abbrev pub asked_count : ℕ → SampleQuestion → ℕ
asked_count number a =
    count_by (λ i. has_value (evaluation a.definition Json (sample_text i)) a.value) (range_with_len 0 number)

-- ---- the text

-- a line of a word and a number
abbrev pub number_line : List ℕ → ℕ → List ℕ
number_line word number = word ++ (codes " " ++ (decimal number ++ codes "\n"))

-- a line of a name, a value and how many have it
abbrev pub count_line : List ℕ → Value → ℕ → List ℕ
count_line name value count = number_line (name ++ (codes " " ++ value_print value)) count

-- what is printed of the records below a number
abbrev pub summary_text : Definitions → ℕ → List ℕ
summary_text d number = number_line (codes "sample") number
    ++ (flat_map (λ a. count_line a.name a.value (asked_count number a)) (all_asked d)
    ++ number_line (codes "stored") number)
