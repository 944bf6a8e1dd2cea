-- The texts of what was done, by statement. Each line ends by LF.
use Rattle.std.specs.Prelude.{ℕ, List, ◌++◌, decimal, codes}
use Rattle.fish_value.specs.ValueText.{value_print}
use Rattle.fish_value.specs.declared.value.Value.{Value}
use Rattle.fish_plan.specs.declared.pieces.Piece.{Piece}
use Rattle.fish_report.specs.Parts.{counts_text, file_text, numbers_text, pieces_text, range_text}

-- `select found K of N refused R`
unfoldable pub select_line : ℕ → ℕ → ℕ → List ℕ
select_line found count refused =
    codes "select found " ++
    (decimal found ++ (codes " of " ++ (decimal count ++ (codes " refused " ++ (decimal refused ++ codes "\n")))))

-- a word and a number: `opened N`, `lane K`, `checkpoint N`, `closed N`
unfoldable pub count_text : List ℕ → ℕ → List ℕ
count_text word n = word ++ (codes " " ++ (decimal n ++ codes "\n"))

-- `lanes F..T`
unfoldable pub lanes_text : ℕ → ℕ → List ℕ
lanes_text from to = codes "lanes " ++ (range_text from to ++ codes "\n")

-- `registered NAME id I from B`
unfoldable pub registered_text : List ℕ → ℕ → ℕ → List ℕ
registered_text name id from =
    codes "registered " ++ (name ++ (codes " id " ++ (decimal id ++ (codes " from " ++ (decimal from ++ codes "\n")))))

-- `registered NAME id I rolling`
unfoldable pub rolling_text : List ℕ → ℕ → List ℕ
rolling_text name id = codes "registered " ++ (name ++ (codes " id " ++ (decimal id ++ codes " rolling\n")))

-- `bound id I from B`
unfoldable pub bound_text : ℕ → ℕ → List ℕ
bound_text id from = codes "bound id " ++ (decimal id ++ (codes " from " ++ (decimal from ++ codes "\n")))

-- `deregistered NAME id I to B`
unfoldable pub deregistered_text : List ℕ → ℕ → ℕ → List ℕ
deregistered_text name id to =
    codes "deregistered " ++ (name ++ (codes " id " ++ (decimal id ++ (codes " to " ++ (decimal to ++ codes "\n")))))

-- `ingested FILE stored S refused R`
unfoldable pub ingested_text : List ℕ → ℕ → ℕ → List ℕ
ingested_text file stored refused = codes "ingested " ++ (file_text file ++ counts_text stored refused)

-- what was asked: `NAME = VALUE in F..T`
unfoldable pub question_text : List ℕ → Value → ℕ → ℕ → List ℕ
question_text name value from to = name ++ (codes " = " ++ (value_print value ++ (codes " in " ++ range_text from to)))

-- `scan NAME = VALUE in F..T`, the first part of a line
unfoldable pub scan_text : List ℕ → Value → ℕ → ℕ → List ℕ
scan_text name value from to = codes "scan " ++ question_text name value from to

-- `explain NAME = VALUE in F..T`, the first part of a line
unfoldable pub explain_text : List ℕ → Value → ℕ → ℕ → List ℕ
explain_text name value from to = codes "explain " ++ question_text name value from to

-- what a scan found: ` found K open OPENS`, the rest of a line
unfoldable pub found_text : ℕ → List ℕ → List ℕ
found_text found opens = codes " found " ++ (decimal found ++ (codes " open " ++ (numbers_text opens ++ codes "\n")))

-- what an `explain` tells: `: PIECES`
unfoldable pub plan_text : List Piece → List ℕ
plan_text pieces = codes ": " ++ (pieces_text pieces ++ codes "\n")
