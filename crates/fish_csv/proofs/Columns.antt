-- What a row has at a path.
use Rattle.std.specs.Prelude.{None}
use Rattle.std.proofs.Common.{◌≡◌, ℕ, List, Some, refl}
use Rattle.csv.specs.Records.{field_at}
use Rattle.fish_csv.specs.Reading.{column_at, csv_field, csv_field_in, csv_field_of, row_of}
use Rattle.fish_value.specs.declared.field.Field.TheVariants as kind

-- a path that names no column
pub no-column : (path fields : List (List ℕ)) → None ≡ column_at path → kind.Missing ≡ csv_field_in path fields
unfolding csv_field_in
no-column path fields e = rw (← e) refl

-- a column that the row doesn't have
pub no-csv_field : (path fields : List (List ℕ)) (at : ℕ) → Some at ≡ column_at path → None ≡ field_at fields at
    → kind.Missing ≡ csv_field_in path fields
unfolding csv_field_in
no-csv_field path fields at e f = rw (← e, ← f) refl

-- a column that the row has
pub the-csv_field : (path fields : List (List ℕ)) (at : ℕ) (text : List ℕ) → Some at ≡ column_at path
    → Some text ≡ field_at fields at → csv_field_of (Some text) ≡ csv_field_in path fields
unfolding csv_field_in
the-csv_field path fields at text e f = rw (← e, ← f) refl

-- what a payload that was read has at a path is what its row has
pub field_of_row : (b : List ℕ) (path fields : List (List ℕ)) → row_of b ≡ Some fields → csv_field b path ≡ csv_field_in path fields
unfolding csv_field csv_field_in
field_of_row b path fields e = rw e refl
