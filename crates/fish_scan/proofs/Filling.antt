-- A range is read piece by piece.
use Rattle.std.proofs.Common.{◌≡◌, ℕ, ◌≤◌, ◌+◌, zero, suc, List, [], ◌∷◌, ap, drop, length, sym, subst, arith, Some, slice_get, take}
use Rattle.std.proofs.lemmas.Option.{same_Some}
use Rattle.fish_lang.specs.Definition.{Definition}
use Rattle.fish_plan.specs.Pieces.{Fill, piece_from, piece_to}
use Rattle.fish_plan.specs.declared.pieces.Piece.{Piece}
use Rattle.fish_plan.specs.declared.pieces.Piece.TheVariants.{Full, Index}
use Rattle.fish_rule.specs.Logs.{Learns}
use Rattle.fish_rule.specs.declared.view.View.{View}
use Rattle.fish_scan.proofs.Parsing.{parsed_more, parsed_start}
use Rattle.fish_scan.proofs.Telling.{adds_both, adds_later, adds_none}
use Rattle.fish_scan.proofs.Walks.{index_later}
use Rattle.fish_scan.proofs.Working.{take_all}
use Rattle.fish_scan.specs.Parses.{HasParsed}
use Rattle.fish_scan.specs.within.Parses.{HasParsedPiece}
use Rattle.fish_scan.specs.within.Pieces.{AreReadable, IsReadable, full_numbers, full_size}
use Rattle.fish_scan.specs.within.Reading.{Adds}
use Rattle.fish_scan.specs.declared.reach.Reach.{Reach}
use Rattle.fish_value.specs.declared.row.Row.{Row}
use Rattle.fish_value.specs.declared.value.Value.{Value}

-- a piece that can be read can be read later
pub readable_later : (v u : View) (def : Definition) (reach : Reach) (piece : Piece) → Learns v u
    → IsReadable v def reach piece → IsReadable u def reach piece
readable_later v u def reach (Index id from to) learns h = (h.0, h.1, index_later v u def id from to learns h.2)
readable_later v u def reach (Full from to) learns h = h

-- so can all of them
pub all_readable_later : (v u : View) (def : Definition) (reach : Reach) (pieces : List Piece) → Learns v u
    → AreReadable v def reach pieces → AreReadable u def reach pieces
all_readable_later v u def reach pieces learns h place piece there =
    readable_later v u def reach piece learns (h place piece there)

-- pieces that fill a range fill none that begins past its end
fill_order : (pieces : List Piece) (from to : ℕ) → Fill pieces from to → from ≤ to
fill_order [] from to fill = omega arith
fill_order (x ∷ pieces) from to fill =
    let below = fill_order pieces from (piece_from x) fill.2 in let less = fill.1 in omega arith

-- the piece at a place, and those after it
pub fill_at : (pieces : List Piece) (n from to : ℕ) (x : Piece) → slice_get pieces n ≡ Some x → Fill (drop n pieces) from to
    → Fill (x ∷ drop (suc n) pieces) from to
fill_at [] n from to x there fill = absurd cc
fill_at (y ∷ pieces) zero from to x there fill =
    subst (λ (z : Piece). Fill (z ∷ pieces) from to) (same_Some y x there) fill
fill_at (y ∷ pieces) (suc n) from to x there fill = fill_at pieces n from to x there fill

-- after the last place there is none
pub fill_end : (pieces : List Piece) (n from to : ℕ) → length pieces ≤ n → Fill (drop n pieces) from to → from ≡ to
fill_end [] zero from to past fill = fill
fill_end [] (suc n) from to past fill = fill
fill_end (x ∷ pieces) zero from to past fill = absurd (omega arith)
fill_end (x ∷ pieces) (suc n) from to past fill = fill_end pieces n from to (omega arith) fill

-- the numbers of a piece and of those after it that are looked at one by one
pub full_at : (pieces : List Piece) (n : ℕ) (x : Piece) → slice_get pieces n ≡ Some x
    → full_numbers (drop n pieces) ≡ full_size x + full_numbers (drop (suc n) pieces)
full_at [] n x there = absurd cc
full_at (y ∷ pieces) zero x there = ap (λ (z : Piece). full_size z + full_numbers pieces) (same_Some y x there)
full_at (y ∷ pieces) (suc n) x there = full_at pieces n x there

-- the numbers from a bound on were read and the records of full pieces parsed, and the pieces from a place on fill what is below
pub record HasRead (v : View) (def : Definition) (value : Value) (low : ℕ) (reach : Reach) (pieces : List Piece) (n : ℕ)
    (before after : List Row) (old new : ℕ) : Type 0 where
  pub bound : ℕ
  pub fill : Fill (drop n pieces) low bound
  pub below : bound ≤ reach.to
  pub rows : Adds v def value bound reach.to reach.opens before after
  pub parsed : HasParsed v reach.opens (take n pieces) bound reach.to old new

-- none yet
pub read_none : (v : View) (def : Definition) (value : Value) (low : ℕ) (reach : Reach) (pieces : List Piece) (rows : List Row) (old : ℕ)
    → Fill pieces low reach.to → HasRead v def value low reach pieces 0 rows rows old old
read_none v def value low reach pieces rows old fill = record {
  bound = reach.to;
  fill = fill;
  below = omega arith;
  rows = adds_none v def value reach.to reach.opens rows;
  parsed = parsed_start v reach.opens reach.to old;
}

-- one piece more
pub read_more : (v u : View) (def : Definition) (value : Value) (low : ℕ) (reach : Reach) (pieces : List Piece) (n : ℕ) (x : Piece)
    (before rows after : List Row) (old late new : ℕ) → Learns v u → slice_get pieces n ≡ Some x
    → HasRead v def value low reach pieces n before rows old late
    → Adds u def value (piece_from x) (piece_to x) reach.opens rows after → HasParsedPiece u reach.opens x late new
    → HasRead u def value low reach pieces (suc n) before after old new
read_more v u def value low reach pieces n x before rows after old late new learns there h adds parsed =
    let f = fill_at pieces n low h.bound x there h.fill in
    let less = f.1 in
    let below = h.below in
    record {
      bound = piece_from x;
      fill = f.2;
      below = omega arith;
      rows = adds_both u def value (piece_from x) h.bound reach.to reach.opens before rows after (omega arith) below
          (adds_later v u _ _ _ _ _ _ _ learns h.rows)
          (subst (λ (z : ℕ). Adds u def value (piece_from x) z reach.opens rows after) f.0 adds);
      parsed = parsed_more v u reach.opens pieces n x (piece_from x) h.bound reach.to old late new learns there h.parsed
          (subst (λ (z : ℕ). HasParsed u reach.opens (x ∷ []) (piece_from x) z late new) f.0 parsed);
    }

-- all of them
pub read_all : (v : View) (def : Definition) (value : Value) (low : ℕ) (reach : Reach) (pieces : List Piece) (n : ℕ)
    (before after : List Row) (old new : ℕ) → length pieces ≤ n → HasRead v def value low reach pieces n before after old new
    → Adds v def value low reach.to reach.opens before after
read_all v def value low reach pieces n before after old new past h =
    subst (λ (z : ℕ). Adds v def value z reach.to reach.opens before after)
    (sym (fill_end pieces n low h.bound past h.fill)) h.rows

-- and all that were to be parsed were
pub parsed_all : (v : View) (def : Definition) (value : Value) (low : ℕ) (reach : Reach) (pieces : List Piece) (n : ℕ)
    (before after : List Row) (old new : ℕ) → length pieces ≤ n → HasRead v def value low reach pieces n before after old new
    → HasParsed v reach.opens pieces low reach.to old new
parsed_all v def value low reach pieces n before after old new past h =
    subst (λ (z : List Piece × ℕ). HasParsed v reach.opens z.0 z.1 reach.to old new)
    (λ i. (take_all pieces n past i, sym (fill_end pieces n low h.bound past h.fill) i)) h.parsed
