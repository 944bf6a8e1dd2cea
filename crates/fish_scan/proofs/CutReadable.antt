-- What of readable pieces is at or past a number can be read, and what is below it can.
use Rattle.std.proofs.Common.{◌≡◌, ℕ, zero, suc, ◌<◌, List, [], ◌∷◌, refl, sym, ◌∙◌, subst, arith}
use Rattle.std.proofs.Common.{Option, Some, None, slice_get, Bool, true, false, max, min, nat_lt}
use Rattle.std.specs.List.{filter_map}
use Rattle.std.proofs.lemmas.Bool.{ltb-true}
use Rattle.std.proofs.lemmas.Option.{same_Some}
use Rattle.fish_lang.specs.Definition.{Definition}
use Rattle.fish_plan.specs.Pieces.{piece_from, piece_to}
use Rattle.fish_plan.specs.declared.pieces.Piece.{Piece}
use Rattle.fish_plan.specs.declared.pieces.Piece.TheVariants.{Full, Index}
use Rattle.fish_rule.specs.declared.view.View.{View}
use Rattle.fish_scan.proofs.CutPieces.{cut_none, cut_some, map_none, map_some}
use Rattle.fish_scan.specs.Cutting.{above_of, below_of, piece_with_ends, pieces_above, pieces_below}
use Rattle.fish_scan.specs.within.Cutting.{AreOlderReadable, IsOlderReadable}
use Rattle.fish_scan.specs.within.Pieces.{AreReadable, IsReadable}
use Rattle.fish_scan.specs.declared.reach.Reach.{Reach}

-- ---- where a cut piece comes from

-- the piece of which it is a part
pub record IsPartOf (f : Piece → Option Piece) (ps : List Piece) (y : Piece) : Type 0 where
  pub position : ℕ
  pub piece : Piece
  pub there : slice_get ps position ≡ Some piece
  pub is : f piece ≡ Some y

part_next : (f : Piece → Option Piece) (x : Piece) (ps : List Piece) (y : Piece) → IsPartOf f ps y → IsPartOf f (x ∷ ps) y
part_next f x ps y h = record { position = suc h.position; piece = h.piece; there = h.there; is = h.is }

part_by : (f : Piece → Option Piece) (x : Piece) (ps : List Piece) (y : Piece)
    → ((n : ℕ) → slice_get (filter_map f ps) n ≡ Some y → IsPartOf f ps y) → (o : Option Piece) → f x ≡ o → (n : ℕ)
    → slice_get (filter_map f (x ∷ ps)) n ≡ Some y → IsPartOf f (x ∷ ps) y
part_by f x ps y rest None is n there =
    part_next f x ps y (rest n (subst (λ (z : List Piece). slice_get z n ≡ Some y) (map_none f x ps is) there))
part_by f x ps y rest (Some z) is zero there =
    let first : slice_get (z ∷ filter_map f ps) 0 ≡ Some y =
    subst (λ (l : List Piece). slice_get l 0 ≡ Some y) (map_some f x z ps is) there in
    record { position = 0; piece = x; there = refl; is = is ∙ first }
part_by f x ps y rest (Some z) is (suc n) there =
    part_next f x ps y (rest n (subst (λ (l : List Piece). slice_get l (suc n) ≡ Some y) (map_some f x z ps is) there))

pub part_of : (f : Piece → Option Piece) (ps : List Piece) (n : ℕ) (y : Piece) → slice_get (filter_map f ps) n ≡ Some y
    → IsPartOf f ps y
part_of f [] n y there = absurd cc
part_of f (x ∷ ps) n y there = part_by f x ps y (λ m at. part_of f ps m y at) (f x) refl n there

-- a part ends as the piece does, and some of it is past the number
some_above : (base : ℕ) (x y : Piece) → above_of base x ≡ Some y
    → (base < piece_to x) × (y ≡ piece_with_ends x (max (piece_from x) base) (piece_to x))
some_above base x y h = by (nat_lt base (piece_to x)) refl
  where
    z : Piece
    z = piece_with_ends x (max (piece_from x) base) (piece_to x)

    by : (t : Bool) → nat_lt base (piece_to x) ≡ t → (base < piece_to x) × (y ≡ z)
    by true is = (ltb-true base (piece_to x) is, same_Some y z (sym h ∙ cut_some (nat_lt base (piece_to x)) z is))
    by false is = absurd (let none = sym h ∙ cut_none (nat_lt base (piece_to x)) z is in cc)

some_below : (base : ℕ) (x y : Piece) → below_of base x ≡ Some y
    → (piece_from x < base) × (y ≡ piece_with_ends x (piece_from x) (min (piece_to x) base))
some_below base x y h = by (nat_lt (piece_from x) base) refl
  where
    z : Piece
    z = piece_with_ends x (piece_from x) (min (piece_to x) base)

    by : (t : Bool) → nat_lt (piece_from x) base ≡ t → (piece_from x < base) × (y ≡ z)
    by true is = (ltb-true (piece_from x) base is, same_Some y z (sym h ∙ cut_some (nat_lt (piece_from x) base) z is))
    by false is = absurd (let none = sym h ∙ cut_none (nat_lt (piece_from x) base) z is in cc)

-- ---- what can be read

module _ (v : View) (def : Definition) (reach : Reach) where
  -- a part past the number can be
  readable_part : (base : ℕ) (x : Piece) → base < piece_to x → IsReadable v def reach x
      → IsReadable v def reach (piece_with_ends x (max (piece_from x) base) (piece_to x))
  readable_part base (Index id from to) less h = (
    (let within = h.0 in let a = within.from in let b = within.some in record { from = omega arith; some = omega arith; to = within.to }),
    h.1,
    (let x = h.2 in let after = x.after in record {
      version = x.version;
      rows = x.rows;
      knows = x.knows;
      listed = x.listed;
      there = x.there;
      means = x.means;
      begin = x.begin;
      end = x.end;
      interval = x.interval;
      after = omega arith;
      before = x.before;
    }),
  )
  readable_part base (Full from to) less h =
      (let a = h.from in let b = h.some in record { from = omega arith; some = omega arith; to = h.to })

  pub readable_above : (base : ℕ) (ps : List Piece) → AreReadable v def reach ps → AreReadable v def reach (pieces_above base ps)
  readable_above base ps h n y there =
      let part = part_of (above_of base) ps n y there in
      let some = some_above base part.piece y part.is in
      subst (IsReadable v def reach) (sym some.1) (readable_part base part.piece some.0 (h part.position part.piece part.there))

  -- and a part below it
  older_part : (base : ℕ) (x : Piece) → piece_from x < base → IsReadable v def reach x
      → IsOlderReadable v def base (piece_with_ends x (piece_from x) (min (piece_to x) base))
  older_part base (Index id from to) less h = (
    (let b = h.0.some in omega arith),
    omega arith,
    (let x = h.2 in let before = x.before in record {
      version = x.version;
      rows = x.rows;
      knows = x.knows;
      listed = x.listed;
      there = x.there;
      means = x.means;
      begin = x.begin;
      end = x.end;
      interval = x.interval;
      after = x.after;
      before = omega arith;
    }),
  )
  older_part base (Full from to) less h = ((let b = h.some in omega arith), omega arith)

  pub readable_below : (base : ℕ) (ps : List Piece) → AreReadable v def reach ps → AreOlderReadable v def base (pieces_below base ps)
  readable_below base ps h n y there =
      let part = part_of (below_of base) ps n y there in
      let some = some_below base part.piece y part.is in
      subst (IsOlderReadable v def base) (sym some.1) (older_part base part.piece some.0 (h part.position part.piece part.there))
