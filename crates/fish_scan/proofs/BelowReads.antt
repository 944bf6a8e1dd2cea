-- The pieces below the base are read one after another.
use Rattle.std.proofs.Common.{◌≡◌, ℕ, ◌+◌, ◌≤◌, zero, suc, List, [], ◌∷◌, refl, sym, ap, ◌∙◌, subst, arith, Some, drop, length}
use Rattle.std.proofs.Common.{slice_get, take}
use Rattle.std.proofs.lemmas.Option.{same_Some}
use Rattle.fish_cold.specs.Carries.{IsPrior}
use Rattle.fish_image.specs.Reached.{Reached}
use Rattle.fish_catalog.specs.declared.entry.Entry.{Entry}
use Rattle.fish_lang.specs.Definition.{Definition}
use Rattle.fish_plan.specs.Pieces.{Fill, piece_from, piece_to}
use Rattle.fish_plan.specs.declared.pieces.Piece.{Piece}
use Rattle.fish_plan.specs.declared.pieces.Piece.TheVariants.{Full, Index}
use Rattle.fish_rule.specs.Logs.{Learns}
use Rattle.fish_rule.specs.declared.view.View.{View}
use Rattle.fish_scan.proofs.Filling.{fill_at, fill_end}
use Rattle.fish_scan.proofs.OlderLoads.{all_older_later, older_allowed_more}
use Rattle.fish_scan.proofs.OlderRows.{adds_older_both, adds_older_none}
use Rattle.fish_scan.proofs.Walks.{index_later}
use Rattle.fish_scan.proofs.Working.{take_all}
use Rattle.fish_scan.specs.Below.{AreOlderAllowed, older_parses, older_parses_of}
use Rattle.fish_scan.specs.within.Below.{HasReadBelow, HasReadPiece}
use Rattle.fish_scan.specs.within.Cutting.{IsOlderReadable}
use Rattle.fish_scan.specs.Indices.{bucket_of_value}
use Rattle.fish_scan.specs.Older.{stored_within}
use Rattle.fish_scan.specs.within.Older.{AddsOlder}
use Rattle.fish_scan.specs.within.OlderReading.{HasReadOlder, HasWalkedOlder}
use Rattle.fish_scan.specs.OlderWork.{IsOlderFullAllowed, IsOlderIndexAllowed}
use Rattle.fish_value.specs.declared.row.Row.{Row}
use Rattle.fish_value.specs.declared.value.Value.{Value}

-- a piece that can be read can be read later
pub older_readable_later : (v u : View) (def : Definition) (base : ℕ) (piece : Piece) → Learns v u → IsOlderReadable v def base piece
    → IsOlderReadable u def base piece
older_readable_later v u def base (Index id from to) learns h = (h.0, h.1, index_later v u def id from to learns h.2)
older_readable_later v u def base (Full from to) learns h = h

-- one piece more is parsed
parses_more : (entries : List Entry) (pieces : List Piece) (n : ℕ) (x : Piece) → slice_get pieces n ≡ Some x
    → older_parses entries (take (suc n) pieces) ≡ older_parses entries (take n pieces) + older_parses_of entries x
parses_more entries [] n x there = absurd cc
parses_more entries (y ∷ pieces) zero x there =
    let same = ap (older_parses_of entries) (same_Some y x there) in omega arith
parses_more entries (y ∷ pieces) (suc n) x there = (let rest = parses_more entries pieces n x there in omega arith)

module _ {image : List ℕ} {count : ℕ} {end : Reached} (prior : IsPrior image count end) (v : View) (def : Definition)
    (value : Value) (pieces : List Piece) (low last : ℕ) where
  -- the pieces up to a place were read, and those from there on fill what is below
  pub record ReadsBelow (u : View) (n : ℕ) (before after : List Row) (parsed parses loaded loads : ℕ) : Type 0 where
    pub bound : ℕ
    pub fill : Fill (drop n pieces) low bound
    pub below : bound ≤ last
    pub read : HasReadBelow prior v u def value (take n pieces) bound last before after parsed parses loaded loads

  -- none yet
  pub below_none : (rows : List Row) (parsed loaded : ℕ) → Fill pieces low last
      → ReadsBelow v 0 rows rows parsed parsed loaded loaded
  below_none rows parsed loaded fill = record {
    bound = last;
    fill = fill;
    below = omega arith;
    read = record {
      rows = adds_older_none end.entries def value last rows;
      parses_are = omega arith;
      walked = 0;
      most = 0;
      allowed = (refl, refl);
      own = omega arith;
      few = omega arith;
    };
  }

  -- one piece more
  pub below_more : (m u : View) (n : ℕ) (x : Piece) (before rows after : List Row) (parsed late parses loaded mid loads : ℕ)
      → Learns m u → slice_get pieces n ≡ Some x → ReadsBelow m n before rows parsed late loaded mid
      → HasReadPiece prior m u def value x rows after late parses mid loads
      → ReadsBelow u (suc n) before after parsed parses loaded loads
  below_more m u n x before rows after parsed late parses loaded mid loads learns there g p =
      let f = fill_at pieces n low g.bound x there g.fill in
      let less = f.1 in
      let below = g.below in
      let r = g.read in
      let one = r.parses_are in
      let two = p.parses_are in
      let counts = parses_more end.entries pieces n x there in
      let a = r.own in
      let b = p.own in
      let y = r.few in
      let z = p.few in
      record {
        bound = piece_from x;
        fill = f.2;
        below = omega arith;
        read = record {
          rows = adds_older_both end.entries def value (piece_from x) g.bound last before rows after (omega arith) below r.rows
              (subst (λ (e : ℕ). AddsOlder end.entries def value (piece_from x) e rows after) f.0 p.rows);
          parses_are = omega arith;
          walked = r.walked + p.walked;
          most = r.most + p.most;
          allowed = older_allowed_more prior u value after pieces n x r.walked r.most p.walked p.most there
              (subst (λ (e : List Row). AreOlderAllowed prior u value e (take n pieces) r.walked r.most) (sym p.rows.1)
              (all_older_later prior m u value rows p.rows.0 (take n pieces) r.walked r.most learns r.allowed)) p.allowed;
          own = omega arith;
          few = omega arith;
        };
      }

  -- all of them
  pub below_all : (u : View) (n : ℕ) (before after : List Row) (parsed parses loaded loads : ℕ) → length pieces ≤ n
      → ReadsBelow u n before after parsed parses loaded loads
      → HasReadBelow prior v u def value pieces low last before after parsed parses loaded loads
  below_all u n before after parsed parses loaded loads past g =
      subst (λ (z : List Piece × ℕ). HasReadBelow prior v u def value z.0 z.1 last before after parsed parses loaded loads)
      (λ i. (take_all pieces n past i, sym (fill_end pieces n low g.bound past g.fill) i)) g.read

-- ---- one piece

module _ {image : List ℕ} {count : ℕ} {end : Reached} (prior : IsPrior image count end) (v u : View) (def : Definition) (value : Value)
    (piece : Piece) (from to a z : ℕ) (before after : List Row) (parsed parses loaded loads : ℕ) where
  -- a piece that was read by a chain
  pub piece_indexed : (id : ℕ) → piece ≡ Index id from to → a ≡ piece_from piece → z ≡ piece_to piece
      → HasWalkedOlder prior v u def value id a z before after loaded loads
      → HasReadPiece prior v u def value piece before after parsed parsed loaded loads
  piece_indexed id is first last w =
      let a_is : a ≡ from = first ∙ ap piece_from is in
      let z_is : z ≡ to = last ∙ ap piece_to is in
      subst (λ (x : Piece). HasReadPiece prior v u def value x before after parsed parsed loaded loads) (sym is) (record {
        rows = subst (λ (x : ℕ × ℕ). AddsOlder end.entries def value x.0 x.1 before after) (λ i. (a_is i, z_is i)) w.rows;
        parses_are = omega arith;
        walked = w.walked;
        most = w.most;
        allowed = (
          w.walk,
          subst (λ (x : ℕ × ℕ). IsOlderIndexAllowed prior (bucket_of_value u id value) after x.0 x.1 w.most) (λ i. (a_is i, z_is i))
              w.allowed,
        );
        own = w.own;
        few = w.few;
      })

  -- and one that was read number by number
  pub piece_full : piece ≡ Full from to → a ≡ piece_from piece → z ≡ piece_to piece
      → HasReadOlder prior def value a z before after parsed parses loaded loads
      → HasReadPiece prior v v def value piece before after parsed parses loaded loads
  piece_full is first last r =
      let a_is : a ≡ from = first ∙ ap piece_from is in
      let z_is : z ≡ to = last ∙ ap piece_to is in
      let few = r.few in
      subst (λ (x : Piece). HasReadPiece prior v v def value x before after parsed parses loaded loads) (sym is) (record {
        rows = subst (λ (x : ℕ × ℕ). AddsOlder end.entries def value x.0 x.1 before after) (λ i. (a_is i, z_is i)) r.rows;
        parses_are = subst (λ (x : ℕ × ℕ). parses ≡ parsed + stored_within end.entries x.0 x.1) (λ i. (a_is i, z_is i)) r.parses_are;
        walked = 0;
        most = r.most;
        allowed = (refl, subst (λ (x : ℕ × ℕ). IsOlderFullAllowed prior x.0 x.1 r.most) (λ i. (a_is i, z_is i)) r.allowed);
        own = omega arith;
        few = omega arith;
      })
