-- Parts of a file, one more, and over longer ones.
use Rattle.std.proofs.Common.{◌≡◌, ℕ, List, [], ◌∷◌, ◌++◌, append-nil, append_assoc, refl, sym, ap, ◌∙◌, subst, take, length, ◌<◌}
use Rattle.fish_feed.specs.Parts.{AreParts, EndsLine, HasNoMoreParts, IsFileRead, IsTooLong, begin_after, longest_csv_read}
use Rattle.fish_lanes.specs.declared.work.Work.{Work}
use Rattle.fish_lanes.specs.declared.work.Work.TheVariants as work
use Rattle.fish_lines.specs.declared.resuming.Begin.{Begin}
use Rattle.fish_lines.specs.declared.resuming.Begin.TheVariants.{After}
use Rattle.fish_value.specs.Limits.{longest_file}
use Rattle.fish_value.specs.declared.field.Form.{Form}
use Rattle.fish_value.specs.declared.field.Form.TheVariants.{Json}

after_same : (ws : List Work) → begin_after After ws ≡ After
after_same [] = refl
after_same (w ∷ ws) = refl

-- where it goes on after one more
pub after_push : (begin : Begin) (ws : List Work) (w : Work) → begin_after begin (ws ++ w ∷ []) ≡ After
after_push begin [] w = refl
after_push begin (x ∷ ws) w = refl

-- one more part
parts_push : (form : Form) (begin : Begin) (name b : List ℕ) (ws : List Work) (part then : List ℕ) (w : Work)
    → AreParts form begin name b ws (part ++ then) → form ≡ Json → EndsLine part → w ≡ work.Ingest form (begin_after begin ws) name part
    → AreParts form begin name b (ws ++ w ∷ []) then
parts_push form begin name b [] part then w h json line is = (part, then, h, json, line, is, refl)
parts_push form begin name b (x ∷ ws) part then w h json line is = (
  h.0,
  h.1,
  h.2,
  h.3,
  h.4,
  h.5,
  parts_push form After name h.1 ws part then w h.6 json line
      (is ∙ ap (λ (z : Begin). work.Ingest form z name part) (sym (after_same ws))),
)

-- with more bytes at its end
pub parts_more : (form : Form) (begin : Begin) (name b : List ℕ) (ws : List Work) (rest more : List ℕ)
    → AreParts form begin name b ws rest → AreParts form begin name (b ++ more) ws (rest ++ more)
parts_more form begin name b [] rest more h = ap (λ (z : List ℕ). z ++ more) h
parts_more form begin name b (w ∷ ws) rest more h = (
  h.0,
  h.1 ++ more,
  ap (λ (z : List ℕ). z ++ more) h.2 ∙ append_assoc h.0 h.1 more,
  h.3,
  h.4,
  h.5,
  parts_more form After name h.1 ws rest more h.6,
)

-- parts of which nothing is left, and one more after them
pub parts_then : (form : Form) (begin : Begin) (name b : List ℕ) (ws : List Work) (part : List ℕ) (w : Work)
    → AreParts form begin name b ws [] → form ≡ Json → EndsLine part → w ≡ work.Ingest form (begin_after begin ws) name part
    → AreParts form begin name (b ++ part) (ws ++ w ∷ []) []
parts_then form begin name b ws part w h json line is =
    parts_push form begin name (b ++ part) ws part [] w
    (subst (AreParts form begin name (b ++ part) ws) (sym (append-nil part)) (parts_more form begin name b ws [] part h)) json line is

-- and all that is left after them
pub parts_rest : (form : Form) (begin : Begin) (name b : List ℕ) (ws : List Work) (rest bytes : List ℕ) (w : Work)
    → AreParts form begin name b ws [] → bytes ≡ take longest_csv_read rest → w ≡ work.Ingest form (begin_after begin ws) name bytes
    → (longest_file < length rest → IsTooLong form (b ++ rest) × HasNoMoreParts form (b ++ rest) rest)
    → IsFileRead form begin name (b ++ rest) (ws ++ w ∷ [])
parts_rest form begin name b ws rest bytes w h bytes_are is long = record {
  parts = ws;
  rest = rest;
  are = parts_more form begin name b ws [] rest h;
  is = ap (λ (z : Work). ws ++ z ∷ []) (is ∙ ap (work.Ingest form (begin_after begin ws) name) bytes_are);
  long = long;
}
