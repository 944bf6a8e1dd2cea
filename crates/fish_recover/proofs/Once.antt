-- A body tells one commit.
use Rattle.std.proofs.Common.{◌≡◌, ℕ, zero, suc, ◌+◌, ◌-◌, ◌≤◌, List, [], ◌∷◌, ◌++◌, Option, Some, None}
use Rattle.std.proofs.Common.{length, take, drop, refl, sym, ap, subst, ◌∙◌, arith}
use Rattle.std.specs.List.{flat_map}
use Rattle.std.proofs.lemmas.List.{take_all}
use Rattle.fish_catalog.specs.declared.commit.Commit.{Commit}
use Rattle.fish_catalog.specs.declared.row.CatRow.{CatRow}
use Rattle.fish_image.proofs.Spelling.{name_length, name_read, next_row, row_word, text_length, text_read, told_rows, told_word}
use Rattle.fish_image.specs.Commits.{IsBoundary}
use Rattle.fish_image.specs.Reading.{IsBodyOf}
use Rattle.fish_image.specs.within.Reading.{AreRowsOf, IsRowOf}
use Rattle.fish_image.specs.Slot.{boundary_word, bytes_behind, row_bytes, zeros}

-- a word says one boundary
boundary_once : (o p : Option ℕ) → IsBoundary o → IsBoundary p → boundary_word o ≡ boundary_word p → o ≡ p
boundary_once None None h g same = refl
boundary_once None (Some n) h g same = absurd (omega arith)
boundary_once (Some m) None h g same = absurd (omega arith)
boundary_once (Some m) (Some n) h g same = ap Some same

-- the bytes of a row are those of one row
row_once : (id : ℕ) (r s : CatRow) (b : List ℕ) → IsRowOf id r b → IsRowOf id s b → r ≡ s
row_once id r s b h g =
    let ids : r.id ≡ s.id = h.id_is ∙ sym g.id_is in
    let name_size : length r.name ≡ length s.name =
    sym (name_length r b h.bytes h.spellable) ∙ name_length s b g.bytes g.spellable in
    let text_size : length r.def ≡ length s.def =
    sym (text_length r b h.bytes h.spellable) ∙ text_length s b g.bytes g.spellable in
    let names : r.name ≡ s.name =
    sym (name_read r b h.bytes h.spellable) ∙ ap (λ (n : ℕ). take n (drop 18 b)) name_size ∙ name_read s b g.bytes g.spellable in
    let texts : r.def ≡ s.def =
    sym (text_read r b h.bytes h.spellable) ∙ ap (λ (n : ℕ). take n (drop 64 b)) text_size ∙ text_read s b g.bytes g.spellable in
    let froms : r.from ≡ s.from =
    boundary_once r.from s.from h.spellable.boundaries.0 g.spellable.boundaries.0
    (sym (row_word r b h.bytes h.spellable 0 (omega arith)) ∙ row_word s b g.bytes g.spellable 0 (omega arith)) in
    let tos : r.to ≡ s.to =
    boundary_once r.to s.to h.spellable.boundaries.1 g.spellable.boundaries.1
    (sym (row_word r b h.bytes h.spellable 1 (omega arith)) ∙ row_word s b g.bytes g.spellable 1 (omega arith)) in
    (λ i. record { id = ids i; name = names i; def = texts i; from = froms i; to = tos i })

-- so far two lists of rows are one, and what is left of their bytes too
record SoFar (rows others : List CatRow) (more rest : List ℕ) (n : ℕ) : Type 0 where
  pub front : take n rows ≡ take n others
  pub left : flat_map row_bytes (drop n rows) ++ more ≡ flat_map row_bytes (drop n others) ++ rest

module _ (rows others : List CatRow) (more rest b : List ℕ) (h : AreRowsOf rows more b) (g : AreRowsOf others rest b)
    (size : length rows ≡ length others) where
  so_far : (n : ℕ) → n ≤ length rows → SoFar rows others more rest n
  so_far zero few = record { front = refl; left = sym h.bytes ∙ g.bytes }
  so_far (suc n) few =
      let s = so_far n (omega arith) in
      let up : n + 1 ≡ suc n = omega arith in
      let one = next_row n (flat_map row_bytes (drop n rows) ++ more) h (omega arith) refl in
      let two = next_row n (flat_map row_bytes (drop n rows) ++ more) g (omega arith) s.left in
      let same : one.0 ≡ two.0 = row_once n one.0 two.0 _ one.1 two.1 in
      subst (SoFar rows others more rest) up record {
        front = one.3 ∙ (λ i. s.front i ++ same i ∷ []) ∙ sym two.3;
        left = sym one.2 ∙ two.2;
      }

  rows_once : rows ≡ others
  rows_once =
      let all = so_far (length rows) (omega arith) in
      sym (take_all (length rows) rows (omega arith)) ∙ all.front ∙ take_all (length rows) others (omega arith)

-- a body tells one commit
pub told_once : (c d : Commit) (b : List ℕ) → IsBodyOf c b → IsBodyOf d b → c ≡ d
told_once c d b h g =
    let signs = sym (told_word c b h 0 (omega arith)) ∙ told_word d b g 0 (omega arith) in
    let formats : c.format ≡ d.format = omega arith in
    let turns : c.turn ≡ d.turn = sym (told_word c b h 1 (omega arith)) ∙ told_word d b g 1 (omega arith) in
    let pages : c.pages ≡ d.pages = sym (told_word c b h 2 (omega arith)) ∙ told_word d b g 2 (omega arith) in
    let bits : c.bucket_bits ≡ d.bucket_bits = sym (told_word c b h 3 (omega arith)) ∙ told_word d b g 3 (omega arith) in
    let counts : c.count ≡ d.count = sym (told_word c b h 4 (omega arith)) ∙ told_word d b g 4 (omega arith) in
    let lines : c.lines ≡ d.lines = sym (told_word c b h 5 (omega arith)) ∙ told_word d b g 5 (omega arith) in
    let size : length c.rows ≡ length d.rows = sym (told_word c b h 6 (omega arith)) ∙ told_word d b g 6 (omega arith) in
    let rows = rows_once c.rows d.rows (zeros (bytes_behind (length c.rows))) (zeros (bytes_behind (length d.rows)))
    (take (length b - 64) (drop 64 b)) (told_rows c b h) (told_rows d b g) size in
    (λ i. record {
      format = formats i;
      turn = turns i;
      pages = pages i;
      bucket_bits = bits i;
      count = counts i;
      lines = lines i;
      rows = rows i;
    })
