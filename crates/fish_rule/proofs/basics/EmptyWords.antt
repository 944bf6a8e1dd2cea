-- The words of an empty log: the tail, the count of rows, and the words of the rows, among zeros.
use Rattle.std.proofs.Common.{◌≡◌, ℕ, ◌+◌, ◌-◌, ◌*◌, ◌<◌, ◌≤◌, List, length, get_or, set, replicate, slice_get}
use Rattle.std.proofs.Common.{slice_index, sym, ap, ◌∙◌, subst, arith, All, Some, get_or-set_other, get_or-set_same}
use Rattle.std.proofs.Math.Decide.{ℕ_discrete, dec_lt}
use Rattle.std.proofs.lemmas.List.{get_or-replicate, get_or_past, length-replicate, length-set}
use Rattle.std.proofs.lemmas.Option.{get_or_from_slice_get, slice_get_within}
use Rattle.fish_catalog.specs.Clamps.{IsClamped}
use Rattle.fish_catalog.specs.Rows.{IsCatalog}
use Rattle.fish_catalog.specs.Words.{IsWritable, row_word}
use Rattle.fish_catalog.specs.declared.row.CatRow.{CatRow}
use Rattle.fish_rule.proofs.basics.Worlds.{area-in}
use Rattle.fish_rule.specs.Registry.{epoch_at, op_at, row_at}
use Rattle.fish_rule.specs.Parts.{first_head}
use Rattle.fish_rule.specs.Start.{IsOpening}
use Rattle.fish_rule.specs.within.Start.{IsEmpty}
use Rattle.fish_rule.specs.World.{area, dir_at, heads_at, registry_size, total}
use Rattle.fish_rule.specs.declared.view.Key.{Key}

-- ---- rows

-- the words `us` have the row at the place of an id
abbrev pub HasRow : List ℕ → ℕ → CatRow → Type 0
HasRow us id row = IsWritable row × ((i : ℕ) → i < 39 → slice_index us (row_at id i) ≡ row_word row i)

-- the words `us` are `ws` with the first n rows in their places
pub record AreStored (rows : List CatRow) (ws us : List ℕ) (n : ℕ) : Type 0 where
  pub placed : (id : ℕ) (row : CatRow) → id < n → slice_get rows id ≡ Some row → HasRow us id row
  pub before : (p : ℕ) → p < row_at 0 0 → slice_index us p ≡ slice_index ws p
  pub behind : (p : ℕ) → row_at n 0 ≤ p → slice_index us p ≡ slice_index ws p

-- one more row is in its place: the store changed the words of its place alone
pub stored_more : (rows : List CatRow) (ws us vs : List ℕ) (n : ℕ) (row : CatRow) → AreStored rows ws us n
    → row ≡ get_or rows n row
    → HasRow vs n row
    → ((p : ℕ) → p < row_at n 0 → slice_index vs p ≡ slice_index us p)
    → ((p : ℕ) → row_at n 39 ≤ p → slice_index vs p ≡ slice_index us p)
    → AreStored rows ws vs (n + 1)
stored_more rows ws us vs n row stored is has before behind = record {
  placed = λ id other less there. each id other less there (ℕ_discrete id n);
  before = λ p less. before p (omega arith) ∙ stored.before p less;
  behind = λ p more. behind p (omega arith) ∙ stored.behind p (omega arith);
}
  where
    each : (id : ℕ) (other : CatRow) → id < n + 1 → slice_get rows id ≡ Some other → Dec (id ≡ n) → HasRow vs id other
    each id other less there (yes e) =
        let same : row ≡ other = is ∙ ap (λ z. get_or rows z row) (sym e)
        ∙ get_or_from_slice_get rows id other row there in
        subst (λ (z : ℕ × CatRow). HasRow vs z.0 z.1) (λ j. (sym e j, same j)) has
    each id other less there (no ne) =
        let old = stored.placed id other (omega arith) there in
        (old.0, λ i below. before (row_at id i) (omega arith) ∙ old.1 i below)

-- ---- heads

-- the words `us` are `ws` with the first n heads in their places
pub record AreHeads (heads ws us : List ℕ) (n : ℕ) : Type 0 where
  pub long : length us ≡ length ws
  pub placed : (b : ℕ) → b < n → slice_index us (heads_at + b) ≡ slice_index heads b
  pub before : (p : ℕ) → p < heads_at → slice_index us p ≡ slice_index ws p
  pub behind : (p : ℕ) → heads_at + n ≤ p → slice_index us p ≡ slice_index ws p

-- ---- what stands around them

-- so many zeros, but for the tail, the settled number, the version and the count of rows
abbrev pub start_words : ℕ → ℕ → ℕ → ℕ → ℕ → List ℕ
start_words size tail number version count = set (set (set (set (replicate size 0) 0 tail) 1 number) 2 version) 3 count

-- the words have these, and are 0 elsewhere
record AreBegun (ws : List ℕ) (first number version count : ℕ) : Type 0 where
  tail : slice_index ws 0 ≡ first
  settled : slice_index ws 1 ≡ number
  version_is : slice_index ws 2 ≡ version
  opened : slice_index ws 3 ≡ count
  zeros : (p : ℕ) → 3 < p → slice_index ws p ≡ 0

-- each word of zeros is 0
zeros-at : (size p : ℕ) → slice_index (replicate size 0) p ≡ 0
zeros-at size p = pick (dec_lt p size)
  where
    pick : Dec (p < size) → slice_index (replicate size 0) p ≡ 0
    pick (yes less) = get_or-replicate size p 0 0 less
    pick (no more) =
        let zs : List ℕ = replicate size 0 in
        let long : length zs ≡ size = length-replicate size 0 in
        get_or_past zs p 0 (grind arith)

-- four stores among zeros give such words
begun : (size tail number version count : ℕ) → 3 < size
    → AreBegun (start_words size tail number version count) tail number version count
begun size tail number version count wide =
    let zs : List ℕ = replicate size 0 in
    let ts : List ℕ = set zs 0 tail in
    let bs : List ℕ = set ts 1 number in
    let cs : List ℕ = set bs 2 version in
    let long : length zs ≡ size = length-replicate size 0 in
    let long_a : length ts ≡ length zs = length-set zs 0 tail in
    let long_b : length bs ≡ length ts = length-set ts 1 number in
    let long_c : length cs ≡ length bs = length-set bs 2 version in
    record {
      tail = get_or-set_other cs 3 0 count 0 (omega arith) ∙ get_or-set_other bs 2 0 version 0 (omega arith)
          ∙ get_or-set_other ts 1 0 number 0 (omega arith) ∙ get_or-set_same zs 0 tail 0 (omega arith);
      settled = get_or-set_other cs 3 1 count 0 (omega arith) ∙ get_or-set_other bs 2 1 version 0 (omega arith)
          ∙ get_or-set_same ts 1 number 0 (omega arith);
      version_is = get_or-set_other cs 3 2 count 0 (omega arith) ∙ get_or-set_same bs 2 version 0 (omega arith);
      opened = get_or-set_same cs 3 count 0 (omega arith);
      zeros = λ p a. get_or-set_other cs 3 p count 0 (omega arith) ∙ get_or-set_other bs 2 p version 0 (omega arith)
          ∙ get_or-set_other ts 1 p number 0 (omega arith) ∙ get_or-set_other zs 0 p tail 0 (omega arith)
          ∙ zeros-at size p;
    }

-- ---- all of them

-- the tail word with which the log of a key begins
abbrev pub tail_at : Key → ℕ
tail_at k = k.number * 68719476736 + k.line

module _ (k : Key) (rows : List CatRow) (ws us : List ℕ) (same : rows ≡ k.rows.value) (catalog : IsCatalog rows)
    (clamped : All (IsClamped k.number) rows)
    (few : k.version ≤ 512) (wide : length us ≡ total k)
    (from : ws ≡ start_words (total k) (tail_at k) k.number k.version (length rows))
    (ts : List ℕ) (stored : AreStored rows ws ts (length rows))
    (heads : (b : ℕ) → b < k.buckets → slice_index us (heads_at + b) ≡ first_head k b)
    (in_front : (p : ℕ) → p < heads_at → slice_index us p ≡ slice_index ts p)
    (behind_ : (p : ℕ) → dir_at k ≤ p → slice_index us p ≡ slice_index ts p) where
  -- what stood before the rows were stored
  start : AreBegun ws (tail_at k) k.number k.version (length rows)
  start = subst (λ (z : List ℕ). AreBegun z (tail_at k) k.number k.version (length rows)) (sym from)
      (begun (total k) (tail_at k) k.number k.version (length rows) (omega arith))

  -- the registry's words
  abbrev g : ℕ → ℕ
  g = area us 2 2 registry_size

  -- they are those of the table
  at : (p : ℕ) → 2 ≤ p → p < heads_at → g p ≡ slice_index ts p
  at p above below =
      area-in us 2 2 registry_size p above (omega arith)
      ∙ ap (slice_index us) (let e : 2 + (p - 2) ≡ p = omega arith in e) ∙ in_front p below

  -- after the count of rows and before the rows they are 0
  front_zero : (p : ℕ) → 3 < p → p < row_at 0 0 → g p ≡ 0
  front_zero p above below =
      at p (omega arith) (omega arith) ∙ stored.before p below ∙ start.zeros p above

  -- they are those of the rows at the start's version
  opening : IsOpening k.version k.number rows g
  opening = record {
    version = at 2 (omega arith) (omega arith) ∙ stored.before 2 (omega arith) ∙ start.version_is;
    few = few;
    opened = at 3 (omega arith) (omega arith) ∙ stored.before 3 (omega arith) ∙ start.opened;
    out = λ l above below. front_zero (epoch_at l) (omega arith) (omega arith);
    operations = λ v above below. front_zero (op_at v) (omega arith) (omega arith);
    catalog = catalog;
    clamped = clamped;
    words = λ id row there.
        let inside = slice_get_within rows id row there in
        let few = catalog.few in
        let has = stored.placed id row inside there in
        (has.0, λ i below. at (row_at id i) (omega arith) (omega arith) ∙ has.1 i below);
    rest = λ id i behind below less.
        at (row_at id i) (omega arith) (omega arith)
        ∙ stored.behind (row_at id i) (omega arith)
        ∙ start.zeros (row_at id i) (omega arith);
  }

  -- the words are those of an empty log
  pub opens : IsEmpty k us
  opens = record {
    wide = wide;
    tail = in_front 0 (omega arith) ∙ stored.before 0 (omega arith) ∙ start.tail;
    settled = in_front 1 (omega arith) ∙ stored.before 1 (omega arith) ∙ start.settled;
    registry = subst (λ (z : List CatRow). IsOpening k.version k.number z g) same opening;
    heads = heads;
    zeros = λ p behind. let few = catalog.few in
        behind_ p behind ∙ stored.behind p (omega arith) ∙ start.zeros p (omega arith);
  }
