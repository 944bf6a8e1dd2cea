-- Where the words of a closed log's entries stand in its table.
use Rattle.std.proofs.Common.{◌≡◌, ◌≢◌, ℕ, ◌+◌, ◌-◌, ◌*◌, ◌<◌, ◌≤◌, zero, suc, List, [], ◌∷◌, length, map, get_or, ap}
use Rattle.std.proofs.Common.{refl, sym, ◌∙◌, arith, slice_get, Some}
use Rattle.std.specs.List.{range_with_len}
use Rattle.std.proofs.lemmas.List.FromFn.{length-map-range_with_len}
use mathlib.Core.Option.{some-injective, some-ne-none}
use Rattle.core.specs.Mem.Slots.{slots_items, slots_len}
use Rattle.fish_catalog.specs.declared.entry.Entry.TheVariants as entry
use Rattle.fish_layout.proofs.Clearing.{cleared_head}
use Rattle.fish_layout.proofs.Spelled.{spelled_lines}
use Rattle.fish_layout.specs.Body.{IsBody, body_lines}
use Rattle.fish_layout.specs.Header.{lines_of}
use Rattle.fish_layout.specs.declared.parts.BodyParts.{BodyParts}
use Rattle.fish_rule.proofs.basics.Bodies.{code_once, kind-inside}
use Rattle.fish_rule.proofs.basics.Context.{Kind, World, get_elem?, some}
use Rattle.fish_rule.proofs.basics.OneMoment.{claimed, stored_line, stored_parts}
use Rattle.fish_rule.proofs.basics.Regions.{few_slots, starts_above}
use Rattle.fish_rule.proofs.basics.Worlds.{area-in}
use Rattle.fish_rule.proofs.laws.LogWords.{entry_is_void, entry_stored, record_back, stored_body}
use Rattle.fish_rule.specs.KeptEntries.{KeepsEntries, entries_kept, kept_world}
use Rattle.fish_rule.specs.LogWords.{entry_in, region_at}
use Rattle.fish_rule.specs.Regions.{code, kind_of}
use Rattle.fish_rule.specs.World.{dir_at, high, log_at, log_size, low, slots}
use Rattle.fish_rule.specs.declared.kept.LogEntries.TheInside.{Inside}
use Rattle.fish_rule.specs.LoadSteps.{kind_told}
use Rattle.fish_rule.specs.declared.view.Kind.TheVariants.{Mark, Stored, Void}

-- ---- lists

-- what stands at a place is what an index there gives
pub at_place : (xs : List ℕ) (i x : ℕ) → get_elem? xs i ≡ some x → x ≡ get_or xs i 0
at_place [] i x at = absurd (some-ne-none x (sym at))
at_place (y ∷ xs) zero x at = some-injective x y (sym at)
at_place (y ∷ xs) (suc i) x at = at_place xs i x at

-- lists that are made by places are one where they agree at each place
pub made_same : {A : Type 0} (f g : ℕ → A) (a n : ℕ) → ((i : ℕ) → a ≤ i → i < a + n → f i ≡ g i)
    → map f (range_with_len a n) ≡ map g (range_with_len a n)
made_same f g a zero same = refl
made_same {A} f g a (suc n) same =
    λ j. same a (omega arith) (omega arith) j
    ∷ made_same f g (a + 1) n (λ i above below. same i (omega arith) (omega arith)) j

-- and each place has its element
pub made_there : {A : Type 0} (f : ℕ → A) (a n i j : ℕ) → a + i ≡ j → i < n
    → slice_get (map f (range_with_len a n)) i ≡ Some (f j)
made_there f a zero i j e less = absurd (omega arith)
made_there f a (suc n) zero j e less = ap (λ (z : ℕ). Some (f z)) (omega arith)
made_there f a (suc n) (suc i) j e less = made_there f (a + 1) n i j (omega arith) (omega arith)

-- ---- the words of one entry

-- the kind that a kind's code tells
told_code : (kind : Kind) → kind_told (code kind) ≡ kind
told_code Stored = refl
told_code Void = refl
told_code Mark = refl

module _ (a : Inside) (h : KeepsEntries a) where
  -- the words
  abbrev words_of : List ℕ
  words_of = slots_items a.closed.words

  -- the world that they are
  abbrev here : World
  here = kept_world a h.views

  -- there are as many entries as the log keeps
  pub many_kept : length (entries_kept a) ≡ a.count
  many_kept = length-map-range_with_len (λ i. entry_in here.dir here.log (a.key.number + i)) 0 a.count

  -- each is the one at its number
  pub kept_at : (i : ℕ) → i < a.count → slice_get (entries_kept a) i ≡ Some (entry_in here.dir here.log (a.key.number + i))
  kept_at i less = made_there (λ m. entry_in here.dir here.log (a.key.number + m)) 0 a.count i i (omega arith) less

  module _ (i : ℕ) (less : i < a.count) where
    -- its number is claimed
    number_claimed : a.key.number + i < here.count
    number_claimed = claimed h.rule (a.key.number + i) (h.listed i less).published

    -- its directory word is one of the table's
    pub dir_inside : dir_at a.key + i < slots_len a.closed.words
    dir_inside = (let c = number_claimed in let few = few_slots h.rule in let wide = h.wide in omega arith)

    -- and tells what the world does
    pub dir_told : (x : ℕ) → get_elem? words_of (dir_at a.key + i) ≡ some x → x ≡ here.dir (a.key.number + i)
    dir_told x at =
        let c = number_claimed in
        let few = few_slots h.rule in
        let place : dir_at a.key + ((a.key.number + i) - a.key.number) ≡ dir_at a.key + i = omega arith in
        at_place words_of (dir_at a.key + i) x at
        ∙ sym (ap (λ (z : ℕ). get_or words_of z 0) place)
        ∙ sym (area-in words_of (dir_at a.key) a.key.number (slots a.key) (a.key.number + i) (omega arith) (omega arith))

    -- it tells the kind of an entry
    pub kind_there : (kind : Kind) → kind ≡ kind_told (high (here.dir (a.key.number + i)))
        → (high (here.dir (a.key.number + i)) ≡ code kind) × (kind ≢ Mark)
    kind_there kind is =
        let n : ℕ = a.key.number + i in
        let word = h.listed i less in
        let told = (h.rule.space.finished n (omega arith) number_claimed word.published).kind in
        let is_kind = kind_of a.key.end (h.rule.start n) (h.rule.start (suc n)) in
        let same : kind ≡ is_kind = is ∙ ap kind_told told ∙ told_code is_kind in
        let there : high (here.dir n) ≡ code kind = told ∙ ap code (sym same) in
        (there, λ e. word.unmarked (there ∙ ap code e))

    -- a void is the entry there
    pub void_there : high (here.dir (a.key.number + i)) ≡ code Void → slice_get (entries_kept a) i ≡ Some entry.Void
    void_there is = kept_at i less ∙ ap Some (entry_is_void here.dir here.log (a.key.number + i) is)

    module _ (stored : high (here.dir (a.key.number + i)) ≡ code Stored) where
      -- the line of its region
      abbrev pub line_of : ℕ
      line_of = low (here.dir (a.key.number + i))

      -- how many lines it has
      abbrev lines_there : ℕ
      lines_there = lines_of (here.log (line_of * 4 + 0))

      -- it lies within the log
      region_inside : (a.key.line ≤ line_of) × (line_of + lines_there ≤ a.key.end) × (1 ≤ lines_there)
      region_inside =
          let r = h.rule in
          let n : ℕ = a.key.number + i in
          let c = number_claimed in
          let word = h.listed i less in
          let at = stored_line r n stored in
          let p = stored_parts r n stored in
          let f = r.space.finished n (omega arith) c word.published in
          let kind : kind_of a.key.end (r.start n) (r.start (suc n)) ≡ Stored = code_once _ Stored (sym f.kind ∙ stored) in
          let end = kind-inside a.key.end (r.start n) (r.start (suc n))
          (λ e. let q : Stored ≡ Mark = sym kind ∙ e in cc) in
          let up = starts_above a.key here.count here.line r.start r.space.regions n (omega arith) (omega arith) in
          let grows = r.space.regions.grows n (omega arith) c in
          let lined : lines_there ≡ body_lines p.0 =
          ap lines_of (sym (cleared_head (λ m. here.log (line_of * 4 + m)))) ∙ spelled_lines p.1.spells in
          let size = p.1.lines_is in
          (omega arith, omega arith, omega arith)

      -- so each of its words is one of the table's
      abbrev pub first_of : ℕ
      first_of = log_at a.key + (line_of - a.key.line) * 4

      pub word_told : (m : ℕ) → m < lines_there * 4 → here.log (line_of * 4 + m) ≡ get_or words_of (first_of + m) 0
      word_told m within =
          let inside = region_inside in
          let from = inside.0 in
          let to = inside.1 in
          let place : log_at a.key + ((line_of * 4 + m) - a.key.line * 4) ≡ first_of + m = omega arith in
          area-in words_of (log_at a.key) (a.key.line * 4) (log_size a.key) (line_of * 4 + m) (omega arith) (omega arith)
          ∙ ap (λ (z : ℕ). get_or words_of z 0) place

      -- the header stands first
      header_told : here.log (line_of * 4 + 0) ≡ get_or words_of first_of 0
      header_told =
          let inside = region_inside in
          let some_ = inside.2 in
          word_told 0 (omega arith) ∙ ap (λ (z : ℕ). get_or words_of z 0) (omega arith)

      pub region_room : (first_of < slots_len a.closed.words)
          × (first_of + lines_of (get_or words_of first_of 0) * 4 ≤ slots_len a.closed.words)
          × (a.key.line ≤ line_of)
      region_room =
          let inside = region_inside in
          let from = inside.0 in
          let to = inside.1 in
          let some_ = inside.2 in
          let head = ap lines_of header_told in
          let wide = h.wide in
          (omega arith, omega arith, from)

      -- words that were read there are the region's
      pub region_read : map (λ m. get_or words_of (first_of + m) 0)
          (range_with_len 0 (lines_of (get_or words_of first_of 0) * 4)) ≡ region_at here.log line_of
      region_read =
          let head = header_told in
          ap (λ (z : ℕ). map (λ m. get_or words_of (first_of + m) 0) (range_with_len 0 (lines_of z * 4))) (sym head)
          ∙ made_same (λ m. get_or words_of (first_of + m) 0) (λ m. here.log (line_of * 4 + m)) 0 (lines_there * 4)
          (λ m above below. sym (word_told m (omega arith)))

      -- they are a record
      pub region_record : (q : BodyParts) × IsBody q (region_at here.log line_of)
          × (slice_get (entries_kept a) i ≡ Some (entry.Stored q.lane q.form q.payload))
      region_record =
          let q = stored_body h.rule (a.key.number + i) stored in (
            q.0,
            q.1,
            kept_at i less ∙ ap Some (entry_stored h.rule (a.key.number + i) stored ∙ record_back q.1),
          )
