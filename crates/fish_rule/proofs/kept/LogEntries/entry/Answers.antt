-- The words that the directory word names are those of the entry there.
use Rattle.std.proofs.Common.{◌≡◌, ◌∙◌, ◌+◌, ◌-◌, ◌*◌, ◌<◌, ◌≤◌, ℕ, List, length, refl, sym, ap, subst, arith, Some, map, get_or, slice_get}
use Rattle.std.specs.List.{range_with_len}
use Rattle.core.specs.Mem.Slots.{slots_items, slots_len, slots_small}
use Rattle.fish_catalog.specs.declared.entry.Entry.{Entry}
use Rattle.fish_catalog.specs.declared.entry.Entry.TheVariants as entry
use Rattle.fish_layout.specs.Body.{IsBody}
use Rattle.fish_layout.specs.Header.{lines_of}
use Rattle.fish_rule.proofs.basics.Context.{Kind, get_elem?, some}
use Rattle.fish_rule.proofs.basics.KeptWords.{dir_inside, dir_told, first_of, kind_there, line_of, many_kept, region_read}
use Rattle.fish_rule.proofs.basics.KeptWords.{region_record, region_room, void_there}
use Rattle.fish_rule.specs.KeptEntries.{KeepsEntries, entries_kept, kept_world}
use Rattle.fish_rule.specs.LogWords.{region_at}
use Rattle.fish_rule.specs.LoadSteps.{kind_told}
use Rattle.fish_rule.specs.Regions.{code}
use Rattle.fish_rule.specs.World.{dir_at, high, log_at, low}
use Rattle.fish_rule.specs.declared.kept.LogEntries.TheInside.{Inside}
use Rattle.fish_rule.specs.declared.view.Kind.TheVariants.{Mark, Stored, Void}
use Rattle.fish_rule.proofs.kept.LogEntries.entry.Goals as goal

-- the place is that of an entry
inside : (a : Inside) (h : KeepsEntries a) (entries : List Entry) (i : ℕ) → entries_kept a ≡ entries → i < length entries
    → i < a.count
inside a h entries i is less = (let many = many_kept a h in let same = ap length is in omega arith)

module _ (a : Inside) (h : KeepsEntries a) (i : ℕ) (less : i < a.count) (at word : ℕ) (at_is : at ≡ dir_at a.key)
    (there : get_elem? (slots_items a.closed.words) (at + i) ≡ some word) where
  -- the word is the directory word of its number
  told : word ≡ (kept_world a h.views).dir (a.key.number + i)
  told = dir_told a h i less word
      (subst (λ (z : ℕ). get_elem? (slots_items a.closed.words) (z + i) ≡ some word) at_is there)

  -- so its kind is the entry's
  kind : (k : Kind) → k ≡ kind_told (high word)
      → (high ((kept_world a h.views).dir (a.key.number + i)) ≡ code k) × (k ≡ Mark → ⊥)
  kind k is = kind_there a h i less k (is ∙ ap (λ (z : ℕ). kind_told (high z)) told)

  -- and its line
  line : (l : ℕ) → l ≡ low word → l ≡ low ((kept_world a h.views).dir (a.key.number + i))
  line l is = is ∙ ap low told

pub overflow_add-dir_at : goal.overflow_add-dir_at
overflow_add-dir_at c =
    let a = c.self.inside in
    let h = c.self.invariant in
    let less = inside a h c.args.self.now c.args.place c.self.view_is c.requires in
    let within = dir_inside a h c.args.place less in
    let small = slots_small a.closed.words in
    let at = c.dir_at.ensures in
    record { fits = omega arith }

pub word-word-requires : goal.word-word-requires
word-word-requires c =
    let a = c.self.inside in
    let h = c.self.invariant in
    let less = inside a h c.args.self.now c.args.place c.self.view_is c.requires in
    let within = dir_inside a h c.args.place less in
    let at = c.dir_at.ensures in
    (omega arith, h.full)

pub overflow_sub-first : goal.overflow_sub-first
overflow_sub-first c =
    let a = c.self.inside in
    let h = c.self.invariant in
    let i : ℕ = c.args.place in
    let less = inside a h c.args.self.now i c.self.view_is c.requires in
    let stored = (kind a h i less c.dir_at.result c.word-word.result c.dir_at.ensures c.word-word.ensures Stored c.in-Stored.ensures).0 in
    let from = (region_room a h i less stored).2 in
    let line_is = line a h i less c.dir_at.result c.word-word.result c.dir_at.ensures c.word-word.ensures c.line_of_word.result
    c.line_of_word.ensures in
    omega arith

pub overflow_mul-first : goal.overflow_mul-first
overflow_mul-first c =
    let a = c.self.inside in
    let h = c.self.invariant in
    let i : ℕ = c.args.place in
    let less = inside a h c.args.self.now i c.self.view_is c.requires in
    let stored = (kind a h i less c.dir_at.result c.word-word.result c.dir_at.ensures c.word-word.ensures Stored c.in-Stored.ensures).0 in
    let room = region_room a h i less stored in
    let first = room.0 in
    let small = slots_small a.closed.words in
    let line_is = line a h i less c.dir_at.result c.word-word.result c.dir_at.ensures c.word-word.ensures c.line_of_word.result
    c.line_of_word.ensures in
    record { fits = omega arith }

pub overflow_add-first : goal.overflow_add-first
overflow_add-first c =
    let a = c.self.inside in
    let h = c.self.invariant in
    let i : ℕ = c.args.place in
    let less = inside a h c.args.self.now i c.self.view_is c.requires in
    let stored = (kind a h i less c.dir_at.result c.word-word.result c.dir_at.ensures c.word-word.ensures Stored c.in-Stored.ensures).0 in
    let room = region_room a h i less stored in
    let first = room.0 in
    let small = slots_small a.closed.words in
    let at = c.log_at.ensures in
    let line_is = line a h i less c.dir_at.result c.word-word.result c.dir_at.ensures c.word-word.ensures c.line_of_word.result
    c.line_of_word.ensures in
    record { fits = omega arith }

-- the first word of the region
first_is : (a : Inside) (h : KeepsEntries a) (i : ℕ) (less : i < a.count)
    (stored : high ((kept_world a h.views).dir (a.key.number + i)) ≡ code Stored) (at l : ℕ) → at ≡ log_at a.key
    → l ≡ low ((kept_world a h.views).dir (a.key.number + i))
    → at + (l - a.key.line) * 4 ≡ first_of a h i less stored
first_is a h i less stored at l at_is line_is = λ j. at_is j + (line_is j - a.key.line) * 4

pub region_of-requires-clause-room : goal.region_of-requires-clause-room
region_of-requires-clause-room c =
    let a = c.self.inside in
    let h = c.self.invariant in
    let i : ℕ = c.args.place in
    let less = inside a h c.args.self.now i c.self.view_is c.requires in
    let stored = (kind a h i less c.dir_at.result c.word-word.result c.dir_at.ensures c.word-word.ensures Stored c.in-Stored.ensures).0 in
    let line_is = line a h i less c.dir_at.result c.word-word.result c.dir_at.ensures c.word-word.ensures c.line_of_word.result
    c.line_of_word.ensures in
    subst (λ (z : ℕ). z + lines_of (get_or (slots_items a.closed.words) z 0) * 4 ≤ slots_len a.closed.words)
    (sym (first_is a h i less stored c.log_at.result c.line_of_word.result c.log_at.ensures line_is))
    (region_room a h i less stored).1

pub region_of-requires-clause-some : goal.region_of-requires-clause-some
region_of-requires-clause-some c =
    let a = c.self.inside in
    let h = c.self.invariant in
    let i : ℕ = c.args.place in
    let less = inside a h c.args.self.now i c.self.view_is c.requires in
    let stored = (kind a h i less c.dir_at.result c.word-word.result c.dir_at.ensures c.word-word.ensures Stored c.in-Stored.ensures).0 in
    let line_is = line a h i less c.dir_at.result c.word-word.result c.dir_at.ensures c.word-word.ensures c.line_of_word.result
    c.line_of_word.ensures in
    subst (λ (z : ℕ). z < slots_len a.closed.words)
    (sym (first_is a h i less stored c.log_at.result c.line_of_word.result c.log_at.ensures line_is))
    (region_room a h i less stored).0

-- the words that were read are the region's
words_are : (a : Inside) (h : KeepsEntries a) (i : ℕ) (less : i < a.count)
    (stored : high ((kept_world a h.views).dir (a.key.number + i)) ≡ code Stored) (at l : ℕ) → at ≡ log_at a.key
    → l ≡ low ((kept_world a h.views).dir (a.key.number + i)) → (words : List ℕ)
    → words ≡ map (λ m. get_or (slots_items a.closed.words) (at + (l - a.key.line) * 4 + m) 0)
    (range_with_len 0 (lines_of (get_or (slots_items a.closed.words) (at + (l - a.key.line) * 4) 0) * 4))
    → words ≡ region_at (kept_world a h.views).log (line_of a h i less stored)
words_are a h i less stored at l at_is line_is words is =
    is
    ∙ ap (λ (z : ℕ). map (λ m. get_or (slots_items a.closed.words) (z + m) 0)
    (range_with_len 0 (lines_of (get_or (slots_items a.closed.words) z 0) * 4)))
    (first_is a h i less stored at l at_is line_is)
    ∙ region_read a h i less stored

pub read_payload-requires : goal.read_payload-requires
read_payload-requires c =
    let a = c.self.inside in
    let h = c.self.invariant in
    let i : ℕ = c.args.place in
    let less = inside a h c.args.self.now i c.self.view_is c.requires in
    let stored = (kind a h i less c.dir_at.result c.word-word.result c.dir_at.ensures c.word-word.ensures Stored c.in-Stored.ensures).0 in
    let line_is = line a h i less c.dir_at.result c.word-word.result c.dir_at.ensures c.word-word.ensures c.line_of_word.result
    c.line_of_word.ensures in
    let are = words_are a h i less stored c.log_at.result c.line_of_word.result c.log_at.ensures line_is _
    c.in_ok-words-in-Stored.ensures in
    let q = region_record a h i less stored in
    (q.0, subst (IsBody q.0) (sym (c.deref.ensures.value ∙ are)) q.1)

pub unreachable-requires : goal.unreachable-requires
unreachable-requires c =
    let a = c.self.inside in
    let h = c.self.invariant in
    let i : ℕ = c.args.place in
    let less = inside a h c.args.self.now i c.self.view_is c.requires in
    (kind a h i less c.dir_at.result c.word-word.result c.dir_at.ensures c.word-word.ensures Mark c.in-Mark.ensures).1 refl

pub returns-in_ok-lane-in-Stored : goal.returns-in_ok-lane-in-Stored
returns-in_ok-lane-in-Stored c =
    let a = c.self.inside in
    let h = c.self.invariant in
    let i : ℕ = c.args.place in
    let less = inside a h c.args.self.now i c.self.view_is c.requires in
    let stored = (kind a h i less c.dir_at.result c.word-word.result c.dir_at.ensures c.word-word.ensures Stored c.in-Stored.ensures).0 in
    let line_is = line a h i less c.dir_at.result c.word-word.result c.dir_at.ensures c.word-word.ensures c.line_of_word.result
    c.line_of_word.ensures in
    let are = words_are a h i less stored c.log_at.result c.line_of_word.result c.log_at.ensures line_is _
    c.in_ok-words-in-Stored.ensures in
    let q = region_record a h i less stored in
    let b = subst (IsBody q.0) (sym (c.deref.ensures.value ∙ are)) q.1 in
    ap (λ (z : List Entry). slice_get z i) (sym c.self.view_is) ∙ q.2
    ∙ (λ j. Some (entry.Stored (sym (c.in_ok-lane-in-Stored.ensures.lane q.0 b) j)
    (sym (c.in_ok-lane-in-Stored.ensures.form q.0 b) j) (sym (c.in_ok-lane-in-Stored.ensures.payload q.0 b) j)))

pub returns-in-Void : goal.returns-in-Void
returns-in-Void c =
    let a = c.self.inside in
    let h = c.self.invariant in
    let i : ℕ = c.args.place in
    let less = inside a h c.args.self.now i c.self.view_is c.requires in
    let void = (kind a h i less c.dir_at.result c.word-word.result c.dir_at.ensures c.word-word.ensures Void c.in-Void.ensures).0 in
    ap (λ (z : List Entry). slice_get z i) (sym c.self.view_is) ∙ void_there a h i less void
