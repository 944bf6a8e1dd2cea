-- Rows of numbers below the base, one range after another.
use Rattle.std.proofs.Common.{◌≡◌, ℕ, zero, suc, ◌+◌, ◌-◌, ◌<◌, ◌≤◌, List, [], ◌∷◌, ◌++◌, inl, inr, sym, ap, ◌∙◌, subst, arith}
use Rattle.std.proofs.Common.{append-nil, append_assoc, length, map, Some, None, slice_get}
use Rattle.std.specs.Prelude.{Contains, max}
use Rattle.std.proofs.lemmas.Bool.{cases_lt}
use Rattle.std.proofs.lemmas.Option.{same_Some}
use Rattle.fish_catalog.specs.declared.entry.Entry.{Entry}
use Rattle.fish_catalog.specs.declared.entry.Entry.TheVariants.{Stored, Void}
use Rattle.fish_lang.specs.Definition.{Definition}
use Rattle.fish_psf.proofs.SelectLemmas.{selects}
use Rattle.fish_psf.specs.Records.{evaluation}
use Rattle.fish_psf.specs.Select.{select, stored}
use Rattle.fish_psf.specs.SelectLaw.{IsMatch}
use Rattle.fish_rule.proofs.laws.Lists.{among_either, among_left, among_right}
use Rattle.fish_rule.specs.Views.{Among}
use Rattle.fish_scan.proofs.Finding.{falls_below, falls_both}
use Rattle.fish_scan.proofs.Lists.{among_contains, contains_among}
use Rattle.fish_scan.proofs.Selecting.{falls_same}
use Rattle.fish_scan.specs.Older.{parses_at, selectable, stored_from, stored_within}
use Rattle.fish_scan.specs.within.Older.{AddsOlder, FindsOlder, IsOlderMatch}
use Rattle.fish_scan.specs.Reading.{parses_of}
use Rattle.fish_scan.specs.within.Reading.{IsMatching}
use Rattle.fish_value.specs.declared.field.Form.{Form}
use Rattle.fish_value.specs.declared.row.Row.{Row}
use Rattle.fish_value.specs.declared.value.Value.{Value}

module _ (entries : List Entry) (def : Definition) (value : Value) where
  -- an empty range has none
  pub older_none : (from to : ℕ) → to ≤ from → FindsOlder entries def value from to []
  older_none from to less = record {
    falls = tt;
    above = λ row m. elim m [ ];
    sound = λ row m. elim m [ ];
    complete = λ row after before m. absurd (omega arith);
  }

  pub adds_older_none : (n : ℕ) (rows : List Row) → AddsOlder entries def value n n rows rows
  adds_older_none n rows = ([], sym (append-nil rows), older_none n n (omega arith))

  -- in two ranges that touch one comes after the other
  finds_older_both : (from mid to : ℕ) (rows others : List Row) → from ≤ mid → mid ≤ to → FindsOlder entries def value mid to rows
      → FindsOlder entries def value from mid others → FindsOlder entries def value from to (rows ++ others)
  finds_older_both from mid to rows others less more h g = record {
    falls = falls_both to mid rows others h.falls h.above more g.falls;
    above = λ row m. elim (among_either row rows others m) [
      | inl a ↦ (let above = h.above row a in omega arith)
      | inr a ↦ g.above row a
    ];
    sound = λ row m. elim (among_either row rows others m) [ inl a ↦ h.sound row a | inr a ↦ g.sound row a ];
    complete = λ row after before m. elim (cases_lt row.number mid) [
      | inl lower ↦ among_right row rows others (g.complete row after lower m)
      | inr higher ↦ among_left row rows others (h.complete row higher before m)
    ];
  }

  pub adds_older_both : (from mid to : ℕ) (before between after : List Row) → from ≤ mid → mid ≤ to
      → AddsOlder entries def value mid to before between → AddsOlder entries def value from mid between after
      → AddsOlder entries def value from to before after
  adds_older_both from mid to before between after less more h g = (
    h.0 ++ g.0,
    g.1 ∙ ap (λ (z : List Row). z ++ g.0) h.1 ∙ append_assoc before h.0 g.0,
    finds_older_both from mid to h.0 g.0 less more h.2 g.2,
  )

  -- a number whose entry matches has one row
  pub older_found : (n : ℕ) (entry : Entry) (payload : List ℕ) (before after : List Row) → slice_get entries n ≡ Some entry
      → IsMatching def value entry (Some payload) → after ≡ before ++ record { number = n; payload = payload } ∷ []
      → AddsOlder entries def value n (n + 1) before after
  older_found n Void payload before after there matches added = absurd matches
  older_found n (Stored lane form own) payload before after there matches added = (
    new ∷ [],
    added,
    record {
      falls = (omega arith, tt);
      above = λ row m. elim m [
        | inl e ↦ (let same : n ≡ row.number = ap (λ (z : Row). z.number) e in omega arith)
        | inr none ↦ elim none [ ]
      ];
      sound = λ row m. elim m [ inl e ↦ subst (IsOlderMatch entries def value) e is | inr none ↦ elim none [ ] ];
      complete = λ row least most m.
          let same : row.number ≡ n = omega arith in
          let both : Stored m.0 m.1 row.payload ≡ Stored lane form own =
          same_Some _ _ (sym m.2 ∙ ap (slice_get entries) same ∙ there) in
          let payload_is : row.payload ≡ own = cc in
          inl (λ i. record { number = sym same i; payload = sym (payload_is ∙ matches.0) i });
    },
  )
    where
      new : Row
      new = record { number = n; payload = payload }

      is : IsOlderMatch entries def value new
      is = (
        lane,
        form,
        there ∙ ap (λ (z : List ℕ). Some (Stored lane form z)) matches.0,
        subst (λ (z : List ℕ). Contains (evaluation def form z) value) matches.0 matches.1,
      )

  -- and one whose entry doesn't has none
  pub older_unfound : (n : ℕ) (entry : Entry) (rows : List Row) → slice_get entries n ≡ Some entry → IsMatching def value entry None
      → AddsOlder entries def value n (n + 1) rows rows
  older_unfound n entry rows there matches = (
    [],
    sym (append-nil rows),
    record {
      falls = tt;
      above = λ row m. elim m [ ];
      sound = λ row m. elim m [ ];
      complete = λ row least most m.
          let same : row.number ≡ n = omega arith in
          absurd (other entry matches (same_Some _ _ (sym there ∙ ap (slice_get entries) (sym same) ∙ m.2)) m.3);
    },
  )
    where
      other : {lane : ℕ} {form : Form} {payload : List ℕ} (e : Entry) → IsMatching def value e None → e ≡ Stored lane form payload
          → Contains (evaluation def form payload) value → ⊥
      other {lane} {form} {payload} Void none is has = absurd cc
      other {lane} {form} {payload} (Stored own shape text) none is has =
          let shape_is : shape ≡ form = cc in
          let text_is : text ≡ payload = cc in
          none (subst (λ (z : Form × List ℕ). Contains (evaluation def z.0 z.1) value) (λ i. (sym shape_is i, sym text_is i)) has)

  -- ---- as a selection

  -- an entry that a selection sees stored is stored
  seen : (log : List Entry) (n lane : ℕ) (form : Form) (payload : List ℕ)
      → slice_get (map selectable log) n ≡ Some (stored lane form payload) → slice_get log n ≡ Some (Stored lane form payload)
  seen [] n lane form payload h = absurd cc
  seen (Stored l f p ∷ log) zero lane form payload h =
      let one : l ≡ lane = cc in
      let two : f ≡ form = cc in
      let three : p ≡ payload = cc in
      λ i. Some (Stored (one i) (two i) (three i))
  seen (Void ∷ log) zero lane form payload h = absurd cc
  seen (e ∷ log) (suc n) lane form payload h = seen log n lane form payload h

  shown : (log : List Entry) (n lane : ℕ) (form : Form) (payload : List ℕ)
      → slice_get log n ≡ Some (Stored lane form payload) → slice_get (map selectable log) n ≡ Some (stored lane form payload)
  shown [] n lane form payload h = absurd cc
  shown (e ∷ log) zero lane form payload h = ap (λ (z : Entry). Some (selectable z)) (same_Some e (Stored lane form payload) h)
  shown (e ∷ log) (suc n) lane form payload h = shown log n lane form payload h

  -- what is found is the selection
  pub older_selection : (from to : ℕ) (rows : List Row) → FindsOlder entries def value from (max from to) rows
      → rows ≡ select (map selectable entries) (evaluation def) value from to []
  older_selection from to rows h =
      let log = map selectable entries in
      let law = selects log (evaluation def) value from to [] in
      falls_same (max from to) (length log) rows (select log (evaluation def) value from to []) h.falls law.1
      (λ row among. contains_among _ row ((law.0 row).1 (match row among)))
      (λ row among. let m = (law.0 row).0 (among_contains _ row among) in
      let below = m.below in
      let t = m.selected in
      h.complete row m.above (omega arith) (t.0, t.1, seen entries row.number t.0 t.1 row.payload t.2, t.3))
    where
      match : (row : Row) → Among row rows → IsMatch (map selectable entries) (evaluation def) value from to [] row
      match row among =
          let m = h.sound row among in
          let least = h.above row among in
          let most = falls_below (max from to) rows row h.falls among in
          record {
            above = least;
            below = omega arith;
            closed = λ open_. elim (contains_among {A = ℕ} [] row.number open_) [ ];
            selected = (m.0, m.1, shown entries row.number m.0 m.1 row.payload m.2, m.3);
          }

-- ---- how many are records

-- one number more, in front
pub stored_more : (entries : List Entry) (from to : ℕ) → from < to
    → stored_within entries from to ≡ parses_at (slice_get entries from) + stored_within entries (from + 1) to
stored_more entries from to less =
    let size : to - from ≡ suc (to - (from + 1)) = omega arith in
    ap (stored_from entries from) size

pub stored_none : (entries : List Entry) (n : ℕ) → stored_within entries n n ≡ 0
stored_none entries n = (let size : n - n ≡ 0 = omega arith in ap (stored_from entries n) size)

pub stored_one : (entries : List Entry) (n : ℕ) (entry : Entry) → slice_get entries n ≡ Some entry
    → stored_within entries n (n + 1) ≡ parses_of entry
stored_one entries n entry there =
    let more = stored_more entries n (n + 1) (omega arith) in
    let none = stored_none entries (n + 1) in
    let is : parses_at (slice_get entries n) ≡ parses_of entry = ap parses_at there in
    omega arith
