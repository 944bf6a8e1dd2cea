-- What was loaded of records, and of the rows that they are.
use Rattle.std.proofs.Common.{◌≡◌, ℕ, ◌+◌, ◌*◌, ◌≤◌, List, [], ◌∷◌, ◌++◌, refl, sym, ap, ◌∙◌, subst, inl, inr, arith}
use Rattle.std.proofs.Common.{append-nil, append_assoc}
use Rattle.fish_psf.specs.SelectLaw.{FallsBelow}
use Rattle.fish_rule.specs.Logs.{Learns}
use Rattle.fish_rule.specs.Views.{Among}
use Rattle.fish_rule.specs.declared.view.Found.{Found}
use Rattle.fish_rule.specs.declared.view.Kind.TheVariants.{Stored}
use Rattle.fish_rule.specs.declared.view.View.{View}
use Rattle.fish_scan.specs.Work.{AreRecords, RisesBy, words_of_found}
use Rattle.fish_scan.specs.within.Work.{AreRecordsOf, HasLoadedRows, IsFoundAt}
use Rattle.fish_value.specs.declared.row.Row.{Row}
use Rattle.fish_walk.specs.Looks.{CountsLoads, HasFound}

-- ---- counts

-- nothing was loaded
pub rises_none : (v : View) (old : ℕ) → RisesBy v v old old 0
rises_none v old = record { counted = omega arith; own = omega arith }

-- one rise after another
pub rises_both : (v m u : View) (old mid new a b : ℕ) → RisesBy v m old mid a → RisesBy m u mid new b
    → RisesBy v u old new (a + b)
rises_both v m u old mid new a b h g = (let w = h.counted in let x = h.own in let y = g.counted in let z = g.own in
    record { counted = omega arith; own = omega arith })

-- a rise is one by more
pub rises_within : (v u : View) (old new a b : ℕ) → a ≤ b → RisesBy v u old new a → RisesBy v u old new b
rises_within v u old new a b less h = (let x = h.counted in let y = h.own in record { counted = omega arith; own = omega arith })

-- the words of records in two lists
pub words_both : (fs gs : List Found) → words_of_found (fs ++ gs) ≡ words_of_found fs + words_of_found gs
words_both [] gs = omega arith
words_both (f ∷ fs) gs = (let rest = words_both fs gs in omega arith)

-- ---- records

-- records stay found
pub records_later : (v u : View) (from to : ℕ) (fs : List Found) → Learns v u → AreRecords v from to fs → AreRecords u from to fs
records_later v u from to [] learns h = h
records_later v u from to (f ∷ fs) learns h =
    (h.0, learns.found f h.1, h.2, records_later v u from f.number fs learns h.3)

-- records below a number are below a greater one
records_below : (v : View) (from m n : ℕ) (fs : List Found) → m ≤ n → AreRecords v from m fs → AreRecords v from n fs
records_below v from m n [] less h = omega arith
records_below v from m n (f ∷ fs) less h = ((let a = h.0 in omega arith), h.1, h.2, h.3)

-- records of one range, and after them those of the range below
pub records_both : (v : View) (from mid to : ℕ) (fs gs : List Found) → AreRecords v mid to fs → AreRecords v from mid gs
    → AreRecords v from to (fs ++ gs)
records_both v from mid to [] gs h g = records_below v from mid to gs h g
records_both v from mid to (f ∷ fs) gs h g = (h.0, h.1, h.2, records_both v from mid f.number fs gs h.3 g)

-- the record of a number stays found
pub record_later : (v u : View) (n : ℕ) (f : Found) → Learns v u → IsFoundAt v n f → IsFoundAt u n f
record_later v u n f learns h = record { among = learns.found f h.among; number_is = h.number_is; kind = h.kind }

-- so do those of rows
pub rows_later : (v u : View) (rows : List Row) (fs : List Found) → Learns v u → AreRecordsOf v rows fs → AreRecordsOf u rows fs
rows_later v u [] [] learns h = h
rows_later v u (row ∷ rows) (f ∷ fs) learns h = (record_later v u row.number f learns h.0, rows_later v u rows fs learns h.1)
rows_later v u [] (f ∷ fs) learns h = absurd h
rows_later v u (row ∷ rows) [] learns h = absurd h

-- those of rows in two lists
pub rows_both : (v : View) (rows others : List Row) (fs gs : List Found) → AreRecordsOf v rows fs → AreRecordsOf v others gs
    → AreRecordsOf v (rows ++ others) (fs ++ gs)
rows_both v [] others [] gs h g = g
rows_both v (row ∷ rows) others (f ∷ fs) gs h g = (h.0, rows_both v rows others fs gs h.1 g)
rows_both v [] others (f ∷ fs) gs h g = absurd h
rows_both v (row ∷ rows) others [] gs h g = absurd h

-- of rows that fall the records do
pub rows_fall : (v : View) (from to : ℕ) (rows : List Row) (fs : List Found) → from ≤ to → FallsBelow to rows
    → ((row : Row) → Among row rows → from ≤ row.number) → AreRecordsOf v rows fs → AreRecords v from to fs
rows_fall v from to [] [] less falls above h = less
rows_fall v from to (row ∷ rows) (f ∷ fs) less falls above h =
    let r = h.0 in
    let below = falls.0 in
    let number = r.number_is in (
      omega arith,
      r.among,
      r.kind,
      subst (λ (z : ℕ). AreRecords v from z fs) (sym number)
          (rows_fall v from row.number rows fs (above row (inl refl)) falls.1 (λ x m. above x (inr m)) h.1),
    )
rows_fall v from to [] (f ∷ fs) less falls above h = absurd h
rows_fall v from to (row ∷ rows) [] less falls above h = absurd h

-- and each is that of one of them
pub rows_given : (v : View) (rows : List Row) (fs : List Found) (f : Found) → AreRecordsOf v rows fs → Among f fs
    → (row : Row) × Among row rows × (row.number ≡ f.number)
rows_given v [] [] f h m = elim m [ ]
rows_given v (row ∷ rows) (g ∷ fs) f h (inl e) = (row, inl refl, sym h.0.number_is ∙ ap (λ (z : Found). z.number) e)
rows_given v (row ∷ rows) (g ∷ fs) f h (inr m) = (let t = rows_given v rows fs f h.1 m in (t.0, inr t.1, t.2))
rows_given v [] (g ∷ fs) f h m = absurd h
rows_given v (row ∷ rows) [] f h m = absurd h

-- ---- rows that were loaded

-- none was
pub loaded_none : (v u : View) (rows : List Row) (old new most : ℕ) → RisesBy v u old new most
    → HasLoadedRows v u rows rows old new most
loaded_none v u rows old new most h = record {
  rows = [];
  added = sym (append-nil rows);
  records = [];
  are = tt;
  rises = rises_within v u old new most (most + 0) (omega arith) h;
}

-- they took at most more
pub loaded_within : (v u : View) (before after : List Row) (old new a b : ℕ) → a ≤ b → HasLoadedRows v u before after old new a
    → HasLoadedRows v u before after old new b
loaded_within v u before after old new a b less h = record {
  rows = h.rows;
  added = h.added;
  records = h.records;
  are = h.are;
  rises = rises_within v u old new (a + words_of_found h.records) (b + words_of_found h.records) (omega arith) h.rises;
}

-- one was
pub loaded_one : (v u : View) (before after : List Row) (row : Row) (f : Found) (old new most : ℕ)
    → after ≡ before ++ row ∷ [] → IsFoundAt u row.number f → RisesBy v u old new (most + f.lines * 4)
    → HasLoadedRows v u before after old new most
loaded_one v u before after row f old new most is r h = record {
  rows = row ∷ [];
  added = is;
  records = f ∷ [];
  are = (r, tt);
  rises = rises_within v u old new (most + f.lines * 4) (most + (f.lines * 4 + 0)) (omega arith) h;
}

-- rows after rows
pub loaded_both : (v m u : View) (before rows after : List Row) (old mid new a b : ℕ) → Learns m u
    → HasLoadedRows v m before rows old mid a → HasLoadedRows m u rows after mid new b
    → HasLoadedRows v u before after old new (a + b)
loaded_both v m u before rows after old mid new a b learns h g =
    let words = words_both h.records g.records in record {
      rows = h.rows ++ g.rows;
      added = g.added ∙ ap (λ (z : List Row). z ++ g.rows) h.added ∙ append_assoc before h.rows g.rows;
      records = h.records ++ g.records;
      are = rows_both u h.rows g.rows h.records g.records (rows_later m u h.rows h.records learns h.are) g.are;
      rises = rises_within v u old new (a + words_of_found h.records + (b + words_of_found g.records))
          (a + b + words_of_found (h.records ++ g.records)) (omega arith) (rises_both v m u old mid new _ _ h.rises g.rises);
    }

-- ---- reads

-- the loads of a record that was read
pub record_loads : (v u : View) (n : ℕ) (f : Found) (old new : ℕ) → IsFoundAt v n f → CountsLoads v u n old new
    → RisesBy v u old new (1 + f.lines * 4)
record_loads v u n f old new r h =
    let few = h.few f r.among r.number_is r.kind in
    let exact = h.exact in
    record { counted = omega arith; own = omega arith }

-- a value was compared
pub compared : (v u : View) (old new : ℕ) → new + v.clock.loads ≡ old + u.clock.loads → new ≤ old + 35 → RisesBy v u old new 36
compared v u old new same few = record { counted = omega arith; own = omega arith }

-- and after that its record was read
pub compared_read : (v m t : View) (n old mid new : ℕ) → mid + v.clock.loads ≡ old + m.clock.loads → mid ≤ old + 35
    → HasFound m n Stored → Learns m t → CountsLoads m t n mid new → (f : Found) × IsFoundAt t n f × RisesBy v t old new (36 + f.lines * 4)
compared_read v m t n old mid new same few (f, among, number_is, kind) learns counts =
    let at : IsFoundAt m n f = record { among = among; number_is = number_is; kind = kind } in
    let read = record_loads m t n f mid new at counts in
    let a = read.counted in
    let b = read.own in
    (f, record_later m t n f learns at, record { counted = omega arith; own = omega arith })
