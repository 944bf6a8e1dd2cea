-- What the items of a sample's lanes say, statement by statement.
use Rattle.std.proofs.Common.{◌≡◌, ℕ, zero, suc, List, [], ◌∷◌, ◌++◌, length, map, take, refl, sym, ap, ◌∙◌, subst, inl}
use Rattle.std.proofs.Common.{inr, arith}
use Rattle.std.proofs.Common.{Bool, true, false, None, append-nil, append_assoc}
use Rattle.std.specs.Prelude.{◌==◌, ◌&&◌}
use Rattle.std.specs.List.{AllByRecursion, flat_map, list_all}
use Rattle.std.proofs.lemmas.Bool.{false≢true}
use Rattle.fish_catalog.specs.Listing.{listed_of}
use Rattle.fish_catalog.specs.Rows.{new_row, with_from}
use Rattle.fish_catalog.specs.declared.listed.Listed.{Listed}
use Rattle.fish_catalog.specs.declared.row.CatRow.{CatRow}
use Rattle.fish_lang.specs.Canonical.{definition_text}
use Rattle.fish_lang.specs.Definition.{Definition, definition_of}
use Rattle.fish_lang.specs.Language.{IsAccepted}
use Rattle.fish_lanes.proofs.RowLists.{contents_append}
use Rattle.fish_lanes.specs.Records.{LaneRow, contents_of_rows}
use Rattle.fish_lanes.specs.Registering.{ItemsFit, IsRegisterItem, ItemFits, Registry, after, after_all}
use Rattle.fish_lanes.specs.Scanning.{SaysScanned}
use Rattle.fish_lanes.specs.Seen.{IsSeen, Shown, shown_by}
use Rattle.fish_lanes.specs.Spans.{Span, answers, span_after, is_answer}
use Rattle.fish_lanes.specs.Telling.{SaysItem, SaysItems, content_of, count_of as count_of_item}
use Rattle.fish_lanes.specs.declared.work.Work.{Work}
use Rattle.fish_psf.specs.Records.{evaluation}
use Rattle.fish_psf.specs.Select.{select}
use Rattle.fish_report.specs.declared.item.Item.{Item}
use Rattle.fish_report.specs.declared.item.Item.TheVariants as item
use Rattle.fish_sample.specs.within.Blocks.{AreSelected, namings}
use Rattle.fish_sample.specs.within.Items.{is_registered, is_scanned, is_stored, item_line}
use Rattle.fish_sample.specs.Sample.{SampleQuestion, count_line, asked_count}
use Rattle.fish_sample.specs.within.Works.{Naming, register_work, scan_by}
use Rattle.fish_scan.specs.Naming.{IsNewestListed}
use Rattle.fish_scan.specs.Older.{selectable}
use Rattle.fish_scan.specs.declared.ask.Ask.{Ask}
use Rattle.fish_scan.specs.declared.ask.How.TheVariants.{Auto}
use Rattle.fish_whole.specs.Whole.{Whole}

-- ---- tests

pub and_both : (a b : Bool) → (a && b) ≡ true → (a ≡ true) × (b ≡ true)
and_both true b h = (refl, h)
and_both false b h = absurd (false≢true h)

pub same_number : (m n : ℕ) → (m == n) ≡ true → m ≡ n
same_number m n h = grind arith

pub none_left : {A : Type 0} (xs : List A) → (length xs == 0) ≡ true → xs ≡ []
none_left [] h = refl
none_left (x ∷ xs) h = (let e = same_number (length (x ∷ xs)) 0 h in absurd (omega (e, arith)))

-- ---- items that answer

registered_answers : (x : Item) → is_registered x ≡ true → is_answer x ≡ true
registered_answers (item.Registered name id from def) h = refl
registered_answers x h = absurd (false≢true h)

stored_answers : (x : Item) → is_stored x ≡ true → is_answer x ≡ true
stored_answers (item.Ingested file stored refused) h = refl
stored_answers x h = absurd (false≢true h)

scanned_answers : (x : Item) → is_scanned x ≡ true → is_answer x ≡ true
scanned_answers (item.Scanned name value from to opens rows version) h = refl
scanned_answers x h = absurd (false≢true h)

-- where each item does, all are the answers
all_answer : (p : Item → Bool) → ((x : Item) → p x ≡ true → is_answer x ≡ true) → (items : List Item) → list_all p items ≡ true
    → answers items ≡ items
all_answer p so [] h = refl
all_answer p so (x ∷ items) h =
    let both = and_both (p x) (list_all p items) h in
    rw (so x both.0) (ap (λ (z : List Item). x ∷ z) (all_answer p so items both.1))

pub registered_all : (items : List Item) → list_all is_registered items ≡ true → answers items ≡ items
registered_all = all_answer is_registered registered_answers

pub stored_all : (items : List Item) → list_all is_stored items ≡ true → answers items ≡ items
stored_all = all_answer is_stored stored_answers

pub scanned_all : (items : List Item) → list_all is_scanned items ≡ true → answers items ≡ items
scanned_all = all_answer is_scanned scanned_answers

-- ---- statements that store nothing

take_none : {A : Type 0} (n : ℕ) (xs : List A) → xs ≡ [] → take n xs ≡ []
take_none zero xs none = refl
take_none (suc n) xs none = ap (take (suc n)) none

pub nothing_stored : (w : Whole) (s : Span) (before : List LaneRow) (shown : List Shown) (rows : List LaneRow) (works : List Work)
    (items : List Item) → AllByRecursion (λ y. content_of y ≡ []) works → SaysItems w s before shown rows works items
    → contents_of_rows rows ≡ []
nothing_stored w s before shown rows [] [] none h = ap contents_of_rows h
nothing_stored w s before shown rows [] (x ∷ items) none h = absurd h
nothing_stored w s before shown rows (y ∷ works) [] none h = h.1 ∙ take_none h.0 (content_of y) none.0
nothing_stored w s before shown rows (y ∷ works) (x ∷ items) none h =
    let rest = nothing_stored w (span_after x s) (before ++ h.0) (shown ++ shown_by x) h.1 works items none.1 h.6 in
    ap contents_of_rows h.2 ∙ contents_append h.0 h.1
    ∙ (λ i. (h.3 ∙ take_none (count_of_item x) (content_of y) none.0) i ++ rest i)

-- ---- registrations

pub namings_from : (rows : List CatRow) (id from : ℕ) → namings (with_from rows id from) ≡ namings rows
namings_from [] id from = refl
namings_from (row ∷ rows) zero from = refl
namings_from (row ∷ rows) (suc id) from = ap (λ (z : List (List ℕ × List ℕ)). (row.name, row.def) ∷ z) (namings_from rows id from)

namings_more : (rows : List CatRow) (row : CatRow) → namings (rows ++ row ∷ []) ≡ namings rows ++ (row.name, row.def) ∷ []
namings_more [] row = refl
namings_more (r ∷ rows) row = ap (λ (z : List (List ℕ × List ℕ)). (r.name, r.def) ∷ z) (namings_more rows row)

-- the item of one that began at once
one_named : (r : Registry) (name text : List ℕ) (x : Item) → IsRegisterItem name text x → is_registered x ≡ true
    → namings (after r x).rows ≡ namings r.rows ++ (name, text) ∷ []
one_named r name text x (inl h) is =
    ap (λ (z : Item). namings (after r z).rows) h.2
    ∙ namings_from (r.rows ++ new_row h.0 name text ∷ []) h.0 h.1 ∙ namings_more r.rows (new_row h.0 name text)
one_named r name text x (inr (inl h)) is = absurd (false≢true (sym (ap is_registered h.3) ∙ is))
one_named r name text x (inr (inr h)) is = absurd (false≢true (sym (ap is_registered h.1) ∙ is))

abbrev pub text_of : Naming → List ℕ × List ℕ
text_of g = (g.0, definition_text (definition_of g.1))

pub all_named : (w : Whole) (s : Span) (before : List LaneRow) (shown : List Shown) (rows : List LaneRow) (gs : List Naming)
    (items : List Item) (r : Registry) → SaysItems w s before shown rows (map register_work gs) items
    → length items ≡ length (map register_work gs) → list_all is_registered items ≡ true
    → namings (after_all r items).rows ≡ namings r.rows ++ map text_of gs
all_named w s before shown rows [] [] r h many all = sym (append-nil (namings r.rows))
all_named w s before shown rows [] (x ∷ items) r h many all = absurd h
all_named w s before shown rows (g ∷ gs) [] r h many all = absurd (let e = many in omega arith)
all_named w s before shown rows (g ∷ gs) (x ∷ items) r h many all =
    let both = and_both (is_registered x) (list_all is_registered items) all in
    let rest = all_named w (span_after x s) (before ++ h.0) (shown ++ shown_by x) h.1 gs items (after r x) h.6 (let e = many in omega arith)
    both.1 in
    let one = one_named r g.0 (definition_text (definition_of g.1)) x h.4 both.0 in
    rest ∙ ap (λ (z : List (List ℕ × List ℕ)). z ++ map text_of gs) one ∙ append_assoc (namings r.rows) (text_of g ∷ []) (map text_of gs)

-- ---- files that are stored

pub stored_after : (r : Registry) (items : List Item) → list_all is_stored items ≡ true → after_all r items ≡ r
stored_after r [] h = refl
stored_after r (x ∷ items) h =
    let both = and_both (is_stored x) (list_all is_stored items) h in
    ap (λ (z : Registry). after_all z items) (one r x both.0) ∙ stored_after r items both.1
  where
    one : (r : Registry) (x : Item) → is_stored x ≡ true → after r x ≡ r
    one r (item.Ingested file stored refused) is = refl
    one r x is = absurd (false≢true is)

-- ---- scans

-- the name means this definition, and no other
abbrev pub MeansIn : List Listed → SampleQuestion → Type 0
MeansIn rows a = (position : ℕ) (n : IsNewestListed rows a.name position) (def : Definition) → IsAccepted n.listed.def def → def
    ≡ a.definition

abbrev pub scan_of : SampleQuestion → Work
scan_of a = scan_by a.name a.value

abbrev ask_of : SampleQuestion → Ask
ask_of a = record { name = a.name; value = a.value; from = None; to = None; how = Auto }

-- a scan is answered over all numbers, and no number is open
module _ (w : Whole) (r : Registry) (number below : ℕ) (rows_are : w.rows r.version ≡ map listed_of r.rows)
    (selected : AreSelected number below w) where
  -- the line of one is that of what is asked
  answered_line : (s : Span) (before : List LaneRow) (shown : List Shown) (a : SampleQuestion) (x : Item) (low high : ℕ) → s.from ≡ below
      → SaysScanned w s (IsSeen s.from before shown) (ask_of a) x → is_scanned x ≡ true → ItemFits low high r x
      → MeansIn (map listed_of r.rows) a → item_line x ≡ count_line a.name a.value (asked_count number a)
  answered_line s before shown a x low high begins h is so means =
      let none : h.opens ≡ [] = none_left h.opens (sym (ap is_scanned h.is) ∙ is) in
      let version : h.version ≡ r.version = subst (ItemFits low high r) h.is so in
      let m = h.tells.means in
      let listed : m.rows ≡ map listed_of r.rows = sym m.has.are ∙ ap w.rows version ∙ rows_are in
      let def : h.tells.def ≡ a.definition = subst (λ (ls : List Listed). MeansIn ls a) (sym listed) means m.position m.newest h.tells.def
      m.accepted in
      let rows : h.rows ≡ select (map selectable w.log) (evaluation a.definition) a.value h.from h.to [] =
      h.tells.rows_are ∙ (λ i. select (map selectable w.log) (evaluation (def i)) a.value h.from h.to (none i)) in
      let many : length h.rows ≡ asked_count number a =
      ap length rows ∙ selected a h.from h.to (λ n less within.
      (let k = h.tells.holds.each n (inl (omega (less, begins, arith))) within (record { above = omega arith; below = λ to e. absurd cc })
      in (k.0, k.1))) in
      ap item_line h.is ∙ ap (count_line a.name a.value) many

  pub scan_lines : (s : Span) (before : List LaneRow) (shown : List Shown) (rows : List LaneRow) (asked : List SampleQuestion)
      (items : List Item)
      (low high : ℕ) → s.from ≡ below → SaysItems w s before shown rows (map scan_of asked) items
      → length items ≡ length (map scan_of asked) → list_all is_scanned items ≡ true → ItemsFit low high r items
      → AllByRecursion (MeansIn (map listed_of r.rows)) asked
      → flat_map item_line items ≡ flat_map (λ a. count_line a.name a.value (asked_count number a)) asked
  scan_lines s before shown rows [] [] low high begins h many all so means = refl
  scan_lines s before shown rows [] (x ∷ items) low high begins h many all so means = absurd h
  scan_lines s before shown rows (a ∷ asked) [] low high begins h many all so means = absurd (let e = many in omega arith)
  scan_lines s before shown rows (a ∷ asked) (x ∷ items) low high begins h many all so means =
      let both = and_both (is_scanned x) (list_all is_scanned items) all in
      let more = scan_lines (span_after x s) (before ++ h.0) (shown ++ shown_by x) h.1 asked items low high begins h.6
      (let e = many in omega
      arith) both.1
      (subst (λ (z : Registry). ItemsFit low high z items) (same_after r x both.0) so.1) means.1 in
      (λ i. by h.4 both.0 so.0 i ++ more i)
    where
      same_after : (r : Registry) (x : Item) → is_scanned x ≡ true → after r x ≡ r
      same_after r (item.Scanned name value from to opens rows version) is = refl
      same_after r x is = absurd (false≢true is)

      by : SaysItem w s before shown (scan_of a) x → is_scanned x ≡ true → ItemFits low high r x
          → item_line x ≡ count_line a.name a.value (asked_count number a)
      by (inl t) is one = answered_line s before shown a x low high begins t is one means.0
      by (inr t) is one = absurd (false≢true (sym (ap is_scanned t.is) ∙ is))
