-- What words of the registry tell once they are read.
use Rattle.std.proofs.Common.{◌≡◌, ◌≢◌, ℕ, ◌+◌, ◌%◌, ◌<◌, ◌≤◌, zero, suc, List, [], ◌∷◌, ◌++◌, length, map, take, sym}
use Rattle.std.proofs.Common.{refl, ap, ◌∙◌, subst, inl, inr, arith, Some, slice_get, get_or, true, Bool, option_map}
use Rattle.std.proofs.Common.{get_or-set_other, get_or-set_same}
use Rattle.std.specs.Prelude.{slice_index, slice_set}
use Rattle.std.proofs.Math.Decide.{ℕ_discrete, dec_lt}
use Rattle.std.proofs.lemmas.List.{length-map}
use Rattle.std.proofs.lemmas.Option.{same_Some, slice_get-get_or, slice_get-map}
use Rattle.fish_catalog.proofs.RowWords.{listed_back, listed_same}
use Rattle.fish_catalog.specs.Listing.{IsListing, ended_at, listed_in, listed_of}
use Rattle.fish_catalog.specs.Words.{row_word, was_active}
use Rattle.fish_catalog.specs.declared.listed.Listed.{Listed}
use Rattle.fish_catalog.specs.declared.row.CatRow.{CatRow}
use Rattle.fish_layout.proofs.Clearing.{choose_first}
use Rattle.fish_rule.proofs.laws.Lists.{all_among}
use Rattle.fish_rule.proofs.laws.Clocks.{later_ticked}
use Rattle.fish_rule.proofs.laws.Learning.{ahead, extends_both, learns_self}
use Rattle.fish_rule.proofs.laws.Versions.{definitions_next, length_registered, listing_law}
use Rattle.fish_rule.specs.RegistrySteps.{after_load_registry}
use Rattle.fish_rule.specs.Logs.{Learns}
use Rattle.fish_rule.specs.Registry.{HasRead, KnowsDefinitions, KnowsRow, definitions_at, made, op_at, row_at, row_in}
use Rattle.fish_rule.specs.Table.{IsOfMoment}
use Rattle.fish_rule.specs.Views.{Among}
use Rattle.fish_rule.specs.declared.view.Key.{Key}
use Rattle.fish_rule.specs.declared.view.RegistryWord.{RegistryWord}
use Rattle.fish_rule.specs.declared.view.View.{View}
use Rattle.fish_epoch.specs.Definitions.{IsKnownOf, version_of}
use Rattle.fish_epoch.specs.Rows.{OnlyLearns}
use Rattle.fish_epoch.specs.within.Rows.{HasRow, HasRowWords}
use Rattle.fish_epoch.specs.declared.definitions.Known.{Known}

-- ---- views

-- and what only reads of what only reads
pub reads_both : (a b c : View) → OnlyLearns a b → OnlyLearns b c → OnlyLearns a c
reads_both a b c e f = record {
  extends = extends_both a b c e.extends f.extends;
  version = f.version ∙ e.version;
  count = f.count ∙ e.count;
  found = f.found ∙ e.found;
  loads = f.loads ∙ e.loads;
}

-- a load of a word that lasts
pub reads_word : (v u : View) (p x : ℕ) → u ≡ after_load_registry v p x → OnlyLearns v u
reads_word v u p x e = subst (OnlyLearns v) (sym e) (record {
  extends = record {
    learns = assumption (learns_self v, ahead (record { index = p; value = x }) v.learned.words);
    clock = later_ticked v.clock;
    frame = refl;
  };
  version = refl;
  count = refl;
  found = refl;
  loads = refl;
})

-- ---- what is known stays known

-- words that include others say what those say
read_fewer : (g : ℕ → ℕ) (ws us : List RegistryWord) → ((x : RegistryWord) → Among x ws → Among x us) → HasRead g us
    → HasRead g ws
read_fewer g [] us sub h = tt
read_fewer g (x ∷ ws) us sub h =
    (all_among (λ y. g y.index ≡ y.value) x us h (sub x (inl refl)), read_fewer g ws us (λ y m. sub y (inr m)) h)

-- definitions that are known stay known
pub knows_later : (v u : View) (n : ℕ) (ls : List Listed) → Learns v u
    → KnowsDefinitions v.about v.learned n ls → KnowsDefinitions u.about u.learned n ls
knows_later v u n ls e h =
    let up = e.version in
    let a = h.reached in
    subst (λ (z : Key). KnowsDefinitions z u.learned n ls) (sym e.about) (record {
      from = h.from;
      reached = omega arith;
      are = λ g read. h.are g (read_fewer g v.learned.words u.learned.words e.words read);
    })

-- and so do rows
pub row_later : (v u : View) (id : ℕ) → Learns v u → KnowsRow v.about v.learned id
    → KnowsRow u.about u.learned id
row_later v u id e h =
    let up = e.version in
    let a = h.reached in
    subst (λ (z : Key). KnowsRow z u.learned id) (sym e.about) (record {
      version = h.version;
      reached = omega arith;
      there = λ g read. h.there g (read_fewer g v.learned.words u.learned.words e.words read);
    })

-- definitions that were read stay so
pub defs_later : (v u : View) (d : Known) → Learns v u → IsKnownOf v d → IsKnownOf u d
defs_later v u d e h read = record {
  read = read;
  rows = knows_later v u (version_of d) d.rows.items e (h read).rows;
  active = (h read).active;
  written = (h read).written;
}

-- a row of the start is known
pub first_known : (v : View) (id : ℕ) → id < length v.about.rows.value → KnowsRow v.about v.learned id
first_known v id less = record {
  version = 0;
  reached = omega arith;
  there = λ g read. (let size = length-map v.about.rows.value listed_of in omega arith);
}

-- ---- the words of a row

-- one word more of the row is read
pub words_more : (v u : View) (id position x : ℕ) (ws : List ℕ) → length ws ≡ 39 → position < 39
    → u ≡ after_load_registry v (row_at id position) x
    → ((row : CatRow) → slice_get v.about.rows.value id ≡ Some row
    → Rattle.fish_catalog.specs.Words.IsWritable row × (x ≡ row_word row position))
    → HasRowWords v id position (slice_index ws) → HasRowWords u id (suc position) (slice_index (slice_set ws position x))
words_more v u id position x ws wide room is row h = record {
  among = λ i from upto. read_ i from upto (ℕ_discrete i position);
  first = λ r there i from upto. firsts r
      (ap (λ (z : View). slice_get z.about.rows.value id) (sym is) ∙ there) i from upto (ℕ_discrete i position);
}
  where
    here : slice_index (slice_set ws position x) position ≡ x
    here = get_or-set_same ws position x 0 (omega arith)

    else_ : (i : ℕ) → i ≢ position → slice_index (slice_set ws position x) i ≡ slice_index ws i
    else_ i ne = get_or-set_other ws position i x 0 ne

    newest : Among (record { index = row_at id position; value = x }) u.learned.words
    newest = subst (λ (z : View). Among (record { index = row_at id position; value = x }) z.learned.words) (sym is) (inl refl)

    older : (y : RegistryWord) → Among y v.learned.words → Among y u.learned.words
    older y m = subst (λ (z : View). Among y z.learned.words) (sym is) (inr m)

    read_ : (i : ℕ) → 2 ≤ i → i < suc position → Dec (i ≡ position)
        → Among (record { index = row_at id i; value = slice_index (slice_set ws position x) i }) u.learned.words
    read_ i from upto (yes e) =
        subst (λ (z : ℕ). Among (record { index = row_at id z; value = slice_index (slice_set ws position x) z })
        u.learned.words) (sym e)
        (subst (λ (z : ℕ). Among (record { index = row_at id position; value = z }) u.learned.words) (sym here) newest)
    read_ i from upto (no ne) =
        subst (λ (z : ℕ). Among (record { index = row_at id i; value = z }) u.learned.words) (sym (else_ i ne))
        (older _ (h.among i from (omega arith)))

    firsts : (r : CatRow) → slice_get v.about.rows.value id ≡ Some r → (i : ℕ) → 2 ≤ i → i < suc position → Dec (i ≡ position)
        → Rattle.fish_catalog.specs.Words.IsWritable r × (slice_index (slice_set ws position x) i ≡ row_word r i)
    firsts r there i from upto (yes e) =
        let t = row r there in
        (t.0, ap (slice_index (slice_set ws position x)) e ∙ here ∙ t.1 ∙ ap (row_word r) (sym e))
    firsts r there i from upto (no ne) =
        let t = h.first r there i from (omega arith) in (t.0, else_ i ne ∙ t.1)

-- the definition that a row's words spell, by the words read
pub row_read : (u : View) (id : ℕ) (f : ℕ → ℕ) (l : Listed) → HasRowWords u id 39 f → l ≡ listed_in f id true → HasRow u id l
row_read u id f l words is g read = is ∙ listed_same f (row_in g id) id true (λ i from upto.
    sym (all_among (λ y. g y.index ≡ y.value) (record { index = row_at id i; value = f i }) u.learned.words read
    (words.among i from upto)))

-- ---- the rows of the start

-- each row of the start has its position as its id
start_ids : (v : View) → IsOfMoment v → (id : ℕ) (row : CatRow) → slice_get v.about.rows.value id ≡ Some row → row.id ≡ id
start_ids v s id row there =
    (s.rule.registry.versions.listings 0 (omega arith)).ids id (listed_of row)
    (slice_get-map listed_of v.about.rows.value id ∙ ap (option_map listed_of) there)

-- the words of a row of the start spell its definition
pub first_listed : (v u : View) (id : ℕ) (f : ℕ → ℕ) (l : Listed) (active : Bool) → IsOfMoment v → u.about ≡ v.about
    → id < length v.about.rows.value → HasRowWords u id 39 f → active ≡ was_active (f 2) → l ≡ listed_in f id active
    → slice_get (map listed_of v.about.rows.value) id ≡ Some l
first_listed v u id f l active s about less words on is =
    let rows = v.about.rows.value in
    let d : CatRow = record { id = 0; name = []; def = []; from = Rattle.std.proofs.Common.None; to = Rattle.std.proofs.Common.None } in
    let row : CatRow = get_or rows id d in
    let there : slice_get rows id ≡ Some row = slice_get-get_or rows id d less in
    let there_u : slice_get u.about.rows.value id ≡ Some row =
    ap (λ (z : Key). slice_get z.rows.value id) about ∙ there in
    let number : row.id ≡ id = start_ids v s id row there in
    let two = words.first row there_u 2 (omega arith) (omega arith) in
    let flag : active ≡ was_active (row_word row 2) = on ∙ ap was_active two.1 in
    let same : listed_in f id active ≡ listed_in (row_word row) id active =
    listed_same f (row_word row) id active (λ i from upto. (words.first row there_u i from upto).1) in
    let back : listed_in (row_word row) row.id (was_active (row_word row 2)) ≡ listed_of row = listed_back row two.0 in
    let l_is : l ≡ listed_of row = is ∙ same
    ∙ (λ j. listed_in (row_word row) (sym number j) (flag j)) ∙ back in
    slice_get-map listed_of rows id ∙ ap (option_map listed_of) there ∙ ap Some (sym l_is)

-- one row more of a list
pub take_more : {A : Type 0} (xs : List A) (n : ℕ) (x : A) → slice_get xs n ≡ Some x → take n xs ++ x ∷ [] ≡ take (suc n) xs
take_more [] n x h = absurd (cc)
take_more (y ∷ xs) zero x h = ap (λ z. z ∷ []) (sym (same_Some y x h))
take_more (y ∷ xs) (suc n) x h = ap (λ z. y ∷ z) (take_more xs n x h)

-- ---- what an operation makes

module _ (v u : View) (before x : ℕ) (ls : List Listed) (learns : Learns v u)
    (from : v.about.version ≤ before) (reached : before < v.learned.version)
    (read : Among (record { index = op_at (suc before); value = x }) u.learned.words)
    (known : KnowsDefinitions v.about v.learned before ls) where
  -- by the words, the next version's definitions are made by the operation
  made_by : (g : ℕ → ℕ) → HasRead g u.learned.words
      → definitions_at u.about g (suc before) ≡ made g x ls
  made_by g has =
      let op : g (op_at (suc before)) ≡ x =
      all_among (λ y. g y.index ≡ y.value) (record { index = op_at (suc before); value = x }) u.learned.words has read in
      let old = (knows_later v u before ls learns known).are g has in
      definitions_next u.about g before (subst (λ (z : Key). z.version ≤ before) (sym learns.about) from)
      ∙ (λ j. made g (op j) (old j))

  next_reached : suc before ≤ u.learned.version
  next_reached = (let up = learns.version in omega arith)

  -- a registration adds the next row, which is then known
  pub registered_known : x < 512 → KnowsRow u.about u.learned (length ls)
  registered_known less = record {
    version = suc before;
    reached = next_reached;
    there = λ g has.
        let size : length (definitions_at u.about g (suc before)) ≡ length (made g x ls) =
        ap (λ (z : List Listed). length z) (made_by g has) in
        let more = length_registered g x ls less in
        omega arith;
  }

  -- the definition that was registered comes after the others
  pub made_registered : (t : View) (l : Listed) → x < 512 → Learns u t → HasRow t (length ls) l
      → KnowsDefinitions t.about t.learned (suc before) (ls ++ l ∷ [])
  made_registered t l less later row = record {
    from = subst (λ (z : Key). z.version ≤ suc before) (sym (later.about ∙ learns.about)) (omega arith);
    reached = (let up = later.version in let a = next_reached in omega arith);
    are = λ g has.
        let has_u = read_fewer g u.learned.words t.learned.words later.words has in
        ap (λ (z : Key). definitions_at z g (suc before)) later.about ∙ made_by g has_u
        ∙ choose_first (dec_lt x 512) (ls ++ listed_in (row_in g (length ls)) (length ls) true ∷ [])
        (ended_at (x % 256) ls) less
        ∙ ap (λ (z : Listed). ls ++ z ∷ []) (sym (row g has));
  }

-- an operation that was read is known
pub operation_read : (v u : View) (p x : ℕ) → u ≡ after_load_registry v p x
    → Among (record { index = p; value = x }) u.learned.words
operation_read v u p x e = subst (λ (z : View). Among (record { index = p; value = x }) z.learned.words) (sym e) (inl refl)

-- ---- by their laws

-- definitions that are known are a listing
pub known_listing : (v : View) (n : ℕ) (ls : List Listed) → IsOfMoment v
    → KnowsDefinitions v.about v.learned n ls → IsListing ls
known_listing = listing_law
