-- What carries a table carries it by every image that goes on from its commit.
use Rattle.std.proofs.Common.{◌≡◌, ℕ, ◌+◌, ◌-◌, ◌*◌, ◌/◌, ◌^◌, ◌<◌, ◌≤◌, inl, inr, List, ◌++◌, Option, Some, length, drop}
use Rattle.std.proofs.Common.{refl, sym, ap, subst, ◌∙◌, arith, length-append, length-drop, slice_get, slice_index}
use Rattle.std.proofs.lemmas.List.{drop-append-le, take-append-le}
use Rattle.std.proofs.lemmas.Option.{get_or_from_slice_get, slice_get_within}
use Rattle.fish_catalog.proofs.Texts.{canonical_read}
use Rattle.fish_catalog.specs.Covering.{Covers}
use Rattle.fish_catalog.specs.Rows.{IsCatalog, IsRow}
use Rattle.fish_catalog.specs.declared.commit.Commit.{Commit}
use Rattle.fish_catalog.specs.declared.row.CatRow.{CatRow}
use Rattle.fish_cold.specs.Cached.{IsReadFrom}
use Rattle.fish_cold.specs.Caching.{IsPageIn}
use Rattle.fish_cold.specs.Carries.{CarriesTable, IsPrior, IsPriorRecord}
use Rattle.fish_cold.specs.Pages.{page_words}
use Rattle.fish_cold.specs.declared.cold.Cold.{Cold}
use Rattle.fish_cold.specs.declared.page.Page.{Page}
use Rattle.fish_flush.proofs.Committed.{body_lines}
use Rattle.fish_flush.proofs.Growing.{grown_agrees}
use Rattle.fish_flush.proofs.Words.{words_both}
use Rattle.fish_image.proofs.Agreement.{agrees_first, agrees_more, agrees_once, agrees_within, front_whole, goes, lines_small, same_lines}
use Rattle.fish_image.proofs.Regions.{no_void}
use Rattle.fish_flush.specs.Going.{GoesOnFrom}
use Rattle.fish_image.specs.Log.{Agrees, Follows, FollowsIn, IsRecordAt, region, region_lines, values_under}
use Rattle.fish_image.specs.Reached.{Reached}
use Rattle.fish_image.specs.Stands.{words_in}
use Rattle.fish_lang.specs.Definition.{Definition}
use Rattle.fish_lang.specs.Language.{IsAccepted}
use Rattle.fish_layout.proofs.Once.{body_once}
use Rattle.fish_layout.specs.declared.parts.BodyParts.{BodyParts}
use Rattle.fish_psf.specs.Records.{evaluation}
use Rattle.fish_rule.specs.declared.view.Key.{Key}
use Rattle.fish_slots.specs.Slots.{lines_in_slot}
use Rattle.fish_store.proofs.Pages.{first_lines, same_page}
use Rattle.fish_image.specs.Reading.{IsBodyOf}
use Rattle.fish_recover.proofs.Once.{told_once}
use Rattle.fish_slots.proofs.Commits.{one_commit}
use Rattle.fish_store.specs.Laws.{StaysCarried}

-- the text of each row of a catalogue is a definition
meant_rows : (rows : List CatRow) → IsCatalog rows → (id : ℕ) (row : CatRow) → slice_get rows id ≡ Some row
    → (said : Definition) × IsAccepted row.def said
meant_rows rows catalog id row there =
    let is = get_or_from_slice_get rows id row row there in
    let of = subst IsRow is (catalog.each id row (slice_get_within rows id row there)) in
    (of.text.said, canonical_read row.def of.text)

-- the same region is at the front of words with others after them
same_region : (rest more : List ℕ) → 0 < length rest → 4 * region_lines rest ≤ length rest → region (rest ++ more) ≡ region rest
same_region rest more some whole =
    ap (λ (k : ℕ). Rattle.std.proofs.Common.take (4 * k) (rest ++ more)) (same_lines rest more some)
    ∙ take-append-le (4 * region_lines rest) rest more whole

-- a record at a place is the one that follows there
the_record : (c d : Commit) (t u : Reached) (rest : List ℕ) (p : BodyParts) → FollowsIn c t (region_lines rest) (region rest) u
    → IsRecordAt d t (region_lines rest) (region rest) p → IsRecordAt c t (region_lines rest) (region rest) p
the_record c d t u rest p (inl v) r =
    absurd (no_void p (region rest) (region_lines rest) r.body v.0.words (lines_small (slice_index rest 0)))
the_record c d t u rest p (inr v) r =
    subst (IsRecordAt c t (region_lines rest) (region rest)) (body_once v.1.body r.body (v.1.number ∙ sym r.number)) v.1

module _ (k : Key) (cold : Cold) (content : Option (List ℕ)) (h : CarriesTable content k cold)
    (size : length h.prior.lines ≡ 32 * h.prior.commit.lines) (image : List ℕ)
    (g : GoesOnFrom h.prior.commit h.prior.lines image) where
  abbrev c : Commit
  c = h.prior.commit

  abbrev w : List ℕ
  w = words_in h.prior.lines

  abbrev more : List ℕ
  more = words_in g.more

  -- the words of the later lines begin with those of the lines before
  all : words_in (h.prior.lines ++ g.more) ≡ w ++ more
  all =
      let both = length-append h.prior.lines g.more in
      let whole = g.size in
      let ends = g.ends in
      words_both (4 * c.lines) (4 * (g.commit.lines - c.lines)) h.prior.lines g.more (omega arith) (omega arith)

  -- what agrees with the commit agrees with the one that goes on from it
  agrees_on : (n : ℕ) (s : Reached) → n ≤ c.count → Agrees c w n s → Agrees g.commit (w ++ more) n s
  agrees_on n s few a =
      agrees_more g.commit w more n s
      (grown_agrees c g.commit c.count g.bits g.ends g.grown (λ m p has. meant_rows g.commit.rows g.is.told.commit.rows) w n s few a)

  -- the image stands for a log whose prior part is the same
  abbrev prior_on : IsPrior image k.number h.end
  prior_on =
      let few = h.prior.few in
      let counts = g.counts in
      record {
        commit = g.commit;
        body = g.body;
        lines = h.prior.lines ++ g.more;
        has = g.has;
        told = g.is.told;
        log = g.log;
        stands = g.is.stands;
        few = omega arith;
        agrees = subst (λ (l : List ℕ). Agrees g.commit l k.number h.end) (sym all) (agrees_on k.number h.end few h.prior.agrees);
      }

  -- a record of the later prior part is one of the part before
  record_before : (n : ℕ) (p : BodyParts) → IsPriorRecord prior_on n p → IsPriorRecord h.prior n p
  record_before n p r =
      let first = agrees_first c w n k.number h.end r.few h.prior.agrees in
      let t : Reached = first.0 in
      let follows : Follows c w t first.2.0 = first.2.1 in
      let rest : List ℕ = drop (4 * t.line) w in
      let few = h.prior.few in
      let less = r.few in
      let same : t ≡ r.at =
      agrees_once g.commit (w ++ more) n t r.at (agrees_on n t (omega arith) first.1)
      (subst (λ (l : List ℕ). Agrees g.commit l n r.at) all r.agrees) in
      let gone = goes c t (region_lines rest) (region rest) first.2.0 follows in
      let some = gone.some in
      let whole = front_whole c t rest first.2.0 follows in
      let left = length-drop (4 * t.line) w in
      let on : drop (4 * t.line) (w ++ more) ≡ rest ++ more = drop-append-le (4 * t.line) w more (omega arith) in
      let lines = same_lines rest more (omega arith) in
      let words = same_region rest more (omega arith) whole in
      let there : IsRecordAt g.commit t (region_lines (drop (4 * t.line) (w ++ more))) (region (drop (4 * t.line) (w ++ more))) p =
      subst (λ (z : Reached). IsRecordAt g.commit z (region_lines (drop (4 * z.line) (w ++ more)))
      (region (drop (4 * z.line) (w ++ more))) p)
      (sym same)
      (subst (λ (l : List ℕ). IsRecordAt g.commit r.at (region_lines (drop (4 * r.at.line) l)) (region (drop (4 * r.at.line) l)) p)
      all r.is) in
      let here : IsRecordAt g.commit t (region_lines rest) (region rest) p =
      subst (λ (l : List ℕ). IsRecordAt g.commit t (region_lines rest) l p) words
      (subst (λ (n : ℕ). IsRecordAt g.commit t n (region (rest ++ more)) p) lines
      (subst (λ (l : List ℕ). IsRecordAt g.commit t (region_lines l) (region l) p) on there)) in
      record { few = less; at = t; agrees = first.1; is = the_record c g.commit t first.2.0 rest p follows here }

  -- each record has a key entry for every value that a row gives which covers it
  covered_on : (n : ℕ) (p : BodyParts) → IsPriorRecord prior_on n p → (id : ℕ) (row : CatRow) (said : Definition)
      → slice_get k.rows.value id ≡ Some row → Covers row n → IsAccepted row.def said
      → values_under id p.keys ≡ evaluation said p.form p.payload
  covered_on n p r = h.covered n p (record_before n p r)

  -- the pages below the base are the same
  page_on : (p : ℕ) → page_words cold.base.line p h.image ≡ page_words cold.base.line p image
  page_on p =
      let before = h.prior.has.counts in
      let after = g.has.counts in
      let from : lines_in_slot c.lines h.image ≡ h.prior.lines =
      ap (λ (n : ℕ). lines_in_slot n h.image) (sym (body_lines c h.prior.body h.prior.told)) ∙ before.lines_are in
      let to : lines_in_slot g.commit.lines image ≡ h.prior.lines ++ g.more =
      ap (λ (n : ℕ). lines_in_slot n image) (sym (body_lines g.commit g.body g.is.told)) ∙ after.lines_are in
      let within = agrees_within c w k.number h.end h.prior.agrees in
      let line = h.line in
      let base = h.base_line in
      same_page h.image image h.prior.lines c.lines cold.base.line p from
      (first_lines image h.prior.lines g.more c.lines g.commit.lines g.ends size to) (omega arith)

  read_page : (p : ℕ) (page : Page) → IsPageIn cold.base.line cold.starts h.image p page
      → IsPageIn cold.base.line cold.starts image p page
  read_page p page is = record { words = is.words ∙ page_on p; regions = is.regions }

  -- each page that is held is what the image has
  read_on : IsReadFrom image cold
  read_on = record {
    cached = λ p page there. read_page p page (h.read.cached p page there);
    older = h.read.older;
    last = λ page is. read_page _ page (h.read.last page is);
  }

  -- so the table is carried by it, with the same prior part
  pub carries_on : (later : Option (List ℕ)) → later ≡ Some image → (t : CarriesTable later k cold) × (t.end ≡ h.end)
  carries_on later is = (
    record {
      image = image;
      is = is;
      end = h.end;
      prior = prior_on;
      line = h.line;
      buckets = h.buckets ∙ ap (λ (b : ℕ). 2 ^ b) g.bits;
      heads = h.heads;
      covered = covered_on;
      base_number = h.base_number;
      base_line = h.base_line;
      starts = h.starts;
      read = read_on;
    },
    refl,
  )

-- the commit of the file is the one of its image
pub stays_carried : StaysCarried
stays_carried k cold content later h c body lines image has told size g is =
    let one = one_commit h.prior.body h.prior.lines body lines h.image h.prior.has has in
    let same : c ≡ h.prior.commit =
    told_once c h.prior.commit h.prior.body (subst (IsBodyOf c) (sym one.0) told) h.prior.told in
    let from : GoesOnFrom h.prior.commit h.prior.lines image =
    subst (λ (z : Commit). GoesOnFrom z h.prior.lines image) same
    (subst (λ (l : List ℕ). GoesOnFrom c l image) (sym one.1) g) in
    let whole : length h.prior.lines ≡ 32 * h.prior.commit.lines =
    subst (λ (z : Commit). length h.prior.lines ≡ 32 * z.lines) same
    (subst (λ (l : List ℕ). length l ≡ 32 * c.lines) (sym one.1) size) in
    carries_on k cold content h whole image from later is

-- an image has one prior part of so many entries
pub one_prior : (image : List ℕ) (n : ℕ) (end other : Reached) → IsPrior image n end → IsPrior image n other → end ≡ other
one_prior image n end other h g =
    let one = one_commit h.body h.lines g.body g.lines image h.has g.has in
    let same : h.commit ≡ g.commit = told_once h.commit g.commit h.body h.told (subst (IsBodyOf g.commit) (sym one.0) g.told) in
    agrees_once h.commit (words_in h.lines) n end other h.agrees
    (subst (λ (z : Commit). Agrees z (words_in h.lines) n other) (sym same)
    (subst (λ (l : List ℕ). Agrees g.commit (words_in l) n other) (sym one.1) g.agrees))
