-- The table that begins after a commit: a checkpoint may follow, and older records are read from the file.
use Rattle.std.proofs.Common.{◌≡◌, ℕ, ◌+◌, ◌^◌, inl, inr, List, [], Bool, false, length, drop, map, refl, ap, sym, subst}
use Rattle.std.proofs.Common.{◌∙◌, arith, slice_get, slice_index}
use mathlib.Core.Option.{some-ne-none}
use Rattle.std.proofs.lemmas.Bool.{cases_lt}
use Rattle.std.proofs.lemmas.List.{drop_all, get_or_past}
use Rattle.std.proofs.lemmas.Option.{same_Some}
use Rattle.std.specs.Prelude.{Ok, Option, Some, None, IfSome}
use Rattle.fish_catalog.specs.Clamps.{clamped}
use Rattle.fish_catalog.specs.Covering.{Covers}
use Rattle.fish_catalog.specs.declared.commit.Commit.{Commit}
use Rattle.fish_catalog.specs.declared.entry.Entry.{Entry}
use Rattle.fish_catalog.specs.declared.row.CatRow.{CatRow}
use Rattle.fish_cold.specs.Carries.{CarriesTable, IsPrior, IsPriorRecord}
use Rattle.fish_flush.proofs.Committed.{agrees_entries}
use Rattle.fish_flush.proofs.Lasting.{grown_clamps}
use Rattle.fish_flush.specs.Carrying.{CarriesLog}
use Rattle.fish_flush.specs.Kept.{IsAtRest, IsCommitted, IsKeptOf}
use Rattle.fish_flush.specs.Rows.{HaveGrown}
use Rattle.fish_flush.specs.declared.flusher.Flusher.{Flusher}
use Rattle.fish_image.proofs.Agreement.{agrees_number}
use Rattle.fish_image.proofs.Newest.{head_lower}
use Rattle.fish_image.specs.Log.{Agrees, values_under}
use Rattle.fish_image.specs.Progress.{AreHeads}
use Rattle.fish_image.specs.Reached.{Reached}
use Rattle.fish_image.specs.Stands.{words_in}
use Rattle.fish_lang.proofs.Outcomes.{outcome-only}
use Rattle.fish_lang.specs.Definition.{Definition}
use Rattle.fish_lang.specs.Language.{IsAccepted}
use Rattle.fish_layout.specs.declared.parts.BodyParts.{BodyParts}
use Rattle.fish_psf.specs.Records.{evaluation}
use Rattle.fish_rule.specs.Logs.{AreKnown}
use Rattle.fish_rule.specs.Parts.{IsOlderPlace}
use Rattle.fish_rule.specs.Start.{table_lines}
use Rattle.fish_rule.specs.Table.{first_view}
use Rattle.fish_rule.specs.declared.table.Shape.{Shape}
use Rattle.fish_rule.specs.declared.view.View.{View}
use Rattle.fish_slots.proofs.Commits.{rests_commit}
use Rattle.fish_recover.specs.Beginning.{BeginsAt, IsFlusherKept}
use Rattle.fish_recover.proofs.Keepings.{kept_committed, whole_lines}
use Rattle.fish_recover.specs.Opening.{IsFoundRead}
use Rattle.fish_recover.specs.Stores.{IsBegunStore}
use Rattle.fish_recover.specs.within.Stores.{Resumes}
use Rattle.fish_recover.specs.declared.finding.Found.{Found}
use Rattle.fish_recover.specs.declared.opened.Opened.{Opened}

-- a text means one definition
means_once : (text : List ℕ) (d e : Definition) → IsAccepted text d → IsAccepted text e → d ≡ e
means_once text d e p q = (let same = sym (outcome-only text (Ok d) p) ∙ outcome-only text (Ok e) q in cc)

-- nothing is told of no entries
none_told : (v : View) (n : ℕ) (log : List Entry) → length log ≡ n → AreKnown v n (drop n log)
none_told v n log size =
    let none : drop n log ≡ [] = drop_all n log (omega arith) in
    subst (AreKnown v n) (sym none) (λ i e there. absurd (some-ne-none e (sym there)))

-- the heads of a commit are those of its records
older_heads : (c : Commit) (w : List ℕ) (end : Reached) (heads : List ℕ) → Agrees c w c.count end → end.line ≡ c.lines
    → AreHeads (2 ^ c.bucket_bits) end.places heads → (b : ℕ) → IsOlderPlace c.lines (slice_index heads b)
older_heads c w end heads agrees line h b some =
    elim (cases_lt b (2 ^ c.bucket_bits)) [
      | inl less ↦
          let is = h.each b less in
          let lower = head_lower c w c.count end agrees b (λ none. some (is ∙ none)) in
          omega arith
      | inr more ↦ (let size = h.size in absurd (some (get_or_past heads b 0 (omega arith))))
    ]

-- what is kept of a commit is within the limits of its table
pub committed_kept : (f : Flusher) (c : Commit) (b w : List ℕ) (log : List Entry) (s : Shape) → IsCommitted f c b w log
    → c.bucket_bits ≡ s.bucket_bits → IsFlusherKept s f
committed_kept f c b w log s h bits =
    let within = h.is.told.commit.within in
    let number = within.count in
    let lines = within.lines in
    let count = h.count in
    let line = h.line in
    record {
      number = omega arith;
      line = omega arith;
      heads = h.heads.size ∙ ap (λ (n : ℕ). 2 ^ n) bits;
      older = λ n. subst (λ (l : ℕ). IsOlderPlace l (slice_index f.heads.items n)) h.line
          (older_heads c (words_in w) h.is.stands.end f.heads.items h.is.stands.agrees h.is.stands.lines h.heads n);
    }

-- and so it is of what was found
pub read_kept : (f : Found) (g : Flusher) (s : Shape) → IsFoundRead f → IsKeptOf f.slot f.commit f.checked.heads f.checked.starts g
    → f.commit.bucket_bits ≡ s.bucket_bits → IsFlusherKept s g
read_kept f g s read kept bits =
    let l = read.lines in
    let size = whole_lines f.commit l.lines f.commit.count l.held.end l.held.agrees l.held.lines l.size in
    committed_kept g f.commit read.slot.body l.lines l.held.end.entries s
    (kept_committed f read.slot.body l.lines read.slot.told l.held g size kept) bits

-- its table begins where the commit's lines end
pub resumed_line : (f : Found) (o : Opened) → Resumes f o → o.log.key.line ≡ f.commit.lines
resumed_line f o h = h.begins.opens.key.line ∙ h.begins.after.base.line ∙ h.kept.line

module _ (images : List ℕ → Type 0) (f : Flusher) (c : Commit) (log : List Entry) (rest : IsAtRest images f c log) (s : Shape)
    (bits : c.bucket_bits ≡ s.bucket_bits) (rows : List CatRow) (went : HaveGrown c.count c.rows rows) (at : ℕ) (made : Bool) (o : Opened)
    (h : BeginsAt f s rows at made o) where
  at_count : o.log.key.number ≡ c.count
  at_count = h.opens.key.number ∙ h.after.base.number ∙ sym rest.committed.count

  at_line : o.log.key.line ≡ c.lines
  at_line = h.opens.key.line ∙ h.after.base.line ∙ sym rest.committed.line

  rows_are : o.log.key.rows.value ≡ o.catalog
  rows_are = h.opens.key.rows ∙ sym h.opens.catalog

  cut : o.catalog ≡ map (clamped c.count) rows
  cut = h.opens.catalog ∙ h.after.catalog ∙ ap (λ (n : ℕ). map (clamped n) rows) (sym rest.committed.count)

  -- the rows went on
  grown : HaveGrown c.count c.rows o.catalog
  grown = subst (HaveGrown c.count c.rows) (sym cut)
      (grown_clamps c.count c.count c.rows rows went (omega arith))

  -- a checkpoint may follow
  first_carried : c.pages ≡ s.pages → CarriesLog images o.flusher (first_view o.log.key) o.log.shape o.catalog c log
  first_carried pages =
      let kept = h.opens.flusher in
      let count = ap (λ (z : Flusher). z.count) kept ∙ sym rest.committed.count in
      let line = ap (λ (z : Flusher). z.line) kept ∙ sym rest.committed.line in
      let number = at_count in
      let size = agrees_entries c (words_in rest.lines) c.count rest.committed.is.stands.end rest.committed.is.stands.agrees in
      let all = ap (λ (l : List Entry). length l) rest.committed.is.stands.entries in
      record {
        rest = subst (λ (z : Flusher). IsAtRest images z c log) (sym kept) rest;
        pages = pages ∙ ap (λ (z : Shape). z.pages) (sym h.opens.shape);
        bits = bits ∙ ap (λ (z : Shape). z.bucket_bits) (sym h.opens.shape);
        grown = grown;
        from = omega arith;
        settled = omega arith;
        line = inl (count ∙ sym at_count, line ∙ sym at_line);
        told = none_told (first_view o.log.key) o.log.key.number log (omega arith);
      }

  -- the older records are those below the base
  below_number : o.cold.base.number ≡ o.log.key.number
  below_number = h.opens.cold.base.number ∙ sym h.after.base.number ∙ sym h.opens.key.number

  below_line : o.cold.base.line ≡ o.log.key.line
  below_line = h.opens.cold.base.line ∙ sym h.after.base.line ∙ sym h.opens.key.line

  module _ (i : List ℕ) (here : images i) where
    abbrev end : Reached
    end = rest.committed.is.stands.end

    -- the image stands for the log, up to the base
    abbrev prior : IsPrior i o.log.key.number end
    prior = record {
      commit = c;
      body = rest.body;
      lines = rest.lines;
      has = rests_commit f.slot rest.body rest.lines i rest.slot_is (rest.rests i here);
      told = rest.committed.is.told;
      log = log;
      stands = rest.committed.is.stands;
      few = (let count = at_count in omega arith);
      agrees = subst (λ (n : ℕ). Agrees c (words_in rest.lines) n end) (sym at_count) rest.committed.is.stands.agrees;
    }

    -- each record has a key entry for every value that a row gives which covers it
    covered : (n : ℕ) (p : BodyParts) → IsPriorRecord prior n p → (id : ℕ) (row : CatRow) (said : Definition)
        → slice_get o.log.key.rows.value id ≡ Some row → Covers row n → IsAccepted row.def said
        → values_under id p.keys ≡ evaluation said p.form p.payload
    covered n p at id row said there covers read =
        let count = at_count in
        let few = at.few in
        let held : slice_get o.catalog id ≡ Some row = ap (λ (z : List CatRow). slice_get z id) (sym rows_are) ∙ there in
        let was = grown.covers id n row held (omega arith) covers in
        let text = grown.texts id was.0 was.1 in
        let same : text.0 ≡ row = same_Some text.0 row (sym text.1 ∙ held) in
        let values = at.is.kept.keys.values id was.0 was.1 in
        let number : at.at.number ≡ n = agrees_number c (words_in rest.lines) n at.at at.agrees in
        let once : values.said ≡ said = means_once row.def values.said said
        (subst (λ (z : List ℕ). IsAccepted z values.said) (sym text.2 ∙ ap (λ (z : CatRow). z.def) same) values.read) read in
        values.all (subst (Covers was.0) (sym number) was.2)
        ∙ ap (λ (z : Definition). evaluation z p.form p.payload) once

    -- the file carries the table
    table_carried : (content : Option (List ℕ)) → content ≡ Some i → CarriesTable content o.log.key o.cold
    table_carried content is = record {
      image = i;
      is = is;
      end = end;
      prior = prior;
      line = rest.committed.is.stands.lines ∙ sym at_line;
      buckets = h.opens.key.buckets ∙ ap (λ (n : ℕ). 2 ^ n) (sym bits);
      heads = λ b less.
          ap (λ (l : List ℕ). slice_index l b) (h.opens.key.heads ∙ h.after.heads)
          ∙ rest.committed.heads.each b (let many = h.opens.key.buckets ∙ ap (λ (n : ℕ). 2 ^ n) (sym bits) in omega arith);
      covered = covered;
      base_number = below_number;
      base_line = below_line;
      starts = h.opens.cold.starts ∙ sym rest.committed.starts;
      read = h.opens.cold.none i;
    }

  -- what is below the base is in the file
  told_carried : (content : Option (List ℕ)) → ((i : List ℕ) → content ≡ Some i → images i)
      → IfSome content (λ _. CarriesTable content o.log.key o.cold)
  told_carried None read = tt
  told_carried (Some i) read = table_carried i (read i refl) (Some i) refl

  -- so the table has begun after the commit
  pub begun_open : (content : Option (List ℕ)) → ((i : List ℕ) → content ≡ Some i → images i) → c.pages ≡ s.pages
      → f.shut ≡ false → IsBegunStore at rows content images c log o
  begun_open content read pages live = record {
    pass = h.opens.pass;
    first = h.opens.view_is;
    number = at_count;
    line = at_line;
    version = h.opens.key.version ∙ h.after.version;
    rows = rows_are;
    catalog = cut;
    count = h.opens.count ∙ sym rest.committed.count;
    live = ap (λ (z : Flusher). z.shut) h.opens.flusher ∙ live;
    carries = subst (λ (v : View). CarriesLog images o.flusher v o.log.shape o.catalog c log) (sym h.opens.view_is) (first_carried pages);
    end =
        let at = h.after.base.line ∙ sym rest.committed.line in
        let count = h.after.base.number ∙ sym rest.committed.count in
        h.opens.key.end ∙ (λ i. at i + table_lines (sym pages i) (count i) (at i));
    buckets = h.opens.key.buckets ∙ ap (λ (n : ℕ). 2 ^ n) (sym bits);
    below_number = below_number;
    below_line = below_line;
    cold = told_carried content read;
  }
