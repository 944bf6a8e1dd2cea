-- A draft is a commit of all that the last one has, and of what was copied.
use Rattle.std.proofs.Common.{◌≡◌, ℕ, suc, ◌+◌, ◌-◌, ◌*◌, ◌/◌, ◌%◌, ◌<◌, ◌≤◌, ◌^◌, ◌⊎◌, inl, inr, ◌++◌, List}
use Rattle.std.proofs.Common.{refl, sym, ap, ◌∙◌, subst, arith, length, length-append}
use Rattle.std.proofs.Common.{All, Some, None, Option, slice_get}
use Rattle.std.proofs.lemmas.Option.{get_or_from_slice_get, slice_get_within}
use Rattle.fish_catalog.proofs.Texts.{canonical_read}
use Rattle.fish_catalog.specs.Rows.{IsCatalog, IsRow}
use Rattle.fish_catalog.specs.declared.commit.Commit.{Commit}
use Rattle.fish_catalog.specs.declared.entry.Entry.{Entry}
use Rattle.fish_catalog.specs.declared.row.CatRow.{CatRow}
use Rattle.fish_catalog.specs.Words.{bound_word}
use Rattle.fish_catalog.specs.declared.page_start.PageStart.{PageStart}
use Rattle.fish_flush.specs.within.Carrying.{Drafts, IsDrafted, MayDraft, flusher_after}
use Rattle.fish_flush.specs.within.Filling.{HasCopied, IsBatchReady}
use Rattle.fish_flush.specs.Kept.{IsCommitted, commit_of}
use Rattle.fish_flush.specs.declared.batch.Batch.{Batch}
use Rattle.fish_flush.specs.declared.drafting.Draft.{Draft}
use Rattle.fish_rule.specs.Logs.{Extends}
use Rattle.fish_flush.specs.Reading.{IsLineAt}
use Rattle.fish_flush.specs.within.Reading.{IsReadTo}
use Rattle.fish_flush.specs.Rows.{HaveGrown, HoldsRows}
use Rattle.fish_flush.specs.declared.flusher.Flusher.{Flusher}
use Rattle.fish_flush.proofs.Growing.{grown_agrees}
use Rattle.fish_flush.proofs.RegionSteps.{line_inside, line_later, line_start}
use Rattle.fish_flush.proofs.TableKeys.{begin_word, end_word, few_rows}
use Rattle.fish_flush.proofs.Words.{words_both}
use Rattle.fish_image.proofs.ByteWords.{length-words_of}
use Rattle.fish_image.specs.Commits.{HasBoundaries, IsBoundary, IsWithin}
use Rattle.fish_image.specs.Log.{Agrees}
use Rattle.fish_image.specs.Progress.{AreHeads}
use Rattle.fish_image.specs.Reading.{IsBodyOf}
use Rattle.fish_image.specs.Stands.{words_in}
use Rattle.fish_flush.proofs.RuleFacts.{few_numbers, starts_above}
use Rattle.fish_lang.specs.Definition.{Definition}
use Rattle.fish_lang.specs.Language.{IsAccepted}
use Rattle.fish_rule.specs.Start.{IsShape}
use Rattle.fish_rule.specs.Table.{IsOfMoment}
use Rattle.fish_rule.specs.declared.table.Shape.{Shape}
use Rattle.fish_rule.specs.declared.view.View.{View}

-- the text of each row of a catalogue is a definition
meant_rows : (rows : List CatRow) → IsCatalog rows → (id : ℕ) (row : CatRow) → slice_get rows id ≡ Some row
    → (said : Definition) × IsAccepted row.def said
meant_rows rows catalog id row there =
    let is = get_or_from_slice_get rows id row row there in
    let of = subst IsRow is (catalog.each id row (slice_get_within rows id row there)) in
    (of.text.said, canonical_read row.def of.text)

-- the last commit was read so far, by the rows as they are
pub commits_read : (f : Flusher) (c d : Commit) (body lines : List ℕ) (old : List Entry) → IsCommitted f c body lines old
    → c.bucket_bits ≡ d.bucket_bits → HaveGrown c.count c.rows d.rows → IsCatalog d.rows
    → IsReadTo d (words_in lines) old f.count f.line f.heads.items f.page f.starts.items
commits_read f c d body lines old h bits grown catalog =
    let stands = h.is.stands in
    let at : Commit = record d { lines = f.line } in
    let line = h.line in
    let size = h.size in
    record {
      end = stands.end;
      agrees = subst (λ (k : ℕ). Agrees at (words_in lines) k stands.end) h.count
          (grown_agrees c at c.count bits (omega arith) grown (λ m p has. meant_rows d.rows catalog) (words_in lines) c.count
          stands.end (omega arith) stands.agrees);
      line_is = stands.lines ∙ line;
      entries = stands.entries;
      heads_are = subst (λ (b : ℕ). AreHeads (2 ^ b) stands.end.places f.heads.items) bits h.heads;
      page_is = h.page;
      starts_are = h.starts;
      size = length-words_of (length lines / 8) lines ∙ omega arith;
    }

-- and what was copied after it makes it a commit of more
pub commits_more : (f g : Flusher) (c d : Commit) (body lines body' lines' more_words : List ℕ) (old more : List Entry)
    → IsCommitted f c body lines old → IsBodyOf d body' → words_in lines' ≡ more_words → f.line ≤ d.lines
    → length lines' ≡ 32 * (d.lines - f.line) → d.turn ≡ g.turn → d.count ≡ g.count → d.lines ≡ g.line
    → IsReadTo d (words_in lines ++ more_words) (old ++ more) d.count d.lines g.heads.items g.page g.starts.items
    → IsCommitted g d body' (lines ++ lines') (old ++ more)
commits_more f g c d body lines body' lines' more_words old more h told words upto size' turn count line read =
    let size = h.size in
    let at = h.line in
    let both = length-append lines lines' in
    let all : words_in (lines ++ lines') ≡ words_in lines ++ more_words =
    words_both (4 * f.line) (4 * (d.lines - f.line)) lines lines' (omega arith) (omega arith)
    ∙ ap (λ (l : List ℕ). words_in lines ++ l) words in
    record {
      is = record {
        told = told;
        stands = record {
          end = read.end;
          agrees = subst (λ (l : List ℕ). Agrees d l d.count read.end) (sym all) read.agrees;
          lines = read.line_is;
          entries = read.entries;
        };
      };
      size = omega arith;
      turn = turn;
      count = count;
      line = line;
      heads = read.heads_are;
      page = read.page_is;
      starts = read.starts_are;
    }

-- a boundary is a number
boundary : (o : Option ℕ) → ((n : ℕ) → o ≡ Some n → n < 268435456) → IsBoundary o
boundary None h = tt
boundary (Some n) h = (let less = h n refl in omega arith)

-- the numbers of a commit are within their limits
pub within_limits : (v : View) (s : IsOfMoment v) (shape : Shape) (rows : List CatRow) (c : Commit) → IsShape shape → HoldsRows v rows
    → c.turn < 3 → c.pages ≡ shape.pages → c.bucket_bits ≡ shape.bucket_bits → c.rows ≡ rows → v.about.number ≤ c.count
    → c.count ≤ v.learned.settled → IsLineAt v c.count c.lines → IsWithin c
within_limits v s shape rows c is holds turn pages bits rows_are above settled line =
    let some_pages = is.some_pages in
    let few_pages = is.few_pages in
    let some_bits = is.some_bits in
    let few_bits = is.few_bits in
    let inside = line_inside v c.count c.lines s settled line in
    let floor = s.rule.floors s.seat v s.at in
    let within = s.rule.settling.within in
    let low = s.rule.key_fits.low_end in
    record {
      turn = turn;
      some_pages = omega arith;
      few_pages = omega arith;
      some_bits = omega arith;
      few_bits = omega arith;
      count =
          let number = line_start v c.count c.lines s line in
          let up = starts_above v.about s.moment.count s.moment.line s.rule.start s.rule.space.regions c.count above (omega arith) in
          let few = s.rule.key_fits.few_numbers in
          omega arith;
      lines = omega arith;
      boundaries = subst (All HasBoundaries) (sym rows_are) (λ i d less. bounds_at i d less);
    }
  where
    numbers : s.moment.count < 268435456
    numbers = few_numbers v.about s.moment s.rule

    bounds_of : (id : ℕ) (row : CatRow) → slice_get rows id ≡ Some row → HasBoundaries row
    bounds_of id row there =
        let few = few_rows s.moment s.rule s.seat s.at rows holds id row there in
        let less = numbers in (
          boundary row.from (λ n e. (let c_ = s.rule.registry.boundaries.claimed id 0 n few (omega arith)
              (begin_word s.moment s.rule s.seat s.at rows holds id row there ∙ ap bound_word e) in omega arith)),
          boundary row.to (λ n e. (let c_ = s.rule.registry.boundaries.claimed id 1 n few (omega arith)
              (end_word s.moment s.rule s.seat s.at rows holds id row there ∙ ap bound_word e) in omega arith)),
        )

    bounds_at : (i : ℕ) (d : CatRow) → i < length rows → HasBoundaries (Rattle.std.proofs.Common.get_or rows i d)
    bounds_at i d less =
        let t = Rattle.fish_image.proofs.Spelling.parted rows i less in
        subst HasBoundaries (sym (get_or_from_slice_get rows i t.0 d t.1)) (bounds_of i t.0 t.1)

-- ---- the draft with its lines

-- its batch is ready
pub drafted_ready : (v : View) (end : ℕ) (s : Shape) (f : Flusher) (rows : List CatRow) (to : ℕ) (d : Draft) → MayDraft v s f rows to
    → Drafts v end s f rows to d → IsBatchReady v f.count to d.batch
drafted_ready v end s f rows to d may drafts =
    let begins = drafts.begins in
    let some_ = may.some in
    let heads : length d.batch.heads.items ≡ length f.heads.items = ap length begins.heads in
    record {
      line = subst (IsLineAt v f.count) (sym begins.line) may.line;
      end_is = subst (IsLineAt v to) (sym begins.end_is) drafts.line;
      none = begins.none;
      some = omega arith;
      room = begins.room;
    }

-- it goes on from the last one, in a view that knows more
module _ (m u : View) (end : ℕ) (s : Shape) (f : Flusher) (rows : List CatRow) (to : ℕ) (d : Draft) (b : Batch) (lines : List ℕ)
    (may : MayDraft m s f rows to) (drafts : Drafts m end s f rows to d) (on : Extends m u) (stands : IsOfMoment u)
    (copied : HasCopied m u f.count to d.batch b lines) where
  -- the lines end where the draft's do
  drafted_line : b.line ≡ d.line
  drafted_line =
      sym (line_start u to b.line stands copied.line) ∙ line_start u to d.line stands (line_later m u to d.line on.learns drafts.line)

  -- so it is a commit with them
  pub drafted : IsDrafted u s f rows to (record d { batch = b }) lines
  drafted =
      let begins = drafts.begins in
      let line = begins.line in
      let size = copied.size in
      let same = drafted_line in
      let whole : length lines ≡ 32 * (d.line - f.line) = omega arith in
      let g : Flusher = flusher_after f (record d { batch = b }) in
      let next : Commit = commit_of g s rows in
      record {
        told = drafts.told;
        turn = drafts.turn;
        count = drafts.count;
        line = line_later m u to d.line on.learns drafts.line;
        ordered = drafts.within.0;
        size = whole;
        read = λ c body before old committed bits grown.
            let was = commits_read f c next body before old committed bits grown drafts.told.commit.rows in
            let r = copied.read next (words_in before) old may.rows_are
            (subst (λ (z : ℕ × List ℕ × ℕ × List PageStart). IsReadTo next (words_in before) old f.count z.0 z.1 z.2 z.3)
            (λ i. (sym begins.line i, sym begins.heads i, sym begins.page i, sym begins.starts i)) was) in (
              r.0,
              r.1,
              r.2,
              commits_more f g c next body before d.body lines (words_in lines) old r.0 committed drafts.told refl drafts.within.0
                  whole refl refl refl
                  (subst (λ (z : ℕ × ℕ). IsReadTo next (words_in before ++ words_in lines) (old ++ r.0) z.0 z.1 b.heads.items b.page
                  b.starts.items) (λ i. (sym drafts.count i, same i)) r.3),
            );
      }
