-- One region more was copied.
use Rattle.std.proofs.Common.{◌≡◌, ◌≢◌, ℕ, zero, suc, ◌+◌, ◌*◌, ◌<◌, ◌≤◌, ◌^◌, inl, inr, List}
use Rattle.std.proofs.Common.{[], ◌∷◌, ◌++◌, length, get_or, drop}
use Rattle.std.proofs.Common.{refl, ap, sym, ◌∙◌, subst, arith, length-append}
use Rattle.std.proofs.Math.Seq.{drop-append_seam}
use Rattle.std.proofs.lemmas.List.{take_all}
use Rattle.fish_catalog.specs.declared.commit.Commit.{Commit}
use Rattle.fish_catalog.specs.declared.entry.Entry.{Entry}
use Rattle.fish_catalog.specs.declared.page_start.PageStart.{PageStart}
use Rattle.fish_flush.specs.within.Linking.{AreSpelled}
use Rattle.fish_flush.specs.Reading.{IsLineAt}
use Rattle.fish_flush.specs.within.Reading.{IsLooked, IsReadTo}
use Rattle.fish_catalog.specs.PageStarts.{starts_after}
use Rattle.fish_flush.specs.Rows.{HoldsRows}
use Rattle.fish_flush.proofs.Growing.{grown_agrees, grown_self, meant_self}
use Rattle.fish_flush.proofs.TableRegions.{IsNextRegion, record_next, record_words, some_lines}
use Rattle.fish_flush.proofs.TableRegions.{void_keys, void_next}
use Rattle.fish_image.proofs.Agreement.{agrees_more, agrees_number}
use Rattle.fish_image.specs.Log.{Agrees, Follows, FollowsAt, FollowsIn, region, region_lines}
use Rattle.fish_image.specs.Progress.{AreHeads}
use Rattle.fish_image.specs.Reached.{Reached}
use Rattle.fish_layout.specs.Pages.{page_of}
use Rattle.fish_layout.proofs.Outlines.{body_room}
use Rattle.fish_layout.proofs.Spelled.{body_says}
use Rattle.fish_layout.specs.Header.{keys_of}
use Rattle.fish_rule.proofs.laws.Regions.{kind-inside, region_found}
use Rattle.fish_rule.proofs.laws.Lists.{all_among}
use Rattle.fish_rule.specs.Regions.{code}
use Rattle.fish_rule.proofs.laws.Alone.{seen_here}
use Rattle.fish_rule.specs.Facts.{IsFound}
use Rattle.fish_rule.specs.LoadSteps.{after_look_at, kind_told}
use Rattle.fish_rule.specs.Logs.{HasWords, Learns, KnowsAs}
use Rattle.fish_rule.specs.Table.{Sees, IsOfMoment}
use Rattle.fish_rule.specs.Views.{Among}
use Rattle.fish_rule.specs.World.{high, low}
use Rattle.fish_rule.specs.declared.view.Found.{Found}
use Rattle.fish_rule.specs.declared.view.Key.{Key}
use Rattle.fish_rule.specs.declared.view.Kind.{Kind}
use Rattle.fish_rule.specs.declared.view.Kind.TheVariants.{Mark, Stored, Void}
use Rattle.fish_rule.specs.declared.view.View.{View}
use Rattle.fish_walk.proofs.Records.{settled_seen}
use Rattle.fish_walk.specs.Looks.{IsEntryLook, look_of_word}
use Rattle.fish_walk.specs.declared.outcome.Look.TheVariants as found

-- ---- looks

-- a word that tells of an entry isn't 0, and its kind is no mark
entry_word : (word : ℕ) → IsEntryLook (look_of_word word) → (word ≢ 0) × (kind_told (high word) ≢ Mark)
entry_word zero (inl e) = absurd (cc)
entry_word zero (inr e) = absurd (cc)
entry_word (suc x) h = ((λ e. omega arith), by (kind_told (high (suc x))) h)
  where
    by : (k : Kind) → IsEntryLook (Rattle.fish_walk.specs.Looks.look_of_kind k) → k ≢ Mark
    by Stored h e = (let g : Stored ≡ Mark = e in cc)
    by Void h e = (let g : Void ≡ Mark = e in cc)
    by Mark (inl q) e = (let g : found.Overflow ≡ found.Stored = q in cc)
    by Mark (inr q) e = (let g : found.Overflow ≡ found.Void = q in cc)

-- a look at a settled number finds its region
pub looked : (v u : View) (n lines word line : ℕ) → v.about.number ≤ n → n < v.learned.settled → Sees v n word
    → u ≡ after_look_at v n lines word → line ≡ low word → (f : Found) × IsLooked u n line f
looked v u n lines word line above settled sees is low_is =
    let e = entry_word word (settled_seen v n word above settled sees) in (
      record { number = n; kind = kind_told (high word); line = low word; lines = lines },
      record { number = refl; line_is = sym low_is; plain = e.1; among = seen_here v u n lines word is e.0 },
    )

-- the same of a table with this key
pub looked_in : (k : Key) (v u : View) (m n lines word line : ℕ) → v.about ≡ k → k.number ≤ n → n < v.learned.settled → m ≡ n
    → Sees v m word → u ≡ after_look_at v m lines word → line ≡ low word → (f : Found) × IsLooked u n line f
looked_in k v u m n lines word line about above settled same sees is low_is =
    let number = ap (λ (z : Key). z.number) about in
    looked v u n lines word line (omega arith) settled (subst (λ (z : ℕ). Sees v z word) same sees)
    (subst (λ (z : ℕ). u ≡ after_look_at v z lines word) same is) low_is

-- the control pass holds its rows as it reads on
pub holds_later : (v u : View) (rows : List Rattle.fish_catalog.specs.declared.row.CatRow.CatRow) → u.lane ≡ v.lane → u.rows ≡ v.rows
    → u.control_words ≡ v.control_words → HoldsRows v rows → HoldsRows u rows
holds_later v u rows lane listed words h = record {
  control = lane ∙ h.control;
  listed = h.listed ∙ sym listed;
  from = λ id row there. ap (λ z. Rattle.fish_rule.specs.Registry.control_word z (Rattle.fish_rule.specs.Registry.row_at id 0)) words
      ∙ h.from id row there;
  to = λ id row there. ap (λ z. Rattle.fish_rule.specs.Registry.control_word z (Rattle.fish_rule.specs.Registry.row_at id 1)) words
      ∙ h.to id row there;
}

-- ---- lines

-- where a region begins is known as well by whoever knows more
pub line_later : (v u : View) (n line : ℕ) → Learns v u → IsLineAt v n line → IsLineAt u n line
line_later v u n line learns (inl h) =
    inl (h.0 ∙ ap (λ (k : Key). k.number) (sym learns.about), h.1 ∙ ap (λ (k : Key). k.line) (sym learns.about))
line_later v u n line learns (inr h) = inr (h.0, learns.found h.0 h.1, h.2, h.3)

-- and it is where the region was found
pub line_same : (v : View) (f : Found) (line : ℕ) → IsOfMoment v → Among f v.learned.found → IsLineAt v f.number line → f.line ≡ line
line_same v f line s among (inl h) =
    let one = all_among (IsFound v.about s.moment.count s.moment.dir s.rule.start) f v.learned.found
    (s.rule.facts s.seat v s.at).found among in
    sym one.line ∙ ap s.rule.start h.0 ∙ s.rule.space.regions.first ∙ sym h.1
line_same v f line s among (inr h) =
    let facts = s.rule.facts s.seat v s.at in
    let one = all_among (IsFound v.about s.moment.count s.moment.dir s.rule.start) f v.learned.found facts.found among in
    let other = all_among (IsFound v.about s.moment.count s.moment.dir s.rule.start) h.0 v.learned.found facts.found h.1 in
    sym one.line ∙ ap s.rule.start (sym h.2) ∙ other.lines ∙ h.3

-- a region begins at the line where it is known to
pub line_start : (v : View) (n line : ℕ) (s : IsOfMoment v) → IsLineAt v n line → s.rule.start n ≡ line
line_start v n line s (inl h) = ap s.rule.start h.0 ∙ s.rule.space.regions.first ∙ sym h.1
line_start v n line s (inr h) =
    let one = all_among (IsFound v.about s.moment.count s.moment.dir s.rule.start) h.0 v.learned.found
    (s.rule.facts s.seat v s.at).found h.1 in
    ap s.rule.start (sym h.2) ∙ one.lines ∙ h.3

-- a settled region begins within the table
pub line_inside : (v : View) (n line : ℕ) → IsOfMoment v → n ≤ v.learned.settled → IsLineAt v n line → line ≤ v.about.end
line_inside v n line s settled (inl h) = (let some_ = s.rule.key_fits.some_lines in let is = h.1 in omega arith)
line_inside v n line s settled (inr h) =
    let g : Found = h.0 in
    let one = all_among (IsFound v.about s.moment.count s.moment.dir s.rule.start) g v.learned.found
    (s.rule.facts s.seat v s.at).found h.1 in
    let floor = s.rule.floors s.seat v s.at in
    let number = h.2 in
    let entry_ = s.rule.settling.below g.number one.above (omega arith) in
    let t = region_found s.rule g one in
    let inside = kind-inside v.about.end (s.rule.start g.number) (s.rule.start (suc g.number))
    (λ m. entry_.unmarked (one.kind ∙ ap code (sym t.1 ∙ m))) in
    let lines = one.lines in
    let is = h.3 in
    omega arith

-- ---- words

-- the words of a region have room for its key entries
pub entries_room : (v : View) (f : Found) (words : List ℕ) → IsOfMoment v → Among f v.learned.found → f.kind ≢ Mark → HasWords v f words
    → 3 * keys_of (get_or words 0 0) < length words
entries_room v f words s among plain has = by f.kind refl
  where
    by : (k : Kind) → f.kind ≡ k → 3 * keys_of (get_or words 0 0) < length words
    by Stored is =
        let q = record_of is in
        let keys = (body_says q.1).keys in
        let room = body_room q.1 in
        omega arith
      where
        record_of : f.kind ≡ Stored → (q : Rattle.fish_layout.specs.declared.parts.BodyParts.BodyParts)
            × Rattle.fish_layout.specs.Body.IsBody q words
        record_of e = Rattle.fish_rule.proofs.laws.Entries.found_body v f words s among e has
    by Void is =
        let none = void_keys s.moment s.rule s.seat s.at f among words has is in
        let full = has.full in
        let some_ = (some_lines s.moment s.rule s.seat s.at f among words has).0 in
        omega arith
    by Mark is = absurd (plain is)

-- a region that follows is the first of its page, or not, by the page and the line alone
pub next_page : (c : Commit) (s : Reached) (lines : ℕ) (r : List ℕ) (t : Reached) → FollowsIn c s lines r t → t.page ≡ page_of s.line + 1
next_page c s lines r t (inl v) = ap (λ (z : Reached). z.page) v.1
next_page c s lines r t (inr v) = ap (λ (z : Reached). z.page) v.2

pub next_starts : (c : Commit) (s : Reached) (lines : ℕ) (r : List ℕ) (t : Reached) → FollowsIn c s lines r t
    → t.starts ≡ starts_after s.page s.number s.line s.starts
next_starts c s lines r t (inl v) = ap (λ (z : Reached). z.starts) v.1
next_starts c s lines r t (inr v) = ap (λ (z : Reached). z.starts) v.2

module _ (v : View) (s : IsOfMoment v) (f : Found) (among : Among f v.learned.found) (plain : f.kind ≢ Mark) (words : List ℕ)
    (has : HasWords v f words) (heads heads' out : List ℕ) (spelled : AreSpelled f.line words heads heads' out) where
  -- the region follows an image that has all before it
  next_region : (c : Commit) (at : Reached) → HoldsRows v c.rows → 2 ^ c.bucket_bits ≡ length heads → at.number ≡ f.number
      → at.line ≡ f.line → f.line + f.lines ≤ c.lines → AreHeads (length heads) at.places heads
      → IsNextRegion c at v f.number f.lines out heads heads'
  next_region c at holds buckets number line within are = by f.kind refl
    where
      by : (k : Kind) → f.kind ≡ k → IsNextRegion c at v f.number f.lines out heads heads'
      by Stored is =
          let q = record_words s.moment s.rule s.seat s.at f among words has is c.rows holds in
          record_next s.moment s.rule s.seat s.at f among words has is c.rows holds c at heads heads' out refl
          buckets number line within (spelled.linked q.0 at.places q.1 are)
      by Void is =
          let none = spelled.none (void_keys s.moment s.rule s.seat s.at f among words has is) in
          subst (λ (z : List ℕ × List ℕ). IsNextRegion c at v f.number f.lines z.0 heads z.1) (λ i. (sym none.0 i, sym none.1 i))
          (void_next s.moment s.rule s.seat s.at f among words has is c at heads number line within are)
      by Mark is = absurd (plain is)

  -- so one entry more was read
  pub read_more : (c : Commit) (w : List ℕ) (old : List Entry) (n line page : ℕ) (starts : List PageStart) → HoldsRows v c.rows
      → f.number ≡ n → f.line ≡ line → IsReadTo c w old n line heads page starts
      → (e : Entry) × KnowsAs v n e × IsReadTo c (w ++ out) (old ++ e ∷ []) (n + 1) (line + f.lines) heads' (page_of line + 1)
      (starts_after page n line starts)
  read_more c w old n line page starts holds number line_is read =
      let at : Reached = read.end in
      let to : ℕ = line + f.lines in
      let d : Commit = record c { lines = to } in
      let from : Commit = record c { lines = line } in
      let come = agrees_number from w n at read.agrees in
      let t = next_region d at holds (sym read.heads_are.size) (come ∙ sym number) (read.line_is ∙ sym line_is) (omega arith)
      (subst (λ (b : ℕ). AreHeads b at.places heads) (sym read.heads_are.size) read.heads_are) in
      let before : Agrees d (w ++ out) n at = agrees_more d w out n at
      (grown_agrees from d n refl (omega arith) (grown_self n c.rows) (meant_self c.rows) w n at (omega arith) read.agrees) in
      let size = read.size in
      let at_line = read.line_is in
      let seam : drop (4 * at.line) (w ++ out) ≡ out =
      ap (λ (m : ℕ). drop m (w ++ out)) (omega arith) ∙ drop-append_seam w out in
      let lines : region_lines out ≡ f.lines = t.header in
      let whole : region out ≡ out = take_all (4 * region_lines out) out (omega (arith, t.size, lines)) in
      let follows : Follows d (w ++ out) at t.t =
      subst (λ (l : List ℕ). FollowsAt d at l t.t) (sym seam)
      (subst (λ (z : ℕ × List ℕ). FollowsIn d at z.0 z.1 t.t) (λ i. (sym lines i, sym whole i)) t.follows) in
      let grown : Agrees d (w ++ out) (suc n) t.t = (at, before, follows) in
      let up : suc n ≡ n + 1 = omega arith in (
        t.e,
        subst (λ (z : ℕ). KnowsAs v z t.e) number t.told,
        record {
          end = t.t;
          agrees = subst (λ (z : ℕ). Agrees d (w ++ out) z t.t) up grown;
          line_is = t.line ∙ ap (λ (z : ℕ). z + f.lines) read.line_is;
          entries = t.entries ∙ ap (λ (l : List Entry). l ++ t.e ∷ []) read.entries;
          heads_are = subst (λ (b : ℕ). AreHeads b t.t.places heads') read.heads_are.size t.heads_are;
          page_is = next_page d at f.lines out t.t t.follows ∙ ap (λ (z : ℕ). page_of z + 1) read.line_is;
          starts_are = next_starts d at f.lines out t.t t.follows
              ∙ (λ i. starts_after (read.page_is i) (come i) (read.line_is i) (read.starts_are i));
          size = length-append w out ∙ (let a = t.size in omega arith);
        },
      )
