-- The words of a region of the table, with its previous nodes, follow an image that has all before it.
use Rattle.std.proofs.Common.{◌≡◌, ◌≢◌, ℕ, zero, suc, ◌+◌, ◌-◌, ◌*◌, ◌/◌, ◌<◌, ◌≤◌, ◌^◌, inl, inr, List}
use Rattle.std.proofs.Common.{[], ◌∷◌, ◌++◌, length, get_or}
use Rattle.std.proofs.Common.{refl, ap, sym, ◌∙◌, subst, arith, Some, slice_get}
use mathlib.Core.Option.{some}
use Rattle.std.proofs.Math.ListN.{get_elem?}
use Rattle.std.proofs.Math.Decide.{dec_lt, ℕ_discrete}
use Rattle.std.proofs.lemmas.List.{ext_get_or, length-replicate, get_or-replicate}
use Rattle.fish_catalog.specs.declared.commit.Commit.{Commit}
use Rattle.fish_catalog.specs.declared.entry.Entry.{Entry}
use Rattle.fish_catalog.specs.declared.entry.Entry.TheVariants as entry
use Rattle.fish_catalog.specs.declared.row.CatRow.{CatRow}
use Rattle.fish_flush.specs.within.Linking.{IsRegionLinked}
use Rattle.fish_flush.specs.Rows.{HoldsRows}
use Rattle.fish_flush.proofs.KeyedValues.{under_unlink}
use Rattle.fish_flush.proofs.TableKeys.{table_keys}
use Rattle.fish_image.proofs.Regions.{keyless}
use Rattle.fish_image.specs.Log.{AreSomeOf, FollowsIn, HasRowKeys, behind_record, values_under, void_words}
use Rattle.fish_image.specs.Progress.{AreHeads}
use Rattle.fish_image.specs.Reached.{AreLinked, Reached, reached_after, with_keys}
use Rattle.fish_layout.specs.Pages.{page_of}
use Rattle.fish_layout.proofs.Clearing.{choose_first, choose_second}
use Rattle.fish_layout.proofs.Headers.{keys_of-void, lines_of-void}
use Rattle.fish_layout.proofs.Links.{relinked_lines, unlinked_is}
use Rattle.fish_layout.proofs.Once.{body_number, body_once}
use Rattle.fish_layout.proofs.Outlines.{body_length}
use Rattle.fish_layout.proofs.Spelled.{body_says, body_spelled}
use Rattle.fish_layout.specs.Body.{IsBody, body_lines}
use Rattle.fish_layout.specs.Cleared.{IsKeyWord, Spells, choose, unlink, unlinked}
use Rattle.fish_layout.specs.Header.{keys_of, lines_of, void_word}
use Rattle.fish_layout.specs.declared.parts.BodyParts.{BodyParts}
use Rattle.fish_psf.specs.Records.{evaluation}
use Rattle.fish_value.specs.declared.value.Value.{Value}
use Rattle.fish_layout.specs.declared.parts.KeyPart.{KeyPart}
use Rattle.fish_flush.proofs.RuleFacts.{head_plain, kind_inside, void_begins}
use Rattle.fish_rule.proofs.laws.Regions.{kind-inside, region_found, word_known}
use Rattle.fish_rule.proofs.laws.Lists.{all_among}
use Rattle.fish_rule.proofs.laws.Alone.{knows_void}
use Rattle.fish_rule.proofs.laws.Entries.{body_read, knows_entry}
use Rattle.fish_rule.specs.Facts.{IsFound, IsFactKnown}
use Rattle.fish_rule.specs.Keys.{IsKeyedOf}
use Rattle.fish_rule.specs.Logs.{HasWords, KnowsAs}
use Rattle.fish_rule.specs.Registry.{AreActiveAt}
use Rattle.fish_rule.specs.Regions.{HoldsRegion, kind_of, kind_within, void_body}
use Rattle.fish_rule.specs.Rule.{Rule}
use Rattle.fish_rule.specs.Views.{Among}
use Rattle.fish_rule.specs.World.{World, body}
use Rattle.fish_rule.specs.declared.view.Found.{Found}
use Rattle.fish_rule.specs.declared.view.Kind.{Kind}
use Rattle.fish_rule.specs.declared.view.Kind.TheVariants.{Mark, Stored, Void}
use Rattle.fish_rule.specs.declared.view.View.{View}

-- ---- previous nodes

-- a key without its previous node stands where the key stood
pub unlink_get : (ks : List KeyPart) (c : ℕ) (k : KeyPart) → slice_get ks c ≡ Some k
    → slice_get (unlink ks) c ≡ Some (record k { prev = 0 })
unlink_get [] c k found = absurd cc
unlink_get (x ∷ ks) zero k found =
    ap (λ (y : KeyPart). Some (record y { prev = 0 })) (Rattle.std.proofs.lemmas.Option.same_Some x k found)
unlink_get (x ∷ ks) (suc c) k found = unlink_get ks c k found

-- what is asked of keys doesn't speak of previous nodes
keys_unlinked : (rows : List CatRow) (n : ℕ) (p : BodyParts) → HasRowKeys rows n (unlinked p) → HasRowKeys rows n p
keys_unlinked rows n p has = record {
  known = λ j k there. has.known j (record k { prev = 0 }) (unlink_get p.keys j k there);
  values = λ id row there.
      let h = has.values id row there in
      let same : values_under id (unlink p.keys) ≡ values_under id p.keys = under_unlink id p.keys in
      record {
        said = h.said;
        read = h.read;
        some = subst (λ (vs : List Value). AreSomeOf vs (evaluation h.said p.form p.payload)) same h.some;
        all = λ covers. sym same ∙ h.all covers;
      };
}

-- two records of one list of words differ in their numbers alone
one_record : (p q : BodyParts) (ws : List ℕ) → IsBody p ws → IsBody q ws → p ≡ record q { number = p.number }
one_record p q ws hp hq = by (dec_lt 0 (length q.keys))
  where
    by : Dec (0 < length q.keys) → p ≡ record q { number = p.number }
    by (yes some_) =
        (let number = body_number hq hp some_ in
        body_once hp hq (sym number) ∙ (λ i. record q { number = number i }))
    by (no none) = body_once hp (keyless q ws p.number hq (omega arith) hp.proper.number) refl

-- ---- kinds

-- a region within a page doesn't cross its end
stored_within : (a b : ℕ) → kind_within a b ≡ Stored → (b - 1) / 32768 ≤ a / 32768
stored_within a b is = by (dec_lt (a / 32768) ((b - 1) / 32768)) is
  where
    by : (d : Dec (a / 32768 < (b - 1) / 32768)) → choose d Void Stored ≡ Stored → (b - 1) / 32768 ≤ a / 32768
    by (yes h) e = absurd (cc)
    by (no h) e = omega arith

-- and a void does
void_crosses : (a b : ℕ) → kind_within a b ≡ Void → a / 32768 < (b - 1) / 32768
void_crosses a b is = by (dec_lt (a / 32768) ((b - 1) / 32768)) is
  where
    by : (d : Dec (a / 32768 < (b - 1) / 32768)) → choose d Void Stored ≡ Void → a / 32768 < (b - 1) / 32768
    by (yes h) e = h
    by (no h) e = absurd (cc)

-- what a kind's words hold
holds_void : (kind : Kind) (lane n lines : ℕ) (e : ℕ → ℕ) → kind ≡ Void → HoldsRegion kind lane n lines e → e ≡ void_body lines
holds_void Stored lane n lines e q h = absurd (cc)
holds_void Void lane n lines e q h = h
holds_void Mark lane n lines e q h = absurd (cc)

-- the words of a void, one by one
void_word_at : (lines i : ℕ) → i < 4 * lines → get_or (void_words lines) i 0 ≡ void_body lines i
unfolding void_body
void_word_at lines zero less = sym (choose_first (ℕ_discrete 0 0) (void_word lines) 0 refl)
void_word_at lines (suc i) less = get_or-replicate (4 * lines - 1) i 0 0 (omega arith)
    ∙ sym (choose_second (ℕ_discrete (suc i) 0) (void_word lines) 0 (λ e. omega arith))

-- ---- what follows

-- a region's words bring the reading of an image further by an entry that a pass knows
pub record IsNextRegion (c : Commit) (s : Reached) (u : View) (n lines : ℕ) (r heads heads' : List ℕ) : Type 0 where
  pub e : Entry
  pub t : Reached
  pub follows : FollowsIn c s lines r t
  pub told : KnowsAs u n e
  pub entries : t.entries ≡ s.entries ++ e ∷ []
  pub line : t.line ≡ s.line + lines
  pub heads_are : AreHeads (length heads) t.places heads'
  pub header : lines_of (get_or r 0 0) ≡ lines
  pub size : length r ≡ 4 * lines

module _ {v : View} (w : World) (rule : Rule v.about w) (seat : ℕ) (at : get_elem? w.views seat ≡ some v) (f : Found)
    (among : Among f v.learned.found) (words : List ℕ) (has : HasWords v f words) where
  -- the region is as it was found
  found : IsFound v.about w.count w.dir rule.start f
  found = all_among (IsFound v.about w.count w.dir rule.start) f v.learned.found (rule.facts seat v at).found among

  -- it has a line, and not too many
  pub some_lines : (1 ≤ f.lines) × (f.lines ≤ 18625)
  some_lines =
      let up = rule.space.regions.grows f.number found.above found.below in
      let small = rule.space.regions.small f.number found.above found.below in
      let line = found.line in
      let lines = found.lines in
      (omega arith, omega arith)

  -- it takes these lines
  kind_is : kind_of v.about.end f.line (f.line + f.lines) ≡ f.kind
  kind_is = ap (λ (z : ℕ). kind_of v.about.end z (f.line + f.lines)) (sym found.line)
      ∙ ap (λ (z : ℕ). kind_of v.about.end (rule.start f.number) z) (sym found.lines) ∙ (region_found rule f found).1

  -- where it is no mark it lies within the table
  pub ends_inside : f.kind ≢ Mark → f.line + f.lines ≤ v.about.end
  ends_inside plain = kind-inside v.about.end f.line (f.line + f.lines) (λ e. plain (sym kind_is ∙ e))

  -- a region that is no mark has the kind that its lines give
  plain_kind : f.kind ≢ Mark → kind_within f.line (f.line + f.lines) ≡ f.kind
  plain_kind plain = sym (kind_inside v.about.end f.line (f.line + f.lines) (ends_inside plain)) ∙ kind_is

  -- a word that was read is the region's
  known_word : (i : ℕ) → i < f.lines * 4 → ¬ IsKeyWord (keys_of (get_or words 0 0)) i
      → body w.log (rule.start f.number) i ≡ get_or words i 0
  known_word i less plain =
      let full = has.full in
      word_known rule f i (get_or words i 0) found less
      (all_among (IsFactKnown v.about w.count w.dir w.log rule.start) _ v.learned.known (rule.facts seat v at).known
      (has.read i (omega arith) plain))

  module _ (is_void : f.kind ≡ Void) where
    -- the words of a void
    void_holds : body w.log (rule.start f.number) ≡ void_body f.lines
    void_holds =
        let t = region_found rule f found in
        let line = found.line in
        let lines = found.lines in
        let size : rule.start (suc f.number) - rule.start f.number ≡ f.lines = omega arith in
        subst (λ (z : ℕ). body w.log (rule.start f.number) ≡ void_body z) size
        (holds_void _ _ f.number _ _ (t.1 ∙ is_void) t.0.holds)

    void_head : get_or words 0 0 ≡ void_word f.lines
    void_head =
        let some_ = some_lines.0 in
        sym (known_word 0 (omega arith) (head_plain (keys_of (get_or words 0 0)))) ∙ ap (λ (g : ℕ → ℕ). g 0) void_holds
        ∙ void_begins f.lines

    -- has no key entry
    pub void_keys : keys_of (get_or words 0 0) ≡ 0
    void_keys = (let few = some_lines.1 in ap keys_of void_head ∙ keys_of-void f.lines (omega arith))

    void_plain : (i : ℕ) → ¬ IsKeyWord (keys_of (get_or words 0 0)) i
    void_plain i key =
        let first = key.0 in
        let second = key.1 in
        let none = void_keys in
        omega arith

    void_is : words ≡ void_words f.lines
    void_is =
        let full = has.full in
        let some_ = some_lines.0 in
        let zeros = length-replicate {A = ℕ} (4 * f.lines - 1) 0 in
        ext_get_or 0 words (void_words f.lines) (omega arith)
        (λ i less. sym (known_word i (omega arith) (void_plain i)) ∙ ap (λ (g : ℕ → ℕ). g i) void_holds
        ∙ sym (void_word_at f.lines i (omega arith)))

    -- a void follows
    pub void_next : (c : Commit) (s : Reached) (heads : List ℕ) → s.number ≡ f.number → s.line ≡ f.line → f.line + f.lines ≤ c.lines
        → AreHeads (length heads) s.places heads → IsNextRegion c s v f.number f.lines words heads heads
    void_next c s heads number line within are =
        let full = has.full in
        let some_ = some_lines.0 in
        let few = some_lines.1 in
        let cross = void_crosses f.line (f.line + f.lines)
        (plain_kind (λ (e : f.kind ≡ Mark). (let g : Void ≡ Mark = sym is_void ∙ e in cc))
        ∙ is_void) in
        record {
          e = entry.Void;
          t = reached_after s f.lines s.places entry.Void;
          follows = inl (
            record {
              some = some_;
              words = void_is;
              crosses = subst (λ (z : ℕ). page_of z < page_of (z + f.lines - 1)) (sym line) cross;
              within = omega arith;
            },
            refl,
          );
          told = knows_void v f among is_void;
          entries = refl;
          line = refl;
          heads_are = are;
          header = ap lines_of void_head ∙ lines_of-void f.lines (omega arith);
          size = omega arith;
        }

  module _ (is_stored : f.kind ≡ Stored) (rows : List CatRow) (holds : HoldsRows v rows) where
    plain : f.kind ≢ Mark
    plain e = (let g : Stored ≡ Mark = sym is_stored ∙ e in cc)

    -- the record that stands there, with its keys
    pub keyed : (p : BodyParts) × IsKeyedOf (AreActiveAt v.about w.registry) (rule.version_of f.number) (rule.lane_of f.number) f.number
        (rule.start (suc f.number) - rule.start f.number) (body w.log (rule.start f.number)) p
    keyed = rule.keyed.each f.number found.above found.below (found.kind ∙ ap Rattle.fish_rule.specs.Regions.code is_stored)

    -- the words are those of a record with its parts
    pub record_words : (q : BodyParts) × IsBody q words × (unlinked q ≡ keyed.0)
    record_words =
        let record_of = keyed.1.record_of in
        let full = has.full in
        let line = found.line in
        let lines = found.lines in
        let lines_is = record_of.lines_is in
        body_spelled words (omega arith)
        (subst (Spells keyed.0) (body_read w rule seat at f among is_stored words has) record_of.spells)

    -- the keys that the rows ask
    record_keys : HasRowKeys rows f.number keyed.0
    record_keys = table_keys w rule seat at rows holds f.number found.above found.below keyed.0
        (rule.start (suc f.number) - rule.start f.number) (body w.log (rule.start f.number)) keyed.1

    -- a record follows, whatever its previous nodes are made
    pub record_next : (c : Commit) (s : Reached) (heads heads' out : List ℕ) → c.rows ≡ rows → 2 ^ c.bucket_bits ≡ length heads
        → s.number ≡ f.number → s.line ≡ f.line → f.line + f.lines ≤ c.lines
        → IsRegionLinked f.line record_words.0 words heads heads' out s.places → IsNextRegion c s v f.number f.lines out heads heads'
    record_next c s heads heads' out rows_are buckets number line within linked =
        let p : BodyParts = linked.p in
        let q : BodyParts = record_words.0 in
        let record_of = keyed.1.record_of in
        let parts : unlinked p ≡ keyed.0 = linked.parts ∙ record_words.2 in
        let number_is : p.number ≡ f.number = ap (λ (z : BodyParts). z.number) parts ∙ record_of.number_is in
        let full = has.full in
        let size = linked.size in
        let some_ = some_lines.0 in
        let whole = body_length linked.body in
        let within_page = stored_within f.line (f.line + f.lines) (plain_kind plain ∙ is_stored) in
        let page : page_of (f.line + f.lines - 1) ≡ page_of f.line = omega arith in
        let q_number : q.number ≡ f.number = ap (λ (z : BodyParts). z.number) record_words.2 ∙ record_of.number_is in
        let same : unlinked p ≡ unlinked q = linked.parts in
        record {
          e = entry.Stored p.lane p.form p.payload;
          t = behind_record c s f.lines p;
          follows = inr (
            p,
            record {
              size = omega arith;
              body = linked.body;
              number = number_is ∙ sym number;
              kept = record {
                reads = subst (λ (z : BodyParts). Rattle.fish_psf.specs.Records.is_record z.form z.payload ≡ Rattle.std.specs.Prelude.true)
                    (sym parts) record_of.reads;
                in_page = subst (λ (z : ℕ). page_of (z + f.lines - 1) ≡ page_of z) (sym line) page;
                within = omega arith;
                keys = subst (λ (z : List CatRow). HasRowKeys z s.number p) (sym rows_are)
                    (subst (λ (z : ℕ). HasRowKeys rows z p) (sym number)
                    (keys_unlinked rows f.number p (subst (HasRowKeys rows f.number) (sym parts) record_keys)));
                links = subst (λ (z : ℕ × ℕ). AreLinked z.0 z.1 0 p.keys s.places) (λ i. (sym buckets i, sym line i)) linked.links;
              };
            },
            refl,
          );
          told = knows_entry v f words among is_stored has p.lane p.form p.payload
              (λ b hb. ap (λ (z : BodyParts). z.lane) (same ∙ ap unlinked (one_record q b words record_words.1 hb)))
              (λ b hb. ap (λ (z : BodyParts). z.form) (same ∙ ap unlinked (one_record q b words record_words.1 hb)))
              (λ b hb. ap (λ (z : BodyParts). z.payload) (same ∙ ap unlinked (one_record q b words record_words.1 hb)));
          entries = refl;
          line = refl;
          heads_are = subst (λ (z : ℕ × ℕ). AreHeads (length heads) (with_keys z.0 z.1 0 p.keys s.places) heads')
              (λ i. (sym buckets i, sym line i)) linked.heads_are;
          header = (body_says linked.body).lines ∙ sym (relinked_lines (λ _. 0) p) ∙ ap body_lines_of (unlinked_is p ∙ parts) ∙ lines_there;
          size = omega arith;
        }
      where
        body_lines_of : BodyParts → ℕ
        body_lines_of p = body_lines p

        lines_there : body_lines keyed.0 ≡ f.lines
        lines_there =
            let line_ = found.line in
            let lines = found.lines in
            let is = keyed.1.record_of.lines_is in
            omega arith
