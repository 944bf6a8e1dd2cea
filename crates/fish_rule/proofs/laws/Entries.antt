-- What the words that were read of a region say of the entry there.
use Rattle.std.proofs.Common.{◌≡◌, ℕ, ◌+◌, ◌*◌, ◌<◌, List, get_or, sym, ap, ◌∙◌, subst, arith, ◌≢◌, ◌-◌, ◌≤◌, suc}
use Rattle.fish_layout.specs.Cleared.{IsKeyWord, Spells, body_of, unlinked}
use Rattle.fish_rule.specs.Logs.{HasWords, IsEntry, Learns, KnowsAs}
use Rattle.fish_rule.proofs.basics.Context.{Among, Found, Kind, Rule, View, World, get_elem?, some}
use Rattle.fish_layout.proofs.Clearing.{cleared_at, cleared_head, cleared_same}
use Rattle.fish_layout.proofs.Spelled.{body_spelled}
use Rattle.fish_layout.specs.Body.{IsBody}
use Rattle.fish_layout.specs.Header.{keys_of, lines_of}
use Rattle.fish_layout.specs.declared.parts.BodyParts.{BodyParts}
use Rattle.fish_catalog.specs.declared.entry.Entry.TheVariants as entry
use Rattle.fish_rule.proofs.basics.Lists.{all_among}
use Rattle.fish_rule.proofs.basics.FoundRegions.{lines_found, region_found, word_known}
use Rattle.fish_rule.specs.Facts.{IsFound, IsFactKnown}
use Rattle.fish_rule.specs.Regions.{HoldsRegion, IsRecord}
use Rattle.fish_rule.specs.Table.{IsOfMoment}
use Rattle.fish_rule.specs.World.{body}
use Rattle.fish_rule.specs.declared.view.Kind.TheVariants.{Mark, Stored, Void}
use Rattle.fish_value.specs.declared.field.Form.{Form}
use Rattle.fish_rule.proofs.basics.RegionWords.{head_plain}

-- a record is no mark
pub stored_words : (kind : Kind) → kind ≡ Stored → kind ≢ Mark
stored_words kind e f = (let g : Stored ≡ Mark = sym e ∙ f in cc)

module _ {v : View} (w : World) (r : Rule v.about w) (j : ℕ) (at : get_elem? w.views j ≡ some v) (f : Found)
    (among : Among f v.learned.found) (is : f.kind ≡ Stored) (words : List ℕ) (has : HasWords v f words) where
  -- the region is as it was found
  found : IsFound v.about w.count w.dir r.start f
  found = all_among (IsFound v.about w.count w.dir r.start) f v.learned.found (r.facts j v at).found among

  -- the region has a line
  some_lines : 1 ≤ f.lines
  some_lines = (let g = r.space.regions.grows f.number found.above found.below in let line = found.line in
      let lines = found.lines in omega arith)

  -- a word that was read stands in the region's body
  stands_there : (i : ℕ) → i < f.lines * 4 → ¬ IsKeyWord (keys_of (get_or words 0 0)) i
      → body w.log (r.start f.number) i ≡ get_or words i 0
  stands_there i less plain =
      let full = has.full in
      word_known r f i (get_or words i 0) found less
      (all_among (IsFactKnown v.about w.count w.dir w.log r.start) _ v.learned.known (r.facts j v at).known
      (has.read i (omega arith) plain))

  -- its header is the first word that was read
  head : body w.log (r.start f.number) 0 ≡ get_or words 0 0
  head = (let s = some_lines in stands_there 0 (omega arith) (head_plain (keys_of (get_or words 0 0))))

  -- the words' body is the region's
  pub body_read : body w.log (r.start f.number) ≡ body_of words
  body_read =
      let log_head : body w.log (r.start f.number) 0 ≡ w.log (r.start f.number * 4 + 0) =
      cleared_head (λ i. w.log (r.start f.number * 4 + i)) in
      let same : get_or words 0 0 ≡ w.log (r.start f.number * 4 + 0) = sym head ∙ log_head in
      let lines : lines_of (w.log (r.start f.number * 4 + 0)) ≡ f.lines = ap lines_of (sym log_head)
      ∙ lines_found r f found (stored_words f.kind is) in
      let lines' : lines_of (get_or words 0 0) ≡ f.lines = ap lines_of same ∙ lines in
      let some_ = some_lines in
      cleared_same (λ i. get_or words i 0) (λ i. w.log (r.start f.number * 4 + i)) (λ i within plain.
      sym (cleared_at (λ m. w.log (r.start f.number * 4 + m)) i (omega arith)
      (subst (λ (z : ℕ). ¬ IsKeyWord (keys_of z) i) same plain)) ∙ stands_there i (omega arith) plain)

  -- the record there
  holds_record : (kind : Kind) (lane n lines : ℕ) (e : ℕ → ℕ) → kind ≡ Stored → HoldsRegion kind lane n lines e
      → IsRecord lane n lines e
  holds_record Stored lane n lines e q h = h
  holds_record Void lane n lines e q h = cc
  holds_record Mark lane n lines e q h = cc

  -- the words are those of the record
  pub record_there : IsRecord (r.lane_of f.number) f.number f.lines (body_of words)
  record_there =
      let t = region_found r f found in
      let line = found.line in
      let lines = found.lines in
      let size : r.start (suc f.number) - r.start f.number ≡ f.lines = omega arith in
      subst (λ (z : ℕ × (ℕ → ℕ)). IsRecord (r.lane_of f.number) f.number z.0 z.1) (λ i. (size i, body_read i))
      (holds_record _ _ f.number _ _ (t.1 ∙ is) t.0.holds)

  -- the words are those of a record with the same parts but for the previous nodes
  pub body_there : (q : BodyParts) × IsBody q words × (unlinked q ≡ record_there.0)
  body_there =
      let p = record_there.1 in
      let full = has.full in
      let lines = p.lines_is in
      body_spelled words (omega arith) p.spells

  -- so an entry with these words' lane, form and payload stands there
  pub entry_there : (lane : ℕ) (form : Form) (payload : List ℕ)
      → ((q : BodyParts) → IsBody q words → lane ≡ q.lane) → ((q : BodyParts) → IsBody q words → form ≡ q.form)
      → ((q : BodyParts) → IsBody q words → payload ≡ q.payload)
      → IsEntry w f.number (entry.Stored lane form payload)
  entry_there lane form payload lanes forms payloads =
      let p = record_there.1 in
      let q = body_there in
      let t = region_found r f found in (
        record_there.0,
        record {
          stored = found.kind ∙ ap Rattle.fish_rule.specs.Regions.code is;
          spells = subst (Spells record_there.0) (sym body_read ∙ ap (body w.log) (sym t.0.line)) p.spells;
          number_is = p.number_is;
          lane_is = ap (λ (z : BodyParts). z.lane) (sym q.2) ∙ sym (lanes q.0 q.1);
          form_is = ap (λ (z : BodyParts). z.form) (sym q.2) ∙ sym (forms q.0 q.1);
          payload_is = ap (λ (z : BodyParts). z.payload) (sym q.2) ∙ sym (payloads q.0 q.1);
        },
      )

-- words that were read stay read
pub has_later : (v u : View) (f : Found) (words : List ℕ) → Learns v u → HasWords v f words → HasWords u f words
has_later v u f words learns has = record {
  full = has.full;
  read = λ i less plain. learns.known _ (has.read i less plain);
}

-- what a view's words tell in every moment that it knows of
pub knows_entry : (v : View) (f : Found) (words : List ℕ) → Among f v.learned.found → f.kind ≡ Stored
    → HasWords v f words → (lane : ℕ) (form : Form) (payload : List ℕ)
    → ((q : BodyParts) → IsBody q words → lane ≡ q.lane)
    → ((q : BodyParts) → IsBody q words → form ≡ q.form)
    → ((q : BodyParts) → IsBody q words → payload ≡ q.payload) → KnowsAs v f.number (entry.Stored lane form payload)
knows_entry v f words among is has lane form payload lanes forms payloads u learns w r j at =
    entry_there w r j at f (learns.found f among) is words
    (has_later v u f words learns has) lane form payload lanes forms payloads

-- the words of a record that was found are a record's
pub found_body : (v : View) (f : Found) (words : List ℕ) → IsOfMoment v → Among f v.learned.found → f.kind ≡ Stored
    → HasWords v f words → (q : BodyParts) × IsBody q words
found_body v f words s among is has = (let q = body_there s.moment s.rule s.seat s.at f among is words has in
    (q.0, q.1))
