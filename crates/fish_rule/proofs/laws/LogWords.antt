-- The entries that the words of a moment spell are those of its log.
use Rattle.std.proofs.Common.{◌≡◌, ◌≢◌, ℕ, ◌+◌, ◌-◌, ◌*◌, ◌<◌, ◌≤◌, zero, suc, List, [], ◌∷◌, length, map, get_or, drop}
use Rattle.std.proofs.Common.{refl, sym, ap, ◌∙◌, subst, inl, ⊎_elim, ◌⊎◌, arith}
use Rattle.std.specs.List.{range_with_len}
use Rattle.std.proofs.Math.Decide.{ℕ_discrete}
use Rattle.std.proofs.lemmas.List.FromFn.{get_or-map-range_with_len, length-map-range_with_len}
use mathlib.Core.Option.{some-injective, some-ne-none}
use Rattle.fish_catalog.specs.declared.entry.Entry.{Entry}
use Rattle.fish_catalog.specs.declared.entry.Entry.TheVariants as entry
use Rattle.fish_layout.proofs.Clearing.{choose_first, choose_second, cleared_head, cleared_same}
use Rattle.fish_layout.proofs.Outlines.{body_payload, body_values_size, no_values, payload_place}
use Rattle.fish_layout.proofs.Spelled.{body_says, body_spelled, spelled_lines}
use Rattle.fish_layout.specs.Body.{IsBody, body_lines, values_of}
use Rattle.fish_layout.specs.Bytes.{bytes_in, words_for}
use Rattle.fish_layout.specs.Cleared.{Spells, body_of, entry_at, unlinked}
use Rattle.fish_layout.specs.Header.{form_code, form_of, keys_of, lines_of}
use Rattle.fish_layout.specs.declared.parts.BodyParts.{BodyParts}
use Rattle.fish_rule.proofs.basics.Context.{Key, Kind, Rule, World, get_elem?, some}
use Rattle.fish_rule.proofs.basics.OneMoment.{claimed, stored_parts}
use Rattle.fish_rule.specs.LogWords.{entries_in, entry_in, form_with, payload_in, record_in, region_at, values_in}
use Rattle.fish_rule.specs.Logs.{IsEntry, IsLog}
use Rattle.fish_rule.specs.Parts.{IsEntryWord}
use Rattle.fish_rule.specs.Regions.{code, kind_of}
use Rattle.fish_rule.specs.World.{body, high, low}
use Rattle.fish_rule.specs.declared.view.Kind.TheVariants.{Mark, Stored, Void}
use Rattle.fish_value.specs.declared.field.Form.{Form}
use Rattle.fish_value.specs.declared.field.Form.TheVariants.{Json, Csv}

-- ---- the words of one record

-- the form of a code is the one that has it
form_back : (f : Form) (c : ℕ) → c ≡ form_code f → form_with c ≡ f
form_back Json c e = choose_second (ℕ_discrete c 1) Csv Json (λ h. omega arith)
form_back Csv c e = choose_first (ℕ_discrete c 1) Csv Json e

-- the values' bytes are as many as the last entry says
values_back : {p : BodyParts} {ws : List ℕ} → IsBody p ws → (n : ℕ) → n ≡ length p.keys
    → values_in ws n ≡ length (values_of p.keys)
values_back {p} {ws} h zero e = sym (no_values p.keys e)
values_back {p} {ws} h (suc n) e = body_values_size h (suc n) e (omega arith)

-- the words of a record are the entry with its lane, form and payload
pub record_back : {p : BodyParts} {ws : List ℕ} → IsBody p ws
    → record_in ws ≡ entry.Stored p.lane p.form p.payload
unfolding record_in
record_back {p} {ws} h =
    let says = body_says h in
    let head : ℕ = get_or ws 0 0 in
    let values : values_in ws (keys_of head) ≡ length (values_of p.keys) = values_back h (keys_of head) says.keys in
    let place : entry_at (keys_of head) + words_for (values_in ws (keys_of head)) ≡ payload_place p =
    ap (λ (z : ℕ × ℕ). entry_at z.0 + words_for z.1) (λ i. (says.keys i, values i)) in
    let payload : payload_in ws ≡ p.payload =
    ap (λ (z : ℕ × ℕ). bytes_in (drop z.0 ws) z.1) (λ i. (place i, says.length i)) ∙ body_payload h in
    λ i. entry.Stored (says.lane i) (form_back p.form (form_of head) says.form i) (payload i)

-- ---- the words of a region

module _ (log : ℕ → ℕ) (line : ℕ) where
  -- as many as the header says
  region_length : length (region_at log line) ≡ lines_of (log (line * 4 + 0)) * 4
  region_length = length-map-range_with_len (λ i. log (line * 4 + i)) 0 (lines_of (log (line * 4 + 0)) * 4)

  -- each is the word of the log
  pub region_word : (i : ℕ) → i < lines_of (log (line * 4 + 0)) * 4 → get_or (region_at log line) i 0 ≡ log (line * 4 + i)
  region_word i less = get_or-map-range_with_len (λ i. log (line * 4 + i)) 0 (lines_of (log (line * 4 + 0)) * 4) i i 0 less
      (omega arith)

  -- a region that spells a record has the words of one with the same parts, but for the previous nodes
  pub region_body : (p : BodyParts) → 1 ≤ body_lines p → Spells p (body log line)
      → (q : BodyParts) × IsBody q (region_at log line) × (unlinked q ≡ p)
  region_body p some_lines spells =
      let f : ℕ → ℕ = λ i. log (line * 4 + i) in
      let ws : List ℕ = region_at log line in
      let lined : lines_of (log (line * 4 + 0)) ≡ body_lines p = ap lines_of (sym (cleared_head f)) ∙ spelled_lines spells in
      let size = region_length in
      let head : get_or ws 0 0 ≡ log (line * 4 + 0) = region_word 0 (omega arith) in
      let heads = ap lines_of head in
      let same : body log line ≡ body_of ws =
      cleared_same (λ i. get_or ws i 0) f (λ i within plain. sym (region_word i (omega arith))) in
      body_spelled ws (omega arith) (subst (Spells p) same spells)

-- ---- the entry at a number

-- a kind that is no mark is one of the other two
unmarked_kind : (kind : Kind) (c : ℕ) → c ≡ code kind → c ≢ code Mark → (c ≡ code Stored) ⊎ (c ≡ code Void)
unmarked_kind Stored c e ne = inl e
unmarked_kind Void c e ne = Rattle.std.proofs.Common.inr e
unmarked_kind Mark c e ne = absurd (ne e)

-- the entry at a void's directory word
pub entry_is_void : (dir log : ℕ → ℕ) (n : ℕ) → high (dir n) ≡ code Void → entry_in dir log n ≡ entry.Void
unfolding entry_in
entry_is_void dir log n is =
    choose_first (ℕ_discrete (high (dir n)) (code Void)) entry.Void (record_in (region_at log (low (dir n)))) is

module _ {k : Key} {w : World} (r : Rule k w) where
  -- a void is told
  entry_void : (n : ℕ) → high (w.dir n) ≡ code Void → IsEntry w n (entry_in w.dir w.log n)
  entry_void n is = subst (IsEntry w n) (sym (entry_is_void w.dir w.log n is)) is

  -- what a record's words are
  pub stored_body : (n : ℕ) → (stored : high (w.dir n) ≡ code Stored)
      → (q : BodyParts) × IsBody q (region_at w.log (low (w.dir n))) × (unlinked q ≡ (stored_parts r n stored).0)
  stored_body n stored =
      let p = stored_parts r n stored in
      region_body w.log (low (w.dir n)) p.0 (Rattle.fish_layout.proofs.Sizes.some_lines p.0) p.1.spells

  -- so the entry is theirs
  pub entry_stored : (n : ℕ) → high (w.dir n) ≡ code Stored
      → entry_in w.dir w.log n ≡ record_in (region_at w.log (low (w.dir n)))
  unfolding entry_in
  entry_stored n stored = choose_second (ℕ_discrete (high (w.dir n)) (code Void)) entry.Void
      (record_in (region_at w.log (low (w.dir n)))) (λ h. omega arith)

  -- a record is told
  entry_record : (n : ℕ) → high (w.dir n) ≡ code Stored → IsEntry w n (entry_in w.dir w.log n)
  entry_record n stored =
      let p = stored_parts r n stored in
      let q = stored_body n stored in
      let is : entry_in w.dir w.log n ≡ entry.Stored q.0.lane q.0.form q.0.payload =
      entry_stored n stored ∙ record_back q.1 in
      subst (IsEntry w n) (sym is) (
        p.0,
        record {
          stored = stored;
          spells = p.1.spells;
          number_is = p.1.number_is;
          lane_is = ap (λ (z : BodyParts). z.lane) (sym q.2);
          form_is = ap (λ (z : BodyParts). z.form) (sym q.2);
          payload_is = ap (λ (z : BodyParts). z.payload) (sym q.2);
        },
      )

  -- what stands at a number that is published and no mark
  pub entry_there : (n : ℕ) → k.number ≤ n → IsEntryWord (w.dir n) → IsEntry w n (entry_in w.dir w.log n)
  entry_there n above word =
      let f = r.space.finished n above (claimed r n word.published) word.published in
      ⊎_elim (λ (e : high (w.dir n) ≡ code Stored). entry_record n e)
      (λ (e : high (w.dir n) ≡ code Void). entry_void n e)
      (unmarked_kind (kind_of k.end (r.start n) (r.start (suc n))) (high (w.dir n)) f.kind word.unmarked)

-- ---- all entries

module _ {A : Type 0} (f : ℕ → A) where
  -- what stands at a place of a list that is made by places
  pub made_at : (a n i j : ℕ) (x : A) → a + i ≡ j → get_elem? (map f (range_with_len a n)) i ≡ some x
      → (i < n) × (x ≡ f j)
  made_at a zero i j x e at = absurd (some-ne-none x (sym at))
  made_at a (suc n) zero j x e at = (omega arith, some-injective x (f a) (sym at) ∙ ap f (omega arith))
  made_at a (suc n) (suc i) j x e at =
      let rest = made_at (a + 1) n i j x (omega arith) at in
      let less = rest.0 in
      (omega arith, rest.1)

module _ {k : Key} {w : World} (r : Rule k w) (count : ℕ)
    (listed : (i : ℕ) → i < count → IsEntryWord (w.dir (k.number + i))) where
  -- as many as were asked for
  pub entries_length : length (entries_in w.dir w.log k.number count) ≡ count
  entries_length = length-map-range_with_len (λ i. entry_in w.dir w.log (k.number + i)) 0 count

  -- each stands at its number
  pub entries_each : (i : ℕ) (e : Entry) → get_elem? (entries_in w.dir w.log k.number count) i ≡ some e
      → IsEntry w (k.number + i) e
  entries_each i e at =
      let made = made_at (λ i. entry_in w.dir w.log (k.number + i)) 0 count i i e (omega arith) at in
      let there : k.number ≤ k.number + i = omega arith in
      subst (IsEntry w (k.number + i)) (sym made.1) (entry_there r (k.number + i) there (listed i made.0))

  -- so they are the log, where it ends there
  pub entries_log : k.number + count ≤ w.count
      → (k.number + count ≡ w.count) ⊎ (high (w.dir (k.number + count)) ≡ code Mark)
      → IsLog k w (entries_in w.dir w.log k.number count)
  entries_log within ends =
      let size = entries_length in
      record {
        each = entries_each;
        within = omega arith;
        ends = subst (λ (z : ℕ). (k.number + z ≡ w.count) ⊎ (high (w.dir (k.number + z)) ≡ code Mark)) (sym size) ends;
      }
