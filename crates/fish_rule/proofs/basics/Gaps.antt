-- What a load on the way down a chain tells: of which entries there are none, and which one is here.
use Rattle.std.proofs.Common.{◌≡◌, ℕ, ◌+◌, ◌-◌, ◌*◌, ◌%◌, ◌<◌, ◌≤◌, suc, sym, ap, ◌∙◌, subst, inl, arith, length}
use Rattle.fish_layout.proofs.Clearing.{cleared_at, cleared_head}
use Rattle.fish_layout.proofs.KeyWords.{spelled_key}
use Rattle.fish_layout.proofs.Entries.{some_element}
use Rattle.std.proofs.lemmas.Nat.{mod-mul-add}
use Rattle.fish_layout.proofs.Spelled.{roomy, spelled_keys}
use Rattle.fish_layout.specs.Body.{body_lines}
use Rattle.fish_layout.specs.Cleared.{entry_at}
use Rattle.fish_layout.specs.Entry.{entry_number, entry_place}
use Rattle.fish_layout.specs.Header.{keys_of, lines_of}
use Rattle.fish_rule.proofs.basics.Places.{RecordAt, lies_inside, record_at, record_at_lined}
use Rattle.fish_rule.specs.Chains.{Linked}
use Rattle.fish_rule.proofs.basics.Context.{Key, Rule, World}
use Rattle.fish_rule.specs.Gaps.{IsKeyEntryOf, IsGap, IsLabel}
use Rattle.fish_rule.specs.World.{body}
use Rattle.fish_rule.proofs.basics.Bodies.{published}
use Rattle.fish_rule.specs.declared.view.Kind.TheVariants.{Stored}

module _ {k : Key} {w : World} (r : Rule k w) where
  -- the entries of published records are linked
  unfoldable pub entry_linked : (b n c p : ℕ) → n < w.count → IsKeyEntryOf k w.dir w.log (r.start n) b n c p
      → Linked k w.dir w.log w.views b p
  entry_linked b n c p below h =
      let finished = r.space.finished n h.above below (published (w.dir n) Stored h.stored) in
      record {
        line = r.start n;
        entry = c;
        is = h.is;
        shows = inl (record { number = n; above = h.above; stored = h.stored; line = finished.line });
      }

  -- where no linked place of the bucket lies between two places, there is no entry of a settled number
  pub gap_there : (b end above below : ℕ) → end ≤ w.settled
      → ((p : ℕ) → Linked k w.dir w.log w.views b p → p < above → p ≤ below)
      → IsGap k w.count w.dir w.log r.start (record { bucket = b; end = end; above = above; below = below })
  gap_there b end above below known none =
      let within = r.settling.within in
      record {
        within = omega arith;
        published = λ n from less. (r.settling.below n from (omega arith)).published;
        empty = λ n c p less is under. none p (entry_linked b n c p (omega arith) is) under;
      }

  -- the second word of a linked place is within its record's region, and is its body's there
  pub second_inside : (b p : ℕ) (h : Linked k w.dir w.log w.views b p) (s : RecordAt r h.line h.entry)
      → suc p < r.start (suc s.number) * 4
  second_inside b p h s =
      let p_is : p ≡ h.line * 4 + (1 + 3 * h.entry) = h.is.is in
      let counts = h.is.counts in
      let parts = s.record_of.0 in
      let keys : keys_of (body w.log h.line 0) ≡ length parts.keys = spelled_keys s.record_of.1.spells in
      let room : 1 + 3 * length parts.keys ≤ body_lines parts * 4 = roomy parts in
      let lines = s.record_of.1.lines_is in
      let line = s.line in
      let grows = r.space.regions.grows s.number s.above s.below in
      omega arith

  -- it is the body's there
  second_word : (b p : ℕ) (h : Linked k w.dir w.log w.views b p) (s : RecordAt r h.line h.entry)
      → body w.log h.line (entry_at h.entry + 1) ≡ w.log (suc p)
  second_word b p h s =
      let p_is : p ≡ h.line * 4 + (1 + 3 * h.entry) = h.is.is in
      let at : ℕ → ℕ = λ i. w.log (h.line * 4 + i) in
      let lined : lines_of (at 0) ≡ r.start (suc s.number) - r.start s.number =
      ap lines_of (sym (cleared_head at)) ∙ record_at_lined r h.line h.entry s in
      let line = s.line in
      let within = second_inside b p h s in
      let third : entry_at h.entry + 1 ≡ h.entry * 3 + 2 = omega arith in
      let two : (entry_at h.entry + 1) % 3 ≡ 2 = ap (λ (z : ℕ). z % 3) third ∙ mod-mul-add h.entry 3 2 (omega arith) in
      let place : h.line * 4 + (entry_at h.entry + 1) ≡ suc p = omega arith in
      cleared_at at (entry_at h.entry + 1) (omega arith) (λ key. let one = key.1 in omega arith) ∙ ap w.log place

  -- where the second word names the record's number and the entry, the label holds
  labelled : (b p end : ℕ) → end ≤ w.settled → (h : Linked k w.dir w.log w.views b p) (s : RecordAt r h.line h.entry)
      → entry_number (w.log (suc p)) ≡ s.number → entry_place (w.log (suc p)) ≡ h.entry
      → body w.log h.line (entry_at h.entry + 1) ≡ w.log (suc p)
      → IsLabel k w.count w.dir w.log r.start (record { place = p; word = w.log (suc p); end = end })
  labelled b p end known h s number entry word =
      let line : r.start (entry_number (w.log (suc p))) ≡ h.line = ap r.start number ∙ s.line in
      let above = s.above in
      let below = s.below in
      let inside = lies_inside r b p h s in
      record {
        above = omega arith;
        below = omega arith;
        place = h.is.is ∙ (λ i. sym line i * 4 + entry_at (sym entry i));
        inside = subst (λ (z : ℕ). p < r.start (suc z) * 4) (sym number) inside.1;
        settled = λ less. (r.settling.below (entry_number (w.log (suc p))) (omega arith) (omega arith)).published;
        word = λ less. (λ i. body w.log (line i) (entry_at (entry i) + 1)) ∙ word;
      }

  -- the second word of a linked place tells its record's number and its entry
  pub label_there : (b p end : ℕ) → end ≤ w.settled → Linked k w.dir w.log w.views b p
      → IsLabel k w.count w.dir w.log r.start (record { place = p; word = w.log (suc p); end = end })
  label_there b p end known h =
      let s = record_at r h.line h.entry h.shows in
      let keys = s.record_of.0.keys in
      let spells = s.record_of.1.spells in
      let counts : h.entry < length keys = subst (λ (z : ℕ). h.entry < z) (spelled_keys spells) h.is.counts in
      let key = some_element keys h.entry counts in
      let says = spelled_key h.entry key.0 spells counts key.1 in
      let word = second_word b p h s in
      labelled b p end known h s (ap entry_number (sym word) ∙ says.number ∙ s.record_of.1.number_is)
      (ap entry_place (sym word) ∙ says.position) word
