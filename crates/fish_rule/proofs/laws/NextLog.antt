-- A log may begin where a closed one ends.
use Rattle.std.proofs.Common.{◌≡◌, ℕ, ◌*◌, ◌<◌, ◌≤◌, suc, sym, ◌∙◌, ⊎_elim, arith, ◌≢◌, ◌+◌, ◌-◌, zero, List, [], ◌∷◌}
use Rattle.std.proofs.Common.{length, refl, ap, subst, slice_index}
use Rattle.std.proofs.Math.Decide.{dec_lt}
use Rattle.fish_rule.proofs.basics.Bodies.{kind-inside, code_once, kind-mark, mark-past, published}
use Rattle.fish_rule.proofs.basics.Regions.{starts_above, starts_rise}
use Rattle.fish_rule.proofs.basics.Places.{lies_inside, record_at}
use Rattle.fish_rule.specs.Chains.{Linked}
use Rattle.fish_rule.specs.Parts.{IsOlderPlace, first_head}
use Rattle.fish_rule.proofs.basics.Context.{Key, Rule, World, get_elem?, some}
use Rattle.fish_rule.specs.World.{high}
use Rattle.fish_rule.specs.declared.view.Kind.TheVariants.{Mark, Stored}
use Rattle.fish_catalog.specs.declared.entry.Entry.{Entry}
use Rattle.fish_rule.proofs.basics.OneMoment.{claimed, entry_word, there_is}
use Rattle.fish_rule.specs.ClosedLaws.{EndsWhereNextBegins}
use Rattle.fish_rule.specs.Logs.{IsLog}
use Rattle.fish_rule.specs.Regions.{code, kind_of}

module _ {k : Key} {w : World} (r : Rule k w) where
  -- the number and the line of the first mark, or of the tail where there is none
  abbrev pub next_number : ℕ
  next_number = r.limit.first

  -- the line at which the log ends: its first mark's, or the tail's
  abbrev pub next_line : ℕ
  next_line = r.start r.limit.first

  -- they are within the bounds of a start
  pub next_fits : (next_number ≤ 268435439) × (next_line ≤ 68719176736)
  next_fits =
      let up = starts_above k w.count w.line r.start r.space.regions r.limit.first r.limit.above r.limit.within in
      let fits = r.limit.fits in
      let numbers = r.key_fits.few_numbers in
      let lines = r.key_fits.low_end in
      (omega arith, omega arith)

  -- every linked place is below that line
  pub linked_below : (b p : ℕ) → Linked k w.dir w.log w.views b p → p < next_line * 4
  linked_below b p h =
      let s = record_at r h.line h.entry h.shows in
      let inside = lies_inside r b p h s in
      let end = kind-inside k.end (r.start s.number) (r.start (suc s.number))
      (λ e. let q : Stored ≡ Mark = sym s.kind ∙ e in cc) in
      by s.number s.above s.below inside.1 end (dec_lt s.number r.limit.first)
    where
      by : (n : ℕ) → k.number ≤ n → n < w.count → p < r.start (suc n) * 4 → r.start (suc n) ≤ k.end
          → Dec (n < r.limit.first) → p < next_line * 4
      by n above below inside end (yes less) =
          let within = r.limit.within in
          let rise = starts_rise k w.count w.line r.start r.space.regions (suc n) r.limit.first (omega arith)
          (omega arith) within in
          omega arith
      by n above below inside end (no more) =
          let past = r.limit.past n (omega arith) below in
          absurd (omega arith)

  -- so each head is none of the next table's places
  pub next_heads : (b : ℕ) → IsOlderPlace next_line (w.head b)
  next_heads b some_ = ⊎_elim
      (λ (e : w.head b ≡ first_head k b).
      let up = starts_above k w.count w.line r.start r.space.regions r.limit.first r.limit.above r.limit.within in
      let low_ = r.key_fits.older_heads b (λ z. some_ (e ∙ z)) in
      omega arith)
      (λ (h : Linked k w.dir w.log w.views b (w.head b)). linked_below b (w.head b) h)
      (r.chains b).some

-- what holds of 0 and of each element holds at each index
at_index : (P : ℕ → Type 0) (xs : List ℕ) → P 0 → ((b x : ℕ) → get_elem? xs b ≡ some x → P x) → (b : ℕ)
    → P (slice_index xs b)
at_index P [] none each b = none
at_index P (x ∷ xs) none each zero = each zero x refl
at_index P (x ∷ xs) none each (suc b) = at_index P xs none (λ i y at. each (suc i) y at) b

module _ {k : Key} {w : World} (r : Rule k w) (entries : List Entry) (log : IsLog k w entries) where
  -- the log ends at the first mark, or at the tail where there is none
  ends_first : k.number + length entries ≡ r.limit.first
  ends_first = pick (dec_lt r.limit.first (k.number + length entries))
    where
      -- no entry stands at the first mark
      marked : (i : ℕ) → i < length entries → k.number + i ≡ r.limit.first → ⊥
      marked i within is =
          let t = there_is entries i within in
          let word = entry_word w (k.number + i) t.0 (log.each i t.0 t.1) in
          let below = claimed r (k.number + i) word.published in
          let past = r.limit.past (k.number + i) (omega arith) below in
          let f = r.space.finished (k.number + i) (omega arith) below word.published in
          word.unmarked (f.kind ∙ ap code (kind-mark k.end (r.start (k.number + i)) (r.start (suc (k.number + i))) past))

      -- and no mark stands before it
      early : k.number + length entries < r.limit.first
          → high (w.dir (k.number + length entries)) ≡ code Mark → ⊥
      early less mark =
          let n : ℕ = k.number + length entries in
          let there : w.dir n ≢ 0 = published (w.dir n) Mark mark in
          let within = r.limit.within in
          let f = r.space.finished n (omega arith) (omega arith) there in
          let is : kind_of k.end (r.start n) (r.start (suc n)) ≡ Mark = code_once _ Mark (sym f.kind ∙ mark) in
          let past = mark-past k.end (r.start n) (r.start (suc n)) is in
          let up = starts_rise k w.count w.line r.start r.space.regions (suc n) r.limit.first (omega arith) (omega arith)
          within in
          let fits = r.limit.fits in
          absurd (omega arith)

      pick : Dec (r.limit.first < k.number + length entries) → k.number + length entries ≡ r.limit.first
      pick (yes before) =
          let above = r.limit.above in
          absurd (marked (r.limit.first - k.number) (omega arith) (omega arith))
      pick (no behind) =
          let within = r.limit.within in
          ⊎_elim (λ (e : k.number + length entries ≡ w.count). omega arith)
          (λ (mark : high (w.dir (k.number + length entries)) ≡ code Mark).
          last mark (dec_lt (k.number + length entries) r.limit.first)) log.ends
        where
          last : high (w.dir (k.number + length entries)) ≡ code Mark
              → Dec (k.number + length entries < r.limit.first) → k.number + length entries ≡ r.limit.first
          last mark (yes less) = absurd (early less mark)
          last mark (no more) = omega arith

-- so the next log may begin there
pub may_follow : EndsWhereNextBegins
may_follow v remains c =
    let w : World = c.moment in
    let first : v.about.number + length remains.log ≡ c.rule.limit.first =
    ends_first c.rule remains.log c.log in
    let fits = next_fits c.rule in
    let few = fits.0 in
    let low = fits.1 in
    let base = c.base in
    let line : remains.lines ≡ c.rule.start c.rule.limit.first = c.lines ∙ ap c.rule.start first in
    let version = c.version in
    let versions = c.rule.registry.versions.few in
    record {
      number = omega arith;
      line = omega arith;
      version = omega arith;
      heads = c.many_heads;
      older = at_index (IsOlderPlace remains.lines) remains.heads (λ some_. absurd (some_ refl))
          (λ b x at. subst (λ (z : ℕ × ℕ). IsOlderPlace z.0 z.1) (λ i. (sym line i, sym (c.heads b x at) i))
          (next_heads c.rule b));
    }
