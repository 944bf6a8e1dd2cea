-- What the causes of refusals say of one another.
use Rattle.std.proofs.Common.{◌≡◌, ℕ, zero, suc, ◌≤◌, ◌⊎◌, inl, inr, List, [], length, take, drop, refl, sym, ap, subst, ◌∙◌, arith}
use Rattle.std.proofs.Math.Seq.{drop-nil}
use Rattle.fish_catalog.specs.declared.commit.Commit.{Commit}
use Rattle.fish_catalog.specs.declared.entry.Entry.{Entry}
use Rattle.fish_image.proofs.Agreement.{agrees_once, no_log, one_damage}
use Rattle.fish_image.specs.Log.{Agrees, IsDamaged}
use Rattle.fish_image.specs.Reached.{Reached}
use Rattle.fish_image.specs.Reading.{IsBodyOf}
use Rattle.fish_image.specs.Stands.{Stands, words_in}
use Rattle.fish_rule.specs.declared.table.Shape.{Shape}
use Rattle.fish_slots.proofs.Commits.{one_commit}
use Rattle.fish_slots.specs.Commits.{SlotCounts, HasCommit}
use Rattle.fish_slots.specs.Offsets.{gate_at}
use Rattle.fish_slots.specs.Slots.{IsOpen}
use Rattle.fish_recover.proofs.Once.{told_once}
use Rattle.fish_recover.specs.Opening.{IsImageFound, IsOfStore, IsOpenCause, IsOther, IsOtherShape}
use Rattle.fish_recover.specs.Stores.{IsStoreCause}
use Rattle.fish_recover.specs.declared.finding.Found.{Found}
use Rattle.fish_recover.specs.declared.refusal.Asked.{Asked}
use Rattle.fish_recover.specs.declared.refusal.OpenRefusal.{OpenRefusal}
use Rattle.fish_recover.specs.declared.refusal.OpenRefusal.TheVariants.{Damaged, DiskFault, NotAStore, OutOfMemory, ShapeDiffers}

-- an image has one commit that is told, and one list of lines
once : (image b w d v : List ℕ) (c e : Commit) → HasCommit b w image → HasCommit d v image → IsBodyOf c b → IsBodyOf e d
    → (c ≡ e) × (w ≡ v)
once image b w d v c e has other told too =
    let same = one_commit b w d v image has other in
    (told_once c e d (subst (IsBodyOf c) same.0 told) too, same.1)

-- the slot that counts is open
not_closed : (slot : ℕ) (b w image : List ℕ) → slot ≤ 1 → SlotCounts slot b w image → (IsOpen 0 image → ⊥) → (IsOpen 1 image → ⊥) → ⊥
not_closed zero b w image le h first second = first h.gate
not_closed (suc zero) b w image le h first second = second h.gate
not_closed (suc (suc slot)) b w image le h first second = absurd (omega arith)

module _ (image : List ℕ) (asked : Asked) where
  -- no gate is open, or one is
  closed_some : IsOpenCause image asked NotAStore → (IsOpen 0 image ⊎ IsOpen 1 image) → ⊥
  closed_some h (inl first) = h.0 first
  closed_some h (inr second) = h.1 second

  -- no gate is open, or the image has a commit
  closed_has : (b w : List ℕ) → IsOpenCause image asked NotAStore → HasCommit b w image → ⊥
  closed_has b w h has = not_closed has.slot b w image has.slot_is has.counts h.0 h.1

  -- no gate is open, or it is damaged
  closed_damaged : (n : ℕ) → IsOpenCause image asked NotAStore → IsOpenCause image asked (Damaged n) → ⊥
  closed_damaged n h (inl d) = closed_some h d.1.some
  closed_damaged n h (inr d) = closed_has d.body d.lines h d.has

  -- it is damaged, or has another shape
  damaged_other : (n pages bits : ℕ) → IsOpenCause image asked (Damaged n) → IsOther image asked pages bits → ⊥
  damaged_other n pages bits (inl d) o = d.1.none o.body o.lines o.commit o.has o.told
  damaged_other n pages bits (inr d) o =
      let same = once image o.body o.lines d.body d.lines o.commit d.commit o.has d.has o.told d.told in
      d.shape (subst (IsOtherShape asked) same.0 o.shape)

  -- it is damaged after one number of entries
  damaged_once : (n m : ℕ) → IsOpenCause image asked (Damaged n) → IsOpenCause image asked (Damaged m) → n ≡ m
  damaged_once n m (inl d) (inl e) = d.0 ∙ sym e.0
  damaged_once n m (inl d) (inr e) = absurd (d.1.none e.body e.lines e.commit e.has e.told)
  damaged_once n m (inr d) (inl e) = absurd (e.1.none d.body d.lines d.commit d.has d.told)
  damaged_once n m (inr d) (inr e) =
      let same = once image d.body d.lines e.body e.lines d.commit e.commit d.has e.has d.told e.told in
      one_damage e.commit (words_in e.lines) n m
      (subst (λ (l : List ℕ). IsDamaged e.commit (words_in l) n) same.1
      (subst (λ (c : Commit). IsDamaged c (words_in d.lines) n) same.0 d.damaged)) e.damaged

  -- it has one shape
  other_once : (s t : Shape) (a o : Asked) → IsOpenCause image asked (ShapeDiffers s a) → IsOpenCause image asked (ShapeDiffers t o)
      → ShapeDiffers s a ≡ ShapeDiffers t o
  other_once s t a o h g =
      let x = h.0 in
      let y = g.0 in
      let same = once image x.body x.lines y.body y.lines x.commit y.commit x.has y.has x.told y.told in
      let pages : s.pages ≡ t.pages = sym x.pages_are ∙ ap (λ (c : Commit). c.pages) same.0 ∙ y.pages_are in
      let bits : s.bucket_bits ≡ t.bucket_bits = sym x.bits_are ∙ ap (λ (c : Commit). c.bucket_bits) same.0 ∙ y.bits_are in
      let asks : a ≡ o = h.1 ∙ sym g.1 in
      (λ i. ShapeDiffers (record { pages = pages i; bucket_bits = bits i }) (asks i))

  -- two causes are never there for two refusals that speak of the store
  pub one_cause : (e f : OpenRefusal) → IsOfStore e → IsOfStore f → IsOpenCause image asked e → IsOpenCause image asked f → e ≡ f
  one_cause NotAStore NotAStore s t h g = refl
  one_cause NotAStore (Damaged n) s t h g = absurd (closed_damaged n h g)
  one_cause NotAStore (ShapeDiffers kept other) s t h g = absurd (closed_has g.0.body g.0.lines h g.0.has)
  one_cause (Damaged n) NotAStore s t h g = absurd (closed_damaged n g h)
  one_cause (Damaged n) (Damaged m) s t h g = ap (λ (k : ℕ). Damaged k) (damaged_once n m h g)
  one_cause (Damaged n) (ShapeDiffers kept other) s t h g = absurd (damaged_other n kept.pages kept.bucket_bits h g.0)
  one_cause (ShapeDiffers kept other) NotAStore s t h g = absurd (closed_has h.0.body h.0.lines g h.0.has)
  one_cause (ShapeDiffers kept other) (Damaged n) s t h g = absurd (damaged_other n kept.pages kept.bucket_bits g h.0)
  one_cause (ShapeDiffers kept other) (ShapeDiffers also too) s t h g = other_once kept also other too h g
  one_cause DiskFault f s t h g = absurd s
  one_cause OutOfMemory f s t h g = absurd s
  one_cause e DiskFault s t h g = absurd t
  one_cause e OutOfMemory s t h g = absurd t

  -- where the image stands for a log of the shape that is asked for none is there
  pub stands_cause : (c : Commit) (log : List Entry) (e : OpenRefusal) → IsOfStore e → Stands c image log → (IsOtherShape asked c → ⊥)
      → IsOpenCause image asked e → ⊥
  stands_cause c log NotAStore s f shape h = closed_has f.body f.lines h f.commit
  stands_cause c log (Damaged n) s f shape (inl d) = d.1.none f.body f.lines c f.commit f.is.told
  stands_cause c log (Damaged n) s f shape (inr d) =
      let same = once image d.body d.lines f.body f.lines d.commit c d.has f.commit d.told f.is.told in
      no_log c (words_in f.lines) n log
      (subst (λ (l : List ℕ). IsDamaged c (words_in l) n) same.1
      (subst (λ (k : Commit). IsDamaged k (words_in d.lines) n) same.0 d.damaged)) f.is.stands
  stands_cause c log (ShapeDiffers kept other) s f shape h =
      let o = h.0 in
      let same = once image o.body o.lines f.body f.lines o.commit c o.has f.commit o.told f.is.told in
      shape (subst (IsOtherShape asked) same.0 o.shape)
  stands_cause c log DiskFault s f shape h = absurd s
  stands_cause c log OutOfMemory s f shape h = absurd s

  -- so it is where something is found
  pub found_cause : (found : Found) (e : OpenRefusal) → IsOfStore e → IsImageFound image asked found → IsOpenCause image asked e → ⊥
  found_cause found e s f h =
      let held = f.checked in
      stands_cause found.commit held.end.entries e s record {
        body = f.body;
        lines = f.lines;
        commit = f.commit;
        is = record {
          told = f.told;
          stands = record { end = held.end; agrees = held.agrees; lines = held.lines; entries = refl };
        };
      } f.shape h

-- an image stands for one log
pub one_stands : (image : List ℕ) (c d : Commit) (log other : List Entry) → Stands c image log → Stands d image other
    → (c ≡ d) × (log ≡ other)
one_stands image c d log other h g =
    let same = once image h.body h.lines g.body g.lines c d h.commit g.commit h.is.told g.is.told in
    let a = h.is.stands in
    let b = g.is.stands in
    let end = subst (λ (k : Commit). Agrees k (words_in g.lines) k.count a.end) same.0
    (subst (λ (l : List ℕ). Agrees c (words_in l) c.count a.end) same.1 a.agrees) in (
      same.0,
      sym a.entries ∙ ap (λ (z : Reached). z.entries) (agrees_once d (words_in g.lines) d.count a.end b.end end b.agrees) ∙ b.entries,
    )

-- no gate is open in no bytes
nothing_open : (slot : ℕ) → IsOpen slot [] → ⊥
nothing_open slot opened =
    let none : (let no : List ℕ = [] in take 1 (drop (gate_at slot) no)) ≡ [] = ap (λ (l : List ℕ). take 1 l) (drop-nil (gate_at slot)) in
    let size : 0 ≡ 1 = ap (λ (l : List ℕ). length l) (sym none ∙ opened) in
    omega (arith, size)

nothing_has : (b w : List ℕ) → HasCommit b w [] → ⊥
nothing_has b w has = nothing_open has.slot has.counts.gate

-- an empty disk is refused for nothing
pub none_cause : (asked : Asked) (e : OpenRefusal) → IsOfStore e → IsStoreCause [] asked e → ⊥
none_cause asked NotAStore s h = (let some = h.0 in omega arith)
none_cause asked (Damaged n) s (inl d) = elim d.1.some [
  | inl first ↦ nothing_open 0 first
  | inr second ↦ nothing_open 1 second
]
none_cause asked (Damaged n) s (inr d) = nothing_has d.body d.lines d.has
none_cause asked (ShapeDiffers kept other) s h = nothing_has h.0.body h.0.lines h.0.has
none_cause asked DiskFault s h = absurd s
none_cause asked OutOfMemory s h = absurd s
