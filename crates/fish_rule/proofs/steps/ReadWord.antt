-- `read_word`: a load of a word of a published region.
use Rattle.std.proofs.Common.{◌≡◌, ℕ, ◌+◌, ◌-◌, ◌*◌, suc, get_or, set, sym, refl, ap, ◌∙◌, subst, arith}
use Rattle.fish_rule.proofs.basics.Context.{Found, Key, Rule, View, World, get_elem?, none, some}
use Rattle.fish_rule.proofs.classes.Allowed.{Allows, Ruled, Sat, Told, allowed, loaded_words, stands, step, there}
use Rattle.fish_rule.proofs.basics.Bodies.{kind-inside}
use Rattle.fish_rule.proofs.basics.Regions.{starts_above}
use Rattle.fish_rule.proofs.basics.Lists.{all_among}
use Rattle.fish_rule.proofs.classes.Loads.{learn_lasts, still_chained}
use Rattle.fish_rule.proofs.basics.Worlds.{area-in}
use Rattle.fish_rule.proofs.basics.Lasts.{Lasts}
use Rattle.fish_rule.specs.Facts.{Facts, IsFound}
use Rattle.fish_rule.specs.LoadSteps.{CanReadWord, after_read_word}
use Rattle.fish_rule.specs.Told.{place_at, told_read_word}
use Rattle.fish_rule.specs.World.{log_at, log_size, world}
use Rattle.fish_rule.proofs.basics.FoundRegions.{region_found, read_word_is}

module _ {k : Key} {w : World} (r : Rule k w) (id : ℕ) {v : View} (at : get_elem? w.views id ≡ some v) (x : Found)
    (o : ℕ) (can : CanReadWord v x o) where
  -- the place of the word
  abbrev pub read_place : ℕ
  read_place = x.line * 4 + o

  -- the view that has read it
  abbrev pub reader : View
  reader = after_read_word v read_place (w.log read_place)

  -- what it knows holds
  read_facts : Facts k w.count w.dir w.log r.start reader.learned
  read_facts = (let h = r.facts id v at in
      assumption (h, read_word_is r v x o h can))

  -- a read keeps the rule, and all that lasts
  pub read_word_lasts : Lasts r (record w { views = set w.views id reader })
  read_word_lasts = learn_lasts r id at reader.learned v.tail v.round reader.clock (r.tails id v at) read_facts
      (r.opens id v at) (r.floors id v at)
      (let still = still_chained r id at reader.learned v.tail v.round reader.clock in
      record { nodes = still.nodes; least_previous = still.least_previous; least_heads = still.least_heads }) (r.registry.each id v at)

-- a load of a word of a published region
pub read_word_allowed : (given k : Key) → given ≡ k → (size id : ℕ) (me : Sat) (x : Found) (o i : ℕ)
    → me.0.about ≡ k → CanReadWord me.0 x o → i ≡ log_at k + (x.line * 4 + o - k.line * 4)
    → Allows (Ruled given) size id me i (λ n. n) (told_read_word (step size i 0 0 none) me)
read_word_allowed given k same size id me x o i about can is =
    allowed given k same size id me i (λ n. n) (told_read_word (step size i 0 0 none) me) (λ ws vs wide r at.
    let w : World = world k ws vs in
    let word : ℕ = get_or ws i 0 in
    let facts = r.facts id me.0 at in
    let found = all_among (IsFound k w.count w.dir r.start) x me.0.learned.found facts.found can.found in
    let p : ℕ = x.line * 4 + o in
    let line = found.line in
    let lines = found.lines in
    let inside = can.inside in
    let from = starts_above k w.count w.line r.start r.space.regions x.number found.above
    (let b = found.below in omega arith) in
    let t = region_found r x found in
    let end = kind-inside k.end (r.start x.number) (r.start (suc x.number)) (λ e. can.words (sym t.1 ∙ e)) in
    let here : word ≡ w.log p = ap (λ (z : ℕ). get_or ws z 0) is
    ∙ sym (area-in ws (log_at k) (k.line * 4) (log_size k) p (omega arith) (omega arith)) in
    let v' : View = after_read_word me.0 p word in
    let kept : Rule k (record w { views = set vs id v' }) =
    subst (λ (z : ℕ). Rule k (record w { views = set vs id (after_read_word me.0 p z) })) (sym here)
    (read_word_lasts r id at x o can).0 in
    let index : place_at me.0.about i ≡ p = ap (λ (z : Key). place_at z i) about ∙ (omega arith) in (
      v',
      loaded_words k ws (set vs id v') i kept,
      subst (λ (z : ℕ). Told me (after_read_word me.0 z word) (v', me.1)) (sym index)
          (record { view = refl; held = refl; stands = stands k _ id v' kept about (there vs id me.0 v' at) }),
    ))
