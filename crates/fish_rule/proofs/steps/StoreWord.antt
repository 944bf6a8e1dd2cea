-- `store_word`: a store of the next word of the region in flight.
use Rattle.std.proofs.Common.{◌≡◌, ℕ, ◌+◌, ◌*◌, ◌<◌, suc, List, [], ◌∷◌, ◌++◌, length, set, ap, sym, subst, arith}
use Rattle.std.proofs.Common.{length-append, ◌-◌, ◌≤◌, refl, ◌∙◌}
use Rattle.std.proofs.Math.Seq.{get_or-append_seam}
use Rattle.std.proofs.lemmas.List.{get_or_append_left}
use Rattle.fish_rule.proofs.basics.Context.{Final, Flight, Key, Rule, View, World, get_elem?, none, some}
use Rattle.fish_layout.specs.Cleared.{IsKeyWord}
use Rattle.fish_layout.specs.Header.{keys_of}
use Rattle.fish_rule.proofs.basics.Stores.{Becomes}
use Rattle.fish_rule.proofs.classes.OwnWords.{write_kept, write_lasts}
use Rattle.fish_rule.proofs.basics.Flights.{flight_is}
use Rattle.fish_rule.specs.Regions.{kind_of}
use Rattle.fish_rule.specs.SpaceSteps.{CanStoreWord, after_store_word, ticked}
use Rattle.fish_rule.specs.World.{body, put, log_at, world}
use Rattle.fish_rule.specs.declared.view.Kind.TheVariants.{Void}
use Rattle.atomic_table.specs.Table.{Allows, step}
use Rattle.fish_rule.proofs.basics.Regions.{starts_above}
use Rattle.fish_rule.proofs.basics.Worlds.{world-log}
use Rattle.fish_rule.specs.Table.{Ruled, Sat, IsOfMoment}
use Rattle.fish_rule.specs.Told.{told_store_word}
use Rattle.fish_rule.proofs.classes.Allowed.{allowed, stands, there}

module _ {k : Key} {w : World} (r : Rule k w) (id : ℕ) {v : View} (at : get_elem? w.views id ≡ some v) (f : Flight)
    (can : CanStoreWord v f) (x : ℕ) where
  -- the place of the word
  abbrev pub stored_place : ℕ
  stored_place = f.line * 4 + length f.words

  -- the world afterwards
  abbrev pub stored : World
  stored = record w { log = put w.log stored_place x; views = set w.views id (after_store_word v f x) }

  -- one word more
  becomes : Becomes (f.lines * 4) f.linked (length f.words) x
      (IsKeyWord (keys_of (body w.log f.line 0)) (length f.words)) (kind_of k.end f.line (f.line + f.lines) ≡ Void)
      f.words (f.words ++ x ∷ [])
  becomes = record {
    within = can.more;
    unlinked = λ h. let less : h.0 < f.linked = h.1 in let none = can.unlinked in absurd (omega arith);
    fits = (let e = longer in let more = can.more in omega arith);
    longer = (let e = longer in omega arith);
    here = (let e = longer in omega arith);
    value = get_or-append_seam f.words x [] 0;
    same = λ i ne less. let e = longer in let before : i < length f.words = omega arith in
        (before, get_or_append_left f.words (x ∷ []) 0 i before);
    linking = λ some_. let none = can.unlinked in absurd (omega arith);
    header = λ void.
        let about : v.about ≡ k = r.about id v at (flight_is r id at f can.flying).live in
        let none = ap (λ (z : List ℕ). length z) (can.header
        (subst (λ (z : Key). kind_of z.end f.line (f.line + f.lines) ≡ Void) (sym about) void)) in
        let e = longer in omega arith;
  }
    where
      longer : length (f.words ++ x ∷ []) ≡ suc (length f.words)
      longer = (let e = length-append f.words (x ∷ []) in omega arith)

  -- a fill keeps the rule
  pub store_word_kept : Rule k stored
  store_word_kept = write_kept r id at f can.flying (length f.words) x (f.words ++ x ∷ []) (ticked v.clock) becomes

  -- and all that lasts
  pub store_word_lasts : Final k r.start store_word_kept.start r.lane_of store_word_kept.lane_of w stored
  unfolding store_word_kept
  store_word_lasts = write_lasts r id at f can.flying (length f.words) x (f.words ++ x ∷ []) (ticked v.clock) becomes

-- a store of the next word of the region in flight
pub store_word_allowed : (given k : Key) → given ≡ k → (size id : ℕ) (me : Sat) (f : Flight) (i x : ℕ)
    → me.0.about ≡ k → CanStoreWord me.0 f → i ≡ log_at k + (f.line * 4 + length f.words - k.line * 4)
    → Allows (Ruled given) size id me i (λ _. x) (λ _. told_store_word (step size i x 0 none) me x)
store_word_allowed given k same size id me f i x about can is =
    allowed given k same size id me i (λ _. x) (λ _. told_store_word (step size i x 0 none) me x) (λ ws vs wide r at.
    let w : World = world k ws vs in
    let v' : View = after_store_word me.0 f x in
    let own = flight_is r id at f can.flying in
    let p : ℕ = stored_place r id at f can x in
    let from = starts_above k w.count w.line r.start r.space.regions f.number own.above
    (let b = own.below in omega arith) in
    let line = own.line in
    let more = can.more in
    let end : f.line + f.lines ≤ k.end = subst (λ (z : Key). f.line + f.lines ≤ z.end) about can.within in
    let kept = store_word_kept r id at f can x in
    let moved = world-log k ws vs (set vs id v') p i x (omega arith) (omega arith) is wide in (
      v',
      subst (Rule k) (sym moved) kept,
      λ g flying.
          let e : f ≡ g = Rattle.fish_rule.proofs.basics.Flights.one_flight f g (sym can.flying ∙ flying) in
          record {
            view = ap (λ (z : Flight). after_store_word me.0 z x) e;
            held = refl;
            stands = subst (λ (z : Flight). IsOfMoment (after_store_word me.0 z x)) e
                (stands k _ id v' kept about (there vs id me.0 v' at));
          },
    ))
