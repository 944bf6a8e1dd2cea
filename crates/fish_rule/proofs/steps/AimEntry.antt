-- `aim_entry`: a store of the first word of the own entry that is next to be linked.
use Rattle.std.proofs.Common.{◌≡◌, ℕ, ◌+◌, ◌-◌, ◌*◌, ◌%◌, ◌<◌, ◌≤◌, length, get_or, set, sym, refl, ap, ◌∙◌, subst}
use Rattle.std.proofs.Common.{arith, get_or-set_other, get_or-set_same, length-set, Some}
use Rattle.fish_rule.proofs.basics.Context.{Final, Flight, Key, Rule, View, World, get_elem?, none, some}
use Rattle.std.proofs.lemmas.Nat.{mod-mul-add}
use Rattle.atomic_table.specs.Table.{Allows, step}
use Rattle.fish_layout.proofs.Spelled.{roomy, spelled_keys}
use Rattle.fish_layout.specs.Body.{body_lines}
use Rattle.fish_layout.specs.Cleared.{IsKeyWord, body_of, entry_at}
use Rattle.fish_layout.specs.Header.{keys_of}
use Rattle.fish_rule.proofs.classes.Allowed.{allowed, stands, there}
use Rattle.fish_rule.proofs.basics.Bodies.{body_stored, kind-inside}
use Rattle.fish_rule.proofs.basics.Regions.{starts_above}
use Rattle.fish_rule.proofs.basics.Flights.{one_flight, flight_is}
use Rattle.fish_rule.proofs.basics.Stores.{Becomes}
use Rattle.fish_rule.proofs.classes.OwnWords.{write_kept, write_lasts}
use Rattle.fish_rule.proofs.basics.Worlds.{world-log}
use Rattle.fish_rule.specs.ChainSteps.{CanAimEntry, HasBody, after_aim_entry, own_place, aimed_at}
use Rattle.fish_rule.specs.Regions.{IsRecord, kind_of}
use Rattle.fish_layout.proofs.Clearing.{cleared_head, cleared_same}
use Rattle.fish_rule.specs.Told.{told_aim_entry}
use Rattle.fish_rule.specs.Parts.{InFlight}
use Rattle.fish_rule.specs.SpaceSteps.{ticked}
use Rattle.fish_rule.specs.Table.{Ruled, Sat, IsOfMoment}
use Rattle.fish_rule.specs.World.{body, log_at, log_size, put, world}
use Rattle.fish_rule.specs.declared.view.Kind.TheVariants.{Mark, Stored, Void}
use Rattle.fish_rule.specs.Flying.{region_in}

-- words that are filled are those of a record
pub body_record : (v : View) (f : Flight) → HasBody v f → IsRecord v.lane f.number f.lines (body_of f.words)
body_record v f h = (h.keyed.0, h.keyed.1.record_of)

module _ {k : Key} {w : World} (r : Rule k w) (id : ℕ) {v : View} (at : get_elem? w.views id ≡ some v) (f : Flight)
    (can : CanAimEntry v f) where
  -- what is so of the record in flight
  own : InFlight k w.count w.dir w.log r.start r.lane_of v.lane f
  own = flight_is r id at f can.flying

  -- the region has a line
  lines_some : 1 ≤ f.lines
  lines_some = (let g = r.space.regions.grows f.number own.above own.below in let a = own.line in
      let b = own.lines in omega arith)

  -- the record in flight stands in the log
  pub own_body : body w.log f.line ≡ body_of f.words
  own_body = body_stored w.log f.words v.lane f.number f.lines f.line f.linked (body_record v f can.body) can.full lines_some
      (let m = can.more in omega arith) own.written

  -- the entry is within the region
  pub own_room : entry_at f.linked < f.lines * 4
  own_room =
      let p = body_record v f can.body in
      let keys : keys_of (body_of f.words 0) ≡ length p.0.keys = spelled_keys p.1.spells in
      let lines = p.1.lines_is in
      let room : 1 + 3 * length p.0.keys ≤ body_lines p.0 * 4 = roomy p.0 in
      let more = can.more in
      omega arith

  -- its first word is a key word
  own_key : IsKeyWord (keys_of (body w.log f.line 0)) (entry_at f.linked)
  own_key =
      let more = can.more in
      let e : 1 + 3 * f.linked ≡ f.linked * 3 + 1 = omega arith in
      subst (λ (z : ℕ → ℕ). IsKeyWord (keys_of (z 0)) (entry_at f.linked)) (sym own_body)
      (omega arith, ap (λ (z : ℕ). z % 3) e ∙ mod-mul-add f.linked 3 1 (omega arith))

  module _ (x : ℕ) where
    -- it stands for no body's word
    aimed_body : body_of (set f.words (entry_at f.linked) x) ≡ body_of f.words
    aimed_body =
        let head : body w.log f.line 0 ≡ get_or f.words 0 0 =
        ap (λ (z : ℕ → ℕ). z 0) own_body ∙ cleared_head (λ i. get_or f.words i 0) in
        cleared_same (λ i. get_or f.words i 0) (λ i. get_or (set f.words (entry_at f.linked) x) i 0) (λ i within plain.
        get_or-set_other f.words (entry_at f.linked) i x 0
        (λ e. plain (subst (λ (z : ℕ × ℕ). IsKeyWord (keys_of z.0) z.1) (λ j. (head j, sym e j)) own_key)))

    -- one word is another
    pub becomes : Becomes (f.lines * 4) f.linked (entry_at f.linked) x
        (IsKeyWord (keys_of (body w.log f.line 0)) (entry_at f.linked))
        (kind_of k.end f.line (f.line + f.lines) ≡ Void) f.words (set f.words (entry_at f.linked) x)
    becomes =
        let full = can.full in
        let room = own_room in
        let same_length = length-set f.words (entry_at f.linked) x in
        record {
          within = room;
          unlinked = λ h. let less : h.0 < f.linked = h.1 in let e : entry_at f.linked ≡ entry_at h.0 = h.2 in
              absurd (omega arith);
          fits = omega arith;
          longer = omega arith;
          here = omega arith;
          value = get_or-set_same f.words (entry_at f.linked) x 0 (omega arith);
          same = λ i ne less. (omega arith, get_or-set_other f.words (entry_at f.linked) i x 0 ne);
          linking = λ some_. (own_key, same_length, aimed_body);
          header = λ void. (let few = own.header void in omega arith);
        }

    -- the world afterwards
    abbrev pub aimed : World
    aimed = record w { log = put w.log (own_place f) x; views = set w.views id (after_aim_entry v f x) }

    -- an aim keeps the rule
    pub aim_entry_kept : Rule k aimed
    aim_entry_kept = write_kept r id at f can.flying (entry_at f.linked) x (set f.words (entry_at f.linked) x)
        (ticked v.clock) becomes

    -- and all that lasts
    pub aim_entry_lasts : Final k r.start aim_entry_kept.start r.lane_of aim_entry_kept.lane_of w aimed
    unfolding aim_entry_kept
    aim_entry_lasts = write_lasts r id at f can.flying (entry_at f.linked) x
        (set f.words (entry_at f.linked) x) (ticked v.clock) becomes

  -- the place is within the log's words
  pub own_within : (k.line * 4 ≤ own_place f) × (own_place f < k.line * 4 + log_size k)
  own_within =
      let line = own.line in
      let lines = own.lines in
      let room = own_room in
      let from = starts_above k w.count w.line r.start r.space.regions f.number own.above
      (let b = own.below in omega arith) in
      let end : f.line + f.lines ≤ v.about.end =
      kind-inside v.about.end f.line (f.line + f.lines) (λ e. let q : Stored ≡ Mark = sym can.kind ∙ e in cc) in
      let about : v.about ≡ k = r.about id v at own.live in
      let end' : f.line + f.lines ≤ k.end = subst (λ (z : Key). f.line + f.lines ≤ z.end) about end in
      (omega arith, omega arith)

-- the table allows it
pub aim_entry_allowed : (given k : Key) → given ≡ k → (size id : ℕ) (me : Sat) (f : Flight) (i x : ℕ)
    → me.0.about ≡ k → CanAimEntry me.0 f → i ≡ log_at k + (own_place f - k.line * 4)
    → Allows (Ruled given) size id me i (λ _. x) (λ _. told_aim_entry (step size i x 0 none) me x)
aim_entry_allowed given k same size id me f i x about can is =
    allowed given k same size id me i (λ _. x) (λ _. told_aim_entry (step size i x 0 none) me x) (λ ws vs wide r at.
    let w : World = world k ws vs in
    let v' : View = after_aim_entry me.0 f x in
    let within = own_within r id at f can in
    let kept = aim_entry_kept r id at f can x in
    let moved = world-log k ws vs (set vs id v') (own_place f) i x within.0 within.1 is wide in (
      v',
      subst (Rule k) (sym moved) kept,
      λ g flying.
          let e : f ≡ g = one_flight f g (sym can.flying ∙ flying) in
          record {
            view = ap (λ (z : Flight). after_aim_entry me.0 z x) e;
            held = refl;
            stands = subst (λ (z : Flight). IsOfMoment (after_aim_entry me.0 z x)) e
                (stands k _ id v' kept about (there vs id me.0 v' at));
          },
    ))

-- an aim keeps the region
pub region_aim : (f : Flight) (x : ℕ) → region_in (Some (aimed_at f x)) ≡ region_in (Some f)
region_aim f x = refl
