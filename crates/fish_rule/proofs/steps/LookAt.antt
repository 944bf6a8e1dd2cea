-- `look_at`: a load of a directory word.
use Rattle.std.proofs.Common.{◌≡◌, ◌≢◌, ℕ, ◌+◌, ◌-◌, ◌*◌, ◌<◌, ◌≤◌, zero, suc, set, sym, refl, ap, ◌∙◌, subst, arith}
use Rattle.std.proofs.Common.{Some, None, Option, get_or}
use Rattle.fish_rule.proofs.basics.Context.{Among, Flight, Found, Key, Kind, Rule, View, World, get_elem?, none, some}
use Rattle.fish_rule.proofs.basics.Bodies.{tail_is, published}
use Rattle.fish_rule.proofs.basics.Lists.{all_among, only_control}
use Rattle.fish_rule.proofs.classes.OtherViews.{one_view}
use Rattle.fish_rule.proofs.basics.Lasts.{Lasts}
use Rattle.fish_rule.specs.Parts.{Flies}
use Rattle.fish_rule.proofs.classes.OpensStay.{opens_looked}
use Rattle.fish_rule.specs.Facts.{IsFound}
use Rattle.fish_rule.specs.Regions.{code, dir_word, kind_of}
use Rattle.fish_rule.specs.LoadSteps.{CanLookAt, IsAlone, after_look_at, found_after, kind_told}
use Rattle.fish_rule.specs.Views.{AllOf, IsFlightOf}
use Rattle.fish_rule.specs.World.{high, low, dir_at, slots, world}
use Rattle.fish_rule.specs.declared.view.Kind.TheVariants.{Mark, Stored, Void}
use Rattle.fish_rule.proofs.classes.Loads.{learn_lasts, still_chained}
use Rattle.fish_rule.proofs.basics.Regions.{few_slots}
use Rattle.fish_rule.proofs.basics.Worlds.{area-in}
use Rattle.fish_rule.specs.Told.{ToldLookAt, number_at}
use Rattle.fish_rule.proofs.classes.Allowed.{Allows, Ruled, Sat, Told, allowed, loaded_words, stands, step, there}

module _ {k : Key} {w : World} (r : Rule k w) (id : ℕ) {v : View} (at : get_elem? w.views id ≡ some v) where
  -- the kind that a published word tells is its region's
  told : (x : ℕ) (kind : Kind) → x ≡ code kind → kind_told x ≡ kind
  told x Stored e = subst (λ (z : ℕ). kind_told z ≡ Stored) (sym e) refl
  told x Void e = subst (λ (z : ℕ). kind_told z ≡ Void) (sym e) refl
  told x Mark e = subst (λ (z : ℕ). kind_told z ≡ Mark) (sym e) refl

  -- the lines of a number's region
  abbrev pub lines_at : ℕ → ℕ
  lines_at n = r.start (suc n) - r.start n

  -- a load of a directory word
  pub look_at_lasts : (n x : ℕ) → CanLookAt v n → v.about ≡ k → x ≡ w.dir n
      → Lasts r (record w { views = set w.views id (after_look_at v n (lines_at n) x) })
  look_at_lasts n x can about is =
      let h = r.facts id v at in
      let u : View = after_look_at v n (lines_at n) x in
      let still = still_chained r id at u.learned v.tail v.round u.clock in
      let above : k.number ≤ n = subst (λ (z : Key). z.number ≤ n) about can.above in
      learn_lasts r id at u.learned v.tail v.round u.clock (r.tails id v at) (assumption (h, each x is))
      (opens_looked r id v at n x above is) (r.floors id v at) (assumption still) (r.registry.each id v at)
    where
      each : (x : ℕ) → x ≡ w.dir n → AllOf (IsFound k w.count w.dir r.start)
          (found_after n (lines_at n) x v.learned.found)
      each zero is = (r.facts id v at).found
      each (suc x) is =
          let counted = (r.facts id v at).counted in
          let below : n < w.count = (let b = can.below in omega arith) in
          let above : k.number ≤ n = subst (λ (z : Key). z.number ≤ n) about can.above in
          let f = r.space.finished n above below (λ e. let z : suc x ≡ 0 = is ∙ e in absurd (omega arith)) in
          let grows = r.space.regions.grows n above below in (
            record {
              above = above;
              below = below;
              kind = f.kind ∙ ap code (sym (told (high (suc x)) (kind_of k.end (r.start n) (r.start (suc n)))
                  (ap high is ∙ f.kind)));
              line = sym f.line ∙ ap low (sym is);
              lines = (let e : r.start (suc n) ≡ r.start n + lines_at n = omega arith in
                  e ∙ ap (λ (z : ℕ). z + lines_at n) (sym f.line ∙ ap low (sym is)));
            },
            (r.facts id v at).found,
          )

  -- a number that was found has the word that it had
  pub look_known : (n : ℕ) (x : ℕ) → x ≡ w.dir n → (f : Found) → Among f v.learned.found → f.number ≡ n
      → x ≡ dir_word f.kind f.line
  look_known n x is f among same =
      let found = all_among (IsFound k w.count w.dir r.start) f v.learned.found (r.facts id v at).found among in
      let finished = r.space.finished f.number found.above found.below (published (w.dir f.number) f.kind found.kind) in
      let line : low (w.dir f.number) ≡ f.line = finished.line ∙ found.line in
      let parts : low (w.dir f.number) + high (w.dir f.number) * 68719476736 ≡ w.dir f.number =
      tail_is (w.dir f.number) in
      is ∙ ap w.dir (sym same) ∙ sym parts ∙ ap (λ (z : ℕ × ℕ). z.0 + z.1 * 68719476736) (λ i. (line i, found.kind i))

  -- a pass that is alone finds every claimed number published
  pub look_alone : (n : ℕ) → CanLookAt v n → v.about ≡ k → IsAlone v → w.dir n ≢ 0
  look_alone n can about alone unset =
      let counted = (r.facts id v at).counted in
      let below : n < w.count = (let b = can.below in omega arith) in
      let above : k.number ≤ n = subst (λ (z : Key). z.number ≤ n) about can.above in
      let h = r.space.flying n above below unset in
      let live = flier h.view.flight h.flies (r.space.flights h.seat h.view h.at) in
      let here : h.seat ≡ id = only_control w.views id h.seat v h.view r.seats at h.at alone.control alone.all live in
      let same : h.view ≡ v = one_view w.views id h.view v
      (subst (λ (z : ℕ). get_elem? w.views z ≡ some h.view) here h.at) at in
      subst (λ (z : Option Flight). IsFlightOf n z) (ap (λ (z : View). z.flight) same ∙ alone.idle) h.flies
    where
      flier : {lane : ℕ} (o : Option Flight) → IsFlightOf n o
          → Flies k w.count w.dir w.log r.start r.lane_of lane o → 1 ≤ lane
      flier None h f = elim h [ ]
      flier (Some g) h f = f.live

-- a load of a directory word
pub look_at_allowed : (given k : Key) → given ≡ k → (size id : ℕ) (me : Sat) (n i : ℕ) → me.0.about ≡ k
    → CanLookAt me.0 n → i ≡ dir_at k + (n - k.number)
    → Allows (Ruled given) size id me i (λ n. n) (ToldLookAt (step size i 0 0 none) me)
look_at_allowed given k same size id me n i about can is =
    allowed given k same size id me i (λ n. n) (ToldLookAt (step size i 0 0 none) me) (λ ws vs wide r at.
    let w : World = world k ws vs in
    let x : ℕ = get_or ws i 0 in
    let counted = (r.facts id me.0 at).counted in
    let below : n < w.count = (let b = can.below in omega arith) in
    let above : k.number ≤ n = subst (λ (z : Key). z.number ≤ n) about can.above in
    let room = few_slots r in
    let word : x ≡ w.dir n = ap (λ (z : ℕ). get_or ws z 0) is
    ∙ sym (area-in ws (dir_at k) k.number (slots k) n above (omega arith)) in
    let lines : ℕ = lines_at r id at n in
    let v' : View = after_look_at me.0 n lines x in
    let kept = (look_at_lasts r id at n x can about word).0 in
    let index : number_at me.0.about i ≡ n = ap (λ (z : Key). number_at z i) about ∙ (omega arith) in (
      v',
      loaded_words k ws (set vs id v') i kept,
      record {
        lines = lines;
        told = subst (λ (z : ℕ). Told me (after_look_at me.0 z lines x) (v', me.1)) (sym index)
            (record { view = refl; held = refl; stands = stands k _ id v' kept about (there vs id me.0 v' at) });
        alone = λ alone none_. look_alone r id at n can about alone (sym word ∙ none_);
        known = λ f among same_. look_known r id at n x word f among (same_ ∙ index);
        sees = record {
          moment = w;
          rule = subst (λ (z : Key). Rule z w) (sym about) r;
          seat = id;
          at = at;
          is = word ∙ ap w.dir (sym index);
        };
      },
    ))
