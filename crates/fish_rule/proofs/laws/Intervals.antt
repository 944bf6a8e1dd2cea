-- What a pass knows of an interval says that its records are indexed.
use Rattle.std.proofs.Common.{◌≡◌, ◌+◌, ℕ, ◌%◌, ◌<◌, ◌≤◌, zero, suc, List, [], ◌∷◌, ◌++◌, filter, length, map, sym}
use Rattle.std.proofs.Common.{refl, ap, ◌-◌, ◌∙◌, subst, inl, inr, arith, Bool, true, false, cond, Some, option_map}
use Rattle.std.proofs.Common.{slice_get}
use Rattle.std.proofs.Math.Decide.{ℕ_discrete, dec_lt}
use Rattle.std.proofs.lemmas.Option.{same_Some, slice_get-map}
use Rattle.fish_catalog.specs.Listing.{active_texts, ended, ended_at, is_on, listed_in}
use Rattle.fish_catalog.specs.declared.listed.Listed.{Listed}
use Rattle.fish_layout.specs.Cleared.{choose}
use Rattle.fish_rule.proofs.basics.Lists.{all_among, there_is}
use Rattle.fish_rule.proofs.basics.Bodies.{published}
use Rattle.fish_rule.specs.Boundaries.{IsUnended}
use Rattle.fish_rule.proofs.basics.RegistryWords.{has_read}
use Rattle.fish_rule.proofs.basics.OneMoment.{stored_above}
use Rattle.fish_rule.proofs.basics.Context.{Among, Key, Rule, View, World, get_elem?, some}
use Rattle.fish_rule.specs.Intervals.{HasInterval, IntervalsAreIndexed, IntervalsStay, IsIndexed}
use Rattle.fish_rule.specs.Keys.{IsKeyedOf, text_of}
use Rattle.fish_rule.specs.Registry.{AreActiveAt, IsRegistered, KnowsDefinitions, definitions_at, made, op_at, row_in}
use Rattle.fish_rule.specs.Registry.{version_in}
use Rattle.fish_rule.specs.Regions.{code}
use Rattle.fish_rule.specs.World.{body, high, low}
use Rattle.fish_rule.specs.declared.view.Kind.TheVariants.{Stored}

-- a definition with its text among the active ones, where it is active
front : (x : Listed) (ls : List Listed) (b : Bool) → b ≡ true
    → Among {A = ℕ × List ℕ} (x.id, x.def) (map (λ (l : Listed). (l.id, l.def)) (cond b (x ∷ ls) ls))
front x ls true e = inl refl
front x ls false e = absurd cc

-- and one after another
behind : (t : ℕ × List ℕ) (x : Listed) (ls : List Listed) (b : Bool) → Among t (map (λ (l : Listed). (l.id, l.def)) ls)
    → Among t (map (λ (l : Listed). (l.id, l.def)) (cond b (x ∷ ls) ls))
behind t x ls true m = inr m
behind t x ls false m = m

-- the text of an active definition is among the active ones
pub among_active : (ls : List Listed) (i : ℕ) (l : Listed) → slice_get ls i ≡ Some l → l.active ≡ true
    → Among {A = ℕ × List ℕ} (l.id, l.def) (active_texts ls)
among_active [] i l there on = absurd cc
among_active (x ∷ ls) zero l there on =
    let e = same_Some x l there in
    subst (λ (z : Listed). Among {A = ℕ × List ℕ} (z.id, z.def) (active_texts (x ∷ ls))) e
    (front x (filter is_on ls) x.active (ap (λ (z : Listed). z.active) e ∙ on))
among_active (x ∷ ls) (suc i) l there on =
    behind (l.id, l.def) x (filter is_on ls) x.active (among_active ls i l there on)

-- an element of a list is one of the longer list
pub longer_at : {A : Type 0} (xs : List A) (y : A) (i : ℕ) (x : A) → slice_get xs i ≡ Some x
    → slice_get (xs ++ y ∷ []) i ≡ Some x
longer_at [] y i x there = absurd cc
longer_at (z ∷ xs) y zero x there = there
longer_at (z ∷ xs) y (suc i) x there = longer_at xs y i x there

-- a definition that ends keeps its text
text_ended : (l : Listed) (n : ℕ) → (choose (ℕ_discrete l.id n) (ended l) l).def ≡ l.def
text_ended l n = by (ℕ_discrete l.id n)
  where
    by : (d : Dec (l.id ≡ n)) → (choose d (ended l) l).def ≡ l.def
    by (yes e) = refl
    by (no ne) = refl

-- a listing keeps its texts
text_made : (g : ℕ → ℕ) (x : ℕ) (ls : List Listed) (i : ℕ) (l : Listed) → slice_get ls i ≡ Some l
    → (m : Listed) × (slice_get (made g x ls) i ≡ Some m) × (m.def ≡ l.def)
text_made g x ls i l there = by (dec_lt x 512)
  where
    by : (d : Dec (x < 512)) → (m : Listed) × (slice_get (choose d (ls ++ listed_in (row_in g (length ls)) (length ls) true
        ∷ []) (ended_at (x % 256) ls)) i ≡ Some m) × (m.def ≡ l.def)
    by (yes h) = (l, longer_at ls (listed_in (row_in g (length ls)) (length ls) true) i l there, refl)
    by (no h) = (
      choose (ℕ_discrete l.id (x % 256)) (ended l) l,
      slice_get-map (λ (z : Listed). choose (ℕ_discrete z.id (x % 256)) (ended z) z) ls i
          ∙ ap (option_map (λ (z : Listed). choose (ℕ_discrete z.id (x % 256)) (ended z) z)) there,
      text_ended l (x % 256),
    )

-- so a later version has the text under the id
text_later : (k : Key) (g : ℕ → ℕ) (u v i : ℕ) (l : Listed) → u ≤ v → slice_get (definitions_at k g u) i ≡ Some l
    → (m : Listed) × (slice_get (definitions_at k g v) i ≡ Some m) × (m.def ≡ l.def)
text_later k g u zero i l less there =
    (let e : u ≡ 0 = omega arith in (l, subst (λ (z : ℕ). slice_get (definitions_at k g z) i ≡ Some l) e there, refl))
text_later k g u (suc v) i l less there = by (dec_lt v u) (λ h. text_later k g u v i l h there)
  where
    once : (m : Listed) → slice_get (definitions_at k g v) i ≡ Some m → (d : Dec (v < k.version))
        → (n : Listed) × (slice_get (choose d (definitions_at k g v)
        (made g (g (op_at (suc v))) (definitions_at k g v))) i ≡ Some n) × (n.def ≡ m.def)
    once m at_ (yes h) = (m, at_, refl)
    once m at_ (no h) = text_made g (g (op_at (suc v))) (definitions_at k g v) i m at_

    by : Dec (v < u) → (u ≤ v → (m : Listed) × (slice_get (definitions_at k g v) i ≡ Some m) × (m.def ≡ l.def))
        → (m : Listed) × (slice_get (definitions_at k g (suc v)) i ≡ Some m) × (m.def ≡ l.def)
    by (yes h) rest = (let e : u ≡ suc v = omega arith in
        (l, subst (λ (z : ℕ). slice_get (definitions_at k g z) i ≡ Some l) e there, refl))
    by (no h) rest =
        let old = rest (omega arith) in
        let new = once old.0 old.1 (dec_lt v k.version) in
        (new.0, new.1, new.2 ∙ old.2)

-- the text of an active definition is that under its id
active_text : (ls us : List Listed) (n : ℕ) (id : ℕ) (text t : List ℕ)
    → ((i : ℕ) (l : Listed) → slice_get us i ≡ Some l → (slice_get ls (n + i) ≡ Some l) × (l.id ≡ n + i))
    → ((l : Listed) → slice_get ls id ≡ Some l → l.def ≡ text)
    → Among {A = ℕ × List ℕ} (id, t) (active_texts us) → t ≡ text
active_text ls [] n id text t there is m = elim m [ ]
active_text ls (x ∷ us) n id text t there is m =
    by (λ behind_. active_text ls us (suc n) id text t rest is behind_) x.active m
  where
    first : (slice_get ls n ≡ Some x) × (x.id ≡ n)
    first = (let h = there 0 x refl in let e : n + 0 ≡ n = omega arith in
        (subst (λ (z : ℕ). slice_get ls z ≡ Some x) e h.0, h.1 ∙ e))

    rest : (i : ℕ) (l : Listed) → slice_get us i ≡ Some l → (slice_get ls (suc n + i) ≡ Some l) × (l.id ≡ suc n + i)
    rest i l at = (let h = there (suc i) l at in let e : n + suc i ≡ suc n + i = omega arith in
        (subst (λ (z : ℕ). slice_get ls z ≡ Some l) e h.0, h.1 ∙ e))

    here : ◌≡◌ {A = ℕ × List ℕ} (x.id, x.def) (id, t) → t ≡ text
    here e = let same : x.id ≡ id = ap (λ (z : ℕ × List ℕ). z.0) e in
        sym (ap (λ (z : ℕ × List ℕ). z.1) e)
        ∙ is x (subst (λ (z : ℕ). slice_get ls z ≡ Some x) (sym first.1 ∙ same) first.0)

    by : (Among {A = ℕ × List ℕ} (id, t) (active_texts us) → t ≡ text) → (b : Bool)
        → Among {A = ℕ × List ℕ} (id, t) (map (λ (l : Listed). (l.id, l.def)) (cond b (x ∷ filter is_on us) (filter is_on us)))
        → t ≡ text
    by others true (inl e) = here e
    by others true (inr m) = others m
    by others false m = others m

-- each record of an interval has the keys of a version with the definition
pub intervals_indexed : IntervalsAreIndexed
intervals_indexed v w seat id from below n r at h above after before stored =
    let k : Key = v.about in
    let g : ℕ → ℕ = w.registry in
    let reg = r.registry.each seat v at in
    let word = all_among (IsRegistered k g) _ v.learned.words reg.read h.begins in
    let known = all_among (IsUnended k w.count g r.version_of) h.unended v.learned.unended reg.unended h.among in
    let upto = h.upto in
    let within = known.within in
    let claimed : n < w.count = omega arith in
    let u : ℕ = r.version_of n in
    let reached = r.registry.versions.upto n above claimed in
    let listed = there_is (definitions_at k g u) id
    (r.registry.boundaries.begun id from n h.few word.word above after claimed) in
    let on : listed.0.active ≡ true = known.running n above (omega arith) listed.0
    (subst (λ (z : ℕ). slice_get (definitions_at k g u) z ≡ Some listed.0) (sym h.of) listed.1) in
    let is_id : listed.0.id ≡ id = (r.registry.versions.listings u reached).ids id listed.0 listed.1 in
    let now = text_later k g u (version_in g) id listed.0 reached listed.1 in
    let line : low (w.dir n) ≡ r.start n =
    (r.space.finished n above claimed (published (w.dir n) Stored stored)).line in
    let keyed = r.keyed.each n above claimed stored in
    let here : IsKeyedOf (AreActiveAt k g) u (r.lane_of n) n (r.start (suc n) - r.start n) (body w.log (low (w.dir n)))
    keyed.0 = subst (λ (z : ℕ). IsKeyedOf (AreActiveAt k g) u (r.lane_of n) n (r.start (suc n) - r.start n)
    (body w.log z) keyed.0) (sym line) keyed.1 in
    let texts : active_texts (definitions_at k g u) ≡ map text_of here.keys.defs =
    ap (λ (z : ℕ). active_texts (definitions_at k g z)) (sym here.version_is) ∙ here.keys.are.1 in (
      now.0,
      now.1,
      record {
        version = u;
        lane = r.lane_of n;
        lines = r.start (suc n) - r.start n;
        parts = keyed.0;
        keyed = here;
        active = subst (Among {A = ℕ × List ℕ} (id, now.0.def)) texts
            (subst (λ (z : ℕ × List ℕ). Among z (active_texts (definitions_at k g u)))
            (λ i. (is_id i, sym now.2 i)) (among_active (definitions_at k g u) id listed.0 listed.1 on));
        only = λ t m. active_text (definitions_at k g u) (definitions_at k g u) 0 id now.0.def t
            (λ i l at_. (
              subst (λ (z : ℕ). slice_get (definitions_at k g u) z ≡ Some l) (omega arith) at_,
              (r.registry.versions.listings u reached).ids i l at_ ∙ (omega arith),
            ))
            (λ l at_. ap (λ (z : Listed). z.def) (same_Some l listed.0 (sym at_ ∙ listed.1)) ∙ sym now.2)
            (subst (Among {A = ℕ × List ℕ} (id, t)) (sym texts) m);
      },
    )

-- and an interval stays known
pub intervals_stay : IntervalsStay
intervals_stay v u id from below learns h = record {
  few = h.few;
  begins = learns.words _ h.begins;
  unended = h.unended;
  among = learns.unended h.unended h.among;
  of = h.of;
  upto = h.upto;
}

-- so by a row that a pass knows, each record of an interval has the keys of a version at which the row's text is active
pub known_indexed : (v : View) (w : World) (seat id from below n version : ℕ) (rows : List Listed) (l : Listed)
    → Rule v.about w → get_elem? w.views seat ≡ some v → HasInterval v id from below
    → KnowsDefinitions v.about v.learned version rows → slice_get rows id ≡ Some l → from ≤ n → n < below
    → high (w.dir n) ≡ code Stored → IsIndexed v.about w id l.def n
known_indexed v w seat id from below n version rows l r at h knows there after before stored =
    let k : Key = v.about in
    let g : ℕ → ℕ = w.registry in
    let reg = r.registry.each seat v at in
    let are : definitions_at k g version ≡ rows = knows.are g (has_read k g v.learned.words reg.read) in
    let reached : version ≤ version_in g = (let a = knows.reached in let b = reg.reached in omega arith) in
    let now = text_later k g version (version_in g) id l reached
    (subst (λ (z : List Listed). slice_get z id ≡ Some l) (sym are) there) in
    let i = intervals_indexed v w seat id from below n r at h (stored_above r n stored) after before stored in
    let same : i.0.def ≡ l.def = ap (λ (z : Listed). z.def) (same_Some i.0 now.0 (sym i.1 ∙ now.1)) ∙ now.2 in
    subst (λ (z : List ℕ). IsIndexed k w id z n) same i.2
