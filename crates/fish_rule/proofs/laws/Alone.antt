-- What the control pass, alone, concludes of the whole log.
use Rattle.std.proofs.Common.{◌≡◌, ◌≢◌, ℕ, ◌+◌, ◌≤◌, zero, suc, List, [], ◌∷◌, ◌++◌, length, refl, sym, ap, ◌∙◌, subst}
use Rattle.std.proofs.Common.{inl, inr, arith, Some, None, Option}
use Rattle.fish_rule.proofs.basics.Context.{Among, Found, Key, Rule, View, World, get_elem?, some}
use Rattle.fish_catalog.specs.declared.entry.Entry.{Entry}
use Rattle.fish_catalog.specs.declared.entry.Entry.TheVariants as entry
use Rattle.fish_rule.proofs.basics.Bodies.{code_once, mark-past, published}
use Rattle.fish_rule.proofs.basics.Lists.{all_among}
use Rattle.fish_rule.proofs.basics.OneMoment.{claimed}
use Rattle.fish_rule.proofs.basics.Regions.{starts_rise}
use Rattle.fish_rule.proofs.laws.Learning.{extends_look, found_here, learns_both, learns_self}
use Rattle.fish_rule.specs.ClosedLog.{IsClosed, IsClosedAt, ReadsOn}
use Rattle.fish_rule.specs.Logs.{AreKnown, Extends, Learns, KnowsAs, KnowsMark}
use Rattle.fish_rule.specs.Parts.{RestsAt, quotas}
use Rattle.fish_rule.specs.Facts.{Facts, IsFound, IsFactKnown, IsRecorded, Owns}
use Rattle.fish_rule.specs.Regions.{code, kind_of}
use Rattle.fish_rule.specs.LoadSteps.{IsAlone, after_look_at, kind_told}
use Rattle.fish_rule.specs.Table.{IsOfMoment}
use Rattle.fish_rule.specs.Views.{AllOf, IsOver}
use Rattle.fish_rule.specs.Gaps.{IsGap, IsLabel}
use Rattle.fish_rule.specs.World.{high, low}
use Rattle.fish_rule.specs.declared.close.Remains.{Remains}
use Rattle.fish_rule.specs.declared.view.Kind.TheVariants.{Mark, Void}
use Rattle.fish_rule.specs.declared.view.Own.{Own}
use Rattle.fish_rule.specs.declared.view.Position.{Position}

-- ---- one number

-- a region that was found is published with its kind in every moment
pub found_kind : (v : View) (f : Found) → Among f v.learned.found → (u : View) → Learns v u → (w : World)
    → Rule u.about w → (j : ℕ) → get_elem? w.views j ≡ some u → high (w.dir f.number) ≡ code f.kind
found_kind v f among u learns w r j at =
    (all_among (IsFound u.about w.count w.dir r.start) f u.learned.found (r.facts j u at).found
    (learns.found f among)).kind

-- what is told stays told
pub knows_as_later : (v u : View) (n : ℕ) (e : Entry) → Learns v u → KnowsAs v n e → KnowsAs u n e
knows_as_later v u n e learns tells x more = tells x (learns_both v u x learns more)

-- ---- the entries so far

-- what holds of each element of a list by its place, and of one more, holds of each of the longer list
module _ {A : Type 0} where
  -- what is so of each of a list and of one more is so of each of the longer list
  pub each_more : (P : ℕ → A → Type 0) (xs : List A) (y : A)
      → ((i : ℕ) (x : A) → get_elem? xs i ≡ some x → P i x) → P (length xs) y
      → (i : ℕ) (x : A) → get_elem? (xs ++ y ∷ []) i ≡ some x → P i x
  each_more P xs y old next i x at = pick (Rattle.std.proofs.Math.Decide.ℕ_discrete i (length xs))
    where
      last : get_elem? (xs ++ y ∷ []) (length xs) ≡ some y
      last = Rattle.atomic_table.proofs.Lists.at_last xs y (length xs) refl

      pick : Dec (i ≡ length xs) → P i x
      pick (yes same) =
          let here : y ≡ x = mathlib.Core.Option.some-injective y x
          (sym last ∙ ap (get_elem? (xs ++ y ∷ [])) (sym same) ∙ at) in
          subst (λ (z : ℕ × A). P z.0 z.1) (λ d. (sym same d, here d)) next
      pick (no ne) = old i x (before xs i ne at)
        where
          before : (zs : List A) (m : ℕ) → m ≢ length zs → get_elem? (zs ++ y ∷ []) m ≡ some x
              → get_elem? zs m ≡ some x
          before [] zero n g = absurd (n refl)
          before [] (suc m) n g = absurd (mathlib.Core.Option.some-ne-none x (sym g))
          before (z ∷ zs) zero n g = g
          before (z ∷ zs) (suc m) n g = before zs m (λ h. n (ap suc h)) g

-- entries stay told, and one more is
pub told_more : (v u : View) (base : ℕ) (entries : List Entry) (e : Entry) → Learns v u
    → AreKnown v base entries → KnowsAs u (base + length entries) e → AreKnown u base (entries ++ e ∷ [])
told_more v u base entries e learns told next = each_more (λ i x. KnowsAs u (base + i) x) entries e
    (λ i x at. knows_as_later v u (base + i) x learns (told i x at)) next

-- ---- the whole

module _ {A : Type 0} where
  -- what holds of each element of a list holds of all
  pub all_from : (P : A → Type 0) (xs : List A) → ((x : A) → Among x xs → P x) → AllOf P xs
  all_from P [] f = tt
  all_from P (x ∷ xs) f = (f x (inl refl), all_from P xs (λ y m. f y (inr m)))

-- what a view has learned holds where it holds of a view that knows as much
pub facts_back : (v u : View) (k : Key) (count : ℕ) (dir log start : ℕ → ℕ) → Learns v u
    → Facts k count dir log start u.learned → Facts k count dir log start v.learned
facts_back v u k count dir log start learns h =
    let a = learns.count in
    let b = h.counted in
    record {
      counted = omega arith;
      found = all_from _ v.learned.found (λ x m. all_among
          (IsFound k count dir start) x u.learned.found h.found (learns.found x m));
      known = all_from _ v.learned.known (λ x m. all_among
          (IsFactKnown k count dir log start) x u.learned.known h.known (learns.known x m));
      records = all_from _ v.learned.records
          (λ x m. all_among (IsRecorded k count dir log start) x u.learned.records h.records (learns.records x m));
      gaps = all_from _ v.learned.gaps
          (λ x m. all_among (IsGap k count dir log start) x u.learned.gaps h.gaps (learns.gaps x m));
      labels = all_from _ v.learned.labels
          (λ x m. all_among (IsLabel k count dir log start) x u.learned.labels h.labels (learns.labels x m));
    }

-- ---- a look at one number

-- the region that a look finds
abbrev pub seen : ℕ → ℕ → ℕ → Found
seen n lines x = record { number = n; kind = kind_told (high x); line = low x; lines = lines }

-- it is found, where the word isn't 0
pub seen_here : (v u : View) (n lines x : ℕ) → u ≡ after_look_at v n lines x → x ≢ 0
    → Among (seen n lines x) u.learned.found
seen_here v u n lines x e ne = subst (λ (z : View). Among (seen n lines x) z.learned.found) (sym e)
    (found_here n lines x v.learned.found ne)

-- and the view is extended
pub extends_to_look : (v u : View) (n lines x : ℕ) → u ≡ after_look_at v n lines x → Extends v u
extends_to_look v u n lines x e = subst (Extends v) (sym e) (extends_look v n lines x)

-- a void is told
pub knows_void : (v : View) (f : Found) → Among f v.learned.found → f.kind ≡ Void → KnowsAs v f.number entry.Void
knows_void v f among is u learns w r j at = found_kind v f among u learns w r j at ∙ ap code is

-- a mark is told
pub knows_mark : (v : View) (f : Found) → Among f v.learned.found → f.kind ≡ Mark → KnowsMark v f.number
knows_mark v f among is u learns w r j at = found_kind v f among u learns w r j at ∙ ap code is

-- ---- the end

-- a tail that rests at one place rests at the same
rests_same : (a b c d : ℕ) (t : Option Position) → a ≡ c → b ≡ d → RestsAt a b t → RestsAt c d t
rests_same a b c d None e f h = tt
rests_same a b c d (Some t) e f h = (h.0 ∙ e, h.1 ∙ f)

-- what is closed for a view is closed for the one that it read on from
pub closed_before : (v u : View) (remains : Remains) → ReadsOn v u → IsClosed u remains → IsClosed v remains
closed_before v u remains on h =
    let w : World = h.moment in
    let x : ℕ = on.found in
    let lane : u.lane ≡ v.lane = ap (λ (z : View). z.lane) on.frame in
    let out : u.out ≡ v.out = ap (λ (z : View). z.out) on.frame in
    let own : u.own ≡ v.own = ap (λ (z : View). z.own) on.frame in
    let owns = subst (λ (z : ℕ × List ℕ × List Own). Owns u.about w.count w.dir h.rule.lane_of z.0 z.1 z.2)
    (λ i. (lane i, out i, own i)) h.owns in
    let facts = facts_back v u u.about w.count w.dir w.log h.rule.start on.learns h.facts in
    let here : RestsAt w.count w.line (Some (record { number = high x; line = low x })) =
    subst (RestsAt w.count w.line) on.tail h.rests in
    let there : RestsAt w.count w.line v.tail =
    rests_same (high x) (low x) w.count w.line v.tail here.0 here.1 on.rests in
    subst (λ (z : Key). IsClosedAt z (Learns v) v.lane v.out v.own v.rows v.tail v.learned remains) on.learns.about
    (record {
      moment = w;
      rule = h.rule;
      log = h.log;
      base = h.base;
      lines = h.lines;
      many_heads = h.many_heads;
      heads = h.heads;
      version = h.version;
      starts = h.starts;
      seat = h.seat;
      last = h.last;
      at = h.at;
      later = learns_both v u h.last on.learns h.later;
      lane_is = h.lane_is ∙ lane;
      out_is = h.out_is ∙ out;
      own_is = h.own_is ∙ own;
      rows_is = h.rows_is ∙ ap (λ (z : View). z.rows) on.frame;
      owns = owns;
      rests = there;
      facts = facts;
    })

-- a pass that only learns stays alone
pub alone_later : (v u : View) → Extends v u → IsAlone v → IsAlone u
alone_later v u e alone = record {
  control = ap (λ (z : View). z.lane) e.frame ∙ alone.control;
  all = ap (λ (z : View). z.out) e.frame ∙ alone.all;
  idle = ap (λ (z : View). z.flight) e.frame ∙ alone.idle;
}

-- ---- a log that isn't full

-- as many as the lanes, where each has one
quotas_all : (q : ℕ → ℕ) (l : ℕ) → ((n : ℕ) → 1 ≤ n → n ≤ l → q n ≡ 1) → quotas q l ≡ l
quotas_all q zero h = refl
quotas_all q (suc l) h =
    let before = quotas_all q l (λ n some_ few. h n some_ (omega arith)) in
    let last = h (suc l) (omega arith) (omega arith) in
    omega arith

-- while all lanes may still claim past the log's end, none has done so: no number is a mark
pub no_mark : (v : View) (n : ℕ) → IsOfMoment v → IsAlone v → v.shut ≡ None → v.about.number ≤ n → ¬ KnowsMark v n
no_mark v n s alone live above mark =
    let w : World = s.moment in
    let r = s.rule in
    let limit = r.limit in
    let may : (l : ℕ) → 1 ≤ l → l ≤ 16 → r.quota l ≡ 1 =
    λ l some_ few. limit.may s.seat v s.at l (some_, few, inr (alone.control, λ m. elim (subst (Among l) alone.all m) [ ]))
    (live, λ over. elim (subst (IsOver v.about.end) alone.idle over) [ ]) in
    let all = quotas_all r.quota 16 may in
    let few = limit.few in
    let within = limit.within in
    let fits = limit.fits in
    let word = mark v (learns_self v) w r s.seat s.at in
    let some_ = published (w.dir n) Mark word in
    let below = claimed r n some_ in
    let f = r.space.finished n above below some_ in
    let is : kind_of v.about.end (r.start n) (r.start (suc n)) ≡ Mark = code_once _ Mark (sym f.kind ∙ word) in
    let past = mark-past v.about.end (r.start n) (r.start (suc n)) is in
    let up = starts_rise v.about w.count w.line r.start r.space.regions (suc n) limit.first (omega arith) (omega arith)
    (omega arith) in
    omega arith
