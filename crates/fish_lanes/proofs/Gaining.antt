-- What a pass gains by one statement after the other.
use Rattle.std.proofs.Common.{◌≡◌, ℕ, ◌<◌, ◌≤◌, suc, List, [], ◌∷◌, ◌++◌, refl, sym, ap, ◌∙◌, subst, inl, inr, Some, None, arith}
use Rattle.std.proofs.Common.{append_assoc, append-nil}
use Rattle.fish_ingest.specs.Passing.{HasMark, OnlyIngests}
use Rattle.fish_ingest.specs.Refusal.{HasLeft, HasRefused, IsShutFor}
use Rattle.fish_ingest.specs.declared.refusal.IngestRefusal.{IngestRefusal}
use Rattle.fish_ingest.specs.declared.refusal.IngestRefusal.TheVariants as refusal
use Rattle.fish_ingest.specs.Ingestion.{CanStart, HasIngested}
use Rattle.fish_lanes.proofs.RowLists.{ascends_append, owned_append, told_append, told_later}
use Rattle.fish_flush.specs.Carrying.{ReadsLog}
use Rattle.fish_lanes.specs.Gains.{IsMarkAt, IsShutSaid, KeepsShut}
use Rattle.fish_lanes.specs.within.Gains.{AreRowsKnown, Gains, IsFullBy, KeepsLane}
use Rattle.fish_lanes.specs.Records.{LaneRow}
use Rattle.fish_lanes.specs.within.Records.{owned}
use Rattle.fish_rule.specs.declared.view.Epoch.TheVariants.{Out}
use Rattle.fish_rule.specs.declared.view.Own.{Own}
use Rattle.std.proofs.Math.Decide.{dec_lt}
use Rattle.fish_lanes.proofs.Lists.{some_once}
use Rattle.fish_rule.proofs.laws.Regions.{starts_rise}
use Rattle.fish_rule.proofs.laws.Lists.{all_among}
use Rattle.fish_rule.proofs.laws.Learning.{learns_both, learns_self}
use Rattle.fish_rule.proofs.laws.ChainFacts.{always_later}
use Rattle.fish_rule.proofs.laws.Clocks.{later_both, later_self}
use Rattle.fish_rule.specs.Facts.{IsFound, IsShut, ShutOk}
use Rattle.fish_rule.specs.LoadSteps.{IsAlone}
use Rattle.fish_rule.specs.Logs.{Learns}
use Rattle.fish_rule.specs.ChainFacts.{Always}
use Rattle.fish_rule.specs.declared.view.Kind.TheVariants.{Mark}
use Rattle.fish_rule.specs.Table.{IsOfMoment}
use Rattle.fish_rule.specs.declared.view.Key.{Key}
use Rattle.fish_rule.specs.declared.view.Shut.{Shut}
use Rattle.fish_rule.specs.declared.view.View.{View}
use Rattle.fish_value.specs.declared.field.Form.{Form}
use Rattle.fish_scan.specs.Scans.{OnlyScans}

-- nothing is gained at first
pub gains_self : (v : View) → v.epoch ≡ Out → v.flight ≡ None → Gains v v []
gains_self v outside idle = record {
  on = record { learns = learns_self v; clock = later_self v.clock; lane = refl; out = refl };
  outside = outside;
  idle = idle;
  own = sym (append-nil v.own);
  ascends = omega arith;
  told = tt;
  shut = λ s e. e;
  marks = λ t. t;
}

-- what it gains first, and then
pub gains_both : (a b c : View) (xs ys : List LaneRow) → Gains a b xs → Gains b c ys → Gains a c (xs ++ ys)
gains_both a b c xs ys p q = record {
  on = record {
    learns = learns_both a b c p.on.learns q.on.learns;
    clock = later_both a.clock b.clock c.clock p.on.clock q.on.clock;
    lane = q.on.lane ∙ p.on.lane;
    out = q.on.out ∙ p.on.out;
  };
  outside = q.outside;
  idle = q.idle;
  own = q.own ∙ (λ i. p.own i ++ owned (p.on.lane i) ys) ∙ append_assoc a.own (owned a.lane xs) (owned a.lane ys)
      ∙ ap (λ (z : List Own). a.own ++ z) (sym (owned_append a.lane xs ys));
  ascends = ascends_append a.learned.count b.learned.count c.learned.count xs ys p.ascends q.ascends;
  told = told_append c a.lane xs ys (told_later b c a.lane xs q.on.learns p.told)
      (subst (λ (z : ℕ). AreRowsKnown c z ys) p.on.lane q.told);
  shut = λ s e. q.shut s (p.shut s e);
  marks = λ t. q.marks (p.marks t);
}

-- what an ingest keeps
keeps_ingests : (v u : View) → OnlyIngests v u → KeepsLane v u
keeps_ingests v u h = record {
  learns = h.learns;
  clock = h.clock;
  lane = ap (λ (z : View). z.lane) h.frame;
  out = ap (λ (z : View). z.out) h.frame;
}

-- what shut the pass stays known
pub marks_same : (v u : View) → Learns v u → u.shut ≡ v.shut → IsShutSaid v → IsShutSaid u
marks_same v u learns same t s e = always_later v u (IsMarkAt s.line s.lines) learns (t s (sym same ∙ e))

-- by a record
pub gains_one : (v u : View) (form : Form) (payload : List ℕ) (number : ℕ) → HasIngested v form payload number u
    → Gains v u (record { number = number; form = form; payload = payload } ∷ [])
gains_one v u form payload number h = record {
  on = keeps_ingests v u h.on;
  outside = h.outside;
  idle = h.idle;
  own = h.own;
  ascends = (h.fresh, (let c = h.counted in omega arith));
  told = (h.entry, tt);
  shut = λ s e. h.shut ∙ e;
  marks = λ t s e. always_later v u (IsMarkAt s.line s.lines) h.on.learns (t s (sym h.shut ∙ e));
}

-- by a refusal
pub gains_left : (v u : View) → HasLeft v u → KeepsShut v u → (IsShutSaid v → IsShutSaid u) → Gains v u []
gains_left v u h keeps marks = record {
  on = keeps_ingests v u h.on;
  outside = h.outside;
  idle = h.idle;
  own = h.own ∙ sym (append-nil v.own);
  ascends = h.on.learns.count;
  told = tt;
  shut = keeps;
  marks = marks;
}

-- by a scan
pub gains_scans : (v u : View) → v.epoch ≡ Out → v.flight ≡ None → OnlyScans v u → Gains v u []
gains_scans v u outside idle h = record {
  on = record {
    learns = h.learns;
    clock = h.clock;
    lane = ap (λ (z : View). z.lane) h.frame;
    out = ap (λ (z : View). z.out) h.frame;
  };
  outside = h.outside outside;
  idle = ap (λ (z : View). z.flight) h.frame ∙ idle;
  own = ap (λ (z : View). z.own) h.frame ∙ sym (append-nil v.own);
  ascends = h.learns.count;
  told = tt;
  shut = λ s e. ap (λ (z : View). z.shut) h.frame ∙ e;
  marks = marks_same v u h.learns (ap (λ (z : View). z.shut) h.frame);
}

-- by a checkpoint
pub gains_reads : (v u : View) → v.epoch ≡ Out → v.flight ≡ None → ReadsLog v u → Gains v u []
gains_reads v u outside idle h = record {
  on = record {
    learns = h.learns;
    clock = h.clock;
    lane = ap (λ (z : View). z.lane) h.frame;
    out = ap (λ (z : View). z.out) h.frame;
  };
  outside = ap (λ (z : View). z.epoch) h.frame ∙ outside;
  idle = ap (λ (z : View). z.flight) h.frame ∙ idle;
  own = ap (λ (z : View). z.own) h.frame ∙ sym (append-nil v.own);
  ascends = h.learns.count;
  told = tt;
  shut = λ s e. ap (λ (z : View). z.shut) h.frame ∙ e;
  marks = marks_same v u h.learns (ap (λ (z : View). z.shut) h.frame);
}

-- a pass may start again after what it gained
pub gains_start : (v u : View) (rows : List LaneRow) → CanStart v → Gains v u rows → CanStart u
gains_start v u rows can h = record {
  live = subst (λ (z : ℕ). 1 ≤ z) (sym h.on.lane) can.live;
  outside = h.outside;
}

-- ---- a full log

-- a refusal leaves a shut pass shut by the same claim
pub keeps_refused : (v u : View) (form : Form) (payload : List ℕ) (e : IngestRefusal) → HasRefused v form payload e u
    → KeepsShut v u
keeps_refused v u form payload refusal.TooLong h s is = h.shut ∙ is
keeps_refused v u form payload refusal.NotRecord h s is = h.shut ∙ is
keeps_refused v u form payload refusal.OutOfMemory h s is = h.shut ∙ is
keeps_refused v u form payload (refusal.Full line lines end) h s is = by h.by_claim
  where
    shut_of : Shut
    shut_of = record { line = line; lines = lines; end = end }

    by : IsShutFor v form payload shut_of u → u.shut ≡ Some s
    by (inl early) = h.shut_is ∙ sym early.0 ∙ is
    by (inr late) = absurd (let bad : None ≡ Some s = sym late.unshut ∙ is in cc)

-- and what shut it in this call is
mark_always : (u : View) (s : Shut) → HasMark u s → Always u (IsMarkAt s.line s.lines)
mark_always u s (n, m) x learns w r seat at r' =
    (n, all_among (IsFound x.about w.count w.dir r'.start) _ x.learned.found (r'.facts seat x at).found (learns.found _ m))

pub marks_refused : (v u : View) (form : Form) (payload : List ℕ) (e : IngestRefusal) → HasRefused v form payload e u
    → IsShutSaid v → IsShutSaid u
marks_refused v u form payload refusal.TooLong h t s e = marks_same v u h.left.on.learns h.shut t s e
marks_refused v u form payload refusal.NotRecord h t s e = marks_same v u h.left.on.learns h.shut t s e
marks_refused v u form payload refusal.OutOfMemory h t s e = marks_same v u h.left.on.learns h.shut t s e
marks_refused v u form payload (refusal.Full line lines end) h t s e = by h.by_claim
  where
    shut_of : Shut
    shut_of = record { line = line; lines = lines; end = end }

    by : IsShutFor v form payload shut_of u → Always u (IsMarkAt s.line s.lines)
    by (inl early) = always_later v u (IsMarkAt s.line s.lines) h.left.on.learns (t s (early.0 ∙ sym h.shut_is ∙ e))
    by (inr late) = subst (λ (z : Shut). Always u (IsMarkAt z.line z.lines)) (some_once shut_of s (sym h.shut_is ∙ e))
        (mark_always u shut_of late.mark)

-- two marks at one line are one
pub same_lines : (t : View) (line a b : ℕ) → IsOfMoment t → Always t (IsMarkAt line a) → Always t (IsMarkAt line b) → a ≡ b
same_lines t line a b s one two =
    let w = s.moment in
    let r = s.rule in
    let p = one t (learns_self t) w r s.seat s.at r in
    let q = two t (learns_self t) w r s.seat s.at r in
    by p.0 q.0 p.1 q.1 (dec_lt p.0 q.0) (dec_lt q.0 p.0)
  where
    by : (n m : ℕ) → IsFound t.about s.moment.count s.moment.dir s.rule.start (record { number = n; kind = Mark; line = line; lines = a })
        → IsFound t.about s.moment.count s.moment.dir s.rule.start (record { number = m; kind = Mark; line = line; lines = b })
        → Dec (n < m) → Dec (m < n) → a ≡ b
    by n m f g (yes less) d =
        let up = starts_rise t.about s.moment.count s.moment.line s.rule.start s.rule.space.regions n m f.above (omega arith)
        (let x = g.below in omega arith) in
        let x = f.line in
        let y = g.line in
        absurd (omega arith)
    by n m f g (no not_less) (yes less) =
        let up = starts_rise t.about s.moment.count s.moment.line s.rule.start s.rule.space.regions m n g.above (omega arith)
        (let x = f.below in omega arith) in
        let x = f.line in
        let y = g.line in
        absurd (omega arith)
    by n m f g (no not_less) (no not_more) =
        let same : n ≡ m = omega arith in
        let next : s.rule.start (suc n) ≡ s.rule.start (suc m) = ap (λ (z : ℕ). s.rule.start (suc z)) same in
        let x = f.lines in
        let y = g.lines in
        omega arith

-- the claim that shut a pass ends past the log's end
pub full_by : (u : View) (line lines end : ℕ) → IsOfMoment u → u.shut ≡ Some (record { line = line; lines = lines; end = end })
    → IsFullBy u line lines end
full_by u line lines end s is =
    let r = s.rule in
    let ok : IsShut u.about s.moment.count s.moment.dir r.start (record { line = line; lines = lines; end = end }) =
    subst (ShutOk u.about s.moment.count s.moment.dir r.start) is (r.shuts s.seat u s.at) in
    let past = ok.past in
    let same = ok.end in
    record { shut = is; end_is = ok.end; past = omega arith }

-- and stays it
pub full_later : (u t : View) (line lines end : ℕ) → t.about ≡ u.about → KeepsShut u t → IsFullBy u line lines end
    → IsFullBy t line lines end
full_later u t line lines end about keeps h = record {
  shut = keeps (record { line = line; lines = lines; end = end }) h.shut;
  end_is = h.end_is ∙ ap (λ (k : Key). k.end) (sym about);
  past = h.past;
}

-- ---- a pass that is alone

-- it is so after its statements
pub alone_gains : (v u : View) (rows : List LaneRow) → Gains v u rows → IsAlone v → IsAlone u
alone_gains v u rows g a = record { control = g.on.lane ∙ a.control; all = g.on.out ∙ a.all; idle = g.idle }
