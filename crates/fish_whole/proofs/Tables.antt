-- A table that is closed: what follows it may be in the end, and another table may begin there.
use Rattle.std.proofs.Common.{◌≡◌, ℕ, ◌+◌, ◌<◌, ◌≤◌, [], ◌++◌, length, refl, sym, ap, ◌∙◌, subst, arith, map}
use Rattle.std.proofs.Math.Decide.{dec_lt}
use Rattle.std.proofs.lemmas.List.{length-append}
use Rattle.fish_catalog.specs.Listing.{listed_of}
use Rattle.fish_layout.specs.Cleared.{choose}
use Rattle.fish_rule.proofs.laws.Learning.{learns_self}
use Rattle.fish_rule.proofs.laws.Versions.{definitions_first}
use Rattle.fish_rule.specs.ClosedLog.{IsClosed}
use Rattle.fish_rule.specs.Registry.{definitions_at, version_in}
use Rattle.fish_rule.specs.declared.close.Remains.{Remains}
use Rattle.fish_rule.specs.declared.view.Key.{Key}
use Rattle.fish_rule.specs.declared.view.View.{View}
use Rattle.fish_whole.proofs.Parts.{told_front}
use Rattle.fish_whole.proofs.Prefixes.{prefix_append, prefix_both, prefix_first, prefix_self}
use Rattle.fish_whole.proofs.Wholes.{later_self}
use Rattle.fish_whole.specs.Whole.{FitsPast, GoesOn, IsBehind, MayEnd, Narrows, Whole, behind_table}

-- ---- the end

-- what stands when a table is closed begins with what stood before and what is left, and has the definitions of both
pub stands_behind : (past : Whole) (v : View) (remains : Remains) (c : IsClosed v remains) → FitsPast past v
    → IsBehind past v remains c (behind_table past v remains c)
stands_behind past v remains c fits = record {
  starts = prefix_self (past.log ++ remains.log);
  before = λ n less. by n less (dec_lt v.about.version n);
  since = λ n low_ high_. at n low_ (dec_lt v.about.version n);
}
  where
    by : (n : ℕ) → n ≤ v.about.version → (d : Dec (v.about.version < n))
        → choose d (definitions_at v.about c.moment.registry n) (past.rows n) ≡ past.rows n
    by n less (yes more) = absurd (omega arith)
    by n less (no _) = refl

    at : (n : ℕ) → v.about.version ≤ n → (d : Dec (v.about.version < n))
        → choose d (definitions_at v.about c.moment.registry n) (past.rows n) ≡ definitions_at v.about c.moment.registry n
    at n low_ (yes _) = refl
    at n low_ (no more) =
        let e : n ≡ v.about.version = omega arith in
        subst (λ (z : ℕ). past.rows z ≡ definitions_at v.about c.moment.registry z) (sym e)
        (fits.joins ∙ sym (definitions_first v.about c.moment.registry v.about.version (omega arith)))

-- what stands when the last table is closed may be in the end
pub ends_so : (past : Whole) (v : View) (remains : Remains) (c : IsClosed v remains) → FitsPast past v → v.lane ≡ 1
    → v.out ≡ [] → MayEnd past v (behind_table past v remains c)
ends_so past v remains c fits control all = record {
  last = v;
  remains = remains;
  base = fits.base;
  control = control;
  all = all;
  later = later_self v;
  closed = c;
  behind = stands_behind past v remains c fits;
}

-- ---- another table

-- what may be in the end of a table that begins where one was closed might have been in the end of that one
pub narrows_rolled : (past : Whole) (v u : View) (remains : Remains) (c : IsClosed v remains) → FitsPast past v
    → v.lane ≡ 1 → v.out ≡ [] → u.about.version ≡ remains.version → Narrows past v (behind_table past v remains c) u
narrows_rolled past v u remains c fits control all version w m = record {
  last = v;
  remains = remains;
  base = fits.base;
  control = control;
  all = all;
  later = later_self v;
  closed = c;
  behind = record {
    starts = prefix_both (past.log ++ remains.log) ((past.log ++ remains.log) ++ m.remains.log) w.log
        (prefix_first (past.log ++ remains.log) m.remains.log) m.behind.starts;
    before = λ n less. m.behind.before n (upto n less) ∙ by n less (dec_lt v.about.version n);
    since = λ n low_ high_. m.behind.before n (above n high_) ∙ at n low_ (dec_lt v.about.version n);
  };
}
  where
    same : m.last.about.version ≡ remains.version
    same = ap (λ (z : Key). z.version) m.later.learns.about ∙ version

    above : (n : ℕ) → n ≤ remains.version → n ≤ m.last.about.version
    above n h = (let e = same in omega arith)

    upto : (n : ℕ) → n ≤ v.about.version → n ≤ m.last.about.version
    upto n h =
        let e = same in
        let made : v.about.version ≤ version_in c.moment.registry = c.rule.registry.versions.from in
        let is = c.version in
        omega arith

    by : (n : ℕ) → n ≤ v.about.version → (d : Dec (v.about.version < n))
        → choose d (definitions_at v.about c.moment.registry n) (past.rows n) ≡ past.rows n
    by n less (yes more) = absurd (omega arith)
    by n less (no _) = refl

    at : (n : ℕ) → v.about.version ≤ n → (d : Dec (v.about.version < n))
        → choose d (definitions_at v.about c.moment.registry n) (past.rows n) ≡ definitions_at v.about c.moment.registry n
    at n low_ (yes _) = refl
    at n low_ (no more) =
        let e : n ≡ v.about.version = omega arith in
        subst (λ (z : ℕ). past.rows z ≡ definitions_at v.about c.moment.registry z) (sym e)
        (fits.joins ∙ sym (definitions_first v.about c.moment.registry v.about.version (omega arith)))

-- and it comes after that one, where its rows are those of the last version
pub fits_rolled : (past : Whole) (v u : View) (remains : Remains) (c : IsClosed v remains) → FitsPast past v
    → u.about.number ≡ v.about.number + length remains.log → u.about.version ≡ remains.version
    → definitions_at v.about c.moment.registry remains.version ≡ map listed_of u.about.rows.value
    → FitsPast (behind_table past v remains c) u
fits_rolled past v u remains c fits number version rows = record {
  base = (let a = fits.base in let b = length-append past.log remains.log in omega arith);
  joins = subst (λ (z : ℕ). choose (dec_lt v.about.version z) (definitions_at v.about c.moment.registry z) (past.rows z)
      ≡ map listed_of u.about.rows.value) (sym version) (by (dec_lt v.about.version remains.version));
}
  where
    by : (d : Dec (v.about.version < remains.version)) → choose d (definitions_at v.about c.moment.registry remains.version)
        (past.rows remains.version) ≡ map listed_of u.about.rows.value
    by (yes _) = rows
    by (no less) =
        let made : v.about.version ≤ version_in c.moment.registry = c.rule.registry.versions.from in
        let is = c.version in
        let e : remains.version ≡ v.about.version = omega arith in
        ap past.rows e ∙ (fits.joins ∙ (sym (definitions_first v.about c.moment.registry v.about.version (omega arith))
        ∙ (ap (λ (z : ℕ). definitions_at v.about c.moment.registry z) (sym e) ∙ rows)))

-- a roll goes on
pub goes_rolled : (past : Whole) (v u : View) (remains : Remains) (c : IsClosed v remains) → FitsPast past v → v.lane ≡ 1
    → v.out ≡ [] → u.about.number ≡ v.about.number + length remains.log → u.about.version ≡ remains.version
    → definitions_at v.about c.moment.registry remains.version ≡ map listed_of u.about.rows.value
    → (next : Whole) × GoesOn past v next u
goes_rolled past v u remains c fits control all number version rows = (
  behind_table past v remains c,
  record {
    fits = fits_rolled past v u remains c fits number version rows;
    narrows = narrows_rolled past v u remains c fits control all version;
    grows = prefix_first past.log remains.log;
    known = λ log k. record {
      entries = [];
      told = λ i e at. cc;
      front = prefix_both log (past.log ++ remains.log) ((past.log ++ remains.log) ++ [])
          (prefix_both log (past.log ++ k.entries) (past.log ++ remains.log) k.front
          (prefix_append past.log k.entries remains.log
          (told_front past v v remains k.entries fits.base (learns_self v) c k.told)))
          (prefix_first (past.log ++ remains.log) []);
    };
  },
)
