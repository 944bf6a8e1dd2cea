-- A statement as a part of itself, and what scans and plans leave.
use Rattle.std.proofs.Common.{◌≡◌, ℕ, ◌+◌, ◌<◌, zero, suc, List, [], ◌∷◌, ◌++◌, length, take, drop, get_or, refl, ap, ◌∙◌, arith}
use Rattle.std.proofs.Common.{Result, Ok, Err, None, Bool, true, false, sym, inl}
use Rattle.std.specs.Prelude.{IfErr, IfOk, IsErrOf, OnErr, OnOk, is_err}
use Rattle.fish_lanes.proofs.Gaining.{gains_scans}
use Rattle.fish_lanes.proofs.Keeping.{keeps_scans}
use Rattle.fish_lanes.specs.within.Doing.{GainsFirst, IsFit, IsItem, IsPart}
use Rattle.fish_lanes.specs.Records.{contents_of_rows}
use Rattle.fish_lanes.specs.Telling.{content_of, count_of}
use Rattle.fish_lanes.specs.declared.work.Work.{Work}
use Rattle.fish_lanes.specs.declared.work.Work.TheVariants as work
use Rattle.fish_report.specs.declared.item.Item.{Item}
use Rattle.fish_rule.specs.declared.view.Epoch.TheVariants.{Out}
use Rattle.fish_rule.specs.declared.view.View.{View}
use Rattle.fish_scan.specs.Scans.{OnlyScans}
use Rattle.fish_scan.specs.declared.ask.Ask.{Ask}
use Rattle.fish_whole.specs.Whole.{Whole}

-- a list around one of its elements
pub around : (works : List Work) (i : ℕ) (w : Work) → i < length works → w ≡ get_or works i w
    → take i works ++ w ∷ drop (i + 1) works ≡ works
around [] i w h is = absurd (omega arith)
around (x ∷ xs) zero w h is = ap (λ (z : Work). z ∷ xs) is
around (x ∷ xs) (suc i) w h is =
    let next : suc i + 1 ≡ suc (i + 1) = omega arith in
    ap (λ (n : ℕ). x ∷ (take i xs ++ w ∷ drop n (x ∷ xs))) next
    ∙ ap (λ (z : List Work). x ∷ z) (around xs i w (omega arith) is)

-- a result that has an error has no other
pub same_fault : {A B : Type 0} (x y : B) → IsErrOf {T = A} (Err x) y → x ≡ y
same_fault x y is = cc

-- what holds anyway holds at a fault
pub err_any : {A B : Type 0} (r : Result A B) (P : Type 0) → P → IfErr r (λ _. P)
err_any (Ok a) P p = tt
err_any (Err e) P p = p

-- what follows follows where a call succeeds
pub on_ok : {A B : Type 0} (r : Result A B) (P Q : Type 0) → (P → Q) → OnOk r P → OnOk r Q
on_ok (Ok a) P Q f p = f p
on_ok (Err e) P Q f p = tt

-- what holds where a call succeeded, and where it failed
pub ok_told : {A B : Type 0} {P : Type 0} (r : Result A B) (b : Bool) → b ≡ is_err r → b ≡ false → OnOk r P → P
ok_told (Ok a) b is test p = p
ok_told (Err e) b is test p = (let bad : true ≡ false = sym is ∙ test in absurd cc)

pub err_told : {A B : Type 0} {P : Type 0} (r : Result A B) (b : Bool) → b ≡ is_err r → b ≡ true → OnErr r P → P
err_told (Ok a) b is test p = (let bad : false ≡ true = sym is ∙ test in absurd cc)
err_told (Err e) b is test p = p

-- ---- scans

-- nothing is the first of nothing
take_none : (n : ℕ) → contents_of_rows [] ≡ take n (content_of work.Checkpoint)
take_none zero = refl
take_none (suc n) = refl

-- a scan gains nothing
pub scan_gains : (v u : View) (count : ℕ) → v.epoch ≡ Out → v.flight ≡ None → OnlyScans v u → GainsFirst v u [] count
scan_gains v u count outside idle only = record {
  registry = keeps_scans v u only;
  rows = [];
  gains = gains_scans v u outside idle only;
  first = take_none count;
}

-- so what fits it is its item
pub scan_items : (Past : Whole → Type 0) {E : Type 0} (v u : View) (ask : Ask) (r : Result Item E) → v.epoch ≡ Out → v.flight ≡ None
    → OnlyScans v u
    → IfOk r (IsFit Past v u (work.Scan ask)) → IfOk r (IsItem Past v u (work.Scan ask))
scan_items Past v u ask (Ok x) outside idle only fit = record {
  gained = scan_gains v u (count_of x) outside idle only;
  fit = fit;
  shuts = λ shut e. inl (sym (ap (λ (z : View). z.shut) only.frame) ∙ e);
}
scan_items Past v u ask (Err e) outside idle only fit = tt

pub explain_items : (Past : Whole → Type 0) {E : Type 0} (v u : View) (ask : Ask) (r : Result Item E) → v.epoch ≡ Out → v.flight ≡ None
    → OnlyScans v u
    → IfOk r (IsFit Past v u (work.Explain ask)) → IfOk r (IsItem Past v u (work.Explain ask))
explain_items Past v u ask (Ok x) outside idle only fit = record {
  gained = scan_gains v u (count_of x) outside idle only;
  fit = fit;
  shuts = λ shut e. inl (sym (ap (λ (z : View). z.shut) only.frame) ∙ e);
}
explain_items Past v u ask (Err e) outside idle only fit = tt

-- and it is a part of itself
pub scan_part : {E : Type 0} (v u : View) (ask : Ask) (r : Result Item E) → v.epoch ≡ Out → v.flight ≡ None → OnlyScans v u
    → IfErr r (λ _. IsPart v u (work.Scan ask))
scan_part v u ask r outside idle only = err_any r (IsPart v u (work.Scan ask)) (0, scan_gains v u 0 outside idle only)

pub explain_part : {E : Type 0} (v u : View) (ask : Ask) (r : Result Item E) → v.epoch ≡ Out → v.flight ≡ None → OnlyScans v u
    → IfErr r (λ _. IsPart v u (work.Explain ask))
explain_part v u ask r outside idle only = err_any r (IsPart v u (work.Explain ask)) (0, scan_gains v u 0 outside idle only)
