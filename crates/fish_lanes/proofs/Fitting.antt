-- An answer, a plan or a refusal as the item of a statement.
use Rattle.std.proofs.Common.{◌≡◌, ℕ, ◌≤◌, List, [], map, max, min, sym, ap, ◌∙◌, subst}
use Rattle.std.proofs.Common.{append-nil, inl, inr, ◌⊎◌, arith, Option, Some, Result, Ok, Err}
use Rattle.std.specs.Prelude.{IfOk}
use Rattle.std.proofs.lemmas.Option.{same_Some}
use Rattle.fish_epoch.specs.Definitions.{version_of}
use Rattle.fish_epoch.specs.declared.definitions.Known.{Known}
use Rattle.fish_cold.specs.Carries.{CarriesTable}
use Rattle.fish_cold.specs.declared.cold.Cold.{Cold}
use Rattle.fish_lanes.proofs.Across.{none_selected}
use Rattle.fish_lanes.proofs.Answered.{named_version, rise_above}
use Rattle.fish_lanes.specs.within.Doing.{FitsExplained, FitsRefused, FitsScanned, IsAnswerBehind, IsAnswerHere, IsExplainedAnswer}
use Rattle.fish_lanes.specs.within.Doing.{IsRefusedAt, IsRefusedItem, cause_of, scan_refusal_at}
use Rattle.fish_lanes.specs.Doing.{explained_item, scanned_item}
use Rattle.fish_lanes.specs.Loading.{LoadsInTable}
use Rattle.fish_lanes.specs.within.Pasts.{IsHere, anywhere}
use Rattle.fish_psf.specs.Records.{evaluation}
use Rattle.fish_psf.specs.Select.{select}
use Rattle.fish_report.specs.declared.item.Item.{Item}
use Rattle.fish_report.specs.declared.item.Item.TheVariants as item
use Rattle.fish_report.specs.declared.item.ScanCause.{ScanCause}
use Rattle.fish_report.specs.declared.item.ScanCause.TheVariants as cause
use Rattle.fish_rule.specs.declared.view.Key.{Key}
use Rattle.fish_rule.specs.declared.view.View.{View}
use Rattle.fish_scan.proofs.PlannedScans.{unplanned_refused}
use Rattle.fish_scan.specs.Across.{IsAnswerWith, IsRefusedWith}
use Rattle.fish_scan.specs.Matching.{Finds}
use Rattle.fish_scan.specs.Older.{selectable}
use Rattle.fish_scan.specs.Scans.{IsAnswer, IsExplained, IsRefused}
use Rattle.fish_scan.specs.declared.ask.Answer.{Answer}
use Rattle.fish_scan.specs.declared.ask.Ask.{Ask}
use Rattle.fish_scan.specs.declared.ask.Explained.{Explained}
use Rattle.fish_scan.specs.declared.refusal.ScanRefusal.{ScanRefusal}
use Rattle.fish_scan.specs.declared.refusal.ScanRefusal.TheVariants as refusal
use Rattle.fish_whole.specs.Whole.{Whole}
use Rattle.fish_rule.specs.Views.{Among}

-- ---- refusals

-- the version of a refusal is one that the pass loaded in the call
pub refused_version : (v u : View) (ask : Ask) (version : ℕ) (why : ScanCause) → IsRefusedAt v u ask version why
    → (v.learned.version ≤ version) × (version ≤ u.learned.version)
refused_version v u ask version cause.UnknownName s =
    (let is = s.version_is in let most = s.refused.2.rows.reached in (s.refused.4, omega arith))
refused_version v u ask version (cause.EmptyRange from to) s =
    named_version v u s.known ask version s.refused.1.0 s.version_is s.refused.1.1
refused_version v u ask version (cause.NotCovered from to) s =
    named_version v u s.known ask version s.refused.1.position s.version_is s.refused.1.asked.named

-- what an item tells of a refusal is why it was refused
pub refused_fits : (v u : View) (known : Known) (ask : Ask) (r : ScanRefusal) (version : ℕ) (why : ScanCause)
    → IsRefused v u known ask r → cause_of r ≡ Some why → version ≡ version_of known → IsRefusedAt v u ask version why
refused_fits v u known ask (refusal.UnknownName n) version why h is at = record {
  known = known;
  version_is = at;
  refused = subst (λ (z : ScanRefusal). IsRefused v u known ask z)
      (ap refusal.UnknownName (h.0 ∙ sym at) ∙ ap (scan_refusal_at version) (same_Some _ _ is)) h;
}
refused_fits v u known ask (refusal.EmptyRange from to) version why h is at = record {
  known = known;
  version_is = at;
  refused = subst (λ (z : ScanRefusal). IsRefused v u known ask z) (ap (scan_refusal_at version) (same_Some _ _ is)) h;
}
refused_fits v u known ask (refusal.NotCovered from to) version why h is at = record {
  known = known;
  version_is = at;
  refused = subst (λ (z : ScanRefusal). IsRefused v u known ask z) (ap (scan_refusal_at version) (same_Some _ _ is)) h;
}
refused_fits v u known ask (refusal.ColdRange base) version why h is at = absurd cc
refused_fits v u known ask refusal.DiskFault version why h is at = absurd cc
refused_fits v u known ask (refusal.Damaged number) version why h is at = absurd cc
refused_fits v u known ask refusal.OutOfMemory version why h is at = absurd cc

-- so is what an item tells of a scan of older records
pub refused_older : (v u : View) (known : Known) (ask : Ask) (r : ScanRefusal) (version : ℕ) (why : ScanCause)
    → IsRefusedWith v u known ask r → cause_of r ≡ Some why → version ≡ version_of known → IsRefusedAt v u ask version why
refused_older v u known ask (refusal.UnknownName n) version why h is at =
    refused_fits v u known ask (refusal.UnknownName n) version why (unplanned_refused v u known ask (refusal.UnknownName n) h) is at
refused_older v u known ask (refusal.EmptyRange from to) version why h is at =
    refused_fits v u known ask (refusal.EmptyRange from to) version why (unplanned_refused v u known ask (refusal.EmptyRange from to) h)
    is at
refused_older v u known ask (refusal.NotCovered from to) version why h is at =
    refused_fits v u known ask (refusal.NotCovered from to) version why (unplanned_refused v u known ask (refusal.NotCovered from to) h)
    is at
refused_older v u known ask (refusal.ColdRange base) version why h is at = absurd cc
refused_older v u known ask refusal.DiskFault version why h is at = absurd cc
refused_older v u known ask (refusal.Damaged number) version why h is at = absurd cc
refused_older v u known ask refusal.OutOfMemory version why h is at = absurd cc

-- ---- items

-- an answer of the table alone is one after every past
answer_anywhere : (v u : View) (known : Known) (ask : Ask) (answer : Answer) (past : Whole) → IsAnswer v u known ask answer
    → IsAnswerBehind past v u known ask answer
answer_anywhere v u known ask answer past h = record {
  planned = h.explained.planned;
  def = h.def;
  means = h.means;
  found = record {
    upper = answer.rows;
    lower = [];
    rows_are = sym (append-nil answer.rows);
    above = subst (λ (n : ℕ). Finds u h.def ask.value n answer.to answer.opens answer.rows)
        (let base = h.base in let first = h.explained.planned.range.first_is in
        let same : answer.from ≡ min (max answer.from u.about.number) answer.to = omega arith in same) h.found;
    below = sym (none_selected (map selectable past.log) (evaluation h.def) ask.value answer.from (min answer.to u.about.number) []
        (let base = h.base in omega arith));
  };
}

-- what the table alone answered, as an item
pub scanned_fits : (v u : View) (known : Known) (ask : Ask) (answer : Answer) (version : ℕ) {E : Type 0} (r : Result Item E)
    → IsAnswer v u known ask answer → LoadsInTable v u ask.value answer → version ≡ version_of known
    → IfOk r (λ x. x ≡ scanned_item ask answer version)
    → IfOk r (λ x. FitsScanned anywhere v u ask x ⊎ FitsRefused v u ask item.ScanRefused x)
scanned_fits v u known ask answer version (Err e) h loads at made = tt
scanned_fits v u known ask answer version (Ok x) h loads at made = inl (record {
  from = answer.from;
  to = answer.to;
  opens = answer.opens;
  rows = answer.rows;
  version = version;
  is = made;
  fits = record {
    known = known;
    version_is = at;
    plan = answer.plan;
    planned = h.explained.planned;
    opened = λ n o.
        let base = h.base in
        let above = rise_above answer.from answer.to n answer.opens h.explained.planned.range.rise o in omega arith;
    answer = λ past behind. answer_anywhere v u known ask answer past h;
    loads = inl loads;
  };
})

-- what was answered on both sides of the table's base
pub older_fits : (content : Option (List ℕ)) (k : Key) (cold : Cold) (v u : View) (known : Known) (ask : Ask) (answer : Answer)
    (version : ℕ) {E : Type 0} (r : Result Item E) → IsExplainedAnswer v u known ask answer
    → IsAnswerHere content k cold v u known ask answer → version ≡ version_of known
    → IfOk r (λ x. x ≡ scanned_item ask answer version)
    → IfOk r (λ x. FitsScanned (IsHere content k cold) v u ask x ⊎ FitsRefused v u ask item.ScanRefused x)
older_fits content k cold v u known ask answer version (Err e) h here at made = tt
older_fits content k cold v u known ask answer version (Ok x) h here at made = inl (record {
  from = answer.from;
  to = answer.to;
  opens = answer.opens;
  rows = answer.rows;
  version = version;
  is = made;
  fits = record {
    known = known;
    version_is = at;
    plan = answer.plan;
    planned = h.explained.planned;
    opened = h.opened;
    answer = here.each;
    loads = inr here.loads;
  };
})

-- and a plan
pub planned_fits : (v u : View) (known : Known) (ask : Ask) (explained : Explained) (version : ℕ) {E : Type 0} (r : Result Item E)
    → ((opens : List ℕ) × IsExplained v u known ask explained.from explained.to opens explained.plan)
    → version ≡ version_of known → IfOk r (λ x. x ≡ explained_item ask explained version)
    → IfOk r (λ x. FitsExplained v u ask x ⊎ FitsRefused v u ask item.ExplainRefused x)
planned_fits v u known ask explained version (Err e) h at made = tt
planned_fits v u known ask explained version (Ok x) h at made = inl (record {
  from = explained.from;
  to = explained.to;
  plan = explained.plan;
  version = version;
  is = made;
  fits = record { known = known; version_is = at; opens = h.0; explained = h.1 };
})

-- a range was planned, and no number below the table is open
pub explained_ok : {E : Type 0} (v u : View) (known : Known) (ask : Ask) (r : Result Answer E)
    → IfOk r (λ a. IsExplained v u known ask a.from a.to a.opens a.plan)
    → IfOk r (λ a. (n : ℕ) → Among n a.opens → u.about.number ≤ n) → IfOk r (IsExplainedAnswer v u known ask)
explained_ok v u known ask (Err e) explained opened = tt
explained_ok v u known ask (Ok a) explained opened = record { explained = explained; opened = opened }

-- a scan on both sides of the base answered after what the disk has before the table
pub here_ok : {E : Type 0} (content : Option (List ℕ)) (k : Key) (cold : Cold) (v u : View) (known : Known) (ask : Ask)
    (parsed parses loaded loads : ℕ) (r : Result Answer E) → u.about ≡ k
    → IfOk r (λ a. (h : CarriesTable content k cold) → IsAnswerWith h v u known ask a parsed parses loaded loads)
    → IfOk r (IsAnswerHere content k cold v u known ask)
here_ok content k cold v u known ask parsed parses loaded loads (Err e) about h = tt
here_ok content k cold v u known ask parsed parses loaded loads (Ok a) about h =
    let number : u.about.number ≡ k.number = ap (λ (z : Key). z.number) about in
    record {
      each = λ past here.
          let w = h here.table in
          record {
            planned = w.planned;
            def = w.def;
            means = w.means;
            found = record {
              upper = w.upper;
              lower = w.lower;
              rows_are = w.rows;
              above = subst (λ (n : ℕ). Finds u w.def ask.value (min (max a.from n) a.to) a.to a.opens w.upper) (sym number) w.above;
              below = w.below ∙ (λ i. select (map selectable (here.entries i)) (evaluation w.def) ask.value a.from
                  (min a.to (sym number i)) []);
            };
          };
      loads = λ past here.
          let w = (h here.table).work in
          record {
            base = k.number;
            base_is = sym number;
            image = here.table.image;
            end = here.table.end;
            prior = here.table.prior;
            entries = here.entries;
            most = w.most;
            allowed = w.allowed;
            walked = w.walked;
            older = w.older;
            allowed_older = w.allowed_older;
            few = w.own;
          };
    }

-- the item of a refusal fits, where each cause that an item tells is so
pub refused_item : {E : Type 0} (v u : View) (ask : Ask) (version : ℕ) (why : ScanRefusal) (refused : List ℕ → ℕ → ScanCause → Item)
    (r : Result Item E) → ((c : ScanCause) → cause_of why ≡ Some c → IsRefusedAt v u ask version c)
    → IfOk r (IsRefusedItem ask.name version why refused) → IfOk r (FitsRefused v u ask refused)
refused_item v u ask version why refused (Err e) so h = tt
refused_item v u ask version why refused (Ok x) so h =
    record { version = version; why = h.cause; is = h.is; fits = so h.cause h.cause_is }
