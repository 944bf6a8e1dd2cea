-- Refusals by a full log are marks that were found, so they compare as found regions do.
use Rattle.std.proofs.Common.{◌≡◌, ℕ, ◌+◌, ◌<◌, ◌≤◌, ap, arith}
use Rattle.std.proofs.Math.Decide.{dec_lt}
use Rattle.fish_ingest.specs.Laws.{AreShut, FullAgrees, FullFollows}
use Rattle.fish_rule.proofs.laws.Comparing.{one_line, one_number, regions_follow}
use Rattle.fish_rule.specs.Comparing.{AreBothFound}
use Rattle.fish_rule.specs.declared.view.Found.{Found}
use Rattle.fish_rule.specs.declared.view.Kind.TheVariants.{Mark}
use Rattle.fish_rule.specs.declared.view.Shut.{Shut}
use Rattle.fish_rule.specs.declared.view.View.{View}

-- the mark of a claim, with its number
abbrev mark_at : ℕ → Shut → Found
mark_at n s = record { number = n; kind = Mark; line = s.line; lines = s.lines }

-- both were found
found : (v u x : View) (s t : Shut) (h : AreShut v u x s t)
    → AreBothFound v u x (mark_at h.first.0 s) (mark_at h.second.0 t)
found v u x s t h = record {
  first = h.first.1;
  second = h.second.1;
  with_first = h.with_first;
  with_second = h.with_second;
  stands = h.stands;
}

-- one line is one claim
pub full_agrees : FullAgrees
full_agrees v u x s t h same =
    ap (λ (f : Found). f.lines) (one_line v u x _ _ (found v u x s t h) same)

-- the lower line has the lower number, since the regions of the other order would follow the other way
pub full_follows : FullFollows
full_follows v u x s t h less = by (dec_lt h.first.0 h.second.0) (dec_lt h.second.0 h.first.0)
  where
    by : Dec (h.first.0 < h.second.0) → Dec (h.second.0 < h.first.0) → s.line + s.lines ≤ t.line
    by (yes before) other = regions_follow v u x _ _ (found v u x s t h) before
    by (no a) (yes behind) =
        let ends : t.line + t.lines ≤ s.line = regions_follow u v x (mark_at h.second.0 t) (mark_at h.first.0 s)
        (record {
          first = h.second.1;
          second = h.first.1;
          with_first = h.with_second;
          with_second = h.with_first;
          stands = h.stands;
        }) behind in
        absurd (omega arith)
    by (no a) (no b) =
        let same : h.first.0 ≡ h.second.0 = omega arith in
        let line : s.line ≡ t.line = ap (λ (f : Found). f.line) (one_number v u x _ _ (found v u x s t h) same) in
        absurd (omega arith)
