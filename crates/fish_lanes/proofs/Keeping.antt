-- What leaves the definitions as they are, and what knows them.
use Rattle.std.proofs.Common.{refl, ap, ◌∙◌}
use Rattle.fish_ingest.specs.Passing.{OnlyIngests}
use Rattle.fish_lanes.specs.within.Registering.{KeepsRegistry}
use Rattle.fish_rule.specs.declared.view.View.{View}
use Rattle.fish_scan.specs.Scans.{OnlyScans}
use Rattle.fish_walk.specs.Settling.{OnlySettles}

pub keeps_self : (v : View) → KeepsRegistry v v
keeps_self v = record { rows = refl; control_words = refl; round = refl }

pub keeps_both : (v u t : View) → KeepsRegistry v u → KeepsRegistry u t → KeepsRegistry v t
keeps_both v u t p q = record { rows = q.rows ∙ p.rows; control_words = q.control_words ∙ p.control_words; round = q.round ∙ p.round }

pub keeps_ingests : (v u : View) → OnlyIngests v u → KeepsRegistry v u
keeps_ingests v u h = record {
  rows = ap (λ (z : View). z.rows) h.frame;
  control_words = ap (λ (z : View). z.control_words) h.frame;
  round = ap (λ (z : View). z.round) h.frame;
}

pub keeps_scans : (v u : View) → OnlyScans v u → KeepsRegistry v u
keeps_scans v u h = record {
  rows = ap (λ (z : View). z.rows) h.frame;
  control_words = ap (λ (z : View). z.control_words) h.frame;
  round = ap (λ (z : View). z.round) h.frame;
}

pub keeps_settles : (v u : View) → OnlySettles v u → KeepsRegistry v u
keeps_settles v u h = record {
  rows = ap (λ (z : View). z.rows) h.frame;
  control_words = ap (λ (z : View). z.control_words) h.frame;
  round = ap (λ (z : View). z.round) h.frame;
}
