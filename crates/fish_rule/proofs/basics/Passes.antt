-- A pass stays one of its log where its next view has the same key and the same lane, and stands.
use Rattle.std.proofs.Common.{◌≡◌, ◌∙◌, ◌≤◌, ℕ, ap, subst, sym}
use Rattle.fish_rule.specs.Passes.{IsPassOf, view}
use Rattle.fish_rule.specs.Table.{IsOfMoment}
use Rattle.fish_rule.specs.declared.table.Log.{Log}
use Rattle.fish_rule.specs.declared.table.Pass.{Pass}
use Rattle.fish_rule.specs.declared.view.View.{View}

-- v is that view
pub pass_still : {log : Log} {p p' : Pass} {v : View} → IsPassOf log p → p'.seat.table_id ≡ p.seat.table_id
    → view p' ≡ v → IsOfMoment v → v.about ≡ (view p).about → v.lane ≡ (view p).lane → IsPassOf log p'
pass_still of table is stands about lane = record {
  table = table ∙ of.table;
  about = ap (λ (z : View). z.about) is ∙ about ∙ of.about;
  live = subst (λ (z : ℕ). 1 ≤ z) (sym (ap (λ (z : View). z.lane) is ∙ lane)) of.live;
  stands = subst IsOfMoment (sym is) stands;
}
