-- What calls leave of a pass, one after the other.
use Rattle.std.proofs.Common.{◌≡◌, ap, refl, sym, ◌∙◌, subst, inl, inr, ⊎_elim}
use Rattle.fish_epoch.specs.Entering.{OnlyEnters}
use Rattle.fish_epoch.specs.Rows.{OnlyLearns}
use Rattle.fish_ingest.specs.Passing.{OnlyIngests, FoundSince, moved}
use Rattle.fish_rule.proofs.laws.Clocks.{later_both, later_self}
use Rattle.fish_rule.proofs.laws.Learning.{learns_both, learns_self}
use Rattle.fish_rule.specs.Views.{Among}
use Rattle.fish_rule.specs.declared.view.Kind.{Kind}
use Rattle.fish_rule.specs.declared.view.View.{View}

-- where a view is another one that moved, it has moved
pub moved_to : (v u w : View) → u ≡ w → w ≡ moved v w → u ≡ moved v u
moved_to v u w e is = subst (λ (z : View). z ≡ moved v z) (sym e) is

-- a pass goes on from itself
pub on_self : (v : View) → OnlyIngests v v
on_self v = record { learns = learns_self v; clock = later_self v.clock; frame = refl }

-- and from what goes on from it
pub on_both : (a b c : View) → OnlyIngests a b → OnlyIngests b c → OnlyIngests a c
on_both a b c e f = record {
  learns = learns_both a b c e.learns f.learns;
  clock = later_both a.clock b.clock c.clock e.clock f.clock;
  frame = f.frame ∙ ap (λ (z : View). moved z c) e.frame;
}

-- it keeps its lane
pub on_lane : {v u : View} → OnlyIngests v u → u.lane ≡ v.lane
on_lane h = ap (λ (z : View). z.lane) h.frame

-- a pass that entered goes on
pub on_keeps : (v u : View) → OnlyEnters v u → OnlyIngests v u
on_keeps v u h = record { learns = h.learns; clock = h.clock; frame = moved_to v u _ h.frame refl }

-- a pass that read of the registry keeps to itself
pub enters_reads : (v u : View) → OnlyLearns v u → OnlyEnters v u
enters_reads v u h = record {
  learns = h.extends.learns;
  clock = h.extends.clock;
  frame = h.extends.frame
      ∙ (λ i. record v {
        epoch = sym (ap (λ (z : View). z.epoch) h.extends.frame) i;
        learned = u.learned;
        clock = u.clock;
      });
  count = h.count;
  found = h.found;
  loads = h.loads;
}

-- ---- what was found

module _ (P : Kind → Type 0) where
  -- nothing was found where nothing is new
  pub found_same : (v u : View) → u.learned.found ≡ v.learned.found → FoundSince P v u
  found_same v u e x m = inl (subst (Among x) e m)

  -- what was found in two parts
  pub found_both : (a b c : View) → FoundSince P a b → FoundSince P b c → FoundSince P a c
  found_both a b c e f x m = ⊎_elim (λ (n : Among x b.learned.found). e x n) (λ (h : P x.kind). inr h) (f x m)

-- what meets P meets Q
pub found_map : (P Q : Kind → Type 0) → ((kind : Kind) → P kind → Q kind) → (v u : View) → FoundSince P v u
    → FoundSince Q v u
found_map P Q f v u h x m = ⊎_elim (λ (n : Among x v.learned.found). inl n) (λ (p : P x.kind). inr (f x.kind p)) (h x m)
