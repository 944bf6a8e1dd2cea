-- Clocks that go on, and loads between two of them.
use Rattle.std.proofs.Common.{ℕ, List, [], ◌∷◌, ◌++◌, append_assoc, ap, arith, inl, refl, sym, ◌∙◌}
use Rattle.fish_rule.proofs.basics.Lists.{among_left, among_right}
use Rattle.fish_rule.specs.Clocks.{HasLoaded, IsLater}
use Rattle.fish_rule.specs.SpaceSteps.{loaded, noted, ticked}
use Rattle.fish_rule.specs.declared.view.Clock.{Clock}
use Rattle.fish_rule.specs.declared.view.Note.{Note}
use Rattle.fish_rule.specs.declared.view.Noted.{Noted}

-- a clock is no later than itself
pub later_self : (c : Clock) → IsLater c c
later_self c = record { steps = omega arith; loads = omega arith; notes = []; since = refl }

-- what is later than a later one is later
unfoldable pub later_both : (a b c : Clock) → IsLater a b → IsLater b c → IsLater a c
later_both a b c p q =
    let first = p.steps in
    let second = q.steps in
    let one = p.loads in
    let two = q.loads in
    record {
      steps = omega arith;
      loads = omega arith;
      notes = q.notes ++ p.notes;
      since = q.since ∙ ap (λ (z : List Note). q.notes ++ z) p.since ∙ sym (append_assoc q.notes p.notes a.notes);
    }

-- a step makes a clock later
pub later_ticked : (c : Clock) → IsLater c (ticked c)
later_ticked c = record { steps = omega arith; loads = omega arith; notes = []; since = refl }

-- and so do a load of a word of the log
pub later_loaded : (c : Clock) → IsLater c (loaded c)
later_loaded c = record { steps = omega arith; loads = omega arith; notes = []; since = refl }

-- and one that is noted
unfoldable pub later_noted : (c : Clock) (what : Noted) (x : ℕ) → IsLater c (noted c what x)
later_noted c what x = record {
  steps = omega arith;
  loads = omega arith;
  notes = record { step = c.steps; what = what; value = x } ∷ [];
  since = refl;
}

-- such a load is one between the clocks before it and after it
pub noted_load : (c : Clock) (what : Noted) (x : ℕ) → HasLoaded c (noted c what x) what x
unfolding later_noted
noted_load c what x = record { on = later_noted c what x; step = c.steps; later = omega arith; among = inl refl }

-- a load between two clocks was made between two that lie further apart
pub loaded_within : (a b c d : Clock) (what : Noted) (value : ℕ) → IsLater a b → HasLoaded b c what value → IsLater c d
    → HasLoaded a d what value
unfolding later_both
loaded_within a b c d what value p load q =
    let first = p.steps in
    let at = load.later in
    let note : Note = record { step = load.step; what = what; value = value } in
    record {
      on = later_both a c d (later_both a b c p load.on) q;
      step = load.step;
      later = omega arith;
      among = among_right note q.notes (load.on.notes ++ p.notes)
          (among_left note load.on.notes p.notes load.among);
    }
