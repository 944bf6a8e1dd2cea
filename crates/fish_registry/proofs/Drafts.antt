-- The words of the next row, stored one after the other.
use Rattle.std.proofs.Common.{◌≡◌, ℕ, ◌+◌, ◌<◌, ◌≤◌, inl, inr, List}
use Rattle.std.proofs.Common.{length, slice_index, refl, sym, ap, ◌∙◌, subst, arith}
use Rattle.std.proofs.Math.Decide.{ℕ_discrete}
use Rattle.fish_layout.proofs.Clearing.{choose_first, choose_second}
use Rattle.fish_registry.specs.within.Rows.{HasDrafted}
use Rattle.fish_rule.proofs.laws.Clocks.{later_both, later_self, later_ticked}
use Rattle.fish_rule.specs.RegistrySteps.{CanDefineWord, after_define_word}
use Rattle.fish_rule.specs.Registry.{control_word, row_at}
use Rattle.fish_rule.specs.declared.view.View.{View}

-- the control pass may store the next one
pub can_draft : (v u : View) (words : List ℕ) (position x : ℕ) → v.lane ≡ 1 → length v.rows < 256 → 2 ≤ position → position < 39
    → HasDrafted v words position u → CanDefineWord u (row_at (length v.rows) position) x
can_draft v u words position x control room behind within h =
    let rows : v.rows ≡ u.rows = sym (ap (λ (z : View). z.rows) h.only) in
    record {
      control = ap (λ (z : View). z.lane) h.only ∙ control;
      next = inr (
        position,
        subst (λ ls. length ls < 256) rows room,
        within,
        ap (λ ls. row_at (length ls) position) rows,
        inl behind,
      );
    }

-- and then the words up to the position after it are stored
pub drafted_next : (v u : View) (words : List ℕ) (position x : ℕ) → 2 ≤ position → position < 39 → HasDrafted v words position u
    → x ≡ slice_index words position
    → HasDrafted v words (position + 1) (after_define_word u (row_at (length v.rows) position) x)
drafted_next v u words position x low high h is =
    let n : ℕ = length v.rows in
    let next : View = after_define_word u (row_at n position) x in
    let each : (i : ℕ) → 2 ≤ i → i < position + 1 → Dec (i ≡ position)
    → control_word next.control_words (row_at n i) ≡ slice_index words i =
    λ i behind within d. elim d [
      | yes e ↦ choose_first (ℕ_discrete (row_at n i) (row_at n position)) x (control_word u.control_words (row_at n i)) (ap (row_at n) e)
          ∙ is ∙ ap (slice_index words) (sym e)
      | no ne ↦ choose_second (ℕ_discrete (row_at n i) (row_at n position)) x (control_word u.control_words (row_at n i))
          (λ same. ne (omega arith)) ∙ h.row i behind (omega arith)
    ] in
    record {
      only = ap (λ (z : View). record z { control_words = next.control_words; clock = next.clock }) h.only;
      row = λ i behind within. each i behind within (ℕ_discrete i position);
      bounds = λ m i small. choose_second (ℕ_discrete (row_at m i) (row_at n position)) x (control_word u.control_words (row_at m i))
          (λ same. omega arith) ∙ h.bounds m i small;
      clock = later_both v.clock u.clock next.clock h.clock (later_ticked u.clock);
      loads = h.loads;
    }

-- at the start none is stored
pub drafted_none : (v : View) (words : List ℕ) → HasDrafted v words 2 v
drafted_none v words = record {
  only = refl;
  row = λ i behind within. absurd (omega arith);
  bounds = λ n i small. refl;
  clock = later_self v.clock;
  loads = refl;
}
