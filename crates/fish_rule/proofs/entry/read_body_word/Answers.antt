-- The word may be read, since the header says that it is no first word of a key entry.
use Rattle.std.proofs.Common.{sym, arith, subst, ℕ, ◌*◌, inr}
use Rattle.fish_layout.specs.Cleared.{IsKeyWord}
use Rattle.fish_rule.proofs.basics.Context.{Among, view}
use Rattle.fish_rule.proofs.entry.read_body_word.Goals as goal
use Rattle.fish_rule.proofs.entry.read_body_word.Goals.{else-offset-keys-via-then-offset-keys+else-offset-eq1}
use Rattle.fish_rule.proofs.entry.read_body_word.Goals.{else-offset-keys-via-else-offset-keys}

pub overflow_mul-keys : goal.overflow_mul-keys
overflow_mul-keys c = (let few = c.requires.keys in omega arith)

pub read_word-requires-clause-view : goal.read_word-requires-clause-view
read_word-requires-clause-view c =
    let f = c.requires.found in
    let h = c.requires.header in
    let plain : ¬ IsKeyWord c.args.keys c.args.offset = λ k. elim c.else-offset-keys.branch [
      | else-offset-keys-via-then-offset-keys+else-offset-eq1 w ↦ (let m = k.1 in absurd (omega arith))
      | else-offset-keys-via-else-offset-keys w ↦ (let m = k.0 in absurd (omega arith))
    ] in (
      f.0,
      record {
        found = f.1;
        words = f.3;
        inside = f.4;
        plain = inr (
          h.0,
          subst (λ (z : ℕ). Among (record { place = z * 4; value = h.0 })
              (view c.args.pass.now).learned.known) (sym f.2) h.1,
          subst (λ (z : ℕ). ¬ IsKeyWord z c.args.offset) h.2 plain,
        );
      },
      f.2,
    )
