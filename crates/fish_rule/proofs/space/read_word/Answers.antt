-- The word is within the log, and the table allows its load.
use Rattle.std.proofs.Common.{◌≡◌, ◌∙◌, sym, ap, arith, subst, ℕ, ◌<◌, ◌≤◌, ◌+◌, ◌-◌, ◌*◌}
use Rattle.fish_rule.proofs.laws.Steps.{read_law}
use Rattle.fish_rule.proofs.steps.ReadWord.{read_word_allowed}
use Rattle.fish_rule.proofs.basics.Context.{Found, Key, view}
use Rattle.fish_rule.specs.Passes.{IsPassOf}
use Rattle.fish_rule.specs.LoadSteps.{CanReadWord, after_read_word}
use Rattle.fish_rule.specs.Told.{place_at}
use Rattle.fish_rule.specs.World.{log_at}
use Rattle.fish_rule.specs.declared.table.Log.{Log}
use Rattle.fish_rule.specs.declared.table.Pass.{Pass}
use Rattle.fish_rule.proofs.space.read_word.Goals as goal

-- the place is after the table's first line and within the log
record Within (k : Key) (line offset : ℕ) : Type 0 where
  behind : k.line ≤ line
  end : line * 4 + offset < k.end * 4

within : (log : Log) (pass : Pass) (line offset : ℕ) → IsPassOf log pass → (f : Found)
    × CanReadWord (view pass) f offset × (f.line ≡ line) → Within log.key line offset
within log pass line offset of may =
    let law = read_law log.key (view pass) may.0 offset of.about of.stands may.1 in
    let same : may.0.line ≡ line = may.2 in
    record { behind = subst (λ (z : ℕ). log.key.line ≤ z) same law.0; end = omega arith }

pub overflow_mul-line : goal.overflow_mul-line
overflow_mul-line c = (let h = within _ _ _ _ c.requires.pass c.requires.view in let behind = h.behind in
    let end = h.end in let fits = c.args.log.now.fits in omega arith)

pub overflow_add-line : goal.overflow_add-line
overflow_add-line c = (let h = within _ _ _ _ c.requires.pass c.requires.view in let behind = h.behind in
    let end = h.end in let fits = c.args.log.now.fits in omega arith)

pub word_index-index-requires : goal.word_index-index-requires
word_index-index-requires c = (let h = within _ _ _ _ c.requires.pass c.requires.view in let behind = h.behind in
    (omega arith, h.end))

pub load-requires : goal.load-requires
load-requires c =
    let log = c.args.log.now in
    let seat = c.args.pass.now.seat in (
      c.requires.pass.table,
      c.word_index-index.ensures.within,
      read_word_allowed log.table.shared.key log.key log.keyed log.table.shared.table_id.slots seat.id seat.me
          c.requires.view.0 c.args.offset _ c.requires.pass.about c.requires.view.1
          (c.word_index-index.ensures.is ∙ ap (λ (z : ℕ). log_at log.key + (z * 4 + c.args.offset - log.key.line * 4))
          (sym c.requires.view.2)),
    )

pub returns-clause-view : goal.returns-clause-view
returns-clause-view c =
    c.load.ensures.2.view ∙ ap (λ (z : ℕ). after_read_word (view c.args.pass.now) z c.load.result)
    (ap (λ (z : Key). place_at z c.word_index-index.result) c.requires.pass.about ∙ c.word_index-index.ensures.back)
