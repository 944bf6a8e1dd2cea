-- The word is within the region in flight, and the table allows its store.
use Rattle.std.proofs.Common.{◌≡◌, ◌∙◌, sym, refl, ap, arith, subst, ℕ, ◌<◌, ◌≤◌, ◌+◌, ◌-◌, ◌*◌, length}
use Rattle.fish_rule.proofs.basics.Passes.{pass_still}
use Rattle.fish_rule.proofs.steps.StoreWord.{store_word_allowed}
use Rattle.fish_rule.proofs.laws.Steps.{flight_law}
use Rattle.fish_rule.specs.Flying.{region_in}
use Rattle.fish_rule.proofs.basics.Context.{Flight, Key, View, view}
use Rattle.fish_rule.specs.Passes.{IsPassOf}
use Rattle.fish_rule.specs.SpaceSteps.{CanStoreWord}
use Rattle.fish_rule.specs.World.{log_at}
use Rattle.fish_rule.specs.declared.table.Log.{Log}
use Rattle.fish_rule.specs.declared.table.Pass.{Pass}
use Rattle.fish_rule.proofs.space.store_word.Goals as goal

-- the place is after the table's first line and within the log
record Within (k : Key) (line offset : ℕ) : Type 0 where
  behind : k.line ≤ line
  end : line * 4 + offset < k.end * 4

within : (log : Log) (pass : Pass) (line offset : ℕ) → IsPassOf log pass → (f : Flight)
    × CanStoreWord (view pass) f × (f.line ≡ line) × (length f.words ≡ offset) → Within log.key line offset
within log pass line offset of may =
    let f : Flight = may.0 in
    let law = flight_law log.key (view pass) f of.about of.stands may.1.flying in
    let same : f.line ≡ line = may.2 in
    let at : length f.words ≡ offset = may.3 in
    let more = may.1.more in
    let end : f.line + f.lines ≤ log.key.end = subst (λ (z : Key). f.line + f.lines ≤ z.end) of.about may.1.within in
    record { behind = subst (λ (z : ℕ). log.key.line ≤ z) same law.behind; end = omega arith }

pub word_index-index-requires : goal.word_index-index-requires
word_index-index-requires c = (let h = within _ _ _ _ c.requires.pass c.requires.view in let behind = h.behind in
    (omega arith, h.end))

pub store-requires : goal.store-requires
store-requires c =
    let log = c.args.log.now in
    let seat = c.args.pass.now.seat in (
      c.requires.pass.table,
      c.word_index-index.ensures.within,
      store_word_allowed log.table.shared.key log.key log.keyed log.table.shared.table_id.slots seat.id seat.me
          c.requires.view.0 _ c.args.word c.requires.pass.about c.requires.view.1
          (c.word_index-index.ensures.is ∙ ap (λ (z : ℕ × ℕ). log_at log.key + (z.0 * 4 + z.1 - log.key.line * 4))
          (λ i. (sym c.requires.view.2 i, sym c.requires.view.3 i))),
    )

pub invariant_of-pass : goal.invariant_of-pass
invariant_of-pass c =
    let f : Flight = c.requires.view.0 in
    let flying = c.requires.view.1.flying in
    let told = c.store.ensures.2 f flying in
    record {
      bare = told.held ∙ c.args.pass.now.bare;
      lane_is = ap (λ (z : View). z.lane) told.view ∙ c.args.pass.now.lane_is;
      shut_is = ap (λ (z : View). z.shut) told.view ∙ c.args.pass.now.shut_is;
      flight_is = ap (λ (z : View). region_in z.flight) told.view ∙ ap region_in (sym flying)
          ∙ c.args.pass.now.flight_is;
    }

pub returns-clause-pass : goal.returns-clause-pass
returns-clause-pass c =
    let told = c.store.ensures.2 c.requires.view.0 c.requires.view.1.flying in
    pass_still c.requires.pass c.store.ensures.0 told.view told.stands refl refl
