-- The values of one more definition come after the others.
use Rattle.std.proofs.Common.{◌≡◌, ℕ, ◌+◌, ◌<◌, ◌++◌, List, length, take, get_or, ap, sym, ◌∙◌}
use Rattle.fish_psf.specs.Eval.{Fields}
use Rattle.fish_psf.specs.Keys.{keys_for, keys_under}
use Rattle.fish_psf.specs.declared.key.ActiveDef.{ActiveDef}
use Rattle.fish_psf.specs.declared.key.KeyValue.{KeyValue}
use Rattle.fish_psf.proofs.KeyLemmas.{keys_more}
use Rattle.fish_psf.proofs.properties.keys.Goals as goal

-- one more definition, whose values come after those so far
one_more : (fields : Fields) (defs : List ActiveDef) (i : ℕ) (active : ActiveDef) (old new : List KeyValue)
    → i < length defs → active ≡ get_or defs i active → old ≡ keys_for fields (take i defs)
    → new ≡ old ++ keys_under fields active → new ≡ keys_for fields (take (i + 1) defs)
one_more fields defs i active old new within is so_far grown =
    grown ∙ ap (λ (l : List KeyValue). l ++ keys_under fields active) so_far ∙ sym (keys_more fields defs i active within is)

pub loop-active-preserved : goal.loop-active-preserved
loop-active-preserved g c =
    one_more (g.R.Parsed.fields c.args.rec.now) c.args.defs.now c.loop-active.active-index c.active-item.result
    c.loop-active.keys _ c.loop-active-test.true c.active-item.is c.loop-active.invariant c.in_ok-push_keys.ensures
