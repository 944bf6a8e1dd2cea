-- The values of one more definition.
use Rattle.std.proofs.Common.{◌≡◌, ℕ, ◌+◌, ◌<◌, List, [], ◌∷◌, ◌++◌, length, take, get_or, sym, ap, ◌∙◌}
use Rattle.std.specs.List.{flat_map}
use Rattle.std.proofs.lemmas.List.{append-nil, take_more}
use Rattle.std.proofs.lemmas.Grind.{flat_map-append}
use Rattle.fish_psf.specs.Eval.{Fields}
use Rattle.fish_psf.specs.Keys.{keys_for, keys_under}
use Rattle.fish_psf.specs.declared.key.ActiveDef.{ActiveDef}

-- with one more definition its values come after the others
pub keys_more : (fields : Fields) (defs : List ActiveDef) (i : ℕ) (d : ActiveDef) → i < length defs
    → d ≡ get_or defs i d
    → keys_for fields (take (i + 1) defs) ≡ keys_for fields (take i defs) ++ keys_under fields d
unfolding keys_for
keys_more fields defs i d within is =
    ap (flat_map (keys_under fields)) (take_more defs i d within)
    ∙ flat_map-append (keys_under fields) (take i defs) (get_or defs i d ∷ [])
    ∙ ap (λ l. flat_map (keys_under fields) (take i defs) ++ l)
    (ap (λ e. flat_map (keys_under fields) (e ∷ [])) (sym is) ∙ append-nil (keys_under fields d))
