-- A definition's canonical text is read as that definition, and as no other one.
use Rattle.std.proofs.Common.{◌≡◌, ◌∙◌, List, ℕ, sym, subst}
use Rattle.std.specs.Prelude.{Err, IfOk, Ok, Result}
use Rattle.fish_lang.proofs.Accepted.{accepted-again}
use Rattle.fish_lang.specs.Definition.{definition_of}
use Rattle.fish_lang.specs.Language.{IsAccepted}
use Rattle.fish_lang.specs.declared.definition.Def.{Def}
use Rattle.fish_script.proofs.Apart.{one_outcome}
use Rattle.fish_feed.proofs.building.copy_def.Goals as goal

pub parse_canonical-requires : goal.parse_canonical-requires
parse_canonical-requires c = record {
  source = c.requires.0;
  said = definition_of c.args.def.now;
  read = c.requires.1;
  spells = c.as_bytes.ensures.value ∙ c.in_ok-text.ensures;
}

pub returns : goal.returns
returns c = by c.parse_canonical.result c.parse_canonical.ensures.read
  where
    due : IsAccepted c.as_bytes.result.now (definition_of c.args.def.now)
    due = subst (λ (b : List ℕ). IsAccepted b (definition_of c.args.def.now)) (sym (c.as_bytes.ensures.value ∙ c.in_ok-text.ensures))
        (accepted-again c.requires.0 (definition_of c.args.def.now) c.requires.1)

    by : {E : Type 0} (r : Result Def E) → IfOk r (λ copy. IsAccepted c.as_bytes.result.now (definition_of copy))
        → IfOk r (λ copy. definition_of copy ≡ definition_of c.args.def.now)
    by (Ok copy) read =
        let same : Ok (definition_of copy) ≡ Ok (definition_of c.args.def.now) =
        one_outcome c.as_bytes.result.now _ _ read due in
        cc
    by (Err e) read = tt
