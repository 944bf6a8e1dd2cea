-- What a look tells of one number.
use Rattle.std.proofs.Common.{◌≡◌, ◌∙◌, sym, ℕ, refl}
use Rattle.fish_rule.proofs.laws.Alone.{extends_to_look, seen, seen_here}
use Rattle.fish_rule.specs.Passes.{view}
use Rattle.fish_rule.specs.declared.view.Kind.TheVariants.{Mark, Stored, Void}
use Rattle.fish_rule.proofs.close.next_at.Goals as goal

pub returns-in-Stored-clause-extends : goal.returns-in-Stored-clause-extends
returns-in-Stored-clause-extends c = (let look = c.look_at-word.ensures.view in
    extends_to_look _ _ c.args.number look.0 c.look_at-word.result look.1)

pub returns-in-Void-clause-extends : goal.returns-in-Void-clause-extends
returns-in-Void-clause-extends c = (let look = c.look_at-word.ensures.view in
    extends_to_look _ _ c.args.number look.0 c.look_at-word.result look.1)

pub returns-in-Mark-clause-extends : goal.returns-in-Mark-clause-extends
returns-in-Mark-clause-extends c = (let look = c.look_at-word.ensures.view in
    extends_to_look _ _ c.args.number look.0 c.look_at-word.result look.1)

pub returns-in-Stored-clause-next : goal.returns-in-Stored-clause-next
returns-in-Stored-clause-next c =
    let look = c.look_at-word.ensures.view in
    let x : ℕ = c.look_at-word.result in
    let kind = sym c.in-Stored.ensures in (
      seen c.args.number look.0 x,
      seen_here (view c.args.control.now) _ c.args.number look.0 x look.1 (c.look_at-word.ensures.alone c.requires.alone),
      refl,
      λ e. (let q : Stored ≡ Mark = sym kind ∙ e in cc),
      sym c.line_of_word-line.ensures,
    )

pub returns-in-Void-clause-next : goal.returns-in-Void-clause-next
returns-in-Void-clause-next c =
    let look = c.look_at-word.ensures.view in
    let x : ℕ = c.look_at-word.result in
    let kind = sym c.in-Void.ensures in (
      seen c.args.number look.0 x,
      seen_here (view c.args.control.now) _ c.args.number look.0 x look.1 (c.look_at-word.ensures.alone c.requires.alone),
      refl,
      λ e. (let q : Void ≡ Mark = sym kind ∙ e in cc),
      sym c.line_of_word-line.ensures,
    )

pub returns-in-Mark-clause-next : goal.returns-in-Mark-clause-next
returns-in-Mark-clause-next c =
    let look = c.look_at-word.ensures.view in
    let x : ℕ = c.look_at-word.result in (
      seen c.args.number look.0 x,
      seen_here (view c.args.control.now) _ c.args.number look.0 x look.1 (c.look_at-word.ensures.alone c.requires.alone),
      refl,
      sym c.in-Mark.ensures,
      sym c.line_of_word-line.ensures,
    )
