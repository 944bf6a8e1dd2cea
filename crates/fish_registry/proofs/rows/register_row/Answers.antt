-- The row's words and its operation are stored, so the version may be raised.
use Rattle.std.proofs.Common.{◌∙◌, ap, sym, subst}
use Rattle.fish_registry.proofs.Registrations.{IsDrafted, can_raise, can_store, registered}
use Rattle.fish_registry.specs.within.Rows.{HasAddedRow}
use Rattle.fish_rule.specs.RegistrySteps.{CanDefineWord, CanRaiseVersion, after_define_word, after_raise_version}
use Rattle.fish_rule.specs.Passes.{view}
use Rattle.fish_rule.specs.declared.view.View.{View}
use Rattle.fish_registry.proofs.rows.register_row.Goals.{After-register_word}
use Rattle.fish_registry.proofs.rows.register_row.Goals as goal

-- the words of the row are stored
control_word : (c : After-register_word) → IsDrafted (view c.args.pass.now) c.args.row.now c.args.version
    c.from-id.result (view c.define_row.new.pass)
control_word c = record {
  is_id = c.from-id.ensures;
  make = c.requires.make;
  may = c.requires.row;
  writable = c.row_words.ensures.writable;
  words = c.row_words.result;
  says = c.row_words.ensures.words;
  control_word = c.define_row.ensures.drafted;
}

-- so the operation may be
pub define_operation-requires-clause-view : goal.define_operation-requires-clause-view
define_operation-requires-clause-view c =
    subst (CanDefineWord (view c.define_row.new.pass) _) (sym c.register_word.ensures) (can_store _ _ _ _ _ (control_word c))

-- and then the version raised
pub raise_version-requires-clause-view : goal.raise_version-requires-clause-view
raise_version-requires-clause-view c =
    subst CanRaiseVersion (sym (c.define_operation.ensures.view
    ∙ ap (after_define_word (view c.define_row.new.pass) _) c.register_word.ensures)) (can_raise _ _ _ _ _ (control_word c.before.before))

-- which makes it
pub returns-clause-registered : goal.returns-clause-registered
returns-clause-registered c =
    let v = view c.args.pass.now in
    let row = c.args.row.now in
    subst (HasAddedRow v row) (sym c.raise_version.ensures.view)
    (subst (λ (z : View). HasAddedRow v row (after_raise_version z)) (sym (c.define_operation.ensures.view
    ∙ ap (after_define_word (view c.define_row.new.pass) _) c.register_word.ensures))
    (registered _ _ _ _ _ (control_word c.before.before.before)))
