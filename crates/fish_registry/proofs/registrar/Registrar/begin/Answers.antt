-- The row that was added is the log's next one, and its registration waits.
use Rattle.std.proofs.Common.{◌∙◌, ℕ, ◌+◌, List, Some, length, subst, sym, ap, arith}
use Rattle.fish_catalog.specs.Rows.{new_row}
use Rattle.fish_catalog.specs.declared.row.CatRow.{CatRow}
use Rattle.fish_lang.specs.Canonical.{definition_text}
use Rattle.fish_lang.specs.Definition.{definition_of}
use Rattle.fish_registry.proofs.Beginning.{may_register, registered_new}
use Rattle.fish_registry.proofs.Changing.{changes_both, changes_stays}
use Rattle.fish_registry.proofs.Knowing.{knows_begun, knows_stays}
use Rattle.fish_registry.specs.Knowing.{KnowsRows}
use Rattle.fish_rule.proofs.laws.Versions.{unset_law}
use Rattle.fish_rule.specs.Passes.{view}
use Rattle.fish_rule.specs.declared.view.View.{View}
use Rattle.fish_registry.proofs.registrar.Registrar.begin.Goals as goal

pub returns-in_err-version-clause-knows : goal.returns-in_err-version-clause-knows
returns-in_err-version-clause-knows c =
    knows_stays (view c.args.pass.now) _ c.args.self.now.catalog c.args.self.now.waiting c.last_version.ensures.stays
    c.requires.knows

pub returns-in_err-id-clause-knows : goal.returns-in_err-id-clause-knows
returns-in_err-id-clause-knows c =
    let u = view c.last_version.new.pass in
    subst (λ (rows : List CatRow). KnowsRows u rows c.args.self.now.waiting) (sym c.in_err-id.ensures.refused)
    (knows_stays (view c.args.pass.now) u c.args.self.now.catalog c.args.self.now.waiting c.last_version.ensures.stays
    c.requires.knows)

pub register_row-requires-clause-row : goal.register_row-requires-clause-row
register_row-requires-clause-row c =
    let u = view c.last_version.new.pass in
    let rows : List CatRow = c.args.self.now.catalog in
    let room = c.in_ok-id.ensures.room in
    may_register u rows c.rows.result.now c.args.name.now c.args.def.now _ c.from.result
    (subst (KnowsRows u rows) c.in_ok-version.ensures.version.1.settled
    (knows_stays (view c.args.pass.now) u rows c.args.self.now.waiting c.last_version.ensures.stays c.requires.knows))
    (c.rows.ensures.value ∙ c.in_ok-id.ensures.added) c.rows.ensures.kept (c.from.ensures ∙ c.in_ok-id.ensures.id)
    c.index-rows-from.is room.2 c.requires.name c.requires.def room.1 room.0

pub returns-clause-knows : goal.returns-clause-knows
returns-clause-knows c =
    let v = view c.last_version.new.pass in
    let rows : List CatRow = c.args.self.now.catalog in
    let text : List ℕ = definition_text (definition_of c.args.def.now) in
    let room = c.in_ok-id.ensures.room in
    let stays = c.last_version.ensures.stays in
    let same = ap (λ (z : View). z.learned.version) stays.frame in
    let version = c.in_ok-version.ensures.version.0 in
    subst (λ (z : List CatRow). KnowsRows (view c.register_row.new.pass) z (Some (record {
      id = c.in_ok-id.id;
      version = c.in_ok-version.version + 1;
      lane = 2;
    }))) (sym c.in_ok-id.ensures.added)
    (knows_begun v _ rows c.args.name.now text c.in_ok-id.id c.in_ok-version.version
    (subst (KnowsRows v rows) c.in_ok-version.ensures.version.1.settled
    (knows_stays (view c.args.pass.now) v rows c.args.self.now.waiting stays c.requires.knows))
    c.in_ok-id.ensures.id (omega arith)
    (registered_new v _ rows c.rows.result.now (new_row (length rows) c.args.name.now text) _ c.from.result
    (c.rows.ensures.value ∙ c.in_ok-id.ensures.added) (c.from.ensures ∙ c.in_ok-id.ensures.id) c.index-rows-from.is
    c.register_row.ensures.registered)
    (unset_law v c.last_version.ensures.pass.stands
    (ap (λ (z : View). z.lane) stays.frame ∙ c.requires.knows.control)) room.2)

pub returns-clause-changes : goal.returns-clause-changes
returns-clause-changes c =
    changes_both (view c.args.pass.now) _ _ (changes_stays _ _ c.last_version.ensures.stays)
    c.register_row.ensures.registered.changes
