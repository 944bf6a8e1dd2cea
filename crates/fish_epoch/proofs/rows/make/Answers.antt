-- The operation is read, and then the row that it registers, or it ends one.
use Rattle.std.proofs.Common.{◌≡◌, ◌≤◌, ℕ, suc, sym, ap, subst, arith, length, List}
use Rattle.fish_catalog.specs.Listing.{IsListing}
use Rattle.fish_catalog.specs.declared.listed.Listed.{Listed}
use Rattle.fish_rule.specs.Passes.{view}
use Rattle.fish_rule.specs.Registry.{KnowsDefinitions, KnowsRow, op_at}
use Rattle.fish_rule.specs.Views.{Among}
use Rattle.fish_rule.specs.declared.view.Key.{Key}
use Rattle.fish_rule.specs.declared.view.View.{View}
use Rattle.fish_epoch.proofs.Reading.{known_listing, made_registered, operation_read, reads_both, reads_word}
use Rattle.fish_epoch.proofs.Reading.{registered_known}
use Rattle.fish_epoch.specs.Rows.{OnlyLearns}
use Rattle.fish_epoch.specs.within.Rows.{HasRow}
use Rattle.fish_epoch.proofs.rows.make.Goals as goal

-- the operation that was read, by the version that it made
operation : (v u : View) (p version x : ℕ) → p ≡ suc version → u ≡ Rattle.fish_rule.specs.RegistrySteps.after_load_registry v (op_at p) x
    → Among (record { index = op_at (suc version); value = x }) u.learned.words
operation v u p version x e is = subst (λ (z : ℕ). Among (record { index = op_at z; value = x }) u.learned.words) e
    (operation_read v u (op_at p) x is)

-- the start's version is the key's
from_here : (k : Key) (v : View) (n : ℕ) → v.about ≡ k → k.version ≤ n → v.about.version ≤ n
from_here k v n about from = subst (λ (z : Key). z.version ≤ n) (sym about) from

-- to read the operation and then the row only reads
reads_row : (v u t : View) (p x : ℕ) → u ≡ Rattle.fish_rule.specs.RegistrySteps.after_load_registry v p x → OnlyLearns u t → OnlyLearns v t
reads_row v u t p x e = reads_both v u t (reads_word v u p x e)

pub registered_row-requires-clause-row : goal.registered_row-requires-clause-row
registered_row-requires-clause-row c =
    let v = view c.args.pass.now in
    let u = view c.load_operation-operation.new.pass in
    let load = c.load_operation-operation.ensures.view in
    let from = from_here c.args.log.now.key v c.args.version c.requires.pass.about c.requires.first in
    let size : length c.args.rows.now.items ≡ length c.as_slice.result.now =
    ap (λ (z : List Listed). length z) (sym c.as_slice.ensures.value) in
    subst (KnowsRow u.about u.learned) size
    (registered_known v u c.args.version c.load_operation-operation.result c.args.rows.now.items
    (reads_word v u _ _ load).extends.learns from c.requires.reached
    (operation v u _ c.args.version _ (omega arith) load) c.requires.rows (c.registers.ensures.0 c.if-registers.true))

pub returns-in_err-row-clause-reads : goal.returns-in_err-row-clause-reads
returns-in_err-row-clause-reads c =
    reads_row (view c.args.pass.now) (view c.load_operation-operation.new.pass) (view c.registered_row.new.pass) _ _
    c.load_operation-operation.ensures.view c.registered_row.ensures.reads

pub returns-in_err-push-clause-reads : goal.returns-in_err-push-clause-reads
returns-in_err-push-clause-reads c =
    reads_row (view c.args.pass.now) (view c.load_operation-operation.new.pass) (view c.registered_row.new.pass) _ _
    c.load_operation-operation.ensures.view c.registered_row.ensures.reads

pub end_row-requires : goal.end_row-requires
end_row-requires c = subst IsListing (sym c.as_mut_slice.ensures.value)
    (known_listing (view c.args.pass.now) c.args.version c.args.rows.now.items c.requires.pass.stands c.requires.rows)

pub returns-in_ok-push-clause-reads : goal.returns-in_ok-push-clause-reads
returns-in_ok-push-clause-reads c =
    reads_row (view c.args.pass.now) (view c.load_operation-operation.new.pass) (view c.registered_row.new.pass) _ _
    c.load_operation-operation.ensures.view c.registered_row.ensures.reads

pub returns-in_ok-push-clause-rows : goal.returns-in_ok-push-clause-rows
returns-in_ok-push-clause-rows c =
    let v = view c.args.pass.now in
    let u = view c.load_operation-operation.new.pass in
    let t = view c.registered_row.new.pass in
    let load = c.load_operation-operation.ensures.view in
    let from = from_here c.args.log.now.key v c.args.version c.requires.pass.about c.requires.first in
    let size : length c.args.rows.now.items ≡ length c.as_slice.result.now =
    ap (λ (z : List Listed). length z) (sym c.as_slice.ensures.value) in
    subst (KnowsDefinitions t.about t.learned (suc c.args.version)) (sym c.in_ok-push.ensures.items)
    (made_registered v u c.args.version c.load_operation-operation.result c.args.rows.now.items
    (reads_word v u _ _ load).extends.learns from c.requires.reached
    (operation v u _ c.args.version _ (omega arith) load) c.requires.rows t c.in_ok-row.row
    (c.registers.ensures.0 c.if-registers.true) c.registered_row.ensures.reads.extends.learns
    (subst (λ (z : ℕ). HasRow t z c.in_ok-row.row) (sym size) c.in_ok-row.ensures.row))
