-- What each of the calls found is so at the end.
use Rattle.std.proofs.Common.{◌≡◌, ℕ, ◌<◌, List, length, sym, ap, ◌∙◌, subst, arith}
use Rattle.std.proofs.lemmas.Option.{slice_get_within}
use Rattle.fish_catalog.specs.Canonical.{IsCanonical}
use Rattle.fish_catalog.specs.Listing.{IsListing}
use Rattle.fish_catalog.specs.declared.listed.Listed.{Listed}
use Rattle.fish_epoch.proofs.Reading.{defs_later, known_listing}
use Rattle.fish_epoch.specs.Definitions.{rows_of}
use Rattle.fish_rule.proofs.laws.Learning.{learns_self}
use Rattle.fish_rule.specs.Passes.{view}
use Rattle.fish_scan.proofs.Answering.{asked_later, err_gives, memory_refused, plan_by_rows, plan_refused, plans_both}
use Rattle.fish_scan.proofs.Answering.{plans_extends, plans_settles, planned_scan_all, planned_scan_at, reach_within, read_later}
use Rattle.fish_scan.proofs.Answering.{row_found, scans_both, scans_extends, scans_settles}
use Rattle.fish_scan.proofs.Lists.{all_at}
use Rattle.fish_scan.specs.Scans.{IsUnplanned}
use Rattle.fish_scan.specs.within.Scans.{IsPlanRefused, IsQuery}
use Rattle.fish_scan.specs.declared.refusal.ScanRefusal.TheVariants as refusal
use Rattle.fish_scan.proofs.scanning.plan_scan.Goals as goal

pub returns-in_err-reach-clause-only : goal.returns-in_err-reach-clause-only
returns-in_err-reach-clause-only c = plans_both _ _ _ c.find_row.ensures.only (plans_settles _ _ c.find_reach.ensures.settles)

pub returns-in_err-reach-clause-known : goal.returns-in_err-reach-clause-known
returns-in_err-reach-clause-known c = defs_later _ _ c.find_row.new.known c.find_reach.ensures.settles.learns
    c.find_row.ensures.known

pub bounds-rows-position : goal.bounds-rows-position
bounds-rows-position c = subst (λ (z : List Listed). c.in_ok-position.position < length z) (sym c.rows.ensures)
    (slice_get_within _ _ _ c.in_ok-position.ensures.asked.named.newest.there)

pub offset_bounds-rows-position : goal.offset_bounds-rows-position
offset_bounds-rows-position c =
    let below = bounds-rows-position c in
    let few = c.rows.type_inv.1 in
    omega arith

pub find_plan-requires-clause-rows : goal.find_plan-requires-clause-rows
find_plan-requires-clause-rows c = subst IsListing (sym c.rows-2.ensures)
    (known_listing (view c.find_reach.new.pass) _ _ c.find_reach.ensures.pass.stands
    (read_later _ (view c.find_reach.new.pass) c.find_row.new.known c.find_reach.ensures.settles.learns
    c.in_ok-position.ensures.asked.named.read).rows)

-- the text of a definition that was read is canonical
pub with_query-requires : goal.with_query-requires
with_query-requires c =
    let asked = c.in_ok-position.ensures.asked in
    let listing = known_listing (view c.find_row.new.pass) _ _ c.find_row.ensures.pass.stands asked.named.read.rows in
    let row = row_found (rows_of c.find_row.new.known) c.rows.result.now c.in_ok-position.position asked.named.newest.listed
    c.index-rows-position.result c.rows.ensures asked.named.newest.there in
    subst IsCanonical (sym (c.as_bytes-text.ensures ∙ ap (λ (z : Listed). z.def) row))
    (all_at (λ (l : Listed). IsCanonical l.def) (rows_of c.find_row.new.known) c.in_ok-position.position asked.named.newest.listed
    listing.texts asked.named.newest.there)

pub returns-in-Ok-clause-only : goal.returns-in-Ok-clause-only
returns-in-Ok-clause-only c = plans_both _ _ _ c.find_row.ensures.only (plans_both _ _ _
    (plans_settles _ _ c.find_reach.ensures.settles)
    (plans_extends _ _ c.find_plan.ensures.only.extends c.find_plan.ensures.only.loads))

pub returns-in-Ok-clause-known : goal.returns-in-Ok-clause-known
returns-in-Ok-clause-known c =
    let rest = scans_both _ _ _ (scans_settles (view c.find_row.new.pass) _ c.find_reach.ensures.settles)
    (scans_extends _ (view c.find_plan.new.pass) c.find_plan.ensures.only.extends) in
    defs_later _ _ c.find_row.new.known rest.learns c.find_row.ensures.known

-- the plan is by the rows and the text that were read
pub returns-in-Ok-clause-planned : goal.returns-in-Ok-clause-planned
returns-in-Ok-clause-planned c =
    let v = view c.args.pass.now in
    let m = view c.find_row.new.pass in
    let n = view c.find_reach.new.pass in
    let t = view c.find_plan.new.pass in
    let known = c.find_row.new.known in
    let asked = c.in_ok-position.ensures.asked in
    let before = c.find_row.ensures.only.scans in
    let settles = scans_settles m n c.find_reach.ensures.settles in
    let rest = scans_extends n t c.find_plan.ensures.only.extends in
    let row = row_found (rows_of known) c.rows.result.now c.in_ok-position.position asked.named.newest.listed
    c.index-rows-position.result c.rows.ensures asked.named.newest.there in
    let text = c.as_bytes-text.ensures ∙ ap (λ (z : Listed). z.def) row in
    let reach = c.in_ok-reach.reach in
    planned_scan_all v t known c.args.ask.now reach c.in-Ok.plan c.with_query.result
    c.with_query.ensures.query c.with_query.ensures.plan (λ p query plan.
    planned_scan_at v m t known c.args.ask.now c.in_ok-position.position reach c.in-Ok.plan p asked (scans_both m n t settles rest)
    (reach_within v m n t c.args.ask.now _ reach before c.find_row.ensures.tail rest c.unwrap_or.ensures c.in_ok-reach.ensures.reach)
    (plan_by_rows v n t t (rows_of known) _ asked.named.newest.listed.def _ c.args.ask.now.how _ _ _ _ c.rows-2.ensures text
    (scans_both v m n before settles).learns (learns_self t) c.in-Ok.ensures.plan)
    (subst (λ (z : List ℕ). IsQuery z c.args.ask.now reach p.query) text query) plan)

-- only memory was wanting
pub returns-in-Ok-clause-refused : goal.returns-in-Ok-clause-refused
returns-in-Ok-clause-refused c =
    err_gives (λ e. e ≡ refusal.OutOfMemory)
    (IsUnplanned (view c.args.pass.now) (view c.find_plan.new.pass) c.find_row.new.known c.args.ask.now) c.with_query.result
    c.with_query.ensures.refused
    (memory_refused (view c.args.pass.now) (view c.find_plan.new.pass) c.find_row.new.known c.args.ask.now)

pub returns-in-Err-clause-only : goal.returns-in-Err-clause-only
returns-in-Err-clause-only c = plans_both _ _ _ c.find_row.ensures.only (plans_both _ _ _
    (plans_settles _ _ c.find_reach.ensures.settles)
    (plans_extends _ _ c.find_plan.ensures.only.extends c.find_plan.ensures.only.loads))

pub returns-in-Err-clause-known : goal.returns-in-Err-clause-known
returns-in-Err-clause-known c =
    let rest = scans_both _ _ _ (scans_settles (view c.find_row.new.pass) _ c.find_reach.ensures.settles)
    (scans_extends _ (view c.find_plan.new.pass) c.find_plan.ensures.only.extends) in
    defs_later _ _ c.find_row.new.known rest.learns c.find_row.ensures.known

-- the plan was refused for a range that was found between the two views
pub returns-in-Err-clause-refused : goal.returns-in-Err-clause-refused
unfolding asked_later
returns-in-Err-clause-refused c =
    let v = view c.args.pass.now in
    let m = view c.find_row.new.pass in
    let n = view c.find_reach.new.pass in
    let t = view c.find_plan.new.pass in
    let known = c.find_row.new.known in
    let asked = c.in_ok-position.ensures.asked in
    let before = c.find_row.ensures.only.scans in
    let settles = scans_settles m n c.find_reach.ensures.settles in
    let rest = scans_extends n t c.find_plan.ensures.only.extends in
    let row = row_found (rows_of known) c.rows.result.now c.in_ok-position.position asked.named.newest.listed
    c.index-rows-position.result c.rows.ensures asked.named.newest.there in
    let text = c.as_bytes-text.ensures ∙ ap (λ (z : Listed). z.def) row in
    let reach = c.in_ok-reach.reach in
    plan_refused v n t t known c.args.ask.now c.in_ok-position.position reach c.in-Err.refusal
    (asked_later v m t known c.args.ask.now c.in_ok-position.position (scans_both m n t settles rest) asked)
    (scans_both v m n before settles).learns (learns_self t)
    (reach_within v m n t c.args.ask.now _ reach before c.find_row.ensures.tail rest c.unwrap_or.ensures c.in_ok-reach.ensures.reach)
    (subst (λ (z : List Listed × List ℕ). IsPlanRefused n t z.0 z.1 c.args.ask.now.how reach.from reach.settled reach.to
    c.in-Err.refusal) (λ i. (c.rows-2.ensures i, text i)) c.in-Err.ensures.refused)
