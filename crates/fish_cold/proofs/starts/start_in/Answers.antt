-- The start before the first that is after the page.
use Rattle.std.proofs.Common.{◌≡◌, ◌-◌, leb, leb-true, leb-false, arith, rules, ap, ◌∙◌, get_or}
use Rattle.std.specs.Prelude.{Some}
use Rattle.std.proofs.lemmas.List.Sorted.{IsPartitionPoint-from_clause, IsPartitionedBy-leb}
use Rattle.std.proofs.lemmas.Option.{get_or_from_slice_get}
use Rattle.fish_catalog.specs.declared.page_start.PageStart.{PageStart}
use Rattle.fish_layout.specs.Pages.{page_of}
use Rattle.fish_cold.proofs.StartLemmas.{behind_page, pages_rise}
use Rattle.fish_cold.proofs.starts.start_in.Goals as goal

pub returns-then-behind-eq0 : goal.returns-then-behind-eq0
returns-then-behind-eq0 c start h =
    let parted = IsPartitionedBy-leb (λ (s : PageStart). page_of s.line) c.args.starts.now c.args.page
    (pages_rise c.args.starts.now h.rise) in
    let point = IsPartitionPoint-from_clause (λ (s : PageStart). leb (page_of s.line) c.args.page) _ _
    c.partition_point-behind.ensures.partitioned parted (λ a r q k. search rules) in
    let at = behind_page c.args.starts.now c.args.page start c.partition_point-behind.result h c.partition_point-behind.ensures.bound
    (λ k d less. leb-true _ _ (point.0 k d (omega arith) less)) (λ k d from less. leb-false _ _ (point.1 k d from less)) in
    absurd (omega (arith, c.if-behind-eq0.true))

pub returns : goal.returns
returns c start h =
    let parted = IsPartitionedBy-leb (λ (s : PageStart). page_of s.line) c.args.starts.now c.args.page
    (pages_rise c.args.starts.now h.rise) in
    let point = IsPartitionPoint-from_clause (λ (s : PageStart). leb (page_of s.line) c.args.page) _ _
    c.partition_point-behind.ensures.partitioned parted (λ a r q k. search rules) in
    let at = behind_page c.args.starts.now c.args.page start c.partition_point-behind.result h c.partition_point-behind.ensures.bound
    (λ k d less. leb-true _ _ (point.0 k d (omega arith) less)) (λ k d from less. leb-false _ _ (point.1 k d from less)) in
    let place : c.partition_point-behind.result - 1 ≡ h.at = omega arith in
    ap (λ k. Some (get_or c.args.starts.now k (record { number = 0; line = 0 }))) place
    ∙ ap Some (get_or_from_slice_get c.args.starts.now h.at start _ h.there)
