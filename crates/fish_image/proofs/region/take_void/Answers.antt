-- The reading goes on after the padding.
use Rattle.std.proofs.Common.{ℕ, refl, subst, ◌<◌, ◌+◌, ◌-◌}
use Rattle.fish_catalog.specs.declared.entry.Entry.TheVariants.{Void}
use Rattle.fish_image.specs.Reached.{reached_after}
use Rattle.fish_layout.specs.Pages.{page_of}
use Rattle.fish_image.proofs.region.take_void.Goals as goal

pub returns : goal.returns
returns c k s h =
    let line = h.line in
    let crosses : page_of s.line < page_of (s.line + c.args.lines - 1) =
    subst (λ (n : ℕ). page_of n < page_of (n + c.args.lines - 1)) line (c.crosses_page.ensures.0 c.if-not-crosses_page.false) in
    (reached_after s c.args.lines s.places Void, (crosses, refl), c.in_ok-pass.ensures k s Void h)
