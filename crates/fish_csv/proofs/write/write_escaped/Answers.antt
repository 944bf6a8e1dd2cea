-- Up to a quote all stands as it is, the quote twice.
use Rattle.std.proofs.Common.{◌++◌, drop, sym, ap, ◌∙◌}
use Rattle.fish_csv.proofs.Found.{escaped-found, escaped-plain}
use Rattle.fish_csv.proofs.Written.{escaped-more}
use Rattle.fish_csv.proofs.write.write_escaped.Goals as goal

pub loop-at-preserved : goal.loop-at-preserved
loop-at-preserved c =
    let quoted = escaped-found c.loop-at.rest.now c.split_at.result.0.now c.split_at-in-Some.result.1.now c.in-Some.at
    c.in-Some.ensures c.split_at.ensures.front
    (c.split_at-in-Some.ensures.back ∙ ap (drop 1) c.split_at.ensures.back) in
    escaped-more _ _ _ _ _ _ _ c.in_ok-extend_from_slice.ensures.items c.in_ok-extend_from_slice-2.ensures.items quoted c.loop-at.invariant

pub returns : goal.returns
returns c = c.in_ok-extend_from_slice-3.ensures.items
    ∙ ap (λ t. c.loop-at.out.items ++ t) (sym (escaped-plain c.loop-at.rest.now c.in_default.ensures))
    ∙ c.loop-at.invariant
