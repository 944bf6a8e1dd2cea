-- At the end no id is left.
use Rattle.std.proofs.Common.{◌≡◌, ◌≤◌, [], drop, length, map, subst, sym, arith}
use Rattle.std.proofs.lemmas.List.{drop_all}
use Rattle.fish_ingest.specs.Preparation.{id_of}
use Rattle.fish_ingest.proofs.PreparationDefs.{AscendFrom, defs_ascend}
use Rattle.tests_log.proofs.payloads.are_defs.Goals as goal

-- none of them is out of order
pub returns : goal.returns
returns c holds =
    let past : length c.args.defs.now ≤ c.loop-active.active-index = omega arith in
    let none : drop c.loop-active.active-index c.args.defs.now ≡ [] =
    drop_all c.loop-active.active-index c.args.defs.now past in
    defs_ascend c.args.defs.now (let few = c.if-defs-gt-MAX_ACTIVE.false in omega arith)
    (c.loop-active.invariant (subst (λ ds. AscendFrom c.loop-active.least (map id_of ds)) (sym none) tt))
    c.requires.written
