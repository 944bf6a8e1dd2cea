-- Nothing was read, and nothing is left.
use Rattle.std.proofs.Common.{List, [], refl, arith, subst}
use Rattle.fish_catalog.specs.declared.row.CatRow.{CatRow}
use Rattle.fish_image.specs.Reached.{unread}
use Rattle.fish_image.specs.Terms.{AreIndexRows}
use Rattle.fish_image.proofs.Agreement.{not_empty}
use Rattle.fish_image.proofs.checker.Checker.begin.Goals as goal

pub returns : goal.returns
returns c =
    let k = c.args.c.now in
    record {
      terms = record {
        count = refl;
        lines = refl;
        rows = subst (λ (rows : List CatRow). AreIndexRows rows c.in_ok-index_rows.field-0.items)
            c.rows.ensures.value c.in_ok-index_rows.ensures;
      };
      seen = record {
        end = unread;
        come = record { agrees = refl; few = omega arith; is_at = c.in_ok-first.ensures k refl };
        left_is = λ less. c.new-2.ensures.items;
        none = λ less m follows. not_empty k unread [] m follows refl;
      };
    }
