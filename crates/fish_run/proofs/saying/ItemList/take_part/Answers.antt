-- The last item is of a file that may go on, or it stays.
use Rattle.std.proofs.Common.{◌≡◌, ◌++◌, ◌∷◌, ◌∙◌, List, [], ap, rules, sym, true, false}
use Rattle.fish_report.specs.declared.item.Item.{Item}
use Rattle.fish_run.proofs.SaidLemmas.{said_other, said_part}
use Rattle.fish_run.specs.Joins.{is_part, said_after}
use Rattle.fish_run.proofs.saying.ItemList.take_part.Goals as goal

pub returns-then-is_part : goal.returns-then-is_part
returns-then-is_part c = λ fresh bound items.
    let front : List Item = c.pop.new.self.items in
    let all : c.args.self.now ≡ front ++ c.in-Some.last ∷ [] = search rules in
    let is : is_part c.in-Some.last ≡ true = search rules in
    ap (λ (z : List Item). said_after fresh true z bound items) all ∙ said_part fresh front c.in-Some.last bound items is

pub returns : goal.returns
returns c = λ fresh bound items.
    let front : List Item = c.pop.new.self.items in
    let all : c.args.self.now ≡ front ++ c.in-Some.last ∷ [] = search rules in
    let pushed : c.push.new.self ≡ front ++ c.in-Some.last ∷ [] = search rules in
    let is : is_part c.in-Some.last ≡ false = search rules in
    ap (λ (z : List Item). said_after fresh true z bound items) all ∙ said_other fresh front c.in-Some.last bound items is
    ∙ ap (λ (z : List Item). z ++ (bound ++ items)) (sym pushed)
