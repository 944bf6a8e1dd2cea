-- One statement more.
use Rattle.std.proofs.Common.{◌≡◌, ◌+◌, ℕ, arith, List, [], ◌∷◌, ◌++◌, refl, sym, ap, ◌∙◌, subst, ⊎_elim}
use Rattle.std.proofs.Common.{append_assoc, append-nil, take}
use Rattle.fish_lanes.proofs.RowLists.{has_either}
pub use Rattle.fish_lanes.specs.within.Advancing.{SaysAll, shown_in}
pub use Rattle.fish_lanes.specs.within.Spans.{made_by_all}
use Rattle.fish_lanes.specs.Records.{HasNumber, LaneRow, contents_of_rows}
use Rattle.fish_lanes.specs.Seen.{Shown, shown_by}
use Rattle.fish_lanes.specs.Spans.{Span, span_after, made_by}
use Rattle.fish_lanes.specs.Telling.{SaysItem, SaysItems, StandFrom, content_of, count_of, told_to}
use Rattle.fish_lanes.specs.declared.work.Work.{Work}
use Rattle.fish_report.specs.declared.item.Item.{Item}
use Rattle.fish_rule.specs.Views.{AllOf}
use Rattle.fish_whole.specs.Whole.{Whole}

-- the block after items, by the versions that they made
abbrev pub behind_all : List Item → Span → Span
behind_all [] s = s
behind_all (x ∷ items) s = behind_all items (span_after x s)

-- they add up
pub made_append : (xs ys : List Item) → made_by_all (xs ++ ys) ≡ made_by_all xs + made_by_all ys
made_append [] ys = omega arith
made_append (x ∷ xs) ys = (let e = made_append xs ys in omega arith)

pub behind_is : (items : List Item) (s : Span) → behind_all items s ≡ record s { first = s.first + made_by_all items }
behind_is [] s = ap (λ (n : ℕ). record s { first = n }) (let e : s.first ≡ s.first + 0 = omega arith in e)
behind_is (x ∷ items) s = behind_is items (span_after x s)
    ∙ ap (λ (n : ℕ). record s { first = n })
    (let e : s.first + made_by x + made_by_all items ≡ s.first + (made_by x + made_by_all items) = omega arith in e)

-- the same of two lists of rows
stand_both : (first : ℕ) (rows more : List LaneRow) → StandFrom first rows → StandFrom first more → StandFrom first (rows ++ more)
stand_both first rows more h g n has =
    ⊎_elim (λ (m : HasNumber n rows). h n m) (λ (m : HasNumber n more). g n m) (has_either n rows more has)

-- the rows stand after all that these items tell of
abbrev pub StandAfter : List Item → List LaneRow → Type 0
StandAfter items more = AllOf (λ y. StandFrom (told_to y) more) items

-- one more after them
pub says_more : (z : Whole) (s : Span) (before : List LaneRow) (shown : List Shown) (rows more : List LaneRow)
    (works : List Work) (items : List Item) (w : Work) (x : Item)
    → SaysAll z s before shown rows works items
    → StandAfter items more → contents_of_rows more ≡ take (count_of x) (content_of w)
    → SaysItem z (behind_all items s) (before ++ rows) (shown ++ shown_in items) w x
    → SaysAll z s before shown (rows ++ more) (works ++ w ∷ []) (items ++ x ∷ [])
says_more z s before shown rows more [] [] w x none from same tells = (
  more,
  [],
  ap (λ (z : List LaneRow). z ++ more) none ∙ sym (append-nil more),
  same,
  subst (λ (p : List LaneRow × List Shown). SaysItem z s p.0 p.1 w x)
      (λ i. ((ap (λ (z : List LaneRow). before ++ z) none ∙ append-nil before) i, append-nil shown i)) tells,
  λ n has. elim has [ ],
  refl,
)
says_more z s before shown rows more [] (y ∷ items) w x none from same tells = elim none [ ]
says_more z s before shown rows more (w2 ∷ works) [] w x none from same tells = elim none [ ]
says_more z s before shown rows more (w2 ∷ works) (y ∷ items) w x (mine, rest, parts, mine_is, here, after, there) from same tells = (
  mine,
  rest ++ more,
  ap (λ (z : List LaneRow). z ++ more) parts ∙ append_assoc mine rest more,
  mine_is,
  here,
  stand_both (told_to y) rest more after from.0,
  says_more z (span_after y s) (before ++ mine) (shown ++ shown_by y) rest more works items w x there from.1 same
      (subst (λ (p : List LaneRow × List Shown). SaysItem z (behind_all items (span_after y s)) p.0 p.1 w x)
      (λ i. (
        (ap (λ (z : List LaneRow). before ++ z) parts ∙ sym (append_assoc before mine rest)) i,
        sym (append_assoc shown (shown_by y) (shown_in items)) i,
      )) tells),
)

-- with nothing after them the lane ended
pub says_ended : (z : Whole) (s : Span) (before : List LaneRow) (shown : List Shown) (rows : List LaneRow)
    (works : List Work) (items : List Item) → SaysAll z s before shown rows works items
    → SaysItems z s before shown rows works items
says_ended z s before shown rows [] [] h = h
says_ended z s before shown rows [] (x ∷ items) h = elim h [ ]
says_ended z s before shown rows (w ∷ works) [] h = elim h [ ]
says_ended z s before shown rows (w ∷ works) (x ∷ items) (mine, rest, parts, mine_is, here, after, there) = (
  mine,
  rest,
  parts,
  mine_is,
  here,
  after,
  says_ended z (span_after x s) (before ++ mine) (shown ++ shown_by x) rest works items there,
)

-- with a part of the next statement it was cut
pub says_cut : (z : Whole) (s : Span) (before : List LaneRow) (shown : List Shown) (rows more : List LaneRow)
    (works : List Work) (items : List Item) (w : Work) (later : List Work) (j : ℕ)
    → SaysAll z s before shown rows works items → StandAfter items more → contents_of_rows more ≡ take j (content_of w)
    → SaysItems z s before shown (rows ++ more) (works ++ w ∷ later) items
says_cut z s before shown rows more [] [] w later j none from part =
    (j, ap (λ (z : List LaneRow). contents_of_rows (z ++ more)) none ∙ part)
says_cut z s before shown rows more [] (y ∷ items) w later j none from part = elim none [ ]
says_cut z s before shown rows more (w2 ∷ works) [] w later j none from part = elim none [ ]
says_cut z s before shown rows more (w2 ∷ works) (y ∷ items) w later j (mine, rest, parts, mine_is, here, after, there) from part = (
  mine,
  rest ++ more,
  ap (λ (z : List LaneRow). z ++ more) parts ∙ append_assoc mine rest more,
  mine_is,
  here,
  stand_both (told_to y) rest more after from.0,
  says_cut z (span_after y s) (before ++ mine) (shown ++ shown_by y) rest more works items w later j there from.1 part,
)
