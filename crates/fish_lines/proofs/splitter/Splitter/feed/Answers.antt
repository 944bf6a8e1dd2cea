-- After the start the piece's lines follow; at the start all bytes so far are taken at once.
use Rattle.std.proofs.Common.{◌≡◌, ◌==◌, List, ℕ, [], ◌∷◌, ◌++◌, true, Result, Ok, Err, sym, ap, subst, ◌∙◌, refl, length, arith}
use Rattle.std.specs.Result.{OnOk}
use Rattle.std.proofs.lemmas.Bool.{eqb-true}
use Rattle.std.proofs.lemmas.Result.{on_ok_weaker}
use Rattle.fish_lines.specs.Lines.{last_part, parts_in}
use Rattle.fish_lines.specs.Split.{HasTaken}
use Rattle.fish_lines.proofs.SplitLemmas.{HasTaken-more}
use Rattle.fish_lines.proofs.splitter.Splitter.feed.Goals as goal

-- two facts at success, joined
both : {T E P Q R : Type 0} (r : Result T E) → OnOk r P → OnOk r Q → (P → Q → R) → OnOk r R
both (Ok x) p q f = f p q
both (Err e) p q f = tt

-- a list of length 0 has nothing
empty : (l : List ℕ) → (length l == 0) ≡ true → l ≡ []
empty [] h = refl
empty (x ∷ l) h = (let none : length (x ∷ l) ≡ 0 = eqb-true (length (x ∷ l)) 0 h in absurd (omega (arith, none)))

pub returns-then-not-self-clause-fed : goal.returns-then-not-self-clause-fed
returns-then-not-self-clause-fed c =
    both c.take_piece.result c.take_piece.ensures.lines c.take_piece.ensures.rest (λ lines rest b taken h.
    let t = last_part (parts_in b) in
    let g = h.going c.requires in
    HasTaken-more c.args.self.now _ b c.args.piece.now taken h c.requires c.if-not-self.true
    c.requires c.if-not-self.true (lines t g.rest) (rest t g.rest))

pub returns-then-is_empty-clause-fed : goal.returns-then-is_empty-clause-fed
returns-then-is_empty-clause-fed c =
    on_ok_weaker c.begin.result
    (λ fed b taken h.
    let g = h.going c.requires in
    let start = c.if-not-self.false in
    let none = sym (g.held start) ∙ sym c.as_bytes.ensures
    ∙ empty c.as_bytes.result.now (sym c.is_empty.ensures ∙ c.if-is_empty.true) in
    subst (λ l. HasTaken c.begin.new.self (l ++ c.args.piece.now) taken) (sym none) (fed b taken (g.undecided start) h))
    c.begin.ensures.fed

pub returns-clause-fed : goal.returns-clause-fed
returns-clause-fed c =
    on_ok_weaker c.begin-2.result
    (λ fed b taken h.
    let g = h.going c.requires in
    let start = c.if-not-self.false in
    let whole = c.as_bytes-3.ensures ∙ c.in_ok-whole.ensures
    ∙ ap (λ l. l ++ c.args.piece.now) (c.as_bytes-2.ensures ∙ g.held start) in
    subst (λ l. HasTaken c.begin-2.new.self l taken) whole (fed b taken (g.undecided start) h))
    c.begin-2.ensures.fed
