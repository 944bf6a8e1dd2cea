-- Words after damage or after all entries change nothing.
use Rattle.std.proofs.Common.{ℕ, Option, ◌++◌, arith, sym, subst}
use Rattle.fish_image.specs.Checking.{Seen}
use Rattle.fish_image.proofs.Pieces.{breaks_more, seen_more}
use Rattle.fish_image.proofs.checker.Checker.read.Goals as goal

pub returns-in-Some : goal.returns-in-Some
returns-in-Some c k w h =
    let self = c.args.self.now in
    let seen = subst (λ (o : Option ℕ). Seen o k w self.left.items self.at) c.in-Some.is h.seen in
    let more = breaks_more k w c.args.words.now c.in-Some.number seen in (
      record {
        terms = h.terms;
        seen = subst (λ (o : Option ℕ). Seen o k (w ++ c.args.words.now) self.left.items self.at) (sym c.in-Some.is) more;
      },
      more,
    )

pub returns-then-self : goal.returns-then-self
returns-then-self c k w h =
    let self = c.args.self.now in
    let count = h.terms.count in
    let all = c.if-self.true in
    record { terms = h.terms; seen = seen_more self.damaged k w c.args.words.now self.left.items self.at h.seen (omega arith) }
