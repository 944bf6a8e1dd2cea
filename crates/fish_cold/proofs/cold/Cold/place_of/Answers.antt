-- The start is the one that was found.
use Rattle.std.proofs.Common.{◌≡◌, ℕ, ◌-◌, ◌∙◌, sym, ap, subst, arith}
use Rattle.std.specs.Prelude.{Some}
use Rattle.std.proofs.lemmas.Option.{same_Some}
use Rattle.fish_catalog.specs.declared.page_start.PageStart.{PageStart}
use Rattle.fish_layout.specs.Pages.{page_of}
use Rattle.fish_cold.specs.Starts.{IsStartOf}
use Rattle.fish_cold.proofs.cold.Cold.place_of.Goals as goal
use Rattle.fish_cold.proofs.cold.Cold.place_of.Goals.{then-number-start-via-then-number-start}
use Rattle.fish_cold.proofs.cold.Cold.place_of.Goals.{then-number-start-via-else-number-start+then-self-start}

pub returns-in_err-start-clause-found : goal.returns-in_err-start-clause-found
returns-in_err-start-clause-found c start h older =
    let found : c.start_of.result ≡ Some start = c.start_of.ensures start
    (subst (λ s. IsStartOf s c.args.number start) (sym c.as_slice.ensures) h) in
    let none = c.in_err-start.was in
    absurd cc

pub returns-then-number-start-clause-found : goal.returns-then-number-start-clause-found
returns-then-number-start-clause-found c start h older =
    let found : c.start_of.result ≡ Some start = c.start_of.ensures start
    (subst (λ s. IsStartOf s c.args.number start) (sym c.as_slice.ensures) h) in
    let same : c.in_ok-start.start ≡ start = same_Some c.in_ok-start.start start (sym c.in_ok-start.was ∙ found) in
    let number = ap (λ (s : PageStart). s.number) same in
    let line = ap (λ (s : PageStart). s.line) same in
    let begins = h.begins in
    elim c.then-number-start.branch [
      | then-number-start-via-then-number-start w ↦ (let less = w.if-number-start.true in absurd (omega arith))
      | then-number-start-via-else-number-start+then-self-start w ↦ (let more = w.if-self-start.true in absurd (omega arith))
    ]

pub returns-clause-found : goal.returns-clause-found
returns-clause-found c start h older =
    let found : c.start_of.result ≡ Some start = c.start_of.ensures start
    (subst (λ s. IsStartOf s c.args.number start) (sym c.as_slice.ensures) h) in
    let same : c.in_ok-start.start ≡ start = same_Some c.in_ok-start.start start (sym c.in_ok-start.was ∙ found) in
    ap (λ (p : ℕ). Some (p, c.args.number - c.in_ok-start.start.number)) c.page_of.ensures
    ∙ ap (λ (s : PageStart). Some (page_of s.line, c.args.number - s.number)) same
