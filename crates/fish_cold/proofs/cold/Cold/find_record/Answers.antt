-- The page is that of the number's start.
use Rattle.std.proofs.Common.{◌-◌, ◌∙◌, ℕ, sym, ap, subst}
use Rattle.std.proofs.lemmas.Option.{same_Some}
use Rattle.fish_layout.specs.Pages.{page_of}
use Rattle.fish_cold.specs.Cached.{LooksAtPage}
use Rattle.fish_cold.proofs.cold.Cold.find_record.Goals as goal

pub returns-in-Some-clause-looks : goal.returns-in-Some-clause-looks
returns-in-Some-clause-looks g c start h older =
    let same = same_Some (c.in-Some.page, c.in-Some.at) (page_of start.line, c.args.number - start.number)
    (sym c.in-Some.is ∙ c.place_of.ensures.found start h older) in
    subst (λ p. LooksAtPage g.D.Disk p c.args.self.now c.record_on.new.self
    c.args.disk.now c.record_on.new.disk c.record_on.result) (ap (λ (x : ℕ × ℕ). x.0) same) c.record_on.ensures.looks
