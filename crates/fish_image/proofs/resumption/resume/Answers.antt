-- The words that were left and those that came are what is left of all words.
use Rattle.std.proofs.Common.{ℕ, ◌*◌, ◌-◌, ◌<◌, List, ◌++◌, drop, length, length-drop, arith, sym, ap, ◌∙◌}
use Rattle.std.proofs.lemmas.List.{drop-append-le, take_all}
use Rattle.fish_image.specs.Steps.{HasCome}
use Rattle.fish_image.proofs.Agreement.{agrees_within}
use Rattle.fish_image.proofs.Pieces.{come_more, seen_read}
use Rattle.fish_image.proofs.resumption.resume.Goals as goal

pub advance-requires : goal.advance-requires
advance-requires c =
    let real = c.requires.real in
    let wanted = c.requires.wanted in
    let number = real.3.come.is_at.number in
    let count = real.2.count in
    record {
      commit = real.0;
      come = real.3.end;
      terms_of = real.2;
      is_at = c.in_ok-next.ensures real.0 real.3.end real.3.come.is_at;
      wanted = omega arith;
    }

pub returns : goal.returns
returns c k w terms stops =
    let wanted = c.requires.wanted in
    let number = stops.come.is_at.number in
    let count = terms.count in
    let less : stops.end.number < k.count = omega arith in
    let old = come_more k w c.args.words.now stops.end c.args.at.now stops.come in
    let come : HasCome k (w ++ c.args.words.now) stops.end c.in_ok-next.next =
    record { agrees = old.agrees; few = old.few; is_at = c.in_ok-next.ensures k stops.end old.is_at } in
    let all = c.in_ok-all.ensures ∙ ap (λ (l : List ℕ). l ++ c.args.words.now) (stops.left_is less)
    ∙ sym (drop-append-le (4 * stops.end.line) w c.args.words.now (agrees_within k w stops.end.number stops.end stops.come.agrees)) in
    let read = c.in_ok-advanced.ensures.all k (w ++ c.args.words.now) stops.end terms come (c.as_slice.ensures.value ∙ all) in
    seen_read c.in_ok-advanced.advanced.damaged k (w ++ c.args.words.now) _ c.in_ok-rest.rest.items c.advance.new.at read
    (c.in_ok-rest.ensures.items
    ∙ take_all (length c.deref.result.now - c.in_ok-advanced.advanced.used) (drop c.in_ok-advanced.advanced.used c.deref.result.now)
    (omega (arith, length-drop c.in_ok-advanced.advanced.used c.deref.result.now))
    ∙ ap (drop c.in_ok-advanced.advanced.used) (c.deref.ensures.value ∙ sym c.as_slice.ensures.value))
