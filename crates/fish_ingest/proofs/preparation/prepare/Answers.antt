-- The parts that were put together are those of the payload, and proper.
use Rattle.std.proofs.Common.{refl, sym, ap, ◌∙◌, subst}
use Rattle.fish_layout.specs.Body.{IsProper, body_words, parts_of}
use Rattle.fish_ingest.proofs.PreparationParts.{body_for, head_of, parts_proper}
use Rattle.fish_ingest.proofs.preparation.prepare.Goals as goal

-- the entries are those of the record that was read
pub body_from-requires : goal.body_from-requires
body_from-requires g c =
    subst (λ keys. IsProper (parts_of (head_of c.args.origin) keys c.args.payload.now)) (sym c.as_slice.ensures)
    (parts_proper c.requires.defs c.requires.origin c.requires.read c.in_ok-keys.ensures)

-- and so are the words, and the keys
pub returns : goal.returns
unfolding body_for
returns g c =
    let words = c.in_ok-body.ensures
    ∙ ap (λ keys. body_words (parts_of (head_of c.args.origin) keys c.args.payload.now)) c.as_slice.ensures in
    let made = body_for c.requires.defs c.requires.origin c.requires.read c.in_ok-keys.ensures words in
    (made, refl)
