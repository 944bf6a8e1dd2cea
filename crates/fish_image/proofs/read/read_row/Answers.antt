-- What a row's bytes say is read part by part, so nothing of a row is wanting, and what was read is the row.
use Rattle.std.proofs.Common.{◌≡◌, ℕ, ◌+◌, ◌-◌, List, Some, length, take, drop, sym, ap, subst, ◌∙◌, arith}
use Rattle.std.specs.Prelude.{IsUtf8}
use Rattle.fish_image.proofs.Spelling.{gone, name_length, name_read, row_word, text_length, text_read}
use Rattle.fish_image.proofs.read.read_row.Goals as goal

-- the bytes from a position on, as many as a byte says
cut : (b text : List ℕ) (at size n : ℕ) → n ≡ size → take size (drop at b) ≡ text → take (at + n - at) (drop at b) ≡ text
cut b text at size n same read = let e : at + n - at ≡ size = omega arith in ap (λ (k : ℕ). take k (drop at b)) e ∙ read

pub returns-in_default : goal.returns-in_default
returns-in_default c row h =
    let read = cut c.args.b.now row.name 18 (length row.name) c.from.result
    (c.from.ensures ∙ name_length row c.args.b.now h.bytes h.spellable) (name_read row c.args.b.now h.bytes h.spellable) in
    let some = c.in_ok-name.ensures.text.1 (subst IsUtf8 (sym read) h.spellable.texts.name) in
    absurd (gone c.in_ok-name.field-0 some c.in_default.is)

pub returns-in_default-2 : goal.returns-in_default-2
returns-in_default-2 c row h =
    let read = cut c.args.b.now row.def 64 (length row.def) c.from-2.result
    (c.from-2.ensures ∙ text_length row c.args.b.now h.bytes h.spellable) (text_read row c.args.b.now h.bytes h.spellable) in
    let some = c.in_ok-def.ensures.text.1 (subst IsUtf8 (sym read) h.spellable.texts.text) in
    absurd (gone c.in_ok-def.field-0 some c.in_default-2.is)

pub returns : goal.returns
returns c row h =
    let b = c.args.b.now in
    let id : c.args.id ≡ row.id = sym h.id_is in
    let name_is = rw c.in-Some.is at c.in_ok-name.ensures.value in
    let name : c.in-Some.name ≡ row.name =
    name_is ∙ cut b row.name 18 (length row.name) c.from.result (c.from.ensures ∙ name_length row b h.bytes h.spellable)
    (name_read row b h.bytes h.spellable) in
    let def_is = rw c.in-Some-2.is at c.in_ok-def.ensures.value in
    let def : c.in-Some-2.def ≡ row.def =
    def_is ∙ cut b row.def 64 (length row.def) c.from-2.result (c.from-2.ensures ∙ text_length row b h.bytes h.spellable)
    (text_read row b h.bytes h.spellable) in
    let from : c.boundary_of.result ≡ row.from =
    c.boundary_of.ensures row.from h.spellable.boundaries.0
    (c.word_at.ensures ∙ row_word row b h.bytes h.spellable 0 (omega arith)) in
    let to : c.boundary_of-2.result ≡ row.to =
    c.boundary_of-2.ensures row.to h.spellable.boundaries.1
    (c.word_at-2.ensures ∙ row_word row b h.bytes h.spellable 1 (omega arith)) in
    λ i. Some (record { id = id i; name = name i; def = def i; from = from i; to = to i })
