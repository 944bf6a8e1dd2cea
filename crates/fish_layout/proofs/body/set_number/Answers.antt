-- A record has a header, which says how many key entries there are, and room for them.
use Rattle.std.proofs.Common.{◌≡◌, ◌<◌, ℕ, List, length, get_or, sym, ap, ◌∙◌, subst, arith}
use Rattle.std.proofs.lemmas.List.{get_or_read}
use Rattle.fish_layout.specs.Body.{IsBody}
use Rattle.fish_layout.specs.within.Cleared.{IsNumberWord}
use Rattle.fish_layout.specs.within.Entry.{renumbered}
use Rattle.fish_layout.specs.Header.{keys_of}
use Rattle.fish_layout.specs.declared.parts.BodyParts.{BodyParts}
use Rattle.fish_layout.proofs.Numbers.{body_numbered}
use Rattle.fish_layout.proofs.Outlines.{body_length}
use Rattle.fish_layout.proofs.Sizes.{roomy, some_lines}
use Rattle.fish_layout.proofs.Spelled.{body_says}
use Rattle.fish_layout.proofs.body.set_number.Goals as goal

pub index-requires : goal.index-requires
index-requires c =
    let body = c.requires.body in
    omega (arith, body_length body.1, some_lines body.0, ap length c.body.view_is, c.body.inside.words.ok.0)

-- the number of entries that was read is a record's
keys_are : (items ws : List ℕ) (p : BodyParts) (x n : ℕ) → items ≡ ws → IsBody p ws → x ≡ get_or items 0 x →
    n ≡ keys_of x → n ≡ length p.keys
keys_are items ws p x n view h read keys =
    let some : 0 < length items = omega (arith, ap length view, body_length h, some_lines p) in
    keys ∙ ap keys_of (get_or_read items 0 x some read 0 ∙ ap (λ b. get_or b 0 0) view) ∙ (body_says h).keys

pub renumber_keys-requires-clause-room : goal.renumber_keys-requires-clause-room
renumber_keys-requires-clause-room c =
    let p = c.requires.body.0 in
    let h = c.requires.body.1 in
    let view : c.body.inside.words.items ≡ c.args.body.now = c.body.view_is in
    let keys =
    keys_are c.body.inside.words.items c.args.body.now p c.index.result.now c.keys_in-keys.result view h
    c.index.ensures c.keys_in-keys.ensures.value in
    omega (arith, ap length view, body_length h, roomy p)

pub returns : goal.returns
returns c p h =
    let view : c.body.inside.words.items ≡ c.args.body.now = c.body.view_is in
    let keys =
    keys_are c.body.inside.words.items c.args.body.now p c.index.result.now c.keys_in-keys.result view h
    c.index.ensures c.keys_in-keys.ensures.value in
    let new = c.renumber_keys.new.words.items in
    let others : (i : ℕ) → ¬ IsNumberWord (length p.keys) i → get_or new i 0 ≡ get_or c.args.body.now i 0 =
    λ i other. c.renumber_keys.ensures.others i (subst (λ n. ¬ IsNumberWord n i) (sym keys) other)
    ∙ ap (λ b. get_or b i 0) view in
    let entries : (i : ℕ) → IsNumberWord (length p.keys) i →
    get_or new i 0 ≡ renumbered (get_or c.args.body.now i 0) c.args.number =
    λ i key. c.renumber_keys.ensures.entries i (subst (λ n. IsNumberWord n i) (sym keys) key)
    ∙ ap (λ b. renumbered (get_or b i 0) c.args.number) view in
    body_numbered c.args.number new h c.requires.number (c.renumber_keys.ensures.len ∙ ap length view) others entries
