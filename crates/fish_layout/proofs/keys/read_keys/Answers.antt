-- No entry of a record is unread.
use Rattle.std.proofs.Common.{◌≡◌, ◌+◌, [], ◌∷◌, ◌++◌, length, take, sym, ap, ◌∙◌, arith, length-append}
use Rattle.fish_layout.specs.Body.{IsBody, values_of}
use Rattle.fish_layout.specs.declared.parts.BodyParts.{BodyParts}
use Rattle.fish_layout.proofs.Entries.{some_element, some_same, take_more_is}
use Rattle.fish_layout.proofs.keys.read_keys.Goals as goal

pub returns-in_default-clause-keys : goal.returns-in_default-clause-keys
returns-in_default-clause-keys c p h count values =
    let key = some_element p.keys c.loop-position.position (omega arith) in
    let found = c.in_ok-key.ensures p key.0 h values (omega arith) key.1 in
    let none = c.in_default.is in
    cc

pub loop-position-preserved : goal.loop-position-preserved
loop-position-preserved c =
    let grown = c.in_ok-push.ensures.ok in
    let next : (p : BodyParts) → IsBody p c.args.words.now → c.args.count ≡ length p.keys →
    c.args.values.now ≡ values_of p.keys →
    c.push.new.self ≡ take (c.loop-position.position + 1) p.keys =
    λ p h count values.
    let key = some_element p.keys c.loop-position.position (omega arith) in
    let found = c.in_ok-key.ensures p key.0 h values (omega arith) key.1 in
    let same : c.in-Some.key ≡ key.0 = some_same (sym c.in-Some.is ∙ found) in
    grown
    ∙ ap (λ l. l ++ (c.in-Some.key ∷ [])) (c.loop-position.invariant.keys p h count values)
    ∙ ap (λ x. take c.loop-position.position p.keys ++ (x ∷ [])) same
    ∙ sym (take_more_is p.keys c.loop-position.position key.0 (omega arith) key.1) in
    record {
      keys = next;
      count = ap length grown ∙ length-append c.loop-position.keys (c.in-Some.key ∷ [])
          ∙ ap (λ n. n + 1) c.loop-position.invariant.count;
    }
