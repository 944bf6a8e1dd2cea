-- Eight bytes are one word more, and the last bytes are the last word.
use Rattle.std.proofs.Common.{◌≡◌, ℕ, ◌*◌, ◌/◌, ◌<◌, ◌≤◌, List, [], ◌∷◌, ◌++◌, map, drop, length, ap, ◌∙◌, sym}
use Rattle.std.proofs.Common.{append_assoc, append-nil, arith, rules}
use Rattle.std.specs.Int.{from_le_bytes}
use Rattle.std.specs.Int.Width.{w64}
use Rattle.std.proofs.lemmas.Bool.Decides.{nat_tests}
use Rattle.std.proofs.lemmas.Iterator.{YieldsList-from_slice, YieldsList-from_map}
use Rattle.std.proofs.lemmas.Iterator.Adapters.{items_from_extend}
use Rattle.std.proofs.lemmas.Result.{IfOk-at_ok}
use Rattle.std.specs.Simd.{first_chunks}
use Rattle.fish_layout.specs.Bytes.{words_of_bytes}
use Rattle.fish_layout.proofs.Bytes.{words_chunks, words_empty, words_last}
use Rattle.fish_layout.proofs.write.push_bytes.Goals as goal

pub returns-then-is_empty : goal.returns-then-is_empty
returns-then-is_empty c =
    let b = c.args.bytes.now in
    let words = c.args.words.now.items in
    let chunks : List ℕ = map (from_le_bytes w64) (first_chunks 8 (length b / 8) b) in
    let grown : c.extend.new.self.items ≡ words ++ chunks =
    (IfOk-at_ok _ c.in_ok-extend.was (items_from_extend _ c.extend.ensures.ran
    (YieldsList-from_map _ _ (YieldsList-from_slice _ cc) c.map.ensures.closure (λ x r q k. search rules)))).0 in
    let none : length c.as_chunks.result.1.now ≡ 0 = grind (arith, nat_tests) in
    let behind : c.as_chunks.result.1.now ≡ drop (length b / 8 * 8) b = c.as_chunks.ensures.back in
    grown ∙ ap (λ l. words ++ l) (sym (append-nil chunks)
    ∙ ap (λ l. chunks ++ l) (sym (words_empty c.as_chunks.result.1.now none) ∙ ap words_of_bytes behind)
    ∙ sym (words_chunks (length b / 8) b (omega arith)))

pub returns : goal.returns
returns c =
    let b = c.args.bytes.now in
    let words = c.args.words.now.items in
    let rest = c.as_chunks.result.1.now in
    let chunks : List ℕ = map (from_le_bytes w64) (first_chunks 8 (length b / 8) b) in
    let grown : c.extend.new.self.items ≡ words ++ chunks =
    (IfOk-at_ok _ c.in_ok-extend.was (items_from_extend _ c.extend.ensures.ran
    (YieldsList-from_map _ _ (YieldsList-from_slice _ cc) c.map.ensures.closure (λ x r q k. search rules)))).0 in
    let some : 0 < length rest = grind (arith, nat_tests) in
    let few : length rest ≤ 8 = (let size = c.as_chunks.ensures.back_len in omega arith) in
    c.in_ok-push.ensures.items
    ∙ ap (λ l. l ++ (c.last_word.result ∷ [])) grown
    ∙ append_assoc words chunks (c.last_word.result ∷ [])
    ∙ ap (λ l. words ++ (chunks ++ l)) (ap (λ x. x ∷ []) c.last_word.ensures ∙ sym (words_last rest some few)
    ∙ ap words_of_bytes c.as_chunks.ensures.back)
    ∙ ap (λ l. words ++ l) (sym (words_chunks (length b / 8) b (omega arith)))
