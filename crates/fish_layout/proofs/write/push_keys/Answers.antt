-- Proper keys have ids, positions and offsets within their bits, and each turn adds the words of one entry.
use Rattle.std.proofs.Common.{ℕ, List, [], ◌∷◌, ◌++◌, length, take, ap, ◌∙◌, sym, append_assoc, arith, length-append}
use Rattle.fish_layout.specs.Body.{key_words, value_word}
use Rattle.fish_layout.proofs.Entries.{few_bytes_at, key_words-more, proper_at, values_of-more}
use Rattle.fish_layout.proofs.write.push_keys.Goals as goal

pub pack_entry-requires-clause-id : goal.pack_entry-requires-clause-id
pack_entry-requires-clause-id c =
    (proper_at 0 c.args.keys.now c.loop-position.position c.index-keys-position.result c.requires.keys (omega arith)
    c.index-keys-position.is).0

pub pack_entry-requires-clause-position : goal.pack_entry-requires-clause-position
pack_entry-requires-clause-position c = omega (arith, c.requires.few)

pub push_key-requires-clause-value : goal.push_key-requires-clause-value
push_key-requires-clause-value c =
    (proper_at 0 c.args.keys.now c.loop-position.position c.index-keys-position.result c.requires.keys (omega arith)
    c.index-keys-position.is).1

pub push_key-requires-clause-offset : goal.push_key-requires-clause-offset
push_key-requires-clause-offset c =
    omega (
      arith,
      few_bytes_at c.args.keys.now c.loop-position.position c.index-keys-position.result c.requires.few c.requires.keys
          (omega arith) c.index-keys-position.is,
    )

pub overflow_add-offset : goal.overflow_add-offset
overflow_add-offset c =
    omega (
      arith,
      few_bytes_at c.args.keys.now c.loop-position.position c.index-keys-position.result c.requires.few c.requires.keys
          (omega arith) c.index-keys-position.is,
    )

pub loop-position-preserved : goal.loop-position-preserved
loop-position-preserved c =
    let keys = c.args.keys.now in
    let key = c.index-keys-position.result in
    let more = values_of-more keys c.loop-position.position key (omega arith) c.index-keys-position.is in
    let words =
    key_words-more c.args.number keys c.loop-position.position key c.loop-position.offset c.pack_entry.result
    (omega arith) c.index-keys-position.is
    c.pack_entry.ensures c.loop-position.invariant.offset in
    let own : List ℕ = key.prev ∷ c.pack_entry.result ∷ value_word key.value c.loop-position.offset ∷ [] in
    record {
      words =
          c.in_ok-push_key.ensures
          ∙ ap (λ l. l ++ own) c.loop-position.invariant.words
          ∙ append_assoc c.args.words.now.items (key_words c.args.number 0 0 (take c.loop-position.position keys)) own
          ∙ ap (λ l. c.args.words.now.items ++ l) (sym words);
      offset = omega (arith, ap length more, simp length-append at (ap length more));
    }
