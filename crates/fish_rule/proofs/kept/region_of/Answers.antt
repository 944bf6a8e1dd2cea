-- One word more.
use Rattle.std.proofs.Common.{◌+◌, ◌∙◌, ℕ, List, map, get_or, length, sym, ap, arith, ◌++◌, ◌∷◌, []}
use Rattle.std.specs.List.{range_with_len}
use Rattle.std.proofs.lemmas.List.FromFn.{length-map-range_with_len, map-range_with_len_more}
use Rattle.core.specs.Mem.Slots.{slots_items, slots_small}
use Rattle.fish_layout.specs.Header.{lines_of}
use Rattle.fish_rule.proofs.basics.KeptWords.{at_place}
use Rattle.fish_rule.proofs.kept.region_of.Goals as goal

pub overflow_add-first : goal.overflow_add-first
overflow_add-first c =
    let small = slots_small c.args.closed.now.words in
    let head = ap lines_of (at_place (slots_items c.args.closed.now.words) c.args.first c.word.result c.word.ensures) in
    let lines = c.lines_in.ensures.value in
    let room = c.requires.room in
    let less = c.loop-offset-test.true in
    record { fits = omega arith }

pub word-requires-in-loop-offset : goal.word-requires-in-loop-offset
word-requires-in-loop-offset c =
    let head = ap lines_of (at_place (slots_items c.args.closed.now.words) c.args.first c.word.result c.word.ensures) in
    let lines = c.lines_in.ensures.value in
    let room = c.requires.room in
    let less = c.loop-offset-test.true in
    (omega arith, c.requires.full)

pub push_reserved-requires : goal.push_reserved-requires
push_reserved-requires c =
    let size = ap length c.loop-offset.invariant.read
    ∙ length-map-range_with_len (λ i. get_or (slots_items c.args.closed.now.words) (c.args.first + i) 0) 0 c.loop-offset.offset in
    let len = c.loop-offset.words.ok.0 in
    let room = c.loop-offset.invariant.room in
    let less = c.loop-offset-test.true in
    omega arith

pub loop-offset-preserved : goal.loop-offset-preserved
loop-offset-preserved c =
    let items : List ℕ = slots_items c.args.closed.now.words in
    let f : ℕ → ℕ = λ i. get_or items (c.args.first + i) 0 in
    let n : ℕ = c.loop-offset.offset in
    let word = at_place items (c.args.first + n) c.word-in-loop-offset.result c.word-in-loop-offset.ensures in
    record {
      room = c.push_reserved.ensures.capacity ∙ c.loop-offset.invariant.room;
      read = c.push_reserved.ensures.items
          ∙ (λ j. c.loop-offset.invariant.read j ++ word j ∷ [])
          ∙ sym (map-range_with_len_more f 0 n n (omega arith));
    }

pub returns : goal.returns
returns c =
    let items : List ℕ = slots_items c.args.closed.now.words in
    let head = ap lines_of (at_place items c.args.first c.word.result c.word.ensures) in
    let lines = c.lines_in.ensures.value in
    let past = c.loop-offset-test.false in
    let upto = c.loop-offset.auto.offset-end in
    c.loop-offset.invariant.read
    ∙ ap (λ (z : ℕ). map (λ i. get_or items (c.args.first + i) 0) (range_with_len 0 z)) (omega arith)
