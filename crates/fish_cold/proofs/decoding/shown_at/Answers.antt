-- The second word of a key entry says the number and its place, the third how long its value is.
use Rattle.std.proofs.Common.{◌∙◌, arith}
use Rattle.fish_cold.proofs.RegionHeads.{node_room, node_says}
use Rattle.fish_cold.proofs.decoding.shown_at.Goals as goal

pub returns-then-words-at-clause-shown : goal.returns-then-words-at-clause-shown
returns-then-words-at-clause-shown c line p j k h below =
    let room = (node_room c.args.words.now c.args.at line p j k h).within in
    let few = c.if-words-at.true in
    omega arith

pub returns-then-number-from-clause-shown : goal.returns-then-number-from-clause-shown
returns-then-number-from-clause-shown c line p j k h below =
    let number = (node_says c.args.words.now c.args.at line p j k h).number in
    let is = c.number_in-number.ensures.value in
    let less = c.if-number-from.true in
    omega arith

pub returns-then-number-below-clause-shown : goal.returns-then-number-below-clause-shown
returns-then-number-below-clause-shown c line p j k h below =
    let number = (node_says c.args.words.now c.args.at line p j k h).number in
    let is = c.number_in-number.ensures.value in
    let more = c.if-number-below.true in
    omega arith

pub returns-then-size_in-gt256-clause-shown : goal.returns-then-size_in-gt256-clause-shown
returns-then-size_in-gt256-clause-shown c line p j k h below =
    let size = (node_says c.args.words.now c.args.at line p j k h).size in
    let is = c.size_in.ensures.value in
    let more = c.if-size_in-gt256.true in
    omega arith

pub returns-clause-shown : goal.returns-clause-shown
returns-clause-shown c line p j k h below =
    let says = node_says c.args.words.now c.args.at line p j k h in
    let number = says.number in
    let is = c.number_in-number.ensures.value in
    let from = c.if-number-from.false in
    (omega arith, is ∙ number, c.place_in.ensures.value ∙ says.place)
