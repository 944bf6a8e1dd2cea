-- The record's header and the entry's third word say where the value is and how long it is; then its bytes are compared.
use Rattle.std.proofs.Common.{◌≡◌, ℕ, ◌+◌, ◌*◌, inl, inr, sym, ◌∙◌, subst, arith, length}
use Rattle.fish_chain.proofs.Comparing.{given_found, given_look, headed_on, looked, read_header, says_none, says_other}
use Rattle.fish_chain.proofs.Comparing.{says_same, third_may, value_few, value_may}
use Rattle.fish_chain.specs.within.Values.{AreBytesIn, HasBytes, IsWordIn}
use Rattle.fish_rule.proofs.laws.Learning.{extends_both, learns_self}
use Rattle.fish_rule.proofs.laws.ChainFacts.{always_later}
use Rattle.fish_rule.specs.Passes.{view}
use Rattle.fish_rule.specs.LoadSteps.{CanLookAt, CanReadWord, after_look_at}
use Rattle.fish_rule.specs.Table.{Sees}
use Rattle.fish_rule.specs.ChainFacts.{Always}
use Rattle.fish_rule.specs.declared.view.Found.{Found}
use Rattle.fish_chain.proofs.value.has_bytes.Goals.{then-kind_in-kind-via-then-kind_in-kind}
use Rattle.fish_chain.proofs.value.has_bytes.Goals.{then-kind_in-kind-via-else-kind_in-kind+then-size_in-bytes}
use Rattle.fish_chain.proofs.value.has_bytes.Goals as goal

pub look_at-requires-clause-view : goal.look_at-requires-clause-view
look_at-requires-clause-view g c =
    subst (CanLookAt (view c.args.pass.now)) (sym c.from.ensures)
    (given_look (view c.args.pass.now) c.args.node.now c.requires.pass.stands c.requires.node c.requires.counted)

pub load-header-requires-clause-read : goal.load-header-requires-clause-read
load-header-requires-clause-read g c =
    let v = view c.args.pass.now in
    let u = view c.look_at.new.pass in
    let look = c.look_at.ensures.view in
    let f = given_found v u c.args.node.now look.0 c.look_at.result
    (subst (λ (z : ℕ). u ≡ after_look_at v z look.0 c.look_at.result) c.from.ensures look.1) c.requires.node
    (subst (λ (z : ℕ). Sees v z c.look_at.result) c.from.ensures c.look_at.ensures.sees) in
    read_header u f.0 c.args.node.now.number c.line_of_word-line.result c.look_at.ensures.pass.stands f.1 f.2
    (f.3 ∙ sym c.line_of_word-line.ensures) f.4

pub load-third-requires-clause-read : goal.load-third-requires-clause-read
load-third-requires-clause-read g c =
    let t = view c.load-header.new.pass in
    let node = c.args.node.now in
    let look = c.look_at.ensures.view in
    let h = headed_on (view c.args.pass.now) (view c.look_at.new.pass) t t node c.from.result look.0 c.look_at.result
    c.line_of_word-line.result c.load-header.result c.requires.node c.from.ensures look.1 c.look_at.ensures.sees
    c.line_of_word-line.ensures c.load-header.ensures.extends.learns c.load-header.ensures.known (learns_self t) in
    subst (λ (z : ℕ). (f : Found) × CanReadWord t f (3 * z + 3) × (f.line ≡ c.line_of_word-line.result) × (f.number ≡ node.number))
    (sym c.from-2.ensures) (third_may t node c.line_of_word-line.result c.load-header.result c.load-header.ensures.pass.stands h)

pub returns-then-kind_in-kind-clause-extends : goal.returns-then-kind_in-kind-clause-extends
returns-then-kind_in-kind-clause-extends g c =
    let look = c.look_at.ensures.view in
    extends_both _ _ _ (looked (view c.args.pass.now) (view c.look_at.new.pass) _ look.0 _ look.1)
    (extends_both _ _ _ c.load-header.ensures.extends c.load-third.ensures.extends)

pub returns-then-kind_in-kind-clause-lacks : goal.returns-then-kind_in-kind-clause-lacks
returns-then-kind_in-kind-clause-lacks g c _ =
    let node = c.args.node.now in
    let third = subst (λ (z : ℕ). Always (view c.load-third.new.pass) (IsWordIn node.number (3 * z + 3) c.load-third.result))
    c.from-2.ensures c.load-third.ensures.word in
    let kind = c.kind_in.ensures in
    says_other (view c.load-third.new.pass) node.number node.key c.load-third.result c.args.kind c.args.bytes.now third
    (elim c.then-kind_in-kind.branch [
      | then-kind_in-kind-via-then-kind_in-kind w ↦ inl (λ same. w.if-kind_in-kind.true (kind ∙ same))
      | then-kind_in-kind-via-else-kind_in-kind+then-size_in-bytes w ↦
          inr (λ same. w.if-size_in-bytes.true (w.size_in.ensures.value ∙ same))
    ])

pub are_bytes-requires-clause-bytes : goal.are_bytes-requires-clause-bytes
are_bytes-requires-clause-bytes g c =
    let s = view c.load-third.new.pass in
    let node = c.args.node.now in
    let look = c.look_at.ensures.view in
    let on = c.load-third.ensures.extends.learns in
    let h = headed_on (view c.args.pass.now) (view c.look_at.new.pass) (view c.load-header.new.pass) s node c.from.result
    look.0 c.look_at.result c.line_of_word-line.result c.load-header.result c.requires.node c.from.ensures look.1
    c.look_at.ensures.sees c.line_of_word-line.ensures c.load-header.ensures.extends.learns c.load-header.ensures.known on in
    let third = subst (λ (z : ℕ). Always s (IsWordIn node.number (3 * z + 3) c.load-third.result))
    c.from-2.ensures c.load-third.ensures.word in
    subst (λ (z : ℕ × ℕ). HasBytes s node.number c.line_of_word-line.result (24 * z.0 + 8 + z.1) (length c.args.bytes.now))
    (λ i. (sym (c.from-3.ensures ∙ c.keys_in.ensures.value) i, sym c.offset_in.ensures.value i))
    (value_may s node c.line_of_word-line.result c.load-header.result c.load-third.result (length c.args.bytes.now)
    c.load-third.ensures.pass.stands h (always_later _ s _ on c.load-header.ensures.word) third
    (sym c.size_in.ensures.value ∙ c.if-size_in-bytes.false))

pub returns-clause-extends : goal.returns-clause-extends
returns-clause-extends g c =
    let look = c.look_at.ensures.view in
    extends_both _ _ _ (looked (view c.args.pass.now) (view c.look_at.new.pass) _ look.0 _ look.1)
    (extends_both _ _ _ c.load-header.ensures.extends (extends_both _ _ _ c.load-third.ensures.extends
    c.are_bytes.ensures.extends))

pub returns-clause-has : goal.returns-clause-has
returns-clause-has g c are =
    let s = view c.load-third.new.pass in
    let t = view c.are_bytes.new.pass in
    let node = c.args.node.now in
    let on = c.load-third.ensures.extends.learns in
    let last = c.are_bytes.ensures.extends.learns in
    let third = subst (λ (z : ℕ). Always s (IsWordIn node.number (3 * z + 3) c.load-third.result))
    c.from-2.ensures c.load-third.ensures.word in
    let look = c.look_at.ensures.view in
    let h = headed_on (view c.args.pass.now) (view c.look_at.new.pass) (view c.load-header.new.pass) s node c.from.result
    look.0 c.look_at.result c.line_of_word-line.result c.load-header.result c.requires.node c.from.ensures look.1
    c.look_at.ensures.sees c.line_of_word-line.ensures c.load-header.ensures.extends.learns c.load-header.ensures.known on in (
      (h.found, last.found h.found h.among, h.number, h.is),
      says_same t node.number node.key c.load-header.result c.load-third.result c.args.kind c.args.bytes.now
          (always_later s t _ last (always_later _ s _ on c.load-header.ensures.word)) (always_later s t _ last third)
          (sym c.kind_in.ensures ∙ c.if-kind_in-kind.false) (sym c.size_in.ensures.value ∙ c.if-size_in-bytes.false)
          (subst (λ (z : ℕ × ℕ). Always t (AreBytesIn node.number (24 * z.0 + 8 + z.1) c.args.bytes.now (length c.args.bytes.now)))
          (λ i. ((c.from-3.ensures ∙ c.keys_in.ensures.value) i, c.offset_in.ensures.value i)) (c.are_bytes.ensures.are are)),
    )

pub returns-clause-lacks : goal.returns-clause-lacks
returns-clause-lacks g c other =
    let s = view c.load-third.new.pass in
    let t = view c.are_bytes.new.pass in
    let node = c.args.node.now in
    let on = c.load-third.ensures.extends.learns in
    let last = c.are_bytes.ensures.extends.learns in
    let third = subst (λ (z : ℕ). Always s (IsWordIn node.number (3 * z + 3) c.load-third.result))
    c.from-2.ensures c.load-third.ensures.word in
    says_none t node.number node.key c.load-header.result c.load-third.result c.args.kind c.args.bytes.now
    (always_later s t _ last (always_later _ s _ on c.load-header.ensures.word)) (always_later s t _ last third)
    (subst (λ (z : ℕ × ℕ). Always t (λ k w. ¬ AreBytesIn node.number (24 * z.0 + 8 + z.1) c.args.bytes.now
    (length c.args.bytes.now) k w)) (λ i. ((c.from-3.ensures ∙ c.keys_in.ensures.value) i, c.offset_in.ensures.value i))
    (c.are_bytes.ensures.other other))

pub returns-clause-few : goal.returns-clause-few
returns-clause-few g c =
    let s = view c.load-third.new.pass in
    let node = c.args.node.now in
    let look = c.look_at.ensures.view in
    let on = c.load-third.ensures.extends.learns in
    let h = headed_on (view c.args.pass.now) (view c.look_at.new.pass) (view c.load-header.new.pass) s node c.from.result
    look.0 c.look_at.result c.line_of_word-line.result c.load-header.result c.requires.node c.from.ensures look.1
    c.look_at.ensures.sees c.line_of_word-line.ensures c.load-header.ensures.extends.learns c.load-header.ensures.known on in
    let third = subst (λ (z : ℕ). Always s (IsWordIn node.number (3 * z + 3) c.load-third.result))
    c.from-2.ensures c.load-third.ensures.word in
    let size = value_few s node c.line_of_word-line.result c.load-header.result c.load-third.result (length c.args.bytes.now)
    c.load-third.ensures.pass.stands h third (sym c.size_in.ensures.value ∙ c.if-size_in-bytes.false) in
    let few = c.are_bytes.ensures.few in
    let first = c.load-header.ensures.loads in
    let second = c.load-third.ensures.loads in
    omega arith
